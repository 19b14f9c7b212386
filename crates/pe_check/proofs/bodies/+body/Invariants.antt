use Rattle.std.proofs.Common.{◌≡◌, drop, map, IsTrue}
use Rattle.pe_check.specs.Fits.{fits}
use Rattle.pe_check.specs.Resolving.{reach_in}
use Rattle.pe_check.specs.Scopes.{context_of}
use Rattle.pe_check.specs.Checking.{all_of}
use Rattle.pe_check.proofs.Gathering.{gathered}
use Rattle.pe_check.proofs.Trees.{checked_stmt}
use Rattle.pe_check.proofs.bodies.+body.Given as goal

-- the statements so far, with those that are left, are all statements
abbrev pub invariant-check_body-loop-stmt : goal.invariant-check_body-loop-stmt
invariant-check_body-loop-stmt l = record {
  went : gathered (checked_stmt (context_of l.scope)) l.checked.items (drop l.stmt-index l.body) ≡ all_of (map (checked_stmt (context_of l.scope)) l.body);
  fits : IsTrue (fits (reach_in (context_of l.scope)) l.checked.items);
}
