use Rattle.std.proofs.Common.{◌≡◌, drop, map, IsTrue}
use Rattle.std.specs.List.{list_all}
use Rattle.pe_check.specs.Fits.{expr_fits}
use Rattle.pe_check.specs.Resolving.{reach_in}
use Rattle.pe_check.specs.Scopes.{context_of}
use Rattle.pe_check.specs.Checking.{all_of}
use Rattle.pe_check.proofs.Gathering.{gathered}
use Rattle.pe_check.proofs.Trees.{checked_link}
use Rattle.pe_check.proofs.bodies.+check_expr.Given as goal

-- the links so far, with those that are left, are all links
abbrev pub invariant-loop-sign : goal.invariant-loop-sign
invariant-loop-sign l = record {
  went : gathered (checked_link (context_of l.scope)) l.checked.items (drop l.sign-index l.sign-items) ≡ all_of (map (checked_link (context_of l.scope)) l.sign-items);
  fits : IsTrue (list_all (λ link. expr_fits (reach_in (context_of l.scope)) link.1) l.checked.items);
  kept : l.first ≡ l.initial.first;
}
