use Rattle.std.proofs.Common.{◌≡◌, drop, map, length, IsTrue}
use Rattle.std.specs.List.{list_all}
use Rattle.pe_check.specs.Fits.{expr_fits}
use Rattle.pe_check.specs.Resolving.{reach_in}
use Rattle.pe_check.specs.Scopes.{context_of}
use Rattle.pe_check.specs.Checking.{expr_of, all_of}
use Rattle.pe_check.proofs.Gathering.{gathered}
use Rattle.pe_check.proofs.bodies.check_values.Given as goal

-- the values so far, with those that are left, are all values
abbrev pub invariant-loop-value : goal.invariant-loop-value
invariant-loop-value l = record {
  went : gathered (expr_of (context_of l.scope)) l.checked.items (drop l.value-index l.values) ≡ all_of (map (expr_of (context_of l.scope)) l.values);
  fits : IsTrue (list_all (expr_fits (reach_in (context_of l.scope))) l.checked.items);
  count : length l.checked.items ≡ l.value-index;
}
