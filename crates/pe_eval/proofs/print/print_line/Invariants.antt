use Rattle.std.proofs.Common.{◌≡◌, ◌≤◌, ◌+◌, ◌*◌, drop, length}
use Rattle.pe_eval.specs.Values.{values_of, with_values}
use Rattle.pe_eval.specs.Meaning.{print_start}
use Rattle.pe_eval.specs.Sights.{situation}
use Rattle.pe_eval.proofs.Prints.{line_with}
use Rattle.pe_eval.proofs.print.print_line.Given as goal

-- the values that are left end the line as all values do, and each takes at most 21 bytes
abbrev pub invariant-loop-expr : goal.invariant-loop-expr
invariant-loop-expr l = record {
  values : line_with l.line (drop l.expr-index l.values) (situation l.view) ≡ with_values print_start (values_of l.values (situation l.view));
  room : length l.line ≤ 5 + 21 * l.expr-index;
}
