-- No step so far is the one, so it is among those that are left, if there is one.
use Rattle.std.proofs.Common.{◌≡◌, ◌-◌, ◌&&◌, drop}
use Rattle.std.specs.List.{list_any}
use Rattle.pe_base.specs.Steps.Around.{steps}
use Rattle.pe_base.specs.Tree.Places.{is_same}
use Rattle.walk_rows.proofs.plain.cells.has_step.Given as goal

abbrev pub invariant-loop-i : goal.invariant-loop-i
invariant-loop-i l = list_any (λ step. is_same step.0 l.a && is_same step.1 l.b) (steps l.cells) ≡ list_any (λ step. is_same step.0 l.a && is_same step.1 l.b) (steps (drop (l.i - 1) l.cells))
