-- The first corners are there.
use Rattle.std.proofs.Common.{◌≡◌, map}
use Rattle.std.specs.List.{range_with_len}
use Rattle.pe_base.specs.Tree.Places.{corner}
use Rattle.walk_rows.proofs.plain.touches.corner_touches.Given as goal

abbrev pub invariant-loop-k : goal.invariant-loop-k
invariant-loop-k l = l.out.items ≡ map (λ k. record { vertex = corner l.setting.dim l.cell k; cell = l.cell }) (range_with_len 0 l.k)
