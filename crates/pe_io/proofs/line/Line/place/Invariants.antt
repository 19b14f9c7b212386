use Rattle.std.proofs.Common.{◌≡◌, ◌+◌, ◌*◌, ◌≤◌, ◌∷◌, ◌++◌, length, take, map, decimal}
use Rattle.std.specs.List.{flat_map}
use Rattle.pe_io.proofs.line.Line.place.Given as goal

-- the level, and the position on the axes so far
abbrev pub invariant-loop-axis : goal.invariant-loop-axis
invariant-loop-axis l =
    (l.self ≡ l.fn.self ++ flat_map (λ part. 32 ∷ part) (decimal l.place.level ∷ map decimal (take l.axis l.place.pos)))
    × (length l.self ≤ length l.fn.self + 21 * (l.axis + 1))
