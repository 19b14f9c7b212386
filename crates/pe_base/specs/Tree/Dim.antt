-- How many axes a grid may have.
use Rattle.std.specs.Prelude.{ℕ, ◌≤◌}

-- from two to four
abbrev pub IsDim : ℕ → Type 0
IsDim axes = (2 ≤ axes) × (axes ≤ 4)
