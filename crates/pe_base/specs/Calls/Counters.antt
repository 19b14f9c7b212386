-- Counts of 64 bits that stay at their last value.
use Rattle.std.specs.Prelude.{◌≡◌, ℕ, ◌+◌, ◌-◌, ◌^◌, ◌<◌, min, ◌⊎◌}

-- the last value of a count
abbrev pub last_count : ℕ
last_count = 2 ^ 64 - 1

-- a count goes up by one, unless it stands at its last value
abbrev pub CountsOne : ℕ → ℕ → Type 0
CountsOne old new = new ≡ min (old + 1) last_count

-- a count rose, or stands at its last value
abbrev pub Rises : ℕ → ℕ → Type 0
Rises old new = (old < new) ⊎ (new ≡ last_count)
