-- Payloads: eight signed numbers.
use Rattle.std.specs.Prelude.{ℤ, pos, List, replicate}

-- what a record has when it is made
abbrev pub zeros : List ℤ
zeros = replicate 8 (pos 0)
