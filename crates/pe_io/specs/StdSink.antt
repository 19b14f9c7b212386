-- What contracts see of a sink over a writer.
use Rattle.std.specs.Prelude.{ℕ, List, take, Option}
use Rattle.std.specs.Io.KnownBytes.{Appends}

-- the writer, how many pieces it was given, and how often it failed
pub record Output (W : Type 0) : Type 0 where
  pub writer : W
  pub writes : ℕ
  pub faults : ℕ

-- what a writer holds, where that is known, gets the first of these bytes at its end
abbrev pub AppendsPart : Option (List ℕ) → Option (List ℕ) → List ℕ → Type 0
AppendsPart old new bytes = (n : ℕ) × Appends old new (take n bytes)
