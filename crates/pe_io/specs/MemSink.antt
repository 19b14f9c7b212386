-- What contracts see of a sink in memory.
use Rattle.std.specs.Prelude.{ℕ, ◌+◌, ◌<◌, List, ◌⊎◌, length}
use Rattle.pe_io.specs.Numbers.{IsNextListed}

-- its text, how long that may become, the numbers of the writes that are to fail, how many writes were made, and how many of them failed
pub record Written : Type 0 where
  pub text : List ℕ
  pub room : ℕ
  pub failing : List ℕ
  pub writes : ℕ
  pub faults : ℕ

-- the text would become longer than the room
abbrev pub PassesRoom : Written → List ℕ → Type 0
PassesRoom sink bytes = sink.room < length sink.text + length bytes

-- a write of these bytes fails: there are some, and the write is listed or passes the room
abbrev pub FailsAt : Written → List ℕ → Type 0
FailsAt sink bytes = (0 < length bytes) × (IsNextListed sink.failing sink.writes ⊎ PassesRoom sink bytes)
