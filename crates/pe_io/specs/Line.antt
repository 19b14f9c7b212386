-- What is left in a line that is being built, and what may be added to it.
use Rattle.std.specs.Prelude.{◌≡◌, ℕ, ◌+◌, ◌<◌, List, length}
use Rattle.pe_base.specs.Calls.Told.{line_feeds}

-- this many bytes more fit, and a line feed
abbrev pub HasRoom : List ℕ → ℕ → Type 0
HasRoom line more = length line + more < 320

-- none of these bytes is a line feed
abbrev pub HasNoFeed : List ℕ → Type 0
HasNoFeed bytes = line_feeds bytes ≡ 0
