-- What a saved grid is, so that it has bytes of its own.
use Rattle.std.specs.Prelude.{◌≡◌, ℕ, pos, ◌^◌, ◌<◌, ◌≤◌, ◌==◌, Bool, true, false, IsTrue, List, length, drop, All, FitsSigned, if◌then◌else◌, Option}
use Rattle.std.specs.Int.{w64}
use Rattle.pe_base.specs.declared.fields.Fields.{Fields}
use Rattle.pe_base.specs.declared.state.State.{State}
use Rattle.pe_base.specs.declared.state.State.TheVariants.{Unrefined, RefinementTriggered, Refining, Refined, EraseTriggered, Erasing}
use Rattle.pe_base.specs.Limits.{most_fields}
use Rattle.pe_stream.specs.declared.expect.Expect.{Expect}
use Rattle.pe_stream.specs.declared.saved.SavedVertex.{SavedVertex}
use Rattle.pe_stream.specs.declared.saved.Saved.{Saved}
use Rattle.pe_stream.specs.Ranges.{limits, range_of, IsInRanges}
use Rattle.pe_stream.specs.Layout.{stream_bytes}

-- the states between two traversals: nothing refines and nothing erases
abbrev pub is_at_rest : State → Bool
is_at_rest Unrefined = true
is_at_rest RefinementTriggered = true
is_at_rest Refining = false
is_at_rest Refined = true
is_at_rest EraseTriggered = true
is_at_rest Erasing = false

-- the numbers behind the first ones are 0
abbrev pub IsPadded : ℕ → Fields → Type 0
IsPadded count fields = All (λ z. z ≡ pos 0) (drop count fields.a)

pub record IsSavedVertex (count : ℕ) (vertex : SavedVertex) : Type 0 where
  pub state : IsTrue (is_at_rest vertex.state)
  pub fields : IsPadded count vertex.fields

-- a grid that may be saved: its header is in the limits, no state is of a traversal, numbers that have no name are 0,
-- and there are as many cells as it says, or none where they have no numbers
pub record IsSaved (s : Saved) : Type 0 where
  pub header : IsInRanges limits s
  pub globals : IsPadded s.global_fields s.globals
  pub root : IsPadded s.cell_fields s.root
  pub vertices : All (IsSavedVertex s.vertex_fields) s.vertices
  pub cells : All (IsPadded s.cell_fields) s.cells
  pub cell_count : length s.cells ≡ (if s.cell_fields == 0 then 0 else s.cell_count)

-- what holds of every payload: as many numbers as there may be, of 64 bits
pub record IsPayload (fields : Fields) : Type 0 where
  pub eight : length fields.a ≡ most_fields
  pub fit : All (FitsSigned w64) fields.a

-- what holds of every saved grid in memory
pub record IsHeld (s : Saved) : Type 0 where
  pub globals : IsPayload s.globals
  pub root : IsPayload s.root
  pub vertices : All (λ vertex. IsPayload vertex.fields) s.vertices
  pub cells : All IsPayload s.cells
  pub vertex_count : length s.vertices < 2 ^ 64
  pub cell_count : s.cell_count < 2 ^ 64

-- there are no more vertices than bytes
abbrev pub IsFew : ℕ → Saved → Type 0
IsFew bytes s = length s.vertices ≤ bytes

-- the bytes are those of a saved grid, whose header is as it is expected, or in the limits where nothing is expected
pub record Spells (expect : Option Expect) (bytes : List ℕ) (s : Saved) : Type 0 where
  pub bytes_are : bytes ≡ stream_bytes s
  pub header : IsInRanges (range_of expect) s
  pub saved : IsSaved s
  pub held : IsHeld s
