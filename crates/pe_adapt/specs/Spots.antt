-- Where a corner is loaded or stored.
use Rattle.std.specs.Prelude.{◌≡◌, ℕ, ℤ, ◌≤◌, ◌<◌, ◌^◌, ◌⊎◌, List, Option, Some, None}
use Rattle.pe_base.specs.declared.kind.Kind.{Kind}
use Rattle.pe_base.specs.declared.kind.Kind.TheVariants.{Born, Hanging}
use Rattle.pe_base.specs.Tree.Places.{IsCellPlace, IsDigits, child_at, parent_of}
use Rattle.pe_stacks.specs.declared.record.Vertex.{Vertex}
use Rattle.pe_stacks.specs.declared.record.CellRec.{CellRec}
use Rattle.pe_stacks.specs.Corners.{CornerList}
use Rattle.pe_stacks.specs.Holdings.{Holdings}
use Rattle.pe_stacks.specs.Sights.{Numbers}
use Rattle.pe_base.specs.Acts.Moments.{IsTraversal}
use Rattle.pe_hang.specs.InHand.{vertices_on_stacks, family_in_hand}
use Rattle.pe_adapt.specs.declared.spot.Spot.{Spot}
use Rattle.pe_adapt.specs.Touches.{Desk}

-- a corner of a cell below the root, in a traversal
pub record IsSpot (axes : ℕ) (spot : Spot) : Type 0 where
  pub traversal : IsTraversal spot.traversal
  pub cell : IsCellPlace axes spot.cell
  pub deep : 1 ≤ spot.cell.level
  pub digits : IsDigits axes spot.digits
  pub child : spot.cell ≡ child_at (parent_of spot.cell) spot.digits
  pub corner : spot.corner < 2 ^ axes

-- one of the streams is the input, and the other the output
abbrev pub AreStreams : Spot → Type 0
AreStreams spot = (spot.input ≡ 8) × (spot.output ≡ 9) ⊎ (spot.input ≡ 9) × (spot.output ≡ 8)

-- the vertices on their stacks, and what is in hand
abbrev pub desk_in_hand : {V C : Type 0} → Numbers V C → Holdings (Vertex V) → CornerList (Vertex V) → CellRec C → List ℤ → Desk
desk_in_hand numbers held parents parent list = record {
  vertices = vertices_on_stacks numbers held;
  family = family_in_hand numbers parents parent list;
}

-- the stack from which a corner of a kind is popped, if it is
abbrev pub source_of : ℕ → Kind → Option ℕ → Option ℕ
source_of input Hanging from = None
source_of input Born None = None
source_of input kind None = Some input
source_of input kind (Some s) = Some s
