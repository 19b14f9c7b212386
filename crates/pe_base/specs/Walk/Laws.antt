-- Laws that the definitions of the walk owe: what the walk over stacks rests on of effects, of the state table and of the
-- working state.
use Rattle.std.specs.Prelude.{◌≡◌, ℕ, ◌^◌, ◌≤◌, ◌<◌, true, length, Some, None, if◌then◌else◌}
use Rattle.std.specs.List.{AllByRecursion}
use Rattle.pe_base.specs.declared.place.Place.{Place}
use Rattle.pe_base.specs.declared.state.State.{State}
use Rattle.pe_base.specs.declared.kind.Kind.{Kind}
use Rattle.pe_base.specs.declared.kind.Kind.TheVariants.{Kept, Dying}
use Rattle.pe_base.specs.Tree.Dim.{IsDim}
use Rattle.pe_base.specs.Tree.Places.{IsPosition, corner, parent_of, is_same}
use Rattle.pe_base.specs.Life.States.{is_old, is_new, is_stored}
use Rattle.pe_base.specs.Life.Table.{first_touch, last_touch, is_settled}
use Rattle.pe_base.specs.Life.Carriers.{carriers}
use Rattle.pe_base.specs.Acts.Effects.{MayBecome}
use Rattle.pe_base.specs.Walk.Maps.{Map, at, put, removed}
use Rattle.pe_base.specs.Walk.Core.{Family, Own}
use Rattle.pe_base.specs.Walk.Working.{Working, family_of, put_family, own_of, put_own}

-- Maps: what is put under a place is found there, and all else as before.
abbrev pub PutIsFound : Type 0 → Type 0
PutIsFound X = (m : Map X) (p q : Place) (v : X) → at (put m p v) q ≡ (if is_same p q then Some v else at m q)

abbrev pub RemovedIsGone : Type 0 → Type 0
RemovedIsGone X = (m : Map X) (p q : Place) → at (removed m p) q ≡ (if is_same p q then None else at m q)

-- All that one event sees lies at different places, so that it is read as it was written.
abbrev pub FamilyIsRead : Type 0
FamilyIsRead = (axes : ℕ) (parent : Place) (family : Family) (w : Working) → axes ≤ length parent.pos → length family.parents ≡ 2 ^ axes
    → family_of axes (put_family axes parent family w) parent ≡ family

abbrev pub OwnIsRead : Type 0
OwnIsRead = (axes : ℕ) (cell : Place) (own : Own) (w : Working) → axes ≤ length cell.pos → length own.corners ≡ 2 ^ axes
    → own_of axes (put_own axes cell own w) cell ≡ own

-- a vertex is a corner of a cell
abbrev pub IsCornerOf : ℕ → Place → Place → Type 0
IsCornerOf axes cell vertex = (k : ℕ) × (k < 2 ^ axes) × (vertex ≡ corner axes cell k)

-- The carriers of a corner of a cell are corners of the cell's parent.
abbrev pub CarriersAreParents : Type 0
CarriersAreParents = (axes : ℕ) (cell : Place) (k : ℕ) → IsDim axes → k < 2 ^ axes → IsPosition axes (3 ^ cell.level) cell.pos
    → AllByRecursion (IsCornerOf axes (parent_of cell)) (carriers (corner axes cell k))

-- two states are alike as far as old and new go
pub record HaveOneAge (before after : State) : Type 0 where
  pub old : is_old after ≡ is_old before
  pub new : is_new after ≡ is_new before

-- An event changes neither old nor new.
abbrev pub KeepsAges : Type 0
KeepsAges = (greatest level : ℕ) (kind : Kind) (before after : State) → MayBecome greatest level kind before after → HaveOneAge before after

-- The first touch of a vertex that is stored keeps old, and its last touch turns new into old and leaves nothing refining
-- or erasing. No more is rested on the state table.
abbrev pub FirstTouchKeepsOld : Type 0
FirstTouchKeepsOld = (state : State) → is_settled state ≡ true
    → (is_old (first_touch state Kept) ≡ is_old state) × (is_old (first_touch state Dying) ≡ is_old state)

abbrev pub LastTouchSettles : Type 0
LastTouchSettles = (state : State) (kind : Kind) → is_stored kind ≡ true
    → (is_old (last_touch state kind) ≡ is_new state) × (is_settled (last_touch state kind) ≡ true)
