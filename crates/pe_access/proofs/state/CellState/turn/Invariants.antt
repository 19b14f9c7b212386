use Rattle.std.proofs.Common.{◌≡◌, ℕ, ◌<◌, ◌≤◌, length, false}
use Rattle.std.specs.Prelude.{slice_get, slice_index_or, Some}
use Rattle.pe_base.specs.declared.place.Place.{Place}
use Rattle.pe_base.specs.declared.way.Way.{Way}
use Rattle.pe_base.specs.Tree.Places.{IsCellPlace, IsDigits, child_at}
use Rattle.pe_access.specs.Numbers.{axis_of}
use Rattle.pe_access.specs.Faces.{extent_of}
use Rattle.pe_access.specs.States.{StandsFor, is_upwards}
use Rattle.pe_access.proofs.state.CellState.turn.Given as goal

-- the axes from the first one on, as far as the loop has come, are those of the child at the digits; the others are as they were
abbrev pub invariant-loop-axis : goal.invariant-loop-axis
invariant-loop-axis l = record {
  axes : l.child.axes ≡ l.initial.child.axes;
  way : l.child.way ≡ l.initial.child.way;
  level : l.child.level ≡ l.initial.child.level;
  long : length l.child.along ≡ length l.initial.child.along;
  made : (axes : ℕ) (way : Way) (cell : Place) → axes ≤ length l.initial.child.along → IsCellPlace axes cell → IsDigits axes l.digits → StandsFor axes way cell l.self
      → ((i : ℕ) → i < axes → slice_index_or l.ups i false ≡ is_upwards way cell l.digits i)
      → (i : ℕ) → l.first ≤ i → i < l.axis → slice_get l.child.along i ≡ Some (axis_of i (extent_of axes way (child_at cell l.digits) i));
  before : (i : ℕ) → i < l.first → slice_get l.child.along i ≡ slice_get l.initial.child.along i;
  behind : (i : ℕ) → l.axis ≤ i → slice_get l.child.along i ≡ slice_get l.initial.child.along i;
}
