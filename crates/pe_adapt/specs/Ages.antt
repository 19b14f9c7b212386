-- Which corners of a cell are old and new, in one number.
use Rattle.std.specs.Prelude.{◌≡◌, ℕ, false, ◌<◌, ◌≤◌, ◌^◌, List, slice_get}
use Rattle.std.specs.Option.{option_map}
use Rattle.pe_base.specs.declared.place.Place.{Place}
use Rattle.pe_base.specs.Tree.Places.{corner, parent_of, IsInside}
use Rattle.pe_base.specs.declared.kind.Kind.{Kind}
use Rattle.pe_base.specs.declared.kind.Kind.TheVariants.{Hanging}
use Rattle.pe_base.specs.Life.States.{is_old, is_new}
use Rattle.pe_base.specs.Life.Kinds.{kind_from, is_inside}
use Rattle.pe_base.specs.Life.Carriers.{passes, kind_by}
use Rattle.pe_base.specs.Acts.Effects.{VertexRecord}
use Rattle.pe_states.specs.Ages.{is_old_at, is_new_at}
use Rattle.pe_adapt.specs.Touches.{state_in_hand}

-- the ages of corners in hand, and no others
pub record AreAgesOf (axes : ℕ) (its : List VertexRecord) (ages : ℕ) : Type 0 where
  pub old : (k : ℕ) → k < 2 ^ axes → is_old_at ages k ≡ passes is_old (option_map (λ it. it.state) (slice_get its k))
  pub new : (k : ℕ) → k < 2 ^ axes → is_new_at ages k ≡ passes is_new (option_map (λ it. it.state) (slice_get its k))
  pub old_rest : (k : ℕ) → 2 ^ axes ≤ k → k < 16 → is_old_at ages k ≡ false
  pub new_rest : (k : ℕ) → 2 ^ axes ≤ k → k < 16 → is_new_at ages k ≡ false

-- ages that give the kinds of a cell's corners, by its parent's corners in hand
abbrev pub GiveKinds : ℕ → ℕ → Place → List VertexRecord → ℕ → Type 0
GiveKinds axes traversal cell parents ages =
    (k : ℕ) → k < 2 ^ axes
    → kind_from (is_old_at ages k) (is_new_at ages k) ≡ kind_by axes traversal (state_in_hand (parent_of cell) parents) (corner axes cell k)

-- a vertex that counts lies inside the root cube
pub record IsPlaced (axes : ℕ) (kind : Kind) (vertex : Place) : Type 0 where
  pub inside : (kind ≡ Hanging → ⊥) → IsInside axes vertex

-- no corner of a cell that lies on the root's boundary is old or new
pub record IsQuiet (axes : ℕ) (cell : Place) (its : List VertexRecord) : Type 0 where
  pub old : (k : ℕ) → k < 2 ^ axes → is_inside axes (corner axes cell k) ≡ false → passes is_old (option_map (λ it. it.state) (slice_get its k)) ≡ false
  pub new : (k : ℕ) → k < 2 ^ axes → is_inside axes (corner axes cell k) ≡ false → passes is_new (option_map (λ it. it.state) (slice_get its k)) ≡ false
