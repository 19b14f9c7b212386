-- What the store of a corner leaves of the working state, before the family of its parent is put back.
use Rattle.std.proofs.Common.{◌≡◌, ◌≢◌, ℕ, ◌^◌, ◌<◌, ◌≤◌, Bool, true, false, not, ◌&&◌, ◌==◌, ◌∷◌, length, Option, Some, None, refl, ap, ap₂, ◌∙◌}
use Rattle.std.specs.Prelude.{is_some, if◌then◌else◌}
use Rattle.std.specs.Option.{unwrap_or}
use Rattle.std.proofs.lemmas.Bool.{ne_eqb}
use Rattle.pe_base.specs.declared.place.Place.{Place}
use Rattle.pe_base.specs.declared.kind.Kind.{Kind}
use Rattle.pe_base.specs.declared.kind.Kind.TheVariants.{Kept, Born, Dying, Hanging}
use Rattle.pe_base.specs.declared.tally.Tally.{Tally}
use Rattle.pe_base.specs.Tree.Places.{corner, is_same}
use Rattle.pe_base.specs.Life.Kinds.{is_hanging}
use Rattle.pe_base.specs.Acts.Effects.{VertexRecord}
use Rattle.pe_base.specs.Walk.Maps.{at, at_corner}
use Rattle.pe_base.specs.Walk.Core.{Setting}
use Rattle.pe_base.specs.Walk.Working.{Working, no_vertex, vertex_at, record_at}
use Rattle.pe_base.specs.Walk.Touches.{put_stored}
use Rattle.pe_base.proofs.Steps.VertexTouches.{is_same_itself}
use Rattle.pe_base.proofs.Walk.MapLaws.{found-changed, at-put, at-removed}
use Rattle.pe_base.proofs.Walk.Slots.{is_hung}
use Rattle.pe_base.proofs.Walk.CellCorners.{corners_apart}
use Rattle.pe_walk.proofs.Simulation.Levels.{levels_differ}
use Rattle.pe_walk.proofs.Simulation.Stores.OnStacks.{IsOther}

-- a corner that hangs is no longer there; one that counts is left, or is gone
pub record Leaves (axes : ℕ) (cell : Place) (k : ℕ) (counts : Bool) (left : Option VertexRecord) (w after : Working) : Type 0 where
  pub vertices : (q : Place) → IsOther counts (corner axes cell k) q → at after.vertices q ≡ at w.vertices q
  pub vertex : counts ≡ true → at after.vertices (corner axes cell k) ≡ left
  pub hung : (x : Place) (j : ℕ) → is_hung after x j ≡ (if not counts && (k == j && is_same cell x) then false else is_hung w x j)
  pub corners : (j : ℕ) → j < 2 ^ axes → k ≢ j → record_at axes after cell j ≡ record_at axes w cell j
  pub cells : after.cells ≡ w.cells
  pub loads : after.loads ≡ w.loads

-- hanging vertices of cells of other levels are as they were
pub leaves-hung : (axes : ℕ) (cell : Place) (k : ℕ) (counts : Bool) (left : Option VertexRecord) (w after : Working) → Leaves axes cell k counts left w after → (x : Place) (j : ℕ) → cell.level ≢ x.level → is_hung after x j ≡ is_hung w x j
leaves-hung axes cell k counts left w after it x j other =
    it.hung x j ∙ ap (λ b. if not counts && (k == j && b) then false else is_hung w x j) (levels_differ cell x other) ∙ never (not counts) (k == j) (is_hung w x j)
  where
    never : (a b c : Bool) → (if a && (b && false) then false else c) ≡ c
    never true true c = refl
    never true false c = refl
    never false b c = refl

none_if : {X : Type 0} (b : Bool) (o : Option X) → is_some (if b then None else o) ≡ (if b then false else is_some o)
none_if true o = refl
none_if false o = refl

module _ {Plan : Type 0} (set : Setting Plan) (cell : Place) (k : ℕ) (w : Working) (long : set.axes ≤ length cell.pos) (below : k < 2 ^ set.axes) where
  -- a hanging corner is removed
  leaves-hanging : (left : Option VertexRecord) → Leaves set.axes cell k false left w (put_stored set Hanging cell k left w)
  leaves-hanging left = record {
    vertices = λ q other. refl;
    vertex = λ c. absurd cc;
    hung = λ x j. ap is_some (found-changed w.hanging k (cell.level ∷ cell.pos) None j (x.level ∷ x.pos)) ∙ none_if (k == j && is_same cell x) (at_corner w.hanging x j);
    corners = λ j small other.
        ap (λ hanging. unwrap_or hanging (vertex_at w (corner set.axes cell j)))
        (found-changed w.hanging k (cell.level ∷ cell.pos) None j (cell.level ∷ cell.pos) ∙ ap (λ b. if b && is_same cell cell then None else at_corner w.hanging cell j) (ne_eqb k j other));
    cells = refl;
    loads = refl;
  }

  -- the map of vertices has something else, or nothing, at a corner
  leaves-changed : (left : Option VertexRecord) (after : Working) → ((q : Place) → at after.vertices q ≡ (if is_same (corner set.axes cell k) q then left else at w.vertices q))
      → after.hanging ≡ w.hanging → after.cells ≡ w.cells → after.loads ≡ w.loads → Leaves set.axes cell k true left w after
  leaves-changed left after changed hanging cells loads = record {
    vertices = λ q other. elsewhere q (other refl);
    vertex = λ c. changed vertex ∙ ap (λ b. if b then left else at w.vertices vertex) (is_same_itself vertex);
    hung = λ x j. ap (λ m. is_some (at_corner m x j)) hanging;
    corners = λ j small other. ap₂ (λ m found. unwrap_or (at_corner m cell j) (unwrap_or found no_vertex)) hanging (elsewhere (corner set.axes cell j) (corners_apart set.axes cell k j long below small other));
    cells = cells;
    loads = loads;
  }
    where
      vertex : Place
      vertex = corner set.axes cell k

      elsewhere : (q : Place) → is_same (corner set.axes cell k) q ≡ false → at after.vertices q ≡ at w.vertices q
      elsewhere q e = changed q ∙ ap (λ b. if b then left else at w.vertices q) e

  by_kind : (kind : Kind) (counts : Bool) (left : Option VertexRecord) → counts ≡ not (is_hanging kind) → Leaves set.axes cell k counts left w (put_stored set kind cell k left w)
  by_kind Hanging true left e = absurd cc
  by_kind Hanging false left e = leaves-hanging left
  by_kind Kept false left e = absurd cc
  by_kind Born false left e = absurd cc
  by_kind Dying false left e = absurd cc
  by_kind Kept true None e = leaves-changed None (put_stored set Kept cell k None w) (at-removed w.vertices (corner set.axes cell k)) refl refl refl
  by_kind Born true None e = leaves-changed None (put_stored set Born cell k None w) (at-removed w.vertices (corner set.axes cell k)) refl refl refl
  by_kind Dying true None e = leaves-changed None (put_stored set Dying cell k None w) (at-removed w.vertices (corner set.axes cell k)) refl refl refl
  by_kind Kept true (Some it) e = leaves-changed (Some it) (put_stored set Kept cell k (Some it) w) (λ q. at-put w.vertices (corner set.axes cell k) q it) refl refl refl
  by_kind Born true (Some it) e = leaves-changed (Some it) (put_stored set Born cell k (Some it) w) (λ q. at-put w.vertices (corner set.axes cell k) q it) refl refl refl
  by_kind Dying true (Some it) e = leaves-changed (Some it) (put_stored set Dying cell k (Some it) w) (λ q. at-put w.vertices (corner set.axes cell k) q it) refl refl refl

-- whatever is counted, which a store does not change
pub leaves : {Plan : Type 0} (set : Setting Plan) (cell : Place) (k : ℕ) (w : Working) (tally : Tally) (kind : Kind) (counts : Bool) (left : Option VertexRecord) → set.axes ≤ length cell.pos → k < 2 ^ set.axes → counts ≡ not (is_hanging kind)
    → Leaves set.axes cell k counts left w (put_stored set kind cell k left (record w { tally = tally }))
leaves set cell k w tally kind counts left long below e =
    let it = by_kind set cell k (record w { tally = tally }) long below kind counts left e in
    record { vertices = it.vertices; vertex = it.vertex; hung = it.hung; corners = it.corners; cells = it.cells; loads = it.loads }

pub tally-put_stored : {Plan : Type 0} (set : Setting Plan) (kind : Kind) (cell : Place) (k : ℕ) (left : Option VertexRecord) (w : Working) → (put_stored set kind cell k left w).tally ≡ w.tally
tally-put_stored set Hanging cell k left w = refl
tally-put_stored set Kept cell k None w = refl
tally-put_stored set Kept cell k (Some it) w = refl
tally-put_stored set Born cell k None w = refl
tally-put_stored set Born cell k (Some it) w = refl
tally-put_stored set Dying cell k None w = refl
tally-put_stored set Dying cell k (Some it) w = refl
