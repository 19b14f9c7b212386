-- The laws, from the lemmas on lists of faces.
use Rattle.std.proofs.Common.{◌≡◌, ℕ, zero, suc, ◌+◌, ◌-◌, ◌^◌, ◌<◌, ◌≤◌, Bool, List, [], ◌∷◌, length, slice_index, refl, sym, ap, ◌∙◌, subst, length-set, ◌⊎◌, inl, inr, slice_set, arith}
use Rattle.pe_base.specs.declared.place.Place.{Place}
use Rattle.pe_base.specs.declared.way.Way.{Way}
use Rattle.pe_base.specs.Tree.Ways.{opposite}
use Rattle.pe_base.specs.Steps.Faces.{across, arriving, leaving, facing, ShareFace}
use Rattle.pe_base.proofs.Faces.FaceLists.{face_of, across-up, leaving-up, leaving-down, leaving_is}
use Rattle.pe_base.specs.Tree.Places.{bits}
use Rattle.pe_base.proofs.Tree.Corners.{bits_in}
use Rattle.pe_base.proofs.Faces.Bridge.{on_grid, one_across, one_across_out, come_by_faces, go_by_faces}
use Rattle.pe_base.proofs.Faces.Composition.{composes, composes_any, Stretches-join, Stretches-split}
use Rattle.pe_base.proofs.Steps.VertexTouches.{steps_to_cells, steps_from_cells, loaded_for_around, stored_for_around, stand_together}
use Rattle.pe_base.specs.Tree.Curve.{order}
use Rattle.pe_base.proofs.Tree.Ranks.{rank_of, top, order_rises}
use Rattle.pe_base.proofs.Faces.Quiet.{Still, arriving_none, leaving_none}
use Rattle.pe_order.proofs.Outside.{before_rises, NoneAcross, outside_arriving, outside_leaving}
use Rattle.pe_order.proofs.Trees.{root_is_cell, child_is_cell, place_is_cell, cell_position}
use Rattle.pe_order.proofs.Steps.{inside_on_grid, step_crosses, step_in_corners, in_corners_only, out_corners_only}
use Rattle.pe_order.specs.Laws.{CellsOfTheTree, NeighboursAgree, FacesAreOneWay, Composition, BeneathUntouched, TouchedInOrder, StandTogether, CornersCrossOnce, CornersOnStacks, StretchesJoin, UnwalkedIsEmpty, LeafIsCorners, StepsCrossFaces, StepsAreCorners, CornersAreSteps}
use Rattle.pe_order.proofs.Unwalked.{contains_in, in_contains, cell_four, unwalked_arriving, unwalked_leaving, tree_either, leaf_arriving, leaf_leaving}

neighbours_at : (axes : ℕ) (way : Way) (counts : Place → Bool) (levels axis side : ℕ) (cell neighbour : Place) → axes ≤ 4 → axis < axes → side < 2 → length cell.pos ≡ 4 → ShareFace (face_of axis side) cell neighbour
    → leaving axes way counts levels (face_of axis side) cell ≡ arriving axes way counts levels (facing (face_of axis side)) neighbour
neighbours_at axes way counts levels axis zero cell neighbour four a b l share =
    let k : length neighbour.pos ≡ length cell.pos = ap (λ p. length p.pos) (sym share.0) ∙ length-set cell.pos axis (slice_index cell.pos axis - 1) in
    ap (leaving axes way counts levels (face_of axis 0)) (sym share.1) ∙ leaving-down axes way counts levels axis neighbour four a (omega arith)
neighbours_at axes way counts levels axis (suc zero) cell neighbour four a b l share =
    leaving-up axes way counts levels axis cell four a (omega arith) ∙ ap (arriving axes way counts levels (face_of axis 0)) share.0
neighbours_at axes way counts levels axis (suc (suc side)) cell neighbour four a b l share = absurd (omega arith)

pub neighbours_agree : NeighboursAgree
neighbours_agree axes way counts levels face cell neighbour dim is_face is_cell share =
    neighbours_at axes way counts levels face.axis face.side cell neighbour dim.1 is_face.0 is_face.1 (cell_four axes way cell dim.1 is_cell) share

down_up : (axis : ℕ) (pos : List ℕ) → 0 < slice_index pos axis → slice_set (slice_set pos axis (slice_index pos axis - 1)) axis (slice_index (slice_set pos axis (slice_index pos axis - 1)) axis + 1) ≡ pos
down_up axis [] h = refl
down_up zero (x ∷ pos) h = ap (λ y. y ∷ pos) (omega arith)
down_up (suc axis) (x ∷ pos) h = ap (λ ys. x ∷ ys) (down_up axis pos h)

-- a face shares its plane with the cell across it, save on the near side of the root
shares_or_still : (axis side : ℕ) (cell : Place) → side < 2 → (ShareFace (face_of axis side) cell (across (face_of axis side) cell)) ⊎ (Still (face_of axis side) cell)
shares_or_still axis (suc zero) cell b = inl (refl, across-up axis cell)
shares_or_still axis (suc (suc side)) cell b = absurd (omega arith)
shares_or_still axis zero cell b = go (slice_index cell.pos axis) refl
  where
    go : (x : ℕ) → slice_index cell.pos axis ≡ x → (ShareFace (face_of axis 0) cell (across (face_of axis 0) cell)) ⊎ (Still (face_of axis 0) cell)
    go zero e = inr (refl, e)
    go (suc x) e = inl (refl, ap (λ p. let c : Place = record { level = cell.level; pos = p } in c) (down_up axis cell.pos (omega arith)))

pub faces_are_one_way : FacesAreOneWay
faces_are_one_way axes way counts levels face cell dim is_face is_cell =
    let four = dim.1 in
    let l = cell_four axes way cell dim.1 is_cell in
    let rises = order_rises axes way cell.level dim.1 in
    let r = rank_of axes way cell.level in
    record {
      earlier = λ n share before. leaving_none axes way counts levels cell.level face cell four is_face.0 is_face.1 refl l
          (inl (subst (λ p. r p < r cell) (sym share.0) (before_rises r 0 (top axes cell.level) (order axes way cell.level) n cell rises before)));
      later = λ n share before. arriving_none axes way counts levels cell.level face cell four is_face.0 is_face.1 refl l
          (inl (subst (λ p. r cell < r p) (sym share.0) (before_rises r 0 (top axes cell.level) (order axes way cell.level) cell n rises before)));
      outside = λ none. elim (shares_or_still face.axis face.side cell is_face.1) [
        | inl share ↦
            (let no_cell : NoneAcross axes way face cell.level cell = λ i. absurd (none (across face cell) (in_contains (order axes way cell.level) (across face cell) i) share) in
            (outside_arriving axes way counts levels face cell four is_face.0 is_face.1 l no_cell, outside_leaving axes way counts levels face cell four is_face.0 is_face.1 l no_cell))
        | inr still ↦
            (arriving_none axes way counts levels cell.level face cell four is_face.0 is_face.1 refl l (inr still), leaving_none axes way counts levels cell.level face cell four is_face.0 is_face.1 refl l (inr still))
      ];
    }

pub composition : Composition
composition axes way counts levels axis parity cell dim a is_cell beneath = composes_any axes way counts levels axis parity cell dim.1 a (cell_four axes way cell dim.1 is_cell) (contains_in _ cell is_cell) beneath

pub beneath_untouched : BeneathUntouched
beneath_untouched axes way counts levels axis parity cell dim a is_cell beneath free = composes axes way counts levels axis parity cell dim.1 a (cell_four axes way cell dim.1 is_cell) (contains_in _ cell is_cell) beneath free

pub counts : TouchedInOrder
counts axes way levels vertex dim inside deep =
    let on = inside_on_grid axes vertex inside in record {
      loaded = loaded_for_around axes way levels vertex dim.1 on deep;
      stored = stored_for_around axes way levels vertex dim.1 on deep;
      popped = λ n. steps_to_cells axes way vertex n dim.1;
      pushed = λ n. steps_from_cells axes way vertex n dim.1;
    }

pub stands_together : StandTogether
stands_together axes way levels cell vertex dim is_cell inside =
    stand_together axes way levels vertex cell dim.1 (inside_on_grid axes vertex inside) (on_grid axes cell (3 ^ cell.level) (cell_position axes way cell dim.1 is_cell)) (contains_in _ cell is_cell)

pub corners_cross_once : CornersCrossOnce
corners_cross_once axes way cell k dim is_cell below =
    let is = cell_position axes way cell dim.1 is_cell in
    let bit = bits_in axes k dim.1 below in record {
      comes = one_across axes way cell (bits axes k) dim.1 is bit;
      goes = one_across_out axes way cell (bits axes k) dim.1 is bit;
    }

pub corners_on_stacks : CornersOnStacks
corners_on_stacks axes way counts cell dim is_cell =
    let is = cell_position axes way cell dim.1 is_cell in record {
      come = come_by_faces axes way counts cell dim.1 is;
      go = go_by_faces axes way counts cell dim.1 is;
    }

pub stretches_join : StretchesJoin
stretches_join stretches more before after = record {
  join = λ between s t. Stretches-join stretches more before between after s t;
  split = Stretches-split stretches more before after;
}

pub cells_of_the_tree : CellsOfTheTree
cells_of_the_tree axes way dim = record {
  root_is_cell = root_is_cell axes way;
  child_is_cell = λ cell child is c. child_is_cell axes way cell child dim.1 is c;
  place_is_cell = λ cell is. place_is_cell axes way cell dim.1 is;
  cell_is_place = λ cell is. cell_position axes way cell dim.1 is;
}

pub steps_cross_faces : StepsCrossFaces
steps_cross_faces axes way vertex a b dim inside step = step_crosses axes way vertex a b dim.1 inside step

pub steps_are_corners : StepsAreCorners
steps_are_corners axes way counts vertex a b face dim inside counted step is_face share = step_in_corners axes way counts vertex a b face dim.1 inside counted step is_face share

pub corners_are_steps : CornersAreSteps
corners_are_steps axes way counts face cell vertex dim is_face is_cell =
    let four = cell_four axes way cell dim.1 is_cell in
    ((λ c. in_corners_only axes way counts face cell vertex dim.1 is_face four c), (λ c. out_corners_only axes way counts face cell vertex dim.1 is_face four c))

pub unwalked_is_empty : UnwalkedIsEmpty
unwalked_is_empty axes way walked counts levels face cell dim walk is_face is_cell none =
    let four = cell_four axes way cell dim.1 is_cell in
    let tree = contains_in (order axes way cell.level) cell is_cell in (
      unwalked_arriving axes way walked counts walk dim.1 (cell.level + levels) levels face cell is_face.0 is_face.1 four refl (none, tree),
      leaving_is axes way counts levels face cell ∙ unwalked_leaving axes way walked counts walk dim.1 (cell.level + levels) levels face cell is_face.0 is_face.1 four refl (none, tree_either axes way (opposite way) cell tree),
    )

pub leaf_is_corners : LeafIsCorners
leaf_is_corners axes way walked counts levels face cell dim walk is_face is_cell none =
    let four = cell_four axes way cell dim.1 is_cell in
    let tree = contains_in (order axes way cell.level) cell is_cell in
    (leaf_arriving axes way walked counts walk dim.1 levels face cell is_face.0 is_face.1 four tree none, leaf_leaving axes way walked counts walk dim.1 levels face cell is_face.0 is_face.1 four tree none)
