-- From child to child: the extents of some axes are new.
use Rattle.std.proofs.Common.{◌≡◌, ◌≢◌, ℕ, zero, suc, ◌+◌, ◌-◌, ◌%◌, ◌<◌, ◌≤◌, List, [], ◌∷◌, set, take, length, get_or, Option, Some, None, refl, sym, ap, ◌∙◌, subst, inl, inr, arith}
use Rattle.std.specs.Prelude.{Bool, ◌==◌, sum, slice_index, slice_get, IfSome}
use Rattle.std.specs.Option.{option_map}
use Rattle.std.proofs.lemmas.Bool.{cases_lt}
use Rattle.std.proofs.lemmas.List.Sums.{sum_by-remove}
use Rattle.std.proofs.lemmas.Option.{slice_get_within}
use Rattle.pe_base.specs.Limits.{most_levels}
use Rattle.pe_base.specs.declared.place.Place.{Place}
use Rattle.pe_base.specs.declared.place.Digits.{Digits}
use Rattle.pe_base.specs.declared.way.Way.{Way}
use Rattle.pe_base.specs.Tree.Curve.{flip}
use Rattle.pe_base.specs.Tree.Places.{IsCellPlace, IsDigits, child_at}
use Rattle.pe_base.specs.Steps.Routes.{way_turns}
use Rattle.pe_base.proofs.Tree.CurveLaws.{sum-cons}
use Rattle.pe_access.specs.declared.numbers.Axis.{Axis}
use Rattle.pe_access.specs.declared.state.CellState.{CellState}
use Rattle.pe_access.specs.Extents.{Extent, root_extent, child_extent}
use Rattle.pe_access.specs.Faces.{extent_of}
use Rattle.pe_access.specs.Numbers.{axis_of, axes_from}
use Rattle.pe_access.specs.States.{StandsFor, HoldsCell, IsIdle, is_upwards}
use Rattle.pe_access.proofs.ExtentLaws.{child_extent-parity, extents_at}
use Rattle.pe_access.proofs.NumberLaws.{numbers_are}
use Rattle.pe_access.proofs.RowLaws.{along_is}
use Rattle.pe_access.proofs.StateLaws.{HoldsCell-child, extent_of-alike}

-- # One axis

slice_get-extents_at : (level turns : ℕ) (ps ks : List ℕ) (extents : List Extent) (i : ℕ) (d : Extent) → i < length ps → length ks ≡ length ps → length extents ≡ length ps
    → slice_get (extents_at level turns ps ks extents) i ≡ Some (child_extent level (turns + sum (take i ks) + slice_index ps i) (slice_index ks i) (get_or extents i d))
slice_get-extents_at level turns [] ks extents i d within same many = absurd (omega arith)
slice_get-extents_at level turns (p ∷ ps) [] extents i d within same many = absurd (omega arith)
slice_get-extents_at level turns (p ∷ ps) (k ∷ ks) [] i d within same many = absurd (omega arith)
slice_get-extents_at level turns (p ∷ ps) (k ∷ ks) (extent ∷ extents) zero d within same many =
    let e : turns + p ≡ turns + sum (take 0 (k ∷ ks)) + p = omega arith in
    ap (λ (n : ℕ). Some (child_extent level n k extent)) e
slice_get-extents_at level turns (p ∷ ps) (k ∷ ks) (extent ∷ extents) (suc i) d within same many =
    let e : turns + k + sum (take i ks) + slice_index ps i ≡ turns + sum (k ∷ take i ks) + slice_index ps i = omega (arith, sum-cons k (take i ks)) in
    slice_get-extents_at level (turns + k) ps ks extents i d (omega arith) (omega arith) (omega arith)
    ∙ ap (λ (n : ℕ). Some (child_extent level n (slice_index ks i) (get_or extents i d))) e

-- a child's extent, by how its axis is walked there
pub walked_extent : (axes : ℕ) (way : Way) (cell : Place) (digits : Digits) (extents : List Extent) (i : ℕ) → axes ≤ 4 → IsCellPlace axes cell → cell.level < most_levels → IsDigits axes digits
    → length extents ≡ 4 → HoldsCell axes way cell extents → i < axes
    → child_extent (cell.level + 1) (way_turns way + flip cell.pos i + sum (take i digits.k)) (slice_index digits.k i) (get_or extents i root_extent) ≡ extent_of axes way (child_at cell digits) i
walked_extent axes way cell digits extents i few place level-below d long holds within =
    let pos = cell.pos in
    let ks = digits.k in
    let before = sum (take i ks) in
    let all = way_turns way + sum pos in
    let here : i < length pos = omega (arith, place.pos.four) in
    let parity : (way_turns way + flip pos i + before) % 2 ≡ (all + before + slice_index pos i) % 2 = omega (arith, sum_by-remove (λ (x : ℕ). x) pos i 0 here) in
    let one : Some (child_extent (cell.level + 1) (way_turns way + flip pos i + before) (slice_index ks i) (get_or extents i root_extent)) ≡ Some (extent_of axes way (child_at cell digits) i) =
    ap (λ (l : Extent). Some l) (child_extent-parity (cell.level + 1) (way_turns way + flip pos i + before) (all + before + slice_index pos i) (slice_index ks i) (get_or extents i root_extent) parity)
    ∙ sym (slice_get-extents_at (cell.level + 1) all pos ks extents i root_extent here (d.four ∙ sym place.pos.four) (long ∙ sym place.pos.four))
    ∙ (HoldsCell-child axes way cell digits extents few place level-below d long holds).grid_axes i within in
    cc

-- a child's numbers along an axis that is walked upwards or downwards
pub walked_axis : (axes : ℕ) (way : Way) (cell : Place) (digits : Digits) (self : CellState) (i : ℕ) (d new : Axis) (up : Bool) → length self.along ≡ 4 → IsCellPlace axes cell → self.level < most_levels → IsDigits axes digits
    → StandsFor axes way cell self → i < axes → up ≡ is_upwards way cell digits i
    → ((extent : Extent) (turns : ℕ) → get_or self.along i d ≡ axis_of i extent → up ≡ (turns % 2 == 0) → new ≡ axis_of i (child_extent (self.level + 1) turns (slice_index digits.k i) extent))
    → new ≡ axis_of i (extent_of axes way (child_at cell digits) i)
walked_axis axes way cell digits self i d new up long place low fit h within is makes =
    let are = numbers_are self.along h.extents long h.numbers in
    let extent = get_or h.extents i root_extent in
    let turns = way_turns way + flip cell.pos i + sum (take i digits.k) in
    makes extent turns (are.each i d root_extent (omega (arith, h.grid.1))) is
    ∙ ap (λ (l : ℕ). axis_of i (child_extent (l + 1) turns (slice_index digits.k i) extent)) h.same_level
    ∙ ap (axis_of i) (walked_extent axes way cell digits h.extents i h.grid.1 place (omega (arith, h.same_level)) fit are.four h.held within)

-- an axis before the first digit that differs
pub kept_axis : (axes : ℕ) (way : Way) (cell : Place) (from digits : Digits) (state : CellState) (i : ℕ) → IsCellPlace axes cell → cell.level < most_levels → IsDigits axes from → IsDigits axes digits
    → StandsFor axes way (child_at cell from) state → i < axes → ((j : ℕ) → j ≤ i → slice_index from.k j ≡ slice_index digits.k j)
    → slice_get state.along i ≡ Some (axis_of i (extent_of axes way (child_at cell digits) i))
kept_axis axes way cell from digits state i place low d' d h within same =
    along_is axes way (child_at cell from) state i h within
    ∙ ap (λ (l : Extent). Some (axis_of i l)) (extent_of-alike axes way cell from digits i h.grid.1 place low d' d within same)

-- # All axes

-- extents of which those of some axes are new
abbrev replaced : (ℕ → Extent) → ℕ → ℕ → List Extent → List Extent
replaced new axis zero extents = extents
replaced new axis (suc n) [] = []
replaced new axis (suc n) (extent ∷ extents) = new axis ∷ replaced new (axis + 1) n extents

replaced-within : (new : ℕ → Extent) (axis n : ℕ) (extents : List Extent) (i : ℕ) → i < n → i < length extents → slice_get (replaced new axis n extents) i ≡ Some (new (axis + i))
replaced-within new axis zero extents i h long = absurd (omega arith)
replaced-within new axis (suc n) [] i h long = absurd (omega arith)
replaced-within new axis (suc n) (extent ∷ extents) zero h long = ap (λ (m : ℕ). Some (new m)) (omega arith)
replaced-within new axis (suc n) (extent ∷ extents) (suc i) h long = replaced-within new (axis + 1) n extents i (omega arith) (omega arith) ∙ ap (λ (m : ℕ). Some (new m)) (omega arith)

replaced-past : (new : ℕ → Extent) (axis n : ℕ) (extents : List Extent) (i : ℕ) → n ≤ i → slice_get (replaced new axis n extents) i ≡ slice_get extents i
replaced-past new axis zero extents i h = refl
replaced-past new axis (suc n) [] i h = refl
replaced-past new axis (suc n) (extent ∷ extents) zero h = absurd (omega arith)
replaced-past new axis (suc n) (extent ∷ extents) (suc i) h = replaced-past new (axis + 1) n extents i (omega arith)

map-axes_from : (axis : ℕ) (extents : List Extent) (i : ℕ) → slice_get (axes_from axis extents) i ≡ option_map (axis_of (axis + i)) (slice_get extents i)
map-axes_from axis [] i = refl
map-axes_from axis (extent ∷ extents) zero = ap (λ (n : ℕ). Some (axis_of n extent)) (omega arith)
map-axes_from axis (extent ∷ extents) (suc i) = map-axes_from (axis + 1) extents i ∙ ap (λ (n : ℕ). option_map (axis_of n) (slice_get extents i)) (omega arith)

same-axes : (xs ys : List Axis) → ((i : ℕ) → slice_get xs i ≡ slice_get ys i) → xs ≡ ys
same-axes [] [] each = refl
same-axes [] (y ∷ ys) each = let none : None ≡ Some y = each 0 in cc
same-axes (x ∷ xs) [] each = let none : Some x ≡ None = each 0 in cc
same-axes (x ∷ xs) (y ∷ ys) each =
    let first : Some x ≡ Some y = each 0 in
    let head : x ≡ y = cc in
    let tail = same-axes xs ys (λ i. each (suc i)) in
    cc

-- a state that stands for a child stands for another one, once it has its numbers on the grid's axes
pub StandsFor-turned : (axes : ℕ) (way : Way) (cell : Place) (from digits : Digits) (old : CellState) (along : List Axis) → StandsFor axes way (child_at cell from) old
    → ((i : ℕ) → i < axes → slice_get along i ≡ Some (axis_of i (extent_of axes way (child_at cell digits) i))) → ((i : ℕ) → axes ≤ i → slice_get along i ≡ slice_get old.along i)
    → StandsFor axes way (child_at cell digits) (record { axes = old.axes; way = old.way; level = old.level; along = along })
StandsFor-turned axes way cell from digits old along h made kept =
    let new = λ (i : ℕ). extent_of axes way (child_at cell digits) i in
    let extents = replaced new 0 axes h.extents in
    let many = slice_get_within h.extents (axes - 1) (extent_of axes way (child_at cell from) (axes - 1)) (h.held.grid_axes (axes - 1) (omega (arith, h.grid))) in
    let Idles : Option Extent → Type 0 = λ o. IfSome o IsIdle in
    let here : (i : ℕ) → i < axes → slice_get extents i ≡ Some (new i) =
    λ i within. replaced-within new 0 axes h.extents i within (omega (arith, many)) ∙ ap (λ (n : ℕ). Some (new n)) (omega arith) in
    let numbers : (i : ℕ) → slice_get along i ≡ slice_get (axes_from 0 extents) i = λ i. elim (cases_lt i axes) [
      | inl within ↦
          made i within ∙ ap (λ (n : ℕ). Some (axis_of n (new i))) (omega arith) ∙ ap (option_map (axis_of (0 + i))) (sym (here i within))
          ∙ sym (map-axes_from 0 extents i)
      | inr past ↦
          kept i past ∙ ap (λ xs. slice_get xs i) h.numbers ∙ map-axes_from 0 h.extents i
          ∙ ap (option_map (axis_of (0 + i))) (sym (replaced-past new 0 axes h.extents i past)) ∙ sym (map-axes_from 0 extents i)
    ] in
    record {
      grid = h.grid;
      same_axes = h.same_axes;
      same_way = h.same_way;
      same_level = h.same_level;
      extents = extents;
      held = record { grid_axes = here; others = λ i past. subst Idles (sym (replaced-past new 0 axes h.extents i past)) (h.held.others i past) };
      numbers = same-axes along (axes_from 0 extents) numbers;
    }

-- an axis written, and the others
pub slice_get-set_same : (xs : List Axis) (i : ℕ) (x : Axis) → i < length xs → slice_get (set xs i x) i ≡ Some x
slice_get-set_same [] i x h = absurd (omega arith)
slice_get-set_same (y ∷ ys) zero x h = refl
slice_get-set_same (y ∷ ys) (suc i) x h = slice_get-set_same ys i x (omega arith)

pub slice_get-set_other : (xs : List Axis) (i j : ℕ) (x : Axis) → j ≢ i → slice_get (set xs i x) j ≡ slice_get xs j
slice_get-set_other [] i j x h = refl
slice_get-set_other (y ∷ ys) zero zero x h = absurd (h refl)
slice_get-set_other (y ∷ ys) zero (suc j) x h = refl
slice_get-set_other (y ∷ ys) (suc i) zero x h = refl
slice_get-set_other (y ∷ ys) (suc i) (suc j) x h = slice_get-set_other ys i j x (λ e. h (ap (λ (n : ℕ). suc n) e))
