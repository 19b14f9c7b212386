-- The numbers of a row, and of a child in it.
use Rattle.std.proofs.Common.{◌≡◌, ℕ, zero, suc, ◌+◌, ◌-◌, ◌/◌, ◌%◌, ◌^◌, ◌<◌, ◌≤◌, List, [], ◌∷◌, take, set, length, get_or, max, refl, ap, ap₂, ◌∙◌, arith, Option, Some, None, sym}
use Rattle.std.specs.Prelude.{Bool, true, false, ◌==◌, if◌then◌else◌, slice_index, slice_get}
use Rattle.pe_base.specs.Limits.{most_levels}
use Rattle.pe_base.specs.declared.place.Place.{Place}
use Rattle.pe_base.specs.declared.place.Digits.{Digits}
use Rattle.pe_base.specs.declared.way.Way.{Way}
use Rattle.pe_base.specs.Tree.Places.{IsCellPlace, IsDigits, bits, child_at}
use Rattle.pe_access.specs.declared.numbers.Numbers.{Numbers}
use Rattle.pe_access.specs.declared.numbers.Axis.{Axis}
use Rattle.pe_access.specs.declared.row.Row.{Row}
use Rattle.pe_access.specs.declared.state.CellState.{CellState}
use Rattle.pe_access.specs.Extents.{Relation, Extent, root_extent}
use Rattle.pe_access.specs.Faces.{extent_of}
use Rattle.pe_access.specs.Numbers.{face_number, numbers_of, axis_of, axes_from, root_axis, stack_of}
use Rattle.pe_access.specs.States.{StandsFor, route_of}
use Rattle.pe_access.proofs.Choices.{fastest}
use Rattle.pe_access.proofs.NumberLaws.{numbers_are, greatest_four, stack_of-greatest, idle_number, idle_at, side_of as side_is}
use Rattle.pe_access.proofs.RouteProofs.{bits-small}
use Rattle.pe_access.proofs.StateLaws.{extent_of-alike}
use Rattle.pe_access.specs.Rows.{IsRow, came, went, front_of, greatest_along, end_at, side_of}
use Rattle.std.proofs.lemmas.List.{length-set, take-set}

-- the number of the face at a side
abbrev pub number_at : (Numbers → ℕ) → Axis → ℕ → ℕ
number_at number axis side = number (end_at axis side)

-- the greatest of a row's number and the last axis's is the greatest of all
pub in_row : (number : Numbers → ℕ) (axes k : ℕ) (along : List Axis) (n : ℕ) (d : Axis) → 2 ≤ axes → axes ≤ 4 → length along ≡ 4 → k < 2 ^ axes
    → n ≡ greatest_along number (bits (axes - 1) k) (take (axes - 1) along)
    → ((i : ℕ) → axes ≤ i → i < 4 → number (get_or along i d).near ≡ 0)
    → max n (number_at number (get_or along (axes - 1) d) (k / 2 ^ (axes - 1) % 2))
    ≡ max (number_at number (get_or along 0 d) (k / 1 % 2)) (max (number_at number (get_or along 1 d) (k / 2 % 2)) (max (number_at number (get_or along 2 d) (k / 4 % 2)) (number_at number (get_or along 3 d) (k / 8 % 2))))
in_row number (suc (suc zero)) k (a₀ ∷ a₁ ∷ a₂ ∷ a₃ ∷ []) n d low high long small in_front idle =
    let none₂ : k / 4 % 2 ≡ 0 = omega arith in
    let none₃ : k / 8 % 2 ≡ 0 = omega arith in
    let s = number_at number in
    let third : s a₂ (k / 4 % 2) ≡ 0 = ap (s a₂) none₂ ∙ idle 2 (omega arith) (omega arith) in
    let fourth : s a₃ (k / 8 % 2) ≡ 0 = ap (s a₃) none₃ ∙ idle 3 (omega arith) (omega arith) in
    ap (λ (m : ℕ). max m (s a₁ (k / 2 % 2))) in_front ∙ omega (arith, third, fourth)
in_row number (suc (suc (suc zero))) k (a₀ ∷ a₁ ∷ a₂ ∷ a₃ ∷ []) n d low high long small in_front idle =
    let none₃ : k / 8 % 2 ≡ 0 = omega arith in
    let s = number_at number in
    let fourth : s a₃ (k / 8 % 2) ≡ 0 = ap (s a₃) none₃ ∙ idle 3 (omega arith) (omega arith) in
    ap (λ (m : ℕ). max m (s a₂ (k / 4 % 2))) in_front ∙ omega (arith, fourth)
in_row number (suc (suc (suc (suc zero)))) k (a₀ ∷ a₁ ∷ a₂ ∷ a₃ ∷ []) n d low high long small in_front idle =
    ap (λ (m : ℕ). max m (number_at number a₃ (k / 8 % 2))) in_front ∙ omega arith
in_row number zero k along n d low high long small in_front idle = absurd (omega arith)
in_row number (suc zero) k along n d low high long small in_front idle = absurd (omega arith)
in_row number (suc (suc (suc (suc (suc axes))))) k along n d low high long small in_front idle = absurd (omega arith)
in_row number axes k [] n d low high long small in_front idle = absurd (omega arith)
in_row number axes k (a₀ ∷ []) n d low high long small in_front idle = absurd (omega arith)
in_row number axes k (a₀ ∷ a₁ ∷ []) n d low high long small in_front idle = absurd (omega arith)
in_row number axes k (a₀ ∷ a₁ ∷ a₂ ∷ []) n d low high long small in_front idle = absurd (omega arith)
in_row number axes k (a₀ ∷ a₁ ∷ a₂ ∷ a₃ ∷ a₄ ∷ along) n d low high long small in_front idle = absurd (omega arith)

-- the numbers of both sides along an axis
abbrev pub both_of : (Numbers → ℕ) → Axis → ℕ × ℕ
both_of number axis = (number axis.near, number axis.far)

sided : (number : Numbers → ℕ) (axis : Axis) (a b : ℕ) → a ≡ b → side_of (both_of number axis) a ≡ number_at number axis b
sided number axis a b e = at (a == 0) ∙ ap (number_at number axis) e
  where
    at : (near : Bool) → (if near then number axis.near else number axis.far) ≡ number (if near then axis.near else axis.far)
    at true = refl
    at false = refl

-- the greatest numbers along all axes but the last are those of the row
pub row_front : (number : Numbers → ℕ) (axes : ℕ) (along : List Axis) (row : List ℕ) (d : Axis) → 2 ≤ axes → axes ≤ 4 → length along ≡ 4
    → (axes ≡ 2 → (corner : ℕ) → corner < 4 → slice_index row corner ≡ side_of (both_of number (get_or along 0 d)) (corner % 2))
    → (axes ≡ 3 → (corner : ℕ) → corner < 8 → slice_index row corner ≡ max (side_of (both_of number (get_or along 0 d)) (corner % 2)) (side_of (both_of number (get_or along 1 d)) (corner / 2 % 2)))
    → (axes ≡ 4 → (corner : ℕ) → corner < 8 → slice_index row corner ≡ max (side_of (both_of number (get_or along 0 d)) (corner % 2)) (max (side_of (both_of number (get_or along 1 d)) (corner / 2 % 2)) (side_of (both_of number (get_or along 2 d)) (corner / 4))))
    → (corner : ℕ) → corner < 2 ^ axes → slice_index row (corner % 8) ≡ greatest_along number (bits (axes - 1) corner) (take (axes - 1) along)
row_front number (suc (suc zero)) (a₀ ∷ a₁ ∷ a₂ ∷ a₃ ∷ []) row d low high long two three four corner small =
    two refl (corner % 8) (omega arith) ∙ sided number a₀ (corner % 8 % 2) (corner / 1 % 2) (omega arith) ∙ omega arith
row_front number (suc (suc (suc zero))) (a₀ ∷ a₁ ∷ a₂ ∷ a₃ ∷ []) row d low high long two three four corner small =
    three refl (corner % 8) (omega arith)
    ∙ ap₂ (λ (x y : ℕ). max x y) (sided number a₀ (corner % 8 % 2) (corner / 1 % 2) (omega arith)) (sided number a₁ (corner % 8 / 2 % 2) (corner / 2 % 2) (omega arith)) ∙ omega arith
row_front number (suc (suc (suc (suc zero)))) (a₀ ∷ a₁ ∷ a₂ ∷ a₃ ∷ []) row d low high long two three four corner small =
    four refl (corner % 8) (omega arith)
    ∙ ap₂ (λ (x y : ℕ). max x y) (sided number a₀ (corner % 8 % 2) (corner / 1 % 2) (omega arith)) (ap₂ (λ (x y : ℕ). max x y) (sided number a₁ (corner % 8 / 2 % 2) (corner / 2 % 2) (omega arith)) (sided number a₂ (corner % 8 / 4) (corner / 4 % 2) (omega arith)))
    ∙ omega arith
row_front number zero along row d low high long two three four corner small = absurd (omega arith)
row_front number (suc zero) along row d low high long two three four corner small = absurd (omega arith)
row_front number (suc (suc (suc (suc (suc axes))))) along row d low high long two three four corner small = absurd (omega arith)
row_front number axes [] row d low high long two three four corner small = absurd (omega arith)
row_front number axes (a₀ ∷ []) row d low high long two three four corner small = absurd (omega arith)
row_front number axes (a₀ ∷ a₁ ∷ []) row d low high long two three four corner small = absurd (omega arith)
row_front number axes (a₀ ∷ a₁ ∷ a₂ ∷ []) row d low high long two three four corner small = absurd (omega arith)
row_front number axes (a₀ ∷ a₁ ∷ a₂ ∷ a₃ ∷ a₄ ∷ along) row d low high long two three four corner small = absurd (omega arith)

-- a corner of a cell is one of sixteen
pub corner_below : (axes k : ℕ) → axes ≤ 4 → k < 2 ^ axes → k < 16
corner_below zero k few small = omega arith
corner_below (suc zero) k few small = omega arith
corner_below (suc (suc zero)) k few small = omega arith
corner_below (suc (suc (suc zero))) k few small = omega arith
corner_below (suc (suc (suc (suc zero)))) k few small = omega arith
corner_below (suc (suc (suc (suc (suc axes))))) k few small = absurd (omega arith)

-- two corners that differ along axis 0 lie at one end of the last axis
pub pair_side : (axes k : ℕ) → 2 ≤ axes → axes ≤ 4 → k < 2 ^ axes → (k / 2 < 2 ^ (axes - 1)) × (k / 2 / 2 ^ (axes - 2) ≡ k / 2 ^ (axes - 1) % 2)
pair_side (suc (suc zero)) k low high small = (omega arith, omega arith)
pair_side (suc (suc (suc zero))) k low high small = (omega arith, omega arith)
pair_side (suc (suc (suc (suc zero)))) k low high small = (omega arith, omega arith)
pair_side zero k low high small = absurd (omega arith)
pair_side (suc zero) k low high small = absurd (omega arith)
pair_side (suc (suc (suc (suc (suc axes))))) k low high small = absurd (omega arith)

slice_get-within : (xs : List Axis) (i : ℕ) (d : Axis) → i < length xs → slice_get xs i ≡ Some (get_or xs i d)
slice_get-within [] i d h = absurd (omega arith)
slice_get-within (x ∷ xs) zero d h = refl
slice_get-within (x ∷ xs) (suc i) d h = slice_get-within xs i d (omega arith)

-- the greater of a row's number and that of the last axis names the stack of the route
pub row_stack : (number : Numbers → ℕ) (relation : Relation) → ((i s : ℕ) (extent : Extent) → number (numbers_of i s extent) ≡ face_number relation i s extent)
    → (axes : ℕ) (way : Way) (cell : Place) (state : CellState) (k n : ℕ) (end : Numbers) (o : Option ℕ) → length state.along ≡ 4 → (h : StandsFor axes way cell state) → k < 2 ^ state.axes
    → n ≡ greatest_along number (bits (state.axes - 1) k) (front_of state)
    → ((last : Axis) → slice_get state.along (state.axes - 1) ≡ Some last → end ≡ end_at last (k / 2 / 2 ^ (state.axes - 2)))
    → (fastest relation 0 (bits 4 k) h.extents).route ≡ route_of o → stack_of (max n (number end)) ≡ o
row_stack number relation tells axes way cell state k n end o long h small in_front ends route =
    let along = state.along in
    let extents = h.extents in
    let d = root_axis in
    let low : 2 ≤ state.axes = omega (arith, h.grid.0, h.same_axes) in
    let high : state.axes ≤ 4 = omega (arith, h.grid.1, h.same_axes) in
    let are = numbers_are along extents long h.numbers in
    let at : (i s : ℕ) → i < 4 → s < 2 → number_at number (get_or along i d) s ≡ face_number relation i s (get_or extents i root_extent) =
    λ i s within side. ap number (side_is i s (get_or along i d) (get_or extents i root_extent) (are.each i d root_extent within) side) ∙ tells i s (get_or extents i root_extent) in
    let idle : (i : ℕ) → state.axes ≤ i → i < 4 → number (get_or along i d).near ≡ 0 =
    λ i past within. at i 0 within (omega arith) ∙ idle_number relation i (get_or extents i root_extent) (idle_at extents i root_extent are.four within (h.held.others i (omega (arith, past, h.same_axes)))) in
    let here : number end ≡ number_at number (get_or along (state.axes - 1) d) (k / 2 ^ (state.axes - 1) % 2) =
    ap number (ends (get_or along (state.axes - 1) d) (slice_get-within along (state.axes - 1) d (omega (arith, long, high))) ∙ ap (end_at (get_or along (state.axes - 1) d)) (pair_side state.axes k low high small).1) in
    let lowest : k / 1 % 2 ≡ k % 2 = omega arith in
    let first : number_at number (get_or along 0 d) (k / 1 % 2) ≡ face_number relation 0 (k % 2) (get_or extents 0 root_extent) = ap (number_at number (get_or along 0 d)) lowest ∙ at 0 (k % 2) (omega arith) (omega arith) in
    let greatest_is = ap (λ (m : ℕ). max n m) here ∙ in_row number state.axes k along n d low high long small in_front idle
    ∙ greatest_four relation k _ _ _ _ extents root_extent are.four first (at 1 (k / 2 % 2) (omega arith) (omega arith)) (at 2 (k / 4 % 2) (omega arith) (omega arith)) (at 3 (k / 8 % 2) (omega arith) (omega arith)) in
    ap stack_of greatest_is ∙ stack_of-greatest relation (bits 4 k) extents o are.four (bits-small 4 k) route

-- the numbers of a child that takes a step along the row
pub IsRow-step : (state : CellState) (row : Row) (last : Axis) (ends : List Numbers) → IsRow state row → state.axes - 1 < length state.along
    → ((pair : ℕ) → pair < 2 ^ (state.axes - 1) → slice_get ends pair ≡ Some (end_at last (pair / 2 ^ (state.axes - 2))))
    → IsRow (record { axes = state.axes; way = state.way; level = state.level; along = set state.along (state.axes - 1) last }) (record { coming = row.coming; going = row.going; ends = ends })
IsRow-step state row last ends is within are =
    let front : take (state.axes - 1) (set state.along (state.axes - 1) last) ≡ take (state.axes - 1) state.along = take-set state.along (state.axes - 1) last in
    record {
      four = length-set state.along (state.axes - 1) last ∙ is.four;
      coming = λ corner small. is.coming corner small ∙ ap (greatest_along came (bits (state.axes - 1) corner)) (sym front);
      going = λ corner small. is.going corner small ∙ ap (greatest_along went (bits (state.axes - 1) corner)) (sym front);
      ends = λ other pair at small. (
          let same : Some last ≡ Some other = sym (slice_get-set_last state.along (state.axes - 1) last within) ∙ at in
          let here : last ≡ other = cc in
          are pair small ∙ ap (λ (a : Axis). Some (end_at a (pair / 2 ^ (state.axes - 2)))) here);
    }
  where
    slice_get-set_last : (xs : List Axis) (i : ℕ) (x : Axis) → i < length xs → slice_get (set xs i x) i ≡ Some x
    slice_get-set_last [] i x h = absurd (omega arith)
    slice_get-set_last (y ∷ ys) zero x h = refl
    slice_get-set_last (y ∷ ys) (suc i) x h = slice_get-set_last ys i x (omega arith)

take-alike : (n : ℕ) (xs ys : List Axis) → ((i : ℕ) → i < n → slice_get xs i ≡ slice_get ys i) → take n xs ≡ take n ys
take-alike zero xs ys same = refl
take-alike (suc n) [] [] same = refl
take-alike (suc n) [] (y ∷ ys) same = let none : None ≡ Some y = same 0 (omega arith) in cc
take-alike (suc n) (x ∷ xs) [] same = let none : Some x ≡ None = same 0 (omega arith) in cc
take-alike (suc n) (x ∷ xs) (y ∷ ys) same =
    let first : Some x ≡ Some y = same 0 (omega arith) in
    let head : x ≡ y = cc in
    let tail = take-alike n xs ys (λ i h. same (suc i) (omega arith)) in
    cc

slice_get-axes_from : (axis : ℕ) (extents : List Extent) (i : ℕ) (extent : Extent) → slice_get extents i ≡ Some extent → slice_get (axes_from axis extents) i ≡ Some (axis_of (axis + i) extent)
slice_get-axes_from axis [] i extent e = cc
slice_get-axes_from axis (l ∷ extents) zero extent e =
    let head : l ≡ extent = cc in
    ap (λ (m : Extent). Some (axis_of axis m)) head ∙ ap (λ (n : ℕ). Some (axis_of n extent)) (omega arith)
slice_get-axes_from axis (l ∷ extents) (suc i) extent e = slice_get-axes_from (axis + 1) extents i extent e ∙ ap (λ (n : ℕ). Some (axis_of n extent)) (omega arith)

-- what a state is along an axis of the grid
pub along_is : (axes : ℕ) (way : Way) (cell : Place) (state : CellState) (i : ℕ) → StandsFor axes way cell state → i < axes → slice_get state.along i ≡ Some (axis_of i (extent_of axes way cell i))
along_is axes way cell state i h within =
    ap (λ xs. slice_get xs i) h.numbers ∙ slice_get-axes_from 0 h.extents i (extent_of axes way cell i) (h.held.grid_axes i within) ∙ ap (λ (n : ℕ). Some (axis_of n (extent_of axes way cell i))) (omega arith)

-- children of a row have one front
pub one_front : (axes : ℕ) (way : Way) (cell : Place) (digits digits' : Digits) (state state' : CellState) → IsCellPlace axes cell → cell.level < most_levels → IsDigits axes digits → IsDigits axes digits'
    → ((i : ℕ) → i < axes - 1 → slice_index digits.k i ≡ slice_index digits'.k i)
    → StandsFor axes way (child_at cell digits) state → StandsFor axes way (child_at cell digits') state' → front_of state ≡ front_of state'
one_front axes way cell digits digits' state state' place level-below d d' same h h' =
    ap (λ (n : ℕ). take (n - 1) state.along) h.same_axes
    ∙ take-alike (axes - 1) state.along state'.along (λ i within.
    along_is axes way (child_at cell digits) state i h (omega arith)
    ∙ ap (λ (l : Extent). Some (axis_of i l)) (extent_of-alike axes way cell digits digits' i h.grid.1 place level-below d d' (omega arith) (λ j below. same j (omega arith)))
    ∙ sym (along_is axes way (child_at cell digits') state' i h' (omega arith)))
    ∙ ap (λ (n : ℕ). take (n - 1) state'.along) (sym h'.same_axes)
