-- The corners of a cell at a face, and of its neighbour there.
use Rattle.std.proofs.Common.{◌≡◌, ℕ, zero, suc, ◌+◌, ◌-◌, ◌*◌, ◌/◌, ◌%◌, ◌^◌, ◌<◌, ◌≤◌, Bool, true, false, cond, ◌&&◌, ◌==◌, List, [], ◌∷◌, ◌++◌, map, filter, reverse, length, slice_index, refl, sym, ap, ap₂, ◌∙◌, pow-suc, arith}
use Rattle.std.specs.List.{flat_map, range_with_len, AllByRecursion as Each}
use Rattle.std.proofs.lemmas.List.Concat.{flat_map_single}
use Rattle.std.proofs.Math.Nat.{eq_of_mul-eq-mul_right}
use Rattle.std.proofs.lemmas.Bool.Decides.{nat_tests}
use Rattle.std.proofs.lemmas.List.Folds.{flat_map-map}
use Rattle.pe_base.specs.declared.place.Place.{Place}
use Rattle.pe_base.specs.Tree.Places.{bits, moved}
use Rattle.pe_base.specs.Steps.Faces.{Face, Touch, is_on, corner_touches, at_face}
use Rattle.pe_base.proofs.Lists.{Each-weaker, Each-flat_map, map-map, map_same, flat_map_same, map-flat_map, filter-flat_map, map-reverse, filter-map, filter-reverse, filter_same, filter-filter}
use Rattle.pe_base.proofs.Tree.Mirrors.{up}

-- as many bits as there are axes
abbrev pub IsBits : ℕ → List ℕ → Type 0
IsBits zero [] = Unit {0}
IsBits zero (b ∷ bs) = 1 ≤ 0
IsBits (suc n) [] = 1 ≤ 0
IsBits (suc n) (b ∷ bs) = (b < 2) × IsBits n bs

-- the bit lists of the corners in ascending number, the lowest bit first
abbrev pub bit_lists : ℕ → List (List ℕ)
bit_lists zero = [] ∷ []
bit_lists (suc n) = flat_map (λ bs. (0 ∷ bs) ∷ (1 ∷ bs) ∷ []) (bit_lists n)

pub bit_lists_below : (n : ℕ) → Each (IsBits n) (bit_lists n)
bit_lists_below zero = (tt, tt)
bit_lists_below (suc n) = Each-flat_map (IsBits (suc n)) (λ bs. (0 ∷ bs) ∷ (1 ∷ bs) ∷ []) (bit_lists n)
    (Each-weaker (IsBits n) (λ bs. Each (IsBits (suc n)) ((0 ∷ bs) ∷ (1 ∷ bs) ∷ [])) (λ bs d. ((omega arith, d), ((omega arith, d), tt))) (bit_lists n) (bit_lists_below n))

pub bits_are : (axes : ℕ) → axes ≤ 4 → map (bits axes) (range_with_len 0 (2 ^ axes)) ≡ bit_lists axes
bits_are zero h = refl
bits_are (suc zero) h = refl
bits_are (suc (suc zero)) h = refl
bits_are (suc (suc (suc zero))) h = refl
bits_are (suc (suc (suc (suc zero)))) h = refl
bits_are (suc (suc (suc (suc (suc n))))) h = absurd (omega arith)

pub bits_in : (axes k : ℕ) → axes ≤ 4 → k < 2 ^ axes → IsBits axes (bits axes k)
bits_in axes k four h = of_bits axes 0 axes (λ axis. k / 2 ^ axis % 2) (λ axis. omega arith)
  where
    of_bits : (axes a n : ℕ) (f : ℕ → ℕ) → ((axis : ℕ) → f axis < 2) → IsBits n (map f (range_with_len a n))
    of_bits axes a zero f h = tt
    of_bits axes a (suc n) f h = (h a, of_bits axes (a + 1) n f h)

-- a test that treats the items of each part alike
filter_parts : {X Y : Type 0} (p : Y → Bool) (q : X → Bool) (f : X → List Y) (xs : List X) → ((x : X) → filter p (f x) ≡ cond (q x) (f x) []) → filter p (flat_map f xs) ≡ flat_map f (filter q xs)
filter_parts p q f [] h = refl
filter_parts p q f (x ∷ xs) h = filter-flat_map p f (x ∷ xs) ∙ ap₂ (λ r s. r ++ s) (h x) (sym (filter-flat_map p f xs) ∙ filter_parts p q f xs h) ∙ go (q x)
  where
    go : (b : Bool) → cond b (f x) [] ++ flat_map f (filter q xs) ≡ flat_map f (cond b (x ∷ filter q xs) (filter q xs))
    go true = refl
    go false = refl

-- the corners at the far side of a cell on an axis are those at the near side of the next cell, in one order
pub shared_corners : (axis n : ℕ) (pos : List ℕ) → axis < n → n ≤ length pos
    → map (moved pos) (filter (λ bs. slice_index bs axis == 1) (bit_lists n)) ≡ map (moved (up axis pos)) (filter (λ bs. slice_index bs axis == 0) (bit_lists n))
shared_corners axis zero pos a l = absurd (omega arith)
shared_corners axis (suc n) [] a l = absurd (omega arith)
shared_corners zero (suc n) (x ∷ pos) a l =
    let both = λ (bs : List ℕ). (0 ∷ bs) ∷ (1 ∷ bs) ∷ [] in
    let one : (b : ℕ) → b < 2 → filter (λ bs. slice_index bs 0 == b) (flat_map both (bit_lists n)) ≡ map (λ bs. b ∷ bs) (bit_lists n) =
    λ b h. filter-flat_map (λ bs. slice_index bs 0 == b) both (bit_lists n)
    ∙ flat_map_same _ (λ bs. (b ∷ bs) ∷ []) (bit_lists n) (Each-weaker (IsBits n) _ (λ bs d. first b h bs) (bit_lists n) (bit_lists_below n))
    ∙ flat_map_single (λ bs. b ∷ bs) (bit_lists n) in
    ap (map (moved (x ∷ pos))) (one 1 (omega arith)) ∙ map-map (moved (x ∷ pos)) (λ bs. 1 ∷ bs) (bit_lists n)
    ∙ map_same _ _ (bit_lists n) (Each-weaker (IsBits n) _ (λ bs d. ap (λ y. y ∷ moved pos bs) (omega arith)) (bit_lists n) (bit_lists_below n))
    ∙ sym (map-map (moved ((x + 1) ∷ pos)) (λ bs. 0 ∷ bs) (bit_lists n)) ∙ ap (map (moved ((x + 1) ∷ pos))) (sym (one 0 (omega arith)))
  where
    first : (b : ℕ) → b < 2 → (bs : List ℕ) → filter (λ cs. slice_index cs 0 == b) ((0 ∷ bs) ∷ (1 ∷ bs) ∷ []) ≡ (b ∷ bs) ∷ []
    first zero h bs = refl
    first (suc zero) h bs = refl
    first (suc (suc b)) h bs = absurd (omega arith)
shared_corners (suc axis) (suc n) (x ∷ pos) a l =
    let both = λ (bs : List ℕ). (0 ∷ bs) ∷ (1 ∷ bs) ∷ [] in
    let wide = λ (q : List ℕ). ((x + 0) ∷ q) ∷ ((x + 1) ∷ q) ∷ [] in
    let side : (b : ℕ) (p : List ℕ) → map (moved (x ∷ p)) (filter (λ bs. slice_index bs (suc axis) == b) (flat_map both (bit_lists n))) ≡ flat_map wide (map (moved p) (filter (λ bs. slice_index bs axis == b) (bit_lists n))) =
    λ b p. ap (map (moved (x ∷ p))) (filter_parts (λ bs. slice_index bs (suc axis) == b) (λ bs. slice_index bs axis == b) both (bit_lists n) (λ bs. alike (slice_index bs axis == b) bs))
    ∙ map-flat_map (moved (x ∷ p)) both (filter (λ bs. slice_index bs axis == b) (bit_lists n))
    ∙ sym (flat_map-map wide (moved p) (filter (λ bs. slice_index bs axis == b) (bit_lists n))) in
    side 1 pos ∙ ap (flat_map wide) (shared_corners axis n pos (omega arith) (omega arith)) ∙ sym (side 0 (up axis pos))
  where
    alike : (t : Bool) (bs : List ℕ) → cond t ((0 ∷ bs) ∷ cond t ((1 ∷ bs) ∷ []) []) (cond t ((1 ∷ bs) ∷ []) []) ≡ cond t ((0 ∷ bs) ∷ (1 ∷ bs) ∷ []) []
    alike true bs = refl
    alike false bs = refl

-- a corner's coordinate
pub slice_index-moved : (axis n : ℕ) (pos bs : List ℕ) → axis < n → n ≤ length pos → IsBits n bs → slice_index (moved pos bs) axis ≡ slice_index pos axis + slice_index bs axis
slice_index-moved axis zero pos bs a l d = absurd (omega arith)
slice_index-moved axis (suc n) [] bs a l d = absurd (omega arith)
slice_index-moved axis (suc n) (x ∷ pos) [] a l d = absurd (omega arith)
slice_index-moved zero (suc n) (x ∷ pos) (b ∷ bs) a l d = refl
slice_index-moved (suc axis) (suc n) (x ∷ pos) (b ∷ bs) a l d = slice_index-moved axis n pos bs (omega arith) (omega arith) d.1

pub pow_three : (n : ℕ) → 0 < 3 ^ n
pow_three zero = omega arith
pow_three (suc n) = omega (arith, pow-suc 3 n, pow_three n)

pub same_tests : (a b c d : ℕ) → (a ≡ b → c ≡ d) → (c ≡ d → a ≡ b) → (a == b) ≡ (c == d)
same_tests a b c d f g = grind (arith, nat_tests)

-- a coordinate and a plane, scaled
same_scaled : (x b s p : ℕ) → 0 < p → ((x + b) * p == (x + s) * p) ≡ (b == s)
same_scaled x b s p h = same_tests ((x + b) * p) ((x + s) * p) b s
    (λ e. let k : x + b ≡ x + s = eq_of_mul-eq-mul_right p h (x + b) (x + s) e in omega arith) (λ e. ap (λ y. (x + y) * p) e)

abbrev pub touch_at : Place → List ℕ → Touch
touch_at cell bs = record { vertex = record { level = cell.level; pos = moved cell.pos bs }; cell = cell }

pub corner_touches_are : (axes : ℕ) (cell : Place) → axes ≤ 4 → corner_touches axes cell ≡ map (touch_at cell) (bit_lists axes)
corner_touches_are axes cell four = sym (map-map (touch_at cell) (bits axes) (range_with_len 0 (2 ^ axes))) ∙ ap (map (touch_at cell)) (bits_are axes four)

pub slice_index-bits : (axis n : ℕ) (bs : List ℕ) → axis < n → IsBits n bs → slice_index bs axis < 2
slice_index-bits axis zero bs a d = absurd (omega arith)
slice_index-bits axis (suc n) [] a d = absurd (omega arith)
slice_index-bits zero (suc n) (b ∷ bs) a d = d.0
slice_index-bits (suc axis) (suc n) (b ∷ bs) a d = slice_index-bits axis n bs (omega arith) d.1

-- what a test finds of a cell's own corners at a face
pub own_corners : (axes : ℕ) (test : Touch → Bool) (finest axis side : ℕ) (cell : Place) → axes ≤ 4 → axis < axes → axes ≤ length cell.pos
    → at_face test finest (record { axis = axis; side = side }) cell (reverse (corner_touches axes cell))
    ≡ reverse (filter (λ vertex. test (record { vertex = vertex; cell = cell }))
    (map (λ pos. record { level = cell.level; pos = pos }) (map (moved cell.pos) (filter (λ bs. slice_index bs axis == side) (bit_lists axes)))))
own_corners axes test finest axis side cell four a l =
    let face : Face = record { axis = axis; side = side } in
    let place = λ (pos : List ℕ). let v : Place = record { level = cell.level; pos = pos } in v in
    let touch = λ (v : Place). let t : Touch = record { vertex = v; cell = cell } in t in
    let of_bits = λ (bs : List ℕ). touch (place (moved cell.pos bs)) in
    let on = λ (bs : List ℕ). is_on finest face cell (place (moved cell.pos bs)) in
    let full = λ (t : Touch). is_on finest face cell t.vertex && test t in
    let found = λ (bs : List ℕ). slice_index bs axis == side in
    let corners : corner_touches axes cell ≡ map of_bits (bit_lists axes) =
    sym (map-map of_bits (bits axes) (range_with_len 0 (2 ^ axes))) ∙ ap (map of_bits) (bits_are axes four) in
    let tests : filter (λ bs. full (of_bits bs)) (bit_lists axes) ≡ filter (λ bs. test (of_bits bs)) (filter found (bit_lists axes)) =
    filter_same _ (λ bs. found bs && test (of_bits bs)) (bit_lists axes) (Each-weaker (IsBits axes) _ (λ bs d.
    ap (λ b. b && test (of_bits bs)) (ap (λ y. y * 3 ^ (finest - cell.level) == (slice_index cell.pos axis + side) * 3 ^ (finest - cell.level)) (slice_index-moved axis axes cell.pos bs a l d)
    ∙ same_scaled (slice_index cell.pos axis) (slice_index bs axis) side (3 ^ (finest - cell.level)) (pow_three (finest - cell.level))))
    (bit_lists axes) (bit_lists_below axes))
    ∙ filter-filter (λ bs. test (of_bits bs)) found (bit_lists axes) in
    ap (λ ts. map (λ t. t.vertex) (filter full (reverse ts))) corners
    ∙ ap (map (λ t. t.vertex)) (filter-reverse full (map of_bits (bit_lists axes)) ∙ ap reverse (filter-map full of_bits (bit_lists axes) ∙ ap (map of_bits) tests))
    ∙ map-reverse (λ t. t.vertex) (map of_bits (filter (λ bs. test (of_bits bs)) (filter found (bit_lists axes))))
    ∙ ap reverse (map-map (λ t. t.vertex) of_bits (filter (λ bs. test (of_bits bs)) (filter found (bit_lists axes)))
    ∙ sym (filter-map (λ v. test (touch v)) (λ bs. place (moved cell.pos bs)) (filter found (bit_lists axes)))
    ∙ ap (filter (λ v. test (touch v))) (sym (map-map place (moved cell.pos) (filter found (bit_lists axes)))))
