-- The children of a cell, one formula for both ways.
use Rattle.std.proofs.Common.{◌≡◌, ◌≢◌, ℕ, zero, suc, ◌+◌, ◌-◌, ◌*◌, ◌%◌, ◌<◌, ◌≤◌, List, [], ◌∷◌, ◌++◌, map, reverse, length, replicate, slice_index, refl, sym, ap, ◌∙◌, subst, arith}
use Rattle.std.specs.List.{range_with_len}
use Rattle.std.proofs.lemmas.List.{reverse-reverse, length-set, get_or-set_same, get_or-set_other}
use Rattle.std.proofs.lemmas.List.FromFn.{length-map-range_with_len}
use Rattle.std.proofs.lemmas.List.Sums.{sum_by-remove, sum_by-set}
use Rattle.pe_base.specs.declared.place.Place.{Place}
use Rattle.pe_base.specs.declared.way.Way.{Way}
use Rattle.pe_base.specs.declared.way.Way.TheVariants.{Forward, Inverted}
use Rattle.pe_base.specs.Tree.Places.{finer, child_at}
use Rattle.pe_base.specs.Tree.Ways.{opposite}
use Rattle.pe_base.specs.Tree.Curve.{digit_lists, turned, flip, flips, digits_of, child_digits, children}
use Rattle.pe_base.specs.Steps.Routes.{way_turns}
use Rattle.pe_base.proofs.Lists.{Each-weaker, map-map, map_same, map-reverse}
use Rattle.pe_base.proofs.Tree.Mirrors.{Digits3, complement, digit_lists_below, complement_below, reverse-digit_lists, turned_below, Pairs, turned_complement, turned_same, AgreeBut, up}

-- the flips of a cell, each turned once more where the walk is inverted
abbrev pub flips_in : ℕ → Way → List ℕ → List ℕ
flips_in axes way pos = map (λ axis. flip pos axis + way_turns way) (range_with_len 0 axes)

abbrev pub child_pos : ℕ → Way → List ℕ → List ℕ → List ℕ
child_pos axes way pos ts = finer pos (turned (flips_in axes way pos) 0 ts ++ replicate (4 - axes) 0)

-- the child at some digits along the curve
abbrev pub child_of : ℕ → Way → Place → List ℕ → Place
child_of axes way cell ts = record { level = cell.level + 1; pos = child_pos axes way cell.pos ts }

pub length-digits : (n : ℕ) (ts : List ℕ) → Digits3 n ts → length ts ≡ n
length-digits zero [] d = refl
length-digits zero (t ∷ ts) d = absurd (omega arith)
length-digits (suc n) [] d = absurd (omega arith)
length-digits (suc n) (t ∷ ts) d = ap suc (length-digits n ts d.1)

pub Pairs-range : (P : ℕ → ℕ → Type 0) (f g : ℕ → ℕ) → ((k : ℕ) → P (f k) (g k)) → (a n : ℕ) → Pairs P (map f (range_with_len a n)) (map g (range_with_len a n))
Pairs-range P f g h a zero = tt
Pairs-range P f g h a (suc n) = (h a, Pairs-range P f g h (a + 1) n)

Pairs-range_from : (P : ℕ → ℕ → Type 0) (f g : ℕ → ℕ) (a n : ℕ) → ((k : ℕ) → a ≤ k → k < a + n → P (f k) (g k)) → Pairs P (map f (range_with_len a n)) (map g (range_with_len a n))
Pairs-range_from P f g a zero h = tt
Pairs-range_from P f g a (suc n) h = (h a (omega arith) (omega arith), Pairs-range_from P f g (a + 1) n (λ k l m. h k (omega arith) (omega arith)))

AgreeBut-range : (axis a n : ℕ) (f g : ℕ → ℕ) → axis < n → (f (a + axis) + g (a + axis)) % 2 ≡ 1 → ((k : ℕ) → k < a + n → k ≢ a + axis → (f k + g k) % 2 ≡ 0)
    → AgreeBut axis (map f (range_with_len a n)) (map g (range_with_len a n))
AgreeBut-range axis a zero f g b h o = absurd (omega arith)
AgreeBut-range zero a (suc n) f g b h o = (
  subst (λ k. (f k + g k) % 2 ≡ 1) (let e : a + 0 ≡ a = omega arith in e) h,
  Pairs-range_from _ f g (a + 1) n (λ k l m. o k (omega arith) (omega arith)),
  length-map-range_with_len f (a + 1) n ∙ sym (length-map-range_with_len g (a + 1) n),
)
AgreeBut-range (suc axis) a (suc n) f g b h o =
    let e : a + suc axis ≡ (a + 1) + axis = omega arith in (
      o a (omega arith) (omega arith),
      AgreeBut-range axis (a + 1) n f g (omega arith) (subst (λ k. (f k + g k) % 2 ≡ 1) e h) (λ k m l. o k (omega arith) (λ s. l (s ∙ e))),
    )

-- the flips of the next cell on an axis: the same on that axis, and others on the other axes
flip-up : (axis : ℕ) (pos : List ℕ) → axis < length pos → (k : ℕ) → k < length pos → k ≢ axis → (flip pos k + flip (up axis pos) k) % 2 ≡ 1
flip-up axis pos a k b h =
    let y = slice_index pos axis + 1 in
    omega (
      arith,
      sum_by-remove (λ (x : ℕ). x) pos k 0 b,
      sum_by-remove (λ (x : ℕ). x) (up axis pos) k 0 (omega (arith, length-set pos axis y)),
      sum_by-set (λ (x : ℕ). x) pos axis y 0 a,
      get_or-set_other pos axis k y 0 h,
    )

flip-up_same : (axis : ℕ) (pos : List ℕ) → axis < length pos → (flip pos axis + flip (up axis pos) axis) % 2 ≡ 0
flip-up_same axis pos a =
    let y = slice_index pos axis + 1 in
    omega (
      arith,
      sum_by-remove (λ (x : ℕ). x) pos axis 0 a,
      sum_by-remove (λ (x : ℕ). x) (up axis pos) axis 0 (omega (arith, length-set pos axis y)),
      sum_by-set (λ (x : ℕ). x) pos axis y 0 a,
      get_or-set_same pos axis y 0 a,
    )

-- the flips of a cell in a way, and of the next cell on an axis in the other way
pub flips_agree : (axes : ℕ) (way : Way) (axis : ℕ) (pos : List ℕ) → axes ≤ length pos → axis < axes → AgreeBut axis (flips_in axes way pos) (flips_in axes (opposite way) (up axis pos))
flips_agree axes way axis pos l b =
    let turns : way_turns way + way_turns (opposite way) ≡ 1 = both way in
    AgreeBut-range axis 0 axes _ _ b
    (subst (λ k. ((flip pos k + way_turns way) + (flip (up axis pos) k + way_turns (opposite way))) % 2 ≡ 1) (let e : axis ≡ 0 + axis = omega arith in e) (omega (arith, flip-up_same axis pos (omega arith))))
    (λ k m o. omega (arith, flip-up axis pos (omega arith) k (omega arith) (λ e. o (e ∙ let z : axis ≡ 0 + axis = omega arith in z))))
  where
    both : (w : Way) → way_turns w + way_turns (opposite w) ≡ 1
    both Forward = refl
    both Inverted = refl

pub length-flips : (axes : ℕ) (way : Way) (pos : List ℕ) → length (flips_in axes way pos) ≡ axes
length-flips axes way pos = length-map-range_with_len (λ axis. flip pos axis + way_turns way) 0 axes

-- the children in the order of the walk
pub children_are : (axes : ℕ) (way : Way) (cell : Place) → children axes way cell ≡ map (child_of axes way cell) (digit_lists axes)
children_are axes Forward cell =
    let es = flips axes cell.pos in
    map-map (child_at cell) (λ ts. digits_of (turned es 0 ts)) (digit_lists axes)
    ∙ map_same _ _ (digit_lists axes) (Each-weaker (Digits3 axes) _ (λ ts d. ap (λ ks. record { level = cell.level + 1; pos = finer cell.pos ks })
    (ap (λ n. turned es 0 ts ++ replicate (4 - n) 0) (length-digits axes _ (turned_below es 0 axes ts (length-map-range_with_len (flip cell.pos) 0 axes) d))
    ∙ ap (λ ks. ks ++ replicate (4 - axes) 0) (turned_same es (flips_in axes Forward cell.pos) 0 0 ts
    (Pairs-range (λ x y. (x + y) % 2 ≡ 0) (flip cell.pos) (λ axis. flip cell.pos axis + 0) (λ k. omega arith) 0 axes)
    (length-map-range_with_len (flip cell.pos) 0 axes ∙ sym (length-flips axes Forward cell.pos)) refl)))
    (digit_lists axes) (digit_lists_below axes))
children_are axes Inverted cell =
    let es = flips axes cell.pos in
    let g = λ (ts : List ℕ). digits_of (turned es 0 ts) in
    ap (map (child_at cell)) (sym (map-reverse g (digit_lists axes)) ∙ ap (map g) (reverse-digit_lists axes) ∙ map-map g complement (digit_lists axes))
    ∙ map-map (child_at cell) (λ ts. g (complement ts)) (digit_lists axes)
    ∙ map_same _ _ (digit_lists axes) (Each-weaker (Digits3 axes) _ (λ ts d. ap (λ ks. record { level = cell.level + 1; pos = finer cell.pos ks })
    (ap (λ n. turned es 0 (complement ts) ++ replicate (4 - n) 0) (length-digits axes _ (turned_below es 0 axes (complement ts) (length-map-range_with_len (flip cell.pos) 0 axes) (complement_below axes ts d)))
    ∙ ap (λ ks. ks ++ replicate (4 - axes) 0) (sym (turned_complement 0 (flips_in axes Inverted cell.pos) es 0 0 axes ts
    (Pairs-range (λ x y. (x + y + 0) % 2 ≡ 1) (λ axis. flip cell.pos axis + 1) (flip cell.pos) (λ k. omega arith) 0 axes)
    (length-flips axes Inverted cell.pos ∙ sym (length-map-range_with_len (flip cell.pos) 0 axes)) refl d))))
    (digit_lists axes) (digit_lists_below axes))

-- backwards, the children in the other way
pub reverse-children : (axes : ℕ) (way : Way) (cell : Place) → reverse (children axes way cell) ≡ children axes (opposite way) cell
reverse-children axes Forward cell = sym (map-reverse (child_at cell) (child_digits axes Forward (flips axes cell.pos)))
reverse-children axes Inverted cell =
    sym (map-reverse (child_at cell) (child_digits axes Inverted (flips axes cell.pos)))
    ∙ ap (map (child_at cell)) (reverse-reverse (child_digits axes Forward (flips axes cell.pos)))

-- a child's coordinate
pub slice_index-finer : (axis n : ℕ) (pos ks zs : List ℕ) → axis < n → n ≤ length pos → Digits3 n ks → slice_index (finer pos (ks ++ zs)) axis ≡ 3 * slice_index pos axis + slice_index ks axis
slice_index-finer axis zero pos ks zs a l d = absurd (omega arith)
slice_index-finer axis (suc n) [] ks zs a l d = absurd (omega arith)
slice_index-finer axis (suc n) (x ∷ pos) [] zs a l d = absurd (omega arith)
slice_index-finer zero (suc n) (x ∷ pos) (k ∷ ks) zs a l d = refl
slice_index-finer (suc axis) (suc n) (x ∷ pos) (k ∷ ks) zs a l d = slice_index-finer axis n pos ks zs (omega arith) (omega arith) d.1

pub slice_index-below : (axis n : ℕ) (ks : List ℕ) → axis < n → Digits3 n ks → slice_index ks axis < 3
slice_index-below axis zero ks a d = absurd (omega arith)
slice_index-below axis (suc n) [] a d = absurd (omega arith)
slice_index-below zero (suc n) (k ∷ ks) a d = d.0
slice_index-below (suc axis) (suc n) (k ∷ ks) a d = slice_index-below axis n ks (omega arith) d.1

length-finer : (n : ℕ) (pos ks zs : List ℕ) → n ≤ length pos → Digits3 n ks → n ≤ length (finer pos (ks ++ zs))
length-finer zero pos ks zs l d = omega arith
length-finer (suc n) [] ks zs l d = absurd (omega arith)
length-finer (suc n) (x ∷ pos) [] zs l d = absurd (omega arith)
length-finer (suc n) (x ∷ pos) (k ∷ ks) zs l d = omega (arith, length-finer n pos ks zs (omega arith) d.1)

-- the digits of a child's place
abbrev pub child_ks : ℕ → Way → Place → List ℕ → List ℕ
child_ks axes way cell ts = turned (flips_in axes way cell.pos) 0 ts

pub child_ks-below : (axes : ℕ) (way : Way) (cell : Place) (ts : List ℕ) → Digits3 axes ts → Digits3 axes (child_ks axes way cell ts)
child_ks-below axes way cell ts d = turned_below (flips_in axes way cell.pos) 0 axes ts (length-flips axes way cell.pos) d

pub child_index : (axes : ℕ) (way : Way) (cell : Place) (ts : List ℕ) (axis : ℕ) → axis < axes → axes ≤ length cell.pos → Digits3 axes ts
    → slice_index (child_of axes way cell ts).pos axis ≡ 3 * slice_index cell.pos axis + slice_index (child_ks axes way cell ts) axis
child_index axes way cell ts axis a l d = slice_index-finer axis axes cell.pos (child_ks axes way cell ts) (replicate (4 - axes) 0) a l (child_ks-below axes way cell ts d)

pub child_length : (axes : ℕ) (way : Way) (cell : Place) (ts : List ℕ) → axes ≤ length cell.pos → Digits3 axes ts → axes ≤ length (child_of axes way cell ts).pos
child_length axes way cell ts l d = length-finer axes cell.pos (child_ks axes way cell ts) (replicate (4 - axes) 0) l (child_ks-below axes way cell ts d)
