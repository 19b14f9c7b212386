-- The place of a cell in the order of its level, as a number.
use Rattle.std.proofs.Common.{◌≡◌, ℕ, zero, suc, ◌+◌, ◌-◌, ◌*◌, ◌/◌, ◌%◌, ◌^◌, ◌<◌, ◌≤◌, ◌⊎◌, Bool, true, false, cond, ◌==◌, List, [], ◌∷◌, ◌++◌, map, filter, length, take, replicate, refl, sym, ap, ap₂, ◌∙◌, subst, true≢false, nat_eq, inl, inr, pow-suc, mul-le-mul_right, length-append, arith}
use Rattle.std.specs.List.{flat_map, list_any, AllByRecursion as Each}
use Rattle.std.specs.Cmp.Lexicographic.{pointwise}
use Rattle.std.proofs.lemmas.List.{length-replicate}
use Rattle.std.proofs.lemmas.Bool.Decides.{nat_tests}
use Rattle.std.proofs.lemmas.Bool.{and_parts, or_cases}
use Rattle.pe_base.specs.declared.place.Place.{Place}
use Rattle.pe_base.specs.declared.way.Way.{Way}
use Rattle.pe_base.specs.Tree.Places.{finer, is_same}
use Rattle.pe_base.specs.Tree.Curve.{digit_lists, turned, children, order}
use Rattle.pe_base.specs.Steps.Around.{is_corner, around, steps}
use Rattle.pe_base.specs.Steps.Faces.{is_step}
use Rattle.pe_base.proofs.Lists.{Each-all, Each-weaker, Each-append, Each-map, Each-flat_map, Each-both}
use Rattle.pe_base.proofs.Tree.PlaceLaws.{length-finer}
use Rattle.pe_base.proofs.Tree.Mirrors.{Digits3, digit_lists_below, sum_of, turned_twice, Each-digits}
use Rattle.pe_base.proofs.Tree.Children.{flips_in, length-flips, child_pos, child_of, child_ks, child_ks-below, children_are, length-digits}

-- the number with some digits in base 3, the first digit leading
abbrev pub value : ℕ → List ℕ → ℕ
value zero ts = 0
value (suc n) [] = 0
value (suc n) (t ∷ ts) = t * 3 ^ n + value n ts

abbrev pub thirds : List ℕ → List ℕ
thirds pos = map (λ x. x / 3) pos

abbrev pub rests : List ℕ → List ℕ
rests pos = map (λ x. x % 3) pos

-- how many cells of its level come before the cell at a position
abbrev pub rank : ℕ → Way → ℕ → List ℕ → ℕ
rank axes way zero pos = sum_of (take axes pos)
rank axes way (suc level) pos = rank axes way level (thirds pos) * 3 ^ axes + value axes (turned (flips_in axes way (thirds pos)) 0 (rests pos))

-- a list on which a number rises, from a least number on and below a number
abbrev pub Rising : {X : Type 0} → (X → ℕ) → ℕ → List X → ℕ → Type 0
Rising r low [] high = low ≤ high
Rising r low (x ∷ xs) high = (low ≤ r x) × Rising r (suc (r x)) xs high

pub Rising-lower : {X : Type 0} (r : X → ℕ) (low lower high : ℕ) (xs : List X) → lower ≤ low → Rising r low xs high → Rising r lower xs high
Rising-lower r low lower high [] h s = omega arith
Rising-lower r low lower high (x ∷ xs) h s = (omega (arith, s.0), s.1)

pub Rising-append : {X : Type 0} (r : X → ℕ) (low mid high : ℕ) (xs ys : List X) → Rising r low xs mid → Rising r mid ys high → Rising r low (xs ++ ys) high
Rising-append r low mid high [] ys s t = Rising-lower r mid low high ys s t
Rising-append r low mid high (x ∷ xs) ys s t = (s.0, Rising-append r (suc (r x)) mid high xs ys s.1 t)

pub Rising-map : {X Y : Type 0} (r : Y → ℕ) (f : X → Y) (low high : ℕ) (xs : List X) → Rising (λ x. r (f x)) low xs high → Rising r low (map f xs) high
Rising-map r f low high [] s = s
Rising-map r f low high (x ∷ xs) s = (s.0, Rising-map r f (suc (r (f x))) high xs s.1)

pub Rising-moved : {X : Type 0} (r q : X → ℕ) (a low high : ℕ) (xs : List X) → Each (λ x. q x ≡ a + r x) xs → Rising r low xs high → Rising q (a + low) xs (a + high)
Rising-moved r q a low high [] e s = omega arith
Rising-moved r q a low high (x ∷ xs) e s =
    (omega (arith, e.0, s.0), subst (λ n. Rising q n xs (a + high)) (let k : a + suc (r x) ≡ suc (q x) = omega (arith, e.0) in k) (Rising-moved r q a (suc (r x)) high xs e.1 s.1))

pub Rising-filter : {X : Type 0} (r : X → ℕ) (p : X → Bool) (low high : ℕ) (xs : List X) → Rising r low xs high → Rising r low (filter p xs) high
Rising-filter r p low high [] s = s
Rising-filter r p low high (x ∷ xs) s = go (p x) (Rising-filter r p (suc (r x)) high xs s.1)
  where
    go : (b : Bool) → Rising r (suc (r x)) (filter p xs) high → Rising r low (cond b (x ∷ filter p xs) (filter p xs)) high
    go true t = (s.0, t)
    go false t = Rising-lower r (suc (r x)) low high (filter p xs) (omega (arith, s.0)) t

-- each item of a rising list in a part of its own
pub Rising-flat_map : {X Y : Type 0} (r : X → ℕ) (q : Y → ℕ) (f : X → List Y) (w low high : ℕ) (xs : List X) → Each (λ x. Rising q (r x * w) (f x) ((r x + 1) * w)) xs
    → Rising r low xs high → Rising q (low * w) (flat_map f xs) (high * w)
Rising-flat_map r q f w low high [] e s = mul-le-mul_right w s
Rising-flat_map r q f w low high (x ∷ xs) e s =
    Rising-lower q (r x * w) (low * w) (high * w) (f x ++ flat_map f xs) (mul-le-mul_right w s.0)
    (Rising-append q (r x * w) ((r x + 1) * w) (high * w) (f x) (flat_map f xs) e.0
    (subst (λ n. Rising q (n * w) (flat_map f xs) (high * w)) (let k : suc (r x) ≡ r x + 1 = omega arith in k) (Rising-flat_map r q f w (suc (r x)) high xs e.1 s.1)))

-- the digit lists rise by their values
pub digit_lists_rise : (n : ℕ) → Rising (value n) 0 (digit_lists n) (3 ^ n)
digit_lists_rise zero = (omega arith, omega arith)
digit_lists_rise (suc n) =
    let one = λ (t : ℕ). Rising-map (value (suc n)) (λ ts. t ∷ ts) (t * 3 ^ n + 0) (t * 3 ^ n + 3 ^ n) (digit_lists n)
    (Rising-moved (value n) (λ ts. value (suc n) (t ∷ ts)) (t * 3 ^ n) 0 (3 ^ n) (digit_lists n) (Each-all _ (λ ts. refl) (digit_lists n)) (digit_lists_rise n)) in
    let block = λ (t : ℕ). map (λ ts. t ∷ ts) (digit_lists n) in
    Rising-append (value (suc n)) 0 (3 ^ n) (3 ^ suc n) (block 0) (block 1 ++ (block 2 ++ [])) (subst₂' (omega arith) (omega arith) (block 0) (one 0))
    (Rising-append (value (suc n)) (3 ^ n) (2 * 3 ^ n) (3 ^ suc n) (block 1) (block 2 ++ []) (subst₂' (omega arith) (omega arith) (block 1) (one 1))
    (Rising-append (value (suc n)) (2 * 3 ^ n) (3 * 3 ^ n) (3 ^ suc n) (block 2) [] (subst₂' (omega arith) (omega arith) (block 2) (one 2)) (omega (arith, pow-suc 3 n))))
  where
    subst₂' : {a b c d : ℕ} → a ≡ c → b ≡ d → (xs : List (List ℕ)) → Rising (value (suc n)) a xs b → Rising (value (suc n)) c xs d
    subst₂' {a} {b} {c} {d} e f xs s = subst (λ y. Rising (value (suc n)) c xs y) f (subst (λ y. Rising (value (suc n)) y xs b) e s)

-- the parent's position and the digits of a child's
pub thirds-finer : (pos ks : List ℕ) → length pos ≡ length ks → Each (λ k. k < 3) ks → thirds (finer pos ks) ≡ pos
thirds-finer [] ks l b = refl
thirds-finer (x ∷ pos) [] l b = absurd (omega arith)
thirds-finer (x ∷ pos) (k ∷ ks) l b = ap₂ (λ y ys. y ∷ ys) (omega (arith, b.0)) (thirds-finer pos ks (omega arith) b.1)

pub rests-finer : (pos ks : List ℕ) → length pos ≡ length ks → Each (λ k. k < 3) ks → rests (finer pos ks) ≡ ks
rests-finer [] [] l b = refl
rests-finer [] (k ∷ ks) l b = absurd (omega arith)
rests-finer (x ∷ pos) [] l b = absurd (omega arith)
rests-finer (x ∷ pos) (k ∷ ks) l b = ap₂ (λ y ys. y ∷ ys) (omega (arith, b.0)) (rests-finer pos ks (omega arith) b.1)

Each-zeros : (n : ℕ) → Each (λ t. t < 3) (replicate n 0)
Each-zeros zero = tt
Each-zeros (suc n) = (omega arith, Each-zeros n)

pub child_digits-below : (axes : ℕ) (way : Way) (cell : Place) (ts : List ℕ) → Digits3 axes ts → Each (λ k. k < 3) (child_ks axes way cell ts ++ replicate (4 - axes) 0)
child_digits-below axes way cell ts d = Each-append (λ k. k < 3) _ _ (Each-digits axes (child_ks axes way cell ts) (child_ks-below axes way cell ts d)) (Each-zeros (4 - axes))

pub length-child_digits : (axes : ℕ) (way : Way) (cell : Place) (ts : List ℕ) → axes ≤ 4 → Digits3 axes ts → length (child_ks axes way cell ts ++ replicate (4 - axes) 0) ≡ 4
length-child_digits axes way cell ts four d =
    omega (arith, length-append (child_ks axes way cell ts) (replicate (4 - axes) 0), length-digits axes (child_ks axes way cell ts) (child_ks-below axes way cell ts d), length-replicate {A = ℕ} (4 - axes) 0)

pub thirds-child : (axes : ℕ) (way : Way) (cell : Place) (ts : List ℕ) → axes ≤ 4 → length cell.pos ≡ 4 → Digits3 axes ts → thirds (child_pos axes way cell.pos ts) ≡ cell.pos
thirds-child axes way cell ts four l d = thirds-finer cell.pos _ (l ∙ sym (length-child_digits axes way cell ts four d)) (child_digits-below axes way cell ts d)

pub child_four : (axes : ℕ) (way : Way) (cell : Place) (ts : List ℕ) → axes ≤ 4 → length cell.pos ≡ 4 → Digits3 axes ts → length (child_pos axes way cell.pos ts) ≡ 4
child_four axes way cell ts four l d = length-finer cell.pos _ (l ∙ sym (length-child_digits axes way cell ts four d)) ∙ l

-- a child's rank: that of the parent, and then the digits along the curve
pub rank-child : (axes : ℕ) (way : Way) (level : ℕ) (cell : Place) (ts : List ℕ) → axes ≤ 4 → length cell.pos ≡ 4 → Digits3 axes ts
    → rank axes way (suc level) (child_pos axes way cell.pos ts) ≡ rank axes way level cell.pos * 3 ^ axes + value axes ts
rank-child axes way level cell ts four l d =
    ap₂ (λ p ks. rank axes way level p * 3 ^ axes + value axes (turned (flips_in axes way p) 0 ks))
    (thirds-child axes way cell ts four l d)
    (rests-finer cell.pos _ (l ∙ sym (length-child_digits axes way cell ts four d)) (child_digits-below axes way cell ts d))
    ∙ ap (λ vs. rank axes way level cell.pos * 3 ^ axes + value axes vs)
    (turned_twice (flips_in axes way cell.pos) 0 0 axes ts (replicate (4 - axes) 0) (length-flips axes way cell.pos) refl d)

-- the cells of a level: their level, and four positions
abbrev pub OnLevel : ℕ → Place → Type 0
OnLevel level cell = (cell.level ≡ level) × (length cell.pos ≡ 4)

pub children_on_level : (axes : ℕ) (way : Way) (level : ℕ) (cell : Place) → axes ≤ 4 → OnLevel level cell → Each (OnLevel (suc level)) (children axes way cell)
children_on_level axes way level cell four on = subst (Each (OnLevel (suc level))) (sym (children_are axes way cell))
    (Each-map (OnLevel (suc level)) (child_of axes way cell) (digit_lists axes) (Each-weaker (Digits3 axes) _
    (λ ts d. (omega (arith, on.0), child_four axes way cell ts four on.1 d)) (digit_lists axes) (digit_lists_below axes)))

pub order_on_level : (axes : ℕ) (way : Way) (level : ℕ) → axes ≤ 4 → Each (OnLevel level) (order axes way level)
order_on_level axes way zero four = ((refl, refl), tt)
order_on_level axes way (suc level) four = Each-flat_map (OnLevel (suc level)) (children axes way) (order axes way level)
    (Each-weaker (OnLevel level) _ (λ c on. children_on_level axes way level c four on) (order axes way level) (order_on_level axes way level four))

abbrev pub rank_of : ℕ → Way → ℕ → Place → ℕ
rank_of axes way level cell = rank axes way level cell.pos

pub children_rise : (axes : ℕ) (way : Way) (level : ℕ) (cell : Place) → axes ≤ 4 → length cell.pos ≡ 4
    → Rising (rank_of axes way (suc level)) (rank_of axes way level cell * 3 ^ axes) (children axes way cell) ((rank_of axes way level cell + 1) * 3 ^ axes)
children_rise axes way level cell four l =
    let r = rank_of axes way level cell in
    subst (λ cs. Rising (rank_of axes way (suc level)) (r * 3 ^ axes) cs ((r + 1) * 3 ^ axes)) (sym (children_are axes way cell))
    (Rising-map (rank_of axes way (suc level)) (child_of axes way cell) (r * 3 ^ axes) ((r + 1) * 3 ^ axes) (digit_lists axes)
    (subst (λ n. Rising (λ ts. rank_of axes way (suc level) (child_of axes way cell ts)) n (digit_lists axes) ((r + 1) * 3 ^ axes)) (let k : r * 3 ^ axes + 0 ≡ r * 3 ^ axes = omega arith in k)
    (subst (λ n. Rising (λ ts. rank_of axes way (suc level) (child_of axes way cell ts)) (r * 3 ^ axes + 0) (digit_lists axes) n) (let k : r * 3 ^ axes + 3 ^ axes ≡ (r + 1) * 3 ^ axes = omega arith in k)
    (Rising-moved (value axes) _ (r * 3 ^ axes) 0 (3 ^ axes) (digit_lists axes)
    (Each-weaker (Digits3 axes) _ (λ ts d. rank-child axes way level cell ts four l d) (digit_lists axes) (digit_lists_below axes)) (digit_lists_rise axes)))))

abbrev pub top : ℕ → ℕ → ℕ
top axes zero = 1
top axes (suc level) = top axes level * 3 ^ axes

-- the order of a level rises by the ranks of its cells
pub order_rises : (axes : ℕ) (way : Way) (level : ℕ) → axes ≤ 4 → Rising (rank_of axes way level) 0 (order axes way level) (top axes level)
order_rises axes way zero four = (omega arith, subst (λ n. suc n ≤ 1) (sym (root_first axes four)) (omega arith))
  where
    root_first : (n : ℕ) → n ≤ 4 → sum_of (take n (0 ∷ 0 ∷ 0 ∷ 0 ∷ [])) ≡ 0
    root_first zero h = refl
    root_first (suc zero) h = refl
    root_first (suc (suc zero)) h = refl
    root_first (suc (suc (suc zero))) h = refl
    root_first (suc (suc (suc (suc zero)))) h = refl
    root_first (suc (suc (suc (suc (suc n))))) h = absurd (omega arith)
order_rises axes way (suc level) four =
    Rising-lower (rank_of axes way (suc level)) (0 * 3 ^ axes) 0 (top axes (suc level)) (order axes way (suc level)) (omega arith)
    (Rising-flat_map (rank_of axes way level) (rank_of axes way (suc level)) (children axes way) (3 ^ axes) 0 (top axes level) (order axes way level)
    (Each-weaker (OnLevel level) _ (λ c on. children_rise axes way level c four on.1) (order axes way level) (order_on_level axes way level four)) (order_rises axes way level four))

-- in a rising list, each step goes up
pub steps_rise : {X : Type 0} (r : X → ℕ) (low high : ℕ) (xs : List X) → Rising r low xs high → Each (λ s. r s.0 < r s.1) (steps xs)
steps_rise r low high [] s = tt
steps_rise r low high (x ∷ []) s = tt
steps_rise r low high (x ∷ y ∷ xs) s = (s.1.0, steps_rise r (suc (r x)) high (y ∷ xs) s.1)

pub Rising-above : {X : Type 0} (r : X → ℕ) (low high : ℕ) (xs : List X) → Rising r low xs high → Each (λ x. low ≤ r x) xs
Rising-above r low high [] s = tt
Rising-above r low high (x ∷ xs) s = (s.0, Each-weaker _ _ (λ y h. omega (arith, s.0)) xs (Rising-above r (suc (r x)) high xs s.1))

-- and no item stands between the two of a step
abbrev pub IsClose : {X : Type 0} → (X → ℕ) → List X → X × X → Type 0
IsClose r xs s = Each (λ z. (r z ≤ r s.0) ⊎ (r s.1 ≤ r z)) xs

pub steps_within : {X : Type 0} (P : X → Type 0) (xs : List X) → Each P xs → Each (λ s. P s.0 × P s.1) (steps xs)
steps_within P [] e = tt
steps_within P (x ∷ []) e = tt
steps_within P (x ∷ y ∷ xs) e = ((e.0, e.1.0), steps_within P (y ∷ xs) e.1)

pub steps_close : {X : Type 0} (r : X → ℕ) (low high : ℕ) (xs : List X) → Rising r low xs high → Each (IsClose r xs) (steps xs)
steps_close r low high [] s = tt
steps_close r low high (x ∷ []) s = tt
steps_close r low high (x ∷ y ∷ xs) s =
    let up = Rising-above r (suc (r x)) high (y ∷ xs) s.1 in (
      (inl (omega arith), (inr (omega arith), Each-weaker (λ z. suc (r y) ≤ r z) _ (λ z h. inr (omega arith)) xs (Rising-above r (suc (r y)) high xs s.1.1))),
      Each-both (IsClose r (y ∷ xs)) (λ s. (suc (r x) ≤ r s.0) × (suc (r x) ≤ r s.1)) (IsClose r (x ∷ y ∷ xs)) (λ t c h. (inl (omega (arith, h.0)), c)) (steps (y ∷ xs))
          (steps_close r (suc (r x)) high (y ∷ xs) s.1) (steps_within (λ z. suc (r x) ≤ r z) (y ∷ xs) up),
    )

pub same_list : (xs ys : List ℕ) → pointwise nat_eq xs ys ≡ true → xs ≡ ys
same_list [] [] h = refl
same_list [] (y ∷ ys) h = absurd (true≢false (sym h))
same_list (x ∷ xs) [] h = absurd (true≢false (sym h))
same_list (x ∷ xs) (y ∷ ys) h = ap₂ (λ z zs. z ∷ zs) (eq (and_parts (nat_eq x y) _ h).0) (same_list xs ys (and_parts (nat_eq x y) _ h).1)
  where
    eq : nat_eq x y ≡ true → x ≡ y
    eq e = grind (arith, nat_tests)

pub is_same-true : (a b : Place) → is_same a b ≡ true → (a.level ≡ b.level) × (a.pos ≡ b.pos)
is_same-true a b h = (eq (and_parts (a.level == b.level) _ h).0, same_list a.pos b.pos (and_parts (a.level == b.level) _ h).1)
  where
    eq : (a.level == b.level) ≡ true → a.level ≡ b.level
    eq e = grind (arith, nat_tests)

pub same_places : (a b : Place) → is_same a b ≡ true → a ≡ b
same_places a b e = let k = is_same-true a b e in ap₂ (λ l p. let v : Place = record { level = l; pos = p } in v) k.0 k.1

pub list_any-Each : {X : Type 0} (p : X → Bool) (P : X → Type 0) (C : Type 0) → ((x : X) → p x ≡ true → P x → C) → (xs : List X) → list_any p xs ≡ true → Each P xs → C
list_any-Each p P C h [] t e = absurd (true≢false (sym t))
list_any-Each p P C h (x ∷ xs) t e = elim (or_cases (p x) (list_any p xs) t) [
  | inl y ↦ h x y e.0
  | inr y ↦ list_any-Each p P C h xs y e.1
]

pub around_rises : (axes : ℕ) (way : Way) (vertex : Place) → axes ≤ 4 → Rising (rank_of axes way vertex.level) 0 (around axes way vertex) (top axes vertex.level)
around_rises axes way vertex four = Rising-filter (rank_of axes way vertex.level) (is_corner vertex) 0 (top axes vertex.level) (order axes way vertex.level) (order_rises axes way vertex.level four)

-- a step around a vertex goes to a later cell
pub is_step-rises : (axes : ℕ) (way : Way) (vertex a b : Place) → axes ≤ 4 → is_step axes way vertex a b ≡ true → rank_of axes way vertex.level a < rank_of axes way vertex.level b
is_step-rises axes way vertex a b four h =
    let r = rank_of axes way vertex.level in
    list_any-Each _ (λ s. r s.0 < r s.1) (r a < r b)
    (λ s t up. subst (λ p. rank axes way vertex.level p < r b) (is_same-true s.0 a (and_parts (is_same s.0 a) (is_same s.1 b) t).0).1
    (subst (λ p. r s.0 < rank axes way vertex.level p) (is_same-true s.1 b (and_parts (is_same s.0 a) (is_same s.1 b) t).1).1 up))
    (steps (around axes way vertex)) h (steps_rise r 0 (top axes vertex.level) (around axes way vertex) (around_rises axes way vertex four))
