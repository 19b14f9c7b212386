-- The digits of the curve, mirrored and turned.
use Rattle.std.specs.List.{AllByRecursion as Each}
use Rattle.std.proofs.Common.{◌≡◌, ℕ, zero, suc, ◌+◌, ◌-◌, ◌*◌, ◌%◌, ◌<◌, ◌≤◌, ◌⊎◌, List, [], ◌∷◌, ◌++◌, map, reverse, length, set, slice_index, refl, sym, ap, ap₂, ◌∙◌, inl, inr, arith}
use Rattle.std.proofs.lemmas.Bool.Decides.{nat_tests}
use Rattle.pe_base.specs.Tree.Places.{finer}
use Rattle.pe_base.specs.Tree.Curve.{digit_lists, mirrored, turned}
use Rattle.pe_base.proofs.Lists.{Each-weaker, Each-append, Each-map, map-map, map-reverse, reverse-flat_map, map-flat_map}

-- as many digits below 3 as there are axes
abbrev pub Digits3 : ℕ → List ℕ → Type 0
Digits3 zero [] = Unit {0}
Digits3 zero (t ∷ ts) = 1 ≤ 0
Digits3 (suc n) [] = 1 ≤ 0
Digits3 (suc n) (t ∷ ts) = (t < 3) × Digits3 n ts

pub Each-digits : (n : ℕ) (ts : List ℕ) → Digits3 n ts → Each (λ t. t < 3) ts
Each-digits zero [] d = tt
Each-digits zero (t ∷ ts) d = absurd (omega arith)
Each-digits (suc n) [] d = absurd (omega arith)
Each-digits (suc n) (t ∷ ts) d = (d.0, Each-digits n ts d.1)

abbrev pub complement : List ℕ → List ℕ
complement ts = map (λ t. 2 - t) ts

abbrev pub sum_of : List ℕ → ℕ
sum_of [] = 0
sum_of (x ∷ xs) = x + sum_of xs

-- mirrored digits
pub mirrored_even : (x t : ℕ) → x % 2 ≡ 0 → mirrored x t ≡ t
mirrored_even x t h = grind (arith, nat_tests)

pub mirrored_odd : (x t : ℕ) → x % 2 ≡ 1 → mirrored x t ≡ 2 - t
mirrored_odd x t h = grind (arith, nat_tests)

pub even_or_odd : (x : ℕ) → (x % 2 ≡ 0) ⊎ (x % 2 ≡ 1)
even_or_odd x = grind arith

pub mirrored_same : (x y t : ℕ) → (x + y) % 2 ≡ 0 → mirrored x t ≡ mirrored y t
mirrored_same x y t h = elim (even_or_odd x) [
  | inl e ↦ mirrored_even x t e ∙ sym (mirrored_even y t (omega arith))
  | inr e ↦ mirrored_odd x t e ∙ sym (mirrored_odd y t (omega arith))
]

-- an odd number of turns more, and the complement: the same digit
pub mirrored_complement : (x y t : ℕ) → t < 3 → (x + y) % 2 ≡ 1 → mirrored x t ≡ mirrored y (2 - t)
mirrored_complement x y t b h = elim (even_or_odd x) [
  | inl e ↦ mirrored_even x t e ∙ let k : t ≡ 2 - (2 - t) = omega arith in k ∙ sym (mirrored_odd y (2 - t) (omega arith))
  | inr e ↦ mirrored_odd x t e ∙ sym (mirrored_even y (2 - t) (omega arith))
]

-- an odd number of turns more: the complement
pub mirrored_other : (x y t : ℕ) → (x + y) % 2 ≡ 1 → t < 3 → mirrored y t ≡ 2 - mirrored x t
mirrored_other x y t h b = elim (even_or_odd x) [
  | inl e ↦ mirrored_odd y t (omega arith) ∙ ap (λ k. 2 - k) (sym (mirrored_even x t e))
  | inr e ↦ mirrored_even y t (omega arith) ∙ let k : t ≡ 2 - (2 - t) = omega arith in k ∙ ap (λ k. 2 - k) (sym (mirrored_odd x t e))
]

pub mirrored_below : (x t : ℕ) → t < 3 → mirrored x t < 3
mirrored_below x t b = elim (even_or_odd x) [
  | inl e ↦ omega (arith, mirrored_even x t e)
  | inr e ↦ omega (arith, mirrored_odd x t e)
]

pub mirrored_parity : (x t : ℕ) → t < 3 → (mirrored x t + t) % 2 ≡ 0
mirrored_parity x t b = elim (even_or_odd x) [
  | inl e ↦ omega (arith, mirrored_even x t e)
  | inr e ↦ omega (arith, mirrored_odd x t e)
]

pub mirrored_twice : (x y t : ℕ) → t < 3 → (x + y) % 2 ≡ 0 → mirrored x (mirrored y t) ≡ t
mirrored_twice x y t b h = elim (even_or_odd x) [
  | inl e ↦ mirrored_even x (mirrored y t) e ∙ mirrored_even y t (omega arith)
  | inr e ↦ mirrored_odd x (mirrored y t) e ∙ ap (λ k. 2 - k) (mirrored_odd y t (omega arith)) ∙ omega arith
]

-- the digit lists
pub digit_lists_below : (n : ℕ) → Each (Digits3 n) (digit_lists n)
digit_lists_below zero = (tt, tt)
digit_lists_below (suc n) =
    let one = λ (t : ℕ) (b : t < 3). Each-map (Digits3 (suc n)) (λ ts. t ∷ ts) (digit_lists n)
    (Each-weaker (Digits3 n) (λ ts. (t < 3) × Digits3 n ts) (λ ts d. (b, d)) (digit_lists n) (digit_lists_below n)) in
    Each-append (Digits3 (suc n)) _ _ (one 0 (omega arith)) (Each-append (Digits3 (suc n)) _ _ (one 1 (omega arith)) (Each-append (Digits3 (suc n)) _ _ (one 2 (omega arith)) tt))

pub complement_below : (n : ℕ) (ts : List ℕ) → Digits3 n ts → Digits3 n (complement ts)
complement_below zero [] d = tt
complement_below zero (t ∷ ts) d = d
complement_below (suc n) [] d = d
complement_below (suc n) (t ∷ ts) d = (omega arith, complement_below n ts d.1)

-- the digit lists backwards are their complements
pub reverse-digit_lists : (n : ℕ) → reverse (digit_lists n) ≡ map complement (digit_lists n)
reverse-digit_lists zero = refl
reverse-digit_lists (suc n) =
    let block = λ (t : ℕ). map (λ ts. t ∷ ts) (digit_lists n) in
    let turn : (t : ℕ) → reverse (block t) ≡ map (λ ts. t ∷ complement ts) (digit_lists n) =
    λ t. sym (map-reverse (λ ts. t ∷ ts) (digit_lists n)) ∙ ap (map (λ ts. t ∷ ts)) (reverse-digit_lists n) ∙ map-map (λ ts. t ∷ ts) complement (digit_lists n) in
    let front : (t : ℕ) → map complement (block t) ≡ map (λ ts. (2 - t) ∷ complement ts) (digit_lists n) =
    λ t. map-map complement (λ ts. t ∷ ts) (digit_lists n) in
    reverse-flat_map block (0 ∷ 1 ∷ 2 ∷ [])
    ∙ ap₂ (λ x y. x ++ y) (turn 2 ∙ sym (front 0)) (ap₂ (λ x y. x ++ y) (turn 1 ∙ sym (front 1)) (ap (λ x. x ++ []) (turn 0 ∙ sym (front 2))))
    ∙ sym (map-flat_map complement block (0 ∷ 1 ∷ 2 ∷ []))

-- turned digits
pub turned_below : (es : List ℕ) (b n : ℕ) (ts : List ℕ) → length es ≡ n → Digits3 n ts → Digits3 n (turned es b ts)
turned_below [] b zero ts l d = tt
turned_below [] b (suc n) ts l d = absurd (omega arith)
turned_below (e ∷ es) b zero ts l d = absurd (omega arith)
turned_below (e ∷ es) b (suc n) [] l d = d
turned_below (e ∷ es) b (suc n) (t ∷ ts) l d = (mirrored_below (e + b) t d.0, turned_below es (b + t) n ts (omega arith) d.1)

-- P holds of the items of two lists at the same place, as far as both go
abbrev pub Pairs : (ℕ → ℕ → Type 0) → List ℕ → List ℕ → Type 0
Pairs P [] ys = Unit {0}
Pairs P (x ∷ xs) [] = 1 ≤ 0
Pairs P (x ∷ xs) (y ∷ ys) = P x y × Pairs P xs ys

pub Pairs-same : (P : ℕ → ℕ → Type 0) → ((x : ℕ) → P x x) → (xs : List ℕ) → Pairs P xs xs
Pairs-same P h [] = tt
Pairs-same P h (x ∷ xs) = (h x, Pairs-same P h xs)

-- flips and digits before that differ in parity by one, and the complement: the same digits
pub turned_complement : (q : ℕ) (es fs : List ℕ) (b c n : ℕ) (ts : List ℕ) → Pairs (λ e f. (e + f + q) % 2 ≡ 1) es fs → length es ≡ length fs → (b + c + q) % 2 ≡ 0
    → Digits3 n ts → turned es b ts ≡ turned fs c (complement ts)
turned_complement q [] [] b c n ts p l h d = refl
turned_complement q [] (f ∷ fs) b c n ts p l h d = absurd (omega arith)
turned_complement q (e ∷ es) [] b c n ts p l h d = absurd (omega arith)
turned_complement q (e ∷ es) (f ∷ fs) b c n [] p l h d = refl
turned_complement q (e ∷ es) (f ∷ fs) b c zero (t ∷ ts) p l h d = absurd (omega arith)
turned_complement q (e ∷ es) (f ∷ fs) b c (suc n) (t ∷ ts) p l h d =
    ap₂ (λ k ks. k ∷ ks) (mirrored_complement (e + b) (f + c) t d.0 (omega (arith, p.0)))
    (turned_complement q es fs (b + t) (c + (2 - t)) n ts p.1 (omega arith) (omega arith) d.1)

-- turned twice, digits are as they were, also with more behind them
pub turned_twice : (es : List ℕ) (b c n : ℕ) (ts zs : List ℕ) → length es ≡ n → (b + c) % 2 ≡ 0 → Digits3 n ts → turned es b (turned es c ts ++ zs) ≡ ts
turned_twice [] b c zero [] zs l h d = refl
turned_twice [] b c zero (t ∷ ts) zs l h d = absurd (omega arith)
turned_twice [] b c (suc n) ts zs l h d = absurd (omega arith)
turned_twice (e ∷ es) b c zero ts zs l h d = absurd (omega arith)
turned_twice (e ∷ es) b c (suc n) [] zs l h d = absurd (omega arith)
turned_twice (e ∷ es) b c (suc n) (t ∷ ts) zs l h d =
    ap₂ (λ k ks. k ∷ ks) (mirrored_twice (e + b) (e + c) t d.0 (omega arith))
    (turned_twice es (b + mirrored (e + c) t) (c + t) n ts zs (omega arith) (omega (arith, mirrored_parity (e + c) t d.0)) d.1)

-- the parity of their sum stays
pub sum-turned : (es : List ℕ) (b n : ℕ) (ts zs : List ℕ) → length es ≡ n → Digits3 n ts → (sum_of (turned es b (ts ++ zs)) + sum_of ts) % 2 ≡ 0
sum-turned [] b zero [] zs l d = refl
sum-turned [] b zero (t ∷ ts) zs l d = absurd (omega arith)
sum-turned [] b (suc n) ts zs l d = absurd (omega arith)
sum-turned (e ∷ es) b zero ts zs l d = absurd (omega arith)
sum-turned (e ∷ es) b (suc n) [] zs l d = absurd (omega arith)
sum-turned (e ∷ es) b (suc n) (t ∷ ts) zs l d = omega (arith, mirrored_parity (e + b) t d.0, sum-turned es (b + t) n ts zs (omega arith) d.1)

-- a position one further on an axis
abbrev pub up : ℕ → List ℕ → List ℕ
up axis pos = set pos axis (slice_index pos axis + 1)

pub turned_same : (es fs : List ℕ) (b c : ℕ) (ts : List ℕ) → Pairs (λ e f. (e + f) % 2 ≡ 0) es fs → length es ≡ length fs → (b + c) % 2 ≡ 0 → turned es b ts ≡ turned fs c ts
turned_same [] [] b c ts p l h = refl
turned_same [] (f ∷ fs) b c ts p l h = absurd (omega arith)
turned_same (e ∷ es) [] b c ts p l h = absurd (omega arith)
turned_same (e ∷ es) (f ∷ fs) b c [] p l h = refl
turned_same (e ∷ es) (f ∷ fs) b c (t ∷ ts) p l h =
    ap₂ (λ k ks. k ∷ ks) (mirrored_same (e + b) (f + c) t (omega (arith, p.0))) (turned_same es fs (b + t) (c + t) ts p.1 (omega arith) (omega arith))

-- flips that have equal parity on all axes but one
abbrev pub AgreeBut : ℕ → List ℕ → List ℕ → Type 0
AgreeBut axis [] fs = 1 ≤ 0
AgreeBut axis (e ∷ es) [] = 1 ≤ 0
AgreeBut zero (e ∷ es) (f ∷ fs) = ((e + f) % 2 ≡ 1) × Pairs (λ x y. (x + y) % 2 ≡ 0) es fs × (length es ≡ length fs)
AgreeBut (suc axis) (e ∷ es) (f ∷ fs) = ((e + f) % 2 ≡ 0) × AgreeBut axis es fs

-- under such flips the digit on that axis is the complement
pub turned_across-digit : (axis : ℕ) (es fs : List ℕ) (b c n : ℕ) (ts : List ℕ) → AgreeBut axis es fs → length es ≡ n → (b + c) % 2 ≡ 0 → Digits3 n ts
    → slice_index (turned fs c ts) axis ≡ 2 - slice_index (turned es b ts) axis
turned_across-digit axis [] fs b c n ts a l h d = absurd (omega arith)
turned_across-digit axis (e ∷ es) [] b c n ts a l h d = absurd (omega arith)
turned_across-digit axis (e ∷ es) (f ∷ fs) b c zero ts a l h d = absurd (omega arith)
turned_across-digit axis (e ∷ es) (f ∷ fs) b c (suc n) [] a l h d = absurd (omega arith)
turned_across-digit zero (e ∷ es) (f ∷ fs) b c (suc n) (t ∷ ts) a l h d = mirrored_other (e + b) (f + c) t (omega (arith, a.0)) d.0
turned_across-digit (suc axis) (e ∷ es) (f ∷ fs) b c (suc n) (t ∷ ts) a l h d = turned_across-digit axis es fs (b + t) (c + t) n ts a.1 (omega arith) (omega arith) d.1

-- and where it is 2 and 0, the two children are neighbours on that axis, as their parents are
pub turned_across : (axis : ℕ) (es fs : List ℕ) (b c n : ℕ) (ts zs pos : List ℕ) → AgreeBut axis es fs → length es ≡ n → (b + c) % 2 ≡ 0 → Digits3 n ts
    → slice_index (turned es b ts) axis ≡ 2 → finer (up axis pos) (turned fs c ts ++ zs) ≡ up axis (finer pos (turned es b ts ++ zs))
turned_across axis es fs b c n ts zs [] a l h d k = refl
turned_across axis [] fs b c n ts zs (x ∷ pos) a l h d k = absurd (omega arith)
turned_across axis (e ∷ es) [] b c n ts zs (x ∷ pos) a l h d k = absurd (omega arith)
turned_across axis (e ∷ es) (f ∷ fs) b c zero ts zs (x ∷ pos) a l h d k = absurd (omega arith)
turned_across axis (e ∷ es) (f ∷ fs) b c (suc n) [] zs (x ∷ pos) a l h d k = absurd (omega arith)
turned_across zero (e ∷ es) (f ∷ fs) b c (suc n) (t ∷ ts) zs (x ∷ pos) a l h d k =
    ap₂ (λ y ys. y ∷ finer pos (ys ++ zs)) (omega (arith, mirrored_other (e + b) (f + c) t (omega (arith, a.0)) d.0))
    (sym (turned_same es fs (b + t) (c + t) ts a.1 a.2 (omega arith)))
turned_across (suc axis) (e ∷ es) (f ∷ fs) b c (suc n) (t ∷ ts) zs (x ∷ pos) a l h d k =
    ap₂ (λ y ys. (3 * x + y) ∷ ys) (mirrored_same (f + c) (e + b) t (omega (arith, a.0)))
    (turned_across axis es fs (b + t) (c + t) n ts zs pos a.1 (omega arith) (omega arith) d.1 k)

-- the number of turns at the digit behind some digits
abbrev pub turns_at : List ℕ → ℕ → List ℕ → ℕ
turns_at [] b us = 0
turns_at (e ∷ es) b [] = e + b
turns_at (e ∷ es) b (u ∷ us) = turns_at es (b + u) us

pub turned-at : (es : List ℕ) (b n : ℕ) (us : List ℕ) (t : ℕ) (ts : List ℕ) → length es ≡ n → Digits3 n (us ++ t ∷ ts)
    → slice_index (turned es b (us ++ t ∷ ts)) (length us) ≡ mirrored (turns_at es b us) t
turned-at [] b zero [] t ts l d = absurd (omega arith)
turned-at [] b zero (u ∷ us) t ts l d = absurd (omega arith)
turned-at [] b (suc n) us t ts l d = absurd (omega arith)
turned-at (e ∷ es) b n [] t ts l d = refl
turned-at (e ∷ es) b zero (u ∷ us) t ts l d = absurd (omega arith)
turned-at (e ∷ es) b (suc n) (u ∷ us) t ts l d = turned-at es (b + u) n us t ts (omega arith) d.1

-- In a cell, the child at a digit and the child at the next digit with the complement behind it are neighbours:
-- the second is further where the number of turns is even, and else the first.
pub turned_next-even : (es : List ℕ) (b n : ℕ) (us : List ℕ) (t : ℕ) (ts zs pos : List ℕ) → length es ≡ n → Digits3 n (us ++ t ∷ ts) → t < 2 → turns_at es b us % 2 ≡ 0
    → up (length us) (finer pos (turned es b (us ++ t ∷ ts) ++ zs)) ≡ finer pos (turned es b (us ++ (t + 1) ∷ complement ts) ++ zs)
turned_next-even es b n us t ts zs [] l d s h = refl
turned_next-even [] b zero [] t ts zs (x ∷ pos) l d s h = absurd (omega arith)
turned_next-even [] b zero (u ∷ us) t ts zs (x ∷ pos) l d s h = absurd (omega arith)
turned_next-even [] b (suc n) us t ts zs (x ∷ pos) l d s h = absurd (omega arith)
turned_next-even (e ∷ es) b zero us t ts zs (x ∷ pos) l d s h = absurd (omega arith)
turned_next-even (e ∷ es) b (suc n) [] t ts zs (x ∷ pos) l d s h =
    ap₂ (λ y ys. y ∷ finer pos (ys ++ zs)) (omega (arith, mirrored_even (e + b) t h, mirrored_even (e + b) (t + 1) h))
    (turned_complement 1 es es (b + t) (b + (t + 1)) n ts (Pairs-same _ (λ y. omega arith) es) refl (omega arith) d.1)
turned_next-even (e ∷ es) b (suc n) (u ∷ us) t ts zs (x ∷ pos) l d s h =
    ap (λ ys. (3 * x + mirrored (e + b) u) ∷ ys) (turned_next-even es (b + u) n us t ts zs pos (omega arith) d.1 s h)

pub turned_next-odd : (es : List ℕ) (b n : ℕ) (us : List ℕ) (t : ℕ) (ts zs pos : List ℕ) → length es ≡ n → Digits3 n (us ++ t ∷ ts) → t < 2 → turns_at es b us % 2 ≡ 1
    → up (length us) (finer pos (turned es b (us ++ (t + 1) ∷ complement ts) ++ zs)) ≡ finer pos (turned es b (us ++ t ∷ ts) ++ zs)
turned_next-odd es b n us t ts zs [] l d s h = refl
turned_next-odd [] b zero [] t ts zs (x ∷ pos) l d s h = absurd (omega arith)
turned_next-odd [] b zero (u ∷ us) t ts zs (x ∷ pos) l d s h = absurd (omega arith)
turned_next-odd [] b (suc n) us t ts zs (x ∷ pos) l d s h = absurd (omega arith)
turned_next-odd (e ∷ es) b zero us t ts zs (x ∷ pos) l d s h = absurd (omega arith)
turned_next-odd (e ∷ es) b (suc n) [] t ts zs (x ∷ pos) l d s h =
    ap₂ (λ y ys. y ∷ finer pos (ys ++ zs)) (omega (arith, mirrored_odd (e + b) t h, mirrored_odd (e + b) (t + 1) h))
    (sym (turned_complement 1 es es (b + t) (b + (t + 1)) n ts (Pairs-same _ (λ y. omega arith) es) refl (omega arith) d.1))
turned_next-odd (e ∷ es) b (suc n) (u ∷ us) t ts zs (x ∷ pos) l d s h =
    ap (λ ys. (3 * x + mirrored (e + b) u) ∷ ys) (turned_next-odd es (b + u) n us t ts zs pos (omega arith) d.1 s h)
