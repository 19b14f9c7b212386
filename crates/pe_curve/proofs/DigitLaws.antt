-- The digits of a child by its number, in space and with four axes, and the flips of a cell as bits.
use Rattle.std.proofs.Common.{◌≡◌, ℕ, zero, suc, ◌+◌, ◌*◌, ◌/◌, ◌%◌, ◌^◌, ◌-◌, ◌<◌, ◌≤◌, List, [], ◌∷◌, drop, set, length, sym, ap, ◌∙◌, refl, ◌⊎◌, inl, inr, arith}
use Rattle.std.specs.Prelude.{Bool, true, false, ◌==◌, if◌then◌else◌, slice_get, slice_index, Some}
use Rattle.std.proofs.lemmas.List.{drop_more, length-set, get_or-set_same}
use Rattle.std.proofs.lemmas.Option.{get_or_from_slice_get, slice_get_within}
use Rattle.pe_base.specs.declared.place.Digits.{Digits}
use Rattle.pe_base.specs.declared.way.Way.{Way}
use Rattle.pe_base.specs.declared.way.Way.TheVariants.{Forward, Inverted}
use Rattle.pe_base.specs.Tree.Places.{bits, padded}
use Rattle.pe_base.specs.Tree.Curve.{flip, mirrored, turned, digits_of, child_digits}
use Rattle.pe_base.proofs.Tree.CurveLaws.{ternary, forward_number, slice_get-child_digits}

-- in space
pub three_digits : (f n a b c : ℕ) → a ≡ mirrored (f % 2) (n / 9) → b ≡ mirrored (f / 2 % 2 + n / 9) (n % 9 / 3) → c ≡ mirrored (f / 4 % 2 + n / 9 + n % 9 / 3) (n % 9 % 3)
    → a ∷ b ∷ c ∷ 0 ∷ [] ≡ padded (turned (bits 3 f) 0 (ternary 3 n))
three_digits f n a b c first second third =
    let one : f / 1 % 2 + 0 ≡ f % 2 = omega arith in
    let two : f / 2 % 2 + (0 + n / 9) ≡ f / 2 % 2 + n / 9 = omega arith in
    let three : f / 4 % 2 + (0 + n / 9 + n % 9 / 3) ≡ f / 4 % 2 + n / 9 + n % 9 / 3 = omega arith in
    let rest : n % 9 % 3 / 1 ≡ n % 9 % 3 = omega arith in
    rw (first, second, third) (sym (rw (one, two, three, rest) refl))

-- with four axes
pub four_digits : (f n a b c d : ℕ) → a ≡ mirrored (f % 2) (n / 27) → b ≡ mirrored (f / 2 % 2 + n / 27) (n % 27 / 9) → c ≡ mirrored (f / 4 % 2 + n / 27 + n % 27 / 9) (n % 27 % 9 / 3)
    → d ≡ mirrored (f / 8 % 2 + n / 27 + n % 27 / 9 + n % 27 % 9 / 3) (n % 27 % 9 % 3) → a ∷ b ∷ c ∷ d ∷ [] ≡ padded (turned (bits 4 f) 0 (ternary 4 n))
four_digits f n a b c d first second third fourth =
    let one : f / 1 % 2 + 0 ≡ f % 2 = omega arith in
    let two : f / 2 % 2 + (0 + n / 27) ≡ f / 2 % 2 + n / 27 = omega arith in
    let three : f / 4 % 2 + (0 + n / 27 + n % 27 / 9) ≡ f / 4 % 2 + n / 27 + n % 27 / 9 = omega arith in
    let four : f / 8 % 2 + (0 + n / 27 + n % 27 / 9 + n % 27 % 9 / 3) ≡ f / 8 % 2 + n / 27 + n % 27 / 9 + n % 27 % 9 / 3 = omega arith in
    let rest : n % 27 % 9 % 3 / 1 ≡ n % 27 % 9 % 3 = omega arith in
    rw (first, second, third, fourth) (sym (rw (one, two, three, four, rest) refl))

-- turned digits are those of a child
pub turned_child : (axes f n : ℕ) (k : List ℕ) → n < 3 ^ axes → k ≡ padded (turned (bits axes f) 0 (ternary axes n)) → slice_get (child_digits axes Forward (bits axes f)) n ≡ Some (record { k = k })
turned_child axes f n k within is = slice_get-child_digits axes Forward (bits axes f) n within ∙ ap (λ (ks : List ℕ). Some (record { k = ks })) (sym is)

-- each flip is its bit
pub flip-bit : (x y z w axis : ℕ) → axis < 4 → ((y + z + w) % 2 + 2 * ((x + z + w) % 2) + 4 * ((x + y + w) % 2) + 8 * ((x + y + z) % 2)) / 2 ^ axis % 2 ≡ flip (x ∷ y ∷ z ∷ w ∷ []) axis
flip-bit x y z w zero h = omega arith
flip-bit x y z w (suc zero) h = omega arith
flip-bit x y z w (suc (suc zero)) h = omega arith
flip-bit x y z w (suc (suc (suc zero))) h = omega arith
flip-bit x y z w (suc (suc (suc (suc axis)))) h = absurd (omega arith)

-- the rest of a list from a member on
pub drop-slice_get : {X : Type 0} (xs : List X) (n : ℕ) (x : X) → slice_get xs n ≡ Some x → drop n xs ≡ x ∷ drop (n + 1) xs
drop-slice_get xs n x e =
    drop_more xs n x (slice_get_within xs n x e) ∙ ap (λ y. y ∷ drop (n + 1) xs) (get_or_from_slice_get xs n x x e)

-- # Along a row

-- the turns of the last digit, for the children of the row of a number
abbrev turns_of : ℕ → ℕ → ℕ → ℕ
turns_of axes f n = f / 2 ^ (axes - 1) % 2 + (n / 27 + n % 27 / 9 + n % 9 / 3)

-- along a row only the last digit changes
row_digits : (axes f n t : ℕ) → 2 ≤ axes → axes ≤ 4 → n < 3 ^ axes → n % 3 ≡ 0 → t < 3
    → padded (turned (bits axes f) 0 (ternary axes (n + t))) ≡ set (padded (turned (bits axes f) 0 (ternary axes n))) (axes - 1) (mirrored (turns_of axes f n) t)
row_digits (suc (suc zero)) f n t low high within first few =
    let a : (n + t) / 3 ≡ n / 3 = omega arith in
    let b : (n + t) % 3 / 1 ≡ t = omega arith in
    let s : f / 2 % 2 + (0 + n / 3) ≡ f / 2 % 2 + (n / 27 + n % 27 / 9 + n % 9 / 3) = omega arith in
    rw (a, b, s) refl
row_digits (suc (suc (suc zero))) f n t low high within first few =
    let a : (n + t) / 9 ≡ n / 9 = omega arith in
    let b : (n + t) % 9 / 3 ≡ n % 9 / 3 = omega arith in
    let c : (n + t) % 9 % 3 / 1 ≡ t = omega arith in
    let s : f / 4 % 2 + (0 + n / 9 + n % 9 / 3) ≡ f / 4 % 2 + (n / 27 + n % 27 / 9 + n % 9 / 3) = omega arith in
    rw (a, b, c, s) refl
row_digits (suc (suc (suc (suc zero)))) f n t low high within first few =
    let a : (n + t) / 27 ≡ n / 27 = omega arith in
    let b : (n + t) % 27 / 9 ≡ n % 27 / 9 = omega arith in
    let c : (n + t) % 27 % 9 / 3 ≡ n % 27 % 9 / 3 = omega arith in
    let d : (n + t) % 27 % 9 % 3 / 1 ≡ t = omega arith in
    let s : f / 8 % 2 + (0 + n / 27 + n % 27 / 9 + n % 27 % 9 / 3) ≡ f / 8 % 2 + (n / 27 + n % 27 / 9 + n % 9 / 3) = omega arith in
    rw (a, b, c, d, s) refl
row_digits zero f n t low high within first few = absurd (omega arith)
row_digits (suc zero) f n t low high within first few = absurd (omega arith)
row_digits (suc (suc (suc (suc (suc axes))))) f n t low high within first few = absurd (omega arith)

set-set : (xs : List ℕ) (i x y : ℕ) → set (set xs i x) i y ≡ set xs i y
set-set [] i x y = refl
set-set (z ∷ xs) zero x y = refl
set-set (z ∷ xs) (suc i) x y = ap (λ (ys : List ℕ). z ∷ ys) (set-set xs i x y)

middle : (u : ℕ) → mirrored u 1 ≡ 1
middle u = at (u % 2 == 0)
  where
    at : (even : Bool) → (if even then 1 else (2 - 1)) ≡ 1
    at true = refl
    at false = refl

opposite : (u a : ℕ) → 2 - mirrored u a ≡ mirrored u (2 - a)
opposite u a = at (u % 2 == 0)
  where
    at : (even : Bool) → 2 - (if even then a else (2 - a)) ≡ (if even then (2 - a) else (2 - (2 - a)))
    at true = refl
    at false = refl

-- the last digit some steps behind the first of a row
abbrev pub IsStepped : ℕ → ℕ → ℕ → Type 0
IsStepped first steps k = (steps ≡ 0 → k ≡ first) × (steps ≡ 1 → k ≡ 1) × (steps ≡ 2 → k ≡ 2 - first)

stepped : (u a b x steps k : ℕ) → steps < 3 → (a ≡ 0) ⊎ (a ≡ 2) → (a ≡ 0 → b ≡ steps) → (a ≡ 2 → b ≡ 2 - steps) → x ≡ mirrored u a → IsStepped x steps k → k ≡ mirrored u b
stepped u a b x zero k few ends up down x_is is =
    let same : a ≡ b = elim ends [ inl e ↦ omega (arith, up e) | inr e ↦ omega (arith, down e) ] in
    is.0 refl ∙ x_is ∙ ap (mirrored u) same
stepped u a b x (suc zero) k few ends up down x_is is =
    let one : 1 ≡ b = elim ends [ inl e ↦ omega (arith, up e) | inr e ↦ omega (arith, down e) ] in
    is.1 refl ∙ sym (middle u) ∙ ap (mirrored u) one
stepped u a b x (suc (suc zero)) k few ends up down x_is is =
    let other : 2 - a ≡ b = elim ends [ inl e ↦ omega (arith, up e) | inr e ↦ omega (arith, down e) ] in
    is.2 refl ∙ ap (λ (n : ℕ). 2 - n) x_is ∙ opposite u a ∙ ap (mirrored u) other
stepped u a b x (suc (suc (suc steps))) k few ends up down x_is is = absurd (omega arith)

-- from one digit of a row to another, by the number of the row's first child in forward order
moved : (axes f n a b steps k : ℕ) (first : List ℕ) → 2 ≤ axes → axes ≤ 4 → n < 3 ^ axes → n % 3 ≡ 0 → steps < 3 → length first ≡ 4 → (a ≡ 0) ⊎ (a ≡ 2) → (a ≡ 0 → b ≡ steps) → (a ≡ 2 → b ≡ 2 - steps) → b < 3
    → first ≡ padded (turned (bits axes f) 0 (ternary axes (n + a))) → IsStepped (slice_index first (axes - 1)) steps k
    → padded (turned (bits axes f) 0 (ternary axes (n + b))) ≡ set first (axes - 1) k
moved axes f n a b steps k first low high within begins few long ends up down small is stepped_is =
    let base = padded (turned (bits axes f) 0 (ternary axes n)) in
    let u = turns_of axes f n in
    let low_a : a < 3 = elim ends [ inl e ↦ omega (arith, e) | inr e ↦ omega (arith, e) ] in
    let from : first ≡ set base (axes - 1) (mirrored u a) = is ∙ row_digits axes f n a low high within begins low_a in
    let four : length base ≡ 4 = sym (length-set base (axes - 1) (mirrored u a)) ∙ ap (length {A = ℕ}) (sym from) ∙ long in
    let last : slice_index first (axes - 1) ≡ mirrored u a = ap (λ (xs : List ℕ). slice_index xs (axes - 1)) from ∙ get_or-set_same base (axes - 1) (mirrored u a) 0 (omega arith) in
    let digit : k ≡ mirrored u b = stepped u a b (slice_index first (axes - 1)) steps k few ends up down last stepped_is in
    row_digits axes f n b low high within begins small ∙ ap (set base (axes - 1)) (sym digit) ∙ sym (set-set base (axes - 1) (mirrored u a) k)
    ∙ ap (λ (xs : List ℕ). set xs (axes - 1) k) (sym from)

in_forward : (axes : ℕ) (way : Way) (es : List ℕ) (n : ℕ) (digits : Digits) → n < 3 ^ axes → slice_get (child_digits axes way es) n ≡ Some digits → digits.k ≡ padded (turned es 0 (ternary axes (forward_number (3 ^ axes) way n)))
in_forward axes way es n digits within at =
    let found : Some digits ≡ Some (digits_of (turned es 0 (ternary axes (forward_number (3 ^ axes) way n)))) = sym at ∙ slice_get-child_digits axes way es n within in
    let same : digits ≡ digits_of (turned es 0 (ternary axes (forward_number (3 ^ axes) way n))) = cc in
    ap (λ (d : Digits). d.k) same

pub thirds : (axes : ℕ) → 2 ≤ axes → axes ≤ 4 → 3 ^ axes % 3 ≡ 0
thirds (suc (suc zero)) low high = refl
thirds (suc (suc (suc zero))) low high = refl
thirds (suc (suc (suc (suc zero)))) low high = refl
thirds zero low high = absurd (omega arith)
thirds (suc zero) low high = absurd (omega arith)
thirds (suc (suc (suc (suc (suc axes))))) low high = absurd (omega arith)

-- the digits of a child, by those of the first of its row
pub row_child : (axes : ℕ) (way : Way) (f n steps k : ℕ) (first : Digits) → 2 ≤ axes → axes ≤ 4 → n % 3 ≡ 0 → n + 2 < 3 ^ axes → steps < 3 → length first.k ≡ 4 → IsStepped (slice_index first.k (axes - 1)) steps k
    → slice_get (child_digits axes way (bits axes f)) n ≡ Some first → slice_get (child_digits axes way (bits axes f)) (n + steps) ≡ Some (record { k = set first.k (axes - 1) k })
row_child axes Forward f n steps k first low high begins within few long is at =
    let from : first.k ≡ padded (turned (bits axes f) 0 (ternary axes (n + 0))) =
    in_forward axes Forward (bits axes f) n first (omega arith) at ∙ ap (λ (m : ℕ). padded (turned (bits axes f) 0 (ternary axes m))) (omega arith) in
    slice_get-child_digits axes Forward (bits axes f) (n + steps) (omega arith)
    ∙ ap (λ (ks : List ℕ). Some (record { k = ks })) (moved axes f n 0 steps steps k first.k low high (omega arith) begins few long (inl refl) (λ e. refl) (λ e. absurd (omega arith)) few from is)
row_child axes Inverted f n steps k first low high begins within few long is at =
    let base = 3 ^ axes - 3 - n in
    let whole : base % 3 ≡ 0 = omega (arith, thirds axes low high) in
    let from : first.k ≡ padded (turned (bits axes f) 0 (ternary axes (base + 2))) =
    in_forward axes Inverted (bits axes f) n first (omega arith) at ∙ ap (λ (m : ℕ). padded (turned (bits axes f) 0 (ternary axes m))) (omega arith) in
    slice_get-child_digits axes Inverted (bits axes f) (n + steps) (omega arith)
    ∙ ap (λ (m : ℕ). Some (digits_of (turned (bits axes f) 0 (ternary axes m)))) (omega arith)
    ∙ ap (λ (ks : List ℕ). Some (record { k = ks })) (moved axes f base 2 (2 - steps) steps k first.k low high (omega arith) whole few long (inr refl) (λ e. absurd (omega arith)) (λ e. refl) (omega arith) from is)
