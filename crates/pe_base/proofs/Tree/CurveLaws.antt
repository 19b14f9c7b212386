-- Laws of the order along the curve.
use Rattle.std.proofs.Common.{◌≡◌, ℕ, zero, suc, ◌+◌, ◌-◌, ◌*◌, ◌/◌, ◌%◌, ◌^◌, ◌<◌, ◌≤◌, List, [], ◌∷◌, ◌++◌, map, length, Some, sym, ap, ◌∙◌, subst, refl, arith, pow-suc, div-add-mod'}
use Rattle.std.specs.Prelude.{slice_get, reverse, All, sum}
use Rattle.std.specs.List.{flat_map}
use Rattle.std.specs.Option.{option_map}
use Rattle.std.proofs.Math.Nat.{one-le-pow}
use Rattle.std.proofs.lemmas.Nat.{div_below, mod_below}
use Rattle.std.proofs.lemmas.List.{length-append, length-map, length-reverse, get_or-reverse}
use Rattle.std.proofs.lemmas.Option.{slice_get-map, slice_get-get_or, get_or_from_slice_get}
use Rattle.std.proofs.lemmas.List.FromFn.{fill_by_all}
use Rattle.std.proofs.lemmas.List.Sums.{sum_by-cons}
use Rattle.std.proofs.lemmas.List.Elements.{All-from_recursion}
use Rattle.pe_base.specs.declared.place.Digits.{Digits}
use Rattle.pe_base.specs.declared.place.Place.{Place}
use Rattle.pe_base.specs.declared.way.Way.{Way}
use Rattle.pe_base.specs.declared.way.Way.TheVariants.{Forward, Inverted}
use Rattle.pe_base.specs.Tree.Places.{IsDigits, child_at, bits}
use Rattle.pe_base.specs.Tree.Curve.{digit_lists, digits_of, turned, along, child_digits, children, flip, flips}
use Rattle.pe_base.proofs.Tree.Mirrors.{Digits3, Each-digits, turned_below}
use Rattle.pe_base.proofs.Tree.PlaceLaws.{IsPosition-padded, length-bits, get_or-bits}

-- the digits of a number in base 3, so many of them, the leading one first
abbrev pub ternary : ℕ → ℕ → List ℕ
ternary zero n = []
ternary (suc k) n = (n / 3 ^ k) ∷ ternary k (n % 3 ^ k)

pub length-ternary : (k n : ℕ) → length (ternary k n) ≡ k
length-ternary zero n = refl
length-ternary (suc k) n = ap suc (length-ternary k (n % 3 ^ k))

pub slice_get-append_left : {X : Type 0} (xs ys : List X) (n : ℕ) → n < length xs → slice_get (xs ++ ys) n ≡ slice_get xs n
slice_get-append_left [] ys n h = absurd (omega arith)
slice_get-append_left (x ∷ xs) ys zero h = refl
slice_get-append_left (x ∷ xs) ys (suc n) h = slice_get-append_left xs ys n (omega arith)

pub slice_get-append_right : {X : Type 0} (xs ys : List X) (n j : ℕ) → n ≡ length xs + j → slice_get (xs ++ ys) n ≡ slice_get ys j
slice_get-append_right [] ys n j e = ap (slice_get ys) (omega arith)
slice_get-append_right (x ∷ xs) ys zero j e = absurd (omega arith)
slice_get-append_right (x ∷ xs) ys (suc n) j e = slice_get-append_right xs ys n j (omega arith)

pub slice_get-reverse : {X : Type 0} (xs : List X) (n : ℕ) → n < length xs → slice_get (reverse xs) n ≡ slice_get xs (length xs - 1 - n)
slice_get-reverse [] n h = absurd (omega arith)
slice_get-reverse (x ∷ xs) n h =
    let inside : n < length (reverse (x ∷ xs)) = omega (arith, length-reverse (x ∷ xs)) in
    let opposite : length (x ∷ xs) - 1 - n < length (x ∷ xs) = omega arith in
    slice_get-get_or (reverse (x ∷ xs)) n x inside ∙ ap Some (get_or-reverse (x ∷ xs) n x h) ∙ sym (slice_get-get_or (x ∷ xs) (length (x ∷ xs) - 1 - n) x opposite)

pub length-digit_lists : (k : ℕ) → length (digit_lists k) ≡ 3 ^ k
length-digit_lists zero = refl
length-digit_lists (suc k) = simp (length-append, length-map) (omega (arith, length-digit_lists k, pow-suc 3 k))

-- three blocks of one length, each with its leading digit
slice_get-block : (ls : List (List ℕ)) (p t r n : ℕ) → length ls ≡ p → r < p → t < 3 → n ≡ t * p + r → slice_get (flat_map (λ t. map (λ ts. t ∷ ts) ls) (0 ∷ 1 ∷ 2 ∷ [])) n ≡ option_map (λ ts. t ∷ ts) (slice_get ls r)
slice_get-block ls p zero r n len h below e =
    slice_get-append_left (map (λ ts. 0 ∷ ts) ls) _ n (omega (arith, length-map ls (λ (ts : List ℕ). 0 ∷ ts)))
    ∙ ap (slice_get (map (λ ts. 0 ∷ ts) ls)) (omega arith) ∙ slice_get-map (λ ts. 0 ∷ ts) ls r
slice_get-block ls p (suc zero) r n len h below e =
    slice_get-append_right (map (λ ts. 0 ∷ ts) ls) _ n r (omega (arith, length-map ls (λ (ts : List ℕ). 0 ∷ ts)))
    ∙ slice_get-append_left (map (λ ts. 1 ∷ ts) ls) _ r (omega (arith, length-map ls (λ (ts : List ℕ). 1 ∷ ts)))
    ∙ slice_get-map (λ ts. 1 ∷ ts) ls r
slice_get-block ls p (suc (suc zero)) r n len h below e =
    slice_get-append_right (map (λ ts. 0 ∷ ts) ls) _ n (p + r) (omega (arith, length-map ls (λ (ts : List ℕ). 0 ∷ ts)))
    ∙ slice_get-append_right (map (λ ts. 1 ∷ ts) ls) _ (p + r) r (omega (arith, length-map ls (λ (ts : List ℕ). 1 ∷ ts)))
    ∙ slice_get-append_left (map (λ ts. 2 ∷ ts) ls) [] r (omega (arith, length-map ls (λ (ts : List ℕ). 2 ∷ ts)))
    ∙ slice_get-map (λ ts. 2 ∷ ts) ls r
slice_get-block ls p (suc (suc (suc t))) r n len h below e = absurd (omega arith)

pub power_positive : (k : ℕ) → 0 < 3 ^ k
power_positive k = one-le-pow k 3 (omega arith)

-- the n-th list of digits is n in base 3
pub slice_get-digit_lists : (k n : ℕ) → n < 3 ^ k → slice_get (digit_lists k) n ≡ Some (ternary k n)
slice_get-digit_lists zero zero h = refl
slice_get-digit_lists zero (suc n) h = absurd (omega arith)
slice_get-digit_lists (suc k) n h =
    let part : 0 < 3 ^ k = power_positive k in
    let rest : n % 3 ^ k < 3 ^ k = mod_below n (3 ^ k) part in
    let whole : n < 3 * 3 ^ k = omega (arith, pow-suc 3 k) in
    let below : n / 3 ^ k < 3 = div_below n (3 ^ k) 3 part whole in
    slice_get-block (digit_lists k) (3 ^ k) (n / 3 ^ k) (n % 3 ^ k) n (length-digit_lists k) rest below (sym (div-add-mod' n (3 ^ k)))
    ∙ ap (option_map (λ ts. (n / 3 ^ k) ∷ ts)) (slice_get-digit_lists k (n % 3 ^ k) rest)

ternary-below : (k n : ℕ) → n < 3 ^ k → Digits3 k (ternary k n)
ternary-below zero n h = tt
ternary-below (suc k) n h =
    let part : 0 < 3 ^ k = power_positive k in
    let whole : n < 3 * 3 ^ k = omega (arith, pow-suc 3 k) in
    (div_below n (3 ^ k) 3 part whole, ternary-below k (n % 3 ^ k) (mod_below n (3 ^ k) part))

-- where a number along the way stands in the forward order
abbrev pub forward_number : ℕ → Way → ℕ → ℕ
forward_number count Forward n = n
forward_number count Inverted n = count - 1 - n

pub slice_get-along : {X : Type 0} (way : Way) (xs : List X) (n : ℕ) → n < length xs → slice_get (along way xs) n ≡ slice_get xs (forward_number (length xs) way n)
slice_get-along Forward xs n h = refl
slice_get-along Inverted xs n h = slice_get-reverse xs n h

pub length-along : {X : Type 0} (way : Way) (xs : List X) → length (along way xs) ≡ length xs
length-along Forward xs = refl
length-along Inverted xs = length-reverse xs

pub length-child_digits : (axes : ℕ) (way : Way) (es : List ℕ) → length (child_digits axes way es) ≡ 3 ^ axes
length-child_digits axes way es =
    length-along way _ ∙ length-map (digit_lists axes) (λ ts. digits_of (turned es 0 ts)) ∙ length-digit_lists axes

pub forward_number-below : (count : ℕ) (way : Way) (n : ℕ) → n < count → forward_number count way n < count
forward_number-below count Forward n h = h
forward_number-below count Inverted n h = omega arith

-- the n-th child's digits
pub slice_get-child_digits : (axes : ℕ) (way : Way) (es : List ℕ) (n : ℕ) → n < 3 ^ axes → slice_get (child_digits axes way es) n ≡ Some (digits_of (turned es 0 (ternary axes (forward_number (3 ^ axes) way n))))
slice_get-child_digits axes way es n h =
    let each = map (λ ts. digits_of (turned es 0 ts)) (digit_lists axes) in
    let len : length each ≡ 3 ^ axes = length-map (digit_lists axes) (λ ts. digits_of (turned es 0 ts)) ∙ length-digit_lists axes in
    slice_get-along way each n (omega arith)
    ∙ ap (λ (count : ℕ). slice_get each (forward_number count way n)) len
    ∙ slice_get-map (λ ts. digits_of (turned es 0 ts)) (digit_lists axes) (forward_number (3 ^ axes) way n)
    ∙ ap (option_map (λ ts. digits_of (turned es 0 ts))) (slice_get-digit_lists axes (forward_number (3 ^ axes) way n) (forward_number-below (3 ^ axes) way n h))

-- the inverted order read from its end
pub slice_get-inverted : (axes : ℕ) (es : List ℕ) (n : ℕ) → n < 3 ^ axes → slice_get (child_digits axes Inverted es) n ≡ slice_get (child_digits axes Forward es) (3 ^ axes - 1 - n)
slice_get-inverted axes es n h =
    slice_get-reverse (child_digits axes Forward es) n (omega (arith, length-child_digits axes Forward es))
    ∙ ap (λ (count : ℕ). slice_get (child_digits axes Forward es) (count - 1 - n)) (length-child_digits axes Forward es)

pub length-turned : (es : List ℕ) (before : ℕ) (ts : List ℕ) → length es ≡ length ts → length (turned es before ts) ≡ length ts
length-turned [] before [] e = refl
length-turned [] before (t ∷ ts) e = absurd (omega arith)
length-turned (e₁ ∷ es) before [] e = refl
length-turned (e₁ ∷ es) before (t ∷ ts) e = ap suc (length-turned es (before + t) ts (omega arith))

-- the digits of a number, turned by flips, lie on the grid's axes
pub IsDigits-turned : (axes : ℕ) (es : List ℕ) (n : ℕ) → length es ≡ axes → axes ≤ 4 → n < 3 ^ axes → IsDigits axes (digits_of (turned es 0 (ternary axes n)))
IsDigits-turned axes es n len within h =
    IsPosition-padded axes 3 (turned es 0 (ternary axes n))
    (length-turned es 0 (ternary axes n) (len ∙ sym (length-ternary axes n)) ∙ length-ternary axes n) within
    (All-from_recursion (λ k. k < 3) _ (Each-digits axes _ (turned_below es 0 axes (ternary axes n) len (ternary-below axes n h))))

-- each child's digits lie on the grid's axes
pub IsDigits-child_digits : (axes : ℕ) (way : Way) (es : List ℕ) → length es ≡ axes → axes ≤ 4 → All (IsDigits axes) (child_digits axes way es)
IsDigits-child_digits axes way es len within n d h =
    let inside : n < 3 ^ axes = omega (arith, length-child_digits axes way es) in
    let number = forward_number (3 ^ axes) way n in
    let P : Digits → Type 0 = IsDigits axes in
    subst P (sym (get_or_from_slice_get (child_digits axes way es) n _ d (slice_get-child_digits axes way es n inside)))
    (IsDigits-turned axes es number len within (forward_number-below (3 ^ axes) way n inside))

-- the n-th child
pub slice_get-children : (axes : ℕ) (way : Way) (cell : Place) (n : ℕ) → slice_get (children axes way cell) n ≡ option_map (child_at cell) (slice_get (child_digits axes way (flips axes cell.pos)) n)
slice_get-children axes way cell n = slice_get-map (child_at cell) (child_digits axes way (flips axes cell.pos)) n

-- flips as the bits of a number
pub bits-flips : (axes n : ℕ) (pos : List ℕ) → ((axis : ℕ) → axis < axes → n / 2 ^ axis % 2 ≡ flip pos axis) → bits axes n ≡ flips axes pos
bits-flips axes n pos same = fill_by_all (flip pos) (bits axes n) axes 0 (length-bits axes n) (λ axis h. get_or-bits axes n axis 0 h ∙ same axis h)

pub sum-cons : (x : ℕ) (xs : List ℕ) → sum (x ∷ xs) ≡ x + sum xs
sum-cons x xs = sum_by-cons (λ x. x) x xs

pub length-children : (axes : ℕ) (way : Way) (cell : Place) → length (children axes way cell) ≡ 3 ^ axes
length-children axes way cell = length-map (child_digits axes way (flips axes cell.pos)) (child_at cell) ∙ length-child_digits axes way (flips axes cell.pos)
