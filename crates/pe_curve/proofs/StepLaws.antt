-- From one child to the next along the curve: by how many children come before one, as its digits tell it.
use Rattle.std.proofs.Common.{◌≡◌, ◌≢◌, ℕ, zero, suc, ◌+◌, ◌-◌, ◌*◌, ◌/◌, ◌%◌, ◌^◌, ◌<◌, ◌≤◌, ◌⊎◌, Bool, true, false, not, List, [], ◌∷◌, map, length, take, set, replicate, refl, sym, ap, ap₂, ◌∙◌, subst, inl, inr, arith, pow-suc, mul-le-mul_right, div-add-mod'}
use Rattle.std.specs.Prelude.{◌==◌, nat_lt, if◌then◌else◌, IsTrue, sum, slice_get, slice_index, Some}
use Rattle.std.specs.Option.{option_map}
use Rattle.std.proofs.lemmas.Nat.{div-mul-add, mod_below}
use Rattle.std.proofs.lemmas.Bool.Decides.{nat_tests}
use Rattle.std.proofs.lemmas.Option.{slice_get-map, get_or_from_slice_get}
use Rattle.std.proofs.lemmas.List.{length-set, length-take-le, get_or-set_same, get_or-set_other, get_or-take, take-set-le}
use Rattle.std.proofs.Math.Seq.{take-set-lt}
use Rattle.std.proofs.lemmas.List.Sums.{sum_by-set}
use Rattle.std.proofs.lemmas.Bool.{cases_lt}
use Rattle.std.proofs.lemmas.List.Elements.{All-from_recursion}
use Rattle.pe_base.specs.declared.place.Digits.{Digits}
use Rattle.pe_base.specs.declared.way.Way.{Way}
use Rattle.pe_base.specs.declared.way.Way.TheVariants.{Forward, Inverted}
use Rattle.pe_base.specs.Tree.Places.{IsDigits}
use Rattle.pe_base.specs.Tree.Curve.{digit_lists, digits_of, mirrored, turned, child_digits}
use Rattle.pe_base.specs.Steps.Routes.{way_turns}
use Rattle.pe_base.proofs.Lists.{Each-weaker, map-map, map_same, map-reverse}
use Rattle.pe_base.proofs.Tree.Mirrors.{Digits3, complement, digit_lists_below, reverse-digit_lists, Pairs-same, turned_complement, turned_twice, mirrored_below, mirrored_twice, mirrored_parity}
use Rattle.pe_base.proofs.Tree.CurveLaws.{ternary, length-digit_lists, slice_get-digit_lists, power_positive, sum-cons}
use Rattle.pe_base.proofs.Tree.Ranks.{value}
use Rattle.pe_base.proofs.Steps.RouteLaws.{padded-front}
use Rattle.pe_curve.specs.declared.step.Step.{Step}
use Rattle.pe_curve.specs.Steps.{IsStep, IsAdvanced, CanAdvance, goes_up, turns_to, can_move, moved_digit, moves_along}

-- # A child's number

-- the order in either way, by the turns of the way
digits_are : (axes : ℕ) (way : Way) (es : List ℕ) → child_digits axes way es ≡ map (λ ts. digits_of (turned es (way_turns way) ts)) (digit_lists axes)
digits_are axes Forward es = refl
digits_are axes Inverted es =
    let g = λ (ts : List ℕ). digits_of (turned es 0 ts) in
    sym (map-reverse g (digit_lists axes)) ∙ ap (map g) (reverse-digit_lists axes) ∙ map-map g complement (digit_lists axes)
    ∙ map_same _ _ (digit_lists axes) (Each-weaker (Digits3 axes) _
    (λ ts d. ap digits_of (sym (turned_complement 1 es es 1 0 axes ts (Pairs-same (λ e f. (e + f + 1) % 2 ≡ 1) (λ e. omega arith) es) refl refl d)))
    (digit_lists axes) (digit_lists_below axes))

nth_digits : (axes : ℕ) (way : Way) (es : List ℕ) (n : ℕ) → n < 3 ^ axes → slice_get (child_digits axes way es) n ≡ Some (digits_of (turned es (way_turns way) (ternary axes n)))
nth_digits axes way es n h =
    ap (λ (ds : List Digits). slice_get ds n) (digits_are axes way es) ∙ slice_get-map (λ ts. digits_of (turned es (way_turns way) ts)) (digit_lists axes) n
    ∙ ap (option_map (λ ts. digits_of (turned es (way_turns way) ts))) (slice_get-digit_lists axes n h)

value-ternary : (k n : ℕ) → n < 3 ^ k → value k (ternary k n) ≡ n
value-ternary zero n h = omega arith
value-ternary (suc k) n h =
    ap (λ (r : ℕ). n / 3 ^ k * 3 ^ k + r) (value-ternary k (n % 3 ^ k) (mod_below n (3 ^ k) (power_positive k))) ∙ div-add-mod' n (3 ^ k)

value_below : (k : ℕ) (ts : List ℕ) → Digits3 k ts → value k ts < 3 ^ k
value_below zero ts d = omega arith
value_below (suc k) [] d = absurd (omega arith)
value_below (suc k) (t ∷ ts) d =
    let few : t ≤ 2 = omega (arith, d.0) in
    omega (arith, value_below k ts d.1, mul-le-mul_right (3 ^ k) few, pow-suc 3 k)

ternary-value : (k : ℕ) (ts : List ℕ) → Digits3 k ts → ternary k (value k ts) ≡ ts
ternary-value zero [] d = refl
ternary-value zero (t ∷ ts) d = absurd (omega arith)
ternary-value (suc k) [] d = absurd (omega arith)
ternary-value (suc k) (t ∷ ts) d =
    let p = 3 ^ k in
    let v = value k ts in
    let first : (t * p + v) / p ≡ t = div-mul-add t p v (value_below k ts d.1) in
    let rest : (t * p + v) % p ≡ v = omega (arith, div-add-mod' (t * p + v) p, ap (λ (q : ℕ). q * p) first) in
    ap₂ (λ (a m : ℕ). a ∷ ternary k m) first rest ∙ ap (λ us. t ∷ us) (ternary-value k ts d.1)

-- some digits at the head of a list
abbrev BeginsWith3 : ℕ → List ℕ → Type 0
BeginsWith3 n ks = (n ≤ length ks) × ((i : ℕ) → i < n → slice_index ks i < 3)

turned_back : (es : List ℕ) (b c n : ℕ) (ks : List ℕ) → length es ≡ n → (b + c) % 2 ≡ 0 → BeginsWith3 n ks → turned es b (turned es c ks) ≡ take n ks
turned_back [] b c zero ks l h d = refl
turned_back [] b c (suc n) ks l h d = absurd (omega arith)
turned_back (e ∷ es) b c zero ks l h d = absurd (omega arith)
turned_back (e ∷ es) b c (suc n) [] l h d = absurd (omega (arith, d.0))
turned_back (e ∷ es) b c (suc n) (k ∷ ks) l h d =
    let few : k < 3 = d.1 0 (omega arith) in
    ap₂ (λ (x : ℕ) (xs : List ℕ). x ∷ xs) (mirrored_twice (e + b) (e + c) k few (omega arith))
    (turned_back es (b + mirrored (e + c) k) (c + k) n ks (omega arith) (omega (arith, mirrored_parity (e + c) k few)) (omega (arith, d.0), λ i within. d.1 (suc i) (omega arith)))

turned_digits : (es : List ℕ) (b n : ℕ) (ks : List ℕ) → length es ≡ n → BeginsWith3 n ks → Digits3 n (turned es b ks)
turned_digits [] b zero ks l d = tt
turned_digits [] b (suc n) ks l d = absurd (omega arith)
turned_digits (e ∷ es) b zero ks l d = absurd (omega arith)
turned_digits (e ∷ es) b (suc n) [] l d = absurd (omega (arith, d.0))
turned_digits (e ∷ es) b (suc n) (k ∷ ks) l d =
    (mirrored_below (e + b) k (d.1 0 (omega arith)), turned_digits es (b + k) n ks (omega arith) (omega (arith, d.0), λ i within. d.1 (suc i) (omega arith)))

even_turns : (way : Way) → (way_turns way + way_turns way) % 2 ≡ 0
even_turns Forward = refl
even_turns Inverted = refl

-- how many children come before one
abbrev number_of : ℕ → Way → List ℕ → Digits → ℕ
number_of axes way es digits = value axes (turned es (way_turns way) digits.k)

ternary_digits : (axes n : ℕ) → n < 3 ^ axes → Digits3 axes (ternary axes n)
ternary_digits axes n h =
    subst (Digits3 axes) (get_or_from_slice_get (digit_lists axes) n (ternary axes n) (ternary axes n) (slice_get-digit_lists axes n h))
    (All-from_recursion (Digits3 axes) (digit_lists axes) (digit_lists_below axes) n (ternary axes n) (omega (arith, length-digit_lists axes)))

-- the n-th child has that number
number_is : (axes : ℕ) (way : Way) (es : List ℕ) (n : ℕ) (digits : Digits) → length es ≡ axes → n < 3 ^ axes → slice_get (child_digits axes way es) n ≡ Some digits → number_of axes way es digits ≡ n
number_is axes way es n digits len h at =
    let ts = ternary axes n in
    let t = way_turns way in
    let found : Some digits ≡ Some (digits_of (turned es t ts)) = sym at ∙ nth_digits axes way es n h in
    let same : digits ≡ digits_of (turned es t ts) = cc in
    ap (number_of axes way es) same
    ∙ ap (value axes) (turned_twice es t t axes ts (replicate (4 - length (turned es t ts)) 0) len (even_turns way) (ternary_digits axes n h))
    ∙ value-ternary axes n h

begins : (axes : ℕ) (digits : Digits) → axes ≤ 4 → IsDigits axes digits → BeginsWith3 axes digits.k
begins axes digits few fit = (omega (arith, fit.four), fit.inside)

-- and the child with that number is that one
at_number : (axes : ℕ) (way : Way) (es : List ℕ) (digits : Digits) → length es ≡ axes → axes ≤ 4 → IsDigits axes digits → slice_get (child_digits axes way es) (number_of axes way es digits) ≡ Some digits
at_number axes way es digits len few fit =
    let t = way_turns way in
    let ts = turned es t digits.k in
    let below : Digits3 axes ts = turned_digits es t axes digits.k len (begins axes digits few fit) in
    nth_digits axes way es (value axes ts) (value_below axes ts below)
    ∙ ap (λ us. Some (digits_of (turned es t us))) (ternary-value axes ts below)
    ∙ ap (λ ks. Some (digits_of ks)) (turned_back es t t axes digits.k len (even_turns way) (begins axes digits few fit))
    ∙ ap (λ ks. Some (let d : Digits = record { k = ks } in d)) (sym (padded-front axes 3 digits.k few fit))

-- # The next child

-- the directions of some axes, and whether they can go on
abbrev AreUps : ℕ → ℕ → List ℕ → List ℕ → (ℕ → Bool) → Type 0
AreUps n turns es ks ups = (i : ℕ) → i < n → ups i ≡ (turns_to turns es ks i % 2 == 0)

ups_behind : (n turns e k : ℕ) (es ks : List ℕ) (ups : ℕ → Bool) → AreUps (suc n) turns (e ∷ es) (k ∷ ks) ups → AreUps n (turns + k) es ks (λ i. ups (suc i))
ups_behind n turns e k es ks ups are i within =
    are (suc i) (omega arith) ∙ ap (λ (m : ℕ). m % 2 == 0) (let same : turns + slice_index es i + sum (k ∷ take i ks) ≡ turns + k + slice_index es i + sum (take i ks) = omega (arith, sum-cons k (take i ks)) in same)

top_digit : (turns e k : ℕ) (up : Bool) → k < 3 → up ≡ ((turns + e + 0) % 2 == 0) → can_move up k ≡ false → mirrored (e + turns) k ≡ 2
top_digit turns e k up few is stuck = grind (arith, nat_tests)

low_digit : (turns e k : ℕ) (up : Bool) → k < 3 → not up ≡ ((turns + e + 0) % 2 == 0) → can_move up k ≡ false → mirrored (e + turns) k ≡ 0
low_digit turns e k up few is stuck = grind (arith, nat_tests)

next_digit : (turns e k : ℕ) (up : Bool) → k < 3 → up ≡ ((turns + e + 0) % 2 == 0) → IsTrue (can_move up k) → mirrored (e + turns) (moved_digit up k) ≡ mirrored (e + turns) k + 1
next_digit turns e k up few is can = grind (arith, nat_tests)

moved_below : (k : ℕ) (up : Bool) → k < 3 → IsTrue (can_move up k) → moved_digit up k < 3
moved_below k up few can = grind (arith, nat_tests)

moved_odd : (k : ℕ) (up : Bool) → IsTrue (can_move up k) → (k + moved_digit up k) % 2 ≡ 1
moved_odd k up can = grind (arith, nat_tests)

other_way : (a b : ℕ) (up : Bool) → up ≡ (a % 2 == 0) → (a + b) % 2 ≡ 1 → not up ≡ (b % 2 == 0)
other_way a b up is odd = grind (arith, nat_tests)

-- where no axis can go on, no child comes behind
highest : (n turns : ℕ) (es ks : List ℕ) (ups : ℕ → Bool) → length es ≡ n → BeginsWith3 n ks → AreUps n turns es ks ups → ((i : ℕ) → i < n → can_move (ups i) (slice_index ks i) ≡ false) → value n (turned es turns ks) + 1 ≡ 3 ^ n
highest zero turns es ks ups l d are stuck = omega arith
highest (suc n) turns [] ks ups l d are stuck = absurd (omega arith)
highest (suc n) turns (e ∷ es) [] ups l d are stuck = absurd (omega (arith, d.0))
highest (suc n) turns (e ∷ es) (k ∷ ks) ups l d are stuck =
    let top = top_digit turns e k (ups 0) (d.1 0 (omega arith)) (are 0 (omega arith)) (stuck 0 (omega arith)) in
    let rest = highest n (turns + k) es ks (λ i. ups (suc i)) (omega arith) (omega (arith, d.0), λ i within. d.1 (suc i) (omega arith)) (ups_behind n turns e k es ks ups are) (λ i within. stuck (suc i) (omega arith)) in
    omega (arith, rest, ap (λ (m : ℕ). m * 3 ^ n) top, pow-suc 3 n)

-- and with each axis turned over none comes before
lowest : (n turns : ℕ) (es ks : List ℕ) (ups : ℕ → Bool) → length es ≡ n → BeginsWith3 n ks → AreUps n turns es ks (λ i. not (ups i)) → ((i : ℕ) → i < n → can_move (ups i) (slice_index ks i) ≡ false) → value n (turned es turns ks) ≡ 0
lowest zero turns es ks ups l d are stuck = refl
lowest (suc n) turns [] ks ups l d are stuck = absurd (omega arith)
lowest (suc n) turns (e ∷ es) [] ups l d are stuck = absurd (omega (arith, d.0))
lowest (suc n) turns (e ∷ es) (k ∷ ks) ups l d are stuck =
    let low = low_digit turns e k (ups 0) (d.1 0 (omega arith)) (are 0 (omega arith)) (stuck 0 (omega arith)) in
    let rest = lowest n (turns + k) es ks (λ i. ups (suc i)) (omega arith) (omega (arith, d.0), λ i within. d.1 (suc i) (omega arith)) (ups_behind n turns e k es ks (λ i. not (ups i)) are) (λ i within. stuck (suc i) (omega arith)) in
    omega (arith, rest, ap (λ (m : ℕ). m * 3 ^ n) low)

-- where an axis moves and none behind it can, one child more comes before
next_number : (n turns m : ℕ) (es ks : List ℕ) (ups : ℕ → Bool) → length es ≡ n → BeginsWith3 n ks → AreUps n turns es ks ups → m < n → IsTrue (can_move (ups m) (slice_index ks m))
    → ((i : ℕ) → m < i → i < n → can_move (ups i) (slice_index ks i) ≡ false)
    → value n (turned es turns (set ks m (moved_digit (ups m) (slice_index ks m)))) ≡ value n (turned es turns ks) + 1
next_number zero turns m es ks ups l d are within can still = absurd (omega arith)
next_number (suc n) turns m [] ks ups l d are within can still = absurd (omega arith)
next_number (suc n) turns m (e ∷ es) [] ups l d are within can still = absurd (omega (arith, d.0))
next_number (suc n) turns zero (e ∷ es) (k ∷ ks) ups l d are within can still =
    let k' = moved_digit (ups 0) k in
    let begin : BeginsWith3 n ks = (omega (arith, d.0), λ i below. d.1 (suc i) (omega arith)) in
    let behind = ups_behind n turns e k es ks ups are in
    let odd = moved_odd k (ups 0) can in
    let one = next_digit turns e k (ups 0) (d.1 0 (omega arith)) (are 0 (omega arith)) can in
    let last = highest n (turns + k) es ks (λ i. ups (suc i)) (omega arith) begin behind (λ i below. still (suc i) (omega arith) (omega arith)) in
    let first = lowest n (turns + k') es ks (λ i. ups (suc i)) (omega arith) begin
    (λ i below. other_way (turns_to (turns + k) es ks i) (turns_to (turns + k') es ks i) (ups (suc i)) (behind i below) (omega (arith, odd)))
    (λ i below. still (suc i) (omega arith) (omega arith)) in
    omega (arith, last, first, ap (λ (x : ℕ). x * 3 ^ n) one)
next_number (suc n) turns (suc m) (e ∷ es) (k ∷ ks) ups l d are within can still =
    let rest = next_number n (turns + k) m es ks (λ i. ups (suc i)) (omega arith) (omega (arith, d.0), λ i below. d.1 (suc i) (omega arith)) (ups_behind n turns e k es ks ups are) (omega arith) can (λ i far below. still (suc i) (omega arith) (omega arith)) in
    omega (arith, rest)

-- the turns of an axis, where a digit has changed
turns_before : (turns m k i : ℕ) (es ks : List ℕ) → i ≤ m → turns_to turns es (set ks m k) i ≡ turns_to turns es ks i
turns_before turns m k i es ks low = ap (λ xs. turns + slice_index es i + sum xs) (take-set-le i ks m k low)

turns_behind : (turns m k i : ℕ) (es ks : List ℕ) → m < i → i ≤ length ks → turns_to turns es (set ks m k) i + slice_index ks m ≡ turns_to turns es ks i + k
turns_behind turns m k i es ks far within =
    let front : m < length (take i ks) = omega (arith, length-take-le i ks within) in
    let sums = sum_by-set (λ (x : ℕ). x) (take i ks) m k 0 front in
    let digit : slice_index (take i ks) m ≡ slice_index ks m = get_or-take i ks m 0 far in
    let taken : sum (take i (set ks m k)) ≡ sum (set (take i ks) m k) = ap (λ xs. sum xs) (take-set-lt i ks m k far) in
    omega (arith, sums, digit, taken)

-- the child behind a child
pub advanced : (axes : ℕ) (way : Way) (es : List ℕ) (n axis : ℕ) (old new : Step) → axes ≤ 4 → length es ≡ axes → n + 1 < 3 ^ axes → IsStep axes way es n old → IsAdvanced axes old axis new → IsStep axes way es (n + 1) new
advanced axes way es n axis old new few len h is to =
    let t = way_turns way in
    let ks = old.digits.k in
    let k' = moved_digit (goes_up old axis) (slice_index ks axis) in
    let below : k' < 3 = moved_below (slice_index ks axis) (goes_up old axis) (is.digits.inside axis to.within) to.can in
    let within : axis < length ks = omega (arith, is.digits.four, to.within) in
    let changed : IsDigits axes (record { k = set ks axis k' }) = record {
      four = length-set ks axis k' ∙ is.digits.four;
      inside = λ i low. elim (nat_cases i axis) [
        | inl same ↦ omega (arith, ap (λ (j : ℕ). slice_index (set ks axis k') j) same, get_or-set_same ks axis k' 0 within)
        | inr other ↦ omega (arith, get_or-set_other ks axis i k' 0 other, is.digits.inside i low)
      ];
      rest = λ i past. get_or-set_other ks axis i k' 0 (λ e. omega (arith, to.within)) ∙ is.digits.rest i past;
    } in
    let fit : IsDigits axes new.digits = subst (λ xs. IsDigits axes (record { k = xs })) (sym to.digits) changed in
    let number : number_of axes way es new.digits ≡ n + 1 =
    ap (λ xs. value axes (turned es t xs)) to.digits
    ∙ next_number axes t axis es ks (goes_up old) len (begins axes old.digits few is.digits) is.ups to.within to.can to.still
    ∙ ap (λ (m : ℕ). m + 1) (number_is axes way es n old.digits len (omega arith) is.nth) in
    record {
      digits = fit;
      nth = subst (λ m. slice_get (child_digits axes way es) m ≡ Some new.digits) number (at_number axes way es new.digits len few fit);
      ups = λ i low. elim (cases_lt axis i) [
        | inl far ↦
            to.behind i far low
            ∙ other_way (turns_to t es ks i) (turns_to t es (set ks axis k') i) (goes_up old i) (is.ups i low)
            (omega (arith, turns_behind t axis k' i es ks far (omega (arith, is.digits.four)), moved_odd (slice_index ks axis) (goes_up old axis) to.can))
            ∙ ap (λ xs. turns_to t es xs i % 2 == 0) (sym to.digits)
        | inr near ↦
            to.before i near ∙ is.ups i low
            ∙ ap (λ (m : ℕ). m % 2 == 0) (sym (turns_before t axis k' i es ks near))
            ∙ ap (λ xs. turns_to t es xs i % 2 == 0) (sym to.digits)
      ];
    }
  where
    nat_cases : (i j : ℕ) → (i ≡ j) ⊎ (i ≢ j)
    nat_cases i j = elim (cases_lt i j) [
      | inl less ↦ inr (λ e. omega arith)
      | inr more ↦ elim (cases_lt j i) [ inl far ↦ inr (λ e. omega arith) | inr near ↦ inl (omega arith) ]
    ]

-- where the last axis cannot move, it turns over, and one before it moves
pub turned_on : (axes axis : ℕ) (old mid new : Step) → moves_along old (axes - 1) ≡ false → mid.digits ≡ old.digits → ((i : ℕ) → i ≢ axes - 1 → goes_up mid i ≡ goes_up old i) → goes_up mid (axes - 1) ≡ not (goes_up old (axes - 1))
    → IsAdvanced (axes - 1) mid axis new → IsAdvanced axes old axis new
turned_on axes axis old mid new stuck digits same turned to =
    let moves : (i : ℕ) → i ≢ axes - 1 → moves_along mid i ≡ moves_along old i =
    λ i other. ap₂ (λ (u : Bool) (d : Digits). can_move u (slice_index d.k i)) (same i other) digits in
    let apart : axis ≢ axes - 1 = λ e. omega (arith, to.within) in
    record {
      within = omega (arith, to.within);
      can = subst IsTrue (moves axis apart) to.can;
      digits = to.digits ∙ ap₂ (λ (u : Bool) (d : Digits). set d.k axis (moved_digit u (slice_index d.k axis))) (same axis apart) digits;
      before = λ i low. to.before i low ∙ same i (λ e. omega (arith, to.within));
      behind = λ i far within. elim (cases_lt i (axes - 1)) [
        | inl less ↦ to.behind i far less ∙ ap not (same i (λ e. omega arith))
        | inr more ↦ (
            let last : i ≡ axes - 1 = omega arith in
            to.rest i more ∙ ap (goes_up mid) last ∙ turned ∙ ap (λ (j : ℕ). not (goes_up old j)) (sym last))
      ];
      still = λ i far within. elim (cases_lt i (axes - 1)) [
        | inl less ↦ sym (moves i (λ e. omega arith)) ∙ to.still i far less
        | inr more ↦ ap (moves_along old) (let last : i ≡ axes - 1 = omega arith in last) ∙ stuck
      ];
      rest = λ i past. to.rest i (omega arith) ∙ same i (λ e. omega (arith, to.within));
    }

-- some number passes a test, or none does
some_or_none : (n : ℕ) (test : ℕ → Bool) → ((i : ℕ) × (i < n) × IsTrue (test i)) ⊎ ((i : ℕ) → i < n → test i ≡ false)
some_or_none zero test = inr (λ i within. absurd (omega arith))
some_or_none (suc n) test = elim (some_or_none n test) [
  | inl some ↦ inl (some.0, omega (arith, some.1), some.2)
  | inr none ↦ elim (test n) as (λ v. test n ≡ v → ((i : ℕ) × (i < suc n) × IsTrue (test i)) ⊎ ((i : ℕ) → i < suc n → test i ≡ false)) [
    | true ↦ λ e. inl (n, omega arith, e)
    | false ↦ λ e. inr (λ i within. elim (cases_lt i n) [ inl less ↦ none i less | inr more ↦ ap test (let same : i ≡ n = omega arith in same) ∙ e ])
  ] refl
]

-- at each child but the last some axis can move
pub can_advance : (axes : ℕ) (way : Way) (es : List ℕ) (n : ℕ) (step : Step) → axes ≤ 4 → length es ≡ axes → n + 1 < 3 ^ axes → IsStep axes way es n step → CanAdvance axes step
can_advance axes way es n step few len h is = elim (some_or_none axes (moves_along step)) [
  | inl some ↦ some
  | inr none ↦ absurd (omega (
    arith,
    highest axes (way_turns way) es step.digits.k (goes_up step) len (begins axes step.digits few is.digits) is.ups none,
    number_is axes way es n step.digits len (omega arith) is.nth,
  ))
]

even_sum : (n : ℕ) (ks : List ℕ) → ((i : ℕ) → i < n → slice_index ks i % 2 ≡ 0) → sum (take n ks) % 2 ≡ 0
even_sum zero ks even = refl
even_sum (suc n) [] even = refl
even_sum (suc n) (k ∷ ks) even = omega (arith, sum-cons k (take n ks), even 0 (omega arith), even_sum n ks (λ i within. even (suc i) (omega arith)))

-- where each axis begins at its low end, by its flip and the way, the child is the first
pub first_is : (axes : ℕ) (way : Way) (es : List ℕ) (step : Step) → axes ≤ 4 → length es ≡ axes → IsDigits axes step.digits
    → ((i : ℕ) → i < axes → goes_up step i ≡ ((way_turns way + slice_index es i) % 2 == 0)) → ((i : ℕ) → i < axes → slice_index step.digits.k i ≡ (if goes_up step i then 0 else 2))
    → IsStep axes way es 0 step
first_is axes way es step few len fit ups begin =
    let t = way_turns way in
    let ks = step.digits.k in
    let even : (i : ℕ) → i < axes → slice_index ks i % 2 ≡ 0 = λ i low. end_even (goes_up step i) (slice_index ks i) (begin i low) in
    let are : AreUps axes t es ks (goes_up step) = λ i low. ups i low ∙ even_same (t + slice_index es i) (sum (take i ks)) (even_sum i ks (λ j less. even j (omega arith))) in
    let none = lowest axes t es ks (λ i. not (goes_up step i)) len (begins axes step.digits few fit) (λ i low. twice (goes_up step i) ∙ are i low) (λ i low. end_stuck (goes_up step i) (slice_index ks i) (begin i low)) in
    record {
      digits = fit;
      nth = subst (λ m. slice_get (child_digits axes way es) m ≡ Some step.digits) none (at_number axes way es step.digits len few fit);
      ups = are;
    }
  where
    end_even : (up : Bool) (k : ℕ) → k ≡ (if up then 0 else 2) → k % 2 ≡ 0
    end_even true k e = omega arith
    end_even false k e = omega arith

    end_stuck : (up : Bool) (k : ℕ) → k ≡ (if up then 0 else 2) → can_move (not up) k ≡ false
    end_stuck true k e = ap (λ (m : ℕ). nat_lt 0 m) e
    end_stuck false k e = ap (λ (m : ℕ). nat_lt m 2) e

    twice : (up : Bool) → not (not up) ≡ up
    twice true = refl
    twice false = refl

    even_same : (a b : ℕ) → b % 2 ≡ 0 → (a % 2 == 0) ≡ ((a + b) % 2 == 0)
    even_same a b e = ap (λ (m : ℕ). m == 0) (omega arith)
