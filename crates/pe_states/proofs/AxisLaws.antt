-- Ages along several axes in turn, from the fastest bit of a corner's number on.
use Rattle.std.proofs.Common.{◌≡◌, ℕ, zero, suc, ◌+◌, ◌-◌, ◌*◌, ◌/◌, ◌^◌, ◌<◌, ◌≤◌, List, [], ◌∷◌, map, take, length, refl, sym, ap, ◌∙◌, subst, arith, pow-suc}
use Rattle.std.specs.List.{list_any}
use Rattle.std.specs.Prelude.{slice_index}
use Rattle.std.proofs.lemmas.List.{length-take-le}
use Rattle.std.proofs.Math.Bool.{or-false}
use Rattle.pe_base.specs.declared.place.Digits.{Digits}
use Rattle.pe_base.specs.Tree.Places.{bits, moved, number_of}
use Rattle.pe_base.specs.Life.Carriers.{thirds, carrier_positions}
use Rattle.pe_base.proofs.Tree.Corners.{IsBits}
use Rattle.pe_states.specs.Carriers.{carrier_numbers}
use Rattle.pe_states.specs.Ages.{has_bit, is_old_at, is_new_at, some_carrier}
use Rattle.pe_states.specs.Sides.{on_side, IsSpread, AreSpread, IsRow}
use Rattle.pe_states.proofs.Numbers.{IsBits-bits, number_of-bits}
use Rattle.pe_base.proofs.Tests.{any_same, any_map, any_flat_map, any_swap}

-- the place of a corner among runs of a width
abbrev pub spot : ℕ → ℕ → ℕ → ℕ → ℕ → ℕ
spot width low n size high = low + width * (n + size * high)

pub spot-cons : (width low b n size high : ℕ) → spot width low (b + 2 * n) (2 * size) high ≡ on_side width low (n + size * high) b
spot-cons width low b n size high = omega arith

pub spot-next : (width low b n size high : ℕ) → spot width low (b + 2 * n) (2 * size) high ≡ spot (2 * width) (low + width * b) n size high
spot-next width low b n size high = omega arith

pub within_run : (width low b : ℕ) → low < width → b < 2 → low + width * b < 2 * width
within_run width low zero h k = omega arith
within_run width low (suc zero) h k = omega arith
within_run width low (suc (suc b)) h k = absurd (omega arith)

pub spread_along : (ks bs : List ℕ) (width m m' low high : ℕ) → AreSpread width ks m m' → IsBits (length ks) bs → low < width
    → has_bit m' (spot width low (number_of bs) (2 ^ length ks) high) ≡ list_any (λ os. has_bit m (spot width low (number_of os) (2 ^ length ks) high)) (carrier_positions (moved ks bs))
spread_along [] [] width m m' low high made here inside = ap (λ (x : ℕ). has_bit x (spot width low 0 1 high)) made ∙ sym (or-false _)
spread_along [] (b ∷ bs) width m m' low high made here inside = absurd (omega arith)
spread_along (k ∷ ks) [] width m m' low high made here inside = absurd (omega arith)
spread_along (k ∷ ks) (b ∷ bs) width m m' low high made here inside =
    let size = 2 ^ length ks in
    let double : 2 ^ suc (length ks) ≡ 2 * size = pow-suc 2 (length ks) ∙ omega arith in
    let cells = carrier_positions (moved ks bs) in
    let mid = made.0 in
    let step : (os : List ℕ) → has_bit mid (spot (2 * width) (low + width * b) (number_of os) size high) ≡ list_any (λ o. has_bit m (spot width low (number_of (o ∷ os)) (2 * size) high)) (thirds (k + b)) =
    λ os. ap (λ (i : ℕ). has_bit mid i) (sym (spot-next width low b (number_of os) size high) ∙ spot-cons width low b (number_of os) size high)
    ∙ made.1 low (number_of os + size * high) b inside here.0
    ∙ any_same _ _ (λ o. ap (λ (i : ℕ). has_bit m i) (sym (spot-cons width low o (number_of os) size high))) (thirds (k + b)) in
    let all : (d : ℕ) → d ≡ 2 * size → has_bit m' (spot width low (number_of (b ∷ bs)) d high) ≡ list_any (λ os. has_bit m (spot width low (number_of os) d high)) (carrier_positions (moved (k ∷ ks) (b ∷ bs))) =
    λ d e. ap (λ (s : ℕ). has_bit m' (spot width low (number_of (b ∷ bs)) s high)) e
    ∙ ap (λ (i : ℕ). has_bit m' i) (spot-next width low b (number_of bs) size high)
    ∙ spread_along ks bs (2 * width) mid m' (low + width * b) high made.2 here.1 (within_run width low b inside here.0)
    ∙ any_same _ _ step cells
    ∙ any_swap (λ os o. has_bit m (spot width low (number_of (o ∷ os)) (2 * size) high)) cells (thirds (k + b))
    ∙ any_same _ _ (λ o. sym (any_map (λ os. has_bit m (spot width low (number_of os) (2 * size) high)) (λ os. o ∷ os) cells)) (thirds (k + b))
    ∙ sym (any_flat_map (λ os. has_bit m (spot width low (number_of os) (2 * size) high)) (λ o. map (λ os. o ∷ os) cells) (thirds (k + b)))
    ∙ ap (λ (s : ℕ). list_any (λ os. has_bit m (spot width low (number_of os) s high)) (carrier_positions (moved (k ∷ ks) (b ∷ bs)))) (sym e) in
    all (2 ^ suc (length ks)) double

pub spot-plain : (n size high : ℕ) → spot 1 0 n size high ≡ n + size * high
spot-plain n size high = omega arith

-- ages spread along all axes are those of the carriers
pub spread_carries : (axes : ℕ) (digits : Digits) (m m' high k : ℕ) → AreSpread 1 (take axes digits.k) m m' → length (take axes digits.k) ≡ axes → k < 2 ^ axes
    → has_bit m' (k + 2 ^ axes * high) ≡ some_carrier axes digits k (λ n. has_bit m (n + 2 ^ axes * high))
spread_carries axes digits m m' high k made long small =
    let ks = take axes digits.k in
    let bs = bits axes k in
    let P : ℕ → Type 0 = λ n. IsBits n bs in
    ap (λ (n : ℕ). has_bit m' (n + 2 ^ axes * high)) (sym (number_of-bits axes k small))
    ∙ ap (λ (i : ℕ). has_bit m' i) (sym (spot-plain (number_of bs) (2 ^ axes) high))
    ∙ ap (λ (n : ℕ). has_bit m' (spot 1 0 (number_of bs) (2 ^ n) high)) (sym long)
    ∙ spread_along ks bs 1 m m' 0 high made (subst P (sym long) (IsBits-bits axes k)) (omega arith)
    ∙ ap (λ (n : ℕ). list_any (λ os. has_bit m (spot 1 0 (number_of os) (2 ^ n) high)) (carrier_positions (moved ks bs))) long
    ∙ any_same _ _ (λ os. ap (λ (i : ℕ). has_bit m i) (spot-plain (number_of os) (2 ^ axes) high)) (carrier_positions (moved ks bs))
    ∙ sym (any_map (λ n. has_bit m (n + 2 ^ axes * high)) number_of (carrier_positions (moved ks bs)))

-- a row, from what is done along its axes
pub row_of : (axes : ℕ) (digits : Digits) (m a b c : ℕ) → 2 ≤ axes → axes ≤ 4 → length digits.k ≡ 4 → IsSpread 1 (slice_index digits.k 0) m a
    → (2 < axes → IsSpread 2 (slice_index digits.k 1) a b) → (axes ≤ 2 → b ≡ a) → (3 < axes → IsSpread 4 (slice_index digits.k 2) b c) → (axes ≤ 3 → c ≡ b)
    → IsRow axes digits m c
row_of axes digits m a b c low high long first second none third last =
    go axes digits.k low high long first second none third last
  where
    go : (axes : ℕ) (ks : List ℕ) → 2 ≤ axes → axes ≤ 4 → length ks ≡ 4 → IsSpread 1 (slice_index ks 0) m a
        → (2 < axes → IsSpread 2 (slice_index ks 1) a b) → (axes ≤ 2 → b ≡ a) → (3 < axes → IsSpread 4 (slice_index ks 2) b c) → (axes ≤ 3 → c ≡ b)
        → AreSpread 1 (take (axes - 1) ks) m c
    go (suc (suc zero)) (k₀ ∷ ks) low high long first second none third last = (a, first, last (omega arith) ∙ none (omega arith))
    go (suc (suc (suc zero))) (k₀ ∷ k₁ ∷ ks) low high long first second none third last = (a, first, (b, second (omega arith), last (omega arith)))
    go (suc (suc (suc (suc zero)))) (k₀ ∷ k₁ ∷ k₂ ∷ ks) low high long first second none third last = (a, first, (b, second (omega arith), (c, third (omega arith), refl)))
    go zero ks low high long first second none third last = absurd (omega arith)
    go (suc zero) ks low high long first second none third last = absurd (omega arith)
    go (suc (suc (suc (suc (suc axes))))) ks low high long first second none third last = absurd (omega arith)
    go axes [] low high long first second none third last = absurd (omega arith)
    go axes (k₀ ∷ []) low high long first second none third last = absurd (omega arith)
    go axes (k₀ ∷ k₁ ∷ []) low high long first second none third last = absurd (omega arith)

-- a child, from its row
pub child_of : (axes : ℕ) (digits : Digits) (m row c : ℕ) → 2 ≤ axes → axes ≤ 4 → length digits.k ≡ 4 → IsRow axes digits m row
    → IsSpread (2 ^ (axes - 1)) (slice_index digits.k (axes - 1)) row c → AreSpread 1 (take axes digits.k) m c
child_of axes digits m row c low high long = go axes digits.k low high long
  where
    go : (axes : ℕ) (ks : List ℕ) → 2 ≤ axes → axes ≤ 4 → length ks ≡ 4 → AreSpread 1 (take (axes - 1) ks) m row
        → IsSpread (2 ^ (axes - 1)) (slice_index ks (axes - 1)) row c → AreSpread 1 (take axes ks) m c
    go (suc (suc zero)) (k₀ ∷ k₁ ∷ ks) low high long above last =
        let P : ℕ → Type 0 = λ x. IsSpread 2 k₁ x c in
        (above.0, above.1, (c, subst P above.2 last, refl))
    go (suc (suc (suc zero))) (k₀ ∷ k₁ ∷ k₂ ∷ ks) low high long above last =
        let P : ℕ → Type 0 = λ x. IsSpread 4 k₂ x c in
        (above.0, above.1, (above.2.0, above.2.1, (c, subst P above.2.2 last, refl)))
    go (suc (suc (suc (suc zero)))) (k₀ ∷ k₁ ∷ k₂ ∷ k₃ ∷ ks) low high long above last =
        let P : ℕ → Type 0 = λ x. IsSpread 8 k₃ x c in
        (above.0, above.1, (above.2.0, above.2.1, (above.2.2.0, above.2.2.1, (c, subst P above.2.2.2 last, refl))))
    go zero ks low high long above last = absurd (omega arith)
    go (suc zero) ks low high long above last = absurd (omega arith)
    go (suc (suc (suc (suc (suc axes))))) ks low high long above last = absurd (omega arith)
    go axes [] low high long above last = absurd (omega arith)
    go axes (k₀ ∷ []) low high long above last = absurd (omega arith)
    go axes (k₀ ∷ k₁ ∷ []) low high long above last = absurd (omega arith)
    go axes (k₀ ∷ k₁ ∷ k₂ ∷ []) low high long above last = absurd (omega arith)

-- where the second half of the ages begins
pub halves : (axes k : ℕ) → 2 ≤ axes → axes ≤ 4 → 16 + k ≡ k + 2 ^ axes * (16 / 2 ^ axes)
halves zero k low high = absurd (omega arith)
halves (suc zero) k low high = absurd (omega arith)
halves (suc (suc zero)) k low high = omega arith
halves (suc (suc (suc zero))) k low high = omega arith
halves (suc (suc (suc (suc zero)))) k low high = omega arith
halves (suc (suc (suc (suc (suc axes))))) k low high = absurd (omega arith)

pub old_carried : (axes : ℕ) (digits : Digits) (m m' k : ℕ) → axes ≤ 4 → length digits.k ≡ 4 → AreSpread 1 (take axes digits.k) m m' → k < 2 ^ axes
    → is_old_at m' k ≡ some_carrier axes digits k (is_old_at m)
old_carried axes digits m m' k high long made small =
    let plain : (n : ℕ) → n ≡ n + 2 ^ axes * 0 = λ n. omega arith in
    ap (λ (n : ℕ). has_bit m' n) (plain k)
    ∙ spread_carries axes digits m m' 0 k made (length-take-le axes digits.k (omega arith)) small
    ∙ any_same _ _ (λ n. ap (λ (i : ℕ). has_bit m i) (sym (plain n))) (carrier_numbers axes digits k)

pub new_carried : (axes : ℕ) (digits : Digits) (m m' k : ℕ) → 2 ≤ axes → axes ≤ 4 → length digits.k ≡ 4 → AreSpread 1 (take axes digits.k) m m' → k < 2 ^ axes
    → is_new_at m' k ≡ some_carrier axes digits k (is_new_at m)
new_carried axes digits m m' k low high long made small =
    ap (λ (n : ℕ). has_bit m' n) (halves axes k low high)
    ∙ spread_carries axes digits m m' (16 / 2 ^ axes) k made (length-take-le axes digits.k (omega arith)) small
    ∙ any_same _ _ (λ n. ap (λ (i : ℕ). has_bit m i) (sym (halves axes n low high))) (carrier_numbers axes digits k)
