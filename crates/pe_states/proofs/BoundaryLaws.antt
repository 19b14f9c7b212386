-- Ages without those on the root's boundary.
use Rattle.std.proofs.Common.{◌≡◌, ℕ, zero, suc, ◌+◌, ◌-◌, ◌*◌, ◌/◌, ◌^◌, ◌<◌, ◌≤◌, Bool, true, false, not, ◌&&◌, List, [], ◌∷◌, take, length, refl, sym, ap, ◌∙◌, subst, arith, pow-suc, IsTrue}
use Rattle.std.specs.Prelude.{◌==◌, bit_and, slice_index}
use Rattle.std.specs.Int.{bit_at, w32}
use Rattle.std.specs.List.{list_all}
use Rattle.std.proofs.lemmas.List.{length-take-le}
use Rattle.std.proofs.lemmas.Nat.Bits.{bit_at_not, bit_at-lt, bit_at_ones, bit_at_mask_below, bit_at_mask_inside}
use Rattle.std.proofs.Math.Bool.{and_comm}
use Rattle.pe_base.specs.declared.place.Place.{Place}
use Rattle.pe_base.specs.declared.place.Digits.{Digits}
use Rattle.pe_base.specs.Tree.Places.{IsDigits, bits, moved, child_at, corner, root, number_of}
use Rattle.pe_base.specs.Life.Kinds.{is_inside}
use Rattle.pe_base.proofs.Tree.Corners.{IsBits}
use Rattle.pe_base.proofs.Tree.PlaceLaws.{few_corners}
use Rattle.pe_states.specs.Ages.{has_bit, is_old_at, is_new_at, is_first_old, is_first_new}
use Rattle.pe_states.specs.Sides.{are_near, on_side, is_between, IsTrimmed}
use Rattle.pe_states.proofs.Bits.{has_bit_and, and_true}
use Rattle.pe_states.proofs.Numbers.{IsBits-bits, number_of-bits}
use Rattle.pe_states.proofs.SideLaws.{near_side, side_of, on_near, on_far}
use Rattle.pe_states.proofs.AxisLaws.{spot, spot-cons, spot-next, spot-plain, within_run, halves}

-- the bits that another number does not have
opposite : (near n : ℕ) → near < 2 ^ 32 → n < 32 → (b : Bool) → has_bit near n ≡ b → has_bit (4294967295 - near) n ≡ not b
opposite near n fits below b h = ap (λ (x : ℕ). x == 1) (bit_at_not w32 near n fits below) ∙ go (bit_at near n) b (bit_at-lt near n) h
  where
    go : (x : ℕ) (b : Bool) → x < 2 → (x == 1) ≡ b → (1 - x == 1) ≡ not b
    go zero b small h = ap not h
    go (suc zero) b small h = ap not h
    go (suc (suc x)) b small h = absurd (omega arith)

-- the near side is trimmed
pub trim_near : (width near m : ℕ) → IsTrue (are_near width near) → near < 2 ^ 32 → IsTrimmed width 0 m (bit_and m (4294967295 - near))
trim_near width near m are fits low high zero h k below =
    let n = on_side width low high 0 in
    let at = on_near width near n (near_side width near are) below (side_of width low high 0 h k) in
    has_bit_and m (4294967295 - near) n ∙ ap (λ b. has_bit m n && b) (opposite near n fits below true at.here)
trim_near width near m are fits low high (suc zero) h k below =
    let n = on_side width low high 1 in
    let at = on_far width near n (near_side width near are) below (side_of width low high 1 h k) in
    has_bit_and m (4294967295 - near) n ∙ ap (λ b. has_bit m n && b) (opposite near n fits below false at.here)
trim_near width near m are fits low high (suc (suc side)) h k below = absurd (omega arith)

-- the far side is trimmed
pub trim_far : (width near m : ℕ) → IsTrue (are_near width near) → IsTrimmed width 2 m (bit_and m near)
trim_far width near m are low high zero h k below =
    let n = on_side width low high 0 in
    let at = on_near width near n (near_side width near are) below (side_of width low high 0 h k) in
    has_bit_and m near n ∙ ap (λ b. has_bit m n && b) at.here
trim_far width near m are low high (suc zero) h k below =
    let n = on_side width low high 1 in
    let at = on_far width near n (near_side width near are) below (side_of width low high 1 h k) in
    has_bit_and m near n ∙ ap (λ b. has_bit m n && b) at.here
trim_far width near m are low high (suc (suc side)) h k below = absurd (omega arith)

-- both sides are inside
pub trim_none : (width m : ℕ) → IsTrimmed width 1 m m
trim_none width m low high zero h k below = sym (and_true (has_bit m (on_side width low high 0)) true refl)
trim_none width m low high (suc zero) h k below = sym (and_true (has_bit m (on_side width low high 1)) true refl)
trim_none width m low high (suc (suc side)) h k below = absurd (omega arith)

-- ages trimmed along axes with these digits, the first of which has runs of this width
abbrev pub AreTrimmed : ℕ → List ℕ → ℕ → ℕ → Type 0
AreTrimmed width [] m m' = m' ≡ m
AreTrimmed width (k ∷ ks) m m' = (mid : ℕ) × IsTrimmed width k m mid × AreTrimmed (2 * width) ks mid m'

and_assoc : (a b c : Bool) → ((a && b) && c) ≡ (a && (b && c))
and_assoc true b c = refl
and_assoc false b c = refl

trimmed_along : (ks bs : List ℕ) (width m m' low high : ℕ) → AreTrimmed width ks m m' → IsBits (length ks) bs → low < width → spot width low (number_of bs) (2 ^ length ks) high < 32
    → has_bit m' (spot width low (number_of bs) (2 ^ length ks) high) ≡ (has_bit m (spot width low (number_of bs) (2 ^ length ks) high) && list_all is_between (moved ks bs))
trimmed_along [] [] width m m' low high made here inside below = ap (λ (x : ℕ). has_bit x (spot width low 0 1 high)) made ∙ sym (and_true _ true refl)
trimmed_along [] (b ∷ bs) width m m' low high made here inside below = absurd (omega arith)
trimmed_along (k ∷ ks) [] width m m' low high made here inside below = absurd (omega arith)
trimmed_along (k ∷ ks) (b ∷ bs) width m m' low high made here inside below =
    let size = 2 ^ length ks in
    let double : 2 ^ suc (length ks) ≡ 2 * size = pow-suc 2 (length ks) ∙ omega arith in
    let mid = made.0 in
    let all : (d : ℕ) → d ≡ 2 * size → spot width low (number_of (b ∷ bs)) d high < 32 → has_bit m' (spot width low (number_of (b ∷ bs)) d high) ≡ (has_bit m (spot width low (number_of (b ∷ bs)) d high) && list_all is_between (moved (k ∷ ks) (b ∷ bs))) =
    λ d e under.
    let i = spot width low (b + 2 * number_of bs) (2 * size) high in
    let same : spot width low (number_of (b ∷ bs)) d high ≡ i = ap (λ (s : ℕ). spot width low (number_of (b ∷ bs)) s high) e in
    let as_side = spot-cons width low b (number_of bs) size high in
    let as_next = spot-next width low b (number_of bs) size high in
    let rest = list_all is_between (moved ks bs) in
    ap (λ (j : ℕ). has_bit m' j) (same ∙ as_next)
    ∙ trimmed_along ks bs (2 * width) mid m' (low + width * b) high made.2 here.1 (within_run width low b inside here.0) (omega (arith, same, as_next))
    ∙ ap (λ (j : ℕ). has_bit mid j && rest) (sym as_next ∙ as_side)
    ∙ ap (λ v. v && rest) (made.1 low (number_of bs + size * high) b inside here.0 (omega (arith, same, as_side)))
    ∙ and_assoc (has_bit m (on_side width low (number_of bs + size * high) b)) (is_between (k + b)) rest
    ∙ ap (λ (j : ℕ). has_bit m j && (is_between (k + b) && rest)) (sym as_side ∙ sym same) in
    all (2 ^ suc (length ks)) double below

-- a corner of a cell of level 1 is inside where it is between the root's sides on each axis
pub inside_level_one : (axes : ℕ) (digits : Digits) (k : ℕ) → 2 ≤ axes → axes ≤ 4 → IsDigits axes digits → is_inside axes (corner axes (child_at root digits) k) ≡ list_all is_between (moved (take axes digits.k) (bits axes k))
inside_level_one axes digits k low high fit = go axes digits.k low high fit.four (λ i h. fit.rest i h)
  where
    cell : ℕ → ℕ → ℕ → ℕ → Place
    cell x₀ x₁ x₂ x₃ = record { level = 1; pos = x₀ ∷ x₁ ∷ x₂ ∷ x₃ ∷ [] }

    moves : (axes x₀ x₁ x₂ x₃ y₀ y₁ y₂ y₃ : ℕ) → x₀ ≡ y₀ → x₁ ≡ y₁ → x₂ ≡ y₂ → x₃ ≡ y₃
        → is_inside axes (corner axes (cell x₀ x₁ x₂ x₃) k) ≡ is_inside axes (corner axes (cell y₀ y₁ y₂ y₃) k)
    moves axes x₀ x₁ x₂ x₃ y₀ y₁ y₂ y₃ e f g h =
        ap (λ (x : ℕ). is_inside axes (corner axes (cell x x₁ x₂ x₃) k)) e ∙ ap (λ (x : ℕ). is_inside axes (corner axes (cell y₀ x x₂ x₃) k)) f
        ∙ ap (λ (x : ℕ). is_inside axes (corner axes (cell y₀ y₁ x x₃) k)) g ∙ ap (λ (x : ℕ). is_inside axes (corner axes (cell y₀ y₁ y₂ x) k)) h

    go : (axes : ℕ) (ks : List ℕ) → 2 ≤ axes → axes ≤ 4 → length ks ≡ 4 → ((i : ℕ) → axes ≤ i → slice_index ks i ≡ 0)
        → is_inside axes (corner axes (child_at root (record { k = ks })) k) ≡ list_all is_between (moved (take axes ks) (bits axes k))
    go (suc (suc zero)) (k₀ ∷ k₁ ∷ k₂ ∷ k₃ ∷ []) low high long rest =
        moves 2 (0 + k₀) (0 + k₁) (0 + k₂) (0 + k₃) k₀ k₁ 0 0 (omega arith) (omega arith) (omega (arith, rest 2 (omega arith))) (omega (arith, rest 3 (omega arith)))
        ∙ and_true _ true refl
    go (suc (suc (suc zero))) (k₀ ∷ k₁ ∷ k₂ ∷ k₃ ∷ []) low high long rest =
        moves 3 (0 + k₀) (0 + k₁) (0 + k₂) (0 + k₃) k₀ k₁ k₂ 0 (omega arith) (omega arith) (omega arith) (omega (arith, rest 3 (omega arith)))
        ∙ and_true _ true refl
    go (suc (suc (suc (suc zero)))) (k₀ ∷ k₁ ∷ k₂ ∷ k₃ ∷ []) low high long rest =
        moves 4 (0 + k₀) (0 + k₁) (0 + k₂) (0 + k₃) k₀ k₁ k₂ k₃ (omega arith) (omega arith) (omega arith) (omega arith)
        ∙ and_true _ true refl
    go zero ks low high long rest = absurd (omega arith)
    go (suc zero) ks low high long rest = absurd (omega arith)
    go (suc (suc (suc (suc (suc axes))))) ks low high long rest = absurd (omega arith)
    go axes [] low high long rest = absurd (omega arith)
    go axes (k₀ ∷ []) low high long rest = absurd (omega arith)
    go axes (k₀ ∷ k₁ ∷ []) low high long rest = absurd (omega arith)
    go axes (k₀ ∷ k₁ ∷ k₂ ∷ []) low high long rest = absurd (omega arith)
    go axes (k₀ ∷ k₁ ∷ k₂ ∷ k₃ ∷ k₄ ∷ ks) low high long rest = absurd (omega arith)

-- all axes in turn
pub trims_of : (axes : ℕ) (digits : Digits) (m a b c d : ℕ) → 2 ≤ axes → axes ≤ 4 → length digits.k ≡ 4 → IsTrimmed 1 (slice_index digits.k 0) m a → IsTrimmed 2 (slice_index digits.k 1) a b
    → (2 < axes → IsTrimmed 4 (slice_index digits.k 2) b c) → (axes ≤ 2 → c ≡ b) → (3 < axes → IsTrimmed 8 (slice_index digits.k 3) c d) → (axes ≤ 3 → d ≡ c)
    → AreTrimmed 1 (take axes digits.k) m d
trims_of axes digits m a b c d low high long first second third none fourth last =
    go axes digits.k low high long first second third none fourth last
  where
    go : (axes : ℕ) (ks : List ℕ) → 2 ≤ axes → axes ≤ 4 → length ks ≡ 4 → IsTrimmed 1 (slice_index ks 0) m a → IsTrimmed 2 (slice_index ks 1) a b
        → (2 < axes → IsTrimmed 4 (slice_index ks 2) b c) → (axes ≤ 2 → c ≡ b) → (3 < axes → IsTrimmed 8 (slice_index ks 3) c d) → (axes ≤ 3 → d ≡ c)
        → AreTrimmed 1 (take axes ks) m d
    go (suc (suc zero)) (k₀ ∷ k₁ ∷ ks) low high long first second third none fourth last = (a, first, (b, second, last (omega arith) ∙ none (omega arith)))
    go (suc (suc (suc zero))) (k₀ ∷ k₁ ∷ k₂ ∷ ks) low high long first second third none fourth last = (a, first, (b, second, (c, third (omega arith), last (omega arith))))
    go (suc (suc (suc (suc zero)))) (k₀ ∷ k₁ ∷ k₂ ∷ k₃ ∷ ks) low high long first second third none fourth last = (a, first, (b, second, (c, third (omega arith), (d, fourth (omega arith), refl))))
    go zero ks low high long first second third none fourth last = absurd (omega arith)
    go (suc zero) ks low high long first second third none fourth last = absurd (omega arith)
    go (suc (suc (suc (suc (suc axes))))) ks low high long first second third none fourth last = absurd (omega arith)
    go axes [] low high long first second third none fourth last = absurd (omega arith)
    go axes (k₀ ∷ []) low high long first second third none fourth last = absurd (omega arith)
    go axes (k₀ ∷ k₁ ∷ []) low high long first second third none fourth last = absurd (omega arith)
    go axes (k₀ ∷ k₁ ∷ k₂ ∷ []) low high long first second third none fourth last = absurd (omega arith)

-- ages trimmed on all axes are those inside the root
pub trimmed_inside : (axes : ℕ) (digits : Digits) (m m' k high : ℕ) → 2 ≤ axes → axes ≤ 4 → IsDigits axes digits → AreTrimmed 1 (take axes digits.k) m m' → k < 2 ^ axes → k + 2 ^ axes * high < 32
    → has_bit m' (k + 2 ^ axes * high) ≡ (has_bit m (k + 2 ^ axes * high) && is_inside axes (corner axes (child_at root digits) k))
trimmed_inside axes digits m m' k high low few fit made small below =
    let ks = take axes digits.k in
    let bs = bits axes k in
    let long : length ks ≡ axes = length-take-le axes digits.k (omega (arith, fit.four)) in
    let P : ℕ → Type 0 = λ n. IsBits n bs in
    let same : spot 1 0 (number_of bs) (2 ^ length ks) high ≡ k + 2 ^ axes * high =
    ap (λ (n : ℕ). spot 1 0 (number_of bs) (2 ^ n) high) long ∙ spot-plain (number_of bs) (2 ^ axes) high ∙ ap (λ (n : ℕ). n + 2 ^ axes * high) (number_of-bits axes k small) in
    ap (λ (i : ℕ). has_bit m' i) (sym same)
    ∙ trimmed_along ks bs 1 m m' 0 high made (subst P (sym long) (IsBits-bits axes k)) (omega arith) (omega (arith, same))
    ∙ ap (λ (i : ℕ). has_bit m i && list_all is_between (moved ks bs)) same
    ∙ ap (λ b. has_bit m (k + 2 ^ axes * high) && b) (sym (inside_level_one axes digits k low few fit))

-- the ages of corners that are all stored after a traversal, and before every one but the first
pub record AreStored (traversal m : ℕ) : Type 0 where
  pub old : (k : ℕ) → k < 16 → is_old_at m k ≡ not (traversal == 1)
  pub new : (k : ℕ) → k < 16 → is_new_at m k ≡ true

pub later : (traversal : ℕ) → (traversal == 1) ≡ false → AreStored traversal 0xffff_ffff
later traversal h = record {
  old = λ k small. ap (λ (x : ℕ). x == 1) (bit_at_ones 32 k (omega arith)) ∙ sym (ap not h);
  new = λ k small. ap (λ (x : ℕ). x == 1) (bit_at_ones 32 (16 + k) (omega arith));
}

pub at_first : (traversal : ℕ) → (traversal == 1) ≡ true → AreStored traversal 0xffff_0000
at_first traversal h = record {
  old = λ k small. ap (λ (x : ℕ). x == 1) (bit_at_mask_below 16 32 k small) ∙ sym (ap not h);
  new = λ k small. ap (λ (x : ℕ). x == 1) (bit_at_mask_inside 16 32 (16 + k) (omega arith) (omega arith));
}

pub small_corner : (axes k : ℕ) → axes ≤ 4 → k < 2 ^ axes → k < 16
small_corner axes k high h = omega (arith, few_corners axes high)

pub old_inside : (axes : ℕ) (digits : Digits) (traversal m m' k : ℕ) → 2 ≤ axes → axes ≤ 4 → IsDigits axes digits → AreTrimmed 1 (take axes digits.k) m m' → AreStored traversal m → k < 2 ^ axes
    → is_old_at m' k ≡ is_first_old axes digits traversal k
old_inside axes digits traversal m m' k low high fit made stored small =
    let under = small_corner axes k high small in
    let plain : k ≡ k + 2 ^ axes * 0 = omega arith in
    ap (λ (i : ℕ). has_bit m' i) plain
    ∙ trimmed_inside axes digits m m' k 0 low high fit made small (omega arith)
    ∙ ap (λ (i : ℕ). has_bit m i && is_first_new axes digits k) (sym plain)
    ∙ ap (λ b. b && is_first_new axes digits k) (stored.old k under)
    ∙ and_comm (not (traversal == 1)) (is_first_new axes digits k)

pub new_inside : (axes : ℕ) (digits : Digits) (traversal m m' k : ℕ) → 2 ≤ axes → axes ≤ 4 → IsDigits axes digits → AreTrimmed 1 (take axes digits.k) m m' → AreStored traversal m → k < 2 ^ axes
    → is_new_at m' k ≡ is_first_new axes digits k
new_inside axes digits traversal m m' k low high fit made stored small =
    let under = small_corner axes k high small in
    let half : 16 + k ≡ k + 2 ^ axes * (16 / 2 ^ axes) = halves axes k low high in
    ap (λ (i : ℕ). has_bit m' i) half
    ∙ trimmed_inside axes digits m m' k (16 / 2 ^ axes) low high fit made small (omega (arith, half))
    ∙ ap (λ (i : ℕ). has_bit m i && is_first_new axes digits k) (sym half)
    ∙ ap (λ b. b && is_first_new axes digits k) (stored.new k under)
