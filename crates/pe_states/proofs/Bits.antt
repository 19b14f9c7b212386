-- Single bits of a number.
use Rattle.std.proofs.Common.{◌≡◌, ℕ, zero, suc, ◌+◌, ◌-◌, ◌*◌, ◌/◌, ◌%◌, ◌^◌, ◌<◌, ◌≤◌, Bool, true, false, ◌&&◌, ◌||◌, max, min, refl, ap, ◌∙◌, inl, inr, arith}
use Rattle.std.specs.Prelude.{◌==◌, bit_or, bit_and}
use Rattle.std.specs.Int.{bit_at}
use Rattle.std.specs.List.{list_all, range_with_len}
use Rattle.std.proofs.lemmas.Bool.{cases_lt, and_parts}
use Rattle.std.proofs.lemmas.Nat.{shr-shr}
use Rattle.std.proofs.lemmas.Nat.Bits.{bit_at_or, bit_at_and, bit_at-lt, bit_at_above, bit_at-zero, bit_at_cat_low, bit_at_cat_high}
use Rattle.pe_states.specs.Ages.{has_bit}

max_test : (x y : ℕ) → x < 2 → y < 2 → (max x y == 1) ≡ ((x == 1) || (y == 1))
max_test zero zero h k = refl
max_test zero (suc zero) h k = refl
max_test (suc zero) zero h k = refl
max_test (suc zero) (suc zero) h k = refl
max_test (suc (suc x)) y h k = absurd (omega arith)
max_test x (suc (suc y)) h k = absurd (omega arith)

min_test : (x y : ℕ) → x < 2 → y < 2 → (min x y == 1) ≡ ((x == 1) && (y == 1))
min_test zero zero h k = refl
min_test zero (suc zero) h k = refl
min_test (suc zero) zero h k = refl
min_test (suc zero) (suc zero) h k = refl
min_test (suc (suc x)) y h k = absurd (omega arith)
min_test x (suc (suc y)) h k = absurd (omega arith)

pub and_true : (a b : Bool) → b ≡ true → (a && b) ≡ a
and_true true b e = e
and_true false b e = refl

pub has_bit_or : (a b n : ℕ) → has_bit (bit_or a b) n ≡ (has_bit a n || has_bit b n)
has_bit_or a b n = ap (λ (x : ℕ). x == 1) (bit_at_or a b n) ∙ max_test (bit_at a n) (bit_at b n) (bit_at-lt a n) (bit_at-lt b n)

pub has_bit_and : (a b n : ℕ) → has_bit (bit_and a b) n ≡ (has_bit a n && has_bit b n)
has_bit_and a b n = ap (λ (x : ℕ). x == 1) (bit_at_and a b n) ∙ min_test (bit_at a n) (bit_at b n) (bit_at-lt a n) (bit_at-lt b n)

-- a number has no bits from its width on
pub lacks_bit : (a w n : ℕ) → a < 2 ^ w → w ≤ n → has_bit a n ≡ false
lacks_bit a w n h k = ap (λ (x : ℕ). x == 1) (bit_at_above a w n h k)

-- the bits of a number that is shifted down
pub has_bit_shr : (a w n : ℕ) → has_bit (a / 2 ^ w) n ≡ has_bit a (n + w)
has_bit_shr a w n = ap (λ (x : ℕ). x % 2 == 1) (shr-shr a w n) ∙ ap (λ (i : ℕ). has_bit a i) (omega arith)

-- the bits of a number that is shifted up
pub has_bit_shl_low : (a w n : ℕ) → n < w → has_bit (a * 2 ^ w) n ≡ false
has_bit_shl_low a w n h =
    let plain : a * 2 ^ w ≡ a * 2 ^ w + 0 = omega arith in
    ap (λ (x : ℕ). has_bit x n) plain ∙ ap (λ (x : ℕ). x == 1) (bit_at_cat_low a w 0 n h ∙ bit_at-zero n)

pub has_bit_shl_high : (a w n : ℕ) → w ≤ n → 0 < 2 ^ w → has_bit (a * 2 ^ w) n ≡ has_bit a (n - w)
has_bit_shl_high a w n h positive =
    let plain : a * 2 ^ w ≡ a * 2 ^ w + 0 = omega arith in
    ap (λ (x : ℕ). has_bit x n) plain ∙ ap (λ (x : ℕ). x == 1) (bit_at_cat_high a w 0 n positive h)

-- a test that all numbers of a range pass
pub passed : (p : ℕ → Bool) (a n k : ℕ) → list_all p (range_with_len a n) ≡ true → a ≤ k → k < a + n → p k ≡ true
passed p a zero k all above below = absurd (omega arith)
passed p a (suc n) k all above below =
    let parts = and_parts (p a) (list_all p (range_with_len (a + 1) n)) all in
    elim (cases_lt a k) [
      | inl more ↦ passed p (a + 1) n k parts.1 (omega arith) (omega arith)
      | inr less ↦ (let same : k ≡ a = omega arith in ap p same ∙ parts.0)
    ]
