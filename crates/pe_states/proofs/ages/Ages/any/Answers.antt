-- A number whose bits are all unset is 0.
use Rattle.std.proofs.Common.{◌≡◌, ℕ, zero, suc, ◌+◌, ◌*◌, ◌/◌, ◌%◌, ◌^◌, ◌<◌, Bool, not, ◌||◌, refl, sym, ap, ap₂, ◌∙◌, arith}
use Rattle.std.specs.Prelude.{◌==◌, bit_and}
use Rattle.std.specs.List.{list_any, range_with_len}
use Rattle.std.proofs.lemmas.Bool.{ne_eqb}
use Rattle.std.proofs.lemmas.Nat.{and_mask, shr-shr, mod-pow-add}
use Rattle.std.proofs.lemmas.Nat.Bits.{and_high}
use Rattle.pe_states.specs.Ages.{has_bit, is_old_at, is_new_at}
use Rattle.pe_states.proofs.ages.Ages.any.Goals as goal

-- the lowest bit and the rest
lowest : (r q : ℕ) → r < 2 → ((r == 1) || not (q == 0)) ≡ not (2 * q + r == 0)
lowest zero zero h = refl
lowest zero (suc q) h = ap not (ne_eqb (suc q) 0 (λ e. omega arith)) ∙ sym (ap not (ne_eqb (2 * suc q + 0) 0 (λ e. omega arith)))
lowest (suc zero) q h = sym (ap not (ne_eqb (2 * q + 1) 0 (λ e. omega arith)))
lowest (suc (suc r)) q h = absurd (omega arith)

some_bit : (x from a n : ℕ) → list_any (λ k. has_bit x (from + k)) (range_with_len a n) ≡ not (x / 2 ^ (from + a) % 2 ^ n == 0)
some_bit x from a zero = let none : 0 ≡ x / 2 ^ (from + a) % 1 = omega arith in ap (λ (m : ℕ). not (m == 0)) none
some_bit x from a (suc n) =
    let y = x / 2 ^ (from + a) in
    let next : x / 2 ^ (from + (a + 1)) ≡ y / 2 = ap (λ (i : ℕ). x / 2 ^ i) (omega arith) ∙ sym (shr-shr x (from + a) 1) in
    let one_more : suc n ≡ n + 1 = omega arith in
    let parts : 2 * (y / 2 % 2 ^ n) + y % 2 ≡ y % 2 ^ suc n =
    (let split = mod-pow-add y n 1 in let half : y / 2 ^ 1 ≡ y / 2 = refl in omega (arith, split)) ∙ ap (λ (i : ℕ). y % 2 ^ i) (sym one_more) in
    ap (λ b. has_bit x (from + a) || b) (some_bit x from (a + 1) n ∙ ap (λ (z : ℕ). not (z % 2 ^ n == 0)) next)
    ∙ lowest (y % 2) (y / 2 % 2 ^ n) (omega arith)
    ∙ ap (λ (z : ℕ). not (z == 0)) parts

times : (y : ℕ) → (y * 65536 == 0) ≡ (y == 0)
times zero = refl
times (suc y) = ne_eqb (suc y * 65536) 0 (λ e. omega arith) ∙ sym (ne_eqb (suc y) 0 (λ e. omega arith))

pub returns : goal.returns
returns c =
    let x = c.self.inside.bits in
    let pair : (b d : Bool) → Bool × Bool = λ b d. (b, d) in
    let plain : x / 2 ^ (0 + 0) % 2 ^ 16 ≡ x % 2 ^ 16 = omega arith in
    let upper : not (bit_and x 4294901760 == 0) ≡ not (x / 2 ^ (16 + 0) % 2 ^ 16 == 0) = ap (λ (z : ℕ). not (z == 0)) (and_high x 16 16) ∙ ap not (times (x / 65536 % 65536)) in
    let old : not (bit_and x 65535 == 0) ≡ list_any (is_old_at x) (range_with_len 0 16) = sym (some_bit x 0 0 16 ∙ ap (λ (z : ℕ). not (z == 0)) (plain ∙ sym (and_mask x 16))) in
    let new : not (bit_and x 4294901760 == 0) ≡ list_any (is_new_at x) (range_with_len 0 16) = upper ∙ sym (some_bit x 16 0 16) in
    ap₂ pair old new ∙ ap (λ (m : ℕ). pair (list_any (is_old_at m) (range_with_len 0 16)) (list_any (is_new_at m) (range_with_len 0 16))) c.self.view_is
