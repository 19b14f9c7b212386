-- The old ages are the lower half, the new ones the upper.
use Rattle.std.proofs.Common.{◌≡◌, ℕ, ◌+◌, ◌*◌, ◌^◌, ◌%◌, ◌<◌, ◌||◌, ap, ap₂, ◌∙◌, arith}
use Rattle.std.proofs.Math.Bool.{or-false}
use Rattle.std.specs.Prelude.{bit_or}
use Rattle.pe_states.specs.Ages.{has_bit}
use Rattle.pe_states.proofs.Bits.{has_bit_or, lacks_bit, has_bit_shl_low, has_bit_shl_high}
use Rattle.pe_states.proofs.ages.Ages.new.Goals as goal

-- the two halves of a number
whole : (x y : ℕ) → y < 2 ^ 16 → bit_or x (y * 65536 % 4294967296) ≡ bit_or x (y * 2 ^ 16)
whole x y h = let same : y * 65536 % 4294967296 ≡ y * 2 ^ 16 = omega arith in ap (λ (z : ℕ). bit_or x z) same

lower : (x y k : ℕ) → y < 2 ^ 16 → k < 16 → has_bit (bit_or x (y * 65536 % 4294967296)) k ≡ has_bit x k
lower x y k h small =
    ap (λ (z : ℕ). has_bit z k) (whole x y h) ∙ has_bit_or x (y * 2 ^ 16) k ∙ ap (λ b. has_bit x k || b) (has_bit_shl_low y 16 k small) ∙ or-false (has_bit x k)

upper : (x y k : ℕ) → x < 2 ^ 16 → y < 2 ^ 16 → has_bit (bit_or x (y * 65536 % 4294967296)) (16 + k) ≡ has_bit y k
upper x y k g h =
    let past : 16 + k ≡ k + 16 = omega arith in
    ap (λ (z : ℕ). has_bit z (16 + k)) (whole x y h) ∙ has_bit_or x (y * 2 ^ 16) (16 + k)
    ∙ ap₂ (λ a b. a || b) (lacks_bit x 16 (16 + k) g (omega arith)) (has_bit_shl_high y 16 (16 + k) (omega arith) (omega arith) ∙ ap (λ (i : ℕ). has_bit y i) (omega arith))

pub returns-clause-old : goal.returns-clause-old
returns-clause-old c k small =
    lower c.from.result c.from-2.result k (omega (arith, c.ranges.news, c.from-2.ensures)) small ∙ ap (λ (x : ℕ). has_bit x k) c.from.ensures

pub returns-clause-new : goal.returns-clause-new
returns-clause-new c k small =
    upper c.from.result c.from-2.result k (omega (arith, c.ranges.olds, c.from.ensures)) (omega (arith, c.ranges.news, c.from-2.ensures)) ∙ ap (λ (x : ℕ). has_bit x k) c.from-2.ensures
