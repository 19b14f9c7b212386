-- The two bits of a corner.
use Rattle.std.proofs.Common.{◌≡◌, ℕ, ◌/◌, ◌^◌, Bool, ap, ap₂, ◌∙◌}
use Rattle.std.specs.Prelude.{◌==◌, bit_and}
use Rattle.std.proofs.lemmas.Nat.Bits.{shr_and_one}
use Rattle.pe_states.specs.Ages.{is_old_at, is_new_at}
use Rattle.pe_states.proofs.Bits.{has_bit_shr}
use Rattle.pe_states.proofs.ages.Ages.at.Goals as goal

old_bit : (x k : ℕ) → (bit_and (x / 2 ^ k) 1 == 1) ≡ is_old_at x k
old_bit x k = ap (λ (b : ℕ). b == 1) (shr_and_one x k)

new_bit : (x k : ℕ) → (bit_and (x / 2 ^ k / 65536) 1 == 1) ≡ is_new_at x k
new_bit x k = ap (λ (b : ℕ). b == 1) (shr_and_one (x / 2 ^ k) 16) ∙ has_bit_shr x k 16

pub returns : goal.returns
returns c =
    let k = c.args.corner in
    let pair : (b d : Bool) → Bool × Bool = λ b d. (b, d) in
    ap₂ pair (old_bit c.self.inside.bits k) (new_bit c.self.inside.bits k)
    ∙ ap (λ (x : ℕ). pair (is_old_at x k) (is_new_at x k)) c.self.view_is
