-- One bit more in each half.
use Rattle.std.proofs.Common.{◌≡◌, ℕ, ◌+◌, ◌*◌, ◌/◌, ◌%◌, ◌^◌, ◌<◌, Bool, true, false, ◌&&◌, ◌||◌, sym, ap, ap₂, ◌∙◌, inl, inr}
use Rattle.std.specs.Prelude.{◌==◌}
use Rattle.std.proofs.lemmas.Bool.{cases_eq, eq-eqb, ne_eqb, and_right}
use Rattle.std.proofs.lemmas.Nat.{one_shl}
use Rattle.std.proofs.lemmas.Nat.Bits.{bit_at-pow_same, bit_at-pow_other, bit_at-zero}
use Rattle.pe_states.specs.Ages.{has_bit, is_old_at, is_new_at}
use Rattle.pe_states.proofs.Bits.{has_bit_or, and_true}
use Rattle.pe_states.proofs.ages.Ages.with.Goals as goal
use Rattle.pe_states.proofs.ages.Ages.with.Goals.{then-old, else-old, then-new, else-new}

one_bit : (corner k : ℕ) → corner < 16 → has_bit (1 * 2 ^ corner % 65536) k ≡ (k == corner)
one_bit corner k h =
    ap (λ (x : ℕ). has_bit x k) (one_shl corner 16 h) ∙ (elim (cases_eq k corner) [
      | inl e ↦ ap (λ (x : ℕ). x == 1) (ap (λ (i : ℕ). 2 ^ corner / 2 ^ i % 2) e ∙ bit_at-pow_same corner) ∙ sym (eq-eqb k corner e)
      | inr n ↦ ap (λ (x : ℕ). x == 1) (bit_at-pow_other corner k n) ∙ sym (ne_eqb k corner n)
    ])

-- a corner that is to get an age
aged : (x corner k : ℕ) (b : Bool) → corner < 16 → x ≡ 1 * 2 ^ corner % 65536 → b ≡ true → has_bit x k ≡ (k == corner && b)
aged x corner k b h e f = ap (λ (y : ℕ). has_bit y k) e ∙ one_bit corner k h ∙ sym (and_true (k == corner) b f)

-- and one that is not
without_bit : (x corner k : ℕ) (b : Bool) → x ≡ 0 → b ≡ false → has_bit x k ≡ (k == corner && b)
without_bit x corner k b e f = ap (λ (y : ℕ). has_bit y k) e ∙ ap (λ (y : ℕ). y == 1) (bit_at-zero k) ∙ sym (and_right (k == corner) b f)

pub returns-clause-old : goal.returns-clause-old
returns-clause-old c k small =
    let more : has_bit c.if-old.olds k ≡ (k == c.args.corner && c.args.old) = elim c.if-old.branch [
      | then-old w ↦ aged c.if-old.olds c.args.corner k c.args.old c.requires w.olds-is w.if-old.true
      | else-old w ↦ without_bit c.if-old.olds c.args.corner k c.args.old w.olds-is w.if-old.false
    ] in
    has_bit_or c.self.inside.bits c.more.inside.bits k
    ∙ ap₂ (λ (x y : ℕ). has_bit x k || has_bit y k) c.self.view_is c.more.view_is
    ∙ ap (λ b. is_old_at c.args.self k || b) (c.new-more.ensures.old k small ∙ more)

pub returns-clause-new : goal.returns-clause-new
returns-clause-new c k small =
    let more : has_bit c.if-new.news k ≡ (k == c.args.corner && c.args.new) = elim c.if-new.branch [
      | then-new w ↦ aged c.if-new.news c.args.corner k c.args.new c.requires w.news-is w.if-new.true
      | else-new w ↦ without_bit c.if-new.news c.args.corner k c.args.new w.news-is w.if-new.false
    ] in
    has_bit_or c.self.inside.bits c.more.inside.bits (16 + k)
    ∙ ap₂ (λ (x y : ℕ). has_bit x (16 + k) || has_bit y (16 + k)) c.self.view_is c.more.view_is
    ∙ ap (λ b. is_new_at c.args.self k || b) (c.new-more.ensures.new k small ∙ more)
