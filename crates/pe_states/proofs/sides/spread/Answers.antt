-- The ages of both sides are those of the carriers along the axis.
use Rattle.std.proofs.Common.{◌≡◌, ℕ, ◌*◌, ◌^◌, ◌%◌, ◌∙◌, sym, ap₂, subst, arith}
use Rattle.std.specs.Prelude.{◌==◌, bit_or}
use Rattle.std.proofs.lemmas.Bool.{cond-true, cond-false, eq-eqb, ne_eqb}
use Rattle.pe_states.specs.Sides.{IsSpread}
use Rattle.pe_states.proofs.SideLaws.{near_side, low_ages, high_ages, spread_ages, spread_is}
use Rattle.pe_states.proofs.sides.spread.Goals as goal
use Rattle.pe_states.proofs.sides.spread.Goals.{then-digit-eq0, else-digit-eq0, then-digit-eq2, else-digit-eq2}

pub overflow_shr-far_ages : goal.overflow_shr-far_ages
overflow_shr-far_ages c = let sides = near_side c.args.width c.args.near c.requires.sides in omega arith

pub overflow_shl-result : goal.overflow_shl-result
overflow_shl-result c = let sides = near_side c.args.width c.args.near c.requires.sides in omega arith

pub returns : goal.returns
returns c =
    let a = c.args in
    let low_is : c.if-digit-eq0.low ≡ low_ages a.width a.near a.digit a.ages = elim c.if-digit-eq0.branch [
      | then-digit-eq0 w ↦ w.low-is ∙ sym (cond-true (a.digit == 0) _ _ (eq-eqb a.digit 0 w.if-digit-eq0.true))
      | else-digit-eq0 w ↦ w.low-is ∙ sym (cond-false (a.digit == 0) _ _ (ne_eqb a.digit 0 w.if-digit-eq0.false))
    ] in
    let high_is : c.if-digit-eq2.high ≡ high_ages a.width a.near a.digit a.ages = elim c.if-digit-eq2.branch [
      | then-digit-eq2 w ↦ w.high-is ∙ sym (cond-true (a.digit == 2) _ _ (eq-eqb a.digit 2 w.if-digit-eq2.true))
      | else-digit-eq2 w ↦ w.high-is ∙ sym (cond-false (a.digit == 2) _ _ (ne_eqb a.digit 2 w.if-digit-eq2.false))
    ] in
    let whole : bit_or c.if-digit-eq0.low (c.if-digit-eq2.high * 2 ^ a.width % 4294967296) ≡ spread_ages a.width a.near a.digit a.ages =
    ap₂ (λ (l h : ℕ). bit_or l (h * 2 ^ a.width % 4294967296)) low_is high_is in
    let Spread : ℕ → Type 0 = λ m. IsSpread a.width a.digit a.ages m in
    subst Spread (sym whole) (spread_is a.width a.near a.digit a.ages c.requires.sides c.requires.digit (omega (arith, c.ranges.ages)) (omega (arith, c.ranges.near)))
