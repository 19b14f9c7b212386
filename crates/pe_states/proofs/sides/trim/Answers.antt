-- By the digit one side is on the boundary, or none.
use Rattle.std.proofs.Common.{◌≡◌, ℕ, ◌-◌, sym, subst, arith}
use Rattle.std.specs.Prelude.{bit_and}
use Rattle.pe_states.specs.Sides.{IsTrimmed}
use Rattle.pe_states.proofs.BoundaryLaws.{trim_near, trim_far, trim_none}
use Rattle.pe_states.proofs.sides.trim.Goals as goal

pub returns-then-digit-eq0 : goal.returns-then-digit-eq0
returns-then-digit-eq0 c =
    let a = c.args in
    let P : ℕ → Type 0 = λ digit. IsTrimmed a.width digit a.ages (bit_and a.ages (4294967295 - a.near)) in
    subst P (sym c.if-digit-eq0.true) (trim_near a.width a.near a.ages c.requires.sides (omega (arith, c.ranges.near)))

pub returns-then-digit-eq2 : goal.returns-then-digit-eq2
returns-then-digit-eq2 c =
    let a = c.args in
    let P : ℕ → Type 0 = λ digit. IsTrimmed a.width digit a.ages (bit_and a.ages a.near) in
    subst P (sym c.if-digit-eq2.true) (trim_far a.width a.near a.ages c.requires.sides)

pub returns-else-digit-eq2 : goal.returns-else-digit-eq2
returns-else-digit-eq2 c =
    let a = c.args in
    let P : ℕ → Type 0 = λ digit. IsTrimmed a.width digit a.ages a.ages in
    let e : 1 ≡ a.digit = omega (arith, c.if-digit-eq0.false, c.if-digit-eq2.false, c.requires.digit) in
    subst P e (trim_none a.width a.ages)
