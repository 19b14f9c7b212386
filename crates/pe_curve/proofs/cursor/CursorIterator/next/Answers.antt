-- The first of what is left is the next child's digits.
use Rattle.std.proofs.Common.{◌≡◌, ℕ, [], ◌∷◌, ◌+◌, ◌-◌, ◌*◌, ◌/◌, ◌%◌, ◌^◌, ◌≤◌, length, drop, Some, ap, sym, ◌∙◌, arith}
use Rattle.std.specs.Prelude.{slice_get}
use Rattle.std.proofs.lemmas.List.{drop_all}
use Rattle.pe_base.specs.declared.place.Digits.{Digits}
use Rattle.pe_base.specs.Tree.Places.{bits}
use Rattle.pe_base.specs.Tree.Curve.{child_digits}
use Rattle.pe_base.proofs.Tree.CurveLaws.{length-child_digits}
use Rattle.pe_curve.proofs.DigitLaws.{drop-slice_get, thirds}
use Rattle.pe_curve.proofs.cursor.CursorIterator.next.Goals as goal
use Rattle.pe_curve.proofs.cursor.CursorIterator.next.Goals.{then-behind-eq2, else-behind-eq2}

none_left : (c : goal.Then-self-eq0) → c.args.self.now ≡ []
none_left c =
    let inside = c.self.inside in
    let es = bits inside.dim inside.flips in
    let past : length (child_digits inside.dim inside.way es) ≤ 3 ^ inside.dim - inside.left = omega (arith, length-child_digits inside.dim inside.way es) in
    sym c.self.view_is ∙ drop_all (3 ^ inside.dim - inside.left) (child_digits inside.dim inside.way es) past

pub returns-then-self-eq0-clause-steps : goal.returns-then-self-eq0-clause-steps
returns-then-self-eq0-clause-steps c = (none_left c, none_left c)

-- the first child of the row, and the row's other children
in_row : (c : goal.After-along_row) → slice_get (child_digits c.self.inside.dim c.self.inside.way (bits c.self.inside.dim c.self.inside.flips)) (3 ^ c.self.inside.dim - 3 * ((c.self.inside.left - 1) / 3 + 1)) ≡ Some c.if-behind-eq2.self
in_row c =
    let inside = c.self.inside in
    let all = child_digits inside.dim inside.way (bits inside.dim inside.flips) in
    let whole : 3 ^ inside.dim % 3 ≡ 0 = thirds inside.dim c.parts.ensures.range.0 c.parts.ensures.range.1 in
    elim c.if-behind-eq2.branch [
      | then-behind-eq2 w ↦
          let number : 3 ^ inside.dim - 3 * ((inside.left - 1) / 3 + 1) ≡ c.parts.result - inside.left = omega (arith, whole, c.parts.ensures.value, w.if-behind-eq2, c.self.invariant.0, c.if-self-eq0.false) in
          ap (slice_get all) number ∙ w.digits_at-self-inside.ensures.child ∙ ap (λ (d : Digits). Some d) (sym w.self-is)
      | else-behind-eq2 w ↦
          let number : 3 ^ inside.dim - 3 * ((inside.left - 1) / 3 + 1) ≡ 3 ^ inside.dim - 3 * (inside.left / 3 + 1) = omega (arith, w.if-behind-eq2, c.if-self-eq0.false) in
          ap (slice_get all) number ∙ c.self.invariant.2 (omega (arith, w.if-behind-eq2, c.if-self-eq0.false)) ∙ ap (λ (d : Digits). Some d) (sym w.self-is)
    ]

-- the digits that come, and those that are left
one_more : (c : goal.After-along_row) → c.args.self.now ≡ c.along_row.result ∷ drop (3 ^ c.self.inside.dim - (c.self.inside.left - 1)) (child_digits c.self.inside.dim c.self.inside.way (bits c.self.inside.dim c.self.inside.flips))
one_more c =
    let inside = c.self.inside in
    let all = child_digits inside.dim inside.way (bits inside.dim inside.flips) in
    let whole : 3 ^ inside.dim % 3 ≡ 0 = thirds inside.dim c.parts.ensures.range.0 c.parts.ensures.range.1 in
    let begin = 3 ^ inside.dim - 3 * ((inside.left - 1) / 3 + 1) in
    let number : 3 ^ inside.dim - inside.left ≡ begin + (2 - (inside.left - 1) % 3) = omega (arith, whole, c.self.invariant.0, c.if-self-eq0.false) in
    let at : slice_get all (3 ^ inside.dim - inside.left) ≡ Some c.along_row.result =
    ap (slice_get all) number ∙ c.along_row.ensures inside.way inside.flips begin (omega (arith, whole)) (omega (arith, whole, c.self.invariant.0, c.if-self-eq0.false)) (in_row c) in
    let more : 3 ^ inside.dim - inside.left + 1 ≡ 3 ^ inside.dim - (inside.left - 1) = omega (arith, c.self.invariant.0, c.if-self-eq0.false) in
    sym c.self.view_is ∙ drop-slice_get all (3 ^ inside.dim - inside.left) c.along_row.result at
    ∙ ap (λ (n : ℕ). c.along_row.result ∷ drop n all) more

pub returns-clause-steps : goal.returns-clause-steps
returns-clause-steps c = one_more c

pub returns-clause-goes : goal.returns-clause-goes
returns-clause-goes c = record { on = λ f. (tt, tt, omega (arith, ap (length {A = Digits}) (one_more c))); keeps = tt; rests = λ f. tt }
