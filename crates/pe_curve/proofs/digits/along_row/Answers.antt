-- Along a row the last digit goes from one end to the other.
use Rattle.std.proofs.Common.{ℕ, ◌-◌, set, Some, ap, sym, subst, ◌∙◌, arith}
use Rattle.std.specs.Prelude.{slice_index}
use Rattle.pe_curve.proofs.DigitLaws.{IsStepped, row_child}
use Rattle.pe_curve.proofs.digits.along_row.Goals as goal
use Rattle.pe_curve.proofs.digits.along_row.Goals.{in-0, in-1, in_default}

stepped : (c : goal.Joined-steps) → IsStepped (slice_index c.args.first.k (c.axes.result - 1)) c.args.steps c.match-steps.k
stepped c = elim c.match-steps.branch [
  | in-0 w ↦ (λ e. w.k-is, λ e. absurd (omega arith), λ e. absurd (omega arith))
  | in-1 w ↦ (λ e. absurd (omega arith), λ e. w.k-is, λ e. absurd (omega arith))
  | in_default w ↦ (λ e. absurd (omega arith), λ e. absurd (omega arith), λ e. w.k-is)
]

pub returns : goal.returns
returns c way flips n begins within at =
    let dim = c.args.dim in
    let axes = c.axes.ensures.value in
    let Stepped : ℕ → Type 0 = λ m. IsStepped (slice_index c.args.first.k (m - 1)) c.args.steps c.match-steps.k in
    row_child dim way flips n c.args.steps c.match-steps.k c.args.first (omega (arith, axes, c.axes.ensures.range)) (omega (arith, axes, c.axes.ensures.range)) begins within c.requires.steps c.requires.digits.four (subst Stepped axes (stepped c)) at
    ∙ ap (λ (m : ℕ). Some (record { k = set c.args.first.k (m - 1) c.match-steps.k })) (sym axes)
