-- A step along the row: what is told by the last axis is made anew.
use Rattle.std.proofs.Common.{ℕ, ◌-◌, ◌<◌, sym, ap, subst, ◌∙◌, arith}
use Rattle.pe_base.specs.declared.place.Place.{Place}
use Rattle.pe_base.specs.Tree.Places.{IsDigits}
use Rattle.pe_curve.specs.Steps.{goes_up}
use Rattle.pe_access.specs.States.{StandsFor}
use Rattle.pe_tour.specs.Cells.{AgreeBefore, kind_of_child}
use Rattle.pe_tour.proofs.Children.{row-same, upwards, child-is}
use Rattle.pe_tour.proofs.child.step_to.Goals as goal

pub returns : goal.returns
returns g c n ahead =
    let s = c.args.settings.now in
    let over = c.args.over.now in
    let ages = c.args.ages in
    let child = c.args.child.now in
    let step = child.cell.step in
    let axes = s.dim in
    let was = ahead.was in
    let from = ahead.from in
    let last : axes - 1 < axes = omega (arith, c.requires.over.state.grid.0) in
    let Fit : ℕ → Type 0 = λ d. IsDigits d from.digits in
    let Row : ℕ → Type 0 = λ d. AgreeBefore (d - 1) from.digits step.digits in
    let there = c.step_place.ensures from.digits (subst Fit c.requires.axes was.step.digits) (subst Row c.requires.axes ahead.agree) was.is.under in
    let row_ages = row-same axes ages child.row_ages from.digits step.digits was.step.digits ahead.step.digits ahead.agree was.row_ages in
    let was_state = subst (λ p. StandsFor axes s.way p child.cell.state) was.is.under was.is.at.state in
    child-is s over ages n _ c.requires.over ahead.step there
    (c.step.ensures.stands axes s.way over.place from.digits c.requires.over.place was.step.digits c.requires.over.state was_state ahead.agree
    (ap (λ (d : ℕ). goes_up step (d - 1)) (sym c.requires.axes) ∙ upwards s over n (axes - 1) step ahead.step last))
    (c.step.ensures.row (was_state.same_axes ∙ sym c.requires.over.state.same_axes) was.is.at.row)
    row_ages (c.child_ages-child.ensures ages row_ages) (was.is.aged.kind ∙ ap (λ (p : Place). kind_of_child s.traversal p.level ages) was.is.under)
