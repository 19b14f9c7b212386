-- A step along the row: what is told by the last axis is made anew.
use Rattle.std.proofs.Common.{ℕ, ◌-◌, ◌<◌, sym, ap, subst, ◌∙◌, arith}
use Rattle.pe_base.specs.Tree.Places.{IsDigits}
use Rattle.pe_adapt.specs.Ages.{GiveKinds}
use Rattle.pe_curve.specs.Steps.{goes_up}
use Rattle.pe_walk.specs.Children.{AgreeBefore}
use Rattle.pe_walk.proofs.Children.{row-same, upwards}
use Rattle.pe_walk.proofs.child.step_to.Goals as goal

pub child_ages-child-requires-clause-row : goal.child_ages-child-requires-clause-row
child_ages-child-requires-clause-row g c =
    let child = c.args.child.now in
    let ahead = c.requires.child.1 in
    row-same c.args.settings.now.setup.dim c.args.above.now.ages child.row_ages ahead.from.digits child.step.digits ahead.was.step.digits ahead.step.digits ahead.agree ahead.was.row_ages

pub returns : goal.returns
returns g c n ahead =
    let s = c.args.settings.now in
    let above = c.args.above.now in
    let child = c.args.child.now in
    let step = child.step in
    let axes = s.setup.dim in
    let was = ahead.was in
    let from = ahead.from in
    let last : axes - 1 < axes = omega (arith, c.requires.above.state.grid.0) in
    let Fit : ℕ → Type 0 = λ d. IsDigits d from.digits in
    let Row : ℕ → Type 0 = λ d. AgreeBefore (d - 1) from.digits step.digits in
    let there = c.step_place.ensures from.digits (subst Fit c.requires.axes was.step.digits) (subst Row c.requires.axes ahead.agree) was.place in
    record {
      step = ahead.step;
      place = there;
      state = c.step.ensures.stands axes s.way above.place from.digits c.requires.above.place was.step.digits c.requires.above.state was.state ahead.agree
          (ap (λ (d : ℕ). goes_up step (d - 1)) (sym c.requires.axes) ∙ upwards axes s above n (axes - 1) step ahead.step last);
      row = c.step.ensures.row (was.state.same_axes ∙ sym c.requires.above.state.same_axes) was.row;
      row_ages = row-same axes above.ages child.row_ages from.digits step.digits was.step.digits ahead.step.digits ahead.agree was.row_ages;
      kinds = λ its are. subst (λ p. GiveKinds axes s.traversal p its c.child_ages-child.result) (sym there) (c.child_ages-child.ensures its are);
    }
