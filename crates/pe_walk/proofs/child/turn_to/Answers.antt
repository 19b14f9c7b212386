-- The first child of another row.
use Rattle.std.proofs.Common.{sym, subst}
use Rattle.pe_base.proofs.Tree.PlaceLaws.{cell_coordinate_below}
use Rattle.pe_states.specs.Sides.{IsRow}
use Rattle.pe_adapt.specs.Ages.{GiveKinds}
use Rattle.pe_walk.proofs.Children.{upwards}
use Rattle.pe_walk.proofs.child.turn_to.Goals as goal

pub child_at-place-requires-clause-pos : goal.child_at-place-requires-clause-pos
child_at-place-requires-clause-pos g c = cell_coordinate_below c.args.settings.now.setup.dim c.args.above.now.place c.requires.above.place

pub returns : goal.returns
returns g c n ahead =
    let s = c.args.settings.now in
    let above = c.args.above.now in
    let step = c.args.child.now.step in
    let axes = s.setup.dim in
    let was = ahead.was in
    let from = ahead.from in
    record {
      step = ahead.step;
      place = c.child_at-place.ensures;
      state = c.turn.ensures.stands axes s.way above.place from.digits c.requires.above.place was.step.digits c.requires.above.state was.state ahead.agree
          (λ i within. upwards axes s above n i step ahead.step within);
      row = c.set_row.ensures;
      row_ages = subst (λ d. IsRow d step.digits above.ages c.row-row_ages.result) c.dim_in-dim.ensures c.row-row_ages.ensures;
      kinds = λ its are. subst (λ p. GiveKinds axes s.traversal p its c.child_ages-ages.result) (sym c.child_at-place.ensures) (c.child_ages-ages.ensures its are);
    }
