-- The first child, by the flips of the cell above.
use Rattle.std.proofs.Common.{sym, subst}
use Rattle.pe_base.specs.Tree.Places.{bits}
use Rattle.pe_base.proofs.Tree.PlaceLaws.{cell_coordinate_below}
use Rattle.pe_states.specs.Sides.{IsRow}
use Rattle.pe_adapt.specs.Ages.{GiveKinds}
use Rattle.pe_curve.specs.Steps.{IsStep}
use Rattle.pe_walk.proofs.child.first_child.Goals as goal

pub child_at-place-requires-clause-pos : goal.child_at-place-requires-clause-pos
child_at-place-requires-clause-pos g c = cell_coordinate_below c.args.settings.now.setup.dim c.args.above.now.place c.requires.above.place

pub returns : goal.returns
returns g c =
    let s = c.args.settings.now in
    let above = c.args.above.now in
    let axes = s.setup.dim in
    let step = c.first-step.result in
    let same = c.dim_in-dim.ensures in
    let begins = subst (λ d. IsStep d s.way (bits d c.flips.result) 0 step) same c.first-step.ensures in
    let is = subst (λ es. IsStep axes s.way es 0 step) (c.flips.ensures axes s.way above.place c.requires.above.place c.requires.above.state) begins in
    record {
      step = is;
      place = c.child_at-place.ensures;
      state = c.child-state.ensures.stands axes s.way above.place c.requires.above.place c.requires.above.state;
      row = c.set_row.ensures;
      row_ages = subst (λ d. IsRow d step.digits above.ages c.row-row_ages.result) same c.row-row_ages.ensures;
      kinds = λ its are. subst (λ p. GiveKinds axes s.traversal p its c.child_ages-ages.result) (sym c.child_at-place.ensures) (c.child_ages-ages.ensures its are);
    }
