-- The first child, by the flips of the cell above.
use Rattle.std.proofs.Common.{subst}
use Rattle.pe_base.specs.Tree.Places.{bits}
use Rattle.pe_base.proofs.Tree.PlaceLaws.{cell_coordinate_below}
use Rattle.pe_states.specs.Sides.{IsRow}
use Rattle.pe_curve.specs.Steps.{IsStep}
use Rattle.pe_tour.proofs.Children.{child-is}
use Rattle.pe_tour.proofs.child.first_child.Goals as goal

pub child_at-place-requires-clause-pos : goal.child_at-place-requires-clause-pos
child_at-place-requires-clause-pos g c = cell_coordinate_below c.args.settings.now.dim c.args.over.now.place c.requires.over.place

pub returns : goal.returns
returns g c =
    let s = c.args.settings.now in
    let over = c.args.over.now in
    let ages = c.args.ages in
    let axes = s.dim in
    let step = c.first-step.result in
    let same = c.dim_in-dim.ensures in
    let begins = subst (λ d. IsStep d s.way (bits d c.flips.result) 0 step) same c.first-step.ensures in
    let is = subst (λ es. IsStep axes s.way es 0 step) (c.flips.ensures axes s.way over.place c.requires.over.place c.requires.over.state) begins in
    let row_ages = subst (λ d. IsRow d step.digits ages c.row-row_ages.result) same c.row-row_ages.ensures in
    child-is s over ages 0 _ c.requires.over is c.child_at-place.ensures
    (c.child-state.ensures.stands axes s.way over.place c.requires.over.place c.requires.over.state)
    c.set_row.ensures row_ages (c.child_ages-its_ages.ensures ages row_ages) c.kind_below-kind.ensures
