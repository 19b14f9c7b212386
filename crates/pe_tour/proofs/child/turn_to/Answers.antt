-- The first child of another row.
use Rattle.std.proofs.Common.{ap, subst, ◌∙◌}
use Rattle.pe_base.specs.declared.place.Place.{Place}
use Rattle.pe_base.proofs.Tree.PlaceLaws.{cell_coordinate_below}
use Rattle.pe_states.specs.Sides.{IsRow}
use Rattle.pe_access.specs.States.{StandsFor}
use Rattle.pe_tour.specs.Cells.{kind_of_child}
use Rattle.pe_tour.proofs.Children.{upwards, child-is}
use Rattle.pe_tour.proofs.child.turn_to.Goals as goal

pub child_at-place-requires-clause-pos : goal.child_at-place-requires-clause-pos
child_at-place-requires-clause-pos g c = cell_coordinate_below c.args.settings.now.dim c.args.over.now.place c.requires.over.place

pub returns : goal.returns
returns g c n ahead =
    let s = c.args.settings.now in
    let over = c.args.over.now in
    let ages = c.args.ages in
    let child = c.args.child.now in
    let step = child.cell.step in
    let axes = s.dim in
    let was = ahead.was in
    let row_ages = subst (λ d. IsRow d step.digits ages c.row-row_ages.result) c.dim_in-dim.ensures c.row-row_ages.ensures in
    let was_state = subst (λ p. StandsFor axes s.way p child.cell.state) was.is.under was.is.at.state in
    child-is s over ages n _ c.requires.over ahead.step c.child_at-place.ensures
    (c.turn.ensures.stands axes s.way over.place ahead.from.digits c.requires.over.place was.step.digits c.requires.over.state was_state ahead.agree
    (λ i within. upwards s over n i step ahead.step within))
    c.set_row.ensures row_ages (c.child_ages-its_ages.ensures ages row_ages)
    (was.is.aged.kind ∙ ap (λ (p : Place). kind_of_child s.traversal p.level ages) was.is.under)
