use Rattle.std.proofs.Common.{Ok, Err, refl}
use Rattle.pe_hang.proofs.Firing.{cell_event-follows}
use Rattle.pe_adapt.specs.WalkedCells.{setting_in}
use Rattle.pe_walk.proofs.visit.fire_cell.Goals as goal

pub returns-in-Ok-clause-follows : goal.returns-in-Ok-clause-follows
returns-in-Ok-clause-follows g c = λ vertices cells.
    let old = g.M.Mapping.held c.args.m.now in
    let after = c.cell_event.new in
    cell_event-follows g.M.Mapping.numbers (setting_in g.M.Effects.rules old c.args.settings.now) c.args.event c.args.at.now old (g.M.Mapping.held after.self) vertices cells
    c.args.cell.now after.cell c.args.corners.now after.corners c.args.parents.now after.parents c.args.parent.now after.parent
    (Ok c.in-Ok.field-0) refl c.in-Ok.ensures.answer

pub returns-in-Err-clause-follows : goal.returns-in-Err-clause-follows
returns-in-Err-clause-follows g c = λ vertices cells.
    let old = g.M.Mapping.held c.args.m.now in
    let after = c.cell_event.new in
    rw (c.of_event.ensures.failure c.args.at.now)
    (cell_event-follows g.M.Mapping.numbers (setting_in g.M.Effects.rules old c.args.settings.now) c.args.event c.args.at.now old (g.M.Mapping.held after.self) vertices cells
    c.args.cell.now after.cell c.args.corners.now after.corners c.args.parents.now after.parents c.args.parent.now after.parent
    (Err c.in-Err.stop) refl c.in-Err.ensures.answer)
