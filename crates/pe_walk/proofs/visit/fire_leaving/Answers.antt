use Rattle.std.proofs.Common.{Ok, subst}
use Rattle.pe_base.specs.declared.event.Event.TheVariants.{LeaveCell, DestroyCell}
use Rattle.pe_base.specs.Walk.Core.{Family, Own, cell_event}
use Rattle.pe_hang.specs.InHand.{family_in_hand, own_in_hand}
use Rattle.pe_base.specs.Calls.Follows.{Follows, read_by}
use Rattle.pe_mapping.specs.Held.{found_of}
use Rattle.pe_base.proofs.Calls.Leading.{follows-then}
use Rattle.pe_hang.proofs.Staying.{roomier-held, setting-kept}
use Rattle.pe_adapt.specs.WalkedCells.{setting_in, failure_in}
use Rattle.pe_walk.proofs.Visiting.{leave-stays, leave-dies, leave-fails}
use Rattle.pe_walk.proofs.visit.fire_leaving.Goals as goal

pub returns-in-Dying-clause-follows : goal.returns-in-Dying-clause-follows
returns-in-Dying-clause-follows g c = λ vertices cells.
    let numbers = g.M.Mapping.numbers in
    let rules = g.M.Effects.rules in
    let old = g.M.Mapping.held c.args.m.now in
    let mid = g.M.Mapping.held c.fire_cell.new.m in
    let new = g.M.Mapping.held c.fire_cell-in-Dying.new.m in
    let at = c.args.at.now in
    let s = c.args.settings.now in
    let set = setting_in rules old s in
    let own = own_in_hand numbers c.args.cell.now c.args.corners.now in
    let family = family_in_hand numbers c.args.parents.now c.args.parent.now old.list in
    let it : Own × Family = (own_in_hand numbers c.fire_cell.new.cell c.fire_cell.new.corners, family_in_hand numbers c.fire_cell.new.parents c.fire_cell.new.parent mid.list) in
    let last : Own × Family = (own_in_hand numbers c.fire_cell-in-Dying.new.cell c.fire_cell-in-Dying.new.corners, family_in_hand numbers c.fire_cell-in-Dying.new.parents c.fire_cell-in-Dying.new.parent new.list) in
    let answer = read_by (failure_in c.fire_cell-in-Dying.new.progress) c.fire_cell-in-Dying.result in
    leave-dies set at own family c.args.kind (λ (u : Unit {0}). last) answer (found_of old vertices cells) new.told c.in-Dying.is
    (follows-then (cell_event set LeaveCell at (own, family)) (cell_event set DestroyCell at) (λ (u : Unit {0}). it) tt (λ (u : Unit {0}). last) answer
    (found_of old vertices cells) (found_of mid vertices cells) new.told (c.in-Ok.ensures.follows vertices cells) (roomier-held old mid vertices cells c.in-Ok.ensures.stays.keeps)
    (subst (λ z. Follows (cell_event z DestroyCell at it) (λ (u : Unit {0}). last) answer (found_of mid vertices cells) new.told)
    (setting-kept rules old mid s.setup.start_level s.setup.max_cells s.traversal c.in-Ok.ensures.stays.keeps) (c.fire_cell-in-Dying.ensures.follows vertices cells)))

pub returns-in_default-clause-follows : goal.returns-in_default-clause-follows
returns-in_default-clause-follows g c = λ vertices cells.
    let numbers = g.M.Mapping.numbers in
    let old = g.M.Mapping.held c.args.m.now in
    let new = g.M.Mapping.held c.fire_cell.new.m in
    let it : Own × Family = (own_in_hand numbers c.fire_cell.new.cell c.fire_cell.new.corners, family_in_hand numbers c.fire_cell.new.parents c.fire_cell.new.parent new.list) in
    leave-stays (setting_in g.M.Effects.rules old c.args.settings.now) c.args.at.now (own_in_hand numbers c.args.cell.now c.args.corners.now) (family_in_hand numbers c.args.parents.now c.args.parent.now old.list)
    c.args.kind (λ (u : Unit {0}). it) (Ok tt) (found_of old vertices cells) new.told c.in_default.not-Dying (c.in-Ok.ensures.follows vertices cells)

pub returns-in-Err-clause-follows : goal.returns-in-Err-clause-follows
returns-in-Err-clause-follows g c = λ vertices cells.
    let numbers = g.M.Mapping.numbers in
    let old = g.M.Mapping.held c.args.m.now in
    let new = g.M.Mapping.held c.fire_cell.new.m in
    let it : Own × Family = (own_in_hand numbers c.fire_cell.new.cell c.fire_cell.new.corners, family_in_hand numbers c.fire_cell.new.parents c.fire_cell.new.parent new.list) in
    leave-fails (setting_in g.M.Effects.rules old c.args.settings.now) c.args.at.now (own_in_hand numbers c.args.cell.now c.args.corners.now) (family_in_hand numbers c.args.parents.now c.args.parent.now old.list)
    c.args.kind (λ (u : Unit {0}). it) (λ (u : Unit {0}). it) (failure_in c.fire_cell.new.progress c.in-Err.halt) (found_of old vertices cells) new.told (c.in-Err.ensures.follows vertices cells)
