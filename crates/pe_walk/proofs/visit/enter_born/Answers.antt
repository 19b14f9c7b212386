use Rattle.std.proofs.Common.{Ok, Err, sym, subst, ◌∙◌}
use Rattle.pe_base.specs.declared.event.Event.TheVariants.{CreateCell, EnterCell}
use Rattle.pe_base.specs.Walk.Course.{and_then}
use Rattle.pe_base.specs.Walk.Core.{Family, Own, cell_event}
use Rattle.pe_mapping.specs.Held.{made_cell, found_of}
use Rattle.pe_stacks.specs.Sights.{corner_records, seen_cell}
use Rattle.pe_stacks.specs.declared.record.CellRec.{CellRec as ACell}
use Rattle.pe_hang.specs.InHand.{family_in_hand, own_in_hand}
use Rattle.pe_base.specs.Calls.Follows.{Follows, read_by}
use Rattle.pe_base.proofs.Calls.Leading.{follows-then, follows-found, leads_start, leads_err}
use Rattle.pe_hang.proofs.Staying.{roomier-held, setting-kept}
use Rattle.pe_adapt.specs.WalkedCells.{setting_in, failure_in}
use Rattle.pe_walk.proofs.Visiting.{fresh-is}
use Rattle.pe_walk.proofs.visit.enter_born.Goals as goal

pub returns-in-Ok-fire_cell-clause-follows : goal.returns-in-Ok-fire_cell-clause-follows
returns-in-Ok-fire_cell-clause-follows g c = λ vertices cells.
    let numbers = g.M.Mapping.numbers in
    let rules = g.M.Effects.rules in
    let before = g.M.Mapping.held c.args.m.now in
    let fresh = g.M.Mapping.held c.fresh_c.new.self in
    let fired = g.M.Mapping.held c.fire_cell.new.m in
    let after = g.M.Mapping.held c.enter_found.new.m in
    let at = c.args.at.now in
    let s = c.args.settings.now in
    let set = setting_in rules before s in
    let it : Own × Family = (own_in_hand numbers c.lend-cell.result c.args.corners.now, family_in_hand numbers c.args.parents.now c.args.parent.now fresh.list) in
    let it' : Own × Family = (own_in_hand numbers c.fire_cell.new.cell c.fire_cell.new.corners, family_in_hand numbers c.fire_cell.new.parents c.fire_cell.new.parent fired.list) in
    let last = λ (cell : ACell g.row.M-C.Denot). (let own : Own × Family = (own_in_hand numbers cell c.enter_found.new.corners, family_in_hand numbers c.enter_found.new.parents c.enter_found.new.parent after.list) in own) in
    let made = fresh-is numbers.cell (corner_records numbers.vertex c.args.corners.now) (corner_records numbers.vertex c.args.parents.now) (seen_cell numbers.cell c.args.parent.now) fresh.list (made_cell rules before)
    c.in-Ok.payload c.new.result c.lend-cell.result c.in-Ok.ensures.answer.payload c.in-Ok.ensures.answer.list c.new.ensures c.lend-cell.ensures.handed in
    let once = setting-kept rules before fresh s.setup.start_level s.setup.max_cells s.traversal c.in-Ok.ensures.keeps in
    let again = setting-kept rules fresh fired s.setup.start_level s.setup.max_cells s.traversal c.in-Ok-fire_cell.ensures.stays.keeps ∙ once in
    follows-found _ _ _ _ _ _ (sym c.in-Ok.ensures.told) (roomier-held before fresh vertices cells c.in-Ok.ensures.keeps)
    (subst
    (λ start. Follows (and_then (cell_event set CreateCell at start) (cell_event set EnterCell at)) last
    (read_by (failure_in c.enter_found.new.progress) c.enter_found.result) (found_of fresh vertices cells) after.told)
    (sym made)
    (follows-then (cell_event set CreateCell at it) (cell_event set EnterCell at) (λ (u : Unit {0}). it') tt last _
    (found_of fresh vertices cells) (found_of fired vertices cells) after.told
    (subst (λ z. Follows (cell_event z CreateCell at it) (λ (u : Unit {0}). it') (Ok tt) (found_of fresh vertices cells) fired.told) once (c.in-Ok-fire_cell.ensures.follows vertices cells))
    (roomier-held fresh fired vertices cells c.in-Ok-fire_cell.ensures.stays.keeps)
    (subst
    (λ z. Follows (cell_event z EnterCell at it') last
    (read_by (failure_in c.enter_found.new.progress) c.enter_found.result) (found_of fired vertices cells) after.told)
    again (c.enter_found.ensures.follows vertices cells))))

pub returns-in-Err-fire_cell-clause-follows : goal.returns-in-Err-fire_cell-clause-follows
returns-in-Err-fire_cell-clause-follows g c = λ vertices cells.
    let numbers = g.M.Mapping.numbers in
    let rules = g.M.Effects.rules in
    let before = g.M.Mapping.held c.args.m.now in
    let fresh = g.M.Mapping.held c.fresh_c.new.self in
    let fired = g.M.Mapping.held c.fire_cell.new.m in
    let at = c.args.at.now in
    let s = c.args.settings.now in
    let set = setting_in rules before s in
    let it : Own × Family = (own_in_hand numbers c.lend-cell.result c.args.corners.now, family_in_hand numbers c.args.parents.now c.args.parent.now fresh.list) in
    let last = λ (cell : ACell g.row.M-C.Denot). (let own : Own × Family = (own_in_hand numbers cell c.fire_cell.new.corners, family_in_hand numbers c.fire_cell.new.parents c.fire_cell.new.parent fired.list) in own) in
    let made = fresh-is numbers.cell (corner_records numbers.vertex c.args.corners.now) (corner_records numbers.vertex c.args.parents.now) (seen_cell numbers.cell c.args.parent.now) fresh.list (made_cell rules before)
    c.in-Ok.payload c.new.result c.lend-cell.result c.in-Ok.ensures.answer.payload c.in-Ok.ensures.answer.list c.new.ensures c.lend-cell.ensures.handed in
    let once = setting-kept rules before fresh s.setup.start_level s.setup.max_cells s.traversal c.in-Ok.ensures.keeps in
    let failure = failure_in c.fire_cell.new.progress c.in-Err-fire_cell.halt in
    let zeros = made_cell rules before in
    let start : Own × Family = (record { cell = zeros.numbers; corners = corner_records numbers.vertex c.args.corners.now }, record { parents = corner_records numbers.vertex c.args.parents.now; parent = seen_cell numbers.cell c.args.parent.now; list = zeros.list }) in
    follows-found (and_then (cell_event set CreateCell at start) (cell_event set EnterCell at)) last (Err failure) (found_of before vertices cells) (found_of fresh vertices cells) fired.told (sym c.in-Ok.ensures.told) (roomier-held before fresh vertices cells c.in-Ok.ensures.keeps)
    (subst
    (λ start. Follows (and_then (cell_event set CreateCell at start) (cell_event set EnterCell at)) last (Err failure) (found_of fresh vertices cells) fired.told)
    (sym made)
    (leads_err (cell_event set CreateCell at it) (cell_event set EnterCell at) (λ (u : Unit {0}). it) last failure fired.told
    (leads_start (and_then (cell_event set CreateCell at it) (cell_event set EnterCell at)) (found_of fresh vertices cells))
    (subst (λ z. Follows (cell_event z CreateCell at it) (λ (u : Unit {0}). it) (Err failure) (found_of fresh vertices cells) fired.told) once (c.in-Err-fire_cell.ensures.follows vertices cells))))
