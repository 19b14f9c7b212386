use Rattle.std.proofs.Common.{◌≡◌, [], sym, subst}
use Rattle.std.specs.Prelude.{OnOk}
use Rattle.pe_base.specs.Walk.Core.{Family, Own}
use Rattle.pe_stacks.specs.declared.record.CellRec.{CellRec as ACell}
use Rattle.pe_stacks.specs.Holdings.{lent, popped}
use Rattle.pe_stacks.specs.Sights.{seen_cell, corner_records}
use Rattle.pe_hang.specs.InHand.{family_in_hand, own_in_hand, vertices_on_stacks}
use Rattle.pe_base.specs.Calls.Follows.{Follows, read_by}
use Rattle.pe_mapping.specs.Held.{found_of}
use Rattle.pe_stacks.specs.RecordsOut.{held_by}
use Rattle.pe_hang.proofs.Moving.{lend-may, pop-may}
use Rattle.pe_adapt.specs.WalkedCells.{setting_in, stream_stacks_of, failure_in}
use Rattle.pe_walk.specs.Machine.{enter_cell}
use Rattle.pe_walk.proofs.Visiting.{on_cells, comes-fits, entered, made-fits, made-is, stored-fits, stored-is, enter-stored, enter-made}
use Rattle.pe_walk.proofs.visit.enter_cell.Goals as goal

pub enter_born-requires-clause-count : goal.enter_born-requires-clause-count
enter_born-requires-clause-count g c =
    let numbers = g.M.Mapping.numbers in
    let old = g.M.Mapping.held c.args.m.now in
    let s = c.args.settings.now in
    let set = setting_in g.M.Effects.rules old s in
    let f = seen_cell numbers.cell in
    let family = family_in_hand numbers c.args.parents.now c.args.parent.now old.list in
    let holds = g.DC.Depot.holds c.args.dc.now in
    let vertices = vertices_on_stacks numbers c.requires.fits.0 in
    let tally = c.args.progress.now.tally in
    lend-may f holds
    (made-fits f set (stream_stacks_of s) c.args.at.now vertices tally holds family c.args.kind c.requires.kind c.in-Born.is
    (comes-fits f set (stream_stacks_of s) c.args.at.now vertices tally holds family c.args.kind c.requires.kind (corner_records numbers.vertex c.args.corners.now) c.requires.fits.1))

pub pop-cell-requires : goal.pop-cell-requires
pop-cell-requires g c =
    let numbers = g.M.Mapping.numbers in
    let old = g.M.Mapping.held c.args.m.now in
    let s = c.args.settings.now in
    let set = setting_in g.M.Effects.rules old s in
    let f = seen_cell numbers.cell in
    let family = family_in_hand numbers c.args.parents.now c.args.parent.now old.list in
    let holds = g.DC.Depot.holds c.args.dc.now in
    let vertices = vertices_on_stacks numbers c.requires.fits.0 in
    let tally = c.args.progress.now.tally in
    let may = pop-may f holds s.cell_input
    (stored-fits f set (stream_stacks_of s) c.args.at.now vertices tally holds family c.args.kind c.requires.kind c.in_default.not-Born
    (comes-fits f set (stream_stacks_of s) c.args.at.now vertices tally holds family c.args.kind c.requires.kind (corner_records numbers.vertex c.args.corners.now) c.requires.fits.1)) in
    record { stack = may.stack; full = may.full; count = may.count }

pub returns-in-Born-clause-follows : goal.returns-in-Born-clause-follows
returns-in-Born-clause-follows g c = λ vs room.
    let numbers = g.M.Mapping.numbers in
    let old = g.M.Mapping.held c.args.m.now in
    let new = g.M.Mapping.held c.enter_born.new.m in
    let s = c.args.settings.now in
    let set = setting_in g.M.Effects.rules old s in
    let f = seen_cell numbers.cell in
    let family = family_in_hand numbers c.args.parents.now c.args.parent.now old.list in
    let holds = g.DC.Depot.holds c.args.dc.now in
    let its = corner_records numbers.vertex c.args.corners.now in
    let tally = c.args.progress.now.tally in
    let any = vertices_on_stacks numbers c.requires.fits.0 in
    let fits = made-fits f set (stream_stacks_of s) c.args.at.now any tally holds family c.args.kind c.requires.kind c.in-Born.is
    (comes-fits f set (stream_stacks_of s) c.args.at.now any tally holds family c.args.kind c.requires.kind its c.requires.fits.1) in
    let after = λ (cell : ACell g.row.M-C.Denot). (let it : Own × Family = (own_in_hand numbers cell c.enter_born.new.corners, family_in_hand numbers c.enter_born.new.parents c.enter_born.new.parent new.list) in it) in
    let vertices = vertices_on_stacks numbers vs in
    let found = found_of old room (held_by holds (g.DC.Depot.room c.args.dc.now)) in
    let failure = failure_in c.enter_born.new.progress in
    subst
    (λ t. Follows (enter_cell set (stream_stacks_of s) c.args.at.now its (on_cells f set (stream_stacks_of s) c.args.at.now vertices tally holds family))
    (λ cell. ((after cell).0, on_cells f set (stream_stacks_of s) c.args.at.now vertices t (g.DC.Depot.holds c.enter_born.new.dc) (after cell).1)) (read_by failure c.enter_born.result) found new.told)
    (sym c.enter_born.ensures.tally)
    (entered f set (stream_stacks_of s) c.args.at.now vertices tally holds family c.args.kind c.requires.kind its
    (g.DC.Depot.holds c.enter_born.new.dc) (lent holds) [] after failure c.enter_born.result found new.told
    (made-is f set (stream_stacks_of s) c.args.at.now vertices tally holds family c.args.kind c.requires.kind c.in-Born.is fits) c.enter_born.ensures.holds
    (enter-made f set (stream_stacks_of s) c.args.at.now vertices tally holds family c.args.kind c.requires.kind [] its after (read_by failure c.enter_born.result) found new.told c.in-Born.is
    (c.enter_born.ensures.follows room (held_by holds (g.DC.Depot.room c.args.dc.now)))))

pub returns-in_default-clause-follows : goal.returns-in_default-clause-follows
returns-in_default-clause-follows g c = λ vs room.
    let numbers = g.M.Mapping.numbers in
    let old = g.M.Mapping.held c.args.m.now in
    let new = g.M.Mapping.held c.enter_found.new.m in
    let s = c.args.settings.now in
    let set = setting_in g.M.Effects.rules old s in
    let f = seen_cell numbers.cell in
    let family = family_in_hand numbers c.args.parents.now c.args.parent.now old.list in
    let holds = g.DC.Depot.holds c.args.dc.now in
    let its = corner_records numbers.vertex c.args.corners.now in
    let tally = c.args.progress.now.tally in
    let any = vertices_on_stacks numbers c.requires.fits.0 in
    let fits = stored-fits f set (stream_stacks_of s) c.args.at.now any tally holds family c.args.kind c.requires.kind c.in_default.not-Born
    (comes-fits f set (stream_stacks_of s) c.args.at.now any tally holds family c.args.kind c.requires.kind its c.requires.fits.1) in
    let after = λ (cell : ACell g.row.M-C.Denot). (let it : Own × Family = (own_in_hand numbers cell c.enter_found.new.corners, family_in_hand numbers c.enter_found.new.parents c.enter_found.new.parent new.list) in it) in
    let vertices = vertices_on_stacks numbers vs in
    let found = found_of old room (held_by holds (g.DC.Depot.room c.args.dc.now)) in
    let failure = failure_in c.enter_found.new.progress in
    let x = seen_cell numbers.cell c.pop-cell.result in
    subst
    (λ t. Follows (enter_cell set (stream_stacks_of s) c.args.at.now its (on_cells f set (stream_stacks_of s) c.args.at.now vertices tally holds family))
    (λ cell. ((after cell).0, on_cells f set (stream_stacks_of s) c.args.at.now vertices t (g.DC.Depot.holds c.enter_found.new.dc) (after cell).1)) (read_by failure c.enter_found.result) found new.told)
    (sym c.enter_found.ensures.tally)
    (entered f set (stream_stacks_of s) c.args.at.now vertices tally holds family c.args.kind c.requires.kind its
    (g.DC.Depot.holds c.enter_found.new.dc) (popped holds s.cell_input) x after failure c.enter_found.result found new.told
    (stored-is f set (stream_stacks_of s) c.args.at.now vertices tally holds family c.args.kind c.requires.kind c.pop-cell.result c.in_default.not-Born fits c.pop-cell.ensures.handed)
    (subst (λ h. OnOk c.enter_found.result (g.DC.Depot.holds c.enter_found.new.dc ≡ h)) c.pop-cell.ensures.holds c.enter_found.ensures.holds)
    (enter-stored f set (stream_stacks_of s) c.args.at.now vertices tally holds family c.args.kind c.requires.kind x its after (read_by failure c.enter_found.result) found new.told c.in_default.not-Born
    (c.enter_found.ensures.follows room (held_by holds (g.DC.Depot.room c.args.dc.now)))))
