use Rattle.std.proofs.Common.{◌≡◌, ◌-◌, true, Ok, refl, sym, ap, subst, arith}
use Rattle.std.proofs.lemmas.Result.{IfErr-weaker}
use Rattle.std.specs.Prelude.{OnOk, OnErr}
use Rattle.pe_base.specs.Walk.Core.{Family, Own}
use Rattle.pe_stacks.specs.Holdings.{pushed}
use Rattle.pe_stacks.specs.Sights.{seen_cell}
use Rattle.pe_hang.specs.InHand.{family_in_hand, own_in_hand, vertices_on_stacks}
use Rattle.pe_hang.specs.Moves.{MayPush}
use Rattle.pe_base.specs.Calls.Follows.{Follows, wanting, read_by}
use Rattle.pe_mapping.specs.Held.{found_of}
use Rattle.pe_stacks.specs.RecordsOut.{held_by}
use Rattle.pe_hang.proofs.Moving.{push-may}
use Rattle.pe_adapt.specs.declared.stop.Inner.TheVariants.{Memory as ForMemory}
use Rattle.pe_adapt.specs.WalkedCells.{setting_in, stream_stacks_of, failure_in}
use Rattle.pe_walk.specs.Machine.{leave_cell}
use Rattle.pe_walk.proofs.Visiting.{on_cells, left-failed, ended, put-fits, put, give_up-fits}
use Rattle.pe_walk.proofs.visit.leave_cell.Goals as goal

pub put_down-requires : goal.put_down-requires
put_down-requires g c =
    let numbers = g.M.Mapping.numbers in
    let old = g.M.Mapping.held c.args.m.now in
    let new = g.M.Mapping.held c.fire_leaving.new.m in
    let s = c.args.settings.now in
    let f = seen_cell numbers.cell in
    let holds = g.DC.Depot.holds c.args.dc.now in
    let after : Own × Family = (own_in_hand numbers c.fire_leaving.new.cell c.fire_leaving.new.corners, family_in_hand numbers c.fire_leaving.new.parents c.fire_leaving.new.parent new.list) in
    let found = found_of old (held_by holds (g.DC.Depot.room c.args.dc.now)) (held_by holds (g.DC.Depot.room c.args.dc.now)) in
    let fits = put-fits f (setting_in g.M.Effects.rules old s) (stream_stacks_of s) c.args.at.now (vertices_on_stacks numbers c.requires.fits.0) c.args.progress.now.tally holds
    (family_in_hand numbers c.args.parents.now c.args.parent.now old.list) c.args.kind c.requires.kind (own_in_hand numbers c.args.cell c.args.corners.now)
    (λ (u : Unit {0}). after) found new.told tt c.in_default.not-Dying (c.in-Ok.ensures.follows found.vertices found.cells) c.requires.fits.1 in
    let same : 1 - s.cell_input ≡ s.cell_output = omega (arith, s.streams.cell_others) in
    record { may = subst (λ n. MayPush holds n) same (push-may f true (1 - s.cell_input) c.fire_leaving.new.cell holds fits) }

pub returns-in-Dying-clause-follows : goal.returns-in-Dying-clause-follows
returns-in-Dying-clause-follows g c = λ vs room.
    let numbers = g.M.Mapping.numbers in
    let old = g.M.Mapping.held c.args.m.now in
    let new = g.M.Mapping.held c.fire_leaving.new.m in
    let s = c.args.settings.now in
    let set = setting_in g.M.Effects.rules old s in
    let f = seen_cell numbers.cell in
    let holds = g.DC.Depot.holds c.args.dc.now in
    let cells = held_by holds (g.DC.Depot.room c.args.dc.now) in
    let tally = c.args.progress.now.tally in
    let own = own_in_hand numbers c.args.cell c.args.corners.now in
    let family = family_in_hand numbers c.args.parents.now c.args.parent.now old.list in
    let after : Own × Family = (own_in_hand numbers c.fire_leaving.new.cell c.fire_leaving.new.corners, family_in_hand numbers c.fire_leaving.new.parents c.fire_leaving.new.parent new.list) in
    let found = found_of old room cells in
    let vertices = vertices_on_stacks numbers vs in
    subst
    (λ t. Follows (leave_cell set (stream_stacks_of s) c.args.at.now (own, on_cells f set (stream_stacks_of s) c.args.at.now vertices tally holds family))
    (λ (u : Unit {0}). (after.0.corners, on_cells f set (stream_stacks_of s) c.args.at.now vertices t (g.DC.Depot.holds c.give_up.new.self) after.1)) (Ok tt) found new.told)
    (sym c.in-Ok.ensures.tally)
    (ended f set (stream_stacks_of s) c.args.at.now vertices tally holds family c.args.kind c.requires.kind own (λ (u : Unit {0}). after) found new.told tt (g.DC.Depot.holds c.give_up.new.self)
    c.in-Dying.is c.give_up.ensures.holds (give_up-fits f holds c.requires.out) (c.in-Ok.ensures.follows room cells))

pub returns-in_default-clause-follows : goal.returns-in_default-clause-follows
returns-in_default-clause-follows g c = λ vs room.
    let numbers = g.M.Mapping.numbers in
    let old = g.M.Mapping.held c.args.m.now in
    let new = g.M.Mapping.held c.fire_leaving.new.m in
    let s = c.args.settings.now in
    let set = setting_in g.M.Effects.rules old s in
    let f = seen_cell numbers.cell in
    let holds = g.DC.Depot.holds c.args.dc.now in
    let cells = held_by holds (g.DC.Depot.room c.args.dc.now) in
    let tally = c.args.progress.now.tally in
    let own = own_in_hand numbers c.args.cell c.args.corners.now in
    let family = family_in_hand numbers c.args.parents.now c.args.parent.now old.list in
    let after : Own × Family = (own_in_hand numbers c.fire_leaving.new.cell c.fire_leaving.new.corners, family_in_hand numbers c.fire_leaving.new.parents c.fire_leaving.new.parent new.list) in
    let found = found_of old room cells in
    let vertices = vertices_on_stacks numbers vs in
    let failure = failure_in c.fire_leaving.new.progress in
    let same : s.cell_output ≡ 1 - s.cell_input = omega (arith, s.streams.cell_others) in
    let fits = put-fits f set (stream_stacks_of s) c.args.at.now (vertices_on_stacks numbers c.requires.fits.0) tally holds family c.args.kind c.requires.kind own
    (λ (u : Unit {0}). after) found new.told tt c.in_default.not-Dying (c.in-Ok.ensures.follows room cells) c.requires.fits.1 in
    subst
    (λ t. Follows (leave_cell set (stream_stacks_of s) c.args.at.now (own, on_cells f set (stream_stacks_of s) c.args.at.now vertices tally holds family))
    (λ (u : Unit {0}). (after.0.corners, on_cells f set (stream_stacks_of s) c.args.at.now vertices t (g.DC.Depot.holds c.put_down.new.d) after.1)) (read_by failure c.put_down.result) found new.told)
    (sym c.in-Ok.ensures.tally)
    (put f set (stream_stacks_of s) c.args.at.now vertices tally holds family c.args.kind c.requires.kind own (λ (u : Unit {0}). after) found new.told tt c.fire_leaving.new.cell (g.DC.Depot.holds c.put_down.new.d)
    (g.DC.Depot.room c.args.dc.now) room failure c.put_down.result refl c.in_default.not-Dying refl fits
    (subst (λ n. OnOk c.put_down.result (g.DC.Depot.holds c.put_down.new.d ≡ pushed holds n c.fire_leaving.new.cell)) same c.put_down.ensures.pushed)
    (IfErr-weaker c.put_down.result (λ halt. halt ≡ ForMemory) (λ halt. failure halt ≡ wanting) (λ halt is. ap failure is) c.put_down.ensures.memory)
    (subst (λ n. OnErr c.put_down.result (g.DC.Depot.room c.args.dc.now n ≡ 0)) same c.put_down.ensures.overfull)
    (c.in-Ok.ensures.follows room cells))

pub returns-in-Err-clause-follows : goal.returns-in-Err-clause-follows
returns-in-Err-clause-follows g c = λ vs room.
    let numbers = g.M.Mapping.numbers in
    let old = g.M.Mapping.held c.args.m.now in
    let new = g.M.Mapping.held c.fire_leaving.new.m in
    let s = c.args.settings.now in
    let f = seen_cell numbers.cell in
    let holds = g.DC.Depot.holds c.args.dc.now in
    let cells = held_by holds (g.DC.Depot.room c.args.dc.now) in
    let after : Own × Family = (own_in_hand numbers c.fire_leaving.new.cell c.fire_leaving.new.corners, family_in_hand numbers c.fire_leaving.new.parents c.fire_leaving.new.parent new.list) in
    let vertices = vertices_on_stacks numbers vs in
    left-failed f (setting_in g.M.Effects.rules old s) (stream_stacks_of s) c.args.at.now vertices c.args.progress.now.tally holds
    (family_in_hand numbers c.args.parents.now c.args.parent.now old.list) c.args.kind c.requires.kind (own_in_hand numbers c.args.cell c.args.corners.now)
    (λ (u : Unit {0}). after) (found_of old room cells) new.told
    (λ (u : Unit {0}). (after.0.corners, on_cells f (setting_in g.M.Effects.rules old s) (stream_stacks_of s) c.args.at.now vertices c.args.progress.now.tally holds after.1))
    (failure_in c.fire_leaving.new.progress c.in-Err.halt) (c.in-Err.ensures.follows room cells)
