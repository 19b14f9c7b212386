use Rattle.std.proofs.Common.{sym, subst, Ok, Err}
use Rattle.pe_base.specs.Calls.Follows.{Follows, read_by}
use Rattle.pe_walk.specs.Machine.{store_all}
use Rattle.pe_adapt.specs.WalkedCells.{setting_in, stream_stacks_of, failure_in}
use Rattle.pe_adapt.specs.TouchCalls.{MayGo, hand_of, machine_of, found_in}
use Rattle.pe_walk.proofs.CornerLists.{of-full, are-of, empty-of, seen_corners-full}
use Rattle.pe_walk.proofs.corners.store_corners.Goals as goal

pub store_quads-requires-clause-filled : goal.store_quads-requires-clause-filled
store_quads-requires-clause-filled g c = of-full (g.M.Mapping.held c.args.m.now).dim c.args.corners.now c.requires.loaded

pub store_quads-requires-clause-fits : goal.store_quads-requires-clause-fits
store_quads-requires-clause-fits g c =
    let numbers = g.M.Mapping.numbers in
    let held = g.M.Mapping.held c.args.m.now in
    let settings = c.args.settings.now in
    let old = hand_of held (g.DV.Depot.holds c.args.dv.now) (g.DV.Depot.room c.args.dv.now) c.args.parents.now c.args.parent.now c.args.progress.now in
    let seen = seen_corners-full numbers.vertex held.dim c.args.corners.now (are-of held.dim c.args.corners.now c.requires.loaded) (of-full held.dim c.args.corners.now c.requires.loaded) in
    subst (λ its. MayGo g.M.Effects.rules numbers settings (λ set. store_all set (stream_stacks_of settings) c.args.cell.now.place 0 its) old) seen c.requires.fits

pub returns-in-Ok-clause-follows : goal.returns-in-Ok-clause-follows
returns-in-Ok-clause-follows g c = λ cells room.
    let numbers = g.M.Mapping.numbers in
    let held = g.M.Mapping.held c.args.m.now in
    let held' = g.M.Mapping.held c.store_quads.new.m in
    let settings = c.args.settings.now in
    let old = hand_of held (g.DV.Depot.holds c.args.dv.now) (g.DV.Depot.room c.args.dv.now) c.args.parents.now c.args.parent.now c.args.progress.now in
    let new = hand_of held' (g.DV.Depot.holds c.store_quads.new.dv) (g.DV.Depot.room c.store_quads.new.dv) c.store_quads.new.parents c.store_quads.new.parent c.store_quads.new.progress in
    let seen = seen_corners-full numbers.vertex held.dim c.args.corners.now (are-of held.dim c.args.corners.now c.requires.loaded) (of-full held.dim c.args.corners.now c.requires.loaded) in
    subst
    (λ its. Follows (store_all (setting_in g.M.Effects.rules held settings) (stream_stacks_of settings) c.args.cell.now.place 0 its (machine_of numbers cells old))
    (λ (done : Unit {0}). machine_of numbers cells new) (Ok tt) (found_in old room) held'.told)
    (sym seen) (c.in-Ok.ensures.goes.follows cells room)

pub returns-in-Ok-clause-emptied : goal.returns-in-Ok-clause-emptied
returns-in-Ok-clause-emptied g c = empty-of (g.M.Mapping.held c.args.m.now).dim c.store_quads.new.corners c.in-Ok.ensures.corners c.in-Ok.ensures.emptied

pub returns-in-Err-clause-follows : goal.returns-in-Err-clause-follows
returns-in-Err-clause-follows g c = λ cells room.
    let numbers = g.M.Mapping.numbers in
    let held = g.M.Mapping.held c.args.m.now in
    let held' = g.M.Mapping.held c.store_quads.new.m in
    let settings = c.args.settings.now in
    let old = hand_of held (g.DV.Depot.holds c.args.dv.now) (g.DV.Depot.room c.args.dv.now) c.args.parents.now c.args.parent.now c.args.progress.now in
    let new = hand_of held' (g.DV.Depot.holds c.store_quads.new.dv) (g.DV.Depot.room c.store_quads.new.dv) c.store_quads.new.parents c.store_quads.new.parent c.store_quads.new.progress in
    let seen = seen_corners-full numbers.vertex held.dim c.args.corners.now (are-of held.dim c.args.corners.now c.requires.loaded) (of-full held.dim c.args.corners.now c.requires.loaded) in
    subst
    (λ its. Follows (store_all (setting_in g.M.Effects.rules held settings) (stream_stacks_of settings) c.args.cell.now.place 0 its (machine_of numbers cells old))
    (λ (done : Unit {0}). machine_of numbers cells new) (read_by (failure_in c.store_quads.new.progress) (Err c.in-Err.halt)) (found_in old room) held'.told)
    (sym seen) (c.in-Err.ensures.goes.follows cells room)
