use Rattle.std.proofs.Common.{Ok, Err}
use Rattle.pe_adapt.specs.TouchCalls.{hand_of}
use Rattle.pe_adapt.proofs.CountedTouches.{load-touched}
use Rattle.pe_adapt.proofs.Alone.{alone-may-load}
use Rattle.pe_adapt.proofs.corner.load_corner.Goals as goal

pub load_in_slot-requires-clause-fits : goal.load_in_slot-requires-clause-fits
load_in_slot-requires-clause-fits g c =
    let old = hand_of (g.M.Mapping.held c.args.m.now) (g.DV.Depot.holds c.args.dv.now) (g.DV.Depot.room c.args.dv.now) c.args.parents.now c.args.parent.now c.at_first-progress.result in
    let set = c.settings_at-settings.ensures in
    alone-may-load g.M.Effects.rules g.M.Mapping.numbers c.settings_at-settings.result c.args.spot.now old c.requires.state.grid c.requires.spot c.requires.quiet c.requires.counts
    c.at_first-progress.ensures set.input set.traversal c.requires.source

pub returns-in-Ok-clause-follows : goal.returns-in-Ok-clause-follows
returns-in-Ok-clause-follows g c = λ cells.
    let rules = g.M.Effects.rules in
    let numbers = g.M.Mapping.numbers in
    let spot = c.args.spot.now in
    let settings = c.settings_at-settings.result in
    let old = hand_of (g.M.Mapping.held c.args.m.now) (g.DV.Depot.holds c.args.dv.now) (g.DV.Depot.room c.args.dv.now) c.args.parents.now c.args.parent.now c.at_first-progress.result in
    let call = c.load_in_slot.new in
    let new = hand_of (g.M.Mapping.held call.m) (g.DV.Depot.holds call.dv) (g.DV.Depot.room call.dv) call.parents call.parent call.progress in
    let set = c.settings_at-settings.ensures in
    let may = alone-may-load rules numbers settings spot old c.requires.state.grid c.requires.spot c.requires.quiet c.requires.counts c.at_first-progress.ensures set.input set.traversal c.requires.source in
    rw set.setup at (rw set.traversal at (rw set.input at (rw c.unwrap.ensures at (load-touched rules numbers settings spot.cell spot.corner (Ok tt) old new call.slot may c.in-Ok.ensures.goes cells))))

pub returns-in-Err-clause-follows : goal.returns-in-Err-clause-follows
returns-in-Err-clause-follows g c = λ cells.
    let rules = g.M.Effects.rules in
    let numbers = g.M.Mapping.numbers in
    let spot = c.args.spot.now in
    let settings = c.settings_at-settings.result in
    let old = hand_of (g.M.Mapping.held c.args.m.now) (g.DV.Depot.holds c.args.dv.now) (g.DV.Depot.room c.args.dv.now) c.args.parents.now c.args.parent.now c.at_first-progress.result in
    let call = c.load_in_slot.new in
    let new = hand_of (g.M.Mapping.held call.m) (g.DV.Depot.holds call.dv) (g.DV.Depot.room call.dv) call.parents call.parent call.progress in
    let set = c.settings_at-settings.ensures in
    let may = alone-may-load rules numbers settings spot old c.requires.state.grid c.requires.spot c.requires.quiet c.requires.counts c.at_first-progress.ensures set.input set.traversal c.requires.source in
    rw c.of_halt.ensures.failure (rw set.setup at (rw set.traversal at (rw set.input at (load-touched rules numbers settings spot.cell spot.corner (Err c.in-Err.halt) old new call.slot may c.in-Err.ensures.goes cells))))
