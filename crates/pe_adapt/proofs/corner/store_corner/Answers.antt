use Rattle.std.proofs.Common.{◌≡◌, sym, ◌∙◌, Ok, Err}
use Rattle.std.specs.Prelude.{◌-◌}
use Rattle.pe_stacks.specs.Sights.{record_of}
use Rattle.pe_adapt.specs.TouchCalls.{hand_of}
use Rattle.pe_adapt.proofs.CountedTouches.{store-touched, output-is}
use Rattle.pe_adapt.proofs.Alone.{alone-may-store}
use Rattle.pe_adapt.proofs.corner.store_corner.Goals as goal

pub store_in_slot-answer-requires-clause-fits : goal.store_in_slot-answer-requires-clause-fits
store_in_slot-answer-requires-clause-fits g c =
    let old = hand_of (g.M.Mapping.held c.args.m.now) (g.DV.Depot.holds c.args.dv.now) (g.DV.Depot.room c.args.dv.now) c.args.parents.now c.args.parent.now c.at_first-progress.result in
    alone-may-store g.M.Effects.rules g.M.Mapping.numbers c.settings_of_store-settings.result c.args.spot.now old c.args.v c.requires.spot c.requires.placed c.requires.stacks c.requires.counts
    c.requires.out c.at_first-progress.ensures

pub returns-in-Ok-clause-follows : goal.returns-in-Ok-clause-follows
returns-in-Ok-clause-follows g c = λ cells.
    let rules = g.M.Effects.rules in
    let numbers = g.M.Mapping.numbers in
    let spot = c.args.spot.now in
    let settings = c.settings_of_store-settings.result in
    let old = hand_of (g.M.Mapping.held c.args.m.now) (g.DV.Depot.holds c.args.dv.now) (g.DV.Depot.room c.args.dv.now) c.args.parents.now c.args.parent.now c.at_first-progress.result in
    let call = c.store_in_slot-answer.new in
    let new = hand_of (g.M.Mapping.held call.m) (g.DV.Depot.holds call.dv) (g.DV.Depot.room call.dv) call.parents call.parent call.progress in
    let set = c.settings_of_store-settings.ensures in
    let out : 17 - settings.input ≡ spot.output = sym (output-is _ _ _ _ settings.streams) ∙ set.output in
    let may = alone-may-store rules numbers settings spot old c.args.v c.requires.spot c.requires.placed c.requires.stacks c.requires.counts c.requires.out c.at_first-progress.ensures in
    rw set.traversal at (rw out at (store-touched rules numbers settings spot.cell spot.corner (Ok tt) old new (record_of numbers.vertex c.args.v) may c.in-Ok.ensures.goes cells))

pub returns-in-Err-clause-follows : goal.returns-in-Err-clause-follows
returns-in-Err-clause-follows g c = λ cells.
    let rules = g.M.Effects.rules in
    let numbers = g.M.Mapping.numbers in
    let spot = c.args.spot.now in
    let settings = c.settings_of_store-settings.result in
    let old = hand_of (g.M.Mapping.held c.args.m.now) (g.DV.Depot.holds c.args.dv.now) (g.DV.Depot.room c.args.dv.now) c.args.parents.now c.args.parent.now c.at_first-progress.result in
    let call = c.store_in_slot-answer.new in
    let new = hand_of (g.M.Mapping.held call.m) (g.DV.Depot.holds call.dv) (g.DV.Depot.room call.dv) call.parents call.parent call.progress in
    let set = c.settings_of_store-settings.ensures in
    let out : 17 - settings.input ≡ spot.output = sym (output-is _ _ _ _ settings.streams) ∙ set.output in
    let may = alone-may-store rules numbers settings spot old c.args.v c.requires.spot c.requires.placed c.requires.stacks c.requires.counts c.requires.out c.at_first-progress.ensures in
    rw c.of_halt.ensures.failure (rw set.traversal at (rw out at (store-touched rules numbers settings spot.cell spot.corner (Err c.in-Err.halt) old new (record_of numbers.vertex c.args.v) may c.in-Err.ensures.goes cells)))
