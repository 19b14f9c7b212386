use Rattle.std.proofs.Common.{None, refl}
use Rattle.pe_stacks.specs.Sights.{record_of}
use Rattle.pe_hang.specs.InHand.{setting_of, family_in_hand}
use Rattle.pe_mapping.specs.Held.{found_of}
use Rattle.pe_stacks.specs.RecordsOut.{held_by}
use Rattle.pe_adapt.specs.Slots.{seen_slot}
use Rattle.pe_adapt.specs.Stops.{failure_of_halt}
use Rattle.pe_adapt.proofs.Loading.{loaded-born, loaded-stored, stored-top}
use Rattle.pe_adapt.proofs.load.load_first.Goals as goal

pub returns-in-Born-clause-follows : goal.returns-in-Born-clause-follows
returns-in-Born-clause-follows g c = λ cells.
    let numbers = g.M.Mapping.numbers in
    let old = g.M.Mapping.held c.args.m.now in
    let new = g.M.Mapping.held c.load_born.new.m in
    let holds = g.DV.Depot.holds c.args.dv.now in
    let vertices = held_by holds (g.DV.Depot.room c.args.dv.now) in
    let set = setting_of g.M.Effects.rules old c.args.start_level 0 c.args.traversal in
    let family' = family_in_hand numbers c.load_born.new.parents c.load_born.new.parent new.list in
    loaded-born (record_of numbers.vertex) set c.args.input c.args.at.now holds (family_in_hand numbers c.args.parents.now c.args.parent.now old.list)
    c.args.kind None (g.DV.Depot.holds c.load_born.new.dv) (λ (d : Unit {0}). (seen_slot numbers.vertex c.load_born.new.slot, family'))
    (failure_of_halt c.args.at.now) c.load_born.result (found_of old vertices cells) new.told
    c.in-Born.is refl c.requires.fits c.load_born.ensures.lent (c.load_born.ensures.follows vertices cells)

pub returns-in_default-clause-follows : goal.returns-in_default-clause-follows
returns-in_default-clause-follows g c = λ cells.
    let numbers = g.M.Mapping.numbers in
    let old = g.M.Mapping.held c.args.m.now in
    let new = g.M.Mapping.held c.load_stored.new.m in
    let holds = g.DV.Depot.holds c.args.dv.now in
    let vertices = held_by holds (g.DV.Depot.room c.args.dv.now) in
    let set = setting_of g.M.Effects.rules old c.args.start_level 0 c.args.traversal in
    let family = family_in_hand numbers c.args.parents.now c.args.parent.now old.list in
    let family' = family_in_hand numbers c.load_stored.new.parents c.load_stored.new.parent new.list in
    let found = stored-top (record_of numbers.vertex) set c.args.input c.args.at.now holds family
    c.args.kind None c.requires.counts c.in_default.not-Born refl c.requires.fits in
    loaded-stored (record_of numbers.vertex) set c.args.input c.args.at.now holds family
    c.args.kind None (g.DV.Depot.holds c.load_stored.new.dv) found.0 (λ (d : Unit {0}). (seen_slot numbers.vertex c.load_stored.new.slot, family'))
    (failure_of_halt c.args.at.now) c.load_stored.result (found_of old vertices cells) new.told
    c.requires.counts c.in_default.not-Born refl c.requires.fits c.load_stored.ensures.popped found.1 (c.load_stored.ensures.follows vertices cells found.0 found.1)
