use Rattle.std.proofs.Common.{sym, subst, ◌∙◌}
use Rattle.pe_base.specs.declared.event.Event.TheVariants.{TouchVertexFirstTime}
use Rattle.pe_base.specs.Walk.Core.{vertex_event}
use Rattle.pe_hang.specs.InHand.{setting_of_events, family_in_hand}
use Rattle.pe_base.specs.Calls.Follows.{Follows, read_by}
use Rattle.pe_mapping.specs.Held.{found_of}
use Rattle.pe_adapt.specs.Slots.{seen_slot}
use Rattle.pe_adapt.specs.Stops.{failure_of_halt}
use Rattle.pe_adapt.proofs.Records.{read-is}
use Rattle.pe_adapt.proofs.load.load_stored.Goals as goal

pub returns-clause-follows : goal.returns-clause-follows
returns-clause-follows g c = λ vertices cells found top.
    let numbers = g.M.Mapping.numbers in
    let old = g.M.Mapping.held c.args.m.now in
    let new = g.M.Mapping.held c.fire.new.m in
    let set = setting_of_events g.M.Effects.rules old c.args.traversal in
    let handed = sym top ∙ c.pop.ensures.handed in
    let lent = sym c.fill_slot.ensures ∙ c.filled_mut-v.ensures.value in
    let read = read-is set numbers.vertex c.args.kind c.filled_mut-v.result.now c.arrive.new.self found c.state.result c.first_touch-state.result
    (handed ∙ lent) c.state.ensures c.first_touch-state.ensures c.arrive.ensures in
    subst
    (λ it. Follows (vertex_event set TouchVertexFirstTime c.args.at.now (it, family_in_hand numbers c.args.parents.now c.args.parent.now old.list))
    (λ done. (seen_slot numbers.vertex c.fire.new.slot, family_in_hand numbers c.fire.new.parents c.fire.new.parent new.list))
    (read_by (failure_of_halt c.args.at.now) c.fire.result) (found_of old vertices cells) new.told)
    read (c.fire.ensures.follows vertices cells)
