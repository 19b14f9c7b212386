use Rattle.std.proofs.Common.{Ok, Err, subst}
use Rattle.pe_base.specs.declared.event.Event.TheVariants.{TouchVertexLastTime, DestroyVertex}
use Rattle.pe_base.specs.Acts.Effects.{VertexRecord}
use Rattle.pe_base.specs.Walk.Course.{and_then}
use Rattle.pe_base.specs.Walk.Core.{Family, vertex_event, given_up}
use Rattle.pe_hang.specs.InHand.{setting_of_events, family_in_hand}
use Rattle.pe_base.specs.Calls.Follows.{Follows}
use Rattle.pe_mapping.specs.Held.{found_of}
use Rattle.pe_base.proofs.Calls.Leading.{follows-map, follows-then, leads_start, leads_err}
use Rattle.pe_hang.proofs.Staying.{roomier-held, setting-kept}
use Rattle.pe_adapt.specs.Slots.{seen_slot}
use Rattle.pe_adapt.specs.Stops.{failure_of_halt}
use Rattle.pe_base.proofs.Calls.Errors.{err-is}
use Rattle.pe_adapt.proofs.store.store_dying.Goals as goal

pub returns-clause-follows : goal.returns-clause-follows
returns-clause-follows g c = λ vertices cells.
    let numbers = g.M.Mapping.numbers in
    let old = g.M.Mapping.held c.args.m.now in
    let mid = g.M.Mapping.held c.fire.new.m in
    let new = g.M.Mapping.held c.fire-2.new.m in
    let at = c.args.at.now in
    let set = setting_of_events g.M.Effects.rules old c.args.traversal in
    let it : VertexRecord × Family = (seen_slot numbers.vertex c.args.slot.now, family_in_hand numbers c.args.parents.now c.args.parent.now old.list) in
    let it' : VertexRecord × Family = (seen_slot numbers.vertex c.fire.new.slot, family_in_hand numbers c.fire.new.parents c.fire.new.parent mid.list) in
    let end = λ (u : Unit {0}). (let x : VertexRecord × Family = (seen_slot numbers.vertex c.fire-2.new.slot, family_in_hand numbers c.fire-2.new.parents c.fire-2.new.parent new.list) in x) in
    let again = setting-kept g.M.Effects.rules old mid 0 0 c.args.traversal c.in_ok-fire.ensures.stays.keeps in
    let second = subst (λ s. Follows (vertex_event s DestroyVertex at it') end (Ok tt) (found_of mid vertices cells) new.told) again (c.in_ok-fire-2.ensures.follows vertices cells) in
    follows-map (given_up set) (and_then (vertex_event set TouchVertexLastTime at it) (vertex_event set DestroyVertex at)) end (Ok tt) (found_of old vertices cells) new.told
    (follows-then (vertex_event set TouchVertexLastTime at it) (vertex_event set DestroyVertex at) (λ (u : Unit {0}). it') tt end (Ok tt)
    (found_of old vertices cells) (found_of mid vertices cells) new.told (c.in_ok-fire.ensures.follows vertices cells) (roomier-held old mid vertices cells c.in_ok-fire.ensures.stays.keeps) second)

pub returns-in_err-fire-2-clause-follows : goal.returns-in_err-fire-2-clause-follows
returns-in_err-fire-2-clause-follows g c = λ vertices cells.
    let numbers = g.M.Mapping.numbers in
    let old = g.M.Mapping.held c.args.m.now in
    let mid = g.M.Mapping.held c.fire.new.m in
    let new = g.M.Mapping.held c.fire-2.new.m in
    let at = c.args.at.now in
    let set = setting_of_events g.M.Effects.rules old c.args.traversal in
    let it : VertexRecord × Family = (seen_slot numbers.vertex c.args.slot.now, family_in_hand numbers c.args.parents.now c.args.parent.now old.list) in
    let it' : VertexRecord × Family = (seen_slot numbers.vertex c.fire.new.slot, family_in_hand numbers c.fire.new.parents c.fire.new.parent mid.list) in
    let last = λ (u : Unit {0}). it' in
    let again = setting-kept g.M.Effects.rules old mid 0 0 c.args.traversal c.in_ok-fire.ensures.stays.keeps in
    let failed = Err (failure_of_halt at c.in_err-fire-2.field-0.0) in
    let second = subst (λ s. Follows (vertex_event s DestroyVertex at it') last failed (found_of mid vertices cells) new.told) again (c.in_err-fire-2.ensures.follows vertices cells) in
    rw (err-is c.from_residual-in_err-fire-2.result c.in_err-fire-2.field-0.0 c.from_residual-in_err-fire-2.ensures.1)
    (follows-map (given_up set) (and_then (vertex_event set TouchVertexLastTime at it) (vertex_event set DestroyVertex at)) last failed (found_of old vertices cells) new.told
    (follows-then (vertex_event set TouchVertexLastTime at it) (vertex_event set DestroyVertex at) (λ (u : Unit {0}). it') tt last failed
    (found_of old vertices cells) (found_of mid vertices cells) new.told (c.in_ok-fire.ensures.follows vertices cells) (roomier-held old mid vertices cells c.in_ok-fire.ensures.stays.keeps) second))

pub returns-in_err-fire-clause-follows : goal.returns-in_err-fire-clause-follows
returns-in_err-fire-clause-follows g c = λ vertices cells.
    let numbers = g.M.Mapping.numbers in
    let old = g.M.Mapping.held c.args.m.now in
    let new = g.M.Mapping.held c.fire.new.m in
    let at = c.args.at.now in
    let set = setting_of_events g.M.Effects.rules old c.args.traversal in
    let it : VertexRecord × Family = (seen_slot numbers.vertex c.args.slot.now, family_in_hand numbers c.args.parents.now c.args.parent.now old.list) in
    let inner = and_then (vertex_event set TouchVertexLastTime at it) (vertex_event set DestroyVertex at) in
    let last = λ (u : Unit {0}). it in
    let failure = failure_of_halt at c.in_err-fire.field-0.0 in
    rw (err-is c.from_residual.result c.in_err-fire.field-0.0 c.from_residual.ensures.1)
    (follows-map (given_up set) inner last (Err failure) (found_of old vertices cells) new.told
    (leads_err (vertex_event set TouchVertexLastTime at it) (vertex_event set DestroyVertex at) last last failure new.told
    (leads_start inner (found_of old vertices cells)) (c.in_err-fire.ensures.follows vertices cells)))
