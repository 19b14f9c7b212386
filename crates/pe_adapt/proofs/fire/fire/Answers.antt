use Rattle.std.proofs.Common.{Ok, Err, refl, sym, subst}
use Rattle.pe_base.specs.Acts.Effects.{VertexRecord}
use Rattle.pe_base.specs.Walk.Core.{Family, vertex_event}
use Rattle.pe_base.specs.Walk.Working.{no_vertex}
use Rattle.pe_base.specs.Calls.Follows.{Follows, failure_at}
use Rattle.pe_mapping.specs.Held.{found_of}
use Rattle.pe_stacks.specs.Sights.{record_of}
use Rattle.pe_hang.specs.InHand.{setting_of_events, family_in_hand}
use Rattle.pe_hang.proofs.Firing.{vertex_event-follows}
use Rattle.pe_adapt.specs.Slots.{seen_slot}
use Rattle.pe_adapt.proofs.Errors.{err-after}
use Rattle.pe_adapt.proofs.fire.fire.Goals as goal

pub returns-in-Ok-clause-follows : goal.returns-in-Ok-clause-follows
returns-in-Ok-clause-follows g c = λ vertices cells.
    let numbers = g.M.Mapping.numbers in
    let old = g.M.Mapping.held c.args.m.now in
    let after = c.vertex_event.new in
    let new = g.M.Mapping.held after.self in
    let set = setting_of_events g.M.Effects.rules old c.args.traversal in
    let at = c.args.at.now in
    let family = family_in_hand numbers c.args.parents.now c.args.parent.now old.list in
    let end : Unit {0} → VertexRecord × Family = λ done. (record_of numbers.vertex after.vertex, family_in_hand numbers after.parents after.parent new.list) in
    subst (λ slot. Follows (vertex_event set c.args.event at (seen_slot numbers.vertex slot, family)) end (Ok c.in-Ok.field-0) (found_of old vertices cells) new.told)
    (sym c.filled_mut.ensures.value)
    (vertex_event-follows numbers set c.args.event at old new vertices cells c.filled_mut.result.now after.vertex c.args.parents.now after.parents c.args.parent.now after.parent
    (Ok c.in-Ok.field-0) refl c.in-Ok.ensures.answer)

pub returns-in-Err-clause-follows : goal.returns-in-Err-clause-follows
returns-in-Err-clause-follows g c = λ vertices cells.
    let numbers = g.M.Mapping.numbers in
    let old = g.M.Mapping.held c.args.m.now in
    let after = c.vertex_event.new in
    let new = g.M.Mapping.held after.self in
    let set = setting_of_events g.M.Effects.rules old c.args.traversal in
    let at = c.args.at.now in
    let family = family_in_hand numbers c.args.parents.now c.args.parent.now old.list in
    let end : Unit {0} → VertexRecord × Family = λ done. (record_of numbers.vertex after.vertex, family_in_hand numbers after.parents after.parent new.list) in
    let failed : Unit {0} → VertexRecord × Family = λ done. (no_vertex, family_in_hand numbers after.parents after.parent new.list) in
    rw (c.of_event.ensures.failure at)
    (err-after (vertex_event set c.args.event at (seen_slot numbers.vertex c.args.slot.now, family)) end failed (failure_at c.args.event at c.in-Err.stop) (found_of old vertices cells) new.told
    (subst (λ slot. Follows (vertex_event set c.args.event at (seen_slot numbers.vertex slot, family)) end (Err (failure_at c.args.event at c.in-Err.stop)) (found_of old vertices cells) new.told)
    (sym c.filled_mut.ensures.value)
    (vertex_event-follows numbers set c.args.event at old new vertices cells c.filled_mut.result.now after.vertex c.args.parents.now after.parents c.args.parent.now after.parent
    (Err c.in-Err.stop) refl c.in-Err.ensures.answer)))
