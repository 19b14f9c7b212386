use Rattle.std.proofs.Common.{refl}
use Rattle.pe_base.specs.declared.event.Event.TheVariants.{DestroyHangingVertex}
use Rattle.pe_base.specs.Walk.Core.{given_up, vertex_event}
use Rattle.pe_base.specs.Calls.Follows.{failure_at, read_by}
use Rattle.pe_base.proofs.Calls.Leading.{follows-map}
use Rattle.pe_mapping.specs.Held.{found_of}
use Rattle.pe_stacks.specs.Sights.{record_of}
use Rattle.pe_hang.specs.InHand.{setting_of_events, family_in_hand}
use Rattle.pe_hang.proofs.Firing.{vertex_event-follows}
use Rattle.pe_hang.proofs.hanging.end_hanging.Goals as goal

pub returns-clause-follows : goal.returns-clause-follows
returns-clause-follows g c = λ vertices cells.
    let numbers = g.M.Mapping.numbers in
    let old = g.M.Mapping.held c.args.m.now in
    let new = g.M.Mapping.held c.vertex_event-answer.new.self in
    let set = setting_of_events g.M.Effects.rules old c.args.traversal in
    let at = c.args.at.now in
    let called = c.vertex_event-answer in
    let first = vertex_event-follows numbers set DestroyHangingVertex at old new vertices cells c.args.v called.new.vertex c.args.parents.now called.new.parents c.args.parent.now called.new.parent called.result refl called.ensures.answer in
    follows-map (given_up set) (vertex_event set DestroyHangingVertex at (record_of numbers.vertex c.args.v, family_in_hand numbers c.args.parents.now c.args.parent.now old.list))
    (λ (u : Unit {0}). (record_of numbers.vertex called.new.vertex, family_in_hand numbers called.new.parents called.new.parent new.list))
    (read_by (failure_at DestroyHangingVertex at) called.result) (found_of old vertices cells) new.told first
