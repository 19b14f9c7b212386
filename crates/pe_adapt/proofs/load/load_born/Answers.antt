use Rattle.std.proofs.Common.{Ok, Err, sym, subst, ◌∙◌, ap}
use Rattle.pe_base.specs.declared.event.Event.TheVariants.{CreateInnerVertex, TouchVertexFirstTime}
use Rattle.pe_base.specs.Walk.Core.{Family, vertex_event}
use Rattle.pe_base.specs.Walk.Course.{and_then}
use Rattle.pe_base.specs.Acts.Effects.{VertexRecord}
use Rattle.pe_stacks.specs.Sights.{record_of}
use Rattle.pe_hang.specs.InHand.{setting_of, family_in_hand}
use Rattle.pe_base.specs.Calls.Follows.{Follows, read_by}
use Rattle.pe_mapping.specs.Held.{found_of}
use Rattle.pe_base.proofs.Calls.Leading.{follows-then, follows-found, leads_start, leads_err}
use Rattle.pe_hang.proofs.Staying.{roomier-held, setting-kept}
use Rattle.pe_adapt.specs.Stops.{failure_of_halt}
use Rattle.pe_adapt.specs.Slots.{seen_slot}
use Rattle.pe_base.proofs.Calls.Errors.{err-is}
use Rattle.pe_adapt.proofs.Records.{born-is}
use Rattle.pe_adapt.proofs.load.load_born.Goals as goal

pub returns-in_err-fire-clause-follows : goal.returns-in_err-fire-clause-follows
returns-in_err-fire-clause-follows g c = λ vertices cells.
    let numbers = g.M.Mapping.numbers in
    let rules = g.M.Effects.rules in
    let before = g.M.Mapping.held c.args.m.now in
    let fresh = g.M.Mapping.held c.fresh_v.new.self in
    let after = g.M.Mapping.held c.fire.new.m in
    let at = c.args.at.now in
    let set = setting_of rules before c.args.start_level 0 c.args.traversal in
    let parents = c.args.parents.now in
    let parent = c.args.parent.now in
    let it : VertexRecord × Family = (record_of numbers.vertex c.lend.result, family_in_hand numbers parents parent fresh.list) in
    let made = born-is set numbers at parents parent before.list fresh.list c.in-Ok.payload c.start_state-state.result c.new.result c.lend.result
    c.in-Ok.ensures.answer.payload c.in-Ok.ensures.answer.list c.start_state-state.ensures c.new.ensures c.lend.ensures.handed in
    let filled = ap (λ slot. seen_slot numbers.vertex slot) c.fill_slot.ensures in
    let again = setting-kept rules before fresh 0 0 c.args.traversal c.in-Ok.ensures.keeps in
    let next = λ (d : Unit {0}). it in
    let halt = failure_of_halt at c.in_err-fire.field-0.0 in
    let first : Follows (vertex_event set CreateInnerVertex at it) next (Err halt) (found_of fresh vertices cells) after.told =
    subst (λ s. Follows (vertex_event s CreateInnerVertex at it) next (Err halt) (found_of fresh vertices cells) after.told) again
    (subst (λ v. Follows (vertex_event (setting_of rules fresh 0 0 c.args.traversal) CreateInnerVertex at (v, family_in_hand numbers parents parent fresh.list)) next (Err halt) (found_of fresh vertices cells) after.told) filled
    (c.in_err-fire.ensures.follows vertices cells)) in
    let both = and_then (vertex_event set CreateInnerVertex at it) (vertex_event set TouchVertexFirstTime at) in
    let whole : Follows both next (Err halt) (found_of before vertices cells) after.told =
    follows-found both next (Err halt) (found_of before vertices cells) (found_of fresh vertices cells) after.told (sym c.in-Ok.ensures.told) (roomier-held before fresh vertices cells c.in-Ok.ensures.keeps)
    (leads_err (vertex_event set CreateInnerVertex at it) (vertex_event set TouchVertexFirstTime at) next next halt after.told (leads_start both (found_of fresh vertices cells)) first) in
    rw (err-is c.from_residual.result c.in_err-fire.field-0.0 c.from_residual.ensures.1)
    (subst
    (λ start. Follows (and_then (vertex_event set CreateInnerVertex at start) (vertex_event set TouchVertexFirstTime at)) next (Err halt) (found_of before vertices cells) after.told)
    made whole)

pub returns-clause-follows : goal.returns-clause-follows
returns-clause-follows g c = λ vertices cells.
    let numbers = g.M.Mapping.numbers in
    let rules = g.M.Effects.rules in
    let before = g.M.Mapping.held c.args.m.now in
    let fresh = g.M.Mapping.held c.fresh_v.new.self in
    let fired = g.M.Mapping.held c.fire.new.m in
    let after = g.M.Mapping.held c.fire-2.new.m in
    let at = c.args.at.now in
    let set = setting_of rules before c.args.start_level 0 c.args.traversal in
    let parents = c.args.parents.now in
    let parent = c.args.parent.now in
    let it : VertexRecord × Family = (record_of numbers.vertex c.lend.result, family_in_hand numbers parents parent fresh.list) in
    let it' : VertexRecord × Family = (seen_slot numbers.vertex c.fire.new.slot, family_in_hand numbers c.fire.new.parents c.fire.new.parent fired.list) in
    let made = born-is set numbers at parents parent before.list fresh.list c.in-Ok.payload c.start_state-state.result c.new.result c.lend.result
    c.in-Ok.ensures.answer.payload c.in-Ok.ensures.answer.list c.start_state-state.ensures c.new.ensures c.lend.ensures.handed in
    let filled = ap (λ slot. seen_slot numbers.vertex slot) c.fill_slot.ensures in
    let again' = setting-kept rules before fresh 0 0 c.args.traversal c.in-Ok.ensures.keeps in
    let again = setting-kept rules fresh fired 0 0 c.args.traversal c.in_ok-fire.ensures.stays.keeps ∙ again' in
    let end = λ (d : Unit {0}). (let x : VertexRecord × Family = (seen_slot numbers.vertex c.fire-2.new.slot, family_in_hand numbers c.fire-2.new.parents c.fire-2.new.parent after.list) in x) in
    let next = λ (d : Unit {0}). it' in
    let first : Follows (vertex_event set CreateInnerVertex at it) next (Ok tt) (found_of fresh vertices cells) fired.told =
    subst (λ s. Follows (vertex_event s CreateInnerVertex at it) next (Ok tt) (found_of fresh vertices cells) fired.told) again'
    (subst (λ v. Follows (vertex_event (setting_of rules fresh 0 0 c.args.traversal) CreateInnerVertex at (v, family_in_hand numbers parents parent fresh.list)) next (Ok tt) (found_of fresh vertices cells) fired.told) filled
    (c.in_ok-fire.ensures.follows vertices cells)) in
    let second = subst (λ s. Follows (vertex_event s TouchVertexFirstTime at it') end (read_by (failure_of_halt at) c.fire-2.result) (found_of fired vertices cells) after.told)
    again (c.fire-2.ensures.follows vertices cells) in
    follows-found _ _ _ _ _ _ (sym c.in-Ok.ensures.told) (roomier-held before fresh vertices cells c.in-Ok.ensures.keeps)
    (subst
    (λ start. Follows (and_then (vertex_event set CreateInnerVertex at start) (vertex_event set TouchVertexFirstTime at)) end
    (read_by (failure_of_halt at) c.fire-2.result) (found_of fresh vertices cells) after.told)
    made
    (follows-then (vertex_event set CreateInnerVertex at it) (vertex_event set TouchVertexFirstTime at) next tt end _
    (found_of fresh vertices cells) (found_of fired vertices cells) after.told first (roomier-held fresh fired vertices cells c.in_ok-fire.ensures.stays.keeps) second))
