use Rattle.std.proofs.Common.{Err, subst}
use Rattle.pe_base.specs.declared.event.Event.TheVariants.{CreateInnerVertex, TouchVertexFirstTime}
use Rattle.pe_base.specs.Acts.Effects.{Outcome}
use Rattle.pe_base.specs.Calls.Told.{Adds, AddsPart}
use Rattle.pe_base.proofs.Calls.Texts.{adds-then, part-then}
use Rattle.pe_mapping.specs.Held.{outcome_of}
use Rattle.pe_mapping.proofs.Events.{answer-part, outcome_of-next}
use Rattle.pe_stacks.specs.Sights.{vertex_sight}
use Rattle.ledger.proofs.rows.welcome.Goals as goal

pub returns-in-Ok-vertex_event-clause-text : goal.returns-in-Ok-vertex_event-clause-text
returns-in-Ok-vertex_event-clause-text g c =
    let rules = g.M.Effects.rules in
    let numbers = g.M.Mapping.numbers in
    let old = g.M.Mapping.held c.args.m.now in
    let mid = g.M.Mapping.held c.vertex_event.new.self in
    let new = g.M.Mapping.held c.vertex_event-2.new.self in
    let first = outcome_of rules old CreateInnerVertex c.args.traversal (vertex_sight numbers c.args.at.now c.args.vertex.now c.args.parents.now c.args.parent.now) in
    let second = rules.effect old.plan TouchVertexFirstTime c.args.traversal first.list first.seen in
    let seen = vertex_sight numbers c.args.at.now c.vertex_event.new.vertex c.vertex_event.new.parents c.vertex_event.new.parent in
    let next = outcome_of-next rules old mid TouchVertexFirstTime c.args.traversal first.list first.seen seen c.in-Ok.ensures.keeps c.in-Ok.ensures.answer.list c.in-Ok.ensures.answer.seen in
    adds-then old.told mid.told new.told first.text second.text c.in-Ok.ensures.answer.told
    (subst (λ (outcome : Outcome). Adds mid.told outcome.text new.told) next c.in-Ok-vertex_event.ensures.answer.told)

pub returns-in-Err-vertex_event-clause-part : goal.returns-in-Err-vertex_event-clause-part
returns-in-Err-vertex_event-clause-part g c =
    let rules = g.M.Effects.rules in
    let numbers = g.M.Mapping.numbers in
    let old = g.M.Mapping.held c.args.m.now in
    let mid = g.M.Mapping.held c.vertex_event.new.self in
    let new = g.M.Mapping.held c.vertex_event-2.new.self in
    let first = outcome_of rules old CreateInnerVertex c.args.traversal (vertex_sight numbers c.args.at.now c.args.vertex.now c.args.parents.now c.args.parent.now) in
    let second = rules.effect old.plan TouchVertexFirstTime c.args.traversal first.list first.seen in
    let seen = vertex_sight numbers c.args.at.now c.vertex_event.new.vertex c.vertex_event.new.parents c.vertex_event.new.parent in
    let after = vertex_sight numbers c.args.at.now c.vertex_event-2.new.vertex c.vertex_event-2.new.parents c.vertex_event-2.new.parent in
    let next = outcome_of-next rules old mid TouchVertexFirstTime c.args.traversal first.list first.seen seen c.in-Ok.ensures.keeps c.in-Ok.ensures.answer.list c.in-Ok.ensures.answer.seen in
    part-then old.told mid.told new.told first.text second.text c.in-Ok.ensures.answer.told
    (subst (λ (outcome : Outcome). AddsPart mid.told outcome.text new.told) next
    (answer-part (outcome_of rules mid TouchVertexFirstTime c.args.traversal seen) mid new after (Err c.in-Err-vertex_event.stop) c.in-Err-vertex_event.ensures.answer))
