use Rattle.std.proofs.Common.{◌≡◌, ◌∙◌, ℤ, List, Ok, Err, true, false, sym, ap}
use Rattle.pe_base.specs.declared.event.Event.TheVariants.{CreateHangingVertex}
use Rattle.pe_base.specs.declared.kind.Kind.TheVariants.{Hanging}
use Rattle.pe_base.specs.declared.state.State.TheVariants.{Unrefined}
use Rattle.pe_stacks.specs.declared.record.Vertex.{Vertex}
use Rattle.pe_base.proofs.Calls.Texts.{part-nothing}
use Rattle.pe_stacks.specs.Sights.{record_of}
use Rattle.pe_hang.specs.InHand.{setting_of_events}
use Rattle.pe_hang.proofs.Firing.{fresh_event-follows}
use Rattle.pe_hang.proofs.hanging.make_hanging.Goals as goal

-- what is made is what the core makes
hanging-is : {V : Type 0} (numbers : V → List ℤ) (payload : V) (fresh : List ℤ) (new it : Vertex V) → numbers payload ≡ fresh
    → new ≡ record { state = Unrefined; kind = Hanging; payload = payload } → it ≡ new → record_of numbers it ≡ record { state = Unrefined; kind = Hanging; numbers = fresh }
hanging-is numbers payload fresh new it same made handed = ap (record_of numbers) (handed ∙ made) ∙ ap (λ ns. record { state = Unrefined; kind = Hanging; numbers = ns }) same

pub returns-in-Err-clause-follows : goal.returns-in-Err-clause-follows
returns-in-Err-clause-follows g c = λ vertices cells. record {
  told = rw c.fresh_v.ensures.told (part-nothing _ _);
  room = λ sure. absurd (let both : true ≡ false = sym sure ∙ c.in-Err.ensures.answer in cc);
}

pub returns-in-Ok-vertex_event-clause-follows : goal.returns-in-Ok-vertex_event-clause-follows
returns-in-Ok-vertex_event-clause-follows g c = λ vertices cells.
    let numbers = g.M.Mapping.numbers in
    let old = g.M.Mapping.held c.args.m.now in
    let made = g.M.Mapping.held c.fresh_v.new.self in
    let new = g.M.Mapping.held c.vertex_event.new.self in
    let after = c.vertex_event.new in
    fresh_event-follows numbers (setting_of_events g.M.Effects.rules old c.args.traversal) CreateHangingVertex c.args.at.now old made new vertices cells Hanging
    c.lend-v.result after.vertex c.args.parents.now after.parents c.args.parent.now after.parent (Ok c.in-Ok-vertex_event.field-0) c.in-Ok.ensures.keeps.plan c.in-Ok.ensures.told c.in-Ok.ensures.keeps.sure
    (hanging-is numbers.vertex c.in-Ok.payload _ c.new.result c.lend-v.result c.in-Ok.ensures.answer.payload c.new.ensures c.lend-v.ensures.handed) c.in-Ok.ensures.answer.list c.in-Ok-vertex_event.ensures.answer

pub returns-in-Err-vertex_event-clause-follows : goal.returns-in-Err-vertex_event-clause-follows
returns-in-Err-vertex_event-clause-follows g c = λ vertices cells.
    let numbers = g.M.Mapping.numbers in
    let old = g.M.Mapping.held c.args.m.now in
    let made = g.M.Mapping.held c.fresh_v.new.self in
    let new = g.M.Mapping.held c.vertex_event.new.self in
    let after = c.vertex_event.new in
    fresh_event-follows numbers (setting_of_events g.M.Effects.rules old c.args.traversal) CreateHangingVertex c.args.at.now old made new vertices cells Hanging
    c.lend-v.result after.vertex c.args.parents.now after.parents c.args.parent.now after.parent (Err c.in-Err-vertex_event.stop) c.in-Ok.ensures.keeps.plan c.in-Ok.ensures.told c.in-Ok.ensures.keeps.sure
    (hanging-is numbers.vertex c.in-Ok.payload _ c.new.result c.lend-v.result c.in-Ok.ensures.answer.payload c.new.ensures c.lend-v.ensures.handed) c.in-Ok.ensures.answer.list c.in-Err-vertex_event.ensures.answer
