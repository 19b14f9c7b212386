use Rattle.std.proofs.Common.{◌≡◌, ℕ, refl, Err, sym, subst, ◌∙◌}
use Rattle.std.specs.Prelude.{None, OnOk}
use Rattle.pe_base.specs.Acts.Effects.{VertexRecord}
use Rattle.pe_base.specs.Walk.Core.{Family}
use Rattle.pe_stacks.specs.Sights.{record_of}
use Rattle.pe_stacks.specs.Holdings.{pushed}
use Rattle.pe_hang.specs.InHand.{setting_of_events, family_in_hand, nothing_of}
use Rattle.pe_hang.specs.Moves.{MayPush}
use Rattle.pe_mapping.specs.Held.{found_of}
use Rattle.pe_stacks.specs.RecordsOut.{held_by}
use Rattle.pe_adapt.specs.Stops.{failure_of_halt}
use Rattle.pe_adapt.specs.Slots.{seen_slot}
use Rattle.pe_base.proofs.Calls.Errors.{err-is}
use Rattle.pe_adapt.proofs.Loading.{desk}
use Rattle.pe_adapt.proofs.Records.{written-is}
use Rattle.pe_adapt.proofs.Storing.{room-kept, stored-failed, stored-may, stored-put, touch-stays, touch-last}
use Rattle.pe_adapt.proofs.store.store_staying.Goals as goal

pub returns-in_err-fire-clause-follows : goal.returns-in_err-fire-clause-follows
returns-in_err-fire-clause-follows g c = λ cells.
    let numbers = g.M.Mapping.numbers in
    let old = g.M.Mapping.held c.args.m.now in
    let holds = g.DV.Depot.holds c.args.dv.now in
    let room = g.DV.Depot.room c.args.dv.now in
    let set = setting_of_events g.M.Effects.rules old c.args.traversal in
    let f = record_of numbers.vertex in
    let it = seen_slot numbers.vertex c.args.slot.now in
    let family = family_in_hand numbers c.args.parents.now c.args.parent.now old.list in
    let new = g.M.Mapping.held c.fire.new.m in
    let failure = failure_of_halt c.args.at.now c.in_err-fire.field-0.0 in
    let found = found_of old (held_by holds room) cells in
    let before = λ (u : Unit {0}). (let x : VertexRecord × Family = (it, family) in x) in
    rw (err-is c.from_residual.result c.in_err-fire.field-0.0 c.from_residual.ensures.1)
    (stored-failed f set c.args.output None c.args.at.now holds it family (λ (u : Unit {0}). nothing_of family) (λ (u : Unit {0}). desk f holds family) failure found new.told
    (touch-last f set c.args.output None c.args.at.now holds it family c.args.kind before (Err failure) found new.told
    c.requires.kind c.requires.counts c.requires.stays refl (c.in_err-fire.ensures.follows (held_by holds room) cells)))

pub put_down-requires : goal.put_down-requires
put_down-requires g c =
    let numbers = g.M.Mapping.numbers in
    let old = g.M.Mapping.held c.args.m.now in
    let holds = g.DV.Depot.holds c.args.dv.now in
    let room = g.DV.Depot.room c.args.dv.now in
    let set = setting_of_events g.M.Effects.rules old c.args.traversal in
    let f = record_of numbers.vertex in
    let it = seen_slot numbers.vertex c.args.slot.now in
    let family = family_in_hand numbers c.args.parents.now c.args.parent.now old.list in
    let cells : ℕ → ℕ = λ n. 0 in
    let found = found_of old (held_by holds room) cells in
    let mid = g.M.Mapping.held c.fire.new.m in
    let family' = family_in_hand numbers c.fire.new.parents c.fire.new.parent mid.list in
    let put : c.unwrap.result ≡ c.depart.new.self = cc in
    let fired = rw c.filled_mut-v.ensures.value at (c.in_ok-fire.ensures.follows (held_by holds room) cells) in
    let touched = touch-stays f set c.args.output None c.args.at.now holds it family c.args.kind c.filled_mut-v.result.now c.unwrap.result family' found mid.told
    (written-is set numbers.vertex c.args.kind c.filled_mut-v.result.now c.unwrap.result c.state.result c.last_touch-state.result family' c.state.ensures c.last_touch-state.ensures (put ∙ c.depart.ensures))
    c.requires.kind c.requires.counts c.requires.stays refl fired in
    record {
      may = subst (λ h. MayPush h c.args.output) (sym c.in_ok-fire.ensures.holds)
          (stored-may f set c.args.output None c.args.at.now holds it family c.unwrap.result family' found mid.told c.requires.fits touched);
    }

pub returns-clause-follows : goal.returns-clause-follows
returns-clause-follows g c = λ cells.
    let numbers = g.M.Mapping.numbers in
    let old = g.M.Mapping.held c.args.m.now in
    let holds = g.DV.Depot.holds c.args.dv.now in
    let room = g.DV.Depot.room c.args.dv.now in
    let set = setting_of_events g.M.Effects.rules old c.args.traversal in
    let f = record_of numbers.vertex in
    let it = seen_slot numbers.vertex c.args.slot.now in
    let family = family_in_hand numbers c.args.parents.now c.args.parent.now old.list in
    let found = found_of old (held_by holds room) cells in
    let mid = g.M.Mapping.held c.fire.new.m in
    let family' = family_in_hand numbers c.fire.new.parents c.fire.new.parent mid.list in
    let put : c.unwrap.result ≡ c.depart.new.self = cc in
    let fired = rw c.filled_mut-v.ensures.value at (c.in_ok-fire.ensures.follows (held_by holds room) cells) in
    let touched = touch-stays f set c.args.output None c.args.at.now holds it family c.args.kind c.filled_mut-v.result.now c.unwrap.result family' found mid.told
    (written-is set numbers.vertex c.args.kind c.filled_mut-v.result.now c.unwrap.result c.state.result c.last_touch-state.result family' c.state.ensures c.last_touch-state.ensures (put ∙ c.depart.ensures))
    c.requires.kind c.requires.counts c.requires.stays refl fired in
    stored-put f set c.args.output None c.args.at.now holds it family c.unwrap.result (g.DV.Depot.holds c.put_down.new.d) family' old.told mid.told old.sure room cells c.args.at.now c.put_down.result
    c.requires.fits touched
    (subst (λ h. OnOk c.put_down.result (g.DV.Depot.holds c.put_down.new.d ≡ pushed h c.args.output c.unwrap.result)) c.in_ok-fire.ensures.holds c.put_down.ensures.pushed)
    c.put_down.ensures.memory
    (room-kept holds (g.DV.Depot.holds c.fire.new.dv) room (g.DV.Depot.room c.fire.new.dv) c.args.output c.put_down.result c.in_ok-fire.ensures.left.keeps c.in_ok-fire.ensures.holds c.put_down.ensures.overfull)
