use Rattle.std.proofs.Common.{◌≡◌, sym, subst, ◌∙◌, refl, Ok, Err, Option, Some}
use Rattle.std.specs.Prelude.{is_none, IsSomeAnd}
use Rattle.pe_base.specs.declared.kind.Kind.TheVariants.{Hanging}
use Rattle.pe_base.specs.declared.event.Event.TheVariants.{DestroyHangingVertex}
use Rattle.pe_stacks.specs.Sights.{record_of}
use Rattle.pe_stacks.specs.declared.record.Vertex.{Vertex as AVertex}
use Rattle.pe_hang.specs.InHand.{setting_of_events, family_in_hand, nothing_of}
use Rattle.pe_base.specs.Calls.Follows.{Follows, failure_at}
use Rattle.pe_mapping.specs.Held.{found_of}
use Rattle.pe_stacks.specs.RecordsOut.{held_by}
use Rattle.pe_adapt.specs.Slots.{seen_slot}
use Rattle.pe_adapt.specs.Touches.{store_as}
use Rattle.pe_adapt.proofs.Loading.{desk}
use Rattle.pe_adapt.proofs.Storing.{stored-nothing, stored-failed, touch-of}
use Rattle.pe_adapt.proofs.store.store_hanging.Goals as goal

hanging : {V : Type 0} (slot : Option (AVertex V)) (v : AVertex V) → slot ≡ Some v → IsSomeAnd slot (λ v. v.kind ≡ Hanging) → v.kind ≡ Hanging
hanging slot v held is = subst (λ s. IsSomeAnd s (λ v. v.kind ≡ Hanging)) held is

pub returns-in-Ok-clause-follows : goal.returns-in-Ok-clause-follows
returns-in-Ok-clause-follows g c = λ output to cells fits.
    let numbers = g.M.Mapping.numbers in
    let old = g.M.Mapping.held c.args.m.now in
    let holds = g.DV.Depot.holds c.args.dv.now in
    let room = g.DV.Depot.room c.args.dv.now in
    let set = setting_of_events g.M.Effects.rules old c.args.traversal in
    let f = record_of numbers.vertex in
    let v = c.unwrap.result in
    let held = sym c.take.ensures.value ∙ c.unwrap.ensures in
    let family = family_in_hand numbers c.args.parents.now c.args.parent.now old.list in
    let new = g.M.Mapping.held c.end_hanging.new.m in
    let family' = family_in_hand numbers c.end_hanging.new.parents c.end_hanging.new.parent new.list in
    let found = found_of old (held_by holds room) cells in
    rw held
    (stored-nothing f set output to c.args.at.now holds (f v) family (g.DV.Depot.holds c.end_hanging.new.dv) family' (failure_at DestroyHangingVertex c.args.at.now) (Ok c.in-Ok.field-0) found new.told
    (rw held at fits) c.in-Ok.ensures.given_up
    (touch-of f set output to c.args.at.now holds (f v) family Hanging (is_none to) (λ (u : Unit {0}). nothing_of family') (Ok c.in-Ok.field-0) found new.told
    (hanging c.args.slot.now v held c.requires.hanging) refl (c.in-Ok.ensures.follows (held_by holds room) cells)))

pub returns-in-Err-clause-follows : goal.returns-in-Err-clause-follows
returns-in-Err-clause-follows g c = λ output to cells fits.
    let numbers = g.M.Mapping.numbers in
    let old = g.M.Mapping.held c.args.m.now in
    let holds = g.DV.Depot.holds c.args.dv.now in
    let room = g.DV.Depot.room c.args.dv.now in
    let set = setting_of_events g.M.Effects.rules old c.args.traversal in
    let f = record_of numbers.vertex in
    let v = c.unwrap.result in
    let held = sym c.take.ensures.value ∙ c.unwrap.ensures in
    let family = family_in_hand numbers c.args.parents.now c.args.parent.now old.list in
    let new = g.M.Mapping.held c.end_hanging.new.m in
    let family' = family_in_hand numbers c.end_hanging.new.parents c.end_hanging.new.parent new.list in
    let found = found_of old (held_by holds room) cells in
    let failure = failure_at DestroyHangingVertex c.args.at.now c.in-Err.stop in
    let gone = λ (u : Unit {0}). desk f (g.DV.Depot.holds c.end_hanging.new.dv) family' in
    rw (c.of_event.ensures.failure c.args.at.now)
    (subst
    (λ slot. Follows (store_as set output to c.args.at.now (seen_slot numbers.vertex slot) (desk f holds family)) gone (Err failure) found new.told)
    (sym held)
    (stored-failed f set output to c.args.at.now holds (f v) family (λ (u : Unit {0}). nothing_of family') gone failure found new.told
    (touch-of f set output to c.args.at.now holds (f v) family Hanging (is_none to) (λ (u : Unit {0}). nothing_of family') (Err failure) found new.told
    (hanging c.args.slot.now v held c.requires.hanging) refl (c.in-Err.ensures.follows (held_by holds room) cells))))
