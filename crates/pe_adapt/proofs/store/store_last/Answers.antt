use Rattle.std.proofs.Common.{true, refl, sym, subst, ◌∙◌}
use Rattle.std.specs.Prelude.{None}
use Rattle.pe_base.specs.declared.kind.Kind.TheVariants.{Dying}
use Rattle.pe_stacks.specs.Sights.{record_of}
use Rattle.pe_hang.specs.InHand.{setting_of_events, family_in_hand, nothing_of}
use Rattle.pe_base.specs.Calls.Follows.{Follows, Fits, read_by}
use Rattle.pe_mapping.specs.Held.{found_of}
use Rattle.pe_stacks.specs.RecordsOut.{held_by}
use Rattle.pe_adapt.specs.Stops.{failure_of_halt}
use Rattle.pe_adapt.specs.Slots.{seen_slot}
use Rattle.pe_adapt.specs.Touches.{store_as}
use Rattle.pe_adapt.proofs.Loading.{desk}
use Rattle.pe_adapt.proofs.Storing.{stored-nothing, touch-of}
use Rattle.pe_adapt.proofs.store.store_last.Goals as goal

pub returns-in-Dying-clause-follows : goal.returns-in-Dying-clause-follows
returns-in-Dying-clause-follows g c = λ cells.
    let numbers = g.M.Mapping.numbers in
    let old = g.M.Mapping.held c.args.m.now in
    let holds = g.DV.Depot.holds c.args.dv.now in
    let vertices = held_by holds (g.DV.Depot.room c.args.dv.now) in
    let set = setting_of_events g.M.Effects.rules old c.args.traversal in
    let f = record_of numbers.vertex in
    let at = c.args.at.now in
    let v = c.filled_mut.result.now in
    let family = family_in_hand numbers c.args.parents.now c.args.parent.now old.list in
    let new = g.M.Mapping.held c.store_dying.new.m in
    let family' = family_in_hand numbers c.store_dying.new.parents c.store_dying.new.parent new.list in
    let found = found_of old vertices cells in
    let means = failure_of_halt at in
    let fits = subst (λ slot. Fits (store_as set c.args.output None at (seen_slot numbers.vertex slot) (desk f holds family))) c.filled_mut.ensures.value c.requires.fits in
    subst
    (λ slot. Follows (store_as set c.args.output None at (seen_slot numbers.vertex slot) (desk f holds family))
    (λ (u : Unit {0}). desk f (g.DV.Depot.holds c.store_dying.new.dv) family') (read_by means c.store_dying.result) found new.told)
    (sym c.filled_mut.ensures.value)
    (stored-nothing f set c.args.output None at holds (f v) family (g.DV.Depot.holds c.store_dying.new.dv) family' means c.store_dying.result found new.told
    fits c.store_dying.ensures.given_up
    (touch-of f set c.args.output None at holds (f v) family Dying true (λ (u : Unit {0}). nothing_of family') (read_by means c.store_dying.result) found new.told
    (sym c.kind-kind.ensures ∙ c.in-Dying.is) refl (c.store_dying.ensures.follows vertices cells)))

pub returns-in_default-clause-follows : goal.returns-in_default-clause-follows
returns-in_default-clause-follows g c = λ cells.
    let numbers = g.M.Mapping.numbers in
    let old = g.M.Mapping.held c.args.m.now in
    let holds = g.DV.Depot.holds c.args.dv.now in
    let set = setting_of_events g.M.Effects.rules old c.args.traversal in
    let f = record_of numbers.vertex in
    let at = c.args.at.now in
    let family = family_in_hand numbers c.args.parents.now c.args.parent.now old.list in
    let new = g.M.Mapping.held c.store_staying.new.m in
    let family' = family_in_hand numbers c.store_staying.new.parents c.store_staying.new.parent new.list in
    subst
    (λ slot. Follows (store_as set c.args.output None at (seen_slot numbers.vertex slot) (desk f holds family))
    (λ (u : Unit {0}). desk f (g.DV.Depot.holds c.store_staying.new.dv) family') (read_by (failure_of_halt at) c.store_staying.result)
    (found_of old (held_by holds (g.DV.Depot.room c.args.dv.now)) cells) new.told)
    (sym c.filled_mut.ensures.value) (c.store_staying.ensures.follows cells)
