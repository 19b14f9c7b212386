use Rattle.std.proofs.Common.{◌≡◌, ℕ, ap, refl, sym, subst, ◌∙◌, true, Some, Ok}
use Rattle.std.specs.Prelude.{◌%◌, is_none, IsSomeAnd}
use Rattle.pe_base.specs.Tree.Places.{corner}
use Rattle.pe_base.specs.Steps.Routes.{stack_out}
use Rattle.pe_base.specs.Walk.Core.{way}
use Rattle.pe_stacks.specs.Sights.{record_of}
use Rattle.pe_hang.specs.InHand.{family_in_hand}
use Rattle.pe_base.specs.Calls.Follows.{Follows, Fits, read_by}
use Rattle.pe_adapt.specs.Slots.{seen_slot}
use Rattle.pe_adapt.specs.Spots.{desk_in_hand}
use Rattle.pe_adapt.specs.Touches.{store_as}
use Rattle.pe_adapt.proofs.Storing.{stored-may, stored-put, touch-waiting}
use Rattle.pe_adapt.proofs.Touching.{store-same}
use Rattle.pe_adapt.specs.CountedTouches.{is_placed, output}
use Rattle.pe_adapt.specs.WalkedCells.{setting_in, stream_stacks_of, failure_in}
use Rattle.pe_adapt.specs.TouchCalls.{hand_of, found_in}
use Rattle.pe_adapt.proofs.CountedTouches.{goes-store, may-store-desk, may-store-placed, route-is, tally-goes, number-none, number-some}
use Rattle.pe_adapt.proofs.slot.store_in_slot.Goals as goal
use Rattle.pe_hang.proofs.Staying.{keeps-same, stays-beside}

pub store_last-requires-clause-kind : goal.store_last-requires-clause-kind
store_last-requires-clause-kind g c = subst (λ slot. IsSomeAnd slot (λ v. v.kind ≡ c.kind-kind.result)) (sym c.filled.ensures) (sym c.kind-kind.ensures)

pub store_last-requires-clause-last : goal.store_last-requires-clause-last
store_last-requires-clause-last g c =
    let held = g.M.Mapping.held c.args.m.now in
    let numbers = g.M.Mapping.numbers in
    let rules = g.M.Effects.rules in
    let settings = c.args.settings.now in
    let cell = c.args.cell.now in
    let holds = g.DV.Depot.holds c.args.dv.now in
    let room = g.DV.Depot.room c.args.dv.now in
    let old = hand_of held holds room c.args.parents.now c.args.parent.now c.args.progress.now in
    let vertex = corner held.dim cell.place c.args.k in
    let it = seen_slot numbers.vertex c.args.slot.now in
    let kind = ap (λ slot. (seen_slot numbers.vertex slot).kind) c.filled.ensures ∙ sym c.kind-kind.ensures in
    let placed = subst (λ kind. is_placed held.dim kind vertex ≡ true) kind (may-store-placed rules numbers settings cell.place c.args.k (Ok tt) old old it c.requires.fits) in
    let number = c.going_in-go.result in
    let route = route-is stack_out held.dim settings cell c.args.k c.kind-kind.result number c.requires.walked c.in_default.not-Hanging placed c.going_in-go.ensures in
    sym route ∙ number-none number c.if-go-eq0.true

pub put_down-requires : goal.put_down-requires
put_down-requires g c =
    let held = g.M.Mapping.held c.args.m.now in
    let numbers = g.M.Mapping.numbers in
    let rules = g.M.Effects.rules in
    let settings = c.args.settings.now in
    let cell = c.args.cell.now in
    let holds = g.DV.Depot.holds c.args.dv.now in
    let room = g.DV.Depot.room c.args.dv.now in
    let old = hand_of held holds room c.args.parents.now c.args.parent.now c.args.progress.now in
    let vertex = corner held.dim cell.place c.args.k in
    let it = seen_slot numbers.vertex c.args.slot.now in
    let kind = ap (λ slot. (seen_slot numbers.vertex slot).kind) c.filled.ensures ∙ sym c.kind-kind.ensures in
    let placed = subst (λ kind. is_placed held.dim kind vertex ≡ true) kind (may-store-placed rules numbers settings cell.place c.args.k (Ok tt) old old it c.requires.fits) in
    let number = c.going_in-go.result in
    let route = route-is stack_out held.dim settings cell c.args.k c.kind-kind.result number c.requires.walked c.in_default.not-Hanging placed c.going_in-go.ensures in
    let s = number % 8 in
    let to = sym (number-some number c.if-go-eq0.false) ∙ route in
    let set = setting_in rules held settings in
    let out = output (stream_stacks_of settings) in
    let family = family_in_hand numbers c.args.parents.now c.args.parent.now held.list in
    let desk = desk_in_hand numbers holds c.args.parents.now c.args.parent.now held.list in
    let f = record_of numbers.vertex in
    let v = c.unwrap.result in
    let slot = sym c.take.ensures.value ∙ c.unwrap.ensures in
    let same = store-same set held.dim out cell.place c.args.k it desk (Some s) vertex refl refl (λ counts. to) in
    let fits = subst (λ slot. Fits (store_as set out (Some s) vertex (seen_slot numbers.vertex slot) desk)) slot
    (subst Fits (sym same) (may-store-desk rules numbers settings cell.place c.args.k (Ok tt) old old it c.requires.fits)) in
    let kind' = ap (λ slot. (seen_slot numbers.vertex slot).kind) (sym slot) ∙ kind in
    let cells : ℕ → ℕ = λ n. 0 in
    let found = found_in old cells in
    let waits = touch-waiting f set out (Some s) vertex holds (f v) family c.kind-kind.result found kind' c.in_default.not-Hanging refl in
    record { may = stored-may f set out (Some s) vertex holds (f v) family v family found held.told fits waits }

pub returns-else-go-eq0-clause-goes : goal.returns-else-go-eq0-clause-goes
returns-else-go-eq0-clause-goes g c =
    let held = g.M.Mapping.held c.args.m.now in
    let numbers = g.M.Mapping.numbers in
    let rules = g.M.Effects.rules in
    let settings = c.args.settings.now in
    let cell = c.args.cell.now in
    let holds = g.DV.Depot.holds c.args.dv.now in
    let room = g.DV.Depot.room c.args.dv.now in
    let old = hand_of held holds room c.args.parents.now c.args.parent.now c.args.progress.now in
    let vertex = corner held.dim cell.place c.args.k in
    let it = seen_slot numbers.vertex c.args.slot.now in
    let kind = ap (λ slot. (seen_slot numbers.vertex slot).kind) c.filled.ensures ∙ sym c.kind-kind.ensures in
    let placed = subst (λ kind. is_placed held.dim kind vertex ≡ true) kind (may-store-placed rules numbers settings cell.place c.args.k (Ok tt) old old it c.requires.fits) in
    let number = c.going_in-go.result in
    let route = route-is stack_out held.dim settings cell c.args.k c.kind-kind.result number c.requires.walked c.in_default.not-Hanging placed c.going_in-go.ensures in
    let s = number % 8 in
    let to = sym (number-some number c.if-go-eq0.false) ∙ route in
    let set = setting_in rules held settings in
    let out = output (stream_stacks_of settings) in
    let family = family_in_hand numbers c.args.parents.now c.args.parent.now held.list in
    let desk = desk_in_hand numbers holds c.args.parents.now c.args.parent.now held.list in
    let f = record_of numbers.vertex in
    let v = c.unwrap.result in
    let slot = sym c.take.ensures.value ∙ c.unwrap.ensures in
    let same = store-same set held.dim out cell.place c.args.k it desk (Some s) vertex refl refl (λ counts. to) in
    let fits = subst (λ slot. Fits (store_as set out (Some s) vertex (seen_slot numbers.vertex slot) desk)) slot
    (subst Fits (sym same) (may-store-desk rules numbers settings cell.place c.args.k (Ok tt) old old it c.requires.fits)) in
    let kind' = ap (λ slot. (seen_slot numbers.vertex slot).kind) (sym slot) ∙ kind in
    let holds' = g.DV.Depot.holds c.put_down.new.d in
    let result = c.put_down.result in
    let new = hand_of held holds' (g.DV.Depot.room c.put_down.new.d) c.args.parents.now c.args.parent.now c.args.progress.now in
    let desk' = desk_in_hand numbers holds' c.args.parents.now c.args.parent.now held.list in
    let last = is_none (stack_out held.dim (way set) vertex cell.place) in
    goes-store rules numbers settings cell.place c.args.k result old new it c.requires.fits
    (sym (tally-goes it.kind last c.args.progress.now.tally (λ hangs. c.in_default.not-Hanging (sym kind ∙ hangs)) (ap is_none (sym to))))
    (λ cells.
    let found = found_in old cells in
    let waits = touch-waiting f set out (Some s) vertex holds (f v) family c.kind-kind.result found kind' c.in_default.not-Hanging refl in
    let answer = read_by (failure_in c.args.progress.now) result in
    subst (λ course. Follows course (λ (done : Unit {0}). desk') answer found held.told) same
    (subst (λ slot. Follows (store_as set out (Some s) vertex (seen_slot numbers.vertex slot) desk) (λ (done : Unit {0}). desk') answer found held.told) (sym slot)
    (stored-put f set out (Some s) vertex holds (f v) family v holds' family held.told held.told held.sure room cells c.args.progress.now.at result
    fits waits c.put_down.ensures.pushed c.put_down.ensures.memory c.put_down.ensures.overfull)))
    c.put_down.ensures.left (stays-beside (keeps-same held) c.requires.full)
