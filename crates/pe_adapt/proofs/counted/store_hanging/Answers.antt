use Rattle.std.proofs.Common.{ap, refl, sym, subst, Ok, Err}
use Rattle.std.specs.Prelude.{is_none}
use Rattle.pe_base.specs.Tree.Places.{corner}
use Rattle.pe_base.specs.declared.kind.Kind.TheVariants.{Hanging}
use Rattle.pe_base.specs.Steps.Routes.{stack_out}
use Rattle.pe_base.specs.Walk.Core.{way}
use Rattle.pe_base.specs.Walk.Touches.{tally_store}
use Rattle.pe_base.specs.Calls.Follows.{Follows, Fits, read_by}
use Rattle.pe_adapt.specs.Slots.{seen_slot}
use Rattle.pe_adapt.specs.Spots.{desk_in_hand}
use Rattle.pe_adapt.proofs.Touching.{store-same}
use Rattle.pe_adapt.specs.WalkedCells.{setting_in, failure_in, stream_stacks_of}
use Rattle.pe_adapt.specs.CountedTouches.{output}
use Rattle.pe_adapt.specs.TouchCalls.{hand_of, found_in}
use Rattle.pe_adapt.proofs.CountedTouches.{walked-pos, goes-store, may-store-desk, slot-kind}
use Rattle.pe_adapt.proofs.counted.store_hanging.Goals as goal

pub corner_place-at-requires-clause-pos : goal.corner_place-at-requires-clause-pos
corner_place-at-requires-clause-pos g c = walked-pos _ _ _ c.requires.walked

pub store_hanging-requires-clause-place : goal.store_hanging-requires-clause-place
store_hanging-requires-clause-place g c = c.corner_place-at.ensures.below (g.M.Mapping.held c.args.m.now).dim c.requires.walked.place

pub returns-in-Ok-clause-goes : goal.returns-in-Ok-clause-goes
returns-in-Ok-clause-goes g c =
    let held = g.M.Mapping.held c.args.m.now in
    let numbers = g.M.Mapping.numbers in
    let rules = g.M.Effects.rules in
    let settings = c.args.settings.now in
    let place = c.args.cell.now.place in
    let holds = g.DV.Depot.holds c.args.dv.now in
    let room = g.DV.Depot.room c.args.dv.now in
    let old = hand_of held holds room c.args.parents.now c.args.parent.now c.args.progress.now in
    let desk = desk_in_hand numbers holds c.args.parents.now c.args.parent.now held.list in
    let set = setting_in rules held settings in
    let vertex = corner held.dim place c.args.k in
    let at = c.corner_place-at.ensures.place held.dim c.requires.walked.state.grid c.requires.walked.place c.requires.corner in
    let held' = g.M.Mapping.held c.store_hanging.new.m in
    let holds' = g.DV.Depot.holds c.store_hanging.new.dv in
    let slot' = c.store_hanging.new.slot in
    let new = hand_of held' holds' (g.DV.Depot.room c.store_hanging.new.dv) c.store_hanging.new.parents c.store_hanging.new.parent (c.args.progress.now) in
    let desk' = desk_in_hand numbers holds' c.store_hanging.new.parents c.store_hanging.new.parent held'.list in
    let it = seen_slot numbers.vertex c.args.slot.now in
    let out = output (stream_stacks_of settings) in
    let to = stack_out held.dim (way set) vertex place in
    let same = store-same set held.dim out place c.args.k it desk to c.corner_place-at.result refl at (λ counts. refl) in
    let fits = subst Fits (sym same) (may-store-desk rules numbers settings place c.args.k (Ok tt) old old it c.requires.fits) in
    goes-store rules numbers settings place c.args.k (Ok tt) old new it c.requires.fits
    (ap (λ kind. tally_store kind (is_none to) c.args.progress.now.tally) (sym (slot-kind numbers.vertex c.args.slot.now Hanging c.requires.hangs)))
    (λ cells. subst (λ course. Follows course (λ (done : Unit {0}). desk') (read_by (failure_in new.progress) (Ok tt)) (found_in old cells) held'.told)
    same (c.in-Ok.ensures.follows out to cells fits))
    c.in-Ok.ensures.left c.in-Ok.ensures.stays

pub returns-in-Err-clause-goes : goal.returns-in-Err-clause-goes
returns-in-Err-clause-goes g c =
    let held = g.M.Mapping.held c.args.m.now in
    let numbers = g.M.Mapping.numbers in
    let rules = g.M.Effects.rules in
    let settings = c.args.settings.now in
    let place = c.args.cell.now.place in
    let holds = g.DV.Depot.holds c.args.dv.now in
    let room = g.DV.Depot.room c.args.dv.now in
    let old = hand_of held holds room c.args.parents.now c.args.parent.now c.args.progress.now in
    let desk = desk_in_hand numbers holds c.args.parents.now c.args.parent.now held.list in
    let set = setting_in rules held settings in
    let vertex = corner held.dim place c.args.k in
    let at = c.corner_place-at.ensures.place held.dim c.requires.walked.state.grid c.requires.walked.place c.requires.corner in
    let held' = g.M.Mapping.held c.store_hanging.new.m in
    let holds' = g.DV.Depot.holds c.store_hanging.new.dv in
    let slot' = c.store_hanging.new.slot in
    let new = hand_of held' holds' (g.DV.Depot.room c.store_hanging.new.dv) c.store_hanging.new.parents c.store_hanging.new.parent (record c.args.progress.now { at = c.corner_place-at.result }) in
    let desk' = desk_in_hand numbers holds' c.store_hanging.new.parents c.store_hanging.new.parent held'.list in
    let it = seen_slot numbers.vertex c.args.slot.now in
    let out = output (stream_stacks_of settings) in
    let to = stack_out held.dim (way set) vertex place in
    let same = store-same set held.dim out place c.args.k it desk to c.corner_place-at.result refl at (λ counts. refl) in
    let fits = subst Fits (sym same) (may-store-desk rules numbers settings place c.args.k (Ok tt) old old it c.requires.fits) in
    goes-store rules numbers settings place c.args.k (Err c.in-Err.halt) old new it c.requires.fits
    (ap (λ kind. tally_store kind (is_none to) c.args.progress.now.tally) (sym (slot-kind numbers.vertex c.args.slot.now Hanging c.requires.hangs)))
    (λ cells. subst (λ course. Follows course (λ (done : Unit {0}). desk') (read_by (failure_in new.progress) (Err c.in-Err.halt)) (found_in old cells) held'.told)
    same (c.in-Err.ensures.follows out to cells fits))
    c.in-Err.ensures.left c.in-Err.ensures.stays
