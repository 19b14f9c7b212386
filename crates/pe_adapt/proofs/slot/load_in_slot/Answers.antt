use Rattle.std.proofs.Common.{◌≡◌, ◌⊎◌, ap, refl, sym, subst, ◌∙◌, Bool, true, false, Some, Ok, inl, inr}
use Rattle.std.specs.Prelude.{◌%◌, is_none, is_some}
use Rattle.pe_base.specs.declared.kind.Kind.TheVariants.{Hanging}
use Rattle.pe_base.specs.Life.Kinds.{kind_from}
use Rattle.pe_base.specs.Tree.Places.{corner}
use Rattle.pe_base.specs.Steps.Routes.{stack_in}
use Rattle.pe_base.specs.Walk.Core.{way}
use Rattle.pe_states.proofs.BoundaryLaws.{small_corner}
use Rattle.pe_stacks.specs.Sights.{record_of, corner_records}
use Rattle.pe_hang.specs.InHand.{family_in_hand}
use Rattle.pe_base.specs.Calls.Follows.{Follows, Fits}
use Rattle.pe_adapt.specs.Slots.{seen_slot}
use Rattle.pe_adapt.specs.Spots.{desk_in_hand}
use Rattle.pe_adapt.specs.Touches.{kind_in_hand, load_as}
use Rattle.pe_adapt.proofs.Loading.{loaded-waiting, waiting-may}
use Rattle.pe_adapt.proofs.Touching.{load-same}
use Rattle.pe_adapt.specs.CountedTouches.{is_placed}
use Rattle.pe_adapt.specs.WalkedCells.{setting_in}
use Rattle.pe_adapt.specs.TouchCalls.{hand_of, found_in}
use Rattle.pe_adapt.proofs.CountedTouches.{goes-load, may-load-desk, may-load-placed, route-is, tally-comes, number-none, number-some, popped-left}
use Rattle.pe_adapt.proofs.slot.load_in_slot.Goals as goal
use Rattle.pe_hang.proofs.Staying.{keeps-same, stays-beside}

pub at-old-requires : goal.at-old-requires
at-old-requires g c = small_corner (g.M.Mapping.held c.args.m.now).dim c.args.k c.requires.walked.state.grid.1 c.requires.corner

-- a vertex that is old or new counts
counts : (old new : Bool) → ((old ≡ false) × (new ≡ true)) ⊎ (old ≡ true) → kind_from old new ≡ Hanging → ⊥
counts true true either hangs = cc
counts true false either hangs = cc
counts false true either hangs = cc
counts false false (inl is) hangs = let wrong : false ≡ true = is.1 in cc
counts false false (inr is) hangs = let wrong : false ≡ true = is in cc

pub load_first-requires-clause-first : goal.load_first-requires-clause-first
load_first-requires-clause-first g c =
    let held = g.M.Mapping.held c.args.m.now in
    let numbers = g.M.Mapping.numbers in
    let rules = g.M.Effects.rules in
    let settings = c.args.settings.now in
    let cell = c.args.cell.now in
    let holds = g.DV.Depot.holds c.args.dv.now in
    let room = g.DV.Depot.room c.args.dv.now in
    let old = hand_of held holds room c.args.parents.now c.args.parent.now c.args.progress.now in
    let vertex = corner held.dim cell.place c.args.k in
    let here = kind_from c.at-old.result.0 c.at-old.result.1 in
    let counted = counts c.at-old.result.0 c.at-old.result.1 c.else-not-old.either in
    let kind = ap (λ (ages : Bool × Bool). kind_from ages.0 ages.1) c.at-old.ensures ∙ c.requires.kinds c.args.k c.requires.corner in
    let placed = subst (λ kind. is_placed held.dim kind vertex ≡ true) (sym kind) (may-load-placed rules numbers settings cell.place c.args.k (Ok tt) old old c.requires.fits) in
    let number = c.coming_in-come.result in
    let route = route-is stack_in held.dim settings cell c.args.k here number c.requires.walked counted placed c.coming_in-come.ensures in
    sym route ∙ number-none number c.if-come-eq0.true

pub pop-requires : goal.pop-requires
pop-requires g c =
    let held = g.M.Mapping.held c.args.m.now in
    let numbers = g.M.Mapping.numbers in
    let rules = g.M.Effects.rules in
    let settings = c.args.settings.now in
    let cell = c.args.cell.now in
    let holds = g.DV.Depot.holds c.args.dv.now in
    let room = g.DV.Depot.room c.args.dv.now in
    let old = hand_of held holds room c.args.parents.now c.args.parent.now c.args.progress.now in
    let vertex = corner held.dim cell.place c.args.k in
    let here = kind_from c.at-old.result.0 c.at-old.result.1 in
    let counted = counts c.at-old.result.0 c.at-old.result.1 c.else-not-old.either in
    let kind = ap (λ (ages : Bool × Bool). kind_from ages.0 ages.1) c.at-old.ensures ∙ c.requires.kinds c.args.k c.requires.corner in
    let placed = subst (λ kind. is_placed held.dim kind vertex ≡ true) (sym kind) (may-load-placed rules numbers settings cell.place c.args.k (Ok tt) old old c.requires.fits) in
    let number = c.coming_in-come.result in
    let route = route-is stack_in held.dim settings cell c.args.k here number c.requires.walked counted placed c.coming_in-come.ensures in
    let s = number % 8 in
    let from = sym (number-some number c.if-come-eq0.false) ∙ route in
    let set = setting_in rules held settings in
    let family = family_in_hand numbers c.args.parents.now c.args.parent.now held.list in
    let desk = desk_in_hand numbers holds c.args.parents.now c.args.parent.now held.list in
    let same = load-same set held.dim settings.input cell.place c.args.k desk here (Some s) vertex refl refl kind (λ counts. from) in
    let fits = subst Fits (sym same) (may-load-desk rules numbers settings cell.place c.args.k (Ok tt) old old c.requires.fits) in
    let may = waiting-may (record_of numbers.vertex) set settings.input vertex holds family here (Some s) s counted refl fits in
    record { stack = may.stack; full = may.full; count = may.count }

pub returns-clause-goes : goal.returns-clause-goes
returns-clause-goes g c =
    let held = g.M.Mapping.held c.args.m.now in
    let numbers = g.M.Mapping.numbers in
    let rules = g.M.Effects.rules in
    let settings = c.args.settings.now in
    let cell = c.args.cell.now in
    let holds = g.DV.Depot.holds c.args.dv.now in
    let room = g.DV.Depot.room c.args.dv.now in
    let old = hand_of held holds room c.args.parents.now c.args.parent.now c.args.progress.now in
    let vertex = corner held.dim cell.place c.args.k in
    let here = kind_from c.at-old.result.0 c.at-old.result.1 in
    let counted = counts c.at-old.result.0 c.at-old.result.1 c.else-not-old.either in
    let kind = ap (λ (ages : Bool × Bool). kind_from ages.0 ages.1) c.at-old.ensures ∙ c.requires.kinds c.args.k c.requires.corner in
    let placed = subst (λ kind. is_placed held.dim kind vertex ≡ true) (sym kind) (may-load-placed rules numbers settings cell.place c.args.k (Ok tt) old old c.requires.fits) in
    let number = c.coming_in-come.result in
    let route = route-is stack_in held.dim settings cell c.args.k here number c.requires.walked counted placed c.coming_in-come.ensures in
    let s = number % 8 in
    let from = sym (number-some number c.if-come-eq0.false) ∙ route in
    let set = setting_in rules held settings in
    let family = family_in_hand numbers c.args.parents.now c.args.parent.now held.list in
    let desk = desk_in_hand numbers holds c.args.parents.now c.args.parent.now held.list in
    let same = load-same set held.dim settings.input cell.place c.args.k desk here (Some s) vertex refl refl kind (λ counts. from) in
    let fits = subst Fits (sym same) (may-load-desk rules numbers settings cell.place c.args.k (Ok tt) old old c.requires.fits) in
    let holds' = g.DV.Depot.holds c.pop.new.self in
    let room' = g.DV.Depot.room c.pop.new.self in
    let slot' = c.fill_slot.new.slot in
    let new = hand_of held holds' room' c.args.parents.now c.args.parent.now c.args.progress.now in
    let desk' = desk_in_hand numbers holds' c.args.parents.now c.args.parent.now held.list in
    let kind' = kind_in_hand set cell.place (corner_records numbers.vertex c.args.parents.now) vertex in
    let first = is_none (stack_in held.dim (way set) vertex cell.place) in
    goes-load rules numbers settings cell.place c.args.k (Ok tt) old new slot' c.requires.fits
    (sym (tally-comes kind' first c.args.progress.now.tally (λ hangs. counted (kind ∙ hangs)) (ap is_none (sym from))))
    (λ cells. subst (λ course. Follows course (λ (done : Unit {0}). (seen_slot numbers.vertex slot', desk')) (Ok tt) (found_in old cells) held.told) same
    (subst (λ slot. Follows (load_as set settings.input here (Some s) vertex desk) (λ (done : Unit {0}). (seen_slot numbers.vertex slot, desk')) (Ok tt) (found_in old cells) held.told)
    (sym c.fill_slot.ensures)
    (loaded-waiting (record_of numbers.vertex) set settings.input vertex holds family here (Some s) s holds' c.pop.result (found_in old cells)
    counted refl fits c.pop.ensures.holds c.pop.ensures.handed)))
    (popped-left holds holds' room room' s c.pop.ensures.holds c.pop.ensures.room) (stays-beside (keeps-same held) c.requires.full)
    (ap is_some c.fill_slot.ensures) tt
