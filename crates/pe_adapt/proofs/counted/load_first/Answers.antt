use Rattle.std.proofs.Common.{ap, refl, sym, subst, ◌∙◌, None, Ok, Err}
use Rattle.std.specs.Prelude.{is_none}
use Rattle.pe_base.specs.Tree.Places.{corner}
use Rattle.pe_base.specs.Steps.Routes.{stack_in}
use Rattle.pe_base.specs.Walk.Core.{way}
use Rattle.pe_base.specs.Walk.Touches.{tally_load}
use Rattle.pe_base.specs.Calls.Follows.{Follows, Fits, read_by}
use Rattle.pe_adapt.specs.Slots.{seen_slot}
use Rattle.pe_adapt.specs.Spots.{desk_in_hand}
use Rattle.pe_adapt.proofs.Touching.{load-same}
use Rattle.pe_adapt.specs.WalkedCells.{setting_in, failure_in}
use Rattle.pe_adapt.specs.TouchCalls.{hand_of, found_in}
use Rattle.pe_adapt.proofs.CountedTouches.{walked-pos, goes-load, may-load-rises, may-load-desk}
use Rattle.pe_adapt.proofs.counted.load_first.Goals as goal

pub corner_place-at-requires-clause-pos : goal.corner_place-at-requires-clause-pos
corner_place-at-requires-clause-pos g c = walked-pos _ _ _ c.requires.walked

pub load_first-requires-clause-place : goal.load_first-requires-clause-place
load_first-requires-clause-place g c = c.corner_place-at.ensures.below (g.M.Mapping.held c.args.m.now).dim c.requires.walked.place

pub count_load-requires : goal.count_load-requires
count_load-requires g c =
    let old = hand_of (g.M.Mapping.held c.args.m.now) (g.DV.Depot.holds c.args.dv.now) (g.DV.Depot.room c.args.dv.now) c.args.parents.now c.args.parent.now c.args.progress.now in
    may-load-rises g.M.Effects.rules g.M.Mapping.numbers c.args.settings.now c.args.cell.now.place c.args.k (Ok tt) old old c.requires.fits

pub load_first-requires-clause-fits : goal.load_first-requires-clause-fits
load_first-requires-clause-fits g c =
    let held = g.M.Mapping.held c.args.m.now in
    let numbers = g.M.Mapping.numbers in
    let rules = g.M.Effects.rules in
    let settings = c.args.settings.now in
    let place = c.args.cell.now.place in
    let holds = g.DV.Depot.holds c.args.dv.now in
    let room = g.DV.Depot.room c.args.dv.now in
    let old = hand_of held holds room c.args.parents.now c.args.parent.now c.args.progress.now in
    let desk = desk_in_hand numbers holds c.args.parents.now c.args.parent.now held.list in
    let set = setting_in rules held settings in
    let vertex = corner held.dim place c.args.k in
    let at = c.corner_place-at.ensures.place held.dim c.requires.walked.state.grid c.requires.walked.place c.requires.corner in
    let same = load-same set held.dim settings.input place c.args.k desk c.args.kind None c.corner_place-at.result refl at c.requires.kind (λ counts. sym c.requires.first) in
    subst Fits (sym same) (may-load-desk rules numbers settings place c.args.k (Ok tt) old old c.requires.fits)

pub returns-in-Ok-clause-goes : goal.returns-in-Ok-clause-goes
returns-in-Ok-clause-goes g c =
    let held = g.M.Mapping.held c.args.m.now in
    let numbers = g.M.Mapping.numbers in
    let rules = g.M.Effects.rules in
    let settings = c.args.settings.now in
    let place = c.args.cell.now.place in
    let holds = g.DV.Depot.holds c.args.dv.now in
    let room = g.DV.Depot.room c.args.dv.now in
    let old = hand_of held holds room c.args.parents.now c.args.parent.now c.args.progress.now in
    let desk = desk_in_hand numbers holds c.args.parents.now c.args.parent.now held.list in
    let set = setting_in rules held settings in
    let vertex = corner held.dim place c.args.k in
    let at = c.corner_place-at.ensures.place held.dim c.requires.walked.state.grid c.requires.walked.place c.requires.corner in
    let held' = g.M.Mapping.held c.load_first.new.m in
    let holds' = g.DV.Depot.holds c.load_first.new.dv in
    let slot' = c.load_first.new.slot in
    let new = hand_of held' holds' (g.DV.Depot.room c.load_first.new.dv) c.load_first.new.parents c.load_first.new.parent (record c.args.progress.now { tally = c.count_load.new.tally }) in
    let desk' = desk_in_hand numbers holds' c.load_first.new.parents c.load_first.new.parent held'.list in
    let same = load-same set held.dim settings.input place c.args.k desk c.args.kind None c.corner_place-at.result refl at c.requires.kind (λ counts. sym c.requires.first) in
    let tally = c.args.progress.now.tally in
    let first = is_none (stack_in held.dim (way set) vertex place) in
    goes-load rules numbers settings place c.args.k (Ok tt) old new slot' c.requires.fits
    (c.count_load.ensures ∙ ap (λ f. tally_load c.args.kind f tally) (sym (ap is_none c.requires.first)) ∙ ap (λ kind. tally_load kind first tally) c.requires.kind)
    (λ cells. subst (λ course. Follows course (λ (done : Unit {0}). (seen_slot numbers.vertex slot', desk')) (read_by (failure_in new.progress) (Ok tt)) (found_in old cells) held'.told)
    same (c.in-Ok.ensures.follows cells))
    c.in-Ok.ensures.left c.in-Ok.ensures.stays c.in-Ok.ensures.filled c.in-Ok.ensures.emptied

pub returns-in-Err-clause-goes : goal.returns-in-Err-clause-goes
returns-in-Err-clause-goes g c =
    let held = g.M.Mapping.held c.args.m.now in
    let numbers = g.M.Mapping.numbers in
    let rules = g.M.Effects.rules in
    let settings = c.args.settings.now in
    let place = c.args.cell.now.place in
    let holds = g.DV.Depot.holds c.args.dv.now in
    let room = g.DV.Depot.room c.args.dv.now in
    let old = hand_of held holds room c.args.parents.now c.args.parent.now c.args.progress.now in
    let desk = desk_in_hand numbers holds c.args.parents.now c.args.parent.now held.list in
    let set = setting_in rules held settings in
    let vertex = corner held.dim place c.args.k in
    let at = c.corner_place-at.ensures.place held.dim c.requires.walked.state.grid c.requires.walked.place c.requires.corner in
    let held' = g.M.Mapping.held c.load_first.new.m in
    let holds' = g.DV.Depot.holds c.load_first.new.dv in
    let slot' = c.load_first.new.slot in
    let new = hand_of held' holds' (g.DV.Depot.room c.load_first.new.dv) c.load_first.new.parents c.load_first.new.parent (record { tally = c.count_load.new.tally; at = c.corner_place-at.result }) in
    let desk' = desk_in_hand numbers holds' c.load_first.new.parents c.load_first.new.parent held'.list in
    let same = load-same set held.dim settings.input place c.args.k desk c.args.kind None c.corner_place-at.result refl at c.requires.kind (λ counts. sym c.requires.first) in
    let tally = c.args.progress.now.tally in
    let first = is_none (stack_in held.dim (way set) vertex place) in
    goes-load rules numbers settings place c.args.k (Err c.in-Err.halt) old new slot' c.requires.fits
    (c.count_load.ensures ∙ ap (λ f. tally_load c.args.kind f tally) (sym (ap is_none c.requires.first)) ∙ ap (λ kind. tally_load kind first tally) c.requires.kind)
    (λ cells. subst (λ course. Follows course (λ (done : Unit {0}). (seen_slot numbers.vertex slot', desk')) (read_by (failure_in new.progress) (Err c.in-Err.halt)) (found_in old cells) held'.told)
    same (c.in-Err.ensures.follows cells))
    c.in-Err.ensures.left c.in-Err.ensures.stays c.in-Err.ensures.filled c.in-Err.ensures.emptied
