-- What triggers and the state table do to old and new.
use Rattle.std.proofs.Common.{◌≡◌, ℕ, Bool, true, false, ◌&&◌, refl, ap, ◌∙◌, inl, inr, if◌then◌else◌}
use Rattle.std.specs.Prelude.{nat_lt}
use Rattle.pe_base.specs.declared.state.State.{State}
use Rattle.pe_base.specs.declared.state.State.TheVariants.{Unrefined, RefinementTriggered, Refining, Refined, EraseTriggered, Erasing}
use Rattle.pe_base.specs.declared.kind.Kind.{Kind}
use Rattle.pe_base.specs.declared.kind.Kind.TheVariants.{Kept, Born, Dying, Hanging}
use Rattle.pe_base.specs.Life.States.{is_old, is_new, is_stored, refined_state, erased_state}
use Rattle.pe_base.specs.Life.Table.{last_touch, is_settled}
use Rattle.pe_base.specs.Walk.Laws.{KeepsAges, FirstTouchKeepsOld, LastTouchSettles}

refine_keeps : (test : (State → Bool)) (b : Bool) → test RefinementTriggered ≡ test Unrefined → test (if b then RefinementTriggered else Unrefined) ≡ test Unrefined
refine_keeps test true h = h
refine_keeps test false h = refl

refined-old : (level greatest : ℕ) (kind : Kind) (state : State) → is_old (refined_state level greatest kind state) ≡ is_old state
refined-old level greatest kind Unrefined = refine_keeps is_old (is_stored kind && nat_lt level greatest) refl
refined-old level greatest kind RefinementTriggered = refl
refined-old level greatest kind Refining = refl
refined-old level greatest kind Refined = refl
refined-old level greatest kind EraseTriggered = refl
refined-old level greatest kind Erasing = refl

refined-new : (level greatest : ℕ) (kind : Kind) (state : State) → is_new (refined_state level greatest kind state) ≡ is_new state
refined-new level greatest kind Unrefined = refine_keeps is_new (is_stored kind && nat_lt level greatest) refl
refined-new level greatest kind RefinementTriggered = refl
refined-new level greatest kind Refining = refl
refined-new level greatest kind Refined = refl
refined-new level greatest kind EraseTriggered = refl
refined-new level greatest kind Erasing = refl

erased-old : (kind : Kind) (state : State) → is_old (erased_state kind state) ≡ is_old state
erased-old Kept Unrefined = refl
erased-old Kept RefinementTriggered = refl
erased-old Kept Refining = refl
erased-old Kept Refined = refl
erased-old Kept EraseTriggered = refl
erased-old Kept Erasing = refl
erased-old Born state = refl
erased-old Dying state = refl
erased-old Hanging state = refl

erased-new : (kind : Kind) (state : State) → is_new (erased_state kind state) ≡ is_new state
erased-new Kept Unrefined = refl
erased-new Kept RefinementTriggered = refl
erased-new Kept Refining = refl
erased-new Kept Refined = refl
erased-new Kept EraseTriggered = refl
erased-new Kept Erasing = refl
erased-new Born state = refl
erased-new Dying state = refl
erased-new Hanging state = refl

-- a trigger changes neither old nor new
pub keeps_ages : KeepsAges
keeps_ages greatest level kind before after (inl same) = record { old = ap is_old same; new = ap is_new same }
keeps_ages greatest level kind before after (inr (inl refined)) = record {
  old = ap is_old refined ∙ refined-old level greatest kind before;
  new = ap is_new refined ∙ refined-new level greatest kind before;
}
keeps_ages greatest level kind before after (inr (inr erased)) = record {
  old = ap is_old erased ∙ erased-old kind before;
  new = ap is_new erased ∙ erased-new kind before;
}

-- the first touch keeps old
pub first_touch_keeps_old : FirstTouchKeepsOld
first_touch_keeps_old Unrefined settled = (refl, refl)
first_touch_keeps_old RefinementTriggered settled = (refl, refl)
first_touch_keeps_old Refining settled = absurd cc
first_touch_keeps_old Refined settled = (refl, refl)
first_touch_keeps_old EraseTriggered settled = (refl, refl)
first_touch_keeps_old Erasing settled = absurd cc

kept_settles : (state : State) → (is_old (last_touch state Kept) ≡ is_new state) × (is_settled (last_touch state Kept) ≡ true)
kept_settles Unrefined = (refl, refl)
kept_settles RefinementTriggered = (refl, refl)
kept_settles Refining = (refl, refl)
kept_settles Refined = (refl, refl)
kept_settles EraseTriggered = (refl, refl)
kept_settles Erasing = (refl, refl)

-- the last touch turns new into old
pub last_touch_settles : LastTouchSettles
last_touch_settles state Kept stored = kept_settles state
last_touch_settles state Born stored = kept_settles state
last_touch_settles state Dying stored = absurd cc
last_touch_settles state Hanging stored = absurd cc
