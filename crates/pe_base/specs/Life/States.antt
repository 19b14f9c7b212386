-- Which states are old and which are new, and what the two triggers change.
use Rattle.std.specs.Prelude.{ℕ, Bool, true, false, ◌&&◌, nat_lt, if◌then◌else◌}
use Rattle.pe_base.specs.declared.state.State.{State}
use Rattle.pe_base.specs.declared.state.State.TheVariants.{Unrefined, RefinementTriggered, Refining, Refined, EraseTriggered, Erasing}
use Rattle.pe_base.specs.declared.kind.Kind.{Kind}
use Rattle.pe_base.specs.declared.kind.Kind.TheVariants.{Kept, Born, Dying, Hanging}

-- the cells around an old vertex are refined before the traversal
abbrev pub is_old : State → Bool
is_old Unrefined = false
is_old RefinementTriggered = false
is_old Refining = false
is_old Refined = true
is_old EraseTriggered = true
is_old Erasing = true

-- the cells around a new vertex are refined after the traversal
abbrev pub is_new : State → Bool
is_new Unrefined = false
is_new RefinementTriggered = false
is_new Refining = true
is_new Refined = true
is_new EraseTriggered = true
is_new Erasing = false

-- vertices of these kinds are stored after the traversal
abbrev pub is_stored : Kind → Bool
is_stored Kept = true
is_stored Born = true
is_stored Dying = false
is_stored Hanging = false

-- Asked to refine, an unrefined vertex that is stored after the traversal is triggered, if its level is
-- below the greatest. All others stay.
abbrev pub refined_state : ℕ → ℕ → Kind → State → State
refined_state level max_level kind Unrefined = if is_stored kind && nat_lt level max_level then RefinementTriggered else Unrefined
refined_state level max_level kind RefinementTriggered = RefinementTriggered
refined_state level max_level kind Refining = Refining
refined_state level max_level kind Refined = Refined
refined_state level max_level kind EraseTriggered = EraseTriggered
refined_state level max_level kind Erasing = Erasing

-- Asked to erase, a refined vertex that is stored before and after the traversal is triggered. All others stay.
abbrev pub erased_state : Kind → State → State
erased_state Kept Unrefined = Unrefined
erased_state Kept RefinementTriggered = RefinementTriggered
erased_state Kept Refining = Refining
erased_state Kept Refined = EraseTriggered
erased_state Kept EraseTriggered = EraseTriggered
erased_state Kept Erasing = Erasing
erased_state Born state = state
erased_state Dying state = state
erased_state Hanging state = state
