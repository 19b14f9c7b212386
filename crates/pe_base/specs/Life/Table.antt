-- The state table: what becomes of a vertex's state at its first and its last touch in a traversal.
--
--     moment        kind          state                     becomes
--     first touch   kept          refinement triggered      refining
--                   kept          erase triggered           erasing
--                   dying         refined, erase triggered  erasing
--                   dying         every other               unrefined
--     last touch    kept, born    refining                  refined
--                   kept, born    erasing                   unrefined
--
-- Every other state stays. A vertex that is born starts as refining where the first traversal is to refine its level.
use Rattle.std.specs.Prelude.{ℕ, Bool, true, false, ◌&&◌, ◌==◌, nat_lt, if◌then◌else◌}
use Rattle.pe_base.specs.declared.state.State.{State}
use Rattle.pe_base.specs.declared.state.State.TheVariants.{Unrefined, RefinementTriggered, Refining, Refined, EraseTriggered, Erasing}
use Rattle.pe_base.specs.declared.kind.Kind.{Kind}
use Rattle.pe_base.specs.declared.kind.Kind.TheVariants.{Kept, Born, Dying, Hanging}

abbrev pub first_if_kept : State → State
first_if_kept Unrefined = Unrefined
first_if_kept RefinementTriggered = Refining
first_if_kept Refining = Refining
first_if_kept Refined = Refined
first_if_kept EraseTriggered = Erasing
first_if_kept Erasing = Erasing

abbrev pub first_if_dying : State → State
first_if_dying Unrefined = Unrefined
first_if_dying RefinementTriggered = Unrefined
first_if_dying Refining = Unrefined
first_if_dying Refined = Erasing
first_if_dying EraseTriggered = Erasing
first_if_dying Erasing = Unrefined

abbrev pub first_touch : State → Kind → State
first_touch state Kept = first_if_kept state
first_touch state Born = state
first_touch state Dying = first_if_dying state
first_touch state Hanging = state

abbrev pub last_if_stored : State → State
last_if_stored Unrefined = Unrefined
last_if_stored RefinementTriggered = RefinementTriggered
last_if_stored Refining = Refined
last_if_stored Refined = Refined
last_if_stored EraseTriggered = EraseTriggered
last_if_stored Erasing = Unrefined

abbrev pub last_touch : State → Kind → State
last_touch state Kept = last_if_stored state
last_touch state Born = last_if_stored state
last_touch state Dying = state
last_touch state Hanging = state

-- the state of a vertex that is born
abbrev pub start_state : ℕ → ℕ → ℕ → State
start_state traversal level start_level = if traversal == 1 && nat_lt level start_level then Refining else Unrefined

-- between traversals no vertex refines or erases
abbrev pub is_settled : State → Bool
is_settled Unrefined = true
is_settled RefinementTriggered = true
is_settled Refining = false
is_settled Refined = true
is_settled EraseTriggered = true
is_settled Erasing = false
