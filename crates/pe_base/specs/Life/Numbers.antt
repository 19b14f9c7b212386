-- The numbers of states and kinds in the event language, and of states in saved streams.
use Rattle.std.specs.Prelude.{ℕ}
use Rattle.pe_base.specs.declared.state.State.{State}
use Rattle.pe_base.specs.declared.state.State.TheVariants.{Unrefined, RefinementTriggered, Refining, Refined, EraseTriggered, Erasing}
use Rattle.pe_base.specs.declared.kind.Kind.{Kind}
use Rattle.pe_base.specs.declared.kind.Kind.TheVariants.{Kept, Born, Dying, Hanging}

abbrev pub state_number : State → ℕ
state_number Unrefined = 0
state_number RefinementTriggered = 1
state_number Refining = 2
state_number Refined = 3
state_number EraseTriggered = 4
state_number Erasing = 5

abbrev pub kind_number : Kind → ℕ
kind_number Kept = 0
kind_number Born = 1
kind_number Dying = 2
kind_number Hanging = 3
