-- A mapping that counts its events: its list is how many there were. By their numbers it overflows at one, and asks the
-- vertices of two others to refine and to erase.
use Rattle.std.specs.Prelude.{ℕ, ℤ, pos, negsuc, ◌+◌, ◌-◌, ◌^◌, min, ◌==◌, List, [], ◌∷◌, Option, Some, None, if◌then◌else◌}
use Rattle.std.specs.Option.{option_map}
use Rattle.pe_base.specs.declared.kind.Kind.{Kind}
use Rattle.pe_base.specs.declared.state.State.{State}
use Rattle.pe_base.specs.Life.States.{refined_state, erased_state}
use Rattle.pe_base.specs.Acts.Effects.{SeenVertex, Seen, Outcome, Fault, Overflow, Fresh, Rules}
use Rattle.traversals.specs.declared.planned.Plan.{Plan}

-- the number that follows another, up to the greatest one
abbrev pub following : ℕ → ℕ
following n = min (n + 1) (2 ^ 64 - 1)

-- how many events there were
abbrev pub number_in : List ℤ → ℕ
number_in [] = 0
number_in (pos n ∷ ns) = n
number_in (negsuc n ∷ ns) = 0

-- the state of an event's vertex after the event of this number
abbrev pub met_state : Plan → ℕ → ℕ → Kind → State → State
met_state plan number level kind state =
    if number == plan.refined then refined_state level plan.greatest kind state
    else if number == plan.erased then erased_state kind state
    else state

abbrev pub met : Plan → ℕ → ℕ → SeenVertex → SeenVertex
met plan number level vertex = record vertex { state = met_state plan number level vertex.kind vertex.state }

abbrev pub leaving : ℕ → Seen → Option Fault → Outcome
leaving number seen end = record { seen = seen; list = pos (following number) ∷ []; text = []; fault = end }

abbrev pub happening : Plan → ℕ → Seen → Outcome
happening plan number seen =
    if number == plan.refused then leaving number seen (Some Overflow)
    else leaving number (record seen { vertex = option_map (met plan number seen.place.level) seen.vertex }) None

abbrev pub zero : List ℤ → Fresh
zero list = record { numbers = pos 0 ∷ []; list = list }

abbrev pub planned_rules : Rules Plan
planned_rules = record {
  effect = λ plan event traversal list seen. happening plan (number_in list) seen;
  fresh_vertex = λ plan list. zero list;
  fresh_cell = λ plan list. zero list;
  greatest = λ plan. plan.greatest;
}
