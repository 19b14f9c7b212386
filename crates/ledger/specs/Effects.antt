-- A mapping for tests. Its list counts the vertices that it makes. A first touch raises the vertex's number and asks it to
-- refine; on entering a cell, the cell takes the list, and its first corner is asked to erase.
use Rattle.std.specs.Prelude.{ℕ, ℤ, pos, negsuc, ◌+◌, ◌-◌, ◌^◌, min, Bool, false, ◌==◌, List, [], ◌∷◌, map, Option, Some, None, if◌then◌else◌}
use Rattle.std.specs.Option.{option_map}
use Rattle.pe_base.specs.declared.event.Event.{Event}
use Rattle.pe_base.specs.declared.event.Event.TheVariants.{TouchVertexFirstTime, EnterCell}
use Rattle.pe_base.specs.Life.States.{refined_state, erased_state}
use Rattle.pe_base.specs.Acts.Effects.{SeenVertex, Seen, Outcome, Fault, Overflow, Rules}

-- the greatest number
abbrev pub last_number : ℕ
last_number = 2 ^ 64 - 1

abbrev pub raised : ℤ → ℤ
raised (pos n) = pos (min (n + 1) last_number)
raised (negsuc n) = negsuc n

abbrev pub is_last : ℤ → Bool
is_last (pos n) = n == last_number
is_last (negsuc n) = false

-- some number of the vertex cannot be raised
abbrev pub is_at_end : List ℤ → Bool
is_at_end [] = false
is_at_end (n ∷ ns) = is_last n

abbrev pub nothing_done : List ℤ → Seen → Option Fault → Outcome
nothing_done list seen end = record { seen = seen; list = list; text = []; fault = end }

abbrev pub touched : ℕ → ℕ → SeenVertex → SeenVertex
touched greatest level vertex = record vertex { state = refined_state level greatest vertex.kind vertex.state; numbers = map raised vertex.numbers }

abbrev pub first_erased : List SeenVertex → List SeenVertex
first_erased [] = []
first_erased (vertex ∷ vertices) = record vertex { state = erased_state vertex.kind vertex.state } ∷ vertices

abbrev pub touch : ℕ → List ℤ → Seen → Option SeenVertex → Outcome
touch greatest list seen None = nothing_done list seen None
touch greatest list seen (Some vertex) =
    if is_at_end vertex.numbers then nothing_done list seen (Some Overflow)
    else nothing_done list (record seen { vertex = Some (touched greatest seen.place.level vertex) }) None

abbrev pub entered : List ℤ → Seen → Seen
entered list seen = record seen { cell = option_map (λ _. list) seen.cell; corners = first_erased seen.corners }

abbrev pub effect_of : ℕ → Event → ℕ → List ℤ → Seen → Outcome
effect_of greatest TouchVertexFirstTime traversal list seen = touch greatest list seen seen.vertex
effect_of greatest EnterCell traversal list seen = nothing_done list (entered list seen) None
effect_of greatest _ traversal list seen = nothing_done list seen None

abbrev pub ledger_rules : Rules ℕ
ledger_rules = record {
  effect = effect_of;
  fresh_vertex = λ greatest list. record { numbers = pos 0 ∷ []; list = map raised list };
  fresh_cell = λ greatest list. record { numbers = pos 0 ∷ []; list = list };
  greatest = λ greatest. greatest;
}
