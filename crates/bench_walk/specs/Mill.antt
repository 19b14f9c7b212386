-- A mill: at its last touch a vertex is raised by one, and asked to refine and to erase where a sum of its position leaves no
-- rest. Whenever a cell is entered it is raised by one, and so is the number of the whole grid, which is printed at the end of
-- each traversal. What is out of range is an overflow.
use Rattle.std.specs.Prelude.{ℕ, ℤ, pos, ◌+◌, ◌-◌, ◌*◌, ◌%◌, ◌^◌, ◌+ℤ◌, Bool, false, ◌==◌, List, [], ◌∷◌, map, Option, Some, None, codes, decimal, if◌then◌else◌, slice_index}
use Rattle.std.specs.Fmt.{signed_decimal}
use Rattle.std.specs.Ordering.{int_eq}
use Rattle.pe_base.specs.declared.place.Place.{Place}
use Rattle.pe_base.specs.declared.event.Event.{Event}
use Rattle.pe_base.specs.declared.event.Event.TheVariants.{TouchVertexLastTime, EnterCell, EndIteration}
use Rattle.pe_base.specs.declared.state.State.{State}
use Rattle.pe_base.specs.declared.kind.Kind.{Kind}
use Rattle.pe_base.specs.Life.States.{refined_state, erased_state}
use Rattle.pe_base.specs.Lines.{line}
use Rattle.pe_base.specs.Acts.Effects.{SeenVertex, Seen, Outcome, Overflow, Rules}
use Rattle.bench_walk.specs.declared.mill.Wheel.{Wheel}
use Rattle.bench_walk.specs.Counting.{eight_zeros, leaving}

-- the first of some numbers cannot be raised
abbrev pub is_last : List ℤ → Bool
is_last [] = false
is_last (n ∷ ns) = int_eq n (pos (2 ^ 63 - 1))

abbrev pub raised : List ℤ → List ℤ
raised [] = []
raised (n ∷ ns) = (n +ℤ pos 1) ∷ ns

-- an event that overflows, and leaves this
abbrev pub failing : List ℤ → Seen → Outcome
failing list seen = record { seen = seen; list = list; text = []; fault = Some Overflow }

-- the sum of a position. Axes that the dimension does not have hold 0.
abbrev pub sum_of : ℕ → Place → ℕ
sum_of number place = slice_index place.pos 0 + 2 * slice_index place.pos 1 + 3 * slice_index place.pos 2 + 4 * slice_index place.pos 3 + number

-- the state of a vertex that was asked to refine, and then to erase
abbrev pub refined_by : ℕ → ℕ → ℕ → Kind → State → State
refined_by sum level greatest kind state = if sum % 4 == 0 then refined_state level greatest kind state else state

abbrev pub erased_by : ℕ → Kind → State → State
erased_by sum kind state = if sum % 9 == 0 then erased_state kind state else state

abbrev pub asked : Wheel → ℕ → Place → SeenVertex → SeenVertex
asked wheel traversal place vertex = record vertex {
  state = erased_by (sum_of wheel.number place + traversal) vertex.kind (refined_by (sum_of wheel.number place) place.level wheel.greatest vertex.kind vertex.state);
}

abbrev pub touched : Wheel → ℕ → List ℤ → Seen → Option SeenVertex → Outcome
touched wheel traversal list seen None = leaving list seen
touched wheel traversal list seen (Some vertex) =
    if is_last vertex.numbers then failing list seen
    else leaving list (record seen { vertex = Some (asked wheel traversal seen.place (record vertex { numbers = raised vertex.numbers })) })

abbrev pub entered : List ℤ → Seen → Option (List ℤ) → Outcome
entered list seen None = leaving list seen
entered list seen (Some numbers) =
    if is_last numbers then failing list seen
    else if is_last list then failing list (record seen { cell = Some (raised numbers) })
    else leaving (raised list) (record seen { cell = Some (raised numbers) })

abbrev pub entered_line : ℕ → List ℤ → List ℕ
entered_line traversal list = line (codes "print") (decimal traversal ∷ map signed_decimal list)

abbrev pub ended : ℕ → List ℤ → Seen → Outcome
ended traversal list seen = record { seen = seen; list = list; text = entered_line traversal list; fault = None }

abbrev pub effect_of : Wheel → Event → ℕ → List ℤ → Seen → Outcome
effect_of wheel TouchVertexLastTime traversal list seen = touched wheel traversal list seen seen.vertex
effect_of wheel EnterCell traversal list seen = entered list seen seen.cell
effect_of wheel EndIteration traversal list seen = ended traversal list seen
effect_of wheel _ traversal list seen = leaving list seen

abbrev pub mill_rules : Rules Wheel
mill_rules = record {
  effect = effect_of;
  fresh_vertex = λ wheel list. eight_zeros list;
  fresh_cell = λ wheel list. eight_zeros list;
  greatest = λ wheel. wheel.greatest;
}
