-- A circle or a sphere that moves along axis 0. At its first touch a vertex near it is asked to refine, and every other one is
-- asked to erase. Whenever a cell is entered, it is counted, and each of its corners.
--
-- Lengths are in cells of the greatest level.
use Rattle.std.specs.Prelude.{ℕ, ℤ, ◌+◌, ◌-◌, ◌*◌, ◌/◌, ◌^◌, Bool, ◌&&◌, nat_lt, nat_le, List, map, if◌then◌else◌, slice_index}
use Rattle.std.specs.Option.{option_map}
use Rattle.std.specs.Int.{abs_diff}
use Rattle.pe_base.specs.declared.place.Place.{Place}
use Rattle.pe_base.specs.declared.event.Event.{Event}
use Rattle.pe_base.specs.declared.event.Event.TheVariants.{TouchVertexFirstTime, EnterCell}
use Rattle.pe_base.specs.declared.state.State.{State}
use Rattle.pe_base.specs.declared.kind.Kind.{Kind}
use Rattle.pe_base.specs.Life.States.{refined_state, erased_state}
use Rattle.pe_base.specs.Acts.Effects.{SeenVertex, Seen, Outcome, Rules}
use Rattle.bench_walk.specs.declared.sphere.Sphere.{Sphere}
use Rattle.bench_walk.specs.Counting.{counted, counted_vertex, eight_zeros, leaving}

abbrev pub squared : ℕ → ℕ
squared n = n * n

-- the width of a cell of a level
abbrev pub width : ℕ → ℕ → ℕ
width greatest level = 3 ^ (greatest - level)

-- the radius of the sphere
abbrev pub radius : ℕ → ℕ
radius greatest = 3 * 3 ^ greatest / 10

-- where the centre is on axis 0 in a traversal
abbrev pub moving : ℕ → ℕ → ℕ
moving greatest traversal = 45 * 3 ^ greatest / 100 + 2 * traversal

-- and on every other axis
abbrev pub middle : ℕ → ℕ
middle greatest = 3 ^ greatest / 2

-- the square of how far a place is from the centre on an axis
abbrev pub apart : ℕ → Place → ℕ → ℕ → ℕ
apart greatest place axis centre = squared (abs_diff (slice_index place.pos axis * width greatest place.level) centre)

-- the square of how far a place is from the centre
abbrev pub distance : Sphere → ℕ → Place → ℕ
distance sphere traversal place =
    apart sphere.greatest place 0 (moving sphere.greatest traversal) + apart sphere.greatest place 1 (middle sphere.greatest)
    + (if nat_lt 2 sphere.dim then apart sphere.greatest place 2 (middle sphere.greatest) else 0)
    + (if nat_lt 3 sphere.dim then apart sphere.greatest place 3 (middle sphere.greatest) else 0)

-- a place is no further from the sphere than the width of a cell
abbrev pub is_near : Sphere → ℕ → Place → Bool
is_near sphere traversal place =
    nat_le (squared (radius sphere.greatest - width sphere.greatest place.level)) (distance sphere traversal place)
    && nat_le (distance sphere traversal place) (squared (radius sphere.greatest + width sphere.greatest place.level))

-- what a vertex is asked at its first touch; nothing below the greatest level
abbrev pub asked_state : Sphere → ℕ → Place → Kind → State → State
asked_state sphere traversal place kind state =
    if nat_lt sphere.greatest place.level then state
    else if is_near sphere traversal place then refined_state place.level sphere.greatest kind state
    else erased_state kind state

abbrev pub asked : Sphere → ℕ → Place → SeenVertex → SeenVertex
asked sphere traversal place vertex = record vertex { state = asked_state sphere traversal place vertex.kind vertex.state }

-- after a cell is entered
abbrev pub entered : Seen → Seen
entered seen = record seen { cell = option_map counted seen.cell; corners = map counted_vertex seen.corners }

abbrev pub effect_of : Sphere → Event → ℕ → List ℤ → Seen → Outcome
effect_of sphere TouchVertexFirstTime traversal list seen = leaving list (record seen { vertex = option_map (asked sphere traversal seen.place) seen.vertex })
effect_of sphere EnterCell traversal list seen = leaving list (entered seen)
effect_of sphere _ traversal list seen = leaving list seen

abbrev pub ring_rules : Rules Sphere
ring_rules = record {
  effect = effect_of;
  fresh_vertex = λ sphere list. eight_zeros list;
  fresh_cell = λ sphere list. eight_zeros list;
  greatest = λ sphere. sphere.greatest;
}
