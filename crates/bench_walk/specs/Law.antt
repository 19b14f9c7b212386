-- The mappings of the bench are lawful.
use Rattle.std.proofs.Common.{◌≡◌, ℕ, ℤ, ◌+◌, ◌-◌, ◌%◌, List, [], ◌∷◌, map, All, Bool, true, false, ◌==◌, ◌&&◌, nat_lt, Option, Some, None, refl, inl, inr}
use Rattle.std.specs.Prelude.{pos, if◌then◌else◌}
use Rattle.std.specs.Option.{option_map}
use Rattle.std.proofs.lemmas.List.Elements.{All-replicate}
use Rattle.pe_base.specs.declared.place.Place.{Place}
use Rattle.pe_base.specs.declared.event.Event.{Event}
use Rattle.pe_base.specs.declared.event.Event.TheVariants.{TouchVertexFirstTime, TouchVertexLastTime, EnterCell, EndIteration}
use Rattle.pe_base.specs.declared.kind.Kind.{Kind}
use Rattle.pe_base.specs.declared.kind.Kind.TheVariants.{Kept, Born, Dying, Hanging}
use Rattle.pe_base.specs.declared.state.State.{State}
use Rattle.pe_base.specs.declared.state.State.TheVariants.{Unrefined, RefinementTriggered, Refining, Refined, EraseTriggered, Erasing}
use Rattle.pe_base.specs.Life.States.{is_stored, refined_state, erased_state}
use Rattle.pe_base.specs.Acts.Payloads.{zeros}
use Rattle.pe_base.specs.Acts.Effects.{SeenVertex, Seen, MayBecome, IsTriggered, AreTriggered, IsTriggeredIfAny, AreBoth, MayLeave, AreLawful}
use Rattle.pe_base.proofs.Lawful.{all_triggered_same, any_triggered_same, both_same, leaves_same}
use Rattle.bench_walk.specs.declared.sphere.Sphere.{Sphere}
use Rattle.bench_walk.specs.declared.mill.Wheel.{Wheel}
use Rattle.bench_walk.specs.Counting.{counted, counted_vertex, leaving}
use Rattle.bench_walk.specs.Regular as regular
use Rattle.bench_walk.specs.Ring as ring
use Rattle.bench_walk.specs.Mill as mill

all_zeros : All (λ n. n ≡ pos 0) zeros
all_zeros = All-replicate (λ n. n ≡ pos 0) 8 (pos 0) refl

-- vertices that are counted
pub all_counted : (greatest level : ℕ) (vertices : List SeenVertex) → AreTriggered greatest level vertices (map counted_vertex vertices)
all_counted greatest level [] = tt
all_counted greatest level (vertex ∷ vertices) = (record { kind = refl; state = inl refl }, all_counted greatest level vertices)

cell_counted : (cell : Option (List ℤ)) → AreBoth cell (option_map counted cell)
cell_counted None = tt
cell_counted (Some numbers) = tt

-- # A whole grid

pub regular_entered : (greatest : ℕ) (seen : Seen) → MayLeave greatest seen (regular.entered seen)
regular_entered greatest seen = record {
  place = refl;
  vertex = any_triggered_same greatest seen.place.level seen.vertex;
  cell = both_same seen.cell;
  corners = all_counted greatest seen.place.level seen.corners;
  parents = all_triggered_same greatest (seen.place.level - 1) seen.parents;
}

regular-effect : (greatest : ℕ) (event : Event) (list : List ℤ) (seen : Seen) → MayLeave greatest seen (regular.effect_of event list seen).seen
regular-effect greatest EnterCell list seen = regular_entered greatest seen
regular-effect greatest _ list seen = leaves_same greatest seen

pub regular_lawful : AreLawful regular.regular_rules
regular_lawful = record {
  effect = λ greatest event traversal list seen. regular-effect greatest event list seen;
  fresh_vertex = λ greatest list. all_zeros;
  fresh_cell = λ greatest list. all_zeros;
}

-- # A sphere

pub state_asked : (sphere : Sphere) (traversal : ℕ) (place : Place) (kind : Kind) (state : State) → MayBecome sphere.greatest place.level kind state (ring.asked_state sphere traversal place kind state)
state_asked sphere traversal place kind state =
    elim (nat_lt sphere.greatest place.level) as (λ b. MayBecome sphere.greatest place.level kind state
    (if b then state else if ring.is_near sphere traversal place then refined_state place.level sphere.greatest kind state else erased_state kind state)) [
      | true ↦ inl refl
      | false ↦ elim (ring.is_near sphere traversal place) as (λ b. MayBecome sphere.greatest place.level kind state
          (if b then refined_state place.level sphere.greatest kind state else erased_state kind state)) [ true ↦ inr (inl refl) | false ↦ inr (inr refl) ]
    ]

pub ring_asked : (sphere : Sphere) (traversal : ℕ) (place : Place) (vertex : SeenVertex) → IsTriggered sphere.greatest place.level vertex (ring.asked sphere traversal place vertex)
ring_asked sphere traversal place vertex = record { kind = refl; state = state_asked sphere traversal place vertex.kind vertex.state }

ring_asked_if : (sphere : Sphere) (traversal : ℕ) (place : Place) (vertex : Option SeenVertex) → IsTriggeredIfAny sphere.greatest place.level vertex (option_map (ring.asked sphere traversal place) vertex)
ring_asked_if sphere traversal place None = tt
ring_asked_if sphere traversal place (Some vertex) = ring_asked sphere traversal place vertex

pub ring_entered : (greatest : ℕ) (seen : Seen) → MayLeave greatest seen (ring.entered seen)
ring_entered greatest seen = record {
  place = refl;
  vertex = any_triggered_same greatest seen.place.level seen.vertex;
  cell = cell_counted seen.cell;
  corners = all_counted greatest seen.place.level seen.corners;
  parents = all_triggered_same greatest (seen.place.level - 1) seen.parents;
}

ring-effect : (sphere : Sphere) (event : Event) (traversal : ℕ) (list : List ℤ) (seen : Seen) → MayLeave sphere.greatest seen (ring.effect_of sphere event traversal list seen).seen
ring-effect sphere TouchVertexFirstTime traversal list seen = record {
  place = refl;
  vertex = ring_asked_if sphere traversal seen.place seen.vertex;
  cell = both_same seen.cell;
  corners = all_triggered_same sphere.greatest seen.place.level seen.corners;
  parents = all_triggered_same sphere.greatest (seen.place.level - 1) seen.parents;
}
ring-effect sphere EnterCell traversal list seen = ring_entered sphere.greatest seen
ring-effect sphere _ traversal list seen = leaves_same sphere.greatest seen

pub ring_lawful : AreLawful ring.ring_rules
ring_lawful = record { effect = ring-effect; fresh_vertex = λ sphere list. all_zeros; fresh_cell = λ sphere list. all_zeros }

-- # A mill

erased-unrefined : (kind : Kind) (b : Bool) → erased_state kind (if b then RefinementTriggered else Unrefined) ≡ (if b then RefinementTriggered else Unrefined)
erased-unrefined Kept true = refl
erased-unrefined Kept false = refl
erased-unrefined Born b = refl
erased-unrefined Dying b = refl
erased-unrefined Hanging b = refl

erased-triggered : (kind : Kind) → erased_state kind RefinementTriggered ≡ RefinementTriggered
erased-triggered Kept = refl
erased-triggered Born = refl
erased-triggered Dying = refl
erased-triggered Hanging = refl

erased-refining : (kind : Kind) → erased_state kind Refining ≡ Refining
erased-refining Kept = refl
erased-refining Born = refl
erased-refining Dying = refl
erased-refining Hanging = refl

-- a vertex that is asked to refine and then to erase does what one of them asks
erased-refined : (greatest level : ℕ) (kind : Kind) (state : State) → MayBecome greatest level kind state (erased_state kind (refined_state level greatest kind state))
erased-refined greatest level kind Unrefined = inr (inl (erased-unrefined kind (is_stored kind && nat_lt level greatest)))
erased-refined greatest level kind RefinementTriggered = inl (erased-triggered kind)
erased-refined greatest level kind Refining = inl (erased-refining kind)
erased-refined greatest level kind Refined = inr (inr refl)
erased-refined greatest level kind EraseTriggered = inr (inr refl)
erased-refined greatest level kind Erasing = inr (inr refl)

pub state_turned : (greatest level sum other : ℕ) (kind : Kind) (state : State) → MayBecome greatest level kind state (mill.erased_by other kind (mill.refined_by sum level greatest kind state))
state_turned greatest level sum other kind state =
    elim (sum % 4 == 0) as (λ b. MayBecome greatest level kind state (mill.erased_by other kind (if b then refined_state level greatest kind state else state))) [
      | true ↦ elim (other % 9 == 0) as (λ b. MayBecome greatest level kind state (if b then erased_state kind (refined_state level greatest kind state) else refined_state level greatest kind state)) [
        | true ↦ erased-refined greatest level kind state
        | false ↦ inr (inl refl)
      ]
      | false ↦ elim (other % 9 == 0) as (λ b. MayBecome greatest level kind state (if b then erased_state kind state else state)) [ true ↦ inr (inr refl) | false ↦ inl refl ]
    ]

-- a vertex that is asked
pub mill_asked : (wheel : Wheel) (traversal : ℕ) (place : Place) (vertex : SeenVertex) (numbers : List ℤ)
    → IsTriggered wheel.greatest place.level vertex (mill.asked wheel traversal place (record vertex { numbers = numbers }))
mill_asked wheel traversal place vertex numbers = record {
  kind = refl;
  state = state_turned wheel.greatest place.level (mill.sum_of wheel.number place) (mill.sum_of wheel.number place + traversal) vertex.kind vertex.state;
}

mill-touched : (wheel : Wheel) (traversal : ℕ) (list : List ℤ) (seen : Seen) (vertex : Option SeenVertex) → seen.vertex ≡ vertex
    → MayLeave wheel.greatest seen (mill.touched wheel traversal list seen vertex).seen
mill-touched wheel traversal list seen None is = leaves_same wheel.greatest seen
mill-touched wheel traversal list seen (Some vertex) is =
    elim (mill.is_last vertex.numbers) as (λ b. MayLeave wheel.greatest seen (if b then mill.failing list seen else leaving list (record seen {
      vertex = Some (mill.asked wheel traversal seen.place (record vertex { numbers = mill.raised vertex.numbers }));
    })).seen) [
      | true ↦ leaves_same wheel.greatest seen
      | false ↦ record {
        place = refl;
        vertex = rw is (mill_asked wheel traversal seen.place vertex (mill.raised vertex.numbers));
        cell = both_same seen.cell;
        corners = all_triggered_same wheel.greatest seen.place.level seen.corners;
        parents = all_triggered_same wheel.greatest (seen.place.level - 1) seen.parents;
      }
    ]

-- a cell that is raised
pub mill_raised : (greatest : ℕ) (seen : Seen) (numbers raised : List ℤ) → seen.cell ≡ Some numbers → MayLeave greatest seen (record seen { cell = Some raised })
mill_raised greatest seen numbers raised is = record {
  place = refl;
  vertex = any_triggered_same greatest seen.place.level seen.vertex;
  cell = rw is tt;
  corners = all_triggered_same greatest seen.place.level seen.corners;
  parents = all_triggered_same greatest (seen.place.level - 1) seen.parents;
}

mill-entered : (greatest : ℕ) (list : List ℤ) (seen : Seen) (cell : Option (List ℤ)) → seen.cell ≡ cell → MayLeave greatest seen (mill.entered list seen cell).seen
mill-entered greatest list seen None is = leaves_same greatest seen
mill-entered greatest list seen (Some numbers) is =
    let after = record seen { cell = Some (mill.raised numbers) } in
    elim (mill.is_last numbers) as (λ b. MayLeave greatest seen (if b then mill.failing list seen else if mill.is_last list then mill.failing list after else leaving (mill.raised list) after).seen) [
      | true ↦ leaves_same greatest seen
      | false ↦ elim (mill.is_last list) as (λ b. MayLeave greatest seen (if b then mill.failing list after else leaving (mill.raised list) after).seen) [
        | true ↦ mill_raised greatest seen numbers (mill.raised numbers) is
        | false ↦ mill_raised greatest seen numbers (mill.raised numbers) is
      ]
    ]

mill-effect : (wheel : Wheel) (event : Event) (traversal : ℕ) (list : List ℤ) (seen : Seen) → MayLeave wheel.greatest seen (mill.effect_of wheel event traversal list seen).seen
mill-effect wheel TouchVertexLastTime traversal list seen = mill-touched wheel traversal list seen seen.vertex refl
mill-effect wheel EnterCell traversal list seen = mill-entered wheel.greatest list seen seen.cell refl
mill-effect wheel EndIteration traversal list seen = leaves_same wheel.greatest seen
mill-effect wheel _ traversal list seen = leaves_same wheel.greatest seen

pub mill_lawful : AreLawful mill.mill_rules
mill_lawful = record { effect = mill-effect; fresh_vertex = λ wheel list. all_zeros; fresh_cell = λ wheel list. all_zeros }
