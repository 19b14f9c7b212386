-- Events that leave what they see as it is.
use Rattle.std.proofs.Common.{◌≡◌, ℕ, ℤ, List, None, refl}
use Rattle.pe_base.specs.declared.event.Event.{Event}
use Rattle.pe_base.specs.declared.event.Event.TheVariants.{TouchVertexFirstTime, TouchVertexLastTime, EnterCell, EndIteration}
use Rattle.pe_base.specs.declared.event.Sort.TheVariants.{Plain, Vertex, Cell}
use Rattle.pe_base.specs.Acts.Events.{sort_of}
use Rattle.pe_base.specs.Acts.Effects.{Seen, Outcome}
use Rattle.pe_base.specs.Calls.Told.{Told}
use Rattle.pe_base.specs.Calls.Outcomes.{IsOutcome}
use Rattle.pe_base.proofs.Calls.Texts.{adds-nothing}
use Rattle.bench_walk.specs.declared.sphere.Sphere.{Sphere}
use Rattle.bench_walk.specs.declared.mill.Wheel.{Wheel}
use Rattle.bench_walk.specs.Counting.{leaving}
use Rattle.bench_walk.specs.Regular as regular
use Rattle.bench_walk.specs.Ring as ring
use Rattle.bench_walk.specs.Mill as mill

-- an event that does nothing
pub quiet : (outcome : Outcome) (told : Told) (list : List ℤ) (seen : Seen) → outcome ≡ leaving list seen → IsOutcome outcome None told told list seen
quiet outcome told list seen is = rw is (record { fault = refl; seen = refl; list = refl; told = adds-nothing told })

pub regular_at_cells : (event : Event) (list : List ℤ) (seen : Seen) → sort_of event ≡ Cell → (event ≡ EnterCell → ⊥) → regular.effect_of event list seen ≡ leaving list seen
regular_at_cells EnterCell list seen sort other = absurd (other refl)
regular_at_cells _ list seen sort other = refl

pub ring_at_vertices : (sphere : Sphere) (event : Event) (traversal : ℕ) (list : List ℤ) (seen : Seen) → sort_of event ≡ Vertex → (event ≡ TouchVertexFirstTime → ⊥) → ring.effect_of sphere event traversal list seen ≡ leaving list seen
ring_at_vertices sphere TouchVertexFirstTime traversal list seen sort other = absurd (other refl)
ring_at_vertices sphere EnterCell traversal list seen sort other = absurd cc
ring_at_vertices sphere _ traversal list seen sort other = refl

pub ring_at_cells : (sphere : Sphere) (event : Event) (traversal : ℕ) (list : List ℤ) (seen : Seen) → sort_of event ≡ Cell → (event ≡ EnterCell → ⊥) → ring.effect_of sphere event traversal list seen ≡ leaving list seen
ring_at_cells sphere EnterCell traversal list seen sort other = absurd (other refl)
ring_at_cells sphere TouchVertexFirstTime traversal list seen sort other = absurd cc
ring_at_cells sphere _ traversal list seen sort other = refl

pub mill_at_all : (wheel : Wheel) (event : Event) (traversal : ℕ) (list : List ℤ) (seen : Seen) → sort_of event ≡ Plain → (event ≡ EndIteration → ⊥) → mill.effect_of wheel event traversal list seen ≡ leaving list seen
mill_at_all wheel EndIteration traversal list seen sort other = absurd (other refl)
mill_at_all wheel TouchVertexLastTime traversal list seen sort other = absurd cc
mill_at_all wheel EnterCell traversal list seen sort other = absurd cc
mill_at_all wheel _ traversal list seen sort other = refl

pub mill_at_vertices : (wheel : Wheel) (event : Event) (traversal : ℕ) (list : List ℤ) (seen : Seen) → sort_of event ≡ Vertex → (event ≡ TouchVertexLastTime → ⊥) → mill.effect_of wheel event traversal list seen ≡ leaving list seen
mill_at_vertices wheel TouchVertexLastTime traversal list seen sort other = absurd (other refl)
mill_at_vertices wheel EndIteration traversal list seen sort other = absurd cc
mill_at_vertices wheel EnterCell traversal list seen sort other = absurd cc
mill_at_vertices wheel _ traversal list seen sort other = refl

pub mill_at_cells : (wheel : Wheel) (event : Event) (traversal : ℕ) (list : List ℤ) (seen : Seen) → sort_of event ≡ Cell → (event ≡ EnterCell → ⊥) → mill.effect_of wheel event traversal list seen ≡ leaving list seen
mill_at_cells wheel EnterCell traversal list seen sort other = absurd (other refl)
mill_at_cells wheel EndIteration traversal list seen sort other = absurd cc
mill_at_cells wheel TouchVertexLastTime traversal list seen sort other = absurd cc
mill_at_cells wheel _ traversal list seen sort other = refl
