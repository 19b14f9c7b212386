-- The core of a walk logs nothing: only a push on a stack is logged.
use Rattle.std.proofs.Common.{◌≡◌, ℤ, Bool, true, false, List, [], ◌++◌, refl, ap₂}
use Rattle.pe_base.specs.declared.place.Place.{Place}
use Rattle.pe_base.specs.declared.kind.Kind.{Kind}
use Rattle.pe_base.specs.declared.kind.Kind.TheVariants.{Kept, Born, Dying, Hanging}
use Rattle.pe_base.specs.declared.event.Event.{Event}
use Rattle.pe_base.specs.declared.event.Event.TheVariants.{TouchVertexFirstTime, TouchVertexLastTime, CreateInnerVertex, CreateHangingVertex, DestroyVertex, DestroyHangingVertex, CreateCell, DestroyCell, EnterCell, LeaveCell}
use Rattle.pe_base.specs.Acts.Effects.{VertexRecord}
use Rattle.pe_base.specs.Walk.Course.{Ending, done, halts, stuck, Push, Course, at_once, from, and_then, course_map}
use Rattle.pe_base.specs.Walk.Core.{Setting, Family, Own, fire, plain_event, vertex_event, cell_event, fresh_vertex, read_vertex, load_touch, given_up, written, store_of, store_touch, enter_touch, leave_touch}

abbrev pub IsSilent : {X : Type 0} → Course X → Type 0
IsSilent course = course.log ≡ []

pub then-silent : {X Y : Type 0} (first : Course X) (next : X → Course Y) → IsSilent first → ((x : X) → IsSilent (next x)) → IsSilent (and_then first next)
then-silent {X = X} first next h k = ap₂ (λ (a b : List Push). a ++ b) h (go first.ending)
  where
    go : (e : Ending X) → (from e next).log ≡ []
    go (done x) = k x
    go (halts cause) = refl
    go stuck = refl

pub mapped-silent : {X Y : Type 0} (course : Course X) (f : X → Y) → IsSilent course → IsSilent (course_map f course)
mapped-silent course f h = then-silent course (λ x. at_once (f x)) h (λ x. refl)

module _ {Plan : Type 0} (set : Setting Plan) where
  pub plain-silent : (event : Event) (list : List ℤ) → IsSilent (plain_event set event list)
  plain-silent event list = mapped-silent (fire set event list _) (λ outcome. outcome.list) refl

  pub vertex-silent : (event : Event) (place : Place) (it : VertexRecord × Family) → IsSilent (vertex_event set event place it)
  vertex-silent event place it = mapped-silent (fire set event it.1.list _) _ refl

  pub cell-silent : (event : Event) (place : Place) (it : Own × Family) → IsSilent (cell_event set event place it)
  cell-silent event place it = mapped-silent (fire set event it.1.list _) _ refl

  pub load-silent : (kind : Kind) (first : Bool) (found : VertexRecord) (place : Place) (family : Family) → IsSilent (load_touch set kind first found place family)
  load-silent Hanging first found place family = vertex-silent CreateHangingVertex place (fresh_vertex set Hanging place family)
  load-silent Born true found place family =
      then-silent (vertex_event set CreateInnerVertex place (fresh_vertex set Born place family)) (vertex_event set TouchVertexFirstTime place)
      (vertex-silent CreateInnerVertex place (fresh_vertex set Born place family)) (vertex-silent TouchVertexFirstTime place)
  load-silent Kept true found place family = vertex-silent TouchVertexFirstTime place (read_vertex set Kept found, family)
  load-silent Dying true found place family = vertex-silent TouchVertexFirstTime place (read_vertex set Dying found, family)
  load-silent Born false found place family = refl
  load-silent Kept false found place family = refl
  load-silent Dying false found place family = refl

  store_of-silent : (kind : Kind) (last : Bool) (place : Place) (vertex : VertexRecord) (family : Family) → IsSilent (store_of set kind last place vertex family)
  store_of-silent Hanging last place vertex family = mapped-silent (vertex_event set DestroyHangingVertex place (vertex, family)) (given_up set) (vertex-silent DestroyHangingVertex place (vertex, family))
  store_of-silent Dying true place vertex family =
      let both = and_then (vertex_event set TouchVertexLastTime place (vertex, family)) (vertex_event set DestroyVertex place) in
      mapped-silent both (given_up set)
      (then-silent (vertex_event set TouchVertexLastTime place (vertex, family)) (vertex_event set DestroyVertex place) (vertex-silent TouchVertexLastTime place (vertex, family)) (vertex-silent DestroyVertex place))
  store_of-silent Kept true place vertex family = mapped-silent (vertex_event set TouchVertexLastTime place (vertex, family)) (written set Kept) (vertex-silent TouchVertexLastTime place (vertex, family))
  store_of-silent Born true place vertex family = mapped-silent (vertex_event set TouchVertexLastTime place (vertex, family)) (written set Born) (vertex-silent TouchVertexLastTime place (vertex, family))
  store_of-silent Kept false place vertex family = refl
  store_of-silent Born false place vertex family = refl
  store_of-silent Dying false place vertex family = refl

  pub store-silent : (last : Bool) (place : Place) (vertex : VertexRecord) (family : Family) → IsSilent (store_touch set last place vertex family)
  store-silent last place vertex family = store_of-silent vertex.kind last place vertex family

  pub enter-silent : (kind : Kind) (found : List ℤ) (place : Place) (corners : List VertexRecord) (family : Family) → IsSilent (enter_touch set kind found place corners family)
  enter-silent Born found place corners family = then-silent (cell_event set CreateCell place _) (cell_event set EnterCell place) (cell-silent CreateCell place _) (cell-silent EnterCell place)
  enter-silent Kept found place corners family = cell-silent EnterCell place (record { cell = found; corners = corners }, family)
  enter-silent Dying found place corners family = cell-silent EnterCell place (record { cell = found; corners = corners }, family)
  enter-silent Hanging found place corners family = cell-silent EnterCell place (record { cell = found; corners = corners }, family)

  pub leave-silent : (kind : Kind) (place : Place) (own : Own) (family : Family) → IsSilent (leave_touch set kind place own family)
  leave-silent Dying place own family = then-silent (cell_event set LeaveCell place (own, family)) (cell_event set DestroyCell place) (cell-silent LeaveCell place (own, family)) (cell-silent DestroyCell place)
  leave-silent Kept place own family = cell-silent LeaveCell place (own, family)
  leave-silent Born place own family = cell-silent LeaveCell place (own, family)
  leave-silent Hanging place own family = cell-silent LeaveCell place (own, family)
