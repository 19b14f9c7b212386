-- The load and the store of a corner on stacks of records: the record is lent, or taken off the stack that the order around
-- the vertex names, and goes back the same way; in between, the core.
use Rattle.std.specs.Prelude.{ℕ, false, ◌+◌, ◌*◌, ◌-◌, List, [], ◌∷◌, Option, Some, None, is_none, slice_get}
use Rattle.std.specs.Option.{option_map}
use Rattle.pe_base.specs.declared.place.Place.{Place}
use Rattle.pe_base.specs.declared.state.State.{State}
use Rattle.pe_base.specs.declared.kind.Kind.{Kind}
use Rattle.pe_base.specs.declared.kind.Kind.TheVariants.{Born, Hanging}
use Rattle.pe_base.specs.Tree.Places.{corner, parent_of}
use Rattle.pe_base.specs.Steps.Routes.{stack_in, stack_out}
use Rattle.pe_base.specs.Acts.Effects.{VertexRecord}
use Rattle.pe_base.specs.Life.Carriers.{kind_by}
use Rattle.pe_base.specs.Walk.Course.{Course, and_then, course_map}
use Rattle.pe_base.specs.Walk.Core.{Setting, way, Family, load_touch, store_touch}
use Rattle.pe_base.specs.Walk.Working.{no_vertex}
use Rattle.pe_stacks.specs.Holdings.{Holdings}
use Rattle.pe_hang.specs.Moves.{lend, give_up, pop, push}

-- the vertices on their stacks, and what is in hand of the parent
pub record Desk : Type 0 where
  pub vertices : Holdings VertexRecord
  pub family : Family

-- the number of a corner of a cell, by its position beside the cell's
abbrev pub offset_number : ℕ → List ℕ → List ℕ → ℕ
offset_number weight [] ps = 0
offset_number weight (q ∷ qs) [] = 0
offset_number weight (q ∷ qs) (p ∷ ps) = (q - p) * weight + offset_number (2 * weight) qs ps

abbrev pub corner_number : Place → Place → ℕ
corner_number cell vertex = offset_number 1 vertex.pos cell.pos

-- the state of a corner of a cell, among its corners in hand
abbrev pub state_in_hand : Place → List VertexRecord → Place → Option State
state_in_hand cell corners vertex = option_map (λ it. it.state) (slice_get corners (corner_number cell vertex))

module _ {Plan : Type 0} (set : Setting Plan) where
  -- the kind of a vertex of a cell, by the parent's corners in hand
  abbrev pub kind_in_hand : Place → List VertexRecord → Place → Kind
  kind_in_hand cell parents vertex = kind_by set.axes set.traversal (state_in_hand (parent_of cell) parents) vertex

  -- a vertex comes to hand: fresh, from the input, or from the stack where it waits
  abbrev pub lent_vertex : Desk → Course (VertexRecord × Desk)
  lent_vertex desk = course_map (λ vertices. (no_vertex, record desk { vertices = vertices })) (lend desk.vertices)

  abbrev pub popped_vertex : ℕ → Desk → Course (VertexRecord × Desk)
  popped_vertex s desk = course_map (λ it. (it.0, record desk { vertices = it.1 })) (pop s desk.vertices)

  abbrev pub comes : ℕ → Kind → Option ℕ → Desk → Course (VertexRecord × Desk)
  comes input Hanging from desk = lent_vertex desk
  comes input Born None desk = lent_vertex desk
  comes input kind None desk = popped_vertex input desk
  comes input kind (Some s) desk = popped_vertex s desk

  -- a vertex leaves the hand: given up, to the output, or to the stack where it waits
  abbrev pub stack_or : ℕ → Option ℕ → ℕ
  stack_or output None = output
  stack_or output (Some s) = s

  abbrev pub goes : ℕ → Option ℕ → Option VertexRecord → Desk → Course Desk
  goes output to None desk = course_map (λ vertices. record desk { vertices = vertices }) (give_up desk.vertices)
  goes output to (Some it) desk = course_map (λ vertices. record desk { vertices = vertices }) (push false (stack_or output to) it desk.vertices)

  -- the load of a vertex of a kind
  abbrev pub load_as : ℕ → Kind → Option ℕ → Place → Desk → Course (VertexRecord × Desk)
  load_as input kind from vertex desk =
      and_then (comes input kind from desk) (λ come.
      course_map (λ it. (it.0, record come.1 { family = it.1 })) (load_touch set kind (is_none from) come.0 vertex come.1.family))

  -- the load of a corner of a cell
  abbrev pub load_corner : ℕ → Place → ℕ → Desk → Course (VertexRecord × Desk)
  load_corner input cell k desk =
      let vertex = corner set.axes cell k in
      load_as input (kind_in_hand cell desk.family.parents vertex) (stack_in set.axes (way set) vertex cell) vertex desk

  -- the store of a corner of a cell
  abbrev pub store_as : ℕ → Option ℕ → Place → VertexRecord → Desk → Course Desk
  store_as output to vertex it desk =
      and_then (store_touch set (is_none to) vertex it desk.family)
      (λ after. goes output to after.0 (record desk { family = after.1 }))

  abbrev pub store_corner : ℕ → Place → ℕ → VertexRecord → Desk → Course Desk
  store_corner output cell k it desk =
      let vertex = corner set.axes cell k in
      store_as output (stack_out set.axes (way set) vertex cell) vertex it desk
