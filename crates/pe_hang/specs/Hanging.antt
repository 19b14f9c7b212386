-- The two moments of a hanging vertex.
use Rattle.std.specs.Prelude.{Option}
use Rattle.pe_base.specs.declared.place.Place.{Place}
use Rattle.pe_base.specs.declared.kind.Kind.TheVariants.{Hanging}
use Rattle.pe_base.specs.declared.event.Event.TheVariants.{CreateHangingVertex, DestroyHangingVertex}
use Rattle.pe_base.specs.Acts.Effects.{VertexRecord}
use Rattle.pe_base.specs.Walk.Course.{Course, course_map}
use Rattle.pe_base.specs.Walk.Core.{Setting, Family, fresh_vertex, vertex_event, given_up}

module _ {Plan : Type 0} (set : Setting Plan) where
  -- it is made fresh, and its event is fired
  abbrev pub made : Place → Family → Course (VertexRecord × Family)
  made place family = vertex_event set CreateHangingVertex place (fresh_vertex set Hanging place family)

  -- its event is fired, and it is given up
  abbrev pub ended : Place → VertexRecord → Family → Course (Option VertexRecord × Family)
  ended place vertex family = course_map (given_up set) (vertex_event set DestroyHangingVertex place (vertex, family))
