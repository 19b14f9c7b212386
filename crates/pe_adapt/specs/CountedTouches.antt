-- A corner of a cell, touched and counted: what lies on stacks and is in hand, as lists.
use Rattle.std.specs.Prelude.{ℕ, ℤ, ◌-◌, Bool, ◌&&◌, ◌||◌, List, is_none}
use Rattle.pe_base.specs.declared.place.Place.{Place}
use Rattle.pe_base.specs.declared.kind.Kind.{Kind}
use Rattle.pe_base.specs.Life.Kinds.{is_hanging, is_inside}
use Rattle.pe_base.specs.declared.tally.Tally.{Tally}
use Rattle.pe_base.specs.Tree.Places.{corner}
use Rattle.pe_base.specs.Steps.Routes.{stack_in, stack_out}
use Rattle.pe_base.specs.Acts.Effects.{VertexRecord}
use Rattle.pe_base.specs.Walk.Course.{Course, course_map, allowed}
use Rattle.pe_base.specs.Walk.Core.{Setting, way, Family}
use Rattle.pe_base.specs.Walk.Touches.{tally_load, tally_store}
use Rattle.pe_stacks.specs.Holdings.{Holdings}
use Rattle.pe_hang.specs.Moves.{may_rise}
use Rattle.pe_adapt.specs.Touches.{Desk, kind_in_hand}
use Rattle.pe_adapt.specs.Touches as corners

pub record Machine : Type 0 where
  pub vertices : Holdings VertexRecord
  pub cells : Holdings (List ℤ)
  pub family : Family
  pub tally : Tally

-- the stacks of the streams: the inputs, and the outputs beside them
pub record StreamStacks : Type 0 where
  pub input : ℕ
  pub cell_input : ℕ

abbrev pub output : StreamStacks → ℕ
output streams = 17 - streams.input

abbrev pub cell_output : StreamStacks → ℕ
cell_output streams = 1 - streams.cell_input

-- every number of a tally may rise
abbrev pub tally_may_rise : Tally → Bool
tally_may_rise tally =
    may_rise tally.cells && may_rise tally.read && may_rise tally.written
    && may_rise tally.created && may_rise tally.destroyed && may_rise tally.hanging

-- a vertex that counts lies inside the root cube
abbrev pub is_placed : ℕ → Kind → Place → Bool
is_placed axes kind vertex = is_hanging kind || is_inside axes vertex

abbrev pub desk_of : Machine → Desk
desk_of m = record { vertices = m.vertices; family = m.family }

abbrev pub with_desk : Desk → Machine → Machine
with_desk desk m = record m { vertices = desk.vertices; family = desk.family }

module _ {Plan : Type 0} (set : Setting Plan) (streams : StreamStacks) where
  -- a corner is loaded, and stored
  abbrev pub load_corner : Place → ℕ → Machine → Course (VertexRecord × Machine)
  load_corner cell k m =
      let vertex = corner set.axes cell k in
      let kind = kind_in_hand set cell m.family.parents vertex in
      let first = is_none (stack_in set.axes (way set) vertex cell) in
      allowed (tally_may_rise m.tally && is_placed set.axes kind vertex)
      (course_map (λ it. (it.0, with_desk it.1 (record m { tally = tally_load kind first m.tally })))
      (corners.load_corner set streams.input cell k (desk_of m)))

  abbrev pub store_corner : Place → ℕ → VertexRecord → Machine → Course Machine
  store_corner cell k it m =
      let vertex = corner set.axes cell k in
      let last = is_none (stack_out set.axes (way set) vertex cell) in
      allowed (tally_may_rise m.tally && is_placed set.axes it.kind vertex)
      (course_map (λ desk. with_desk desk (record m { tally = tally_store it.kind last m.tally }))
      (corners.store_corner set (output streams) cell k it (desk_of m)))
