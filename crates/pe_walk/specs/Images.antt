-- The machine as the image of the working state by address and of the places on stacks.
--
-- A place that was not met yet has a record of some kind, which means nothing: its first touch overwrites the kind.
use Rattle.std.specs.Prelude.{◌==◌, if◌then◌else◌}
use Rattle.pe_base.specs.declared.place.Place.{Place}
use Rattle.pe_base.specs.Acts.Effects.{VertexRecord}
use Rattle.pe_base.specs.Walk.Core.{Setting}
use Rattle.pe_base.specs.Walk.Working.{Working, vertex_at, cell_at, family_of}
use Rattle.pe_hang.specs.InHand.{map_holdings}
use Rattle.pe_adapt.specs.CountedTouches.{Machine}
use Rattle.pe_order.specs.Tokens.{Tokens}
use Rattle.pe_walk.specs.Standing.{ForeseenStart}

module _ {Plan : Type 0} (set : Setting Plan) (e : ForeseenStart) where
  -- the record of a place on a stack
  abbrev pub record_of : Working → Tokens → Place → VertexRecord
  record_of w t vertex = if t.met vertex == 0 then (record (vertex_at w vertex) { kind = e.stale vertex }) else vertex_at w vertex

  -- the machine, with a cell's corners and numbers for the family
  abbrev pub image_of : Place → Working → Tokens → Machine
  image_of parent w t = record {
    vertices = map_holdings (record_of w t) t.vertices;
    cells = map_holdings (cell_at w) t.cells;
    family = family_of set.axes w parent;
    tally = w.tally;
  }
