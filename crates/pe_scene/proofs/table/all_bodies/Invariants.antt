use Rattle.std.proofs.Common.{length}
use Rattle.toml.specs.View.{table_view}
use Rattle.pe_check.specs.FieldNames.{names_view}
use Rattle.pe_scene.specs.Bodies.{AllFit}
use Rattle.pe_scene.proofs.BodyLoop.{Reading}
use Rattle.pe_scene.proofs.table.all_bodies.Given as goal

-- the bodies so far, and those to come; they fit
abbrev pub invariant-loop-event : goal.invariant-loop-event
invariant-loop-event l = record {
  reading : Reading l.dim (names_view l.names) (table_view l.table) l.event-index l.bodies;
  fit : AllFit l.dim (length l.names.vertex) (length l.names.cell) (length l.names.global) l.bodies;
}
