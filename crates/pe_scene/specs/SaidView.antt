-- What a scenario says, as it is held.
use Rattle.pe_check.specs.FieldNames.{names_view}
use Rattle.pe_scene.specs.declared.scenario.Scenario.{Scenario}
use Rattle.pe_scene.specs.Trace.{traces}
use Rattle.pe_scene.specs.Said.{Said}

abbrev pub said_of : Scenario → Said
said_of it = record {
  settings = record {
    dim = it.setup.dim;
    traversals = it.traversals;
    max_level = it.setup.max_level;
    start_level = it.setup.start_level;
    max_cells = it.setup.max_cells;
  };
  traced = traces it.trace;
  names = names_view it.names;
  bodies = it.bodies;
}
