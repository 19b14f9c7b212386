-- The numbers of a scenario as they are held.
use Rattle.pe_scene.specs.declared.settings.Settings as held
use Rattle.pe_scene.specs.Settings.{Settings}

abbrev pub settings_view : held.Settings → Settings
settings_view it = record {
  dim = it.setup.dim;
  traversals = it.traversals;
  max_level = it.setup.max_level;
  start_level = it.setup.start_level;
  max_cells = it.setup.max_cells;
}
