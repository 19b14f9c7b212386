-- What the mapping of a scenario holds.
use Rattle.std.specs.Prelude.{ℕ, List, [], ◌∷◌, Option, true}
use Rattle.pe_io.specs.Sink.{told_by}
use Rattle.pe_mapping.specs.Held.{Held}
use Rattle.pe_scene.specs.declared.scenario.Scenario.{Scenario}
use Rattle.pe_interp.specs.declared.interp.Interp.{Interp}

-- its scenario, the numbers of the whole grid, what the sink tells, and the sink by its reference's name
abbrev pub held_of : {K : Type 0} → (K → Option (List ℕ)) → (K → ℕ) → (K → ℕ) → Interp K → Held Scenario
held_of text writes faults it = record {
  plan = it.scenario.now;
  list = it.globals.a;
  told = told_by text writes faults it.sink.now;
  dim = it.scenario.now.setup.dim;
  sure = true;
  lent = it.sink.ghost_name ∷ [];
}
