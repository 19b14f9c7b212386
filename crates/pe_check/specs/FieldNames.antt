-- The names of the fields of a scenario.
use Rattle.std.specs.Prelude.{ℕ, List}
use Rattle.pe_base.specs.declared.setup.Names.{Names}

-- the names of the numbers of a vertex, of a cell, and of the whole grid
pub record FieldNames : Type 0 where
  pub vertex : List (List ℕ)
  pub cell : List (List ℕ)
  pub global : List (List ℕ)

-- as they are held
abbrev pub names_view : Names → FieldNames
names_view it = record { vertex = it.vertex; cell = it.cell; global = it.global }
