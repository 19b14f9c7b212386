-- The names of the fields of a scenario.
use Rattle.std.specs.Prelude.{ℕ, List, [], codes, Option, Some, None, Result, Ok, Err}
use Rattle.toml.specs.Data.{Data, Members, get_member, as_table}
use Rattle.pe_check.specs.FieldNames.{FieldNames}
use Rattle.pe_scene.specs.declared.fault.SceneFault.{SceneFault}
use Rattle.pe_scene.specs.declared.fault.SceneFault.TheVariants.{Shape, UnknownKey}
use Rattle.pe_scene.specs.declared.section.Section.{Section}
use Rattle.pe_scene.specs.declared.section.Section.TheVariants.{Fields as InFields}
use Rattle.pe_scene.specs.Sections.{named, unknown_in}
use Rattle.pe_scene.specs.Faults.{on_ok}
use Rattle.pe_scene.specs.Texts.{of_array, texts_of, names_of}

abbrev pub no_names : FieldNames
no_names = record { vertex = []; cell = []; global = [] }

-- the names at a key of the table `fields`
abbrev pub names_at : List ℕ → Members → Result (List (List ℕ)) SceneFault
names_at key members = of_array (named InFields key) [] (λ items. names_of (named InFields key) (texts_of items)) (get_member key members)

-- what is read of a table whose keys are all known
abbrev pub if_known : {X : Type 0} → Section → Result X SceneFault → Option (List ℕ) → Result X SceneFault
if_known section read None = read
if_known section read (Some key) = Err (UnknownKey (named section key))

abbrev pub names_in : Members → Result FieldNames SceneFault
names_in members =
    on_ok (names_at (codes "vertex") members) (λ vertex.
    on_ok (names_at (codes "cell") members) (λ cell.
    on_ok (names_at (codes "global") members) (λ global.
    Ok (record { vertex = vertex; cell = cell; global = global }))))

abbrev pub of_fields : Option Members → Result FieldNames SceneFault
of_fields None = Err (Shape (codes "fields"))
of_fields (Some members) = if_known InFields (names_in members) (unknown_in InFields members)

abbrev pub fields_of : Option Data → Result FieldNames SceneFault
fields_of None = Ok no_names
fields_of (Some value) = of_fields (as_table value)

abbrev pub fields_in : Members → Result FieldNames SceneFault
fields_in members = fields_of (get_member (codes "fields") members)
