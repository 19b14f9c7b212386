-- Reading a scenario: from its bytes to what it says, or to the first cause of its refusal.
use Rattle.std.specs.Prelude.{ℕ, Bool, nat_lt, List, length, Option, Some, None, Result, Ok, Err, if◌then◌else◌}
use Rattle.std.specs.Str.{is_utf8}
use Rattle.toml.specs.Data.{Members}
use Rattle.toml.specs.Parse.{parse_document}
use Rattle.pe_base.specs.declared.event.Event.{Event}
use Rattle.pe_base.specs.Acts.Events.{is_among}
use Rattle.pe_base.specs.Limits.{scenario_bytes}
use Rattle.pe_check.specs.declared.checked.Stmt.{Stmt}
use Rattle.pe_check.specs.FieldNames.{FieldNames}
use Rattle.pe_scene.specs.declared.fault.SceneFault.{SceneFault}
use Rattle.pe_scene.specs.declared.fault.SceneFault.TheVariants.{TooLong, NotToml}
use Rattle.pe_scene.specs.declared.section.Section.TheVariants.{Document}
use Rattle.pe_scene.specs.Sections.{unknown_in}
use Rattle.pe_scene.specs.Faults.{on_ok}
use Rattle.pe_scene.specs.Settings.{Settings, settings_in}
use Rattle.pe_scene.specs.Texts.{trace_in}
use Rattle.pe_scene.specs.Fields.{if_known, fields_in}
use Rattle.pe_scene.specs.BodyTable.{bodies_in}

-- what a scenario says: its numbers, the events to trace, the names of fields, and the bodies by the numbers of their events
pub record Said : Type 0 where
  pub settings : Settings
  pub traced : Event → Bool
  pub names : FieldNames
  pub bodies : List (Option (List Stmt))

-- what a document says whose keys are all known
abbrev pub known_in : Members → Result Said SceneFault
known_in members =
    on_ok (settings_in members) (λ settings.
    on_ok (trace_in members) (λ events.
    on_ok (fields_in members) (λ names.
    on_ok (bodies_in settings.dim names members) (λ bodies.
    Ok (record { settings = settings; traced = is_among events; names = names; bodies = bodies })))))

abbrev pub said_in : Members → Result Said SceneFault
said_in members = if_known Document (known_in members) (unknown_in Document members)

-- the table of the bytes, which have to be UTF-8
unfoldable pub document_of : List ℕ → Option Members
document_of bytes = if is_utf8 bytes then parse_document bytes else None

abbrev pub of_document : Option Members → Result Said SceneFault
of_document None = Err NotToml
of_document (Some members) = said_in members

-- what the bytes of a scenario say, or the first cause of its refusal
unfoldable pub scenario_of : List ℕ → Result Said SceneFault
scenario_of bytes = if nat_lt scenario_bytes (length bytes) then Err TooLong else of_document (document_of bytes)
