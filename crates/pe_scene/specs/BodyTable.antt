-- The table of bodies.
use Rattle.std.specs.Prelude.{ℕ, List, [], ◌∷◌, codes, replicate, Option, Some, None, Result, Ok, Err}
use Rattle.toml.specs.Data.{Data, Members, get_member, as_str, as_table}
use Rattle.pe_base.specs.declared.event.Event.{Event}
use Rattle.pe_base.specs.Acts.Events.{name_of, all_events}
use Rattle.pe_check.specs.declared.checked.Stmt.{Stmt}
use Rattle.pe_check.specs.FieldNames.{FieldNames}
use Rattle.pe_check.specs.Resolving.{context_at}
use Rattle.pe_scene.specs.declared.fault.SceneFault.{SceneFault}
use Rattle.pe_scene.specs.declared.fault.SceneFault.TheVariants.{Shape}
use Rattle.pe_scene.specs.declared.section.Section.TheVariants.{Events}
use Rattle.pe_scene.specs.Sections.{named, unknown_in}
use Rattle.pe_scene.specs.Faults.{on_ok}
use Rattle.pe_scene.specs.Fields.{if_known}
use Rattle.pe_scene.specs.BodyTexts.{body_text}

-- the body of a value at the name of an event, if one stands there
abbrev pub of_text : ℕ → FieldNames → Event → Option (List ℕ) → Result (Option (List Stmt)) SceneFault
of_text dim names event None = Err (Shape (named Events (name_of event)))
of_text dim names event (Some text) = on_ok (body_text (context_at event dim names) event text) (λ body. Ok (Some body))

abbrev pub of_value : ℕ → FieldNames → Event → Option Data → Result (Option (List Stmt)) SceneFault
of_value dim names event None = Ok None
of_value dim names event (Some value) = of_text dim names event (as_str value)

abbrev pub body_in : ℕ → FieldNames → Members → Event → Result (Option (List Stmt)) SceneFault
body_in dim names members event = of_value dim names event (get_member (name_of event) members)

-- what stands at each event, in turn
abbrev pub each_in : {X : Type 0} → (Event → Result X SceneFault) → List Event → Result (List X) SceneFault
each_in read [] = Ok []
each_in read (event ∷ events) = on_ok (read event) (λ x. on_ok (each_in read events) (λ xs. Ok (x ∷ xs)))

-- the bodies of a table whose keys are all known, by the numbers of their events
unfoldable pub all_bodies : ℕ → FieldNames → Members → Result (List (Option (List Stmt))) SceneFault
all_bodies dim names members = each_in (body_in dim names members) all_events

abbrev pub of_events : ℕ → FieldNames → Option Members → Result (List (Option (List Stmt))) SceneFault
of_events dim names None = Err (Shape (codes "events"))
of_events dim names (Some members) = if_known Events (all_bodies dim names members) (unknown_in Events members)

abbrev pub events_of : ℕ → FieldNames → Option Data → Result (List (Option (List Stmt))) SceneFault
events_of dim names None = Ok (replicate 12 None)
events_of dim names (Some value) = of_events dim names (as_table value)

-- the bodies
abbrev pub bodies_in : ℕ → FieldNames → Members → Result (List (Option (List Stmt))) SceneFault
bodies_in dim names members = events_of dim names (get_member (codes "events") members)
