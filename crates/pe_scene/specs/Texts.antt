-- Arrays of texts: the events to trace, and the names of fields.
use Rattle.std.specs.Prelude.{ℕ, Bool, true, false, not, ◌&&◌, nat_le, nat_lt, List, [], ◌∷◌, length, codes, Option, Some, None, is_some, option_and_then, Result, Ok, Err, if◌then◌else◌}
use Rattle.std.specs.List.{list_all, cons_option}
use Rattle.toml.specs.Data.{Data, Items, no_items, item, Members, get_member, as_str, as_array}
use Rattle.pe_base.specs.declared.event.Event.{Event}
use Rattle.pe_base.specs.Acts.Events.{event_named, is_among}
use Rattle.pe_base.specs.Limits.{most_fields, name_bytes}
use Rattle.pe_lex.specs.Forms.{is_letter, is_word_byte}
use Rattle.pe_scene.specs.declared.fault.SceneFault.{SceneFault}
use Rattle.pe_scene.specs.declared.fault.SceneFault.TheVariants.{Shape, Range, Name}
use Rattle.pe_scene.specs.Sections.{is_one_of}

-- each item is a text
abbrev pub are_texts : Items → Bool
are_texts no_items = true
are_texts (item value values) = is_some (as_str value) && are_texts values

-- the texts among some items
abbrev pub texts_of : Items → List (List ℕ)
texts_of no_items = []
texts_of (item value values) = cons_option (as_str value) (texts_of values)

-- what is read of an array of texts at a key, if one stands there
abbrev pub of_texts : {X : Type 0} → List ℕ → (Items → Result X SceneFault) → Option Items → Result X SceneFault
of_texts key read None = Err (Shape key)
of_texts key read (Some items) = if are_texts items then read items else Err (Shape key)

abbrev pub of_array : {X : Type 0} → List ℕ → X → (Items → Result X SceneFault) → Option Data → Result X SceneFault
of_array key default read None = Ok default
of_array key default read (Some value) = of_texts key read (as_array value)

-- the event of a name, if it is not yet among those seen
abbrev pub next_event : (Event → Bool) → Data → Option Event
next_event seen name =
    option_and_then (λ event. if not (seen event) then Some event else None) (option_and_then event_named (as_str name))

-- the events of an array of names, none twice and none of those already seen, the last one first
abbrev pub events_after : List Event → Items → Option (List Event)
events_after seen no_items = Some seen
events_after seen (item name names) = option_and_then (λ event. events_after (event ∷ seen) names) (next_event (is_among seen) name)

abbrev pub or_name : {X : Type 0} → List ℕ → Option X → Result X SceneFault
or_name key None = Err (Name key)
or_name key (Some x) = Ok x

-- the events to trace
abbrev pub trace_in : Members → Result (List Event) SceneFault
trace_in members = of_array (codes "trace") [] (λ names. or_name (codes "trace") (events_after [] names)) (get_member (codes "trace") members)

-- the second words of a vertex that are not the names of fields
abbrev pub taken_names : List (List ℕ)
taken_names = codes "state" ∷ codes "kind" ∷ []

-- a letter, and letters, digits or underscores behind it, no more than a name may have
abbrev pub is_spelled : List ℕ → Bool
is_spelled [] = false
is_spelled (c ∷ cs) = is_letter c && nat_lt (length cs) name_bytes && list_all is_word_byte cs

abbrev pub is_field_name : List ℕ → Bool
is_field_name text = is_spelled text && not (is_one_of taken_names text)

-- names of fields, none twice
abbrev pub are_field_names : List (List ℕ) → Bool
are_field_names [] = true
are_field_names (name ∷ names) = is_field_name name && not (is_one_of names name) && are_field_names names

-- names of fields, no more than there may be
abbrev pub names_of : List ℕ → List (List ℕ) → Result (List (List ℕ)) SceneFault
names_of key names = if nat_le (length names) most_fields then (if are_field_names names then Ok names else Err (Name key)) else Err (Range key)
