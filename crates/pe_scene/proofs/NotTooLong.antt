-- No document is refused for its length.
use Rattle.std.proofs.Common.{◌≡◌, ℕ, Bool, true, false, cond, List, [], ◌∷◌, Option, Some, None, Result, Ok, Err, refl, ap, codes}
use Rattle.std.specs.Prelude.{ℤ, nat_le, length}
use Rattle.toml.specs.Data.{Data, Items, Members, get_member, as_integer, as_array, as_str, as_table}
use Rattle.pe_base.specs.declared.event.Event.{Event}
use Rattle.pe_base.specs.Acts.Events.{all_events, name_of}
use Rattle.pe_base.specs.Limits.{most_fields, most_levels}
use Rattle.pe_lex.specs.declared.token.Token.{Token}
use Rattle.pe_lex.specs.Tokens.{tokens_of}
use Rattle.pe_parse.specs.declared.fault.ParseFault.{ParseFault}
use Rattle.pe_parse.specs.declared.fault.ParseFault.TheVariants as parsing
use Rattle.pe_parse.specs.Faults.{fault_of}
use Rattle.pe_parse.proofs.FaultFree.{tree_of}
use Rattle.pe_check.specs.declared.cause.CheckFault.{CheckFault}
use Rattle.pe_check.specs.declared.cause.CheckFault.TheVariants as checking
use Rattle.pe_check.specs.FieldNames.{FieldNames}
use Rattle.pe_check.specs.Resolving.{Context, context_at}
use Rattle.pe_check.specs.Checking.{body_of}
use Rattle.pe_scene.specs.declared.fault.SceneFault.{SceneFault}
use Rattle.pe_scene.specs.declared.fault.SceneFault.TheVariants.{TooLong, Name, Range as OutOfRange}
use Rattle.pe_scene.specs.declared.section.Section.{Section}
use Rattle.pe_scene.specs.declared.section.Section.TheVariants as section
use Rattle.pe_scene.specs.declared.number.Number.{Number}
use Rattle.pe_scene.specs.declared.number.Number.TheVariants.{Dim, Traversals, MaxLevel, StartLevel, MaxCells}
use Rattle.pe_scene.specs.declared.number.Range.{Range}
use Rattle.pe_scene.specs.Sections.{unknown_in, named}
use Rattle.pe_scene.specs.Faults.{on_ok}
use Rattle.pe_scene.specs.Numbers.{key_of, range_of, within}
use Rattle.pe_scene.specs.Settings.{or_range, or_shape, or_missing, number_of, number_in, settings_in}
use Rattle.pe_scene.specs.Texts.{are_texts, are_field_names, texts_of, of_texts, of_array, or_name, events_after, trace_in, names_of}
use Rattle.pe_scene.specs.Fields.{names_at, if_known, names_in, of_fields, fields_of, fields_in}
use Rattle.pe_scene.specs.BodyTexts.{check_fault, parse_fault, or_refused, parsed, lexed, body_text}
use Rattle.pe_scene.specs.BodyTable.{of_text, of_value, body_in, each_in, all_bodies, of_events, events_of, bodies_in}
use Rattle.pe_scene.specs.Said.{known_in, of_document}

abbrev Fits : {X : Type 0} → Result X SceneFault → Type 0
Fits r = r ≡ Err TooLong → ⊥

fits-on_ok : {X Y : Type 0} (r : Result X SceneFault) (next : X → Result Y SceneFault) → Fits r → ((x : X) → Fits (next x)) → Fits (on_ok r next)
fits-on_ok (Ok x) next first later h = later x h
fits-on_ok (Err fault) next first later h = let same : fault ≡ TooLong = cc in first (ap Err same)

fits-cond : {X : Type 0} (b : Bool) (r s : Result X SceneFault) → Fits r → Fits s → Fits (cond b r s)
fits-cond true r s one other = one
fits-cond false r s one other = other

fits-ok : {X : Type 0} (x : X) → Fits (Ok x)
fits-ok x h = cc

fits-if_known : {X : Type 0} (section : Section) (read : Result X SceneFault) (unknown : Option (List ℕ)) → Fits read → Fits (if_known section read unknown)
fits-if_known section read None fits = fits
fits-if_known section read (Some key) fits = λ h. cc

-- numbers
fits-or_range : (key : List ℕ) (n : Option ℕ) → Fits (or_range key n)
fits-or_range key None h = cc
fits-or_range key (Some n) h = cc

fits-or_shape : (key : List ℕ) (range : Range) (n : Option ℤ) → Fits (or_shape key range n)
fits-or_shape key range None h = cc
fits-or_shape key range (Some n) h = fits-or_range key (within range n) h

fits-or_missing : (key : List ℕ) (n : Option ℕ) → Fits (or_missing key n)
fits-or_missing key None h = cc
fits-or_missing key (Some n) h = cc

fits-number : (key : List ℕ) (range : Range) (value : Option Data) → Fits (number_of key range value)
fits-number key range None h = fits-or_missing key range.default h
fits-number key range (Some value) h = fits-or_shape key range (as_integer value) h

fits-number_in : (levels : ℕ) (number : Number) (members : Members) → Fits (number_in levels number members)
fits-number_in levels number members h = fits-number (key_of number) (range_of levels number) (get_member (key_of number) members) h

fits-settings : (members : Members) → Fits (settings_in members)
fits-settings members =
    fits-on_ok (number_in most_levels Dim members) _ (fits-number_in most_levels Dim members)
    (λ axes. fits-on_ok (number_in most_levels Traversals members) _ (fits-number_in most_levels Traversals members)
    (λ traversals. fits-on_ok (number_in most_levels MaxLevel members) _ (fits-number_in most_levels MaxLevel members)
    (λ max_level. fits-on_ok (number_in max_level StartLevel members) _ (fits-number_in max_level StartLevel members)
    (λ start_level. fits-on_ok (number_in max_level MaxCells members) _ (fits-number_in max_level MaxCells members) (λ max_cells. fits-ok _)))))

-- arrays of texts
fits-of_texts : {X : Type 0} (key : List ℕ) (read : Items → Result X SceneFault) (items : Option Items) → ((items : Items) → Fits (read items)) → Fits (of_texts key read items)
fits-of_texts key read None fits = λ h. cc
fits-of_texts key read (Some items) fits = fits-cond (are_texts items) (read items) _ (fits items) (λ h. cc)

fits-of_array : {X : Type 0} (key : List ℕ) (default : X) (read : Items → Result X SceneFault) (value : Option Data) → ((items : Items) → Fits (read items)) → Fits (of_array key default read value)
fits-of_array key default read None fits = fits-ok default
fits-of_array key default read (Some value) fits = fits-of_texts key read (as_array value) fits

fits-or_name : {X : Type 0} (key : List ℕ) (x : Option X) → Fits (or_name key x)
fits-or_name key None h = cc
fits-or_name key (Some x) h = cc

fits-trace : (members : Members) → Fits (trace_in members)
fits-trace members = fits-of_array (codes "trace") _ _ (get_member (codes "trace") members) (λ items. fits-or_name (codes "trace") (events_after [] items))

fits-names_of : (key : List ℕ) (names : List (List ℕ)) → Fits (names_of key names)
fits-names_of key names =
    fits-cond (nat_le (length names) most_fields) (cond (are_field_names names) (Ok names) (Err (Name key))) (Err (OutOfRange key))
    (fits-cond (are_field_names names) (Ok names) (Err (Name key)) (fits-ok names) (λ h. cc)) (λ h. cc)

fits-names_at : (key : List ℕ) (members : Members) → Fits (names_at key members)
fits-names_at key members = fits-of_array (named section.Fields key) _ _ (get_member key members) (λ items. fits-names_of (named section.Fields key) (texts_of items))

fits-names_in : (members : Members) → Fits (names_in members)
fits-names_in members =
    fits-on_ok (names_at (codes "vertex") members) _ (fits-names_at (codes "vertex") members)
    (λ vertex. fits-on_ok (names_at (codes "cell") members) _ (fits-names_at (codes "cell") members)
    (λ cell. fits-on_ok (names_at (codes "global") members) _ (fits-names_at (codes "global") members) (λ global. fits-ok _)))

fits-of_fields : (members : Option Members) → Fits (of_fields members)
fits-of_fields None h = cc
fits-of_fields (Some members) h = fits-if_known section.Fields (names_in members) (unknown_in section.Fields members) (fits-names_in members) h

fits-fields_of : (value : Option Data) → Fits (fields_of value)
fits-fields_of None h = cc
fits-fields_of (Some value) h = fits-of_fields (as_table value) h

-- bodies
fits-parse : {X : Type 0} (event : Event) (fault : ParseFault) → Fits {X = X} (Err (parse_fault event fault))
fits-parse event (parsing.Syntax at) h = cc
fits-parse event (parsing.TooDeep at) h = cc
fits-parse event (parsing.TooMany at) h = cc
fits-parse event (parsing.Literal at) h = cc
fits-parse event parsing.Memory h = cc

fits-check : {X : Type 0} (event : Event) (fault : CheckFault) → Fits {X = X} (Err (check_fault event fault))
fits-check event (checking.UnknownName at) h = cc
fits-check event (checking.NotHere at) h = cc
fits-check event (checking.Corner at) h = cc
fits-check event (checking.ReadOnly at) h = cc
fits-check event checking.Memory h = cc

fits-or_refused : {X : Type 0} (event : Event) (r : Result X CheckFault) → Fits (or_refused event r)
fits-or_refused event (Ok x) = fits-ok x
fits-or_refused event (Err fault) = fits-check event fault

fits-parsed : (context : Context) (event : Event) (text : List ℕ) (tokens : List Token) (found : Option ParseFault) (is : fault_of text tokens ≡ found) → Fits (parsed context event text tokens found is)
fits-parsed context event text tokens (Some fault) is = fits-parse event fault
fits-parsed context event text tokens None is = fits-or_refused event (body_of context (tree_of text tokens is).body)

fits-lexed : (context : Context) (event : Event) (text : List ℕ) (tokens : Result (List Token) ℕ) → Fits (lexed context event text tokens)
fits-lexed context event text (Err at) = λ h. cc
fits-lexed context event text (Ok tokens) = fits-parsed context event text tokens (fault_of text tokens) refl

fits-of_text : (axes : ℕ) (names : FieldNames) (event : Event) (text : Option (List ℕ)) → Fits (of_text axes names event text)
fits-of_text axes names event None = λ h. cc
fits-of_text axes names event (Some text) =
    fits-on_ok (body_text (context_at event axes names) event text) _ (fits-lexed (context_at event axes names) event text (tokens_of text)) (λ body. fits-ok _)

fits-of_value : (axes : ℕ) (names : FieldNames) (event : Event) (value : Option Data) → Fits (of_value axes names event value)
fits-of_value axes names event None = fits-ok _
fits-of_value axes names event (Some value) = fits-of_text axes names event (as_str value)

fits-each : {X : Type 0} (read : Event → Result X SceneFault) (events : List Event) → ((event : Event) → Fits (read event)) → Fits (each_in read events)
fits-each read [] fits = fits-ok []
fits-each read (event ∷ events) fits = fits-on_ok (read event) _ (fits event) (λ x. fits-on_ok (each_in read events) _ (fits-each read events fits) (λ xs. fits-ok _))

fits-all_bodies : (axes : ℕ) (names : FieldNames) (members : Members) → Fits (all_bodies axes names members)
unfolding all_bodies
fits-all_bodies axes names members = fits-each (body_in axes names members) all_events (λ event. fits-of_value axes names event (get_member (name_of event) members))

fits-of_events : (axes : ℕ) (names : FieldNames) (members : Option Members) → Fits (of_events axes names members)
fits-of_events axes names None h = cc
fits-of_events axes names (Some members) h = fits-if_known section.Events (all_bodies axes names members) (unknown_in section.Events members) (fits-all_bodies axes names members) h

fits-events_of : (axes : ℕ) (names : FieldNames) (value : Option Data) → Fits (events_of axes names value)
fits-events_of axes names None = fits-ok _
fits-events_of axes names (Some value) = fits-of_events axes names (as_table value)

-- no document is refused for its length
fits-known : (members : Members) → Fits (known_in members)
fits-known members =
    fits-on_ok (settings_in members) _ (fits-settings members)
    (λ settings. fits-on_ok (trace_in members) _ (fits-trace members)
    (λ events. fits-on_ok (fields_in members) _ (fits-fields_of (get_member (codes "fields") members))
    (λ names. fits-on_ok (bodies_in settings.dim names members) _ (fits-events_of settings.dim names (get_member (codes "events") members)) (λ bodies. fits-ok _))))

pub never_too_long : (document : Option Members) → of_document document ≡ Err TooLong → ⊥
never_too_long None h = cc
never_too_long (Some members) h = fits-if_known section.Document (known_in members) (unknown_in section.Document members) (fits-known members) h
