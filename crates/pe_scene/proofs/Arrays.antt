-- Arrays that are read item by item.
use Rattle.std.proofs.Common.{◌≡◌, ℕ, ◌+◌, ◌<◌, ◌&&◌, ◌||◌, ◌==◌, List, ◌∷◌, length, get_or, drop, Some, not, is_some, option_and_then, sym, ap, ◌∙◌}
use Rattle.std.specs.List.{cons_option}
use Rattle.std.proofs.lemmas.List.{drop_more}
use Rattle.toml.specs.Data.{as_str}
use Rattle.toml.specs.declared.value.Value.{Value}
use Rattle.toml.specs.View.{view, items_view}
use Rattle.toml.proofs.Views.{items_view-drop}
use Rattle.pe_base.specs.declared.event.Event.{Event}
use Rattle.pe_base.specs.Acts.Events.{number_of, is_among}
use Rattle.pe_scene.specs.declared.trace.Trace.{Trace}
use Rattle.pe_scene.specs.Trace.{traces}
use Rattle.pe_scene.specs.Texts.{are_texts, texts_of, next_event, events_after, is_field_name, are_field_names}
use Rattle.pe_scene.specs.Sections.{is_one_of}

-- one more item
pub are_texts-drop : (values : List Value) (i : ℕ) (value : Value) → i < length values → value ≡ get_or values i value
    → are_texts (items_view (drop i values)) ≡ (is_some (as_str (view value)) && are_texts (items_view (drop (i + 1) values)))
are_texts-drop values i value below read =
    ap are_texts (items_view-drop values i value below)
    ∙ ap (λ v. is_some (as_str (view v)) && are_texts (items_view (drop (i + 1) values))) (sym read)

-- marks with one more event
pub traces-with : (old new : Trace) (seen : List Event) (event : Event) → traces old ≡ is_among seen
    → ((other : Event) → traces new other ≡ (number_of event == number_of other || traces old other)) → traces new ≡ is_among (event ∷ seen)
traces-with old new seen event same more =
    λ i other. (more other ∙ ap (λ f. number_of event == number_of other || f other) same) i

-- one more name
pub events_after-drop : (seen : List Event) (names : List Value) (i : ℕ) (name : Value) (event : Event) → i < length names → name ≡ get_or names i name
    → next_event (is_among seen) (view name) ≡ Some event → events_after (event ∷ seen) (items_view (drop (i + 1) names)) ≡ events_after seen (items_view (drop i names))
events_after-drop seen names i name event below read next =
    let rest = items_view (drop (i + 1) names) in
    let split = ap (events_after seen) (items_view-drop names i name below) in
    let here = ap (λ v. option_and_then (λ e. events_after (e ∷ seen) rest) (next_event (is_among seen) (view v))) read in
    sym (split ∙ sym here ∙ ap (option_and_then (λ e. events_after (e ∷ seen) rest)) next)

-- one more text
pub texts_of-drop : (values : List Value) (i : ℕ) (value : Value) → i < length values → value ≡ get_or values i value
    → texts_of (items_view (drop i values)) ≡ cons_option (as_str (view value)) (texts_of (items_view (drop (i + 1) values)))
texts_of-drop values i value below read =
    ap texts_of (items_view-drop values i value below)
    ∙ ap (λ v. cons_option (as_str (view v)) (texts_of (items_view (drop (i + 1) values)))) (sym read)

-- one more name
pub are_field_names-drop : (names : List (List ℕ)) (i : ℕ) (name : List ℕ) → i < length names → name ≡ get_or names i name
    → are_field_names (drop i names) ≡ (is_field_name name && not (is_one_of (drop (i + 1) names) name) && are_field_names (drop (i + 1) names))
are_field_names-drop names i name below read =
    ap are_field_names (drop_more names i name below)
    ∙ ap (λ n. is_field_name n && not (is_one_of (drop (i + 1) names) n) && are_field_names (drop (i + 1) names)) (sym read)
