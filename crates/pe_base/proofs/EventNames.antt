-- The event of a spelling, from what a look-up by name says.
use Rattle.std.proofs.Common.{◌≡◌, ℕ, Bool, true, false, cond, List, [], ◌∷◌, Option, Some, None, IfSome, refl, sym, ◌∙◌, ap}
use Rattle.std.specs.Str.{bytes_eq}
use Rattle.std.specs.List.{find}
use Rattle.std.proofs.lemmas.Slice.Eq.{bytes_eq-Decides}
use Rattle.pe_base.specs.declared.event.Event.{Event}
use Rattle.pe_base.specs.declared.event.Event.TheVariants.{BeginIteration, EndIteration, TouchVertexFirstTime, TouchVertexLastTime, CreateInnerVertex, CreateHangingVertex, DestroyVertex, DestroyHangingVertex, CreateCell, DestroyCell, EnterCell, LeaveCell}
use Rattle.pe_base.specs.Acts.Events.{name_of, all_events, event_named}

-- an event is found by its own name
pub event_named-name_of : (event : Event) → event_named (name_of event) ≡ Some event
unfolding event_named
event_named-name_of BeginIteration = refl
event_named-name_of EndIteration = refl
event_named-name_of TouchVertexFirstTime = refl
event_named-name_of TouchVertexLastTime = refl
event_named-name_of CreateInnerVertex = refl
event_named-name_of CreateHangingVertex = refl
event_named-name_of DestroyVertex = refl
event_named-name_of DestroyHangingVertex = refl
event_named-name_of CreateCell = refl
event_named-name_of DestroyCell = refl
event_named-name_of EnterCell = refl
event_named-name_of LeaveCell = refl

-- what is found passes the test
find_passes : {X : Type 0} (test : X → Bool) (xs : List X) → IfSome (find test xs) (λ x. test x ≡ true)
find_passes test [] = tt
find_passes test (x ∷ xs) =
    elim (test x) as (λ b. test x ≡ b → IfSome (cond b (Some x) (find test xs)) (λ y. test y ≡ true)) [ true ↦ λ e. e | false ↦ λ e. find_passes test xs ] refl

-- what is found by a name has it
pub name_of-event_named : (name : List ℕ) → IfSome (event_named name) (λ event. name_of event ≡ name)
unfolding event_named
name_of-event_named name =
    let found = find_passes (λ event. bytes_eq (name_of event) name) all_events in
    elim (find (λ event. bytes_eq (name_of event) name) all_events) as (λ r. IfSome r (λ event. bytes_eq (name_of event) name ≡ true) → IfSome r (λ event. name_of event ≡ name)) [
      | None ↦ λ h. tt
      | Some event ↦ λ h. (bytes_eq-Decides (name_of event) name).0 h
    ] found

-- an answer is the event of the name where it has the name, and every event of that name is the answer
pub is_event_named : (name : List ℕ) (answer : Option Event) → IfSome answer (λ event. name_of event ≡ name) → ((event : Event) → name_of event ≡ name → answer ≡ Some event) → answer ≡ event_named name
is_event_named name (Some event) found only = sym (ap event_named (sym found) ∙ event_named-name_of event)
is_event_named name None found only =
    elim (event_named name) as (λ r. IfSome r (λ event. name_of event ≡ name) → None ≡ r) [
      | None ↦ λ h. refl
      | Some event ↦ λ h. only event h
    ] (name_of-event_named name)
