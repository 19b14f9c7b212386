-- The bodies of a table, event by event.
use Rattle.std.proofs.Common.{◌≡◌, ◌≢◌, ℕ, Bool, true, false, suc, zero, ◌+◌, ◌-◌, ◌<◌, List, [], ◌∷◌, ◌++◌, length, drop, get_or, replicate, Option, Some, None, Result, Ok, Err, refl, sym, ap, subst, ◌∙◌, arith, append_assoc, drop-cons}
use Rattle.std.specs.Prelude.{slice_set, ◌==◌}
use Rattle.std.proofs.lemmas.Bool.Decides.{nat_tests}
use Rattle.std.proofs.Math.Seq.{set-append_seam}
use Rattle.std.proofs.lemmas.List.{get_or-set_same, get_or-set_other, length-append}
use Rattle.toml.specs.Data.{Members}
use Rattle.pe_base.specs.declared.event.Event.{Event}
use Rattle.pe_base.specs.declared.event.Event.TheVariants.{BeginIteration}
use Rattle.pe_base.specs.Acts.Events.{number_of, all_events}
use Rattle.pe_check.specs.declared.checked.Stmt.{Stmt}
use Rattle.pe_check.specs.FieldNames.{FieldNames}
use Rattle.pe_check.specs.Fits.{fits}
use Rattle.pe_scene.specs.declared.fault.SceneFault.{SceneFault}
use Rattle.pe_scene.specs.declared.fault.SceneFault.TheVariants.{TooLong, NotToml, UnknownKey, Missing, Shape, Range, Name, Body, Memory}
use Rattle.pe_scene.specs.Faults.{Refuses, on_ok}
use Rattle.pe_scene.specs.Bodies.{reach_at, body_at, AllFit}
use Rattle.pe_scene.specs.BodyTable.{body_in, each_in, all_bodies}

-- the event that stands there
abbrev pub event_at : ℕ → Event
event_at i = get_or all_events i BeginIteration

numbered : (i : ℕ) → i < 12 → number_of (event_at i) ≡ i
numbered zero below = refl
numbered (suc zero) below = refl
numbered (suc (suc zero)) below = refl
numbered (suc (suc (suc zero))) below = refl
numbered (suc (suc (suc (suc zero)))) below = refl
numbered (suc (suc (suc (suc (suc zero))))) below = refl
numbered (suc (suc (suc (suc (suc (suc zero)))))) below = refl
numbered (suc (suc (suc (suc (suc (suc (suc zero))))))) below = refl
numbered (suc (suc (suc (suc (suc (suc (suc (suc zero)))))))) below = refl
numbered (suc (suc (suc (suc (suc (suc (suc (suc (suc zero))))))))) below = refl
numbered (suc (suc (suc (suc (suc (suc (suc (suc (suc (suc zero)))))))))) below = refl
numbered (suc (suc (suc (suc (suc (suc (suc (suc (suc (suc (suc zero))))))))))) below = refl
numbered (suc (suc (suc (suc (suc (suc (suc (suc (suc (suc (suc (suc i)))))))))))) below = absurd (omega arith)

event_found : (event : Event) → event_at (number_of event) ≡ event
event_found BeginIteration = refl
event_found _ = refl

-- events of one number are one
event_same : (a b : Event) → number_of a ≡ number_of b → a ≡ b
event_same a b h = sym (event_found a) ∙ ap event_at h ∙ event_found b

-- where a part is refused, what is made of it is
pub refuses_later : {X Y : Type 0} (fault : SceneFault) (part : Result X SceneFault) (whole : Result Y SceneFault) → ((f : SceneFault) → part ≡ Err f → whole ≡ Err f) → Refuses fault part → Refuses fault whole
refuses_later TooLong part whole later is = later TooLong is
refuses_later NotToml part whole later is = later NotToml is
refuses_later (UnknownKey key) part whole later is = later (UnknownKey key) is
refuses_later (Missing key) part whole later is = later (Missing key) is
refuses_later (Shape key) part whole later is = later (Shape key) is
refuses_later (Range key) part whole later is = later (Range key) is
refuses_later (Name key) part whole later is = later (Name key) is
refuses_later (Body event at cause) part whole later is = later (Body event at cause) is
refuses_later Memory part whole later is = tt

pub none_if : {X : Type 0} (found : Option X) → ((x : X) → found ≡ Some x → ⊥) → found ≡ None
none_if None never = refl
none_if (Some x) never = absurd (never x refl)

-- what has been read of the bodies, and what is left
pub record Reading (axes : ℕ) (names : FieldNames) (members : Members) (i : ℕ) (bodies : List (Option (List Stmt))) : Type 0 where
  pub front : List (Option (List Stmt))
  pub are : bodies ≡ front ++ replicate (12 - i) None
  pub count : length front ≡ i
  pub rest : on_ok (each_in (body_in axes names members) (drop i all_events)) (λ xs. Ok (front ++ xs)) ≡ all_bodies axes names members

module _ (axes : ℕ) (names : FieldNames) (members : Members) where
  with_none : {X : Type 0} (r : Result (List X) SceneFault) → on_ok r (λ xs. Ok ([] ++ xs)) ≡ r
  with_none (Ok xs) = refl
  with_none (Err fault) = refl

  pub reading_begins : Reading axes names members 0 (replicate 12 None)
  unfolding all_bodies
  reading_begins = record { front = []; are = refl; count = refl; rest = with_none (each_in (body_in axes names members) all_events) }

  module _ (i : ℕ) (bodies : List (Option (List Stmt))) (reading : Reading axes names members i bodies) where
    pub reading_ends : 12 ≡ i → all_bodies axes names members ≡ Ok bodies
    reading_ends all =
        sym reading.rest ∙ ap (λ n. on_ok (each_in (body_in axes names members) (drop n all_events)) (λ xs. Ok (reading.front ++ xs))) (sym all)
        ∙ ap Ok (sym (reading.are ∙ ap (λ n. reading.front ++ replicate (12 - n) None) (sym all)))

    module _ (below : i < 12) where
      next : on_ok (each_in (body_in axes names members) (drop i all_events)) (λ xs. Ok (reading.front ++ xs))
          ≡ on_ok (on_ok (body_in axes names members (event_at i)) (λ x. on_ok (each_in (body_in axes names members) (drop (suc i) all_events)) (λ xs. Ok (x ∷ xs)))) (λ xs. Ok (reading.front ++ xs))
      next = ap (λ events. on_ok (each_in (body_in axes names members) events) (λ xs. Ok (reading.front ++ xs))) (drop-cons all_events i BeginIteration below)

      -- a body that is refused
      pub reading_wrong : (fault : SceneFault) → body_in axes names members (event_at i) ≡ Err fault → all_bodies axes names members ≡ Err fault
      reading_wrong fault wrong =
          sym reading.rest ∙ next
          ∙ ap (λ r. on_ok (on_ok r (λ x. on_ok (each_in (body_in axes names members) (drop (suc i) all_events)) (λ xs. Ok (x ∷ xs)))) (λ xs. Ok (reading.front ++ xs))) wrong

      one_more : (x : Option (List Stmt)) (r : Result (List (Option (List Stmt))) SceneFault) → on_ok r (λ xs. Ok ((reading.front ++ x ∷ []) ++ xs)) ≡ on_ok (on_ok r (λ xs. Ok (x ∷ xs))) (λ xs. Ok (reading.front ++ xs))
      one_more x (Ok xs) = ap Ok (append_assoc reading.front (x ∷ []) xs)
      one_more x (Err fault) = refl

      room : 12 - i ≡ suc (12 - (i + 1))
      room = omega arith

      split : bodies ≡ reading.front ++ None ∷ replicate (12 - (i + 1)) None
      split = reading.are ∙ ap (λ n. reading.front ++ replicate n None) room

      more : (x : Option (List Stmt)) (bodies' : List (Option (List Stmt))) → body_in axes names members (event_at i) ≡ Ok x → bodies' ≡ reading.front ++ x ∷ replicate (12 - (i + 1)) None → Reading axes names members (i + 1) bodies'
      more x bodies' right are =
          let step : suc i ≡ i + 1 = omega arith in
          let counted = reading.count in
          record {
            front = reading.front ++ x ∷ [];
            are = are ∙ sym (append_assoc reading.front (x ∷ []) (replicate (12 - (i + 1)) None));
            count = omega (arith, length-append reading.front (x ∷ []));
            rest =
                one_more x (each_in (body_in axes names members) (drop (i + 1) all_events))
                ∙ ap (λ n. on_ok (on_ok (each_in (body_in axes names members) (drop n all_events)) (λ xs. Ok (x ∷ xs))) (λ xs. Ok (reading.front ++ xs))) (sym step)
                ∙ sym (ap (λ r. on_ok (on_ok r (λ x. on_ok (each_in (body_in axes names members) (drop (suc i) all_events)) (λ xs. Ok (x ∷ xs)))) (λ xs. Ok (reading.front ++ xs))) right)
                ∙ sym next ∙ reading.rest;
          }

      pub reading_room : number_of (event_at i) < length bodies
      reading_room =
          let counted = reading.count in let here = numbered i below in
          omega (arith, ap length split, length-append reading.front (None ∷ replicate (12 - (i + 1)) None))

      -- an event without a body
      pub reading_none : body_in axes names members (event_at i) ≡ Ok None → Reading axes names members (i + 1) bodies
      reading_none right = more None bodies right split

      -- an event with a body
      pub reading_some : (body : List Stmt) → body_in axes names members (event_at i) ≡ Ok (Some body) → Reading axes names members (i + 1) (slice_set bodies (number_of (event_at i)) (Some body))
      reading_some body right =
          let here = numbered i below ∙ sym reading.count in
          more (Some body) (slice_set bodies (number_of (event_at i)) (Some body)) right
          (ap (λ xs. slice_set xs (number_of (event_at i)) (Some body)) split ∙ ap (λ n. slice_set (reading.front ++ None ∷ replicate (12 - (i + 1)) None) n (Some body)) here
          ∙ set-append_seam reading.front None (replicate (12 - (i + 1)) None) (Some body))

-- no body, and one more body, that fit
pub all_fit-none : (axes vertex cell global : ℕ) → AllFit axes vertex cell global (replicate 12 None)
all_fit-none axes vertex cell global = record { each = λ event body at. absurd (no_body event body at) }
  where
    no_body : (event : Event) (body : List Stmt) → body_at (replicate 12 None) event ≡ Some body → ⊥
    no_body BeginIteration body at = cc
    no_body _ body at = cc

module _ (axes vertex cell global : ℕ) (bodies : List (Option (List Stmt))) (event : Event) (body : List Stmt) (within : number_of event < length bodies) where
  set_here : (other : Event) → number_of other ≡ number_of event → body_at (slice_set bodies (number_of event) (Some body)) other ≡ Some body
  set_here other same = ap (λ n. get_or (slice_set bodies (number_of event) (Some body)) n None) same ∙ get_or-set_same bodies (number_of event) (Some body) None within

  pub all_fit-set : AllFit axes vertex cell global bodies → fits (reach_at axes vertex cell global event) body ≡ true → AllFit axes vertex cell global (slice_set bodies (number_of event) (Some body))
  all_fit-set fit here = record { each = λ other b at. go other b (number_of other == number_of event) refl at }
    where
      go : (other : Event) (b : List Stmt) (t : Bool) → (number_of other == number_of event) ≡ t → body_at (slice_set bodies (number_of event) (Some body)) other ≡ Some b → fits (reach_at axes vertex cell global other) b ≡ true
      go other b true h at =
          let same : number_of other ≡ number_of event = grind (arith, nat_tests) in
          let e = event_same other event same in
          let held : Some body ≡ Some b = sym (set_here other same) ∙ at in
          let text : body ≡ b = cc in
          subst (λ (e : Event). fits (reach_at axes vertex cell global e) b ≡ true) (sym e) (subst (λ (b : List Stmt). fits (reach_at axes vertex cell global event) b ≡ true) text here)
      go other b false h at =
          let differ : number_of other ≢ number_of event = grind (arith, nat_tests) in
          fit.each other b (sym (get_or-set_other bodies (number_of event) (number_of other) (Some body) None differ) ∙ at)
