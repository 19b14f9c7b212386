-- The touch of a corner fits where its stack is there.
use Rattle.std.proofs.Common.{◌≡◌, ℕ, zero, suc, ◌^◌, ◌<◌, Bool, true, false, List, [], ◌∷◌, length, Option, Some, None, refl, sym, subst, arith}
use Rattle.std.specs.Prelude.{nat_lt, slice_index_or, IfSome, is_none}
use Rattle.std.proofs.lemmas.Bool.{lt-ltb, and_from}
use Rattle.pe_base.specs.declared.place.Place.{Place}
use Rattle.pe_base.specs.declared.event.Event.{Event}
use Rattle.pe_base.specs.declared.event.Event.TheVariants.{TouchVertexFirstTime, TouchVertexLastTime, CreateInnerVertex, CreateHangingVertex, DestroyVertex, DestroyHangingVertex}
use Rattle.pe_base.specs.declared.kind.Kind.{Kind}
use Rattle.pe_base.specs.declared.kind.Kind.TheVariants.{Kept, Born, Dying, Hanging}
use Rattle.pe_base.specs.Acts.Effects.{VertexRecord, seen_of, all_seen, Seen, Outcome, Fault}
use Rattle.pe_base.specs.Walk.Course.{Ending, done, halts, stuck, Course, and_then, from, allowed}
use Rattle.pe_base.specs.Walk.Core.{Setting, Family, fire, ended_by, fresh_vertex, read_vertex, load_touch, store_of, vertex_event}
use Rattle.pe_stacks.specs.Holdings.{Holdings, Stack, new_stack, stack_count, stack_at, items_at, len_at, popped}
use Rattle.pe_hang.specs.InHand.{map_holdings}
use Rattle.pe_hang.specs.Moves.{may_rise, lend, give_up, top_of, pop, push}
use Rattle.pe_base.specs.Calls.Follows.{Fits, is_fit}
use Rattle.pe_hang.proofs.OnStacks.{stack_count-map, stack_at-map, len_at-map}
use Rattle.pe_adapt.specs.Touches.{comes, load_as, goes, stack_or, store_as}
use Rattle.pe_adapt.specs.Spots.{source_of}
use Rattle.pe_adapt.proofs.Loading.{desk}

-- steps that fit
then-fits : {X Y : Type 0} (ending : Ending X) (next : X → Course Y) → is_fit ending ≡ true → ((x : X) → Fits (next x)) → is_fit (from ending next).ending ≡ true
then-fits (done x) next fits each = each x
then-fits (halts cause) next fits each = refl
then-fits stuck next fits each = fits

pub and_then-fit : {X Y : Type 0} (course : Course X) (next : X → Course Y) → Fits course → ((x : X) → Fits (next x)) → Fits (and_then course next)
and_then-fit course next fits each = then-fits course.ending next fits each

pub allowed-fit : {X : Type 0} (test : Bool) (course : Course X) → test ≡ true → Fits course → Fits (allowed test course)
allowed-fit true course is fits = fits
allowed-fit false course is fits = absurd (let no : false ≡ true = is in cc)

module _ {Plan : Type 0} (set : Setting Plan) where
  abbrev seen_at : Place → VertexRecord × Family → Seen
  seen_at place it = record { place = place; vertex = Some (seen_of it.0); cell = None; corners = []; parents = all_seen it.1.parents; parent = it.1.parent }

  abbrev fire_of : Event → Place → VertexRecord × Family → Outcome
  fire_of event place it = set.rules.effect set.plan event set.traversal it.1.list (seen_at place it)

  -- no event gets stuck
  ended-fits : (event : Event) (place : Place) (fault : Option Fault) (outcome : Outcome) → is_fit (ended_by set event place fault outcome) ≡ true
  ended-fits event place None outcome = refl
  ended-fits event place (Some fault) outcome = refl

  event-fits : (event : Event) (place : Place) (it : VertexRecord × Family) → Fits (vertex_event set event place it)
  event-fits event place it =
      then-fits (fire set event it.1.list (seen_at place it)).ending _ (ended-fits event place (fire_of event place it).fault (fire_of event place it)) (λ outcome. refl)

  pub load-fits : (kind : Kind) (first : Bool) (found : VertexRecord) (place : Place) (family : Family) → Fits (load_touch set kind first found place family)
  load-fits Hanging first found place family = event-fits CreateHangingVertex place (fresh_vertex set Hanging place family)
  load-fits Born true found place family =
      and_then-fit (vertex_event set CreateInnerVertex place (fresh_vertex set Born place family)) (vertex_event set TouchVertexFirstTime place)
      (event-fits CreateInnerVertex place (fresh_vertex set Born place family)) (event-fits TouchVertexFirstTime place)
  load-fits Kept true found place family = event-fits TouchVertexFirstTime place (read_vertex set Kept found, family)
  load-fits Dying true found place family = event-fits TouchVertexFirstTime place (read_vertex set Dying found, family)
  load-fits Born false found place family = refl
  load-fits Kept false found place family = refl
  load-fits Dying false found place family = refl

  pub store-fits : (kind : Kind) (last : Bool) (place : Place) (it : VertexRecord) (family : Family) → Fits (store_of set kind last place it family)
  store-fits Hanging last place it family = and_then-fit (vertex_event set DestroyHangingVertex place (it, family)) _ (event-fits DestroyHangingVertex place (it, family)) (λ x. refl)
  store-fits Dying true place it family =
      and_then-fit (and_then (vertex_event set TouchVertexLastTime place (it, family)) (vertex_event set DestroyVertex place)) _
      (and_then-fit (vertex_event set TouchVertexLastTime place (it, family)) (vertex_event set DestroyVertex place)
      (event-fits TouchVertexLastTime place (it, family)) (event-fits DestroyVertex place)) (λ x. refl)
  store-fits Kept true place it family = and_then-fit (vertex_event set TouchVertexLastTime place (it, family)) _ (event-fits TouchVertexLastTime place (it, family)) (λ x. refl)
  store-fits Born true place it family = and_then-fit (vertex_event set TouchVertexLastTime place (it, family)) _ (event-fits TouchVertexLastTime place (it, family)) (λ x. refl)
  store-fits Kept false place it family = refl
  store-fits Born false place it family = refl
  store-fits Dying false place it family = refl

  module _ {X : Type 0} (f : X → VertexRecord) (held : Holdings X) (family : Family) where
    lend-fits : held.fresh < 2 ^ 63 → Fits (lend (map_holdings f held))
    lend-fits below = allowed-fit (may_rise held.fresh) _ (lt-ltb held.fresh (2 ^ 63) below) refl

    top-fits : {Y : Type 0} (ys : List Y) (h : Holdings Y) → 0 < length ys → Fits (top_of ys h)
    top-fits [] h some = absurd (omega arith)
    top-fits (y ∷ ys) h some = refl

    there : {Y : Type 0} (stacks : List (Stack Y)) (s : ℕ) → 0 < length (slice_index_or stacks s new_stack).items → s < length stacks
    there [] s some = absurd (omega arith)
    there (x ∷ xs) zero some = omega arith
    there (x ∷ xs) (suc s) some = omega (arith, there xs s some)

    pop-fits : (s : ℕ) → (stack_at held s).pops < 2 ^ 63 → 0 < len_at held s → Fits (pop s (map_holdings f held))
    pop-fits s count some =
        let at = stack_at-map f held s in
        allowed-fit _ (top_of (items_at (map_holdings f held) s) (popped (map_holdings f held) s))
        (and_from _ _ (lt-ltb s (stack_count (map_holdings f held)) (subst (λ n. s < n) (sym (stack_count-map f held)) (there held.stacks s some)))
        (lt-ltb (stack_at (map_holdings f held) s).pops (2 ^ 63) (subst (λ stack. stack.pops < 2 ^ 63) (sym at) count)))
        (top-fits (items_at (map_holdings f held) s) (popped (map_holdings f held) s) (subst (λ n. 0 < n) (sym (len_at-map f held s)) some))

    push-fits : (s : ℕ) (it : VertexRecord) → s < stack_count held → (stack_at held s).pushes < 2 ^ 63 → 0 < held.out → Fits (push false s it (map_holdings f held))
    push-fits s it small count out =
        let at = stack_at-map f held s in
        allowed-fit _ _
        (and_from _ _ (and_from _ _ (lt-ltb s (stack_count (map_holdings f held)) (subst (λ n. s < n) (sym (stack_count-map f held)) small))
        (lt-ltb (stack_at (map_holdings f held) s).pushes (2 ^ 63) (subst (λ stack. stack.pushes < 2 ^ 63) (sym at) count))) (lt-ltb 0 held.out out)) refl

    goes-fits : (output : ℕ) (to : Option ℕ) (o : Option VertexRecord) → stack_or set output to < stack_count held → (stack_at held (stack_or set output to)).pushes < 2 ^ 63 → 0 < held.out
        → Fits (goes set output to o (desk f held family))
    goes-fits output to None small count out = and_then-fit (give_up (map_holdings f held)) _ (allowed-fit (nat_lt 0 held.out) _ (lt-ltb 0 held.out out) refl) (λ x. refl)
    goes-fits output to (Some it) small count out =
        and_then-fit (push false (stack_or set output to) it (map_holdings f held)) _ (push-fits (stack_or set output to) it small count out) (λ x. refl)

    comes-fits : (input : ℕ) (kind : Kind) (from : Option ℕ) → held.fresh < 2 ^ 63 → ((s : ℕ) → (stack_at held s).pops < 2 ^ 63) → IfSome (source_of input kind from) (λ s. 0 < len_at held s)
        → Fits (comes set input kind from (desk f held family))
    comes-fits input Hanging from fresh pops some = and_then-fit (lend (map_holdings f held)) _ (lend-fits fresh) (λ x. refl)
    comes-fits input Born None fresh pops some = and_then-fit (lend (map_holdings f held)) _ (lend-fits fresh) (λ x. refl)
    comes-fits input Born (Some s) fresh pops some = and_then-fit (pop s (map_holdings f held)) _ (pop-fits s (pops s) some) (λ x. refl)
    comes-fits input Kept None fresh pops some = and_then-fit (pop input (map_holdings f held)) _ (pop-fits input (pops input) some) (λ x. refl)
    comes-fits input Kept (Some s) fresh pops some = and_then-fit (pop s (map_holdings f held)) _ (pop-fits s (pops s) some) (λ x. refl)
    comes-fits input Dying None fresh pops some = and_then-fit (pop input (map_holdings f held)) _ (pop-fits input (pops input) some) (λ x. refl)
    comes-fits input Dying (Some s) fresh pops some = and_then-fit (pop s (map_holdings f held)) _ (pop-fits s (pops s) some) (λ x. refl)

    -- the load of a corner
    pub load_as-fits : (input : ℕ) (kind : Kind) (from : Option ℕ) (place : Place) → held.fresh < 2 ^ 63 → ((s : ℕ) → (stack_at held s).pops < 2 ^ 63)
        → IfSome (source_of input kind from) (λ s. 0 < len_at held s) → Fits (load_as set input kind from place (desk f held family))
    load_as-fits input kind from place fresh pops some =
        and_then-fit (comes set input kind from (desk f held family)) _ (comes-fits input kind from fresh pops some)
        (λ come. and_then-fit (load_touch set kind (is_none from) come.0 place come.1.family) _ (load-fits kind (is_none from) come.0 place come.1.family) (λ x. refl))

  -- the store of a corner
  pub store_as-fits : {X : Type 0} (f : X → VertexRecord) (held : Holdings X) (family : Family) (output : ℕ) (to : Option ℕ) (place : Place) (it : VertexRecord)
      → stack_or set output to < stack_count held → (stack_at held (stack_or set output to)).pushes < 2 ^ 63 → 0 < held.out
      → Fits (store_as set output to place it (desk f held family))
  store_as-fits f held family output to place it small count out =
      and_then-fit (store_of set it.kind (is_none to) place it family) _ (store-fits it.kind (is_none to) place it family)
      (λ after. goes-fits f held after.1 output to after.0 small count out)
