-- The store of a corner, by the way in which its record leaves the hand.
use Rattle.std.proofs.Common.{◌≡◌, ℕ, ◌+◌, arith, Bool, true, false, Option, Some, Result, Ok, Err, refl, sym, ap, subst, ◌∙◌}
use Rattle.std.specs.Prelude.{OnOk, OnErr, IfErr, is_none}
use Rattle.pe_base.specs.declared.place.Place.{Place}
use Rattle.pe_base.specs.declared.kind.Kind.{Kind}
use Rattle.pe_base.specs.declared.kind.Kind.TheVariants.{Kept, Born, Dying, Hanging}
use Rattle.pe_base.specs.declared.event.Event.TheVariants.{TouchVertexLastTime}
use Rattle.pe_base.specs.Acts.Effects.{VertexRecord}
use Rattle.pe_base.specs.Walk.Course.{Course, at_once, course_map, done, Push}
use Rattle.pe_base.specs.Walk.Core.{Setting, Family, store_of, store_touch, written, vertex_event}
use Rattle.pe_stacks.specs.Holdings.{Holdings, KeepsRoom, len_at, given_up, pushed}
use Rattle.pe_base.specs.Calls.Told.{Told, Adds}
use Rattle.pe_base.proofs.Calls.Texts.{adds-nothing, part-nothing}
use Rattle.pe_hang.specs.InHand.{map_holdings, nothing_of}
use Rattle.pe_hang.specs.Moves.{give_up, push, MayPush}
use Rattle.pe_base.specs.Calls.Follows.{Follows, Fits, Failure, BeforeCall, IsRoomier, HasOverfull, read_by}
use Rattle.pe_stacks.specs.RecordsOut.{held_by}
use Rattle.pe_base.proofs.Calls.Leading.{and_then-fits, follows-map, leads_start, leads_rest, leads_next, leads_err, leads_last}
use Rattle.pe_hang.proofs.Moving.{give_up-is, push-may, push-is}
use Rattle.pe_adapt.specs.declared.stop.Inner.{Inner}
use Rattle.pe_adapt.specs.declared.stop.Inner.TheVariants.{Memory as ForMemory}
use Rattle.pe_adapt.specs.Stops.{failure_of_halt}
use Rattle.pe_adapt.specs.Touches.{Desk, goes, stack_or, store_as}
use Rattle.pe_adapt.proofs.Loading.{desk}

-- the room of stacks of which one depot is looked at
abbrev pub seen_by : {X : Type 0} → Told → Bool → Holdings X → (ℕ → ℕ) → (ℕ → ℕ) → BeforeCall
seen_by told sure held room cells = record { told = told; sure = sure; vertices = held_by held room; cells = cells }

-- there was no room before either
pub room-kept : {X A E : Type 0} (held held' : Holdings X) (room room' : ℕ → ℕ) (s : ℕ) (result : Result A E)
    → KeepsRoom held room held' room' → held' ≡ held → OnErr result (room' s ≡ 0) → OnErr result (room s ≡ 0)
room-kept held held' room room' s (Ok a) keeps same none = none
room-kept held held' room room' s (Err e) keeps same none =
    let len = ap (λ h. len_at h s) same in
    omega (arith, keeps s, len, none)

-- a record is put on a stack, or there is no room
pub put-follows : {X : Type 0} (f : X → VertexRecord) (s : ℕ) (x : X) (held held' : Holdings X) (room cells : ℕ → ℕ) (told : Told) (sure : Bool) (at : Place) (result : Result (Unit {0}) Inner)
    → Fits (push false s (f x) (map_holdings f held)) → OnOk result (held' ≡ pushed held s x) → IfErr result (λ halt. halt ≡ ForMemory) → OnErr result (room s ≡ 0)
    → Follows (push false s (f x) (map_holdings f held)) (λ (u : Unit {0}). map_holdings f held') (read_by (failure_of_halt at) result) (seen_by told sure held room cells) told
put-follows f s x held held' room cells told sure at (Ok u) fits same memory full =
    let is = push-is f false s x held fits in
    record {
      ends = ap (λ course. course.ending) is ∙ ap (λ h. done (map_holdings f h)) (sym same);
      told = subst (λ text. Adds told text told) (sym (ap (λ course. course.text) is)) (adds-nothing told);
    }
put-follows f s x held held' room cells told sure at (Err halt) fits same memory full =
    let is = push-is f false s x held fits in
    let pushing : Push = record { of_cell = false; stack = s; length = len_at held s + 1 } in
    subst (λ h. Follows (push false s (f x) (map_holdings f held)) (λ (u : Unit {0}). map_holdings f held') (Err (failure_of_halt at h)) (seen_by told sure held room cells) told) (sym memory)
    (record {
      told = part-nothing told (push false s (f x) (map_holdings f held)).text;
      room = λ certain. subst (λ log. HasOverfull (seen_by told sure held room cells) log) (sym (ap (λ course. course.log) is))
          (pushing, (0, omega arith, refl), omega (arith, full));
    })

module _ {Plan X : Type 0} (f : X → VertexRecord) (set : Setting Plan) (output : ℕ) (to : Option ℕ) (place : Place) (held : Holdings X) (it : VertexRecord) (family : Family) where
  abbrev touch : Course (Option VertexRecord × Family)
  touch = store_touch set (is_none to) place it family

  abbrev leave : Option VertexRecord × Family → Course Desk
  leave after = goes set output to after.0 (desk f held after.1)

  abbrev stores : Course Desk
  stores = store_as set output to place it (desk f held family)

  -- a record is given up
  pub stored-nothing : {A E : Type 0} (held' : Holdings X) (family' : Family) (means : E → Failure) (result : Result A E) (found : BeforeCall) (new : Told)
      → Fits stores → OnOk result (held' ≡ given_up held) → Follows touch (λ (a : A). nothing_of family') (read_by means result) found new
      → Follows stores (λ (a : A). desk f held' family') (read_by means result) found new
  stored-nothing {A = A} held' family' means (Ok a) found new fits same is =
      let now : BeforeCall = record found { told = new } in
      let room : IsRoomier found now = record { sure = refl; vertices = λ s. omega arith; cells = λ s. omega arith } in
      let lead = leads_next touch leave (λ (b : A). nothing_of family') a now (leads_start stores found) is room in
      let gives = give_up-is f held (and_then-fits (give_up (map_holdings f held)) _ (leads_rest (leave (nothing_of family')) lead fits)) in
      leads_last (leave (nothing_of family')) (λ (b : A). desk f held' family') (Ok a) new lead
      (subst (λ course. Follows (course_map (λ vertices. record { vertices = vertices; family = family' }) course) (λ (b : A). desk f held' family') (Ok a) now new) (sym gives)
      (record { ends = ap (λ h. done (desk f h family')) (sym same); told = adds-nothing new }))
  stored-nothing {A = A} held' family' means (Err e) found new fits same is =
      leads_err touch leave (λ (b : A). nothing_of family') (λ (b : A). desk f held' family') (means e) new (leads_start stores found) is

  -- a touch that failed
  pub stored-failed : {A B : Type 0} (after : A → Option VertexRecord × Family) (after' : B → Desk) (failure : Failure) (found : BeforeCall) (new : Told)
      → Follows touch after (Err failure) found new → Follows stores after' (Err failure) found new
  stored-failed after after' failure found new is = leads_err touch leave after after' failure new (leads_start stores found) is

  -- a record is put on a stack: it may be
  pub stored-may : (x : X) (family' : Family) (found : BeforeCall) (new : Told)
      → Fits stores → Follows touch (λ (u : Unit {0}). (Some (f x), family')) (Ok tt) found new → MayPush held (stack_or set output to)
  stored-may x family' found new fits is =
      let now : BeforeCall = record found { told = new } in
      let room : IsRoomier found now = record { sure = refl; vertices = λ s. omega arith; cells = λ s. omega arith } in
      let lead = leads_next touch leave (λ (u : Unit {0}). (Some (f x), family')) tt now (leads_start stores found) is room in
      push-may f false (stack_or set output to) x held
      (and_then-fits (push false (stack_or set output to) (f x) (map_holdings f held)) _ (leads_rest (leave (Some (f x), family')) lead fits))

  -- and it is, or there is no room
  pub stored-put : (x : X) (held' : Holdings X) (family' : Family) (told new : Told) (sure : Bool) (room cells : ℕ → ℕ) (at : Place) (result : Result (Unit {0}) Inner)
      → Fits stores → Follows touch (λ (u : Unit {0}). (Some (f x), family')) (Ok tt) (seen_by told sure held room cells) new
      → OnOk result (held' ≡ pushed held (stack_or set output to) x) → IfErr result (λ halt. halt ≡ ForMemory) → OnErr result (room (stack_or set output to) ≡ 0)
      → Follows stores (λ (u : Unit {0}). desk f held' family') (read_by (failure_of_halt at) result) (seen_by told sure held room cells) new
  stored-put x held' family' told new sure room cells at result fits is same memory full =
      let now = seen_by new sure held room cells in
      let lead = leads_next touch leave (λ (u : Unit {0}). (Some (f x), family')) tt now (leads_start stores (seen_by told sure held room cells)) is
      (record { sure = refl; vertices = λ s. omega arith; cells = λ s. omega arith }) in
      let s = stack_or set output to in
      leads_last (leave (Some (f x), family')) (λ (u : Unit {0}). desk f held' family') (read_by (failure_of_halt at) result) new lead
      (follows-map (λ vertices. record { vertices = vertices; family = family' }) (push false s (f x) (map_holdings f held)) (λ (u : Unit {0}). map_holdings f held') (read_by (failure_of_halt at) result) now new
      (put-follows f s x held held' room cells new sure at result
      (and_then-fits (push false s (f x) (map_holdings f held)) _ (leads_rest (leave (Some (f x), family')) lead fits)) same memory full))

  -- a vertex that goes on
  waits : (kind : Kind) → it.kind ≡ kind → (kind ≡ Hanging → ⊥) → is_none to ≡ false → touch ≡ at_once (Some it, family)
  waits Kept is hangs on = ap (λ k. store_of set k (is_none to) place it family) is ∙ ap (λ l. store_of set Kept l place it family) on
  waits Born is hangs on = ap (λ k. store_of set k (is_none to) place it family) is ∙ ap (λ l. store_of set Born l place it family) on
  waits Dying is hangs on = ap (λ k. store_of set k (is_none to) place it family) is ∙ ap (λ l. store_of set Dying l place it family) on
  waits Hanging is hangs on = absurd (hangs refl)

  pub touch-waiting : (kind : Kind) (found : BeforeCall) → it.kind ≡ kind → (kind ≡ Hanging → ⊥) → is_none to ≡ false
      → Follows touch (λ (u : Unit {0}). (Some it, family)) (Ok tt) found found.told
  touch-waiting kind found is hangs on =
      let course = waits kind is hangs on in
      record {
        ends = ap (λ c. c.ending) course;
        told = subst (λ text. Adds found.told text found.told) (sym (ap (λ c. c.text) course)) (adds-nothing found.told);
      }

  -- a last touch of a vertex that stays
  last-is : (kind : Kind) → it.kind ≡ kind → (kind ≡ Hanging → ⊥) → (kind ≡ Dying → ⊥) → is_none to ≡ true
      → touch ≡ course_map (written set kind) (vertex_event set TouchVertexLastTime place (it, family))
  last-is Kept is hangs dies last = ap (λ k. store_of set k (is_none to) place it family) is ∙ ap (λ l. store_of set Kept l place it family) last
  last-is Born is hangs dies last = ap (λ k. store_of set k (is_none to) place it family) is ∙ ap (λ l. store_of set Born l place it family) last
  last-is Dying is hangs dies last = absurd (dies refl)
  last-is Hanging is hangs dies last = absurd (hangs refl)

  pub touch-last : {A : Type 0} (kind : Kind) (after : A → VertexRecord × Family) (answer : Result A Failure) (found : BeforeCall) (new : Told)
      → it.kind ≡ kind → (kind ≡ Hanging → ⊥) → (kind ≡ Dying → ⊥) → is_none to ≡ true
      → Follows (vertex_event set TouchVertexLastTime place (it, family)) after answer found new
      → Follows touch (λ a. written set kind (after a)) answer found new
  touch-last kind after answer found new is hangs dies last fired =
      subst (λ course. Follows course (λ a. written set kind (after a)) answer found new) (sym (last-is kind is hangs dies last))
      (follows-map (written set kind) (vertex_event set TouchVertexLastTime place (it, family)) after answer found new fired)

  -- it is put on a stack then
  pub touch-stays : (kind : Kind) (v x : X) (family' : Family) (found : BeforeCall) (new : Told)
      → (let after : Option VertexRecord × Family = (Some (f x), family') in after) ≡ written set kind (f v, family')
      → it.kind ≡ kind → (kind ≡ Hanging → ⊥) → (kind ≡ Dying → ⊥) → is_none to ≡ true
      → Follows (vertex_event set TouchVertexLastTime place (it, family)) (λ (w : X). (f w, family')) (Ok v) found new
      → Follows touch (λ (u : Unit {0}). (Some (f x), family')) (Ok tt) found new
  touch-stays kind v x family' found new same is hangs dies last fired =
      let is' = touch-last kind (λ (w : X). (f w, family')) (Ok v) found new is hangs dies last fired in
      record { ends = is'.ends ∙ ap done (sym same); told = is'.told }

  -- the touch of a kind that is known
  pub touch-of : {A : Type 0} (kind : Kind) (last : Bool) (after : A → Option VertexRecord × Family) (answer : Result A Failure) (found : BeforeCall) (new : Told)
      → it.kind ≡ kind → is_none to ≡ last → Follows (store_of set kind last place it family) after answer found new → Follows touch after answer found new
  touch-of kind last after answer found new is_kind is_last is =
      subst (λ course. Follows course after answer found new)
      (sym (ap (λ k. store_of set k (is_none to) place it family) is_kind ∙ ap (λ l. store_of set kind l place it family) is_last)) is
