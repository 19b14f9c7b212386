-- The load of a corner, by the way in which its record comes to hand.
use Rattle.std.proofs.Common.{◌≡◌, ℕ, ◌<◌, length, arith, true, false, List, [], ◌∷◌, Option, Some, None, Result, Ok, Err, refl, sym, ap, subst, ◌∙◌}
use Rattle.std.specs.Prelude.{OnOk, is_none, slice_get}
use Rattle.pe_base.specs.declared.place.Place.{Place}
use Rattle.pe_base.specs.declared.kind.Kind.{Kind}
use Rattle.pe_base.specs.declared.kind.Kind.TheVariants.{Kept, Born, Dying, Hanging}
use Rattle.pe_base.specs.declared.event.Event.TheVariants.{TouchVertexFirstTime}
use Rattle.pe_base.specs.Acts.Effects.{VertexRecord}
use Rattle.pe_base.specs.Walk.Course.{Course, at_once, course_map}
use Rattle.pe_base.specs.Walk.Core.{Setting, Family, load_touch, read_vertex, vertex_event}
use Rattle.pe_base.specs.Walk.Working.{no_vertex}
use Rattle.pe_stacks.specs.Holdings.{Holdings, items_at, lent, popped}
use Rattle.pe_base.specs.Calls.Told.{Told, Adds}
use Rattle.pe_base.proofs.Calls.Texts.{adds-nothing}
use Rattle.pe_hang.specs.InHand.{map_holdings}
use Rattle.pe_hang.specs.Moves.{lend, pop, MayPop}
use Rattle.pe_base.specs.Calls.Follows.{Follows, Fits, Failure, unwritten, BeforeCall, read_by}
use Rattle.pe_base.proofs.Calls.Leading.{and_then-fits, follows-map, follows-behind}
use Rattle.pe_hang.proofs.Moving.{lend-is, pop-may, pop-is}
use Rattle.pe_adapt.specs.Touches.{Desk, comes, load_as, lent_vertex, popped_vertex}

abbrev pub desk : {X : Type 0} → (X → VertexRecord) → Holdings X → Family → Desk
desk f held family = record { vertices = map_holdings f held; family = family }

module _ {Plan X : Type 0} (f : X → VertexRecord) (set : Setting Plan) (input : ℕ) (place : Place) (held : Holdings X) (family : Family) where
  -- a record that was lent
  lent-is : Fits (lent_vertex set (desk f held family)) → lent_vertex set (desk f held family) ≡ at_once (no_vertex, desk f (lent held) family)
  lent-is fits =
      ap (λ course. course_map (λ vertices. (no_vertex, record { vertices = vertices; family = family })) course)
      (lend-is f held (and_then-fits (lend (map_holdings f held)) _ fits))

  -- a record that was popped
  popped-is : (s : ℕ) (x : X) → Fits (popped_vertex set s (desk f held family)) → slice_get (items_at held s) 0 ≡ Some x
      → popped_vertex set s (desk f held family) ≡ at_once (f x, desk f (popped held s) family)
  popped-is s x fits top =
      ap (λ course. course_map (λ it. (it.0, record { vertices = it.1; family = family })) course)
      (pop-is f held s x (and_then-fits (pop s (map_holdings f held)) _ fits) top)

  abbrev loads : Kind → Option ℕ → Course (VertexRecord × Desk)
  loads kind from = load_as set input kind from place (desk f held family)

  -- what the desk is in the end
  with_held : {A E : Type 0} (kind : Kind) (from : Option ℕ) (held' held'' : Holdings X) (after : A → VertexRecord × Family) (means : E → Failure) (result : Result A E) (found : BeforeCall) (new : Told)
      → OnOk result (held' ≡ held'')
      → Follows (loads kind from) (λ a. ((after a).0, desk f held'' (after a).1)) (read_by means result) found new
      → Follows (loads kind from) (λ a. ((after a).0, desk f held' (after a).1)) (read_by means result) found new
  with_held {A = A} kind from held' held'' after means (Ok a) found new same is =
      subst (λ h. Follows (loads kind from) (λ (b : A). ((after b).0, desk f h (after b).1)) (Ok a) found new) (sym same) is
  with_held kind from held' held'' after means (Err e) found new same is = is

  -- what comes is loaded
  loaded : {A E : Type 0} (kind : Kind) (from : Option ℕ) (held' held'' : Holdings X) (x : VertexRecord) (after : A → VertexRecord × Family) (means : E → Failure) (result : Result A E) (found : BeforeCall) (new : Told)
      → comes set input kind from (desk f held family) ≡ at_once (x, desk f held'' family) → OnOk result (held' ≡ held'')
      → Follows (load_touch set kind (is_none from) x place family) after (read_by means result) found new
      → Follows (loads kind from) (λ a. ((after a).0, desk f held' (after a).1)) (read_by means result) found new
  loaded kind from held' held'' x after means result found new come same is =
      with_held kind from held' held'' after means result found new same
      (follows-behind (comes set input kind from (desk f held family))
      (λ come. course_map (λ it. (it.0, record come.1 { family = it.1 })) (load_touch set kind (is_none from) come.0 place come.1.family))
      (x, desk f held'' family) (λ a. ((after a).0, desk f held'' (after a).1)) (read_by means result) found new
      (ap (λ course. course.ending) come) (ap (λ course. course.text) come)
      (follows-map (λ it. (it.0, desk f held'' it.1)) (load_touch set kind (is_none from) x place family) after (read_by means result) found new is))

  -- a hanging vertex
  pub loaded-hanging : {A E : Type 0} (kind : Kind) (from : Option ℕ) (held' : Holdings X) (after : A → VertexRecord × Family) (means : E → Failure) (result : Result A E) (found : BeforeCall) (new : Told)
      → kind ≡ Hanging → Fits (loads kind from) → OnOk result (held' ≡ lent held)
      → Follows (load_touch set Hanging (is_none from) no_vertex place family) after (read_by means result) found new
      → Follows (loads kind from) (λ a. ((after a).0, desk f held' (after a).1)) (read_by means result) found new
  loaded-hanging kind from held' after means result found new hangs fits same is =
      subst (λ k. Follows (loads k from) (λ a. ((after a).0, desk f held' (after a).1)) (read_by means result) found new) (sym hangs)
      (loaded Hanging from held' (lent held) no_vertex after means result found new
      (lent-is (and_then-fits (lent_vertex set (desk f held family)) _ (subst (λ k. Fits (loads k from)) hangs fits))) same is)

  -- one that is born
  pub loaded-born : {A E : Type 0} (kind : Kind) (from : Option ℕ) (held' : Holdings X) (after : A → VertexRecord × Family) (means : E → Failure) (result : Result A E) (found : BeforeCall) (new : Told)
      → kind ≡ Born → from ≡ None → Fits (loads kind from) → OnOk result (held' ≡ lent held)
      → Follows (load_touch set Born true no_vertex place family) after (read_by means result) found new
      → Follows (loads kind from) (λ a. ((after a).0, desk f held' (after a).1)) (read_by means result) found new
  loaded-born kind from held' after means result found new born first fits same is =
      subst (λ k. Follows (loads k from) (λ a. ((after a).0, desk f held' (after a).1)) (read_by means result) found new) (sym born)
      (subst (λ o. Follows (loads Born o) (λ a. ((after a).0, desk f held' (after a).1)) (read_by means result) found new) (sym first)
      (loaded Born None held' (lent held) no_vertex after means result found new
      (lent-is (and_then-fits (lent_vertex set (desk f held family)) _ (subst (λ o. Fits (loads Born o)) first (subst (λ k. Fits (loads k from)) born fits)))) same is))

  comes-stored : (kind : Kind) → (kind ≡ Hanging → ⊥) → (kind ≡ Born → ⊥) → comes set input kind None (desk f held family) ≡ popped_vertex set input (desk f held family)
  comes-stored Kept hangs born = refl
  comes-stored Born hangs born = absurd (born refl)
  comes-stored Dying hangs born = refl
  comes-stored Hanging hangs born = absurd (hangs refl)

  touch-stored : (kind : Kind) (x : VertexRecord) → (kind ≡ Hanging → ⊥) → (kind ≡ Born → ⊥)
      → load_touch set kind true x place family ≡ vertex_event set TouchVertexFirstTime place (read_vertex set kind x, family)
  touch-stored Kept x hangs born = refl
  touch-stored Born x hangs born = absurd (born refl)
  touch-stored Dying x hangs born = refl
  touch-stored Hanging x hangs born = absurd (hangs refl)

  -- one that was stored
  pub loaded-stored : {A E : Type 0} (kind : Kind) (from : Option ℕ) (held' : Holdings X) (x : X) (after : A → VertexRecord × Family) (means : E → Failure) (result : Result A E) (found : BeforeCall) (new : Told)
      → (kind ≡ Hanging → ⊥) → (kind ≡ Born → ⊥) → from ≡ None → Fits (loads kind from) → OnOk result (held' ≡ popped held input) → slice_get (items_at held input) 0 ≡ Some x
      → Follows (vertex_event set TouchVertexFirstTime place (read_vertex set kind (f x), family)) after (read_by means result) found new
      → Follows (loads kind from) (λ a. ((after a).0, desk f held' (after a).1)) (read_by means result) found new
  loaded-stored kind from held' x after means result found new hangs born first fits same top is =
      let come = comes-stored kind hangs born in
      subst (λ o. Follows (loads kind o) (λ a. ((after a).0, desk f held' (after a).1)) (read_by means result) found new) (sym first)
      (loaded kind None held' (popped held input) (f x) after means result found new
      (come ∙ popped-is input x (subst Fits come (and_then-fits (comes set input kind None (desk f held family)) _ (subst (λ o. Fits (loads kind o)) first fits))) top)
      same
      (subst (λ course. Follows course after (read_by means result) found new) (sym (touch-stored kind (f x) hangs born)) is))

  top : (xs : List X) → 0 < length xs → (x : X) × (slice_get xs 0 ≡ Some x)
  top [] some = absurd (omega arith)
  top (x ∷ xs) some = (x, refl)

  -- it is there
  pub stored-top : (kind : Kind) (from : Option ℕ) → (kind ≡ Hanging → ⊥) → (kind ≡ Born → ⊥) → from ≡ None → Fits (loads kind from)
      → (x : X) × (slice_get (items_at held input) 0 ≡ Some x)
  stored-top kind from hangs born first fits =
      let come = comes-stored kind hangs born in
      let pops = and_then-fits (pop input (map_holdings f held)) _ (subst Fits come (and_then-fits (comes set input kind None (desk f held family)) _ (subst (λ o. Fits (loads kind o)) first fits))) in
      top (items_at held input) (pop-may f held input pops).full

  comes-waiting : (kind : Kind) (s : ℕ) → (kind ≡ Hanging → ⊥) → comes set input kind (Some s) (desk f held family) ≡ popped_vertex set s (desk f held family)
  comes-waiting Kept s hangs = refl
  comes-waiting Born s hangs = refl
  comes-waiting Dying s hangs = refl
  comes-waiting Hanging s hangs = absurd (hangs refl)

  touch-waiting : (kind : Kind) (x : VertexRecord) → (kind ≡ Hanging → ⊥) → load_touch set kind false x place family ≡ at_once (x, family)
  touch-waiting Kept x hangs = refl
  touch-waiting Born x hangs = refl
  touch-waiting Dying x hangs = refl
  touch-waiting Hanging x hangs = absurd (hangs refl)

  -- it waits there
  pub waiting-may : (kind : Kind) (from : Option ℕ) (s : ℕ) → (kind ≡ Hanging → ⊥) → from ≡ Some s → Fits (loads kind from) → MayPop held s
  waiting-may kind from s hangs waits fits =
      let come = comes-waiting kind s hangs in
      pop-may f held s
      (and_then-fits (pop s (map_holdings f held)) _
      (subst Fits come (and_then-fits (comes set input kind (Some s) (desk f held family)) _ (subst (λ o. Fits (loads kind o)) waits fits))))

  -- one that waits on a stack
  pub loaded-waiting : (kind : Kind) (from : Option ℕ) (s : ℕ) (held' : Holdings X) (x : X) (found : BeforeCall)
      → (kind ≡ Hanging → ⊥) → from ≡ Some s → Fits (loads kind from) → held' ≡ popped held s → slice_get (items_at held s) 0 ≡ Some x
      → Follows (loads kind from) (λ (v : X). (f v, desk f held' family)) (Ok x) found found.told
  loaded-waiting kind from s held' x found hangs waits fits same top =
      let come = comes-waiting kind s hangs in
      subst (λ o. Follows (loads kind o) (λ (v : X). (f v, desk f held' family)) (Ok x) found found.told) (sym waits)
      (loaded {A = X} {E = Unit {0}} kind (Some s) held' (popped held s) (f x) (λ v. (f v, family)) (λ e. unwritten) (Ok x) found found.told
      (come ∙ popped-is s x (subst Fits come (and_then-fits (comes set input kind (Some s) (desk f held family)) _ (subst (λ o. Fits (loads kind o)) waits fits))) top)
      same
      (let course : load_touch set kind false (f x) place family ≡ at_once (f x, family) = touch-waiting kind (f x) hangs in
      record {
        ends = ap (λ course. course.ending) course;
        told = subst (λ text. Adds found.told text found.told) (sym (ap (λ course. course.text) course)) (adds-nothing found.told);
      }))
