-- What becomes of a vertex that is stored: it waits on a stack, or is written, or is gone.
use Rattle.std.proofs.Common.{◌≡◌, ◌≢◌, ℕ, Bool, true, false, not, Option, Some, None, refl, sym, ap, subst, ◌∙◌}
use Rattle.std.specs.Prelude.{is_none}
use Rattle.pe_base.specs.declared.place.Place.{Place}
use Rattle.pe_base.specs.declared.state.State.TheVariants.{Unrefined}
use Rattle.pe_base.specs.declared.kind.Kind.{Kind}
use Rattle.pe_base.specs.declared.kind.Kind.TheVariants.{Kept, Born, Dying, Hanging}
use Rattle.pe_base.specs.Life.States.{is_new, is_stored}
use Rattle.pe_base.specs.Life.Table.{last_touch}
use Rattle.pe_base.specs.Life.Kinds.{is_hanging}
use Rattle.pe_base.specs.Acts.Effects.{VertexRecord}
use Rattle.pe_base.specs.Walk.Core.{Setting}
use Rattle.pe_base.proofs.Walk.TableLaws.{last_touch_settles}
use Rattle.pe_adapt.specs.Touches.{stack_or}
use Rattle.pe_order.specs.Tokens.{given, first_of}
use Rattle.pe_walk.specs.CoreKeeps.{IsFinest, IsAlike, IsStoredAlike, stays, stored_as}
use Rattle.pe_walk.specs.Standing.{Foresight, IsFair, IsWritten}
use Rattle.pe_walk.proofs.Simulation.Shared.{fair-alike}

-- what goes on a stack, by the machine as by the places: it waits there as foreseen, or was written there
pub record GoesOn {Plan : Type 0} (set : Setting Plan) (f : Foresight) (output : ℕ) (place : Place) (to : Option ℕ) (s : ℕ) (left : Option VertexRecord) : Type 0 where
  pub stack : stack_or set output to ≡ s
  pub waits : s ≢ output → IsFair f (set.rules.greatest set.plan) place left
  pub written : s ≡ output → IsWritten f (set.rules.greatest set.plan) place left

-- a vertex is left where its place goes on a stack, and none where it goes on none
abbrev pub Fate : {Plan : Type 0} → Setting Plan → Foresight → ℕ → Place → Option ℕ → Option ℕ → Option VertexRecord → Type 0
Fate set f output place to None None = Unit {0}
Fate set f output place to None (Some it) = ⊥
Fate set f output place to (Some s) None = ⊥
Fate set f output place to (Some s) (Some it) = GoesOn set f output place to s (Some it)

stays_on : (kind : Kind) → not (is_hanging kind) ≡ true → stays kind false ≡ true
stays_on Kept e = refl
stays_on Born e = refl
stays_on Dying e = refl
stays_on Hanging e = absurd cc

module _ {Plan : Type 0} (set : Setting Plan) (f : Foresight) (output : ℕ) (place : Place) (it : VertexRecord) (fair : IsFair f (set.rules.greatest set.plan) place (Some it)) where
  abbrev greatest : ℕ
  greatest = set.rules.greatest set.plan

  same : fair.it ≡ it
  same = cc (fair.there)

  finest : IsFinest greatest place.level it.state
  finest = subst (λ (v : VertexRecord). IsFinest greatest place.level v.state) same fair.finest

  -- the last touch of what stays turns new into old, and leaves it settled
  last-written : (kind : Kind) (before : VertexRecord) → is_stored kind ≡ true → last_touch Unrefined kind ≡ Unrefined → IsAlike greatest place.level it before → IsWritten f greatest place (Some (stored_as kind true before))
  last-written kind before stored unrefined alike =
      let table = last_touch_settles before.state kind stored in
      record {
        it = record before { state = last_touch before.state kind };
        there = refl;
        old = table.0 ∙ alike.new ∙ ap (λ (v : VertexRecord). is_new v.state) (sym same) ∙ fair.new;
        settled = table.1;
        finest = λ past. ap (λ state. last_touch state kind) (alike.finest finest past) ∙ unrefined;
      }

  -- by the kind of the vertex
  Stored : Kind → Bool → Option VertexRecord → Type 0
  Stored kind last None = stays kind last ≡ false
  Stored kind last (Some left) = (stays kind last ≡ true) × (before : VertexRecord) × IsAlike greatest place.level it before × (left ≡ stored_as kind last before)

  as_kind : (kind : Kind) (last : Bool) (left : Option VertexRecord) → it.kind ≡ kind → IsStoredAlike set last place it left → Stored kind last left
  unfolding Stored
  as_kind kind last None e h = ap (λ k. stays k last) (sym e) ∙ h
  as_kind kind last (Some left) e h = (ap (λ k. stays k last) (sym e) ∙ h.0, h.1, h.2, h.3 ∙ ap (λ k. stored_as k last h.1) e)

  written : (kind : Kind) (left : VertexRecord) → is_stored kind ≡ true → last_touch Unrefined kind ≡ Unrefined → Stored kind true (Some left) → GoesOn set f output place None output (Some left)
  unfolding Stored
  written kind left stored unrefined h = record {
    stack = refl;
    waits = λ other. absurd (other refl);
    written = λ e. subst (λ (v : VertexRecord). IsWritten f greatest place (Some v)) (sym h.3) (last-written kind h.1 stored unrefined h.2);
  }

  by_kind : (kind : Kind) (to : Option ℕ) (writes : Bool) (left : Option VertexRecord) → not (is_hanging kind) ≡ true → writes ≡ is_stored kind → ((s : ℕ) → to ≡ Some s → s ≢ output) → Stored kind (is_none to) left
      → Fate set f output place to (first_of to (given writes (Some output))) left
  unfolding Stored
  by_kind kind (Some s) writes None on goes away h = absurd (let on_it = stays_on kind on in cc)
  by_kind kind (Some s) writes (Some left) on goes away h = record {
    stack = refl;
    waits = λ other. subst (λ (v : VertexRecord). IsFair f greatest place (Some v)) (sym h.3) (fair-alike f greatest place (Some it) fair h.1 (subst (λ (v : VertexRecord). IsAlike greatest place.level v h.1) (sym same) h.2));
    written = λ e. absurd (away s refl e);
  }
  by_kind Kept None true None on goes away h = absurd cc
  by_kind Born None true None on goes away h = absurd cc
  by_kind Dying None true left on goes away h = absurd cc
  by_kind Hanging None writes left on goes away h = absurd cc
  by_kind Kept None true (Some left) on goes away h = written Kept left refl refl h
  by_kind Born None true (Some left) on goes away h = written Born left refl refl h
  by_kind Kept None false left on goes away h = absurd cc
  by_kind Born None false left on goes away h = absurd cc
  by_kind Dying None false None on goes away h = tt
  by_kind Dying None false (Some left) on goes away h = absurd (cc (h.0))

  -- a vertex that counts is left as foreseen where it goes
  pub fate : (to : Option ℕ) (writes : Bool) (left : Option VertexRecord) → not (is_hanging (f.kind place)) ≡ true → writes ≡ is_stored (f.kind place) → ((s : ℕ) → to ≡ Some s → s ≢ output) → IsStoredAlike set (is_none to) place it left
      → Fate set f output place to (first_of to (given writes (Some output))) left
  fate to writes left on goes away h = by_kind (f.kind place) to writes left on goes away (as_kind (f.kind place) (is_none to) left (ap (λ (v : VertexRecord). v.kind) (sym same) ∙ fair.kind) h)

-- by where the place went
pub fate-on : {Plan : Type 0} (set : Setting Plan) (f : Foresight) (output : ℕ) (place : Place) (to goal : Option ℕ) (left : Option VertexRecord) (s : ℕ) → goal ≡ Some s → Fate set f output place to goal left → GoesOn set f output place to s left
fate-on set f output place to None left s e h = absurd cc
fate-on set f output place to (Some r) None s e h = absurd h
fate-on set f output place to (Some r) (Some it) s e h = let is : r ≡ s = cc in subst (λ n. GoesOn set f output place to n (Some it)) is h

pub fate-off : {Plan : Type 0} (set : Setting Plan) (f : Foresight) (output : ℕ) (place : Place) (to goal : Option ℕ) (left : Option VertexRecord) → goal ≡ None → Fate set f output place to goal left → left ≡ None
fate-off set f output place to None None e h = refl
fate-off set f output place to None (Some it) e h = absurd h
fate-off set f output place to (Some s) left e h = absurd cc
