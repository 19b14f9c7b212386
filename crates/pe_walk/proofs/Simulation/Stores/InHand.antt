-- The record of a corner in hand that is stored: what it is, and what becomes of it.
use Rattle.std.proofs.Common.{◌≡◌, inl, ℕ, ◌+◌, ◌^◌, ◌<◌, Bool, true, false, not, ◌&&◌, ◌||◌, ◌==◌, Option, Some, None, refl, sym, ap, subst, ◌∙◌, arith}
use Rattle.std.proofs.lemmas.Bool.{or_right}
use Rattle.std.specs.Prelude.{is_none, nat_le, nat_lt}
use Rattle.std.specs.Option.{unwrap_or}
use Rattle.pe_base.specs.declared.place.Place.{Place}
use Rattle.pe_base.specs.declared.kind.Kind.{Kind}
use Rattle.pe_base.specs.declared.kind.Kind.TheVariants.{Hanging}
use Rattle.pe_base.specs.Tree.Places.{corner, is_same}
use Rattle.pe_base.specs.Life.Kinds.{is_hanging, is_inside}
use Rattle.pe_base.specs.Steps.Routes.{stack_out}
use Rattle.pe_base.specs.Acts.Effects.{VertexRecord}
use Rattle.pe_base.specs.Walk.Maps.{at}
use Rattle.pe_base.specs.Walk.Course.{Course, course_map}
use Rattle.pe_base.specs.Walk.Core.{Setting, way, store_of}
use Rattle.pe_base.specs.Walk.Working.{Working, no_vertex, loads_of, record_at, family_of}
use Rattle.pe_base.specs.Walk.Touches as model
use Rattle.pe_base.proofs.Walk.Slots.{is_hung}
use Rattle.pe_stacks.specs.Grid.{output_stack}
use Rattle.pe_order.specs.Laws.{IsCell}
use Rattle.pe_adapt.specs.CountedTouches.{is_placed}
use Rattle.pe_order.specs.Tokens.{Tokens}
use Rattle.pe_walk.specs.CoreKeeps.{IsStoredAlike, stays}
use Rattle.pe_walk.specs.Standing.{ForeseenStart, Stage, Holds, IsForeseenStart, IsStage, IsFair}
use Rattle.pe_walk.proofs.Simulation.LoadedKinds.{found_stored}
use Rattle.pe_walk.proofs.Simulation.Stores.Lasts.{lasts_agree}
use Rattle.pe_walk.proofs.Simulation.Stores.Goals.{goal_if, goal_of, waits_apart}
use Rattle.pe_walk.proofs.Simulation.Stores.Fates.{Fate, fate}

-- the store of the model, of a vertex of a kind, for the last time or not
abbrev pub stored_as_kind : {Plan : Type 0} → Setting Plan → Stage → ℕ → Working → Kind → Bool → Course Working
stored_as_kind set st k w kind last =
    course_map (λ after. model.after_store set kind last st.parent st.cell k after w)
    (store_of set kind last (corner set.axes st.cell k) (record_at set.axes w st.cell k) (family_of set.axes w st.parent))

abbrev pub stored_by : {Plan : Type 0} → Setting Plan → Stage → ℕ → Working → Bool → Course Working
stored_by set st k w last = stored_as_kind set st k w (record_at set.axes w st.cell k).kind last

-- The record hangs or counts; the model's last store is that of the order around the vertex; and what is left of it goes
-- where its place goes.
pub record InHand {Plan : Type 0} (set : Setting Plan) (e : ForeseenStart) (st : Stage) (k : ℕ) (w : Working) : Type 0 where
  pub kind : e.outlook.counts (corner set.axes st.cell k) ≡ not (is_hanging (record_at set.axes w st.cell k).kind)
  pub placed : is_placed set.axes (record_at set.axes w st.cell k).kind (corner set.axes st.cell k) ≡ true
  pub same : stored_by set st k w (loads_of w (corner set.axes st.cell k) == 2 ^ set.axes) ≡ stored_by set st k w (is_none (stack_out set.axes (way set) (corner set.axes st.cell k) st.cell))
  pub fate : (left : Option VertexRecord) → IsStoredAlike set (is_none (stack_out set.axes (way set) (corner set.axes st.cell k) st.cell)) (corner set.axes st.cell k) (record_at set.axes w st.cell k) left
      → Fate set e.foresight (output_stack e.outlook.swapped) (corner set.axes st.cell k) (stack_out set.axes (way set) (corner set.axes st.cell k) st.cell)
      (goal_of e.outlook set.axes (way set) (corner set.axes st.cell k) st.cell) left

module _ {Plan : Type 0} (set : Setting Plan) (e : ForeseenStart) (walked : Place → Bool) (is : IsForeseenStart set e walked) (st : Stage) (stage : IsStage set.axes e.outlook st) (w : Working) (t : Tokens) (h : Holds set e st w t)
    (k : ℕ) (from : st.from ≡ k) (below : k < 2 ^ set.axes) (deep : st.parent.level + 1 ≡ st.cell.level) where
  abbrev vertex : Place
  vertex = corner set.axes st.cell k

  abbrev it : VertexRecord
  it = record_at set.axes w st.cell k

  abbrev to : Option ℕ
  to = stack_out set.axes (way set) vertex st.cell

  -- a corner that hangs
  hangs : e.outlook.counts vertex ≡ false → InHand set e st k w
  hangs off = record {
    kind = off ∙ sym (ap (λ kind. not (is_hanging kind)) hanging);
    placed = ap (λ kind. is_hanging kind || is_inside set.axes vertex) hanging;
    same = ap (λ kind. stored_as_kind set st k w kind (loads_of w vertex == 2 ^ set.axes)) hanging ∙ sym (ap (λ kind. stored_as_kind set st k w kind (is_none to)) hanging);
    fate = λ left alike. subst (λ b. Fate set e.foresight (output_stack e.outlook.swapped) vertex to (goal_if b e.outlook set.axes (way set) vertex st.cell) left) (sym off) (given_up left alike);
  }
    where
      hanging : (record_at set.axes w st.cell k).kind ≡ Hanging
      hanging = (h.fair.mine k (omega (arith, from)) below off).kind

      given_up : (left : Option VertexRecord) → IsStoredAlike set (is_none to) vertex (record_at set.axes w st.cell k) left → Fate set e.foresight (output_stack e.outlook.swapped) vertex to None left
      given_up None alike = tt
      given_up (Some it) alike = absurd (let gone : false ≡ true = sym (ap (λ kind. stays kind (is_none to)) hanging) ∙ alike.0 in cc)

  -- a corner that counts is stored under its place
  pub counting_free : e.outlook.counts vertex ≡ true → is_hung w st.cell k ≡ false
  counting_free on = h.fair.flags st.cell k (omega (arith, deep)) ∙ ap (λ b. is_same st.cell st.cell && nat_le st.from k && nat_lt k (2 ^ set.axes) && not b) on ∙ never (is_same st.cell st.cell) (nat_le st.from k) (nat_lt k (2 ^ set.axes))
    where
      never : (a b c : Bool) → (a && b && c && false) ≡ false
      never true true true = refl
      never true true false = refl
      never true false c = refl
      never false b c = refl

  -- and is as foreseen
  counts : e.outlook.counts vertex ≡ true → InHand set e st k w
  counts on = record {
    kind = see ∙ sym (ap (λ kind. not (is_hanging kind)) foreseen);
    placed = or_right (is_hanging it.kind) (is_inside set.axes vertex) (is.foresees.inside vertex on).1;
    same = ap (stored_by set st k w) (lasts_agree set e walked is st w t stage h k (omega (arith, from)) below on);
    fate = λ left alike. subst (λ b. Fate set e.foresight (output_stack e.outlook.swapped) vertex to (goal_if b e.outlook set.axes (way set) vertex st.cell) left) (sym on)
        (fate set e.foresight (output_stack e.outlook.swapped) vertex it its to (e.outlook.writes vertex) left (sym see ∙ on) (is.foresees.writes vertex)
        (waits_apart set.axes (way set) st.cell k e.outlook.swapped is.foresees.dim (subst (λ u. IsCell set.axes u st.cell) is.foresees.ways stage.cell) below) alike);
  }
    where
      fair : IsFair e.foresight (set.rules.greatest set.plan) vertex (at w.vertices vertex)
      fair = h.fair.live vertex on (inl (h.stands.mine k (omega (arith, from)) below on).0)

      found : record_at set.axes w st.cell k ≡ fair.it
      found = found_stored set.axes w st.cell k (counting_free on) ∙ ap (λ x. unwrap_or x no_vertex) fair.there

      its : IsFair e.foresight (set.rules.greatest set.plan) vertex (Some (record_at set.axes w st.cell k))
      its = subst (λ x. IsFair e.foresight (set.rules.greatest set.plan) vertex x) (fair.there ∙ ap (λ (v : VertexRecord). Some v) (sym found)) fair

      foreseen : (record_at set.axes w st.cell k).kind ≡ e.foresight.kind vertex
      foreseen = ap (λ (v : VertexRecord). v.kind) found ∙ fair.kind

      see : e.outlook.counts vertex ≡ not (is_hanging (e.foresight.kind vertex))
      see = is.foresees.counts vertex

  pub in_hand : InHand set e st k w
  in_hand = go (e.outlook.counts vertex) refl
    where
      go : (b : Bool) → e.outlook.counts vertex ≡ b → InHand set e st k w
      go true on = counts on
      go false off = hangs off
