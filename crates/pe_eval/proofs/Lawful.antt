-- What a body may leave: numbers and triggers alone.
use Rattle.std.proofs.Common.{◌≡◌, ◌∙◌, sym, subst, ℕ, zero, suc, ◌-◌, inl, inr, List, [], ◌∷◌, ◌&&◌, refl, ap, Option, Some, None, Bool, true, false, cond, nat_lt, ℤ, slice_get, slice_set}
use Rattle.std.specs.Prelude.{option_map}
use Rattle.std.specs.Option.{option_map_or}
use Rattle.pe_base.specs.declared.state.State.{State}
use Rattle.pe_base.specs.declared.state.State.TheVariants.{Unrefined, RefinementTriggered, Refining, Refined, EraseTriggered, Erasing}
use Rattle.pe_base.specs.declared.kind.Kind.{Kind}
use Rattle.pe_base.specs.declared.kind.Kind.TheVariants.{Kept, Born, Dying, Hanging}
use Rattle.pe_base.specs.Life.States.{refined_state, erased_state, is_stored}
use Rattle.pe_base.specs.Acts.Effects.{SeenVertex, Seen, MayBecome, IsTriggered, AreTriggered, IsTriggeredIfAny, AreBoth, MayLeave}
use Rattle.pe_base.proofs.Lawful.{triggered_same, all_triggered_same, any_triggered_same, both_same, leaves_same}
use Rattle.pe_parse.specs.declared.tree.Trigger.{Trigger}
use Rattle.pe_parse.specs.declared.tree.Trigger.TheVariants.{Refine, Erase}
use Rattle.pe_check.specs.declared.checked.VertexName.{VertexName}
use Rattle.pe_check.specs.declared.checked.VertexName.TheVariants.{Own, Corner, ParentCorner}
use Rattle.pe_check.specs.declared.checked.Slot.{Slot}
use Rattle.pe_check.specs.declared.checked.Slot.TheVariants as slot
use Rattle.pe_eval.specs.Meaning.{changed_at, with_vertex, with_field, with_number, with_trigger, triggered, level_of}

-- asked again, a vertex stays
refined_state-refined : (level greatest : ℕ) (kind : Kind) (state : State) → refined_state level greatest kind (refined_state level greatest kind state) ≡ refined_state level greatest kind state
refined_state-refined level greatest kind Unrefined = either (is_stored kind && nat_lt level greatest) refl
  where
    either : (b : Bool) → (is_stored kind && nat_lt level greatest) ≡ b → refined_state level greatest kind (cond b RefinementTriggered Unrefined) ≡ cond b RefinementTriggered Unrefined
    either true is = refl
    either false is = ap (λ b. cond b RefinementTriggered Unrefined) is
refined_state-refined level greatest kind RefinementTriggered = refl
refined_state-refined level greatest kind Refining = refl
refined_state-refined level greatest kind Refined = refl
refined_state-refined level greatest kind EraseTriggered = refl
refined_state-refined level greatest kind Erasing = refl

erased_state-erased : (kind : Kind) (state : State) → erased_state kind (erased_state kind state) ≡ erased_state kind state
erased_state-erased Kept Unrefined = refl
erased_state-erased Kept RefinementTriggered = refl
erased_state-erased Kept Refining = refl
erased_state-erased Kept Refined = refl
erased_state-erased Kept EraseTriggered = refl
erased_state-erased Kept Erasing = refl
erased_state-erased Born state = refl
erased_state-erased Dying state = refl
erased_state-erased Hanging state = refl

-- asked to erase after it was asked to refine
refined_then_erased : (level greatest : ℕ) (kind : Kind) (state : State) → MayBecome greatest level kind state (erased_state kind (refined_state level greatest kind state))
refined_then_erased level greatest Kept Unrefined = inr (inl (either (nat_lt level greatest)))
  where
    either : (b : Bool) → erased_state Kept (cond b RefinementTriggered Unrefined) ≡ cond b RefinementTriggered Unrefined
    either true = refl
    either false = refl
refined_then_erased level greatest Kept RefinementTriggered = inl refl
refined_then_erased level greatest Kept Refining = inl refl
refined_then_erased level greatest Kept Refined = inr (inr refl)
refined_then_erased level greatest Kept EraseTriggered = inl refl
refined_then_erased level greatest Kept Erasing = inl refl
refined_then_erased level greatest Born state = inr (inl refl)
refined_then_erased level greatest Dying state = inr (inl refl)
refined_then_erased level greatest Hanging state = inr (inl refl)

erased_then_refined : (level greatest : ℕ) (kind : Kind) (state : State) → MayBecome greatest level kind state (refined_state level greatest kind (erased_state kind state))
erased_then_refined level greatest Kept Unrefined = inr (inl refl)
erased_then_refined level greatest Kept RefinementTriggered = inl refl
erased_then_refined level greatest Kept Refining = inl refl
erased_then_refined level greatest Kept Refined = inr (inr refl)
erased_then_refined level greatest Kept EraseTriggered = inl refl
erased_then_refined level greatest Kept Erasing = inl refl
erased_then_refined level greatest Born state = inr (inl refl)
erased_then_refined level greatest Dying state = inr (inl refl)
erased_then_refined level greatest Hanging state = inr (inl refl)

module _ (greatest level : ℕ) where
  module _ (kind : Kind) (first : State) where
    refined_on : (state : State) → MayBecome greatest level kind first state → MayBecome greatest level kind first (refined_state level greatest kind state)
    refined_on state (inl is) = inr (inl (ap (refined_state level greatest kind) is))
    refined_on state (inr (inl is)) = inr (inl (ap (refined_state level greatest kind) is ∙ refined_state-refined level greatest kind first))
    refined_on state (inr (inr is)) = let P : State → Type 0 = λ s. MayBecome greatest level kind first (refined_state level greatest kind s) in subst P (sym is) (erased_then_refined level greatest kind first)

    erased_on : (state : State) → MayBecome greatest level kind first state → MayBecome greatest level kind first (erased_state kind state)
    erased_on state (inl is) = inr (inr (ap (erased_state kind) is))
    erased_on state (inr (inl is)) = let P : State → Type 0 = λ s. MayBecome greatest level kind first (erased_state kind s) in subst P (sym is) (refined_then_erased level greatest kind first)
    erased_on state (inr (inr is)) = inr (inr (ap (erased_state kind) is ∙ erased_state-erased kind first))

    becomes : (second third : State) → MayBecome greatest level kind first second → MayBecome greatest level kind second third → MayBecome greatest level kind first third
    becomes second third before (inl is) = let P : State → Type 0 = λ s. MayBecome greatest level kind first s in subst P (sym is) before
    becomes second third before (inr (inl is)) = let P : State → Type 0 = λ s. MayBecome greatest level kind first s in subst P (sym is) (refined_on second before)
    becomes second third before (inr (inr is)) = let P : State → Type 0 = λ s. MayBecome greatest level kind first s in subst P (sym is) (erased_on second before)

  triggered-then : (first second third : SeenVertex) → IsTriggered greatest level first second → IsTriggered greatest level second third → IsTriggered greatest level first third
  triggered-then first second third a b =
      let P : Kind → Type 0 = λ kind. MayBecome greatest level kind second.state third.state in
      record { kind = b.kind ∙ a.kind; state = becomes first.kind first.state second.state third.state a.state (subst P a.kind b.state) }

  all_triggered-then : (first second third : List SeenVertex) → AreTriggered greatest level first second → AreTriggered greatest level second third → AreTriggered greatest level first third
  all_triggered-then [] [] [] a b = tt
  all_triggered-then [] [] (z ∷ zs) a b = b
  all_triggered-then [] (y ∷ ys) third a b = absurd a
  all_triggered-then (x ∷ xs) [] third a b = absurd a
  all_triggered-then (x ∷ xs) (y ∷ ys) [] a b = absurd b
  all_triggered-then (x ∷ xs) (y ∷ ys) (z ∷ zs) a b = (triggered-then x y z a.0 b.0, all_triggered-then xs ys zs a.1 b.1)

  if_any-then : (first second third : Option SeenVertex) → IsTriggeredIfAny greatest level first second → IsTriggeredIfAny greatest level second third → IsTriggeredIfAny greatest level first third
  if_any-then None None None a b = tt
  if_any-then None None (Some z) a b = b
  if_any-then None (Some y) third a b = absurd a
  if_any-then (Some x) None third a b = absurd a
  if_any-then (Some x) (Some y) None a b = absurd b
  if_any-then (Some x) (Some y) (Some z) a b = triggered-then x y z a b

  -- a change that triggers at most, of one among many
  all_triggered-changed : (change : SeenVertex → SeenVertex) → ((it : SeenVertex) → IsTriggered greatest level it (change it)) → (k : ℕ) (them : List SeenVertex) → AreTriggered greatest level them (changed_at k change them)
  all_triggered-changed change each k [] = tt
  all_triggered-changed change each zero (it ∷ them) = (each it, all_triggered_same greatest level them)
  all_triggered-changed change each (suc k) (it ∷ them) = behind_first (slice_get them k) (all_triggered-changed change each k them)
    where
      behind_first : (found : Option SeenVertex) → AreTriggered greatest level them (option_map_or (λ x. slice_set them k (change x)) found them)
          → AreTriggered greatest level (it ∷ them) (option_map_or (λ x. it ∷ slice_set them k (change x)) found (it ∷ them))
      behind_first None rest = (triggered_same greatest level it, rest)
      behind_first (Some x) rest = (triggered_same greatest level it, rest)

both-then : {X : Type 0} (first second third : Option X) → AreBoth first second → AreBoth second third → AreBoth first third
both-then None None None a b = tt
both-then None None (Some z) a b = b
both-then None (Some y) third a b = absurd a
both-then (Some x) None third a b = absurd a
both-then (Some x) (Some y) None a b = absurd b
both-then (Some x) (Some y) (Some z) a b = tt

module _ (greatest : ℕ) where
  -- one after another
  pub lawful-then : (first second third : Seen) → MayLeave greatest first second → MayLeave greatest second third → MayLeave greatest first third
  lawful-then first second third a b =
      let V : ℕ → Type 0 = λ level. IsTriggeredIfAny greatest level second.vertex third.vertex in
      let C : ℕ → Type 0 = λ level. AreTriggered greatest level second.corners third.corners in
      let P : ℕ → Type 0 = λ level. AreTriggered greatest (level - 1) second.parents third.parents in
      let level : second.place.level ≡ first.place.level = ap (λ place. place.level) a.place in
      record {
        place = b.place ∙ a.place;
        vertex = if_any-then greatest first.place.level first.vertex second.vertex third.vertex a.vertex (subst V level b.vertex);
        cell = both-then first.cell second.cell third.cell a.cell b.cell;
        corners = all_triggered-then greatest first.place.level first.corners second.corners third.corners a.corners (subst C level b.corners);
        parents = all_triggered-then greatest (first.place.level - 1) first.parents second.parents third.parents a.parents (subst P level b.parents);
      }

  -- a vertex is changed by a change that triggers at most
  lawful-vertex : (change : SeenVertex → SeenVertex) (name : VertexName) (seen : Seen) → ((it : SeenVertex) → IsTriggered greatest (level_of name seen) it (change it)) → MayLeave greatest seen (with_vertex name change seen)
  lawful-vertex change Own seen each = record {
    place = refl;
    vertex = of_any seen.vertex;
    cell = both_same seen.cell;
    corners = all_triggered_same greatest seen.place.level seen.corners;
    parents = all_triggered_same greatest (seen.place.level - 1) seen.parents;
  }
    where
      of_any : (it : Option SeenVertex) → IsTriggeredIfAny greatest seen.place.level it (option_map change it)
      of_any None = tt
      of_any (Some it) = each it
  lawful-vertex change (Corner k) seen each = record {
    place = refl;
    vertex = any_triggered_same greatest seen.place.level seen.vertex;
    cell = both_same seen.cell;
    corners = all_triggered-changed greatest seen.place.level change each k seen.corners;
    parents = all_triggered_same greatest (seen.place.level - 1) seen.parents;
  }
  lawful-vertex change (ParentCorner k) seen each = record {
    place = refl;
    vertex = any_triggered_same greatest seen.place.level seen.vertex;
    cell = both_same seen.cell;
    corners = all_triggered_same greatest seen.place.level seen.corners;
    parents = all_triggered-changed greatest (seen.place.level - 1) change each k seen.parents;
  }

  -- a number is set
  pub lawful-number : (slot : Slot) (n : ℤ) (seen : Seen) → MayLeave greatest seen (with_number slot n seen)
  lawful-number (slot.Global field) n seen = leaves_same greatest seen
  lawful-number (slot.Vertex name field) n seen = lawful-vertex (with_field field n) name seen (λ it. record { kind = refl; state = inl refl })
  lawful-number (slot.Cell field) n seen = record {
    place = refl;
    vertex = any_triggered_same greatest seen.place.level seen.vertex;
    cell = of_any seen.cell;
    corners = all_triggered_same greatest seen.place.level seen.corners;
    parents = all_triggered_same greatest (seen.place.level - 1) seen.parents;
  }
    where
      of_any : (it : Option (List ℤ)) → AreBoth it (option_map (λ numbers. slice_set numbers field n) it)
      of_any None = tt
      of_any (Some numbers) = tt
  lawful-number (slot.Parent field) n seen = record {
    place = refl;
    vertex = any_triggered_same greatest seen.place.level seen.vertex;
    cell = both_same seen.cell;
    corners = all_triggered_same greatest seen.place.level seen.corners;
    parents = all_triggered_same greatest (seen.place.level - 1) seen.parents;
  }

  -- a vertex is asked to refine or to erase
  pub lawful-trigger : (trigger : Trigger) (name : VertexName) (seen : Seen) → MayLeave greatest seen (triggered trigger greatest name seen)
  lawful-trigger Refine name seen = lawful-vertex (with_trigger Refine (level_of name seen) greatest) name seen (λ it. record { kind = refl; state = inr (inl refl) })
  lawful-trigger Erase name seen = lawful-vertex (with_trigger Erase (level_of name seen) greatest) name seen (λ it. record { kind = refl; state = inr (inr refl) })
