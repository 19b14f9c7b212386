-- What the core keeps of the records in hand: kinds, and old and new.
use Rattle.std.proofs.Common.{◌≡◌, ℕ, ℤ, suc, ◌-◌, ◌≤◌, Bool, true, false, ◌&&◌, List, [], ◌∷◌, length, Option, Some, None, refl, sym, ap, subst, ◌∙◌, inl, inr}
use Rattle.std.specs.Prelude.{nat_lt, if◌then◌else◌}
use Rattle.std.specs.Option.{option_map_or, unwrap_or}
use Rattle.std.proofs.lemmas.Bool.{le-ltb}
use Rattle.std.proofs.Math.Bool.{and-false}
use Rattle.pe_base.specs.declared.place.Place.{Place}
use Rattle.pe_base.specs.declared.kind.Kind.{Kind}
use Rattle.pe_base.specs.declared.kind.Kind.TheVariants.{Kept, Born, Dying, Hanging}
use Rattle.pe_base.specs.declared.event.Event.{Event}
use Rattle.pe_base.specs.declared.event.Event.TheVariants.{TouchVertexFirstTime, TouchVertexLastTime, CreateInnerVertex, CreateHangingVertex, DestroyVertex, DestroyHangingVertex, CreateCell, DestroyCell, EnterCell, LeaveCell}
use Rattle.pe_base.specs.declared.state.State.{State}
use Rattle.pe_base.specs.declared.state.State.TheVariants.{Unrefined, RefinementTriggered}
use Rattle.pe_base.specs.Life.States.{is_stored, refined_state, erased_state}
use Rattle.pe_base.specs.Acts.Effects.{SeenVertex, VertexRecord, seen_of, all_seen, as_left, as_all_left, Seen, Fault, Outcome, MayBecome, IsTriggered, AreTriggered, IsTriggeredIfAny, MayLeave, AreLawful}
use Rattle.pe_base.specs.Walk.Course.{done, and_then, course_map}
use Rattle.pe_base.specs.Walk.Core.{Setting, Family, Own, ended_by, fire, family_after, vertex_event, cell_event, fresh_vertex, read_vertex, load_touch, given_up, written, store_of, store_touch, enter_touch, leave_touch}
use Rattle.pe_base.proofs.Walk.TableLaws.{keeps_ages}
use Rattle.pe_walk.specs.CoreKeeps.{IsFinest, IsAlike, AreAlike, loaded, stays, stored_as, IsStoredAlike, KeepsParents, CoreKeeps}
use Rattle.pe_walk.proofs.Simulation.Matching.{done_same, mapped-done, then-done}

module _ (greatest level : ℕ) where
  pub alike-same : (v : VertexRecord) → IsAlike greatest level v v
  alike-same v = record { kind = refl; old = refl; new = refl; finest = λ h. h }

  pub alike-then : (a b c : VertexRecord) → IsAlike greatest level a b → IsAlike greatest level b c → IsAlike greatest level a c
  alike-then a b c h k = record { kind = k.kind ∙ h.kind; old = k.old ∙ h.old; new = k.new ∙ h.new; finest = λ q. k.finest (h.finest q) }

  pub all_alike-same : (vs : List VertexRecord) → AreAlike greatest level vs vs
  all_alike-same [] = tt
  all_alike-same (v ∷ vs) = (alike-same v, all_alike-same vs)

  pub all_alike-then : (as' bs cs : List VertexRecord) → AreAlike greatest level as' bs → AreAlike greatest level bs cs → AreAlike greatest level as' cs
  all_alike-then [] [] [] h k = tt
  all_alike-then [] [] (c ∷ cs) h k = absurd k
  all_alike-then [] (b ∷ bs) cs h k = absurd h
  all_alike-then (a ∷ as') [] cs h k = absurd h
  all_alike-then (a ∷ as') (b ∷ bs) [] h k = absurd k
  all_alike-then (a ∷ as') (b ∷ bs) (c ∷ cs) h k = (alike-then a b c h.0 k.0, all_alike-then as' bs cs h.1 k.1)

  pub length-alike : (as' bs : List VertexRecord) → AreAlike greatest level as' bs → length bs ≡ length as'
  length-alike [] [] h = refl
  length-alike [] (b ∷ bs) h = absurd h
  length-alike (a ∷ as') [] h = absurd h
  length-alike (a ∷ as') (b ∷ bs) h = ap suc (length-alike as' bs h.1)

  erased-finest : (kind : Kind) → erased_state kind Unrefined ≡ Unrefined
  erased-finest Kept = refl
  erased-finest Born = refl
  erased-finest Dying = refl
  erased-finest Hanging = refl

  refined-finest : (kind : Kind) → greatest ≤ level → refined_state level greatest kind Unrefined ≡ Unrefined
  refined-finest kind finest = ap (λ b. if is_stored kind && b then RefinementTriggered else Unrefined) (not_below finest) ∙ ap (λ b. if b then RefinementTriggered else Unrefined) (and-false (is_stored kind))
    where
      not_below : greatest ≤ level → nat_lt level greatest ≡ false
      not_below h = le-ltb level greatest h

  triggered-finest : (kind : Kind) (before after : State) → MayBecome greatest level kind before after → IsFinest greatest level before → IsFinest greatest level after
  triggered-finest kind before after (inl same) h finest = same ∙ h finest
  triggered-finest kind before after (inr (inl refined)) h finest = refined ∙ ap (refined_state level greatest kind) (h finest) ∙ refined-finest kind finest
  triggered-finest kind before after (inr (inr erased)) h finest = erased ∙ ap (erased_state kind) (h finest) ∙ erased-finest kind

  triggered-alike : (before : VertexRecord) (after : SeenVertex) → IsTriggered greatest level (seen_of before) after → IsAlike greatest level before (as_left before after)
  triggered-alike before after h =
      let ages = keeps_ages greatest level before.kind before.state after.state h.state in
      record { kind = h.kind; old = ages.old; new = ages.new; finest = triggered-finest before.kind before.state after.state h.state }

  all_triggered-alike : (befores : List VertexRecord) (afters : List SeenVertex) → AreTriggered greatest level (all_seen befores) afters → AreAlike greatest level befores (as_all_left befores afters)
  all_triggered-alike [] [] h = tt
  all_triggered-alike [] (a ∷ afters) h = absurd h
  all_triggered-alike (b ∷ befores) [] h = absurd h
  all_triggered-alike (b ∷ befores) (a ∷ afters) h = (triggered-alike b a h.0, all_triggered-alike befores afters h.1)

  vertex-alike : (before : VertexRecord) (after : Option SeenVertex) → IsTriggeredIfAny greatest level (Some (seen_of before)) after → IsAlike greatest level before (option_map_or (as_left before) after before)
  vertex-alike before None h = absurd h
  vertex-alike before (Some after) h = triggered-alike before after h

module _ {Plan : Type 0} (set : Setting Plan) (lawful : AreLawful set.rules) where
  -- an event that is done leaves its outcome
  fire-done : (event : Event) (list : List ℤ) (seen : Seen) (after : Outcome) → (fire set event list seen).ending ≡ done after → after ≡ set.rules.effect set.plan event set.traversal list seen
  fire-done event list seen after h = go (set.rules.effect set.plan event set.traversal list seen).fault h
    where
      go : (f : Option Fault) → ended_by set event seen.place f (set.rules.effect set.plan event set.traversal list seen) ≡ done after → after ≡ set.rules.effect set.plan event set.traversal list seen
      go None h = cc
      go (Some fault) h = absurd cc

  fire-leaves : (event : Event) (list : List ℤ) (seen : Seen) (after : Outcome) → (fire set event list seen).ending ≡ done after → MayLeave (set.rules.greatest set.plan) seen after.seen
  fire-leaves event list seen after h =
      subst (λ (o : Outcome). MayLeave (set.rules.greatest set.plan) seen o.seen) (sym (fire-done event list seen after h)) (lawful.effect set.plan event set.traversal list seen)

  -- what an event of a vertex leaves
  pub record LeavesVertex (place : Place) (before after : VertexRecord × Family) : Type 0 where
    pub vertex : IsAlike (set.rules.greatest set.plan) place.level before.0 after.0
    pub parents : KeepsParents set place before.1.parents after.1.parents

  pub leaves-then : (place : Place) (a b c : VertexRecord × Family) → LeavesVertex place a b → LeavesVertex place b c → LeavesVertex place a c
  leaves-then place a b c h k = record {
    vertex = alike-then (set.rules.greatest set.plan) place.level a.0 b.0 c.0 h.vertex k.vertex;
    parents = all_alike-then (set.rules.greatest set.plan) (place.level - 1) a.1.parents b.1.parents c.1.parents h.parents k.parents;
  }

  pub vertex_event-leaves : (event : Event) (place : Place) (it after : VertexRecord × Family) → (vertex_event set event place it).ending ≡ done after → LeavesVertex place it after
  vertex_event-leaves event place it after h =
      let seen : Seen = record { place = place; vertex = Some (seen_of it.0); cell = None; corners = []; parents = all_seen it.1.parents; parent = it.1.parent } in
      let at = mapped-done (fire set event it.1.list seen) (λ outcome. (option_map_or (as_left it.0) outcome.seen.vertex it.0, family_after set it.1 outcome)) after h in
      let leaves = fire-leaves event it.1.list seen at.0 at.1 in
      subst (LeavesVertex place it) (sym at.2) (record {
        vertex = vertex-alike (set.rules.greatest set.plan) place.level it.0 at.0.seen.vertex leaves.vertex;
        parents = all_triggered-alike (set.rules.greatest set.plan) (place.level - 1) it.1.parents at.0.seen.parents leaves.parents;
      })

  -- what an event of a cell leaves
  pub record LeavesCell (place : Place) (before after : Own × Family) : Type 0 where
    pub corners : AreAlike (set.rules.greatest set.plan) place.level before.0.corners after.0.corners
    pub parents : KeepsParents set place before.1.parents after.1.parents

  pub leaves_cell-then : (place : Place) (a b c : Own × Family) → LeavesCell place a b → LeavesCell place b c → LeavesCell place a c
  leaves_cell-then place a b c h k = record {
    corners = all_alike-then (set.rules.greatest set.plan) place.level a.0.corners b.0.corners c.0.corners h.corners k.corners;
    parents = all_alike-then (set.rules.greatest set.plan) (place.level - 1) a.1.parents b.1.parents c.1.parents h.parents k.parents;
  }

  pub cell_event-leaves : (event : Event) (place : Place) (it after : Own × Family) → (cell_event set event place it).ending ≡ done after → LeavesCell place it after
  cell_event-leaves event place it after h =
      let seen : Seen = record { place = place; vertex = None; cell = Some it.0.cell; corners = all_seen it.0.corners; parents = all_seen it.1.parents; parent = it.1.parent } in
      let at = mapped-done (fire set event it.1.list seen) (λ outcome. (record { cell = unwrap_or outcome.seen.cell it.0.cell; corners = as_all_left it.0.corners outcome.seen.corners }, family_after set it.1 outcome)) after h in
      let leaves = fire-leaves event it.1.list seen at.0 at.1 in
      subst (LeavesCell place it) (sym at.2) (record {
        corners = all_triggered-alike (set.rules.greatest set.plan) place.level it.0.corners at.0.seen.corners leaves.corners;
        parents = all_triggered-alike (set.rules.greatest set.plan) (place.level - 1) it.1.parents at.0.seen.parents leaves.parents;
      })

  -- what a load leaves
  pub load_touch-leaves : (kind : Kind) (first : Bool) (found : VertexRecord) (place : Place) (family : Family) (after : VertexRecord × Family)
      → (load_touch set kind first found place family).ending ≡ done after → LeavesVertex place (loaded set kind first found place family, family) after
  load_touch-leaves Hanging first found place family after h =
      let e = vertex_event-leaves CreateHangingVertex place (fresh_vertex set Hanging place family) after h in
      record { vertex = e.vertex; parents = e.parents }
  load_touch-leaves Born true found place family after h =
      let born = fresh_vertex set Born place family in
      let at = then-done (vertex_event set CreateInnerVertex place born) (vertex_event set TouchVertexFirstTime place) after h in
      let e = leaves-then place born at.0 after (vertex_event-leaves CreateInnerVertex place born at.0 at.1) (vertex_event-leaves TouchVertexFirstTime place at.0 after at.2) in
      record { vertex = e.vertex; parents = e.parents }
  load_touch-leaves Kept true found place family after h = vertex_event-leaves TouchVertexFirstTime place (read_vertex set Kept found, family) after h
  load_touch-leaves Dying true found place family after h = vertex_event-leaves TouchVertexFirstTime place (read_vertex set Dying found, family) after h
  load_touch-leaves Born false found place family after h = subst (LeavesVertex place (found, family)) (done_same (found, family) after h) (record { vertex = alike-same (set.rules.greatest set.plan) place.level found; parents = all_alike-same (set.rules.greatest set.plan) (place.level - 1) family.parents })
  load_touch-leaves Kept false found place family after h = subst (LeavesVertex place (found, family)) (done_same (found, family) after h) (record { vertex = alike-same (set.rules.greatest set.plan) place.level found; parents = all_alike-same (set.rules.greatest set.plan) (place.level - 1) family.parents })
  load_touch-leaves Dying false found place family after h = subst (LeavesVertex place (found, family)) (done_same (found, family) after h) (record { vertex = alike-same (set.rules.greatest set.plan) place.level found; parents = all_alike-same (set.rules.greatest set.plan) (place.level - 1) family.parents })

  -- what a store leaves, of the vertex and of the parents
  abbrev pub LeavesStored : Bool → Place → VertexRecord → Family → Option VertexRecord × Family → Type 0
  LeavesStored last place vertex family after = IsStoredAlike set last place vertex after.0 × KeepsParents set place family.parents after.1.parents

  pub store_touch-leaves : (last : Bool) (place : Place) (vertex : VertexRecord) (family : Family) (after : Option VertexRecord × Family)
      → (store_touch set last place vertex family).ending ≡ done after → LeavesStored last place vertex family after
  store_touch-leaves last place vertex family after h = by_kind vertex.kind last refl h
    where
      -- a vertex of a kind
      Stored : Kind → Bool → Option VertexRecord × Family → Type 0
      Stored kind last (None, f) = (stays kind last ≡ false) × KeepsParents set place family.parents f.parents
      Stored kind last (Some it, f) =
          ((stays kind last ≡ true) × (before : VertexRecord) × IsAlike (set.rules.greatest set.plan) place.level vertex before × (it ≡ stored_as kind last before))
          × KeepsParents set place family.parents f.parents

      as_kind : (kind : Kind) (last : Bool) (x : Option VertexRecord × Family) → vertex.kind ≡ kind → Stored kind last x → LeavesStored last place vertex family x
      as_kind kind last (None, f) e h = (ap (λ k. stays k last) e ∙ h.0, h.1)
      as_kind kind last (Some it, f) e h =
          ((ap (λ k. stays k last) e ∙ h.0.0, h.0.1, h.0.2, h.0.3 ∙ sym (ap (λ k. stored_as k last h.0.1) e)), h.1)

      untouched : (kind : Kind) → stays kind false ≡ true → done (Some vertex, family) ≡ done after → Stored kind false after
      untouched kind stay k =
          subst (Stored kind false) (done_same (Some vertex, family) after k)
          ((stay, vertex, alike-same (set.rules.greatest set.plan) place.level vertex, refl), all_alike-same (set.rules.greatest set.plan) (place.level - 1) family.parents)

      ends_well : (kind : Kind) (last : Bool) (e : Event) (a : VertexRecord × Family → Option VertexRecord × Family)
          → ((it : VertexRecord × Family) → LeavesVertex place (vertex, family) it → Stored kind last (a it))
          → (course_map a (vertex_event set e place (vertex, family))).ending ≡ done after → Stored kind last after
      ends_well kind last e a keeps k =
          let at = mapped-done (vertex_event set e place (vertex, family)) a after k in
          subst (Stored kind last) (sym at.2) (keeps at.0 (vertex_event-leaves e place (vertex, family) at.0 at.1))

      gone : (kind : Kind) (last : Bool) → stays kind last ≡ false → (it : VertexRecord × Family) → LeavesVertex place (vertex, family) it → Stored kind last (given_up set it)
      gone kind last stay it leaves = (stay, leaves.parents)

      stayed : (kind : Kind) → stays kind true ≡ true → (it : VertexRecord × Family) → LeavesVertex place (vertex, family) it → Stored kind true (written set kind it)
      stayed kind stay it leaves = ((stay, it.0, leaves.vertex, refl), leaves.parents)

      by_kind : (kind : Kind) (last : Bool) → vertex.kind ≡ kind → (store_of set kind last place vertex family).ending ≡ done after → LeavesStored last place vertex family after
      by_kind Hanging last e k = as_kind Hanging last after e (ends_well Hanging last DestroyHangingVertex (given_up set) (gone Hanging last refl) k)
      by_kind Dying true e k =
          let both = and_then (vertex_event set TouchVertexLastTime place (vertex, family)) (vertex_event set DestroyVertex place) in
          let at = mapped-done both (given_up set) after k in
          let one = then-done (vertex_event set TouchVertexLastTime place (vertex, family)) (vertex_event set DestroyVertex place) at.0 at.1 in
          let leaves = leaves-then place (vertex, family) one.0 at.0 (vertex_event-leaves TouchVertexLastTime place (vertex, family) one.0 one.1) (vertex_event-leaves DestroyVertex place one.0 at.0 one.2) in
          as_kind Dying true after e (subst (Stored Dying true) (sym at.2) (gone Dying true refl at.0 leaves))
      by_kind Kept true e k = as_kind Kept true after e (ends_well Kept true TouchVertexLastTime (written set Kept) (stayed Kept refl) k)
      by_kind Born true e k = as_kind Born true after e (ends_well Born true TouchVertexLastTime (written set Born) (stayed Born refl) k)
      by_kind Kept false e k = as_kind Kept false after e (untouched Kept refl k)
      by_kind Born false e k = as_kind Born false after e (untouched Born refl k)
      by_kind Dying false e k = as_kind Dying false after e (untouched Dying refl k)

  -- what entering a cell leaves
  pub enter_touch-leaves : (kind : Kind) (found : List ℤ) (place : Place) (corners : List VertexRecord) (family : Family) (after : Own × Family)
      → (enter_touch set kind found place corners family).ending ≡ done after → AreAlike (set.rules.greatest set.plan) place.level corners after.0.corners × KeepsParents set place family.parents after.1.parents
  enter_touch-leaves Born found place corners family after h =
      let fresh = set.rules.fresh_cell set.plan family.list in
      let made : Own × Family = (record { cell = fresh.numbers; corners = corners }, record family { list = fresh.list }) in
      let at = then-done (cell_event set CreateCell place made) (cell_event set EnterCell place) after h in
      let leaves = leaves_cell-then place made at.0 after (cell_event-leaves CreateCell place made at.0 at.1) (cell_event-leaves EnterCell place at.0 after at.2) in
      (leaves.corners, leaves.parents)
  enter_touch-leaves Kept found place corners family after h =
      let leaves = cell_event-leaves EnterCell place (record { cell = found; corners = corners }, family) after h in (leaves.corners, leaves.parents)
  enter_touch-leaves Dying found place corners family after h =
      let leaves = cell_event-leaves EnterCell place (record { cell = found; corners = corners }, family) after h in (leaves.corners, leaves.parents)
  enter_touch-leaves Hanging found place corners family after h =
      let leaves = cell_event-leaves EnterCell place (record { cell = found; corners = corners }, family) after h in (leaves.corners, leaves.parents)

  -- and what leaving it leaves
  pub leave_touch-leaves : (kind : Kind) (place : Place) (own : Own) (family : Family) (after : Own × Family)
      → (leave_touch set kind place own family).ending ≡ done after → AreAlike (set.rules.greatest set.plan) place.level own.corners after.0.corners × KeepsParents set place family.parents after.1.parents
  leave_touch-leaves Dying place own family after h =
      let at = then-done (cell_event set LeaveCell place (own, family)) (cell_event set DestroyCell place) after h in
      let leaves = leaves_cell-then place (own, family) at.0 after (cell_event-leaves LeaveCell place (own, family) at.0 at.1) (cell_event-leaves DestroyCell place at.0 after at.2) in
      (leaves.corners, leaves.parents)
  leave_touch-leaves Kept place own family after h = let leaves = cell_event-leaves LeaveCell place (own, family) after h in (leaves.corners, leaves.parents)
  leave_touch-leaves Born place own family after h = let leaves = cell_event-leaves LeaveCell place (own, family) after h in (leaves.corners, leaves.parents)
  leave_touch-leaves Hanging place own family after h = let leaves = cell_event-leaves LeaveCell place (own, family) after h in (leaves.corners, leaves.parents)

-- what the core keeps
pub core_keeps : {Plan : Type 0} → CoreKeeps Plan
core_keeps set lawful = record {
  loads = λ kind first found place family after h. let leaves = load_touch-leaves set lawful kind first found place family after h in (leaves.vertex, leaves.parents);
  stores = store_touch-leaves set lawful;
  enters = enter_touch-leaves set lawful;
  leaves = leave_touch-leaves set lawful;
}
