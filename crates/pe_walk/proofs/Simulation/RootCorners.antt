-- The root's corners as a traversal begins: they are made and lent, and hang.
use Rattle.std.proofs.Common.{◌≡◌, ◌⊎◌, ℕ, zero, suc, ◌+◌, ◌^◌, ◌<◌, ◌≤◌, Bool, true, false, ◌&&◌, ◌==◌, List, ◌∷◌, map, Some, refl, sym, ap, ap₂, subst, ◌∙◌, arith, is_some, if◌then◌else◌, inl, inr}
use Rattle.std.specs.Prelude.{nat_eq}
use Rattle.std.specs.Cmp.Lexicographic.{pointwise}
use Rattle.std.proofs.Math.Bool.{and-false}
use Rattle.std.specs.Option.{unwrap_or}
use Rattle.std.specs.List.{range_with_len}
use Rattle.std.proofs.lemmas.Bool.{ne_eqb, eq-eqb, lt-ltb}
use Rattle.pe_base.specs.declared.place.Place.{Place}
use Rattle.pe_base.specs.declared.state.State.TheVariants.{Unrefined}
use Rattle.pe_base.specs.declared.kind.Kind.TheVariants.{Hanging}
use Rattle.pe_base.specs.Tree.Places.{root, corner}
use Rattle.pe_base.specs.Acts.Effects.{VertexRecord}
use Rattle.pe_base.specs.Walk.Maps.{at_corner}
use Rattle.pe_base.specs.Walk.Course.{at_once, and_then, allowed}
use Rattle.pe_base.specs.Walk.Core.{Setting, fresh_vertex}
use Rattle.pe_base.specs.Walk.Working.{Working, vertex_at, record_at, family_of}
use Rattle.pe_base.specs.Walk.Walk as model
use Rattle.pe_base.proofs.Lists.{map_same}
use Rattle.pe_base.proofs.Walk.MapLaws.{found-changed}
use Rattle.pe_base.proofs.Walk.Slots.{is_hung}
use Rattle.pe_base.proofs.Walk.Families.{Each-range}
use Rattle.pe_stacks.specs.Holdings.{Holdings, lent}
use Rattle.pe_adapt.specs.CountedTouches.{Machine, StreamStacks}
use Rattle.pe_walk.specs.Machine as machine
use Rattle.pe_walk.specs.Standing.{IsIdle}
use Rattle.pe_walk.proofs.Simulation.Cells.Corners.{down_from}

-- so many records are lent
abbrev pub lent_times : {X : Type 0} → ℕ → Holdings X → Holdings X
lent_times zero held = held
lent_times (suc k) held = lent_times k (lent held)

module _ {Plan : Type 0} (set : Setting Plan) where
  -- After some corners were made, those with the numbers below one: they hang, and nothing else has changed but the list.
  pub record HasCorners (k : ℕ) (w after : Working) : Type 0 where
    pub made : (j : ℕ) → j < k → IsIdle (record_at set.axes after root j) × (is_hung after root j ≡ true)
    pub kept : (j : ℕ) → k ≤ j → at_corner after.hanging root j ≡ at_corner w.hanging root j
    pub others : (x : Place) (j : ℕ) → 1 ≤ x.level → at_corner after.hanging x j ≡ at_corner w.hanging x j
    pub vertices : after.vertices ≡ w.vertices
    pub cells : after.cells ≡ w.cells
    pub loads : after.loads ≡ w.loads
    pub tally : after.tally ≡ w.tally

  root_put : (k : ℕ) (w : Working) (j : ℕ) → at_corner (model.root_corner set k w).hanging root j ≡ (if k == j then Some (fresh_vertex set Hanging root (family_of set.axes w root)).0 else at_corner w.hanging root j)
  root_put k w j =
      found-changed w.hanging k (0 ∷ root.pos) (Some (fresh_vertex set Hanging root (family_of set.axes w root)).0) j (0 ∷ root.pos)
      ∙ by (k == j)
    where
      by : (b : Bool) → (if b && true then Some (fresh_vertex set Hanging root (family_of set.axes w root)).0 else at_corner w.hanging root j) ≡ (if b then Some (fresh_vertex set Hanging root (family_of set.axes w root)).0 else at_corner w.hanging root j)
      by true = refl
      by false = refl

  other_put : (k : ℕ) (w : Working) (x : Place) (j : ℕ) → 1 ≤ x.level → at_corner (model.root_corner set k w).hanging x j ≡ at_corner w.hanging x j
  other_put k w x j deep =
      found-changed w.hanging k (0 ∷ root.pos) (Some (fresh_vertex set Hanging root (family_of set.axes w root)).0) j (x.level ∷ x.pos)
      ∙ ap (λ b. if k == j && (b && pointwise nat_eq root.pos x.pos) then Some (fresh_vertex set Hanging root (family_of set.axes w root)).0 else at_corner w.hanging x j) (ne_eqb 0 x.level (λ e. absurd (omega (arith, e, deep))))
      ∙ ap (λ b. if b then Some (fresh_vertex set Hanging root (family_of set.axes w root)).0 else at_corner w.hanging x j) (and-false (k == j))

  pub has_corners : (k : ℕ) (w : Working) → HasCorners k w (model.root_corners set (down_from k) w)
  has_corners zero w = record { made = λ j low. absurd (omega arith); kept = λ j high. refl; others = λ x j deep. refl; vertices = refl; cells = refl; loads = refl; tally = refl }
  has_corners (suc k) w =
      let rest = has_corners k (model.root_corner set k w) in
      let here = rest.kept k (omega arith) ∙ root_put k w k ∙ ap (λ b. if b then Some (fresh_vertex set Hanging root (family_of set.axes w root)).0 else at_corner w.hanging root k) (eq-eqb k k refl) in
      record {
        made = λ j low. elim (before j k (omega (arith, low))) [
          | inl less ↦ rest.made j less
          | inr same ↦ subst (λ i. IsIdle (record_at set.axes (model.root_corners set (down_from k) (model.root_corner set k w)) root i) × (is_hung (model.root_corners set (down_from k) (model.root_corner set k w)) root i ≡ true)) (sym same)
              (subst (λ (v : VertexRecord). IsIdle v) (sym (ap (λ found. unwrap_or found (vertex_at (model.root_corners set (down_from k) (model.root_corner set k w)) (corner set.axes root k))) here)) (record { kind = refl; old = refl; new = refl }), ap is_some here)
        ];
        kept = λ j high. rest.kept j (omega (arith, high)) ∙ root_put k w j
            ∙ ap (λ b. if b then Some (fresh_vertex set Hanging root (family_of set.axes w root)).0 else at_corner w.hanging root j) (ne_eqb k j (λ e. absurd (omega (arith, e, high))));
        others = λ x j deep. rest.others x j deep ∙ other_put k w x j deep;
        vertices = rest.vertices;
        cells = rest.cells;
        loads = rest.loads;
        tally = rest.tally;
      }
    where
      before : (j k : ℕ) → j ≤ k → (j < k) ⊎ (j ≡ k)
      before j k low = grind arith

  -- the machine makes them likewise
  pub corners_made : (streams : StreamStacks) (k n : ℕ) (its : List VertexRecord) (w : Working) (m : Machine) → m.family.list ≡ w.list → m.vertices.fresh + k < 2 ^ 63 → its ≡ map (record_at set.axes w root) (range_with_len k n)
      → machine.root_corners set streams k its m
      ≡ at_once (
        map (record_at set.axes (model.root_corners set (down_from k) w) root) (range_with_len 0 (k + n)),
        record m { vertices = lent_times k m.vertices; family = record m.family { list = (model.root_corners set (down_from k) w).list } },
      )
  corners_made streams zero n its w m list few same =
      ap₂ (λ vs l. at_once (vs, record m { family = record m.family { list = l } })) (same ∙ ap (λ z. map (record_at set.axes w root) (range_with_len 0 z)) (let e : n ≡ zero + n = omega arith in e)) list
  corners_made streams (suc k) n its w m list few same =
      let made = fresh_vertex set Hanging root m.family in
      let alike : made.0 ≡ (fresh_vertex set Hanging root (family_of set.axes w root)).0 = ap (λ l. let v : VertexRecord = record { state = Unrefined; kind = Hanging; numbers = (set.rules.fresh_vertex set.plan l).numbers } in v) list in
      let lists : made.1.list ≡ (model.root_corner set k w).list = ap (λ l. (set.rules.fresh_vertex set.plan l).list) list in
      let m' : Machine = record m { vertices = lent m.vertices; family = made.1 } in
      ap (λ b. and_then (allowed b (at_once (lent m.vertices))) (λ vertices. machine.root_corners set streams k (made.0 ∷ its) (record m { vertices = vertices; family = made.1 }))) (lt-ltb m.vertices.fresh (2 ^ 63) (omega (arith, few)))
      ∙ corners_made streams k (suc n) (made.0 ∷ its) (model.root_corner set k w) m' lists (omega (arith, few))
      (ap₂ (λ v vs. v ∷ vs)
      (alike ∙ sym (ap (λ found. unwrap_or found (vertex_at w (corner set.axes root k))) (root_put k w k ∙ ap (λ b. if b then Some (fresh_vertex set Hanging root (family_of set.axes w root)).0 else at_corner w.hanging root k) (eq-eqb k k refl))))
      (same ∙ ap (λ z. map (record_at set.axes w root) (range_with_len z n)) (let e : suc k ≡ k + 1 = omega arith in e) ∙ map_same (record_at set.axes w root) (record_at set.axes (model.root_corner set k w) root) (range_with_len (k + 1) n) (Each-range (λ j. record_at set.axes w root j ≡ record_at set.axes (model.root_corner set k w) root j) (k + 1) n
      (λ j from to. ap (λ found. unwrap_or found (vertex_at w (corner set.axes root j))) (sym (root_put k w j
      ∙ ap (λ b. if b then Some (fresh_vertex set Hanging root (family_of set.axes w root)).0 else at_corner w.hanging root j) (ne_eqb k j (λ e. absurd (omega (arith, e, from))))))))))
      ∙ ap (λ z. at_once (
        map (record_at set.axes (model.root_corners set (down_from k) (model.root_corner set k w)) root) (range_with_len 0 z),
        record m { vertices = lent_times k (lent m.vertices); family = record m.family { list = (model.root_corners set (down_from k) (model.root_corner set k w)).list } },
      )) (let e : k + suc n ≡ suc k + n = omega arith in e)
