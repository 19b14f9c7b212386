-- Whether the children of a cell are walked, and of which kind they are: by the cell's corners in hand it is as foreseen.
use Rattle.std.proofs.Common.{◌≡◌, ℕ, ◌+◌, ◌-◌, ◌^◌, ◌<◌, ◌≤◌, ◌≢◌, Bool, true, false, not, ◌==◌, ◌||◌, List, [], ◌∷◌, map, refl, sym, ap, ap₂, ◌∙◌, inl, arith}
use Rattle.std.specs.Prelude.{if◌then◌else◌}
use Rattle.std.specs.Option.{unwrap_or}
use Rattle.std.specs.List.{list_any, range_with_len, AllByRecursion as Each}
use Rattle.std.proofs.lemmas.Bool.{eqb-true, eqb-false}
use Rattle.pe_base.specs.declared.place.Place.{Place}
use Rattle.pe_base.specs.declared.kind.Kind.TheVariants.{Kept, Born}
use Rattle.pe_base.specs.Tree.Places.{corner}
use Rattle.pe_base.specs.Life.States.{is_old, is_new}
use Rattle.pe_base.specs.Life.Kinds.{kind_from}
use Rattle.pe_base.specs.Acts.Effects.{VertexRecord}
use Rattle.pe_base.specs.Walk.Maps.{at}
use Rattle.pe_base.specs.Walk.Core.{Setting}
use Rattle.pe_base.specs.Walk.Working.{Working, no_vertex, record_at, records_of}
use Rattle.pe_base.specs.Walk.Touches.{kind_below, kind_of_children}
use Rattle.pe_base.proofs.Walk.Families.{Each-range}
use Rattle.pe_base.proofs.Walk.Slots.{is_hung}
use Rattle.pe_order.specs.Tokens.{Outlook, Tokens}
use Rattle.pe_walk.specs.Standing.{Foresight, Foresees, ForeseenStart, Stage, IsStage, Holds, IsForeseenStart, IsFair, IsIdle}
use Rattle.pe_walk.proofs.Simulation.LoadedKinds.{found_stored, idle_if}

-- a record's ages are those foreseen of a vertex
pub record HasAges (f : Foresight) (vertex : Place) (it : VertexRecord) : Type 0 where
  pub old : is_old it.state ≡ f.old vertex
  pub new : is_new it.state ≡ f.new vertex

module _ {Plan : Type 0} (set : Setting Plan) (o : Outlook) (f : Foresight) (see : Foresees set o f) where
  -- a corner in hand: fair where it counts, and idle where it does not
  pub corner_aged : (greatest : ℕ) (w : Working) (cell : Place) (k : ℕ)
      → (o.counts (corner set.axes cell k) ≡ true → (is_hung w cell k ≡ false) × IsFair f greatest (corner set.axes cell k) (at w.vertices (corner set.axes cell k)))
      → (o.counts (corner set.axes cell k) ≡ false → IsIdle (record_at set.axes w cell k))
      → HasAges f (corner set.axes cell k) (record_at set.axes w cell k)
  corner_aged greatest w cell k on off = by (o.counts (corner set.axes cell k)) refl
    where
      by : (b : Bool) → o.counts (corner set.axes cell k) ≡ b → HasAges f (corner set.axes cell k) (record_at set.axes w cell k)
      by true counts =
          let here = on counts in
          let found : record_at set.axes w cell k ≡ here.1.it = found_stored set.axes w cell k here.0 ∙ ap (λ x. unwrap_or x no_vertex) here.1.there in
          record { old = ap (λ (v : VertexRecord). is_old v.state) found ∙ here.1.old; new = ap (λ (v : VertexRecord). is_new v.state) found ∙ here.1.new }
      by false hangs =
          let here = off hangs in
          let none = idle_if set o f see (corner set.axes cell k) hangs in
          record { old = here.old ∙ sym none.1; new = here.new ∙ sym none.2 }

  -- the kind of the children, by the ages of all corners
  pub below_by_ages : (w : Working) (cell : Place) → 1 ≤ cell.level → ((k : ℕ) → k < 2 ^ set.axes → HasAges f (corner set.axes cell k) (record_at set.axes w cell k))
      → kind_below (records_of set.axes w cell) ≡ f.below cell
  below_by_ages w cell deep aged =
      ap₂ kind_from (olds (range_with_len 0 (2 ^ set.axes)) (Each-range (λ k. is_old (record_at set.axes w cell k).state ≡ f.old (corner set.axes cell k)) 0 (2 ^ set.axes) (λ k from to. (aged k (omega arith)).old)))
      (news (range_with_len 0 (2 ^ set.axes)) (Each-range (λ k. is_new (record_at set.axes w cell k).state ≡ f.new (corner set.axes cell k)) 0 (2 ^ set.axes) (λ k from to. (aged k (omega arith)).new)))
      ∙ sym (see.cell_below cell deep)
    where
      olds : (ks : List ℕ) → Each (λ k. is_old (record_at set.axes w cell k).state ≡ f.old (corner set.axes cell k)) ks
          → list_any (λ it. is_old it.state) (map (record_at set.axes w cell) ks) ≡ list_any f.old (map (corner set.axes cell) ks)
      olds [] h = refl
      olds (k ∷ ks) h = ap₂ (λ a b. a || b) h.0 (olds ks h.1)

      news : (ks : List ℕ) → Each (λ k. is_new (record_at set.axes w cell k).state ≡ f.new (corner set.axes cell k)) ks
          → list_any (λ it. is_new it.state) (map (record_at set.axes w cell) ks) ≡ list_any f.new (map (corner set.axes cell) ks)
      news [] h = refl
      news (k ∷ ks) h = ap₂ (λ a b. a || b) h.0 (news ks h.1)

module _ {Plan : Type 0} (set : Setting Plan) (e : ForeseenStart) (walked : Place → Bool) (is : IsForeseenStart set e walked) (st : Stage) (w : Working) (t : Tokens) (h : Holds set e st w t) where
  -- the corners of the parent have the ages that are foreseen
  pub parents_aged : (k : ℕ) → k < 2 ^ set.axes → HasAges e.foresight (corner set.axes st.parent k) (record_at set.axes w st.parent k)
  parents_aged k small =
      corner_aged set e.outlook e.foresight is.foresees (set.rules.greatest set.plan) w st.parent k
      (λ on. (h.fair.parent_flags k small ∙ ap not on, h.fair.live (corner set.axes st.parent k) on (inl (h.stands.parents k small on))))
      (h.fair.parents k small)

  -- and so are the cell's own corners in hand
  pub mine_aged : IsStage set.axes e.outlook st → (k : ℕ) → st.from ≤ k → k < 2 ^ set.axes → is_hung w st.cell k ≡ not (e.outlook.counts (corner set.axes st.cell k))
      → HasAges e.foresight (corner set.axes st.cell k) (record_at set.axes w st.cell k)
  mine_aged stage k from small flag =
      corner_aged set e.outlook e.foresight is.foresees (set.rules.greatest set.plan) w st.cell k
      (λ on. (flag ∙ ap not on, h.fair.live (corner set.axes st.cell k) on (inl (h.stands.mine k from small on).0)))
      (h.fair.mine k from small)

  -- the kind of the stage's cell, as the model and the machine find it
  pub record FindsCell : Type 0 where
    pub by_map : kind_of_children set w st.parent ≡ e.foresight.below st.parent
    pub by_hand : (if st.cell.level == 1 then (if set.traversal == 1 then Born else Kept) else kind_below (records_of set.axes w st.parent)) ≡ e.foresight.below st.parent

  pub cell_found : IsStage set.axes e.outlook st → FindsCell
  cell_found stage = record {
    by_map = by_level (st.parent.level == 0) refl;
    by_hand = ap (λ b. if b then (if set.traversal == 1 then Born else Kept) else kind_below (records_of set.axes w st.parent)) (levels (st.cell.level == 1) (st.parent.level == 0) refl refl) ∙ by_level (st.parent.level == 0) refl;
  }
    where
      up : st.parent.level + 1 ≡ st.cell.level
      up = let one : st.cell.level - 1 ≡ st.parent.level = ap (λ (p : Place). p.level) stage.above in omega (arith, one, stage.deep)

      levels : (b c : Bool) → (st.cell.level == 1) ≡ b → (st.parent.level == 0) ≡ c → (st.cell.level == 1) ≡ (st.parent.level == 0)
      levels true true p q = p ∙ sym q
      levels false false p q = p ∙ sym q
      levels true false p q = let one = eqb-true st.cell.level 1 p in let other = eqb-false st.parent.level 0 q in absurd (other (omega (arith, up, one)))
      levels false true p q = let one = eqb-false st.cell.level 1 p in let other = eqb-true st.parent.level 0 q in absurd (one (omega (arith, up, other)))

      by_level : (b : Bool) → (st.parent.level == 0) ≡ b → (if b then (if set.traversal == 1 then Born else Kept) else kind_below (records_of set.axes w st.parent)) ≡ e.foresight.below st.parent
      by_level true q = sym (is.foresees.root_below st.parent (eqb-true st.parent.level 0 q))
      by_level false q =
          let other = eqb-false st.parent.level 0 q in
          below_by_ages set e.outlook e.foresight is.foresees w st.parent (deep st.parent.level other) parents_aged
        where
          deep : (n : ℕ) → n ≢ 0 → 1 ≤ n
          deep n other = omega (arith, other)
