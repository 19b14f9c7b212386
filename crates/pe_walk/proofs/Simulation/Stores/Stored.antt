-- After the store of a corner all holds that held before it.
use Rattle.std.proofs.Common.{◌≡◌, ℕ, ◌+◌, ◌-◌, ◌^◌, ◌<◌, ◌≤◌, Bool, false, length, Option, Some, sym, ap, subst, ◌∙◌, arith}
use Rattle.std.specs.Prelude.{is_none}
use Rattle.pe_base.specs.declared.place.Place.{Place}
use Rattle.pe_base.specs.Tree.Places.{corner, is_same}
use Rattle.pe_base.specs.Steps.Routes.{stack_out}
use Rattle.pe_base.specs.Acts.Effects.{VertexRecord}
use Rattle.pe_base.specs.Walk.Course.{Course, done}
use Rattle.pe_base.specs.Walk.Core.{Setting, Family, way, store_touch}
use Rattle.pe_base.specs.Walk.Working.{Working, record_at, records_of, family_of}
use Rattle.pe_base.specs.Walk.Touches.{tally_store, put_stored}
use Rattle.pe_base.specs.Walk.Touches as model
use Rattle.pe_order.specs.Laws.{IsCell}
use Rattle.pe_order.specs.Tokens.{Tokens, store}
use Rattle.pe_order.specs.Apart.{IsApart}
use Rattle.pe_order.specs.Traffic.{OnlyCounting}
use Rattle.pe_walk.specs.CoreKeeps.{AreAlike, IsStoredAlike, KeepsParents}
use Rattle.pe_walk.specs.Standing.{ForeseenStart, Stage, Stands, Owes, Holds, IsForeseenStart, IsStage}
use Rattle.pe_order.proofs.Unwalked.{cell_four}
use Rattle.pe_walk.proofs.Simulation.CoreLaws.{core_keeps}
use Rattle.pe_walk.proofs.Simulation.LoadedKinds.{parent_long}
use Rattle.pe_walk.proofs.Simulation.Leaves.{after_store}
use Rattle.pe_walk.proofs.Simulation.Levels.{levels_differ}
use Rattle.pe_walk.proofs.Simulation.Shared.{PutsBack, has_put}
use Rattle.pe_walk.proofs.Simulation.Stores.OnStacks.{stored, Within}
use Rattle.pe_walk.proofs.Simulation.Stores.Standing.{stands-stored, owes-stored}
use Rattle.pe_walk.proofs.Simulation.Stores.Goals.{Goes, goal_of, goes_by}
use Rattle.pe_walk.proofs.Simulation.Stores.InHand.{InHand, in_hand}
use Rattle.pe_walk.proofs.Simulation.Stores.Leaving.{Leaves, leaves-hung, leaves, tally-put_stored}
use Rattle.pe_walk.proofs.Simulation.Stores.Fairness.{IsStored, fair-stored}

-- where the corner goes, and the core of its store
abbrev pub to_of : {Plan : Type 0} → Setting Plan → Stage → ℕ → Option ℕ
to_of set st k = stack_out set.axes (way set) (corner set.axes st.cell k) st.cell

abbrev pub goal_at : {Plan : Type 0} → Setting Plan → ForeseenStart → Stage → ℕ → Option ℕ
goal_at set e st k = goal_of e.outlook set.axes (way set) (corner set.axes st.cell k) st.cell

abbrev pub core_of : {Plan : Type 0} → Setting Plan → Stage → ℕ → Working → Course (Option VertexRecord × Family)
core_of set st k w = store_touch set (is_none (to_of set st k)) (corner set.axes st.cell k) (record_at set.axes w st.cell k) (family_of set.axes w st.parent)

-- the working state before the family is put back, and after; and the places
abbrev pub before_of : {Plan : Type 0} → Setting Plan → Stage → ℕ → Working → Option VertexRecord → Working
before_of set st k w left =
    put_stored set (record_at set.axes w st.cell k).kind st.cell k left (record w { tally = tally_store (record_at set.axes w st.cell k).kind (is_none (to_of set st k)) w.tally })

abbrev pub after_of : {Plan : Type 0} → Setting Plan → Stage → ℕ → Working → Option VertexRecord × Family → Working
after_of set st k w r = model.after_store set (record_at set.axes w st.cell k).kind (is_none (to_of set st k)) st.parent st.cell k r w

abbrev pub places_of : {Plan : Type 0} → Setting Plan → ForeseenStart → Stage → ℕ → Tokens → Tokens
places_of set e st k t = stored (e.outlook.counts (corner set.axes st.cell k)) (goal_at set e st k) (corner set.axes st.cell k) t

module _ {Plan : Type 0} (set : Setting Plan) (e : ForeseenStart) (walked : Place → Bool) (is : IsForeseenStart set e walked) (st : Stage) (stage : IsStage set.axes e.outlook st) (w : Working) (t : Tokens) (h : Holds set e st w t)
    (k : ℕ) (from : st.from ≡ k) (below : k < 2 ^ set.axes) (t' : Tokens) (run : store e.outlook st.cell k t ≡ Some t') where
  abbrev vertex : Place
  vertex = corner set.axes st.cell k

  abbrev now : Tokens
  now = places_of set e st k t

  is_cell : IsCell set.axes (way set) st.cell
  is_cell = subst (λ u. IsCell set.axes u st.cell) is.foresees.ways stage.cell

  pub deep : st.parent.level + 1 ≡ st.cell.level
  deep = omega (arith, stage.deep, ap (λ (p : Place). p.level) stage.above)

  long : set.axes ≤ length st.cell.pos
  long = omega (arith, is.foresees.dim.1, cell_four set.axes (way set) st.cell is.foresees.dim.1 is_cell)

  goes : Goes e.outlook set.axes (way set) st.cell k t t'
  goes = goes_by e.outlook set.axes (way set) st.cell k t t' is.foresees.axes is.foresees.ways is.foresees.dim is_cell below run

  pub places_are : places_of set e st k t ≡ t'
  places_are = goes.is

  pub hand : InHand set e st k w
  hand = in_hand set e walked is st stage w t h k from below deep

  pub within : Within (goal_at set e st k) t.vertices
  within s went = omega (arith, goes.within s went, h.stands.stacks)

  stands-now : Stands set.axes e.outlook (after_store k st) (places_of set e st k t)
  stands-now =
      stands-stored set.axes e.outlook st t (goal_at set e st k) k h.stands from below long deep
      (subst (IsApart e.outlook) (sym places_are) (goes.apart h.stands.apart)) (subst (OnlyCounting e.outlook) (sym places_are) (goes.counting h.stands.counting))

  -- with what the core has left
  module _ (r : Option VertexRecord × Family) (run_core : (core_of set st k w).ending ≡ done r) where
    kept : IsStoredAlike set (is_none (to_of set st k)) vertex (record_at set.axes w st.cell k) r.0 × KeepsParents set vertex (records_of set.axes w st.parent) r.1.parents
    kept = (core_keeps set is.foresees.lawful).stores (is_none (to_of set st k)) vertex (record_at set.axes w st.cell k) (family_of set.axes w st.parent) r run_core

    its_leaves : Leaves set.axes st.cell k (e.outlook.counts vertex) r.0 w (before_of set st k w r.0)
    its_leaves = leaves set st.cell k w (tally_store (record_at set.axes w st.cell k).kind (is_none (to_of set st k)) w.tally) (record_at set.axes w st.cell k).kind (e.outlook.counts vertex) r.0 long below hand.kind

    other_level : (j : ℕ) → is_same vertex (corner set.axes st.parent j) ≡ false
    other_level j = levels_differ vertex (corner set.axes st.parent j) (λ same. omega (arith, same, deep))

    puts_back : PutsBack set.axes (set.rules.greatest set.plan) e.outlook st.parent r.1 w (before_of set st k w r.0) (places_of set e st k t)
    puts_back = record {
      four = parent_long set.axes (way set) st.cell st.parent is.foresees.dim.1 is_cell stage.above;
      alike = subst (λ level. AreAlike (set.rules.greatest set.plan) level (records_of set.axes w st.parent) r.1.parents) (let up : st.cell.level - 1 ≡ st.parent.level = omega (arith, deep) in up) kept.1;
      held = stands-now.parents;
      flags = h.fair.parent_flags;
      hung = λ j. leaves-hung set.axes st.cell k (e.outlook.counts vertex) r.0 w (before_of set st k w r.0) its_leaves st.parent j (λ same. omega (arith, same, deep));
      vertices = λ j. its_leaves.vertices (corner set.axes st.parent j) (λ on. other_level j);
    }

    pub is_stored : IsStored set e.outlook e.foresight st k (to_of set st k) (goal_at set e st k) r.0 r.1 w (before_of set st k w r.0) (after_of set st k w r) t
    is_stored = record {
      stands = h.stands;
      fair = h.fair;
      now = stands-now;
      from = from;
      below = below;
      deep = deep;
      within = within;
      leaves = its_leaves;
      puts = has_put set.axes (set.rules.greatest set.plan) e.outlook st.parent r.1 w (before_of set st k w r.0) (places_of set e st k t) puts_back;
      fate = hand.fate r.0 kept.0;
    }

    pub tally_after : (after_of set st k w r).tally ≡ tally_store (record_at set.axes w st.cell k).kind (is_none (to_of set st k)) w.tally
    tally_after = is_stored.puts.tally ∙ tally-put_stored set (record_at set.axes w st.cell k).kind st.cell k r.0 (record w { tally = tally_store (record_at set.axes w st.cell k).kind (is_none (to_of set st k)) w.tally })

    pub holds_after : 1 ≤ st.owed → 1 ≤ st.unstored → Holds set e (after_store k st) (after_of set st k w r) (places_of set e st k t)
    holds_after owed unstored = record {
      stands = stands-now;
      fair = fair-stored set e.outlook e.foresight st k (to_of set st k) (goal_at set e st k) r.0 r.1 w (before_of set st k w r.0) (after_of set st k w r) t is_stored;
      owes = subst (λ tally. Owes set.axes set.max_cells e (after_store k st) tally (places_of set e st k t)) (sym tally_after)
          (owes-stored set.axes set.max_cells e st t (e.outlook.counts vertex) (goal_at set e st k) vertex k (record_at set.axes w st.cell k).kind (is_none (to_of set st k)) w.tally h.owes within owed unstored);
    }
