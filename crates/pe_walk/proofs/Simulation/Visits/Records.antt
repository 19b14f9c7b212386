-- The records in hand of a cell that is entered or left are put back: its own, and those of its family.
use Rattle.std.proofs.Common.{◌≡◌, ℕ, ℤ, zero, suc, ◌-◌, ◌^◌, ◌<◌, ◌≤◌, ◌≢◌, Bool, true, not, ◌&&◌, ◌||◌, List, length, Some, refl, sym, ap, ap₂, subst, ◌∙◌, arith, is_some, if◌then◌else◌}
use Rattle.std.specs.Prelude.{nat_lt}
use Rattle.std.proofs.lemmas.Bool.{lt-ltb, le-leb}
use Rattle.pe_base.specs.declared.place.Place.{Place}
use Rattle.pe_base.specs.Tree.Places.{corner, is_same}
use Rattle.std.specs.Option.{unwrap_or}
use Rattle.pe_base.specs.Walk.Maps.{Map, at}
use Rattle.pe_base.specs.Walk.Core.{Setting, Family, Own, way}
use Rattle.pe_base.specs.Walk.Working.{Working, record_at, records_of, family_of, own_of, put_own}
use Rattle.pe_base.specs.Walk.Touches.{after_cell}
use Rattle.pe_base.proofs.Steps.VertexTouches.{is_same_itself}
use Rattle.pe_base.proofs.Walk.Slots.{is_hung}
use Rattle.pe_order.specs.Laws.{IsCell}
use Rattle.pe_walk.specs.CoreKeeps.{AreAlike, KeepsParents}
use Rattle.pe_order.specs.Tokens.{Tokens}
use Rattle.pe_stacks.specs.Holdings.{Holdings}
use Rattle.pe_stacks.specs.Grid.{output_stack}
use Rattle.pe_hang.specs.InHand.{map_holdings}
use Rattle.pe_order.specs.Apart.{lies}
use Rattle.pe_walk.specs.Standing.{ForeseenStart, Stage, IsStage, Holds, IsForeseenStart, Fair, IsFair, IsWritten, IsIdle, times}
use Rattle.pe_order.proofs.Unwalked.{cell_four}
use Rattle.pe_walk.proofs.Simulation.LoadedKinds.{parent_long}
use Rattle.pe_walk.proofs.Simulation.Levels.{records_of-put_family, own_of-put_family}
use Rattle.pe_walk.proofs.Simulation.Shared.{PutsBack, HasPut, has_put, put_count, on_one, lies_unheld, vertices-image}
use Rattle.pe_walk.proofs.Simulation.Leaves.{record_of}

-- After it, cell and family are found as they were put; what is not held, other cells, hanging vertices, loads and the
-- tally are as they were; and what is as foreseen, or hangs, stays so.
pub record Visited {Plan : Type 0} (set : Setting Plan) (e : ForeseenStart) (st : Stage) (mine : Own) (it : Family) (w after : Working) (t : Tokens) : Type 0 where
  pub own : own_of set.axes after st.cell ≡ mine
  pub family : family_of set.axes after st.parent ≡ it
  pub vertices : (q : Place) → t.held q ≡ 0 → at after.vertices q ≡ at w.vertices q
  pub hung : (x : Place) (k : ℕ) → is_hung after x k ≡ is_hung w x k
  pub cells : (x : Place) → at after.cells x ≡ (if is_same st.parent x then Some it.parent else if is_same st.cell x then Some mine.cell else at w.cells x)
  pub loads : after.loads ≡ w.loads
  pub tally : after.tally ≡ w.tally
  pub fair : (q : Place) → e.outlook.counts q ≡ true → IsFair e.foresight (set.rules.greatest set.plan) q (at w.vertices q) → IsFair e.foresight (set.rules.greatest set.plan) q (at after.vertices q)
  pub idle_parents : (k : ℕ) → k < 2 ^ set.axes → IsIdle (record_at set.axes w st.parent k) → IsIdle (record_at set.axes after st.parent k)
  pub idle : (k : ℕ) → k < 2 ^ set.axes → IsIdle (record_at set.axes w st.cell k) → IsIdle (record_at set.axes after st.cell k)

module _ {Plan : Type 0} (set : Setting Plan) (e : ForeseenStart) (walked : Place → Bool) (is : IsForeseenStart set e walked) (st : Stage) (stage : IsStage set.axes e.outlook st) where
  pub stage_cell : IsCell set.axes (way set) st.cell
  stage_cell = subst (λ w. IsCell set.axes w st.cell) is.foresees.ways stage.cell

  pub stage_four : set.axes ≤ length st.cell.pos
  stage_four = let four = cell_four set.axes (way set) st.cell is.foresees.dim.1 stage_cell in omega (arith, four, is.foresees.dim.1)

  pub stage_long : set.axes ≤ length st.parent.pos
  stage_long = parent_long set.axes (way set) st.cell st.parent is.foresees.dim.1 stage_cell stage.above

  pub stage_up : st.parent.level ≡ st.cell.level - 1
  stage_up = sym (ap (λ (p : Place). p.level) stage.above)

  pub stage_levels : st.parent.level ≢ st.cell.level
  stage_levels same = absurd (omega (arith, same, stage_up, stage.deep))

  module _ (w : Working) (t : Tokens) (h : Holds set e st w t) (all : st.from ≡ 0) where
    -- with all corners in hand, those that do not count hang
    pub own_flags : (k : ℕ) → k < 2 ^ set.axes → is_hung w st.cell k ≡ not (e.outlook.counts (corner set.axes st.cell k))
    own_flags k small =
        h.fair.flags st.cell k (omega (arith, stage_up, stage.deep))
        ∙ ap₂ (λ a b. a && b && nat_lt k (2 ^ set.axes) && not (e.outlook.counts (corner set.axes st.cell k))) (is_same_itself st.cell) (le-leb st.from k (omega (arith, all)))
        ∙ ap (λ b. b && not (e.outlook.counts (corner set.axes st.cell k))) (lt-ltb k (2 ^ set.axes) small)

    module _ (own : Own) (it : Family) (alike_own : AreAlike (set.rules.greatest set.plan) st.cell.level (records_of set.axes w st.cell) own.corners) (alike : KeepsParents set st.cell (records_of set.axes w st.parent) it.parents) where
      own_puts : PutsBack set.axes (set.rules.greatest set.plan) e.outlook st.cell (record { parents = own.corners; parent = own.cell; list = w.list }) w w t
      own_puts = record {
        four = stage_four;
        alike = alike_own;
        held = λ k small on. (h.stands.mine k (omega (arith, all)) small on).0;
        flags = own_flags;
        hung = λ k. refl;
        vertices = λ k. refl;
      }

      own_put : HasPut set.axes (set.rules.greatest set.plan) e.outlook st.cell (record { parents = own.corners; parent = own.cell; list = w.list }) w w (put_own set.axes st.cell own w) t
      own_put = has_put set.axes (set.rules.greatest set.plan) e.outlook st.cell (record { parents = own.corners; parent = own.cell; list = w.list }) w w t own_puts

      own_count : length own.corners ≡ 2 ^ set.axes
      own_count = put_count set.axes (set.rules.greatest set.plan) e.outlook st.cell (record { parents = own.corners; parent = own.cell; list = w.list }) w w t own_puts

      back : st.cell.level ≢ st.parent.level
      back same = stage_levels (sym same)

      family_puts : PutsBack set.axes (set.rules.greatest set.plan) e.outlook st.parent it (put_own set.axes st.cell own w) (put_own set.axes st.cell own w) t
      family_puts = record {
        four = stage_long;
        alike = subst (λ records. AreAlike (set.rules.greatest set.plan) st.parent.level records it.parents)
            (sym (records_of-put_family set.axes st.cell (record { parents = own.corners; parent = own.cell; list = w.list }) w own_count st.parent back))
            (subst (λ n. AreAlike (set.rules.greatest set.plan) n (records_of set.axes w st.parent) it.parents) (sym stage_up) alike);
        held = h.stands.parents;
        flags = λ k small. own_put.hung st.parent k ∙ h.fair.parent_flags k small;
        hung = λ k. refl;
        vertices = λ k. refl;
      }

      family_put : HasPut set.axes (set.rules.greatest set.plan) e.outlook st.parent it (put_own set.axes st.cell own w) (put_own set.axes st.cell own w) (after_cell set st.parent st.cell (own, it) w) t
      family_put = has_put set.axes (set.rules.greatest set.plan) e.outlook st.parent it (put_own set.axes st.cell own w) (put_own set.axes st.cell own w) t family_puts

      family_count : length it.parents ≡ 2 ^ set.axes
      family_count = put_count set.axes (set.rules.greatest set.plan) e.outlook st.parent it (put_own set.axes st.cell own w) (put_own set.axes st.cell own w) t family_puts

      pub visited : Visited set e st own it w (after_cell set st.parent st.cell (own, it) w) t
      visited = record {
        own = own_of-put_family set.axes st.parent it (put_own set.axes st.cell own w) family_count st.cell stage_levels ∙ ap (λ (f : Family). let o : Own = record { cell = f.parent; corners = f.parents } in o) own_put.family;
        family = family_put.family;
        vertices = λ q none. family_put.vertices q none ∙ own_put.vertices q none;
        hung = λ x k. family_put.hung x k ∙ own_put.hung x k;
        cells = λ x. family_put.cells x ∙ ap (λ found. if is_same st.parent x then Some it.parent else found) (own_put.cells x);
        loads = family_put.loads ∙ own_put.loads;
        tally = family_put.tally ∙ own_put.tally;
        fair = λ q on fair. family_put.fair e.foresight q on refl (own_put.fair e.foresight q on refl fair);
        idle_parents = λ k small idle. family_put.idle k small (subst (λ v. IsIdle v) (sym (own_put.records st.parent k back)) idle);
        idle = λ k small idle. subst (λ v. IsIdle v) (sym (family_put.records st.cell k stage_levels)) (own_put.idle k small idle);
      }

      -- what lies on stacks is not held, nor what was not met
      pub unheld : (q : Place) → 1 ≤ lies t.vertices q → t.held q ≡ 0
      unheld q some = lies_unheld e.outlook t h.stands.apart h.stands.counting q some

      none_held : (q : Place) → t.met q ≡ 0 → t.held q ≡ 0
      none_held q unmet = by (t.held q) refl
        where
          by : (n : ℕ) → t.held q ≡ n → n ≡ 0
          by zero p = refl
          by (suc n) p = let some : 1 ≤ t.met q = h.stands.held_met q (omega (arith, p)) in absurd (omega (arith, some, unmet))

      -- so the working state stays fair, whichever cells are there now, as the places have them
      pub fair_visited : (owed counted : ℕ) (entered ahead : List Place) (cells : Map (List ℤ)) (places : Holdings Place)
          → ((x : Place) → is_some (at cells x) ≡ (nat_lt 0 (lies places x) || nat_lt 0 (times entered x)))
          → Fair set.axes (set.rules.greatest set.plan) e.outlook e.foresight (record st { owed = owed; counted = counted; entered = entered; ahead = ahead })
          (record (after_cell set st.parent st.cell (own, it) w) { cells = cells }) (record t { cells = places })
      fair_visited owed counted entered ahead cells places there = let f = h.fair in let v = visited in record {
        loads = λ q. ap (λ loads. unwrap_or (at loads q) 0) v.loads ∙ f.loads q;
        unread = λ q unmet. v.vertices q (none_held q unmet) ∙ f.unread q unmet;
        live = λ q on live. v.fair q on (f.live q on live);
        written = λ q some met. let lying = on_one t.vertices (output_stack e.outlook.swapped) q in
            subst (IsWritten e.foresight (set.rules.greatest set.plan) q) (sym (v.vertices q (unheld q (omega (arith, some, lying))))) (f.written q some met);
        gone = λ q on met none. v.vertices q (omega (arith, none)) ∙ f.gone q on met none;
        cells_there = there;
        parent_flags = λ k small. v.hung st.parent k ∙ f.parent_flags k small;
        parents = λ k small off. v.idle_parents k small (f.parents k small off);
        flags = λ x k deep. v.hung x k ∙ f.flags x k deep;
        mine = λ k from small off. v.idle k small (f.mine k from small off);
      }

      -- and what is seen of vertices on stacks is as it was
      pub vertices_visited : (cells : Map (List ℤ)) (places : Holdings Place)
          → map_holdings (record_of set e (record (after_cell set st.parent st.cell (own, it) w) { cells = cells }) (record t { cells = places })) t.vertices ≡ map_holdings (record_of set e w t) t.vertices
      vertices_visited cells places =
          vertices-image set e w (record (after_cell set st.parent st.cell (own, it) w) { cells = cells }) t (record t { cells = places }) t.vertices
          (λ x some. (visited.vertices x (unheld x some), refl))
