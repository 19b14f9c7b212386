-- A cell is counted; and events of a traversal as a whole.
use Rattle.std.proofs.Common.{◌≡◌, ℕ, ℤ, ◌+◌, ◌*◌, ◌^◌, ◌<◌, ◌≤◌, Bool, true, false, List, refl, sym, ap, subst, arith}
use Rattle.std.specs.Prelude.{nat_lt}
use Rattle.std.proofs.lemmas.Bool.{lt-ltb, ltb-false, and_from}
use Rattle.pe_base.specs.declared.place.Place.{Place}
use Rattle.pe_base.specs.declared.tally.Tally.{Tally}
use Rattle.pe_base.specs.Walk.Course.{Push, Course, halts, limit_at, ends, at_once, allowed}
use Rattle.pe_base.specs.Walk.Core.{Setting, plain_event}
use Rattle.pe_base.specs.Walk.Working.{Working}
use Rattle.pe_base.specs.Walk.Touches.{tally_cell, count_cell, within_limit}
use Rattle.pe_base.specs.Walk.Walk.{plain}
use Rattle.pe_hang.specs.Moves.{may_rise}
use Rattle.pe_adapt.specs.CountedTouches.{Machine, tally_may_rise}
use Rattle.pe_walk.specs.Machine as machine
use Rattle.pe_order.specs.Tokens.{Tokens}
use Rattle.pe_walk.specs.Standing.{ForeseenStart, Stage, per_cell, Owes, Holds, IsForeseenStart, Fair}
use Rattle.pe_walk.proofs.Simulation.Matching.{Alike, some_same, done_same, core-matches, mapped-done}
use Rattle.pe_walk.proofs.Simulation.Silent.{plain-silent}
use Rattle.pe_walk.proofs.Simulation.Leaves.{image_of, streams, after_count, CountLeaf, PlainLeaf}

-- what stays below the bound of a traversal may rise
pub small_rises : (base owed cells most x : ℕ) → base + per_cell * most < 2 ^ 63 → cells ≤ most → x + owed ≤ base + per_cell * cells → may_rise x ≡ true
small_rises base owed cells most x bound few below =
    let more : 34 * cells ≤ 34 * most = omega (arith, few) in
    let less : x < 2 ^ 63 = omega (arith, bound, below, more) in
    lt-ltb x (2 ^ 63) less

module _ {Plan : Type 0} (set : Setting Plan) (e : ForeseenStart) (walked : Place → Bool) (is : IsForeseenStart set e walked) where
  -- every number of the tally may rise
  pub tally_rises : (st : Stage) (tally : Tally) (t : Tokens) → Owes set.axes set.max_cells e st tally t → tally_may_rise tally ≡ true
  tally_rises st tally t owes =
      let rises : (x : ℕ) → x + st.owed ≤ e.base + per_cell * tally.cells → may_rise x ≡ true = λ x h. small_rises e.base st.owed tally.cells set.max_cells x is.bound owes.cells h in
      let most : 34 * tally.cells ≤ 34 * set.max_cells = omega (arith, owes.cells) in
      let few : tally.cells < 2 ^ 63 = omega (arith, is.bound, most) in
      and_from _ _ (and_from _ _ (and_from _ _ (and_from _ _ (and_from _ _ (lt-ltb tally.cells (2 ^ 63) few) (rises tally.read owes.read)) (rises tally.written owes.written))
      (rises tally.created owes.created)) (rises tally.destroyed owes.destroyed)) (rises tally.hanging owes.hanging)

  -- one more cell is counted, if it may be
  counted-owes : (st : Stage) (cell : Place) (tally : Tally) (t : Tokens) → nat_lt set.max_cells (tally_cell cell tally).cells ≡ false
      → Owes set.axes set.max_cells e st tally t → Owes set.axes set.max_cells e (after_count set.axes st) (tally_cell cell tally) t
  counted-owes st cell tally t within owes =
      let more : (x : ℕ) → x + st.owed ≤ e.base + 34 * tally.cells → x + (st.owed + 34) ≤ e.base + 34 * (tally.cells + 1) = λ x h. omega (arith, h) in
      record {
        cells = ltb-false set.max_cells (tally.cells + 1) within;
        total = omega (arith, owes.total);
        fresh = more _ owes.fresh;
        pushes = λ s. more _ (owes.pushes s);
        pops = λ s. more _ (owes.pops s);
        cell_fresh = more _ owes.cell_fresh;
        cell_pushes = λ s. more _ (owes.cell_pushes s);
        cell_pops = λ s. more _ (owes.cell_pops s);
        read = more _ owes.read;
        written = more _ owes.written;
        created = more _ owes.created;
        destroyed = more _ owes.destroyed;
        hanging = more _ owes.hanging;
        lens = λ s. more_lens (2 ^ set.axes) tally.cells _ st.unstored (e.lens s) (owes.lens s);
        cell_lens = λ s. omega (arith, owes.cell_lens s);
      }
    where
      more_lens : (corners cells x unstored len : ℕ) → x + unstored ≤ len + corners * cells → x + (unstored + corners) ≤ len + corners * (cells + 1)
      more_lens corners cells x unstored len h = let spread : corners * (cells + 1) ≡ corners * cells + corners = omega arith in omega (arith, h, spread)

  -- what is fair depends neither on what is counted nor on the mapping's list
  fair-beside : (st : Stage) (owed unstored counted : ℕ) (w : Working) (list : List ℤ) (tally : Tally) (t : Tokens) → Fair set.axes (set.rules.greatest set.plan) e.outlook e.foresight st w t
      → Fair set.axes (set.rules.greatest set.plan) e.outlook e.foresight (record st { owed = owed; unstored = unstored; counted = counted }) (record w { list = list; tally = tally }) t
  fair-beside st owed unstored counted w list tally t f = record {
    loads = f.loads;
    unread = f.unread;
    live = f.live;
    written = f.written;
    gone = f.gone;
    cells_there = f.cells_there;
    parent_flags = f.parent_flags;
    parents = f.parents;
    flags = f.flags;
    mine = f.mine;
  }

  -- what holds does not depend on what is counted otherwise
  counted-holds : (st : Stage) (cell : Place) (w : Working) (t : Tokens) → nat_lt set.max_cells (tally_cell cell w.tally).cells ≡ false → Holds set e st w t
      → Holds set e (after_count set.axes st) (record w { tally = tally_cell cell w.tally }) t
  counted-holds st cell w t within h = record {
    stands = let s = h.stands in record {
      apart = s.apart;
      counting = s.counting;
      unmet = s.unmet;
      held_met = s.held_met;
      stacks = s.stacks;
      cell_stacks = s.cell_stacks;
      parents = s.parents;
      mine = s.mine;
      out = s.out;
      cells_out = s.cells_out;
      parent_entered = s.parent_entered;
      entered_off = s.entered_off;
      entered_once = s.entered_once;
      entered_distinct = s.entered_distinct;
      ahead = s.ahead;
    };
    fair = fair-beside st _ _ _ w w.list (tally_cell cell w.tally) t h.fair;
    owes = counted-owes st cell w.tally t within h.owes;
  }

  -- a cell is counted by model and machine alike
  pub count_leaf : (room : Push → Type 0) → CountLeaf set e room
  count_leaf room st stage w t t' h k =
      subst (λ x. Alike room (image_of set e st.parent) (Holds set e (after_count set.axes st)) (count_cell set st.cell w) (machine.count_cell set (streams set e room) st.cell (image_of set e st.parent w t)) x)
      (some_same t t' k) (go (nat_lt set.max_cells (tally_cell st.cell w.tally).cells) refl)
    where
      counted : Working
      counted = record w { tally = tally_cell st.cell w.tally }

      seen : Bool → Course Machine
      seen b = allowed (tally_may_rise w.tally) (machine.within_limit set (streams set e room) st.cell (image_of set e st.parent counted t) b)

      go : (b : Bool) → nat_lt set.max_cells (tally_cell st.cell w.tally).cells ≡ b
          → Alike room (image_of set e st.parent) (Holds set e (after_count set.axes st)) (within_limit set st.cell counted b) (seen b) t
      go true past = subst (λ (c : Course Machine). Alike room (image_of set e st.parent) (Holds set e (after_count set.axes st)) (ends (halts (limit_at st.cell))) c t)
          (sym (ap (λ b. allowed b (ends (halts (limit_at st.cell)))) (tally_rises st w.tally t h.owes)))
          (record { same = record { text = refl; ending = refl; log = tt }; holds = λ v q. absurd cc })
      go false within = subst (λ (c : Course Machine). Alike room (image_of set e st.parent) (Holds set e (after_count set.axes st)) (at_once counted) c t)
          (sym (ap (λ b. allowed b (at_once (image_of set e st.parent counted t))) (tally_rises st w.tally t h.owes)))
          (record {
            same = record { text = refl; ending = refl; log = tt };
            holds = λ v q. subst (λ x. Holds set e (after_count set.axes st) x t) (done_same counted v q) (counted-holds st st.cell w t within h);
          })

  -- an event of the traversal as a whole changes the mapping's list
  plain-holds : (st : Stage) (list : List ℤ) (w : Working) (t : Tokens) → Holds set e st w t → Holds set e st (record w { list = list }) t
  plain-holds st list w t h = record {
    stands = h.stands;
    fair = fair-beside st st.owed st.unstored st.counted w list w.tally t h.fair;
    owes = h.owes;
  }

  pub plain_leaf : (room : Push → Type 0) → PlainLeaf set e room
  plain_leaf room st event w t t' h k =
      subst (λ x. Alike room (image_of set e st.parent) (Holds set e st) (plain set event w) (machine.plain set (streams set e room) event (image_of set e st.parent w t)) x) (some_same t t' k)
      (record {
        same = core-matches room (λ v. image_of set e st.parent v t) (plain_event set event w.list) (λ list. record w { list = list }) (λ list. image_of set e st.parent (record w { list = list }) t)
            (plain-silent set event w.list) (λ list q. refl);
        holds = λ v q. let at = mapped-done (plain_event set event w.list) (λ list. record w { list = list }) v q in
            subst (λ x. Holds set e st x t) (sym at.2) (plain-holds st at.0 w t h);
      })
