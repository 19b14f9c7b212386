-- Going down to the children of a cell, from one to the next, and coming back.
use Rattle.std.proofs.Common.{◌≡◌, ℕ, suc, ◌+◌, ◌*◌, ◌^◌, ◌<◌, ◌≤◌, Bool, true, false, not, ◌&&◌, List, [], length, Option, refl, sym, ap, ap₂, subst, ◌∙◌, inl, inr, arith}
use Rattle.std.specs.Prelude.{nat_le, nat_lt}
use Rattle.std.specs.Option.{unwrap_or}
use Rattle.std.specs.List.{range_with_len}
use Rattle.std.proofs.lemmas.Bool.{lt-ltb, le-leb, le-ltb, leb-true, cases_lt}
use Rattle.pe_base.specs.declared.place.Place.{Place}
use Rattle.pe_base.specs.declared.tally.Tally.{Tally}
use Rattle.pe_base.specs.Tree.Places.{corner, is_same}
use Rattle.pe_base.specs.Acts.Effects.{VertexRecord}
use Rattle.pe_base.specs.Walk.Core.{Setting}
use Rattle.pe_base.specs.Walk.Working.{Working, no_vertex, cell_at, record_at, records_of}
use Rattle.pe_base.proofs.Lists.{Each-all, map_same}
use Rattle.pe_base.proofs.Steps.VertexTouches.{is_same_itself}
use Rattle.pe_base.proofs.Walk.Frames.{levels_differ, KeepsAbove}
use Rattle.pe_base.proofs.Walk.Slots.{is_hung}
use Rattle.pe_stacks.specs.Holdings.{len_at}
use Rattle.pe_order.specs.Tokens.{Outlook, Tokens}
use Rattle.pe_order.specs.Frames.{LeavesAbove}
use Rattle.pe_walk.specs.Standing.{Foresight, ForeseenStart, Stage, times, Stands, Fair, IsIdle, Owes, Holds}

-- four tests
all_pass : (a b c d : Bool) → a ≡ true → b ≡ true → c ≡ true → (a && b && c && d) ≡ d
all_pass a b c d p q r = rw (p, q, r)

first_fails : (a b c d : Bool) → a ≡ false → (a && b && c && d) ≡ false
first_fails a b c d p = rw p

never_pass : (a b c d : Bool) → (b ≡ true → c ≡ false) → (a && b && c && d) ≡ false
never_pass false b c d h = refl
never_pass true false c d h = refl
never_pass true true c d h = ap (λ x. x && d) (h refl)

none_between : (n k : ℕ) (a d : Bool) → (a && nat_le n k && nat_lt k n && d) ≡ false
none_between n k a d = never_pass a (nat_le n k) (nat_lt k n) d (λ from. le-ltb k n (leb-true n k from))

-- the stage at a child, where no corner of it is in hand yet
abbrev pub at_child : ℕ → Stage → Place → Stage
at_child axes st child = record st { out = st.out + 2 ^ axes; parent = st.cell; cell = child; from = 2 ^ axes }

abbrev pub with_ahead : List Place → Stage → Stage
with_ahead rest st = record st { ahead = rest }

-- a stage whose cell is one level below its parent, with all its corners in hand
pub record IsOpen (st : Stage) : Type 0 where
  pub deeper : st.parent.level < st.cell.level
  pub all : st.from ≡ 0
  pub entered : 1 ≤ times st.entered st.cell

module _ (axes : ℕ) where
  -- the corners of a cell above a level, where nothing changed
  pub record_at-kept : (w w' : Working) (level : ℕ) → KeepsAbove level w w' → (x : Place) (k : ℕ) → x.level < level → record_at axes w' x k ≡ record_at axes w x k
  record_at-kept w w' level keeps x k up =
      ap₂ (λ (a b : Option VertexRecord). unwrap_or a (unwrap_or b no_vertex)) (keeps.hanging x k up) (keeps.vertices (corner axes x k) up)

  pub records_of-kept : (w w' : Working) (level : ℕ) → KeepsAbove level w w' → (x : Place) → x.level < level → records_of axes w' x ≡ records_of axes w x
  records_of-kept w w' level keeps x up =
      map_same (record_at axes w' x) (record_at axes w x) (range_with_len 0 (2 ^ axes)) (Each-all (λ k. record_at axes w' x k ≡ record_at axes w x k) (λ k. record_at-kept w w' level keeps x k up) (range_with_len 0 (2 ^ axes)))

  pub cell_at-kept : (w w' : Working) (level : ℕ) → KeepsAbove level w w' → (x : Place) → x.level < level → cell_at w' x ≡ cell_at w x
  cell_at-kept w w' level keeps x up = ap (λ found. unwrap_or found []) (keeps.cells x up)

-- What is owed depends on what the counted cells may add, on what is stored, and on the cells entered and ahead; less may
-- be owed at any time.
abbrev pub OwesAlike : Stage → Stage → Type 0
OwesAlike st after =
    (after.owed ≤ st.owed) × (after.unstored ≡ st.unstored) × (after.counted ≡ st.counted) × (after.entered ≡ st.entered) × (after.ahead ≡ st.ahead)

pub same-owes : (axes max_cells : ℕ) (e : ForeseenStart) (st after : Stage) (tally : Tally) (t : Tokens) → OwesAlike st after → Owes axes max_cells e st tally t → Owes axes max_cells e after tally t
same-owes axes max_cells e st after tally t same owes =
    let less : (n most : ℕ) → n + st.owed ≤ most → n + after.owed ≤ most = λ n most h. omega (arith, h, same.0) in
    record {
      cells = owes.cells;
      total = omega (arith, owes.total, same.2, ap length same.4);
      fresh = less _ _ owes.fresh;
      pushes = λ s. less _ _ (owes.pushes s);
      pops = λ s. less _ _ (owes.pops s);
      cell_fresh = less _ _ owes.cell_fresh;
      cell_pushes = λ s. less _ _ (owes.cell_pushes s);
      cell_pops = λ s. less _ _ (owes.cell_pops s);
      read = less _ _ owes.read;
      written = less _ _ owes.written;
      created = less _ _ owes.created;
      destroyed = less _ _ owes.destroyed;
      hanging = less _ _ owes.hanging;
      lens = λ s. subst (λ n. len_at t.vertices s + n ≤ e.lens s + 2 ^ axes * tally.cells) (sym same.1) (owes.lens s);
      cell_lens = λ s. omega (arith, owes.cell_lens s, same.2, ap length same.3);
    }

module _ (axes : ℕ) (o : Outlook) where
  down-stands : (st : Stage) (child : Place) (t : Tokens) → IsOpen st → Stands axes o st t → Stands axes o (at_child axes st child) t
  down-stands st child t is s = record {
    apart = s.apart;
    counting = s.counting;
    unmet = s.unmet;
    held_met = s.held_met;
    stacks = s.stacks;
    cell_stacks = s.cell_stacks;
    parents = λ k small on. (s.mine k (omega (arith, is.all)) small on).0;
    mine = λ k from small on. absurd (omega arith);
    out = omega (arith, s.out, is.all);
    cells_out = s.cells_out;
    parent_entered = is.entered;
    entered_off = s.entered_off;
    entered_once = s.entered_once;
    entered_distinct = s.entered_distinct;
    ahead = s.ahead;
  }

  next-stands : (st : Stage) (other : Place) (t : Tokens) → st.from ≡ 2 ^ axes → Stands axes o st t → Stands axes o (record st { cell = other }) t
  next-stands st other t none s = record {
    apart = s.apart;
    counting = s.counting;
    unmet = s.unmet;
    held_met = s.held_met;
    stacks = s.stacks;
    cell_stacks = s.cell_stacks;
    parents = s.parents;
    mine = λ k from small on. absurd (omega arith);
    out = s.out;
    cells_out = s.cells_out;
    parent_entered = s.parent_entered;
    entered_off = s.entered_off;
    entered_once = s.entered_once;
    entered_distinct = s.entered_distinct;
    ahead = s.ahead;
  }

  back-stands : (st : Stage) (child : Place) (t t' : Tokens) → IsOpen st → LeavesAbove o (suc st.cell.level) t t' → Stands axes o st t → (rest : List Place) → Stands axes o (at_child axes (with_ahead rest st) child) t'
      → Stands axes o (with_ahead rest st) t'
  back-stands st child t t' is keeps s rest inner = record {
    apart = inner.apart;
    counting = inner.counting;
    unmet = inner.unmet;
    held_met = inner.held_met;
    stacks = inner.stacks;
    cell_stacks = inner.cell_stacks;
    parents = λ k small on. subst (λ n. 1 ≤ n) (sym (keeps.held (corner axes st.parent k))) (s.parents k small on);
    mine = λ k from small on. (inner.parents k small on, keeps.met (corner axes st.cell k) (omega arith) ∙ (s.mine k from small on).1);
    out = omega (arith, inner.out, is.all);
    cells_out = inner.cells_out;
    parent_entered = s.parent_entered;
    entered_off = inner.entered_off;
    entered_once = inner.entered_once;
    entered_distinct = inner.entered_distinct;
    ahead = inner.ahead;
  }

  module _ (greatest : ℕ) (f : Foresight) where
    -- which corners of the stage's cell have hanging vertices
    pub own_flag : (st : Stage) (w : Working) (t : Tokens) → IsOpen st → Fair axes greatest o f st w t → (k : ℕ) → k < 2 ^ axes → is_hung w st.cell k ≡ not (o.counts (corner axes st.cell k))
    own_flag st w t is fair k small =
        fair.flags st.cell k is.deeper
        ∙ all_pass (is_same st.cell st.cell) (nat_le st.from k) (nat_lt k (2 ^ axes)) (not (o.counts (corner axes st.cell k))) (is_same_itself st.cell) (le-leb st.from k (omega (arith, is.all))) (lt-ltb k (2 ^ axes) small)

    down-fair : (st : Stage) (child : Place) (w : Working) (t : Tokens) → IsOpen st → Fair axes greatest o f st w t → Fair axes greatest o f (at_child axes st child) w t
    down-fair st child w t is fair = record {
      loads = fair.loads;
      unread = fair.unread;
      live = fair.live;
      written = fair.written;
      gone = fair.gone;
      cells_there = fair.cells_there;
      parent_flags = own_flag st w t is fair;
      parents = λ k small off. fair.mine k (omega (arith, is.all)) small off;
      flags = λ x k deep. fair.flags x k (omega (arith, deep, is.deeper))
          ∙ first_fails (is_same st.cell x) (nat_le st.from k) (nat_lt k (2 ^ axes)) (not (o.counts (corner axes st.cell k))) (levels_differ st.cell x (λ e. absurd (omega arith)))
          ∙ sym (none_between (2 ^ axes) k (is_same child x) (not (o.counts (corner axes child k))));
      mine = λ k from small off. absurd (omega arith);
    }

    next-fair : (st : Stage) (other : Place) (w : Working) (t : Tokens) → st.from ≡ 2 ^ axes → Fair axes greatest o f st w t → Fair axes greatest o f (record st { cell = other }) w t
    next-fair st other w t none fair = record {
      loads = fair.loads;
      unread = fair.unread;
      live = fair.live;
      written = fair.written;
      gone = fair.gone;
      cells_there = fair.cells_there;
      parent_flags = fair.parent_flags;
      parents = fair.parents;
      flags = λ x k deep. fair.flags x k deep
          ∙ subst (λ n. (is_same st.cell x && nat_le n k && nat_lt k (2 ^ axes) && not (o.counts (corner axes st.cell k))) ≡ (is_same other x && nat_le n k && nat_lt k (2 ^ axes) && not (o.counts (corner axes other k)))) (sym none)
          (none_between (2 ^ axes) k (is_same st.cell x) (not (o.counts (corner axes st.cell k))) ∙ sym (none_between (2 ^ axes) k (is_same other x) (not (o.counts (corner axes other k)))));
      mine = λ k from small off. absurd (omega arith);
    }

    back-fair : (st : Stage) (child : Place) (w w' : Working) (t t' : Tokens) → IsOpen st → KeepsAbove st.cell.level w w' → Fair axes greatest o f st w t → (rest : List Place)
        → Fair axes greatest o f (at_child axes (with_ahead rest st) child) w' t' → Fair axes greatest o f (with_ahead rest st) w' t'
    back-fair st child w w' t t' is keeps fair rest inner = record {
      loads = inner.loads;
      unread = inner.unread;
      live = inner.live;
      written = inner.written;
      gone = inner.gone;
      cells_there = inner.cells_there;
      parent_flags = λ k small. keeps.hung st.parent k (omega (arith, is.deeper)) ∙ fair.parent_flags k small;
      parents = λ k small off. subst IsIdle (sym (record_at-kept axes w w' st.cell.level keeps st.parent k is.deeper)) (fair.parents k small off);
      flags = λ x k deep. elim (cases_lt st.cell.level x.level) [
        | inl below ↦ inner.flags x k below
            ∙ none_between (2 ^ axes) k (is_same child x) (not (o.counts (corner axes child k)))
            ∙ sym (first_fails (is_same st.cell x) (nat_le st.from k) (nat_lt k (2 ^ axes)) (not (o.counts (corner axes st.cell k))) (levels_differ st.cell x (λ e. absurd (omega arith))))
        | inr up ↦ keeps.hung x k up ∙ fair.flags x k deep
      ];
      mine = λ k from small off. inner.parents k small off;
    }

module _ {Plan : Type 0} (set : Setting Plan) (e : ForeseenStart) where
  pub down-holds : (st : Stage) (child : Place) (w : Working) (t : Tokens) → IsOpen st → Holds set e st w t → Holds set e (at_child set.axes st child) w t
  down-holds st child w t is h = record {
    stands = down-stands set.axes e.outlook st child t is h.stands;
    fair = down-fair set.axes e.outlook (set.rules.greatest set.plan) e.foresight st child w t is h.fair;
    owes = same-owes set.axes set.max_cells e st (at_child set.axes st child) w.tally t (omega arith, refl, refl, refl, refl) h.owes;
  }

  pub next-holds : (st : Stage) (other : Place) (w : Working) (t : Tokens) → st.from ≡ 2 ^ set.axes → Holds set e st w t → Holds set e (record st { cell = other }) w t
  next-holds st other w t none h = record {
    stands = next-stands set.axes e.outlook st other t none h.stands;
    fair = next-fair set.axes e.outlook (set.rules.greatest set.plan) e.foresight st other w t none h.fair;
    owes = same-owes set.axes set.max_cells e st (record st { cell = other }) w.tally t (omega arith, refl, refl, refl, refl) h.owes;
  }

  pub back-holds : (st : Stage) (child : Place) (w w' : Working) (t t' : Tokens) → IsOpen st → KeepsAbove st.cell.level w w' → LeavesAbove e.outlook (suc st.cell.level) t t' → Holds set e st w t → (rest : List Place)
      → Holds set e (at_child set.axes (with_ahead rest st) child) w' t' → Holds set e (with_ahead rest st) w' t'
  back-holds st child w w' t t' is above places h rest inner = record {
    stands = back-stands set.axes e.outlook st child t t' is places h.stands rest inner.stands;
    fair = back-fair set.axes e.outlook (set.rules.greatest set.plan) e.foresight st child w w' t t' is above h.fair rest inner.fair;
    owes = same-owes set.axes set.max_cells e (at_child set.axes (with_ahead rest st) child) (with_ahead rest st) w'.tally t' (omega arith, refl, refl, refl, refl) inner.owes;
  }

  -- less may be owed
  pub less-holds : (st : Stage) (n : ℕ) (w : Working) (t : Tokens) → n ≤ st.owed → Holds set e st w t → Holds set e (record st { owed = n }) w t
  less-holds st n w t less h =
      let s = h.stands in
      let f = h.fair in
      record {
        stands = record {
          apart = s.apart;
          counting = s.counting;
          unmet = s.unmet;
          held_met = s.held_met;
          stacks = s.stacks;
          cell_stacks = s.cell_stacks;
          parents = s.parents;
          mine = s.mine;
          out = s.out;
          cells_out = s.cells_out;
          parent_entered = s.parent_entered;
          entered_off = s.entered_off;
          entered_once = s.entered_once;
          entered_distinct = s.entered_distinct;
          ahead = s.ahead;
        };
        fair = record {
          loads = f.loads;
          unread = f.unread;
          live = f.live;
          written = f.written;
          gone = f.gone;
          cells_there = f.cells_there;
          parent_flags = f.parent_flags;
          parents = f.parents;
          flags = f.flags;
          mine = f.mine;
        };
        owes = same-owes set.axes set.max_cells e st (record st { owed = n }) w.tally t (less, refl, refl, refl, refl) h.owes;
      }
