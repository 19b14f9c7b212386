-- A cell is entered: its numbers come to hand, fresh or from the input, and its events are fired.
use Rattle.std.proofs.Common.{◌≡◌, ℕ, ℤ, zero, suc, ◌+◌, ◌-◌, ◌*◌, ◌^◌, ◌<◌, ◌≤◌, Bool, true, false, not, ◌&&◌, ◌||◌, List, [], ◌∷◌, length, Option, Some, None, refl, sym, ap, ap₂, subst, ◌∙◌, arith, is_some, is_none, true≢false, if◌then◌else◌, inl, inr}
use Rattle.std.specs.Prelude.{nat_lt}
use Rattle.std.proofs.lemmas.Bool.{lt-ltb, or_right, cases_eq}
use Rattle.pe_base.specs.declared.place.Place.{Place}
use Rattle.pe_base.specs.declared.kind.Kind.{Kind}
use Rattle.pe_base.specs.declared.kind.Kind.TheVariants.{Kept, Born, Dying, Hanging}
use Rattle.pe_base.specs.Tree.Places.{is_same}
use Rattle.pe_base.specs.Life.Kinds.{is_hanging}
use Rattle.pe_base.specs.Acts.Effects.{VertexRecord}
use Rattle.pe_base.specs.Walk.Maps.{at}
use Rattle.pe_base.specs.Walk.Course.{Push, Course, done, at_once, and_then, course_map}
use Rattle.pe_base.specs.Walk.Core.{Setting, Family, Own, enter_touch}
use Rattle.pe_base.specs.Walk.Working.{Working, cell_at, records_of, family_of}
use Rattle.pe_base.specs.Walk.Touches.{after_cell}
use Rattle.pe_base.specs.Walk.Touches as model
use Rattle.pe_stacks.specs.Holdings.{Holdings, stack_at, items_at, len_at, lent, popped}
use Rattle.pe_stacks.specs.Grid.{cell_input_stack}
use Rattle.pe_hang.specs.InHand.{map_holdings}
use Rattle.pe_hang.specs.Moves.{pop}
use Rattle.pe_base.specs.Steps.Stacks.{is_stack}
use Rattle.pe_base.proofs.Tree.Ranks.{same_places}
use Rattle.pe_adapt.specs.CountedTouches.{Machine}
use Rattle.pe_walk.specs.Machine.{cell_comes}
use Rattle.pe_walk.specs.Machine as machine
use Rattle.pe_order.specs.Tokens.{Tokens, given, taken, cell_source, is_top}
use Rattle.pe_order.specs.Tokens as tokens
use Rattle.pe_walk.specs.CoreKeeps.{AreAlike, KeepsParents}
use Rattle.pe_order.specs.CellsAhead.{CellsAhead}
use Rattle.pe_order.specs.Apart.{lies}
use Rattle.pe_order.specs.Outlooks.{was_stored}
use Rattle.pe_walk.specs.Standing.{ForeseenStart, Stage, per_cell, Stands, Fair, Owes, Holds, IsForeseenStart, IsStage, times}
use Rattle.pe_order.proofs.Tokens.Apart.{map_some, one_if, at_most_one}
use Rattle.pe_order.proofs.Tokens.CellsAhead.{steps_keep_ahead}
use Rattle.pe_order.proofs.Tokens.MoveFrames as frames
use Rattle.pe_order.proofs.Tokens.CountLists.{count-cons}
use Rattle.pe_order.proofs.Tokens.DepotCounts.{Took, take_counts}
use Rattle.pe_order.proofs.Tokens.Stacks.{popped_same, popped_other}
use Rattle.pe_order.proofs.Tokens.Keeping.{given_some}
use Rattle.pe_walk.proofs.Simulation.Matching.{Alike, core-matches, mapped-done, matches-same}
use Rattle.pe_walk.proofs.Simulation.Silent.{enter-silent}
use Rattle.pe_walk.proofs.Simulation.CoreLaws.{core_keeps}
use Rattle.pe_walk.proofs.Simulation.Below.{cell_found}
use Rattle.pe_walk.proofs.Simulation.Shared.{lend-image, pop-image, cells-image, owes-more}
use Rattle.pe_walk.proofs.Simulation.Leaves.{image_of, own_in_hand, record_of, records_from, streams, after_enter, EnterLeaf}
use Rattle.pe_walk.proofs.Simulation.Visits.Records.{Visited, visited, fair_visited, vertices_visited}
use Rattle.pe_order.proofs.Tokens.Bounds.{few_cell_input_stacks}

-- what a list has of a place that it begins with
pub times-here : (x : Place) (xs : List Place) (y : Place) → is_same x y ≡ true → times (x ∷ xs) y ≡ 1 + times xs y
times-here x xs y e = omega (arith, count-cons (λ other. is_same other y) x xs, ap {B = ℕ} one_if e)

pub times-there : (x : Place) (xs : List Place) (y : Place) → is_same x y ≡ false → times (x ∷ xs) y ≡ times xs y
times-there x xs y e = omega (arith, count-cons (λ other. is_same other y) x xs, ap {B = ℕ} one_if e)

-- a cell taken from a stack leaves no stack longer
pub len-taken : (from : Option ℕ) (place : Place) (held after : Holdings Place) → taken from place held ≡ Some after → (s : ℕ) → len_at after s ≤ len_at held s
len-taken None place held after e s = let same : lent held ≡ after = cc in subst (λ (h : Holdings Place). len_at h s ≤ len_at held s) same (omega arith)
len-taken (Some from) place held after e s =
    let g = given_some (is_top place (items_at held from)) (Some (popped held from)) after e in
    let same : popped held from ≡ after = cc (g.1) in
    subst (λ (h : Holdings Place). len_at h s ≤ len_at held s) same (by (items_at held from) refl g.0)
  where
    by : (xs : List Place) → items_at held from ≡ xs → is_top place xs ≡ true → len_at (popped held from) s ≤ len_at held s
    by [] q top = absurd (true≢false (sym top))
    by (x ∷ xs) q top = elim (cases_eq s from) [
      | inl here ↦ subst (λ n. len_at (popped held from) n ≤ len_at held n) (sym here) (omega (arith, ap length (popped_same held from x xs q), ap length q))
      | inr other ↦ omega (arith, ap length (popped_other held from s other))
    ]

module _ {Plan : Type 0} (set : Setting Plan) (e : ForeseenStart) (walked : Place → Bool) (is : IsForeseenStart set e walked) (st : Stage) (rest : List Place) (stage : IsStage set.axes e.outlook st)
    (all : st.from ≡ 0) (next : st.ahead ≡ st.cell ∷ rest) (owed : 1 ≤ st.owed) (counted : 1 ≤ st.counted) (w : Working) (t t' : Tokens) (h : Holds set e st w t) (runs : tokens.enter e.outlook st.cell t ≡ Some t') where
  abbrev kind : Kind
  kind = e.foresight.below st.parent

  -- the cells after it was taken
  took : (cells : Holdings Place) × (taken (cell_source e.outlook st.cell) st.cell t.cells ≡ Some cells) × (record t { cells = cells } ≡ t')
  took = map_some (λ cells. record t { cells = cells }) (taken (cell_source e.outlook st.cell) st.cell t.cells) t' runs

  fresh_few : t.cells.fresh < 2 ^ 63
  fresh_few = few_of t.cells.fresh h.owes.cell_fresh
    where
      few_of : (x : ℕ) → x + st.owed ≤ e.base + per_cell * w.tally.cells → x < 2 ^ 63
      few_of x below = let more : 34 * w.tally.cells ≤ 34 * set.max_cells = omega (arith, h.owes.cells) in omega (arith, is.bound, below, more)

  pops_few : (s : ℕ) → (stack_at t.cells s).pops < 2 ^ 63
  pops_few s = let more : 34 * w.tally.cells ≤ 34 * set.max_cells = omega (arith, h.owes.cells) in omega (arith, is.bound, h.owes.cell_pops s, more)

  -- the machine finds the cell's numbers, or makes them
  record Comes (room : Push → Type 0) (k : Kind) : Type 0 where
    numbers : List ℤ
    comes : cell_comes set (streams set e room) k (image_of set e st.parent w t) ≡ at_once (numbers, record (image_of set e st.parent w t) { cells = map_holdings (cell_at w) took.0 })
    same : (corners : List VertexRecord) (family : Family) → enter_touch set k numbers st.cell corners family ≡ enter_touch set k (cell_at w st.cell) st.cell corners family

  cell_popped : (cells : Holdings Place) → taken (Some (cell_input_stack e.outlook.swapped)) st.cell t.cells ≡ Some cells
      → pop (cell_input_stack e.outlook.swapped) (map_holdings (cell_at w) t.cells) ≡ at_once (cell_at w st.cell, map_holdings (cell_at w) cells)
  cell_popped cells q =
      let cin = cell_input_stack e.outlook.swapped in
      let g = given_some (is_top st.cell (items_at t.cells cin)) (Some (popped t.cells cin)) cells q in
      let same : popped t.cells cin ≡ cells = cc (g.1) in
      subst (λ after. pop cin (map_holdings (cell_at w) t.cells) ≡ at_once (cell_at w st.cell, map_holdings (cell_at w) after)) same (by (items_at t.cells cin) refl g.0)
    where
      by : (xs : List Place) → items_at t.cells (cell_input_stack e.outlook.swapped) ≡ xs → is_top st.cell xs ≡ true
          → pop (cell_input_stack e.outlook.swapped) (map_holdings (cell_at w) t.cells) ≡ at_once (cell_at w st.cell, map_holdings (cell_at w) (popped t.cells (cell_input_stack e.outlook.swapped)))
      by [] p top = absurd (true≢false (sym top))
      by (x ∷ xs) p top =
          let cin = cell_input_stack e.outlook.swapped in
          pop-image (cell_at w) t.cells cin x xs p (let some = few_cell_input_stacks e.outlook.swapped in omega (arith, some, h.stands.cell_stacks)) (pops_few cin)
          ∙ ap (λ c. at_once (cell_at w c, map_holdings (cell_at w) (popped t.cells cin))) (same_places x st.cell top)

  source_is : (b : Bool) → e.outlook.reads_cell st.cell ≡ b → taken (given b (Some (cell_input_stack e.outlook.swapped))) st.cell t.cells ≡ Some took.0
  source_is b q = subst (λ b. taken (given b (Some (cell_input_stack e.outlook.swapped))) st.cell t.cells ≡ Some took.0) q took.1

  comes : (room : Push → Type 0) (k : Kind) → is_hanging k ≡ false → e.outlook.reads_cell st.cell ≡ was_stored k → Comes room k
  comes room Hanging walked reads = absurd (true≢false walked)
  comes room Born walked reads =
      let made : lent t.cells ≡ took.0 = cc (source_is false reads) in
      record {
        numbers = [];
        comes = ap (course_map (λ cells. ([], record (image_of set e st.parent w t) { cells = cells }))) (lend-image (cell_at w) t.cells fresh_few)
            ∙ ap (λ cells. at_once ([], record (image_of set e st.parent w t) { cells = map_holdings (cell_at w) cells })) made;
        same = λ corners family. refl;
      }
  comes room Kept walked reads = record {
    numbers = cell_at w st.cell;
    comes = ap (course_map (λ it. (it.0, record (image_of set e st.parent w t) { cells = it.1 }))) (cell_popped took.0 (source_is true reads));
    same = λ corners family. refl;
  }
  comes room Dying walked reads = record {
    numbers = cell_at w st.cell;
    comes = ap (course_map (λ it. (it.0, record (image_of set e st.parent w t) { cells = it.1 }))) (cell_popped took.0 (source_is true reads));
    same = λ corners family. refl;
  }

  -- # What holds afterwards
  lies_less : (x : Place) → lies t'.cells x ≤ lies t.cells x
  lies_less x = let all = (frames.after_enter e.outlook st.cell t t' runs).its_lies x in omega (arith, all)

  same_vertices : t'.vertices ≡ t.vertices
  same_vertices = sym (ap (λ (x : Tokens). x.vertices) took.2)

  took_counts : Took (cell_source e.outlook st.cell) t.cells t'.cells
  took_counts = subst (λ c. Took (cell_source e.outlook st.cell) t.cells c) (ap (λ (x : Tokens). x.cells) took.2) (take_counts (cell_source e.outlook st.cell) st.cell t.cells took.0 took.1)

  ahead_here : CellsAhead e.outlook (st.cell ∷ rest) t
  ahead_here = subst (λ xs. CellsAhead e.outlook xs t) next h.stands.ahead

  after_ahead : CellsAhead e.outlook rest t' × (lies t'.cells st.cell ≡ 0) × (times rest st.cell ≡ 0)
  after_ahead = (steps_keep_ahead e.outlook).enters st.cell rest t t' runs ahead_here

  -- what was entered before is not this cell
  not_entered : (x : Place) → is_same st.cell x ≡ true → times st.entered x ≡ 0
  not_entered x same = by (times st.entered x) refl
    where
      by : (n : ℕ) → times st.entered x ≡ n → n ≡ 0
      by zero q = refl
      by (suc n) q =
          let none : times st.ahead x ≡ 0 = h.stands.entered_once x (omega (arith, q)) in
          absurd (omega (arith, none, ap (λ xs. times xs x) next, times-here st.cell rest x same))

  -- a place is the cell, or is as it was among those entered
  now_entered : (P : Place → Type 0) → ((x : Place) → is_same st.cell x ≡ true → P x) → ((x : Place) → is_same st.cell x ≡ false → 1 ≤ times st.entered x → P x)
      → (x : Place) → 1 ≤ times (st.cell ∷ st.entered) x → P x
  now_entered P here there x some = by (is_same st.cell x) refl
    where
      by : (b : Bool) → is_same st.cell x ≡ b → P x
      by true q = here x q
      by false q = there x q (omega (arith, some, times-there st.cell st.entered x q))

  stands : Stands set.axes e.outlook (after_enter rest st) t'
  stands = let s = h.stands in subst (λ (x : Tokens). Stands set.axes e.outlook (after_enter rest st) x) took.2 (record {
    apart = record { once = s.apart.once; unmet = s.apart.unmet };
    counting = s.counting;
    unmet = s.unmet;
    held_met = s.held_met;
    stacks = s.stacks;
    cell_stacks = counts_of.stacks ∙ s.cell_stacks;
    parents = s.parents;
    mine = s.mine;
    out = s.out;
    cells_out = omega (arith, counts_of.out, s.cells_out);
    parent_entered = entered_more st.parent s.parent_entered;
    entered_off = λ x some. now_entered (λ x. lies took.0 x ≡ 0) (λ x same. ap (lies took.0) (sym (same_places st.cell x same)) ∙ off st.cell after_ahead.1) (λ x other before. none x (s.entered_off x before)) x some;
    entered_once = λ x some. now_entered (λ x. times rest x ≡ 0) (λ x same. ap (times rest) (sym (same_places st.cell x same)) ∙ after_ahead.2)
        (λ x other before. omega (arith, s.entered_once x before, ap (λ xs. times xs x) next, times-there st.cell rest x other)) x some;
    entered_distinct = λ x. distinct x (is_same st.cell x) refl;
    ahead = subst (λ (x : Tokens). CellsAhead e.outlook rest x) (sym took.2) after_ahead.0;
  })
    where
      counts_of : Took (cell_source e.outlook st.cell) t.cells took.0
      counts_of = take_counts (cell_source e.outlook st.cell) st.cell t.cells took.0 took.1

      off : (x : Place) → lies t'.cells x ≡ 0 → lies took.0 x ≡ 0
      off x none = ap (λ (u : Tokens). lies u.cells x) took.2 ∙ none

      none : (x : Place) → lies t.cells x ≡ 0 → lies took.0 x ≡ 0
      none x before = off x (omega (arith, before, lies_less x))

      entered_more : (x : Place) → 1 ≤ times st.entered x → 1 ≤ times (st.cell ∷ st.entered) x
      entered_more x some = by (is_same st.cell x) refl
        where
          by : (b : Bool) → is_same st.cell x ≡ b → 1 ≤ times (st.cell ∷ st.entered) x
          by true q = omega (arith, times-here st.cell st.entered x q)
          by false q = omega (arith, some, times-there st.cell st.entered x q)

      distinct : (x : Place) (b : Bool) → is_same st.cell x ≡ b → times (st.cell ∷ st.entered) x ≤ 1
      distinct x true q = omega (arith, times-here st.cell st.entered x q, not_entered x q)
      distinct x false q = omega (arith, times-there st.cell st.entered x q, h.stands.entered_distinct x)

  -- # The working state with what the core left
  module _ (own : Own) (it : Family) (alike_own : AreAlike (set.rules.greatest set.plan) st.cell.level (records_of set.axes w st.cell) own.corners) (alike : KeepsParents set st.cell (records_of set.axes w st.parent) it.parents) where
    abbrev after : Working
    after = after_cell set st.parent st.cell (own, it) w

    seen : Visited set e st own it w (after_cell set st.parent st.cell (own, it) w) t
    seen = visited set e walked is st stage w t h all own it alike_own alike

    is_there : (x : Place) → is_some (at after.cells x) ≡ (nat_lt 0 (lies took.0 x) || nat_lt 0 (times (st.cell ∷ st.entered) x))
    is_there x = ap is_some (seen.cells x) ∙ by_parent (is_same st.parent x) refl (is_same st.cell x) refl
      where
        entered : 1 ≤ times (st.cell ∷ st.entered) x → true ≡ (nat_lt 0 (lies took.0 x) || nat_lt 0 (times (st.cell ∷ st.entered) x))
        entered some = sym (or_right (nat_lt 0 (lies took.0 x)) (nat_lt 0 (times (st.cell ∷ st.entered) x)) (lt-ltb 0 (times (st.cell ∷ st.entered) x) some))

        by_parent : (b : Bool) → is_same st.parent x ≡ b → (c : Bool) → is_same st.cell x ≡ c
            → is_some (if b then Some it.parent else if c then Some own.cell else at w.cells x) ≡ (nat_lt 0 (lies took.0 x) || nat_lt 0 (times (st.cell ∷ st.entered) x))
        by_parent true p c q = entered (subst (λ y. 1 ≤ times (st.cell ∷ st.entered) y) (same_places st.parent x p) stands.parent_entered)
        by_parent false p true q = entered (omega (arith, times-here st.cell st.entered x q))
        by_parent false p false q =
            h.fair.cells_there x
            ∙ ap₂ (λ a b. nat_lt 0 a || nat_lt 0 b) (sym lies_same) (sym (times-there st.cell st.entered x q))
          where
            lies_same : lies took.0 x ≡ lies t.cells x
            lies_same = ap (λ (u : Tokens). lies u.cells x) took.2 ∙ by (e.outlook.reads_cell st.cell) (is_same st.cell x) q ((frames.after_enter e.outlook st.cell t t' runs).its_lies x)
              where
                by : (b c : Bool) → c ≡ false → lies t'.cells x + (if b && c then 1 else 0) ≡ lies t.cells x → lies t'.cells x ≡ lies t.cells x
                by b true never sum = absurd (true≢false never)
                by true false never sum = omega (arith, sum)
                by false false never sum = omega (arith, sum)

    owes : Owes set.axes set.max_cells e (after_enter rest st) after.tally t'
    owes = subst (λ tally. Owes set.axes set.max_cells e (after_enter rest st) tally t') (sym seen.tally)
        (owes-more set.axes set.max_cells e st (after_enter rest st) w.tally w.tally t t' h.owes (record {
          cells = refl;
          read = omega arith;
          written = omega arith;
          created = omega arith;
          destroyed = omega arith;
          hanging = omega arith;
          fresh = omega (arith, ap (λ (x : Holdings Place). x.fresh) same_vertices);
          pushes = λ s. omega (arith, ap (λ (x : Holdings Place). (stack_at x s).pushes) same_vertices);
          pops = λ s. omega (arith, ap (λ (x : Holdings Place). (stack_at x s).pops) same_vertices);
          cell_fresh = omega (arith, took_counts.fresh, at_most_one (is_none (cell_source e.outlook st.cell)));
          cell_pushes = λ s. omega (arith, took_counts.pushes s);
          cell_pops = λ s. omega (arith, took_counts.pops s, at_most_one (is_stack s (cell_source e.outlook st.cell)));
        }) (omega (arith, owed)) (let long : length st.ahead ≡ length rest + 1 = ap length next ∙ plus (length rest) in omega (arith, long, counted))
        (λ s. omega (arith, ap (λ (x : Holdings Place). len_at x s) same_vertices))
        (λ s. let less = len-taken (cell_source e.outlook st.cell) st.cell t.cells took.0 took.1 s in
        omega (arith, less, ap (λ (x : Tokens). len_at x.cells s) took.2, counted)))
      where
        plus : (n : ℕ) → suc n ≡ n + 1
        plus n = omega arith

    holds : Holds set e (after_enter rest st) after t'
    holds = record {
      stands = stands;
      fair = subst (λ (u : Tokens). Fair set.axes (set.rules.greatest set.plan) e.outlook e.foresight (after_enter rest st) after u) took.2
          (fair_visited set e walked is st stage w t h all own it alike_own alike (st.owed - 1) (st.counted - 1) (st.cell ∷ st.entered) rest after.cells took.0 is_there);
      owes = owes;
    }

    -- the machine with what the core left is the image of it
    image_after : (own, record (record (image_of set e st.parent w t) { cells = map_holdings (cell_at w) took.0 }) { family = it }) ≡ own_in_hand set e (after_enter rest st) after t'
    image_after =
        let vertices = vertices_visited set e walked is st stage w t h all own it alike_own alike after.cells took.0 in
        let cells = cells-image w after took.0 (λ x some. seen.cells x ∙ ap₂ (λ a b. if a then Some it.parent else if b then Some own.cell else at w.cells x) (not_parent x some) (not_cell x some)) in
        λ i. (
          sym seen.own i,
          record {
            vertices = (sym vertices ∙ ap (λ (u : Tokens). map_holdings (record_of set e after u) u.vertices) took.2) i;
            cells = (sym cells ∙ ap (λ (u : Tokens). map_holdings (cell_at after) u.cells) took.2) i;
            family = sym seen.family i;
            tally = sym seen.tally i;
          },
        )
      where
        lies_took : (x : Place) → lies took.0 x ≡ lies t'.cells x
        lies_took x = ap (λ (u : Tokens). lies u.cells x) took.2

        not_parent : (x : Place) → 1 ≤ lies took.0 x → is_same st.parent x ≡ false
        not_parent x some = by (is_same st.parent x) refl
          where
            by : (b : Bool) → is_same st.parent x ≡ b → b ≡ false
            by false p = refl
            by true p =
                let none : lies t.cells x ≡ 0 = h.stands.entered_off x (subst (λ y. 1 ≤ times st.entered y) (same_places st.parent x p) h.stands.parent_entered) in
                absurd (omega (arith, some, none, lies_took x, lies_less x))

        not_cell : (x : Place) → 1 ≤ lies took.0 x → is_same st.cell x ≡ false
        not_cell x some = by (is_same st.cell x) refl
          where
            by : (b : Bool) → is_same st.cell x ≡ b → b ≡ false
            by false p = refl
            by true p = absurd (omega (arith, some, lies_took x, after_ahead.1, ap (λ y. lies t'.cells y) (same_places st.cell x p)))

  -- # Model and machine
  abbrev core : Course (Own × Family)
  core = enter_touch set kind (cell_at w st.cell) st.cell (records_of set.axes w st.cell) (family_of set.axes w st.parent)

  alike_after : (r : Own × Family) → (enter_touch set kind (cell_at w st.cell) st.cell (records_of set.axes w st.cell) (family_of set.axes w st.parent)).ending ≡ done r
      → AreAlike (set.rules.greatest set.plan) st.cell.level (records_of set.axes w st.cell) r.0.corners × KeepsParents set st.cell (records_of set.axes w st.parent) r.1.parents
  alike_after r ends = (core_keeps set is.foresees.lawful).enters kind (cell_at w st.cell) st.cell (records_of set.axes w st.cell) (family_of set.axes w st.parent) r ends

  pub entered_steps : (room : Push → Type 0)
      → Alike room (own_in_hand set e (after_enter rest st)) (Holds set e (after_enter rest st)) (model.enter_cell set st.parent st.cell w)
      (machine.enter_cell set (streams set e room) st.cell (records_of set.axes w st.cell) (image_of set e st.parent w t)) t'
  entered_steps room =
      let found = cell_found set e walked is st w t h stage in
      let walked_kind : is_hanging kind ≡ false = is_walked (is_hanging kind) (sym (is.foresees.walks st.parent) ∙ stage.walked) in
      let come = comes room kind walked_kind (is.foresees.reads_cell st.cell stage.deep ∙ ap (λ p. was_stored (e.foresight.below p)) stage.above) in
      let m' : Machine = record (image_of set e st.parent w t) { cells = map_holdings (cell_at w) took.0 } in
      subst (λ (c : Course Working). Alike room (own_in_hand set e (after_enter rest st)) (Holds set e (after_enter rest st)) c
      (machine.enter_cell set (streams set e room) st.cell (records_of set.axes w st.cell) (image_of set e st.parent w t)) t')
      (ap (λ k. course_map (λ it. after_cell set st.parent st.cell it w) (enter_touch set k (cell_at w st.cell) st.cell (records_of set.axes w st.cell) (family_of set.axes w st.parent))) (sym found.by_map))
      (record {
        same = matches-same room (λ u. own_in_hand set e (after_enter rest st) u t')
            (course_map (λ it. after_cell set st.parent st.cell it w) core)
            (course_map (λ it. (it.0, record m' { family = it.1 })) core)
            (machine.enter_cell set (streams set e room) st.cell (records_of set.axes w st.cell) (image_of set e st.parent w t))
            (sym (
            ap (λ k. and_then (cell_comes set (streams set e room) k (image_of set e st.parent w t)) (λ c. course_map (λ it. (it.0, record c.1 { family = it.1 })) (enter_touch set k c.0 st.cell (records_of set.axes w st.cell) c.1.family))) found.by_hand
            ∙ ap (λ course. and_then course (λ c. course_map (λ it. (it.0, record c.1 { family = it.1 })) (enter_touch set kind c.0 st.cell (records_of set.axes w st.cell) c.1.family))) come.comes
            ∙ ap (course_map (λ it. (it.0, record m' { family = it.1 }))) (come.same (records_of set.axes w st.cell) (family_of set.axes w st.parent))
            ))
            (core-matches room (λ u. own_in_hand set e (after_enter rest st) u t') core (λ it. after_cell set st.parent st.cell it w) (λ it. (it.0, record m' { family = it.1 }))
            (enter-silent set kind (cell_at w st.cell) st.cell (records_of set.axes w st.cell) (family_of set.axes w st.parent))
            (λ r ends. let alike = alike_after r ends in image_after r.0 r.1 alike.0 alike.1));
        holds = λ u ends. let at = mapped-done core (λ it. after_cell set st.parent st.cell it w) u ends in let alike = alike_after at.0 at.1 in
            subst (λ x. Holds set e (after_enter rest st) x t') (sym at.2) (holds at.0.0 at.0.1 alike.0 alike.1);
      })
    where
      is_walked : (b : Bool) → not b ≡ true → b ≡ false
      is_walked true q = absurd (true≢false (sym q))
      is_walked false q = refl

-- all corners in hand are those from the first on
pub all_records : {Plan : Type 0} (set : Setting Plan) (e : ForeseenStart) (w : Working) (cell : Place) (from : ℕ) → from ≡ 0 → records_of set.axes w cell ≡ records_from set e w cell from (2 ^ set.axes - from)
all_records set e w cell from all =
    ap (records_from set e w cell 0) (let whole : 2 ^ set.axes ≡ 2 ^ set.axes - 0 = omega arith in whole) ∙ ap (λ n. records_from set e w cell n (2 ^ set.axes - n)) (sym all)

pub enter_leaf : {Plan : Type 0} (set : Setting Plan) (e : ForeseenStart) (walked : Place → Bool) (room : Push → Type 0) → IsForeseenStart set e walked → EnterLeaf set e room
enter_leaf set e walked room is st rest stage all next owed counted w t t' h runs =
    subst (λ records. Alike room (own_in_hand set e (after_enter rest st)) (Holds set e (after_enter rest st)) (model.enter_cell set st.parent st.cell w)
    (machine.enter_cell set (streams set e room) st.cell records (image_of set e st.parent w t)) t') (all_records set e w st.cell st.from all)
    (entered_steps set e walked is st rest stage all next owed counted w t t' h runs room)
