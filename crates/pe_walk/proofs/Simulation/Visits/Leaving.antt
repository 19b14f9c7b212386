-- A cell is left: its events are fired, and its numbers go to the output, or are given up.
use Rattle.std.proofs.Common.{◌≡◌, ℕ, ℤ, suc, ◌+◌, ◌-◌, ◌*◌, ◌^◌, ◌<◌, ◌≤◌, ◌≢◌, Bool, true, false, not, ◌&&◌, ◌||◌, ◌==◌, List, [], ◌∷◌, length, Some, None, refl, sym, ap, ap₂, subst, ◌∙◌, arith, is_some, true≢false, if◌then◌else◌}
use Rattle.std.specs.Prelude.{nat_lt}
use Rattle.std.specs.Option.{unwrap_or}
use Rattle.std.proofs.lemmas.Bool.{lt-ltb, eq-eqb, or_right}
use Rattle.pe_base.specs.declared.place.Place.{Place}
use Rattle.pe_base.specs.declared.kind.Kind.{Kind}
use Rattle.pe_base.specs.declared.kind.Kind.TheVariants.{Kept, Born, Dying, Hanging}
use Rattle.pe_base.specs.Tree.Dim.{IsDim}
use Rattle.pe_base.specs.Tree.Places.{is_same}
use Rattle.pe_base.specs.Life.States.{is_stored}
use Rattle.pe_base.specs.Life.Kinds.{is_hanging}
use Rattle.pe_base.specs.Steps.Stacks.{is_stack}
use Rattle.pe_base.specs.Walk.Maps.{Map, at, removed}
use Rattle.pe_base.specs.Walk.Course.{Push, Course, done, at_once, and_then, course_map}
use Rattle.pe_base.specs.Walk.Core.{Setting, Family, Own, leave_touch}
use Rattle.pe_base.specs.Walk.Working.{Working, cell_at, records_of, family_of, own_of}
use Rattle.pe_base.specs.Walk.Touches.{after_cell, put_left}
use Rattle.pe_base.specs.Walk.Touches as model
use Rattle.pe_base.proofs.Steps.VertexTouches.{is_same_itself}
use Rattle.pe_base.proofs.Walk.MapLaws.{at-removed}
use Rattle.pe_base.proofs.Tree.Ranks.{same_places}
use Rattle.pe_stacks.specs.Holdings.{Holdings, stack_count, stack_at, items_at, len_at, given_up, pushed}
use Rattle.pe_stacks.specs.Grid.{cell_input_stack, cell_output_stack}
use Rattle.pe_hang.specs.InHand.{map_holdings}
use Rattle.pe_hang.specs.Moves.{give_up, push}
use Rattle.pe_adapt.specs.CountedTouches.{Machine}
use Rattle.pe_walk.specs.Machine.{cell_goes}
use Rattle.pe_adapt.specs.CountedTouches as counted
use Rattle.pe_walk.specs.Machine as machine
use Rattle.pe_order.specs.Tokens.{Tokens, given, put, cell_target}
use Rattle.pe_order.specs.Tokens as tokens
use Rattle.pe_walk.specs.CoreKeeps.{AreAlike, KeepsParents}
use Rattle.pe_order.specs.CellsAhead.{CellsAhead}
use Rattle.pe_order.specs.Apart.{lies}
use Rattle.pe_order.specs.Frames.{AfterLeave}
use Rattle.pe_walk.specs.Gridded.{stream_stacks_of}
use Rattle.pe_walk.specs.Standing.{ForeseenStart, Stage, Stands, Fair, Owes, Holds, HasRoom, IsForeseenStart, IsStage, times}
use Rattle.pe_order.proofs.Tokens.CellsAhead.{steps_keep_ahead}
use Rattle.pe_order.proofs.Tokens.MoveFrames as frames
use Rattle.pe_order.proofs.Tokens.DepotCounts.{Gave, put_counts}
use Rattle.pe_walk.proofs.Simulation.Matching.{Matches, Alike, core-then-matches, mapped-done, matches-same}
use Rattle.pe_walk.proofs.Simulation.Silent.{leave-silent}
use Rattle.pe_walk.proofs.Simulation.CoreLaws.{core_keeps}
use Rattle.pe_walk.proofs.Simulation.Below.{cell_found}
use Rattle.pe_walk.proofs.Simulation.Shared.{give_up-image, push-image, cells-image, owes-more}
use Rattle.pe_walk.proofs.Simulation.Leaves.{image_of, in_hand, record_of, records_from, streams, after_leave, LeaveLeaf}
use Rattle.pe_walk.proofs.Simulation.Levels.{levels_differ}
use Rattle.pe_walk.proofs.Simulation.Visits.Records.{Visited, visited, fair_visited, vertices_visited, stage_levels}
use Rattle.pe_walk.proofs.Simulation.Visits.Entering.{times-here, times-there, all_records}
use Rattle.pe_order.proofs.Tokens.Bounds.{few_cell_stacks}
use Rattle.pe_order.proofs.Tokens.Apart.{at_most_one}

-- the cells that are there after one was left
abbrev left_map : Place → Kind → Map (List ℤ) → Map (List ℤ)
left_map cell Dying cells = removed cells cell
left_map cell Kept cells = cells
left_map cell Born cells = cells
left_map cell Hanging cells = cells

put_left-is : {Plan : Type 0} (set : Setting Plan) (cell : Place) (k : Kind) (w : Working) → put_left set k cell w ≡ record w { cells = left_map cell k w.cells }
put_left-is set cell Dying w = refl
put_left-is set cell Kept w = refl
put_left-is set cell Born w = refl
put_left-is set cell Hanging w = refl

left_at : (cell : Place) (k : Kind) (cells : Map (List ℤ)) (x : Place) → at (left_map cell k cells) x ≡ (if is_same cell x && not (is_stored k || is_hanging k) then None else at cells x)
left_at cell Dying cells x = at-removed cells cell x ∙ ap (λ b. if b then None else at cells x) (whole (is_same cell x))
  where
    whole : (b : Bool) → b ≡ (b && true)
    whole true = refl
    whole false = refl
left_at cell Kept cells x = stays (is_same cell x)
  where
    stays : (b : Bool) → at cells x ≡ (if b && false then None else at cells x)
    stays true = refl
    stays false = refl
left_at cell Born cells x = stays (is_same cell x)
  where
    stays : (b : Bool) → at cells x ≡ (if b && false then None else at cells x)
    stays true = refl
    stays false = refl
left_at cell Hanging cells x = stays (is_same cell x)
  where
    stays : (b : Bool) → at cells x ≡ (if b && false then None else at cells x)
    stays true = refl
    stays false = refl

module _ {Plan : Type 0} (set : Setting Plan) (e : ForeseenStart) (walked : Place → Bool) (is : IsForeseenStart set e walked) (st : Stage) (outer : List Place) (stage : IsStage set.axes e.outlook st)
    (all : st.from ≡ 0) (opened : st.entered ≡ st.cell ∷ outer) (owed : 1 ≤ st.owed) (w : Working) (t t' : Tokens) (h : Holds set e st w t) (runs : tokens.leave e.outlook st.cell t ≡ Some t') where
  abbrev kind : Kind
  kind = e.foresight.below st.parent

  abbrev places : Holdings Place
  places = put (cell_target e.outlook st.cell) st.cell t.cells

  is_left : record t { cells = places } ≡ t'
  is_left = cc

  leaves : AfterLeave e.outlook st.cell t t'
  leaves = frames.after_leave e.outlook (subst IsDim (sym is.foresees.axes) is.foresees.dim) st.cell t t' (record { vertices = h.stands.stacks; cells = h.stands.cell_stacks }) runs

  walked_kind : is_hanging kind ≡ false
  walked_kind = is_walked (is_hanging kind) (sym (is.foresees.walks st.parent) ∙ stage.walked)
    where
      is_walked : (b : Bool) → not b ≡ true → b ≡ false
      is_walked true q = absurd (true≢false (sym q))
      is_walked false q = refl

  writes : e.outlook.writes_cell st.cell ≡ is_stored kind
  writes = is.foresees.writes_cell st.cell stage.deep ∙ ap (λ p. is_stored (e.foresight.below p)) stage.above

  open_times : (x : Place) → times st.entered x ≡ times (st.cell ∷ outer) x
  open_times x = ap (λ xs. times xs x) opened

  not_outer : times outer st.cell ≡ 0
  not_outer = let one = h.stands.entered_distinct st.cell in omega (arith, one, open_times st.cell, times-here st.cell outer st.cell (is_same_itself st.cell))

  other_of : (x : Place) → 1 ≤ times outer x → is_same st.cell x ≡ false
  other_of x some = by (is_same st.cell x) refl
    where
      by : (b : Bool) → is_same st.cell x ≡ b → b ≡ false
      by false q = refl
      by true q = absurd (omega (arith, some, not_outer, ap (times outer) (same_places st.cell x q)))

  outer_entered : (x : Place) → 1 ≤ times outer x → 1 ≤ times st.entered x
  outer_entered x some = omega (arith, some, open_times x, times-there st.cell outer x (other_of x some))

  parent_other : is_same st.cell st.parent ≡ false
  parent_other = levels_differ st.cell st.parent (λ same. absurd (stage_levels set e walked is st stage (sym same)))

  parent_outer : 1 ≤ times outer st.parent
  parent_outer = omega (arith, h.stands.parent_entered, open_times st.parent, times-there st.cell outer st.parent parent_other)

  cell_off : lies t.cells st.cell ≡ 0
  cell_off = h.stands.entered_off st.cell (omega (arith, open_times st.cell, times-here st.cell outer st.cell (is_same_itself st.cell)))

  lies_other : (x : Place) → is_same st.cell x ≡ false → lies t'.cells x ≡ lies t.cells x
  lies_other x other = by (e.outlook.writes_cell st.cell) (is_same st.cell x) other (leaves.its_lies x)
    where
      by : (b c : Bool) → c ≡ false → lies t'.cells x ≡ lies t.cells x + (if b && c then 1 else 0) → lies t'.cells x ≡ lies t.cells x
      by b true never sum = absurd (true≢false never)
      by true false never sum = omega (arith, sum)
      by false false never sum = omega (arith, sum)

  some_out : 1 ≤ t.cells.out
  some_out = let more = longer outer parent_outer in let long = ap length opened in omega (arith, h.stands.cells_out, long, more)
    where
      longer : (xs : List Place) → 1 ≤ times xs st.parent → 1 ≤ length xs
      longer [] none = absurd (omega (arith, none))
      longer (x ∷ xs) some = omega arith

  stands : Stands set.axes e.outlook (after_leave outer st) t'
  stands = let s = h.stands in subst (λ (u : Tokens). Stands set.axes e.outlook (after_leave outer st) u) is_left (record {
    apart = record { once = s.apart.once; unmet = s.apart.unmet };
    counting = s.counting;
    unmet = s.unmet;
    held_met = s.held_met;
    stacks = s.stacks;
    cell_stacks = ap (λ (u : Tokens). stack_count u.cells) is_left ∙ leaves.stacks ∙ s.cell_stacks;
    parents = s.parents;
    mine = s.mine;
    out = s.out;
    cells_out = let long = ap length opened in omega (arith, ap (λ (u : Tokens). u.cells.out) is_left, leaves.out, s.cells_out, long, some_out);
    parent_entered = parent_outer;
    entered_off = λ x some. ap (λ (u : Tokens). lies u.cells x) is_left ∙ lies_other x (other_of x some) ∙ s.entered_off x (outer_entered x some);
    entered_once = λ x some. s.entered_once x (outer_entered x some);
    entered_distinct = λ x. fewer x (is_same st.cell x) refl;
    ahead = subst (λ (u : Tokens). CellsAhead e.outlook st.ahead u) (sym is_left)
        ((steps_keep_ahead e.outlook).leaves st.cell st.ahead t t' runs (s.entered_once st.cell (omega (arith, open_times st.cell, times-here st.cell outer st.cell (is_same_itself st.cell)))) s.ahead);
  })
    where
      fewer : (x : Place) (b : Bool) → is_same st.cell x ≡ b → times outer x ≤ 1
      fewer x true q = omega (arith, h.stands.entered_distinct x, open_times x, times-here st.cell outer x q)
      fewer x false q = omega (arith, h.stands.entered_distinct x, open_times x, times-there st.cell outer x q)

  -- # The working state with what the core left
  module _ (own : Own) (it : Family) (alike_own : AreAlike (set.rules.greatest set.plan) st.cell.level (records_of set.axes w st.cell) own.corners) (alike : KeepsParents set st.cell (records_of set.axes w st.parent) it.parents) where
    abbrev back : Working
    back = after_cell set st.parent st.cell (own, it) w

    abbrev after : Working
    after = record (after_cell set st.parent st.cell (own, it) w) { cells = left_map st.cell kind (after_cell set st.parent st.cell (own, it) w).cells }

    seen : Visited set e st own it w (after_cell set st.parent st.cell (own, it) w) t
    seen = visited set e walked is st stage w t h all own it alike_own alike

    -- the cell stays where it is stored
    found : (x : Place) → at after.cells x ≡ (if is_same st.parent x then Some it.parent else if is_same st.cell x then (if is_stored kind then Some own.cell else None) else at w.cells x)
    found x =
        left_at st.cell kind back.cells x ∙ ap (λ y. if is_same st.cell x && not (is_stored kind || is_hanging kind) then None else y) (seen.cells x)
        ∙ by (is_same st.parent x) refl (is_same st.cell x) refl (is_stored kind) (is_hanging kind) walked_kind
      where
        by : (b : Bool) → is_same st.parent x ≡ b → (c : Bool) → is_same st.cell x ≡ c → (d hangs : Bool) → hangs ≡ false
            → (if c && not (d || hangs) then None else (if b then Some it.parent else if c then Some own.cell else at w.cells x))
            ≡ (if b then Some it.parent else if c then (if d then Some own.cell else None) else at w.cells x)
        by b p c q d true never = absurd (true≢false never)
        by true p true q d false never = absurd (true≢false (sym (subst (λ y. is_same st.cell y ≡ true) (sym (same_places st.parent x p)) q) ∙ parent_other))
        by true p false q d false never = refl
        by false p true q true false never = refl
        by false p true q false false never = refl
        by false p false q d false never = refl

    is_there : (x : Place) → is_some (at after.cells x) ≡ (nat_lt 0 (lies places x) || nat_lt 0 (times outer x))
    is_there x = ap is_some (found x) ∙ by (is_same st.parent x) refl (is_same st.cell x) refl
      where
        lies_places : lies places x ≡ lies t'.cells x
        lies_places = ap (λ (u : Tokens). lies u.cells x) is_left

        here : (d : Bool) → is_same st.cell x ≡ true → e.outlook.writes_cell st.cell ≡ d → is_some (if d then Some own.cell else None) ≡ (nat_lt 0 (lies places x) || nat_lt 0 (times outer x))
        here d q stored =
            let sum : lies t'.cells x ≡ lies t.cells x + (if d && true then 1 else 0) = leaves.its_lies x ∙ ap₂ (λ a b. lies t.cells x + (if a && b then 1 else 0)) stored q in
            let none : times outer x ≡ 0 = ap (times outer) (sym (same_places st.cell x q)) ∙ not_outer in
            let off : lies t.cells x ≡ 0 = ap (λ y. lies t.cells y) (sym (same_places st.cell x q)) ∙ cell_off in
            by_stored d sum none off
          where
            by_stored : (d : Bool) → lies t'.cells x ≡ lies t.cells x + (if d && true then 1 else 0) → times outer x ≡ 0 → lies t.cells x ≡ 0
                → is_some (if d then Some own.cell else None) ≡ (nat_lt 0 (lies places x) || nat_lt 0 (times outer x))
            by_stored true sum none off = let one : lies places x ≡ 1 = omega (arith, lies_places, sum, off) in sym (ap₂ (λ a b. nat_lt 0 a || nat_lt 0 b) one none)
            by_stored false sum none off = let zero_ : lies places x ≡ 0 = omega (arith, lies_places, sum, off) in sym (ap₂ (λ a b. nat_lt 0 a || nat_lt 0 b) zero_ none)

        by : (b : Bool) → is_same st.parent x ≡ b → (c : Bool) → is_same st.cell x ≡ c
            → is_some (if b then Some it.parent else if c then (if is_stored kind then Some own.cell else None) else at w.cells x) ≡ (nat_lt 0 (lies places x) || nat_lt 0 (times outer x))
        by true p c q = sym (or_right (nat_lt 0 (lies places x)) (nat_lt 0 (times outer x)) (lt-ltb 0 (times outer x) (subst (λ y. 1 ≤ times outer y) (same_places st.parent x p) parent_outer)))
        by false p true q = here (is_stored kind) q writes
        by false p false q =
            h.fair.cells_there x
            ∙ ap₂ (λ a b. nat_lt 0 a || nat_lt 0 b) (sym (lies_places ∙ lies_other x q)) (open_times x ∙ times-there st.cell outer x q)

    owes : Owes set.axes set.max_cells e (after_leave outer st) after.tally t'
    owes = subst (λ tally. Owes set.axes set.max_cells e (after_leave outer st) tally t') (sym seen.tally)
        (owes-more set.axes set.max_cells e st (after_leave outer st) w.tally w.tally t t' h.owes (record {
          cells = refl;
          read = omega arith;
          written = omega arith;
          created = omega arith;
          destroyed = omega arith;
          hanging = omega arith;
          fresh = omega (arith, ap (λ (x : Holdings Place). x.fresh) leaves.vertices);
          pushes = λ s. omega (arith, ap (λ (x : Holdings Place). (stack_at x s).pushes) leaves.vertices);
          pops = λ s. omega (arith, ap (λ (x : Holdings Place). (stack_at x s).pops) leaves.vertices);
          cell_fresh = omega (arith, gave.fresh);
          cell_pushes = λ s. omega (arith, gave.pushes s, at_most_one (is_stack s (cell_target e.outlook st.cell)));
          cell_pops = λ s. omega (arith, gave.pops s);
        }) (omega (arith, owed)) refl
        (λ s. omega (arith, ap (λ (x : Holdings Place). len_at x s) leaves.vertices))
        (λ s. let long = ap length opened in omega (arith, len_left s, long)))
      where
        gave : Gave (cell_target e.outlook st.cell) t.cells t'.cells
        gave = subst (λ c. Gave (cell_target e.outlook st.cell) t.cells c) (ap (λ (u : Tokens). u.cells) is_left)
            (put_counts (cell_target e.outlook st.cell) st.cell t.cells (λ s q. within (e.outlook.writes_cell st.cell) s q))
          where
            within : (d : Bool) (s : ℕ) → given d (Some (cell_output_stack e.outlook.swapped)) ≡ Some s → s < stack_count t.cells
            within true s q = let same : cell_output_stack e.outlook.swapped ≡ s = cc in let low = few_cell_stacks e.outlook.swapped in omega (arith, same, low, h.stands.cell_stacks)
            within false s q = absurd cc

        len_left : (s : ℕ) → len_at t'.cells s ≤ len_at t.cells s + 1
        len_left s = by (is_stack s (cell_target e.outlook st.cell)) (ap length (leaves.items s))
          where
            by : (b : Bool) → len_at t'.cells s ≡ length (if b then st.cell ∷ items_at t.cells s else items_at t.cells s) → len_at t'.cells s ≤ len_at t.cells s + 1
            by true q = omega (arith, q)
            by false q = omega (arith, q)

    pub holds_left : Holds set e (after_leave outer st) after t'
    holds_left = record {
      stands = stands;
      fair = subst (λ (u : Tokens). Fair set.axes (set.rules.greatest set.plan) e.outlook e.foresight (after_leave outer st) after u) is_left
          (fair_visited set e walked is st stage w t h all own it alike_own alike (st.owed - 1) st.counted outer st.ahead after.cells places is_there);
      owes = owes;
    }

    -- cells on stacks are as they were
    cells_same : map_holdings (cell_at w) t.cells ≡ map_holdings (cell_at after) t.cells
    cells_same = sym (cells-image w after t.cells (λ x some. found x
        ∙ ap₂ (λ a b. if a then Some it.parent else if b then (if is_stored kind then Some own.cell else None) else at w.cells x) (off st.parent x some parent_off) (off st.cell x some cell_off)))
      where
        parent_off : lies t.cells st.parent ≡ 0
        parent_off = h.stands.entered_off st.parent h.stands.parent_entered

        off : (y x : Place) → 1 ≤ lies t.cells x → lies t.cells y ≡ 0 → is_same y x ≡ false
        off y x some none = by (is_same y x) refl
          where
            by : (b : Bool) → is_same y x ≡ b → b ≡ false
            by false p = refl
            by true p = absurd (omega (arith, some, none, ap (lies t.cells) (same_places y x p)))

    -- the image of what is left
    left_image : map_holdings (cell_at after) places ≡ (image_of set e st.parent after t').cells
    left_image = ap (λ (u : Tokens). map_holdings (cell_at after) u.cells) is_left

    abbrev left_machine : Holdings (List ℤ) → Machine
    left_machine cells = record (record (image_of set e st.parent w t) { family = it }) { cells = cells }

    image_after : (own.corners, left_machine (map_holdings (cell_at after) places)) ≡ in_hand set e (after_leave outer st) after t'
    image_after =
        let vertices = vertices_visited set e walked is st stage w t h all own it alike_own alike after.cells places in
        let corners : own.corners ≡ records_from set e after st.cell st.from (2 ^ set.axes - st.from) = sym (ap (λ (o : Own). o.corners) seen.own) ∙ all_records set e after st.cell st.from all in
        λ i. (
          corners i,
          record {
            vertices = (sym vertices ∙ ap (λ (u : Tokens). map_holdings (record_of set e after u) u.vertices) is_left) i;
            cells = left_image i;
            family = (sym family_after) i;
            tally = sym seen.tally i;
          },
        )
      where
        family_after : family_of set.axes after st.parent ≡ it
        family_after = (λ i. record {
          parents = records_of set.axes back st.parent;
          parent = (sym kept) i;
          list = back.list;
        }) ∙ seen.family
          where
            kept : cell_at back st.parent ≡ cell_at after st.parent
            kept = ap (λ o. unwrap_or o []) (sym (left_at st.cell kind back.cells st.parent
                ∙ ap (λ b. if b && not (is_stored kind || is_hanging kind) then None else at back.cells st.parent) parent_other))

    -- the numbers of what is stored are pushed on the output
    push_on : (room : Push → Type 0) → HasRoom set e room → is_stored kind ≡ true
        → Matches room (λ u. in_hand set e (after_leave outer st) u t') (at_once after)
        (course_map (λ m. (own.corners, m)) (course_map (λ cells. left_machine cells) (push true (counted.cell_output (streams set e room)) own.cell (map_holdings (cell_at w) t.cells))))
    push_on room has stored =
        matches-same room (λ u. in_hand set e (after_leave outer st) u t') (at_once after)
        (record { text = []; log = record { of_cell = true; stack = (cell_output_stack e.outlook.swapped); length = len_at t.cells (cell_output_stack e.outlook.swapped) + 1 } ∷ []; ending = done (own.corners, left_machine (map_holdings (cell_at after) (pushed t.cells (cell_output_stack e.outlook.swapped) st.cell))) }) _
        (sym (
        ap₂ (λ s c. course_map (λ m. (own.corners, m)) (course_map (λ cells. left_machine cells) (push true s own.cell c))) (outputs e.outlook.swapped) cells_same
        ∙ ap (λ n. course_map (λ m. (own.corners, m)) (course_map (λ cells. left_machine cells) (push true (cell_output_stack e.outlook.swapped) n (map_holdings (cell_at after) t.cells)))) (sym numbers)
        ∙ ap (λ c. course_map (λ m. (own.corners, m)) (course_map (λ cells. left_machine cells) c)) (push-image (cell_at after) true t.cells (cell_output_stack e.outlook.swapped) st.cell low few some_out)
        ))
        (record { text = refl; ending = ap done (ap (λ p. (own.corners, left_machine (map_holdings (cell_at after) p))) pushed_places ∙ image_after); log = (roomy, tt) })
      where
        outputs : (b : Bool) → 1 - (stream_stacks_of b).cell_input ≡ cell_output_stack b
        outputs true = refl
        outputs false = refl

        low : cell_output_stack e.outlook.swapped < stack_count t.cells
        low = let below = few_cell_stacks e.outlook.swapped in omega (arith, below, h.stands.cell_stacks)

        few : (stack_at t.cells (cell_output_stack e.outlook.swapped)).pushes < 2 ^ 63
        few = let more : 34 * w.tally.cells ≤ 34 * set.max_cells = omega (arith, h.owes.cells) in omega (arith, is.bound, h.owes.cell_pushes (cell_output_stack e.outlook.swapped), more)

        writes_it : e.outlook.writes_cell st.cell ≡ true
        writes_it = writes ∙ stored

        pushed_places : pushed t.cells (cell_output_stack e.outlook.swapped) st.cell ≡ places
        pushed_places = ap (λ d. put (given d (Some (cell_output_stack e.outlook.swapped))) st.cell t.cells) (sym writes_it)

        numbers : cell_at after st.cell ≡ own.cell
        numbers = ap (λ o. unwrap_or o []) (found st.cell
            ∙ ap₂ (λ a b. if a then Some it.parent else if b then (if is_stored kind then Some own.cell else None) else at w.cells st.cell) (levels_differ st.parent st.cell (stage_levels set e walked is st stage)) (is_same_itself st.cell)
            ∙ ap (λ d. if d then Some own.cell else None) stored)

        other : (b : Bool) → cell_output_stack b ≢ cell_input_stack b
        other true e = absurd cc
        other false e = absurd cc

        roomy : room (record { of_cell = true; stack = cell_output_stack e.outlook.swapped; length = len_at t.cells (cell_output_stack e.outlook.swapped) + 1 })
        roomy = subst (λ n. room (record { of_cell = true; stack = cell_output_stack e.outlook.swapped; length = n })) longer
            (has.cells (after_leave outer st) after t' holds_left (cell_output_stack e.outlook.swapped) (few_cell_stacks e.outlook.swapped) (other e.outlook.swapped))
          where
            longer : len_at t'.cells (cell_output_stack e.outlook.swapped) ≡ len_at t.cells (cell_output_stack e.outlook.swapped) + 1
            longer =
                ap length (leaves.items (cell_output_stack e.outlook.swapped)
                ∙ ap (λ b. if b then st.cell ∷ items_at t.cells (cell_output_stack e.outlook.swapped) else items_at t.cells (cell_output_stack e.outlook.swapped))
                (ap (λ d. is_stack (cell_output_stack e.outlook.swapped) (given d (Some (cell_output_stack e.outlook.swapped)))) writes_it ∙ itself (cell_output_stack e.outlook.swapped)))
                ∙ plus (len_at t.cells (cell_output_stack e.outlook.swapped))
              where
                itself : (n : ℕ) → (n == n) ≡ true
                itself n = eq-eqb n n refl

                plus : (n : ℕ) → suc n ≡ n + 1
                plus n = omega arith

    -- the machine puts the numbers on the output, or gives them up
    goes : (room : Push → Type 0) → HasRoom set e room → (k : Kind) → kind ≡ k
        → Matches room (λ u. in_hand set e (after_leave outer st) u t') (at_once after) (course_map (λ m. (own.corners, m)) (cell_goes set (streams set e room) k own.cell (record (image_of set e st.parent w t) { family = it })))
    goes room has Hanging q = absurd (true≢false (sym (ap is_hanging q) ∙ walked_kind))
    goes room has Dying q =
        matches-same room (λ u. in_hand set e (after_leave outer st) u t') (at_once after) (at_once (own.corners, left_machine (map_holdings (cell_at after) places))) _
        (sym (
        ap (λ c. course_map (λ m. (own.corners, m)) (course_map (λ cells. left_machine cells) (give_up c))) cells_same
        ∙ ap (λ c. course_map (λ m. (own.corners, m)) (course_map (λ cells. left_machine cells) c)) (give_up-image (cell_at after) t.cells some_out)
        ∙ ap (λ p. at_once (own.corners, left_machine (map_holdings (cell_at after) p))) (given_up_places (e.outlook.writes_cell st.cell) (writes ∙ ap is_stored q))
        ))
        (record { text = refl; ending = ap done image_after; log = tt })
      where
        given_up_places : (d : Bool) → d ≡ false → given_up t.cells ≡ put (given d (Some (cell_output_stack e.outlook.swapped))) st.cell t.cells
        given_up_places true never = absurd (true≢false never)
        given_up_places false never = refl
    goes room has Kept q = push_on room has (ap is_stored q)
    goes room has Born q = push_on room has (ap is_stored q)

  -- # Model and machine
  abbrev core : Course (Own × Family)
  core = leave_touch set kind st.cell (own_of set.axes w st.cell) (family_of set.axes w st.parent)

  alike_after : (r : Own × Family) → (leave_touch set kind st.cell (own_of set.axes w st.cell) (family_of set.axes w st.parent)).ending ≡ done r
      → AreAlike (set.rules.greatest set.plan) st.cell.level (records_of set.axes w st.cell) r.0.corners × KeepsParents set st.cell (records_of set.axes w st.parent) r.1.parents
  alike_after r ends = (core_keeps set is.foresees.lawful).leaves kind st.cell (own_of set.axes w st.cell) (family_of set.axes w st.parent) r ends

  pub left_steps : (room : Push → Type 0) → HasRoom set e room
      → Alike room (in_hand set e (after_leave outer st)) (Holds set e (after_leave outer st)) (model.leave_cell set st.parent st.cell w)
      (machine.leave_cell set (streams set e room) st.cell (own_of set.axes w st.cell, image_of set e st.parent w t)) t'
  left_steps room has =
      let finds = cell_found set e walked is st w t h stage in
      subst (λ (c : Course Working). Alike room (in_hand set e (after_leave outer st)) (Holds set e (after_leave outer st)) c
      (machine.leave_cell set (streams set e room) st.cell (own_of set.axes w st.cell, image_of set e st.parent w t)) t')
      (ap (λ k. course_map (λ it. put_left set k st.cell (after_cell set st.parent st.cell it w)) (leave_touch set k st.cell (own_of set.axes w st.cell) (family_of set.axes w st.parent))) (sym finds.by_map))
      (record {
        same = matches-same room (λ u. in_hand set e (after_leave outer st) u t')
            (course_map (λ it. put_left set kind st.cell (after_cell set st.parent st.cell it w)) core)
            (and_then core (λ r. course_map (λ m. (r.0.corners, m)) (cell_goes set (streams set e room) kind r.0.cell (record (image_of set e st.parent w t) { family = r.1 }))))
            (machine.leave_cell set (streams set e room) st.cell (own_of set.axes w st.cell, image_of set e st.parent w t))
            (ap (λ k. and_then (leave_touch set k st.cell (own_of set.axes w st.cell) (family_of set.axes w st.parent))
            (λ r. course_map (λ m. (r.0.corners, m)) (cell_goes set (streams set e room) k r.0.cell (record (image_of set e st.parent w t) { family = r.1 })))) (sym finds.by_hand))
            (core-then-matches room (λ u. in_hand set e (after_leave outer st) u t') core (λ it. put_left set kind st.cell (after_cell set st.parent st.cell it w))
            (λ r. course_map (λ m. (r.0.corners, m)) (cell_goes set (streams set e room) kind r.0.cell (record (image_of set e st.parent w t) { family = r.1 })))
            (leave-silent set kind st.cell (own_of set.axes w st.cell) (family_of set.axes w st.parent))
            (λ r ends. let alike = alike_after r ends in
            subst (λ u. Matches room (λ u. in_hand set e (after_leave outer st) u t') (at_once u) (course_map (λ m. (r.0.corners, m)) (cell_goes set (streams set e room) kind r.0.cell (record (image_of set e st.parent w t) { family = r.1 }))))
            (sym (put_left-is set st.cell kind (after_cell set st.parent st.cell r w)))
            (goes r.0 r.1 alike.0 alike.1 room has kind refl)));
        holds = λ u ends. let at = mapped-done core (λ it. put_left set kind st.cell (after_cell set st.parent st.cell it w)) u ends in let alike = alike_after at.0 at.1 in
            subst (λ x. Holds set e (after_leave outer st) x t') (sym (at.2 ∙ put_left-is set st.cell kind (after_cell set st.parent st.cell at.0 w))) (holds_left at.0.0 at.0.1 alike.0 alike.1);
      })

pub leave_leaf : {Plan : Type 0} (set : Setting Plan) (e : ForeseenStart) (walked : Place → Bool) (room : Push → Type 0) → IsForeseenStart set e walked → HasRoom set e room → LeaveLeaf set e room
leave_leaf set e walked room is has st outer stage all opened owed w t t' h runs = left_steps set e walked is st outer stage all opened owed w t t' h runs room has
