-- A traversal of a grid in depots answers by the walk by address.
use Rattle.std.proofs.Common.{◌≡◌, ℕ, ℤ, zero, suc, ◌+◌, ◌*◌, ◌^◌, ◌≤◌, Bool, true, List, [], ◌∷◌, Result, Ok, Err, refl, sym, subst, ap, ◌∙◌, arith}
use Rattle.std.specs.Prelude.{Contains, IfOk}
use Rattle.std.specs.List.{AllByRecursion}
use Rattle.pe_base.specs.declared.tally.Tally.{Tally}
use Rattle.pe_base.specs.Acts.Effects.{Rules, AreLawful}
use Rattle.pe_base.specs.Acts.Settings.{AreLevels, IsCellLimit}
use Rattle.pe_base.specs.Walk.Course.{Ending, done, halts, stuck, Push, Course}
use Rattle.pe_base.specs.Walk.Core.{Setting}
use Rattle.pe_base.specs.Walk.Working.{no_tally, begun, ended as ended_of}
use Rattle.pe_base.specs.Walk.Grids.{Grid}
use Rattle.pe_base.specs.Walk.Walk as model
use Rattle.pe_base.proofs.Walk.Courses.{mapped-done}
use Rattle.pe_stacks.specs.declared.grid.Grid.{Grid as Handle}
use Rattle.pe_stacks.specs.Holdings.{Holdings, CountsWithin}
use Rattle.pe_mapping.specs.Held.{Held, max_level}
use Rattle.pe_base.specs.Calls.Told.{Adds, AddsPart}
use Rattle.pe_stacks.specs.Sights.{Numbers, record_of, seen_cell}
use Rattle.pe_hang.specs.InHand.{setting_of, map_holdings}
use Rattle.pe_base.specs.Calls.Follows.{is_fit, Fits, BeforeCall, HasOverfull, Failure, halted, unwritten, wanting, unheard_of, Follows, Does, read_by}
use Rattle.pe_adapt.specs.CountedTouches.{Machine}
use Rattle.pe_walk.specs.Machine as machine
use Rattle.pe_walk.specs.Gridded.{HoldsGrid, MachineMayTraverse, MachineHasTraversed, EndAlike, IsShort, IsWalked, stream_stacks_of}
use Rattle.pe_walk.specs.InHand.{machine_between}
use Rattle.pe_order.specs.Outlooks.{outlook}
use Rattle.pe_walk.proofs.Simulation.Answers.{stacks_are_addresses}
use Rattle.pe_walk.proofs.Simulation.Tallied.Alike.{CountAlike, is_seen, alike-sym, within-alike, raises-alike, exact-alike}
use Rattle.pe_walk.proofs.Simulation.Tallied.Traversals.{traversals_are_exact}
use Rattle.pe_walk.specs.Traversing.{Stores, MayTraverse, IsAdvanced, LacksRoom, Traverses, Answers}

-- a traversal of a grid that depots hold may begin
pub may_turn : {Plan V C : Type 0} (numbers : Numbers V C) (rules : Rules Plan) (mapping : Held Plan) (start_level max_cells levels : ℕ) (depots : Stores V C) (handle : Handle C) (grid : Grid)
    → AreLawful rules → mapping.dim ≡ handle.dim → max_level rules mapping ≡ levels → AreLevels levels start_level → IsCellLimit max_cells → CountsWithin depots.vertices (2 ^ 60) → CountsWithin depots.cells (2 ^ 60)
    → MayTraverse numbers mapping levels depots handle grid
    → MachineMayTraverse (setting_of rules mapping start_level max_cells (handle.finished + 1)) grid handle.swapped (machine_between numbers depots.vertices depots.cells handle.root mapping.list (no_tally (handle.finished + 1)))
may_turn numbers rules mapping start_level max_cells levels depots handle grid lawful dim same bounds limit counts cell_counts may = record {
  fits = record {
    lawful = lawful;
    axes = dim ∙ may.holds.axes;
    greatest = same ∙ sym may.greatest;
    start_level = subst (λ n. start_level ≤ n) (sym may.greatest) bounds.within;
    traversal = ap (λ n. n + 1) may.holds.finished;
    max_cells = limit.few;
  };
  formed = may.formed;
  holds = let h = may.holds.holds in record {
    stacks = h.stacks;
    cell_stacks = h.cell_stacks;
    vertices = h.vertices;
    cells = h.cells;
    none_out = h.none_out;
    no_cell_out = h.no_cell_out;
    root = h.root;
    list = h.list;
  };
  counts = within-alike depots.vertices (map_holdings (record_of numbers.vertex) depots.vertices) (2 ^ 60) (is_seen (record_of numbers.vertex) depots.vertices) counts;
  cell_counts = within-alike depots.cells (map_holdings (seen_cell numbers.cell) depots.cells) (2 ^ 60) (is_seen (seen_cell numbers.cell) depots.cells) cell_counts;
  tally = refl;
}

-- the walk on stacks is never stuck
pub fits_of : {Plan : Type 0} (set : Setting Plan) (grid : Grid) (swapped : Bool) (course : Course Machine) → IsWalked set grid swapped course → Fits course
fits_of set grid swapped course is = by (model.traverse set grid).ending course.ending is.ending
  where
    by : (a : Ending (Grid × Tally)) (b : Ending Machine) → EndAlike swapped a b → is_fit b ≡ true
    by (done after) (done m) alike = refl
    by (done after) (halts cause) alike = absurd alike
    by (done after) stuck alike = absurd alike
    by (halts cause) (done m) alike = absurd alike
    by (halts cause) (halts other) alike = refl
    by (halts cause) stuck alike = absurd alike
    by stuck other alike = absurd alike

-- what holds of all of a log holds of each push
pub of_all : (P : Push → Type 0) (log : List Push) (push : Push) → AllByRecursion P log → Contains log push → P push
of_all P [] push each (k, few, at) = absurd (omega (arith, few))
of_all P (first ∷ log) push each (zero, few, at) = subst P at each.0
of_all P (first ∷ log) push each (suc k, few, at) = of_all P log push each.1 (k, omega (arith, few), at)

-- the walk by address is done where the machine is
done_of : (swapped : Bool) (m : Machine) (ending : Ending (Grid × Tally)) → EndAlike swapped ending (done m) → (after : Grid × Tally) × (ending ≡ done after) × MachineHasTraversed swapped after m
done_of swapped m (done after) alike = (after, refl, alike)
done_of swapped m (halts cause) alike = absurd alike
done_of swapped m stuck alike = absurd alike

-- and it halts by the same cause
halts_of : (swapped : Bool) (cause : _) (ending : Ending (Grid × Tally)) → EndAlike swapped ending (halts cause) → ending ≡ halts cause
halts_of swapped cause (done after) alike = absurd alike
halts_of swapped cause (halts other) alike = ap halts alike
halts_of swapped cause stuck alike = absurd alike

module _ {Plan V C : Type 0} (numbers : Numbers V C) (set : Setting Plan) (grid : Grid) (handle : Handle C) (before : Stores V C) (list : List ℤ)
    (may : MachineMayTraverse set grid handle.swapped (machine_between numbers before.vertices before.cells handle.root list (no_tally set.traversal)))
    (old : BeforeCall) (mapping : Held Plan) (after : Stores V C) where
  abbrev after_of : Handle C × Tally → Machine
  after_of answer = machine_between numbers after.vertices after.cells answer.0.root mapping.list answer.1

  abbrev begins : Machine
  begins = machine_between numbers before.vertices before.cells handle.root list (no_tally set.traversal)

  abbrev course : Course Machine
  course = machine.traverse set (stream_stacks_of handle.swapped) grid.greatest begins

  is : IsWalked set grid handle.swapped course
  is = stacks_are_addresses set grid handle.swapped begins may

  traverses : (axes : handle.dim ≡ grid.axes) (finished : handle.finished ≡ grid.finished) (answer : Handle C × Tally) → IsAdvanced handle answer.0
      → Does course (done (after_of answer)) old.told mapping.told → Traverses numbers set grid handle.swapped (model.traverse set grid) old.told before mapping after answer
  traverses axes finished answer advanced does =
      let found = done_of handle.swapped (after_of answer) (model.traverse set grid).ending (subst (EndAlike handle.swapped (model.traverse set grid).ending) does.ends is.ending) in
      let exact = traversals_are_exact set grid handle.swapped begins (after_of answer) may does.ends in
      let from = mapped-done (model.walk_root (record set { traversal = grid.finished + 1 }) grid.greatest (begun (grid.finished + 1) grid)) (λ w. (ended_of w grid, w.tally)) found.0 found.1 in
      record {
        next = found.0.0;
        does = record { ends = found.1 ∙ ap (λ t. done (found.0.0, t)) (sym found.2.tally); told = subst (λ text. Adds old.told text mapping.told) is.text does.told };
        formed = found.2.formed;
        greatest = ap (λ a. a.0.greatest) from.2;
        holds = record {
          axes = advanced.dim ∙ axes ∙ ap (λ a. a.0.axes) (sym from.2);
          finished = advanced.finished ∙ ap (λ n. n + 1) finished ∙ ap (λ a. a.0.finished) (sym from.2);
          holds = held found.0.0 (subst (λ b. HoldsGrid found.0.0 b (after_of answer)) (sym advanced.swapped) found.2.holds);
        };
        traffic = exact-alike (outlook set.start_level grid handle.swapped) grid.greatest begins.vertices (after_of answer).vertices begins.cells (after_of answer).cells before.vertices after.vertices before.cells after.cells answer.1
            (unseen (record_of numbers.vertex) before.vertices) (unseen (record_of numbers.vertex) after.vertices) (unseen (seen_cell numbers.cell) before.cells) (unseen (seen_cell numbers.cell) after.cells) exact.traffic;
        few = exact.few;
        rises = raises-alike begins.vertices (after_of answer).vertices before.vertices after.vertices (64 * (answer.1.cells + 1)) (unseen (record_of numbers.vertex) before.vertices) (unseen (record_of numbers.vertex) after.vertices) exact.rises;
        cells_rise = raises-alike begins.cells (after_of answer).cells before.cells after.cells (64 * (answer.1.cells + 1)) (unseen (seen_cell numbers.cell) before.cells) (unseen (seen_cell numbers.cell) after.cells) exact.cells_rise;
      }
    where
      unseen : {X Y : Type 0} (f : X → Y) (held : Holdings X) → CountAlike (map_holdings f held) held
      unseen f held = alike-sym (is_seen f held)

      held : (next : Grid) → HoldsGrid next answer.0.swapped (after_of answer) → HoldsGrid next answer.0.swapped (machine_between numbers after.vertices after.cells answer.0.root mapping.list (no_tally 0))
      held next h = record {
        stacks = h.stacks;
        cell_stacks = h.cell_stacks;
        vertices = h.vertices;
        cells = h.cells;
        none_out = h.none_out;
        no_cell_out = h.no_cell_out;
        root = h.root;
        list = h.list;
      }

  -- a push that had no room
  lacks : HasOverfull old course.log → LacksRoom set grid handle.swapped old
  lacks (push, among, over) =
      let short = of_all (IsShort set grid handle.swapped) course.log push is.log among in
      record {
        of_cell = push.of_cell;
        stack = push.stack;
        there = short.there;
        apart = short.apart;
        within = omega (arith, over, short.within);
        few = omega (arith, over, short.few);
      }

  failed : (failure : Failure) → Follows course after_of (Err failure) old mapping.told → Answers numbers set grid handle.swapped (model.traverse set grid) (Err failure) old before mapping after
  failed (halted cause) does = record {
    ends = halts_of handle.swapped cause (model.traverse set grid).ending (subst (EndAlike handle.swapped (model.traverse set grid).ending) does.ends is.ending);
    told = subst (λ text. Adds old.told text mapping.told) is.text does.told;
  }
  failed unwritten fails = record { failed = fails.failed; told = subst (λ text. AddsPart old.told text mapping.told) is.text fails.told }
  failed wanting wants = record { told = subst (λ text. AddsPart old.told text mapping.told) is.text wants.told; room = λ sure. lacks (wants.room sure) }
  failed unheard_of none = none

  pub answers : {E : Type 0} (axes : handle.dim ≡ grid.axes) (finished : handle.finished ≡ grid.finished) (means : E → Failure) (result : Result (Handle C × Tally) E) → IfOk result (λ answer. IsAdvanced handle answer.0)
      → Follows course after_of (read_by means result) old mapping.told → Answers numbers set grid handle.swapped (model.traverse set grid) (read_by means result) old before mapping after
  answers axes finished means (Ok answer) advanced follows = traverses axes finished answer advanced follows
  answers axes finished means (Err e) advanced follows = failed (means e) follows
