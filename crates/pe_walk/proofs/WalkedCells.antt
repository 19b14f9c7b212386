-- The walk of a cell, as a call does it, answers by the law of a face.
use Rattle.std.proofs.Common.{◌≡◌, ℕ, suc, ◌-◌, ◌≤◌, true, Result, Ok, Err, refl, sym, subst, ap, ap₂, ◌∙◌, arith}
use Rattle.pe_base.specs.declared.place.Place.{Place}
use Rattle.pe_base.specs.declared.setup.Setup.{Setup}
use Rattle.pe_base.specs.Tree.Dim.{IsDim}
use Rattle.pe_base.specs.Acts.Effects.{Rules}
use Rattle.pe_base.specs.Walk.Course.{Ending, done, halts, stuck, Course}
use Rattle.pe_base.specs.Walk.Core.{Setting}
use Rattle.pe_base.specs.Walk.Working.{Working}
use Rattle.pe_mapping.specs.Held.{Held}
use Rattle.pe_base.specs.Calls.Told.{Told, Adds, AddsPart}
use Rattle.pe_hang.specs.InHand.{setting_of}
use Rattle.pe_base.specs.Calls.Follows.{is_fit, Fits, BeforeCall, Failure, halted, unwritten, wanting, unheard_of, Follows, Does, read_by}
use Rattle.pe_adapt.specs.declared.settings.Settings.{Settings}
use Rattle.pe_adapt.specs.CountedTouches.{Machine, StreamStacks}
use Rattle.pe_walk.specs.Machine as machine
use Rattle.pe_walk.specs.Gridded.{stream_stacks_of}
use Rattle.pe_adapt.specs.WalkedCells.{setting_in, stream_stacks_of as stream_stacks_in}
use Rattle.pe_order.specs.CellTraffic.{CountsAreFew}
use Rattle.pe_walk.specs.Traversing.{Stores}
use Rattle.pe_walk.specs.FaceLaw.{Moment, MayWalk, IsAt, HasWalked, CellEndsAlike, IsBrief, IsCellWalked, WalksCell, CellAnswers, by_address}
use Rattle.pe_walk.proofs.Traversing.{of_all}
use Rattle.pe_order.proofs.Tokens.CellTraffic.{still_few}
use Rattle.pe_walk.proofs.Simulation.FaceLaw.{law_of_a_face}
use Rattle.pe_walk.proofs.Simulation.Tallied.Alike.{CountAlike, cell-alike}
use Rattle.pe_walk.proofs.Simulation.Tallied.Cells.{cells_are_exact}

-- the machine's walk of the cell, by what a call is given
pub same-course : {Plan : Type 0} (rules : Rules Plan) (held : Held Plan) (setup : Setup) (settings : Settings) (traversal stream cell_stream : ℕ) (cell place : Place) (m : Machine) (at : Moment)
    → settings.setup ≡ setup → settings.traversal ≡ traversal → settings.input ≡ stream → settings.cell_input ≡ cell_stream → cell ≡ place → IsAt setup.max_level place stream cell_stream at
    → machine.walk_cell (setting_in rules held settings) (stream_stacks_in settings) (suc (setup.max_level - place.level)) cell m
    ≡ machine.walk_cell (setting_of rules held setup.start_level setup.max_cells traversal) (stream_stacks_of at.foreseen_start.outlook.swapped) (suc at.levels) at.stage.cell m
same-course rules held setup settings traversal stream cell_stream cell place m at same number input cell_input is here =
    let left : setup.max_level - place.level ≡ at.levels = omega (arith, here.levels) in
    ap (λ set. machine.walk_cell set (stream_stacks_in settings) (suc (setup.max_level - place.level)) cell m) (ap₂ (λ (s : Setup) n. setting_of rules held s.start_level s.max_cells n) same number)
    ∙ ap (λ streams. machine.walk_cell (setting_of rules held setup.start_level setup.max_cells traversal) streams (suc (setup.max_level - place.level)) cell m)
    (ap₂ (λ a b. (let streams : StreamStacks = record { input = a; cell_input = b } in streams)) (input ∙ here.input) (cell_input ∙ here.cell_input))
    ∙ ap₂ (λ levels c. machine.walk_cell (setting_of rules held setup.start_level setup.max_cells traversal) (stream_stacks_of at.foreseen_start.outlook.swapped) (suc levels) c m) left (is ∙ sym here.cell)

module _ {Plan : Type 0} (set : Setting Plan) (at : Moment) (begins : Machine) (may : MayWalk set at begins) where
  abbrev pub course : Course Machine
  course = machine.walk_cell set (stream_stacks_of at.foreseen_start.outlook.swapped) (suc at.levels) at.stage.cell begins

  is : IsCellWalked set at (machine.walk_cell set (stream_stacks_of at.foreseen_start.outlook.swapped) (suc at.levels) at.stage.cell begins)
  is = law_of_a_face set at begins may

  -- the walk is never stuck
  pub cell-fits : Fits (machine.walk_cell set (stream_stacks_of at.foreseen_start.outlook.swapped) (suc at.levels) at.stage.cell begins)
  cell-fits = by (by_address set at).ending course.ending is.ending
    where
      by : (a : Ending Working) (b : Ending Machine) → CellEndsAlike set at a b → is_fit b ≡ true
      by (done w) (done m) alike = refl
      by (done w) (halts cause) alike = absurd alike
      by (done w) stuck alike = absurd alike
      by (halts cause) (done m) alike = absurd alike
      by (halts cause) (halts other) alike = refl
      by (halts cause) stuck alike = absurd alike
      by stuck other alike = absurd alike

  done_of : (m : Machine) (ending : Ending Working) → CellEndsAlike set at ending (done m) → (w : Working) × (ending ≡ done w) × HasWalked set at w m
  done_of m (done w) alike = (w, refl, alike)
  done_of m (halts cause) alike = absurd alike
  done_of m stuck alike = absurd alike

  halts_of : (cause : _) (ending : Ending Working) → CellEndsAlike set at ending (halts cause) → ending ≡ halts cause
  halts_of cause (done w) alike = absurd alike
  halts_of cause (halts other) alike = ap halts alike
  halts_of cause stuck alike = absurd alike

  module _ {V C : Type 0} (old : BeforeCall) (before : Stores V C) (new : Told) (after : Stores V C) (m : Machine)
      (vertices : CountAlike begins.vertices before.vertices) (cells : CountAlike begins.cells before.cells) (vertices' : CountAlike m.vertices after.vertices) (cells' : CountAlike m.cells after.cells)
      (few : CountsAreFew set.max_cells begins.tally before.vertices before.cells) where
    walks : Does course (done m) old.told new → WalksCell set at (by_address set at) old.told new before begins.tally after m
    walks does =
        let found = done_of m (by_address set at).ending (subst (CellEndsAlike set at (by_address set at).ending) does.ends is.ending) in
        let traffic = cell-alike at.foreseen_start.outlook at.levels at.stage.cell begins.vertices m.vertices begins.cells m.cells before.vertices after.vertices before.cells after.cells begins.tally m.tally
        vertices vertices' cells cells' (cells_are_exact set at begins m may does.ends) in
        let dim : IsDim at.foreseen_start.outlook.axes = subst IsDim (sym may.foreseen_start.foresees.axes) may.foreseen_start.foresees.dim in
        let within : m.tally.cells ≤ set.max_cells = subst (λ (x : Machine). x.tally.cells ≤ set.max_cells) found.2.image found.2.holds.owes.cells in
        record {
          working = found.0;
          does = record { ends = found.1; told = subst (λ text. Adds old.told text new) is.text does.told };
          walked = found.2;
          traffic = traffic;
          few = still_few at.foreseen_start.outlook at.levels set.max_cells at.stage.cell before.vertices after.vertices before.cells after.cells begins.tally m.tally dim within traffic few;
        }

    pub cell_answers : {E : Type 0} (means : E → Failure) (result : Result (Unit {0}) E)
        → Follows (machine.walk_cell set (stream_stacks_of at.foreseen_start.outlook.swapped) (suc at.levels) at.stage.cell begins) (λ done. m) (read_by means result) old new
        → CellAnswers set at (by_address set at) (read_by means result) old before begins.tally new after m
    cell_answers means (Ok it) does = walks does
    cell_answers means (Err e) follows = failed (means e) follows
      where
        failed : (failure : Failure) → Follows {A = Unit {0}} course (λ done. m) (Err failure) old new → CellAnswers {A = Unit {0}} set at (by_address set at) (Err failure) old before begins.tally new after m
        failed (halted cause) does = record {
          ends = halts_of cause (by_address set at).ending (subst (CellEndsAlike set at (by_address set at).ending) does.ends is.ending);
          told = subst (λ text. Adds old.told text new) is.text does.told;
        }
        failed unwritten fails = record { failed = fails.failed; told = subst (λ text. AddsPart old.told text new) is.text fails.told }
        failed wanting wants = record { told = subst (λ text. AddsPart old.told text new) is.text wants.told; room = λ sure. let over = wants.room sure in (over.0, of_all (IsBrief set at) course.log over.0 is.log over.1, over.2) }
        failed unheard_of none = none
