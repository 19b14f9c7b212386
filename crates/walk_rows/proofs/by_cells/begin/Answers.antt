use Rattle.std.proofs.Common.{◌≡◌, ◌+◌, ◌^◌, [], refl, sym, subst, ◌∙◌, None, arith}
use Rattle.pe_base.specs.declared.event.Event.TheVariants.{BeginIteration}
use Rattle.pe_base.specs.Acts.Effects.{plain_sight}
use Rattle.pe_base.specs.Calls.Outcomes.{IsOutcome}
use Rattle.pe_base.specs.Tree.Curve.{children}
use Rattle.pe_base.specs.Tree.Places.{root}
use Rattle.pe_base.specs.Tree.Ways.{way_of}
use Rattle.pe_base.specs.Walk.Core.{Setting, plain_event}
use Rattle.pe_base.specs.Walk.Course.{done}
use Rattle.pe_base.specs.Walk.Working.{no_tally}
use Rattle.pe_stacks.specs.Grid.{input_stack, cell_input_stack}
use Rattle.pe_stacks.specs.Sights.{corner_records}
use Rattle.pe_stacks.proofs.Raising.{within_more}
use Rattle.pe_mapping.specs.Answers.{Answers}
use Rattle.pe_mapping.specs.Held.{outcome_of}
use Rattle.pe_hang.specs.InHand.{setting_of, vertices_on_stacks, cells_on_stacks}
use Rattle.pe_hang.proofs.Staying.{keeps-then, setting-kept}
use Rattle.pe_adapt.specs.WalkedCells.{machine_in_hand}
use Rattle.pe_walk.specs.Gridded.{stream_stacks_of}
use Rattle.pe_walk.specs.InHand.{machine_between}
use Rattle.pe_walk.specs.Machine.{root_corners}
use Rattle.pe_walk.specs.Traversing.{Stores}
use Rattle.pe_walk.specs.Visits.{with_vertices}
use Rattle.pe_walk.proofs.Traversing.{may_turn}
use Rattle.walk_rows.specs.ByCells.{MayWalkInTurn}
use Rattle.walk_rows.proofs.InTurn.{fired, begun, first-in-turn}
use Rattle.walk_rows.proofs.by_cells.begin.Goals as goal

pub returns-clause-may : goal.returns-clause-may
returns-clause-may g c =
    let numbers = g.M.Mapping.numbers in
    let rules = g.M.Effects.rules in
    let before = g.M.Mapping.held c.args.m.now in
    let corners = g.M.Mapping.held c.lend_corners.new.m in
    let now = g.M.Mapping.held c.plain_event.new.self in
    let s = c.args.setup.now in
    let handle = c.args.grid.now in
    let number = handle.finished + 1 in
    let set = setting_of rules before s.start_level s.max_cells number in
    let stores : Stores g.row.M-V.Denot g.row.M-C.Denot = record { vertices = g.DV.Depot.holds c.args.dv.now; cells = g.DC.Depot.holds c.args.dc.now } in
    let walked = c.requires.grid.0 in
    let may = c.requires.grid.1 in
    let start = machine_between numbers stores.vertices stores.cells handle.root before.list (no_tally number) in
    let lent = with_vertices (vertices_on_stacks numbers (g.DV.Depot.holds c.lend_corners.new.dv)) corners.list start in
    let its = corner_records numbers.vertex c.lend_corners.new.corners in
    let after = machine_in_hand numbers (g.DV.Depot.holds c.lend_corners.new.dv) (cells_on_stacks numbers stores.cells) c.lend_corners.new.corners handle.root now.list (no_tally number) in
    let turns = may_turn numbers rules before s.start_level s.max_cells s.max_level stores handle walked g.M.Effects.lawful (c.requires.dim ∙ sym c.requires.axes) c.requires.greatest s.levels s.limit
    c.requires.counts c.requires.cell_counts may in
    let made = subst (λ axes. (root_corners set (stream_stacks_of handle.swapped) (2 ^ axes) [] start).ending ≡ done (its, lent)) (sym c.requires.dim)
    (c.lend_corners.ensures.made s.start_level s.max_cells number (stream_stacks_of handle.swapped) start) in
    let answer = subst (λ result. Answers (outcome_of rules corners BeginIteration (c.finished.result + 1) plain_sight) corners now plain_sight result) c.expect.ensures c.plain_event.ensures.answer in
    let outcome = subst (λ n. IsOutcome (outcome_of rules corners BeginIteration (n + 1) plain_sight) None corners.told now.told now.list plain_sight) c.finished.ensures answer in
    let first = subst (λ (it : Setting g.row.M-Plan.Denot). (plain_event it BeginIteration corners.list).ending ≡ done now.list)
    (setting-kept rules before corners s.start_level s.max_cells number c.lend_corners.ensures.keeps)
    (fired (setting_of rules corners s.start_level s.max_cells number) BeginIteration corners.list now.list outcome.fault outcome.list) in
    let cells = children before.dim (way_of number) root in
    let turn = first-in-turn set c.cells_in_turn.ensures.first walked handle.swapped start after cells turns (begun set (stream_stacks_of handle.swapped) start lent its now.list made first) refl in
    subst (λ (it : Setting g.row.M-Plan.Denot). MayWalkInTurn it s.max_level (input_stack handle.swapped) (cell_input_stack handle.swapped) after (children s.dim (way_of number) root))
    (sym (setting-kept rules before now s.start_level s.max_cells number (keeps-then c.lend_corners.ensures.keeps c.plain_event.ensures.keeps)))
    (subst (λ axes. MayWalkInTurn set s.max_level (input_stack handle.swapped) (cell_input_stack handle.swapped) after (children axes (way_of number) root)) c.requires.dim
    (subst (λ greatest. MayWalkInTurn set greatest (input_stack handle.swapped) (cell_input_stack handle.swapped) after cells) may.greatest turn))

pub returns-clause-few : goal.returns-clause-few
returns-clause-few g c = record {
  few = omega arith;
  read = omega arith;
  written = omega arith;
  created = omega arith;
  destroyed = omega arith;
  hanging = omega arith;
  vertices = c.lend_corners.ensures.counts;
  cells = within_more (g.DC.Depot.holds c.args.dc.now) (2 ^ 60) (2 ^ 61) (omega arith) c.requires.cell_counts;
}

pub returns-clause-keeps : goal.returns-clause-keeps
returns-clause-keeps g c = keeps-then c.lend_corners.ensures.keeps c.plain_event.ensures.keeps
