-- What the walk of a cell counts and moves.
use Rattle.std.proofs.Common.{◌≡◌, suc, sym, ap, subst, ◌∙◌}
use Rattle.pe_base.specs.declared.tally.Tally.{Tally}
use Rattle.pe_base.specs.Tree.Dim.{IsDim}
use Rattle.pe_base.specs.Walk.Course.{Course}
use Rattle.pe_base.specs.Walk.Walk as model
use Rattle.pe_adapt.specs.CountedTouches.{Machine}
use Rattle.pe_walk.specs.Machine as machine
use Rattle.pe_walk.specs.Gridded.{stream_stacks_of}
use Rattle.pe_order.specs.Laws.{IsCell}
use Rattle.pe_order.specs.Tallies.{IsOfKinds}
use Rattle.pe_order.specs.CellTraffic.{CellTraffic}
use Rattle.pe_walk.specs.FaceLaw.{CellsAreExact}
use Rattle.pe_order.proofs.Tokens.Traversals.{walk_of_a_cell}
use Rattle.pe_order.proofs.Tokens.CellTraffic.{cell_traffic}
use Rattle.pe_walk.proofs.Simulation.Leaves.{image_of}
use Rattle.pe_walk.proofs.Simulation.Cells.Simulated.{cell_simulated}
use Rattle.pe_walk.proofs.Simulation.Tallied.Alike.{is_seen, cell-alike}
use Rattle.pe_walk.proofs.Simulation.Tallied.Traversals.{from_image}
use Rattle.pe_walk.proofs.Simulation.Tallied.Walks.{any_room, roomy, walk_counted}

pub cells_are_exact : {Plan : Type 0} → CellsAreExact Plan
cells_are_exact set at m after may q =
    let e = at.foreseen_start in
    let o = at.foreseen_start.outlook in
    let cell = at.stage.cell in
    let dim : IsDim o.axes = subst IsDim (sym may.foreseen_start.foresees.axes) may.foreseen_start.foresees.dim in
    let is_cell : IsCell o.axes o.way cell = subst (λ n. IsCell n o.way cell) (sym may.foreseen_start.foresees.axes) may.stage.cell in
    let kinds : IsOfKinds o e.foresight.kind = record { counts = may.foreseen_start.foresees.counts; reads = may.foreseen_start.foresees.reads; writes = may.foreseen_start.foresees.writes } in
    let runs = walk_of_a_cell o at.walked (set.rules.greatest set.plan) at.levels cell dim may.foreseen_start.grown is_cell may.deep at.beneath at.cells_beneath at.places may.takes in
    let room = any_room set e at.walked may.foreseen_start in
    let steps = cell_simulated set e at.walked room may.foreseen_start (roomy set e at.walked may.foreseen_start) at.levels at.stage at.rest may.stage may.unloaded may.ahead at.working at.places runs.0 may.holds runs.1 in
    let begun : image_of set e at.stage.parent at.working at.places ≡ m = may.image in
    let walks : Machine → Course Machine = machine.walk_cell set (stream_stacks_of o.swapped) (suc at.levels) cell in
    let ended = from_image (λ w. image_of set e at.stage.parent w runs.0) (model.walk_cell set at.levels at.stage.parent cell at.working).ending after
    (sym (ap (λ (x : Machine). (walks x).ending) begun ∙ q) ∙ steps.same.ending) in
    let counted = walk_counted set e at.walked may.foreseen_start at.levels at.stage at.rest may.stage may.unloaded may.ahead at.working at.places runs.0 may.holds runs.1 ended.0 ended.1 in
    let traffic = subst (λ (tally : Tally). CellTraffic o at.levels cell at.places.vertices runs.0.vertices at.places.cells runs.0.cells at.working.tally tally) (sym counted)
    (cell_traffic o e.foresight.kind at.levels cell at.places runs.0 at.working.tally dim is_cell kinds (record { vertices = may.takes.stacks; cells = may.takes.cell_stacks }) runs.1) in
    let same : image_of set e at.stage.parent ended.0 runs.0 ≡ after = sym ended.2 in
    subst (λ (x : Machine). CellTraffic o at.levels cell x.vertices after.vertices x.cells after.cells x.tally after.tally) begun
    (subst (λ (x : Machine). let from = image_of set e at.stage.parent at.working at.places in CellTraffic o at.levels cell from.vertices x.vertices from.cells x.cells from.tally x.tally) same
    (cell-alike o at.levels cell at.places.vertices runs.0.vertices at.places.cells runs.0.cells _ _ _ _ at.working.tally ended.0.tally
    (is_seen _ at.places.vertices) (is_seen _ runs.0.vertices) (is_seen _ at.places.cells) (is_seen _ runs.0.cells) traffic))
