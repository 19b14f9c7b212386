use Rattle.std.proofs.Common.{List, ◌∷◌, sym, subst}
use Rattle.std.specs.Prelude.{OnOk}
use Rattle.pe_base.specs.declared.place.Place.{Place}
use Rattle.pe_base.specs.Tree.Places.{root, child_at}
use Rattle.pe_base.specs.Walk.Core.{Setting}
use Rattle.pe_access.specs.States.{StandsFor}
use Rattle.pe_stacks.specs.RecordsOut.{held_by}
use Rattle.pe_mapping.specs.Held.{found_of}
use Rattle.pe_hang.specs.InHand.{setting_of, cells_on_stacks}
use Rattle.pe_hang.proofs.Staying.{setting-kept}
use Rattle.pe_adapt.specs.Stops.{failure_of}
use Rattle.pe_adapt.specs.WalkedCells.{machine_in_hand}
use Rattle.pe_walk.specs.FaceLaw.{Moment, IsCalledAt, MayCall, CellAnswers, by_address}
use Rattle.pe_walk.specs.Traversing.{Stores}
use Rattle.pe_base.specs.Calls.Follows.{read_by}
use Rattle.walk_rows.specs.ByCells.{MayWalkInTurn}
use Rattle.walk_rows.proofs.InTurn.{root-place, called, goes-on}
use Rattle.walk_rows.proofs.by_cells.walk_child.Goals as goal

pub walk_cell-requires-clause-called : goal.walk_cell-requires-clause-called
walk_cell-requires-clause-called g c =
    let axes = c.args.setup.now.dim in
    let stands = c.descend-state.ensures.stands axes c.of.result root (root-place axes) c.root.ensures.stands in
    subst (λ axes. IsCalledAt axes c.args.traversal c.child_at-at.result c.args.digits c.descend-state.result) (sym c.requires.dim)
    (called axes c.args.traversal c.args.digits c.child_at-at.result c.descend-state.result c.requires.traversal c.requires.digits c.child_at-at.ensures
    (subst (λ way. StandsFor axes way (child_at root c.args.digits) c.descend-state.result) c.of.ensures stands))

pub returns-clause-next : goal.returns-clause-next
returns-clause-next g c =
    let numbers = g.M.Mapping.numbers in
    let rules = g.M.Effects.rules in
    let before = g.M.Mapping.held c.args.m.now in
    let now = g.M.Mapping.held c.walk_cell.new.m in
    let s = c.args.setup.now in
    let set = setting_of rules before s.start_level s.max_cells c.args.traversal in
    let old : Stores g.row.M-V.Denot g.row.M-C.Denot = record { vertices = g.DV.Depot.holds c.args.dv.now; cells = g.DC.Depot.holds c.args.dc.now } in
    let new : Stores g.row.M-V.Denot g.row.M-C.Denot = record { vertices = g.DV.Depot.holds c.walk_cell.new.dv; cells = g.DC.Depot.holds c.walk_cell.new.dc } in
    let m = machine_in_hand numbers old.vertices (cells_on_stacks numbers old.cells) c.args.corners.now c.args.root.now before.list c.args.tally.now in
    let after = machine_in_hand numbers new.vertices (cells_on_stacks numbers new.cells) c.walk_cell.new.parents c.walk_cell.new.parent now.list c.walk_cell.new.tally in
    let found = found_of before (held_by old.vertices (g.DV.Depot.room c.args.dv.now)) (held_by old.cells (g.DC.Depot.room c.args.dc.now)) in
    let answers = subst (λ (cell : Place). (at : Moment) → MayCall set s.max_level cell c.args.input c.args.cell_input m at → CellAnswers set at (by_address set at) (read_by failure_of c.walk_cell.result) found old c.args.tally.now now.told new after)
    c.child_at-at.ensures c.walk_cell.ensures.answers in
    let cell = child_at root c.args.digits in
    subst (λ (it : Setting g.row.M-Plan.Denot). OnOk c.walk_cell.result ((others : List Place) → MayWalkInTurn set s.max_level c.args.input c.args.cell_input m (cell ∷ others) → MayWalkInTurn it s.max_level c.args.input c.args.cell_input after others))
    (sym (setting-kept rules before now s.start_level s.max_cells c.args.traversal c.walk_cell.ensures.stays.keeps))
    (goes-on set c.cells_in_turn.ensures.next s.max_level c.args.input c.args.cell_input cell m after failure_of c.walk_cell.result found old c.args.tally.now now.told new answers)
