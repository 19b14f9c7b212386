use Rattle.std.proofs.Common.{◌+◌, ◌∙◌, sym, subst}
use Rattle.pe_base.specs.Walk.Working.{no_tally}
use Rattle.pe_hang.specs.InHand.{setting_of}
use Rattle.pe_base.specs.Calls.Follows.{Fits, Follows, read_by}
use Rattle.pe_mapping.specs.Held.{found_of}
use Rattle.pe_stacks.specs.RecordsOut.{held_by}
use Rattle.pe_adapt.specs.Stops.{failure_of}
use Rattle.pe_walk.specs.Machine.{traverse}
use Rattle.pe_walk.specs.Gridded.{stream_stacks_of}
use Rattle.pe_walk.specs.InHand.{machine_between}
use Rattle.pe_walk.specs.Traversing.{Stores}
use Rattle.pe_walk.proofs.Simulation.Answers.{stacks_are_addresses}
use Rattle.pe_walk.proofs.Traversing.{may_turn, fits_of, answers}
use Rattle.pe_walk.proofs.Beginnings.{goes_on_if}
use Rattle.pe_walk.proofs.traversal.traverse.Goals as goal

pub traverse_stacks-requires-clause-fits : goal.traverse_stacks-requires-clause-fits
traverse_stacks-requires-clause-fits g c =
    let walked = c.requires.grid.0 in
    let may = c.requires.grid.1 in
    let set = setting_of g.M.Effects.rules (g.M.Mapping.held c.args.m.now) c.args.setup.now.start_level c.args.setup.now.max_cells (c.args.grid.finished + 1) in
    let begins = machine_between g.M.Mapping.numbers (g.DV.Depot.holds c.args.dv.now) (g.DC.Depot.holds c.args.dc.now) c.args.grid.root (g.M.Mapping.held c.args.m.now).list (no_tally (c.args.grid.finished + 1)) in
    let turns = may_turn g.M.Mapping.numbers g.M.Effects.rules (g.M.Mapping.held c.args.m.now) c.args.setup.now.start_level c.args.setup.now.max_cells c.args.setup.now.max_level
    (record { vertices = g.DV.Depot.holds c.args.dv.now; cells = g.DC.Depot.holds c.args.dc.now }) c.args.grid walked g.M.Effects.lawful (c.requires.dim ∙ sym c.requires.axes) c.requires.greatest c.args.setup.now.levels c.args.setup.now.limit
    c.requires.counts c.requires.cell_counts may in
    subst (λ levels. Fits (traverse set (stream_stacks_of c.args.grid.swapped) levels begins)) may.greatest
    (fits_of set walked c.args.grid.swapped (traverse set (stream_stacks_of c.args.grid.swapped) walked.greatest begins) (stacks_are_addresses set walked c.args.grid.swapped begins turns))

pub returns-clause-answers : goal.returns-clause-answers
returns-clause-answers g c walked may =
    let set = setting_of g.M.Effects.rules (g.M.Mapping.held c.args.m.now) c.args.setup.now.start_level c.args.setup.now.max_cells (c.args.grid.finished + 1) in
    let before : Stores g.row.M-V.Denot g.row.M-C.Denot = record { vertices = g.DV.Depot.holds c.args.dv.now; cells = g.DC.Depot.holds c.args.dc.now } in
    let after : Stores g.row.M-V.Denot g.row.M-C.Denot = record { vertices = g.DV.Depot.holds c.traverse_stacks.new.dv; cells = g.DC.Depot.holds c.traverse_stacks.new.dc } in
    let begins = machine_between g.M.Mapping.numbers (g.DV.Depot.holds c.args.dv.now) (g.DC.Depot.holds c.args.dc.now) c.args.grid.root (g.M.Mapping.held c.args.m.now).list (no_tally (c.args.grid.finished + 1)) in
    let found = found_of (g.M.Mapping.held c.args.m.now) (held_by (g.DV.Depot.holds c.args.dv.now) (g.DV.Depot.room c.args.dv.now)) (held_by (g.DC.Depot.holds c.args.dc.now) (g.DC.Depot.room c.args.dc.now)) in
    let turns = may_turn g.M.Mapping.numbers g.M.Effects.rules (g.M.Mapping.held c.args.m.now) c.args.setup.now.start_level c.args.setup.now.max_cells c.args.setup.now.max_level
    before c.args.grid walked g.M.Effects.lawful (c.requires.dim ∙ sym c.requires.axes) c.requires.greatest c.args.setup.now.levels c.args.setup.now.limit c.requires.counts c.requires.cell_counts may in
    answers g.M.Mapping.numbers set walked c.args.grid before (g.M.Mapping.held c.args.m.now).list turns found (g.M.Mapping.held c.traverse_stacks.new.m) after may.holds.axes may.holds.finished failure_of c.traverse_stacks.result c.traverse_stacks.ensures.advanced
    (subst (λ levels. Follows (traverse set (stream_stacks_of c.args.grid.swapped) levels begins)
    (λ answer. machine_between g.M.Mapping.numbers (g.DV.Depot.holds c.traverse_stacks.new.dv) (g.DC.Depot.holds c.traverse_stacks.new.dc) answer.0.root (g.M.Mapping.held c.traverse_stacks.new.m).list answer.1)
    (read_by failure_of c.traverse_stacks.result) found (g.M.Mapping.held c.traverse_stacks.new.m).told) (sym may.greatest) c.traverse_stacks.ensures.follows)

pub returns-clause-goes_on : goal.returns-clause-goes_on
returns-clause-goes_on g c =
    let held = g.M.Mapping.held c.traverse_stacks.new.m in
    let found = found_of (g.M.Mapping.held c.args.m.now) (held_by (g.DV.Depot.holds c.args.dv.now) (g.DV.Depot.room c.args.dv.now)) (held_by (g.DC.Depot.holds c.args.dc.now) (g.DC.Depot.room c.args.dc.now)) in
    goes_on_if g.M.Mapping.numbers (setting_of g.M.Effects.rules (g.M.Mapping.held c.args.m.now) c.args.setup.now.start_level c.args.setup.now.max_cells (c.args.grid.finished + 1)) c.requires.grid.0 c.args.grid.swapped c.args.setup.now.max_level found
    (record { vertices = g.DV.Depot.holds c.args.dv.now; cells = g.DC.Depot.holds c.args.dc.now }) held (record { vertices = g.DV.Depot.holds c.traverse_stacks.new.dv; cells = g.DC.Depot.holds c.traverse_stacks.new.dc })
    failure_of c.traverse_stacks.result c.requires.grid.1.greatest (returns-clause-answers g c c.requires.grid.0 c.requires.grid.1)
