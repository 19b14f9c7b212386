use Rattle.std.proofs.Common.{◌+◌, ◌≤◌, subst, arith}
use Rattle.std.specs.Prelude.{IfOk}
use Rattle.pe_base.specs.Calls.Follows.{read_by}
use Rattle.pe_base.specs.Walk.Walk.{traverse}
use Rattle.pe_stacks.specs.RecordsOut.{held_by}
use Rattle.pe_mapping.specs.Held.{found_of}
use Rattle.pe_hang.specs.InHand.{setting_of}
use Rattle.pe_adapt.specs.Stops.{failure_of}
use Rattle.pe_walk.specs.Traversing.{Stores, Answers}
use Rattle.walk_rows.proofs.NewDepots.{few-after}
use Rattle.walk_rows.proofs.cell_rows.traversed.Goals as goal

pub returns-clause-counts : goal.returns-clause-counts
returns-clause-counts g c =
    let before = g.M.Mapping.held c.args.m.now in
    let s = c.args.setup.now in
    let old : Stores g.row.M-V.Denot g.row.M-C.Denot = record { vertices = g.DV.Depot.holds c.args.dv.now; cells = g.DC.Depot.holds c.args.dc.now } in
    let new : Stores g.row.M-V.Denot g.row.M-C.Denot = record { vertices = g.DV.Depot.holds c.traverse.new.dv; cells = g.DC.Depot.holds c.traverse.new.dc } in
    let set = setting_of g.M.Effects.rules before s.start_level s.max_cells (c.args.grid.finished + 1) in
    let walked = c.requires.grid.0 in
    let found = found_of before (held_by old.vertices (g.DV.Depot.room c.args.dv.now)) (held_by old.cells (g.DC.Depot.room c.args.dc.now)) in
    let done = subst (λ result. Answers g.M.Mapping.numbers set walked c.args.grid.swapped (traverse set walked) (read_by failure_of result) found old (g.M.Mapping.held c.traverse.new.m) new)
    c.expect-next.ensures (c.traverse.ensures.answers walked c.requires.grid.1) in
    let few = subst (λ result. IfOk result (λ answer. answer.1.cells ≤ s.max_cells)) c.expect-next.ensures c.traverse.ensures.few in
    few-after 10 c.expect-next.result.1.cells old.vertices new.vertices c.requires.new (omega (arith, few, s.limit.few)) done.rises

pub returns-clause-cell_counts : goal.returns-clause-cell_counts
returns-clause-cell_counts g c =
    let before = g.M.Mapping.held c.args.m.now in
    let s = c.args.setup.now in
    let old : Stores g.row.M-V.Denot g.row.M-C.Denot = record { vertices = g.DV.Depot.holds c.args.dv.now; cells = g.DC.Depot.holds c.args.dc.now } in
    let new : Stores g.row.M-V.Denot g.row.M-C.Denot = record { vertices = g.DV.Depot.holds c.traverse.new.dv; cells = g.DC.Depot.holds c.traverse.new.dc } in
    let set = setting_of g.M.Effects.rules before s.start_level s.max_cells (c.args.grid.finished + 1) in
    let walked = c.requires.grid.0 in
    let found = found_of before (held_by old.vertices (g.DV.Depot.room c.args.dv.now)) (held_by old.cells (g.DC.Depot.room c.args.dc.now)) in
    let done = subst (λ result. Answers g.M.Mapping.numbers set walked c.args.grid.swapped (traverse set walked) (read_by failure_of result) found old (g.M.Mapping.held c.traverse.new.m) new)
    c.expect-next.ensures (c.traverse.ensures.answers walked c.requires.grid.1) in
    let few = subst (λ result. IfOk result (λ answer. answer.1.cells ≤ s.max_cells)) c.expect-next.ensures c.traverse.ensures.few in
    few-after 2 c.expect-next.result.1.cells old.cells new.cells c.requires.no_cells (omega (arith, few, s.limit.few)) done.cells_rise
