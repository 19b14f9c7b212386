use Rattle.std.proofs.Common.{◌^◌, refl, subst, arith}
use Rattle.pe_base.specs.Tree.Dim.{IsDim}
use Rattle.pe_stacks.proofs.Raising.{within_new}
use Rattle.pe_walk.proofs.Beginnings.{begins}
use Rattle.walk_rows.proofs.NewDepots.{holds-nothing}
use Rattle.walk_rows.proofs.cell_rows.fresh_grid.Goals as goal

pub returns-clause-counts : goal.returns-clause-counts
returns-clause-counts g c = within_new (g.DV.Depot.holds c.args.dv.now) 10 (2 ^ 60) c.requires.new

pub returns-clause-cell_counts : goal.returns-clause-cell_counts
returns-clause-cell_counts g c = within_new (g.DC.Depot.holds c.args.dc.now) 2 (2 ^ 60) c.requires.no_cells

pub returns-clause-grid : goal.returns-clause-grid
returns-clause-grid g c =
    let levels = c.args.setup.now.levels in
    let axes = subst IsDim c.axes-axes.ensures.value c.axes-axes.ensures.range in
    begins g.M.Mapping.numbers (g.M.Mapping.held c.args.m.now) c.args.setup.now.max_level _ c.fresh.result
    (holds-nothing 10 (g.DV.Depot.holds c.args.dv.now) refl c.requires.new) (holds-nothing 2 (g.DC.Depot.holds c.args.dc.now) refl c.requires.no_cells)
    (rw c.fresh.ensures axes) (omega (arith, levels.some, levels.within)) levels.few (rw c.fresh.ensures refl)
