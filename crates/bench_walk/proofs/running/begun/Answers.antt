use Rattle.std.proofs.Common.{refl, subst, arith}
use Rattle.pe_base.specs.Tree.Dim.{IsDim}
use Rattle.pe_walk.proofs.Beginnings.{begins}
use Rattle.bench_walk.proofs.running.begun.Goals as goal

pub returns-clause-grid : goal.returns-clause-grid
returns-clause-grid g c =
    let levels = c.args.setup.now.levels in
    let axes = subst IsDim c.axes-axes.ensures.value c.axes-axes.ensures.range in
    begins g.M.Mapping.numbers (g.M.Mapping.held c.args.m.now) c.args.setup.now.max_level _ c.fresh.result c.requires.nothing c.requires.no_cells (rw c.fresh.ensures axes) (omega (arith, levels.some, levels.within)) levels.few (rw c.fresh.ensures refl)
