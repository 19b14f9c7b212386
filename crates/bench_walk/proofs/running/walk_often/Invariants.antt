use Rattle.std.proofs.Common.{◌≡◌}
use Rattle.pe_stacks.specs.VecDepot.{holdings_of}
use Rattle.pe_mapping.specs.Held.{Keeps}
use Rattle.pe_walk.specs.Traversing.{HoldAGrid}
use Rattle.bench_walk.proofs.running.walk_often.Given as goal

-- the depots hold a grid
abbrev pub invariant-loop-made : goal.invariant-loop-made
invariant-loop-made g l =
    Keeps (g.M.Mapping.held l.fn.m) (g.M.Mapping.held l.m) × (l.grid.dim ≡ l.setup.dim) × HoldAGrid g.M.Mapping.numbers (g.M.Mapping.held l.m) l.setup.max_level (record { vertices = holdings_of l.dv; cells = holdings_of l.dc }) l.grid
