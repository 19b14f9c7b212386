use Rattle.std.proofs.Common.{◌≡◌}
use Rattle.pe_mapping.specs.Held.{Keeps}
use Rattle.pe_walk.specs.Traversing.{HoldAGrid}
use Rattle.traversals.proofs.running.walks_as.Given as goal

-- the depots hold a grid
abbrev pub invariant-loop-row : goal.invariant-loop-row
invariant-loop-row g l =
    Keeps (g.M.Mapping.held l.fn.m) (g.M.Mapping.held l.m) × (l.grid.dim ≡ l.setup.dim) × HoldAGrid g.M.Mapping.numbers (g.M.Mapping.held l.m) l.setup.max_level (record { vertices = g.DV.Depot.holds l.dv; cells = g.DC.Depot.holds l.dc }) l.grid
