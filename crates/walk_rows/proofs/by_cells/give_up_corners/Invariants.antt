use Rattle.std.proofs.Common.{◌^◌, ◌+◌, ◌≤◌}
use Rattle.pe_stacks.specs.Filled.{FullFrom}
use Rattle.walk_rows.proofs.by_cells.give_up_corners.Given as goal

-- the first corners are given up
abbrev pub invariant-loop-k : goal.invariant-loop-k
invariant-loop-k g l = record {
  full : FullFrom l.fn.dim l.k l.corners;
  out : 2 ^ l.fn.dim ≤ (g.DV.Depot.holds l.dv).out + l.k;
}
