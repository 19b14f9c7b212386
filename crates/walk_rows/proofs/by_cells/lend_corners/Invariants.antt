use Rattle.std.proofs.Common.{◌≡◌, ℕ, ◌+◌, ◌-◌, ◌^◌, []}
use Rattle.pe_base.specs.Calls.Follows.{BeforeCall, Leads}
use Rattle.pe_stacks.specs.Filled.{FullFrom}
use Rattle.pe_stacks.specs.Holdings.{CountsWithin}
use Rattle.pe_stacks.specs.Sights.{corner_records}
use Rattle.pe_mapping.specs.Held.{Keeps}
use Rattle.pe_hang.specs.InHand.{setting_of}
use Rattle.pe_adapt.specs.CountedTouches.{Machine, StreamStacks}
use Rattle.pe_walk.proofs.RootCorners.{roots}
use Rattle.walk_rows.proofs.by_cells.lend_corners.Given as goal

-- the last corners are made
abbrev pub invariant-loop-done : goal.invariant-loop-done
invariant-loop-done g l =
    let numbers = g.M.Mapping.numbers.vertex in
    let before = g.M.Mapping.held l.initial.m in
    let now = g.M.Mapping.held l.m in
    let rules = g.M.Effects.rules in
    record {
      count : l.count ≡ 2 ^ l.fn.dim;
      full : FullFrom l.fn.dim (2 ^ l.fn.dim - l.done) l.corners;
      made : (start_level max_cells traversal : ℕ) (streams : StreamStacks) (rest : Machine) (found : BeforeCall)
          → Leads (roots numbers (setting_of rules before start_level max_cells traversal) streams rest (2 ^ l.fn.dim) [] (g.DV.Depot.holds l.initial.dv) before.list) found found
          (roots numbers (setting_of rules before start_level max_cells traversal) streams rest (2 ^ l.fn.dim - l.done) (corner_records numbers l.corners) (g.DV.Depot.holds l.dv) now.list);
      out : (g.DV.Depot.holds l.dv).out ≡ (g.DV.Depot.holds l.initial.dv).out + l.done;
      counts : CountsWithin (g.DV.Depot.holds l.dv) (2 ^ 60 + l.done);
      keeps : Keeps before now;
    }
