use Rattle.std.proofs.Common.{◌≡◌, ℕ, ◌-◌, ◌^◌, [], false}
use Rattle.pe_stacks.specs.Filled.{FullFrom}
use Rattle.pe_mapping.specs.Held.{Keeps, found_of}
use Rattle.pe_stacks.specs.Sights.{corner_records}
use Rattle.pe_base.specs.Calls.Follows.{Leads}
use Rattle.pe_stacks.specs.RecordsOut.{RecordsOut, held_by}
use Rattle.pe_adapt.specs.CountedTouches.{Machine}
use Rattle.pe_adapt.specs.WalkedCells.{setting_in, stream_stacks_of}
use Rattle.pe_walk.proofs.RootCorners.{roots}
use Rattle.pe_walk.proofs.root.lend_corners.Given as goal

-- the last corners are made
abbrev pub invariant-loop-done : goal.invariant-loop-done
invariant-loop-done g l =
    let numbers = g.M.Mapping.numbers.vertex in
    let before = g.M.Mapping.held l.initial.m in
    let now = g.M.Mapping.held l.m in
    let vertices = g.DV.Depot.holds l.initial.dv in
    let room = g.DV.Depot.room l.initial.dv in
    let vertices' = g.DV.Depot.holds l.dv in
    let room' = g.DV.Depot.room l.dv in
    let set = setting_in g.M.Effects.rules before l.settings in
    let streams = stream_stacks_of l.settings in
    record {
      count : l.count ≡ 2 ^ l.settings.setup.dim;
      full : FullFrom l.settings.setup.dim (2 ^ l.settings.setup.dim - l.done) l.corners;
      leads : (rest : Machine) (cells : ℕ → ℕ) → Leads (roots numbers set streams rest (2 ^ before.dim) [] vertices before.list)
          (found_of before (held_by vertices room) cells) (found_of now (held_by vertices' room') cells)
          (roots numbers set streams rest (2 ^ before.dim - l.done) (corner_records numbers l.corners) vertices' now.list);
      left : RecordsOut 0 l.done vertices room vertices' room' false;
      keeps : Keeps before now;
    }
