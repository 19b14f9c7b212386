use Rattle.std.proofs.Common.{◌^◌, ◌∙◌, ap, Some}
use Rattle.pe_stacks.proofs.CornerSlots.{full_seen, seen, not_empty}
use Rattle.pe_stacks.proofs.corners.Corners.at.Goals as goal

pub unreachable-requires : goal.unreachable-requires
unreachable-requires g c =
    let n = 2 ^ c.self.inside.dim in
    let xs = c.self.inside.slots in
    let full = rw (← c.self.view_is) at c.requires in
    not_empty n xs c.args.k full (c.slot.ensures ∙ ap Some c.in-None.is)

pub returns : goal.returns
returns g c =
    let n = 2 ^ c.self.inside.dim in
    let xs = c.self.inside.slots in
    let full = rw (← c.self.view_is) at c.requires in
    rw (← c.self.view_is) (seen n xs c.args.k (Some c.in-Some.v) (full_seen n xs c.args.k full) (c.slot.ensures ∙ ap Some c.in-Some.is))
