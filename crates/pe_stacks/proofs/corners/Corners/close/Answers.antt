use Rattle.std.proofs.Common.{◌^◌, ap}
use Rattle.pe_stacks.specs.declared.record.Vertex.{Vertex}
use Rattle.pe_stacks.specs.Corners.{CornerList}
use Rattle.pe_stacks.proofs.CornerSlots.{all_empty, corners_range}
use Rattle.pe_stacks.proofs.corners.Corners.close.Goals as goal

pub close-requires : goal.close-requires
close-requires g c =
    let seen_empty = rw (← c.self.view_is) at c.requires in
    all_empty (2 ^ c.self.inside.dim) 16 c.self.inside.slots (ap (λ (it : CornerList (Vertex g.row.P.Denot)). it.slots) seen_empty) c.self.invariant.rest (corners_range c.self.inside.dim c.self.invariant.dim)
