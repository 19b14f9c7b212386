use Rattle.std.proofs.Common.{◌^◌, ◌∙◌, sym, arith}
use Rattle.pe_stacks.proofs.CornerSlots.{corners_range}
use Rattle.pe_stacks.proofs.QuadSlots.{quad_within, quad_seen}
use Rattle.pe_stacks.proofs.corners.Corners.quad.Goals as goal

pub quad-requires : goal.quad-requires
quad-requires g c =
    let inside = rw (← c.self.view_is) at c.requires in
    omega (arith, inside, corners_range c.self.inside.dim c.self.invariant.dim)

pub returns : goal.returns
returns g c =
    let n = 2 ^ c.self.inside.dim in
    let inside = rw (← c.self.view_is) at c.requires in
    rw (← c.self.view_is) (c.quad.ensures ∙ sym (quad_seen n c.self.inside.slots c.args.q (quad_within c.self.inside.dim c.args.q c.self.invariant.dim inside)))
