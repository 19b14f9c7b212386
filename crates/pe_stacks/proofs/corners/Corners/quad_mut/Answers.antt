use Rattle.std.proofs.Common.{◌^◌, ◌∙◌, sym, ap, arith, refl}
use Rattle.pe_stacks.proofs.CornerSlots.{corners_range, corners_of}
use Rattle.pe_stacks.proofs.QuadSlots.{quad_within, quad_seen, take-set_quad, drop-set_quad, length-set_quad}
use Rattle.pe_stacks.proofs.corners.Corners.quad_mut.Goals as goal

pub quad_mut-requires : goal.quad_mut-requires
quad_mut-requires g c =
    let inside = rw (← c.self.view_is) at c.requires in
    omega (arith, inside, corners_range c.self.inside.dim c.self.invariant.dim)

pub invariant_of-self-lent : goal.invariant_of-self-lent
invariant_of-self-lent g c w =
    let n = 2 ^ c.self.inside.dim in
    let xs = c.self.inside.slots in
    let inside = rw (← c.self.view_is) at c.requires in
    let whole = quad_within c.self.inside.dim c.args.q c.self.invariant.dim inside in
    record {
      dim = c.self.invariant.dim;
      count = length-set_quad xs c.args.q w ∙ c.self.invariant.count;
      rest = drop-set_quad n xs c.args.q w whole ∙ c.self.invariant.rest;
    }

pub returns : goal.returns
returns g c =
    let n = 2 ^ c.self.inside.dim in
    let xs = c.self.inside.slots in
    let inside = rw (← c.self.view_is) at c.requires in
    let whole = quad_within c.self.inside.dim c.args.q c.self.invariant.dim inside in (
      (refl {a = c.quad_mut.result.ghost_name}, λ w. rw (← c.self.view_is) (ap (corners_of c.self.inside.dim) (take-set_quad n xs c.args.q w whole))),
      record {
        value = rw (← c.self.view_is) (c.quad_mut.ensures.value ∙ sym (quad_seen n xs c.args.q whole));
        writes_back = tt;
      },
    )
