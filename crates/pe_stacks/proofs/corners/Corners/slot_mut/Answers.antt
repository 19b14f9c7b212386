use Rattle.std.proofs.Common.{◌^◌, ap, arith, refl}
use Rattle.std.proofs.Math.Seq.{take-set-lt}
use Rattle.pe_stacks.proofs.CornerSlots.{seen, corners_range, corners_of}
use Rattle.pe_stacks.proofs.corners.Corners.slot_mut.Goals as goal

pub slot_mut-requires : goal.slot_mut-requires
slot_mut-requires g c =
    let inside = rw (← c.self.view_is) at c.requires in
    omega (arith, inside, corners_range c.self.inside.dim c.self.invariant.dim)

pub returns : goal.returns
returns g c =
    let n = 2 ^ c.self.inside.dim in
    let xs = c.self.inside.slots in
    let inside = rw (← c.self.view_is) at c.requires in (
      (refl {a = c.slot_mut.result.ghost_name}, λ w. rw (← c.self.view_is) (ap (corners_of c.self.inside.dim) (take-set-lt n xs c.args.k w inside))),
      record {
        value = rw (← c.self.view_is) (seen n xs c.args.k c.slot_mut.result.now inside c.slot_mut.ensures.value);
        writes_back = tt;
      },
    )
