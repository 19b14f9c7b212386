use Rattle.std.proofs.Common.{◌^◌, length, ap, arith, None}
use Rattle.std.proofs.lemmas.List.{take-replicate, drop-replicate}
use Rattle.pe_base.specs.Tree.Dim.{IsDim}
use Rattle.pe_stacks.proofs.CornerSlots.{corners_range, corners_of}
use Rattle.pe_stacks.proofs.corners.Corners.empty.Goals as goal

pub invariant_of-result : goal.invariant_of-result
invariant_of-result g c = record {
  dim = (omega arith, omega arith);
  count = ap length c.empty.ensures;
  rest = rw c.empty.ensures (drop-replicate (2 ^ c.args.dim) 16 None);
}

pub returns : goal.returns
returns g c =
    let within : IsDim c.args.dim = (omega arith, omega arith) in
    rw c.empty.ensures (ap (corners_of c.args.dim) (take-replicate (2 ^ c.args.dim) 16 None (corners_range c.args.dim within)))
