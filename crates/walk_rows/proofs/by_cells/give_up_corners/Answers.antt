use Rattle.std.proofs.Common.{◌≡◌, ◌^◌, ◌<◌, ap, ◌∙◌, arith}
use Rattle.pe_stacks.specs.Corners.{no_vertices}
use Rattle.pe_stacks.specs.Filled.{FullFrom}
use Rattle.pe_stacks.proofs.Filling.{full_from, full_here, full_take, full_end}
use Rattle.walk_rows.proofs.by_cells.give_up_corners.Goals as goal

pub loop-k-init : goal.loop-k-init
loop-k-init g c = record { full = full_from c.args.dim c.args.corners.now c.requires.full; out = omega (arith, c.requires.out) }

pub take-requires : goal.take-requires
take-requires g c = full_here c.args.dim c.loop-k.k c.loop-k.corners (omega (arith, c.loop-k-test.true, c.corners-k-end.ensures.value)) c.loop-k.invariant.full

pub give_up-requires : goal.give_up-requires
give_up-requires g c = omega (arith, c.loop-k.invariant.out, c.loop-k-test.true, c.corners-k-end.ensures.value)

pub loop-k-preserved : goal.loop-k-preserved
loop-k-preserved g c =
    let below : c.loop-k.k < 2 ^ c.args.dim = omega (arith, c.loop-k-test.true, c.corners-k-end.ensures.value) in
    record {
      full = full_take c.args.dim c.loop-k.k c.loop-k.corners c.take.new.self below c.take.ensures.corners c.loop-k.invariant.full;
      out = omega (arith, ap (λ (h : _). h.out) c.give_up.ensures.holds, c.loop-k.invariant.out);
    }

pub returns : goal.returns
returns g c =
    let all : c.loop-k.k ≡ 2 ^ c.args.dim = omega (arith, c.corners-k-end.ensures.value, c.loop-k-test.false, c.loop-k.auto.k-end) in
    let full : FullFrom c.args.dim c.loop-k.k c.loop-k.corners = c.loop-k.invariant.full in
    full_end c.args.dim c.loop-k.k c.loop-k.corners all full ∙ ap no_vertices (ap (λ corners. corners.dim) full.slots)
