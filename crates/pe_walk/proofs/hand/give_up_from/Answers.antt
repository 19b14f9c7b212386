use Rattle.std.proofs.Common.{◌≡◌, ◌+◌, ◌-◌, ◌^◌, ◌<◌, ap, ◌∙◌, arith}
use Rattle.pe_stacks.specs.Holdings.{stack_count, given_up}
use Rattle.pe_stacks.proofs.Filling.{full_here, full_take}
use Rattle.pe_walk.specs.GivenUp.{given_up_times}
use Rattle.pe_walk.proofs.GivingUp.{given_up-more}
use Rattle.pe_walk.proofs.hand.give_up_from.Goals as goal

pub take-requires : goal.take-requires
take-requires g c = full_here c.args.dim c.loop-k.k c.loop-k.corners (omega (arith, c.loop-k-test.true, c.corners-k-end.ensures.value)) c.loop-k.invariant.full

pub loop-k-preserved : goal.loop-k-preserved
loop-k-preserved g c =
    let before = g.D.Depot.holds c.loop-k.vertices in
    let is = c.loop-k.invariant in
    let past = c.loop-k.k - c.args.first in
    let below : c.loop-k.k < 2 ^ c.args.dim = omega (arith, c.loop-k-test.true, c.corners-k-end.ensures.value) in
    let there : 0 < before.out = omega (arith, is.left.out, c.requires.out, below) in
    let more : past + 1 ≡ (c.loop-k.k + 1) - c.args.first = omega arith in
    record {
      full = full_take c.args.dim c.loop-k.k c.loop-k.corners c.take.new.self below c.take.ensures.corners is.full;
      holds = c.give_up.ensures.holds ∙ ap given_up is.holds ∙ given_up-more past (g.D.Depot.holds c.args.vertices.now) ∙ ap (λ n. given_up_times n (g.D.Depot.holds c.args.vertices.now)) more;
      left = record {
        count = ap stack_count c.give_up.ensures.holds ∙ is.left.count;
        keeps = λ s. omega (arith, is.left.keeps s, c.give_up.ensures.room s);
        out = omega (arith, ap (λ (h : _). h.out) c.give_up.ensures.holds, is.left.out, there);
      };
    }
