use Rattle.std.proofs.Common.{refl, arith}
use Rattle.traversals.proofs.Peaks.{none_within}
use Rattle.traversals.proofs.scarce.Scarce.new.Goals as goal

pub loop-s-init : goal.loop-s-init
loop-s-init g c = record {
  stacks = refl;
  within = λ t. none_within 256 t _;
  seen = λ t below. absurd (omega arith);
}
