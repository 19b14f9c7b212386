use Rattle.std.proofs.Common.{◌≡◌, ◌^◌}
use Rattle.pe_adapt.proofs.KindLaws.{HaveAges}
use Rattle.pe_adapt.proofs.kinds.ages_of.Given as goal

abbrev pub invariant-loop-k : goal.invariant-loop-k
invariant-loop-k g l = record {
  corners : l.corners ≡ l.fn.corners;
  end : l.k-end ≡ 2 ^ l.fn.dim;
  aged : HaveAges l.corners l.k l.ages;
}
