-- The ages of one corner among those of all.
use Rattle.std.proofs.Common.{arith}
use Rattle.pe_states.proofs.BoundaryLaws.{small_corner}
use Rattle.pe_states.proofs.carriers.level_one.Goals as goal

pub at-requires : goal.at-requires
at-requires c = small_corner c.args.dim c.args.corner (omega arith) c.requires.corner
