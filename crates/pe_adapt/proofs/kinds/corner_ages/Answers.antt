use Rattle.std.proofs.Common.{arith}
use Rattle.pe_adapt.proofs.KindLaws.{kind-carried, kind-first}
use Rattle.pe_adapt.proofs.kinds.corner_ages.Goals as goal

pub returns-then-level-eq1 : goal.returns-then-level-eq1
returns-then-level-eq1 c = λ cell its place level child are k below.
    kind-first c.args.dim c.args.traversal cell c.args.digits k its c.level_one.result c.corners-corners.ensures.range place (omega (arith, level)) child
    (c.level_one.ensures.old k below) (c.level_one.ensures.new k below)

pub returns-else-level-eq1 : goal.returns-else-level-eq1
returns-else-level-eq1 c = λ cell its place level child are k below.
    kind-carried c.args.dim c.args.traversal cell c.args.digits k its c.args.parents c.carried.result c.corners-corners.ensures.range place (omega (arith, level)) (omega (arith, level)) c.requires.digits child below are
    (c.carried.ensures.old k below) (c.carried.ensures.new k below)
