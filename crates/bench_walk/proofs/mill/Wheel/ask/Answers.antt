use Rattle.std.proofs.Common.{arith, rules}
use Rattle.bench_walk.proofs.Lengths.{position_small}
use Rattle.bench_walk.proofs.mill.Wheel.ask.Goals as goal

pub overflow_mul-sum : goal.overflow_mul-sum
overflow_mul-sum c = omega (arith, position_small c.args.at.now 0 c.requires.place (search rules), position_small c.args.at.now 1 c.requires.place (search rules), position_small c.args.at.now 2 c.requires.place (search rules), position_small c.args.at.now 3 c.requires.place (search rules))

pub overflow_add-sum : goal.overflow_add-sum
overflow_add-sum c = omega (arith, position_small c.args.at.now 0 c.requires.place (search rules), position_small c.args.at.now 1 c.requires.place (search rules), position_small c.args.at.now 2 c.requires.place (search rules), position_small c.args.at.now 3 c.requires.place (search rules))

pub overflow_mul-sum-2 : goal.overflow_mul-sum-2
overflow_mul-sum-2 c = omega (arith, position_small c.args.at.now 0 c.requires.place (search rules), position_small c.args.at.now 1 c.requires.place (search rules), position_small c.args.at.now 2 c.requires.place (search rules), position_small c.args.at.now 3 c.requires.place (search rules))

pub overflow_add-sum-2 : goal.overflow_add-sum-2
overflow_add-sum-2 c = omega (arith, position_small c.args.at.now 0 c.requires.place (search rules), position_small c.args.at.now 1 c.requires.place (search rules), position_small c.args.at.now 2 c.requires.place (search rules), position_small c.args.at.now 3 c.requires.place (search rules))

pub overflow_mul-sum-3 : goal.overflow_mul-sum-3
overflow_mul-sum-3 c = omega (arith, position_small c.args.at.now 0 c.requires.place (search rules), position_small c.args.at.now 1 c.requires.place (search rules), position_small c.args.at.now 2 c.requires.place (search rules), position_small c.args.at.now 3 c.requires.place (search rules))

pub overflow_add-sum-3 : goal.overflow_add-sum-3
overflow_add-sum-3 c = omega (arith, position_small c.args.at.now 0 c.requires.place (search rules), position_small c.args.at.now 1 c.requires.place (search rules), position_small c.args.at.now 2 c.requires.place (search rules), position_small c.args.at.now 3 c.requires.place (search rules))

pub overflow_add-sum-4 : goal.overflow_add-sum-4
overflow_add-sum-4 c = omega (arith, position_small c.args.at.now 0 c.requires.place (search rules), position_small c.args.at.now 1 c.requires.place (search rules), position_small c.args.at.now 2 c.requires.place (search rules), position_small c.args.at.now 3 c.requires.place (search rules))

pub overflow_add-sum-5 : goal.overflow_add-sum-5
overflow_add-sum-5 c = omega (arith, position_small c.args.at.now 0 c.requires.place (search rules), position_small c.args.at.now 1 c.requires.place (search rules), position_small c.args.at.now 2 c.requires.place (search rules), position_small c.args.at.now 3 c.requires.place (search rules))
