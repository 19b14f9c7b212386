use Rattle.std.proofs.Common.{◌*◌, ◌-◌, ◌^◌, ◌≤◌, arith, rules, slice_index_or}
use Rattle.bench_walk.proofs.Lengths.{position_few, position_within}
use Rattle.bench_walk.proofs.ring.position.Goals as goal

pub overflow_mul-result : goal.overflow_mul-result
overflow_mul-result c =
    let few : slice_index_or c.args.at.now.pos c.args.axis 0 * 3 ^ (c.args.greatest - c.args.at.now.level) ≤ 387420489 = position_few _ _ _ (position_within c.args.at.now c.args.axis c.requires.place (search rules)) c.requires.level c.requires.few in
    rw c.width_of.ensures.value (omega (arith, few))

pub returns-clause-small : goal.returns-clause-small
returns-clause-small c = rw c.width_of.ensures.value (position_few _ _ _ (position_within c.args.at.now c.args.axis c.requires.place (search rules)) c.requires.level c.requires.few)
