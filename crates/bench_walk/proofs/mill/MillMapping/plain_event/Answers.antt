use Rattle.std.proofs.Common.{rules}
use Rattle.bench_walk.proofs.mill.MillMapping.plain_event.Goals as goal

pub returns-in-Err-clause-answer : goal.returns-in-Err-clause-answer
returns-in-Err-clause-answer g c = rw c.in-EndIteration.is (search rules)
