-- The walk and the printed numbers compute.
use Rattle.std.proofs.Common.{refl}
use Rattle.std.specs.Fmt.{digits}
use Rattle.walk_rows.proofs.address_rows.cells_past_the_limit.Goals as goal

pub returns-clause-within : goal.returns-clause-within
unfolding digits
returns-clause-within c = refl

pub returns-clause-past : goal.returns-clause-past
unfolding digits
returns-clause-past c = refl
