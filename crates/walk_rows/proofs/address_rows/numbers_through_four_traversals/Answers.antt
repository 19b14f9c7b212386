-- The walk and the printed numbers compute.
use Rattle.std.proofs.Common.{refl}
use Rattle.std.specs.Fmt.{digits}
use Rattle.walk_rows.proofs.address_rows.numbers_through_four_traversals.Goals as goal

pub returns-clause-third : goal.returns-clause-third
unfolding digits
returns-clause-third c = refl

pub returns-clause-fourth : goal.returns-clause-fourth
unfolding digits
returns-clause-fourth c = refl
