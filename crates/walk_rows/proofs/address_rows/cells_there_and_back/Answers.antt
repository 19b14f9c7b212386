-- The walk and the printed numbers compute.
use Rattle.std.proofs.Common.{refl}
use Rattle.std.specs.Fmt.{digits}
use Rattle.walk_rows.proofs.address_rows.cells_there_and_back.Goals as goal

pub returns-clause-forward : goal.returns-clause-forward
unfolding digits
returns-clause-forward c = refl

pub returns-clause-inverted : goal.returns-clause-inverted
unfolding digits
returns-clause-inverted c = refl
