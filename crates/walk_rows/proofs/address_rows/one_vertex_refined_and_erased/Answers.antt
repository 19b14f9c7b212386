-- The walk and the printed numbers compute.
use Rattle.std.proofs.Common.{refl}
use Rattle.std.specs.Fmt.{digits}
use Rattle.walk_rows.proofs.address_rows.one_vertex_refined_and_erased.Goals as goal

pub returns-clause-refined : goal.returns-clause-refined
unfolding digits
returns-clause-refined c = refl

pub returns-clause-erased : goal.returns-clause-erased
unfolding digits
returns-clause-erased c = refl

pub returns-clause-two_refined : goal.returns-clause-two_refined
unfolding digits
returns-clause-two_refined c = refl
