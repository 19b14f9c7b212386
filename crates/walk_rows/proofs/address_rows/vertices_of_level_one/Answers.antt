-- The walk and the printed numbers compute.
use Rattle.std.proofs.Common.{refl}
use Rattle.std.specs.Fmt.{digits}
use Rattle.walk_rows.proofs.address_rows.vertices_of_level_one.Goals as goal

pub returns-clause-hanging : goal.returns-clause-hanging
unfolding digits
returns-clause-hanging c = refl

pub returns-clause-space : goal.returns-clause-space
unfolding digits
returns-clause-space c = refl

pub returns-clause-four_axes : goal.returns-clause-four_axes
unfolding digits
returns-clause-four_axes c = refl
