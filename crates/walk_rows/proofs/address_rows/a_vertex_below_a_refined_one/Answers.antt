-- The walk and the printed numbers compute.
use Rattle.std.proofs.Common.{refl}
use Rattle.std.specs.Fmt.{digits}
use Rattle.walk_rows.proofs.address_rows.a_vertex_below_a_refined_one.Goals as goal

pub returns-clause-born : goal.returns-clause-born
unfolding digits
returns-clause-born c = refl

pub returns-clause-band : goal.returns-clause-band
unfolding digits
returns-clause-band c = refl
