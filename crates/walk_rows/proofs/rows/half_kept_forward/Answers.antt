-- The rows are computed.
use Rattle.std.proofs.Common.{refl}
use Rattle.walk_rows.proofs.rows.half_kept_forward.Goals as goal

pub returns-clause-places : goal.returns-clause-places
returns-clause-places c = refl
