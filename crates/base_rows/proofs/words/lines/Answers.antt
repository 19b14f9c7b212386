-- The printed numbers compute.
use Rattle.std.proofs.Common.{refl}
use Rattle.std.specs.Fmt.{digits}
use Rattle.base_rows.proofs.words.lines.Goals as goal

pub returns-clause-cell : goal.returns-clause-cell
unfolding digits
returns-clause-cell c = refl

pub returns-clause-plain : goal.returns-clause-plain
unfolding digits
returns-clause-plain c = refl

pub returns-clause-body : goal.returns-clause-body
unfolding digits
returns-clause-body c = refl

pub returns-clause-plain_event : goal.returns-clause-plain_event
unfolding digits
returns-clause-plain_event c = refl

pub returns-clause-event : goal.returns-clause-event
unfolding digits
returns-clause-event c = refl

pub returns-clause-cells : goal.returns-clause-cells
unfolding digits
returns-clause-cells c = refl
