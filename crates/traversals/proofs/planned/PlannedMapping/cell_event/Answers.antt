use Rattle.pe_base.proofs.Lawful.{leaves_same}
use Rattle.traversals.proofs.planned.PlannedMapping.cell_event.Goals as goal

pub returns-in-Ok-clause-lawful : goal.returns-in-Ok-clause-lawful
returns-in-Ok-clause-lawful c = leaves_same _ _

pub returns-in-Err-clause-lawful : goal.returns-in-Err-clause-lawful
returns-in-Err-clause-lawful c = leaves_same _ _
