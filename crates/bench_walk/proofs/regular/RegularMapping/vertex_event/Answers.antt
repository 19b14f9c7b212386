use Rattle.pe_base.proofs.Lawful.{leaves_same}
use Rattle.bench_walk.proofs.regular.RegularMapping.vertex_event.Goals as goal

pub returns-clause-lawful : goal.returns-clause-lawful
returns-clause-lawful c = leaves_same _ _
