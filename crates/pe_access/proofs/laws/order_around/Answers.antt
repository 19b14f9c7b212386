-- The laws are those of the walk around a point.
use Rattle.pe_base.proofs.Steps.RouteLaws.{steps-share}
use Rattle.pe_base.proofs.Steps.SlowerLaws.{length-around, crossings-count}
use Rattle.pe_access.proofs.laws.order_around.Goals as goal

pub returns-clause-count : goal.returns-clause-count
returns-clause-count c axes way vertex few inside = length-around axes way vertex few inside

pub returns-clause-faces : goal.returns-clause-faces
returns-clause-faces c axes way vertex few inside = steps-share axes way vertex few inside

pub returns-clause-crossings : goal.returns-clause-crossings
returns-clause-crossings c axes way vertex few inside axis within = crossings-count axes way vertex axis few within inside
