use Rattle.pe_base.proofs.Walk.MapLaws.{at-put, at-removed}
use Rattle.pe_base.proofs.laws.maps.Goals as goal

pub returns-clause-put : goal.returns-clause-put
returns-clause-put c = at-put

pub returns-clause-removed : goal.returns-clause-removed
returns-clause-removed c = at-removed
