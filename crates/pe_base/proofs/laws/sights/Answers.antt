use Rattle.pe_base.proofs.Walk.Families.{family_of-put_family, own_of-put_own}
use Rattle.pe_base.proofs.laws.sights.Goals as goal

pub returns-clause-family : goal.returns-clause-family
returns-clause-family c = family_of-put_family

pub returns-clause-own : goal.returns-clause-own
returns-clause-own c = own_of-put_own
