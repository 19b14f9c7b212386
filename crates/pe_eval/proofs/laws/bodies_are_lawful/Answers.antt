use Rattle.pe_eval.proofs.Meanings.{meaning_lawful}
use Rattle.pe_eval.proofs.laws.bodies_are_lawful.Goals as goal

pub returns : goal.returns
returns c = meaning_lawful
