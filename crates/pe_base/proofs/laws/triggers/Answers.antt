use Rattle.pe_base.proofs.Walk.TableLaws.{keeps_ages}
use Rattle.pe_base.proofs.laws.triggers.Goals as goal

pub returns : goal.returns
returns c = record { ages = keeps_ages }
