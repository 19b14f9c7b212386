use Rattle.pe_base.proofs.Walk.CarrierLaws.{carriers_are_parents}
use Rattle.pe_base.proofs.laws.carriers.Goals as goal

pub returns : goal.returns
returns c = record { parents = carriers_are_parents }
