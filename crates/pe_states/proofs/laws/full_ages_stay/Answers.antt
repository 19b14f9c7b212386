use Rattle.pe_states.proofs.CarrierLaws.{all_carry}
use Rattle.pe_states.proofs.laws.full_ages_stay.Goals as goal

pub returns : goal.returns
returns c axes digits k test few fit all = all_carry axes digits k test few fit all
