use Rattle.pe_walk.proofs.Bridge.{walk-is}
use Rattle.pe_walk.proofs.laws.steps_are_the_machine.Goals as goal

pub returns : goal.returns
returns g c = record { same = walk-is }
