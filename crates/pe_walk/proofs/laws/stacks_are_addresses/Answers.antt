use Rattle.pe_walk.proofs.Simulation.Answers.{stacks_are_addresses}
use Rattle.pe_walk.proofs.laws.stacks_are_addresses.Goals as goal

pub returns : goal.returns
returns g c = record { same = stacks_are_addresses }
