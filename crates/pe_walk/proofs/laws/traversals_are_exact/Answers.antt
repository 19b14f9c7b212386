-- The law.
use Rattle.pe_walk.proofs.Simulation.Tallied.Traversals.{tally_is_foreseen, traversals_are_exact}
use Rattle.pe_walk.proofs.laws.traversals_are_exact.Goals as goal

pub returns-clause-tally : goal.returns-clause-tally
returns-clause-tally g c = tally_is_foreseen

pub returns-clause-exact : goal.returns-clause-exact
returns-clause-exact g c = traversals_are_exact
