use Rattle.pe_walk.proofs.Going.{goes-then}
use Rattle.pe_walk.proofs.quad.load_upper.Goals as goal

pub returns-clause-goes : goal.returns-clause-goes
returns-clause-goes g c = goes-then c.in_ok-load_quad.ensures.goes c.load_quad-2.ensures.goes
