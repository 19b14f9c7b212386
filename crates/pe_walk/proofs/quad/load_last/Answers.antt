use Rattle.pe_walk.proofs.Going.{goes-nowhere}
use Rattle.pe_walk.proofs.quad.load_last.Goals as goal

pub returns-then-corners_in-le8-clause-goes : goal.returns-then-corners_in-le8-clause-goes
returns-then-corners_in-le8-clause-goes g c = goes-nowhere _ _ _ c.requires.ready.here.full
