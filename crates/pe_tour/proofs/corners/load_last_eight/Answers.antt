use Rattle.pe_base.proofs.Calls.Errors.{err-is}
use Rattle.pe_tour.proofs.Moving.{touches-then, touches-fail}
use Rattle.pe_tour.proofs.corners.load_last_eight.Goals as goal

pub returns-in_err-load_last_four-clause-goes : goal.returns-in_err-load_last_four-clause-goes
returns-in_err-load_last_four-clause-goes g c =
    rw (err-is c.from_residual.result _ c.from_residual.ensures.1)
    (touches-fail c.in_err-load_last_four.ensures.goes)

pub returns-clause-goes : goal.returns-clause-goes
returns-clause-goes g c =
    touches-then c.in_ok-load_last_four.ensures.goes c.load_last_four-2.ensures.goes
