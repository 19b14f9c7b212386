use Rattle.pe_base.proofs.Calls.Errors.{err-is}
use Rattle.pe_tour.proofs.Moving.{touches-then, touches-fail}
use Rattle.pe_tour.proofs.corners.store_eight.Goals as goal

pub returns-in_err-store_first_four-clause-goes : goal.returns-in_err-store_first_four-clause-goes
returns-in_err-store_first_four-clause-goes g c =
    rw (err-is c.from_residual.result _ c.from_residual.ensures.1)
    (touches-fail c.in_err-store_first_four.ensures.goes)

pub returns-clause-goes : goal.returns-clause-goes
returns-clause-goes g c =
    touches-then c.in_ok-store_first_four.ensures.goes c.store_first_four-2.ensures.goes
