use Rattle.pe_base.proofs.Calls.Errors.{err-is}
use Rattle.pe_tour.proofs.Moving.{touches-then, touches-fail}
use Rattle.pe_tour.proofs.corners.load_eight.Goals as goal

pub returns-in_err-load_last_four : goal.returns-in_err-load_last_four
returns-in_err-load_last_four g c =
    record {
      goes = rw (err-is c.from_residual.result _ c.from_residual.ensures.1)
          (touches-fail c.in_err-load_last_four.ensures.goes);
    }

pub returns : goal.returns
returns g c =
    record { goes = touches-then c.in_ok-load_last_four.ensures.goes c.load_last_four-2.ensures.goes }
