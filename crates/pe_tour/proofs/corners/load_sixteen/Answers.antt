use Rattle.pe_base.proofs.Calls.Errors.{err-is}
use Rattle.pe_tour.proofs.Moving.{touches-then, touches-fail}
use Rattle.pe_tour.proofs.corners.load_sixteen.Goals as goal

pub returns-in_err-load_last_eight : goal.returns-in_err-load_last_eight
returns-in_err-load_last_eight g c =
    record {
      goes = rw (err-is c.from_residual.result _ c.from_residual.ensures.1)
          (touches-fail c.in_err-load_last_eight.ensures.goes);
    }

pub returns : goal.returns
returns g c =
    record { goes = touches-then c.in_ok-load_last_eight.ensures.goes c.load_eight.ensures.goes }
