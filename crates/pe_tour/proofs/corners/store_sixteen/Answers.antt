use Rattle.pe_base.proofs.Calls.Errors.{err-is}
use Rattle.pe_tour.proofs.Moving.{touches-then, touches-fail}
use Rattle.pe_tour.proofs.corners.store_sixteen.Goals as goal

pub returns-in_err-store_eight : goal.returns-in_err-store_eight
returns-in_err-store_eight g c =
    record {
      goes = rw (err-is c.from_residual.result _ c.from_residual.ensures.1)
          (touches-fail c.in_err-store_eight.ensures.goes);
    }

pub returns-in_err-store_first_four : goal.returns-in_err-store_first_four
returns-in_err-store_first_four g c =
    record {
      goes = rw (err-is c.from_residual-in_err-store_first_four.result _ c.from_residual-in_err-store_first_four.ensures.1)
          (touches-then c.in_ok-store_eight.ensures.goes (touches-fail c.in_err-store_first_four.ensures.goes));
    }

pub returns : goal.returns
returns g c =
    record { goes = touches-then c.in_ok-store_eight.ensures.goes (touches-then c.in_ok-store_first_four.ensures.goes c.store_first_four-2.ensures.goes) }
