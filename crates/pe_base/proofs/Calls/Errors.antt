-- Errors that are passed on.
use Rattle.std.proofs.Common.{◌≡◌, Result, Ok, Err, ap}
use Rattle.std.specs.Result.{IsErrAnd}

-- by a `?`
pub err-is : {A E : Type 0} (r : Result A E) (e : E) → IsErrAnd r (λ x. x ≡ e) → r ≡ Err e
err-is (Ok a) e is = absurd is
err-is (Err x) e is = ap Err is
