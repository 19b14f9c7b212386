-- Failures that are passed on.
use Rattle.std.proofs.Common.{Err}
use Rattle.pe_base.specs.Walk.Course.{Course}
use Rattle.pe_base.specs.Calls.Told.{Told}
use Rattle.pe_base.specs.Calls.Follows.{Follows, BeforeCall, Failure, halted, unwritten, wanting, unheard_of}

-- a call that fails follows its course, whatever it leaves
pub err-after : {X A B : Type 0} (course : Course X) (after : A → X) (after' : B → X) (failure : Failure) (old : BeforeCall) (new : Told)
    → Follows course after (Err failure) old new → Follows course after' (Err failure) old new
err-after course after after' (halted cause) old new is = is
err-after course after after' unwritten old new is = is
err-after course after after' wanting old new is = is
err-after course after after' unheard_of old new is = is
