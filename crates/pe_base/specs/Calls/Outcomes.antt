-- What a call answers and leaves that does what an outcome says.
use Rattle.std.specs.Prelude.{◌≡◌, ℤ, Bool, false, List, Option, Some, None, Result, Ok, Err}
use Rattle.pe_base.specs.declared.stop.Stop.{Stop}
use Rattle.pe_base.specs.declared.stop.Stop.TheVariants.{Overflow, Division, Sink, Memory}
use Rattle.pe_base.specs.Acts.Effects.{Seen, Outcome, Fault, Overflow as overflows, Division as divides}
use Rattle.pe_base.specs.Calls.Told.{Told, Adds, AddsPart, FailsToTell}

-- all is as the outcome says, which ends with this fault or with none: these are the numbers that are left, and this is
-- seen afterwards
pub record IsOutcome (outcome : Outcome) (end : Option Fault) (old new : Told) (left : List ℤ) (after : Seen) : Type 0 where
  pub fault : outcome.fault ≡ end
  pub seen : outcome.seen ≡ after
  pub list : outcome.list ≡ left
  pub told : Adds old outcome.text new

-- memory was wanting, where that is not ruled out
pub record IsWant (outcome : Outcome) (sure : Bool) (old new : Told) : Type 0 where
  pub unsure : sure ≡ false
  pub told : AddsPart old outcome.text new

-- The answer. Overflow and Division come exactly where the outcome says so, unless the sink failed or memory was wanting
-- before.
abbrev pub AnswersBy : {T : Type 0} → Outcome → Bool → Told → Told → List ℤ → Seen → Result T Stop → Type 0
AnswersBy outcome sure old new left after (Ok _) = IsOutcome outcome None old new left after
AnswersBy outcome sure old new left after (Err Overflow) = IsOutcome outcome (Some overflows) old new left after
AnswersBy outcome sure old new left after (Err Division) = IsOutcome outcome (Some divides) old new left after
AnswersBy outcome sure old new left after (Err Sink) = FailsToTell outcome.text old new
AnswersBy outcome sure old new left after (Err Memory) = IsWant outcome sure old new
