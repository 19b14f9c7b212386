-- Outcomes whose text is added in several pieces.
use Rattle.std.proofs.Common.{ℕ, ℤ, Bool, List, ◌++◌, Option, None, Result, Ok, Err}
use Rattle.pe_base.specs.declared.stop.Stop.{Stop}
use Rattle.pe_base.specs.declared.stop.Stop.TheVariants.{Overflow, Division, Sink, Memory}
use Rattle.pe_base.specs.Acts.Effects.{Seen, Outcome, Fault}
use Rattle.pe_base.specs.Acts.Outcomes.{after_text}
use Rattle.pe_base.specs.Calls.Told.{Told, Adds, FailsToTell}
use Rattle.pe_base.specs.Calls.Outcomes.{IsOutcome, AnswersBy}
use Rattle.pe_base.proofs.Calls.Texts.{adds-then, part-first, part-then, fails-then}

-- the sink failed at the text that comes first
pub fails-first : (text more : List ℕ) (old new : Told) → FailsToTell text old new → FailsToTell (text ++ more) old new
fails-first text more old new fails = record { failed = fails.failed; told = part-first old new text more fails.told }

-- the text that comes first was added before
module _ (text : List ℕ) (outcome : Outcome) (old mid new : Told) (written : Adds old text mid) where
  outcome-after : (end : Option Fault) (left : List ℤ) (after : Seen) → IsOutcome outcome end mid new left after → IsOutcome (after_text text outcome) end old new left after
  outcome-after end left after is = record {
    fault = is.fault;
    seen = is.seen;
    list = is.list;
    told = adds-then old mid new text outcome.text written is.told;
  }

  pub answers-after : {T : Type 0} (sure : Bool) (left : List ℤ) (after : Seen) (result : Result T Stop) → AnswersBy outcome sure mid new left after result → AnswersBy (after_text text outcome) sure old new left after result
  answers-after sure left after (Ok done) answer = outcome-after None left after answer
  answers-after sure left after (Err Overflow) answer = outcome-after _ left after answer
  answers-after sure left after (Err Division) answer = outcome-after _ left after answer
  answers-after sure left after (Err Sink) answer = record {
    failed = fails-then old mid new text written answer.failed;
    told = part-then old mid new text outcome.text written answer.told;
  }
  answers-after sure left after (Err Memory) answer = record {
    unsure = answer.unsure;
    told = part-then old mid new text outcome.text written answer.told;
  }
