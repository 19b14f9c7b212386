-- What the calls of a mapping answer and leave, by the effect that it states.
use Rattle.std.specs.Prelude.{◌≡◌, ℤ, false, List, Result, Ok, Err}
use Rattle.pe_base.specs.declared.stop.Stop.{Stop}
use Rattle.pe_base.specs.Acts.Effects.{Seen, Outcome, Fresh}
use Rattle.pe_base.specs.Calls.Outcomes.{AnswersBy}
use Rattle.pe_mapping.specs.Held.{Held}

-- an event's answer, by its outcome and what is seen afterwards
abbrev pub Answers : {Plan : Type 0} → Outcome → Held Plan → Held Plan → Seen → Result (Unit {0}) Stop → Type 0
Answers outcome old new after result = AnswersBy outcome old.sure old.told new.told new.list after result

-- a payload was made as stated
pub record IsMade {Plan P : Type 0} (numbers : P → List ℤ) (fresh : Fresh) (new : Held Plan) (made : P) : Type 0 where
  pub payload : numbers made ≡ fresh.numbers
  pub list : new.list ≡ fresh.list

-- The answer of a call that makes a payload: an error is want of memory.
abbrev pub Makes : {Plan P E : Type 0} → (P → List ℤ) → Fresh → Held Plan → Held Plan → Result P E → Type 0
Makes numbers fresh old new (Ok payload) = IsMade numbers fresh new payload
Makes numbers fresh old new (Err _) = old.sure ≡ false
