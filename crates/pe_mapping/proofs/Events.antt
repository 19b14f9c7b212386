-- Answers of events, and events one after another.
use Rattle.std.proofs.Common.{◌≡◌, ℕ, ℤ, List, Result, Ok, Err}
use Rattle.pe_base.specs.declared.event.Event.{Event}
use Rattle.pe_base.specs.declared.stop.Stop.{Stop}
use Rattle.pe_base.specs.declared.stop.Stop.TheVariants.{Overflow, Division, Sink, Memory}
use Rattle.pe_base.specs.Acts.Effects.{Seen, Outcome, Rules}
use Rattle.pe_mapping.specs.Held.{Held, Keeps, outcome_of}
use Rattle.pe_base.specs.Calls.Told.{AddsPart}
use Rattle.pe_mapping.specs.Answers.{Answers}
use Rattle.pe_base.proofs.Calls.Texts.{part-all}

-- whatever the answer of an event, a part of its text was added
pub answer-part : {Plan : Type 0} (outcome : Outcome) (old new : Held Plan) (after : Seen) (result : Result (Unit {0}) Stop) → Answers outcome old new after result → AddsPart old.told outcome.text new.told
answer-part outcome old new after (Ok x) answer = part-all old.told new.told outcome.text answer.told
answer-part outcome old new after (Err Overflow) answer = part-all old.told new.told outcome.text answer.told
answer-part outcome old new after (Err Division) answer = part-all old.told new.told outcome.text answer.told
answer-part outcome old new after (Err Sink) answer = answer.told
answer-part outcome old new after (Err Memory) answer = answer.told

-- an event that is fired where another has left the mapping and what is seen
pub outcome_of-next : {Plan : Type 0} (rules : Rules Plan) (old new : Held Plan) (event : Event) (traversal : ℕ) (list : List ℤ) (seen after : Seen)
    → Keeps old new → list ≡ new.list → seen ≡ after → outcome_of rules new event traversal after ≡ rules.effect old.plan event traversal list seen
outcome_of-next rules old new event traversal list seen after keeps same_list same_seen = cc (keeps.plan, same_list, same_seen)
