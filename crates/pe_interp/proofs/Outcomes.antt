-- A trace line, and then what a body does.
use Rattle.std.proofs.Common.{◌≡◌, ℕ, ℤ, List, Option, Some, None, Result, true, refl, sym, subst, append-nil}
use Rattle.pe_base.specs.declared.event.Event.{Event}
use Rattle.pe_base.specs.declared.stop.Stop.{Stop}
use Rattle.pe_base.specs.Acts.Effects.{Seen}
use Rattle.pe_base.specs.Acts.Outcomes.{after_text}
use Rattle.pe_base.specs.Calls.Told.{Told, Adds, FailsToTell}
use Rattle.pe_base.specs.Calls.Outcomes.{IsOutcome, AnswersBy}
use Rattle.pe_base.proofs.Calls.Outcomes.{fails-first, answers-after}
use Rattle.pe_check.specs.declared.checked.Stmt.{Stmt}
use Rattle.pe_eval.specs.Meaning.{Setting, meaning}
use Rattle.pe_scene.specs.Bodies.{body_at}
use Rattle.pe_scene.specs.Said.{Said}
use Rattle.pe_interp.specs.Effect.{trace_line, setting_at, acted, effect_of}

module _ (said : Said) (event : Event) (traversal : ℕ) (list : List ℤ) (seen : Seen) (old mid : Told) where
  abbrev line : List ℕ
  line = trace_line said event traversal seen.place

  abbrev setting : Setting
  setting = setting_at said event traversal

  -- the sink failed at the trace line
  pub line_fails : FailsToTell line old mid → FailsToTell (effect_of said event traversal list seen).text old mid
  line_fails fails = fails-first line (acted (body_at said.bodies event) setting seen list).text old mid fails

  module _ (written : Adds old line mid) where
    -- there is no body
    pub no_body : body_at said.bodies event ≡ None → IsOutcome (effect_of said event traversal list seen) None old mid list seen
    no_body has =
        let P : Option (List Stmt) → Type 0 = λ found. IsOutcome (after_text line (acted found setting seen list)) None old mid list seen in
        let Q : List ℕ → Type 0 = λ text. Adds old text mid in
        subst P (sym has) (record { fault = refl; seen = refl; list = refl; told = subst Q (sym (append-nil line)) written })

    -- a body ran
    pub body_acts : {T : Type 0} (body : List Stmt) (now : Setting) (new : Told) (left : List ℤ) (after : Seen) (result : Result T Stop) → body_at said.bodies event ≡ Some body → now ≡ setting
        → AnswersBy (meaning body now seen list) true mid new left after result → AnswersBy (effect_of said event traversal list seen) true old new left after result
    body_acts body now new left after result has same answer =
        let P : Option (List Stmt) → Type 0 = λ found. AnswersBy (after_text line (acted found setting seen list)) true old new left after result in
        let Q : Setting → Type 0 = λ s. AnswersBy (after_text line (meaning body s seen list)) true old new left after result in
        subst P (sym has) (subst Q same (answers-after line (meaning body now seen list) old mid new written true left after result answer))
