-- Laws of the run.
use Rattle.std.proofs.Common.{◌≡◌, ◌≢◌, ◌⊎◌, ◌∙◌, ℕ, zero, suc, get_or, map, true, false, ◌==◌, List, [], ◌∷◌, Option, None, Result, Ok, Err, refl, sym, ap, subst, inl, inr, arith}
use Rattle.std.specs.Result.{IsOk, IfOk, IsOkAnd}
use Rattle.std.specs.Prelude.{MatchBool}
use Rattle.std.proofs.lemmas.Bool.{ne_eqb, eqb-true, eq-eqb}
use Rattle.pe_base.specs.Calls.Counters.{Rises}
use Rattle.pe_base.specs.Calls.Told.{Told, Adds, AddsPart, FailsToTell}
use Rattle.pe_base.proofs.Calls.Texts.{adds-nothing, adds-then, part-nothing, part-first, part-then, fails-then}
use Rattle.pe_io.specs.declared.shelf.ShelfCall.TheVariants.{Get}
use Rattle.pe_io.specs.Shelf.{Contents, FailedCall, FailedAt}
use Rattle.pe_stacks.specs.Holdings.{Holdings, Stack, new_stack, emptied, cleared}
use Rattle.pe_run.specs.declared.finish.Last.{Last}
use Rattle.pe_run.specs.declared.refusal.Stage.{Stage}
use Rattle.pe_run.specs.declared.refusal.Fault.TheVariants.{Words, Scenario}
use Rattle.pe_run.specs.declared.refusal.Refusal.{Refusal}
use Rattle.pe_run.specs.declared.refusal.Refusal.TheVariants as refusal
use Rattle.pe_run.specs.declared.status.Status.{Status}
use Rattle.pe_run.specs.declared.status.Status.TheVariants.{Done, NoJob, Refused, Halted, NoShelf}
use Rattle.pe_run.specs.declared.status.Interrupted.{Interrupted}
use Rattle.pe_run.specs.declared.status.Interrupted.TheVariants.{Sink, Memory}
use Rattle.pe_run.specs.Endings.{Ran, whole_text, ending_of, code_of, refusal_ran, is_memory}
use Rattle.pe_run.specs.Reads.{read, MayGive}
use Rattle.pe_run.specs.Tasks.{Finish, in_full, at_a_halt, nowhere, finish_status, Ended, ended, Task}
use Rattle.pe_run.specs.Run.{MayFail, Writes, Answers, CountsTraversals, run_job, IsRun, IsShelfCause, IsComplete}
use Rattle.pe_run.specs.Stages.{Gives, Refuses, IsLast, LeadsTo, IsMade, Finishes, RunsTo}
use Rattle.pe_run.proofs.Reading.{gives_when, may_give, unfailing_read, lacks}

-- # Up to the last line

module _ {V C : Type 0} (task : Task) (told : Option Contents) (before after : ℕ) (last : Option FailedCall) (old : Told) (vertices : Holdings V) (cells : Holdings C) where
  -- all was read, and the job was done by it
  pub IsMade-done : (new : Told) (end : Ended) (result : Result Last Interrupted) → Gives told before after last task.reads end → LeadsTo (ended (Ok end)) old new result
      → IfOk result (λ it. it.status ≡ Done → CountsTraversals (Ok end) vertices cells) → IsMade task told before after last old new vertices cells result
  IsMade-done new end result gives leads counts = record {
    given = Ok end;
    gave = gives_when told (λ name. FailedAt Get name before after last) (λ name. FailedAt Get name before after last × IsOk result) task.reads (Ok end)
        (λ name stage is failed. absurd (let wrong : ◌≡◌ {A = Result Ended Refusal} (Ok end) (Err (refusal.NoShelf stage)) = is in cc)) gives;
    leads = leads;
    traffic = counts;
  }

  -- nothing was written: there was no memory
  IsMade-memory : IsMade task told before after last old old vertices cells (Err Memory)
  IsMade-memory =
      let fails = λ (name : List ℕ). FailedAt Get name before after last × IsOk {T = Last} (Err Memory) in
      let some = may_give told fails task.reads in
      record { given = some.0; gave = some.1; leads = part-nothing old (ended some.0).text; traffic = tt }

  -- or the job was refused
  refused_silent : (it : Refusal) → Adds old (refusal_ran it).text old
  refused_silent (refusal.NoShelf stage) = adds-nothing old
  refused_silent (refusal.Fault Words) = adds-nothing old
  refused_silent (refusal.Fault (Scenario fault)) = adds-nothing old
  refused_silent refusal.Memory = adds-nothing old

  IsMade-refused : (it : Refusal) (end : Last) → MayGive told (λ name. FailedAt Get name before after last) task.reads (Err it) → IsLast (refusal_ran it) end
      → IsMade task told before after last old old vertices cells (Ok end)
  IsMade-refused it end gives line = record {
    given = Err it;
    gave = gives_when told (λ name. FailedAt Get name before after last) (λ name. FailedAt Get name before after last × IsOk {E = Interrupted} (Ok end)) task.reads (Err it) (λ name stage is failed. (failed, refl)) gives;
    leads = (refused_silent it, line);
    traffic = λ done. tt;
  }

  IsMade-known : (it : Refusal) (result : Result Last Interrupted) → MayGive told (λ name. FailedAt Get name before after last) task.reads (Err it) → IsOkAnd result (IsLast (refusal_ran it))
      → IsMade task told before after last old old vertices cells result
  IsMade-known it (Ok end) gives line = IsMade-refused it end gives line
  IsMade-known it (Err stop) gives line = absurd line

  pub IsMade-none : (it : Refusal) (result : Result Last Interrupted) → Refuses told before after last task.reads it
      → MatchBool (is_memory it) (result ≡ Err Memory) (IsOkAnd result (IsLast (refusal_ran it))) → IsMade task told before after last old old vertices cells result
  IsMade-none it result refuses line =
      elim (is_memory it) as (λ b. is_memory it ≡ b → MatchBool b (result ≡ Err Memory) (IsOkAnd result (IsLast (refusal_ran it))) → IsMade task told before after last old old vertices cells result) [
        | true ↦ λ is none. subst (IsMade task told before after last old old vertices cells) (sym none) IsMade-memory
        | false ↦ λ is known. IsMade-known it result (refuses is) known
      ] refl line

-- # The last line

-- what was led up to, and then finished
pub finished : (ran : Ran) (made : Result Last Interrupted) (old mid new : Told) (result : Result Status Interrupted) → LeadsTo ran old mid made → Finishes made mid new result → RunsTo ran old new result
finished ran (Ok last) old mid new (Ok status) leads it = record {
  status_is = ap code_of it.1 ∙ leads.1.status;
  told = adds-then old mid new ran.text ran.last leads.0 (subst (λ line. Adds mid line new) leads.1.line it.0);
}
finished ran (Ok last) old mid new (Err Sink) leads it =
    let fails = subst (λ line. FailsToTell line mid new) leads.1.line it in
    record { failed = fails-then old mid new ran.text leads.0 fails.failed; told = part-then old mid new ran.text ran.last leads.0 fails.told }
finished ran (Ok last) old mid new (Err Memory) leads it = absurd it
finished ran (Err Sink) old mid new result leads it =
    subst (RunsTo ran old new) (sym it.0)
    (subst (λ now. FailsToTell (whole_text ran) old now) (sym it.1) (record { failed = leads.failed; told = part-first old mid ran.text ran.last leads.told }))
finished ran (Err Memory) old mid new result leads it =
    subst (RunsTo ran old new) (sym it.0) (subst (λ now. AddsPart old (whole_text ran) now) (sym it.1) (part-first old mid ran.text ran.last leads))

-- # The clauses of the top call

writes_run : (ran : Ran) (old new : Told) (result : Result Status Interrupted) → RunsTo ran old new result → Writes (ending_of result) old (whole_text ran) new
writes_run ran old new (Ok Done) it = it.told
writes_run ran old new (Ok NoJob) it = it.told
writes_run ran old new (Ok Refused) it = it.told
writes_run ran old new (Ok Halted) it = it.told
writes_run ran old new (Ok NoShelf) it = it.told
writes_run ran old new (Err Sink) it = it.told
writes_run ran old new (Err Memory) it = it

answers_run : (ran : Ran) (old new : Told) (result : Result Status Interrupted) → RunsTo ran old new result → Answers (ending_of result) ran.status
answers_run ran old new (Ok status) it = inl it.status_is
answers_run ran old new (Err Sink) it = inr (inl refl)
answers_run ran old new (Err Memory) it = inr (inr refl)

-- a run that stops at the sink has made it fail
pub sink_failed : (ran : Ran) (old new : Told) (result : Result Status Interrupted) → RunsTo ran old new result → ending_of result ≡ 7 → Rises old.faults new.faults
sink_failed ran old new (Ok Done) it is = absurd (omega arith)
sink_failed ran old new (Ok NoJob) it is = absurd (omega arith)
sink_failed ran old new (Ok Refused) it is = absurd (omega arith)
sink_failed ran old new (Ok Halted) it is = absurd (omega arith)
sink_failed ran old new (Ok NoShelf) it is = absurd (omega arith)
sink_failed ran old new (Err Sink) it is = it.failed
sink_failed ran old new (Err Memory) it is = absurd (omega arith)

-- only what is done ends with nought
done_is : (result : Result Status Interrupted) → ending_of result ≡ 0 → result ≡ Ok Done
done_is (Ok Done) nought = refl
done_is (Ok NoJob) nought = absurd (omega arith)
done_is (Ok Refused) nought = absurd (omega arith)
done_is (Ok Halted) nought = absurd (omega arith)
done_is (Ok NoShelf) nought = absurd (omega arith)
done_is (Err Sink) nought = absurd (omega arith)
done_is (Err Memory) nought = absurd (omega arith)

-- where a stage's call failed, only a failed sink keeps the run from its line
six_or_seven : (made : Result Last Interrupted) (stage : Stage) (old mid new : Told) (result : Result Status Interrupted) → IsOk made → LeadsTo (ended (Err (refusal.NoShelf stage))) old mid made
    → Finishes made mid new result → (ending_of result ≡ 6) ⊎ (ending_of result ≡ 7)
six_or_seven (Ok last) stage old mid new (Ok status) ok leads it = inl (ap code_of it.1 ∙ leads.1.status)
six_or_seven (Ok last) stage old mid new (Err Sink) ok leads it = inr refl
six_or_seven (Ok last) stage old mid new (Err Memory) ok leads it = absurd it
six_or_seven (Err stop) stage old mid new result ok leads it = absurd (let wrong : false ≡ true = ok in cc)

done_last : (made : Result Last Interrupted) (mid new : Told) (P : Type 0) → Finishes made mid new (Ok Done) → IfOk made (λ last. last.status ≡ Done → P) → P
done_last (Ok last) mid new P it counts = counts (sym it.1)
done_last (Err stop) mid new P it counts = absurd (let wrong : ◌≡◌ {A = Result Status Interrupted} (Ok Done) (Err stop) = it.0 in cc)

module _ {V C : Type 0} (task : Task) (told : Option Contents) (before after : ℕ) (last : Option FailedCall) (vertices : Holdings V) (cells : Holdings C) where
  pub IsRun-finished : (old mid new : Told) (made : Result Last Interrupted) (result : Result Status Interrupted) → IsMade task told before after last old mid vertices cells made → Finishes made mid new result
      → IsRun task told before after last old new vertices cells (ending_of result)
  IsRun-finished old mid new made result it ends =
      let runs = finished (ended it.given) made old mid new result it.leads ends in
      record {
        given = it.given;
        gave = gives_when told (λ name. FailedAt Get name before after last × IsOk made) (MayFail before after last (ending_of result)) task.reads it.given
            (λ name stage is failed. (failed.0, six_or_seven made stage old mid new result failed.1 (subst (λ given. LeadsTo (ended given) old mid made) is it.leads) ends)) it.gave;
        text = writes_run (ended it.given) old new result runs;
        answer = answers_run (ended it.given) old new result runs;
        traffic = λ nought. done_last made mid new (CountsTraversals it.given vertices cells) (subst (Finishes made mid new) (done_is result nought) ends) it.traffic;
      }

  -- when the depots are cleared, their counts stay
  emptied_stack : {X : Type 0} (stacks : List (Stack X)) (s : ℕ) → get_or (map emptied stacks) s new_stack ≡ emptied (get_or stacks s new_stack)
  emptied_stack [] s = refl
  emptied_stack (stack ∷ stacks) zero = refl
  emptied_stack (stack ∷ stacks) (suc s) = emptied_stack stacks s

  cleared_counts : (given : Result Ended Refusal) → CountsTraversals given vertices cells → CountsTraversals given (cleared vertices) (cleared cells)
  cleared_counts (Err refusal) counts = tt
  cleared_counts (Ok end) counts = record {
    vertex_pushes_are = λ s. ap (λ (stack : Stack V). stack.pushes) (emptied_stack vertices.stacks s) ∙ counts.vertex_pushes_are s;
    vertex_pops_are = λ s. ap (λ (stack : Stack V). stack.pops) (emptied_stack vertices.stacks s) ∙ counts.vertex_pops_are s;
    cell_pushes_are = λ s. ap (λ (stack : Stack C). stack.pushes) (emptied_stack cells.stacks s) ∙ counts.cell_pushes_are s;
    cell_pops_are = λ s. ap (λ (stack : Stack C). stack.pops) (emptied_stack cells.stacks s) ∙ counts.cell_pops_are s;
    vertices_lent = counts.vertices_lent;
    cells_lent = counts.cells_lent;
    vertices_out = counts.vertices_out;
    cells_out = counts.cells_out;
  }

  pub IsRun-cleared : (old new : Told) (status : ℕ) → IsRun task told before after last old new vertices cells status → IsRun task told before after last old new (cleared vertices) (cleared cells) status
  IsRun-cleared old new status run = record {
    given = run.given;
    gave = run.gave;
    text = run.text;
    answer = run.answer;
    traffic = λ nought. cleared_counts run.given (run.traffic nought);
  }

  -- 6 comes only of a stage for which the shelf gives nothing
  not_six : (finish : Finish) → finish_status finish ≡ 6 → ⊥
  not_six in_full is = omega arith
  not_six at_a_halt is = omega arith
  not_six nowhere is = omega arith

  six : (given : Result Ended Refusal) → (ended given).status ≡ 6 → (stage : Stage) × (given ≡ Err (refusal.NoShelf stage))
  six (Ok end) is = absurd (not_six end.finish is)
  six (Err (refusal.NoShelf stage)) is = (stage, refl)
  six (Err (refusal.Fault Words)) is = absurd (omega arith)
  six (Err (refusal.Fault (Scenario fault))) is = absurd (omega arith)
  six (Err refusal.Memory) is = absurd (omega arith)

  answered : (status ran : ℕ) → Answers status ran → (status ≡ 7 → ⊥) → (status ≡ 9 → ⊥) → status ≡ ran
  answered status ran (inl is) seven nine = is
  answered status ran (inr (inl is)) seven nine = absurd (seven is)
  answered status ran (inr (inr is)) seven nine = absurd (nine is)

  pub shelf_cause : (old new : Told) (status : ℕ) → IsRun task told before after last old new vertices cells status → status ≡ 6 → IsShelfCause task told before after last
  shelf_cause old new status run is =
      let ran : status ≡ (ended run.given).status = answered status (ended run.given).status run.answer (λ seven. omega (arith, is, seven)) (λ nine. omega (arith, is, nine)) in
      let stage = six run.given (sym ran ∙ is) in
      lacks told before after last (MayFail before after last status) task.reads run.given stage.0 (λ name failed. failed.0) stage.1 run.gave

  -- where no call of the shelf failed, the run is that of what it holds
  complete_text : (status : ℕ) (old new : Told) (ran : Ran) → status ≢ 7 → status ≢ 9 → Writes status old (whole_text ran) new → Adds old (whole_text ran) new
  complete_text status old new ran seven nine writes = rw (ne_eqb status 7 seven) at (rw (ne_eqb status 9 nine) at writes)

  pub complete : (old new : Told) (status : ℕ) → IsRun task told before after last old new vertices cells status → (Rises before after → ⊥) → status ≢ 7 → IsComplete task told old new status
  complete old new status run calm seven held told_is =
      elim (status == 9) as (λ b. (status == 9) ≡ b → (status ≡ 9) ⊎ ((status ≡ (run_job task held None).status) × Adds old (whole_text (run_job task held None)) new)) [
        | true ↦ λ nine. inl (eqb-true status 9 nine)
        | false ↦ λ other.
            let given : run.given ≡ read task.reads held None = unfailing_read held (MayFail before after last status) task.reads run.given (λ name failed. calm failed.0.rises)
            (subst (λ t. MayGive t (MayFail before after last status) task.reads run.given) told_is run.gave) in
            let nine : status ≢ 9 = λ is. let wrong : false ≡ true = sym other ∙ eq-eqb status 9 is in cc in
            inr (subst (λ g. (status ≡ (ended g).status) × Adds old (whole_text (ended g)) new) given
            (answered status (ended run.given).status run.answer seven nine, complete_text status old new (ended run.given) seven nine run.text))
      ] refl
