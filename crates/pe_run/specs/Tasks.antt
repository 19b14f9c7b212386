-- What each job does, as data: what it reads, what it ends with, and the names that its words give.
use Rattle.std.specs.Prelude.{ℕ, ◌+◌, List, [], ◌∷◌, length, Option, Some, None, Result, Ok, Err}
use Rattle.pe_base.specs.Acts.Payloads.{zeros}
use Rattle.pe_base.specs.Limits.{scenario_bytes}
use Rattle.pe_base.specs.Walk.Core.{Setting}
use Rattle.pe_base.specs.Walk.Course.{Ending, done, halts, stuck}
use Rattle.pe_base.specs.Walk.Grids.{Grid, new_grid}
use Rattle.pe_base.specs.Walk.Traversals.{Traversal, Traversals, traversals}
use Rattle.pe_scene.specs.declared.fault.SceneFault.TheVariants.{TooLong}
use Rattle.pe_scene.specs.Said.{Said, scenario_of}
use Rattle.pe_interp.specs.Effect.{said_rules}
use Rattle.pe_run.specs.declared.refusal.Stage.TheVariants.{Scenario as ScenarioStage}
use Rattle.pe_run.specs.declared.refusal.Fault.TheVariants.{Words, Scenario}
use Rattle.pe_run.specs.declared.refusal.Refusal.{Refusal}
use Rattle.pe_run.specs.Endings.{Ran, refusal_ran, last_line}
use Rattle.pe_run.specs.Reads.{Reads, refused, ready, asks, on}
use Rattle.pe_words.specs.declared.job.Job.{Job}
use Rattle.pe_words.specs.declared.job.Job.TheVariants.{Run}
use Rattle.pe_words.specs.Words.{job_of}

-- how far a job came: to its end, or to a halt; no walk is ever stuck
pub data Finish : Type 0 where
  in_full : Finish
  at_a_halt : Finish
  nowhere : Finish

abbrev pub finish_status : Finish → ℕ
finish_status in_full = 0
finish_status at_a_halt = 4
finish_status nowhere = 9

-- the traversals that a job has made, by which the depots are counted
pub record Walked : Type 0 where
  pub axes : ℕ
  pub start_level : ℕ
  pub made : List Traversal

-- How a job ends when all was read: the text to its last line, the last line, how far it came, and its traversals.
pub record Ended : Type 0 where
  pub text : List ℕ
  pub last : List ℕ
  pub finish : Finish
  pub walked : Walked

-- what is written and answered then, and where the reading was refused
abbrev pub ended : Result Ended Refusal → Ran
ended (Ok end) = record { text = end.text; last = end.last; status = finish_status end.finish }
ended (Err refusal) = refusal_ran refusal

-- a job: what it reads, and the names of its words
pub record Task : Type 0 where
  pub reads : Reads Ended
  pub names : List (List ℕ)

-- # The job `run`

-- what is set for the traversals of a scenario, and the grid before the first of them
abbrev pub said_setting : Said → Setting Said
said_setting said = record {
  rules = said_rules;
  plan = said;
  axes = said.settings.dim;
  start_level = said.settings.start_level;
  max_cells = said.settings.max_cells;
  traversal = 1;
}

abbrev pub first_grid : Said → Grid
first_grid said = new_grid said.settings.dim said.settings.max_level zeros zeros

-- all traversals of a scenario
abbrev pub said_traversals : Said → Traversals
said_traversals said = traversals (said_setting said) said.settings.traversals (first_grid said)

-- traversals of a scenario, and the last line behind them
abbrev pub finish_of : Ending Grid → Finish
finish_of (done grid) = in_full
finish_of (halts cause) = at_a_halt
finish_of stuck = nowhere

abbrev pub ran_traversals : ℕ → ℕ → Traversals → Ended
ran_traversals dim start_level all = record {
  text = all.text;
  last = last_line dim (length all.made + 1) all.ending;
  finish = finish_of all.ending;
  walked = record { axes = dim; start_level = start_level; made = all.made };
}

abbrev pub ran : Said → Ended
ran said = ran_traversals said.settings.dim said.settings.start_level (said_traversals said)

-- the scenario of the bytes, and its traversals
abbrev pub run_scenario : Option (List ℕ) → Reads Ended
run_scenario None = refused (Scenario TooLong)
run_scenario (Some bytes) = on Scenario (scenario_of bytes) (λ said. ready (ran said))

abbrev pub run_reads : List ℕ → Reads Ended
run_reads name = asks ScenarioStage name scenario_bytes run_scenario

-- # All jobs

-- words that name no job are refused
abbrev pub task_for : Option Job → Task
task_for None = record { reads = refused Words; names = [] }
task_for (Some (Run name)) = record { reads = run_reads name; names = name ∷ [] }

-- the job of the words
abbrev pub task_of : List (List ℕ) → Task
task_of words = task_for (job_of words)
