-- How a run ends: the number of its status, and its last line.
use Rattle.std.specs.Prelude.{ℕ, Bool, true, false, List, [], ◌∷◌, ◌++◌, codes, Result, Ok, Err}
use Rattle.pe_base.specs.Acts.Effects.{Overflow, Division}
use Rattle.pe_base.specs.Lines.{done_line, fault_line, fault_words, fault_scenario, fault_at_key, fault_in_body, fault_at_event, fault_cells}
use Rattle.pe_base.specs.Walk.Course.{Cause, fault_at, limit_at, Ending, done, halts, stuck}
use Rattle.pe_base.specs.Walk.Grids.{Grid}
use Rattle.pe_scene.specs.declared.fault.BodyCause.{BodyCause}
use Rattle.pe_scene.specs.declared.fault.BodyCause.TheVariants.{Character, Syntax, TooDeep, TooMany, Literal, UnknownName, NotHere, Corner, ReadOnly}
use Rattle.pe_scene.specs.declared.fault.SceneFault.{SceneFault}
use Rattle.pe_scene.specs.declared.fault.SceneFault.TheVariants as scene
use Rattle.pe_run.specs.declared.refusal.Stage.{Stage}
use Rattle.pe_run.specs.declared.refusal.Stage.TheVariants.{Scenario as ScenarioStage}
use Rattle.pe_run.specs.declared.refusal.Fault.TheVariants.{Words, Scenario}
use Rattle.pe_run.specs.declared.refusal.Refusal.{Refusal}
use Rattle.pe_run.specs.declared.refusal.Refusal.TheVariants as refused
use Rattle.pe_run.specs.declared.status.Status.{Status}
use Rattle.pe_run.specs.declared.status.Status.TheVariants.{Done, NoJob, Refused, Halted, NoShelf}
use Rattle.pe_run.specs.declared.status.Interrupted.{Interrupted}
use Rattle.pe_run.specs.declared.status.Interrupted.TheVariants.{Sink, Memory}

-- the number of a status
abbrev pub code_of : Status → ℕ
code_of Done = 0
code_of NoJob = 2
code_of Refused = 3
code_of Halted = 4
code_of NoShelf = 6

-- the number with which a run ends, or is interrupted
abbrev pub ending_of : Result Status Interrupted → ℕ
ending_of (Ok status) = code_of status
ending_of (Err Sink) = 7
ending_of (Err Memory) = 9

-- why a body is refused, in a word
abbrev pub cause_name : BodyCause → List ℕ
cause_name Character = codes "character"
cause_name Syntax = codes "syntax"
cause_name TooDeep = codes "too-deep"
cause_name TooMany = codes "too-many"
cause_name Literal = codes "literal"
cause_name UnknownName = codes "unknown-name"
cause_name NotHere = codes "not-here"
cause_name Corner = codes "corner"
cause_name ReadOnly = codes "read-only"

-- the line of a refused scenario; want of memory has none
abbrev pub scene_line : SceneFault → List ℕ
scene_line scene.TooLong = fault_scenario (codes "too-long" ∷ [])
scene_line scene.NotToml = fault_scenario (codes "not-toml" ∷ [])
scene_line (scene.UnknownKey key) = fault_at_key (codes "unknown-key") key
scene_line (scene.Missing key) = fault_at_key (codes "missing") key
scene_line (scene.Shape key) = fault_at_key (codes "shape") key
scene_line (scene.Range key) = fault_at_key (codes "range") key
scene_line (scene.Name key) = fault_at_key (codes "name") key
scene_line (scene.Body event at cause) = fault_in_body event at (cause_name cause)
scene_line scene.Memory = []

-- the name of a stage, in a line, and its place among the stages
abbrev pub stage_name : Stage → List ℕ
stage_name ScenarioStage = codes "scenario"

abbrev pub stage_number : Stage → ℕ
stage_number ScenarioStage = 0

-- how a run ends: the text to its last line, the last line, and its status
pub record Ran : Type 0 where
  pub text : List ℕ
  pub last : List ℕ
  pub status : ℕ

-- all of its text
abbrev pub whole_text : Ran → List ℕ
whole_text ran = ran.text ++ ran.last

-- The table of refusals: for each cause its last line and its status, in the order of the statuses. Want of memory has no line.
abbrev pub refusal_ran : Refusal → Ran
refusal_ran (refused.Fault Words) = record { text = []; last = fault_words; status = 2 }
refusal_ran (refused.Fault (Scenario fault)) = record { text = []; last = scene_line fault; status = 3 }
refusal_ran (refused.NoShelf stage) = record { text = []; last = fault_line (codes "shelf" ∷ stage_name stage ∷ []); status = 6 }
refusal_ran refused.Memory = record { text = []; last = []; status = 9 }

-- whether a refusal is want of memory
abbrev pub is_scene_memory : SceneFault → Bool
is_scene_memory scene.Memory = true
is_scene_memory _ = false

abbrev pub is_memory : Refusal → Bool
is_memory (refused.Fault (Scenario fault)) = is_scene_memory fault
is_memory refused.Memory = true
is_memory _ = false

-- the line of what halts a traversal
abbrev pub halt_line : ℕ → ℕ → Cause → List ℕ
halt_line dim traversal (fault_at Overflow event place) = fault_at_event (codes "overflow") dim traversal event place
halt_line dim traversal (fault_at Division event place) = fault_at_event (codes "division") dim traversal event place
halt_line dim traversal (limit_at place) = fault_cells dim traversal place

-- the last line behind traversals in turn, where the next one has that number; no walk is ever stuck
abbrev pub last_line : ℕ → ℕ → Ending Grid → List ℕ
last_line dim traversal (done grid) = done_line
last_line dim traversal (halts cause) = halt_line dim traversal cause
last_line dim traversal stuck = []
