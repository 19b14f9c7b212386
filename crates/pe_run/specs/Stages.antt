-- What the stages of the run carry.
use Rattle.std.specs.Prelude.{◌≡◌, ℕ, ◌⊎◌, ◌+◌, ◌++◌, false, List, [], ◌∷◌, length, Option, Result, Ok, Err, IsOk, IfOk, IsOkAnd}
use Rattle.pe_base.specs.declared.fields.Fields.{Fields}
use Rattle.pe_base.specs.Walk.Course.{Cause, done, halts}
use Rattle.pe_base.specs.Walk.Grids.{Grid}
use Rattle.pe_base.specs.Walk.Traversals.{Traversal, Traversals}
use Rattle.pe_io.specs.declared.shelf.ShelfCall.TheVariants.{Get}
use Rattle.pe_io.specs.Shelf.{Contents, FailedCall, FailedAt}
use Rattle.pe_stacks.specs.declared.record.Vertex.{Vertex}
use Rattle.pe_stacks.specs.declared.record.CellRec.{CellRec}
use Rattle.pe_stacks.specs.Holdings.{Holdings}
use Rattle.pe_base.specs.Calls.Told.{Told, Adds, AddsPart, FailsToTell}
use Rattle.pe_base.specs.Calls.Follows.{Failure, halted, unwritten, wanting, unheard_of}
use Rattle.pe_adapt.specs.Stops.{failure_of}
use Rattle.pe_scene.specs.Said.{Said}
use Rattle.pe_run.specs.declared.refusal.Stage.{Stage}
use Rattle.pe_run.specs.declared.refusal.Refusal.{Refusal}
use Rattle.pe_run.specs.declared.refusal.Refusal.TheVariants as refused
use Rattle.pe_run.specs.declared.finish.Last.{Last}
use Rattle.pe_run.specs.declared.status.Status.{Status}
use Rattle.pe_run.specs.declared.status.Status.TheVariants.{Done}
use Rattle.pe_run.specs.declared.status.Interrupted.{Interrupted}
use Rattle.pe_run.specs.declared.status.Interrupted.TheVariants.{Sink, Memory}
use Rattle.pe_run.specs.declared.traversals.Halt.{Halt}
use Rattle.pe_run.specs.declared.traversals.Halt.TheVariants.{Walk, Line}
use Rattle.pe_run.specs.Endings.{Ran, whole_text, code_of, halt_line, is_memory}
use Rattle.pe_run.specs.Traffic.{HasTraffic}
use Rattle.pe_run.specs.Reads.{Reads, within, LacksAt, HoldsAt, MayGive}
use Rattle.pe_run.specs.Tasks.{Ended, ended, Task, said_traversals}
use Rattle.pe_run.specs.Run.{CountsTraversals}

-- The traversals of a scenario: all are done, and the depots have counted them; or one halts, or was interrupted.
pub record AllDone (said : Said) (old new : Told) (vertices : Holdings (Vertex Fields)) (cells : Holdings (CellRec Fields)) : Type 0 where
  pub left : Grid
  pub ends : (said_traversals said).ending ≡ done left
  pub told : Adds old (said_traversals said).text new
  pub traffic : HasTraffic said.settings.dim said.settings.start_level (said_traversals said).made vertices cells

pub record OneHalts (said : Said) (cause : Cause) (traversal : ℕ) (old new : Told) : Type 0 where
  pub ends : (said_traversals said).ending ≡ halts cause
  pub number : traversal ≡ length (said_traversals said).made + 1
  pub told : Adds old (said_traversals said).text new

abbrev pub OneStops : Said → ℕ → Told → Told → Failure → Type 0
OneStops said traversal old new (halted cause) = OneHalts said cause traversal old new
OneStops said traversal old new unwritten = FailsToTell (said_traversals said).text old new
OneStops said traversal old new wanting = AddsPart old (said_traversals said).text new
OneStops said traversal old new unheard_of = ⊥

abbrev pub TraversalsAnswer : Said → Told → Told → Holdings (Vertex Fields) → Holdings (CellRec Fields) → Result (Unit {0}) Halt → Type 0
TraversalsAnswer said old new vertices cells (Ok all) = AllDone said old new vertices cells
TraversalsAnswer said old new vertices cells (Err (Walk traversal stop)) = OneStops said traversal old new (failure_of stop)
TraversalsAnswer said old new vertices cells (Err Line) = FailsToTell (said_traversals said).text old new

-- Traversals that come behind others: what they write stands behind, and so do they.
abbrev pub behind_traversals : List ℕ → List Traversal → Traversals → Traversals
behind_traversals text made rest = record { text = text ++ rest.text; made = made ++ rest.made; ending = rest.ending }

-- Some traversals of the whole were done, and the rest is left.
pub record Reaches (whole : Traversals) (made : List Traversal) (rest : Traversals) (old now : Told) : Type 0 where
  pub text : List ℕ
  pub splits : whole ≡ behind_traversals text made rest
  pub told : Adds old text now

-- # What is read

-- a call of the shelf gave these bytes, or none where they were longer than the limit
pub record IsGiven (told : Option Contents) (name : List ℕ) (limit : ℕ) (given : Option (List ℕ)) : Type 0 where
  pub bytes : List ℕ
  pub holds : HoldsAt told name bytes
  pub within : within limit bytes ≡ given

-- or it gave nothing, and this is the refusal
abbrev pub GivesNone : Option Contents → Stage → List ℕ → ℕ → ℕ → Option FailedCall → Refusal → Type 0
GivesNone told stage name before after last (refused.NoShelf at) = (FailedAt Get name before after last ⊎ LacksAt told name) × (at ≡ stage)
GivesNone told stage name before after last (refused.Fault fault) = ⊥
GivesNone told stage name before after last refused.Memory = Unit {0}

-- what a job's reading came to: this, or a refusal, unless memory ran out
abbrev pub Gives : {X : Type 0} → Option Contents → ℕ → ℕ → Option FailedCall → Reads X → X → Type 0
Gives told before after last reads x = MayGive told (λ name. FailedAt Get name before after last) reads (Ok x)

abbrev pub Refuses : {X : Type 0} → Option Contents → ℕ → ℕ → Option FailedCall → Reads X → Refusal → Type 0
Refuses told before after last reads refusal = is_memory refusal ≡ false → MayGive told (λ name. FailedAt Get name before after last) reads (Err refusal)

-- # What is written

-- the last line of a run, and its status
pub record IsLast (ran : Ran) (last : Last) : Type 0 where
  pub line : last.line ++ 10 ∷ [] ≡ ran.last
  pub status : code_of last.status ≡ ran.status

-- A job has written its text up to its last line, which it hands on with its status; or it was interrupted.
abbrev pub LeadsTo : Ran → Told → Told → Result Last Interrupted → Type 0
LeadsTo ran old new (Ok last) = Adds old ran.text new × IsLast ran last
LeadsTo ran old new (Err Sink) = FailsToTell ran.text old new
LeadsTo ran old new (Err Memory) = AddsPart old ran.text new

-- what halts a traversal, as a last line
abbrev pub HaltsWith : ℕ → ℕ → Failure → Result Last Interrupted → Type 0
HaltsWith dim traversal (halted cause) result = IsOkAnd result (IsLast (record { text = []; last = halt_line dim traversal cause; status = 4 }))
HaltsWith dim traversal unwritten result = result ≡ Err Sink
HaltsWith dim traversal wanting result = result ≡ Err Memory
HaltsWith dim traversal unheard_of result = Unit {0}

abbrev pub HaltsFor : ℕ → Halt → Result Last Interrupted → Type 0
HaltsFor dim (Walk traversal stop) result = HaltsWith dim traversal (failure_of stop) result
HaltsFor dim Line result = result ≡ Err Sink

-- A job was made up to its last line: this is what its reading may have given, and where a stage's call failed there is a last
-- line.
pub record IsMade {V C : Type 0} (task : Task) (told : Option Contents) (before after : ℕ) (last : Option FailedCall) (old new : Told) (vertices : Holdings V) (cells : Holdings C) (result : Result Last Interrupted) : Type 0 where
  pub given : Result Ended Refusal
  pub gave : MayGive told (λ name. FailedAt Get name before after last × IsOk result) task.reads given
  pub leads : LeadsTo (ended given) old new result
  pub traffic : IfOk result (λ end. end.status ≡ Done → CountsTraversals given vertices cells)

-- The last line was written, and the status is answered; or what interrupted the run stays.
abbrev pub Finishes : Result Last Interrupted → Told → Told → Result Status Interrupted → Type 0
Finishes (Ok last) old new (Ok status) = Adds old (last.line ++ 10 ∷ []) new × (status ≡ last.status)
Finishes (Ok last) old new (Err Sink) = FailsToTell (last.line ++ 10 ∷ []) old new
Finishes (Ok last) old new (Err Memory) = ⊥
Finishes (Err stop) old new result = (result ≡ Err stop) × (new ≡ old)

-- A run has written and answered all of this, or was interrupted when it had written a part.
pub record Ends (ran : Ran) (status : Status) (old new : Told) : Type 0 where
  pub status_is : code_of status ≡ ran.status
  pub told : Adds old (whole_text ran) new

abbrev pub RunsTo : Ran → Told → Told → Result Status Interrupted → Type 0
RunsTo ran old new (Ok status) = Ends ran status old new
RunsTo ran old new (Err Sink) = FailsToTell (whole_text ran) old new
RunsTo ran old new (Err Memory) = AddsPart old (whole_text ran) new
