-- A toy job that reads two files, each of at most four bytes. It asks as for a scenario, since there is no other stage yet.
use Rattle.std.specs.Prelude.{ℕ, List, Option, Some, None}
use Rattle.pe_scene.specs.declared.fault.SceneFault.TheVariants.{TooLong}
use Rattle.pe_run.specs.declared.refusal.Stage.TheVariants.{Scenario as ScenarioStage}
use Rattle.pe_run.specs.declared.refusal.Fault.TheVariants.{Scenario}
use Rattle.pe_run.specs.declared.refusal.Refusal.{Refusal}
use Rattle.pe_run.specs.declared.refusal.Refusal.TheVariants as refusal
use Rattle.pe_run.specs.Reads.{Reads, ready, refused, asks}
use Rattle.run_rows.specs.declared.files.Unread.{Unread}
use Rattle.run_rows.specs.declared.files.Unread.TheVariants.{NotHeld, TooMany, Memory}

-- more bytes than four are refused
abbrev pub few : {X : Type 0} → (List ℕ → Reads X) → Option (List ℕ) → Reads X
few next None = refused (Scenario TooLong)
few next (Some bytes) = next bytes

abbrev pub second_file : List ℕ → List ℕ → Reads (List ℕ × List ℕ)
second_file second head = asks ScenarioStage second 4 (few (λ tail. ready (head, tail)))

abbrev pub two_files : List ℕ → List ℕ → Reads (List ℕ × List ℕ)
two_files first second = asks ScenarioStage first 4 (few (second_file second))

-- why a file was not read, as the refusal of a job
abbrev pub refusal_of : Unread → Refusal
refusal_of NotHeld = refusal.NoShelf ScenarioStage
refusal_of TooMany = refusal.Fault (Scenario TooLong)
refusal_of Memory = refusal.Memory
