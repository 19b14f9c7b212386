-- What a call that touches a corner has in hand, and that it does what the machine of lists does.
use Rattle.std.specs.Prelude.{◌≡◌, ℕ, ℤ, false, List, Option, Some, None, Result}
use Rattle.pe_base.specs.Acts.Effects.{Rules}
use Rattle.pe_base.specs.Walk.Course.{Course}
use Rattle.pe_base.specs.Walk.Core.{Setting}
use Rattle.pe_stacks.specs.declared.record.Vertex.{Vertex}
use Rattle.pe_stacks.specs.declared.record.CellRec.{CellRec}
use Rattle.pe_stacks.specs.Corners.{CornerList}
use Rattle.pe_stacks.specs.Holdings.{Holdings}
use Rattle.pe_mapping.specs.Held.{Held, found_of}
use Rattle.pe_stacks.specs.Sights.{Numbers}
use Rattle.pe_hang.specs.InHand.{Stays}
use Rattle.pe_base.specs.Calls.Follows.{BeforeCall, Follows, Fits, read_by}
use Rattle.pe_stacks.specs.RecordsOut.{RecordsOut, held_by}
use Rattle.pe_adapt.specs.declared.stop.Inner.{Inner}
use Rattle.pe_adapt.specs.declared.settings.Settings.{Settings}
use Rattle.pe_adapt.specs.declared.progress.Progress.{Progress}
use Rattle.pe_adapt.specs.CountedTouches.{Machine}
use Rattle.pe_adapt.specs.WalkedCells.{setting_in, machine_in_hand, failure_in}

-- what a call that touches corners has in hand
pub record Hand (Plan V C : Type 0) : Type 0 where
  pub held : Held Plan
  pub vertices : Holdings (Vertex V)
  pub room : ℕ → ℕ
  pub parents : CornerList (Vertex V)
  pub parent : CellRec C
  pub progress : Progress

abbrev pub hand_of : {Plan V C : Type 0} → Held Plan → Holdings (Vertex V) → (ℕ → ℕ) → CornerList (Vertex V) → CellRec C → Progress → Hand Plan V C
hand_of held vertices room parents parent progress =
    record { held = held; vertices = vertices; room = room; parents = parents; parent = parent; progress = progress }

abbrev pub machine_of : {Plan V C : Type 0} → Numbers V C → Holdings (List ℤ) → Hand Plan V C → Machine
machine_of numbers cells hand = machine_in_hand numbers hand.vertices cells hand.parents hand.parent hand.held.list hand.progress.tally

abbrev pub found_in : {Plan V C : Type 0} → Hand Plan V C → (ℕ → ℕ) → BeforeCall
found_in hand room = found_of hand.held (held_by hand.vertices hand.room) room

-- how many vertices are in slots
abbrev pub filled_in : {X : Type 0} → Option X → ℕ
filled_in None = 0
filled_in (Some x) = 1

-- the machine does not get stuck, whatever lies on the stacks of cells
abbrev pub MayGo : {Plan V C X : Type 0} → Rules Plan → Numbers V C → Settings → (Setting Plan → Machine → Course X) → Hand Plan V C → Type 0
MayGo rules numbers settings course hand =
    (cells : Holdings (List ℤ)) → Fits (course (setting_in rules hand.held settings) (machine_of numbers cells hand))

-- A call does what the machine does. `had` and `has` are how many vertices its slots held before and hold afterwards: no
-- other record came out or went. It counts vertices, and no cells.
pub record GoesAlong {Plan V C X : Type 0} (rules : Rules Plan) (numbers : Numbers V C) (settings : Settings) (course : Setting Plan → Machine → Course X) (after : Machine → X) (had has : ℕ) (result : Result (Unit {0}) Inner) (old new : Hand Plan V C) : Type 0 where
  pub follows : (cells : Holdings (List ℤ)) (room : ℕ → ℕ) → Follows
      (course (setting_in rules old.held settings) (machine_of numbers cells old)) (λ (done : Unit {0}). after (machine_of numbers cells new))
      (read_by (failure_in new.progress) result) (found_in old room) new.held.told
  pub left : RecordsOut had has old.vertices old.room new.vertices new.room false
  pub stays : Stays numbers.vertex old.held new.held old.parents new.parents
  pub counted : new.progress.tally.cells ≡ old.progress.tally.cells
