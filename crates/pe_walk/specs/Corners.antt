-- The corners of a cell, touched one by one in their slots, as the machine of lists touches them.
use Rattle.std.specs.Prelude.{◌≡◌, ℕ, ℤ, ◌-◌, ◌^◌, ◌≤◌, false, List, map, length, sum_by, Result, Ok, Err}
use Rattle.pe_base.specs.declared.place.Place.{Place}
use Rattle.pe_base.specs.Acts.Effects.{VertexRecord, Rules}
use Rattle.pe_base.specs.Walk.Course.{Course}
use Rattle.pe_base.specs.Walk.Core.{Setting}
use Rattle.pe_stacks.specs.declared.record.Vertex.{Vertex}
use Rattle.pe_stacks.specs.Corners.{CornerList, IsFull}
use Rattle.pe_stacks.specs.Filled.{FullFrom}
use Rattle.pe_stacks.specs.Holdings.{Holdings}
use Rattle.pe_stacks.specs.Sights.{Numbers, corner_records}
use Rattle.pe_hang.specs.InHand.{Stays}
use Rattle.pe_base.specs.Calls.Follows.{BeforeCall, Failure, Follows, Leads, read_by}
use Rattle.pe_stacks.specs.RecordsOut.{RecordsOut}
use Rattle.pe_adapt.specs.declared.stop.Inner.{Inner}
use Rattle.pe_adapt.specs.Slots.{seen_slot}
use Rattle.pe_adapt.specs.Ages.{GiveKinds}
use Rattle.pe_adapt.specs.declared.settings.Settings.{Settings}
use Rattle.pe_adapt.specs.declared.walked.WalkedCell.{WalkedCell}
use Rattle.pe_adapt.specs.CountedTouches.{Machine, StreamStacks}
use Rattle.pe_adapt.specs.TouchCalls.{Hand, machine_of, found_in, filled_in, MayGo}
use Rattle.pe_walk.specs.Machine.{load_all, store_all}
use Rattle.pe_adapt.specs.WalkedCells.{IsWalked, setting_in, stream_stacks_of, failure_in}

-- how many vertices are in slots
abbrev pub filled_in_corners : {X : Type 0} → CornerList X → ℕ
filled_in_corners corners = sum_by filled_in corners.slots

-- the corners of a cell of so many axes, each slot filled or empty
pub record AreOf {X : Type 0} (axes : ℕ) (corners : CornerList X) : Type 0 where
  pub dim : corners.dim ≡ axes
  pub count : length corners.slots ≡ 2 ^ axes

-- all corners, by their numbers
abbrev pub seen_slots : {V : Type 0} → (V → List ℤ) → CornerList (Vertex V) → List VertexRecord
seen_slots numbers corners = map (seen_slot numbers) corners.slots

-- the loads that are left where these corners are loaded, and the stores that are left where these are not stored yet
abbrev pub loads_left : {Plan : Type 0} → Setting Plan → StreamStacks → Place → List VertexRecord → Machine → Course (List VertexRecord × Machine)
loads_left set streams cell its m = load_all set streams cell (2 ^ set.axes - length its) its m

abbrev pub stores_left : {Plan : Type 0} → Setting Plan → StreamStacks → Place → List VertexRecord → Machine → Course Machine
stores_left set streams cell its m = store_all set streams cell (2 ^ set.axes - length its) its m

-- A course is left, and then another one. Where a call comes through, the first leads to the second; where it fails, the first
-- fails, whatever would have come of it.
module _ {X : Type 0} where
  abbrev pub LeadsOn : Course X → Course X → Result (Unit {0}) Failure → BeforeCall → BeforeCall → Type 0
  LeadsOn whole rest (Ok done) old now = Leads whole old now rest
  LeadsOn whole rest (Err failure) old now = (after : Unit {0} → X) → Follows whole after (Err failure) old now.told

-- A call does some of what is left for the machine to do.
pub record GoesOn {Plan V C X : Type 0} (rules : Rules Plan) (numbers : Numbers V C) (settings : Settings) (whole rest : Setting Plan → Machine → Course X) (had has : ℕ) (result : Result (Unit {0}) Inner) (old new : Hand Plan V C) : Type 0 where
  pub leads : (cells : Holdings (List ℤ)) (room : ℕ → ℕ) → LeadsOn
      (whole (setting_in rules old.held settings) (machine_of numbers cells old)) (rest (setting_in rules old.held settings) (machine_of numbers cells new))
      (read_by (failure_in new.progress) result) (found_in old room) (found_in new room)
  pub left : RecordsOut had has old.vertices old.room new.vertices new.room false
  pub stays : Stays numbers.vertex old.held new.held old.parents new.parents
  pub counted : new.progress.tally.cells ≡ old.progress.tally.cells

-- what is left to do for a cell, by the corners in their slots
abbrev pub left_of : {Plan V C X : Type 0} → (Setting Plan → StreamStacks → Place → List VertexRecord → Machine → Course X) → Numbers V C → Settings → Place → CornerList (Vertex V) → Setting Plan → Machine → Course X
left_of course numbers settings cell corners set m = course set (stream_stacks_of settings) cell (corner_records numbers.vertex corners) m

-- some of it is done
abbrev pub TouchesOn : {Plan V C X : Type 0} → Rules Plan → Numbers V C → Settings → (Setting Plan → StreamStacks → Place → List VertexRecord → Machine → Course X) → Place → CornerList (Vertex V) → CornerList (Vertex V) → Result (Unit {0}) Inner → Hand Plan V C → Hand Plan V C → Type 0
TouchesOn rules numbers settings course cell before after result old new =
    GoesOn rules numbers settings (left_of course numbers settings cell before) (left_of course numbers settings cell after) (filled_in_corners before) (filled_in_corners after) result old new

-- The last corners of the cell that is walked are in their slots, and no others: as many as are filled.
pub record HasLast {Plan V C : Type 0} (settings : Settings) (cell : WalkedCell) (corners : CornerList (Vertex V)) (hand : Hand Plan V C) : Type 0 where
  pub dim : hand.held.dim ≡ settings.setup.dim
  pub walked : IsWalked hand.held.dim settings cell
  pub full : IsFull hand.held.dim hand.parents
  pub last : FullFrom settings.setup.dim (2 ^ settings.setup.dim - filled_in_corners corners) corners

-- the corners before them may be loaded
pub record MayLoad {Plan V C : Type 0} (rules : Rules Plan) (numbers : Numbers V C) (settings : Settings) (cell : WalkedCell) (corners : CornerList (Vertex V)) (hand : Hand Plan V C) : Type 0 where
  pub here : HasLast settings cell corners hand
  pub kinds : GiveKinds hand.held.dim settings.traversal cell.place (corner_records numbers.vertex hand.parents) cell.ages
  pub fits : MayGo rules numbers settings (left_of loads_left numbers settings cell.place corners) hand

-- and they themselves stored
pub record MayStore {Plan V C : Type 0} (rules : Rules Plan) (numbers : Numbers V C) (settings : Settings) (cell : WalkedCell) (corners : CornerList (Vertex V)) (hand : Hand Plan V C) : Type 0 where
  pub here : HasLast settings cell corners hand
  pub out : filled_in_corners corners ≤ hand.vertices.out
  pub fits : MayGo rules numbers settings (left_of stores_left numbers settings cell.place corners) hand
