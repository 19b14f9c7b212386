-- The cell that is walked, and what a call has in hand and on stacks there, as the machine of lists sees it.
use Rattle.std.specs.Prelude.{ℕ, ℤ, ◌≤◌, List}
use Rattle.pe_base.specs.declared.tally.Tally.{Tally}
use Rattle.pe_base.specs.Tree.Places.{IsCellPlace}
use Rattle.pe_base.specs.Acts.Effects.{Rules}
use Rattle.pe_base.specs.Walk.Core.{Setting}
use Rattle.pe_access.specs.States.{StandsFor}
use Rattle.pe_access.specs.Rows.{IsRow}
use Rattle.pe_stacks.specs.declared.record.Vertex.{Vertex}
use Rattle.pe_stacks.specs.declared.record.CellRec.{CellRec}
use Rattle.pe_stacks.specs.Corners.{CornerList}
use Rattle.pe_stacks.specs.Holdings.{Holdings}
use Rattle.pe_mapping.specs.Held.{Held}
use Rattle.pe_stacks.specs.Sights.{Numbers}
use Rattle.pe_hang.specs.InHand.{setting_of, family_in_hand, vertices_on_stacks}
use Rattle.pe_base.specs.Calls.Follows.{Failure}
use Rattle.pe_adapt.specs.declared.stop.Inner.{Inner}
use Rattle.pe_adapt.specs.declared.settings.Settings.{Settings}
use Rattle.pe_adapt.specs.declared.progress.Progress.{Progress}
use Rattle.pe_adapt.specs.declared.walked.WalkedCell.{WalkedCell}
use Rattle.pe_adapt.specs.Stops.{failure_of_halt}
use Rattle.pe_adapt.specs.CountedTouches.{Machine, StreamStacks}

-- what is set for a traversal, by what the mapping holds
abbrev pub setting_in : {Plan : Type 0} → Rules Plan → Held Plan → Settings → Setting Plan
setting_in rules held settings = setting_of rules held settings.setup.start_level settings.setup.max_cells settings.traversal

abbrev pub stream_stacks_of : Settings → StreamStacks
stream_stacks_of settings = record { input = settings.input; cell_input = settings.cell_input }

-- vertices and cells on stacks, the parent's corners, the parent, the mapping's list, and what was counted
abbrev pub machine_in_hand : {V C : Type 0} → Numbers V C → Holdings (Vertex V) → Holdings (List ℤ) → CornerList (Vertex V) → CellRec C → List ℤ → Tally → Machine
machine_in_hand numbers vertices cells parents parent list tally = record {
  vertices = vertices_on_stacks numbers vertices;
  cells = cells;
  family = family_in_hand numbers parents parent list;
  tally = tally;
}

-- what is known of a walked cell holds of it
pub record IsWalked (axes : ℕ) (settings : Settings) (cell : WalkedCell) : Type 0 where
  pub place : IsCellPlace axes cell.place
  pub deep : 1 ≤ cell.place.level
  pub state : StandsFor axes settings.way cell.place cell.state
  pub row : IsRow cell.state cell.row

-- a halt, where the traversal stands
abbrev pub failure_in : Progress → Inner → Failure
failure_in progress halt = failure_of_halt progress.at halt
