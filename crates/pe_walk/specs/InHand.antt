-- What the calls of a traversal have on stacks between two traversals, as the machine of lists sees it.
use Rattle.std.specs.Prelude.{ℤ, List, []}
use Rattle.pe_base.specs.declared.tally.Tally.{Tally}
use Rattle.pe_stacks.specs.declared.record.Vertex.{Vertex}
use Rattle.pe_stacks.specs.declared.record.CellRec.{CellRec}
use Rattle.pe_stacks.specs.Holdings.{Holdings}
use Rattle.pe_stacks.specs.Sights.{Numbers, seen_cell}
use Rattle.pe_hang.specs.InHand.{vertices_on_stacks, cells_on_stacks}
use Rattle.pe_adapt.specs.CountedTouches.{Machine}

-- between two traversals: no corners are in hand, and the parent is the root
abbrev pub machine_between : {V C : Type 0} → Numbers V C → Holdings (Vertex V) → Holdings (CellRec C) → CellRec C → List ℤ → Tally → Machine
machine_between numbers vertices cells root list tally = record {
  vertices = vertices_on_stacks numbers vertices;
  cells = cells_on_stacks numbers cells;
  family = record { parents = []; parent = seen_cell numbers.cell root; list = list };
  tally = tally;
}
