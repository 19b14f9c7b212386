-- What stands between two traversals of a scenario.
use Rattle.std.specs.Prelude.{◌≡◌, ℕ, ◌⊎◌, ◌+◌, ◌*◌, List, [], ◌∷◌, ◌++◌, length, Result, Ok, Err}
use Rattle.pe_base.specs.declared.fields.Fields.{Fields}
use Rattle.pe_base.specs.declared.tally.Tally.{Tally}
use Rattle.pe_base.specs.Lines.{tally_line}
use Rattle.pe_base.specs.Walk.Course.{Cause, done, halts}
use Rattle.pe_base.specs.Walk.Grids.{Grid, IsWellFormed}
use Rattle.pe_base.specs.Walk.Traversals.{Traversal}
use Rattle.pe_base.specs.Walk.Walk.{traverse}
use Rattle.pe_base.specs.Walk.Working.{no_tally}
use Rattle.pe_stacks.specs.declared.record.Vertex.{Vertex}
use Rattle.pe_stacks.specs.declared.record.CellRec.{CellRec}
use Rattle.pe_stacks.specs.Holdings.{Holdings, CountsWithin}
use Rattle.pe_base.specs.Calls.Told.{Told, Adds, AddsPart, FailsToTell}
use Rattle.pe_base.specs.Calls.Follows.{Failure, halted, unwritten, wanting, unheard_of}
use Rattle.pe_scene.specs.Said.{Said}
use Rattle.pe_stacks.specs.Sights.{fields_numbers}
use Rattle.pe_walk.specs.Gridded.{HoldsGrid}
use Rattle.pe_walk.specs.InHand.{machine_between}
use Rattle.pe_order.specs.Outlooks.{IsNew}
use Rattle.pe_walk.specs.Traversing.{most_rise}
use Rattle.pe_adapt.specs.Stops.{failure_of}
use Rattle.pe_run.specs.declared.traversals.Between.{Between}
use Rattle.pe_run.specs.declared.traversals.Halt.{Halt}
use Rattle.pe_run.specs.declared.traversals.Halt.TheVariants.{Walk, Line}
use Rattle.pe_run.specs.Tasks.{said_setting}
use Rattle.pe_run.specs.Traffic.{is_swapped, HasTraffic}

-- After some traversals of a scenario the depots, the handle and the numbers of the whole grid hold this grid, and the depots
-- have counted the traversals.
pub record Stands (said : Said) (between : Between) (vertices : Holdings (Vertex Fields)) (cells : Holdings (CellRec Fields)) (made : List Traversal) (grid : Grid) : Type 0 where
  pub axes : grid.axes ≡ said.settings.dim
  pub greatest : grid.greatest ≡ said.settings.max_level
  pub finished : grid.finished ≡ length made
  pub formed : IsNew grid ⊎ IsWellFormed grid
  pub dim : between.grid.dim ≡ said.settings.dim
  pub counted : between.grid.finished ≡ length made
  pub swapped : between.grid.swapped ≡ is_swapped (length made)
  pub holds : HoldsGrid grid between.grid.swapped (machine_between fields_numbers vertices cells between.grid.root between.globals.a (no_tally 0))
  pub traffic : HasTraffic said.settings.dim said.settings.start_level made vertices cells
  pub counts : CountsWithin vertices (most_rise * length made)
  pub cell_counts : CountsWithin cells (most_rise * length made)

-- One traversal more of the grid: the walk is done with the next grid, or halts; or it was interrupted.
pub record IsTraversed (said : Said) (grid : Grid) (made : List Traversal) (line : Tally → List ℕ) (old new : Told) (vertices : Holdings (Vertex Fields)) (cells : Holdings (CellRec Fields)) (between : Between) (tally : Tally) : Type 0 where
  pub next : Grid
  pub ends : (traverse (said_setting said) grid).ending ≡ done (next, tally)
  pub told : Adds old ((traverse (said_setting said) grid).text ++ line tally) new
  pub stands : Stands said between vertices cells (made ++ record { grid = grid; tally = tally } ∷ []) next

pub record Halts (said : Said) (grid : Grid) (cause : Cause) (old new : Told) : Type 0 where
  pub ends : (traverse (said_setting said) grid).ending ≡ halts cause
  pub told : Adds old (traverse (said_setting said) grid).text new

abbrev pub StopsFor : Said → Grid → Told → Told → Failure → Type 0
StopsFor said grid old new (halted cause) = Halts said grid cause old new
StopsFor said grid old new unwritten = FailsToTell (traverse (said_setting said) grid).text old new
StopsFor said grid old new wanting = AddsPart old (traverse (said_setting said) grid).text new
StopsFor said grid old new unheard_of = ⊥

-- how the traversal is answered
abbrev pub WalkAnswer : Said → Grid → List Traversal → Told → Told → Holdings (Vertex Fields) → Holdings (CellRec Fields) → Result (Between × Tally) Failure → Type 0
WalkAnswer said grid made old new vertices cells (Ok answer) = IsTraversed said grid made (λ tally. []) old new vertices cells answer.0 answer.1
WalkAnswer said grid made old new vertices cells (Err failure) = StopsFor said grid old new failure

-- and with its tally line
pub record FailsAtLine (said : Said) (grid : Grid) (old new : Told) : Type 0 where
  pub next : Grid
  pub tally : Tally
  pub ends : (traverse (said_setting said) grid).ending ≡ done (next, tally)
  pub fails : FailsToTell ((traverse (said_setting said) grid).text ++ tally_line tally) old new

abbrev pub TraversalAnswer : Said → Grid → List Traversal → Told → Told → Holdings (Vertex Fields) → Holdings (CellRec Fields) → Result Between Halt → Type 0
TraversalAnswer said grid made old new vertices cells (Ok between) = (tally : Tally) × IsTraversed said grid made tally_line old new vertices cells between tally
TraversalAnswer said grid made old new vertices cells (Err (Walk traversal stop)) = (traversal ≡ length made + 1) × StopsFor said grid old new (failure_of stop)
TraversalAnswer said grid made old new vertices cells (Err Line) = FailsAtLine said grid old new
