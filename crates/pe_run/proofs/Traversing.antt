-- One traversal more of a grid that stands between two traversals.
use Rattle.std.proofs.Common.{◌≡◌, ◌⊎◌, ◌∙◌, ℕ, ℤ, ◌+◌, ◌*◌, ◌≤◌, not, List, [], ◌∷◌, ◌++◌, length, Result, Ok, Err, sym, ap, subst, inl, inr, arith, length-append}
use Rattle.std.specs.Prelude.{IfOk}
use Rattle.std.proofs.lemmas.List.{length-map, append-nil}
use Rattle.pe_base.specs.declared.fields.Fields.{Fields}
use Rattle.pe_base.specs.declared.tally.Tally.{Tally}
use Rattle.pe_base.specs.Limits.{most_cells}
use Rattle.pe_base.specs.Tree.Dim.{IsDim}
use Rattle.pe_base.specs.Walk.Core.{Setting}
use Rattle.pe_base.specs.Walk.Grids.{Grid, IsWellFormed}
use Rattle.pe_base.specs.Walk.Traversals.{Traversal}
use Rattle.pe_base.specs.Walk.Walk.{traverse}
use Rattle.pe_base.specs.Walk.Working.{no_tally}
use Rattle.pe_base.proofs.Walk.Plans.{traverse-through}
use Rattle.pe_stacks.specs.declared.record.Vertex.{Vertex}
use Rattle.pe_stacks.specs.declared.record.CellRec.{CellRec}
use Rattle.pe_stacks.specs.declared.grid.Grid.{Grid as Handle}
use Rattle.pe_stacks.specs.Holdings.{Holdings, stack_count, CountsWithin, RaisesCounts}
use Rattle.pe_stacks.proofs.Raising.{within_more, raises_within}
use Rattle.pe_mapping.specs.Held.{Held}
use Rattle.pe_base.specs.Calls.Told.{Told, Adds, AddsPart, SinkFailed}
use Rattle.pe_hang.specs.InHand.{map_stack, map_holdings}
use Rattle.pe_base.specs.Calls.Follows.{BeforeCall, Failure, halted, unwritten, wanting, unheard_of, read_by}
use Rattle.pe_adapt.specs.declared.stop.WalkStop.{WalkStop}
use Rattle.pe_adapt.specs.Stops.{failure_of}
use Rattle.pe_scene.specs.declared.scenario.Scenario.{Scenario}
use Rattle.pe_scene.specs.SaidView.{said_of}
use Rattle.pe_interp.specs.Effect.{said_rules, scenario_rules}
use Rattle.pe_stacks.specs.Sights.{fields_numbers}
use Rattle.pe_walk.specs.Gridded.{HoldsGrid}
use Rattle.pe_walk.specs.InHand.{machine_between}
use Rattle.pe_order.specs.Outlooks.{IsNew, outlook}
use Rattle.pe_order.specs.Tallies.{ExactTraffic}
use Rattle.pe_walk.specs.Traversing.{most_rise, IsAdvanced, MayTraverse, Traverses, Answers}
use Rattle.pe_run.specs.declared.traversals.Between.{Between}
use Rattle.pe_run.specs.Tasks.{said_setting}
use Rattle.pe_run.specs.Traffic.{is_swapped, HasTraffic}
use Rattle.pe_run.specs.Between.{Stands, IsTraversed, StopsFor, WalkAnswer}
use Rattle.pe_run.proofs.Counting.{swapped_more, counts_more}

-- depots through which records are seen have as many stacks
count_of : {X Y : Type 0} (f : X → Y) (held : Holdings X) (n : ℕ) → stack_count (map_holdings f held) ≡ n → stack_count held ≡ n
count_of f held n is = sym (length-map held.stacks (map_stack f)) ∙ is

-- counts after one traversal more, of so many cells
rises_once : {X : Type 0} (held held' : Holdings X) (traversals cells : ℕ) → cells ≤ most_cells → CountsWithin held (most_rise * traversals) → RaisesCounts held held' (64 * (cells + 1)) → CountsWithin held' (most_rise * (traversals + 1))
rises_once held held' traversals cells few counts rises =
    within_more held' (most_rise * traversals + 64 * (cells + 1)) (most_rise * (traversals + 1)) (omega (arith, few)) (raises_within held held' (most_rise * traversals) (64 * (cells + 1)) rises counts)

axes_of : (grid : Grid) → IsNew grid ⊎ IsWellFormed grid → IsDim grid.axes
axes_of grid (inl new) = new.axes
axes_of grid (inr formed) = formed.axes

module _ (scenario : Scenario) (between : Between) (made : List Traversal) (grid : Grid) (vertices vertices' : Holdings (Vertex Fields)) (cells cells' : Holdings (CellRec Fields))
    (stands : Stands (said_of scenario) between vertices cells made grid) where
  abbrev set : Setting Scenario
  set = record {
    rules = scenario_rules;
    plan = scenario;
    axes = scenario.setup.dim;
    start_level = scenario.setup.start_level;
    max_cells = scenario.setup.max_cells;
    traversal = between.grid.finished + 1;
  }

  same : traverse set grid ≡ traverse (said_setting (said_of scenario)) grid
  same = traverse-through said_of said_rules scenario scenario.setup.dim scenario.setup.start_level scenario.setup.max_cells (between.grid.finished + 1) grid

  -- the grid is told by its list as the mapping has it
  held_with : (next : Grid) (handle : Handle Fields) (list globals : List ℤ) → list ≡ globals
      → HoldsGrid next handle.swapped (machine_between fields_numbers vertices' cells' handle.root list (no_tally 0)) → HoldsGrid next handle.swapped (machine_between fields_numbers vertices' cells' handle.root globals (no_tally 0))
  held_with next handle list globals is holds = subst (λ l. HoldsGrid next handle.swapped (machine_between fields_numbers vertices' cells' handle.root l (no_tally 0))) is holds

  module _ (old new : Told) (after : Held Scenario) (globals : Fields) (handle : Handle Fields) (tally : Tally) (advanced : IsAdvanced between.grid handle) (few : tally.cells ≤ scenario.setup.max_cells)
      (list : after.list ≡ globals.a) (told : after.told ≡ new)
      (it : Traverses fields_numbers set grid between.grid.swapped (traverse set grid) old (record { vertices = vertices; cells = cells }) after (record { vertices = vertices'; cells = cells' }) (handle, tally)) where
    abbrev turn : Traversal
    turn = record { grid = grid; tally = tally }

    one_more : length (made ++ turn ∷ []) ≡ length made + 1
    one_more = length-append made (turn ∷ [])

    finished : handle.finished ≡ length (made ++ turn ∷ [])
    finished = advanced.finished ∙ ap (λ n. n + 1) stands.counted ∙ sym one_more

    swapped : handle.swapped ≡ is_swapped (length (made ++ turn ∷ []))
    swapped = advanced.swapped ∙ ap not stands.swapped ∙ sym (swapped_more (length made)) ∙ ap is_swapped (sym one_more)

    exact : ExactTraffic (outlook scenario.setup.start_level grid (is_swapped grid.finished)) grid.greatest vertices vertices' cells cells' tally
    exact = subst (λ b. ExactTraffic (outlook scenario.setup.start_level grid b) grid.greatest vertices vertices' cells cells' tally) (stands.swapped ∙ ap is_swapped (sym stands.finished)) it.traffic

    traffic : HasTraffic scenario.setup.dim scenario.setup.start_level (made ++ turn ∷ []) vertices' cells'
    traffic = subst (λ n. HasTraffic n scenario.setup.start_level (made ++ turn ∷ []) vertices' cells') stands.axes
        (counts_more scenario.setup.start_level made turn vertices vertices' cells cells' (axes_of grid stands.formed) exact
        (count_of _ vertices 10 stands.holds.stacks) (count_of _ vertices' 10 it.holds.holds.stacks) (count_of _ cells 2 stands.holds.cell_stacks) (count_of _ cells' 2 it.holds.holds.cell_stacks)
        stands.holds.none_out stands.holds.no_cell_out (subst (λ n. HasTraffic n scenario.setup.start_level made vertices cells) (sym stands.axes) stands.traffic))

    stands_next : Stands (said_of scenario) (record { grid = handle; globals = globals }) vertices' cells' (made ++ turn ∷ []) it.next
    stands_next = record {
      axes = sym it.holds.axes ∙ advanced.dim ∙ stands.dim;
      greatest = it.greatest ∙ stands.greatest;
      finished = sym it.holds.finished ∙ finished;
      formed = inr it.formed;
      dim = advanced.dim ∙ stands.dim;
      counted = finished;
      swapped = swapped;
      holds = held_with it.next handle after.list globals.a list it.holds.holds;
      traffic = traffic;
      counts = subst (λ n. CountsWithin vertices' (most_rise * n)) (sym one_more) (rises_once vertices vertices' (length made) tally.cells limited stands.counts it.rises);
      cell_counts = subst (λ n. CountsWithin cells' (most_rise * n)) (sym one_more) (rises_once cells cells' (length made) tally.cells limited stands.cell_counts it.cells_rise);
    }
      where
        limited : tally.cells ≤ most_cells
        limited = omega (arith, few, scenario.setup.limit.few)

    traversed : IsTraversed (said_of scenario) grid made (λ t. []) old new vertices' cells' (record { grid = handle; globals = globals }) tally
    traversed = record {
      next = it.next;
      ends = ap (λ course. course.ending) (sym same) ∙ it.does.ends;
      told = subst (λ t. Adds old ((traverse (said_setting (said_of scenario)) grid).text ++ []) t) told
          (subst (λ text. Adds old text after.told) (ap (λ course. course.text) same ∙ sym (append-nil _)) it.does.told);
      stands = stands_next;
    }

  -- the grid may be traversed, by a mapping that holds the numbers of the whole grid
  pub may_traverse : (mapping : Held Scenario) → mapping.list ≡ between.globals.a → MayTraverse fields_numbers mapping scenario.setup.max_level (record { vertices = vertices; cells = cells }) between.grid grid
  may_traverse mapping list = record {
    greatest = stands.greatest;
    formed = stands.formed;
    holds = record {
      axes = stands.dim ∙ sym stands.axes;
      finished = stands.counted ∙ sym stands.finished;
      holds = subst (λ l. HoldsGrid grid between.grid.swapped (machine_between fields_numbers vertices cells between.grid.root l (no_tally 0))) (sym list) stands.holds;
    };
  }

  -- it stopped
  stopped : (old new : Told) (found : BeforeCall) (after : Held Scenario) (failure : Failure) → found.told ≡ old → after.told ≡ new
      → Answers fields_numbers set grid between.grid.swapped (traverse set grid) (Err failure) found (record { vertices = vertices; cells = cells }) after (record { vertices = vertices'; cells = cells' })
      → StopsFor (said_of scenario) grid old new failure
  stopped old new found after (halted cause) was is does = record {
    ends = ap (λ course. course.ending) (sym same) ∙ does.ends;
    told = subst (λ o. Adds o (traverse (said_setting (said_of scenario)) grid).text new) was (subst (λ t. Adds found.told (traverse (said_setting (said_of scenario)) grid).text t) is (subst (λ course. Adds found.told course.text after.told) same does.told));
  }
  stopped old new found after unwritten was is fails = record {
    failed = subst (λ o. SinkFailed o new) was (subst (λ t. SinkFailed found.told t) is fails.failed);
    told = subst (λ o. AddsPart o (traverse (said_setting (said_of scenario)) grid).text new) was (subst (λ t. AddsPart found.told (traverse (said_setting (said_of scenario)) grid).text t) is (subst (λ course. AddsPart found.told course.text after.told) same fails.told));
  }
  stopped old new found after wanting was is wants =
      subst (λ o. AddsPart o (traverse (said_setting (said_of scenario)) grid).text new) was (subst (λ t. AddsPart found.told (traverse (said_setting (said_of scenario)) grid).text t) is (subst (λ course. AddsPart found.told course.text after.told) same wants.told))
  stopped old new found after unheard_of was is none = none

  -- what is set, by the plan of a mapping
  abbrev pub set_by : Scenario → Setting Scenario
  set_by plan = record {
    rules = scenario_rules;
    plan = plan;
    axes = plan.setup.dim;
    start_level = scenario.setup.start_level;
    max_cells = scenario.setup.max_cells;
    traversal = between.grid.finished + 1;
  }

  -- the answer, with the numbers of the whole grid
  abbrev pub with_globals : Fields → Result (Handle Fields × Tally) WalkStop → Result (Between × Tally) WalkStop
  with_globals globals (Ok answer) = Ok (record { grid = answer.0; globals = globals }, answer.1)
  with_globals globals (Err stop) = Err stop

  answered_by : (old new : Told) (found : BeforeCall) (after : Held Scenario) (globals : Fields) (result : Result (Handle Fields × Tally) WalkStop) → found.told ≡ old → after.told ≡ new → after.list ≡ globals.a
      → IfOk result (λ answer. answer.1.cells ≤ scenario.setup.max_cells) → IfOk result (λ answer. IsAdvanced between.grid answer.0)
      → Answers fields_numbers set grid between.grid.swapped (traverse set grid) (read_by failure_of result) found (record { vertices = vertices; cells = cells }) after (record { vertices = vertices'; cells = cells' })
      → WalkAnswer (said_of scenario) grid made old new vertices' cells' (read_by failure_of (with_globals globals result))
  answered_by old new found after globals (Ok answer) was is list few advanced it =
      subst (λ o. IsTraversed (said_of scenario) grid made (λ t. []) o new vertices' cells' (record { grid = answer.0; globals = globals }) answer.1) was
      (traversed found.told new after globals answer.0 answer.1 advanced few list is it)
  answered_by old new found after globals (Err stop) was is list few advanced it = stopped old new found after (failure_of stop) was is it

  -- what a traversal answers, by the plan of its mapping
  pub answered : (plan : Scenario) → plan ≡ scenario → (old new : Told) (found : BeforeCall) (after : Held Scenario) (globals : Fields) (result : Result (Handle Fields × Tally) WalkStop)
      → found.told ≡ old → after.told ≡ new → after.list ≡ globals.a
      → IfOk result (λ answer. answer.1.cells ≤ scenario.setup.max_cells) → IfOk result (λ answer. IsAdvanced between.grid answer.0)
      → Answers fields_numbers (set_by plan) grid between.grid.swapped (traverse (set_by plan) grid) (read_by failure_of result) found (record { vertices = vertices; cells = cells }) after (record { vertices = vertices'; cells = cells' })
      → WalkAnswer (said_of scenario) grid made old new vertices' cells' (read_by failure_of (with_globals globals result))
  answered plan same_plan old new found after globals result was is list few advanced it =
      answered_by old new found after globals result was is list few advanced
      (subst (λ p. Answers fields_numbers (set_by p) grid between.grid.swapped (traverse (set_by p) grid) (read_by failure_of result) found (record { vertices = vertices; cells = cells }) after (record { vertices = vertices'; cells = cells' })) same_plan it)
