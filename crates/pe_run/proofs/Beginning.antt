-- What stands before the first traversal of a scenario.
use Rattle.std.proofs.Common.{◌≡◌, ℕ, ℤ, zero, suc, ◌*◌, false, List, [], replicate, get_or, None, true, refl, sym, ap, subst, ◌∙◌, arith}
use Rattle.std.proofs.lemmas.List.{length-replicate}
use Rattle.pe_base.specs.declared.fields.Fields.{Fields}
use Rattle.pe_base.specs.Acts.Payloads.{zeros}
use Rattle.pe_base.specs.Tree.Dim.{IsDim}
use Rattle.pe_base.specs.Walk.Grids.{new_grid}
use Rattle.pe_stacks.specs.declared.record.Vertex.{Vertex}
use Rattle.pe_stacks.specs.declared.record.CellRec.{CellRec}
use Rattle.pe_stacks.specs.declared.grid.Grid.{Grid as Handle}
use Rattle.pe_stacks.specs.Holdings.{Holdings, Stack, new_stack, new_holdings}
use Rattle.pe_stacks.proofs.Raising.{within_new}
use Rattle.pe_mapping.specs.Held.{Held}
use Rattle.pe_scene.specs.declared.scenario.Scenario.{Scenario}
use Rattle.pe_scene.specs.SaidView.{said_of}
use Rattle.pe_stacks.specs.Sights.{fields_numbers}
use Rattle.pe_walk.specs.Traversing.{most_rise, MayTraverse, HoldsNothing}
use Rattle.pe_walk.proofs.Beginnings.{may_begin}
use Rattle.pe_run.specs.declared.traversals.Between.{Between}
use Rattle.pe_run.specs.Tasks.{first_grid}
use Rattle.pe_run.specs.Traffic.{HasTraffic}
use Rattle.pe_run.specs.Between.{Stands}

-- each stack of a depot that nothing was done with is new
all_new : {X : Type 0} (stacks s : ℕ) → get_or (replicate stacks (new_stack {X = X})) s new_stack ≡ new_stack
all_new zero s = refl
all_new (suc stacks) zero = refl
all_new (suc stacks) (suc s) = all_new stacks s

nothing : {X : Type 0} (stacks : ℕ) (held : Holdings X) → held ≡ new_holdings stacks → HoldsNothing stacks held
nothing {X} stacks held is = rw is (record { count = length-replicate stacks new_stack; none_out = refl; items = λ s. ap (λ (stack : Stack X). stack.items) (all_new stacks s) })

-- and so was nothing counted
nothing_counted : {V C : Type 0} (axes start_level : ℕ) (vertices : Holdings V) (cells : Holdings C) → vertices ≡ new_holdings 10 → cells ≡ new_holdings 2 → HasTraffic axes start_level [] vertices cells
nothing_counted {V} {C} axes start_level vertices cells none no_cell = rw none (rw no_cell (record {
  vertex_pushes_are = λ s. ap (λ (stack : Stack V). stack.pushes) (all_new 10 s);
  vertex_pops_are = λ s. ap (λ (stack : Stack V). stack.pops) (all_new 10 s);
  cell_pushes_are = λ s. ap (λ (stack : Stack C). stack.pushes) (all_new 2 s);
  cell_pops_are = λ s. ap (λ (stack : Stack C). stack.pops) (all_new 2 s);
  vertices_lent = refl;
  cells_lent = refl;
  vertices_out = omega arith;
  cells_out = omega arith;
}))

-- a mapping that has the numbers of the whole grid
abbrev mapping_with : Scenario → Fields → Held Scenario
mapping_with scenario globals = record { plan = scenario; list = globals.a; told = record { text = None; writes = 0; faults = 0 }; dim = scenario.setup.dim; sure = true; lent = [] }

pub first_stands : (scenario : Scenario) (between : Between) (vertices : Holdings (Vertex Fields)) (cells : Holdings (CellRec Fields)) → IsDim scenario.setup.dim
    → between.grid ≡ record { dim = scenario.setup.dim; finished = 0; swapped = false; root = record { payload = between.globals } } → between.globals.a ≡ zeros
    → vertices ≡ new_holdings 10 → cells ≡ new_holdings 2 → Stands (said_of scenario) between vertices cells [] (first_grid (said_of scenario))
first_stands scenario between vertices cells dim is zeroed none no_cell = record {
  axes = refl;
  greatest = refl;
  finished = refl;
  formed = may.formed;
  dim = ap (λ (handle : Handle Fields). handle.dim) is;
  counted = ap (λ (handle : Handle Fields). handle.finished) is;
  swapped = ap (λ (handle : Handle Fields). handle.swapped) is;
  holds = may.holds.holds;
  traffic = nothing_counted scenario.setup.dim scenario.setup.start_level vertices cells none no_cell;
  counts = within_new vertices 10 (most_rise * 0) none;
  cell_counts = within_new cells 2 (most_rise * 0) no_cell;
}
  where
    may_new : MayTraverse fields_numbers (mapping_with scenario between.globals) scenario.setup.max_level (record { vertices = vertices; cells = cells }) between.grid (new_grid between.grid.dim scenario.setup.max_level between.grid.root.payload.a between.globals.a)
    may_new =
        may_begin fields_numbers (mapping_with scenario between.globals) scenario.setup.max_level (record { vertices = vertices; cells = cells }) between.grid (nothing 10 vertices none) (nothing 2 cells no_cell)
        (subst IsDim (sym (ap (λ (handle : Handle Fields). handle.dim) is)) dim) (omega (arith, scenario.setup.levels.some, scenario.setup.levels.within)) scenario.setup.levels.few (ap (λ (handle : Handle Fields). handle.finished) is)

    same : new_grid between.grid.dim scenario.setup.max_level between.grid.root.payload.a between.globals.a ≡ first_grid (said_of scenario)
    same =
        ap (λ (handle : Handle Fields). new_grid handle.dim scenario.setup.max_level handle.root.payload.a between.globals.a) is
        ∙ ap (λ (numbers : List ℤ). new_grid scenario.setup.dim scenario.setup.max_level numbers numbers) zeroed

    may : MayTraverse fields_numbers (mapping_with scenario between.globals) scenario.setup.max_level (record { vertices = vertices; cells = cells }) between.grid (first_grid (said_of scenario))
    may = subst (MayTraverse fields_numbers (mapping_with scenario between.globals) scenario.setup.max_level (record { vertices = vertices; cells = cells }) between.grid) same may_new
