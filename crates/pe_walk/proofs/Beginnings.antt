-- Depots that hold nothing hold a new grid, and after a traversal they hold the next one.
use Rattle.std.proofs.Common.{◌≡◌, ℕ, ℤ, ◌≤◌, Bool, true, false, List, [], refl, sym, ap, ◌∙◌, map, inl, inr}
use Rattle.std.specs.Prelude.{Result, Ok, Err, IfOk, if◌then◌else◌}
use Rattle.std.proofs.lemmas.List.{length-map}
use Rattle.pe_base.specs.declared.tally.Tally.{Tally}
use Rattle.pe_base.specs.Tree.Dim.{IsDim}
use Rattle.pe_base.specs.Tree.Places.{root}
use Rattle.pe_base.specs.Walk.Core.{Setting}
use Rattle.pe_base.specs.Walk.Grids.{Grid, new_grid}
use Rattle.pe_base.specs.Walk.Streams.{walked_loads, walked_cells, next_way, goes_below, vertex_stream, cell_stream}
use Rattle.pe_base.specs.Walk.Walk.{traverse}
use Rattle.pe_base.proofs.Lists.{Each-all, filter_none}
use Rattle.pe_stacks.specs.declared.grid.Grid.{Grid as Handle}
use Rattle.pe_stacks.specs.Holdings.{Holdings, items_at}
use Rattle.pe_mapping.specs.Held.{Held}
use Rattle.pe_base.specs.Calls.Told.{Told}
use Rattle.pe_stacks.specs.Sights.{Numbers, record_of, seen_cell}
use Rattle.pe_hang.specs.InHand.{map_stack, map_holdings}
use Rattle.pe_base.specs.Calls.Follows.{BeforeCall, Failure, read_by}
use Rattle.pe_hang.proofs.OnStacks.{stack_at-map}
use Rattle.pe_stacks.specs.StreamsHeld.{stored_of}
use Rattle.pe_walk.specs.Traversing.{Stores, MayTraverse, HoldsNothing, HoldAGrid, Traverses, Answers}

-- nothing is seen on stacks on which nothing lies
unseen : {X Y : Type 0} (f : X → Y) (stacks : ℕ) (held : Holdings X) → HoldsNothing stacks held → (s : ℕ) → items_at (map_holdings f held) s ≡ []
unseen f stacks held nothing s = ap (λ stack. stack.items) (stack_at-map f held s) ∙ ap (map f) (nothing.items s)

-- no vertices and no cells make no streams
no_vertices : (axes greatest : ℕ) (numbers list : List ℤ) → vertex_stream (new_grid axes greatest numbers list) ≡ []
no_vertices axes greatest numbers list =
    let grid = new_grid axes greatest numbers list in
    let loads = walked_loads axes (next_way grid) (goes_below grid) greatest root in
    rw (filter_none _ loads (Each-all _ (λ touch. refl) loads)) refl

no_cells : (axes greatest : ℕ) (numbers list : List ℤ) → cell_stream (new_grid axes greatest numbers list) ≡ []
no_cells axes greatest numbers list =
    let grid = new_grid axes greatest numbers list in
    let cells = walked_cells axes (next_way grid) (goes_below grid) greatest root in
    rw (filter_none _ cells (Each-all _ (λ cell. refl) cells)) refl

either : {X : Type 0} (b : Bool) (xs : List X) → xs ≡ [] → [] ≡ (if b then xs else [])
either true xs none = sym none
either false xs none = refl

-- depots that hold nothing hold a new grid
pub may_begin : {Plan V C : Type 0} (numbers : Numbers V C) (mapping : Held Plan) (levels : ℕ) (depots : Stores V C) (handle : Handle C)
    → HoldsNothing 10 depots.vertices → HoldsNothing 2 depots.cells → IsDim handle.dim → 1 ≤ levels → levels ≤ 20 → handle.finished ≡ 0
    → MayTraverse numbers mapping levels depots handle (new_grid handle.dim levels (seen_cell numbers.cell handle.root) mapping.list)
may_begin numbers mapping levels depots handle nothing no_cell axes some few finished =
    let numbers_of = seen_cell numbers.cell handle.root in
    record {
      greatest = refl;
      formed = inl (record { axes = axes; some_level = some; few_levels = few; unfinished = refl; no_vertices = λ vertex. refl; no_cells = λ cell. refl });
      holds = record {
        axes = refl;
        finished = finished;
        holds = record {
          stacks = length-map depots.vertices.stacks (map_stack (record_of numbers.vertex)) ∙ nothing.count;
          cell_stacks = length-map depots.cells.stacks (map_stack (seen_cell numbers.cell)) ∙ no_cell.count;
          vertices = λ s. ap (map stored_of) (unseen (record_of numbers.vertex) 10 depots.vertices nothing s) ∙ either _ _ (no_vertices handle.dim levels numbers_of mapping.list);
          cells = λ s. unseen (seen_cell numbers.cell) 2 depots.cells no_cell s ∙ either _ _ (no_cells handle.dim levels numbers_of mapping.list);
          none_out = nothing.none_out;
          no_cell_out = no_cell.none_out;
          root = refl;
          list = refl;
        };
      };
    }

pub begins : {Plan V C : Type 0} (numbers : Numbers V C) (mapping : Held Plan) (levels : ℕ) (depots : Stores V C) (handle : Handle C)
    → HoldsNothing 10 depots.vertices → HoldsNothing 2 depots.cells → IsDim handle.dim → 1 ≤ levels → levels ≤ 20 → handle.finished ≡ 0 → HoldAGrid numbers mapping levels depots handle
begins numbers mapping levels depots handle nothing no_cell axes some few finished =
    (new_grid handle.dim levels (seen_cell numbers.cell handle.root) mapping.list, may_begin numbers mapping levels depots handle nothing no_cell axes some few finished)

-- a traversal that is done leaves a grid that may be traversed
goes_on : {Plan V C : Type 0} (numbers : Numbers V C) (set : Setting Plan) (grid : Grid) (swapped : Bool) (levels : ℕ) (told : Told) (before : Stores V C) (mapping : Held Plan) (after : Stores V C) (answer : Handle C × Tally)
    → grid.greatest ≡ levels → Traverses numbers set grid swapped (traverse set grid) told before mapping after answer → HoldAGrid numbers mapping levels after answer.0
goes_on numbers set grid swapped levels told before mapping after answer same it = (it.next, record { greatest = it.greatest ∙ same; formed = inr it.formed; holds = it.holds })

-- so does an answer of a traversal, if it is no error
pub goes_on_if : {Plan V C E : Type 0} (numbers : Numbers V C) (set : Setting Plan) (grid : Grid) (swapped : Bool) (levels : ℕ) (old : BeforeCall) (before : Stores V C) (mapping : Held Plan) (after : Stores V C) (means : E → Failure) (result : Result (Handle C × Tally) E)
    → grid.greatest ≡ levels → Answers numbers set grid swapped (traverse set grid) (read_by means result) old before mapping after → IfOk result (λ answer. HoldAGrid numbers mapping levels after answer.0)
goes_on_if numbers set grid swapped levels old before mapping after means (Ok answer) same it = goes_on numbers set grid swapped levels old.told before mapping after answer same it
goes_on_if numbers set grid swapped levels old before mapping after means (Err e) same it = tt
