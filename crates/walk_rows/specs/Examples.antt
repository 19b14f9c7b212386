-- Traversals of the machine for the worked rows.
use Rattle.std.specs.Prelude.{ℕ, Bool, true, false, List, [], ◌∷◌, map}
use Rattle.pe_base.specs.Limits.{most_cells}
use Rattle.pe_base.specs.Lines.{tally_line}
use Rattle.pe_base.specs.Walk.Course.{Course, Ending, done, halts, stuck, and_then}
use Rattle.pe_base.specs.Walk.Working.{no_tally}
use Rattle.walk_rows.specs.Trials.{Trial, trial_setting}
use Rattle.pe_stacks.specs.Grid.{input_stack, cell_input_stack}
use Rattle.pe_stacks.specs.Holdings.{Holdings, new_holdings}
use Rattle.pe_adapt.specs.CountedTouches.{Machine, StreamStacks}
use Rattle.pe_walk.specs.Machine.{traverse}

abbrev pub stream_stacks_of : Bool → StreamStacks
stream_stacks_of swapped = record { input = input_stack swapped; cell_input = cell_input_stack swapped }

-- nothing on any stack
abbrev pub new_machine : Machine
new_machine = record {
  vertices = new_holdings 10;
  cells = new_holdings 2;
  family = record { parents = []; parent = []; list = [] };
  tally = no_tally 1;
}

-- the first two traversals of a trial
abbrev pub nth : Trial → ℕ → Bool → Machine → Course Machine
nth trial traversal swapped m =
    and_then (traverse (record (trial_setting trial 1 most_cells) { traversal = traversal }) (stream_stacks_of swapped) trial.greatest (record m { tally = no_tally traversal }))
    (λ m. record { text = tally_line m.tally; log = []; ending = done m })

abbrev pub twice : Trial → Course Machine
twice trial = and_then (nth trial 1 false new_machine) (nth trial 2 true)

-- how often each stack was pushed and popped
abbrev pub traffic_of : {X : Type 0} → Holdings X → List (ℕ × ℕ)
traffic_of held = map (λ stack. (stack.pushes, stack.pops)) held.stacks

-- of vertices and cells the traffic, fresh, spent, out and most
abbrev pub counts_of : Ending Machine → List (List (ℕ × ℕ) × ℕ × ℕ × ℕ × ℕ)
counts_of (done m) =
    (traffic_of m.vertices, m.vertices.fresh, m.vertices.spent, m.vertices.out, m.vertices.most)
    ∷ (traffic_of m.cells, m.cells.fresh, m.cells.spent, m.cells.out, m.cells.most) ∷ []
counts_of (halts cause) = []
counts_of stuck = []
