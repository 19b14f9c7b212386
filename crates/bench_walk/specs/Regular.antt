-- A whole grid: whenever a cell is entered, each of its corners is counted.
use Rattle.std.specs.Prelude.{ℕ, ℤ, List, map}
use Rattle.pe_base.specs.declared.event.Event.{Event}
use Rattle.pe_base.specs.declared.event.Event.TheVariants.{EnterCell}
use Rattle.pe_base.specs.Acts.Effects.{Seen, Outcome, Rules}
use Rattle.bench_walk.specs.Counting.{counted_vertex, eight_zeros, leaving}

-- after a cell is entered
abbrev pub entered : Seen → Seen
entered seen = record seen { corners = map counted_vertex seen.corners }

abbrev pub effect_of : Event → List ℤ → Seen → Outcome
effect_of EnterCell list seen = leaving list (entered seen)
effect_of _ list seen = leaving list seen

-- the plan is the greatest level
abbrev pub regular_rules : Rules ℕ
regular_rules = record {
  effect = λ greatest event traversal list seen. effect_of event list seen;
  fresh_vertex = λ greatest list. eight_zeros list;
  fresh_cell = λ greatest list. eight_zeros list;
  greatest = λ greatest. greatest;
}
