-- What a body does at an event: its statements run in order, and a fault stops it.
use Rattle.std.specs.Prelude.{ℕ, ℤ, ◌-◌, List, [], ◌∷◌, ◌++◌, map, codes, slice_get, slice_set, option_map, Result, Ok, Err, if◌then◌else◌}
use Rattle.std.specs.Option.{option_map_or}
use Rattle.std.specs.List.{flat_map}
use Rattle.std.specs.Fmt.{signed_decimal}
use Rattle.pe_base.specs.declared.state.State.{State}
use Rattle.pe_base.specs.declared.kind.Kind.{Kind}
use Rattle.pe_base.specs.Life.States.{refined_state, erased_state}
use Rattle.pe_base.specs.Lines.{line}
use Rattle.pe_base.specs.Acts.Effects.{SeenVertex, Seen, Outcome}
use Rattle.pe_base.specs.Acts.Outcomes.{fine, faulty, after_text, unless_stopped}
use Rattle.pe_parse.specs.declared.tree.Trigger.{Trigger}
use Rattle.pe_parse.specs.declared.tree.Trigger.TheVariants.{Refine, Erase}
use Rattle.pe_check.specs.declared.checked.VertexName.{VertexName}
use Rattle.pe_check.specs.declared.checked.VertexName.TheVariants.{Own, Corner, ParentCorner}
use Rattle.pe_check.specs.declared.checked.Slot.{Slot}
use Rattle.pe_check.specs.declared.checked.Slot.TheVariants as slot
use Rattle.pe_check.specs.declared.checked.Expr.{Expr}
use Rattle.pe_check.specs.declared.checked.Stmt.{Stmt}
use Rattle.pe_check.specs.declared.checked.Stmt.TheOpen.{Stmt-F}
use Rattle.pe_check.specs.declared.checked.Stmt.TheFolds.{fold-Stmt}
use Rattle.pe_eval.specs.declared.fault.Fault.{Fault}
use Rattle.pe_eval.specs.Arithmetic.{is_zero}
use Rattle.pe_eval.specs.Names.{Situation}
use Rattle.pe_eval.specs.Values.{value_of, values_of}
use Rattle.pe_eval.specs.Stops.{fault_of}

-- what stays while a body runs: the number of the traversal, and the greatest level of the grid
pub record Setting : Type 0 where
  pub traversal : ℕ
  pub max_level : ℕ

-- what is done at an event, by what the event sees and the numbers of the whole grid
abbrev pub Act : Type 0
Act = Setting → Seen → List ℤ → Outcome

abbrev pub scene_of : Setting → Seen → List ℤ → Situation
scene_of setting seen list = record { traversal = setting.traversal; list = list; seen = seen }

-- what is done next, unless the body has stopped
abbrev pub and_then : Outcome → (Seen → List ℤ → Outcome) → Outcome
and_then outcome next = unless_stopped outcome.fault outcome next

-- statements in turn
abbrev pub in_turn : List Act → Act
in_turn [] setting seen list = fine seen list
in_turn (act ∷ acts) setting seen list = and_then (act setting seen list) (in_turn acts setting)

-- what is done with a value, if there is one
abbrev pub with_value : {X : Type 0} → Seen → List ℤ → Result X Fault → (X → Outcome) → Outcome
with_value seen list (Ok x) next = next x
with_value seen list (Err fault) next = faulty seen list (fault_of fault)

-- the item at a place, if there is one, is changed
abbrev pub changed_at : {X : Type 0} → ℕ → (X → X) → List X → List X
changed_at k change xs = option_map_or (λ x. slice_set xs k (change x)) (slice_get xs k) xs

-- the vertex that a name speaks of is changed
abbrev pub with_vertex : VertexName → (SeenVertex → SeenVertex) → Seen → Seen
with_vertex Own change seen = record seen { vertex = option_map change seen.vertex }
with_vertex (Corner k) change seen = record seen { corners = changed_at k change seen.corners }
with_vertex (ParentCorner k) change seen = record seen { parents = changed_at k change seen.parents }

-- a number of a vertex is set
abbrev pub with_field : ℕ → ℤ → SeenVertex → SeenVertex
with_field field n vertex = record vertex { numbers = slice_set vertex.numbers field n }

-- a number of what the event sees is set
abbrev pub with_number : Slot → ℤ → Seen → Seen
with_number (slot.Global field) n seen = seen
with_number (slot.Vertex vertex field) n seen = with_vertex vertex (with_field field n) seen
with_number (slot.Cell field) n seen = record seen { cell = option_map (λ numbers. slice_set numbers field n) seen.cell }
with_number (slot.Parent field) n seen = record seen { parent = slice_set seen.parent field n }

-- a number of the whole grid is set
abbrev pub with_global : Slot → ℤ → List ℤ → List ℤ
with_global (slot.Global field) n list = slice_set list field n
with_global (slot.Vertex vertex field) n list = list
with_global (slot.Cell field) n list = list
with_global (slot.Parent field) n list = list

-- the level of the vertex that a name speaks of: corners of the parent cell are one level above the event's place
abbrev pub level_of : VertexName → Seen → ℕ
level_of Own seen = seen.place.level
level_of (Corner k) seen = seen.place.level
level_of (ParentCorner k) seen = seen.place.level - 1

abbrev pub triggered_state : Trigger → ℕ → ℕ → Kind → State → State
triggered_state Refine level max_level kind state = refined_state level max_level kind state
triggered_state Erase level max_level kind state = erased_state kind state

-- a vertex of a level is asked to refine or to erase
abbrev pub with_trigger : Trigger → ℕ → ℕ → SeenVertex → SeenVertex
with_trigger trigger level max_level vertex =
    record vertex { state = triggered_state trigger level max_level vertex.kind vertex.state }

abbrev pub triggered : Trigger → ℕ → VertexName → Seen → Seen
triggered trigger max_level vertex seen = with_vertex vertex (with_trigger trigger (level_of vertex seen) max_level) seen

-- the parts of a line, each behind one space
abbrev pub number_parts : List ℤ → List ℕ
number_parts numbers = flat_map (λ part. 32 ∷ part) (map signed_decimal numbers)

-- the line of a print, without its line feed
abbrev pub print_start : List ℤ → List ℕ
print_start numbers = codes "print" ++ number_parts numbers

-- the line of a print
abbrev pub print_line : List ℤ → List ℕ
print_line numbers = line (codes "print") (map signed_decimal numbers)

-- the lines of prints of these numbers, one after another
abbrev pub print_lines : List (List ℤ) → List ℕ
print_lines = flat_map print_line

-- a print at an event
abbrev pub printed : List Expr → Situation → Outcome
printed values situation = with_value situation.seen situation.list (values_of values situation) (λ numbers. after_text (print_line numbers) (fine situation.seen situation.list))

-- a statement whose bodies do this
abbrev pub stmt_step : Stmt-F Act → Act
stmt_step (Stmt-F.Assign slot expr) setting seen list =
    with_value seen list (value_of expr (scene_of setting seen list)) (λ n. fine (with_number slot n seen) (with_global slot n list))
stmt_step (Stmt-F.Trigger trigger vertex) setting seen list = fine (triggered trigger setting.max_level vertex seen) list
stmt_step (Stmt-F.Print values) setting seen list = printed values (scene_of setting seen list)
stmt_step (Stmt-F.If test body) setting seen list =
    with_value seen list (value_of test (scene_of setting seen list)) (λ n. if is_zero n then fine seen list else in_turn body setting seen list)
stmt_step (Stmt-F.IfElse test body other) setting seen list =
    with_value seen list (value_of test (scene_of setting seen list))
    (λ n. if is_zero n then in_turn other setting seen list else in_turn body setting seen list)

abbrev pub act_of : Stmt → Act
act_of = fold-Stmt Act stmt_step

-- what a body does
abbrev pub meaning : List Stmt → Act
meaning body = in_turn (map act_of body)
