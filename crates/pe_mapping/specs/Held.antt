-- What a mapping holds.
use Rattle.std.specs.Prelude.{◌≡◌, ℕ, ℤ, Bool, List}
use Rattle.std.specs.Borrow.{GName}
use Rattle.pe_base.specs.declared.event.Event.{Event}
use Rattle.pe_base.specs.Acts.Effects.{Seen, Outcome, Fresh, Rules}
use Rattle.pe_base.specs.Calls.Told.{Told}
use Rattle.pe_base.specs.Calls.Follows.{BeforeCall}

-- a mapping: the plan that its effects are said of, its list, what it told, the dimension that it is for, whether it
-- never wants memory, and what it holds by reference, as a sink, by the references' names
pub record Held (Plan : Type 0) : Type 0 where
  pub plan : Plan
  pub list : List ℤ
  pub told : Told
  pub dim : ℕ
  pub sure : Bool
  pub lent : List GName

-- the greatest level of the grid, below which vertices may be triggered to refine
abbrev pub max_level : {Plan : Type 0} → Rules Plan → Held Plan → ℕ
max_level rules held = rules.greatest held.plan

-- what an event does to the mapping and to what it sees
abbrev pub outcome_of : {Plan : Type 0} → Rules Plan → Held Plan → Event → ℕ → Seen → Outcome
outcome_of rules held event traversal seen = rules.effect held.plan event traversal held.list seen

-- what is made with a fresh vertex, and with a fresh cell
abbrev pub made_vertex : {Plan : Type 0} → Rules Plan → Held Plan → Fresh
made_vertex rules held = rules.fresh_vertex held.plan held.list

abbrev pub made_cell : {Plan : Type 0} → Rules Plan → Held Plan → Fresh
made_cell rules held = rules.fresh_cell held.plan held.list

-- what no call changes
pub record Keeps {Plan : Type 0} (old new : Held Plan) : Type 0 where
  pub plan : new.plan ≡ old.plan
  pub dim : new.dim ≡ old.dim
  pub sure : new.sure ≡ old.sure
  pub lent : new.lent ≡ old.lent

-- what a call finds of a mapping, and of the room on stacks
abbrev pub found_of : {Plan : Type 0} → Held Plan → (ℕ → ℕ) → (ℕ → ℕ) → BeforeCall
found_of held vertices cells = record { told = held.told; sure = held.sure; vertices = vertices; cells = cells }
