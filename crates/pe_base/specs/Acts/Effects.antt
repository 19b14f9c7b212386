-- What events do: what an event sees, what it leaves, and the functions that say it.
--
-- An event of a vertex sees the vertex, an event of a cell sees the cell and its corners; both see the corners of the
-- parent cell and the parent cell. A plain event sees nothing:
--
--                place            vertex   cell   corners   parents   parent
--     plain      the root's       none     none   none      none      no numbers
--     vertex     the vertex's     it       none   none      2^d       its numbers
--     cell       the cell's       none     it     2^d       2^d       its numbers
use Rattle.std.specs.Prelude.{◌≡◌, ◌⊎◌, ℕ, ℤ, pos, ◌-◌, List, [], ◌∷◌, map, All, Option, Some, None}
use Rattle.pe_base.specs.declared.place.Place.{Place}
use Rattle.pe_base.specs.Tree.Places.{root}
use Rattle.pe_base.specs.declared.state.State.{State}
use Rattle.pe_base.specs.declared.kind.Kind.{Kind}
use Rattle.pe_base.specs.declared.event.Event.{Event}
use Rattle.pe_base.specs.Life.States.{refined_state, erased_state}

-- a vertex as events see it
pub record SeenVertex : Type 0 where
  pub state : State
  pub kind : Kind
  pub numbers : List ℤ

-- a vertex as it is kept, on a stack or under its place: what is kept beside what events see, no event sees or changes
pub record VertexRecord : Type 0 where
  pub state : State
  pub kind : Kind
  pub numbers : List ℤ

-- what an event sees of it, and of several
abbrev pub seen_of : VertexRecord → SeenVertex
seen_of it = record { state = it.state; kind = it.kind; numbers = it.numbers }

abbrev pub all_seen : List VertexRecord → List SeenVertex
all_seen = map seen_of

-- a vertex as an event has left it
abbrev pub as_seen : SeenVertex → VertexRecord
as_seen seen = record { state = seen.state; kind = seen.kind; numbers = seen.numbers }

abbrev pub as_left : VertexRecord → SeenVertex → VertexRecord
as_left it seen = as_seen seen

-- several, one by one
abbrev pub as_all_left : List VertexRecord → List SeenVertex → List VertexRecord
as_all_left its [] = []
as_all_left [] (seen ∷ seens) = as_seen seen ∷ as_all_left [] seens
as_all_left (it ∷ its) (seen ∷ seens) = as_left it seen ∷ as_all_left its seens

-- what an event sees
pub record Seen : Type 0 where
  pub place : Place
  pub vertex : Option SeenVertex
  pub cell : Option (List ℤ)
  pub corners : List SeenVertex
  pub parents : List SeenVertex
  pub parent : List ℤ

-- what a plain event sees: nothing
abbrev pub plain_sight : Seen
plain_sight = record { place = root; vertex = None; cell = None; corners = []; parents = []; parent = [] }

-- why the program of an event may stop
pub data Fault : Type 0 where
  Overflow : Fault
  Division : Fault

-- what an event leaves: what it saw as it is now, the mapping's list, the text that it added, and its fault
pub record Outcome : Type 0 where
  pub seen : Seen
  pub list : List ℤ
  pub text : List ℕ
  pub fault : Option Fault

-- a fresh payload, and the mapping's list afterwards
pub record Fresh : Type 0 where
  pub numbers : List ℤ
  pub list : List ℤ

-- What a plan of events does: the effect of an event in a traversal on the mapping's list and on what it sees, what is
-- made with a fresh vertex and a fresh cell, and the greatest level of the grid.
pub record Rules (Plan : Type 0) : Type 0 where
  pub effect : Plan → Event → ℕ → List ℤ → Seen → Outcome
  pub fresh_vertex : Plan → List ℤ → Fresh
  pub fresh_cell : Plan → List ℤ → Fresh
  pub greatest : Plan → ℕ

-- the rules of plans that are seen through others
abbrev pub rules_through : {Plan Plain : Type 0} → (Plan → Plain) → Rules Plain → Rules Plan
rules_through seen rules = record {
  effect = λ plan. rules.effect (seen plan);
  fresh_vertex = λ plan. rules.fresh_vertex (seen plan);
  fresh_cell = λ plan. rules.fresh_cell (seen plan);
  greatest = λ plan. rules.greatest (seen plan);
}

-- a state that an event on a grid of that greatest level may leave of a vertex of a level: it stays, or is triggered
abbrev pub MayBecome : ℕ → ℕ → Kind → State → State → Type 0
MayBecome greatest level kind before after =
    (after ≡ before) ⊎ (after ≡ refined_state level greatest kind before) ⊎ (after ≡ erased_state kind before)

-- a vertex after an event: of the same kind, and of a state that it may become
pub record IsTriggered (greatest level : ℕ) (before after : SeenVertex) : Type 0 where
  pub kind : after.kind ≡ before.kind
  pub state : MayBecome greatest level before.kind before.state after.state

-- vertices after an event, one by one
abbrev pub AreTriggered : ℕ → ℕ → List SeenVertex → List SeenVertex → Type 0
AreTriggered greatest level [] [] = Unit {0}
AreTriggered greatest level [] (after ∷ afters) = ⊥
AreTriggered greatest level (before ∷ befores) [] = ⊥
AreTriggered greatest level (before ∷ befores) (after ∷ afters) = IsTriggered greatest level before after × AreTriggered greatest level befores afters

-- the vertex of an event, if there is one
abbrev pub IsTriggeredIfAny : ℕ → ℕ → Option SeenVertex → Option SeenVertex → Type 0
IsTriggeredIfAny greatest level None None = Unit {0}
IsTriggeredIfAny greatest level None (Some after) = ⊥
IsTriggeredIfAny greatest level (Some before) None = ⊥
IsTriggeredIfAny greatest level (Some before) (Some after) = IsTriggered greatest level before after

abbrev pub AreBoth : {X : Type 0} → Option X → Option X → Type 0
AreBoth None None = Unit {0}
AreBoth None (Some _) = ⊥
AreBoth (Some _) None = ⊥
AreBoth (Some _) (Some _) = Unit {0}

-- what an event may make of what it sees: numbers, and triggers. The parents are one level above the event's place.
pub record MayLeave (greatest : ℕ) (before after : Seen) : Type 0 where
  pub place : after.place ≡ before.place
  pub vertex : IsTriggeredIfAny greatest before.place.level before.vertex after.vertex
  pub cell : AreBoth before.cell after.cell
  pub corners : AreTriggered greatest before.place.level before.corners after.corners
  pub parents : AreTriggered greatest (before.place.level - 1) before.parents after.parents

abbrev pub AreZeros : List ℤ → Type 0
AreZeros numbers = All (λ n. n ≡ pos 0) numbers

-- the law of effects
pub record AreLawful {Plan : Type 0} (rules : Rules Plan) : Type 0 where
  pub effect : (plan : Plan) (event : Event) (traversal : ℕ) (list : List ℤ) (seen : Seen)
      → MayLeave (rules.greatest plan) seen (rules.effect plan event traversal list seen).seen
  pub fresh_vertex : (plan : Plan) (list : List ℤ) → AreZeros (rules.fresh_vertex plan list).numbers
  pub fresh_cell : (plan : Plan) (list : List ℤ) → AreZeros (rules.fresh_cell plan list).numbers
