-- The carriers of a vertex: the vertices of the level above on whose account it is stored.
--
-- Along each axis they lie at the third of its position, or on both sides of it. In the plane, `o` are the carriers
-- of the vertices between them:
--
--     o . . o
--     . . . .
--     . . . .
--     o . . o
use Rattle.std.specs.Prelude.{ℕ, ◌+◌, ◌-◌, ◌/◌, ◌%◌, ◌==◌, Bool, false, List, [], ◌∷◌, map, if◌then◌else◌, Option, Some, None}
use Rattle.std.specs.List.{flat_map, list_any}
use Rattle.pe_base.specs.declared.place.Place.{Place}
use Rattle.pe_base.specs.declared.state.State.{State}
use Rattle.pe_base.specs.declared.kind.Kind.{Kind}
use Rattle.pe_base.specs.Life.States.{is_old, is_new}
use Rattle.pe_base.specs.Life.Kinds.{kind_from, level_one_kind}

-- the third of a position, rounded down and rounded up
abbrev pub thirds : ℕ → List ℕ
thirds x = if x % 3 == 0 then (x / 3) ∷ [] else (x / 3) ∷ (x / 3 + 1) ∷ []

abbrev pub carrier_positions : List ℕ → List (List ℕ)
carrier_positions [] = [] ∷ []
carrier_positions (x ∷ xs) = flat_map (λ y. map (λ ys. y ∷ ys) (carrier_positions xs)) (thirds x)

abbrev pub carriers : Place → List Place
carriers vertex = map (λ pos. record { level = vertex.level - 1; pos = pos }) (carrier_positions vertex.pos)

-- the state that is found at a place, if there is one, passes a test
abbrev pub passes : (State → Bool) → Option State → Bool
passes test None = false
passes test (Some state) = test state

-- some vertex has a state that passes a test
abbrev pub is_carried : (State → Bool) → (Place → Option State) → Place → Bool
is_carried test state_at vertex = list_any (λ carrier. passes test (state_at carrier)) (carriers vertex)

-- The kind of a vertex, by the states that are found at places: on level 1 by its own rule, and further down by its
-- carriers.
abbrev pub kind_by : ℕ → ℕ → (Place → Option State) → Place → Kind
kind_by axes traversal state_at vertex =
    if vertex.level == 1
    then level_one_kind axes traversal vertex
    else kind_from (is_carried is_old state_at vertex) (is_carried is_new state_at vertex)
