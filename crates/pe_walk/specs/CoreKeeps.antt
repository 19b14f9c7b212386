-- What the core of a walk keeps of the records in hand: kinds, old and new, and that a vertex at the greatest level is
-- unrefined.
use Rattle.std.specs.Prelude.{◌≡◌, ◌≤◌, ℕ, ◌-◌, ℤ, Bool, true, false, List, [], ◌∷◌, Option, Some, None}
use Rattle.pe_base.specs.declared.place.Place.{Place}
use Rattle.pe_base.specs.declared.state.State.{State}
use Rattle.pe_base.specs.declared.state.State.TheVariants.{Unrefined}
use Rattle.pe_base.specs.declared.kind.Kind.{Kind}
use Rattle.pe_base.specs.declared.kind.Kind.TheVariants.{Kept, Born, Dying, Hanging}
use Rattle.pe_base.specs.Life.States.{is_old, is_new}
use Rattle.pe_base.specs.Life.Table.{last_touch}
use Rattle.pe_base.specs.Acts.Effects.{VertexRecord, AreLawful}
use Rattle.pe_base.specs.Walk.Course.{done}
use Rattle.pe_base.specs.Walk.Core.{Setting, Family, Own, fresh_vertex, read_vertex, load_touch, store_touch, enter_touch, leave_touch}

-- a vertex of the greatest level, or past it, is unrefined
abbrev pub IsFinest : ℕ → ℕ → State → Type 0
IsFinest greatest level state = greatest ≤ level → state ≡ Unrefined

-- a vertex of a level, of a grid of that greatest level, as far as old and new go
pub record IsAlike (greatest level : ℕ) (before after : VertexRecord) : Type 0 where
  pub kind : after.kind ≡ before.kind
  pub old : is_old after.state ≡ is_old before.state
  pub new : is_new after.state ≡ is_new before.state
  pub finest : IsFinest greatest level before.state → IsFinest greatest level after.state

-- vertices one by one
abbrev pub AreAlike : ℕ → ℕ → List VertexRecord → List VertexRecord → Type 0
AreAlike greatest level [] [] = Unit {0}
AreAlike greatest level [] (after ∷ afters) = ⊥
AreAlike greatest level (before ∷ befores) [] = ⊥
AreAlike greatest level (before ∷ befores) (after ∷ afters) = IsAlike greatest level before after × AreAlike greatest level befores afters

-- what is loaded, before its events
abbrev pub loaded : {Plan : Type 0} → Setting Plan → Kind → Bool → VertexRecord → Place → Family → VertexRecord
loaded set Hanging first found place family = (fresh_vertex set Hanging place family).0
loaded set Born true found place family = (fresh_vertex set Born place family).0
loaded set Kept true found place family = read_vertex set Kept found
loaded set Dying true found place family = read_vertex set Dying found
loaded set kind false found place family = found

-- what is stored stays, unless it hangs, or dies and is stored for the last time
abbrev pub stays : Kind → Bool → Bool
stays Hanging last = false
stays Dying true = false
stays Dying false = true
stays Kept last = true
stays Born last = true

-- the last touch of what stays goes by the state table
abbrev pub stored_as : Kind → Bool → VertexRecord → VertexRecord
stored_as kind true it = record it { state = last_touch it.state kind }
stored_as kind false it = it

-- what a store leaves of a vertex
abbrev pub IsStoredAlike : {Plan : Type 0} → Setting Plan → Bool → Place → VertexRecord → Option VertexRecord → Type 0
IsStoredAlike set last place vertex None = stays vertex.kind last ≡ false
IsStoredAlike set last place vertex (Some it) =
    (stays vertex.kind last ≡ true)
    × (before : VertexRecord) × IsAlike (set.rules.greatest set.plan) place.level vertex before × (it ≡ stored_as vertex.kind last before)

-- the corners of the parent of what is at a place: they are one level above
abbrev pub KeepsParents : {Plan : Type 0} → Setting Plan → Place → List VertexRecord → List VertexRecord → Type 0
KeepsParents set place before after = AreAlike (set.rules.greatest set.plan) (place.level - 1) before after

-- a load keeps what was loaded alike, and so do all moves the corners of the parent, and the cell's own corners
pub record KeepsAlike {Plan : Type 0} (set : Setting Plan) : Type 0 where
  pub loads : (kind : Kind) (first : Bool) (found : VertexRecord) (place : Place) (family : Family) (after : VertexRecord × Family)
      → (load_touch set kind first found place family).ending ≡ done after
      → IsAlike (set.rules.greatest set.plan) place.level (loaded set kind first found place family) after.0 × KeepsParents set place family.parents after.1.parents
  pub stores : (last : Bool) (place : Place) (vertex : VertexRecord) (family : Family) (after : Option VertexRecord × Family)
      → (store_touch set last place vertex family).ending ≡ done after
      → IsStoredAlike set last place vertex after.0 × KeepsParents set place family.parents after.1.parents
  pub enters : (kind : Kind) (found : List ℤ) (place : Place) (corners : List VertexRecord) (family : Family) (after : Own × Family)
      → (enter_touch set kind found place corners family).ending ≡ done after
      → AreAlike (set.rules.greatest set.plan) place.level corners after.0.corners × KeepsParents set place family.parents after.1.parents
  pub leaves : (kind : Kind) (place : Place) (own : Own) (family : Family) (after : Own × Family)
      → (leave_touch set kind place own family).ending ≡ done after
      → AreAlike (set.rules.greatest set.plan) place.level own.corners after.0.corners × KeepsParents set place family.parents after.1.parents

abbrev pub CoreKeeps : Type 0 → Type 0
CoreKeeps Plan = (set : Setting Plan) → AreLawful set.rules → KeepsAlike set
