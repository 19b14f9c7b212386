-- Events that meet the law of effects, for those who write a mapping.
use Rattle.std.proofs.Common.{◌≡◌, ℕ, ℤ, ◌-◌, List, [], ◌∷◌, Option, Some, None, refl, subst, inl}
use Rattle.pe_base.specs.declared.event.Event.{Event}
use Rattle.pe_base.specs.Acts.Effects.{SeenVertex, Seen, Rules, IsTriggered, AreTriggered, IsTriggeredIfAny, AreBoth, MayLeave, AreLawful}

-- a vertex that stays
pub triggered_same : (greatest level : ℕ) (vertex : SeenVertex) → IsTriggered greatest level vertex vertex
triggered_same greatest level vertex = record { kind = refl; state = inl refl }

pub all_triggered_same : (greatest level : ℕ) (vertices : List SeenVertex) → AreTriggered greatest level vertices vertices
all_triggered_same greatest level [] = tt
all_triggered_same greatest level (vertex ∷ vertices) = (triggered_same greatest level vertex, all_triggered_same greatest level vertices)

pub any_triggered_same : (greatest level : ℕ) (vertex : Option SeenVertex) → IsTriggeredIfAny greatest level vertex vertex
any_triggered_same greatest level None = tt
any_triggered_same greatest level (Some vertex) = triggered_same greatest level vertex

pub both_same : {X : Type 0} (x : Option X) → AreBoth x x
both_same None = tt
both_same (Some x) = tt

-- an event that changes nothing
pub leaves_same : (greatest : ℕ) (seen : Seen) → MayLeave greatest seen seen
leaves_same greatest seen = record {
  place = refl;
  vertex = any_triggered_same greatest seen.place.level seen.vertex;
  cell = both_same seen.cell;
  corners = all_triggered_same greatest seen.place.level seen.corners;
  parents = all_triggered_same greatest (seen.place.level - 1) seen.parents;
}

-- what is left as a lawful effect says
pub leaves_outcome : {Plan : Type 0} (rules : Rules Plan) → AreLawful rules → (plan : Plan) (event : Event) (traversal : ℕ) (list : List ℤ) (before after : Seen)
    → (rules.effect plan event traversal list before).seen ≡ after → MayLeave (rules.greatest plan) before after
leaves_outcome rules lawful plan event traversal list before after is = subst (MayLeave (rules.greatest plan) before) is (lawful.effect plan event traversal list before)
