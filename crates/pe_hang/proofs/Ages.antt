-- No event changes whether a vertex is old or new.
use Rattle.std.proofs.Common.{◌≡◌, ℕ, ℤ, Bool, true, false, ◌&&◌, List, [], ◌∷◌, map, inl, inr, refl, sym, ap, ◌∙◌}
use Rattle.std.specs.Prelude.{if◌then◌else◌, nat_lt}
use Rattle.std.proofs.lemmas.Simd.{map-map}
use Rattle.pe_base.specs.declared.state.State.{State}
use Rattle.pe_base.specs.declared.state.State.TheVariants.{Unrefined, RefinementTriggered, Refining, Refined, EraseTriggered, Erasing}
use Rattle.pe_base.specs.declared.kind.Kind.{Kind}
use Rattle.pe_base.specs.declared.kind.Kind.TheVariants.{Kept, Born, Dying, Hanging}
use Rattle.pe_base.specs.Life.States.{is_old, is_new, is_stored, refined_state, erased_state}
use Rattle.pe_base.specs.Acts.Effects.{SeenVertex, VertexRecord, IsTriggered, MayBecome, AreTriggered}
use Rattle.pe_stacks.specs.declared.record.Vertex.{Vertex}
use Rattle.pe_stacks.specs.Corners.{CornerList, vertices_of}
use Rattle.pe_stacks.specs.Sights.{record_of, corner_records, seen_vertex, seen_corners}
use Rattle.pe_hang.specs.InHand.{ages_of}

abbrev age : State → Bool × Bool
age state = (is_old state, is_new state)

age-either : (test : Bool) → age (if test then RefinementTriggered else Unrefined) ≡ age Unrefined
age-either true = refl
age-either false = refl

age-refined : (level greatest : ℕ) (kind : Kind) (state : State) → age (refined_state level greatest kind state) ≡ age state
age-refined level greatest kind Unrefined = age-either (is_stored kind && nat_lt level greatest)
age-refined level greatest kind RefinementTriggered = refl
age-refined level greatest kind Refining = refl
age-refined level greatest kind Refined = refl
age-refined level greatest kind EraseTriggered = refl
age-refined level greatest kind Erasing = refl

age-erased : (kind : Kind) (state : State) → age (erased_state kind state) ≡ age state
age-erased Kept Unrefined = refl
age-erased Kept RefinementTriggered = refl
age-erased Kept Refining = refl
age-erased Kept Refined = refl
age-erased Kept EraseTriggered = refl
age-erased Kept Erasing = refl
age-erased Born state = refl
age-erased Dying state = refl
age-erased Hanging state = refl

age-may : (greatest level : ℕ) (kind : Kind) (before after : State) → MayBecome greatest level kind before after → age after ≡ age before
age-may greatest level kind before after may = elim may [
  | inl same ↦ ap age same
  | inr other ↦ elim other [
    | inl refined ↦ ap age refined ∙ age-refined level greatest kind before
    | inr erased ↦ ap age erased ∙ age-erased kind before
  ]
]

-- of one vertex
age-triggered : (greatest level : ℕ) (before after : SeenVertex) → IsTriggered greatest level before after → age after.state ≡ age before.state
age-triggered greatest level before after is = age-may greatest level before.kind before.state after.state is.state

-- of several
abbrev seen_ages : List SeenVertex → List (Bool × Bool)
seen_ages its = map (λ it. (is_old it.state, is_new it.state)) its

all-triggered : (greatest level : ℕ) (before after : List SeenVertex) → AreTriggered greatest level before after → seen_ages after ≡ seen_ages before
all-triggered greatest level [] [] are = refl
all-triggered greatest level [] (after ∷ afters) are = absurd are
all-triggered greatest level (before ∷ befores) [] are = absurd are
all-triggered greatest level (before ∷ befores) (after ∷ afters) are =
    ap (λ m. m ∷ seen_ages afters) (age-triggered greatest level before after are.0)
    ∙ ap (λ ms. age before.state ∷ ms) (all-triggered greatest level befores afters are.1)

module _ {V : Type 0} (numbers : V → List ℤ) where
  same_ages : (corners : CornerList (Vertex V)) → ages_of (corner_records numbers corners) ≡ seen_ages (seen_corners numbers corners)
  same_ages corners =
      map-map (λ (it : VertexRecord). (is_old it.state, is_new it.state)) (record_of numbers) (vertices_of corners)
      ∙ sym (map-map (λ (it : SeenVertex). (is_old it.state, is_new it.state)) (seen_vertex numbers) (vertices_of corners))

  pub ages_triggered : (greatest level : ℕ) (before after : CornerList (Vertex V)) → AreTriggered greatest level (seen_corners numbers before) (seen_corners numbers after)
      → ages_of (corner_records numbers after) ≡ ages_of (corner_records numbers before)
  ages_triggered greatest level before after are =
      same_ages after ∙ all-triggered greatest level (seen_corners numbers before) (seen_corners numbers after) are ∙ sym (same_ages before)
