-- The kinds that ages give stay, where the ages of the parent's corners stay.
use Rattle.std.proofs.Common.{◌≡◌, ℕ, List, Option, Some, None, refl, sym, ap, subst, ◌∙◌}
use Rattle.std.specs.Prelude.{slice_get, Bool, false, ◌==◌, if◌then◌else◌}
use Rattle.std.specs.Option.{option_map}
use Rattle.std.proofs.lemmas.Option.{slice_get-map}
use Rattle.pe_base.specs.declared.place.Place.{Place}
use Rattle.pe_base.specs.Tree.Places.{corner, parent_of}
use Rattle.pe_base.specs.Life.States.{is_old, is_new}
use Rattle.pe_base.specs.Life.Kinds.{kind_from, level_one_kind}
use Rattle.pe_base.specs.Life.Carriers.{passes, is_carried, kind_by, carriers}
use Rattle.pe_base.specs.Acts.Effects.{VertexRecord}
use Rattle.pe_hang.specs.InHand.{ages_of}
use Rattle.pe_adapt.specs.Ages.{GiveKinds}
use Rattle.pe_adapt.specs.Touches.{state_in_hand, corner_number}
use Rattle.pe_base.proofs.Tests.{any_same}

abbrev is_first : Option (Bool × Bool) → Bool
is_first None = false
is_first (Some ages) = ages.0

abbrev is_second : Option (Bool × Bool) → Bool
is_second None = false
is_second (Some ages) = ages.1

abbrev age_of : VertexRecord → Bool × Bool
age_of it = (is_old it.state, is_new it.state)

old-aged : (it : Option VertexRecord) → passes is_old (option_map (λ it. it.state) it) ≡ is_first (option_map age_of it)
old-aged None = refl
old-aged (Some it) = refl

new-aged : (it : Option VertexRecord) → passes is_new (option_map (λ it. it.state) it) ≡ is_second (option_map age_of it)
new-aged None = refl
new-aged (Some it) = refl

module _ (its its' : List VertexRecord) (same : ages_of its' ≡ ages_of its) where
  at-same : (n : ℕ) → option_map age_of (slice_get its' n) ≡ option_map age_of (slice_get its n)
  at-same n = sym (slice_get-map age_of its' n) ∙ ap (λ ages. slice_get ages n) same ∙ slice_get-map age_of its n

  old-same : (n : ℕ) → passes is_old (option_map (λ it. it.state) (slice_get its' n)) ≡ passes is_old (option_map (λ it. it.state) (slice_get its n))
  old-same n = old-aged (slice_get its' n) ∙ ap is_first (at-same n) ∙ sym (old-aged (slice_get its n))

  new-same : (n : ℕ) → passes is_new (option_map (λ it. it.state) (slice_get its' n)) ≡ passes is_new (option_map (λ it. it.state) (slice_get its n))
  new-same n = new-aged (slice_get its' n) ∙ ap is_second (at-same n) ∙ sym (new-aged (slice_get its n))

  kind-same : (axes traversal : ℕ) (parent vertex : Place) → kind_by axes traversal (state_in_hand parent its') vertex ≡ kind_by axes traversal (state_in_hand parent its) vertex
  kind-same axes traversal parent vertex =
      let old = any_same (λ carrier. passes is_old (state_in_hand parent its' carrier)) (λ carrier. passes is_old (state_in_hand parent its carrier)) (λ carrier. old-same (corner_number parent carrier)) (carriers vertex) in
      let new = any_same (λ carrier. passes is_new (state_in_hand parent its' carrier)) (λ carrier. passes is_new (state_in_hand parent its carrier)) (λ carrier. new-same (corner_number parent carrier)) (carriers vertex) in
      ap (λ o. if vertex.level == 1 then level_one_kind axes traversal vertex else kind_from o (is_carried is_new (state_in_hand parent its') vertex)) old
      ∙ ap (λ n. if vertex.level == 1 then level_one_kind axes traversal vertex else kind_from (is_carried is_old (state_in_hand parent its) vertex) n) new

  pub kinds-kept : (axes axes' traversal : ℕ) (place : Place) (ages : ℕ) → axes' ≡ axes → GiveKinds axes traversal place its ages → GiveKinds axes' traversal place its' ages
  kinds-kept axes axes' traversal place ages dims gives =
      subst (λ a. GiveKinds a traversal place its' ages) (sym dims)
      (λ n below. gives n below ∙ sym (kind-same axes traversal (parent_of place) (corner axes place n)))
