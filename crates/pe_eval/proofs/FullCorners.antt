-- Corners of which all are there: what is seen of them when one is read or changed.
use Rattle.std.proofs.Common.{◌≡◌, ◌∙◌, ℕ, map, ap, sym, subst, slice_get, slice_set, Some}
use Rattle.std.specs.Prelude.{option_map}
use Rattle.std.specs.Option.{option_map_or}
use Rattle.std.proofs.lemmas.List.{map-set}
use Rattle.std.proofs.lemmas.Option.{slice_get-map}
use Rattle.pe_stacks.specs.Corners.{CornerList, vertices_of, vertex_at, with_vertex, IsFull}
use Rattle.pe_stacks.proofs.FullCorners.{vertices_of-full, vertices_of-with_vertex}
use Rattle.pe_eval.specs.Meaning.{changed_at}

module _ {X : Type 0} where
  -- full corners are so for their own dimension
  pub own_full : (axes : ℕ) (corners : CornerList X) → IsFull axes corners → IsFull corners.dim corners
  own_full axes corners full = let P : ℕ → Type 0 = λ n. IsFull n corners in subst P (sym full.dim) full

  module _ {Y : Type 0} (see : X → Y) where
    -- what is seen of a vertex in its place
    pub seen_there : (axes : ℕ) (corners : CornerList X) (k : ℕ) (x : X) → IsFull axes corners → vertex_at corners k ≡ Some x → slice_get (map see (vertices_of corners)) k ≡ Some (see x)
    seen_there axes corners k x full is = slice_get-map see (vertices_of corners) k ∙ ap (option_map see) (vertices_of-full axes corners k x full is)

    -- what is seen of them changes at that number alone
    pub seen_changed : (change : Y → Y) (axes : ℕ) (corners : CornerList X) (k : ℕ) (x w : X) → IsFull axes corners → vertex_at corners k ≡ Some x → see w ≡ change (see x)
        → map see (vertices_of (with_vertex corners k (Some w))) ≡ changed_at k change (map see (vertices_of corners))
    seen_changed change axes corners k x w full is seen =
        ap (map see) (vertices_of-with_vertex axes corners k w full)
        ∙ map-set see (vertices_of corners) k w
        ∙ ap (slice_set (map see (vertices_of corners)) k) seen
        ∙ sym (ap (λ it. option_map_or (λ y. slice_set (map see (vertices_of corners)) k (change y)) it (map see (vertices_of corners)))
        (seen_there axes corners k x full is))
