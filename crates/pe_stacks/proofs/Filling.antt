-- Corners of which the last ones are full, after one more is put or taken.
use Rattle.std.proofs.Common.{◌≡◌, ℕ, zero, suc, ◌+◌, ◌^◌, ◌<◌, List, [], ◌∷◌, ◌++◌, map, length, get_or, set, replicate, Option, Some, None, IsSome, true, false, refl, sym, ap, subst, ◌∙◌, add-one, rules, arith}
use Rattle.std.specs.List.{filter_map}
use Rattle.std.proofs.lemmas.List.{append-nil, length-map}
use Rattle.pe_stacks.specs.Corners.{CornerList, no_vertices, vertex_at, with_vertex, vertices_of, IsFull}
use Rattle.pe_stacks.proofs.FullCorners.{vertices_of-filled, length-vertices_of}
use Rattle.pe_stacks.specs.Filled.{FullFrom}

module _ {X : Type 0} where
  abbrev slots : ℕ → List X → List (Option X)
  slots k vs = replicate k None ++ map Some vs

  abbrev corners_of : ℕ → List (Option X) → CornerList X
  corners_of axes list = record { dim = axes; slots = list }

  put_at : (k : ℕ) (v : X) (vs : List X) → set (slots (suc k) vs) k (Some v) ≡ slots k (v ∷ vs)
  put_at zero v vs = refl
  put_at (suc k) v vs = ap (λ rest. None ∷ rest) (put_at k v vs)

  take_at : (k : ℕ) (v : X) (vs : List X) → set (slots k (v ∷ vs)) k None ≡ slots (suc k) vs
  take_at zero v vs = refl
  take_at (suc k) v vs = ap (λ rest. None ∷ rest) (take_at k v vs)

  none_at : (k : ℕ) (vs : List X) → get_or (slots (suc k) vs) k None ≡ None
  none_at zero vs = refl
  none_at (suc k) vs = none_at k vs

  some_at : (k : ℕ) (v : X) (vs : List X) → get_or (slots k (v ∷ vs)) k None ≡ Some v
  some_at zero v vs = refl
  some_at (suc k) v vs = some_at k v vs

  pub full_start : (axes : ℕ) (corners : CornerList X) → corners ≡ no_vertices axes → FullFrom axes (2 ^ axes) corners
  full_start axes corners is = record {
    vertices = [];
    slots = is ∙ ap (corners_of axes) (sym (append-nil (replicate (2 ^ axes) None)));
    count = omega arith;
  }

  pub full_end : (axes k : ℕ) (corners : CornerList X) → k ≡ 2 ^ axes → FullFrom axes k corners → corners ≡ no_vertices corners.dim
  full_end axes k corners all full = go full.vertices full.slots full.count
    where
      go : (vs : List X) → corners ≡ corners_of axes (slots k vs) → k + length vs ≡ 2 ^ axes → corners ≡ no_vertices corners.dim
      go [] is count = is ∙ ap (corners_of axes) (append-nil (replicate k None) ∙ ap (λ n. replicate n None) all) ∙ ap no_vertices (sym (ap (λ (c : CornerList X). c.dim) is))
      go (v ∷ vs) is count = absurd (omega arith)

  pub full_put : (axes k : ℕ) (v : X) (corners corners' : CornerList X) → corners' ≡ with_vertex corners k (Some v) → FullFrom axes (k + 1) corners → FullFrom axes k corners'
  full_put axes k v corners corners' is full = record {
    vertices = v ∷ full.vertices;
    slots = is ∙ ap (λ (c : CornerList X). with_vertex c k (Some v)) full.slots ∙ ap (corners_of axes) (ap (λ n. set (slots n full.vertices) k (Some v)) (add-one k) ∙ put_at k v full.vertices);
    count = omega (arith, full.count);
  }

  pub empty_below : (axes k : ℕ) (corners : CornerList X) → FullFrom axes (k + 1) corners → vertex_at corners k ≡ None
  empty_below axes k corners full = ap (λ (c : CornerList X). vertex_at c k) full.slots ∙ ap (λ n. get_or (slots n full.vertices) k None) (add-one k) ∙ none_at k full.vertices

  pub full_take : (axes k : ℕ) (corners corners' : CornerList X) → k < 2 ^ axes → corners' ≡ with_vertex corners k None → FullFrom axes k corners → FullFrom axes (k + 1) corners'
  full_take axes k corners corners' inside is full = go full.vertices full.slots full.count
    where
      go : (vs : List X) → corners ≡ corners_of axes (slots k vs) → k + length vs ≡ 2 ^ axes → FullFrom axes (k + 1) corners'
      go [] same count = absurd (omega arith)
      go (v ∷ vs) same count = record {
        vertices = vs;
        slots = is ∙ ap (λ (c : CornerList X). with_vertex c k None) same ∙ ap (corners_of axes) (take_at k v vs ∙ ap (λ n. slots n vs) (sym (add-one k)));
        count = omega (arith, count);
      }

  pub full_here : (axes k : ℕ) (corners : CornerList X) → k < 2 ^ axes → FullFrom axes k corners → IsSome (vertex_at corners k)
  full_here axes k corners inside full = go full.vertices full.slots full.count
    where
      go : (vs : List X) → corners ≡ corners_of axes (slots k vs) → k + length vs ≡ 2 ^ axes → IsSome (vertex_at corners k)
      go [] same count = absurd (omega arith)
      go (v ∷ vs) same count = subst IsSome (sym (ap (λ (c : CornerList X). vertex_at c k) same ∙ some_at k v vs)) (search rules)

  -- the vertices that are there
  pub full_seen : (axes k : ℕ) (corners : CornerList X) → (full : FullFrom axes k corners) → vertices_of corners ≡ full.vertices
  full_seen axes k corners full = ap vertices_of full.slots ∙ vertices_of-filled k full.vertices

  -- all are there
  there_at : (vs : List X) (k : ℕ) → k < length vs → IsSome (get_or (map Some vs) k None)
  there_at [] k inside = absurd (omega arith)
  there_at (v ∷ vs) zero inside = refl
  there_at (v ∷ vs) (suc k) inside = there_at vs k (omega arith)

  pub full_all : (axes : ℕ) (corners : CornerList X) → FullFrom axes 0 corners → IsFull axes corners
  full_all axes corners full = record {
    dim = ap (λ (c : CornerList X). c.dim) full.slots;
    count = ap (λ (c : CornerList X). length c.slots) full.slots ∙ length-map full.vertices Some ∙ omega (arith, full.count);
    full = λ k inside. subst IsSome (sym (ap (λ (c : CornerList X). vertex_at c k) full.slots)) (there_at full.vertices k (omega (arith, full.count)));
  }

  all_there : (list : List (Option X)) → ((k : ℕ) → k < length list → IsSome (get_or list k None)) → list ≡ map Some (filter_map (λ slot. slot) list)
  all_there [] each = refl
  all_there (None ∷ list) each = absurd (let none : false ≡ true = each 0 (omega arith) in cc)
  all_there (Some v ∷ list) each = ap (λ rest. Some v ∷ rest) (all_there list (λ k inside. each (suc k) (omega arith)))

  pub full_from : (axes : ℕ) (corners : CornerList X) → IsFull axes corners → FullFrom axes 0 corners
  full_from axes corners full = record {
    vertices = vertices_of corners;
    slots = ap (corners_of corners.dim) (all_there corners.slots (λ k inside. full.full k (omega (arith, full.count)))) ∙ ap (λ d. corners_of d (map Some (vertices_of corners))) full.dim;
    count = (let all = length-vertices_of axes corners full in omega (arith, all));
  }

  -- after one is put before those that are there
  pub seen_put : (axes k : ℕ) (v : X) (corners corners' : CornerList X) → corners' ≡ with_vertex corners k (Some v) → FullFrom axes (k + 1) corners → vertices_of corners' ≡ v ∷ vertices_of corners
  seen_put axes k v corners corners' is full =
      ap vertices_of (is ∙ ap (λ (c : CornerList X). with_vertex c k (Some v)) full.slots ∙ ap (corners_of axes) (ap (λ n. set (slots n full.vertices) k (Some v)) (add-one k) ∙ put_at k v full.vertices))
      ∙ vertices_of-filled k (v ∷ full.vertices)
      ∙ ap (λ vs. v ∷ vs) (sym (full_seen axes (k + 1) corners full))

  -- of none that is there nothing is seen
  pub seen_none : (axes : ℕ) (corners : CornerList X) → corners ≡ no_vertices axes → vertices_of corners ≡ []
  seen_none axes corners is = full_seen axes (2 ^ axes) corners (record { vertices = []; slots = is ∙ ap (corners_of axes) (sym (append-nil (replicate (2 ^ axes) None))); count = omega arith })
