-- The corners of a cell with a vertex in every slot.
use Rattle.std.proofs.Common.{◌≡◌, ℕ, zero, suc, ◌^◌, ◌<◌, List, [], ◌∷◌, ◌++◌, map, length, get_or, set, replicate, refl, ap, arith, ◌∙◌, Option, None, Some, IsSome, true, false}
use Rattle.std.specs.Prelude.{slice_get}
use Rattle.std.specs.List.{filter_map}
use Rattle.std.proofs.lemmas.List.{length-set}
use Rattle.pe_stacks.specs.Corners.{CornerList, vertex_at, with_vertex, vertices_of, IsFull}

module _ {X : Type 0} where
  -- a vertex in every slot
  abbrev AllFilled : List (Option X) → Type 0
  AllFilled slots = (k : ℕ) → k < length slots → IsSome (get_or slots k None)

  rest_filled : (p : Option X) (ps : List (Option X)) → AllFilled (p ∷ ps) → AllFilled ps
  rest_filled p ps full k inside = full (suc k) (omega arith)

  stay_filled : (slots : List (Option X)) (k j : ℕ) (v : X) → AllFilled slots → j < length slots → IsSome (get_or (set slots k (Some v)) j None)
  stay_filled [] k j v full inside = absurd (omega arith)
  stay_filled (p ∷ ps) zero zero v full inside = refl
  stay_filled (p ∷ ps) zero (suc j) v full inside = full (suc j) inside
  stay_filled (p ∷ ps) (suc k) zero v full inside = full 0 inside
  stay_filled (p ∷ ps) (suc k) (suc j) v full inside = stay_filled ps k j v (rest_filled p ps full) (omega arith)

  there : (slots : List (Option X)) (k : ℕ) (v : X) → AllFilled slots → get_or slots k None ≡ Some v → slice_get (filter_map (λ slot. slot) slots) k ≡ Some v
  there [] k v full is = absurd cc
  there (None ∷ ps) k v full is = let none : false ≡ true = full 0 (omega arith) in absurd cc
  there (Some x ∷ ps) zero v full is = is
  there (Some x ∷ ps) (suc k) v full is = there ps k v (rest_filled (Some x) ps full) is

  replaced : (slots : List (Option X)) (k : ℕ) (v : X) → AllFilled slots → filter_map (λ slot. slot) (set slots k (Some v)) ≡ set (filter_map (λ slot. slot) slots) k v
  replaced [] k v full = refl
  replaced (None ∷ ps) k v full = let none : false ≡ true = full 0 (omega arith) in absurd cc
  replaced (Some x ∷ ps) zero v full = refl
  replaced (Some x ∷ ps) (suc k) v full = ap (λ rest. x ∷ rest) (replaced ps k v (rest_filled (Some x) ps full))

  counted : (slots : List (Option X)) → AllFilled slots → length (filter_map (λ slot. slot) slots) ≡ length slots
  counted [] full = refl
  counted (None ∷ ps) full = let none : false ≡ true = full 0 (omega arith) in absurd cc
  counted (Some x ∷ ps) full = ap suc (counted ps (rest_filled (Some x) ps full))

  all_filled : (axes : ℕ) (corners : CornerList X) → IsFull axes corners → AllFilled corners.slots
  all_filled axes corners full k inside = full.full k (omega (arith, full.count, inside))

  -- the vertex of a corner, among all
  pub vertices_of-full : (axes : ℕ) (corners : CornerList X) (k : ℕ) (v : X) → IsFull axes corners → vertex_at corners k ≡ Some v → slice_get (vertices_of corners) k ≡ Some v
  vertices_of-full axes corners k v full is = there corners.slots k v (all_filled axes corners full) is

  -- there are as many as the cell has corners
  pub length-vertices_of : (axes : ℕ) (corners : CornerList X) → IsFull axes corners → length (vertices_of corners) ≡ 2 ^ axes
  length-vertices_of axes corners full = counted corners.slots (all_filled axes corners full) ∙ full.count

  -- full corners stay full where one vertex is replaced
  pub with_vertex-full : (axes : ℕ) (corners : CornerList X) (k : ℕ) (v : X) → IsFull axes corners → IsFull axes (with_vertex corners k (Some v))
  with_vertex-full axes corners k v full = record {
    dim = full.dim;
    count = length-set corners.slots k (Some v) ∙ full.count;
    full = λ j inside. stay_filled corners.slots k j v (all_filled axes corners full) (omega (arith, full.count, inside));
  }

  -- and the others are as they were
  pub vertices_of-with_vertex : (axes : ℕ) (corners : CornerList X) (k : ℕ) (v : X) → IsFull axes corners → vertices_of (with_vertex corners k (Some v)) ≡ set (vertices_of corners) k v
  vertices_of-with_vertex axes corners k v full = replaced corners.slots k v (all_filled axes corners full)

  -- of corners of which only the last ones are filled, these are there
  pub vertices_of-filled : (k : ℕ) (xs : List X) → filter_map (λ slot. slot) (replicate k None ++ map Some xs) ≡ xs
  vertices_of-filled zero [] = refl
  vertices_of-filled zero (x ∷ xs) = ap (λ rest. x ∷ rest) (vertices_of-filled zero xs)
  vertices_of-filled (suc k) xs = vertices_of-filled k xs
