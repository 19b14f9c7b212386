-- The corners of a cell in their slots: all, some, the last ones or none.
use Rattle.std.proofs.Common.{◌≡◌, ℕ, ℤ, zero, suc, ◌^◌, ◌<◌, ◌≤◌, true, false, List, [], ◌∷◌, ◌++◌, map, length, get_or, set, replicate, Option, Some, None, IsSome, refl, sym, ap, ◌∙◌, arith}
use Rattle.std.specs.Prelude.{sum_by}
use Rattle.std.specs.List.{filter_map}
use Rattle.std.proofs.lemmas.List.{set-set, set-get_or}
use Rattle.std.proofs.lemmas.List.Sums.{sum_by-cons}
use Rattle.pe_stacks.specs.declared.record.Vertex.{Vertex}
use Rattle.pe_stacks.specs.Corners.{CornerList, vertex_at, with_vertex, vertices_of, no_vertices, IsFull}
use Rattle.pe_stacks.specs.Filled.{FullFrom}
use Rattle.pe_stacks.proofs.Filling.{full_take, seen_put}
use Rattle.pe_stacks.specs.Sights.{record_of, corner_records}
use Rattle.pe_adapt.specs.Slots.{seen_slot}
use Rattle.pe_adapt.specs.TouchCalls.{filled_in}
use Rattle.pe_walk.specs.Corners.{filled_in_corners, seen_slots, AreOf}

-- # Slots
module _ {X : Type 0} where
  filled-one : (slot : Option X) → filled_in slot ≤ 1
  filled-one None = omega arith
  filled-one (Some x) = omega arith

  pub filled-most : (slots : List (Option X)) → sum_by filled_in slots ≤ length slots
  filled-most [] = omega arith
  filled-most (slot ∷ slots) = omega (arith, filled-one slot, filled-most slots, sum_by-cons filled_in slot slots)

  -- as many filled as there are: each is
  full-at : (slots : List (Option X)) → sum_by filled_in slots ≡ length slots → (k : ℕ) → k < length slots → IsSome (get_or slots k None)
  full-at [] all k below = absurd (omega arith)
  full-at (None ∷ slots) all k below = absurd (omega (arith, filled-most slots, sum_by-cons filled_in None slots))
  full-at (Some x ∷ slots) all zero below = refl
  full-at (Some x ∷ slots) all (suc k) below = full-at slots (omega (arith, sum_by-cons filled_in (Some x) slots)) k (omega arith)

  pub full-of : (axes : ℕ) (corners : CornerList X) → AreOf axes corners → filled_in_corners corners ≡ 2 ^ axes → IsFull axes corners
  full-of axes corners are all = record {
    dim = are.dim;
    count = are.count;
    full = λ k below. full-at corners.slots (all ∙ sym are.count) k (omega (arith, are.count));
  }

  filled-all : (slots : List (Option X)) → ((k : ℕ) → k < length slots → IsSome (get_or slots k None)) → sum_by filled_in slots ≡ length slots
  filled-all [] full = refl
  filled-all (None ∷ slots) full = let none : false ≡ true = full 0 (omega arith) in absurd cc
  filled-all (Some x ∷ slots) full = let rest = filled-all slots (λ k below. full (suc k) (omega arith)) in omega (arith, rest, sum_by-cons filled_in (Some x) slots)

  pub of-full : (axes : ℕ) (corners : CornerList X) → IsFull axes corners → filled_in_corners corners ≡ 2 ^ axes
  of-full axes corners full = filled-all corners.slots (λ k below. full.full k (omega (arith, full.count))) ∙ full.count

  pub are-of : (axes : ℕ) (corners : CornerList X) → IsFull axes corners → AreOf axes corners
  are-of axes corners full = record { dim = full.dim; count = full.count }

  -- none filled: all are empty
  empty-all : (slots : List (Option X)) → sum_by filled_in slots ≡ 0 → slots ≡ replicate (length slots) None
  empty-all [] none = refl
  empty-all (None ∷ slots) none = ap (λ rest. None ∷ rest) (empty-all slots (omega (arith, sum_by-cons filled_in None slots)))
  empty-all (Some x ∷ slots) none = absurd (omega (arith, sum_by-cons filled_in (Some x) slots))

  abbrev corners_of : ℕ → List (Option X) → CornerList X
  corners_of axes slots = record { dim = axes; slots = slots }

  pub empty-of : (axes : ℕ) (corners : CornerList X) → AreOf axes corners → filled_in_corners corners ≡ 0 → corners ≡ no_vertices axes
  empty-of axes corners are none =
      ap (λ slots. corners_of corners.dim slots) (empty-all corners.slots none ∙ ap (λ n. replicate n None) are.count)
      ∙ ap (λ n. corners_of n (replicate (2 ^ axes) None)) are.dim

module _ {V : Type 0} (numbers : V → List ℤ) where
  -- full corners are seen slot by slot
  seen-full : (slots : List (Option (Vertex V))) → sum_by filled_in slots ≡ length slots → map (record_of numbers) (filter_map (λ slot. slot) slots) ≡ map (seen_slot numbers) slots
  seen-full [] all = refl
  seen-full (None ∷ slots) all = absurd (omega (arith, filled-most slots, sum_by-cons filled_in None slots))
  seen-full (Some v ∷ slots) all = ap (λ rest. record_of numbers v ∷ rest) (seen-full slots (omega (arith, sum_by-cons filled_in (Some v) slots)))

  pub seen_corners-full : (axes : ℕ) (corners : CornerList (Vertex V)) → AreOf axes corners → filled_in_corners corners ≡ 2 ^ axes → corner_records numbers corners ≡ seen_slots numbers corners
  seen_corners-full axes corners are all = seen-full corners.slots (all ∙ sym are.count)

-- # Corners that are given up
module _ {X : Type 0} where
  filled-none : (slots : List (Option X)) → ((k : ℕ) → k < length slots → get_or slots k None ≡ None) → sum_by filled_in slots ≡ 0
  filled-none [] none = refl
  filled-none (slot ∷ slots) none =
      let rest = filled-none slots (λ k below. none (suc k) (omega arith)) in
      let first = ap filled_in (none 0 (omega arith)) in
      omega (arith, rest, first, sum_by-cons filled_in slot slots)

  -- all are given up
  pub none-left : (axes n : ℕ) (corners : CornerList X) → AreOf axes corners → n ≡ 2 ^ axes → ((k : ℕ) → k < n → vertex_at corners k ≡ None) → filled_in_corners corners ≡ 0
  none-left axes n corners are end none = filled-none corners.slots (λ k below. none k (omega (arith, below, are.count, end)))

-- # Corners of which the last ones are there
module _ {X : Type 0} where
  filled-behind : (k : ℕ) (vs : List X) → sum_by filled_in (replicate k None ++ map Some vs) ≡ length vs
  filled-behind zero [] = refl
  filled-behind zero (v ∷ vs) = omega (arith, filled-behind zero vs, sum_by-cons filled_in (Some v) (map Some vs))
  filled-behind (suc k) vs = omega (arith, filled-behind k vs, sum_by-cons filled_in None (replicate k None ++ map Some vs))

  pub filled-last : (axes k : ℕ) (corners : CornerList X) → (last : FullFrom axes k corners) → filled_in_corners corners ≡ length last.vertices
  filled-last axes k corners last = ap (λ (c : CornerList X). filled_in_corners c) last.slots ∙ filled-behind k last.vertices

  -- the vertex of a full slot, and that slot empty
  pub seen-take : (axes k : ℕ) (v : X) (corners : CornerList X) → k < 2 ^ axes → FullFrom axes k corners → vertex_at corners k ≡ Some v → vertices_of corners ≡ v ∷ vertices_of (with_vertex corners k None)
  seen-take axes k v corners inside last is =
      let xs = corners.slots in
      let back : set (set xs k None) k (Some v) ≡ xs = set-set xs k None (Some v) ∙ ap (λ slot. set xs k slot) (sym is) ∙ set-get_or xs k None in
      seen_put axes k v (with_vertex corners k None) corners (ap (λ (slots : List (Option X)). record corners { slots = slots }) (sym back))
      (full_take axes k corners (with_vertex corners k None) inside refl last)
