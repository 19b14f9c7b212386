-- The corners of a cell when each of them is counted: as events see them, and in quads.
use Rattle.std.proofs.Common.{◌≡◌, ℕ, zero, suc, ◌+◌, ◌^◌, List, [], ◌∷◌, map, length, get_or, refl, ap, ◌∙◌, arith, Option, None, Some, IsSome}
use Rattle.std.specs.List.{filter_map}
use Rattle.std.proofs.lemmas.List.{length-map}
use Rattle.pe_base.specs.declared.fields.Fields.{Fields}
use Rattle.pe_stacks.specs.declared.record.Vertex.{Vertex}
use Rattle.pe_stacks.specs.Corners.{CornerList, IsFull}
use Rattle.pe_stacks.specs.declared.quad.Quad.{Quad}
use Rattle.pe_stacks.specs.Quads.{quad_of, set_quad, quad_at, with_quad}
use Rattle.pe_stacks.specs.Sights.{seen_vertex, seen_corners}
use Rattle.bench_walk.specs.Counting.{fields_numbers, counted_vertex}
use Rattle.bench_walk.specs.Slots.{counted_slot, counted_quad, counted_corners}

seen-slots : (slots : List (Option (Vertex Fields))) → map (seen_vertex fields_numbers.vertex) (filter_map (λ slot. slot) (map counted_slot slots)) ≡ map counted_vertex (map (seen_vertex fields_numbers.vertex) (filter_map (λ slot. slot) slots))
seen-slots [] = refl
seen-slots (None ∷ slots) = seen-slots slots
seen-slots (Some vertex ∷ slots) = ap (λ rest. counted_vertex (seen_vertex fields_numbers.vertex vertex) ∷ rest) (seen-slots slots)

-- they are seen as counted
pub seen_counted : (corners : CornerList (Vertex Fields)) → seen_corners fields_numbers.vertex (counted_corners corners) ≡ map counted_vertex (seen_corners fields_numbers.vertex corners)
seen_counted corners = seen-slots corners.slots

still : (slots : List (Option (Vertex Fields))) (k : ℕ) → IsSome (get_or slots k None) → IsSome (get_or (map counted_slot slots) k None)
still [] k full = full
still (None ∷ slots) zero full = full
still (Some vertex ∷ slots) zero full = refl
still (slot ∷ slots) (suc k) full = still slots k full

-- they stay full
pub full_counted : (axes : ℕ) (corners : CornerList (Vertex Fields)) → IsFull axes corners → IsFull axes (counted_corners corners)
full_counted axes corners full = record {
  dim = full.dim;
  count = length-map corners.slots counted_slot ∙ full.count;
  full = λ k inside. still corners.slots k (full.full k inside);
}

-- a list that begins with four
record Four {X : Type 0} (more : ℕ) (xs : List X) : Type 0 where
  a : X
  b : X
  c : X
  d : X
  rest : List X
  is : xs ≡ a ∷ b ∷ c ∷ d ∷ rest
  left : length rest ≡ more

four : {X : Type 0} (more : ℕ) (xs : List X) → length xs ≡ more + 4 → Four more xs
four more [] count = absurd (omega arith)
four more (a ∷ []) count = absurd (omega arith)
four more (a ∷ b ∷ []) count = absurd (omega arith)
four more (a ∷ b ∷ c ∷ []) count = absurd (omega arith)
four more (a ∷ b ∷ c ∷ d ∷ rest) count = record { a = a; b = b; c = c; d = d; rest = rest; is = refl; left = omega arith }

none_left : {X : Type 0} (xs : List X) → length xs ≡ 0 → xs ≡ []
none_left [] count = refl
none_left (x ∷ xs) count = absurd (omega arith)

-- a quad after another
abbrev pub with_counted : List (Option (Vertex Fields)) → ℕ → List (Option (Vertex Fields))
with_counted slots q = set_quad slots q (counted_quad (quad_of slots q))

pub sixteen_counted : (slots : List (Option (Vertex Fields))) → length slots ≡ 16 → with_counted (with_counted (with_counted (with_counted slots 0) 1) 2) 3 ≡ map counted_slot slots
sixteen_counted slots count =
    let p = four 12 slots count in
    let q = four 8 p.rest p.left in
    let r = four 4 q.rest q.left in
    let s = four 0 r.rest r.left in
    rw (p.is, q.is, r.is, s.is, none_left s.rest s.left) refl

-- the quads of sixteen, counted one after another
pub sixteen_by : (corners : CornerList (Vertex Fields)) (axes : ℕ) (a b c d : Quad (Vertex Fields)) → IsFull axes corners → axes ≡ 4 → a ≡ counted_quad (quad_at corners 0) → b ≡ counted_quad (quad_at (with_quad corners 0 a) 1)
    → c ≡ counted_quad (quad_at (with_quad (with_quad corners 0 a) 1 b) 2) → d ≡ counted_quad (quad_at (with_quad (with_quad (with_quad corners 0 a) 1 b) 2 c) 3)
    → with_quad (with_quad (with_quad (with_quad corners 0 a) 1 b) 2 c) 3 d ≡ counted_corners corners
sixteen_by corners axes a b c d full same first second third fourth =
    rw (fourth, third, second, first) (ap (λ slots. record corners { slots = slots }) (sixteen_counted corners.slots (full.count ∙ ap (λ n. 2 ^ n) same)))
