-- A name that is resolved fits its event.
use Rattle.std.proofs.Common.{◌≡◌, subst, ℕ, ◌+◌, ◌<◌, ◌^◌, List, [], ◌∷◌, length, refl, arith, Option, Some, None, Bool, true, false, cond, ◌&&◌, nat_lt, IsTrue}
use Rattle.std.proofs.lemmas.Bool.Decides.{nat_tests}
use Rattle.std.specs.Prelude.{option_map, codes}
use Rattle.std.specs.List.{position_from}
use Rattle.std.specs.Str.{bytes_eq}
use Rattle.pe_check.specs.declared.checked.VertexName.{VertexName}
use Rattle.pe_check.specs.declared.checked.VertexName.TheVariants.{Own, Corner, ParentCorner}
use Rattle.pe_check.specs.declared.checked.Slot.{Slot}
use Rattle.pe_check.specs.declared.checked.Slot.TheVariants as slot
use Rattle.pe_check.specs.declared.checked.Name.{Name}
use Rattle.pe_check.specs.declared.checked.Name.TheVariants as name
use Rattle.pe_check.specs.declared.head.Head.{Head}
use Rattle.pe_check.specs.declared.head.Head.TheVariants.{Traversal, Global, Level, Axis, Vertex, Cell, Parent}
use Rattle.pe_check.specs.Fits.{name_fits, vertex_fits}
use Rattle.pe_check.specs.Table.{is_here, has_corner, is_within}
use Rattle.pe_check.specs.Resolving.{Context, reach_in, field_of, slot_named, of_vertex, behind}

-- what is found is within the list
position_from-within : (test : List ℕ → Bool) (k : ℕ) (xs : List (List ℕ)) (i : ℕ) → position_from test k xs ≡ Some i → i < k + length xs
position_from-within test k [] i is = absurd (cc is)
position_from-within test k (x ∷ xs) i is = by_test (test x) is (position_from-within test (k + 1) xs i)
  where
    by_test : (b : Bool) → cond b (Some k) (position_from test (k + 1) xs) ≡ Some i → (position_from test (k + 1) xs ≡ Some i → i < (k + 1) + length xs) → i < k + length (x ∷ xs)
    by_test true found later = let same : k ≡ i = cc found in omega arith
    by_test false found later = omega (arith, later found)

both : (a b : Bool) → IsTrue a → IsTrue b → IsTrue (a && b)
both true b h k = k
both false b h k = h

below : (i n : ℕ) → i < n → IsTrue (nat_lt i n)
below i n lt = grind (arith, nat_tests)

-- a field that is found is one of its kind
slot_found : (make : ℕ → Slot) (fields : List (List ℕ)) (word : List ℕ) (it : Name) (P : Name → Bool) → ((i : ℕ) → i < length fields → IsTrue (P (name.Slot (make i)))) → slot_named make fields word ≡ Some it → IsTrue (P it)
slot_found make fields word it P each is = by_place (field_of fields word) refl is
  where
    by_place : (place : Option ℕ) → field_of fields word ≡ place → option_map (λ field. name.Slot (make field)) place ≡ Some it → IsTrue (P it)
    by_place None at found = absurd (cc found)
    by_place (Some i) at found =
        let Q : Name → Type 0 = λ n. IsTrue (P n) in
        let same : name.Slot (make i) ≡ it = cc found in
        subst Q same (each i (omega (arith, position_from-within (λ field. bytes_eq field word) 0 fields i at)))

pub vertex_here : (context : Context) (vertex : VertexName) → IsTrue (is_here context.sort (Vertex vertex)) → IsTrue (has_corner (2 ^ context.dim) (Vertex vertex)) → IsTrue (vertex_fits (reach_in context) vertex)
vertex_here context Own here corner = here
vertex_here context (Corner k) here corner = both _ _ here corner
vertex_here context (ParentCorner k) here corner = both _ _ here corner

vertex_found : (context : Context) (vertex : VertexName) (word : List ℕ) (it : Name) → IsTrue (vertex_fits (reach_in context) vertex) → of_vertex context vertex word ≡ Some it → IsTrue (name_fits (reach_in context) it)
vertex_found context vertex word it fits is = by_state (bytes_eq word (codes "state")) is
  where
    by_kind : (b : Bool) → cond b (Some (name.Kind vertex)) (slot_named (slot.Vertex vertex) context.names.vertex word) ≡ Some it → IsTrue (name_fits (reach_in context) it)
    by_kind true found = let P : Name → Type 0 = λ n. IsTrue (name_fits (reach_in context) n) in let same : name.Kind vertex ≡ it = cc found in subst P same fits
    by_kind false found = slot_found (slot.Vertex vertex) context.names.vertex word it (name_fits (reach_in context)) (λ i lt. both _ _ fits (below i (length context.names.vertex) lt)) found

    by_state : (b : Bool) → cond b (Some (name.State vertex)) (cond (bytes_eq word (codes "kind")) (Some (name.Kind vertex)) (slot_named (slot.Vertex vertex) context.names.vertex word)) ≡ Some it → IsTrue (name_fits (reach_in context) it)
    by_state true found = let P : Name → Type 0 = λ n. IsTrue (name_fits (reach_in context) n) in let same : name.State vertex ≡ it = cc found in subst P same fits
    by_state false found = by_kind (bytes_eq word (codes "kind")) found

one_name : (context : Context) (a it : Name) → Some a ≡ Some it → IsTrue (name_fits (reach_in context) a) → IsTrue (name_fits (reach_in context) it)
one_name context a it is fits = let P : Name → Type 0 = λ n. IsTrue (name_fits (reach_in context) n) in let same : a ≡ it = cc is in subst P same fits

pub behind_fits : (context : Context) (head : Head) (second : Option (List ℕ)) (it : Name) → IsTrue (is_here context.sort head) → IsTrue (has_corner (2 ^ context.dim) head) → IsTrue (is_within context.dim head)
    → behind context head second ≡ Some it → IsTrue (name_fits (reach_in context) it)
behind_fits context Traversal None it here corner axis is = one_name context name.Traversal it is refl
behind_fits context Traversal (Some word) it here corner axis is = absurd (cc is)
behind_fits context Level None it here corner axis is = one_name context name.Level it is here
behind_fits context Level (Some word) it here corner axis is = absurd (cc is)
behind_fits context (Axis k) None it here corner axis is = one_name context (name.Axis k) it is (both _ _ here axis)
behind_fits context (Axis k) (Some word) it here corner axis is = absurd (cc is)
behind_fits context Global None it here corner axis is = absurd (cc is)
behind_fits context Global (Some word) it here corner axis is = slot_found slot.Global context.names.global word it (name_fits (reach_in context)) (λ i lt. below i (length context.names.global) lt) is
behind_fits context (Vertex vertex) None it here corner axis is = absurd (cc is)
behind_fits context (Vertex vertex) (Some word) it here corner axis is = vertex_found context vertex word it (vertex_here context vertex here corner) is
behind_fits context Cell None it here corner axis is = absurd (cc is)
behind_fits context Cell (Some word) it here corner axis is = slot_found slot.Cell context.names.cell word it (name_fits (reach_in context)) (λ i lt. both _ _ here (below i (length context.names.cell) lt)) is
behind_fits context Parent None it here corner axis is = absurd (cc is)
behind_fits context Parent (Some word) it here corner axis is = slot_found slot.Parent context.names.cell word it (name_fits (reach_in context)) (λ i lt. both _ _ here (below i (length context.names.cell) lt)) is
