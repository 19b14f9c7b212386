-- How many bytes things have, and where those of vertices lie.
use Rattle.std.proofs.Common.{◌≡◌, ℕ, zero, suc, ◌+◌, ◌*◌, ◌<◌, ◌≤◌, true, IsTrue, List, [], ◌∷◌, ◌++◌, length, take, All, refl, ap, ◌∙◌, append_assoc, arith}
use Rattle.std.specs.Prelude.{slice_index}
use Rattle.std.specs.List.{flat_map, AllByRecursion}
use Rattle.std.proofs.lemmas.List.{length-take, length-append, get_or-append-add}
use Rattle.std.proofs.lemmas.List.Elements.{recursion_from_All}
use Rattle.std.proofs.lemmas.List.Concat.{flat_map-cons}
use Rattle.pe_base.specs.declared.fields.Fields.{Fields}
use Rattle.pe_base.specs.declared.state.State.{State}
use Rattle.pe_base.specs.declared.state.State.TheVariants.{Unrefined, RefinementTriggered, Refining, Refined, EraseTriggered, Erasing}
use Rattle.pe_base.specs.Life.Numbers.{state_number}
use Rattle.pe_base.specs.Limits.{most_fields}
use Rattle.pe_stream.specs.declared.saved.SavedVertex.{SavedVertex}
use Rattle.pe_stream.specs.Layout.{signed_bytes, fields_bytes, fields_size, vertex_bytes, vertex_size}
use Rattle.pe_stream.specs.Saved.{is_at_rest, IsPayload}
use Rattle.pe_stream.specs.Faults.{is_saved_state, state_at}
use Rattle.pe_stream.specs.Parts.{IsReadVertex}

length_list : {X : Type 0} (spelled : X → List ℕ) (size : ℕ) (xs : List X) → AllByRecursion (λ x. length (spelled x) ≡ size) xs → length (flat_map spelled xs) ≡ length xs * size
length_list spelled size [] all = omega arith
length_list spelled size (x ∷ xs) all =
    let rest = length_list spelled size xs all.1 in
    let here = all.0 in
    let whole = ap length (flat_map-cons spelled x xs) ∙ length-append (spelled x) (flat_map spelled xs) in
    let row : suc (length xs) * size ≡ size + length xs * size = grind arith in
    omega (arith, rest, here, whole, row)

-- things of one size
pub length_all : {X : Type 0} (spelled : X → List ℕ) (size : ℕ) (xs : List X) → All (λ x. length (spelled x) ≡ size) xs → length (flat_map spelled xs) ≡ length xs * size
length_all spelled size xs all = length_list spelled size xs (recursion_from_All (λ x. length (spelled x) ≡ size) xs all)

pub length_fields : (count : ℕ) (fields : Fields) → count ≤ most_fields → IsPayload fields → length (fields_bytes count fields) ≡ fields_size count
length_fields count fields few payload =
    let all = length_all signed_bytes 8 (take count fields.a) (λ k d below. refl) in
    omega (arith, all, length-take count fields.a, payload.eight)

pub length_vertex : (count : ℕ) (vertex : SavedVertex) → count ≤ most_fields → IsPayload vertex.fields → length (vertex_bytes count vertex) ≡ vertex_size count
length_vertex count vertex few payload = omega (arith, length_fields count vertex.fields few payload)

-- the byte of a state between two traversals
saved_state : (state : State) → IsTrue (is_at_rest state) → is_saved_state (state_number state) ≡ true
saved_state Unrefined rest = refl
saved_state RefinementTriggered rest = refl
saved_state Refining rest = absurd cc
saved_state Refined rest = refl
saved_state EraseTriggered rest = refl
saved_state Erasing rest = absurd cc

states_list : (count : ℕ) (vertices : List SavedVertex) (tail : List ℕ) (k : ℕ) → count ≤ most_fields → AllByRecursion (IsReadVertex count) vertices → k < length vertices
    → is_saved_state (state_at (vertex_size count) (flat_map (vertex_bytes count) vertices ++ tail) k) ≡ true
states_list count [] tail k few all below = absurd (omega arith)
states_list count (v ∷ vs) tail zero few all below =
    let start : 0 * vertex_size count ≡ 0 = omega arith in
    let front : slice_index (flat_map (vertex_bytes count) (v ∷ vs) ++ tail) (0 * vertex_size count) ≡ state_number v.state =
    ap (λ l. slice_index (l ++ tail) (0 * vertex_size count)) (flat_map-cons (vertex_bytes count) v vs)
    ∙ ap (λ n. slice_index ((vertex_bytes count v ++ flat_map (vertex_bytes count) vs) ++ tail) n) start in
    ap is_saved_state front ∙ saved_state v.state all.0.saved.state
states_list count (v ∷ vs) tail (suc k) few all below =
    let size = vertex_size count in
    let rest = flat_map (vertex_bytes count) vs ++ tail in
    let long = length_vertex count v few all.0.payload in
    let place : suc k * size ≡ length (vertex_bytes count v) + k * size = (let row : suc k * size ≡ size + k * size = grind arith in omega (arith, row, long)) in
    let moved : slice_index (flat_map (vertex_bytes count) (v ∷ vs) ++ tail) (suc k * size) ≡ slice_index rest (k * size) =
    ap (λ l. slice_index l (suc k * size)) (ap (λ l. l ++ tail) (flat_map-cons (vertex_bytes count) v vs) ∙ append_assoc (vertex_bytes count v) (flat_map (vertex_bytes count) vs) tail)
    ∙ ap (λ n. slice_index (vertex_bytes count v ++ rest) n) place
    ∙ get_or-append-add (vertex_bytes count v) rest (k * size) 0 in
    ap is_saved_state moved ∙ states_list count vs tail k few all.1 (omega arith)

-- the states of vertices are found where they lie
pub saved_states : (count : ℕ) (vertices : List SavedVertex) (tail : List ℕ) (k : ℕ) → count ≤ most_fields → All (IsReadVertex count) vertices → k < length vertices
    → is_saved_state (state_at (vertex_size count) (flat_map (vertex_bytes count) vertices ++ tail) k) ≡ true
saved_states count vertices tail k few all below = states_list count vertices tail k few (recursion_from_All (IsReadVertex count) vertices all) below
