-- A saved grid is the only one of its bytes, and its bytes have no fault.
use Rattle.std.proofs.Common.{◌≡◌, ℕ, zero, suc, ◌+◌, ◌*◌, ◌<◌, ◌≤◌, true, not, cond, eqb, List, [], ◌∷◌, ◌++◌, length, drop, get_or, map, All, Option, None, option_map, refl, sym, ap, subst, ◌∙◌, arith}
use Rattle.std.specs.Prelude.{slice_index}
use Rattle.std.specs.List.{flat_map}
use Rattle.std.proofs.lemmas.Bool.{le-leb, eq-eqb, ne_eqb}
use Rattle.std.proofs.lemmas.List.{append-nil, length-append, drop_at, drop-drop}
use Rattle.byteorder.specs.Numbers.{little_number-reads_back}
use Rattle.pe_base.specs.declared.fields.Fields.{Fields}
use Rattle.pe_stream.specs.declared.expect.Expect.{Expect}
use Rattle.pe_stream.specs.declared.fault.HeaderField.{HeaderField}
use Rattle.pe_stream.specs.declared.fault.HeaderField.TheVariants.{Dim, MaxLevel, VertexFields, CellFields, GlobalFields, Zero, Traversals}
use Rattle.pe_stream.specs.declared.fault.StreamFault.{StreamFault}
use Rattle.pe_stream.specs.declared.fault.StreamFault.TheVariants as faults
use Rattle.pe_stream.specs.declared.range.Range.{Range}
use Rattle.pe_stream.specs.declared.saved.SavedVertex.{SavedVertex}
use Rattle.pe_stream.specs.declared.saved.Saved.{Saved}
use Rattle.pe_stream.specs.Layout.{fields_bytes, fields_size, vertex_bytes, vertex_size, stream_bytes}
use Rattle.pe_stream.specs.Ranges.{is_in, IsIn, range_of, field_of, IsInRanges}
use Rattle.pe_stream.specs.Saved.{IsSaved, IsHeld}
use Rattle.pe_stream.specs.Faults.{found, vertices_found, cells_found, vertices_at, length_of, is_saved_state, state_at, unless, short, out_of_range, other_start, other_length, first_unsaved, first_of, other_header, first_out_of_range, first_fault, header_fields}
use Rattle.pe_stream.specs.Parts.{IsReadPayload, IsReadVertex}
use Rattle.pe_stream.proofs.Firsts.{first_none, find-none}
use Rattle.pe_stream.proofs.Sizes.{length_all, length_fields, length_vertex, saved_states}
use Rattle.pe_stream.proofs.Spelling.{number_once, fields_once, vertex_once, all_once}

-- what the parts behind the header are
record IsBody (gf cf vf : ℕ) (s : Saved) : Type 0 where
  globals : IsReadPayload gf s.globals
  root : IsReadPayload cf s.root
  vertices : All (IsReadVertex vf) s.vertices
  cells : All (IsReadPayload cf) s.cells

body_of : (s : Saved) → IsSaved s → IsHeld s → IsBody s.global_fields s.cell_fields s.vertex_fields s
body_of s saved held = record {
  globals = record { padded = saved.globals; payload = held.globals };
  root = record { padded = saved.root; payload = held.root };
  vertices = λ k d below. record { saved = saved.vertices k d below; payload = held.vertices k d below };
  cells = λ k d below. record { padded = saved.cells k d below; payload = held.cells k d below };
}

abbrev pub body_bytes : ℕ → ℕ → ℕ → Saved → List ℕ
body_bytes gf cf vf s = fields_bytes gf s.globals ++ (fields_bytes cf s.root ++ (flat_map (vertex_bytes vf) s.vertices ++ flat_map (fields_bytes cf) s.cells))

record SameBody (s t : Saved) : Type 0 where
  globals : s.globals ≡ t.globals
  root : s.root ≡ t.root
  vertices : s.vertices ≡ t.vertices
  cells : s.cells ≡ t.cells

body_once : (gf cf vf : ℕ) (s t : Saved) → IsBody gf cf vf s → IsBody gf cf vf t → length s.vertices ≡ length t.vertices → length s.cells ≡ length t.cells
    → body_bytes gf cf vf s ≡ body_bytes gf cf vf t → SameBody s t
body_once gf cf vf s t s_is t_is vertices cells e =
    let a = fields_once gf s.globals t.globals _ _ s_is.globals t_is.globals e in
    let b = fields_once cf s.root t.root _ _ s_is.root t_is.root a.1 in
    let c = all_once (vertex_bytes vf) (IsReadVertex vf) (vertex_once vf) s.vertices t.vertices _ _ vertices s_is.vertices t_is.vertices b.1 in
    let d = all_once (fields_bytes cf) (IsReadPayload cf) (fields_once cf) s.cells t.cells [] [] cells s_is.cells t_is.cells
    (append-nil (flat_map (fields_bytes cf) s.cells) ∙ c.1 ∙ sym (append-nil (flat_map (fields_bytes cf) t.cells))) in
    record { globals = a.0; root = b.0; vertices = c.0; cells = d.0 }

made : (dim max_level vertex_fields cell_fields global_fields finished : ℕ) → Fields → Fields → List SavedVertex → ℕ → List Fields → Saved
made dim max_level vertex_fields cell_fields global_fields finished globals root vertices cell_count cells = record {
  dim = dim;
  max_level = max_level;
  vertex_fields = vertex_fields;
  cell_fields = cell_fields;
  global_fields = global_fields;
  finished = finished;
  globals = globals;
  root = root;
  vertices = vertices;
  cell_count = cell_count;
  cells = cells;
}

same_made : (a b c d e f a' b' c' d' e' f' : ℕ) (g r g' r' : Fields) (v v' : List SavedVertex) (n n' : ℕ) (l l' : List Fields)
    → a ≡ a' → b ≡ b' → c ≡ c' → d ≡ d' → e ≡ e' → f ≡ f' → g ≡ g' → r ≡ r' → v ≡ v' → n ≡ n' → l ≡ l'
    → made a b c d e f g r v n l ≡ made a' b' c' d' e' f' g' r' v' n' l'
same_made a b c d e f a' b' c' d' e' f' g r g' r' v v' n n' l l' pa pb pc pd pe pf pg pr pv pn pl = cc

-- no bytes are those of two saved grids
pub saved_once : (s t : Saved) → IsSaved s → IsHeld s → IsSaved t → IsHeld t → stream_bytes s ≡ stream_bytes t → s ≡ t
unfolding made
saved_once s t s_is s_held t_is t_held e =
    let finished = number_once s.finished t.finished _ _ (let h = s_is.header Traversals in omega (arith, h.1)) (let h = t_is.header Traversals in omega (arith, h.1)) (ap (drop 16) e) in
    let vertices = number_once (length s.vertices) (length t.vertices) _ _ s_held.vertex_count t_held.vertex_count finished.1 in
    let cells = number_once s.cell_count t.cell_count _ _ s_held.cell_count t_held.cell_count vertices.1 in
    let vf : s.vertex_fields ≡ t.vertex_fields = ap (λ b. slice_index b 11) e in
    let cf : s.cell_fields ≡ t.cell_fields = ap (λ b. slice_index b 12) e in
    let gf : s.global_fields ≡ t.global_fields = ap (λ b. slice_index b 13) e in
    let kept : length s.cells ≡ length t.cells = s_is.cell_count ∙ ap (λ n. cond (eqb n 0) 0 s.cell_count) cf ∙ ap (λ n. cond (eqb t.cell_fields 0) 0 n) cells.0 ∙ sym t_is.cell_count in
    let t_body : IsBody s.global_fields s.cell_fields s.vertex_fields t =
    subst (λ n. IsBody n s.cell_fields s.vertex_fields t) (sym gf)
    (subst (λ n. IsBody t.global_fields n s.vertex_fields t) (sym cf) (subst (λ n. IsBody t.global_fields t.cell_fields n t) (sym vf) (body_of t t_is t_held))) in
    let same : body_bytes t.global_fields t.cell_fields t.vertex_fields t ≡ body_bytes s.global_fields s.cell_fields s.vertex_fields t =
    ap (λ n. body_bytes n t.cell_fields t.vertex_fields t) (sym gf) ∙ ap (λ n. body_bytes s.global_fields n t.vertex_fields t) (sym cf) ∙ ap (λ n. body_bytes s.global_fields s.cell_fields n t) (sym vf) in
    let body = body_once s.global_fields s.cell_fields s.vertex_fields s t (body_of s s_is s_held) t_body vertices.0 kept (cells.1 ∙ same) in
    same_made s.dim s.max_level s.vertex_fields s.cell_fields s.global_fields s.finished t.dim t.max_level t.vertex_fields t.cell_fields t.global_fields t.finished
    s.globals s.root t.globals t.root s.vertices t.vertices s.cell_count t.cell_count s.cells t.cells
    (ap (λ b. slice_index b 9) e) (ap (λ b. slice_index b 10) e) vf cf gf finished.0 body.globals body.root body.vertices cells.0 body.cells

-- the numbers of a header are read again
pub found-field : (s : Saved) → IsSaved s → (field : HeaderField) → found (stream_bytes s) field ≡ field_of field s
found-field s saved Dim = refl
found-field s saved MaxLevel = refl
found-field s saved VertexFields = refl
found-field s saved CellFields = refl
found-field s saved GlobalFields = refl
found-field s saved Zero = refl
found-field s saved Traversals = little_number-reads_back 8 s.finished (drop 24 (stream_bytes s)) (let h = saved.header Traversals in omega (arith, h.1))

vertices_found-is : (s : Saved) → IsHeld s → vertices_found (stream_bytes s) ≡ length s.vertices
vertices_found-is s held = little_number-reads_back 8 (length s.vertices) (drop 32 (stream_bytes s)) held.vertex_count

cells_found-is : (s : Saved) → IsHeld s → cells_found (stream_bytes s) ≡ s.cell_count
cells_found-is s held = little_number-reads_back 8 s.cell_count (drop 40 (stream_bytes s)) held.cell_count

passes : (range : Range) (n : ℕ) (fault : StreamFault) → IsIn range n → unless (is_in range n) fault ≡ None
passes range n fault inside = rw (le-leb range.least n inside.0, le-leb n range.greatest inside.1) refl

fields_pass : (ranges : HeaderField → Range) (s : Saved) → IsSaved s → IsInRanges ranges s → (fields : List HeaderField) → first_of (map (out_of_range ranges (stream_bytes s)) fields) ≡ None
fields_pass ranges s saved inside [] = refl
fields_pass ranges s saved inside (f ∷ fs) =
    let b = stream_bytes s in
    let here : out_of_range ranges b f ≡ None = passes (ranges f) (found b f) (faults.Header f (found b f)) (subst (IsIn (ranges f)) (sym (found-field s saved f)) (inside f)) in
    ap (λ t. first_of (t ∷ map (out_of_range ranges b) fs)) here ∙ fields_pass ranges s saved inside fs

start_passes : (s : Saved) → other_start (stream_bytes s) ≡ None
start_passes s =
    let b = stream_bytes s in
    let long : short b ≡ None = ap (λ t. unless t (faults.Length 40 (length b))) (le-leb 40 (length b) (omega arith)) in
    ap (λ t. first_of (t ∷ None ∷ None ∷ [])) long

-- cells without numbers are not kept, and have no bytes
kept_size : (cf count kept : ℕ) → kept ≡ cond (eqb cf 0) 0 count → kept * fields_size cf ≡ count * fields_size cf
kept_size zero count kept is = omega arith
kept_size (suc cf) count kept is = ap (λ n. n * fields_size (suc cf)) (is ∙ ap (λ b. cond b 0 count) (ne_eqb (suc cf) 0 (λ e. omega (arith, e))))

-- how many bytes a saved grid has
length-stream : (s : Saved) → IsSaved s → IsHeld s
    → length (stream_bytes s) ≡ ((40 + fields_size s.global_fields) + fields_size s.cell_fields) + length s.vertices * vertex_size s.vertex_fields + s.cell_count * fields_size s.cell_fields
length-stream s saved held =
    let body = body_of s saved held in
    let gf = s.global_fields in
    let cf = s.cell_fields in
    let vf = s.vertex_fields in
    let gf_few = (saved.header GlobalFields).1 in
    let cf_few = (saved.header CellFields).1 in
    let vf_few = (saved.header VertexFields).1 in
    let globals = length_fields gf s.globals gf_few held.globals in
    let root = length_fields cf s.root cf_few held.root in
    let vertices = length_all (vertex_bytes vf) (vertex_size vf) s.vertices (λ k d below. length_vertex vf (get_or s.vertices k d) vf_few (held.vertices k d below)) in
    let cells = length_all (fields_bytes cf) (fields_size cf) s.cells (λ k d below. length_fields cf (get_or s.cells k d) cf_few (held.cells k d below)) in
    let kept = cells ∙ kept_size cf s.cell_count (length s.cells) saved.cell_count in
    let last = length-append (flat_map (vertex_bytes vf) s.vertices) (flat_map (fields_bytes cf) s.cells) in
    let third = length-append (fields_bytes cf s.root) (flat_map (vertex_bytes vf) s.vertices ++ flat_map (fields_bytes cf) s.cells) in
    let second = length-append (fields_bytes gf s.globals) (fields_bytes cf s.root ++ (flat_map (vertex_bytes vf) s.vertices ++ flat_map (fields_bytes cf) s.cells)) in
    omega (arith, globals, root, vertices, kept, last, third, second)

length_passes : (s : Saved) → IsSaved s → IsHeld s → other_length (stream_bytes s) ≡ None
length_passes s saved held =
    let b = stream_bytes s in
    let size : length_of b ≡ ((40 + fields_size s.global_fields) + fields_size s.cell_fields) + length s.vertices * vertex_size s.vertex_fields + s.cell_count * fields_size s.cell_fields =
    ap (λ n. ((40 + fields_size s.global_fields) + fields_size s.cell_fields) + n * vertex_size s.vertex_fields + cells_found b * fields_size s.cell_fields) (vertices_found-is s held)
    ∙ ap (λ n. ((40 + fields_size s.global_fields) + fields_size s.cell_fields) + length s.vertices * vertex_size s.vertex_fields + n * fields_size s.cell_fields) (cells_found-is s held) in
    ap (λ t. unless t (faults.Length (length_of b) (length b))) (eq-eqb (length b) (length_of b) (length-stream s saved held ∙ sym size))

states_pass : (s : Saved) → IsSaved s → IsHeld s → first_unsaved (stream_bytes s) ≡ None
states_pass s saved held =
    let b = stream_bytes s in
    let vf = s.vertex_fields in
    let gf = s.global_fields in
    let cf = s.cell_fields in
    let tail = flat_map (fields_bytes cf) s.cells in
    let lie : drop (vertices_at b) b ≡ flat_map (vertex_bytes vf) s.vertices ++ tail =
    sym (drop-drop (fields_size cf) (40 + fields_size gf) b)
    ∙ ap (drop (fields_size cf)) (sym (drop-drop (fields_size gf) 40 b)
    ∙ drop_at (fields_bytes gf s.globals) (fields_bytes cf s.root ++ (flat_map (vertex_bytes vf) s.vertices ++ tail)) (fields_size gf) (length_fields gf s.globals (saved.header GlobalFields).1 held.globals))
    ∙ drop_at (fields_bytes cf s.root) (flat_map (vertex_bytes vf) s.vertices ++ tail) (fields_size cf) (length_fields cf s.root (saved.header CellFields).1 held.root) in
    let body = body_of s saved held in
    let each : (k : ℕ) → k < vertices_found b → is_saved_state (state_at (vertex_size vf) (drop (vertices_at b) b) k) ≡ true =
    λ k below. ap (λ l. is_saved_state (state_at (vertex_size vf) l k)) lie
    ∙ saved_states vf s.vertices tail k (saved.header VertexFields).1 body.vertices (omega (arith, below, vertices_found-is s held)) in
    ap (option_map (λ k. faults.State k (state_at (vertex_size vf) (drop (vertices_at b) b) k)))
    (find-none (λ k. not (is_saved_state (state_at (vertex_size vf) (drop (vertices_at b) b) k))) 0 (vertices_found b) (λ k above below. ap not (each k (omega arith))))

-- the bytes of a saved grid have no fault
pub no_fault : (expect : Option Expect) (s : Saved) → IsInRanges (range_of expect) s → IsSaved s → IsHeld s → first_fault expect (stream_bytes s) ≡ None
no_fault expect s inside saved held =
    let b = stream_bytes s in
    let ranges = range_of expect in
    let fields = fields_pass ranges s saved inside header_fields in
    let header : other_header ranges b ≡ None = first_none (other_start b) (first_out_of_range ranges b ∷ []) (start_passes s) ∙ first_none (first_out_of_range ranges b) [] fields in
    first_none (other_header ranges b) (other_length b ∷ first_unsaved b ∷ []) header
    ∙ first_none (other_length b) (first_unsaved b ∷ []) (length_passes s saved held)
    ∙ first_none (first_unsaved b) [] (states_pass s saved held)

-- there are no more vertices than bytes
pub few_vertices : (s : Saved) → IsSaved s → IsHeld s → length s.vertices ≤ length (stream_bytes s)
few_vertices s saved held =
    let size : length s.vertices * vertex_size s.vertex_fields ≡ length s.vertices + length s.vertices * fields_size s.vertex_fields = grind arith in
    omega (arith, length-stream s saved held, size)
