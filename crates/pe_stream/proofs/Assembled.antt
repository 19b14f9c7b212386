-- The parts that were read are those of one saved grid.
use Rattle.std.proofs.Common.{◌≡◌, ℕ, ◌+◌, ◌*◌, ◌^◌, ◌<◌, ◌≤◌, List, [], ◌∷◌, ◌++◌, length, take, drop, refl, sym, ap, subst, ◌∙◌, arith}
use Rattle.std.specs.Prelude.{slice_index}
use Rattle.std.specs.List.{flat_map}
use Rattle.std.proofs.lemmas.List.{length-drop, take_all, take-append-drop, drop-drop, get_or-drop}
use Rattle.std.proofs.Math.Seq.{take-add}
use Rattle.pe_base.specs.declared.fields.Fields.{Fields}
use Rattle.pe_stream.specs.declared.fault.HeaderField.{HeaderField}
use Rattle.pe_stream.specs.declared.fault.HeaderField.TheVariants.{Dim, MaxLevel, VertexFields, CellFields, GlobalFields, Zero, Traversals}
use Rattle.pe_stream.specs.declared.header.Header.{Header}
use Rattle.pe_stream.specs.declared.saved.SavedVertex.{SavedVertex}
use Rattle.pe_stream.specs.declared.saved.Saved.{Saved}
use Rattle.pe_stream.specs.Layout.{number_bytes, fields_bytes, fields_size, vertex_bytes, vertex_size, magic, version, stream_bytes}
use Rattle.pe_stream.specs.Ranges.{limits, IsIn, IsInRanges}
use Rattle.pe_stream.specs.Faults.{found, vertices_found, vertices_at, length_of, first_unsaved, first_unsaved_of}
use Rattle.pe_stream.specs.Header.{BeginsWith}
use Rattle.pe_stream.specs.Parts.{IsReadPayload, AreVertices, AreCells, AreOf}
use Rattle.pe_stream.proofs.Pieces.{Splits}

-- the first eight, one by one
eight : (xs : List ℕ) → 8 ≤ length xs
    → take 8 xs ≡ slice_index xs 0 ∷ slice_index xs 1 ∷ slice_index xs 2 ∷ slice_index xs 3 ∷ slice_index xs 4 ∷ slice_index xs 5 ∷ slice_index xs 6 ∷ slice_index xs 7 ∷ []
eight [] long = absurd (omega arith)
eight (a ∷ []) long = absurd (omega arith)
eight (a ∷ b ∷ []) long = absurd (omega arith)
eight (a ∷ b ∷ c ∷ []) long = absurd (omega arith)
eight (a ∷ b ∷ c ∷ d ∷ []) long = absurd (omega arith)
eight (a ∷ b ∷ c ∷ d ∷ e ∷ []) long = absurd (omega arith)
eight (a ∷ b ∷ c ∷ d ∷ e ∷ f ∷ []) long = absurd (omega arith)
eight (a ∷ b ∷ c ∷ d ∷ e ∷ f ∷ g ∷ []) long = absurd (omega arith)
eight (a ∷ b ∷ c ∷ d ∷ e ∷ f ∷ g ∷ h ∷ rest) long = refl

list8 : (a b c d e f g h a' b' c' d' e' f' g' h' : ℕ) → a ≡ a' → b ≡ b' → c ≡ c' → d ≡ d' → e ≡ e' → f ≡ f' → g ≡ g' → h ≡ h'
    → a ∷ b ∷ c ∷ d ∷ e ∷ f ∷ g ∷ h ∷ [] ≡ a' ∷ b' ∷ c' ∷ d' ∷ e' ∷ f' ∷ g' ∷ h' ∷ []
list8 a b c d e f g h a' b' c' d' e' f' g' h' pa pb pc pd pe pf pg ph = cc

-- the second eight bytes, which are numbers of one byte
single_bytes : (bytes : List ℕ) (header : Header) → BeginsWith bytes header
    → version ∷ header.dim ∷ header.max_level ∷ header.vertex_fields ∷ header.cell_fields ∷ header.global_fields ∷ 0 ∷ 0 ∷ [] ≡ take 8 (drop 8 bytes)
single_bytes bytes header begins =
    let rest = drop 8 bytes in
    let zeros = (begins.in_limits Zero).1 in
    let at : (i : ℕ) → slice_index rest i ≡ slice_index bytes (8 + i) = λ i. get_or-drop 8 bytes i 0 in
    let low : slice_index (drop 14 bytes) 0 ≡ slice_index bytes 14 = get_or-drop 14 bytes 0 0 in
    let high : slice_index (drop 14 bytes) 1 ≡ slice_index bytes 15 = get_or-drop 14 bytes 1 0 in
    list8 version header.dim header.max_level header.vertex_fields header.cell_fields header.global_fields 0 0
    (slice_index rest 0) (slice_index rest 1) (slice_index rest 2) (slice_index rest 3) (slice_index rest 4) (slice_index rest 5) (slice_index rest 6) (slice_index rest 7)
    (sym begins.version_is ∙ sym (at 0)) (begins.dim ∙ sym (at 1)) (begins.max_level ∙ sym (at 2)) (begins.vertex_fields ∙ sym (at 3))
    (begins.cell_fields ∙ sym (at 4)) (begins.global_fields ∙ sym (at 5)) (omega (arith, zeros, low, at 6)) (omega (arith, zeros, high, at 7))
    ∙ sym (eight rest (omega (arith, begins.long, length-drop 8 bytes)))

-- the bytes of a header that was read
abbrev pub bytes_of_header : Header → List ℕ
bytes_of_header h =
    magic ++ ((version ∷ h.dim ∷ h.max_level ∷ h.vertex_fields ∷ h.cell_fields ∷ h.global_fields ∷ 0 ∷ 0 ∷ []) ++ (number_bytes h.finished ++ (number_bytes h.vertices ++ number_bytes h.cells)))

header_is : (bytes : List ℕ) (header : Header) → BeginsWith bytes header → bytes_of_header header ≡ take 40 bytes
header_is bytes header begins =
    let two = ap (λ l. l ++ (take 8 (drop 8 bytes) ++ (take 8 (drop 16 bytes) ++ (take 8 (drop 24 bytes) ++ take 8 (drop 32 bytes))))) begins.magic_is in
    let pieces : take 40 bytes ≡ take 8 bytes ++ (take 8 (drop 8 bytes) ++ (take 8 (drop 16 bytes) ++ (take 8 (drop 24 bytes) ++ take 8 (drop 32 bytes)))) =
    take-add 8 32 bytes
    ∙ ap (λ l. take 8 bytes ++ l) (take-add 8 24 (drop 8 bytes)
    ∙ ap (λ l. take 8 (drop 8 bytes) ++ l) (ap (take 24) (drop-drop 8 8 bytes) ∙ take-add 8 16 (drop 16 bytes)
    ∙ ap (λ l. take 8 (drop 16 bytes) ++ l) (ap (take 16) (drop-drop 8 16 bytes) ∙ take-add 8 8 (drop 24 bytes)
    ∙ ap (λ l. take 8 (drop 24 bytes) ++ take 8 l) (drop-drop 8 24 bytes)))) in
    ap (λ l. magic ++ (l ++ (number_bytes header.finished ++ (number_bytes header.vertices ++ number_bytes header.cells)))) (single_bytes bytes header begins)
    ∙ ap (λ l. magic ++ (take 8 (drop 8 bytes) ++ (l ++ (number_bytes header.vertices ++ number_bytes header.cells)))) begins.finished_bytes
    ∙ ap (λ l. magic ++ (take 8 (drop 8 bytes) ++ (take 8 (drop 16 bytes) ++ (l ++ number_bytes header.cells)))) begins.vertices_bytes
    ∙ ap (λ l. magic ++ (take 8 (drop 8 bytes) ++ (take 8 (drop 16 bytes) ++ (take 8 (drop 24 bytes) ++ l)))) begins.cells_bytes
    ∙ sym two ∙ sym pieces

-- the parts behind the header, as they are cut
pub record AreParts (bytes : List ℕ) (header : Header) (globals root vertices cells : List ℕ) : Type 0 where
  pub behind_globals : List ℕ
  pub globals_cut : Splits (fields_size header.global_fields) (drop 40 bytes) globals behind_globals
  pub root_cut : Splits (fields_size header.cell_fields) behind_globals root vertices
  pub cells_cut : cells ≡ drop (header.vertices * vertex_size header.vertex_fields) vertices

pub cut_into : (bytes : List ℕ) (header : Header) (body globals behind root vertices cells : List ℕ) → body ≡ drop 40 bytes → Splits (fields_size header.global_fields) body globals behind
    → Splits (fields_size header.cell_fields) behind root vertices → cells ≡ drop (header.vertices * vertex_size header.vertex_fields) vertices → AreParts bytes header globals root vertices cells
cut_into bytes header body globals behind root vertices cells is one two three =
    record { behind_globals = behind; globals_cut = subst (λ l. Splits (fields_size header.global_fields) l globals behind) is one; root_cut = two; cells_cut = three }

cut : (size : ℕ) (rest front back : List ℕ) → Splits size rest front back → rest ≡ front ++ back
cut size rest front back split = sym (take-append-drop size rest) ∙ ap (λ l. l ++ drop size rest) (sym split.front_is) ∙ ap (λ l. front ++ l) (sym split.back_is)

module _ (bytes : List ℕ) (header : Header) (globals root vertices cells : List ℕ) (begins : BeginsWith bytes header) (parts : AreParts bytes header globals root vertices cells) where
  -- where the vertices lie
  pub vertices_lie : vertices ≡ drop (vertices_at bytes) bytes
  vertices_lie =
      let gf = fields_size header.global_fields in
      let cf = fields_size header.cell_fields in
      parts.root_cut.back_is ∙ ap (drop cf) (parts.globals_cut.back_is ∙ drop-drop gf 40 bytes) ∙ drop-drop cf (40 + gf) bytes
      ∙ ap (λ n. drop ((40 + fields_size n) + cf) bytes) begins.global_fields ∙ ap (λ n. drop ((40 + fields_size (found bytes GlobalFields)) + fields_size n) bytes) begins.cell_fields

  -- so the first vertex in a state that is not saved is found in them
  pub unsaved_is : first_unsaved bytes ≡ first_unsaved_of (vertex_size header.vertex_fields) header.vertices vertices
  unsaved_is =
      ap (λ n. first_unsaved_of (vertex_size n) (vertices_found bytes) (drop (vertices_at bytes) bytes)) (sym begins.vertex_fields)
      ∙ ap (λ n. first_unsaved_of (vertex_size header.vertex_fields) n (drop (vertices_at bytes) bytes)) (sym begins.vertices)
      ∙ ap (first_unsaved_of (vertex_size header.vertex_fields) header.vertices) (sym vertices_lie)

  size_is : length_of bytes ≡ ((40 + fields_size header.global_fields) + fields_size header.cell_fields) + header.vertices * vertex_size header.vertex_fields + header.cells * fields_size header.cell_fields
  size_is = rw (begins.global_fields, begins.cell_fields, begins.vertex_fields, begins.vertices, begins.cells) refl

  -- the cells go to the end
  cells_end : length bytes ≡ length_of bytes → length cells ≤ header.cells * fields_size header.cell_fields
  cells_end size =
      let a = ap length parts.globals_cut.back_is in
      let b = ap length parts.root_cut.back_is in
      let c = ap length parts.cells_cut in
      omega (
        arith,
        size,
        size_is,
        a,
        b,
        c,
        length-drop 40 bytes,
        length-drop (fields_size header.global_fields) (drop 40 bytes),
        length-drop (fields_size header.cell_fields) parts.behind_globals,
        length-drop (header.vertices * vertex_size header.vertex_fields) vertices,
      )

  in_limits : (field : HeaderField) (n : ℕ) → n ≡ found bytes field → IsIn (limits field) n
  in_limits field n is = subst (IsIn (limits field)) (sym is) (begins.in_limits field)

  header_fits : (s : Saved) → s.dim ≡ header.dim → s.max_level ≡ header.max_level → s.vertex_fields ≡ header.vertex_fields → s.cell_fields ≡ header.cell_fields
      → s.global_fields ≡ header.global_fields → s.finished ≡ header.finished → IsInRanges limits s
  header_fits s d m v c g f Dim = in_limits Dim s.dim (d ∙ begins.dim)
  header_fits s d m v c g f MaxLevel = in_limits MaxLevel s.max_level (m ∙ begins.max_level)
  header_fits s d m v c g f VertexFields = in_limits VertexFields s.vertex_fields (v ∙ begins.vertex_fields)
  header_fits s d m v c g f CellFields = in_limits CellFields s.cell_fields (c ∙ begins.cell_fields)
  header_fits s d m v c g f GlobalFields = in_limits GlobalFields s.global_fields (g ∙ begins.global_fields)
  header_fits s d m v c g f Zero = (omega arith, omega arith)
  header_fits s d m v c g f Traversals = in_limits Traversals s.finished (f ∙ begins.finished)

  -- a saved grid of a header and of what was read behind it
  abbrev pub grid_of : Fields → Fields → List SavedVertex → List Fields → Saved
  grid_of g r vs cs = record {
    dim = header.dim;
    max_level = header.max_level;
    vertex_fields = header.vertex_fields;
    cell_fields = header.cell_fields;
    global_fields = header.global_fields;
    finished = header.finished;
    globals = g;
    root = r;
    vertices = vs;
    cell_count = header.cells;
    cells = cs;
  }

  spelled : (g r : Fields) (vs : List SavedVertex) (cs : List Fields) → length bytes ≡ length_of bytes
      → fields_bytes header.global_fields g ≡ globals → fields_bytes header.cell_fields r ≡ root
      → AreVertices header.vertex_fields header.vertices vertices vs → AreCells header.cell_fields header.cells cells cs → bytes ≡ stream_bytes (grid_of g r vs cs)
  spelled g r vs cs size g_is r_is vs_are cs_are =
      let m = header.vertices * vertex_size header.vertex_fields in
      let behind = fields_bytes header.global_fields g ++ (fields_bytes header.cell_fields r ++ (flat_map (vertex_bytes header.vertex_fields) vs ++ flat_map (fields_bytes header.cell_fields) cs)) in
      let last : cells ≡ flat_map (fields_bytes header.cell_fields) cs = sym (cs_are.bytes_are ∙ take_all (header.cells * fields_size header.cell_fields) cells (cells_end size)) in
      let ends : vertices ≡ flat_map (vertex_bytes header.vertex_fields) vs ++ flat_map (fields_bytes header.cell_fields) cs =
      sym (take-append-drop m vertices) ∙ ap (λ l. l ++ drop m vertices) (sym vs_are.bytes_are) ∙ ap (λ l. flat_map (vertex_bytes header.vertex_fields) vs ++ l) (sym parts.cells_cut ∙ last) in
      let body : drop 40 bytes ≡ behind =
      cut _ (drop 40 bytes) globals parts.behind_globals parts.globals_cut ∙ ap (λ l. l ++ parts.behind_globals) (sym g_is)
      ∙ ap (λ l. fields_bytes header.global_fields g ++ l) (cut _ parts.behind_globals root vertices parts.root_cut ∙ ap (λ l. l ++ vertices) (sym r_is) ∙ ap (λ l. fields_bytes header.cell_fields r ++ l) ends) in
      sym (take-append-drop 40 bytes) ∙ ap (λ l. l ++ drop 40 bytes) (sym (header_is bytes header begins)) ∙ ap (λ l. bytes_of_header header ++ l) body
      ∙ ap (λ n. (magic ++ ((version ∷ header.dim ∷ header.max_level ∷ header.vertex_fields ∷ header.cell_fields ∷ header.global_fields ∷ 0 ∷ 0 ∷ []) ++ (number_bytes header.finished ++ (number_bytes n ++ number_bytes header.cells)))) ++ behind) (sym vs_are.count_is)

  -- all that was read together
  pub assembled : (g r : Fields) (vs : List SavedVertex) (cs : List Fields) → length bytes ≡ length_of bytes → header.vertices < 2 ^ 64 → header.cells < 2 ^ 64
      → fields_bytes header.global_fields g ≡ globals → IsReadPayload header.global_fields g → fields_bytes header.cell_fields r ≡ root → IsReadPayload header.cell_fields r
      → AreVertices header.vertex_fields header.vertices vertices vs → AreCells header.cell_fields header.cells cells cs → AreOf bytes (grid_of g r vs cs)
  assembled g r vs cs size vertices_fit cells_fit g_is g_read r_is r_read vs_are cs_are = record {
    bytes_are = spelled g r vs cs size g_is r_is vs_are cs_are;
    saved = record {
      header = header_fits (grid_of g r vs cs) refl refl refl refl refl refl;
      globals = g_read.padded;
      root = r_read.padded;
      vertices = λ k d below. (vs_are.each k d below).saved;
      cells = λ k d below. (cs_are.each k d below).padded;
      cell_count = cs_are.count_is;
    };
    held = record {
      globals = g_read.payload;
      root = r_read.payload;
      vertices = λ k d below. (vs_are.each k d below).payload;
      cells = λ k d below. (cs_are.each k d below).payload;
      vertex_count = omega (arith, vs_are.count_is, vertices_fit);
      cell_count = cells_fit;
    };
  }
