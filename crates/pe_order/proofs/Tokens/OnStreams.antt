-- What is in the streams that a traversal reads: each vertex that counts, and each cell that is walked, where it is read. So
-- each vertex that counts is loaded first once.
use Rattle.std.specs.List.{AllByRecursion as Each}
use Rattle.std.proofs.Common.{◌≡◌, ℕ, ◌+◌, ◌≤◌, Bool, true, false, cond, ◌&&◌, ◌==◌, List, [], ◌∷◌, map, filter, length, refl, sym, ap, ap₂, ◌∙◌, subst, inl, inr, true≢false, arith}
use Rattle.std.specs.Prelude.{is_none, if◌then◌else◌}
use Rattle.pe_base.specs.declared.place.Place.{Place}
use Rattle.pe_base.specs.Tree.Dim.{IsDim}
use Rattle.pe_base.specs.Tree.Places.{root, is_same}
use Rattle.pe_base.specs.Steps.Around.{around}
use Rattle.pe_base.specs.Steps.Routes.{stack_in}
use Rattle.pe_base.specs.Steps.Faces.{Touch}
use Rattle.pe_base.specs.Walk.Streams.{walked_cells}
use Rattle.pe_base.proofs.Lists.{Each-filter, Each-weaker, Each-In, In, filter_none}
use Rattle.pe_base.proofs.Steps.VertexTouches.{is_same_itself}
use Rattle.pe_base.proofs.Steps.SlowerLaws.{length-around}
use Rattle.pe_base.proofs.Tree.Ranks.{same_places}
use Rattle.pe_order.specs.Laws.{IsCell}
use Rattle.pe_order.specs.Tokens.{Outlook, before}
use Rattle.pe_order.specs.Takings.{loads_of, is_read, reads_of, cell_reads_of, Grown}
use Rattle.pe_order.specs.CellsAhead.{times}
use Rattle.pe_order.specs.Traffic.{first_vertices, FirstVerticesCount}
use Rattle.pe_order.proofs.Tests.{some_power}
use Rattle.pe_order.proofs.Trees.{root_is_cell}
use Rattle.pe_order.proofs.Tokens.LoadOrder.{loaded_around}
use Rattle.pe_order.proofs.Tokens.Counting.{first_around}
use Rattle.pe_order.proofs.Tokens.Apart.{one_if, reading, its_loads, reads_once}
use Rattle.pe_order.proofs.Tokens.CountLists.{count-cons}
use Rattle.pe_order.proofs.Tokens.CellsAhead.{count-filter}
use Rattle.pe_order.proofs.Tokens.Streams.{cells_regular, cells_in_tree}
use Rattle.pe_order.proofs.Tokens.WalkedHere.{walked_here}

-- what is counted in a list is there
times_in : (x : Place) (xs : List Place) → 1 ≤ times xs x → In x xs
times_in x [] some = absurd (omega arith)
times_in x (y ∷ xs) some = go (is_same y x) refl (times_in x xs)
  where
    go : (b : Bool) → is_same y x ≡ b → (1 ≤ times xs x → In x xs) → In x (y ∷ xs)
    go true e later = inl (sym (same_places y x e))
    go false e later = inr (later (omega (arith, some, count-cons (λ z. is_same z x) y xs, ap one_if e)))

module _ (o : Outlook) (walked : Place → Bool) (greatest : ℕ) (dim : IsDim o.axes) (grown : Grown o walked greatest) where
  -- a vertex: its first load reads it
  pub reads_it : (q : Place) → o.counts q ≡ true → o.reads q ≡ true → 1 ≤ times (reads_of o greatest root) q
  reads_it q counts reads =
      omega (arith, reading o greatest q, first (filter (λ t. is_same t.vertex q) (loads_of o greatest root)) (its_loads o greatest q) (loaded_around o walked greatest dim grown q counts))
    where
      first : (touches : List Touch) → Each (λ t. is_same t.vertex q ≡ true) touches → map (λ t. t.cell) touches ≡ around o.axes o.way q → 1 ≤ length (filter (is_read o) touches)
      first [] each e = absurd (omega (arith, ap length e, length-around o.axes o.way q dim.1 (grown.is_walk.inside q counts), some_power o.axes))
      first (touch ∷ touches) each e =
          let same : touch.vertex ≡ q = same_places touch.vertex q each.0 in
          let here : In touch.cell (around o.axes o.way q) = subst (In touch.cell) e (inl refl) in
          let front : before (around o.axes o.way q) touch.cell ≡ 0 =
          ap (λ cs. before cs touch.cell) (sym e) ∙ ap (λ b. if b then 0 else before (map (λ t. t.cell) touches) touch.cell + 1) (is_same_itself touch.cell) in
          let none : is_none (stack_in o.axes o.way touch.vertex touch.cell) ≡ true =
          ap (λ p. is_none (stack_in o.axes o.way p touch.cell)) same ∙ first_around o.axes o.way q touch.cell dim.1 here ∙ ap (λ n. n == 0) front in
          kept (is_read o touch) (ap₂ (λ a b. a && (b && is_none (stack_in o.axes o.way touch.vertex touch.cell))) (ap o.counts same ∙ counts) (ap o.reads same ∙ reads) ∙ none)
        where
          kept : (b : Bool) → b ≡ true → 1 ≤ length (cond b (touch ∷ filter (is_read o) touches) (filter (is_read o) touches))
          kept true e = omega arith
          kept false e = absurd (true≢false (sym e))

  -- a vertex that does not count is not read
  uncounted : (q : Place) → o.counts q ≡ false → times (reads_of o greatest root) q ≡ 0
  uncounted q off =
      let its = filter (λ t. is_same t.vertex q) (loads_of o greatest root) in
      reading o greatest q
      ∙ ap length (filter_none (is_read o) its (Each-weaker (λ t. is_same t.vertex q ≡ true) (λ t. is_read o t ≡ false)
      (λ t same. ap (λ b. b && (o.reads t.vertex && is_none (stack_in o.axes o.way t.vertex t.cell))) (ap o.counts (same_places t.vertex q same) ∙ off)) its (its_loads o greatest q)))

  -- a cell of the tree
  pub reads_cell_it : (x : Place) → IsCell o.axes o.way x → walked x ≡ true → x.level ≤ greatest → o.reads_cell x ≡ true → 1 ≤ times (cell_reads_of o greatest root) x
  reads_cell_it x is on low reads =
      let all = walked_cells o.axes o.way o.walks greatest root in
      omega (arith, count-filter o.reads_cell all x ∙ ap (λ b. if b then times all x else 0) reads, walked_here o walked greatest dim grown x is on low)

  -- and no other cells, where only walked cells of the tree are read
  pub reads_cells_only : ((cell : Place) → IsCell o.axes o.way cell → o.reads_cell cell ≡ true → walked cell ≡ true) → (x : Place) → 1 ≤ times (cell_reads_of o greatest root) x → IsCell o.axes o.way x × (o.reads_cell x ≡ true)
  reads_cells_only within x some =
      let all = walked_cells o.axes o.way (λ c. true) greatest root in
      let is_cell = root_is_cell o.axes o.way in
      Each-In (λ c. IsCell o.axes o.way c × (o.reads_cell c ≡ true)) x (filter o.reads_cell all)
      (Each-filter (IsCell o.axes o.way) o.reads_cell all (cells_in_tree o walked greatest dim grown greatest root is_cell))
      (times_in x (filter o.reads_cell all) (subst (λ cs. 1 ≤ times cs x) (cells_regular o walked greatest dim grown o.reads_cell within greatest root is_cell) some))

-- each vertex that counts is loaded first once
pub first_vertices_count : FirstVerticesCount
first_vertices_count o walked greatest vertex dim grown = by (o.counts vertex) refl
  where
    -- as if all were read
    fits : Grown (record o { reads = λ q. true }) walked greatest
    fits = record {
      is_walk = grown.is_walk;
      below = grown.below;
      walks_within = grown.walks_within;
      counts_within = grown.counts_within;
      root_unread = grown.root_unread;
      root_unwritten = grown.root_unwritten;
    }

    by : (b : Bool) → o.counts vertex ≡ b → times (first_vertices o greatest) vertex ≡ (if b then 1 else 0)
    by true on =
        let some = reads_it (record o { reads = λ q. true }) walked greatest dim fits vertex on refl in
        let few = reads_once (record o { reads = λ q. true }) walked greatest dim fits vertex on in
        omega arith
    by false off = uncounted (record o { reads = λ q. true }) walked greatest dim fits vertex off
