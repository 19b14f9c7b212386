-- What one traversal more adds to what the depots have counted.
use Rattle.std.proofs.Common.{◌≡◌, ◌≢◌, ◌∙◌, ℕ, zero, suc, ◌+◌, ◌*◌, ◌/◌, ◌%◌, ◌^◌, ◌<◌, ◌≤◌, max, Bool, true, false, not, ◌==◌, nat_lt, List, [], ◌∷◌, ◌++◌, sum_by, refl, sym, ap, subst, arith}
use Rattle.std.specs.Prelude.{if◌then◌else◌}
use Rattle.std.proofs.Math.Nat.{div-add-mod, mod-lt, mul-le-mul_left}
use Rattle.std.proofs.lemmas.Bool.{ltb-true, ltb-false, eqb-true, eqb-false, eq-eqb, ne_eqb}
use Rattle.std.proofs.lemmas.List.{get_or_past}
use Rattle.std.proofs.lemmas.List.Sums.{sum_by-append, count_by-le-length}
use Rattle.pe_base.specs.Tree.Dim.{IsDim}
use Rattle.pe_base.specs.Walk.Traversals.{Traversal}
use Rattle.pe_stacks.specs.Grid.{input_stack, output_stack, cell_input_stack, cell_output_stack}
use Rattle.pe_stacks.specs.Holdings.{Holdings, stack_count, stack_at, new_stack}
use Rattle.pe_order.specs.Outlooks.{outlook}
use Rattle.pe_order.specs.Tallies.{ExactTraffic}
use Rattle.pe_order.specs.Traffic.{entered_cells}
use Rattle.pe_run.specs.Traffic.{is_swapped, outlook_of, crossed, vertex_pushes, vertex_pops, cells_read, cells_written, cell_pushes, cell_pops, vertex_lends, cell_lends, deepest, HasTraffic}

-- the streams are exchanged once more
pub swapped_more : (n : ℕ) → is_swapped (n + 1) ≡ not (is_swapped n)
swapped_more n = by (n % 2) refl (mod-lt n {m = 2} (omega arith))
  where
    by : (k : ℕ) → n % 2 ≡ k → k < 2 → is_swapped (n + 1) ≡ not (is_swapped n)
    by zero even small = eq-eqb ((n + 1) % 2) 1 (omega arith) ∙ ap not (sym (ne_eqb (n % 2) 1 (λ odd. omega arith)))
    by (suc zero) odd small = ne_eqb ((n + 1) % 2) 1 (λ even. omega arith) ∙ ap not (sym (eq-eqb (n % 2) 1 (omega arith)))
    by (suc (suc k)) is small = absurd (omega arith)

-- a sum over one more
one_more : {X : Type 0} (f : X → ℕ) (xs : List X) (x : X) (old new : ℕ) → old ≡ sum_by f xs → new ≡ old + f x → new ≡ sum_by f (xs ++ x ∷ [])
one_more f xs x old new before is = omega (arith, before, is, sum_by-append f xs (x ∷ []))

deepest-more : (made : List Traversal) (it : Traversal) → deepest (made ++ it ∷ []) ≡ max (deepest made) it.tally.deepest
deepest-more [] it = omega arith
deepest-more (first ∷ made) it = omega (arith, deepest-more made it)

-- what lies past the stacks of a depot
past : {X : Type 0} (held : Holdings X) (n s : ℕ) → stack_count held ≡ n → n ≤ s → stack_at held s ≡ new_stack
past held n s count beyond = get_or_past held.stacks s new_stack (omega (arith, count))

-- how a stack of vertices is counted, by the stacks that one traversal more moves
module _ (start_level : ℕ) (it : Traversal) (count count' : ℕ → ℕ) (at other n : ℕ) (seventeen : at + other ≡ 17) (low : 8 ≤ at) (high : at ≤ 9)
    (crosses : (axis parity : ℕ) → axis < it.grid.axes → parity < 2 → count' (2 * axis + parity) ≡ count (2 * axis + parity) + crossed start_level axis parity it)
    (idle : (s : ℕ) → 2 * it.grid.axes ≤ s → s < 8 → count' s ≡ count s) (stream : count' at ≡ count at + n) (kept : count' other ≡ count other)
    (beyond : (s : ℕ) → 10 ≤ s → count' s ≡ count s) where
  elsewhere : (s : ℕ) → 2 * it.grid.axes ≤ s → s ≢ at → count' s ≡ count s
  elsewhere s above apart = by (nat_lt s 8) refl (nat_lt s 10) refl
    where
      by : (few : Bool) → nat_lt s 8 ≡ few → (ten : Bool) → nat_lt s 10 ≡ ten → count' s ≡ count s
      by true is ten are = idle s above (ltb-true s 8 is)
      by false is true are = subst (λ k. count' k ≡ count k) (stream_is (ltb-false s 8 is) (ltb-true s 10 are)) kept
        where
          stream_is : 8 ≤ s → s < 10 → other ≡ s
          stream_is more less = omega (arith, apart, seventeen, low, high)
      by false is false are = beyond s (ltb-false s 10 are)

  moved : (s : ℕ) → count' s ≡ count s + (if nat_lt s (2 * it.grid.axes) then crossed start_level (s / 2) (s % 2) it else (if s == at then n else 0))
  moved s = by (nat_lt s (2 * it.grid.axes)) refl (s == at) refl
    where
      halves : 2 * (s / 2) + s % 2 ≡ s
      halves = div-add-mod s 2

      by : (below : Bool) → nat_lt s (2 * it.grid.axes) ≡ below → (here : Bool) → (s == at) ≡ here
          → count' s ≡ count s + (if below then crossed start_level (s / 2) (s % 2) it else (if here then n else 0))
      by true is here are =
          subst (λ k. count' k ≡ count k + crossed start_level (s / 2) (s % 2) it) halves
          (crosses (s / 2) (s % 2) (omega (arith, halves, ltb-true s (2 * it.grid.axes) is)) (mod-lt s {m = 2} (omega arith)))
      by false is true are = subst (λ k. count' k ≡ count k + n) (sym (eqb-true s at are)) stream
      by false is false are = omega (arith, elsewhere s (ltb-false s (2 * it.grid.axes) is) (eqb-false s at are))

-- and a stack of cells
module _ (count count' : ℕ → ℕ) (at other n : ℕ) (one : at + other ≡ 1) (stream : count' at ≡ count at + n) (kept : count' other ≡ count other)
    (beyond : (s : ℕ) → 2 ≤ s → count' s ≡ count s) where
  cells_moved : (s : ℕ) → count' s ≡ count s + (if s == at then n else 0)
  cells_moved s = by (s == at) refl (nat_lt s 2) refl
    where
      by : (here : Bool) → (s == at) ≡ here → (few : Bool) → nat_lt s 2 ≡ few → count' s ≡ count s + (if here then n else 0)
      by true is few are = subst (λ k. count' k ≡ count k + n) (sym (eqb-true s at is)) stream
      by false is true are = subst (λ k. count' k ≡ count k + 0) (other_is (eqb-false s at is) (ltb-true s 2 are)) (omega (arith, kept))
        where
          other_is : s ≢ at → s < 2 → other ≡ s
          other_is apart small = omega (arith, one)
      by false is false are = omega (arith, beyond s (ltb-false s 2 are))

streams : (swapped : Bool) → (output_stack swapped + input_stack swapped ≡ 17) × (8 ≤ input_stack swapped) × (input_stack swapped ≤ 9)
streams true = (refl, omega arith, omega arith)
streams false = (refl, omega arith, omega arith)

cell_streams : (swapped : Bool) → cell_output_stack swapped + cell_input_stack swapped ≡ 1
cell_streams true = refl
cell_streams false = refl

-- What the depots have counted after one traversal more.
module _ {V C : Type 0} (start_level : ℕ) (made : List Traversal) (it : Traversal) (vertices vertices' : Holdings V) (cells cells' : Holdings C) (dim : IsDim it.grid.axes)
    (exact : ExactTraffic (outlook start_level it.grid (is_swapped it.grid.finished)) it.grid.greatest vertices vertices' cells cells' it.tally)
    (ten : stack_count vertices ≡ 10) (ten' : stack_count vertices' ≡ 10) (two : stack_count cells ≡ 2) (two' : stack_count cells' ≡ 2)
    (out : vertices.out ≡ 0) (cells_out : cells.out ≡ 0) (before : HasTraffic it.grid.axes start_level made vertices cells) where
  abbrev swapped : Bool
  swapped = is_swapped it.grid.finished

  same_beyond : {X : Type 0} (n : ℕ) (held held' : Holdings X) → stack_count held ≡ n → stack_count held' ≡ n → (s : ℕ) → n ≤ s → stack_at held' s ≡ stack_at held s
  same_beyond n held held' count count' s far = past held' n s count' far ∙ sym (past held n s count far)

  pushes : (s : ℕ) → (stack_at vertices' s).pushes ≡ (stack_at vertices s).pushes + vertex_pushes start_level s it
  pushes = moved start_level it (λ s. (stack_at vertices s).pushes) (λ s. (stack_at vertices' s).pushes) (output_stack swapped) (input_stack swapped) it.tally.written
      (streams swapped).0 (omega (arith, streams swapped)) (omega (arith, streams swapped)) exact.pushed (λ s above few. (exact.idle s above few).1) exact.written exact.input_kept
      (λ s far. ap (λ stack. stack.pushes) (same_beyond 10 vertices vertices' ten ten' s far))

  pops : (s : ℕ) → (stack_at vertices' s).pops ≡ (stack_at vertices s).pops + vertex_pops start_level s it
  pops = moved start_level it (λ s. (stack_at vertices s).pops) (λ s. (stack_at vertices' s).pops) (input_stack swapped) (output_stack swapped) it.tally.read
      (omega (arith, (streams swapped).0)) (streams swapped).1 (streams swapped).2 exact.popped (λ s above few. (exact.idle s above few).0) exact.read exact.output_kept
      (λ s far. ap (λ stack. stack.pops) (same_beyond 10 vertices vertices' ten ten' s far))

  cells_pushed : (s : ℕ) → (stack_at cells' s).pushes ≡ (stack_at cells s).pushes + cell_pushes start_level s it
  cells_pushed = cells_moved (λ s. (stack_at cells s).pushes) (λ s. (stack_at cells' s).pushes) (cell_output_stack swapped) (cell_input_stack swapped) (cells_written start_level it)
      (cell_streams swapped) exact.cells_written exact.cell_input_kept (λ s far. ap (λ stack. stack.pushes) (same_beyond 2 cells cells' two two' s far))

  cells_popped : (s : ℕ) → (stack_at cells' s).pops ≡ (stack_at cells s).pops + cell_pops start_level s it
  cells_popped = cells_moved (λ s. (stack_at cells s).pops) (λ s. (stack_at cells' s).pops) (cell_input_stack swapped) (cell_output_stack swapped) (cells_read start_level it)
      (omega (arith, cell_streams swapped)) exact.cells_read exact.cell_output_kept (λ s far. ap (λ stack. stack.pops) (same_beyond 2 cells cells' two two' s far))

  most : (deep more : ℕ) → vertices.most ≤ 2 ^ it.grid.axes * (deep + 1) → vertices'.most ≡ max vertices.most (0 + 2 ^ it.grid.axes * (more + 1)) → vertices'.most ≤ 2 ^ it.grid.axes * (max deep more + 1)
  most deep more below is =
      omega (arith, below, is, mul-le-mul_left (2 ^ it.grid.axes) (let h : deep + 1 ≤ max deep more + 1 = omega arith in h), mul-le-mul_left (2 ^ it.grid.axes) (let h : more + 1 ≤ max deep more + 1 = omega arith in h))

  pub counts_more : HasTraffic it.grid.axes start_level (made ++ it ∷ []) vertices' cells'
  counts_more = record {
    vertex_pushes_are = λ s. one_more (vertex_pushes start_level s) made it _ _ (before.vertex_pushes_are s) (pushes s);
    vertex_pops_are = λ s. one_more (vertex_pops start_level s) made it _ _ (before.vertex_pops_are s) (pops s);
    cell_pushes_are = λ s. one_more (cell_pushes start_level s) made it _ _ (before.cell_pushes_are s) (cells_pushed s);
    cell_pops_are = λ s. one_more (cell_pops start_level s) made it _ _ (before.cell_pops_are s) (cells_popped s);
    vertices_lent = one_more (vertex_lends start_level) made it _ _ before.vertices_lent exact.fresh;
    cells_lent = one_more (cell_lends start_level) made it _ _ before.cells_lent (omega (arith, exact.cells_made, few));
    vertices_out = rw (deepest-more made it) (most (deepest made) it.tally.deepest before.vertices_out (exact.most ∙ ap (λ n. max vertices.most (n + 2 ^ it.grid.axes * (it.tally.deepest + 1))) out));
    cells_out = rw (deepest-more made it) (omega (arith, before.cells_out, exact.cells_most (omega (arith, cells_out)), cells_out));
  }
    where
      few : cells_read start_level it ≤ it.tally.cells
      few = omega (arith, exact.cell_count, count_by-le-length (outlook_of start_level it).reads_cell (entered_cells (outlook_of start_level it) it.grid.greatest))
