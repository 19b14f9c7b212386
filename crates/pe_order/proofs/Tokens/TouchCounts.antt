-- Loads and stores by where they come from and go to, in the words of what is read, written, created, destroyed and hanging.
use Rattle.std.proofs.Common.{◌≡◌, inl, inr, ℕ, zero, suc, ◌+◌, ◌*◌, ◌^◌, ◌<◌, ◌≤◌, Bool, true, false, not, ◌&&◌, List, [], ◌∷◌, reverse, Option, Some, None, refl, sym, ap, ◌∙◌, arith}
use Rattle.std.proofs.lemmas.Bool.{ne_eqb}
use Rattle.std.specs.Prelude.{is_none, count_by}
use Rattle.std.specs.List.{flat_map, range_with_len, AllByRecursion as Each}
use Rattle.pe_base.specs.declared.place.Place.{Place}
use Rattle.pe_base.specs.Tree.Dim.{IsDim}
use Rattle.pe_base.specs.Tree.Places.{corner}
use Rattle.pe_base.specs.Tree.Curve.{children}
use Rattle.pe_base.specs.Steps.Routes.{stack_in, stack_out}
use Rattle.pe_base.specs.Steps.Faces.{Touch, stack_of, corner_touches}
use Rattle.pe_base.specs.Steps.Stacks.{is_stack}
use Rattle.pe_base.specs.Walk.Streams.{walked_children, walked_cells}
use Rattle.pe_base.proofs.Lists.{Each-all, Each-weaker, Each-append, Each-map, Each-reverse, Each-flat_map}
use Rattle.pe_base.proofs.Steps.VertexTouches.{same_itself}
use Rattle.pe_stacks.specs.Grid.{input_stack, output_stack}
use Rattle.pe_order.specs.Laws.{IsCell}
use Rattle.pe_order.specs.Tokens.{Outlook, given, first_of, touch_of}
use Rattle.pe_order.specs.Takings.{loads_of, stores_of, left_cells, is_read, is_written}
use Rattle.pe_order.specs.Traffic.{takes_from, makes, gives_to, ends}
use Rattle.pe_order.specs.Tallies.{is_created, is_destroyed, is_hung}
use Rattle.pe_order.proofs.Derived.{corners_cross_once}
use Rattle.pe_order.proofs.Tokens.Walks.{each_below}
use Rattle.pe_order.proofs.Tokens.Keeping.{kids_in_tree}
use Rattle.pe_order.proofs.Tokens.OneStack.{far_input}
use Rattle.pe_order.proofs.Tokens.Apart.{one_if}
use Rattle.pe_order.proofs.Tokens.Short.{sum-same}
use Rattle.pe_order.proofs.Tokens.DepotCounts.{count_none}
use Rattle.pe_order.proofs.Tokens.CellsApart.{each_if}
use Rattle.pe_order.proofs.Tokens.CountLists.{count-append, count-flat_map, count-reverse, count-same, count-sum}

-- a stack, if there is one, is of the axes
abbrev pub IsBelow : ℕ → Option ℕ → Type 0
IsBelow n from = (s : ℕ) → from ≡ Some s → s < n

-- a stream is taken from where it is read and no stack of the axes is named
own_stream : (n a : ℕ) (c r : Bool) (from : Option ℕ) → n ≤ a → IsBelow n from → (c && is_stack a (first_of from (given r (Some a)))) ≡ (c && (r && is_none from))
own_stream n a c true None far low = ap (λ b. c && b) (same_itself a)
own_stream n a c false None far low = refl
own_stream n a c r (Some w) far low = let near : w < n = low w refl in ap (λ b. c && b) (ne_eqb a w (λ e. omega (arith, e, near, far)) ∙ never r)
  where
    never : (b : Bool) → false ≡ (b && false)
    never true = refl
    never false = refl

-- and another stream never is
other_stream : (n a b : ℕ) (c r : Bool) (from : Option ℕ) → n ≤ b → (b ≡ a → ⊥) → IsBelow n from → (c && is_stack b (first_of from (given r (Some a)))) ≡ false
other_stream n a b c r from far apart low = never c (elsewhere r from low)
  where
    never : (x : Bool) {y : Bool} → y ≡ false → (x && y) ≡ false
    never true e = e
    never false e = refl

    elsewhere : (r : Bool) (from : Option ℕ) → IsBelow n from → is_stack b (first_of from (given r (Some a))) ≡ false
    elsewhere true None low = ne_eqb b a apart
    elsewhere false None low = refl
    elsewhere r (Some w) low = let near : w < n = low w refl in ne_eqb b w (λ e. omega (arith, e, near, far))

-- what comes from nowhere is new, or hangs
from_nowhere : (c r : Bool) (from : Option ℕ) (s : ℕ) → one_if (not (c && not (is_none (first_of from (given r (Some s)))))) ≡ one_if (c && (not r && is_none from)) + one_if (not c)
from_nowhere true true None s = refl
from_nowhere true false None s = refl
from_nowhere true true (Some w) s = refl
from_nowhere true false (Some w) s = refl
from_nowhere false r from s = refl

either_way : (c r n : Bool) → one_if (c && n) ≡ one_if (c && (r && n)) + one_if (c && (not r && n))
either_way true true true = refl
either_way true true false = refl
either_way true false true = refl
either_way true false false = refl
either_way false r n = refl

module _ (o : Outlook) (dim : IsDim o.axes) where
  -- a fact on each corner of each walked cell
  own_touches : (P : Touch → Type 0) → ((cell : Place) → IsCell o.axes o.way cell → (k : ℕ) → k < 2 ^ o.axes → P (touch_of o cell k)) → (cell : Place) → IsCell o.axes o.way cell → Each P (corner_touches o.axes cell)
  own_touches P h cell is = Each-map P (λ k. record { vertex = corner o.axes cell k; cell = cell }) (range_with_len 0 (2 ^ o.axes)) (each_below (2 ^ o.axes) _ (λ k small. h cell is k small))

  each_kid : (Q : Place → Type 0) (cell : Place) → IsCell o.axes o.way cell → ((c : Place) → IsCell o.axes o.way c → Q c) → Each Q (walked_children o.axes o.way o.walks cell)
  each_kid Q cell is h = each_if Q o.axes o.way o.walks (o.walks cell) (children o.axes o.way cell) (Each-weaker (IsCell o.axes o.way) Q h (children o.axes o.way cell) (kids_in_tree o dim.1 cell is))

  module _ (P : Touch → Type 0) (h : (cell : Place) → IsCell o.axes o.way cell → (k : ℕ) → k < 2 ^ o.axes → P (touch_of o cell k)) where
    pub each_load : (levels : ℕ) (cell : Place) → IsCell o.axes o.way cell → Each P (loads_of o levels cell)
    each_load zero cell is = Each-reverse P (corner_touches o.axes cell) (own_touches P h cell is)
    each_load (suc levels) cell is = Each-append P (reverse (corner_touches o.axes cell)) (flat_map (loads_of o levels) (walked_children o.axes o.way o.walks cell)) (Each-reverse P (corner_touches o.axes cell) (own_touches P h cell is))
        (Each-flat_map P (loads_of o levels) (walked_children o.axes o.way o.walks cell) (each_kid (λ c. Each P (loads_of o levels c)) cell is (each_load levels)))

    pub each_store : (levels : ℕ) (cell : Place) → IsCell o.axes o.way cell → Each P (stores_of o levels cell)
    each_store zero cell is = own_touches P h cell is
    each_store (suc levels) cell is = Each-append P (flat_map (stores_of o levels) (walked_children o.axes o.way o.walks cell)) (corner_touches o.axes cell)
        (Each-flat_map P (stores_of o levels) (walked_children o.axes o.way o.walks cell) (each_kid (λ c. Each P (stores_of o levels c)) cell is (each_store levels))) (own_touches P h cell is)

  comes_low : (cell : Place) → IsCell o.axes o.way cell → (k : ℕ) → k < 2 ^ o.axes → IsBelow (2 * o.axes) (stack_in o.axes o.way (corner o.axes cell k) cell)
  comes_low cell is k small s e = elim (corners_cross_once o.axes o.way cell k dim is small).comes [
    | inl none ↦ absurd (let no_stack : None ≡ Some s = sym none.no_stack ∙ e in cc)
    | inr one ↦
        let at : Some (stack_of one.face cell) ≡ Some s = sym one.its_stack ∙ e in
        let is : stack_of one.face cell ≡ s = cc in
        let a = one.is_face.0 in
        let four = dim.1 in
        omega arith
  ]

  goes_low : (cell : Place) → IsCell o.axes o.way cell → (k : ℕ) → k < 2 ^ o.axes → IsBelow (2 * o.axes) (stack_out o.axes o.way (corner o.axes cell k) cell)
  goes_low cell is k small s e = elim (corners_cross_once o.axes o.way cell k dim is small).goes [
    | inl none ↦ absurd (let no_stack : None ≡ Some s = sym none.no_stack ∙ e in cc)
    | inr one ↦
        let at : Some (stack_of one.face cell) ≡ Some s = sym one.its_stack ∙ e in
        let is : stack_of one.face cell ≡ s = cc in
        let a = one.is_face.0 in
        let four = dim.1 in
        omega arith
  ]

  beyond_input : (swapped : Bool) → 2 * o.axes ≤ input_stack swapped
  beyond_input swapped = let far = far_input swapped in let four = dim.1 in omega arith

  beyond_output : (swapped : Bool) → 2 * o.axes ≤ output_stack swapped
  beyond_output swapped = beyond_input (not swapped)

  two_streams : (swapped : Bool) → input_stack swapped ≡ output_stack swapped → ⊥
  two_streams true e = omega (arith, e)
  two_streams false e = omega (arith, e)

  -- the loads from the input are the reads, and none is from the output
  pub input_reads : (levels : ℕ) (cell : Place) → IsCell o.axes o.way cell → count_by (takes_from o (input_stack o.swapped)) (loads_of o levels cell) ≡ count_by (is_read o) (loads_of o levels cell)
  input_reads levels cell is = count-same (takes_from o (input_stack o.swapped)) (is_read o) (loads_of o levels cell)
      (each_load _ (λ c i k small. own_stream (2 * o.axes) (input_stack o.swapped) (o.counts (corner o.axes c k)) (o.reads (corner o.axes c k)) _ (beyond_input o.swapped) (comes_low c i k small)) levels cell is)

  pub output_unread : (levels : ℕ) (cell : Place) → IsCell o.axes o.way cell → count_by (takes_from o (output_stack o.swapped)) (loads_of o levels cell) ≡ 0
  output_unread levels cell is = count_none (takes_from o (output_stack o.swapped)) (loads_of o levels cell)
      (each_load _ (λ c i k small. other_stream (2 * o.axes) (input_stack o.swapped) (output_stack o.swapped) (o.counts (corner o.axes c k)) (o.reads (corner o.axes c k)) _ (beyond_output o.swapped) (λ e. two_streams o.swapped (sym e)) (comes_low c i k small)) levels cell is)

  -- the stores to the output are the writes, and none is to the input
  pub output_writes : (levels : ℕ) (cell : Place) → IsCell o.axes o.way cell → count_by (gives_to o (output_stack o.swapped)) (stores_of o levels cell) ≡ count_by (is_written o) (stores_of o levels cell)
  output_writes levels cell is = count-same (gives_to o (output_stack o.swapped)) (is_written o) (stores_of o levels cell)
      (each_store _ (λ c i k small. own_stream (2 * o.axes) (output_stack o.swapped) (o.counts (corner o.axes c k)) (o.writes (corner o.axes c k)) _ (beyond_output o.swapped) (goes_low c i k small)) levels cell is)

  pub input_unwritten : (levels : ℕ) (cell : Place) → IsCell o.axes o.way cell → count_by (gives_to o (input_stack o.swapped)) (stores_of o levels cell) ≡ 0
  input_unwritten levels cell is = count_none (gives_to o (input_stack o.swapped)) (stores_of o levels cell)
      (each_store _ (λ c i k small. other_stream (2 * o.axes) (output_stack o.swapped) (input_stack o.swapped) (o.counts (corner o.axes c k)) (o.writes (corner o.axes c k)) _ (beyond_input o.swapped) (two_streams o.swapped) (goes_low c i k small)) levels cell is)

  -- and none comes or goes by the stacks of axes that there are not
  pub idle_loads : (levels : ℕ) (cell : Place) → IsCell o.axes o.way cell → (s : ℕ) → 2 * o.axes ≤ s → s < 8 → count_by (takes_from o s) (loads_of o levels cell) ≡ 0
  idle_loads levels cell is s beyond below = count_none (takes_from o s) (loads_of o levels cell)
      (each_load _ (λ c i k small. other_stream (2 * o.axes) (input_stack o.swapped) s (o.counts (corner o.axes c k)) (o.reads (corner o.axes c k)) _ beyond (λ e. let far = far_input o.swapped in omega (arith, e, below)) (comes_low c i k small)) levels cell is)

  pub idle_stores : (levels : ℕ) (cell : Place) → IsCell o.axes o.way cell → (s : ℕ) → 2 * o.axes ≤ s → s < 8 → count_by (gives_to o s) (stores_of o levels cell) ≡ 0
  idle_stores levels cell is s beyond below = count_none (gives_to o s) (stores_of o levels cell)
      (each_store _ (λ c i k small. other_stream (2 * o.axes) (output_stack o.swapped) s (o.counts (corner o.axes c k)) (o.writes (corner o.axes c k)) _ beyond (λ e. let far = far_input (not o.swapped) in omega (arith, e, below)) (goes_low c i k small)) levels cell is)

module _ (o : Outlook) where
  -- what is made is created, or hangs; what is given up is destroyed, or hangs
  pub made_counts : (touches : List Touch) → count_by (makes o) touches ≡ count_by (is_created o) touches + count_by (is_hung o) touches
  made_counts touches = count-sum (makes o) (is_created o) (is_hung o) touches (λ t. from_nowhere (o.counts t.vertex) (o.reads t.vertex) (stack_in o.axes o.way t.vertex t.cell) (input_stack o.swapped))

  pub ended_counts : (touches : List Touch) → count_by (ends o) touches ≡ count_by (is_destroyed o) touches + count_by (is_hung o) touches
  ended_counts touches = count-sum (ends o) (is_destroyed o) (is_hung o) touches (λ t. from_nowhere (o.counts t.vertex) (o.writes t.vertex) (stack_out o.axes o.way t.vertex t.cell) (output_stack o.swapped))

  -- a first load reads or creates, a last store writes or destroys
  pub first_counts : (touches : List Touch) → count_by (λ t. o.counts t.vertex && is_none (stack_in o.axes o.way t.vertex t.cell)) touches ≡ count_by (is_read o) touches + count_by (is_created o) touches
  first_counts touches = count-sum _ (is_read o) (is_created o) touches (λ t. either_way (o.counts t.vertex) (o.reads t.vertex) (is_none (stack_in o.axes o.way t.vertex t.cell)))

  pub last_counts : (touches : List Touch) → count_by (λ t. o.counts t.vertex && is_none (stack_out o.axes o.way t.vertex t.cell)) touches ≡ count_by (is_written o) touches + count_by (is_destroyed o) touches
  last_counts touches = count-sum _ (is_written o) (is_destroyed o) touches (λ t. either_way (o.counts t.vertex) (o.writes t.vertex) (is_none (stack_out o.axes o.way t.vertex t.cell)))

  -- the same vertices are stored as are loaded, and the same cells left as are entered
  pub stores-loads : (p : Place → Bool) (levels : ℕ) (cell : Place) → count_by (λ (t : Touch). p t.vertex) (stores_of o levels cell) ≡ count_by (λ (t : Touch). p t.vertex) (loads_of o levels cell)
  stores-loads p zero cell = sym (count-reverse (λ (t : Touch). p t.vertex) (corner_touches o.axes cell))
  stores-loads p (suc levels) cell =
      let kids = walked_children o.axes o.way o.walks cell in
      let test = λ (t : Touch). p t.vertex in
      omega (
        arith,
        count-append test (flat_map (stores_of o levels) kids) (corner_touches o.axes cell),
        count-append test (reverse (corner_touches o.axes cell)) (flat_map (loads_of o levels) kids),
        count-reverse test (corner_touches o.axes cell),
        count-flat_map test (stores_of o levels) kids,
        count-flat_map test (loads_of o levels) kids,
        sum-same (λ c. count_by test (stores_of o levels c)) (λ c. count_by test (loads_of o levels c)) kids (Each-all _ (stores-loads p levels) kids),
      )

  pub left-walked : (p : Place → Bool) (levels : ℕ) (cell : Place) → count_by p (left_cells o levels cell) ≡ count_by p (walked_cells o.axes o.way o.walks levels cell)
  left-walked p zero cell = refl
  left-walked p (suc levels) cell =
      let kids = walked_children o.axes o.way o.walks cell in
      omega (
        arith,
        count-append p (flat_map (left_cells o levels) kids) (cell ∷ []),
        count-append p (cell ∷ []) (flat_map (walked_cells o.axes o.way o.walks levels) kids),
        count-flat_map p (left_cells o levels) kids,
        count-flat_map p (walked_cells o.axes o.way o.walks levels) kids,
        sum-same (λ c. count_by p (left_cells o levels c)) (λ c. count_by p (walked_cells o.axes o.way o.walks levels c)) kids (Each-all _ (left-walked p levels) kids),
      )
