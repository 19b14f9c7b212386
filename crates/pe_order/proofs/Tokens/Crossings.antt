-- The traffic of the stacks of the axes is the crossings of the vertices that count.
use Rattle.std.proofs.Common.{◌≡◌, ◌≢◌, inl, inr, ℕ, ◌+◌, ◌*◌, ◌%◌, ◌^◌, ◌<◌, ◌≤◌, Bool, true, false, cond, ◌&&◌, ◌==◌, List, [], ◌∷◌, map, filter, length, slice_index, Option, Some, None, refl, sym, ap, ap₂, ◌∙◌, subst, true≢false, arith}
use Rattle.std.specs.Prelude.{is_none, if◌then◌else◌, sum_by, count_by}
use Rattle.std.specs.Option.{option_map}
use Rattle.std.specs.List.{flat_map, AllByRecursion as Each}
use Rattle.std.proofs.lemmas.List.{take_all}
use Rattle.std.proofs.lemmas.List.Sums.{sum_by-cons, length-filter}
use Rattle.std.proofs.lemmas.Bool.{and_parts, eq-eqb, ne_eqb, eqb-true}
use Rattle.std.proofs.Math.Bool.{and-false, and-true, and_comm}
use Rattle.pe_base.specs.declared.place.Place.{Place}
use Rattle.pe_base.specs.declared.way.Way.{Way}
use Rattle.pe_base.specs.Tree.Dim.{IsDim}
use Rattle.pe_base.specs.Tree.Places.{IsInside, root, is_same}
use Rattle.pe_base.specs.Steps.Around.{around, steps, crossings}
use Rattle.pe_base.specs.Steps.Routes.{axis_of, waiting_stack, stack_in}
use Rattle.pe_base.specs.Steps.Faces.{Touch, steps_to}
use Rattle.pe_base.specs.Steps.Stacks.{is_stack}
use Rattle.pe_base.proofs.Lists.{Each-all, Each-weaker, Each-map, Each-filter, In, filter_same, filter-filter}
use Rattle.pe_base.proofs.Steps.VertexTouches.{is_same_itself, steps_to_cells}
use Rattle.pe_base.proofs.Steps.Turned.{find_none, find_first, one_step_to}
use Rattle.pe_base.proofs.Steps.SlowerLaws.{length-around, crossings-count}
use Rattle.pe_base.proofs.Tree.Ranks.{same_places}
use Rattle.pe_stacks.specs.Grid.{input_stack}
use Rattle.pe_order.specs.Tokens.{Outlook, turned, given, first_of, before}
use Rattle.pe_order.specs.Takings.{loads_of, stores_of, is_read, Grown}
use Rattle.pe_order.specs.Traffic.{takes_from, gives_to, first_vertices, crosses_on, TrafficIsCrossings, HangingLoads}
use Rattle.pe_order.proofs.Tokens.Turning.{stores-turned}
use Rattle.pe_order.proofs.Tokens.OneStack.{far_input, gives_by-turned}
use Rattle.pe_order.proofs.Tokens.LoadOrder.{loaded_around}
use Rattle.pe_order.proofs.Tokens.Counting.{first_around}
use Rattle.pe_order.proofs.Tokens.Apart.{one_if, firsts}
use Rattle.pe_order.proofs.Tokens.Streams.{fits_turned}
use Rattle.pe_order.proofs.Tokens.DepotCounts.{count_none}
use Rattle.pe_order.proofs.Tokens.CountLists.{count-flat_map, count-reverse, count-map, count-both, count-not}
use Rattle.pe_order.proofs.Tokens.Traffic.{loads_length}
use Rattle.pe_order.proofs.Tokens.Short.{sum-both, sum-same, sum-times, is_same-symmetric, touches_of}
use Rattle.pe_order.proofs.Tests.{and_twice, some_power}

-- each touch that passes a test is of one of the places
by_places : (places : List Place) (q : Touch → Bool) (touches : List Touch) → Each (λ t. q t ≡ true → count_by (λ v. is_same v t.vertex) places ≡ 1) touches
    → sum_by (λ v. count_by (λ t. is_same v t.vertex && q t) touches) places ≡ count_by q touches
by_places places q [] e = all_zero places
  where
    all_zero : (vs : List Place) → sum_by (λ v. 0) vs ≡ 0
    all_zero [] = refl
    all_zero (v ∷ vs) = sum_by-cons (λ w. 0) v vs ∙ omega (arith, all_zero vs)
by_places places q (t ∷ touches) e =
    omega (
      arith,
      by_places places q touches e.1,
      sum_by-cons (λ u. one_if (q u)) t touches,
      sum-both (λ v. one_if (is_same v t.vertex && q t)) (λ v. count_by (λ u. is_same v u.vertex && q u) touches) places,
      sum-same (λ v. count_by (λ u. is_same v u.vertex && q u) (t ∷ touches)) (λ v. one_if (is_same v t.vertex && q t) + count_by (λ u. is_same v u.vertex && q u) touches) places (Each-all _ (λ v. sum_by-cons (λ u. one_if (is_same v u.vertex && q u)) t touches) places),
      here (q t) e.0,
    )
  where
    here : (b : Bool) → (b ≡ true → count_by (λ v. is_same v t.vertex) places ≡ 1) → sum_by (λ v. one_if (is_same v t.vertex && b)) places ≡ one_if b
    here true h = sum-same (λ v. one_if (is_same v t.vertex && true)) (λ v. one_if (is_same v t.vertex)) places (Each-all _ (λ v. ap one_if (and-true (is_same v t.vertex))) places) ∙ h refl
    here false h = count_none (λ v. is_same v t.vertex && false) places (Each-all _ (λ v. and-false (is_same v t.vertex)) places)

-- the steps of a vertex on a stack
steps_on : (axes : ℕ) (way : Way) (v : Place) (axis parity : ℕ) → axes ≤ 4 → axis < axes → parity < 2 → IsInside axes v
    → count_by (λ c. is_stack (2 * axis + parity) (stack_in axes way v c)) (around axes way v) ≡ crosses_on axes axis parity v
steps_on axes way v axis parity four a b inside =
    let s = 2 * axis + parity in
    let cells = around axes way v in
    let test = λ (step : Place × Place). s == waiting_stack v (axis_of step) in
    sum-same (λ c. one_if (is_stack s (stack_in axes way v c))) (λ c. count_by test (steps_to axes way v c)) cells (Each-all _ (λ c. one_step c) cells)
    ∙ sym (count-flat_map test (steps_to axes way v) cells)
    ∙ ap (count_by test) (sym (ap (flat_map (steps_to axes way v)) (take_all (length cells) cells (omega arith))) ∙ steps_to_cells axes way v (length cells) four ∙ ap steps (take_all (length cells) cells (omega arith)))
    ∙ by_parity (slice_index v.pos axis % 2 == parity) refl
  where
    one_step : (c : Place) → one_if (is_stack (2 * axis + parity) (stack_in axes way v c)) ≡ count_by (λ step. 2 * axis + parity == waiting_stack v (axis_of step)) (steps_to axes way v c)
    one_step c = elim (one_step_to axes way v c four) [
      | inl none ↦ ap (λ o. one_if (is_stack (2 * axis + parity) (option_map (λ step. waiting_stack v (axis_of step)) o))) (find_none (λ step. is_same step.1 c) (steps (around axes way v)) none) ∙ ap (count_by (λ step. 2 * axis + parity == waiting_stack v (axis_of step))) (sym none)
      | inr one ↦ ap (λ o. one_if (is_stack (2 * axis + parity) (option_map (λ step. waiting_stack v (axis_of step)) o))) (find_first (λ step. is_same step.1 c) (steps (around axes way v)) one.0 [] one.1)
          ∙ omega (arith, sum_by-cons (λ step. one_if (2 * axis + parity == waiting_stack v (axis_of step))) one.0 [], ap (count_by (λ step. 2 * axis + parity == waiting_stack v (axis_of step))) one.1)
    ]

    same_axis : (i : ℕ) → slice_index v.pos axis % 2 ≡ parity → (2 * axis + parity == 2 * i + slice_index v.pos i % 2) ≡ (i == axis)
    same_axis i e = go (i == axis) refl
      where
        go : (t : Bool) → (i == axis) ≡ t → (2 * axis + parity == 2 * i + slice_index v.pos i % 2) ≡ t
        go true k = let at : i ≡ axis = eqb-true i axis k in eq-eqb (2 * axis + parity) (2 * i + slice_index v.pos i % 2) (omega (arith, at, e, ap (λ j. slice_index v.pos j) at))
        go false k = ne_eqb (2 * axis + parity) (2 * i + slice_index v.pos i % 2) (λ h. true≢false (sym (eq-eqb i axis (omega (arith, h))) ∙ k))

    other_parity : (i : ℕ) → slice_index v.pos axis % 2 ≢ parity → (2 * axis + parity == 2 * i + slice_index v.pos i % 2) ≡ false
    other_parity i e = ne_eqb (2 * axis + parity) (2 * i + slice_index v.pos i % 2) (λ h. let at : i ≡ axis = omega (arith, h) in e (omega (arith, h, at, ap (λ j. slice_index v.pos j) at)))

    by_parity : (t : Bool) → (slice_index v.pos axis % 2 == parity) ≡ t → count_by (λ step. 2 * axis + parity == waiting_stack v (axis_of step)) (steps (around axes way v)) ≡ (if t then crossings axes v axis else 0)
    by_parity true e = sum-same (λ step. one_if (2 * axis + parity == waiting_stack v (axis_of step))) (λ step. one_if (axis_of step == axis)) (steps (around axes way v)) (Each-all _ (λ step. ap one_if (same_axis (axis_of step) (eqb-true (slice_index v.pos axis % 2) parity e))) (steps (around axes way v)))
        ∙ crossings-count axes way v axis four a inside
    by_parity false e = count_none (λ step. 2 * axis + parity == waiting_stack v (axis_of step)) (steps (around axes way v)) (Each-all _ (λ step. other_parity (axis_of step) (λ k. true≢false (sym (eq-eqb (slice_index v.pos axis % 2) parity k) ∙ e))) (steps (around axes way v)))

module _ (o : Outlook) (walked : Place → Bool) (greatest : ℕ) (dim : IsDim o.axes) (grown : Grown o walked greatest) where
  -- the loads of one vertex from a stack of an axis
  of_vertex : (axis parity : ℕ) → axis < o.axes → parity < 2 → (v : Place) → o.counts v ≡ true
      → count_by (λ t. is_same v t.vertex && takes_from o (2 * axis + parity) t) (loads_of o greatest root) ≡ crosses_on o.axes axis parity v
  of_vertex axis parity a b v c =
      let s = 2 * axis + parity in
      let all = loads_of o greatest root in
      let here = filter (λ t. is_same v t.vertex) all in
      count-both (λ t. is_same v t.vertex) (takes_from o s) all
      ∙ sum-same (λ t. one_if (takes_from o s t)) (λ t. one_if (is_stack s (stack_in o.axes o.way v t.cell))) here
      (Each-weaker _ _ (λ t h. ap one_if (from_axis t (same_places v t.vertex h.1))) here (Each-filter (λ t. Unit {0}) (λ t. is_same v t.vertex) all (Each-all _ (λ t. tt) all)))
      ∙ sym (count-map (λ cell. is_stack s (stack_in o.axes o.way v cell)) (λ t. t.cell) here)
      ∙ ap (λ ts. count_by (λ cell. is_stack s (stack_in o.axes o.way v cell)) (map (λ t. t.cell) ts)) (filter_same (λ t. is_same v t.vertex) (λ t. is_same t.vertex v) all (Each-all _ (λ t. is_same-symmetric v t.vertex) all))
      ∙ ap (count_by (λ cell. is_stack s (stack_in o.axes o.way v cell))) (loaded_around o walked greatest dim grown v c)
      ∙ steps_on o.axes o.way v axis parity dim.1 a b (grown.is_walk.inside v c)
    where
      near : (2 * axis + parity == input_stack o.swapped) ≡ false
      near = let far = far_input o.swapped in let four = dim.1 in ne_eqb (2 * axis + parity) (input_stack o.swapped) (λ e. omega arith)

      by_stack : (from : Option ℕ) (r : Bool) → is_stack (2 * axis + parity) (first_of from (given r (Some (input_stack o.swapped)))) ≡ is_stack (2 * axis + parity) from
      by_stack (Some w) r = refl
      by_stack None true = near
      by_stack None false = refl

      from_axis : (t : Touch) → v ≡ t.vertex → takes_from o (2 * axis + parity) t ≡ is_stack (2 * axis + parity) (stack_in o.axes o.way v t.cell)
      from_axis t e = ap₂ (λ x y. x && y) (ap o.counts (sym e) ∙ c) (by_stack (stack_in o.axes o.way t.vertex t.cell) (o.reads t.vertex) ∙ ap (λ w. is_stack (2 * axis + parity) (stack_in o.axes o.way w t.cell)) (sym e))

  -- all loads from it, by places that are all that count, each once
  by_vertices : (axis parity : ℕ) → axis < o.axes → parity < 2 → (places : List Place) → ((q : Place) → o.counts q ≡ true → count_by (λ v. is_same v q) places ≡ 1) → Each (λ v. o.counts v ≡ true) places
      → count_by (takes_from o (2 * axis + parity)) (loads_of o greatest root) ≡ sum_by (crosses_on o.axes axis parity) places
  by_vertices axis parity a b places once counting =
      sym (by_places places (takes_from o (2 * axis + parity)) (loads_of o greatest root) (Each-all _ (λ t h. once t.vertex (and_parts (o.counts t.vertex) _ h).0) (loads_of o greatest root)))
      ∙ sum-same (λ v. count_by (λ t. is_same v t.vertex && takes_from o (2 * axis + parity) t) (loads_of o greatest root)) (crosses_on o.axes axis parity) places
      (Each-weaker (λ v. o.counts v ≡ true) _ (λ v c. of_vertex axis parity a b v c) places counting)

  abbrev is_first_load : Touch → Bool
  is_first_load t = o.counts t.vertex && is_none (stack_in o.axes o.way t.vertex t.cell)

  firsts_count : Each (λ v. o.counts v ≡ true) (first_vertices o greatest)
  firsts_count = Each-map (λ v. o.counts v ≡ true) (λ t. t.vertex) (filter is_first_load (loads_of o greatest root))
      (Each-weaker _ (λ t. o.counts t.vertex ≡ true) (λ t h. (and_parts (o.counts t.vertex) _ h.1).0) (filter is_first_load (loads_of o greatest root)) (Each-filter (λ t. Unit {0}) is_first_load (loads_of o greatest root) (Each-all _ (λ t. tt) (loads_of o greatest root))))

  -- each vertex that counts is loaded first once
  first_once : (q : Place) → o.counts q ≡ true → count_by (λ v. is_same v q) (first_vertices o greatest) ≡ 1
  first_once q c =
      let here = λ (t : Touch). is_same t.vertex q in
      let all = loads_of o greatest root in
      let us = filter here all in
      let around_q = loaded_around o walked greatest dim grown q c in
      count-map (λ v. is_same v q) (λ t. t.vertex) (filter is_first_load all)
      ∙ sym (length-filter here (filter is_first_load all))
      ∙ ap length (sym (filter-filter here is_first_load all) ∙ filter_same _ (λ t. here t && is_first_load t) all (Each-all _ (λ t. and_comm (is_first_load t) (here t)) all) ∙ filter-filter is_first_load here all)
      ∙ just_one us (Each-weaker _ (λ t. is_same t.vertex q ≡ true) (λ t h. h.1) us (Each-filter (λ t. Unit {0}) here all (Each-all _ (λ t. tt) all))) around_q
    where
      all_read : Outlook
      all_read = record o { reads = o.counts }

      just_one : (us : List Touch) → Each (λ t. is_same t.vertex q ≡ true) us → map (λ t. t.cell) us ≡ around o.axes o.way q → length (filter (λ t. o.counts t.vertex && is_none (stack_in o.axes o.way t.vertex t.cell)) us) ≡ 1
      just_one [] each e = absurd (omega (arith, ap length e, length-around o.axes o.way q dim.1 (grown.is_walk.inside q c), some_power o.axes))
      just_one (u ∷ us) each e =
          let same : u.vertex ≡ q = same_places u.vertex q each.0 in
          let head : (before (around o.axes o.way q) u.cell == 0) ≡ true = ap (λ cs. before cs u.cell == 0) (sym e) ∙ ap (λ b. (if b then 0 else before (map (λ t. t.cell) us) u.cell + 1) == 0) (is_same_itself u.cell) in
          let passes : (o.counts u.vertex && is_none (stack_in o.axes o.way u.vertex u.cell)) ≡ true =
          ap₂ (λ x y. x && y) (ap o.counts same ∙ c) (ap (λ p. is_none (stack_in o.axes o.way p u.cell)) same ∙ first_around o.axes o.way q u.cell dim.1 (subst (In u.cell) e (inl refl)) ∙ head) in
          let most : length (filter (is_read all_read) (u ∷ us)) ≤ 1 = firsts all_read dim.1 q (u ∷ us) each e in
          let less : length (filter (λ t. o.counts t.vertex && is_none (stack_in o.axes o.way t.vertex t.cell)) (u ∷ us)) ≤ 1 =
          subst (λ n. n ≤ 1) (ap length (filter_same (is_read all_read) _ (u ∷ us) (Each-all _ (λ t. and_twice (o.counts t.vertex) _) (u ∷ us)))) most in
          let more : filter (λ t. o.counts t.vertex && is_none (stack_in o.axes o.way t.vertex t.cell)) (u ∷ us) ≡ u ∷ filter (λ t. o.counts t.vertex && is_none (stack_in o.axes o.way t.vertex t.cell)) us =
          ap (λ b. cond b (u ∷ filter (λ t. o.counts t.vertex && is_none (stack_in o.axes o.way t.vertex t.cell)) us) (filter (λ t. o.counts t.vertex && is_none (stack_in o.axes o.way t.vertex t.cell)) us)) passes in
          omega (arith, less, ap length more)

pub traffic_is_crossings : TrafficIsCrossings
traffic_is_crossings o walked greatest axis parity dim grown a b =
    let s = 2 * axis + parity in
    let once = first_once o walked greatest dim grown in
    let counting = firsts_count o walked greatest dim grown in record {
      pops = by_vertices o walked greatest dim grown axis parity a b (first_vertices o greatest) once counting;
      pushes = sym (count-reverse (gives_to o s) (stores_of o greatest root))
          ∙ ap (count_by (gives_to o s)) (stores-turned o.axes o.way o.walks greatest root)
          ∙ sum-same (λ t. one_if (gives_to o s t)) (λ t. one_if (takes_from (turned o) s t)) (loads_of (turned o) greatest root) (Each-all _ (λ t. ap one_if (gives_by-turned o dim.1 s t)) (loads_of (turned o) greatest root))
          ∙ by_vertices (turned o) walked greatest dim (fits_turned o walked greatest dim grown) axis parity a b (first_vertices o greatest) once counting;
    }

pub hanging_loads : HangingLoads
hanging_loads o walked greatest dim grown =
    let all = loads_of o greatest root in
    let firsts = first_vertices o greatest in
    let each = Each-weaker (λ v. o.counts v ≡ true) (λ v. count_by (λ t. is_same v t.vertex && o.counts t.vertex) all ≡ 2 ^ o.axes) (λ v c. touched v c) firsts (firsts_count o walked greatest dim grown) in
    omega (
      arith,
      count-not (λ t. o.counts t.vertex) all,
      loads_length o greatest root,
      by_places firsts (λ t. o.counts t.vertex) all (Each-all _ (λ t c. first_once o walked greatest dim grown t.vertex c) all),
      sum-same (λ v. count_by (λ t. is_same v t.vertex && o.counts t.vertex) all) (λ v. 2 ^ o.axes) firsts each,
      sum-times (2 ^ o.axes) firsts,
    )
  where
    touched : (v : Place) → o.counts v ≡ true → count_by (λ t. is_same v t.vertex && o.counts t.vertex) (loads_of o greatest root) ≡ 2 ^ o.axes
    touched v c =
        sum-same (λ t. one_if (is_same v t.vertex && o.counts t.vertex)) (λ t. one_if (is_same v t.vertex)) (loads_of o greatest root) (Each-all _ (λ t. ap one_if (only t (is_same v t.vertex) refl)) (loads_of o greatest root))
        ∙ sym (touches_of o walked greatest dim grown v c)
      where
        only : (t : Touch) (b : Bool) → is_same v t.vertex ≡ b → (is_same v t.vertex && o.counts t.vertex) ≡ is_same v t.vertex
        only t true e = ap (λ x. x && o.counts t.vertex) e ∙ ap o.counts (sym (same_places v t.vertex e)) ∙ c ∙ sym e
        only t false e = ap (λ x. x && o.counts t.vertex) e ∙ sym e
