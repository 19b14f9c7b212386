-- A place that counts is on one stack once, or held, or nowhere.
use Rattle.std.specs.List.{AllByRecursion as Each}
use Rattle.std.proofs.Common.{◌≡◌, ◌≢◌, ◌⊎◌, inl, inr, ℕ, zero, suc, ◌+◌, ◌-◌, ◌^◌, ◌<◌, ◌≤◌, Bool, true, false, cond, ◌&&◌, ◌==◌, List, [], ◌∷◌, map, filter, length, set, get_or, drop, Option, Some, None, refl, sym, ap, ap₂, ◌∙◌, subst, arith}
use Rattle.std.specs.Prelude.{nat_lt, is_none, if◌then◌else◌, sum_by, count_by}
use Rattle.std.specs.Option.{option_map}
use Rattle.std.proofs.lemmas.Bool.Decides.{nat_tests}
use Rattle.std.proofs.lemmas.List.{length-map}
use Rattle.std.proofs.lemmas.List.Sums.{sum_by-set, sum_by-cons, length-filter}
use Rattle.std.proofs.lemmas.Bool.{ne_eqb, eqb-true, cases_lt}
use Rattle.std.proofs.Math.Bool.{and_comm}
use Rattle.pe_base.specs.declared.place.Place.{Place}
use Rattle.pe_base.specs.Tree.Dim.{IsDim}
use Rattle.pe_base.specs.Tree.Places.{root, is_same}
use Rattle.pe_base.specs.Steps.Around.{around}
use Rattle.pe_base.specs.Steps.Routes.{stack_in}
use Rattle.pe_base.specs.Steps.Faces.{Touch}
use Rattle.pe_base.proofs.Lists.{Each-all, Each-weaker, Each-filter, In, filter-map, filter-filter, filter_same, filter_none}
use Rattle.pe_base.proofs.Tree.Ranks.{Rising, Rising-above, rank, rank_of, top, around_rises, is_same-true, same_places}
use Rattle.pe_base.proofs.Steps.VertexTouches.{same_itself}
use Rattle.pe_base.proofs.Faces.Quiet.{false_unless}
use Rattle.pe_stacks.specs.Holdings.{Holdings, Stack, new_stack, stack_count, stack_at, items_at, lent, given_up, pushed, popped, pushed_on, popped_from}
use Rattle.pe_stacks.specs.Grid.{input_stack}
use Rattle.pe_order.specs.Laws.{IsCell}
use Rattle.pe_order.specs.Tokens.{Outlook, Tokens, one_more, one_less, before, cells_before, is_top, given, first_of, taken, put, source, target, touch_of, load_it, load, store_it, store, enter, leave, cell_target, numbers, begun}
use Rattle.pe_order.specs.Takings.{loads_of, is_read, reads_of, Grown}
use Rattle.pe_order.specs.Apart.{lies, occurs, IsApart, StepsKeepApart, BeginsApart}
use Rattle.pe_order.proofs.Outlooks.{un_map}
use Rattle.pe_order.proofs.Tokens.Stacks.{is_stack_of}
use Rattle.pe_order.proofs.Tokens.LoadOrder.{loaded_around}
use Rattle.pe_order.proofs.Tokens.Keeping.{given_some, walk_keeps}
use Rattle.pe_order.proofs.Tokens.Counting.{first_around, corners_by_counting, not_zero}
use Rattle.pe_order.proofs.Tokens.Traversals.{lent_items, lent_stacks}
use Rattle.pe_order.proofs.Tokens.Bounds.{few_input_stacks}

abbrev pub one_if : Bool → ℕ
one_if b = cond b 1 0

pub at_most_one : (b : Bool) → one_if b ≤ 1
at_most_one true = omega arith
at_most_one false = omega arith

abbrev pub there : Place → Stack Place → ℕ
there place stack = count_by (λ other. is_same other place) stack.items

pub set_past : {X : Type 0} (xs : List X) (i : ℕ) (y : X) → length xs ≤ i → set xs i y ≡ xs
set_past [] i y h = refl
set_past (x ∷ xs) zero y h = absurd (omega arith)
set_past (x ∷ xs) (suc i) y h = ap (λ ys. x ∷ ys) (set_past xs i y (omega arith))

-- what a pop and a push do
lies-popped : (held : Holdings Place) (s : ℕ) (x : Place) (xs : List Place) → items_at held s ≡ x ∷ xs → (place : Place) → lies (popped held s) place + one_if (is_same x place) ≡ lies held place
lies-popped held s x xs e place =
    omega (
      arith,
      sum_by-set (there place) held.stacks s (popped_from (stack_at held s)) new_stack (is_stack_of held s x xs e),
      ap (count_by (λ other. is_same other place)) e,
      sum_by-cons (λ other. one_if (is_same other place)) x xs,
      ap (λ ys. count_by (λ other. is_same other place) (drop 1 ys)) e,
    )

lies-pushed : (held : Holdings Place) (s : ℕ) (x place : Place) → lies (pushed held s x) place ≤ lies held place + one_if (is_same x place)
lies-pushed held s x place = elim (cases_lt s (stack_count held)) [
  | inl h ↦ omega (
    arith,
    sum_by-set (there place) held.stacks s (pushed_on (stack_at held s) x) new_stack h,
    sum_by-cons (λ other. one_if (is_same other place)) x (items_at held s),
  )
  | inr h ↦ omega (arith, ap (sum_by (there place)) (set_past held.stacks s (pushed_on (stack_at held s) x) h))
]

pub map_some : {X Y : Type 0} (f : X → Y) (o : Option X) (y : Y) → option_map f o ≡ Some y → (x : X) × (o ≡ Some x) × (f x ≡ y)
map_some f None y e = absurd cc
map_some f (Some x) y e = (x, refl, cc)

-- what is taken was on top, or is new
pub taken_was : (from : Option ℕ) (place : Place) (held after : Holdings Place) → taken from place held ≡ Some after
    → ((from ≡ None) × ((q : Place) → lies after q ≡ lies held q)) ⊎ ((q : Place) → lies after q + one_if (is_same place q) ≡ lies held q)
taken_was None place held after e = let same : lent held ≡ after = cc in inl (refl, (λ q. ap (λ h. lies h q) (sym same)))
taken_was (Some s) place held after e = go (items_at held s) refl e
  where
    go : (xs : List Place) → items_at held s ≡ xs → given (is_top place xs) (Some (popped held s)) ≡ Some after
        → ((Some s ≡ None) × ((q : Place) → lies after q ≡ lies held q)) ⊎ ((q : Place) → lies after q + one_if (is_same place q) ≡ lies held q)
    go [] k f = absurd cc
    go (x ∷ xs) k f =
        let g = given_some (is_same x place) (Some (popped held s)) after f in
        let same : popped held s ≡ after = cc (g.1) in
        let is : x ≡ place = same_places x place g.0 in
        inr (λ q. ap₂ (λ h p. lies h q + one_if (is_same p q)) (sym same) (sym is) ∙ lies-popped held s x xs k q)

put_at_most : (to : Option ℕ) (place : Place) (held : Holdings Place) (q : Place) → lies (put to place held) q ≤ lies held q + one_if (is_same place q)
put_at_most None place held q = omega arith
put_at_most (Some s) place held q = lies-pushed held s place q

no_source : (from : Option ℕ) (r : Bool) (s : ℕ) → first_of from (given r (Some s)) ≡ None → (from ≡ None) × (r ≡ false)
no_source None true s e = absurd cc
no_source None false s e = (refl, refl)
no_source (Some w) r s e = absurd cc

pub one_more_is : (place q : Place) (f : Place → ℕ) → one_more place f q ≡ f q + one_if (is_same place q)
one_more_is place q f = go (is_same place q) (f q)
  where
    go : (b : Bool) (n : ℕ) → (if b then n + 1 else n) ≡ n + one_if b
    go true n = refl
    go false n = omega arith

module _ (o : Outlook) (dim : IsDim o.axes) where
  -- where nothing occurs more often and what was met stays met
  fewer : (t after : Tokens) → ((q : Place) → occurs after q ≤ occurs t q) → ((q : Place) → after.met q ≡ t.met q) → IsApart o t → IsApart o after
  fewer t after less met apart = record {
    once = λ q c. omega (arith, less q, apart.once q c);
    unmet = λ q c r m. omega (arith, less q, apart.unmet q c r (sym (met q) ∙ m));
  }

  load_keeps : (cell : Place) (k : ℕ) (t after : Tokens) → IsCell o.axes o.way cell → k < 2 ^ o.axes → load o cell k t ≡ Some after → IsApart o t → IsApart o after
  load_keeps cell k t after is_cell below e apart = go (o.counts v) refl e
    where
      touch : Touch
      touch = touch_of o cell k

      v : Place
      v = touch.vertex

      loaded : (h : Holdings Place) → Tokens
      loaded h = record { vertices = h; cells = t.cells; held = one_more v t.held; met = one_more v t.met }

      met_before : (q : Place) → one_more v t.met q ≡ 0 → t.met q ≡ 0
      met_before q m = omega (arith, one_more_is v q t.met)

      -- from a stack: as often as before
      moved : (h : Holdings Place) → ((q : Place) → lies h q + one_if (is_same v q) ≡ lies t.vertices q) → IsApart o (record { vertices = h; cells = t.cells; held = one_more v t.held; met = one_more v t.met })
      moved h lay = record {
        once = λ q c. omega (arith, apart.once q c, lay q, one_more_is v q t.held);
        unmet = λ q c r m. omega (arith, apart.unmet q c r (met_before q m), lay q, one_more_is v q t.held);
      }

      -- new: it was nowhere
      made : (h : Holdings Place) → o.counts v ≡ true → o.reads v ≡ false → t.met v ≡ 0 → ((q : Place) → lies h q ≡ lies t.vertices q) → IsApart o (record { vertices = h; cells = t.cells; held = one_more v t.held; met = one_more v t.met })
      made h counts unread first lay = record {
        once = λ q c. by_place q c (is_same v q) refl;
        unmet = λ q c r m. other q c r m (is_same v q) refl;
      }
        where
          nowhere : occurs t v ≡ 0
          nowhere = apart.unmet v counts unread first

          by_place : (q : Place) → o.counts q ≡ true → (b : Bool) → is_same v q ≡ b → one_more v t.held q + lies h q ≤ 1
          by_place q c true e = omega (arith, one_more_is v q t.held, ap one_if e, lay q, ap (occurs t) (sym (same_places v q e)) ∙ nowhere)
          by_place q c false e = omega (arith, one_more_is v q t.held, ap one_if e, lay q, apart.once q c)

          other : (q : Place) → o.counts q ≡ true → o.reads q ≡ false → one_more v t.met q ≡ 0 → (b : Bool) → is_same v q ≡ b → one_more v t.held q + lies h q ≡ 0
          other q c r m true e = absurd (omega (arith, one_more_is v q t.met, ap one_if e, m))
          other q c r m false e = omega (arith, one_more_is v q t.held, ap one_if e, lay q, apart.unmet q c r (met_before q m))

      go : (b : Bool) → o.counts v ≡ b → (if b then load_it o touch t else (Some (record t { vertices = lent t.vertices }))) ≡ Some after → IsApart o after
      go false c f =
          let same : record t { vertices = lent t.vertices } ≡ after = cc in
          subst (IsApart o) same (record { once = apart.once; unmet = apart.unmet })
      go true c f =
          let g = given_some (t.met v == cells_before o.axes o.way touch) _ after f in
          let m = map_some (λ h. record { vertices = h; cells = t.cells; held = one_more v t.held; met = one_more v t.met }) (taken (source o touch) v t.vertices) after g.1 in
          subst (IsApart o) m.2 (elim (taken_was (source o touch) v t.vertices m.0 m.1) [
            | inl new ↦
                let none = no_source (stack_in o.axes o.way v cell) (o.reads v) (input_stack o.swapped) new.0 in
                let first : before (around o.axes o.way v) cell ≡ 0 = eqb-true _ 0 (sym (corners_by_counting o.axes o.way cell k dim is_cell below).first ∙ ap is_none none.0) in
                made m.0 c none.1 (eqb-true (t.met v) (cells_before o.axes o.way touch) g.0 ∙ first) new.1
            | inr lay ↦ moved m.0 lay
          ])

  store_keeps : (cell : Place) (k : ℕ) (t after : Tokens) → store o cell k t ≡ Some after → IsApart o t → IsApart o after
  store_keeps cell k t after e apart = go (o.counts v) refl e
    where
      touch : Touch
      touch = touch_of o cell k

      v : Place
      v = touch.vertex

      less : 0 < t.held v → (q : Place) → one_less v t.held q + one_if (is_same v q) ≡ t.held q
      less h q = by_place (is_same v q) refl
        where
          by_place : (b : Bool) → is_same v q ≡ b → (if b then t.held q - 1 else t.held q) + one_if b ≡ t.held q
          by_place true e = omega (arith, h, ap t.held (same_places v q e))
          by_place false e = omega arith

      go : (b : Bool) → o.counts v ≡ b → (if b then store_it o touch t else (Some (record t { vertices = given_up t.vertices }))) ≡ Some after → IsApart o after
      go false c f =
          let same : record t { vertices = given_up t.vertices } ≡ after = cc in
          subst (IsApart o) same (record { once = apart.once; unmet = apart.unmet })
      go true c f =
          let g = given_some (nat_lt 0 (t.held v)) _ after f in
          let stored : Tokens = record t { vertices = put (target o touch) v t.vertices; held = one_less v t.held } in
          let same : stored ≡ after = cc (g.1) in
          let some : 0 < t.held v = positive (t.held v) g.0 in
          subst (IsApart o) same (fewer t stored (λ q. omega (arith, less some q, put_at_most (target o touch) v t.vertices q)) (λ q. refl) apart)
        where
          positive : (n : ℕ) → nat_lt 0 n ≡ true → 0 < n
          positive n h = grind (arith, nat_tests)

  enter_keeps : (cell : Place) (t after : Tokens) → enter o cell t ≡ Some after → IsApart o t → IsApart o after
  enter_keeps cell t after e apart =
      let m = map_some (λ cells. record t { cells = cells }) _ after e in
      subst (IsApart o) m.2 (record { once = apart.once; unmet = apart.unmet })

  leave_keeps : (cell : Place) (t after : Tokens) → leave o cell t ≡ Some after → IsApart o t → IsApart o after
  leave_keeps cell t after e apart =
      let left : Tokens = record t { cells = put (cell_target o cell) cell t.cells } in
      let same : left ≡ after = cc in
      subst (IsApart o) same (record { once = apart.once; unmet = apart.unmet })

pub steps_keep_apart : StepsKeepApart
steps_keep_apart o dim = record {
  loads = load_keeps o dim;
  stores = λ cell k t after is_cell below e apart. store_keeps o dim cell k t after e apart;
  enters = enter_keeps o dim;
  leaves = leave_keeps o dim;
  walks = λ levels cell t after is_cell e apart. walk_keeps (IsApart o) o dim.1 (λ c k i h t after e p. load_keeps o dim c k t after i h e p) (λ c k i h t after e p. store_keeps o dim c k t after e p) (enter_keeps o dim) (leave_keeps o dim) levels cell is_cell t after e apart;
}

-- where all other stacks are empty
pub sum_only : {X : Type 0} (f : X → ℕ) (xs : List X) (i : ℕ) (d : X) → i < length xs → ((j : ℕ) → j ≢ i → f (get_or xs j d) ≡ 0) → sum_by f xs ≡ f (get_or xs i d)
sum_only f [] i d h none = absurd (omega arith)
sum_only f (x ∷ xs) zero d h none = sum_by-cons f x xs ∙ omega (arith, all_none f xs d (λ j. none (suc j) (λ e. omega (arith, e))))
  where
    all_none : {Y : Type 0} (g : Y → ℕ) (ys : List Y) (e : Y) → ((j : ℕ) → g (get_or ys j e) ≡ 0) → sum_by g ys ≡ 0
    all_none g [] e n = refl
    all_none g (y ∷ ys) e n = sum_by-cons g y ys ∙ omega (arith, n 0, all_none g ys e (λ j. n (suc j)))
sum_only f (x ∷ xs) (suc i) d h none = sum_by-cons f x xs ∙ omega (arith, none 0 (λ e. omega (arith, e)), sum_only f xs i d (omega arith) (λ j k. none (suc j) (λ e. k (omega (arith, e)))))

-- of the loads of one vertex, at most the first is for the first of the cells around it
pub firsts : (o : Outlook) → o.axes ≤ 4 → (v : Place) (touches : List Touch) → Each (λ t. is_same t.vertex v ≡ true) touches → map (λ t. t.cell) touches ≡ around o.axes o.way v → length (filter (is_read o) touches) ≤ 1
firsts o four v [] each e = omega arith
firsts o four v (touch ∷ touches) each e =
    let around_v = around o.axes o.way v in
    let r = rank_of o.axes o.way v.level in
    let ranks : (x y : Place) → is_same x y ≡ true → r x ≡ r y = λ x y k. ap (λ p. rank o.axes o.way v.level p) (is_same-true x y k).1 in
    let rise = subst (λ cs. Rising r 0 cs (top o.axes v.level)) (sym e) (around_rises o.axes o.way v four) in
    let above = un_map (λ c. suc (r touch.cell) ≤ r c) (λ t. t.cell) touches (Rising-above r (suc (r touch.cell)) (top o.axes v.level) (map (λ t. t.cell) touches) rise.1) in
    let inside = un_map (λ c. In c around_v) (λ t. t.cell) touches (subst (λ cs. Each (λ c. In c cs) (map (λ t. t.cell) touches)) e (each_behind touch.cell (map (λ t. t.cell) touches))) in
    let late = filter_none (is_read o) touches (three touches each.1 above inside (λ t s up i.
    let same : t.vertex ≡ v = same_places t.vertex v s in
    let later : (before around_v t.cell == 0) ≡ false =
    ap (λ cs. before cs t.cell == 0) (sym e) ∙ ap (λ b. (if b then 0 else before (map (λ t. t.cell) touches) t.cell + 1) == 0) (false_unless (is_same touch.cell t.cell) (λ k. omega (arith, up, ranks touch.cell t.cell k))) ∙ not_zero (before (map (λ t. t.cell) touches) t.cell) in
    no_read (o.counts t.vertex) (o.reads t.vertex) _ (ap (λ p. is_none (stack_in o.axes o.way p t.cell)) same ∙ first_around o.axes o.way v t.cell four i ∙ later))) in
    one_or_none (is_read o touch) late
  where
    no_read : (a b c : Bool) → c ≡ false → (a && (b && c)) ≡ false
    no_read true true c h = h
    no_read true false c h = refl
    no_read false b c h = refl

    each_behind : (x : Place) (xs : List Place) → Each (λ y. In y (x ∷ xs)) xs
    each_behind x [] = tt
    each_behind x (y ∷ ys) = (inr (inl refl), Each-weaker (λ z. In z (y ∷ ys)) (λ z. In z (x ∷ y ∷ ys)) (λ z i. inr i) ys (each_behind y ys))

    three : (ts : List Touch) → Each (λ t. is_same t.vertex v ≡ true) ts → Each (λ t. suc (rank_of o.axes o.way v.level touch.cell) ≤ rank_of o.axes o.way v.level t.cell) ts → Each (λ t. In t.cell (around o.axes o.way v)) ts
        → ((t : Touch) → is_same t.vertex v ≡ true → suc (rank_of o.axes o.way v.level touch.cell) ≤ rank_of o.axes o.way v.level t.cell → In t.cell (around o.axes o.way v) → is_read o t ≡ false) → Each (λ t. is_read o t ≡ false) ts
    three [] a b c h = tt
    three (t ∷ ts) a b c h = (h t a.0 b.0 c.0, three ts a.1 b.1 c.1 h)

    one_or_none : (b : Bool) → filter (is_read o) touches ≡ [] → length (cond b (touch ∷ filter (is_read o) touches) (filter (is_read o) touches)) ≤ 1
    one_or_none true h = omega (arith, ap length h)
    one_or_none false h = omega (arith, ap length h)

-- where only one stack is not empty, a place lies there
pub lies_only : (held : Holdings Place) (s : ℕ) (xs : List Place) → s < stack_count held → ((r : ℕ) → items_at held r ≡ (if r == s then xs else [])) → (place : Place) → lies held place ≡ count_by (λ other. is_same other place) xs
lies_only held s xs low items place =
    sum_only (there place) held.stacks s new_stack low (λ r k. ap (count_by (λ other. is_same other place)) (items r ∙ ap (λ b. if b then xs else []) (ne_eqb r s k)))
    ∙ ap (count_by (λ other. is_same other place)) (items s ∙ ap (λ b. if b then xs else []) (same_itself s))

-- what is read, by the loads of each vertex
module _ (o : Outlook) (greatest : ℕ) (q : Place) where
  pub reading : count_by (λ p. is_same p q) (reads_of o greatest root) ≡ length (filter (is_read o) (filter (λ t. is_same t.vertex q) (loads_of o greatest root)))
  reading =
      let here = λ (t : Touch). is_same t.vertex q in
      let all = loads_of o greatest root in
      sym (length-filter (λ p. is_same p q) (reads_of o greatest root))
      ∙ ap length (filter-map (λ p. is_same p q) (λ t. t.vertex) (filter (is_read o) all))
      ∙ length-map (filter here (filter (is_read o) all)) (λ t. t.vertex)
      ∙ ap length (sym (filter-filter here (is_read o) all) ∙ filter_same _ (λ t. here t && is_read o t) all (Each-all _ (λ t. and_comm (is_read o t) (here t)) all) ∙ filter-filter (is_read o) here all)

  pub its_loads : Each (λ t. is_same t.vertex q ≡ true) (filter (λ t. is_same t.vertex q) (loads_of o greatest root))
  its_loads = Each-weaker _ (λ t. is_same t.vertex q ≡ true) (λ t h. h.1) _ (Each-filter (λ t. Unit {0}) (λ t. is_same t.vertex q) (loads_of o greatest root) (Each-all _ (λ t. tt) (loads_of o greatest root)))

  pub not_read : o.reads q ≡ false → count_by (λ p. is_same p q) (reads_of o greatest root) ≡ 0
  not_read r = reading ∙ ap length (filter_none (is_read o) (filter (λ t. is_same t.vertex q) (loads_of o greatest root))
      (Each-weaker _ _ (λ t s. unread (o.counts t.vertex) (ap o.reads (same_places t.vertex q s) ∙ r) _) (filter (λ t. is_same t.vertex q) (loads_of o greatest root)) its_loads))
    where
      unread : {b : Bool} (a : Bool) → b ≡ false → (x : Bool) → (a && (b && x)) ≡ false
      unread true h x = ap (λ y. y && x) h
      unread false h x = refl

-- what counts is read once at most
pub reads_once : (o : Outlook) (walked : Place → Bool) (greatest : ℕ) → IsDim o.axes → Grown o walked greatest → (q : Place) → o.counts q ≡ true → count_by (λ p. is_same p q) (reads_of o greatest root) ≤ 1
reads_once o walked greatest dim grown q c =
    omega (arith, reading o greatest q, firsts o dim.1 q (filter (λ t. is_same t.vertex q) (loads_of o greatest root)) (its_loads o greatest q) (loaded_around o walked greatest dim grown q c))

pub begins_apart : BeginsApart
begins_apart o walked greatest t dim grown may free = record {
  once = λ q c. omega (arith, free q, on_input q, reads_once o walked greatest dim grown q c);
  unmet = λ q c r m. omega (arith, free q, on_input q, not_read o greatest q r);
}
  where
    on_input : (q : Place) → lies (begun o t).vertices q ≡ count_by (λ p. is_same p q) (reads_of o greatest root)
    on_input =
        lies_only (begun o t).vertices (input_stack o.swapped) (reads_of o greatest root) (omega (arith, few_input_stacks o.swapped, lent_stacks (numbers o) t.vertices, may.stacks))
        (λ s. lent_items (numbers o) t.vertices s ∙ may.reads_vertices s)
