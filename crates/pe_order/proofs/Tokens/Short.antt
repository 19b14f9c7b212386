-- Vertices that count are at most as many as the walked cells, and so no stack is longer.
use Rattle.std.proofs.Common.{◌≡◌, inl, inr, ℕ, zero, suc, ◌+◌, ◌-◌, ◌*◌, ◌^◌, ◌≤◌, Bool, true, false, ◌==◌, List, [], ◌∷◌, ◌++◌, filter, reverse, length, get_or, Option, Some, None, refl, sym, ap, ◌∙◌, subst, true≢false, arith}
use Rattle.std.specs.Prelude.{nat_lt, if◌then◌else◌, sum_by, count_by}
use Rattle.std.specs.List.{flat_map, AllByRecursion as Each}
use Rattle.std.proofs.lemmas.List.{length-map, length-append, length-reverse}
use Rattle.std.proofs.lemmas.List.Sums.{sum_by-cons, length-filter}
use Rattle.std.proofs.Math.Nat.{le_of_mul-le-mul_left, mul-suc, mul-zero}
use Rattle.std.proofs.lemmas.Bool.{and_parts, cases_lt, cases_eq}
use Rattle.pe_base.specs.declared.place.Place.{Place}
use Rattle.pe_base.specs.Tree.Dim.{IsDim}
use Rattle.pe_base.specs.Tree.Places.{root, is_same}
use Rattle.pe_base.specs.Tree.Curve.{children}
use Rattle.pe_base.specs.Steps.Faces.{Touch, corner_touches}
use Rattle.pe_base.specs.Walk.Streams.{if_walks, walked_children, walked_loads, walked_cells}
use Rattle.pe_base.proofs.Lists.{Each-all, Each-weaker, Each-map, Each-filter, filter_same}
use Rattle.pe_base.proofs.Steps.VertexTouches.{is_same_itself}
use Rattle.pe_base.proofs.Faces.Quiet.{false_unless}
use Rattle.pe_base.proofs.Steps.SlowerLaws.{length-around}
use Rattle.pe_base.proofs.Tree.Ranks.{same_places}
use Rattle.pe_stacks.specs.Holdings.{Holdings, new_stack, stack_count, items_at, lent, given_up, pushed, popped}
use Rattle.pe_order.specs.Tokens.{Outlook, Tokens, one_less, is_top, given, taken, put, source, target, touch_of, load_it, load, store_it, store, enter, leave, cell_source, cell_target, numbers}
use Rattle.pe_stacks.specs.Grid.{input_stack}
use Rattle.pe_order.proofs.Tokens.Traversals.{lent_items, root_corners}
use Rattle.pe_order.proofs.Tokens.CountLists.{count-append}
use Rattle.pe_order.specs.Takings.{loads_of, is_read, reads_of, Grown}
use Rattle.pe_order.specs.Traffic.{entered_cells, FewVertices, OnlyCounting, StepsKeepCounting, BeginsCounting, StacksAreShort}
use Rattle.pe_order.proofs.Tokens.Stacks.{popped_same, popped_other, pushed_same, pushed_other}
use Rattle.pe_order.proofs.Tokens.LoadOrder.{loaded_around, root_walks}
use Rattle.pe_order.proofs.Tokens.Keeping.{given_some, walk_keeps}
use Rattle.pe_order.proofs.Tokens.Apart.{map_some, one_if, there, set_past}
use Rattle.pe_order.proofs.Tokens.DepotCounts.{count_none}
use Rattle.pe_order.proofs.Tokens.Traffic.{loads_length, corners_of}
use Rattle.pe_order.proofs.Tests.{some_power}

pub sum-both : {X : Type 0} (f g : X → ℕ) (xs : List X) → sum_by (λ x. f x + g x) xs ≡ sum_by f xs + sum_by g xs
sum-both f g [] = omega arith
sum-both f g (x ∷ xs) = omega (arith, sum_by-cons (λ y. f y + g y) x xs, sum_by-cons f x xs, sum_by-cons g x xs, sum-both f g xs)

sum-zero : {X : Type 0} (xs : List X) → sum_by (λ x. 0) xs ≡ 0
sum-zero [] = refl
sum-zero (x ∷ xs) = sum_by-cons (λ y. 0) x xs ∙ omega (arith, sum-zero xs)

pub sum-same : {X : Type 0} (f g : X → ℕ) (xs : List X) → Each (λ x. f x ≡ g x) xs → sum_by f xs ≡ sum_by g xs
sum-same f g [] e = refl
sum-same f g (x ∷ xs) e = omega (arith, sum_by-cons f x xs, sum_by-cons g x xs, e.0, sum-same f g xs e.1)

pub sum-times : {X : Type 0} (k : ℕ) (xs : List X) → sum_by (λ x. k) xs ≡ k * length xs
sum-times k [] = sym (mul-zero k)
sum-times k (x ∷ xs) = sum_by-cons (λ y. k) x xs ∙ omega (arith, sum-times k xs, mul-suc k (length xs))

-- the touches of places that differ are at most all
each_touch_once : (places : List Place) → ((q : Place) → count_by (λ other. is_same other q) places ≤ 1) → (touches : List Touch) → sum_by (λ p. count_by (λ t. is_same p t.vertex) touches) places ≤ length touches
each_touch_once places once [] = omega (arith, sum-zero places)
each_touch_once places once (t ∷ touches) =
    omega (
      arith,
      each_touch_once places once touches,
      once t.vertex,
      sum-both (λ p. one_if (is_same p t.vertex)) (λ p. count_by (λ u. is_same p u.vertex) touches) places,
      sum-same (λ p. count_by (λ u. is_same p u.vertex) (t ∷ touches)) (λ p. one_if (is_same p t.vertex) + count_by (λ u. is_same p u.vertex) touches) places (Each-all _ (λ p. sum_by-cons (λ u. one_if (is_same p u.vertex)) t touches) places),
    )

pub is_same-symmetric : (a b : Place) → is_same a b ≡ is_same b a
is_same-symmetric a b = go (is_same a b) refl
  where
    go : (c : Bool) → is_same a b ≡ c → is_same a b ≡ is_same b a
    go true e = e ∙ sym (ap (λ z. is_same b z) (same_places a b e) ∙ is_same_itself b)
    go false e = e ∙ sym (false_unless (is_same b a) (λ t. absurd (true≢false (sym (ap (λ z. is_same z b) (sym (same_places b a t)) ∙ is_same_itself b) ∙ e))))

-- a vertex that counts is loaded as often as a cell has corners
pub touches_of : (o : Outlook) (walked : Place → Bool) (greatest : ℕ) → IsDim o.axes → Grown o walked greatest → (p : Place) → o.counts p ≡ true → 2 ^ o.axes ≡ count_by (λ t. is_same p t.vertex) (loads_of o greatest root)
touches_of o walked greatest dim grown p c =
    sym (length-around o.axes o.way p dim.1 (grown.is_walk.inside p c))
    ∙ ap length (sym (loaded_around o walked greatest dim grown p c))
    ∙ length-map (filter (λ t. is_same t.vertex p) (loads_of o greatest root)) (λ t. t.cell)
    ∙ ap length (filter_same (λ t. is_same t.vertex p) (λ t. is_same p t.vertex) (loads_of o greatest root) (Each-all _ (λ t. is_same-symmetric t.vertex p) (loads_of o greatest root)))
    ∙ length-filter (λ t. is_same p t.vertex) (loads_of o greatest root)

-- the loads of a traversal are those of the root's corners, and 2^d for each cell below
pub record LoadsBelow (o : Outlook) (greatest : ℕ) : Type 0 where
  pub rest : List Touch
  pub all : loads_of o greatest root ≡ reverse (corner_touches o.axes root) ++ rest
  pub many : length rest ≡ 2 ^ o.axes * length (entered_cells o greatest)

pub loads_below : (o : Outlook) (walked : Place → Bool) (greatest : ℕ) → IsDim o.axes → Grown o walked greatest → LoadsBelow o greatest
loads_below o walked greatest dim grown =
    let rest = flat_map (walked_loads o.axes o.way o.walks (greatest - 1)) (walked_children o.axes o.way o.walks root) in
    let walks = root_walks o walked greatest dim grown in
    let deep : greatest ≡ suc (greatest - 1) = omega (arith, grown.walks_within root walks) in
    let all : loads_of o greatest root ≡ reverse (corner_touches o.axes root) ++ rest = ap (λ n. loads_of o n root) deep in
    let cells : walked_cells o.axes o.way o.walks greatest root ≡ root ∷ entered_cells o greatest =
    ap (λ n. walked_cells o.axes o.way o.walks n root) deep ∙ ap (λ b. root ∷ flat_map (walked_cells o.axes o.way o.walks (greatest - 1)) (if_walks o.axes o.way o.walks b (children o.axes o.way root))) walks in
    let count = loads_length o greatest root ∙ ap (λ cs. 2 ^ o.axes * length cs) cells ∙ mul-suc (2 ^ o.axes) (length (entered_cells o greatest)) in
    let own : length (reverse (corner_touches o.axes root)) ≡ 2 ^ o.axes = length-reverse (corner_touches o.axes root) ∙ corners_of o.axes root in
    record { rest = rest; all = all; many = omega (arith, ap length all, length-append (reverse (corner_touches o.axes root)) rest, count, own) }

pub few_vertices : FewVertices
few_vertices o walked greatest places dim grown once counting =
    let below = loads_below o walked greatest dim grown in
    let each = Each-weaker (λ p. o.counts p ≡ true) (λ p. 2 ^ o.axes ≡ count_by (λ t. is_same p t.vertex) below.rest) (λ p c. touched_below p c) places counting in
    le_of_mul-le-mul_left {k = 2 ^ o.axes} (
    omega (arith, sym (sum-times (2 ^ o.axes) places) ∙ sum-same (λ p. 2 ^ o.axes) (λ p. count_by (λ t. is_same p t.vertex) below.rest) places each, each_touch_once places once below.rest, below.many)
    ) (some_power o.axes)
  where
    touched_below : (p : Place) → o.counts p ≡ true → 2 ^ o.axes ≡ count_by (λ t. is_same p t.vertex) (loads_below o walked greatest dim grown).rest
    touched_below p c =
        let below = loads_below o walked greatest dim grown in
        let none : count_by (λ t. is_same p t.vertex) (reverse (corner_touches o.axes root)) ≡ 0 =
        count_none (λ t. is_same p t.vertex) (reverse (corner_touches o.axes root)) (Each-weaker (λ t. o.counts t.vertex ≡ false) (λ t. is_same p t.vertex ≡ false)
        (λ t off. false_unless (is_same p t.vertex) (λ k. absurd (true≢false (sym c ∙ ap o.counts (same_places p t.vertex k) ∙ off)))) (reverse (corner_touches o.axes root)) (root_corners o walked greatest dim grown)) in
        omega (
          arith,
          touches_of o walked greatest dim grown p c,
          ap (count_by (λ t. is_same p t.vertex)) below.all,
          count-append (λ t. is_same p t.vertex) (reverse (corner_touches o.axes root)) below.rest,
          none,
        )

-- all places of each stack count
module _ (o : Outlook) where
  abbrev Counting : List Place → Type 0
  Counting xs = Each (λ place. o.counts place ≡ true) xs

  popped_counting : (held : Holdings Place) (w : ℕ) → ((s : ℕ) → Counting (items_at held s)) → (x : Place) (xs : List Place) → items_at held w ≡ x ∷ xs → (s : ℕ) → Counting (items_at (popped held w) s)
  popped_counting held w only x xs e s = elim (cases_eq s w) [
    | inl k ↦ subst Counting (sym (ap (items_at (popped held w)) k ∙ popped_same held w x xs e)) (subst Counting e (only w)).1
    | inr k ↦ subst Counting (sym (popped_other held w s k)) (only s)
  ]

  taken_counting : (from : Option ℕ) (place : Place) (held after : Holdings Place) → taken from place held ≡ Some after → ((s : ℕ) → Counting (items_at held s)) → (s : ℕ) → Counting (items_at after s)
  taken_counting None place held after e only = let same : lent held ≡ after = cc in subst (λ h. (s : ℕ) → Counting (items_at h s)) same only
  taken_counting (Some w) place held after e only = go (items_at held w) refl e
    where
      go : (xs : List Place) → items_at held w ≡ xs → given (is_top place xs) (Some (popped held w)) ≡ Some after → (s : ℕ) → Counting (items_at after s)
      go [] k f = absurd cc
      go (x ∷ xs) k f =
          let g = given_some (is_top place (x ∷ xs)) (Some (popped held w)) after f in
          let same : popped held w ≡ after = cc (g.1) in
          subst (λ h. (s : ℕ) → Counting (items_at h s)) same (popped_counting held w only x xs k)

  put_counting : (to : Option ℕ) (place : Place) (held : Holdings Place) → o.counts place ≡ true → ((s : ℕ) → Counting (items_at held s)) → (s : ℕ) → Counting (items_at (put to place held) s)
  put_counting None place held c only s = only s
  put_counting (Some w) place held c only s = elim (cases_lt w (stack_count held)) [
    | inl h ↦ elim (cases_eq s w) [
      | inl k ↦ subst Counting (sym (ap (items_at (pushed held w place)) k ∙ pushed_same held w place h)) (c, only w)
      | inr k ↦ subst Counting (sym (pushed_other held w s place k)) (only s)
    ]
    | inr h ↦ subst (λ stacks. Counting (get_or stacks s new_stack).items) (sym (set_past held.stacks w _ h)) (only s)
  ]

  load_counting : (cell : Place) (k : ℕ) (t after : Tokens) → load o cell k t ≡ Some after → OnlyCounting o t → OnlyCounting o after
  load_counting cell k t after e only = go (o.counts (touch_of o cell k).vertex) e
    where
      go : (b : Bool) → (if b then load_it o (touch_of o cell k) t else (Some (record t { vertices = lent t.vertices }))) ≡ Some after → OnlyCounting o after
      go true f =
          let g = given_some _ _ after f in
          let m = map_some _ (taken (source o (touch_of o cell k)) (touch_of o cell k).vertex t.vertices) after g.1 in
          subst (OnlyCounting o) m.2 (taken_counting (source o (touch_of o cell k)) (touch_of o cell k).vertex t.vertices m.0 m.1 only)
      go false f =
          let made : Tokens = record t { vertices = lent t.vertices } in
          let same : made ≡ after = cc in
          subst (OnlyCounting o) same only

  store_counting : (cell : Place) (k : ℕ) (t after : Tokens) → store o cell k t ≡ Some after → OnlyCounting o t → OnlyCounting o after
  store_counting cell k t after e only = go (o.counts (touch_of o cell k).vertex) refl e
    where
      go : (b : Bool) → o.counts (touch_of o cell k).vertex ≡ b → (if b then store_it o (touch_of o cell k) t else (Some (record t { vertices = given_up t.vertices }))) ≡ Some after → OnlyCounting o after
      go true c f =
          let stored : Tokens = record t { vertices = put (target o (touch_of o cell k)) (touch_of o cell k).vertex t.vertices; held = one_less (touch_of o cell k).vertex t.held } in
          let g = given_some (nat_lt 0 (t.held (touch_of o cell k).vertex)) (Some stored) after f in
          let same : stored ≡ after = cc (g.1) in
          subst (OnlyCounting o) same (put_counting (target o (touch_of o cell k)) (touch_of o cell k).vertex t.vertices c only)
      go false c f =
          let gone : Tokens = record t { vertices = given_up t.vertices } in
          let same : gone ≡ after = cc in
          subst (OnlyCounting o) same only

  enter_counting : (cell : Place) (t after : Tokens) → enter o cell t ≡ Some after → OnlyCounting o t → OnlyCounting o after
  enter_counting cell t after e only =
      let m = map_some (λ cells. record t { cells = cells }) (taken (cell_source o cell) cell t.cells) after e in
      subst (OnlyCounting o) m.2 only

  leave_counting : (cell : Place) (t after : Tokens) → leave o cell t ≡ Some after → OnlyCounting o t → OnlyCounting o after
  leave_counting cell t after e only =
      let gone : Tokens = record t { cells = put (cell_target o cell) cell t.cells } in
      let same : gone ≡ after = cc in
      subst (OnlyCounting o) same only

pub steps_keep_counting : StepsKeepCounting
steps_keep_counting o dim = record {
  loads = load_counting o;
  stores = store_counting o;
  walks = λ levels cell t after is_cell e only. walk_keeps (OnlyCounting o) o dim.1 (λ c k i h t after e p. load_counting o c k t after e p) (λ c k i h t after e p. store_counting o c k t after e p) (enter_counting o) (leave_counting o) levels cell is_cell t after e only;
}

-- what lies on one stack lies on the stacks
one_of_all : {X : Type 0} (f : X → ℕ) (xs : List X) (i : ℕ) (d : X) → f d ≡ 0 → f (get_or xs i d) ≤ sum_by f xs
one_of_all f [] i d z = omega (arith, z)
one_of_all f (x ∷ xs) zero d z = omega (arith, sum_by-cons f x xs)
one_of_all f (x ∷ xs) (suc i) d z = omega (arith, sum_by-cons f x xs, one_of_all f xs i d z)

pub stacks_are_short : StacksAreShort
stacks_are_short o walked greatest t dim grown apart only s = few_vertices o walked greatest (items_at t.vertices s) dim grown (λ q. once q (o.counts q) refl) (only s)
  where
    once : (q : Place) (b : Bool) → o.counts q ≡ b → count_by (λ other. is_same other q) (items_at t.vertices s) ≤ 1
    once q true c = omega (arith, one_of_all (there q) t.vertices.stacks s new_stack refl, apart.once q c)
    once q false c = omega (arith, count_none (λ other. is_same other q) (items_at t.vertices s) (none (items_at t.vertices s) (only s)))
      where
        none : (xs : List Place) → Each (λ place. o.counts place ≡ true) xs → Each (λ x. is_same x q ≡ false) xs
        none [] e = tt
        none (x ∷ xs) e = (false_unless (is_same x q) (λ k. absurd (true≢false (sym e.0 ∙ ap o.counts (same_places x q k) ∙ c))), none xs e.1)

pub begins_counting : BeginsCounting
begins_counting o greatest t may s = subst (Each (λ place. o.counts place ≡ true)) (sym (lent_items (numbers o) t.vertices s ∙ may.reads_vertices s)) (go (s == input_stack o.swapped))
  where
    reads : Each (λ place. o.counts place ≡ true) (reads_of o greatest root)
    reads = Each-map (λ place. o.counts place ≡ true) (λ t. t.vertex) (filter (is_read o) (loads_of o greatest root))
        (Each-weaker _ (λ t. o.counts t.vertex ≡ true) (λ t h. (and_parts (o.counts t.vertex) _ h.1).0) (filter (is_read o) (loads_of o greatest root)) (Each-filter (λ t. Unit {0}) (is_read o) (loads_of o greatest root) (Each-all _ (λ t. tt) (loads_of o greatest root))))

    go : (b : Bool) → Each (λ place. o.counts place ≡ true) (if b then reads_of o greatest root else [])
    go true = reads
    go false = tt
