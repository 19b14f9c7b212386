-- The cells that are still to be entered lie where they lay as the traversal began.
use Rattle.std.proofs.Common.{◌≡◌, inl, inr, ℕ, zero, suc, ◌+◌, ◌-◌, ◌≤◌, Bool, true, false, ◌&&◌, not, cond, List, [], ◌∷◌, ◌++◌, filter, Option, Some, None, refl, sym, ap, ◌∙◌, subst, append_assoc, arith}
use Rattle.std.specs.Prelude.{if◌then◌else◌, sum_by}
use Rattle.std.specs.List.{flat_map}
use Rattle.std.proofs.lemmas.Option.{option_and_then_some}
use Rattle.std.proofs.lemmas.Bool.{cases_lt}
use Rattle.pe_base.specs.declared.place.Place.{Place}
use Rattle.pe_base.specs.Tree.Places.{root, is_same}
use Rattle.pe_base.specs.Tree.Curve.{children}
use Rattle.pe_base.specs.Walk.Streams.{if_walks, walked_children, walked_cells}
use Rattle.pe_base.proofs.Steps.VertexTouches.{is_same_itself}
use Rattle.pe_base.proofs.Faces.Quiet.{false_unless}
use Rattle.pe_base.proofs.Tree.Ranks.{same_places}
use Rattle.pe_stacks.specs.Holdings.{Holdings, stack_count, stack_at, pushed, pushed_on}
use Rattle.pe_stacks.specs.Grid.{cell_input_stack}
use Rattle.pe_order.specs.Tokens.{Outlook, Tokens, each_some, put, cell_target, touch_of, load, store, enter, leave, around_below, numbers, walk}
use Rattle.pe_order.specs.Takings.{cell_reads_of, MayTraverse}
use Rattle.pe_order.specs.Apart.{lies}
use Rattle.pe_order.specs.CellsAhead.{times, cells_below, CellsDiffer, CellsAhead, StepsKeepAhead, BeginsAhead, MovesItsCells}
use Rattle.pe_order.proofs.Trees.{root_is_cell}
use Rattle.pe_order.proofs.Tokens.LoadOrder.{root_walks}
use Rattle.pe_order.proofs.Tokens.Keeping.{given_some}
use Rattle.pe_order.proofs.Tokens.Apart.{one_if, there, set_past, lies_only}
use Rattle.pe_order.proofs.Tokens.MoveFrames.{pushed_once, store_by, after_load, after_enter}
use Rattle.pe_order.proofs.Tokens.CountLists.{count-cons, count-append}
use Rattle.pe_order.proofs.Tokens.CellsApart.{walked_cells_differ}
use Rattle.pe_order.proofs.Tokens.Bounds.{few_cell_input_stacks}

-- a load, and a store, move no cells
load_cells : (o : Outlook) (cell : Place) (k : ℕ) (t after : Tokens) → load o cell k t ≡ Some after → after.cells ≡ t.cells
load_cells o cell k t after e = (after_load o cell k t after e).cells

store_cells : (o : Outlook) (cell : Place) (k : ℕ) (t after : Tokens) → store o cell k t ≡ Some after → after.cells ≡ t.cells
store_cells o cell k t after e = (store_by o cell k t after (o.counts (touch_of o cell k).vertex) e).cells

pub each_cells : {A : Type 0} (step : A → Tokens → Option Tokens) → ((a : A) (t after : Tokens) → step a t ≡ Some after → after.cells ≡ t.cells) → (xs : List A) (t after : Tokens) → each_some step xs t ≡ Some after → after.cells ≡ t.cells
each_cells step one [] t after e = let same : t ≡ after = cc in ap (λ a. a.cells) (sym same)
each_cells step one (a ∷ xs) t after e = option_and_then_some (each_some step xs) (step a t) after e (λ u f g. each_cells step one xs u after g ∙ one a t u f)

-- a push puts a place on the stack, if the depot has it, and moves no other
pub pushed_lies : (held : Holdings Place) (s : ℕ) (place x : Place) → is_same place x ≡ false → lies (pushed held s place) x ≡ lies held x
pushed_lies held s place x other = elim (cases_lt s (stack_count held)) [
  | inl h ↦ omega (arith, pushed_once s place x held h, ap one_if other)
  | inr h ↦ ap (sum_by (there x)) (set_past held.stacks s (pushed_on (stack_at held s) place) h)
]

pub left_lies : (o : Outlook) (cell : Place) (t after : Tokens) → leave o cell t ≡ Some after → (x : Place) → is_same cell x ≡ false → lies after.cells x ≡ lies t.cells x
left_lies o cell t after e x other =
    let gone : Tokens = record t { cells = put (cell_target o cell) cell t.cells } in
    let same : gone ≡ after = cc in
    ap (λ (a : Tokens). lies a.cells x) (sym same) ∙ go (cell_target o cell)
  where
    go : (to : Option ℕ) → lies (put to cell t.cells) x ≡ lies t.cells x
    go None = refl
    go (Some s) = pushed_lies t.cells s cell x other

-- in a list where a place does not stand, no other is the same
none_same : (cells : List Place) (cell x : Place) → times cells cell ≡ 0 → 1 ≤ times cells x → is_same cell x ≡ false
none_same cells cell x none some = false_unless (is_same cell x) (λ k. omega (arith, some, none, ap (times cells) (same_places cell x k)))

-- no other place is moved
unmoved : (b same : Bool) (n m : ℕ) → same ≡ false → n + one_if (b && same) ≡ m → n ≡ m
unmoved true same n m k f = omega (arith, f, ap one_if k)
unmoved false same n m k f = omega (arith, f)

module _ (o : Outlook) where
  same_cells : (ahead : List Place) (t after : Tokens) → after.cells ≡ t.cells → CellsAhead o ahead t → CellsAhead o ahead after
  same_cells ahead t after e a = record { once = a.once; lie = λ x h. ap (λ held. lies held x) e ∙ a.lie x h }

  enter_ahead : (cell : Place) (ahead : List Place) (t after : Tokens) → enter o cell t ≡ Some after → CellsAhead o (cell ∷ ahead) t → CellsAhead o ahead after × (lies after.cells cell ≡ 0) × (times ahead cell ≡ 0)
  enter_ahead cell ahead t after e a =
      let one : times (cell ∷ ahead) cell ≡ 1 + times ahead cell = count-cons (λ y. is_same y cell) cell ahead ∙ ap (λ b. one_if b + times ahead cell) (is_same_itself cell) in
      let none : times ahead cell ≡ 0 = omega (arith, a.once cell, one) in (
        record {
          once = λ x. omega (arith, a.once x, count-cons (λ y. is_same y x) cell ahead);
          lie = λ x h. unmoved (o.reads_cell cell) (is_same cell x) _ _ (none_same ahead cell x none h) ((after_enter o cell t after e).its_lies x) ∙ a.lie x (omega (arith, h, count-cons (λ y. is_same y x) cell ahead));
        },
        gone (o.reads_cell cell) (is_same cell cell) (lies after.cells cell) (is_same_itself cell) ((after_enter o cell t after e).its_lies cell ∙ a.lie cell (omega (arith, one))),
        none,
      )
    where
      gone : (b same : Bool) (n : ℕ) → same ≡ true → n + one_if (b && same) ≡ (if b then 1 else 0) → n ≡ 0
      gone true same n k f = omega (arith, f, ap one_if k)
      gone false same n k f = omega (arith, f)

  leave_ahead : (cell : Place) (ahead : List Place) (t after : Tokens) → leave o cell t ≡ Some after → times ahead cell ≡ 0 → CellsAhead o ahead t → CellsAhead o ahead after
  leave_ahead cell ahead t after e none a = record { once = a.once; lie = λ x h. left_lies o cell t after e x (none_same ahead cell x none h) ∙ a.lie x h }

  -- a cell around what is done below it
  around_ahead : (below : Tokens → Option Tokens) (cell : Place) (inner ahead : List Place) → ((t after : Tokens) → below t ≡ Some after → CellsAhead o (inner ++ ahead) t → CellsAhead o ahead after)
      → (t after : Tokens) → around_below o below cell t ≡ Some after → CellsAhead o (cell ∷ inner ++ ahead) t → CellsAhead o ahead after
  around_ahead below cell inner ahead goes t after e a =
      option_and_then_some _ _ after e (λ t1 e1 f1.
      option_and_then_some _ _ after f1 (λ t2 e2 f2.
      option_and_then_some _ _ after f2 (λ t3 e3 f3.
      option_and_then_some _ _ after f3 (λ t4 e4 f4.
      let entered = enter_ahead cell (inner ++ ahead) t1 t2 e2 (same_cells (cell ∷ inner ++ ahead) t t1 (each_cells (load o cell) (λ k. load_cells o cell k) _ t t1 e1) a) in
      same_cells ahead t4 after (each_cells (store o cell) (λ k. store_cells o cell k) (numbers o) t4 after f4)
      (leave_ahead cell ahead t3 t4 e4 (behind entered.2) (goes t2 t3 e3 entered.0))))))
    where
      behind : times (inner ++ ahead) cell ≡ 0 → times ahead cell ≡ 0
      behind none = omega (arith, none, count-append (λ y. is_same y cell) inner ahead)

  each_ahead : (levels : ℕ) → ((cell : Place) (ahead : List Place) (t after : Tokens) → walk o levels cell t ≡ Some after → CellsAhead o (walked_cells o.axes o.way o.walks levels cell ++ ahead) t → CellsAhead o ahead after)
      → (cells ahead : List Place) (t after : Tokens) → each_some (walk o levels) cells t ≡ Some after → CellsAhead o (flat_map (walked_cells o.axes o.way o.walks levels) cells ++ ahead) t → CellsAhead o ahead after
  each_ahead levels law [] ahead t after e a = let same : t ≡ after = cc in subst (CellsAhead o ahead) same a
  each_ahead levels law (c ∷ cs) ahead t after e a = option_and_then_some (each_some (walk o levels) cs) (walk o levels c t) after e (λ u f g.
      each_ahead levels law cs ahead u after g (law c (flat_map (walked_cells o.axes o.way o.walks levels) cs ++ ahead) t u f
      (subst (λ xs. CellsAhead o xs t) (append_assoc (walked_cells o.axes o.way o.walks levels c) (flat_map (walked_cells o.axes o.way o.walks levels) cs) ahead) a)))

  walk_ahead : (levels : ℕ) (cell : Place) (ahead : List Place) (t after : Tokens) → walk o levels cell t ≡ Some after → CellsAhead o (walked_cells o.axes o.way o.walks levels cell ++ ahead) t → CellsAhead o ahead after
  walk_ahead zero cell ahead t after e a = around_ahead _ cell [] ahead (λ u v f b. let g = given_some (not (o.walks cell)) (Some u) v f in let same : u ≡ v = cc (g.1) in subst (CellsAhead o ahead) same b) t after e a
  walk_ahead (suc levels) cell ahead t after e a =
      around_ahead _ cell (flat_map (walked_cells o.axes o.way o.walks levels) (walked_children o.axes o.way o.walks cell)) ahead
      (λ u v f b. below (o.walks cell) u v (each_ahead levels (walk_ahead levels) (children o.axes o.way cell) ahead u v) f b) t after e a
    where
      below : (b : Bool) (u v : Tokens) → (each_some (walk o levels) (children o.axes o.way cell) u ≡ Some v → CellsAhead o (flat_map (walked_cells o.axes o.way o.walks levels) (children o.axes o.way cell) ++ ahead) u → CellsAhead o ahead v)
          → (if b then each_some (walk o levels) (children o.axes o.way cell) u else (Some u)) ≡ Some v
          → CellsAhead o (flat_map (walked_cells o.axes o.way o.walks levels) (if_walks o.axes o.way o.walks b (children o.axes o.way cell)) ++ ahead) u → CellsAhead o ahead v
      below true u v run f b = run f b
      below false u v run f b = let same : u ≡ v = cc in subst (CellsAhead o ahead) same b

pub steps_keep_ahead : StepsKeepAhead
steps_keep_ahead o = record {
  loads = λ cell k ahead t after e a. same_cells o ahead t after (load_cells o cell k t after e) a;
  stores = λ cell k ahead t after e a. same_cells o ahead t after (store_cells o cell k t after e) a;
  enters = enter_ahead o;
  leaves = leave_ahead o;
  walks = walk_ahead o;
}

-- a filter keeps a place that passes as often as it stands there
pub count-filter : (test : Place → Bool) (cells : List Place) (x : Place) → times (filter test cells) x ≡ (if test x then times cells x else 0)
count-filter test [] x = either (test x) 0
  where
    either : (b : Bool) (n : ℕ) → n ≡ (if b then n else n)
    either true n = refl
    either false n = refl
count-filter test (c ∷ cells) x = go (test c) refl (is_same c x) refl (count-filter test cells x)
  where
    head : (n : ℕ) (b : Bool) → is_same c x ≡ b → (m : ℕ) → n ≡ times cells x → m ≡ one_if b + n → m ≡ times (c ∷ cells) x
    head n b s m e f = omega (arith, count-cons (λ y. is_same y x) c cells, ap one_if s, e, f)

    other : (b : Bool) → is_same c x ≡ false → (if b then times cells x else 0) ≡ (if b then times (c ∷ cells) x else 0)
    other true s = omega (arith, count-cons (λ y. is_same y x) c cells, ap one_if s)
    other false s = refl

    go : (b : Bool) → test c ≡ b → (same : Bool) → is_same c x ≡ same → times (filter test cells) x ≡ (if test x then times cells x else 0)
        → times (cond b (c ∷ filter test cells) (filter test cells)) x ≡ (if test x then times (c ∷ cells) x else 0)
    go true e true s more =
        let passes : test x ≡ true = sym (ap test (same_places c x s)) ∙ e in
        head (times (filter test cells) x) true s (times (c ∷ filter test cells) x) (more ∙ ap (λ b. if b then times cells x else 0) passes) (count-cons (λ y. is_same y x) c (filter test cells) ∙ ap (λ b. one_if b + times (filter test cells) x) s)
        ∙ ap (λ b. if b then times (c ∷ cells) x else 0) (sym passes)
    go false e true s more =
        let fails : test x ≡ false = sym (ap test (same_places c x s)) ∙ e in
        more ∙ ap (λ b. if b then times cells x else 0) fails ∙ ap (λ b. if b then times (c ∷ cells) x else 0) (sym fails)
    go true e false s more =
        let skipped : times (c ∷ filter test cells) x ≡ times (filter test cells) x = omega (arith, count-cons (λ y. is_same y x) c (filter test cells), ap one_if s) in
        skipped ∙ more ∙ other (test x) s
    go false e false s more = more ∙ other (test x) s

-- as a traversal begins, a cell lies on the stacks as often as it is read
pub cells_on_input : (o : Outlook) (greatest : ℕ) (t : Tokens) → MayTraverse o greatest t → (x : Place) → lies t.cells x ≡ times (cell_reads_of o greatest root) x
cells_on_input o greatest t may x = lies_only t.cells (cell_input_stack o.swapped) (cell_reads_of o greatest root) (omega (arith, few_cell_input_stacks o.swapped, may.cell_stacks)) may.reads_cells x

pub begins_ahead : BeginsAhead
begins_ahead o walked greatest t dim grown may = record {
  once = λ x. differ.once_below x;
  lie = λ x h. cells_on_input o greatest t may x ∙ count-filter o.reads_cell (walked_cells o.axes o.way o.walks greatest root) x ∙ ap (λ n. if o.reads_cell x then n else 0) (just_one x h);
}
  where
    deep : greatest ≡ suc (greatest - 1)
    deep = omega (arith, grown.walks_within root (root_walks o walked greatest dim grown))

    differ : CellsDiffer o (greatest - 1) root
    differ = walked_cells_differ o (greatest - 1) root dim (root_is_cell o.axes o.way)

    all_once : (x : Place) → times (walked_cells o.axes o.way o.walks greatest root) x ≤ 1
    all_once x = (walked_cells_differ o greatest root dim (root_is_cell o.axes o.way)).once x

    all_are : walked_cells o.axes o.way o.walks greatest root ≡ root ∷ cells_below o (greatest - 1) root
    all_are = ap (λ n. walked_cells o.axes o.way o.walks n root) deep ∙ ap (λ b. root ∷ flat_map (walked_cells o.axes o.way o.walks (greatest - 1)) (if_walks o.axes o.way o.walks b (children o.axes o.way root))) (root_walks o walked greatest dim grown)

    just_one : (x : Place) → 1 ≤ times (cells_below o (greatest - 1) root) x → times (walked_cells o.axes o.way o.walks greatest root) x ≡ 1
    just_one x h = omega (arith, h, all_once x, ap (λ cs. times cs x) all_are, count-cons (λ y. is_same y x) root (cells_below o (greatest - 1) root))

-- the walk of a cell moves no cells but its own
module _ (o : Outlook) (x : Place) where
  not_here : (cell : Place) (inner : List Place) → times (cell ∷ inner) x ≡ 0 → (is_same cell x ≡ false) × (times inner x ≡ 0)
  not_here cell inner h = go (is_same cell x) refl
    where
      go : (b : Bool) → is_same cell x ≡ b → (b ≡ false) × (times inner x ≡ 0)
      go true e = absurd (omega (arith, h, count-cons (λ y. is_same y x) cell inner, ap one_if e))
      go false e = (refl, omega (arith, h, count-cons (λ y. is_same y x) cell inner))

  around_moves : (below : Tokens → Option Tokens) (cell : Place) → is_same cell x ≡ false → ((t after : Tokens) → below t ≡ Some after → lies after.cells x ≡ lies t.cells x)
      → (t after : Tokens) → around_below o below cell t ≡ Some after → lies after.cells x ≡ lies t.cells x
  around_moves below cell other goes t after e =
      option_and_then_some _ _ after e (λ t1 e1 f1.
      option_and_then_some _ _ after f1 (λ t2 e2 f2.
      option_and_then_some _ _ after f2 (λ t3 e3 f3.
      option_and_then_some _ _ after f3 (λ t4 e4 f4.
      ap (λ held. lies held x) (each_cells (store o cell) (λ k. store_cells o cell k) (numbers o) t4 after f4)
      ∙ left_lies o cell t3 t4 e4 x other
      ∙ goes t2 t3 e3
      ∙ unmoved (o.reads_cell cell) (is_same cell x) (lies t2.cells x) (lies t1.cells x) other ((after_enter o cell t1 t2 e2).its_lies x)
      ∙ ap (λ held. lies held x) (each_cells (load o cell) (λ k. load_cells o cell k) _ t t1 e1)))))

  each_moves : (levels : ℕ) → ((cell : Place) (t after : Tokens) → walk o levels cell t ≡ Some after → times (walked_cells o.axes o.way o.walks levels cell) x ≡ 0 → lies after.cells x ≡ lies t.cells x)
      → (cells : List Place) (t after : Tokens) → each_some (walk o levels) cells t ≡ Some after → times (flat_map (walked_cells o.axes o.way o.walks levels) cells) x ≡ 0 → lies after.cells x ≡ lies t.cells x
  each_moves levels law [] t after e h = let same : t ≡ after = cc in ap (λ (a : Tokens). lies a.cells x) (sym same)
  each_moves levels law (c ∷ cs) t after e h =
      let parts = count-append (λ y. is_same y x) (walked_cells o.axes o.way o.walks levels c) (flat_map (walked_cells o.axes o.way o.walks levels) cs) in
      let first : times (walked_cells o.axes o.way o.walks levels c) x ≡ 0 = omega (arith, parts, h) in
      let others : times (flat_map (walked_cells o.axes o.way o.walks levels) cs) x ≡ 0 = omega (arith, parts, h) in
      option_and_then_some (each_some (walk o levels) cs) (walk o levels c t) after e (λ u f g. each_moves levels law cs u after g others ∙ law c t u f first)

  walk_moves : (levels : ℕ) (cell : Place) (t after : Tokens) → walk o levels cell t ≡ Some after → times (walked_cells o.axes o.way o.walks levels cell) x ≡ 0 → lies after.cells x ≡ lies t.cells x
  walk_moves zero cell t after e h = around_moves _ cell (not_here cell [] h).0 (λ u v f. let g = given_some (not (o.walks cell)) (Some u) v f in let same : u ≡ v = cc (g.1) in ap (λ (a : Tokens). lies a.cells x) (sym same)) t after e
  walk_moves (suc levels) cell t after e h =
      let parts = not_here cell (flat_map (walked_cells o.axes o.way o.walks levels) (walked_children o.axes o.way o.walks cell)) h in
      around_moves _ cell parts.0 (λ u v f. below (o.walks cell) parts.1 u v (each_moves levels (walk_moves levels) (children o.axes o.way cell) u v) f) t after e
    where
      below : (b : Bool) → times (flat_map (walked_cells o.axes o.way o.walks levels) (if_walks o.axes o.way o.walks b (children o.axes o.way cell))) x ≡ 0
          → (u v : Tokens) → (each_some (walk o levels) (children o.axes o.way cell) u ≡ Some v → times (flat_map (walked_cells o.axes o.way o.walks levels) (children o.axes o.way cell)) x ≡ 0 → lies v.cells x ≡ lies u.cells x)
          → (if b then each_some (walk o levels) (children o.axes o.way cell) u else (Some u)) ≡ Some v → lies v.cells x ≡ lies u.cells x
      below true none u v run f = run f none
      below false none u v run f = let same : u ≡ v = cc in ap (λ (a : Tokens). lies a.cells x) (sym same)

pub moves_its_cells : MovesItsCells
moves_its_cells o levels cell x t after e h = walk_moves o x levels cell t after e h
