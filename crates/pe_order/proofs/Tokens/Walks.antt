-- The walk of a cell over places on stacks: what it wants is on top of each stack, and it leaves what it gives.
use Rattle.std.proofs.Common.{◌≡◌, ℕ, zero, suc, ◌+◌, ◌^◌, ◌<◌, ◌≤◌, inl, inr, Bool, true, false, not, cond, ◌==◌, List, [], ◌∷◌, ◌++◌, map, filter, reverse, Option, Some, refl, sym, ap, ap₂, ◌∙◌, subst, append_assoc, append-nil, arith}
use Rattle.std.specs.Prelude.{if◌then◌else◌}
use Rattle.std.specs.Option.{option_map, option_and_then}
use Rattle.std.specs.List.{flat_map, range_with_len, AllByRecursion as Each}
use Rattle.std.proofs.lemmas.List.Elements.{filter-append}
use Rattle.std.proofs.lemmas.Bool.{ne_eqb, eqb-true}
use Rattle.pe_base.specs.declared.place.Place.{Place}
use Rattle.pe_base.specs.declared.way.Way.{Way}
use Rattle.pe_base.specs.Tree.Curve.{digit_lists, children}
use Rattle.pe_base.proofs.Tree.Children.{child_of, children_are}
use Rattle.pe_base.proofs.Faces.Quiet.{false_unless}
use Rattle.pe_base.specs.Tree.Dim.{IsDim}
use Rattle.pe_base.specs.Tree.Places.{corner}
use Rattle.pe_base.specs.Steps.Faces.{Touch, Stretch, Stretches, stack_of, corner_touches}
use Rattle.pe_base.specs.Steps.Stacks.{is_stack}
use Rattle.pe_base.specs.Walk.Streams.{if_walks, walked_children, walked_cells}
use Rattle.pe_base.proofs.Lists.{Each-all, Each-weaker, Each-map, In, flat_map_same, flat_map_none, filter-flat_map, map-reverse}
use Rattle.pe_stacks.specs.Holdings.{stack_count, items_at}
use Rattle.pe_stacks.specs.Grid.{output_stack, cell_input_stack, cell_output_stack}
use Rattle.pe_order.specs.Laws.{IsCell}
use Rattle.pe_order.specs.Tokens.{Outlook, turned, Tokens, given, first_of, each_some, put, cell_source, cell_target, touch_of, store, enter, leave, numbers, around_below, walk}
use Rattle.pe_order.specs.Takings.{loads_of, takes, gives, cell_reads_of, cell_writes_of, cell_takes, cell_gives, met_after, Due, Grown, MayBegin, HasEnded}
use Rattle.pe_order.proofs.Unwalked.{in_contains}
use Rattle.pe_order.proofs.Trees.{cell_position, child_is_cell}
use Rattle.pe_order.proofs.Derived.{corners_cross_once}
use Rattle.pe_order.proofs.Tokens.Loads.{taken_from, put_to, vertices_of, takes_by, touched, touched-reverse, all_loads, all_stores, GoesWithin, met-append, due-split}
use Rattle.pe_order.proofs.Tokens.Turning.{children-turned, cell_writes-turned}
use Rattle.pe_order.proofs.Tokens.OneStack.{own_takes, own_gives, take_all, give_all, token_stretch, passage}
use Rattle.pe_order.proofs.Tokens.Bounds.{few_stacks, few_cell_stacks}

-- what a cell takes for itself, and what its children take
own_cell : (o : Outlook) (s : ℕ) (cell : Place) (rest : List Place) → cell_takes o 0 s cell ++ rest ≡ (if is_stack s (cell_source o cell) then cell ∷ rest else rest)
own_cell o s cell rest = go (o.reads_cell cell) (s == cell_input_stack o.swapped) refl
  where
    go : (r b : Bool) → (s == cell_input_stack o.swapped) ≡ b → (if b then cond r (cell ∷ []) [] else []) ++ rest ≡ (if is_stack s (given r (Some (cell_input_stack o.swapped))) then cell ∷ rest else rest)
    go true true e = ap (λ b. if b then cell ∷ rest else rest) (sym e)
    go true false e = ap (λ b. if b then cell ∷ rest else rest) (sym e)
    go false true e = refl
    go false false e = refl

cell_takes-split : (o : Outlook) (levels s : ℕ) (cell : Place) → cell_takes o (suc levels) s cell ≡ cell_takes o 0 s cell ++ flat_map (cell_takes o levels s) (walked_children o.axes o.way o.walks cell)
cell_takes-split o levels s cell = go (s == cell_input_stack o.swapped)
  where
    kids : List Place
    kids = walked_children o.axes o.way o.walks cell

    go : (b : Bool) → (if b then filter o.reads_cell (cell ∷ flat_map (walked_cells o.axes o.way o.walks levels) (walked_children o.axes o.way o.walks cell)) else [])
        ≡ (if b then filter o.reads_cell (cell ∷ []) else []) ++ flat_map (λ c. if b then cell_reads_of o levels c else []) (walked_children o.axes o.way o.walks cell)
    go true = filter-append o.reads_cell (cell ∷ []) (flat_map (walked_cells o.axes o.way o.walks levels) (walked_children o.axes o.way o.walks cell))
        ∙ ap (λ xs. filter o.reads_cell (cell ∷ []) ++ xs) (filter-flat_map o.reads_cell (walked_cells o.axes o.way o.walks levels) (walked_children o.axes o.way o.walks cell))
    go false = sym (flat_map_none (λ c. []) (walked_children o.axes o.way o.walks cell) (Each-all _ (λ c. refl) (walked_children o.axes o.way o.walks cell)))

cell_gives-turned : (o : Outlook) (levels s : ℕ) (cell : Place) → cell_gives o levels s cell ≡ cell_takes (turned o) levels s cell
cell_gives-turned o levels s cell = ap (λ xs. if s == cell_output_stack o.swapped then xs else []) (cell_writes-turned o levels cell)

cell_gives-split : (o : Outlook) (levels s : ℕ) (cell : Place) → cell_gives o (suc levels) s cell ≡ cell_gives o 0 s cell ++ flat_map (cell_gives o levels s) (reverse (walked_children o.axes o.way o.walks cell))
cell_gives-split o levels s cell =
    let kids = reverse (walked_children o.axes o.way o.walks cell) in
    cell_gives-turned o (suc levels) s cell ∙ cell_takes-split (turned o) levels s cell
    ∙ ap₂ (λ x y. x ++ y) (sym (cell_gives-turned o 0 s cell))
    (ap (flat_map (cell_takes (turned o) levels s)) (sym (children-turned o.axes o.way o.walks cell)) ∙ flat_map_same _ (cell_gives o levels s) kids (Each-all _ (λ c. sym (cell_gives-turned o levels s c)) kids))

own_cell_gives : (o : Outlook) (s : ℕ) (cell : Place) (rest : List Place) → (if is_stack s (cell_target o cell) then cell ∷ rest else rest) ≡ cell_gives o 0 s cell ++ rest
own_cell_gives o s cell rest = sym (own_cell (turned o) s cell rest) ∙ ap (λ xs. xs ++ rest) (sym (cell_gives-turned o 0 s cell))

-- what the walk of a cell does on one stack of cells
pub record CellPassage (o : Outlook) (levels s : ℕ) (cell : Place) (stretch : Place → Stretch) (kids beneath : List Place) : Type 0 where
  pub inner : List Place
  pub outer : List Place
  pub own_takes : cell_takes o levels s cell ++ beneath ≡ cell_takes o 0 s cell ++ inner
  pub own_gives : cell_gives o levels s cell ++ beneath ≡ cell_gives o 0 s cell ++ outer
  pub stretches : Stretches (map stretch kids) inner outer

abbrev pub cell_stretch : Outlook → ℕ → ℕ → Place → Stretch
cell_stretch o levels s child = record { takes = cell_takes o levels s child; gives = cell_gives o levels s child; touches = λ place. false }

pub cell_passage : (o : Outlook) (levels s : ℕ) (cell : Place) (beneath : List Place) → CellPassage o (suc levels) s cell (cell_stretch o levels s) (walked_children o.axes o.way o.walks cell) beneath
cell_passage o levels s cell beneath = go (s == cell_output_stack o.swapped) refl
  where
    kids : List Place
    kids = walked_children o.axes o.way o.walks cell

    two : (swapped : Bool) (n : ℕ) → (n == cell_output_stack swapped) ≡ true → (n == cell_input_stack swapped) ≡ false
    two true n e = ne_eqb n 1 (λ k. let h = eqb-true n 0 e in omega (arith, h, k))
    two false n e = ne_eqb n 0 (λ k. let h = eqb-true n 1 e in omega (arith, h, k))

    no_takes : (s == cell_output_stack o.swapped) ≡ true → (n : ℕ) (c : Place) → cell_takes o n s c ≡ []
    no_takes e n c = ap (λ b. if b then cell_reads_of o n c else []) (two o.swapped s e)

    no_gives : (s == cell_output_stack o.swapped) ≡ false → (n : ℕ) (c : Place) → cell_gives o n s c ≡ []
    no_gives e n c = ap (λ b. if b then cell_writes_of o n c else []) e

    go : (b : Bool) → (s == cell_output_stack o.swapped) ≡ b → CellPassage o (suc levels) s cell (cell_stretch o levels s) (walked_children o.axes o.way o.walks cell) beneath
    go true e = record {
      inner = beneath;
      outer = flat_map (cell_gives o levels s) (reverse (walked_children o.axes o.way o.walks cell)) ++ beneath;
      own_takes = ap (λ xs. xs ++ beneath) (no_takes e (suc levels) cell ∙ sym (no_takes e 0 cell));
      own_gives = ap (λ xs. xs ++ beneath) (cell_gives-split o levels s cell) ∙ append_assoc (cell_gives o 0 s cell) (flat_map (cell_gives o levels s) (reverse (walked_children o.axes o.way o.walks cell))) beneath;
      stretches = give_all (cell_stretch o levels s) (walked_children o.axes o.way o.walks cell) beneath (Each-all _ (λ c. no_takes e levels c) (walked_children o.axes o.way o.walks cell));
    }
    go false e = record {
      inner = flat_map (cell_takes o levels s) (walked_children o.axes o.way o.walks cell) ++ beneath;
      outer = beneath;
      own_takes = ap (λ xs. xs ++ beneath) (cell_takes-split o levels s cell) ∙ append_assoc (cell_takes o 0 s cell) (flat_map (cell_takes o levels s) (walked_children o.axes o.way o.walks cell)) beneath;
      own_gives = ap (λ xs. xs ++ beneath) (no_gives e (suc levels) cell ∙ sym (no_gives e 0 cell));
      stretches = take_all (cell_stretch o levels s) (walked_children o.axes o.way o.walks cell) beneath (Each-all _ (λ c. no_gives e levels c) (walked_children o.axes o.way o.walks cell));
    }

-- some part of a walk has ended, with these lists on the stacks
pub record Went (vertices cells : ℕ → List Place) (met held : Place → ℕ) (after : Tokens) : Type 0 where
  pub stacks : stack_count after.vertices ≡ 10
  pub cell_stacks : stack_count after.cells ≡ 2
  pub its_vertices : (s : ℕ) → items_at after.vertices s ≡ vertices s
  pub its_cells : (s : ℕ) → items_at after.cells s ≡ cells s
  pub its_met : after.met ≡ met
  pub its_held : (place : Place) → after.held place ≡ held place

pub each_below : (n : ℕ) (P : ℕ → Type 0) → ((k : ℕ) → k < n → P k) → Each P (range_with_len 0 n)
each_below n P h = go 0 n (λ k l. h k (omega arith))
  where
    go : (a m : ℕ) → ((k : ℕ) → k < a + m → P k) → Each P (range_with_len a m)
    go a zero g = tt
    go a (suc m) g = (g a (omega arith), go (a + 1) m (λ k l. g k (omega arith)))

module _ (o : Outlook) (dim : IsDim o.axes) where
  -- a corner goes to one of ten stacks, and a cell to one of two
  pub goes_within : (cell : Place) → IsCell o.axes o.way cell → (k : ℕ) → k < 2 ^ o.axes → GoesWithin o 10 cell k
  goes_within cell is_cell k below s e = elim (corners_cross_once o.axes o.way cell k dim is_cell below).goes [
    | inl none ↦ from_stream (o.writes (corner o.axes cell k)) (sym (ap (λ x. first_of x (given (o.writes (corner o.axes cell k)) (Some (output_stack o.swapped)))) none.no_stack) ∙ e)
    | inr one ↦
        let at : Some (stack_of one.face cell) ≡ Some s = sym (ap (λ x. first_of x (given (o.writes (corner o.axes cell k)) (Some (output_stack o.swapped)))) one.its_stack) ∙ e in
        let is : stack_of one.face cell ≡ s = cc in
        let a = one.is_face.0 in
        let four = dim.1 in
        omega arith
  ]
    where
      from_stream : (w : Bool) → given w (Some (output_stack o.swapped)) ≡ Some s → s < 10
      from_stream true h = let is : output_stack o.swapped ≡ s = cc in let n = few_stacks o.swapped in omega arith
      from_stream false h = absurd cc

  pub cell_goes : (cell : Place) (s : ℕ) → cell_target o cell ≡ Some s → s < 2
  cell_goes cell s e = go (o.writes_cell cell) e
    where
      go : (w : Bool) → given w (Some (cell_output_stack o.swapped)) ≡ Some s → s < 2
      go true h = let is : cell_output_stack o.swapped ≡ s = cc in let n = few_cell_stacks o.swapped in omega arith
      go false h = absurd cc

  pub own_touches_are : (cell : Place) → map (touch_of o cell) (reverse (numbers o)) ≡ reverse (corner_touches o.axes cell)
  own_touches_are cell = map-reverse (touch_of o cell) (numbers o)

  -- a cell around what is done below it
  around_run : (cell : Place) → IsCell o.axes o.way cell → (deep : List Touch) (below : Tokens → Option Tokens) (inner outer cells_inner cells_outer : ℕ → List Place)
      → ((t : Tokens) → stack_count t.vertices ≡ 10 → stack_count t.cells ≡ 2 → ((s : ℕ) → items_at t.vertices s ≡ inner s) → ((s : ℕ) → items_at t.cells s ≡ cells_inner s) → Due o deep t.met
      → (after : Tokens) × (below t ≡ Some after) × Went outer cells_outer (met_after o deep t.met) t.held after)
      → (t : Tokens) → stack_count t.vertices ≡ 10 → stack_count t.cells ≡ 2
      → ((s : ℕ) → items_at t.vertices s ≡ takes o 0 s cell ++ inner s) → ((s : ℕ) → items_at t.cells s ≡ cell_takes o 0 s cell ++ cells_inner s)
      → Due o (reverse (corner_touches o.axes cell) ++ deep) t.met
      → (after : Tokens) × (around_below o below cell t ≡ Some after) × Went (λ s. gives o 0 s cell ++ outer s) (λ s. cell_gives o 0 s cell ++ cells_outer s) (met_after o (reverse (corner_touches o.axes cell) ++ deep) t.met) t.held after
  around_run cell is_cell deep below inner outer cells_inner cells_outer run t stacks cell_stacks its cells due =
      let is = cell_position o.axes o.way cell dim.1 is_cell in
      let own = reverse (corner_touches o.axes cell) in
      let ks = reverse (numbers o) in
      let parts = due-split o own deep t.met due in
      let loaded = all_loads o cell ks inner t (subst (λ ts. Due o ts t.met) (sym (own_touches_are cell)) parts.0)
      (λ s. its s ∙ ap (λ xs. xs ++ inner s) (sym (own_takes o dim.1 s cell is) ∙ ap (vertices_of (takes_by o s)) (sym (own_touches_are cell)))) in
      let t1 = loaded.0 in
      let entered = taken_from (cell_source o cell) cell t1.cells cells_inner (λ s. ap (λ h. items_at h s) loaded.2.cells ∙ cells s ∙ own_cell o s cell (cells_inner s)) in
      let t2 : Tokens = record t1 { cells = entered.0 } in
      let met : t2.met ≡ met_after o own t.met = loaded.2.met ∙ ap (λ ts. met_after o ts t.met) (own_touches_are cell) in
      let inside = run t2 (loaded.2.stacks ∙ stacks) (entered.2 ∙ ap stack_count loaded.2.cells ∙ cell_stacks) loaded.2.vertices entered.3 (subst (Due o deep) (sym met) parts.1) in
      let t3 = inside.0 in
      let left = put_to (cell_target o cell) cell t3.cells (λ s e. subst (λ n. s < n) (sym inside.2.cell_stacks) (cell_goes cell s e)) in
      let t4 : Tokens = record t3 { cells = put (cell_target o cell) cell t3.cells } in
      let held : (place : Place) → t4.held place ≡ t.held place + touched o place (map (touch_of o cell) ks) = λ place. inside.2.its_held place ∙ loaded.2.held place in
      let count : (place : Place) → touched o place (map (touch_of o cell) ks) ≡ touched o place (map (touch_of o cell) (numbers o)) =
      λ place. ap (touched o place) (own_touches_are cell) ∙ touched-reverse o place (map (touch_of o cell) (numbers o)) in
      let stored = all_stores o cell (numbers o) t4 (subst (λ n. Each (GoesWithin o n cell) (numbers o)) (sym inside.2.stacks) (each_below (2 ^ o.axes) (GoesWithin o 10 cell) (λ k h. goes_within cell is_cell k h)))
      (λ place. omega (arith, held place, count place)) in (
        stored.0,
        ap (option_and_then (λ t. option_and_then (λ t. option_and_then (λ t. option_and_then (λ t. each_some (store o cell) (numbers o) t) (leave o cell t)) (below t)) (enter o cell t))) loaded.1
            ∙ ap (λ x. option_and_then (λ t. option_and_then (λ t. option_and_then (λ t. each_some (store o cell) (numbers o) t) (leave o cell t)) (below t)) (option_map (λ cells. record t1 { cells = cells }) x)) entered.1
            ∙ ap (option_and_then (λ t. option_and_then (λ t. each_some (store o cell) (numbers o) t) (leave o cell t))) inside.1
            ∙ stored.1,
        record {
          stacks = stored.2.stacks ∙ inside.2.stacks;
          cell_stacks = ap stack_count stored.2.cells ∙ left.0 ∙ inside.2.cell_stacks;
          its_vertices = λ s. stored.2.vertices s ∙ ap₂ (λ xs ys. xs ++ ys) (own_gives o dim.1 s cell is) (inside.2.its_vertices s);
          its_cells = λ s. ap (λ h. items_at h s) stored.2.cells ∙ left.1 s ∙ own_cell_gives o s cell (items_at t3.cells s) ∙ ap (λ xs. cell_gives o 0 s cell ++ xs) (inside.2.its_cells s);
          its_met = stored.2.met ∙ inside.2.its_met ∙ ap (met_after o deep) met ∙ sym (met-append o own deep t.met);
          its_held = λ place. omega (arith, stored.2.held place, held place, count place);
        },
      )

-- the law of the walk of a cell with some levels below it
abbrev pub WalksAt : Outlook → ℕ → ℕ → Type 0
WalksAt o greatest levels = (cell : Place) → IsCell o.axes o.way cell → greatest ≤ cell.level + levels → (beneath cells_beneath : ℕ → List Place) (t : Tokens)
    → MayBegin o levels cell beneath cells_beneath t → (after : Tokens) × (walk o levels cell t ≡ Some after) × HasEnded o levels cell beneath cells_beneath t after

-- some cells one after another
pub walk_each : (o : Outlook) (greatest levels : ℕ) → WalksAt o greatest levels → (cs : List Place) → Each (λ c. IsCell o.axes o.way c × (greatest ≤ c.level + levels)) cs
    → (t : Tokens) (a b ca cb : ℕ → List Place) → stack_count t.vertices ≡ 10 → stack_count t.cells ≡ 2 → ((s : ℕ) → items_at t.vertices s ≡ a s) → ((s : ℕ) → items_at t.cells s ≡ ca s)
    → ((s : ℕ) → Stretches (map (token_stretch o levels s) cs) (a s) (b s)) → ((s : ℕ) → Stretches (map (cell_stretch o levels s) cs) (ca s) (cb s)) → Due o (flat_map (loads_of o levels) cs) t.met
    → (after : Tokens) × (each_some (walk o levels) cs t ≡ Some after) × Went b cb (met_after o (flat_map (loads_of o levels) cs) t.met) t.held after
walk_each o greatest levels law [] each t a b ca cb n m its cells stretches cell_stretches due = (
  t,
  refl,
  record {
    stacks = n;
    cell_stacks = m;
    its_vertices = λ s. its s ∙ stretches s;
    its_cells = λ s. cells s ∙ cell_stretches s;
    its_met = refl;
    its_held = λ place. refl;
  },
)
walk_each o greatest levels law (c ∷ cs) each t a b ca cb n m its cells stretches cell_stretches due =
    let parts = due-split o (loads_of o levels c) (flat_map (loads_of o levels) cs) t.met due in
    let one = law c each.0.0 each.0.1 (λ s. (stretches s).0) (λ s. (cell_stretches s).0) t (record {
      stacks = n;
      cell_stacks = m;
      takes_vertices = λ s. its s ∙ (stretches s).1;
      takes_cells = λ s. cells s ∙ (cell_stretches s).1;
      due = parts.0;
    }) in
    let more = walk_each o greatest levels law cs each.1 one.0 (λ s. gives o levels s c ++ (stretches s).0) b (λ s. cell_gives o levels s c ++ (cell_stretches s).0) cb one.2.stacks one.2.cell_stacks one.2.gives_vertices one.2.gives_cells
    (λ s. (stretches s).2) (λ s. (cell_stretches s).2) (subst (Due o (flat_map (loads_of o levels) cs)) (sym one.2.met) parts.1) in (
      more.0,
      ap (option_and_then (each_some (walk o levels) cs)) one.1 ∙ more.1,
      record {
        stacks = more.2.stacks;
        cell_stacks = more.2.cell_stacks;
        its_vertices = more.2.its_vertices;
        its_cells = more.2.its_cells;
        its_met = more.2.its_met ∙ ap (met_after o (flat_map (loads_of o levels) cs)) one.2.met ∙ sym (met-append o (loads_of o levels c) (flat_map (loads_of o levels) cs) t.met);
        its_held = λ place. more.2.its_held place ∙ one.2.held place;
      },
    )

pub children_levels : (axes : ℕ) (way : Way) (cell : Place) → Each (λ c. c.level ≡ cell.level + 1) (children axes way cell)
children_levels axes way cell = subst (Each (λ c. c.level ≡ cell.level + 1)) (sym (children_are axes way cell)) (Each-map (λ c. c.level ≡ cell.level + 1) (child_of axes way cell) (digit_lists axes) (Each-all _ (λ ts. refl) (digit_lists axes)))

-- each item of a list with what holds of it
pub each_with : {X : Type 0} (P : X → Type 0) (xs : List X) → Each P xs → Each (λ x. In x xs × P x) xs
each_with P [] e = tt
each_with P (x ∷ xs) e = ((inl refl, e.0), Each-weaker (λ y. In y xs × P y) (λ y. In y (x ∷ xs) × P y) (λ y i. (inr i.0, i.1)) xs (each_with P xs e.1))

module _ (o : Outlook) (walked : Place → Bool) (greatest : ℕ) (dim : IsDim o.axes) (grown : Grown o walked greatest) where
  -- the children of a cell are cells of the tree, one level further down
  pub kids_are_cells : (cell : Place) → IsCell o.axes o.way cell → Each (λ c. IsCell o.axes o.way c × (c.level ≡ cell.level + 1)) (children o.axes o.way cell)
  kids_are_cells cell is_cell = Each-weaker _ _ (λ c i. (child_is_cell o.axes o.way cell c dim.1 is_cell (in_contains _ c i.0), i.1)) (children o.axes o.way cell)
      (each_with (λ c. c.level ≡ cell.level + 1) (children o.axes o.way cell) (children_levels o.axes o.way cell))

  not_below : (cell : Place) → greatest ≤ cell.level + 0 → o.walks cell ≡ false
  not_below cell h = false_unless (o.walks cell) (λ e. omega (arith, grown.walks_within cell e))

  -- the walk of a cell
  pub walks : (levels : ℕ) → WalksAt o greatest levels
  walks zero cell is_cell deep beneath cells_beneath t begins =
      let none : o.walks cell ≡ false = not_below cell deep in
      let run = around_run o dim cell is_cell [] (λ t. given (not (o.walks cell)) (Some t)) beneath beneath cells_beneath cells_beneath
      (λ t n m its cells due. (t, ap (λ b. given (not b) (Some t)) none, record { stacks = n; cell_stacks = m; its_vertices = its; its_cells = cells; its_met = refl; its_held = λ place. refl }))
      t begins.stacks begins.cell_stacks begins.takes_vertices begins.takes_cells (subst (λ ts. Due o ts t.met) (sym (append-nil (reverse (corner_touches o.axes cell)))) begins.due) in (
        run.0,
        run.1,
        record {
          stacks = run.2.stacks;
          cell_stacks = run.2.cell_stacks;
          gives_vertices = run.2.its_vertices;
          gives_cells = run.2.its_cells;
          met = run.2.its_met ∙ ap (λ ts. met_after o ts t.met) (append-nil (reverse (corner_touches o.axes cell)));
          held = run.2.its_held;
        },
      )
  walks (suc levels) cell is_cell deep beneath cells_beneath t begins =
      let kids = walked_children o.axes o.way o.walks cell in
      let loads = flat_map (loads_of o levels) kids in
      let pass = λ (s : ℕ). passage o walked grown.is_walk dim cell is_cell (λ child c. grown.below cell child is_cell c) levels s (beneath s) in
      let cell_pass = λ (s : ℕ). cell_passage o levels s cell (cells_beneath s) in
      let run = around_run o dim cell is_cell loads (λ t. if o.walks cell then each_some (walk o levels) (children o.axes o.way cell) t else (Some t))
      (λ s. (pass s).inner) (λ s. (pass s).outer) (λ s. (cell_pass s).inner) (λ s. (cell_pass s).outer)
      (λ t n m its cells due. below_run levels cell is_cell deep (walks levels) (o.walks cell) refl (λ s. (pass s).inner) (λ s. (pass s).outer) (λ s. (cell_pass s).inner) (λ s. (cell_pass s).outer)
      (λ s. (pass s).stretches) (λ s. (cell_pass s).stretches) t n m its cells due)
      t begins.stacks begins.cell_stacks (λ s. begins.takes_vertices s ∙ (pass s).own_takes) (λ s. begins.takes_cells s ∙ (cell_pass s).own_takes) begins.due in (
        run.0,
        run.1,
        record {
          stacks = run.2.stacks;
          cell_stacks = run.2.cell_stacks;
          gives_vertices = λ s. run.2.its_vertices s ∙ sym (pass s).own_gives;
          gives_cells = λ s. run.2.its_cells s ∙ sym (cell_pass s).own_gives;
          met = run.2.its_met;
          held = run.2.its_held;
        },
      )
    where
      below_run : (levels : ℕ) (cell : Place) → IsCell o.axes o.way cell → greatest ≤ cell.level + suc levels → WalksAt o greatest levels → (b : Bool) → o.walks cell ≡ b → (inner outer cells_inner cells_outer : ℕ → List Place)
          → ((s : ℕ) → Stretches (map (token_stretch o levels s) (if_walks o.axes o.way o.walks b (children o.axes o.way cell))) (inner s) (outer s))
          → ((s : ℕ) → Stretches (map (cell_stretch o levels s) (if_walks o.axes o.way o.walks b (children o.axes o.way cell))) (cells_inner s) (cells_outer s))
          → (t : Tokens) → stack_count t.vertices ≡ 10 → stack_count t.cells ≡ 2 → ((s : ℕ) → items_at t.vertices s ≡ inner s) → ((s : ℕ) → items_at t.cells s ≡ cells_inner s)
          → Due o (flat_map (loads_of o levels) (if_walks o.axes o.way o.walks b (children o.axes o.way cell))) t.met
          → (after : Tokens) × ((if b then each_some (walk o levels) (children o.axes o.way cell) t else (Some t)) ≡ Some after)
          × Went outer cells_outer (met_after o (flat_map (loads_of o levels) (if_walks o.axes o.way o.walks b (children o.axes o.way cell))) t.met) t.held after
      below_run levels cell is_cell deep law true e inner outer cells_inner cells_outer stretches cell_stretches t n m its cells due =
          walk_each o greatest levels law (children o.axes o.way cell) (Each-weaker _ _ (λ c i. (i.0, omega (arith, i.1))) (children o.axes o.way cell) (kids_are_cells cell is_cell))
          t inner outer cells_inner cells_outer n m its cells stretches cell_stretches due
      below_run levels cell is_cell deep law false e inner outer cells_inner cells_outer stretches cell_stretches t n m its cells due =
          (t, refl, record { stacks = n; cell_stacks = m; its_vertices = λ s. its s ∙ stretches s; its_cells = λ s. cells s ∙ cell_stretches s; its_met = refl; its_held = λ place. refl })
