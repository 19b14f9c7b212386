-- Two walks that read the same read in one order.
use Rattle.std.proofs.Common.{◌≡◌, ℕ, zero, suc, Bool, true, false, cond, ◌&&◌, List, [], ◌∷◌, map, filter, refl, sym, ap, ap₂, ◌∙◌, subst, true≢false}
use Rattle.std.proofs.lemmas.Bool.{and_parts}
use Rattle.std.proofs.lemmas.List.Elements.{All-from_recursion}
use Rattle.std.proofs.Math.Bool.{and_assoc}
use Rattle.std.specs.Prelude.{is_none}
use Rattle.std.specs.List.{flat_map, AllByRecursion as Each}
use Rattle.pe_base.specs.declared.place.Place.{Place}
use Rattle.pe_base.specs.declared.way.Way.{Way}
use Rattle.pe_base.specs.Tree.Dim.{IsDim}
use Rattle.pe_base.specs.Tree.Places.{root}
use Rattle.pe_base.specs.Tree.Ways.{opposite}
use Rattle.pe_base.specs.Tree.Curve.{children, order}
use Rattle.pe_base.specs.Steps.Around.{around}
use Rattle.pe_base.specs.Steps.Routes.{stack_in}
use Rattle.pe_base.specs.Steps.Faces.{Touch, loads}
use Rattle.pe_base.specs.Walk.Streams.{if_walks, walked_cells}
use Rattle.pe_base.proofs.Lists.{Each-all, Each-weaker, Each-reverse, Each-flat_map, Each-In, flat_map_none, flat_map_same, filter_same, filter-filter, filter-flat_map}
use Rattle.pe_base.proofs.Steps.Turned.{around-opposite}
use Rattle.pe_base.proofs.Faces.Quiet.{false_unless}
use Rattle.pe_base.proofs.Faces.Waits.{Touched, loads_touched}
use Rattle.pe_order.specs.Laws.{IsCell}
use Rattle.pe_order.specs.Tokens.{Outlook}
use Rattle.pe_order.specs.Takings.{is_read, reads_of, Grown}
use Rattle.pe_order.specs.StreamLaws.{FitsTurned, StreamsAreOne}
use Rattle.pe_order.proofs.Unwalked.{contains_in, in_contains, all_each, tree_either, contained_either}
use Rattle.pe_order.proofs.Trees.{root_is_cell}
use Rattle.pe_order.proofs.Tokens.Keeping.{kids_in_tree}
use Rattle.pe_order.proofs.Tokens.LoadOrder.{loads_filtered, kids_walked, root_walked}

-- a cell of the tree of one way is one of the other
cell_turned : (axes : ℕ) (way : Way) (cell : Place) → IsCell axes (opposite way) cell → IsCell axes way cell
cell_turned axes way cell is = in_contains (order axes way cell.level) cell (tree_either axes (opposite way) way cell (contains_in (order axes (opposite way) cell.level) cell is))

pub fits_turned : FitsTurned
fits_turned o walked greatest dim grown = record {
  is_walk = record {
    first = λ child c. grown.is_walk.first child (contained_either o.axes (opposite o.way) o.way root child c);
    parents = λ cell child is c. grown.is_walk.parents cell child (cell_turned o.axes o.way cell is) (contained_either o.axes (opposite o.way) o.way cell child c);
    all_or_none = λ cell child other is c d. grown.is_walk.all_or_none cell child other (cell_turned o.axes o.way cell is) (contained_either o.axes (opposite o.way) o.way cell child c) (contained_either o.axes (opposite o.way) o.way cell other d);
    inside = grown.is_walk.inside;
    all_around = λ v c. All-from_recursion (λ cell. walked cell ≡ true) (around o.axes (opposite o.way) v) (subst (Each (λ cell. walked cell ≡ true)) (sym (around-opposite o.axes o.way v))
        (Each-reverse (λ cell. walked cell ≡ true) (around o.axes o.way v) (all_each (λ cell. walked cell ≡ true) (around o.axes o.way v) (grown.is_walk.all_around v c))));
  };
  below = λ cell child is c. grown.below cell child (cell_turned o.axes o.way cell is) (contained_either o.axes (opposite o.way) o.way cell child c);
  walks_within = grown.walks_within;
  counts_within = grown.counts_within;
  root_unread = grown.root_unwritten;
  root_unwritten = grown.root_unread;
}

filter_where : {X : Type 0} (p q : X → Bool) (xs : List X) → Each (λ x. p x ≡ true → q x ≡ true) xs → filter p (filter q xs) ≡ filter p xs
filter_where p q xs e = sym (filter-filter p q xs) ∙ filter_same (λ x. q x && p x) p xs (Each-weaker _ _ (λ x h. go (p x) (q x) h) xs e)
  where
    go : (a b : Bool) → (a ≡ true → b ≡ true) → (b && a) ≡ a
    go true b h = ap (λ c. c && true) (h refl)
    go false true h = refl
    go false false h = refl

module _ (o : Outlook) (walked : Place → Bool) (greatest : ℕ) (dim : IsDim o.axes) (grown : Grown o walked greatest) where
  -- what is read, among all loads of the tree
  pub reads_regular : reads_of o greatest root ≡ map (λ t. t.vertex) (filter (is_read o) (loads o.axes o.way greatest root))
  reads_regular = ap (map (λ t. t.vertex)) (ap (filter (is_read o)) (loads_filtered o walked greatest dim grown greatest root (root_is_cell o.axes o.way) (root_walked o walked greatest dim grown))
      ∙ filter_where (is_read o) (λ t. walked t.cell) (loads o.axes o.way greatest root) (Each-weaker (Touched o.axes o.way root) _ (λ t at r.
      Each-In (λ c. walked c ≡ true) t.cell (around o.axes o.way t.vertex) (all_each (λ c. walked c ≡ true) (around o.axes o.way t.vertex) (grown.is_walk.all_around t.vertex (and_parts (o.counts t.vertex) _ r).0)) at.around_it)
      (loads o.axes o.way greatest root) (loads_touched o.axes o.way greatest root dim.1 refl (contains_in (order o.axes o.way root.level) root (root_is_cell o.axes o.way)))))

  -- all cells of the tree
  abbrev all_cells : ℕ → Place → List Place
  all_cells levels cell = walked_cells o.axes o.way (λ c. true) levels cell

  module _ (p : Place → Bool) (within : (cell : Place) → IsCell o.axes o.way cell → p cell ≡ true → walked cell ≡ true) where
    kept_none : (cell : Place) (rest : List Place) → IsCell o.axes o.way cell → walked cell ≡ false → filter p (cell ∷ rest) ≡ filter p rest
    kept_none cell rest is_cell e = ap (λ b. cond b (cell ∷ filter p rest) (filter p rest)) (false_unless (p cell) (λ t. absurd (true≢false (sym (within cell is_cell t) ∙ e))))

    unwalked_cells : (levels : ℕ) (cell : Place) → IsCell o.axes o.way cell → walked cell ≡ false → filter p (all_cells levels cell) ≡ []
    unwalked_cells zero cell is_cell e = kept_none cell [] is_cell e
    unwalked_cells (suc levels) cell is_cell e =
        kept_none cell (flat_map (all_cells levels) (children o.axes o.way cell)) is_cell e
        ∙ filter-flat_map p (all_cells levels) (children o.axes o.way cell)
        ∙ flat_map_none _ (children o.axes o.way cell) (Each-weaker _ _ (λ c i. unwalked_cells levels c i.0 (false_unless (walked c) (λ w. absurd (true≢false (sym (i.2 w) ∙ e))))) (children o.axes o.way cell) (kids_walked o walked greatest dim grown cell is_cell))

    -- among the walked cells and among all, the same pass
    pub cells_regular : (levels : ℕ) (cell : Place) → IsCell o.axes o.way cell → filter p (walked_cells o.axes o.way o.walks levels cell) ≡ filter p (all_cells levels cell)
    cells_regular zero cell is_cell = refl
    cells_regular (suc levels) cell is_cell =
        ap (λ xs. cond (p cell) (cell ∷ xs) xs) (below (o.walks cell) refl (kids_walked o walked greatest dim grown cell is_cell)
        (Each-weaker _ _ (λ c i. cells_regular levels c i.0) (children o.axes o.way cell) (kids_walked o walked greatest dim grown cell is_cell))
        (Each-weaker _ _ (λ c i. (λ e. unwalked_cells levels c i.0 e)) (children o.axes o.way cell) (kids_walked o walked greatest dim grown cell is_cell)))
      where
        below : (b : Bool) → o.walks cell ≡ b → Each (λ c. IsCell o.axes o.way c × (walked c ≡ o.walks cell) × (walked c ≡ true → walked cell ≡ true)) (children o.axes o.way cell)
            → Each (λ c. filter p (walked_cells o.axes o.way o.walks levels c) ≡ filter p (all_cells levels c)) (children o.axes o.way cell)
            → Each (λ c. walked c ≡ false → filter p (all_cells levels c) ≡ []) (children o.axes o.way cell)
            → filter p (flat_map (walked_cells o.axes o.way o.walks levels) (if_walks o.axes o.way o.walks b (children o.axes o.way cell))) ≡ filter p (flat_map (all_cells levels) (children o.axes o.way cell))
        below true k each same none =
            filter-flat_map p (walked_cells o.axes o.way o.walks levels) (children o.axes o.way cell)
            ∙ flat_map_same _ _ (children o.axes o.way cell) same
            ∙ sym (filter-flat_map p (all_cells levels) (children o.axes o.way cell))
        below false k each same none =
            sym (filter-flat_map p (all_cells levels) (children o.axes o.way cell) ∙ flat_map_none _ (children o.axes o.way cell) (nothing (children o.axes o.way cell) (Each-weaker _ _ (λ c i. i.1 ∙ k) (children o.axes o.way cell) each) none))
          where
            nothing : (cs : List Place) → Each (λ c. walked c ≡ false) cs → Each (λ c. walked c ≡ false → filter p (all_cells levels c) ≡ []) cs → Each (λ c. filter p (all_cells levels c) ≡ []) cs
            nothing [] h k = tt
            nothing (c ∷ cs) h k = (k.0 h.0, nothing cs h.1 k.1)

  pub cells_in_tree : (levels : ℕ) (cell : Place) → IsCell o.axes o.way cell → Each (IsCell o.axes o.way) (walked_cells o.axes o.way (λ c. true) levels cell)
  cells_in_tree zero cell is_cell = (is_cell, tt)
  cells_in_tree (suc levels) cell is_cell = (
    is_cell,
    Each-flat_map (IsCell o.axes o.way) (walked_cells o.axes o.way (λ c. true) levels) (children o.axes o.way cell)
        (Each-weaker (IsCell o.axes o.way) _ (λ c i. cells_in_tree levels c i) (children o.axes o.way cell) (kids_in_tree o dim.1 cell is_cell)),
  )

pub streams_are_one : StreamsAreOne
streams_are_one o p walked also_walked greatest dim grown also_grown alike = (
  reads_regular o walked greatest dim grown
      ∙ ap (map (λ t. t.vertex)) (ap₂ (λ a w. filter (is_read o) (loads a w greatest root)) alike.axes alike.way
      ∙ filter_same (is_read o) (is_read p) (loads p.axes p.way greatest root) (Each-all _ (λ t. same t) (loads p.axes p.way greatest root)))
      ∙ sym (reads_regular p also_walked greatest also_dim also_grown),
  cells_regular o walked greatest dim grown o.reads_cell alike.cells_walked greatest root (root_is_cell o.axes o.way)
      ∙ filter_same o.reads_cell p.reads_cell (walked_cells o.axes o.way (λ c. true) greatest root) (Each-weaker (IsCell o.axes o.way) _ (λ c i. alike.cells c i) (walked_cells o.axes o.way (λ c. true) greatest root)
      (cells_in_tree o walked greatest dim grown greatest root (root_is_cell o.axes o.way)))
      ∙ ap₂ (λ a w. filter p.reads_cell (walked_cells a w (λ c. true) greatest root)) alike.axes alike.way
      ∙ sym (cells_regular p also_walked greatest also_dim also_grown p.reads_cell (λ c i. alike.also_cells_walked c (back c i)) greatest root (root_is_cell p.axes p.way)),
)
  where
    also_dim : IsDim p.axes
    also_dim = subst IsDim alike.axes dim

    back : (c : Place) → IsCell p.axes p.way c → IsCell o.axes o.way c
    back c i = subst (λ w. IsCell o.axes w c) (sym alike.way) (subst (λ a. IsCell a p.way c) (sym alike.axes) i)

    same : (t : Touch) → is_read o t ≡ is_read p t
    same t = sym (and_assoc (o.counts t.vertex) (o.reads t.vertex) _)
        ∙ ap₂ (λ x y. x && y) (alike.vertices t.vertex) (ap₂ (λ a w. is_none (stack_in a w t.vertex t.cell)) alike.axes alike.way)
        ∙ and_assoc (p.counts t.vertex) (p.reads t.vertex) _
