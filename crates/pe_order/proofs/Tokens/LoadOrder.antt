-- Each load of a walk of the whole tree is due: the cells around its vertex that come before were met, and no others.
use Rattle.std.proofs.Common.{◌≡◌, ℕ, zero, suc, ◌+◌, ◌^◌, ◌<◌, ◌≤◌, Bool, true, false, cond, ◌&&◌, List, [], ◌∷◌, ◌++◌, map, filter, reverse, drop, length, refl, sym, ap, ap₂, ◌∙◌, subst, true≢false, inl, arith}
use Rattle.std.specs.Prelude.{if◌then◌else◌}
use Rattle.std.specs.List.{flat_map, range_with_len, Contains, AllByRecursion as Each}
use Rattle.std.proofs.lemmas.List.Elements.{filter-append}
use Rattle.std.proofs.Math.Nat.{pow-le-pow_right}
use Rattle.std.proofs.Math.Bool.{and_comm}
use Rattle.pe_base.specs.declared.place.Place.{Place}
use Rattle.pe_base.specs.Tree.Dim.{IsDim}
use Rattle.pe_base.specs.Tree.Places.{root, corner, is_same}
use Rattle.pe_base.specs.Tree.Curve.{children}
use Rattle.pe_base.specs.Steps.Around.{around}
use Rattle.pe_base.specs.Steps.Faces.{Touch, corner_touches, loads, touched_for}
use Rattle.pe_base.specs.Walk.Streams.{if_walks}
use Rattle.pe_base.proofs.Lists.{Each-all, Each-weaker, Each-map, Each-reverse, flat_map_none, filter_none, filter-filter, filter_same, filter-map, filter-flat_map, filter_all}
use Rattle.pe_base.proofs.Tree.CurveLaws.{length-children}
use Rattle.pe_base.proofs.Tree.Ranks.{Rising, rank, rank_of, top, around_rises, is_same-true, same_places}
use Rattle.pe_base.proofs.Steps.VertexTouches.{is_same_itself, loaded_for_around}
use Rattle.pe_base.proofs.Faces.Quiet.{false_unless}
use Rattle.pe_order.specs.Laws.{IsCell}
use Rattle.pe_order.specs.Tokens.{Outlook, before, one_more}
use Rattle.pe_order.specs.Takings.{loads_of, met_more, Due, Grown}
use Rattle.pe_order.proofs.Unwalked.{in_contains, all_each}
use Rattle.pe_order.proofs.Trees.{root_is_cell, child_is_cell}
use Rattle.pe_order.proofs.Steps.{inside_on_grid}
use Rattle.pe_order.proofs.Tokens.Walks.{each_with}

-- in a rising list, what stands at the front of the rest stands behind so many
module _ (r : Place → ℕ) (ranks : (x y : Place) → is_same x y ≡ true → r x ≡ r y) where
  above : (n low high : ℕ) (xs : List Place) (c : Place) (rest : List Place) → Rising r low xs high → drop n xs ≡ c ∷ rest → low ≤ r c
  above zero low high [] c rest s e = absurd (omega (arith, ap length e))
  above zero low high (x ∷ xs) c rest s e = let h : x ≡ c = cc in subst (λ z. low ≤ r z) h s.0
  above (suc n) low high [] c rest s e = absurd (omega (arith, ap length e))
  above (suc n) low high (x ∷ xs) c rest s e = omega (arith, above n (suc (r x)) high xs c rest s.1 e, s.0)

  pub before_rest : (n low high : ℕ) (xs : List Place) (c : Place) (rest : List Place) → Rising r low xs high → drop n xs ≡ c ∷ rest → before xs c ≡ n
  before_rest zero low high [] c rest s e = absurd (omega (arith, ap length e))
  before_rest zero low high (x ∷ xs) c rest s e =
      let h : x ≡ c = cc in
      ap (λ b. if b then 0 else before xs c + 1) (ap (λ z. is_same z c) h ∙ is_same_itself c)
  before_rest (suc n) low high [] c rest s e = absurd (omega (arith, ap length e))
  before_rest (suc n) low high (x ∷ xs) c rest s e =
      let apart : is_same x c ≡ false = false_unless (is_same x c) (λ t. omega (arith, ranks x c t, above n (suc (r x)) high xs c rest s.1 e)) in
      ap (λ b. if b then 0 else before xs c + 1) apart ∙ omega (arith, before_rest n (suc (r x)) high xs c rest s.1 e)

drop_more : {X : Type 0} (n : ℕ) (xs : List X) (c : X) (rest : List X) → drop n xs ≡ c ∷ rest → drop (n + 1) xs ≡ rest
drop_more zero [] c rest e = absurd (omega (arith, ap length e))
drop_more zero (x ∷ xs) c rest e = cc
drop_more (suc n) [] c rest e = absurd (omega (arith, ap length e))
drop_more (suc n) (x ∷ xs) c rest e = ap (λ m. drop m (x ∷ xs)) (let k : suc n + 1 ≡ suc (n + 1) = omega arith in k) ∙ drop_more n xs c rest e

-- loads of which each vertex has those that it still lacks are due
pub due_from : (o : Outlook) → o.axes ≤ 4 → (touches : List Touch) (met : Place → ℕ) → ((v : Place) → o.counts v ≡ true → touched_for v touches ≡ drop (met v) (around o.axes o.way v)) → Due o touches met
due_from o four [] met h = tt
due_from o four (touch ∷ touches) met h = (first, due_from o four touches (met_more o touch met) (λ v c. more v c (is_same touch.vertex v) refl (h v c)))
  where
    own : o.counts touch.vertex ≡ true → touch.cell ∷ touched_for touch.vertex touches ≡ drop (met touch.vertex) (around o.axes o.way touch.vertex)
    own c = ap (λ b. map (λ t. t.cell) (cond b (touch ∷ filter (λ t. is_same t.vertex touch.vertex) touches) (filter (λ t. is_same t.vertex touch.vertex) touches))) (sym (is_same_itself touch.vertex)) ∙ h touch.vertex c

    first : o.counts touch.vertex ≡ true → met touch.vertex ≡ before (around o.axes o.way touch.vertex) touch.cell
    first c = sym (before_rest (rank_of o.axes o.way touch.vertex.level) (λ x y e. ap (λ p. rank o.axes o.way touch.vertex.level p) (is_same-true x y e).1)
        (met touch.vertex) 0 (top o.axes touch.vertex.level) (around o.axes o.way touch.vertex) touch.cell (touched_for touch.vertex touches) (around_rises o.axes o.way touch.vertex four) (sym (own c)))

    more : (v : Place) → o.counts v ≡ true → (b : Bool) → is_same touch.vertex v ≡ b
        → map (λ t. t.cell) (cond (is_same touch.vertex v) (touch ∷ filter (λ t. is_same t.vertex v) touches) (filter (λ t. is_same t.vertex v) touches)) ≡ drop (met v) (around o.axes o.way v)
        → touched_for v touches ≡ drop (met_more o touch met v) (around o.axes o.way v)
    more v c true e k =
        let same : touch.vertex ≡ v = same_places touch.vertex v e in
        let now : met_more o touch met v ≡ met v + 1 =
        ap (λ b. (if b then one_more touch.vertex met else met) v) (ap o.counts same ∙ c) ∙ ap (λ b. if b then met v + 1 else met v) e in
        sym (drop_more (met v) (around o.axes o.way v) touch.cell (touched_for v touches) (sym k ∙ ap (λ b. map (λ t. t.cell) (cond b (touch ∷ filter (λ t. is_same t.vertex v) touches) (filter (λ t. is_same t.vertex v) touches))) e))
        ∙ ap (λ n. drop n (around o.axes o.way v)) (sym now)
    more v c false e k =
        ap (λ b. map (λ t. t.cell) (cond b (touch ∷ filter (λ t. is_same t.vertex v) touches) (filter (λ t. is_same t.vertex v) touches))) (sym e) ∙ k
        ∙ ap (λ n. drop n (around o.axes o.way v)) (stays (o.counts touch.vertex))
      where
        stays : (b : Bool) → met v ≡ (if b then one_more touch.vertex met else met) v
        stays true = ap (λ x. if x then met v + 1 else met v) (sym e)
        stays false = refl

-- the loads for walked cells
module _ (o : Outlook) (walked : Place → Bool) (greatest : ℕ) (dim : IsDim o.axes) (grown : Grown o walked greatest) where
  abbrev for_walked : Touch → Bool
  for_walked t = walked t.cell

  pub own_all : (cell : Place) (b : Bool) → walked cell ≡ b → Each (λ t. for_walked t ≡ b) (reverse (corner_touches o.axes cell))
  own_all cell b e = Each-reverse (λ t. for_walked t ≡ b) (corner_touches o.axes cell) (Each-map (λ t. for_walked t ≡ b) (λ k. record { vertex = corner o.axes cell k; cell = cell }) (range_with_len 0 (2 ^ o.axes)) (Each-all _ (λ k. e) (range_with_len 0 (2 ^ o.axes))))

  -- the children of a cell are cells of the tree, walked as the cell says
  pub kids_walked : (cell : Place) → IsCell o.axes o.way cell → Each (λ c. IsCell o.axes o.way c × (walked c ≡ o.walks cell) × (walked c ≡ true → walked cell ≡ true)) (children o.axes o.way cell)
  kids_walked cell is_cell = Each-weaker _ _ (λ c i.
      let k = in_contains (children o.axes o.way cell) c i.0 in
      (child_is_cell o.axes o.way cell c dim.1 is_cell k, grown.below cell c is_cell k, (λ w. grown.is_walk.parents cell c is_cell k w))) (children o.axes o.way cell)
      (each_with (λ c. Unit {0}) (children o.axes o.way cell) (Each-all _ (λ c. tt) (children o.axes o.way cell)))

  unwalked_loads : (levels : ℕ) (cell : Place) → IsCell o.axes o.way cell → walked cell ≡ false → filter for_walked (loads o.axes o.way levels cell) ≡ []
  unwalked_loads zero cell is_cell e = filter_none for_walked (reverse (corner_touches o.axes cell)) (own_all cell false e)
  unwalked_loads (suc levels) cell is_cell e =
      let kids = children o.axes o.way cell in
      filter-append for_walked (reverse (corner_touches o.axes cell)) (flat_map (loads o.axes o.way levels) kids)
      ∙ ap₂ (λ x y. x ++ y) (filter_none for_walked (reverse (corner_touches o.axes cell)) (own_all cell false e))
      (filter-flat_map for_walked (loads o.axes o.way levels) kids
      ∙ flat_map_none _ kids (Each-weaker _ _ (λ c i. unwalked_loads levels c i.0 (false_unless (walked c) (λ w. absurd (true≢false (sym (i.2 w) ∙ e))))) kids (kids_walked cell is_cell)))

  -- the loads of the walk are the regular loads for walked cells
  pub loads_filtered : (levels : ℕ) (cell : Place) → IsCell o.axes o.way cell → walked cell ≡ true → loads_of o levels cell ≡ filter for_walked (loads o.axes o.way levels cell)
  loads_filtered zero cell is_cell e = sym (filter_all for_walked (reverse (corner_touches o.axes cell)) (own_all cell true e))
  loads_filtered (suc levels) cell is_cell e =
      let kids = children o.axes o.way cell in
      ap₂ (λ x y. x ++ y) (sym (filter_all for_walked (reverse (corner_touches o.axes cell)) (own_all cell true e)))
      (go (o.walks cell) refl (kids_walked cell is_cell)
      (Each-weaker _ _ (λ c i. (λ w. loads_filtered levels c i.0 w)) kids (kids_walked cell is_cell))
      (Each-weaker _ _ (λ c i. (λ w. unwalked_loads levels c i.0 w)) kids (kids_walked cell is_cell))
      ∙ sym (filter-flat_map for_walked (loads o.axes o.way levels) kids))
      ∙ sym (filter-append for_walked (reverse (corner_touches o.axes cell)) (flat_map (loads o.axes o.way levels) kids))
    where
      both : (f g : Place → List Touch) (cs : List Place) (b : Bool) → Each (λ c. walked c ≡ b) cs → Each (λ c. walked c ≡ b → f c ≡ g c) cs → flat_map f cs ≡ flat_map g cs
      both f g [] b h k = refl
      both f g (c ∷ cs) b h k = ap₂ (λ x y. x ++ y) (k.0 h.0) (both f g cs b h.1 k.1)

      go : (b : Bool) → o.walks cell ≡ b → Each (λ c. IsCell o.axes o.way c × (walked c ≡ o.walks cell) × (walked c ≡ true → walked cell ≡ true)) (children o.axes o.way cell)
          → Each (λ c. walked c ≡ true → loads_of o levels c ≡ filter for_walked (loads o.axes o.way levels c)) (children o.axes o.way cell)
          → Each (λ c. walked c ≡ false → filter for_walked (loads o.axes o.way levels c) ≡ []) (children o.axes o.way cell)
          → flat_map (loads_of o levels) (if_walks o.axes o.way o.walks b (children o.axes o.way cell)) ≡ flat_map (λ c. filter for_walked (loads o.axes o.way levels c)) (children o.axes o.way cell)
      go true k each some none = both (loads_of o levels) (λ c. filter for_walked (loads o.axes o.way levels c)) (children o.axes o.way cell) true (Each-weaker _ _ (λ c i. i.1 ∙ k) (children o.axes o.way cell) each) some
      go false k each some none = sym (flat_map_none _ (children o.axes o.way cell) (nothing (children o.axes o.way cell) (Each-weaker _ _ (λ c i. i.1 ∙ k) (children o.axes o.way cell) each) none))
        where
          nothing : (cs : List Place) → Each (λ c. walked c ≡ false) cs → Each (λ c. walked c ≡ false → filter for_walked (loads o.axes o.way levels c) ≡ []) cs → Each (λ c. filter for_walked (loads o.axes o.way levels c) ≡ []) cs
          nothing [] h k = tt
          nothing (c ∷ cs) h k = (k.0 h.0, nothing cs h.1 k.1)

  -- the root is walked, and so are its children
  root_child : (child : Place) × Contains (children o.axes o.way root) child
  root_child = pick (children o.axes o.way root) (omega (arith, length-children o.axes o.way root, pow-le-pow_right {n = 3} (omega arith) {i = 0} {j = o.axes} (omega arith)))
    where
      pick : (cs : List Place) → 0 < length cs → (child : Place) × Contains cs child
      pick [] h = absurd (omega arith)
      pick (c ∷ cs) h = (c, in_contains (c ∷ cs) c (inl refl))

  pub root_walked : walked root ≡ true
  root_walked = grown.is_walk.parents root root_child.0 (root_is_cell o.axes o.way) root_child.1 (grown.is_walk.first root_child.0 root_child.1)

  pub root_walks : o.walks root ≡ true
  root_walks = sym (grown.below root root_child.0 (root_is_cell o.axes o.way) root_child.1) ∙ grown.is_walk.first root_child.0 root_child.1

  -- the loads of a vertex that counts are for the cells around it
  pub loaded_around : (vertex : Place) → o.counts vertex ≡ true → touched_for vertex (loads_of o greatest root) ≡ around o.axes o.way vertex
  loaded_around vertex c =
      let here = λ (t : Touch). is_same t.vertex vertex in
      let all = loads o.axes o.way greatest root in
      let inside = grown.is_walk.inside vertex c in
      ap (touched_for vertex) (loads_filtered greatest root (root_is_cell o.axes o.way) root_walked)
      ∙ ap (map (λ t. t.cell)) (sym (filter-filter here for_walked all) ∙ filter_same _ (λ t. here t && for_walked t) all (Each-all _ (λ t. and_comm (for_walked t) (here t)) all) ∙ filter-filter for_walked here all)
      ∙ sym (filter-map walked (λ t. t.cell) (filter here all))
      ∙ ap (filter walked) (loaded_for_around o.axes o.way greatest vertex dim.1 (inside_on_grid o.axes vertex inside) (grown.counts_within vertex c))
      ∙ filter_all walked (around o.axes o.way vertex) (all_each (λ p. walked p ≡ true) (around o.axes o.way vertex) (grown.is_walk.all_around vertex c))

  pub all_due : Due o (loads_of o greatest root) (λ place. 0)
  all_due = due_from o dim.1 (loads_of o greatest root) (λ place. 0) loaded_around
