-- A traversal over places on stacks: at the root, whose faces have empty lists.
use Rattle.std.proofs.Common.{◌≡◌, ℕ, zero, suc, ◌+◌, ◌-◌, ◌*◌, ◌/◌, ◌%◌, ◌^◌, ◌<◌, ◌≤◌, Bool, true, false, cond, ◌&&◌, ◌==◌, List, [], ◌∷◌, ◌++◌, map, filter, reverse, length, drop, slice_index, Some, refl, sym, ap, ◌∙◌, subst, true≢false, append-nil, arith}
use Rattle.std.specs.Prelude.{nat_lt, if◌then◌else◌}
use Rattle.std.specs.Option.{option_map}
use Rattle.std.specs.List.{flat_map, range_with_len, AllByRecursion as Each}
use Rattle.std.proofs.lemmas.Bool.Decides.{nat_tests}
use Rattle.std.proofs.lemmas.List.{get_or-set_same}
use Rattle.pe_base.specs.declared.place.Place.{Place}
use Rattle.pe_base.specs.declared.way.Way.{Way}
use Rattle.pe_base.specs.Tree.Dim.{IsDim}
use Rattle.pe_base.specs.Tree.Places.{IsInside, root, corner, is_same}
use Rattle.pe_base.specs.Tree.Curve.{children}
use Rattle.pe_base.specs.Steps.Around.{around}
use Rattle.pe_base.specs.Steps.Faces.{Face, IsFace, facing, ShareFace, Touch, Stretches, across, beside, face_on, arriving, leaving, corner_touches, touched_for}
use Rattle.pe_base.specs.Steps.Stacks.{on_stack}
use Rattle.pe_base.specs.Walk.Streams.{if_walks, walked_children}
use Rattle.pe_base.proofs.Lists.{Each-all, Each-weaker, Each-map, Each-reverse, filter_none}
use Rattle.pe_base.proofs.Faces.Quiet.{false_unless}
use Rattle.pe_base.proofs.Faces.Bridge.{apart}
use Rattle.pe_base.proofs.Tree.Ranks.{same_places}
use Rattle.pe_stacks.specs.Holdings.{Holdings, stack_count, items_at, lent, given_up}
use Rattle.pe_stacks.specs.Grid.{input_stack, output_stack, cell_input_stack, cell_output_stack}
use Rattle.pe_order.specs.Laws.{IsCell}
use Rattle.pe_order.specs.Tokens.{Outlook, Tokens, one_more, given_up_for, lent_for, numbers, begun, ended, traverse}
use Rattle.pe_order.specs.Takings.{loads_of, reads_of, writes_of, takes, gives, cell_takes, cell_gives, met_more, met_after, Due, Grown, MayTraverse, HasTraversed}
use Rattle.pe_order.specs.TokenLaws.{WalkOfACell, LoadsAreDue, LoadedAround, WholeTraversal}
use Rattle.pe_order.proofs.Trees.{root_is_cell, cell_position}
use Rattle.pe_order.proofs.Derived.{faces_are_one_way}
use Rattle.pe_order.proofs.Tokens.Loads.{due-split, met-append}
use Rattle.pe_order.proofs.Tokens.OneStack.{Passage, passage, token_stretch}
use Rattle.pe_order.proofs.Tokens.Walks.{CellPassage, cell_passage, cell_stretch, walk_each, walks, kids_are_cells}
use Rattle.pe_order.proofs.Tokens.LoadOrder.{due_from, loaded_around, all_due, root_walks}

-- the faces of the root have no neighbour
root_alone : (axes : ℕ) (way : Way) (face : Face) (neighbour : Place) → IsDim axes → IsFace axes face → IsCell axes way neighbour → ShareFace face root neighbour → ⊥
root_alone axes way face neighbour dim is_face is_cell share =
    let is = cell_position axes way neighbour dim.1 is_cell in
    let level : neighbour.level ≡ 0 = ap (λ p. p.level) (sym share.0) in
    let low : slice_index neighbour.pos face.axis < 3 ^ neighbour.level = is.inside face.axis is_face.0 in
    let here : slice_index neighbour.pos face.axis ≡ 0 = omega (arith, subst (λ n. slice_index neighbour.pos face.axis < 3 ^ n) level low) in
    let a = is_face.0 in
    let four = dim.1 in
    apart face root is_face.1 (omega arith) (refl, ap (across (facing face)) share.0 ∙ share.1)
    (sym (get_or-set_same root.pos face.axis (beside face.side (slice_index root.pos face.axis)) 0 (omega arith)) ∙ ap (λ p. slice_index p.pos face.axis) share.0 ∙ here ∙ sym (zero_at face.axis))
  where
    zero_at : (axis : ℕ) → slice_index root.pos axis ≡ 0
    zero_at zero = refl
    zero_at (suc zero) = refl
    zero_at (suc (suc zero)) = refl
    zero_at (suc (suc (suc zero))) = refl
    zero_at (suc (suc (suc (suc axis)))) = refl

module _ (o : Outlook) (dim : IsDim o.axes) where
  root_lists : (levels : ℕ) (face : Face) → IsFace o.axes face → (arriving o.axes o.way o.counts levels face root ≡ []) × (leaving o.axes o.way o.counts levels face root ≡ [])
  root_lists levels face is_face = (faces_are_one_way o.axes o.way o.counts levels face root dim is_face (root_is_cell o.axes o.way)).outside (λ n is_cell share. root_alone o.axes o.way face n dim is_face is_cell share)

  root_on_stack : (lists : Face → Place → List Place) → ((face : Face) → IsFace o.axes face → lists face root ≡ []) → (s : ℕ) → on_stack o.axes lists s root ≡ []
  root_on_stack lists none s = go (nat_lt s (2 * o.axes)) refl
    where
      go : (b : Bool) → nat_lt s (2 * o.axes) ≡ b → (if b then lists (face_on (s / 2) (s % 2) root) root else []) ≡ []
      go true e = let inside : s < 2 * o.axes = grind (arith, nat_tests) in none (face_on (s / 2) (s % 2) root) (omega arith, omega arith)
      go false e = refl

  root_takes : (levels s : ℕ) → takes o levels s root ≡ (if s == input_stack o.swapped then reads_of o levels root else [])
  root_takes levels s = ap (λ xs. if s == input_stack o.swapped then reads_of o levels root else xs) (root_on_stack (arriving o.axes o.way o.counts levels) (λ face is. (root_lists levels face is).0) s)

  root_gives : (levels s : ℕ) → gives o levels s root ≡ (if s == output_stack o.swapped then writes_of o levels root else [])
  root_gives levels s = ap (λ xs. if s == output_stack o.swapped then writes_of o levels root else xs) (root_on_stack (leaving o.axes o.way o.counts levels) (λ face is. (root_lists levels face is).1) s)

-- met by so many touches
met_touched : (o : Outlook) (v : Place) → o.counts v ≡ true → (touches : List Touch) (met : Place → ℕ) → met_after o touches met v ≡ met v + length (touched_for v touches)
met_touched o v c [] met = omega arith
met_touched o v c (touch ∷ touches) met = met_touched o v c touches (met_more o touch met) ∙ go (is_same touch.vertex v) refl (o.counts touch.vertex) refl
  where
    list : Bool → List Place
    list b = map (λ t. t.cell) (cond b (touch ∷ filter (λ t. is_same t.vertex v) touches) (filter (λ t. is_same t.vertex v) touches))

    go : (s : Bool) → is_same touch.vertex v ≡ s → (b : Bool) → o.counts touch.vertex ≡ b
        → (if b then one_more touch.vertex met else met) v + length (touched_for v touches) ≡ met v + length (map (λ t. t.cell) (cond s (touch ∷ filter (λ t. is_same t.vertex v) touches) (filter (λ t. is_same t.vertex v) touches)))
    go true e true k = ap (λ b. (if b then met v + 1 else met v) + length (touched_for v touches)) e ∙ omega arith
    go false e true k = ap (λ b. (if b then met v + 1 else met v) + length (touched_for v touches)) e
    go true e false k = absurd (true≢false (sym c ∙ ap o.counts (sym (same_places touch.vertex v e)) ∙ k))
    go false e false k = refl

pub lent_items : (ks : List ℕ) (held : Holdings Place) (s : ℕ) → items_at (lent_for ks held) s ≡ items_at held s
lent_items [] held s = refl
lent_items (k ∷ ks) held s = lent_items ks (lent held) s

pub lent_stacks : (ks : List ℕ) (held : Holdings Place) → stack_count (lent_for ks held) ≡ stack_count held
lent_stacks [] held = refl
lent_stacks (k ∷ ks) held = lent_stacks ks (lent held)

pub given_items : (ks : List ℕ) (held : Holdings Place) (s : ℕ) → items_at (given_up_for ks held) s ≡ items_at held s
given_items [] held s = refl
given_items (k ∷ ks) held s = given_items ks (given_up held) s

pub given_stacks : (ks : List ℕ) (held : Holdings Place) → stack_count (given_up_for ks held) ≡ stack_count held
given_stacks [] held = refl
given_stacks (k ∷ ks) held = given_stacks ks (given_up held)

-- As a traversal begins, the walks of the root's children, one after another, make these lists of what lies on the stacks, and
-- their loads are due.
pub record RootBegins (o : Outlook) (levels : ℕ) (outer cells_outer : ℕ → List Place) (t : Tokens) : Type 0 where
  pub stacks : stack_count t.vertices ≡ 10
  pub cell_stacks : stack_count t.cells ≡ 2
  pub stretches : (s : ℕ) → Stretches (map (token_stretch o levels s) (children o.axes o.way root)) (items_at t.vertices s) (outer s)
  pub cell_stretches : (s : ℕ) → Stretches (map (cell_stretch o levels s) (children o.axes o.way root)) (items_at t.cells s) (cells_outer s)
  pub due : Due o (flat_map (loads_of o levels) (children o.axes o.way root)) t.met

module _ (o : Outlook) (walked : Place → Bool) (greatest : ℕ) (dim : IsDim o.axes) (grown : Grown o walked greatest) where
  -- no corner of the root counts
  pub root_corners : Each (λ t. o.counts t.vertex ≡ false) (reverse (corner_touches o.axes root))
  root_corners = Each-reverse (λ t. o.counts t.vertex ≡ false) (corner_touches o.axes root) (Each-map (λ t. o.counts t.vertex ≡ false) (λ k. record { vertex = corner o.axes root k; cell = root }) (range_with_len 0 (2 ^ o.axes))
      (Each-all _ (λ k. false_unless (o.counts (corner o.axes root k)) (λ c. outside (corner o.axes root k) refl (grown.is_walk.inside (corner o.axes root k) c))) (range_with_len 0 (2 ^ o.axes))))
    where
      outside : (v : Place) → v.level ≡ 0 → IsInside o.axes v → 1 ≤ 0
      outside v e inside = omega (arith, inside.above 0 (omega arith), subst (λ n. slice_index v.pos 0 < 3 ^ n) e (inside.pos.inside 0 (omega arith)))

  none_kept : (test : Touch → Bool) (ts : List Touch) → Each (λ t. o.counts t.vertex ≡ false) ts → filter (λ t. o.counts t.vertex && test t) ts ≡ []
  none_kept test ts e = filter_none _ ts (Each-weaker _ _ (λ t c. ap (λ b. b && test t) c) ts e)

  met_none : (ts : List Touch) (met : Place → ℕ) → Each (λ t. o.counts t.vertex ≡ false) ts → met_after o ts met ≡ met
  met_none [] met e = refl
  met_none (t ∷ ts) met e = ap (λ b. met_after o ts (if b then one_more t.vertex met else met)) e.0 ∙ met_none ts met e.1

  own_reads : reads_of o 0 root ≡ []
  own_reads = ap (map (λ t. t.vertex)) (none_kept _ (reverse (corner_touches o.axes root)) root_corners)

  own_writes : writes_of o 0 root ≡ []
  own_writes = ap (map (λ t. t.vertex)) (none_kept _ (reverse (corner_touches o.axes root)) root_corners)

  abbrev no_places : List Place
  no_places = []

  if_nothing : (b : Bool) → (if b then no_places else no_places) ≡ no_places
  if_nothing true = refl
  if_nothing false = refl

  own_takes_none : (s : ℕ) → takes o 0 s root ≡ []
  own_takes_none s = root_takes o dim 0 s ∙ ap (λ xs. if s == input_stack o.swapped then xs else []) own_reads ∙ if_nothing (s == input_stack o.swapped)

  own_gives_none : (s : ℕ) → gives o 0 s root ≡ []
  own_gives_none s = root_gives o dim 0 s ∙ ap (λ xs. if s == output_stack o.swapped then xs else []) own_writes ∙ if_nothing (s == output_stack o.swapped)

  own_cell_takes_none : (s : ℕ) → cell_takes o 0 s root ≡ []
  own_cell_takes_none s = ap (λ b. if s == cell_input_stack o.swapped then cond b (root ∷ []) [] else []) grown.root_unread ∙ if_nothing (s == cell_input_stack o.swapped)

  own_cell_gives_none : (s : ℕ) → cell_gives o 0 s root ≡ []
  own_cell_gives_none s = ap (λ b. if s == cell_output_stack o.swapped then cond b (root ∷ []) [] else []) grown.root_unwritten ∙ if_nothing (s == cell_output_stack o.swapped)

  -- a list with nothing behind it is another with nothing before it
  rest_is : (xs own inner : List Place) → own ≡ [] → xs ++ [] ≡ own ++ inner → inner ≡ xs
  rest_is xs own inner e k = sym (ap (λ ys. ys ++ inner) e) ∙ sym k ∙ append-nil xs

  -- there are levels below the root, its children are walked, and the loads of a traversal are its own and those below
  some_levels : greatest ≡ suc (greatest - 1)
  some_levels = omega (arith, grown.walks_within root (root_walks o walked greatest dim grown))

  root_kids : walked_children o.axes o.way o.walks root ≡ children o.axes o.way root
  root_kids = ap (λ b. if_walks o.axes o.way o.walks b (children o.axes o.way root)) (root_walks o walked greatest dim grown)

  root_loads : loads_of o greatest root ≡ reverse (corner_touches o.axes root) ++ flat_map (loads_of o (greatest - 1)) (children o.axes o.way root)
  root_loads = ap (λ n. loads_of o n root) some_levels ∙ ap (λ cs. reverse (corner_touches o.axes root) ++ flat_map (loads_of o (greatest - 1)) cs) root_kids

  -- what the walk of the root does on each stack
  pub root_passage : (s : ℕ) → Passage o (suc (greatest - 1)) s root (token_stretch o (greatest - 1) s) (walked_children o.axes o.way o.walks root) []
  root_passage s = passage o walked grown.is_walk dim root (root_is_cell o.axes o.way) (λ child c. grown.below root child (root_is_cell o.axes o.way) c) (greatest - 1) s []

  pub root_cell_passage : (s : ℕ) → CellPassage o (suc (greatest - 1)) s root (cell_stretch o (greatest - 1) s) (walked_children o.axes o.way o.walks root) []
  root_cell_passage s = cell_passage o (greatest - 1) s root []

  pub root_begins : (t : Tokens) → MayTraverse o greatest t → RootBegins o (greatest - 1) (λ s. (root_passage s).outer) (λ s. (root_cell_passage s).outer) (begun o t)
  root_begins t may = record {
    stacks = lent_stacks (numbers o) t.vertices ∙ may.stacks;
    cell_stacks = may.cell_stacks;
    stretches = λ s. subst (λ cs. Stretches (map (token_stretch o (greatest - 1) s) cs) (items_at (begun o t).vertices s) (root_passage s).outer) root_kids
        (subst (λ xs. Stretches (map (token_stretch o (greatest - 1) s) (walked_children o.axes o.way o.walks root)) xs (root_passage s).outer) (sym (its_vertices s)) (root_passage s).stretches);
    cell_stretches = λ s. subst (λ cs. Stretches (map (cell_stretch o (greatest - 1) s) cs) (items_at t.cells s) (root_cell_passage s).outer) root_kids
        (subst (λ xs. Stretches (map (cell_stretch o (greatest - 1) s) (walked_children o.axes o.way o.walks root)) xs (root_cell_passage s).outer) (sym (its_cells s)) (root_cell_passage s).stretches);
    due = subst (Due o deep) (met_none own t.met root_corners) (due-split o own deep t.met (subst (λ ts. Due o ts t.met) root_loads its_due)).1;
  }
    where
      own : List Touch
      own = reverse (corner_touches o.axes root)

      deep : List Touch
      deep = flat_map (loads_of o (greatest - 1)) (children o.axes o.way root)

      its_due : Due o (loads_of o greatest root) t.met
      its_due = due_from o dim.1 (loads_of o greatest root) t.met (λ v c. loaded_around o walked greatest dim grown v c ∙ ap (λ n. drop n (around o.axes o.way v)) (sym (may.nothing_met v)))

      its_vertices : (s : ℕ) → items_at (begun o t).vertices s ≡ (root_passage s).inner
      its_vertices s =
          lent_items (numbers o) t.vertices s ∙ may.reads_vertices s ∙ sym (root_takes o dim greatest s) ∙ ap (λ n. takes o n s root) some_levels
          ∙ sym (rest_is (takes o (suc (greatest - 1)) s root) (takes o 0 s root) (root_passage s).inner (own_takes_none s) (root_passage s).own_takes)

      its_cells : (s : ℕ) → items_at t.cells s ≡ (root_cell_passage s).inner
      its_cells s =
          may.reads_cells s ∙ ap (λ n. cell_takes o n s root) some_levels
          ∙ sym (rest_is (cell_takes o (suc (greatest - 1)) s root) (cell_takes o 0 s root) (root_cell_passage s).inner (own_cell_takes_none s) (root_cell_passage s).own_takes)

  pub whole : (t : Tokens) → MayTraverse o greatest t → (after : Tokens) × (traverse o greatest t ≡ Some after) × HasTraversed o greatest t after
  whole t may =
      let l = greatest - 1 in
      let own = reverse (corner_touches o.axes root) in
      let deep = flat_map (loads_of o l) (children o.axes o.way root) in
      let begins = root_begins t may in
      let run = walk_each o greatest l (walks o walked greatest dim grown l) (children o.axes o.way root) (Each-weaker _ _ (λ c i. (i.0, omega (arith, i.1))) (children o.axes o.way root) (kids_are_cells o walked greatest dim grown root (root_is_cell o.axes o.way)))
      (begun o t) (items_at (begun o t).vertices) (λ s. (root_passage s).outer) (items_at t.cells) (λ s. (root_cell_passage s).outer)
      begins.stacks begins.cell_stacks (λ s. refl) (λ s. refl) begins.stretches begins.cell_stretches begins.due in (
        ended o run.0,
        ap (option_map (ended o)) run.1,
        record {
          stacks = given_stacks (numbers o) run.0.vertices ∙ run.2.stacks;
          cell_stacks = run.2.cell_stacks;
          writes_vertices = λ s. given_items (numbers o) run.0.vertices s ∙ run.2.its_vertices s
              ∙ rest_is (gives o (suc l) s root) (gives o 0 s root) (root_passage s).outer (own_gives_none s) (root_passage s).own_gives ∙ ap (λ n. gives o n s root) (sym some_levels) ∙ root_gives o dim greatest s;
          writes_cells = λ s. run.2.its_cells s
              ∙ rest_is (cell_gives o (suc l) s root) (cell_gives o 0 s root) (root_cell_passage s).outer (own_cell_gives_none s) (root_cell_passage s).own_gives ∙ ap (λ n. cell_gives o n s root) (sym some_levels);
          all_met = λ v c. ap (λ m. m v) run.2.its_met ∙ met_touched o v c deep t.met
              ∙ omega (
                arith,
                may.nothing_met v,
                ap (λ m. m v) (met-append o own deep t.met ∙ ap (met_after o deep) (met_none own t.met root_corners)),
                met_touched o v c (own ++ deep) t.met,
                met_touched o v c deep t.met,
                ap (λ ts. length (touched_for v ts)) (sym root_loads) ∙ ap length (loaded_around o walked greatest dim grown v c),
              );
          held = run.2.its_held;
        },
      )

pub walk_of_a_cell : WalkOfACell
walk_of_a_cell o walked greatest levels cell dim grown is_cell deep beneath cells_beneath t begins = walks o walked greatest dim grown levels cell is_cell deep beneath cells_beneath t begins

pub loads_are_due : LoadsAreDue
loads_are_due o walked greatest dim grown = all_due o walked greatest dim grown

pub loaded_for_all : LoadedAround
loaded_for_all o walked greatest vertex dim grown c = loaded_around o walked greatest dim grown vertex c

pub whole_traversal : WholeTraversal
whole_traversal o walked greatest t dim grown may = whole o walked greatest dim grown t may
