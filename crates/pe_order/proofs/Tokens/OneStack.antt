-- What the walk of a cell does on one stack: what the cell's own corners take and give there, and its walked children.
use Rattle.std.proofs.Common.{◌≡◌, ◌≢◌, ℕ, suc, ◌*◌, ◌/◌, ◌%◌, ◌^◌, ◌<◌, ◌≤◌, ◌⊎◌, inl, inr, Bool, true, false, ◌&&◌, ◌==◌, List, [], ◌∷◌, ◌++◌, map, filter, reverse, Option, Some, None, refl, sym, ap, ap₂, ◌∙◌, subst, append-nil, append_assoc, arith}
use Rattle.std.specs.Prelude.{nat_lt, if◌then◌else◌, is_none}
use Rattle.std.specs.List.{flat_map, Contains, AllByRecursion as Each}
use Rattle.std.proofs.lemmas.List.{map-append}
use Rattle.std.proofs.lemmas.List.Elements.{filter-append}
use Rattle.std.proofs.lemmas.List.Concat.{flat_map-append}
use Rattle.std.proofs.lemmas.Bool.Decides.{nat_tests}
use Rattle.std.proofs.lemmas.Bool.{eq-eqb, ne_eqb, eqb-true, cases_lt, cases_eq}
use Rattle.pe_base.specs.declared.place.Place.{Place}
use Rattle.pe_base.specs.Tree.Places.{IsPosition}
use Rattle.pe_base.specs.Tree.Curve.{children}
use Rattle.pe_base.specs.Steps.Routes.{stack_in}
use Rattle.pe_base.specs.Steps.Faces.{Touch, Stretch, Stretches, arriving, leaving, face_on, stack_of, corner_touches, child_stretch, corner_stretch, in_corners, out_corners}
use Rattle.pe_base.specs.Steps.Stacks.{is_stack, comes_by, on_stack}
use Rattle.pe_base.specs.Walk.Streams.{if_walks, walked_children}
use Rattle.pe_base.proofs.Lists.{Each-all, Each-map, Each-weaker, Each-reverse, reverse-cons, flat_map_same, flat_map_none, filter_same, filter-flat_map, map-flat_map}
use Rattle.pe_base.proofs.Tree.Corners.{IsBits, bit_lists, bit_lists_below, touch_at, corner_touches_are}
use Rattle.pe_base.proofs.Steps.Turned.{stack-opposite}
use Rattle.pe_base.proofs.Faces.Composition.{composes_any, Stretches-split}
use Rattle.pe_base.proofs.Faces.Bridge.{one_across, come_by_faces, corner_at}
use Rattle.pe_base.proofs.Faces.TurnedLists.{leaving-opposite}
use Rattle.pe_stacks.specs.Grid.{input_stack, output_stack}
use Rattle.pe_base.specs.Tree.Dim.{IsDim}
use Rattle.pe_order.specs.Laws.{IsCell, IsWalk}
use Rattle.pe_order.proofs.Unwalked.{contains_in, cell_four}
use Rattle.pe_order.proofs.Derived.{leaf_is_corners}
use Rattle.pe_order.specs.Tokens.{Outlook, turned, given, first_of}
use Rattle.pe_order.specs.Takings.{is_read, loads_of, reads_of, takes, gives}
use Rattle.pe_order.proofs.Tokens.Loads.{vertices_of, takes_by, gives_by}
use Rattle.pe_order.proofs.Tokens.Turning.{children-turned, writes-turned}

pub far_input : (swapped : Bool) → 8 ≤ input_stack swapped
far_input true = omega arith
far_input false = omega arith

two_streams : (swapped : Bool) → input_stack swapped ≢ output_stack swapped
two_streams true e = omega (arith, e)
two_streams false e = omega (arith, e)

-- a fact on each corner of a cell
pub each_corner : (axes : ℕ) (cell : Place) (P : Touch → Type 0) → axes ≤ 4 → ((bs : List ℕ) → IsBits axes bs → P (touch_at cell bs)) → Each P (reverse (corner_touches axes cell))
each_corner axes cell P four h = Each-reverse P (corner_touches axes cell)
    (subst (Each P) (sym (corner_touches_are axes cell four)) (Each-map P (touch_at cell) (bit_lists axes) (Each-weaker (IsBits axes) (λ bs. P (touch_at cell bs)) h (bit_lists axes) (bit_lists_below axes))))

stretches_same : (f g : Place → Stretch) → ((c : Place) → (f c).takes ≡ (g c).takes) → ((c : Place) → (f c).gives ≡ (g c).gives) → (cs before after : List Place) → Stretches (map f cs) before after → Stretches (map g cs) before after
stretches_same f g h k [] before after s = s
stretches_same f g h k (c ∷ cs) before after s = (s.0, s.1 ∙ ap (λ xs. xs ++ s.0) (h c), subst (λ xs. Stretches (map g cs) (xs ++ s.0) after) (k c) (stretches_same f g h k cs ((f c).gives ++ s.0) after s.2))

-- stretches that only take, and stretches that only give
pub take_all : (f : Place → Stretch) (cs z : List Place) → Each (λ c. (f c).gives ≡ []) cs → Stretches (map f cs) (flat_map (λ c. (f c).takes) cs ++ z) z
take_all f [] z e = refl
take_all f (c ∷ cs) z e = (
  flat_map (λ c. (f c).takes) cs ++ z,
  append_assoc (f c).takes (flat_map (λ c. (f c).takes) cs) z,
  subst (λ xs. Stretches (map f cs) (xs ++ (flat_map (λ c. (f c).takes) cs ++ z)) z) (sym e.0) (take_all f cs z e.1),
)

pub give_all : (f : Place → Stretch) (cs z : List Place) → Each (λ c. (f c).takes ≡ []) cs → Stretches (map f cs) z (flat_map (λ c. (f c).gives) (reverse cs) ++ z)
give_all f [] z e = refl
give_all f (c ∷ cs) z e = (
  z,
  ap (λ xs. xs ++ z) (sym e.0),
  subst (Stretches (map f cs) ((f c).gives ++ z)) (sym (ap (λ xs. flat_map (λ c. (f c).gives) xs ++ z) (reverse-cons c cs) ∙ ap (λ xs. xs ++ z) (flat_map-append (λ c. (f c).gives) (reverse cs) (c ∷ []) ∙ ap (λ xs. flat_map (λ c. (f c).gives) (reverse cs) ++ xs) (append-nil (f c).gives))
      ∙ append_assoc (flat_map (λ c. (f c).gives) (reverse cs)) (f c).gives z)) (give_all f cs ((f c).gives ++ z) e.1),
)

module _ (o : Outlook) (four : o.axes ≤ 4) where
  -- on the stacks of the axes, and behind them
  pub takes-axes : (levels s : ℕ) (cell : Place) → s < 2 * o.axes → takes o levels s cell ≡ arriving o.axes o.way o.counts levels (face_on (s / 2) (s % 2) cell) cell
  takes-axes levels s cell h =
      let far = far_input o.swapped in
      ap (λ b. if b then reads_of o levels cell else on_stack o.axes (arriving o.axes o.way o.counts levels) s cell) (ne_eqb s (input_stack o.swapped) (λ e. omega arith))
      ∙ ap (λ b. if b then arriving o.axes o.way o.counts levels (face_on (s / 2) (s % 2) cell) cell else []) (let t : nat_lt s (2 * o.axes) ≡ true = grind (arith, nat_tests) in t)

  pub takes-input : (levels s : ℕ) (cell : Place) → s ≡ input_stack o.swapped → takes o levels s cell ≡ reads_of o levels cell
  takes-input levels s cell e = ap (λ b. if b then reads_of o levels cell else on_stack o.axes (arriving o.axes o.way o.counts levels) s cell) (eq-eqb s (input_stack o.swapped) e)

  pub takes-none : (levels s : ℕ) (cell : Place) → 2 * o.axes ≤ s → s ≢ input_stack o.swapped → takes o levels s cell ≡ []
  takes-none levels s cell h k =
      ap (λ b. if b then reads_of o levels cell else on_stack o.axes (arriving o.axes o.way o.counts levels) s cell) (ne_eqb s (input_stack o.swapped) k)
      ∙ ap (λ b. if b then arriving o.axes o.way o.counts levels (face_on (s / 2) (s % 2) cell) cell else []) (let t : nat_lt s (2 * o.axes) ≡ false = grind (arith, nat_tests) in t)

  -- what a cell's own corners take
  pub own_takes : (s : ℕ) (cell : Place) → IsPosition o.axes (3 ^ cell.level) cell.pos → vertices_of (takes_by o s) (reverse (corner_touches o.axes cell)) ≡ takes o 0 s cell
  own_takes s cell is = go (s == input_stack o.swapped) refl
    where
      both : (a b : Bool) → (a && false) ≡ (a && (b && false))
      both true true = refl
      both true false = refl
      both false b = refl

      go : (b : Bool) → (s == input_stack o.swapped) ≡ b → vertices_of (takes_by o s) (reverse (corner_touches o.axes cell)) ≡ (if b then reads_of o 0 cell else on_stack o.axes (in_corners o.axes o.way o.counts) s cell)
      go true e = ap (map (λ t. t.vertex)) (filter_same (takes_by o s) (is_read o) (reverse (corner_touches o.axes cell)) (each_corner o.axes cell _ four (λ bs d.
          let v = corner_at cell bs in
          elim (one_across o.axes o.way cell bs four is d) [
            | inl none ↦ ap (λ x. o.counts v && is_stack s (first_of x (given (o.reads v) (Some (input_stack o.swapped))))) none.no_stack
                ∙ ap (λ x. o.counts v && x) (from_input (o.reads v) e) ∙ ap (λ x. o.counts v && (o.reads v && is_none x)) (sym none.no_stack)
            | inr one ↦ ap (λ x. o.counts v && is_stack s (first_of x (given (o.reads v) (Some (input_stack o.swapped))))) one.its_stack
                ∙ ap (λ x. o.counts v && x) (ne_eqb s (stack_of one.face cell) (λ k. let far = far_input o.swapped in let i = one.is_face.0 in let at : s ≡ input_stack o.swapped = eqb-true s (input_stack o.swapped) e in omega arith))
                ∙ both (o.counts v) (o.reads v) ∙ ap (λ x. o.counts v && (o.reads v && is_none x)) (sym one.its_stack)
          ])))
        where
          from_input : (r : Bool) → (s == input_stack o.swapped) ≡ true → is_stack s (given r (Some (input_stack o.swapped))) ≡ (r && true)
          from_input true t = t
          from_input false t = refl
      go false e = ap (map (λ t. t.vertex)) (filter_same (takes_by o s) (comes_by o.axes o.way o.counts s) (reverse (corner_touches o.axes cell)) (Each-all _ (λ t.
          ap (λ x. o.counts t.vertex && x) (from_none (stack_in o.axes o.way t.vertex t.cell) (o.reads t.vertex) e)) (reverse (corner_touches o.axes cell))))
          ∙ come_by_faces o.axes o.way o.counts cell four is s
        where
          from_none : (from : Option ℕ) (r : Bool) → (s == input_stack o.swapped) ≡ false → is_stack s (first_of from (given r (Some (input_stack o.swapped)))) ≡ is_stack s from
          from_none (Some w) r t = refl
          from_none None true t = t
          from_none None false t = refl

  -- behind the axes, what a cell takes is what its own corners and its walked children take
  pub takes-split : (levels s : ℕ) (cell : Place) → 2 * o.axes ≤ s → takes o (suc levels) s cell ≡ takes o 0 s cell ++ flat_map (takes o levels s) (walked_children o.axes o.way o.walks cell)
  takes-split levels s cell h = elim (cases_eq s (input_stack o.swapped)) [
    | inl e ↦
        let kids = walked_children o.axes o.way o.walks cell in
        let own = reverse (corner_touches o.axes cell) in
        let deep = flat_map (loads_of o levels) kids in
        takes-input (suc levels) s cell e
        ∙ ap (map (λ t. t.vertex)) (filter-append (is_read o) own deep) ∙ map-append (λ t. t.vertex) (filter (is_read o) own) (filter (is_read o) deep)
        ∙ ap₂ (λ x y. x ++ y) (sym (takes-input 0 s cell e))
        (ap (map (λ t. t.vertex)) (filter-flat_map (is_read o) (loads_of o levels) kids) ∙ map-flat_map (λ t. t.vertex) (λ c. filter (is_read o) (loads_of o levels c)) kids
        ∙ flat_map_same _ (takes o levels s) kids (Each-all _ (λ c. sym (takes-input levels s c e)) kids))
    | inr e ↦
        let kids = walked_children o.axes o.way o.walks cell in
        takes-none (suc levels) s cell h e
        ∙ sym (ap₂ (λ x y. x ++ y) (takes-none 0 s cell h e) (flat_map_none (takes o levels s) kids (Each-all _ (λ c. takes-none levels s c h e) kids)))
  ]

-- what is given is what is taken the other way round
pub gives-turned : (o : Outlook) → o.axes ≤ 4 → (levels s : ℕ) (cell : Place) → gives o levels s cell ≡ takes (turned o) levels s cell
gives-turned o four levels s cell = ap₂ (λ x y. if s == output_stack o.swapped then x else y) (writes-turned o levels cell four)
    (ap (λ x. if nat_lt s (2 * o.axes) then x else []) (leaving-opposite o.axes o.way o.counts levels (face_on (s / 2) (s % 2) cell) cell))

pub gives_by-turned : (o : Outlook) → o.axes ≤ 4 → (s : ℕ) (touch : Touch) → gives_by o s touch ≡ takes_by (turned o) s touch
gives_by-turned o four s touch = ap (λ x. o.counts touch.vertex && is_stack s (first_of x (given (o.writes touch.vertex) (Some (output_stack o.swapped))))) (sym (stack-opposite o.axes o.way touch.vertex touch.cell four))

pub own_gives : (o : Outlook) → o.axes ≤ 4 → (s : ℕ) (cell : Place) → IsPosition o.axes (3 ^ cell.level) cell.pos → vertices_of (gives_by o s) (reverse (corner_touches o.axes cell)) ≡ gives o 0 s cell
own_gives o four s cell is =
    ap (map (λ t. t.vertex)) (filter_same (gives_by o s) (takes_by (turned o) s) (reverse (corner_touches o.axes cell)) (Each-all _ (λ t. gives_by-turned o four s t) (reverse (corner_touches o.axes cell))))
    ∙ own_takes (turned o) four s cell is ∙ sym (gives-turned o four 0 s cell)

-- the stretch of a child on a stack
abbrev pub token_stretch : Outlook → ℕ → ℕ → Place → Stretch
token_stretch o levels s child = record { takes = takes o levels s child; gives = gives o levels s child; touches = λ place. false }

-- what the walk of a cell does on one stack: its own corners before and after, and in between what is walked below it
pub record Passage (o : Outlook) (levels s : ℕ) (cell : Place) (stretch : Place → Stretch) (kids beneath : List Place) : Type 0 where
  pub inner : List Place
  pub outer : List Place
  pub own_takes : takes o levels s cell ++ beneath ≡ takes o 0 s cell ++ inner
  pub own_gives : gives o levels s cell ++ beneath ≡ gives o 0 s cell ++ outer
  pub stretches : Stretches (map stretch kids) inner outer

gives-axes : (o : Outlook) → o.axes ≤ 4 → (levels s : ℕ) (cell : Place) → s < 2 * o.axes → gives o levels s cell ≡ leaving o.axes o.way o.counts levels (face_on (s / 2) (s % 2) cell) cell
gives-axes o four levels s cell h = gives-turned o four levels s cell ∙ takes-axes (turned o) four levels s cell h ∙ sym (leaving-opposite o.axes o.way o.counts levels (face_on (s / 2) (s % 2) cell) cell)

gives-none : (o : Outlook) → o.axes ≤ 4 → (levels s : ℕ) (cell : Place) → 2 * o.axes ≤ s → s ≢ output_stack o.swapped → gives o levels s cell ≡ []
gives-none o four levels s cell h k = gives-turned o four levels s cell ∙ takes-none (turned o) four levels s cell h k

gives-split : (o : Outlook) → o.axes ≤ 4 → (levels s : ℕ) (cell : Place) → 2 * o.axes ≤ s → gives o (suc levels) s cell ≡ gives o 0 s cell ++ flat_map (gives o levels s) (reverse (walked_children o.axes o.way o.walks cell))
gives-split o four levels s cell h =
    let kids = reverse (walked_children o.axes o.way o.walks cell) in
    gives-turned o four (suc levels) s cell ∙ takes-split (turned o) four levels s cell h
    ∙ ap₂ (λ x y. x ++ y) (sym (gives-turned o four 0 s cell))
    (ap (flat_map (takes (turned o) levels s)) (sym (children-turned o.axes o.way o.walks cell)) ∙ flat_map_same _ (gives o levels s) kids (Each-all _ (λ c. sym (gives-turned o four levels s c)) kids))

module _ (o : Outlook) (walked : Place → Bool) (walk : IsWalk o.axes o.way walked o.counts) (dim : IsDim o.axes) (cell : Place) (is_cell : IsCell o.axes o.way cell)
    (below : (child : Place) → Contains (children o.axes o.way cell) child → walked child ≡ o.walks cell) where
  abbrev kids : List Place
  kids = walked_children o.axes o.way o.walks cell

  -- on a stack of the axes
  on_axes : (levels s : ℕ) (beneath : List Place) → s < 2 * o.axes → (b : Bool) → o.walks cell ≡ b → Passage o (suc levels) s cell (token_stretch o levels s) (if_walks o.axes o.way o.walks b (children o.axes o.way cell)) beneath
  on_axes levels s beneath h true e =
      let face = face_on (s / 2) (s % 2) cell in
      let at = λ (z : List Place). takes-axes o dim.1 0 s cell h in
      let stretches = composes_any o.axes o.way o.counts (suc levels) (s / 2) (s % 2) cell dim.1 (omega arith) (cell_four o.axes o.way cell dim.1 is_cell) (contains_in _ cell is_cell) beneath in
      let parts = Stretches-split (map (child_stretch o.axes o.way o.counts levels (s / 2) (s % 2)) (children o.axes o.way cell)) (corner_stretch o.axes o.way cell [] (out_corners o.axes o.way o.counts face cell) ∷ []) stretches.0 (leaving o.axes o.way o.counts (suc levels) face cell ++ beneath) stretches.2 in
      record {
        inner = stretches.0;
        outer = parts.2.0;
        own_takes = ap (λ xs. xs ++ beneath) (takes-axes o dim.1 (suc levels) s cell h) ∙ stretches.1 ∙ ap (λ xs. xs ++ stretches.0) (sym (takes-axes o dim.1 0 s cell h));
        own_gives = ap (λ xs. xs ++ beneath) (gives-axes o dim.1 (suc levels) s cell h) ∙ sym parts.2.2 ∙ ap (λ xs. xs ++ parts.2.0) (sym (gives-axes o dim.1 0 s cell h));
        stretches = stretches_same (child_stretch o.axes o.way o.counts levels (s / 2) (s % 2)) (token_stretch o levels s) (λ c. sym (takes-axes o dim.1 levels s c h)) (λ c. sym (gives-axes o dim.1 levels s c h)) (children o.axes o.way cell) stretches.0 parts.2.0
            (subst (Stretches (map (child_stretch o.axes o.way o.counts levels (s / 2) (s % 2)) (children o.axes o.way cell)) stretches.0) parts.2.1 parts.1);
      }
  on_axes levels s beneath h false e =
      let face = face_on (s / 2) (s % 2) cell in
      let leaf = leaf_is_corners o.axes o.way walked o.counts (suc levels) face cell dim walk (omega arith, omega arith) is_cell (λ child c. below child c ∙ e) in
      record {
        inner = beneath;
        outer = beneath;
        own_takes = ap (λ xs. xs ++ beneath) (takes-axes o dim.1 (suc levels) s cell h ∙ leaf.0 ∙ sym (takes-axes o dim.1 0 s cell h));
        own_gives = ap (λ xs. xs ++ beneath) (gives-axes o dim.1 (suc levels) s cell h ∙ leaf.1 ∙ sym (gives-axes o dim.1 0 s cell h));
        stretches = refl;
      }

  -- and behind them
  off_axes : (levels s : ℕ) (beneath : List Place) → 2 * o.axes ≤ s → (s ≡ output_stack o.swapped) ⊎ (s ≢ output_stack o.swapped) → Passage o (suc levels) s cell (token_stretch o levels s) kids beneath
  off_axes levels s beneath h (inl e) =
      let k : s ≢ input_stack o.swapped = λ i. two_streams o.swapped (sym i ∙ e) in
      record {
        inner = beneath;
        outer = flat_map (gives o levels s) (reverse kids) ++ beneath;
        own_takes = ap (λ xs. xs ++ beneath) (takes-none o dim.1 (suc levels) s cell h k ∙ sym (takes-none o dim.1 0 s cell h k));
        own_gives = ap (λ xs. xs ++ beneath) (gives-split o dim.1 levels s cell h) ∙ append_assoc (gives o 0 s cell) (flat_map (gives o levels s) (reverse kids)) beneath;
        stretches = give_all (token_stretch o levels s) kids beneath (Each-all _ (λ c. takes-none o dim.1 levels s c h k) kids);
      }
  off_axes levels s beneath h (inr k) = record {
    inner = flat_map (takes o levels s) kids ++ beneath;
    outer = beneath;
    own_takes = ap (λ xs. xs ++ beneath) (takes-split o dim.1 levels s cell h) ∙ append_assoc (takes o 0 s cell) (flat_map (takes o levels s) kids) beneath;
    own_gives = ap (λ xs. xs ++ beneath) (gives-none o dim.1 (suc levels) s cell h k ∙ sym (gives-none o dim.1 0 s cell h k));
    stretches = take_all (token_stretch o levels s) kids beneath (Each-all _ (λ c. gives-none o dim.1 levels s c h k) kids);
  }

  pub passage : (levels s : ℕ) (beneath : List Place) → Passage o (suc levels) s cell (token_stretch o levels s) kids beneath
  passage levels s beneath = elim (cases_lt s (2 * o.axes)) [
    | inl h ↦ on_axes levels s beneath h (o.walks cell) refl
    | inr h ↦ off_axes levels s beneath h (cases_eq s (output_stack o.swapped))
  ]
