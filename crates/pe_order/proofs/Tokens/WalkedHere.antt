-- Each cell of the tree that is walked is among the cells of the walk.
use Rattle.std.proofs.Common.{◌≡◌, ◌⊎◌, ℕ, zero, suc, ◌+◌, ◌<◌, ◌≤◌, Bool, true, false, List, [], ◌∷◌, ◌++◌, refl, sym, ap, subst, ◌∙◌, inl, inr, arith}
use Rattle.std.specs.List.{flat_map, Contains, AllByRecursion as Each}
use Rattle.pe_base.specs.declared.place.Place.{Place}
use Rattle.pe_base.specs.Tree.Dim.{IsDim}
use Rattle.pe_base.specs.Tree.Places.{root, is_same}
use Rattle.pe_base.specs.Tree.Curve.{children, order}
use Rattle.pe_base.specs.Walk.Streams.{if_walks, walked_cells}
use Rattle.pe_base.proofs.Lists.{Each-flat_map, Each-In, In, In-flat_map}
use Rattle.pe_base.proofs.Steps.VertexTouches.{is_same_itself, OnGrid}
use Rattle.pe_order.specs.Laws.{IsCell}
use Rattle.pe_order.specs.Tokens.{Outlook}
use Rattle.pe_order.specs.Takings.{Grown}
use Rattle.pe_order.specs.CellsAhead.{times}
use Rattle.pe_order.proofs.Unwalked.{contains_in, in_contains}
use Rattle.pe_order.proofs.Tokens.Apart.{one_if}
use Rattle.pe_order.proofs.Tokens.CountLists.{count-cons}
use Rattle.pe_order.proofs.Steps.{order_on_grid}
use Rattle.pe_order.proofs.Trees.{root_is_cell}
use Rattle.pe_order.proofs.Tokens.CellsApart.{ChildOf, children_of}

-- what is in a list is there at least once
pub in_times : (x : Place) (xs : List Place) → In x xs → 1 ≤ times xs x
in_times x [] i = absurd (omega arith)
in_times x (y ∷ xs) i =
    let sum = count-cons (λ other. is_same other x) y xs in
    elim i [
      | inl e ↦ omega (arith, sum, ap {B = ℕ} one_if (ap (λ z. is_same z x) (sym e) ∙ is_same_itself x))
      | inr later ↦ let more = in_times x xs later in omega (arith, sum, more)
    ]

-- what is in two lists, one after the other, is in one of them
in_either : {X : Type 0} (x : X) (xs ys : List X) → In x (xs ++ ys) → In x xs ⊎ In x ys
in_either x [] ys i = inr i
in_either x (y ∷ xs) ys i = elim i [
  | inl e ↦ inl (inl e)
  | inr later ↦ elim (in_either x xs ys later) [ inl here ↦ inl (inr here) | inr there ↦ inr there ]
]

in_some : {X Y : Type 0} (f : X → List Y) (y : Y) (xs : List X) → In y (flat_map f xs) → (x : X) × In x xs × In y (f x)
in_some f y [] i = absurd (omega arith)
in_some f y (x ∷ xs) i = elim (in_either y (f x) (flat_map f xs) i) [
  | inl here ↦ (x, inl refl, here)
  | inr later ↦ let found = in_some f y xs later in (found.0, inr found.1, found.2)
]

module _ (o : Outlook) where
  self_walked : (levels : ℕ) (cell : Place) → In cell (walked_cells o.axes o.way o.walks levels cell)
  self_walked zero cell = inl refl
  self_walked (suc levels) cell = inl refl

  -- with a cell that goes on, its children are walked
  goes_on : o.axes ≤ 4 → (p x : Place) → o.walks p ≡ true → In x (children o.axes o.way p) → (levels : ℕ) (cell : Place) → IsCell o.axes o.way cell
      → In p (walked_cells o.axes o.way o.walks levels cell) → p.level < cell.level + levels → In x (walked_cells o.axes o.way o.walks levels cell)
  goes_on few p x walks child zero cell is i low = elim i [
    | inl e ↦ absurd (omega (arith, low, ap (λ (c : Place). c.level) e))
    | inr none ↦ absurd (omega arith)
  ]
  goes_on few p x walks child (suc levels) cell is i low = elim i [
    | inl e ↦ inr (subst (λ b. In x (flat_map (walked_cells o.axes o.way o.walks levels) (if_walks o.axes o.way o.walks b (children o.axes o.way cell)))) (sym (ap o.walks (sym e) ∙ walks))
        (In-flat_map (walked_cells o.axes o.way o.walks levels) x x (children o.axes o.way cell) (subst (λ c. In x (children o.axes o.way c)) e child) (self_walked levels x)))
    | inr below ↦ inr (deeper (o.walks cell) (λ c is i low. goes_on few p x walks child levels c is i low) below)
  ]
    where
      deeper : (b : Bool) → ((c : Place) → IsCell o.axes o.way c → In p (walked_cells o.axes o.way o.walks levels c) → p.level < c.level + levels → In x (walked_cells o.axes o.way o.walks levels c))
          → In p (flat_map (walked_cells o.axes o.way o.walks levels) (if_walks o.axes o.way o.walks b (children o.axes o.way cell)))
          → In x (flat_map (walked_cells o.axes o.way o.walks levels) (if_walks o.axes o.way o.walks b (children o.axes o.way cell)))
      deeper false again below = absurd (omega arith)
      deeper true again below =
          let found = in_some (walked_cells o.axes o.way o.walks levels) p (children o.axes o.way cell) below in
          let kid = Each-In (ChildOf o.axes o.way cell) found.0 (children o.axes o.way cell) (children_of o.axes o.way cell few is) found.1 in
          In-flat_map (walked_cells o.axes o.way o.walks levels) found.0 x (children o.axes o.way cell) found.1
          (again found.0 kid.is_cell found.2 (omega (arith, low, kid.level)))

  module _ (walked : Place → Bool) (greatest : ℕ) (dim : IsDim o.axes) (grown : Grown o walked greatest) where
    on_level : (level : ℕ) → Each (λ x. walked x ≡ true → level ≤ greatest → In x (walked_cells o.axes o.way o.walks greatest root)) (order o.axes o.way level)
    on_level zero = ((λ is low. self_walked greatest root), tt)
    on_level (suc level) =
        Each-flat_map (λ x. walked x ≡ true → suc level ≤ greatest → In x (walked_cells o.axes o.way o.walks greatest root)) (children o.axes o.way) (order o.axes o.way level)
        (each_with_in (order o.axes o.way level) (λ p here. kids p here (Each-In (λ x. walked x ≡ true → level ≤ greatest → In x (walked_cells o.axes o.way o.walks greatest root)) p (order o.axes o.way level) (on_level level) here)))
      where
        each_with_in : (xs : List Place) → ((p : Place) → In p xs → Each (λ x. walked x ≡ true → suc level ≤ greatest → In x (walked_cells o.axes o.way o.walks greatest root)) (children o.axes o.way p))
            → Each (λ p. Each (λ x. walked x ≡ true → suc level ≤ greatest → In x (walked_cells o.axes o.way o.walks greatest root)) (children o.axes o.way p)) xs
        each_with_in [] h = tt
        each_with_in (p ∷ xs) h = (h p (inl refl), each_with_in xs (λ q later. h q (inr later)))

        kids : (p : Place) → In p (order o.axes o.way level) → (walked p ≡ true → level ≤ greatest → In p (walked_cells o.axes o.way o.walks greatest root))
            → Each (λ x. walked x ≡ true → suc level ≤ greatest → In x (walked_cells o.axes o.way o.walks greatest root)) (children o.axes o.way p)
        kids p here up = all_of_in (children o.axes o.way p) (λ x child is low.
            let on : p.level ≡ level = level_of p here in
            let cell : IsCell o.axes o.way p = subst (λ n. Contains (order o.axes o.way n) p) (sym on) (in_contains (order o.axes o.way level) p here) in
            let contained = in_contains (children o.axes o.way p) x child in
            goes_on dim.1 p x (sym (grown.below p x cell contained) ∙ is) child greatest root (root_is_cell o.axes o.way) (up (grown.is_walk.parents p x cell contained is) (omega (arith, low))) (omega (arith, low, on)))
          where
            all_of_in : (xs : List Place) → ((x : Place) → In x xs → walked x ≡ true → suc level ≤ greatest → In x (walked_cells o.axes o.way o.walks greatest root))
                → Each (λ x. walked x ≡ true → suc level ≤ greatest → In x (walked_cells o.axes o.way o.walks greatest root)) xs
            all_of_in [] h = tt
            all_of_in (x ∷ xs) h = (h x (inl refl), all_of_in xs (λ y later. h y (inr later)))

            level_of : (p : Place) → In p (order o.axes o.way level) → p.level ≡ level
            level_of p here = (Each-In (OnGrid o.axes level) p (order o.axes o.way level) (order_on_grid o.axes o.way level dim.1) here).0

    -- each walked cell of the tree is among them
    pub walked_here : (x : Place) → IsCell o.axes o.way x → walked x ≡ true → x.level ≤ greatest → 1 ≤ times (walked_cells o.axes o.way o.walks greatest root) x
    walked_here x is on low =
        in_times x (walked_cells o.axes o.way o.walks greatest root)
        (Each-In (λ x'. walked x' ≡ true → x.level ≤ greatest → In x' (walked_cells o.axes o.way o.walks greatest root)) x (order o.axes o.way x.level) (on_level x.level) (contains_in (order o.axes o.way x.level) x is) on low)
