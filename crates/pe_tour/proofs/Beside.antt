-- Where the steps of two walks match, their walks of every cell go together, and those of its children.
use Rattle.std.proofs.Common.{◌≡◌, ◌≤◌, ℕ, zero, suc, ◌+◌, ◌^◌, Bool, true, false, List, [], ◌∷◌, refl, sym, ap₂, subst, arith}
use Rattle.pe_base.specs.declared.place.Place.{Place}
use Rattle.pe_base.specs.Tree.Curve.{children}
use Rattle.pe_base.specs.Calls.Courses.{Courses}
use Rattle.pe_base.specs.Walk.Steps.{Steps, loads, stores, in_turn, if_on, walks_children, walks_below, visits_open, visits, walk}
use Rattle.pe_tour.specs.Beside.{Together, Stages, StepsMatch}

module _ {Found Failure Found' Failure' Between Amid Open Between' Amid' Open' : Type 0} {kind : Courses Found Failure} {kind' : Courses Found' Failure'}
    (together : Together kind kind') (first : Steps kind Between Amid Open) (second : Steps kind' Between' Amid' Open') (stages : Stages Between Amid Open Between' Amid' Open')
    (same : StepsMatch together first second stages) where
  open together use {Go, once, nowhere}

  -- the walks of a cell go together, with so many levels below it, and so do those of some of its children
  abbrev WalksMatch : (levels : ℕ) (cell : Place) → stages.Known levels cell → Type 0
  WalksMatch levels cell known = (a : Between) (b : Between')
      → stages.Before levels cell known a b → Go (stages.After levels cell known) (walk first (suc levels) cell a) (walk second (suc levels) cell b)

  abbrev ChildrenMatch : (levels : ℕ) (cell : Place) → stages.Below levels cell → List Place → Type 0
  ChildrenMatch levels cell below cells = (a : Between) (b : Between')
      → stages.Among levels cell below cells a b → Go (stages.Among levels cell below []) (in_turn first (walk first levels) cells a) (in_turn second (walk second levels) cells b)

  module _ (levels : ℕ) (cell : Place) (known : stages.Known levels cell) where
    abbrev Loading : ℕ → Amid → Amid' → Type 0
    Loading = stages.Loading levels cell known

    abbrev Storing : ℕ → Amid → Amid' → Type 0
    Storing = stages.Storing levels cell known

    abbrev Walked : Open → Open' → Type 0
    Walked = stages.Walked levels cell known

    -- corners are loaded, and stored
    loads-match : (k : ℕ) (v : Amid) (w : Amid') → k ≤ 2 ^ first.axes → Loading k v w → Go (Loading 0) (loads first cell k v) (loads second cell k w)
    loads-match zero v w within is = once _ _ _ is
    loads-match (suc k) v w within is =
        together.in_turn (Loading k) _ _ _ _ _ (same.loads levels cell known k v w (omega arith) is) (λ v w is. loads-match k v w (omega arith) is)

    stores-match : (n k : ℕ) (v : Amid) (w : Amid') → k + n ≡ 2 ^ first.axes → Storing k v w → Go (Storing (2 ^ first.axes)) (stores first cell k n v) (stores second cell k n w)
    stores-match zero k v w ends is = once _ _ _ (subst (λ k. Storing k v w) (let all : k ≡ 2 ^ first.axes = omega arith in all) is)
    stores-match (suc n) k v w ends is =
        together.in_turn (Storing (k + 1)) _ _ _ _ _ (same.stores levels cell known k v w (omega arith) is) (λ v w is. stores-match n (k + 1) v w (omega arith) is)

    held-match : (v : Amid) (w : Amid') → Storing 0 v w → Go (Storing (2 ^ first.axes)) (stores first cell 0 (first.held v) v) (stores second cell 0 (second.held w) w)
    held-match v w is =
        let holds = same.holds levels cell known v w is in
        subst (λ n. Go (Storing (2 ^ first.axes)) (stores first cell 0 n v) (stores second cell 0 (second.held w) w)) (sym holds.0)
        (subst (λ n. Go (Storing (2 ^ first.axes)) (stores first cell 0 (2 ^ first.axes) v) (stores second cell 0 n w)) (sym holds.1)
        (stores-match (2 ^ first.axes) 0 v w (omega arith) is))

    module _ (children-match : (below : stages.Below levels cell) (cells : List Place) → ChildrenMatch levels cell below cells) where
      -- what is below the cell
      rows-match : (below : stages.Below levels cell) (a : Between) (b : Between') → stages.Among levels cell below (children first.axes first.way cell) a b
          → Go (stages.Among levels cell below []) (walks_children first (walk first levels) cell a) (walks_children second (walk second levels) cell b)
      rows-match below a b is =
          subst (λ cells. Go (stages.Among levels cell below []) (walks_children first (walk first levels) cell a) (in_turn second (walk second levels) cells b))
          (sym (ap₂ (λ axes way. children axes way cell) same.axes same.way)) (children-match below (children first.axes first.way cell) a b is)

      on-match : (v : Open) (w : Open') → stages.Entered levels cell known v w → (on : Bool) → first.goes_on v ≡ on
          → Go Walked (if_on first on (walks_children first (walk first levels) cell) v) (if_on second on (walks_children second (walk second levels) cell) w)
      on-match v w is false on = once _ _ _ (same.idles levels cell known v w is on)
      on-match v w is true on =
          let down = same.opens levels cell known v w is on in
          together.in_turn (stages.Among levels cell down.0 []) _ _ _ _ _ (rows-match down.0 (first.down v) (second.down w) down.1) (λ a b is. once _ _ _ (down.2 a b is))

      below-match : (v : Open) (w : Open') → stages.Entered levels cell known v w → Go Walked (walks_below first (walk first levels) cell v) (walks_below second (walk second levels) cell w)
      below-match v w is =
          subst (λ on. Go Walked (walks_below first (walk first levels) cell v) (if_on second on (walks_children second (walk second levels) cell) w))
          (sym (same.goes_on levels cell known v w is)) (on-match v w is (first.goes_on v) refl)

      -- while the cell's record is in hand, within the cell, and the whole cell
      open-match : (v : Open) (w : Open') → stages.Come levels cell known v w
          → Go (stages.Left levels cell known) (visits_open first (walk first levels) cell v) (visits_open second (walk second levels) cell w)
      open-match v w is =
          together.in_turn (stages.Entered levels cell known) _ _ _ _ _ (same.enters levels cell known v w is) (λ v w is.
          together.in_turn Walked _ _ _ _ _ (below-match v w is) (same.leaves levels cell known))

      loaded-match : (v : Amid) (w : Amid') → Loading (2 ^ first.axes) v w → Go (Loading 0) (loads first cell (2 ^ first.axes) v) (loads second cell (2 ^ second.axes) w)
      loaded-match v w is =
          subst (λ axes. Go (Loading 0) (loads first cell (2 ^ first.axes) v) (loads second cell (2 ^ axes) w)) (sym same.axes) (loads-match (2 ^ first.axes) v w (omega arith) is)

      within-match : (v : Amid) (w : Amid') → Loading (2 ^ first.axes) v w → Go (Storing (2 ^ first.axes)) (visits first (walk first levels) cell v) (visits second (walk second levels) cell w)
      within-match v w is =
          together.in_turn (Loading 0) _ _ _ _ _ (loaded-match v w is) (λ v w is.
          together.in_turn (stages.Come levels cell known) _ _ _ _ _ (same.comes levels cell known v w is) (λ v w is.
          together.in_turn (stages.Left levels cell known) _ _ _ _ _ (open-match v w is) (λ v w is.
          together.in_turn (Storing 0) _ _ _ _ _ (same.goes levels cell known v w is) held-match)))

      cell-match : WalksMatch levels cell known
      cell-match a b is =
          together.in_turn (Loading (2 ^ first.axes)) _ _ _ _ _ (same.counts levels cell known a b is) (λ v w is.
          together.in_turn (Storing (2 ^ first.axes)) _ _ _ _ _ (within-match v w is) (λ v w is. once _ _ _ (same.closes levels cell known v w is)))

  -- children on no level are stuck in both walks
  none-match : (cell : Place) (below : stages.Below zero cell) (cells : List Place) → ChildrenMatch zero cell below cells
  none-match cell below [] a b is = once _ _ _ is
  none-match cell below (child ∷ rest) a b is = together.in_turn (stages.Among zero cell below rest) _ _ _ _ _ (nowhere _) (none-match cell below rest)

  next-match : (levels : ℕ) → ((cell : Place) (known : stages.Known levels cell) → WalksMatch levels cell known)
      → (cell : Place) (below : stages.Below (suc levels) cell) (cells : List Place) → ChildrenMatch (suc levels) cell below cells
  next-match levels walks cell below [] a b is = once _ _ _ is
  next-match levels walks cell below (child ∷ rest) a b is =
      let begin = same.begins levels cell below child rest a b is in
      together.in_turn (stages.After levels child begin.0) _ _ _ _ _ (walks child begin.0 a b begin.1) (λ a b is. next-match levels walks cell below rest a b (begin.2 a b is))

  pub walks_match : (levels : ℕ) (cell : Place) (known : stages.Known levels cell) (a : Between) (b : Between')
      → stages.Before levels cell known a b → Go (stages.After levels cell known) (walk first (suc levels) cell a) (walk second (suc levels) cell b)
  walks_match zero cell known = cell-match zero cell known (none-match cell)
  walks_match (suc levels) cell known = cell-match (suc levels) cell known (next-match levels (walks_match levels) cell)

  pub children_match : (levels : ℕ) (cell : Place) (below : stages.Below levels cell) (cells : List Place) (a : Between) (b : Between')
      → stages.Among levels cell below cells a b → Go (stages.Among levels cell below []) (in_turn first (walk first levels) cells a) (in_turn second (walk second levels) cells b)
  children_match zero = none-match
  children_match (suc levels) = next-match levels (walks_match levels)
