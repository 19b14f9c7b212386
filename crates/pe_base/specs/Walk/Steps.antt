-- The order of a walk, once for all walks: a cell is counted, its corners are loaded, it is entered, its children are walked,
-- it is left, and its corners are stored. What each of these steps does is the walk's own.
use Rattle.std.specs.Prelude.{ℕ, zero, suc, ◌+◌, ◌^◌, Bool, true, false, List, [], ◌∷◌}
use Rattle.pe_base.specs.declared.place.Place.{Place}
use Rattle.pe_base.specs.declared.way.Way.{Way}
use Rattle.pe_base.specs.Tree.Curve.{children}
use Rattle.pe_base.specs.Calls.Courses.{Courses}

-- The steps of a walk over a grid of so many axes, in a way. Between two cells a walk is in one kind of state; within a cell
-- in another one, which has what the cell itself has in hand too; and in a third one while the cell's own record is in hand.
pub record Steps {Found Failure : Type 0} (kind : Courses Found Failure) (Between Amid Open : Type 0) : Type 0 where
  pub axes : ℕ
  pub way : Way
  pub count : Place → Between → kind.Course Amid
  pub load : Place → ℕ → Amid → kind.Course Amid
  -- the cell's record comes to hand
  pub comes : Place → Amid → kind.Course Open
  pub enter : Place → Open → kind.Course Open
  -- whether the children of the cell are walked; the states between them, and within the cell when they have been walked
  pub goes_on : Open → Bool
  pub down : Open → Between
  pub up : Open → Between → Open
  pub leave : Place → Open → kind.Course Open
  -- and goes
  pub goes : Place → Open → kind.Course Amid
  -- how many corners are stored
  pub held : Amid → ℕ
  pub store : Place → ℕ → Amid → kind.Course Amid
  pub close : Amid → Between

module _ {Found Failure Between Amid Open : Type 0} {kind : Courses Found Failure} (steps : Steps kind Between Amid Open) where
  -- corners below a number are loaded, in descending number
  abbrev pub loads : Place → ℕ → Amid → kind.Course Amid
  loads cell zero v = kind.at_once v
  loads cell (suc k) v = kind.and_then (steps.load cell k v) (loads cell k)

  -- so many corners from a number on are stored, in ascending number
  abbrev pub stores : Place → ℕ → ℕ → Amid → kind.Course Amid
  stores cell k zero v = kind.at_once v
  stores cell k (suc n) v = kind.and_then (steps.store cell k v) (stores cell (k + 1) n)

  -- cells are walked one after another
  abbrev pub in_turn : (Place → Between → kind.Course Between) → List Place → Between → kind.Course Between
  in_turn walks [] b = kind.at_once b
  in_turn walks (cell ∷ cells) b = kind.and_then (walks cell b) (in_turn walks cells)

  -- the children of a cell, and whether there are any
  abbrev pub walks_children : (Place → Between → kind.Course Between) → Place → Between → kind.Course Between
  walks_children walks cell = in_turn walks (children steps.axes steps.way cell)

  abbrev pub if_on : Bool → (Between → kind.Course Between) → Open → kind.Course Open
  if_on false below v = kind.at_once v
  if_on true below v = kind.and_then (below (steps.down v)) (λ b. kind.at_once (steps.up v b))

  abbrev pub walks_below : (Place → Between → kind.Course Between) → Place → Open → kind.Course Open
  walks_below walks cell v = if_on (steps.goes_on v) (walks_children walks cell) v

  -- a cell is entered, its children are walked, and it is left
  abbrev pub visits_open : (Place → Between → kind.Course Between) → Place → Open → kind.Course Open
  visits_open walks cell v =
      kind.and_then (steps.enter cell v) (λ v. kind.and_then (walks_below walks cell v) (λ v. steps.leave cell v))

  -- what is done within a cell
  abbrev pub visits : (Place → Between → kind.Course Between) → Place → Amid → kind.Course Amid
  visits walks cell v =
      kind.and_then (loads cell (2 ^ steps.axes) v) (λ v.
      kind.and_then (steps.comes cell v) (λ v.
      kind.and_then (visits_open walks cell v) (λ v.
      kind.and_then (steps.goes cell v) (λ v.
      stores cell 0 (steps.held v) v))))

  -- the walk of a cell, with so many levels from its own one down
  abbrev pub walk : ℕ → Place → Between → kind.Course Between
  walk zero cell b = kind.stuck
  walk (suc levels) cell b =
      kind.and_then (steps.count cell b) (λ v. kind.and_then (visits (walk levels) cell v) (λ v. kind.at_once (steps.close v)))
