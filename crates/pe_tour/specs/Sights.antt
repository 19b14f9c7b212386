-- What a walk has in hand: between two cells, within a cell, and within one whose own record is in hand too.
use Rattle.std.specs.Prelude.{ℕ, Result, Ok, Err}

-- S is the walk itself, H has a cell's corners, R is a cell's record.
-- between two cells that are children of one: its corners, and its record
pub record Between (S H R : Type 0) : Type 0 where
  pub tour : S
  pub above : H
  pub parent : R

-- within a cell: its own corners too
pub record Amid (S H R : Type 0) : Type 0 where
  pub tour : S
  pub own : H
  pub above : H
  pub parent : R

-- and its record
pub record Open (S H R : Type 0) : Type 0 where
  pub tour : S
  pub own : H
  pub its : R
  pub above : H
  pub parent : R

module _ {S H R : Type 0} where
  abbrev pub between_of : S → H → R → Between S H R
  between_of tour above parent = record { tour = tour; above = above; parent = parent }

  abbrev pub amid_of : S → H → H → R → Amid S H R
  amid_of tour own above parent = record { tour = tour; own = own; above = above; parent = parent }

  abbrev pub open_of : S → H → R → H → R → Open S H R
  open_of tour own its above parent = record { tour = tour; own = own; its = its; above = above; parent = parent }

  -- what is around a cell
  abbrev pub around_amid : Amid S H R → Between S H R
  around_amid amid = between_of amid.tour amid.above amid.parent

  abbrev pub around_open : Open S H R → Between S H R
  around_open inside = between_of inside.tour inside.above inside.parent

  -- the cell's own corners and record are those of its children's parent
  abbrev pub below_open : Open S H R → Between S H R
  below_open inside = between_of inside.tour inside.own inside.its

  -- and what its children left of them
  abbrev pub above_again : Open S H R → Between S H R → Open S H R
  above_again inside after = open_of after.tour after.above after.parent inside.above inside.parent

-- how far a walk is within a cell: the corners from a number on are loaded, those below a number are stored, or it failed
pub data Stage : Type 0 where
  loading : ℕ → Stage
  storing : ℕ → Stage
  failed : Stage

abbrev pub stage_after : {A E : Type 0} → Result A E → Stage → Stage
stage_after (Ok a) stage = stage
stage_after (Err e) stage = failed
