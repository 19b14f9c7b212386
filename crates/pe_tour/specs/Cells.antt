-- What a walk knows of a cell, and of its children.
use Rattle.std.specs.Prelude.{◌≡◌, ℕ, ◌^◌, ◌<◌, ◌≤◌, Bool, ◌==◌, if◌then◌else◌, Some, slice_get, slice_index}
use Rattle.std.specs.List.{list_any, range_with_len}
use Rattle.pe_base.specs.declared.place.Digits.{Digits}
use Rattle.pe_base.specs.declared.kind.Kind.{Kind}
use Rattle.pe_base.specs.declared.kind.Kind.TheVariants.{Kept, Born}
use Rattle.pe_base.specs.Tree.Places.{IsCellPlace, IsDigits, child_at, parent_of}
use Rattle.pe_base.specs.Tree.Curve.{children, flips}
use Rattle.pe_base.specs.Life.Kinds.{kind_from}
use Rattle.pe_curve.specs.declared.step.Step.{Step}
use Rattle.pe_curve.specs.Steps.{IsStep}
use Rattle.pe_access.specs.States.{StandsFor}
use Rattle.pe_access.specs.Rows.{IsRow}
use Rattle.pe_states.specs.Ages.{is_old_at, is_new_at, is_first_old, is_first_new, some_carrier}
use Rattle.pe_states.specs.Sides.{IsRow as IsRowOfAges}
use Rattle.pe_tour.specs.declared.settings.TourSettings.{TourSettings}
use Rattle.pe_tour.specs.declared.cell.CellAt.{CellAt}
use Rattle.pe_tour.specs.declared.child.Child.{Child}

-- what is known of a cell holds of it
pub record IsAt (settings : TourSettings) (at : CellAt) : Type 0 where
  pub place : IsCellPlace settings.dim at.place
  pub deep : 1 ≤ at.place.level
  pub digits : IsDigits settings.dim at.step.digits
  pub child : at.place ≡ child_at (parent_of at.place) at.step.digits
  pub state : StandsFor settings.dim settings.way at.place at.state
  pub row : IsRow at.state at.row

-- whether some corner of a cell is old, and is new
abbrev pub some_old : ℕ → Bool
some_old ages = list_any (is_old_at ages) (range_with_len 0 16)

abbrev pub some_new : ℕ → Bool
some_new ages = list_any (is_new_at ages) (range_with_len 0 16)

-- the kind of a cell of a level, by the ages of its parent's corners
abbrev pub kind_of_child : ℕ → ℕ → ℕ → Kind
kind_of_child traversal level ages =
    if level == 1 then (if traversal == 1 then Born else Kept) else kind_from (some_old ages) (some_new ages)

-- Ages give the kinds of the corners of the cell of a level at these digits, by the ages of its parent's corners. On level 1 they
-- do so by the traversal.
pub record AreChildAges (settings : TourSettings) (ages level : ℕ) (digits : Digits) (its : ℕ) : Type 0 where
  pub old : (k : ℕ) → k < 2 ^ settings.dim
      → is_old_at its k ≡ (if level == 1 then is_first_old settings.dim digits settings.traversal k else some_carrier settings.dim digits k (is_old_at ages))
  pub new : (k : ℕ) → k < 2 ^ settings.dim
      → is_new_at its k ≡ (if level == 1 then is_first_new settings.dim digits k else some_carrier settings.dim digits k (is_new_at ages))

-- the ages of a cell, and its kind, are those by the ages of its parent's corners
pub record IsAgedBy (settings : TourSettings) (ages : ℕ) (at : CellAt) : Type 0 where
  pub corners : AreChildAges settings ages at.place.level at.step.digits at.ages
  pub kind : at.kind ≡ kind_of_child settings.traversal at.place.level ages

-- what is known of a cell above the greatest level, whose children are walked: it may be the root
pub record IsOver (settings : TourSettings) (at : CellAt) : Type 0 where
  pub place : IsCellPlace settings.dim at.place
  pub level : at.place.level < 20
  pub state : StandsFor settings.dim settings.way at.place at.state

-- the n-th child of a cell whose corners have these ages, in the order of the walk
pub record IsNth (settings : TourSettings) (over : CellAt) (ages n : ℕ) (child : CellAt) : Type 0 where
  pub nth : slice_get (children settings.dim settings.way over.place) n ≡ Some child.place
  pub under : child.place ≡ child_at over.place child.step.digits
  pub at : IsAt settings child
  pub aged : IsAgedBy settings ages child

-- # Each made from the one before it
-- the step is that of the n-th child
abbrev pub IsStepOf : TourSettings → CellAt → ℕ → Step → Type 0
IsStepOf settings over n step = IsStep settings.dim settings.way (flips settings.dim over.place.pos) n step

-- and so is all else that is known of it
pub record IsChild (settings : TourSettings) (over : CellAt) (ages n : ℕ) (child : Child) : Type 0 where
  pub step : IsStepOf settings over n child.cell.step
  pub row_ages : IsRowOfAges settings.dim child.cell.step.digits ages child.row_ages
  pub is : IsNth settings over ages n child.cell

-- digits that agree on the axes before one
abbrev pub AgreeBefore : ℕ → Digits → Digits → Type 0
AgreeBefore first digits digits' = (i : ℕ) → i < first → slice_index digits.k i ≡ slice_index digits'.k i

-- the step has gone on to the n-th child, and the rest is that of a child whose digits agree before an axis
pub record IsAhead (settings : TourSettings) (over : CellAt) (ages first n : ℕ) (child : Child) : Type 0 where
  pub from : Step
  pub number : ℕ
  pub was : IsChild settings over ages number (record child { cell = record child.cell { step = from } })
  pub step : IsStepOf settings over n child.cell.step
  pub agree : AgreeBefore first from.digits child.cell.step.digits
