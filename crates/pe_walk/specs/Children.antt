-- The children of a cell, each made from the one before it: along a row only the digit on the last axis changes.
use Rattle.std.specs.Prelude.{◌≡◌, ℕ, ◌<◌, List, slice_index}
use Rattle.pe_base.specs.declared.place.Digits.{Digits}
use Rattle.pe_base.specs.Tree.Places.{IsCellPlace, child_at}
use Rattle.pe_base.specs.Tree.Curve.{flips}
use Rattle.pe_base.specs.Acts.Effects.{VertexRecord}
use Rattle.pe_curve.specs.declared.step.Step.{Step}
use Rattle.pe_curve.specs.Steps.{IsStep}
use Rattle.pe_access.specs.States.{StandsFor}
use Rattle.pe_access.specs.Rows.{IsRow}
use Rattle.pe_states.specs.Sides.{IsRow as IsRowOfAges}
use Rattle.pe_adapt.specs.Ages.{AreAgesOf, GiveKinds}
use Rattle.pe_adapt.specs.declared.settings.Settings.{Settings}
use Rattle.pe_walk.specs.declared.child.Above.{Above}
use Rattle.pe_walk.specs.declared.child.Child.{Child}

-- what is known of a cell above the greatest level holds of it
pub record IsAbove (axes : ℕ) (settings : Settings) (above : Above) : Type 0 where
  pub place : IsCellPlace axes above.place
  pub level : above.place.level < 20
  pub state : StandsFor axes settings.way above.place above.state

-- digits that agree on the axes before one
abbrev pub AgreeBefore : ℕ → Digits → Digits → Type 0
AgreeBefore first digits digits' = (i : ℕ) → i < first → slice_index digits.k i ≡ slice_index digits'.k i

-- the step is that of the n-th child in the order of the traversal
abbrev pub IsStepOf : ℕ → Settings → Above → ℕ → Step → Type 0
IsStepOf axes settings above n step = IsStep axes settings.way (flips axes above.place.pos) n step

-- what is known of the n-th child holds of it; its ages give its corners' kinds wherever those of the cell above are its parents'
pub record IsChild (axes : ℕ) (settings : Settings) (above : Above) (n : ℕ) (child : Child) : Type 0 where
  pub step : IsStepOf axes settings above n child.step
  pub place : child.cell.place ≡ child_at above.place child.step.digits
  pub state : StandsFor axes settings.way (child_at above.place child.step.digits) child.cell.state
  pub row : IsRow child.cell.state child.cell.row
  pub row_ages : IsRowOfAges axes child.step.digits above.ages child.row_ages
  pub kinds : (its : List VertexRecord) → AreAgesOf axes its above.ages → GiveKinds axes settings.traversal child.cell.place its child.cell.ages

-- the step has gone on to the n-th child, and the rest is that of a child whose digits agree before an axis
pub record IsAhead (axes : ℕ) (settings : Settings) (above : Above) (first n : ℕ) (child : Child) : Type 0 where
  pub from : Step
  pub number : ℕ
  pub was : IsChild axes settings above number (record child { step = from })
  pub step : IsStepOf axes settings above n child.step
  pub agree : AgreeBefore first from.digits child.step.digits
