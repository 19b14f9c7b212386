-- Cells that are walked by a call each.
use Rattle.std.specs.Prelude.{ℕ, List, [], ◌∷◌}
use Rattle.pe_base.specs.declared.place.Place.{Place}
use Rattle.pe_base.specs.Walk.Core.{Setting}
use Rattle.pe_adapt.specs.CountedTouches.{Machine}
use Rattle.pe_walk.specs.FaceLaw.{Moment, MayCall, ComeAfter}

-- The first of these cells may be walked, and the others come after it, the last of them with no cell ahead.
abbrev pub MayWalkInTurn : {Plan : Type 0} → Setting Plan → ℕ → ℕ → ℕ → Machine → List Place → Type 0
MayWalkInTurn set greatest stream cell_stream m [] = Unit {0}
MayWalkInTurn set greatest stream cell_stream m (cell ∷ others) =
    (moment : Moment) × MayCall set greatest cell stream cell_stream m moment × ComeAfter set others [] moment
