-- The extents of a cell from those of its parent.
use Rattle.std.specs.Prelude.{ℕ, zero, suc, ◌+◌, ◌/◌, ◌%◌, List, [], ◌∷◌, map, sum}
use Rattle.pe_base.specs.declared.way.Way.{Way}
use Rattle.pe_base.specs.Steps.Routes.{way_turns}
use Rattle.pe_access.specs.Extents.{Extent, root_extent, child_extent}

-- the position of the parent
abbrev pub parent_pos : List ℕ → List ℕ
parent_pos pos = map (λ x. x / 3) pos

-- The extents of a child, axis by axis, by the positions of its parent and of itself: an axis is turned by the
-- parent's positions on the other axes and by the child's digits on the axes before it.
abbrev pub child_extents : ℕ → ℕ → List ℕ → List ℕ → List Extent → List Extent
child_extents level turns [] xs extents = []
child_extents level turns (p ∷ ps) [] extents = []
child_extents level turns (p ∷ ps) (x ∷ xs) [] = []
child_extents level turns (p ∷ ps) (x ∷ xs) (extent ∷ extents) =
    child_extent level (turns + p) (x % 3) extent ∷ child_extents level (turns + x % 3) ps xs extents

-- the extents of a cell, by its level and position
abbrev pub extents_of : Way → ℕ → List ℕ → List Extent
extents_of way zero pos = map (λ x. root_extent) pos
extents_of way (suc level) pos =
    child_extents (suc level) (way_turns way + sum (parent_pos pos)) (parent_pos pos) pos (extents_of way level (parent_pos pos))
