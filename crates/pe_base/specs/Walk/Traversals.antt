-- Traversals in turn, from a grid on.
use Rattle.std.specs.Prelude.{ℕ, zero, suc, List, [], ◌∷◌, ◌++◌}
use Rattle.pe_base.specs.declared.tally.Tally.{Tally}
use Rattle.pe_base.specs.Lines.{tally_line}
use Rattle.pe_base.specs.Walk.Course.{Ending, done, halts, stuck, Course}
use Rattle.pe_base.specs.Walk.Core.{Setting}
use Rattle.pe_base.specs.Walk.Grids.{Grid}
use Rattle.pe_base.specs.Walk.Walk.{traverse}

-- a traversal that was made: the grid before it, and its tally
pub record Traversal : Type 0 where
  pub grid : Grid
  pub tally : Tally

-- what traversals in turn come to: their text, in which each has its tally line behind it; those that were made; and the
-- grid that they leave, or what halts the one behind them
pub record Traversals : Type 0 where
  pub text : List ℕ
  pub made : List Traversal
  pub ending : Ending Grid

-- a traversal before others
abbrev pub with_traversal : List ℕ → Traversal → Traversals → Traversals
with_traversal text traversal rest = record { text = text ++ tally_line traversal.tally ++ rest.text; made = traversal ∷ rest.made; ending = rest.ending }

-- a traversal of a grid, and where it is done, what comes next
abbrev pub traversals_from : (Grid → Traversals) → Grid → List ℕ → Ending (Grid × Tally) → Traversals
traversals_from next grid text (done after) = with_traversal text (record { grid = grid; tally = after.1 }) (next after.0)
traversals_from next grid text (halts cause) = record { text = text; made = []; ending = halts cause }
traversals_from next grid text stuck = record { text = text; made = []; ending = stuck }

abbrev pub traversed : (Grid → Traversals) → Grid → Course (Grid × Tally) → Traversals
traversed next grid course = traversals_from next grid course.text course.ending

-- so many traversals
abbrev pub traversals : {Plan : Type 0} → Setting Plan → ℕ → Grid → Traversals
traversals set zero grid = record { text = []; made = []; ending = done grid }
traversals set (suc count) grid = traversed (traversals set count) grid (traverse set grid)
