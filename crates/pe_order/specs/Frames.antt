-- What each move of the walk over places changes, and what it leaves.
use Rattle.std.specs.Prelude.{◌≡◌, ℕ, suc, ◌+◌, ◌-◌, ◌^◌, ◌<◌, ◌≤◌, Bool, true, false, not, ◌&&◌, ◌∷◌, if◌then◌else◌, Option, Some, None}
use Rattle.pe_base.specs.declared.place.Place.{Place}
use Rattle.pe_base.specs.Tree.Dim.{IsDim}
use Rattle.pe_base.specs.Tree.Places.{is_same}
use Rattle.pe_base.specs.Tree.Curve.{children}
use Rattle.pe_base.specs.Steps.Faces.{Touch}
use Rattle.pe_base.specs.Steps.Stacks.{is_stack}
use Rattle.pe_stacks.specs.Holdings.{items_at, stack_count}
use Rattle.pe_order.specs.Laws.{IsCell}
use Rattle.pe_order.specs.Tokens.{Outlook, Tokens, cells_before, taken, put, source, target, cell_source, cell_target, touch_of, each_some, load, store, enter, leave, walk}
use Rattle.pe_order.specs.Takings.{loads_of, met_after}
use Rattle.pe_order.specs.Apart.{lies}
use Rattle.pe_order.specs.Traffic.{takes_from, makes, gives_to, ends}

-- the depots have the stacks of vertices, and of cells
pub record HasStacks (t : Tokens) : Type 0 where
  pub vertices : stack_count t.vertices ≡ 10
  pub cells : stack_count t.cells ≡ 2

module _ (o : Outlook) where
  -- from where a corner is loaded, and to where it is stored, whether it counts or not
  abbrev pub loaded_from : Touch → Option ℕ
  loaded_from touch = if o.counts touch.vertex then source o touch else None

  abbrev pub stored_to : Touch → Option ℕ
  stored_to touch = if o.counts touch.vertex then target o touch else None

  -- a touch is of a place, and it counts
  abbrev pub counts_at : Place → Touch → Bool
  counts_at place touch = o.counts touch.vertex && is_same touch.vertex place

  -- After a load: the corner came from its stack, or was made, and is held and met once more if it counts.
  pub record AfterLoad (touch : Touch) (t after : Tokens) : Type 0 where
    pub due : o.counts touch.vertex ≡ true → t.met touch.vertex ≡ cells_before o.axes o.way touch
    pub vertices : taken (loaded_from touch) touch.vertex t.vertices ≡ Some after.vertices
    pub cells : after.cells ≡ t.cells
    pub held : (q : Place) → after.held q ≡ t.held q + (if counts_at q touch then 1 else 0)
    pub met : (q : Place) → after.met q ≡ t.met q + (if counts_at q touch then 1 else 0)
    pub stacks : stack_count after.vertices ≡ stack_count t.vertices
    pub out : after.vertices.out ≡ t.vertices.out + 1
    pub items : (s : ℕ) → items_at t.vertices s ≡ (if takes_from o s touch then touch.vertex ∷ items_at after.vertices s else items_at after.vertices s)
    pub its_lies : (q : Place) → lies after.vertices q + (if not (makes o touch) && is_same touch.vertex q then 1 else 0) ≡ lies t.vertices q

  -- After a store: the corner went to its stack, or was given up, and is held once less if it counts.
  pub record AfterStore (touch : Touch) (t after : Tokens) : Type 0 where
    pub was_held : o.counts touch.vertex ≡ true → 1 ≤ t.held touch.vertex
    pub vertices : after.vertices ≡ put (stored_to touch) touch.vertex t.vertices
    pub cells : after.cells ≡ t.cells
    pub held : (q : Place) → after.held q + (if counts_at q touch then 1 else 0) ≡ t.held q
    pub met : after.met ≡ t.met
    pub stacks : stack_count after.vertices ≡ stack_count t.vertices
    pub out : after.vertices.out ≡ t.vertices.out - 1
    pub items : (s : ℕ) → items_at after.vertices s ≡ (if gives_to o s touch then touch.vertex ∷ items_at t.vertices s else items_at t.vertices s)
    pub its_lies : (q : Place) → lies after.vertices q ≡ lies t.vertices q + (if not (ends o touch) && is_same touch.vertex q then 1 else 0)

  -- After a cell is entered: it came from its stack, or was made.
  pub record AfterEnter (cell : Place) (t after : Tokens) : Type 0 where
    pub vertices : after.vertices ≡ t.vertices
    pub held : after.held ≡ t.held
    pub met : after.met ≡ t.met
    pub cells : taken (cell_source o cell) cell t.cells ≡ Some after.cells
    pub stacks : stack_count after.cells ≡ stack_count t.cells
    pub out : after.cells.out ≡ t.cells.out + 1
    pub items : (s : ℕ) → items_at t.cells s ≡ (if is_stack s (cell_source o cell) then cell ∷ items_at after.cells s else items_at after.cells s)
    pub its_lies : (x : Place) → lies after.cells x + (if o.reads_cell cell && is_same cell x then 1 else 0) ≡ lies t.cells x

  -- After it is left: it went to its stack, or was given up.
  pub record AfterLeave (cell : Place) (t after : Tokens) : Type 0 where
    pub vertices : after.vertices ≡ t.vertices
    pub held : after.held ≡ t.held
    pub met : after.met ≡ t.met
    pub cells : after.cells ≡ put (cell_target o cell) cell t.cells
    pub stacks : stack_count after.cells ≡ stack_count t.cells
    pub out : after.cells.out ≡ t.cells.out - 1
    pub items : (s : ℕ) → items_at after.cells s ≡ (if is_stack s (cell_target o cell) then cell ∷ items_at t.cells s else items_at t.cells s)
    pub its_lies : (x : Place) → lies after.cells x ≡ lies t.cells x + (if o.writes_cell cell && is_same cell x then 1 else 0)

  pub record StepsChange : Type 0 where
    pub loads : (cell : Place) (k : ℕ) (t after : Tokens) → load o cell k t ≡ Some after → AfterLoad (touch_of o cell k) t after
    pub stores : (cell : Place) (k : ℕ) (t after : Tokens) → IsCell o.axes o.way cell → k < 2 ^ o.axes → HasStacks t → store o cell k t ≡ Some after → AfterStore (touch_of o cell k) t after
    pub enters : (cell : Place) (t after : Tokens) → enter o cell t ≡ Some after → AfterEnter cell t after
    pub leaves : (cell : Place) (t after : Tokens) → HasStacks t → leave o cell t ≡ Some after → AfterLeave cell t after

  -- What is left by a part of a walk from a level down: what is held, what was met above, how much is out, and the cells
  -- above. Vertices that do not count are never met.
  pub record LeavesAbove (level : ℕ) (t after : Tokens) : Type 0 where
    pub stacks : HasStacks after
    pub held : (q : Place) → after.held q ≡ t.held q
    pub met : (q : Place) → q.level < level → after.met q ≡ t.met q
    pub hanging : (q : Place) → o.counts q ≡ false → after.met q ≡ t.met q
    pub out : after.vertices.out ≡ t.vertices.out
    pub cells_out : after.cells.out ≡ t.cells.out
    pub cells : (x : Place) → x.level < level → lies after.cells x ≡ lies t.cells x

  -- The walk of a cell leaves all above the cell, and the walks of its children leave the cell too. What they meet is what
  -- they load.
  pub record WalksLeave : Type 0 where
    pub walks : (levels : ℕ) (cell : Place) (t after : Tokens) → IsCell o.axes o.way cell → HasStacks t → walk o levels cell t ≡ Some after → LeavesAbove cell.level t after
    pub children_walked : (levels : ℕ) (cell : Place) (t after : Tokens) → IsCell o.axes o.way cell → HasStacks t → each_some (walk o levels) (children o.axes o.way cell) t ≡ Some after
        → LeavesAbove (suc cell.level) t after
    pub met : (levels : ℕ) (cell : Place) (t after : Tokens) → walk o levels cell t ≡ Some after → after.met ≡ met_after o (loads_of o levels cell) t.met

abbrev pub WhatStepsChange : Type 0
WhatStepsChange = (o : Outlook) → IsDim o.axes → StepsChange o

abbrev pub WhatWalksLeave : Type 0
WhatWalksLeave = (o : Outlook) → IsDim o.axes → WalksLeave o
