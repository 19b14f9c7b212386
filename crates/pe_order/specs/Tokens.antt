-- The walk over places on stacks: which place each move takes from which stack, and which it puts where. There are no
-- records, no values and no events.
--
-- A move answers none where the place that it wants is not on top of the stack, or where it is loaded before its time, or
-- stored though it is not held, or where children are asked for on no level. No move of a walk does.
use Rattle.std.specs.Prelude.{ℕ, zero, suc, ◌+◌, ◌-◌, ◌^◌, Bool, true, false, not, ◌==◌, nat_lt, List, [], ◌∷◌, reverse, if◌then◌else◌, Option, Some, None}
use Rattle.std.specs.Option.{option_map, option_and_then}
use Rattle.std.specs.List.{range_with_len}
use Rattle.pe_base.specs.declared.place.Place.{Place}
use Rattle.pe_base.specs.declared.way.Way.{Way}
use Rattle.pe_base.specs.Tree.Places.{root, corner, is_same}
use Rattle.pe_base.specs.Tree.Ways.{opposite}
use Rattle.pe_base.specs.Tree.Curve.{children}
use Rattle.pe_base.specs.Steps.Around.{around}
use Rattle.pe_base.specs.Steps.Routes.{stack_in, stack_out}
use Rattle.pe_base.specs.Steps.Faces.{Touch}
use Rattle.pe_stacks.specs.Holdings.{Holdings, items_at, lent, given_up, pushed, popped}
use Rattle.pe_stacks.specs.Grid.{input_stack, output_stack, cell_input_stack, cell_output_stack}

-- What is known before a traversal: the axes, its way, which streams are input, and of each place
--
--     counts    the vertex is not hanging
--     reads     it lies on the input before the traversal
--     writes    it lies on the output afterwards
--     walks     the children of the cell are walked
pub record Outlook : Type 0 where
  pub axes : ℕ
  pub way : Way
  pub swapped : Bool
  pub counts : Place → Bool
  pub reads : Place → Bool
  pub writes : Place → Bool
  pub walks : Place → Bool
  pub reads_cell : Place → Bool
  pub writes_cell : Place → Bool

-- the same the other way round: what was written is read, from the stacks to which it went
abbrev pub turned : Outlook → Outlook
turned o = record o { way = opposite o.way; swapped = not o.swapped; reads = o.writes; writes = o.reads; reads_cell = o.writes_cell; writes_cell = o.reads_cell }

-- the stacks of the places of vertices and of cells; how often a vertex is held, and for how many cells it was loaded
pub record Tokens : Type 0 where
  pub vertices : Holdings Place
  pub cells : Holdings Place
  pub held : Place → ℕ
  pub met : Place → ℕ

-- one more, or one less, at a place
abbrev pub one_more : Place → (Place → ℕ) → Place → ℕ
one_more place count other = if is_same place other then count other + 1 else count other

abbrev pub one_less : Place → (Place → ℕ) → Place → ℕ
one_less place count other = if is_same place other then count other - 1 else count other

-- how many places of a list stand before one of them
abbrev pub before : List Place → Place → ℕ
before [] place = 0
before (x ∷ xs) place = if is_same x place then 0 else before xs place + 1

-- how many of the cells around a vertex come before this one
abbrev pub cells_before : ℕ → Way → Touch → ℕ
cells_before axes way touch = before (around axes way touch.vertex) touch.cell

-- a place is on top
abbrev pub is_top : Place → List Place → Bool
is_top place [] = false
is_top place (x ∷ xs) = is_same x place

-- what is asked for, where a test is passed
abbrev pub given : {X : Type 0} → Bool → Option X → Option X
given true x = x
given false x = None

-- the first that names something
abbrev pub first_of : {X : Type 0} → Option X → Option X → Option X
first_of (Some x) other = Some x
first_of None other = other

abbrev pub each_some : {A X : Type 0} → (A → X → Option X) → List A → X → Option X
each_some step [] x = Some x
each_some step (a ∷ as') x = option_and_then (each_some step as') (step a x)

-- a place is taken from the stack named, or made if none is; it is given to the stack named, or given up
abbrev pub taken : Option ℕ → Place → Holdings Place → Option (Holdings Place)
taken None place held = Some (lent held)
taken (Some s) place held = given (is_top place (items_at held s)) (Some (popped held s))

abbrev pub put : Option ℕ → Place → Holdings Place → Holdings Place
put None place held = given_up held
put (Some s) place held = pushed held s place

-- so many places are made, and given up
abbrev pub lent_for : List ℕ → Holdings Place → Holdings Place
lent_for [] held = held
lent_for (k ∷ ks) held = lent_for ks (lent held)

abbrev pub given_up_for : List ℕ → Holdings Place → Holdings Place
given_up_for [] held = held
given_up_for (k ∷ ks) held = given_up_for ks (given_up held)

module _ (o : Outlook) where
  -- the stack from which a vertex that counts comes to a cell, and the one to which it goes: none where it is new, or gone
  abbrev pub source : Touch → Option ℕ
  source touch = first_of (stack_in o.axes o.way touch.vertex touch.cell) (given (o.reads touch.vertex) (Some (input_stack o.swapped)))

  abbrev pub target : Touch → Option ℕ
  target touch = first_of (stack_out o.axes o.way touch.vertex touch.cell) (given (o.writes touch.vertex) (Some (output_stack o.swapped)))

  -- the stacks from which a cell comes, and to which it goes
  abbrev pub cell_source : Place → Option ℕ
  cell_source cell = given (o.reads_cell cell) (Some (cell_input_stack o.swapped))

  abbrev pub cell_target : Place → Option ℕ
  cell_target cell = given (o.writes_cell cell) (Some (cell_output_stack o.swapped))

  abbrev pub touch_of : Place → ℕ → Touch
  touch_of cell k = record { vertex = corner o.axes cell k; cell = cell }

  -- a vertex that counts is loaded after the cells around it that come before this one, and is held from then on
  abbrev pub load_it : Touch → Tokens → Option Tokens
  load_it touch t =
      given (t.met touch.vertex == cells_before o.axes o.way touch)
      (option_map
      (λ vertices. record { vertices = vertices; cells = t.cells; held = one_more touch.vertex t.held; met = one_more touch.vertex t.met })
      (taken (source touch) touch.vertex t.vertices))

  abbrev pub load : Place → ℕ → Tokens → Option Tokens
  load cell k t =
      let touch = touch_of cell k in
      if o.counts touch.vertex then load_it touch t else (Some (record t { vertices = lent t.vertices }))

  -- and is stored while it is held
  abbrev pub store_it : Touch → Tokens → Option Tokens
  store_it touch t =
      given (nat_lt 0 (t.held touch.vertex))
      (Some (record t { vertices = put (target touch) touch.vertex t.vertices; held = one_less touch.vertex t.held }))

  abbrev pub store : Place → ℕ → Tokens → Option Tokens
  store cell k t =
      let touch = touch_of cell k in
      if o.counts touch.vertex then store_it touch t else (Some (record t { vertices = given_up t.vertices }))

  abbrev pub enter : Place → Tokens → Option Tokens
  enter cell t = option_map (λ cells. record t { cells = cells }) (taken (cell_source cell) cell t.cells)

  abbrev pub leave : Place → Tokens → Option Tokens
  leave cell t = Some (record t { cells = put (cell_target cell) cell t.cells })

  abbrev pub numbers : List ℕ
  numbers = range_with_len 0 (2 ^ o.axes)

  -- a cell, with what is done below it
  abbrev pub around_below : (Tokens → Option Tokens) → Place → Tokens → Option Tokens
  around_below below cell t =
      option_and_then (λ t. option_and_then (λ t. option_and_then (λ t. option_and_then (λ t. each_some (store cell) numbers t) (leave cell t)) (below t)) (enter cell t))
      (each_some (load cell) (reverse numbers) t)

  -- the walk of a cell with some levels below it
  abbrev pub walk : ℕ → Place → Tokens → Option Tokens
  walk zero cell = around_below (λ t. given (not (o.walks cell)) (Some t)) cell
  walk (suc levels) cell = around_below (λ t. if o.walks cell then each_some (walk levels) (children o.axes o.way cell) t else (Some t)) cell

  -- a traversal: the root's corners hang
  abbrev pub begun : Tokens → Tokens
  begun t = record t { vertices = lent_for numbers t.vertices }

  abbrev pub ended : Tokens → Tokens
  ended t = record t { vertices = given_up_for numbers t.vertices }

  abbrev pub traverse : ℕ → Tokens → Option Tokens
  traverse greatest t = option_map ended (each_some (walk (greatest - 1)) (children o.axes o.way root) (begun t))
