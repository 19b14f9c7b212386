-- Where a place is: on one stack once, or held, or nowhere.
use Rattle.std.specs.Prelude.{◌≡◌, ℕ, ◌+◌, ◌^◌, ◌<◌, ◌≤◌, Bool, true, false, ◌==◌, count_by, length, sum_by, Some, is_none}
use Rattle.pe_base.specs.declared.place.Place.{Place}
use Rattle.pe_base.specs.declared.way.Way.{Way}
use Rattle.pe_base.specs.Tree.Dim.{IsDim}
use Rattle.pe_base.specs.Tree.Places.{corner, is_same}
use Rattle.pe_base.specs.Steps.Around.{around}
use Rattle.pe_base.specs.Steps.Routes.{stack_in, stack_out}
use Rattle.pe_stacks.specs.Holdings.{Holdings}
use Rattle.pe_order.specs.Laws.{IsCell}
use Rattle.pe_order.specs.Tokens.{Outlook, Tokens, before, load, store, enter, leave, walk, begun}
use Rattle.pe_order.specs.Takings.{Grown, MayTraverse}

-- how often a place lies on the stacks together
abbrev pub lies : Holdings Place → Place → ℕ
lies held place = sum_by (λ stack. count_by (λ other. is_same other place) stack.items) held.stacks

-- and on the stacks and in hand
abbrev pub occurs : Tokens → Place → ℕ
occurs t place = t.held place + lies t.vertices place

-- A place that counts is on one stack once, or held, or nowhere; and nowhere before its first load, if it is not read.
pub record IsApart (o : Outlook) (t : Tokens) : Type 0 where
  pub once : (place : Place) → o.counts place ≡ true → occurs t place ≤ 1
  pub unmet : (place : Place) → o.counts place ≡ true → o.reads place ≡ false → t.met place ≡ 0 → occurs t place ≡ 0

-- Each move keeps it so, and so does the walk of a cell.
pub record KeepsApart (o : Outlook) : Type 0 where
  pub loads : (cell : Place) (k : ℕ) (t after : Tokens) → IsCell o.axes o.way cell → k < 2 ^ o.axes → load o cell k t ≡ Some after → IsApart o t → IsApart o after
  pub stores : (cell : Place) (k : ℕ) (t after : Tokens) → IsCell o.axes o.way cell → k < 2 ^ o.axes → store o cell k t ≡ Some after → IsApart o t → IsApart o after
  pub enters : (cell : Place) (t after : Tokens) → enter o cell t ≡ Some after → IsApart o t → IsApart o after
  pub leaves : (cell : Place) (t after : Tokens) → leave o cell t ≡ Some after → IsApart o t → IsApart o after
  pub walks : (levels : ℕ) (cell : Place) (t after : Tokens) → IsCell o.axes o.way cell → walk o levels cell t ≡ Some after → IsApart o t → IsApart o after

abbrev pub StepsKeepApart : Type 0
StepsKeepApart = (o : Outlook) → IsDim o.axes → KeepsApart o

-- As a traversal begins, nothing is held, and its streams have each place once.
abbrev pub BeginsApart : Type 0
BeginsApart = (o : Outlook) (walked : Place → Bool) (greatest : ℕ) (t : Tokens) → IsDim o.axes → Grown o walked greatest → MayTraverse o greatest t → ((place : Place) → t.held place ≡ 0) → IsApart o (begun o t)

-- First and last by counting: a corner comes from no stack to the first of the cells around it, and goes to none from the
-- last, and all others come from one and go to one.
pub record ByCounting (axes : ℕ) (way : Way) (vertex cell : Place) : Type 0 where
  pub first : is_none (stack_in axes way vertex cell) ≡ (before (around axes way vertex) cell == 0)
  pub last : is_none (stack_out axes way vertex cell) ≡ (before (around axes way vertex) cell + 1 == length (around axes way vertex))

abbrev pub CornersByCounting : Type 0
CornersByCounting = (axes : ℕ) (way : Way) (cell : Place) (k : ℕ) → IsDim axes → IsCell axes way cell → k < 2 ^ axes → ByCounting axes way (corner axes cell k) cell
