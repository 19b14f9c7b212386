-- Where the place of a corner goes that is stored.
use Rattle.std.proofs.Common.{◌≡◌, ◌≢◌, ℕ, ◌^◌, ◌<◌, Bool, true, false, not, Option, Some, None, refl, sym, subst, ◌∙◌}
use Rattle.std.specs.Prelude.{nat_lt, if◌then◌else◌}
use Rattle.pe_base.specs.declared.place.Place.{Place}
use Rattle.pe_base.specs.declared.way.Way.{Way}
use Rattle.pe_base.specs.Tree.Dim.{IsDim}
use Rattle.pe_base.specs.Tree.Places.{corner}
use Rattle.pe_base.specs.Steps.Routes.{stack_out}
use Rattle.pe_stacks.specs.Grid.{input_stack, output_stack}
use Rattle.pe_order.specs.Laws.{IsCell}
use Rattle.pe_order.specs.Tokens.{Outlook, Tokens, given, first_of, touch_of, target, store_it, store}
use Rattle.pe_order.specs.Apart.{IsApart}
use Rattle.pe_order.specs.Traffic.{OnlyCounting}
use Rattle.pe_order.proofs.Derived.{corners_cross_once}
use Rattle.pe_order.proofs.Tokens.Keeping.{given_some}
use Rattle.pe_order.proofs.Tokens.Walks.{goes_within}
use Rattle.pe_order.proofs.Tokens.Apart.{steps_keep_apart}
use Rattle.pe_order.proofs.Tokens.Short.{steps_keep_counting}
use Rattle.pe_walk.proofs.Simulation.Shared.{across_apart}
use Rattle.pe_walk.proofs.Simulation.Stores.OnStacks.{stored}

-- to the next cell around it, or to the output if it is written; and nowhere if it does not count
abbrev pub goal_if : Bool → Outlook → ℕ → Way → Place → Place → Option ℕ
goal_if true o axes way vertex cell = first_of (stack_out axes way vertex cell) (given (o.writes vertex) (Some (output_stack o.swapped)))
goal_if false o axes way vertex cell = None

abbrev pub goal_of : Outlook → ℕ → Way → Place → Place → Option ℕ
goal_of o axes way vertex cell = goal_if (o.counts vertex) o axes way vertex cell

-- what the store of a corner makes of the places
pub record Goes (o : Outlook) (axes : ℕ) (way : Way) (cell : Place) (k : ℕ) (t after : Tokens) : Type 0 where
  pub is : stored (o.counts (corner axes cell k)) (goal_of o axes way (corner axes cell k) cell) (corner axes cell k) t ≡ after
  pub within : (s : ℕ) → goal_of o axes way (corner axes cell k) cell ≡ Some s → s < 10
  pub apart : IsApart o t → IsApart o after
  pub counting : OnlyCounting o t → OnlyCounting o after

goes : (o : Outlook) (cell : Place) (k : ℕ) (t after : Tokens) → IsDim o.axes → IsCell o.axes o.way cell → k < 2 ^ o.axes → store o cell k t ≡ Some after → Goes o o.axes o.way cell k t after
goes o cell k t after dim is_cell below run = record {
  is = went (o.counts (touch_of o cell k).vertex) run;
  within = λ s e. few (o.counts (touch_of o cell k).vertex) s e;
  apart = λ apart. (steps_keep_apart o dim).stores cell k t after is_cell below run apart;
  counting = λ counting. (steps_keep_counting o dim).stores cell k t after run counting;
}
  where
    went : (b : Bool) → (if b then store_it o (touch_of o cell k) t else (Some (stored false None (touch_of o cell k).vertex t))) ≡ Some after → stored b (goal_if b o o.axes o.way (touch_of o cell k).vertex cell) (touch_of o cell k).vertex t ≡ after
    went true run = cc ((given_some (nat_lt 0 (t.held (touch_of o cell k).vertex)) (Some (stored true (target o (touch_of o cell k)) (touch_of o cell k).vertex t)) after run).1)
    went false run = cc

    few : (b : Bool) (s : ℕ) → goal_if b o o.axes o.way (touch_of o cell k).vertex cell ≡ Some s → s < 10
    few true s e = goes_within o dim cell is_cell k below s e
    few false s e = absurd cc

-- by axes and a way that are those of the outlook
pub goes_by : (o : Outlook) (axes : ℕ) (way : Way) (cell : Place) (k : ℕ) (t after : Tokens) → o.axes ≡ axes → o.way ≡ way → IsDim axes → IsCell axes way cell → k < 2 ^ axes → store o cell k t ≡ Some after → Goes o axes way cell k t after
goes_by o axes way cell k t after same turn dim is_cell below run =
    subst (λ n. Goes o n way cell k t after) same (subst (λ u. Goes o o.axes u cell k t after) turn
    (goes o cell k t after (subst IsDim (sym same) dim) (subst (λ n. IsCell n o.way cell) (sym same) (subst (λ u. IsCell axes u cell) (sym turn) is_cell)) (subst (λ n. k < 2 ^ n) (sym same) below) run))

-- the stack of the next cell is not the output
pub waits_apart : (axes : ℕ) (way : Way) (cell : Place) (k : ℕ) (swapped : Bool) → IsDim axes → IsCell axes way cell → k < 2 ^ axes
    → (s : ℕ) → stack_out axes way (corner axes cell k) cell ≡ Some s → s ≢ output_stack swapped
waits_apart axes way cell k swapped dim is_cell below s e =
    across_apart axes (corner axes cell k) cell (stack_out axes way (corner axes cell k) cell) _ swapped dim.1 (corners_cross_once axes way cell k dim is_cell below).goes s e

-- and no corner goes to the input
pub goal_apart : (o : Outlook) (axes : ℕ) (way : Way) (cell : Place) (k : ℕ) → IsDim axes → IsCell axes way cell → k < 2 ^ axes
    → (s : ℕ) → goal_of o axes way (corner axes cell k) cell ≡ Some s → s ≢ input_stack o.swapped
goal_apart o axes way cell k dim is_cell below s = by (o.counts (corner axes cell k))
  where
    turned : (b : Bool) → output_stack (not b) ≡ input_stack b
    turned true = refl
    turned false = refl

    other : (b : Bool) → output_stack b ≢ input_stack b
    other true e = absurd cc
    other false e = absurd cc

    by_next : (to : Option ℕ) → stack_out axes way (corner axes cell k) cell ≡ to → (writes : Bool)
        → first_of to (given writes (Some (output_stack o.swapped))) ≡ Some s → s ≢ input_stack o.swapped
    by_next (Some next) e writes q same =
        let is : next ≡ s = cc in
        waits_apart axes way cell k (not o.swapped) dim is_cell below s (e ∙ q) (same ∙ sym (turned o.swapped))
    by_next None e true q same = let is : output_stack o.swapped ≡ s = cc in other o.swapped (is ∙ same)
    by_next None e false q same = absurd cc

    by : (b : Bool) → goal_if b o axes way (corner axes cell k) cell ≡ Some s → s ≢ input_stack o.swapped
    by false q same = absurd cc
    by true q same = by_next (stack_out axes way (corner axes cell k) cell) refl (o.writes (corner axes cell k)) q same
