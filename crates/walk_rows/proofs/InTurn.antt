-- Cells that are walked by a call each: what the laws of the walk say of the first one, and of the next.
use Rattle.std.proofs.Common.{◌≡◌, ℕ, ℤ, Bool, zero, suc, ◌^◌, ◌<◌, List, [], ◌∷◌, None, Result, Ok, Err, refl, sym, ap, subst, ◌∙◌, arith}
use Rattle.std.specs.Prelude.{OnOk, slice_index}
use Rattle.std.proofs.lemmas.Bool.{lt-ltb}
use Rattle.pe_base.specs.declared.event.Event.{Event}
use Rattle.pe_base.specs.declared.event.Event.TheVariants.{BeginIteration}
use Rattle.pe_base.specs.declared.place.Place.{Place}
use Rattle.pe_base.specs.declared.place.Digits.{Digits}
use Rattle.pe_base.specs.declared.tally.Tally.{Tally}
use Rattle.pe_base.specs.Acts.Effects.{VertexRecord, plain_sight}
use Rattle.pe_base.specs.Acts.Moments.{IsTraversal}
use Rattle.pe_base.specs.Calls.Follows.{Failure, BeforeCall, Fits, is_fit, read_by}
use Rattle.pe_base.specs.Calls.Told.{Told}
use Rattle.pe_base.specs.Tree.Curve.{children}
use Rattle.pe_base.specs.Tree.Places.{IsCellPlace, IsDigits, root, child_at}
use Rattle.pe_base.specs.Tree.Ways.{way_of}
use Rattle.pe_base.specs.Walk.Core.{Setting, way, ended_by, plain_event}
use Rattle.pe_base.specs.Walk.Course.{done, at_once, from, allowed}
use Rattle.pe_base.specs.Walk.Grids.{Grid}
use Rattle.pe_base.specs.Walk.Working.{Working}
use Rattle.pe_base.proofs.Tree.PlaceLaws.{IsCellPlace-child_at}
use Rattle.pe_access.specs.declared.state.CellState.{CellState}
use Rattle.pe_access.specs.States.{StandsFor}
use Rattle.pe_stacks.specs.Grid.{input_stack, cell_input_stack}
use Rattle.pe_stacks.specs.Holdings.{Holdings, lent}
use Rattle.pe_hang.specs.InHand.{map_holdings}
use Rattle.pe_hang.specs.Moves.{lend}
use Rattle.pe_adapt.specs.CountedTouches.{Machine, StreamStacks}
use Rattle.pe_walk.specs.FaceLaw.{Moment, MayCall, IsCalledAt, HasWalked, ComeAfter, CellAnswers, by_address, begins, FirstCellMayBeWalked, NextCellMayBeWalked}
use Rattle.pe_walk.specs.Gridded.{MachineMayTraverse, stream_stacks_of}
use Rattle.pe_walk.specs.Machine.{with_parents, root_corners, plain}
use Rattle.pe_walk.specs.Traversing.{Stores}
use Rattle.pe_walk.proofs.Children.{parent-child_at}
use Rattle.pe_walk.proofs.RootWalks.{with_list}
use Rattle.walk_rows.specs.ByCells.{MayWalkInTurn}

-- what is said of a call that came through
pub came-through : {A E P : Type 0} (result : Result A E) (a : A) → result ≡ Ok a → OnOk result P → P
came-through {P = P} result a is said = subst (λ r. OnOk r P) is said

-- a record may be lent where few were
pub lend-fits : {X Y : Type 0} (f : X → Y) (held : Holdings X) → held.fresh < 2 ^ 63 → Fits (lend (map_holdings f held))
lend-fits f held few = ap (λ test. is_fit (allowed test (at_once (lent (map_holdings f held)))).ending) (lt-ltb held.fresh (2 ^ 63) few)

-- the root has a cell's place
zeros : (axis : ℕ) → slice_index (0 ∷ 0 ∷ 0 ∷ 0 ∷ []) axis ≡ 0
zeros zero = refl
zeros (suc zero) = refl
zeros (suc (suc zero)) = refl
zeros (suc (suc (suc zero))) = refl
zeros (suc (suc (suc (suc axis)))) = refl

pub root-place : (axes : ℕ) → IsCellPlace axes root
root-place axes = record {
  level = omega arith;
  pos = record { four = refl; inside = λ axis below. omega (arith, zeros axis); rest = λ axis past. zeros axis };
}

-- a child of the root may be called by
pub called : (axes traversal : ℕ) (digits : Digits) (cell : Place) (state : CellState) → IsTraversal traversal → IsDigits axes digits → cell ≡ child_at root digits
    → StandsFor axes (way_of traversal) (child_at root digits) state → IsCalledAt axes traversal cell digits state
called axes traversal digits cell state number fit is stands =
    subst (λ place. IsCalledAt axes traversal place digits state) (sym is)
    (record {
      number = number;
      place = IsCellPlace-child_at axes root digits (root-place axes) (omega arith) fit;
      deep = omega arith;
      its_digits = fit;
      child = ap (λ place. child_at place digits) (sym (parent-child_at axes root digits (root-place axes) fit));
      stands = stands;
    })

module _ {Plan : Type 0} (set : Setting Plan) where
  -- an event of the traversal as a whole, whose outcome has no fault
  pub fired : (event : Event) (list left : List ℤ) → (set.rules.effect set.plan event set.traversal list plain_sight).fault ≡ None
      → (set.rules.effect set.plan event set.traversal list plain_sight).list ≡ left → (plain_event set event list).ending ≡ done left
  fired event list left none is =
      let outcome = set.rules.effect set.plan event set.traversal list plain_sight in
      ap (λ fault. (from (ended_by set event plain_sight.place fault outcome) (λ outcome. at_once outcome.list)).ending) none ∙ ap done is

  -- a traversal is begun, once the root's corners are lent and the first event is fired
  pub begun : (streams : StreamStacks) (m corners : Machine) (its : List VertexRecord) (list : List ℤ)
      → (root_corners set streams (2 ^ set.axes) [] m).ending ≡ done (its, corners) → (plain_event set BeginIteration corners.family.list).ending ≡ done list
      → (begins set streams m).ending ≡ done (with_list (with_parents its corners) list)
  begun streams m corners its list made first =
      ap (λ ending. (from ending (λ it. plain set streams BeginIteration (with_parents it.0 it.1))).ending) made
      ∙ ap (λ ending. (from ending (λ list. at_once (with_list (with_parents its corners) list))).ending) first

  -- then the children of the root may be walked
  pub first-in-turn : FirstCellMayBeWalked Plan → (grid : Grid) (swapped : Bool) (m after : Machine) (cells : List Place)
      → MachineMayTraverse set grid swapped m → (begins set (stream_stacks_of swapped) m).ending ≡ done after → children set.axes (way set) root ≡ cells
      → MayWalkInTurn set grid.greatest (input_stack swapped) (cell_input_stack swapped) after cells
  first-in-turn law grid swapped m after [] may ends is = tt
  first-in-turn law grid swapped m after (first ∷ others) may ends is = law set grid swapped m after first others may ends is

  module _ (law : NextCellMayBeWalked Plan) (greatest stream cell_stream : ℕ) (cell : Place) (m after : Machine) where
    -- once a cell was walked, so may those that come after it
    next-in-turn : (others : List Place) (working : Working) (at : Moment) → MayCall set greatest cell stream cell_stream m at → ComeAfter set others [] at → HasWalked set at working after
        → MayWalkInTurn set greatest stream cell_stream after others
    next-in-turn [] working at may come walked = tt
    next-in-turn (next ∷ others) working at may come walked = law set greatest stream cell_stream cell next others [] m after working at may come walked

    -- as the call answers that it was
    pub goes-on : {E V C : Type 0} (means : E → Failure) (result : Result (Unit {0}) E) (old : BeforeCall) (before : Stores V C) (tally : Tally) (told : Told) (left : Stores V C)
        → ((at : Moment) → MayCall set greatest cell stream cell_stream m at → CellAnswers set at (by_address set at) (read_by means result) old before tally told left after)
        → OnOk result ((others : List Place) → MayWalkInTurn set greatest stream cell_stream m (cell ∷ others) → MayWalkInTurn set greatest stream cell_stream after others)
    goes-on means (Ok u) old before tally told left answers =
        λ others it. (let walks = answers it.0 it.1 in next-in-turn others walks.working it.0 it.1 it.2 walks.walked)
    goes-on means (Err e) old before tally told left answers = tt
