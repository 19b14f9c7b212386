-- A grid has no more cells than its vertices allow, and a traversal of it enters no more. What a traversal of it moves.
use Rattle.std.proofs.Common.{◌≡◌, inl, inr, ℕ, suc, ◌-◌, ◌≤◌, Bool, true, cond, ◌||◌, ◌∷◌, filter, length, sym, ap, ◌∙◌, arith, subst, ◌+◌, false, refl}
use Rattle.std.specs.Prelude.{is_some}
use Rattle.std.specs.List.{flat_map, list_any}
use Rattle.std.proofs.lemmas.List.Sums.{length-filter, count_by-le-length}
use Rattle.std.proofs.lemmas.Bool.{ne_eqb}
use Rattle.pe_base.specs.declared.place.Place.{Place}
use Rattle.pe_base.specs.Tree.Places.{root, corners}
use Rattle.pe_base.specs.Tree.Curve.{children}
use Rattle.pe_base.specs.Tree.Dim.{IsDim}
use Rattle.pe_base.specs.Life.States.{is_stored}
use Rattle.pe_base.specs.Life.Kinds.{kind_from}
use Rattle.pe_base.specs.Walk.Foreseen.{next_traversal, was, will, kind_foreseen}
use Rattle.pe_base.specs.Walk.Maps.{at}
use Rattle.pe_base.specs.Walk.Grids.{Grid, IsWellFormed}
use Rattle.pe_base.specs.Walk.Streams.{if_walks, walked_cells, stream_vertices, stream_cells}
use Rattle.pe_base.proofs.Lists.{Each-all}
use Rattle.pe_order.specs.Tokens.{Outlook}
use Rattle.pe_order.specs.Outlooks.{was_stored, outlook, stored_outlook, stored_walked}
use Rattle.pe_order.specs.Takings.{Grown}
use Rattle.pe_order.specs.Traffic.{entered_cells}
use Rattle.pe_order.specs.Tallies.{KindsForeseen, foreseen_tally, TrafficOfGrids}
use Rattle.pe_order.specs.FewCells.{FewCellsOfTraversals, FewCellsOfGrids, most_cells}
use Rattle.pe_order.proofs.Outlooks.{Carried}
use Rattle.pe_order.proofs.Forecasts.{formed, fresh, any_weaker, forecast_carried, forecast_fits, stored_carried, stored_fits}
use Rattle.pe_order.proofs.Tokens.LoadOrder.{root_walks}
use Rattle.pe_order.proofs.Tokens.FewCells.{few_cells}
use Rattle.pe_order.proofs.Tokens.ExactTraffic.{traffic_by_tally}

-- whether it was stored, and will be, by its kind
pub was-from : (a b : Bool) → a ≡ was_stored (kind_from a b)
was-from true true = refl
was-from true false = refl
was-from false true = refl
was-from false false = refl

pub will-from : (a b : Bool) → b ≡ is_stored (kind_from a b)
will-from true true = refl
will-from true false = refl
will-from false true = refl
will-from false false = refl

-- what is active counts
walks_counting : (axes greatest : ℕ) (counts active walks walked : Place → Bool) → Carried axes greatest counts active walks walked → (cell : Place) → 1 ≤ cell.level → walks cell ≡ true → list_any counts (corners axes cell) ≡ true
walks_counting axes greatest counts active walks walked carried cell deep e =
    any_weaker active counts (λ v. Unit {0}) (λ v u t. carried.active_counts v t) (corners axes cell) (Each-all _ (λ v. tt) (corners axes cell))
    (ap (λ b. b || list_any active (corners axes cell)) (sym (ne_eqb cell.level 0 (λ h. omega (arith, h, deep)))) ∙ sym (carried.walks_by cell) ∙ e)

pub few_cells_of_traversals : FewCellsOfTraversals
few_cells_of_traversals start_level grid swapped low is = elim is [
  | inl new ↦
      let sound = fresh grid new in
      few_cells (outlook start_level grid swapped) _ grid.greatest new.axes (forecast_fits start_level grid swapped low (inl new)) (walks_counting grid.axes grid.greatest _ _ _ _ (forecast_carried start_level grid low sound))
  | inr formed_so ↦
      let sound = formed grid formed_so in
      few_cells (outlook start_level grid swapped) _ grid.greatest formed_so.axes (forecast_fits start_level grid swapped low (inr formed_so)) (walks_counting grid.axes grid.greatest _ _ _ _ (forecast_carried start_level grid low sound))
]

module _ (grid : Grid) (is : IsWellFormed grid) where
  abbrev o : Outlook
  o = stored_outlook grid true

  abbrev here : Place → Bool
  here cell = is_some (at grid.cells cell)

  fits : Grown o (stored_walked grid) grid.greatest
  fits = stored_fits grid true is

  -- the root is no cell of the grid
  all_are : stream_cells grid ≡ filter here (entered_cells o grid.greatest)
  all_are =
      ap (λ n. filter here (walked_cells o.axes o.way o.walks n root)) (let e : grid.greatest ≡ suc (grid.greatest - 1) = omega (arith, is.some_level) in e)
      ∙ ap (λ b. filter here (root ∷ flat_map (walked_cells o.axes o.way o.walks (grid.greatest - 1)) (if_walks o.axes o.way o.walks b (children o.axes o.way root)))) (root_walks o (stored_walked grid) grid.greatest is.axes fits)
      ∙ ap (λ b. cond b (root ∷ filter here (entered_cells o grid.greatest)) (filter here (entered_cells o grid.greatest))) fits.root_unread

  stored_few : length (stream_cells grid) ≤ most_cells grid.axes (length (stream_vertices grid))
  stored_few = omega (
    arith,
    few_cells o (stored_walked grid) grid.greatest is.axes fits (walks_counting grid.axes grid.greatest _ _ _ _ (stored_carried grid is)),
    ap length all_are,
    length-filter here (entered_cells o grid.greatest),
    count_by-le-length here (entered_cells o grid.greatest),
  )

pub few_cells_of_grids : FewCellsOfGrids
few_cells_of_grids grid is = stored_few grid is

-- the kinds that are foreseen
pub kinds_foreseen : KindsForeseen
kinds_foreseen start_level grid swapped = record {
  counts = λ v. refl;
  reads = λ v. was-from (was start_level grid v) (will start_level grid v);
  writes = λ v. will-from (was start_level grid v) (will start_level grid v);
}

pub traffic_of_grids : TrafficOfGrids
traffic_of_grids start_level grid swapped t after low is has e =
    let dim : IsDim grid.axes = elim is [ inl new ↦ new.axes | inr formed_so ↦ formed_so.axes ] in
    let exact = traffic_by_tally (outlook start_level grid swapped) (kind_foreseen start_level grid) _ grid.greatest (next_traversal grid) t after dim (forecast_fits start_level grid swapped low is) (kinds_foreseen start_level grid swapped) has e in
    record {
      exact = exact;
      few = subst (λ n. n ≤ most_cells grid.axes ((foreseen_tally start_level grid swapped).read + (foreseen_tally start_level grid swapped).created)) (sym exact.cell_count)
          (subst (λ n. length (entered_cells (outlook start_level grid swapped) grid.greatest) ≤ most_cells grid.axes n) exact.counting (few_cells_of_traversals start_level grid swapped low is));
    }
