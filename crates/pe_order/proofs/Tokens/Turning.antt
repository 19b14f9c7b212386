-- Turning round: what is stored in one way, backwards, is what is loaded in the other.
use Rattle.std.proofs.Common.{◌≡◌, ℕ, zero, suc, ◌≤◌, Bool, true, false, ◌&&◌, [], ◌∷◌, ◌++◌, map, filter, reverse, refl, sym, ap, ◌∙◌}
use Rattle.std.specs.Prelude.{is_none}
use Rattle.std.specs.List.{flat_map}
use Rattle.std.proofs.lemmas.List.{reverse-append}
use Rattle.pe_base.specs.declared.place.Place.{Place}
use Rattle.pe_base.specs.declared.way.Way.{Way}
use Rattle.pe_base.specs.Tree.Ways.{opposite}
use Rattle.pe_base.specs.Tree.Curve.{children}
use Rattle.pe_base.specs.Steps.Faces.{corner_touches}
use Rattle.pe_base.specs.Walk.Streams.{if_walks, walked_children, walked_loads, walked_stores, walked_cells}
use Rattle.pe_base.proofs.Lists.{Each-all, flat_map_same, filter_same, reverse-flat_map}
use Rattle.pe_base.proofs.Tree.Children.{reverse-children}
use Rattle.pe_base.proofs.Steps.Turned.{around-opposite, stack-opposite}
use Rattle.pe_order.specs.TokenLaws.{TurningRound, TurningAround}
use Rattle.pe_order.specs.Tokens.{Outlook, turned}
use Rattle.pe_order.specs.Takings.{left_cells, loads_of, is_read, is_written, reads_of, writes_of, cell_reads_of, cell_writes_of}

pub children-turned : (axes : ℕ) (way : Way) (walks : Place → Bool) (cell : Place) → reverse (walked_children axes way walks cell) ≡ walked_children axes (opposite way) walks cell
children-turned axes way walks cell = go (walks cell)
  where
    go : (b : Bool) → reverse (if_walks axes way walks b (children axes way cell)) ≡ if_walks axes (opposite way) walks b (children axes (opposite way) cell)
    go true = reverse-children axes way cell
    go false = refl

pub stores-turned : (axes : ℕ) (way : Way) (walks : Place → Bool) (levels : ℕ) (cell : Place) → reverse (walked_stores axes way walks levels cell) ≡ walked_loads axes (opposite way) walks levels cell
stores-turned axes way walks zero cell = refl
stores-turned axes way walks (suc levels) cell =
    let kids = walked_children axes way walks cell in
    reverse-append (flat_map (walked_stores axes way walks levels) kids) (corner_touches axes cell)
    ∙ ap (λ r. reverse (corner_touches axes cell) ++ r)
    (reverse-flat_map (walked_stores axes way walks levels) kids
    ∙ flat_map_same _ (walked_loads axes (opposite way) walks levels) (reverse kids) (Each-all _ (λ c. stores-turned axes way walks levels c) (reverse kids))
    ∙ ap (flat_map (walked_loads axes (opposite way) walks levels)) (children-turned axes way walks cell))

pub cells-turned : (o : Outlook) (levels : ℕ) (cell : Place) → reverse (left_cells o levels cell) ≡ walked_cells o.axes (opposite o.way) o.walks levels cell
cells-turned o zero cell = refl
cells-turned o (suc levels) cell =
    let kids = walked_children o.axes o.way o.walks cell in
    reverse-append (flat_map (left_cells o levels) kids) (cell ∷ [])
    ∙ ap (λ r. cell ∷ r)
    (reverse-flat_map (left_cells o levels) kids
    ∙ flat_map_same _ (walked_cells o.axes (opposite o.way) o.walks levels) (reverse kids) (Each-all _ (λ c. cells-turned o levels c) (reverse kids))
    ∙ ap (flat_map (walked_cells o.axes (opposite o.way) o.walks levels)) (children-turned o.axes o.way o.walks cell))

-- what is written, the last one first, is what is read the other way round
pub writes-turned : (o : Outlook) (levels : ℕ) (cell : Place) → o.axes ≤ 4 → writes_of o levels cell ≡ reads_of (turned o) levels cell
writes-turned o levels cell four =
    ap (λ ts. map (λ t. t.vertex) (filter (is_written o) ts)) (stores-turned o.axes o.way o.walks levels cell)
    ∙ ap (map (λ t. t.vertex)) (filter_same (is_written o) (is_read (turned o)) (loads_of (turned o) levels cell)
    (Each-all _ (λ t. ap (λ s. o.counts t.vertex && (o.writes t.vertex && is_none s)) (sym (stack-opposite o.axes o.way t.vertex t.cell four))) (loads_of (turned o) levels cell)))

pub cell_writes-turned : (o : Outlook) (levels : ℕ) (cell : Place) → cell_writes_of o levels cell ≡ cell_reads_of (turned o) levels cell
cell_writes-turned o levels cell = ap (filter o.writes_cell) (cells-turned o levels cell)

pub turning_round : TurningRound
turning_round o levels cell dim = record {
  stores = stores-turned o.axes o.way o.walks levels cell;
  cells = cells-turned o levels cell;
  writes = writes-turned o levels cell dim.1;
  cell_writes = cell_writes-turned o levels cell;
}

pub turning_around : TurningAround
turning_around axes way vertex cell dim = record { cells = around-opposite axes way vertex; stack = stack-opposite axes way vertex cell dim.1 }
