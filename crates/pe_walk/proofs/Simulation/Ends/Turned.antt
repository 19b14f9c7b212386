-- As a traversal of a grid ends, the machine gives up the root's corners, and has the grid that comes next on its outputs.
use Rattle.std.proofs.Common.{◌≡◌, ℕ, ◌^◌, ◌≤◌, Bool, true, false, not, ◌==◌, List, [], ◌∷◌, map, length, Option, Some, None, refl, sym, ap, ◌∙◌, arith, is_some, true≢false, if◌then◌else◌}
use Rattle.std.specs.Option.{option_map, unwrap_or}
use Rattle.std.proofs.lemmas.Bool.{lt-ltb}
use Rattle.std.proofs.lemmas.List.FromFn.{length-range_with_len, length-map-range_with_len}
use Rattle.pe_base.specs.declared.place.Place.{Place}
use Rattle.pe_base.specs.declared.state.State.TheVariants.{Unrefined}
use Rattle.pe_base.specs.Tree.Places.{root, is_same}
use Rattle.pe_base.specs.Acts.Effects.{VertexRecord}
use Rattle.pe_base.specs.Walk.Maps.{at, removed}
use Rattle.pe_base.specs.Walk.Course.{Push, at_once, and_then, allowed}
use Rattle.pe_base.specs.Walk.Core.{Setting}
use Rattle.pe_base.specs.Walk.Grids.{Grid}
use Rattle.pe_base.specs.Walk.Streams.{goes_below, next_way, walked_cells, stream_vertices, stream_cells, vertex_stream, cell_stream}
use Rattle.pe_base.specs.Walk.Working.{Working, no_vertex, vertex_at, cell_at, records_of, record_at, ended}
use Rattle.pe_base.proofs.Lists.{Each-all, Each-filter, Each-weaker, map-map, map_same}
use Rattle.pe_base.proofs.Walk.MapLaws.{at-removed, found-turned_by}
use Rattle.pe_stacks.specs.Holdings.{Holdings, given_up}
use Rattle.pe_stacks.specs.Grid.{output_stack, cell_output_stack}
use Rattle.pe_hang.specs.InHand.{map_holdings}
use Rattle.pe_hang.proofs.OnStacks.{stack_count-map, stack_at-map}
use Rattle.pe_adapt.specs.CountedTouches.{Machine, StreamStacks}
use Rattle.pe_walk.specs.Machine.{with_parents}
use Rattle.pe_walk.specs.Machine as machine
use Rattle.pe_order.specs.Tokens.{Outlook, Tokens, given_up_for, numbers}
use Rattle.pe_order.specs.Tokens as tokens
use Rattle.pe_order.specs.Takings.{writes_of, cell_writes_of, HasTraversed}
use Rattle.pe_order.specs.Outlooks.{outlook}
use Rattle.pe_walk.specs.Standing.{ForeseenStart, Holds}
use Rattle.pe_stacks.specs.StreamsHeld.{stored_of}
use Rattle.pe_walk.specs.Gridded.{HoldsGrid, MachineMayTraverse, MachineHasTraversed, stream_stacks_of}
use Rattle.pe_order.proofs.Tokens.DepotCounts.{given_up_counts}
use Rattle.pe_walk.proofs.Simulation.Leaves.{record_of, image_of, at_root}
use Rattle.pe_walk.proofs.Simulation.Starts.{tokens_of, foreseen_start_of}
use Rattle.pe_walk.proofs.Simulation.Ends.Next.{formed_of, streams_of}

-- so many records are given up, one by one
all_given : {Plan : Type 0} (set : Setting Plan) (streams : StreamStacks) (f : Place → VertexRecord) (its : List VertexRecord) (ks : List ℕ) (held : Holdings Place) (m : Machine) → length its ≡ length ks → length its ≤ held.out
    → machine.give_up_all set streams its (record m { vertices = map_holdings f held }) ≡ at_once (record m { vertices = map_holdings f (given_up_for ks held) })
all_given set streams f [] [] held m same enough = refl
all_given set streams f [] (k ∷ ks) held m same enough = absurd (omega (arith, same))
all_given set streams f (it ∷ its) [] held m same enough = absurd (omega (arith, same))
all_given set streams f (it ∷ its) (k ∷ ks) held m same enough =
    ap (λ b. and_then (allowed b (at_once (given_up (map_holdings f held)))) (λ vertices. machine.give_up_all set streams its (record m { vertices = vertices }))) (lt-ltb 0 held.out (omega (arith, enough)))
    ∙ all_given set streams f its ks (given_up held) m (omega (arith, same)) (omega (arith, enough))

-- the machine as a traversal has ended
abbrev pub last_of : {Plan : Type 0} → Setting Plan → ForeseenStart → Working → Tokens → Machine
last_of set e w t = record {
  vertices = map_holdings (record_of set e w t) (tokens.ended e.outlook t).vertices;
  cells = map_holdings (cell_at w) t.cells;
  family = record { parents = []; parent = cell_at w root; list = w.list };
  tally = w.tally;
}

module _ {Plan : Type 0} (set : Setting Plan) (grid : Grid) (swapped : Bool) (m : Machine) (may : MachineMayTraverse set grid swapped m) (room : Push → Type 0) (w : Working) (t : Tokens)
    (holds : Holds set (foreseen_start_of set grid swapped m) (at_root set (foreseen_start_of set grid swapped m) room []) w t)
    (all : HasTraversed (outlook set.start_level grid swapped) grid.greatest (tokens_of grid swapped m) (tokens.ended (outlook set.start_level grid swapped) t)) where
  abbrev o : Outlook
  o = outlook set.start_level grid swapped

  abbrev e : ForeseenStart
  e = foreseen_start_of set grid swapped m

  abbrev last : Machine
  last = last_of set (foreseen_start_of set grid swapped m) w t

  turned : (writes_of (outlook set.start_level grid swapped) grid.greatest root ≡ stream_vertices (ended w grid)) × (cell_writes_of (outlook set.start_level grid swapped) grid.greatest root ≡ stream_cells (ended w grid))
  turned = streams_of set grid swapped m may room w t holds all

  many : length (numbers (outlook set.start_level grid swapped)) ≡ 2 ^ set.axes
  many = length-range_with_len 0 (2 ^ grid.axes) ∙ ap (λ n. 2 ^ n) (sym may.fits.axes)

  -- what is stored of the records on the output
  vertices_turned : map stored_of (map (record_of set (foreseen_start_of set grid swapped m) w t) (writes_of (outlook set.start_level grid swapped) grid.greatest root)) ≡ vertex_stream (ended w grid)
  vertices_turned =
      map-map stored_of (record_of set e w t) (writes_of o grid.greatest root)
      ∙ ap (map (λ q. stored_of (record_of set e w t q))) turned.0
      ∙ map_same (λ q. stored_of (record_of set e w t q)) (λ q. unwrap_or (at (ended w grid).vertices q) (record { state = Unrefined; numbers = [] })) (stream_vertices (ended w grid))
      (Each-all _ (λ q. met q (t.met q == 0) ∙ seen (at w.vertices q) ∙ ap (λ found. unwrap_or found (record { state = Unrefined; numbers = [] })) (sym (found-turned_by stored_of w.vertices q.level q.pos))) (stream_vertices (ended w grid)))
    where
      met : (q : Place) (b : Bool) → stored_of (if b then (record (vertex_at w q) { kind = e.stale q }) else vertex_at w q) ≡ stored_of (vertex_at w q)
      met q true = refl
      met q false = refl

      seen : (found : Option VertexRecord) → stored_of (unwrap_or found no_vertex) ≡ unwrap_or (option_map stored_of found) (record { state = Unrefined; numbers = [] })
      seen None = refl
      seen (Some it) = refl

  -- the numbers on the output of cells: the root's are not among them
  cells_turned : map (cell_at w) (cell_writes_of (outlook set.start_level grid swapped) grid.greatest root) ≡ cell_stream (ended w grid)
  cells_turned =
      let next = ended w grid in
      let walked = walked_cells next.axes (next_way next) (goes_below next) next.greatest root in
      ap (map (cell_at w)) turned.1
      ∙ map_same (cell_at w) (λ c. unwrap_or (at (removed w.cells root) c) []) (stream_cells next)
      (Each-weaker (λ c. Unit {0} × (is_some (at (removed w.cells root) c) ≡ true)) (λ c. cell_at w c ≡ unwrap_or (at (removed w.cells root) c) []) (λ c some. kept c some.1) (stream_cells next)
      (Each-filter (λ c. Unit {0}) (λ c. is_some (at (removed w.cells root) c)) walked (Each-all (λ c. Unit {0}) (λ c. tt) walked)))
    where
      kept : (c : Place) → is_some (at (removed w.cells root) c) ≡ true → cell_at w c ≡ unwrap_or (at (removed w.cells root) c) []
      kept c some = by (is_same root c) refl
        where
          by : (b : Bool) → is_same root c ≡ b → cell_at w c ≡ unwrap_or (at (removed w.cells root) c) []
          by true same = absurd (true≢false (sym some ∙ ap is_some (at-removed w.cells root c) ∙ ap (λ b. is_some (if b then None else at w.cells c)) same))
          by false other = ap (λ found. unwrap_or found []) (sym (at-removed w.cells root c ∙ ap (λ b. if b then None else at w.cells c) other))

  out_last : (tokens.ended (outlook set.start_level grid swapped) t).vertices.out ≡ 0
  out_last = omega (arith, (given_up_counts (numbers o) t.vertices).out, many, holds.stands.out)

  holds_next : HoldsGrid (ended w grid) (not swapped) last
  holds_next = record {
    stacks = stack_count-map (record_of set e w t) (tokens.ended o t).vertices ∙ all.stacks;
    cell_stacks = stack_count-map (cell_at w) t.cells ∙ all.cell_stacks;
    vertices = λ s.
        ap (λ stack. map stored_of stack.items) (stack_at-map (record_of set e w t) (tokens.ended o t).vertices s)
        ∙ ap (λ qs. map stored_of (map (record_of set e w t) qs)) (all.writes_vertices s)
        ∙ on_output (s == output_stack swapped);
    cells = λ s. ap (λ stack. stack.items) (stack_at-map (cell_at w) t.cells s) ∙ ap (map (cell_at w)) (all.writes_cells s) ∙ on_cell_output (s == cell_output_stack swapped);
    none_out = out_last;
    no_cell_out = omega (arith, holds.stands.cells_out);
    root = refl;
    list = refl;
  }
    where
      on_output : (b : Bool) → map stored_of (map (record_of set e w t) (if b then writes_of o grid.greatest root else [])) ≡ (if b then vertex_stream (ended w grid) else [])
      on_output true = vertices_turned
      on_output false = refl

      on_cell_output : (b : Bool) → map (cell_at w) (if b then cell_writes_of o grid.greatest root else []) ≡ (if b then cell_stream (ended w grid) else [])
      on_cell_output true = cells_turned
      on_cell_output false = refl

  pub turned_of : (after : Machine)
      × (machine.give_up_all set (stream_stacks_of swapped) (records_of set.axes w root) (with_parents [] (image_of set (foreseen_start_of set grid swapped m) root w t)) ≡ at_once after)
      × MachineHasTraversed swapped (ended w grid, w.tally) after
  turned_of =
      let count : length (records_of set.axes w root) ≡ 2 ^ set.axes = length-map-range_with_len (record_at set.axes w root) 0 (2 ^ set.axes) in (
        last,
        all_given set (stream_stacks_of swapped) (record_of set e w t) (records_of set.axes w root) (numbers o) t.vertices (with_parents [] (image_of set e root w t)) (count ∙ sym many) (omega (arith, count, holds.stands.out)),
        record { formed = formed_of set grid swapped m may room w t holds all; holds = holds_next; tally = refl },
      )
