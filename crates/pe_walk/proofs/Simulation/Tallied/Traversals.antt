-- What a traversal counts and moves.
use Rattle.std.proofs.Common.{◌≡◌, ℕ, ℤ, zero, suc, ◌+◌, ◌-◌, ◌*◌, ◌^◌, ◌≤◌, Bool, true, false, List, [], ◌∷◌, length, Some, refl, sym, ap, ap₂, subst, ◌∙◌, append-nil, arith}
use Rattle.std.specs.Prelude.{nat_lt}
use Rattle.std.specs.List.{flat_map, range_with_len}
use Rattle.std.proofs.lemmas.List.{length-map}
use Rattle.pe_base.specs.declared.place.Place.{Place}
use Rattle.pe_base.specs.declared.event.Event.TheVariants.{BeginIteration, EndIteration}
use Rattle.pe_base.specs.declared.tally.Tally.{Tally}
use Rattle.pe_base.specs.Tree.Places.{root}
use Rattle.pe_base.specs.Tree.Curve.{children}
use Rattle.pe_base.specs.Acts.Effects.{VertexRecord}
use Rattle.pe_base.specs.Walk.Course.{Ending, done, halts, stuck, Course, at_once, and_then, each, allowed}
use Rattle.pe_base.specs.Walk.Core.{Setting, way}
use Rattle.pe_base.specs.Walk.Grids.{Grid}
use Rattle.pe_base.specs.Walk.Foreseen.{walked}
use Rattle.pe_base.specs.Walk.Working.{Working, cell_at, record_at, no_tally, begun as begun_of, ended as ended_of}
use Rattle.pe_base.specs.Walk.Walk as walks
use Rattle.pe_base.specs.Walk.Streams.{walked_cells}
use Rattle.pe_base.proofs.Walk.Courses.{mapped-done, then-done, done_same}
use Rattle.pe_stacks.specs.Holdings.{Holdings, given_up}
use Rattle.pe_hang.specs.InHand.{map_holdings}
use Rattle.pe_adapt.specs.CountedTouches.{Machine, StreamStacks}
use Rattle.pe_walk.specs.Machine.{with_parents}
use Rattle.pe_walk.specs.Machine as machine
use Rattle.pe_order.specs.Tokens.{Outlook, Tokens, ended, numbers, each_some, given_up_for}
use Rattle.pe_order.specs.Tokens as tokens
use Rattle.pe_order.specs.Outlooks.{outlook}
use Rattle.pe_walk.specs.Standing.{ForeseenStart, IsForeseenStart, Holds}
use Rattle.pe_order.specs.Tallies.{each_counted, counted_walk, foreseen_tally, ExactTraffic}
use Rattle.pe_walk.specs.Gridded.{MachineMayTraverse, stream_stacks_of}
use Rattle.pe_order.specs.FewCells.{most_cells}
use Rattle.pe_walk.specs.TraversalTraffic.{TallyIsForeseen, TraversalsAreExact}
use Rattle.pe_order.proofs.Trees.{root_is_cell}
use Rattle.pe_order.proofs.GridCells.{traffic_of_grids}
use Rattle.pe_stacks.proofs.Raising.{raises_at_most}
use Rattle.pe_order.specs.Traffic.{entered_cells}
use Rattle.pe_order.proofs.Tokens.Apart.{map_some}
use Rattle.pe_order.proofs.Tokens.Rises.{counts_of_a_traversal}
use Rattle.pe_order.proofs.Tokens.Traversals.{whole_traversal}
use Rattle.pe_walk.proofs.Simulation.Matching.{ending_map}
use Rattle.pe_walk.proofs.Simulation.Leaves.{image_of, record_of, at_root}
use Rattle.pe_walk.proofs.Simulation.CellsCounted.{plain_leaf}
use Rattle.pe_walk.proofs.Simulation.RootCorners.{has_corners}
use Rattle.pe_walk.proofs.Simulation.Starts.{tokens_of, foreseen_start_of, dim_of, grown_of, may_traverse, image_vertices, image_cells, cornered, start, is_foreseen_start, starts}
use Rattle.pe_walk.proofs.Simulation.Traverses.{machine_is, model_is}
use Rattle.pe_walk.proofs.Simulation.Cells.Children.{kids, kids_stages, between}
use Rattle.pe_walk.proofs.Simulation.Cells.Roots.{rooted, root_goes}
use Rattle.pe_walk.proofs.Simulation.Cells.Simulated.{cell_simulated, traversal_simulated}
use Rattle.pe_walk.proofs.Simulation.Tallied.Parts.{plain_counted}
use Rattle.pe_walk.proofs.Simulation.Tallied.Alike.{CountAlike, is_seen, exact-alike, raises-alike}
use Rattle.pe_walk.proofs.Simulation.Tallied.Walks.{any_room, roomy, walk_counted, children_counted}

-- what is given up one after another
abbrev given_times : {X : Type 0} → ℕ → Holdings X → Holdings X
given_times zero held = held
given_times (suc n) held = given_times n (given_up held)

given-image : {X Y : Type 0} (f : X → Y) (n : ℕ) (held : Holdings X) → map_holdings f (given_times n held) ≡ given_times n (map_holdings f held)
given-image f zero held = refl
given-image f (suc n) held = given-image f n (given_up held)

given-all : (ks : List ℕ) (held : Holdings Place) → given_up_for ks held ≡ given_times (length ks) held
given-all [] held = refl
given-all (k ∷ ks) held = given-all ks (given_up held)

-- the machine gives up records, and changes nothing else
record GaveUp (n : ℕ) (m after : Machine) : Type 0 where
  vertices : after.vertices ≡ given_times n m.vertices
  cells : after.cells ≡ m.cells
  tally : after.tally ≡ m.tally

gave_up : {Plan : Type 0} (set : Setting Plan) (streams : StreamStacks) (its : List VertexRecord) (m after : Machine) → (machine.give_up_all set streams its m).ending ≡ done after → GaveUp (length its) m after
gave_up set streams [] m after e = let same = done_same m after e in record { vertices = ap (λ (x : Machine). x.vertices) (sym same); cells = ap (λ (x : Machine). x.cells) (sym same); tally = ap (λ (x : Machine). x.tally) (sym same) }
gave_up set streams (it ∷ its) m after e =
    let first = then-done (allowed (nat_lt 0 m.vertices.out) (at_once (given_up m.vertices))) (λ vertices. machine.give_up_all set streams its (record m { vertices = vertices })) after e in
    let same : first.0 ≡ given_up m.vertices = let by = go (nat_lt 0 m.vertices.out) first.0 first.1 in by in
    let more = gave_up set streams its (record m { vertices = first.0 }) after first.2 in
    record { vertices = more.vertices ∙ ap (given_times (length its)) same; cells = more.cells; tally = more.tally }
  where
    go : (b : Bool) (held : Holdings VertexRecord) → (allowed b (at_once (given_up m.vertices))).ending ≡ done held → held ≡ given_up m.vertices
    go true held h = sym (done_same (given_up m.vertices) held h)
    go false held h = absurd cc

-- an image that is done is of something done
pub from_image : {W M : Type 0} (f : W → M) (e : Ending W) (x : M) → done x ≡ ending_map f e → (w : W) × (e ≡ done w) × (x ≡ f w)
from_image f (done w) x h = (w, refl, done_same x (f w) h)
from_image f (halts cause) x h = absurd cc
from_image f stuck x h = absurd cc

module _ {Plan : Type 0} (set : Setting Plan) (grid : Grid) (swapped : Bool) (m : Machine) (may : MachineMayTraverse set grid swapped m) where
  abbrev e : ForeseenStart
  e = foreseen_start_of set grid swapped m

  abbrev o : Outlook
  o = outlook set.start_level grid swapped

  is : IsForeseenStart set (foreseen_start_of set grid swapped m) (walked set.start_level grid)
  is = is_foreseen_start set grid swapped m may

  -- the steps of the walk by address between making the root's corners and dropping them
  abbrev middle : Working → Course Working
  middle w = and_then (walks.plain set BeginIteration w) (λ w. and_then (each (walks.walk_cell set (grid.greatest - 1) root) (children set.axes (way set) root) w) (walks.plain set EndIteration))

  -- the children of the root count so
  root_counted : (w : Working) (t t' : Tokens) → Holds set (foreseen_start_of set grid swapped m) (at_root set (foreseen_start_of set grid swapped m) (any_room set (foreseen_start_of set grid swapped m) (walked set.start_level grid) is)
      (flat_map (walked_cells grid.axes (outlook set.start_level grid swapped).way (outlook set.start_level grid swapped).walks (grid.greatest - 1)) (children grid.axes (outlook set.start_level grid swapped).way root))) w t
      → each_some (tokens.walk (outlook set.start_level grid swapped) (grid.greatest - 1)) (children grid.axes (outlook set.start_level grid swapped).way root) t ≡ Some t'
      → (v : Working) → (each (walks.walk_cell set (grid.greatest - 1) root) (children set.axes (way set) root) w).ending ≡ done v
      → v.tally ≡ each_counted (counted_walk (outlook set.start_level grid swapped) (foreseen_start_of set grid swapped m).foresight.kind (grid.greatest - 1)) (children grid.axes (outlook set.start_level grid swapped).way root) w.tally
  root_counted w t t' h k v q =
      let levels = grid.greatest - 1 in
      let room = any_room set e (walked set.start_level grid) is in
      let sim = cell_simulated set e (walked set.start_level grid) room is (roomy set e (walked set.start_level grid) is) levels in
      let here = kids set e (walked set.start_level grid) room is root in
      let stages = kids_stages set e (walked set.start_level grid) room is (rooted set e (walked set.start_level grid) room is) (root_is_cell set.axes o.way) (root_goes set e (walked set.start_level grid) room is) in
      let same : children grid.axes o.way root ≡ kids set e (walked set.start_level grid) room is root = ap (λ axes. children axes o.way root) is.foresees.axes in
      let stage : at_root set e room (flat_map (walked_cells grid.axes o.way o.walks levels) (children grid.axes o.way root)) ≡ between set e (walked set.start_level grid) room is levels sim (rooted set e (walked set.start_level grid) room is) [] here =
      ap₂ (λ out ahead. record (at_root set e room []) { out = out; ahead = ahead }) (let z : 2 ^ set.axes ≡ 0 + 2 ^ set.axes = omega arith in z)
      (ap (flat_map (walked_cells grid.axes o.way o.walks levels)) same ∙ sym (append-nil (flat_map (walked_cells grid.axes o.way o.walks levels) here))) in
      children_counted set e (walked set.start_level grid) is levels (walk_counted set e (walked set.start_level grid) is levels) (rooted set e (walked set.start_level grid) room is) [] here stages w t t'
      (subst (λ st. Holds set e st w t) stage h) (ap (λ cells. each_some (tokens.walk o levels) cells t) (sym same) ∙ k) v
      (ap (λ way. (each (walks.walk_cell set levels root) (children set.axes way root) w).ending) is.foresees.ways ∙ q)
      ∙ ap (λ cells. each_counted (counted_walk o e.foresight.kind levels) cells w.tally) (sym same)

  -- the tokens run
  whole : (after : Tokens) × (tokens.traverse (outlook set.start_level grid swapped) grid.greatest (tokens_of grid swapped m) ≡ Some after)
  whole = let runs = whole_traversal o (walked set.start_level grid) grid.greatest (tokens_of grid swapped m) (dim_of set grid swapped m may) (grown_of set grid swapped m may) (may_traverse set grid swapped m may) in (runs.0, runs.1)

  runs : (t : Tokens) × (each_some (tokens.walk (outlook set.start_level grid swapped) (grid.greatest - 1)) (children grid.axes (outlook set.start_level grid swapped).way root) (start set grid swapped m may) ≡ Some t)
      × (ended (outlook set.start_level grid swapped) t ≡ whole.0)
  runs = map_some (ended o) (each_some (tokens.walk o (grid.greatest - 1)) (children grid.axes o.way root) (start set grid swapped m may)) whole.0 whole.1

  -- so the middle counts what is foreseen
  middle_counted : (w : Working) → (middle (cornered set grid swapped m may)).ending ≡ done w → w.tally ≡ foreseen_tally set.start_level grid swapped
  middle_counted w q =
      let begun = cornered set grid swapped m may in
      let t = start set grid swapped m may in
      let room = any_room set e (walked set.start_level grid) is in
      let rest : Working → Course Working = λ w. and_then (each (walks.walk_cell set (grid.greatest - 1) root) (children set.axes (way set) root) w) (walks.plain set EndIteration) in
      let first = then-done (walks.plain set BeginIteration begun) rest w q in
      let second = then-done (each (walks.walk_cell set (grid.greatest - 1) root) (children set.axes (way set) root) first.0) (walks.plain set EndIteration) w first.2 in
      let stage = at_root set e room (flat_map (walked_cells grid.axes o.way o.walks (grid.greatest - 1)) (children grid.axes o.way root)) in
      let holds = (plain_leaf set e (walked set.start_level grid) is room stage BeginIteration begun t t (starts set grid swapped m may) refl).holds first.0 first.1 in
      plain_counted set (λ w t. Unit {0}) (λ t. Some t) EndIteration second.0 t t tt refl w second.2
      ∙ root_counted first.0 t runs.0 holds runs.1 second.0 second.1
      ∙ ap (each_counted (counted_walk o e.foresight.kind (grid.greatest - 1)) (children grid.axes o.way root))
      (plain_counted set (λ w t. Unit {0}) (λ t. Some t) BeginIteration begun t t tt refl first.0 first.1
      ∙ (has_corners set (2 ^ set.axes) (begun_of set.traversal grid)).tally ∙ ap no_tally may.fits.traversal)

pub tally_is_foreseen : {Plan : Type 0} → TallyIsForeseen Plan
tally_is_foreseen set grid swapped m after may q =
    let at = mapped-done (middle set grid swapped m may (cornered set grid swapped m may)) (λ w. (ended_of w grid, w.tally)) after (ap (λ (c : Course (Grid × Tally)). c.ending) (sym (model_is set grid swapped m may)) ∙ q) in
    ap (λ (x : Grid × Tally). x.1) at.2 ∙ middle_counted set grid swapped m may at.0 at.1

-- The depots that a machine has after a traversal are the images of the places' depots, and its tally is the one foreseen.
record EndsAs {Plan : Type 0} (set : Setting Plan) (grid : Grid) (swapped : Bool) (places : Tokens) (after : Machine) : Type 0 where
  record_of : Place → VertexRecord
  seen_cell : Place → List ℤ
  vertices : after.vertices ≡ map_holdings record_of places.vertices
  cells : after.cells ≡ map_holdings seen_cell places.cells
  tally : after.tally ≡ foreseen_tally set.start_level grid swapped

ends_as : {Plan : Type 0} (set : Setting Plan) (grid : Grid) (swapped : Bool) (m after : Machine) (may : MachineMayTraverse set grid swapped m) → (machine.traverse set (stream_stacks_of swapped) grid.greatest m).ending ≡ done after
    → EndsAs set grid swapped (whole set grid swapped m may).0 after
ends_as set grid swapped m after may q =
    let e = foreseen_start_of set grid swapped m in
    let o = outlook set.start_level grid swapped in
    let its = is set grid swapped m may in
    let room = any_room set e (walked set.start_level grid) its in
    let begun = cornered set grid swapped m may in
    let begin = start set grid swapped m may in
    let tokens_run = runs set grid swapped m may in
    let t = tokens_run.0 in
    let image : Working → Machine = λ w. image_of set e root w t in
    let steps = traversal_simulated set e (walked set.start_level grid) room its (roomy set e (walked set.start_level grid) its) (grid.greatest - 1) begun begin t (starts set grid swapped m may) tokens_run.1 in
    let middle_machine = and_then (machine.plain set (stream_stacks_of swapped) BeginIteration (image_of set e root begun begin))
    (λ x. and_then (each (machine.walk_cell set (stream_stacks_of swapped) (suc (grid.greatest - 1))) (children set.axes (way set) root) x) (machine.plain set (stream_stacks_of swapped) EndIteration)) in
    let closed = then-done middle_machine (λ x. machine.give_up_all set (stream_stacks_of swapped) x.family.parents (with_parents [] x)) after (ap (λ (c : Course Machine). c.ending) (sym (machine_is set grid swapped m may)) ∙ q) in
    let seen = from_image image (middle set grid swapped m may begun).ending closed.0 (sym closed.1 ∙ steps.same.ending) in
    let gave = gave_up set (stream_stacks_of swapped) closed.0.family.parents (with_parents [] closed.0) after closed.2 in
    let many : length closed.0.family.parents ≡ length (numbers o) =
    ap (λ (x : Machine). length x.family.parents) seen.2 ∙ length-map (range_with_len 0 (2 ^ set.axes)) (record_at set.axes seen.0 root) ∙ ap (λ axes. length (range_with_len 0 (2 ^ axes))) may.fits.axes in
    record {
      record_of = record_of set e seen.0 t;
      seen_cell = cell_at seen.0;
      vertices = gave.vertices ∙ ap₂ given_times many (ap (λ (x : Machine). x.vertices) seen.2)
          ∙ sym (given-image (record_of set e seen.0 t) (length (numbers o)) t.vertices)
          ∙ ap (map_holdings (record_of set e seen.0 t)) (sym (given-all (numbers o) t.vertices) ∙ ap (λ (x : Tokens). x.vertices) tokens_run.2);
      cells = gave.cells ∙ ap (λ (x : Machine). x.cells) seen.2 ∙ ap (λ (x : Tokens). map_holdings (cell_at seen.0) x.cells) tokens_run.2;
      tally = gave.tally ∙ ap (λ (x : Machine). x.tally) seen.2 ∙ middle_counted set grid swapped m may seen.0 seen.1;
    }

-- so does the machine
pub traversals_are_exact : {Plan : Type 0} → TraversalsAreExact Plan
traversals_are_exact set grid swapped m after may q =
    let o = outlook set.start_level grid swapped in
    let places = tokens_of grid swapped m in
    let places' = (whole set grid swapped m may).0 in
    let run = (whole set grid swapped m may).1 in
    let ends = ends_as set grid swapped m after may q in
    let may_go = may_traverse set grid swapped m may in
    let dim = dim_of set grid swapped m may in
    let exact = traffic_of_grids set.start_level grid swapped places places' may.fits.start_level may.formed (record { vertices = may_go.stacks; cells = may_go.cell_stacks }) run in
    let rises = counts_of_a_traversal o (walked set.start_level grid) grid.greatest places places' dim (grown_of set grid swapped m may) may_go.stacks may_go.cell_stacks run in
    let entered = length (entered_cells o grid.greatest) in
    let counted : after.tally.cells ≡ length (entered_cells o grid.greatest) = ap (λ (tally : Tally). tally.cells) ends.tally ∙ exact.exact.cell_count in
    let before : CountAlike places.vertices m.vertices = subst (CountAlike places.vertices) (image_vertices set grid swapped m may) (is_seen _ places.vertices) in
    let then_so : CountAlike places'.vertices after.vertices = subst (CountAlike places'.vertices) (sym ends.vertices) (is_seen _ places'.vertices) in
    let cells_before : CountAlike places.cells m.cells = subst (CountAlike places.cells) (image_cells set grid swapped m may) (is_seen _ places.cells) in
    let cells_then : CountAlike places'.cells after.cells = subst (CountAlike places'.cells) (sym ends.cells) (is_seen _ places'.cells) in
    record {
      tally = ends.tally;
      traffic = exact-alike o grid.greatest places.vertices places'.vertices places.cells places'.cells m.vertices after.vertices m.cells after.cells after.tally before then_so cells_before cells_then
          (subst (λ (tally : Tally). ExactTraffic o grid.greatest places.vertices places'.vertices places.cells places'.cells tally) (sym ends.tally) exact.exact);
      few = subst (λ (a : Tally). a.cells ≤ most_cells grid.axes (a.read + a.created)) (sym ends.tally) exact.few;
      rises = raises-alike places.vertices places'.vertices m.vertices after.vertices (64 * (after.tally.cells + 1)) before then_so
          (raises_at_most places.vertices places'.vertices (2 ^ grid.axes * (entered + 1)) (64 * (after.tally.cells + 1)) (few_each grid.axes entered after.tally.cells dim.1 counted) rises.vertices);
      cells_rise = raises-alike places.cells places'.cells m.cells after.cells (64 * (after.tally.cells + 1)) cells_before cells_then
          (raises_at_most places.cells places'.cells entered (64 * (after.tally.cells + 1)) (omega (arith, counted)) (rises.cells (omega (arith, may.holds.no_cell_out))));
    }
  where
    few_each : (n a b : ℕ) → n ≤ 4 → b ≡ a → 2 ^ n * (a + 1) ≤ 64 * (b + 1)
    few_each zero a b few e = omega (arith, e)
    few_each (suc zero) a b few e = omega (arith, e)
    few_each (suc (suc zero)) a b few e = omega (arith, e)
    few_each (suc (suc (suc zero))) a b few e = omega (arith, e)
    few_each (suc (suc (suc (suc zero)))) a b few e = omega (arith, e)
    few_each (suc (suc (suc (suc (suc n))))) a b few e = absurd (omega (arith, few))
