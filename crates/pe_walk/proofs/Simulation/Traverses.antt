-- A traversal of the machine is the walk by address.
use Rattle.std.proofs.Common.{◌≡◌, ℕ, suc, ◌+◌, ◌-◌, ◌^◌, ◌≤◌, Bool, true, List, [], ◌∷◌, ◌++◌, map, length, Some, refl, sym, ap, subst, ◌∙◌, arith, if◌then◌else◌}
use Rattle.std.specs.Option.{unwrap_or}
use Rattle.std.specs.List.{range_with_len, AllByRecursion as Each}
use Rattle.std.proofs.Math.Nat.{mul-le-mul_left}
use Rattle.std.proofs.lemmas.Bool.{ne_eqb}
use Rattle.std.proofs.lemmas.List.{append-nil}
use Rattle.std.proofs.lemmas.List.FromFn.{length-range_with_len}
use Rattle.pe_base.specs.declared.place.Place.{Place}
use Rattle.pe_base.specs.declared.event.Event.TheVariants.{BeginIteration, EndIteration}
use Rattle.pe_base.specs.Tree.Places.{root}
use Rattle.pe_base.specs.Tree.Curve.{children}
use Rattle.pe_base.specs.declared.tally.Tally.{Tally}
use Rattle.pe_base.specs.Walk.Maps.{at}
use Rattle.pe_base.specs.Walk.Course.{Ending, done, halts, stuck, Push, Course, at_once, from, and_then, course_map, each}
use Rattle.pe_base.specs.Walk.Core.{Setting, way}
use Rattle.pe_base.specs.Walk.Grids.{Grid}
use Rattle.pe_base.specs.Walk.Foreseen.{walked}
use Rattle.pe_base.specs.Walk.Working.{Working, cell_at, records_of, record_at, begun as begun_of, ended as ended_of}
use Rattle.pe_base.specs.Walk.Walk as model
use Rattle.pe_base.proofs.Steps.VertexTouches.{is_same_itself}
use Rattle.pe_base.proofs.Walk.MapLaws.{at-put}
use Rattle.pe_base.proofs.Tree.PlaceLaws.{few_corners}
use Rattle.pe_stacks.specs.Holdings.{Holdings, len_at, lent}
use Rattle.pe_stacks.specs.Grid.{input_stack, cell_input_stack}
use Rattle.pe_base.specs.Walk.Streams.{stream_vertices, stream_cells}
use Rattle.pe_hang.specs.InHand.{map_holdings}
use Rattle.pe_base.specs.Calls.Follows.{is_fit, Fits}
use Rattle.pe_adapt.specs.CountedTouches.{Machine}
use Rattle.pe_walk.specs.Machine.{with_parents}
use Rattle.pe_walk.specs.Machine as machine
use Rattle.pe_order.specs.Tokens.{Tokens, ended, numbers, each_some, lent_for}
use Rattle.pe_order.specs.Tokens as tokens
use Rattle.pe_order.specs.Takings.{HasTraversed}
use Rattle.pe_order.specs.Outlooks.{outlook}
use Rattle.pe_walk.specs.Standing.{ForeseenStart, Holds, HasRoom}
use Rattle.pe_order.specs.CellsAhead.{times}
use Rattle.pe_walk.specs.Gridded.{MachineMayTraverse, MachineHasTraversed, EndAlike, IsShort, IsWalked, stream_stacks_of}
use Rattle.pe_walk.specs.FaceLaw.{begins}
use Rattle.pe_order.proofs.Tests.{some_power, times_one}
use Rattle.pe_order.proofs.Tokens.Short.{stacks_are_short}
use Rattle.pe_order.proofs.Tokens.Apart.{map_some}
use Rattle.pe_order.proofs.Tokens.Traversals.{whole_traversal}
use Rattle.pe_walk.proofs.Simulation.Matching.{Matches, ending_map, then-grouped}
use Rattle.pe_walk.proofs.Simulation.Leaves.{image_of, record_of, at_root}
use Rattle.pe_walk.proofs.Simulation.RootCorners.{HasCorners, has_corners, lent_times, corners_made}
use Rattle.pe_walk.proofs.Simulation.Starts.{tokens_of, foreseen_start_of, sound_of, dim_of, grown_of, vertices_at, cells_at, may_traverse, image_vertices, image_cells, cornered, start, is_foreseen_start, starts}
use Rattle.pe_walk.proofs.Simulation.Cells.Corners.{reverse-range}
use Rattle.pe_walk.proofs.Simulation.Cells.Simulated.{traversal_simulated}
use Rattle.pe_walk.proofs.Simulation.Unstuck.{middle-fits}

-- an image of what is lent is lent
lent-image : {X Y : Type 0} (f : X → Y) (ks : List ℕ) (held : Holdings X) (lent_all : List ℕ → Holdings X → Holdings X) → ((held : Holdings X) → lent_all [] held ≡ held) → ((k : ℕ) (ks : List ℕ) (held : Holdings X) → lent_all (k ∷ ks) held ≡ lent_all ks (lent held))
    → map_holdings f (lent_all ks held) ≡ lent_times (length ks) (map_holdings f held)
lent-image f [] held lent_all none some = ap (map_holdings f) (none held)
lent-image f (k ∷ ks) held lent_all none some = ap (map_holdings f) (some k ks held) ∙ lent-image f ks (lent held) lent_all none some

-- what a course ends in, where it ends in what is put back in two ways
pub end-alike : {W : Type 0} (swapped : Bool) (room : Push → Type 0) (image : W → Machine) (course : Course W) (machine : Course Machine) (after : W → Grid × Tally) (close : Machine → Course Machine)
    → Fits course → Matches room image course machine → ((w : W) → course.ending ≡ done w → (m : Machine) × (close (image w) ≡ at_once m) × MachineHasTraversed swapped (after w) m)
    → ((and_then machine close).text ≡ (course_map after course).text) × EndAlike swapped (course_map after course).ending (and_then machine close).ending × Each room (and_then machine close).log
end-alike {W = W} swapped room image course machine after close fits same closes = go course.ending refl fits machine.ending same.ending
  where
    go : (e : Ending W) → course.ending ≡ e → is_fit e ≡ true → (em : Ending Machine) → em ≡ ending_map image e
        → (machine.text ++ (from em close).text ≡ course.text ++ (from e (λ w. at_once (after w))).text) × EndAlike swapped (from e (λ w. at_once (after w))).ending (from em close).ending × Each room (machine.log ++ (from em close).log)
    go (done w) p fit em q =
        let closed = closes w p in
        let is : from em close ≡ at_once closed.0 = ap (λ x. from x close) q ∙ closed.1 in
        subst (λ (c : Course Machine). (machine.text ++ c.text ≡ course.text ++ []) × EndAlike swapped (done (after w)) c.ending × Each room (machine.log ++ c.log)) (sym is)
        (ap (λ x. x ++ []) same.text, closed.2, subst (λ x. Each room x) (sym (append-nil machine.log)) same.log)
    go (halts cause) p fit em q =
        subst (λ (c : Course Machine). (machine.text ++ c.text ≡ course.text ++ []) × EndAlike swapped (halts cause) c.ending × Each room (machine.log ++ c.log)) (sym (ap (λ x. from x close) q))
        (ap (λ x. x ++ []) same.text, refl, subst (λ x. Each room x) (sym (append-nil machine.log)) same.log)
    go stuck p fit em q = absurd cc

module _ {Plan : Type 0} (set : Setting Plan) (grid : Grid) (swapped : Bool) (m : Machine) (may : MachineMayTraverse set grid swapped m) where
  abbrev e : ForeseenStart
  e = foreseen_start_of set grid swapped m

  abbrev levels : ℕ
  levels = grid.greatest - 1

  deep : suc (grid.greatest - 1) ≡ grid.greatest
  deep = let some = (sound_of set grid swapped m may).some in omega (arith, some)

  has : HasCorners set (2 ^ set.axes) (begun_of set.traversal grid) (cornered set grid swapped m may)
  has = has_corners set (2 ^ set.axes) (begun_of set.traversal grid)

  many : length (numbers (outlook set.start_level grid swapped)) ≡ 2 ^ set.axes
  many = length-range_with_len 0 (2 ^ grid.axes) ∙ ap (λ n. 2 ^ n) (sym may.fits.axes)

  -- the machine with the root's corners in hand is the image
  corners_image : with_parents (map (record_at set.axes (cornered set grid swapped m may) root) (range_with_len 0 (2 ^ set.axes + 0)))
      (record m { vertices = lent_times (2 ^ set.axes) m.vertices; family = record m.family { list = (cornered set grid swapped m may).list } })
      ≡ image_of set (foreseen_start_of set grid swapped m) root (cornered set grid swapped m may) (start set grid swapped m may)
  corners_image = λ i. record {
    vertices = vertices i;
    cells = cells i;
    family = record { parents = (ap (λ n. map (record_at set.axes (cornered set grid swapped m may) root) (range_with_len 0 n)) (let whole : 2 ^ set.axes + 0 ≡ 2 ^ set.axes = omega arith in whole)) i; parent = numbers_of_root i; list = (cornered set grid swapped m may).list };
    tally = (may.tally ∙ sym has.tally) i;
  }
    where
      vertices : lent_times (2 ^ set.axes) m.vertices ≡ map_holdings (record_of set (foreseen_start_of set grid swapped m) (cornered set grid swapped m may) (start set grid swapped m may)) (start set grid swapped m may).vertices
      vertices =
          ap (lent_times (2 ^ set.axes)) (sym (image_vertices set grid swapped m may))
          ∙ ap (λ n. lent_times n (map_holdings (record_of set (foreseen_start_of set grid swapped m) (begun_of set.traversal grid) (tokens_of grid swapped m)) (tokens_of grid swapped m).vertices)) (sym many)
          ∙ sym (lent-image (record_of set (foreseen_start_of set grid swapped m) (begun_of set.traversal grid) (tokens_of grid swapped m)) (numbers (outlook set.start_level grid swapped)) (tokens_of grid swapped m).vertices lent_for (λ held. refl) (λ k ks held. refl))
          ∙ ap (λ vertices. map_holdings (record_of set (foreseen_start_of set grid swapped m) (record (begun_of set.traversal grid) { vertices = vertices }) (tokens_of grid swapped m)) (lent_for (numbers (outlook set.start_level grid swapped)) (tokens_of grid swapped m).vertices)) (sym has.vertices)

      cells : m.cells ≡ map_holdings (cell_at (cornered set grid swapped m may)) (tokens_of grid swapped m).cells
      cells = sym (image_cells set grid swapped m may)
          ∙ ap (λ cells. map_holdings (cell_at (record (begun_of set.traversal grid) { cells = cells })) (tokens_of grid swapped m).cells) (sym has.cells)

      numbers_of_root : m.family.parent ≡ cell_at (cornered set grid swapped m may) root
      numbers_of_root =
          may.holds.root
          ∙ ap (λ found. unwrap_or found []) (ap (λ b. if b then Some grid.root else at grid.cells root) (sym (is_same_itself root)) ∙ sym (at-put grid.cells root root grid.root))
          ∙ ap (λ cells. unwrap_or (at cells root) []) (sym has.cells)

  -- the machine's steps between making the root's corners and giving them up
  abbrev middle : Machine → Course Machine
  middle x = and_then (machine.plain set (stream_stacks_of swapped) BeginIteration x) (λ x. and_then (each (machine.walk_cell set (stream_stacks_of swapped) (suc (grid.greatest - 1))) (children set.axes (way set) root) x) (machine.plain set (stream_stacks_of swapped) EndIteration))

  abbrev close : Machine → Course Machine
  close x = machine.give_up_all set (stream_stacks_of swapped) x.family.parents (with_parents [] x)

  -- what comes after the first event
  abbrev after_first : Machine → Course Machine
  after_first x = and_then (each (machine.walk_cell set (stream_stacks_of swapped) (suc (grid.greatest - 1))) (children set.axes (way set) root) x) (λ x. and_then (machine.plain set (stream_stacks_of swapped) EndIteration x) close)

  -- the first event is fired at the image
  pub begins_is : begins set (stream_stacks_of swapped) m ≡ machine.plain set (stream_stacks_of swapped) BeginIteration (image_of set (foreseen_start_of set grid swapped m) root (cornered set grid swapped m may) (start set grid swapped m may))
  begins_is =
      ap (λ made. and_then made (λ it. machine.plain set (stream_stacks_of swapped) BeginIteration (with_parents it.0 it.1)))
      (corners_made set (stream_stacks_of swapped) (2 ^ set.axes) 0 [] (begun_of set.traversal grid) m may.holds.list (let corners = few_corners set.axes few in omega (arith, may.counts.fresh, corners)) refl)
      ∙ ap (machine.plain set (stream_stacks_of swapped) BeginIteration) corners_image
    where
      few : set.axes ≤ 4
      few = subst (λ n. n ≤ 4) (sym may.fits.axes) (sound_of set grid swapped m may).dim.1

  -- a traversal of the machine, with its steps grouped
  pub machine_is : machine.traverse set (stream_stacks_of swapped) grid.greatest m
      ≡ and_then (and_then (machine.plain set (stream_stacks_of swapped) BeginIteration (image_of set (foreseen_start_of set grid swapped m) root (cornered set grid swapped m may) (start set grid swapped m may)))
      (λ x. and_then (each (machine.walk_cell set (stream_stacks_of swapped) (suc (grid.greatest - 1))) (children set.axes (way set) root) x) (machine.plain set (stream_stacks_of swapped) EndIteration)))
      (λ x. machine.give_up_all set (stream_stacks_of swapped) x.family.parents (with_parents [] x))
  machine_is =
      ap (λ n. machine.traverse set (stream_stacks_of swapped) n m) (sym deep)
      ∙ sym (then-grouped (machine.root_corners set (stream_stacks_of swapped) (2 ^ set.axes) [] m) (λ it. machine.plain set (stream_stacks_of swapped) BeginIteration (with_parents it.0 it.1)) after_first)
      ∙ ap (λ begun. and_then begun after_first) begins_is
      ∙ sym (
      then-grouped (machine.plain set (stream_stacks_of swapped) BeginIteration first) (λ x. and_then (each (machine.walk_cell set (stream_stacks_of swapped) (suc (grid.greatest - 1))) (children set.axes (way set) root) x) (machine.plain set (stream_stacks_of swapped) EndIteration))
      (λ x. machine.give_up_all set (stream_stacks_of swapped) x.family.parents (with_parents [] x))
      ∙ ap (λ (next : Machine → Course Machine). and_then (machine.plain set (stream_stacks_of swapped) BeginIteration first) next)
      (λ i x. (then-grouped (each (machine.walk_cell set (stream_stacks_of swapped) (suc (grid.greatest - 1))) (children set.axes (way set) root) x) (machine.plain set (stream_stacks_of swapped) EndIteration) (λ x. machine.give_up_all set (stream_stacks_of swapped) x.family.parents (with_parents [] x))) i)
      )
    where
      first : Machine
      first = image_of set (foreseen_start_of set grid swapped m) root (cornered set grid swapped m may) (start set grid swapped m may)

  -- and the walk by address
  pub model_is : model.traverse set grid
      ≡ course_map (λ w. (ended_of w grid, w.tally)) (and_then (model.plain set BeginIteration (cornered set grid swapped m may))
      (λ w. and_then (each (model.walk_cell set (grid.greatest - 1) root) (children set.axes (way set) root) w) (model.plain set EndIteration)))
  model_is =
      ap (λ t. course_map (λ w. (ended_of w grid, w.tally)) (model.walk_root (record set { traversal = t }) grid.greatest (begun_of t grid))) (sym may.fits.traversal)
      ∙ ap (λ ks. course_map (λ w. (ended_of w grid, w.tally)) (and_then (model.plain set BeginIteration (model.root_corners set ks (begun_of set.traversal grid)))
      (λ w. and_then (each (model.walk_cell set (grid.greatest - 1) root) (children set.axes (way set) root) w) (model.plain set EndIteration)))) (reverse-range (2 ^ set.axes))

  -- how a traversal ends, once the last event has fired
  abbrev pub Closes : (Push → Type 0) → Type 0
  Closes room = (w : Working) (t : Tokens) → Holds set (foreseen_start_of set grid swapped m) (at_root set (foreseen_start_of set grid swapped m) room []) w t
      → HasTraversed (outlook set.start_level grid swapped) grid.greatest (tokens_of grid swapped m) (ended (outlook set.start_level grid swapped) t)
      → (after : Machine) × (machine.give_up_all set (stream_stacks_of swapped) (records_of set.axes w root) (with_parents [] (image_of set (foreseen_start_of set grid swapped m) root w t)) ≡ at_once after)
      × MachineHasTraversed swapped (ended_of w grid, w.tally) after

  -- each push leaves its stack short
  room_of : HasRoom set (foreseen_start_of set grid swapped m) (IsShort set grid swapped)
  room_of = record {
    vertices = λ st w t h s there other. record {
      there = there;
      apart = other;
      within = stacks_are_short (outlook set.start_level grid swapped) (walked set.start_level grid) grid.greatest t (dim_of set grid swapped m may) (grown_of set grid swapped m may) h.stands.apart h.stands.counting s;
      few = let begun_empty : len_at (tokens_of grid swapped m).vertices s ≡ 0 = ap length (vertices_at set grid swapped m may s ∙ ap (λ b. if b then stream_vertices grid else []) (ne_eqb s (input_stack swapped) other)) in
          omega (arith, h.owes.lens s, begun_empty, mul-le-mul_left (2 ^ set.axes) h.owes.cells);
    };
    cells = λ st w t h s there other.
        let begun_empty : len_at (tokens_of grid swapped m).cells s ≡ 0 = ap length (cells_at set grid swapped m may s ∙ ap (λ b. if b then stream_cells grid else []) (ne_eqb s (cell_input_stack swapped) other)) in
        let entered = entered_some st.entered st.parent h.stands.parent_entered in record {
          there = there;
          apart = other;
          within = omega (arith, h.owes.cell_lens s, h.owes.total, begun_empty, entered);
          few = let one = some_power set.axes in omega (arith, h.owes.cell_lens s, h.owes.cells, begun_empty, entered, mul-le-mul_left (2 ^ set.axes) h.owes.cells, times_one (2 ^ set.axes) w.tally.cells one);
        };
  }
    where
      entered_some : (xs : List Place) (x : Place) → 1 ≤ times xs x → 1 ≤ length xs
      entered_some [] x some = absurd (omega (arith, some))
      entered_some (y ∷ xs) x some = omega arith

  -- a traversal of the machine is the walk by address
  pub turns : Closes (IsShort set grid swapped) → IsWalked set grid swapped (machine.traverse set (stream_stacks_of swapped) grid.greatest m)
  turns closes =
      let whole = whole_traversal (outlook set.start_level grid swapped) (walked set.start_level grid) grid.greatest (tokens_of grid swapped m) (dim_of set grid swapped m may) (grown_of set grid swapped m may) (may_traverse set grid swapped m may) in
      let runs = map_some (ended (outlook set.start_level grid swapped)) (each_some (tokens.walk (outlook set.start_level grid swapped) (grid.greatest - 1)) (children grid.axes (outlook set.start_level grid swapped).way root) (start set grid swapped m may)) whole.0 whole.1 in
      let steps = traversal_simulated set (foreseen_start_of set grid swapped m) (walked set.start_level grid) (IsShort set grid swapped) (is_foreseen_start set grid swapped m may) room_of (grid.greatest - 1)
      (cornered set grid swapped m may) (start set grid swapped m may) runs.0 (starts set grid swapped m may) runs.1 in
      let alike = end-alike swapped (IsShort set grid swapped) (λ w. image_of set (foreseen_start_of set grid swapped m) root w runs.0)
      (and_then (model.plain set BeginIteration (cornered set grid swapped m may)) (λ w. and_then (each (model.walk_cell set (grid.greatest - 1) root) (children set.axes (way set) root) w) (model.plain set EndIteration)))
      (and_then (machine.plain set (stream_stacks_of swapped) BeginIteration (image_of set (foreseen_start_of set grid swapped m) root (cornered set grid swapped m may) (start set grid swapped m may)))
      (λ x. and_then (each (machine.walk_cell set (stream_stacks_of swapped) (suc (grid.greatest - 1))) (children set.axes (way set) root) x) (machine.plain set (stream_stacks_of swapped) EndIteration)))
      (λ w. (ended_of w grid, w.tally)) (λ x. machine.give_up_all set (stream_stacks_of swapped) x.family.parents (with_parents [] x))
      (middle-fits set (grid.greatest - 1) (cornered set grid swapped m may)) steps.same
      (λ w ends. closes w runs.0 (steps.holds w ends) (subst (λ t. HasTraversed (outlook set.start_level grid swapped) grid.greatest (tokens_of grid swapped m) t) (sym runs.2) whole.2)) in
      record {
        text = ap (λ c. c.text) machine_is ∙ alike.0 ∙ sym (ap (λ c. c.text) model_is);
        ending = subst (λ (a : Ending (Grid × Tally)). EndAlike swapped a (machine.traverse set (stream_stacks_of swapped) grid.greatest m).ending) (sym (ap (λ c. c.ending) model_is))
            (subst (λ (b : Ending Machine). EndAlike swapped (course_map (λ w. (ended_of w grid, w.tally)) (and_then (model.plain set BeginIteration (cornered set grid swapped m may))
            (λ w. and_then (each (model.walk_cell set (grid.greatest - 1) root) (children set.axes (way set) root) w) (model.plain set EndIteration)))).ending b) (sym (ap (λ c. c.ending) machine_is)) alike.1);
        log = subst (λ (c : Course Machine). Each (IsShort set grid swapped) c.log) (sym machine_is) alike.2;
      }
