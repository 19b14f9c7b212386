-- The children of the root may be walked one after another, by a call each: the first once the first event of the traversal
-- was fired, and each other one once the one before it was walked.
use Rattle.std.proofs.Common.{◌≡◌, ℕ, ◌+◌, ◌-◌, Bool, List, [], ◌∷◌, ◌++◌, map, refl, sym, ap, subst, ◌∙◌, append_assoc, append-nil, arith}
use Rattle.std.specs.List.{flat_map, AllByRecursion as Each}
use Rattle.pe_base.specs.declared.place.Place.{Place}
use Rattle.pe_base.specs.declared.event.Event.TheVariants.{BeginIteration}
use Rattle.pe_base.specs.Tree.Dim.{IsDim}
use Rattle.pe_base.specs.Tree.Places.{root}
use Rattle.pe_base.specs.Tree.Curve.{children}
use Rattle.pe_base.specs.Steps.Faces.{Stretch, Stretches}
use Rattle.pe_base.specs.Walk.Course.{Ending, done, halts, stuck, Push, Course}
use Rattle.pe_base.specs.Walk.Core.{Setting, way}
use Rattle.pe_base.specs.Walk.Foreseen.{walked}
use Rattle.pe_base.specs.Walk.Grids.{Grid}
use Rattle.pe_base.specs.Walk.Streams.{walked_cells}
use Rattle.pe_base.specs.Walk.Working.{Working}
use Rattle.pe_base.specs.Walk.Walk as model
use Rattle.pe_base.proofs.Lists.{Each-weaker}
use Rattle.pe_stacks.specs.Holdings.{items_at}
use Rattle.pe_stacks.specs.Grid.{input_stack, cell_input_stack}
use Rattle.pe_adapt.specs.CountedTouches.{Machine}
use Rattle.pe_walk.specs.Machine as machine
use Rattle.pe_order.specs.Tokens.{Outlook, Tokens}
use Rattle.pe_order.specs.Takings.{loads_of, takes, gives, cell_takes, cell_gives, Due, Grown}
use Rattle.pe_order.specs.Outlooks.{outlook}
use Rattle.pe_walk.specs.Standing.{ForeseenStart, Stage, IsStage, IsForeseenStart, Holds}
use Rattle.pe_walk.specs.Images.{image_of}
use Rattle.pe_walk.specs.Gridded.{MachineMayTraverse, stream_stacks_of}
use Rattle.pe_walk.specs.FaceLaw.{Moment, MayCall, begins, InTurn, ComeAfter, FirstCellMayBeWalked, NextCellMayBeWalked}
use Rattle.pe_order.proofs.Trees.{root_is_cell}
use Rattle.pe_order.proofs.Tokens.Loads.{due-split}
use Rattle.pe_order.proofs.Tokens.OneStack.{token_stretch}
use Rattle.pe_order.proofs.Tokens.Walks.{cell_stretch}
use Rattle.pe_order.proofs.Tokens.Traversals.{RootBegins, root_passage, root_cell_passage, root_begins}
use Rattle.pe_walk.proofs.Simulation.Matching.{Alike, ending_map, done_same}
use Rattle.pe_walk.proofs.Simulation.CellsCounted.{plain_leaf}
use Rattle.pe_walk.proofs.Simulation.Cells.Corners.{stage_of}
use Rattle.pe_walk.proofs.Simulation.Cells.Inside.{at_child, next-holds}
use Rattle.pe_walk.proofs.Simulation.Cells.Children.{kids_stages}
use Rattle.pe_walk.proofs.Simulation.Cells.Roots.{root_goes}
use Rattle.pe_walk.proofs.Simulation.Starts.{tokens_of, foreseen_start_of, sound_of, dim_of, grown_of, may_traverse, cornered, start, is_foreseen_start, first_stage, starts}
use Rattle.pe_walk.proofs.Simulation.Traverses.{begins_is}

-- what one stretch after another finds is found in turn
pub in-turn : (stretch : Place → Stretch) (cells items left : List Place) → Stretches (map stretch cells) items left → InTurn (λ cell. (stretch cell).takes) (λ cell. (stretch cell).gives) cells items
in-turn stretch [] items left h = tt
in-turn stretch (cell ∷ cells) items left h = (h.0, h.1, in-turn stretch cells ((stretch cell).gives ++ h.0) left h.2)

-- where an image is done, so is what it is the image of
pub imaged-done : {W M : Type 0} (image : W → M) (e : Ending W) (after : M) → ending_map image e ≡ done after → (w : W) × (e ≡ done w) × (image w ≡ after)
imaged-done image (done w) after k = (w, refl, done_same (image w) after k)
imaged-done image (halts cause) after k = absurd cc
imaged-done image stuck after k = absurd cc

-- the cell of a stage is one level below its parent
pub one_deeper : (axes : ℕ) (o : Outlook) (st : Stage) → IsStage axes o st → st.cell.level ≡ st.parent.level + 1
one_deeper axes o st is = let up : st.cell.level - 1 ≡ st.parent.level = ap (λ (p : Place). p.level) is.above in omega (arith, up, is.deep)

-- any push has room
abbrev pub any_room : Push → Type 0
any_room push = Unit {0}

-- # The first child of the root
module _ {Plan : Type 0} (set : Setting Plan) (grid : Grid) (swapped : Bool) (m : Machine) (may : MachineMayTraverse set grid swapped m) (first : Place) (others : List Place) (kids : children set.axes (way set) root ≡ first ∷ others) where
  abbrev o : Outlook
  o = outlook set.start_level grid swapped

  abbrev e : ForeseenStart
  e = foreseen_start_of set grid swapped m

  abbrev goes : Place → Bool
  goes = walked set.start_level grid

  abbrev levels : ℕ
  levels = grid.greatest - 1

  -- the stage, the working state and the places as the traversal begins
  abbrev st : Stage
  st = first_stage set grid swapped m may

  abbrev made : Working
  made = cornered set grid swapped m may

  abbrev t : Tokens
  t = start set grid swapped m may

  is : IsForeseenStart set e goes
  is = is_foreseen_start set grid swapped m may

  dim : IsDim o.axes
  dim = dim_of set grid swapped m may

  grown : Grown o goes grid.greatest
  grown = grown_of set grid swapped m may

  -- the children of the root, in the words of the foreseen_start
  kids_of : children set.axes o.way root ≡ first ∷ others
  kids_of = ap (λ way. children set.axes way root) is.foresees.ways ∙ kids

  token_kids : children o.axes o.way root ≡ first ∷ others
  token_kids = ap (λ axes. children axes o.way root) is.foresees.axes ∙ kids_of

  -- each of them has a stage
  stages : Each (λ child. IsStage set.axes o (at_child set.axes st child)) (first ∷ others)
  stages =
      subst (λ cells. Each (λ child. IsStage set.axes o (at_child set.axes st child)) cells) kids_of
      (kids_stages set e goes any_room is st (root_is_cell set.axes o.way) (root_goes set e goes any_room is))

  -- what they find on the stacks
  begun : RootBegins o levels (λ s. (root_passage o goes grid.greatest dim grown s).outer) (λ s. (root_cell_passage o goes grid.greatest dim grown s).outer) t
  begun = root_begins o goes grid.greatest dim grown (tokens_of grid swapped m) (may_traverse set grid swapped m may)

  vertices_in_turn : (s : ℕ) → InTurn (takes o levels s) (gives o levels s) (first ∷ others) (items_at t.vertices s)
  vertices_in_turn s =
      subst (λ cells. InTurn (takes o levels s) (gives o levels s) cells (items_at t.vertices s)) token_kids
      (in-turn (token_stretch o levels s) (children o.axes o.way root) (items_at t.vertices s) _ (begun.stretches s))

  cells_in_turn : (s : ℕ) → InTurn (cell_takes o levels s) (cell_gives o levels s) (first ∷ others) (items_at t.cells s)
  cells_in_turn s =
      subst (λ cells. InTurn (cell_takes o levels s) (cell_gives o levels s) cells (items_at t.cells s)) token_kids
      (in-turn (cell_stretch o levels s) (children o.axes o.way root) (items_at t.cells s) _ (begun.cell_stretches s))

  -- their loads are due
  due : Due o (flat_map (loads_of o levels) (first ∷ others)) t.met
  due = subst (λ cells. Due o (flat_map (loads_of o levels) cells) t.met) token_kids begun.due

  -- after the first event the model's state is one of which the machine is the image
  fired : (after : Machine) → (begins set (stream_stacks_of swapped) m).ending ≡ done after
      → (w : Working) × Holds set e st w t × (image_of set e root w t ≡ after)
  fired after ends =
      let plain : Alike any_room (image_of set e root) (Holds set e st) (model.plain set BeginIteration made) (machine.plain set (stream_stacks_of swapped) BeginIteration (image_of set e root made t)) t =
      plain_leaf set e goes is any_room st BeginIteration made t t (starts set grid swapped m may) refl in
      let at = imaged-done (λ w. image_of set e root w t) (model.plain set BeginIteration made).ending after
      (sym plain.same.ending ∙ ap (λ (course : Course Machine). course.ending) (sym (begins_is set grid swapped m may)) ∙ ends) in
      (at.0, plain.holds at.0 at.1, at.2)

  -- so the first of them may be walked, and the others come after it
  begins_there : (after : Machine) → (begins set (stream_stacks_of swapped) m).ending ≡ done after
      → (moment : Moment) × MayCall set grid.greatest first (input_stack swapped) (cell_input_stack swapped) after moment × ComeAfter set others [] moment
  begins_there after ends =
      let now = fired after ends in
      let level = one_deeper set.axes o (at_child set.axes st first) stages.0 in
      let some = (sound_of set grid swapped m may).some in
      let loads = due-split o (loads_of o levels first) (flat_map (loads_of o levels) others) t.met due in
      let at : Moment = record {
        foreseen_start = e;
        walked = goes;
        stage = record st { cell = first };
        levels = levels;
        rest = flat_map (walked_cells o.axes o.way o.walks levels) others;
        beneath = λ s. (vertices_in_turn s).0;
        cells_beneath = λ s. (cells_in_turn s).0;
        working = now.0;
        places = t;
      } in (
        at,
        record {
          here = record { cell = refl; levels = omega (arith, level, some); input = refl; cell_input = refl };
          may = record {
            foreseen_start = is;
            stage = stage_of set e any_room (at_child set.axes st first) (record st { cell = first }) refl refl stages.0;
            unloaded = refl;
            deep = omega (arith, may.fits.greatest, level);
            ahead = ap (flat_map (walked_cells o.axes o.way o.walks levels)) token_kids;
            holds = next-holds set e st first now.0 t refl now.1;
            takes = record {
              stacks = begun.stacks;
              cell_stacks = begun.cell_stacks;
              takes_vertices = λ s. (vertices_in_turn s).1;
              takes_cells = λ s. (cells_in_turn s).1;
              due = loads.0;
            };
            image = now.2;
          };
        },
        record {
          stages = Each-weaker _ _ (λ other its. stage_of set e any_room (at_child set.axes st other) (record st { cell = other }) refl refl its) others stages.1;
          ahead = sym (append-nil (flat_map (walked_cells o.axes o.way o.walks levels) others));
          vertices = λ s. (vertices_in_turn s).2;
          cells = λ s. (cells_in_turn s).2;
          due = loads.1;
        },
      )

pub first_cell : {Plan : Type 0} → FirstCellMayBeWalked Plan
first_cell set grid swapped m after first others may ends kids = begins_there set grid swapped m may first others kids after ends

-- # And each after the one before it
pub next_cell : {Plan : Type 0} → NextCellMayBeWalked Plan
next_cell set greatest stream cell_stream cell next others beyond m after working at called comes walked =
    let may = called.may in
    let cells_below = walked_cells at.foreseen_start.outlook.axes at.foreseen_start.outlook.way at.foreseen_start.outlook.walks at.levels in
    let its_level = one_deeper set.axes at.foreseen_start.outlook at.stage may.stage in
    let level = one_deeper set.axes at.foreseen_start.outlook (record at.stage { cell = next }) comes.stages.0 in
    let loads = due-split at.foreseen_start.outlook (loads_of at.foreseen_start.outlook at.levels next) (flat_map (loads_of at.foreseen_start.outlook at.levels) others) walked.places.met (subst (λ met. Due at.foreseen_start.outlook (flat_map (loads_of at.foreseen_start.outlook at.levels) (next ∷ others)) met) (sym walked.gives.met) comes.due) in
    let moment : Moment = record at {
      stage = record at.stage { cell = next; ahead = at.rest };
      rest = flat_map (walked_cells at.foreseen_start.outlook.axes at.foreseen_start.outlook.way at.foreseen_start.outlook.walks at.levels) others ++ beyond;
      beneath = λ s. (comes.vertices s).0;
      cells_beneath = λ s. (comes.cells s).0;
      working = working;
      places = walked.places;
    } in (
      moment,
      record {
        here = record {
          cell = refl;
          levels = omega (arith, level, its_level, ap (λ (p : Place). p.level) called.here.cell, called.here.levels);
          input = called.here.input;
          cell_input = called.here.cell_input;
        };
        may = record {
          foreseen_start = may.foreseen_start;
          stage = stage_of set at.foreseen_start any_room (record at.stage { cell = next }) (record at.stage { cell = next; ahead = at.rest }) refl refl comes.stages.0;
          unloaded = may.unloaded;
          deep = omega (arith, may.deep, level, its_level);
          ahead = comes.ahead ∙ append_assoc (cells_below next) (flat_map cells_below others) beyond;
          holds = next-holds set at.foreseen_start (record at.stage { ahead = at.rest }) next working walked.places may.unloaded walked.holds;
          takes = record {
            stacks = walked.gives.stacks;
            cell_stacks = walked.gives.cell_stacks;
            takes_vertices = λ s. walked.gives.gives_vertices s ∙ (comes.vertices s).1;
            takes_cells = λ s. walked.gives.gives_cells s ∙ (comes.cells s).1;
            due = loads.0;
          };
          image = walked.image;
        };
      },
      record {
        stages = Each-weaker _ _ (λ other its. stage_of set at.foreseen_start any_room (record at.stage { cell = other }) (record at.stage { cell = other; ahead = at.rest }) refl refl its) others comes.stages.1;
        ahead = refl;
        vertices = λ s. (comes.vertices s).2;
        cells = λ s. (comes.cells s).2;
        due = loads.1;
      },
    )
