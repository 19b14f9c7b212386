-- The load of a corner, by model and by machine: one core, of the record that is found under the place, whose result is put
-- back in two ways.
use Rattle.std.proofs.Common.{◌≡◌, ℕ, suc, ◌-◌, ◌^◌, ◌<◌, Bool, true, false, not, ◌&&◌, ◌||◌, ◌==◌, List, ◌∷◌, Option, Some, refl, sym, ap, ap₂, subst, ◌∙◌}
use Rattle.std.specs.Prelude.{is_none, if◌then◌else◌}
use Rattle.std.proofs.lemmas.Bool.{ltb-true}
use Rattle.pe_base.specs.declared.place.Place.{Place}
use Rattle.pe_base.specs.declared.kind.Kind.{Kind}
use Rattle.pe_base.specs.declared.kind.Kind.TheVariants.{Kept, Born, Dying, Hanging}
use Rattle.pe_base.specs.Tree.Places.{corner}
use Rattle.pe_base.specs.Life.Kinds.{is_hanging, is_inside}
use Rattle.pe_base.specs.Steps.Around.{around}
use Rattle.pe_base.specs.Steps.Routes.{stack_in}
use Rattle.pe_base.specs.Acts.Effects.{VertexRecord}
use Rattle.pe_base.specs.Walk.Course.{Push, Course, at_once, course_map, allowed}
use Rattle.pe_base.specs.Walk.Core.{Setting, way, Family, read_vertex, load_touch}
use Rattle.pe_base.specs.Walk.Working.{Working, vertex_at, cell_at, loads_of, family_of}
use Rattle.pe_base.specs.Walk.Touches.{tally_load, after_load}
use Rattle.pe_base.specs.Walk.Touches as model
use Rattle.pe_stacks.specs.Holdings.{stack_at}
use Rattle.pe_stacks.specs.Grid.{input_stack}
use Rattle.pe_hang.specs.InHand.{map_holdings}
use Rattle.pe_adapt.specs.Touches.{Desk, load_as}
use Rattle.pe_order.specs.Laws.{IsCell}
use Rattle.pe_adapt.specs.CountedTouches.{Machine, tally_may_rise, is_placed}
use Rattle.pe_order.specs.Tokens.{Tokens, before, first_of, given, taken}
use Rattle.pe_walk.specs.Standing.{ForeseenStart, Stage, Holds, IsForeseenStart, IsStage}
use Rattle.pe_order.proofs.Tokens.Counting.{corners_by_counting}
use Rattle.pe_walk.proofs.Simulation.Matching.{turned-then}
use Rattle.pe_walk.proofs.Simulation.LoadedKinds.{kinds_are_found, hangs_if}
use Rattle.pe_walk.proofs.Simulation.CellsCounted.{small_rises, tally_rises}
use Rattle.pe_walk.proofs.Simulation.Leaves.{record_of, records_from, in_hand, load_before}
use Rattle.pe_walk.proofs.Simulation.Loads.OnStacks.{LoadsPlace}
use Rattle.pe_walk.proofs.Simulation.Loads.Comes.{MayTake, Comes, comes-hanging, comes-counting, load_as-is}

-- the corner that is loaded, and the stack from which it comes, if it was loaded before
abbrev pub vertex_of : {Plan : Type 0} → Setting Plan → Stage → ℕ → Place
vertex_of set st k = corner set.axes st.cell k

abbrev pub source_of : {Plan : Type 0} → Setting Plan → Stage → ℕ → Option ℕ
source_of set st k = stack_in set.axes (way set) (vertex_of set st k) st.cell

-- what the core does
abbrev pub core_of : {Plan : Type 0} → Setting Plan → ForeseenStart → Stage → ℕ → Working → Course (VertexRecord × Family)
core_of set e st k w =
    let vertex = vertex_of set st k in
    load_touch set (e.foresight.kind vertex) (is_none (source_of set st k)) (vertex_at w vertex) vertex (family_of set.axes w st.parent)

-- the working state afterwards, and what is in hand
abbrev pub working_after : {Plan : Type 0} → Setting Plan → ForeseenStart → Stage → ℕ → Working → VertexRecord × Family → Working
working_after set e st k w it = after_load set (e.foresight.kind (vertex_of set st k)) (is_none (source_of set st k)) st.parent st.cell k it w

abbrev pub hand_after : {Plan : Type 0} → Setting Plan → ForeseenStart → Stage → ℕ → Working → Tokens → Tokens → VertexRecord × Family → List VertexRecord × Machine
hand_after set e st k w t t' it = (
  it.0 ∷ records_from set e w st.cell (suc k) (2 ^ set.axes - suc k),
  record {
    vertices = map_holdings (record_of set e w t) t'.vertices;
    cells = map_holdings (cell_at w) t.cells;
    family = it.1;
    tally = tally_load (e.foresight.kind (vertex_of set st k)) (is_none (source_of set st k)) w.tally;
  },
)

-- whether a hanging vertex is loaded for the first time means nothing
same_first : {Plan : Type 0} (set : Setting Plan) (kind : Kind) (a b : Bool) (parent cell : Place) (k : ℕ) (w : Working) (found : VertexRecord) (vertex : Place) (family : Family) → (is_hanging kind ≡ false → a ≡ b)
    → course_map (λ it. after_load set kind a parent cell k it w) (load_touch set kind a found vertex family)
    ≡ course_map (λ it. after_load set kind b parent cell k it w) (load_touch set kind b found vertex family)
same_first set Kept a b parent cell k w found vertex family same = ap (λ first. course_map (λ it. after_load set Kept first parent cell k it w) (load_touch set Kept first found vertex family)) (same refl)
same_first set Born a b parent cell k w found vertex family same = ap (λ first. course_map (λ it. after_load set Born first parent cell k it w) (load_touch set Born first found vertex family)) (same refl)
same_first set Dying a b parent cell k w found vertex family same = ap (λ first. course_map (λ it. after_load set Dying first parent cell k it w) (load_touch set Dying first found vertex family)) (same refl)
same_first set Hanging a b parent cell k w found vertex family same = refl

module _ {Plan : Type 0} (set : Setting Plan) (e : ForeseenStart) (walked : Place → Bool) (is : IsForeseenStart set e walked) (st : Stage) (stage : IsStage set.axes e.outlook st) (k : ℕ) (small : k < 2 ^ set.axes)
    (w : Working) (t t' : Tokens) (holds : Holds set e st w t) (loads : LoadsPlace e.outlook st.cell (vertex_of set st k) t t') where
  -- what counts was met as often as the order of the cells around it says
  pub met_first : e.outlook.counts (vertex_of set st k) ≡ true → (t.met (vertex_of set st k) == 0) ≡ is_none (source_of set st k)
  met_first on =
      let see = is.foresees in
      let is_cell : IsCell set.axes (way set) st.cell = subst (λ u. IsCell set.axes u st.cell) see.ways stage.cell in
      ap (λ n. n == 0) (loads.due on ∙ ap₂ (λ n u. before (around n u (vertex_of set st k)) st.cell) see.axes see.ways)
      ∙ sym (corners_by_counting set.axes (way set) st.cell k see.dim is_cell small).first

  pub counts_if : is_hanging (e.foresight.kind (vertex_of set st k)) ≡ false → e.outlook.counts (vertex_of set st k) ≡ true
  counts_if stays = is.foresees.counts (vertex_of set st k) ∙ ap not stays

  pub stays_if : e.outlook.counts (vertex_of set st k) ≡ true → is_hanging (e.foresight.kind (vertex_of set st k)) ≡ false
  stays_if on = stays (is_hanging (e.foresight.kind (vertex_of set st k))) (sym (is.foresees.counts (vertex_of set st k)) ∙ on)
    where
      stays : (b : Bool) → not b ≡ true → b ≡ false
      stays true h = absurd cc
      stays false h = refl

  -- the model
  pub model_is : model.load_corner set st.parent st.cell k w ≡ course_map (working_after set e st k w) (core_of set e st k w)
  model_is =
      let vertex = vertex_of set st k in
      let family = family_of set.axes w st.parent in
      let first = loads_of w vertex == 0 in
      ap (λ kind. course_map (λ it. after_load set kind first st.parent st.cell k it w) (load_touch set kind first (vertex_at w vertex) vertex family)) (kinds_are_found set e walked st w t is stage holds k small).by_map
      ∙ same_first set (e.foresight.kind vertex) first (is_none (source_of set st k)) st.parent st.cell k w (vertex_at w vertex) vertex family
      (λ stays. ap (λ n. n == 0) (holds.fair.loads vertex) ∙ met_first (counts_if stays))

  -- the calls that a load may make
  may_take : MayTake t.vertices
  may_take =
      let owes = holds.owes in
      record {
        fresh = ltb-true t.vertices.fresh (2 ^ 63) (small_rises e.base st.owed w.tally.cells set.max_cells t.vertices.fresh is.bound owes.cells owes.fresh);
        pops = λ s. ltb-true (stack_at t.vertices s).pops (2 ^ 63) (small_rises e.base st.owed w.tally.cells set.max_cells (stack_at t.vertices s).pops is.bound owes.cells (owes.pops s));
      }

  -- what lies on a stack before it is met has any kind, which its first touch overwrites
  read_alike : (kind : Kind) → (t.met (vertex_of set st k) == 0) ≡ true → read_vertex set kind (record_of set e w t (vertex_of set st k)) ≡ read_vertex set kind (vertex_at w (vertex_of set st k))
  read_alike kind first =
      let vertex = vertex_of set st k in
      ap (λ b. let it : VertexRecord = if b then (record (vertex_at w vertex) { kind = e.stale vertex }) else vertex_at w vertex in read_vertex set kind it) first

  comes_by : (b : Bool) → e.outlook.counts (vertex_of set st k) ≡ b
      → Comes set (record_of set e w t) t.vertices t'.vertices (vertex_of set st k) (vertex_at w (vertex_of set st k)) (family_of set.axes w st.parent) may_take (input_stack e.outlook.swapped) (e.foresight.kind (vertex_of set st k)) (source_of set st k)
  comes_by true on =
      let vertex = vertex_of set st k in
      let see = is.foresees in
      comes-counting set (record_of set e w t) t.vertices t'.vertices vertex (vertex_at w vertex) (family_of set.axes w st.parent) may_take (input_stack e.outlook.swapped) (e.foresight.kind vertex) (source_of set st k) (e.outlook.reads vertex)
      (stays_if on) (sym (see.reads vertex))
      (ap₂ (λ n u. taken (first_of (stack_in n u vertex st.cell) (given (e.outlook.reads vertex) (Some (input_stack e.outlook.swapped)))) vertex t.vertices) (sym see.axes) (sym see.ways) ∙ loads.took on)
      (λ first. read_alike (e.foresight.kind vertex) (met_first on ∙ first))
      (λ later. ap (λ b. let it : VertexRecord = if b then (record (vertex_at w vertex) { kind = e.stale vertex }) else vertex_at w vertex in it) (met_first on ∙ later))
  comes_by false off =
      let vertex = vertex_of set st k in
      subst (λ kind. Comes set (record_of set e w t) t.vertices t'.vertices vertex (vertex_at w vertex) (family_of set.axes w st.parent) may_take (input_stack e.outlook.swapped) kind (source_of set st k))
      (sym (hangs_if set e.outlook e.foresight is.foresees vertex off))
      (comes-hanging set (record_of set e w t) t.vertices t'.vertices vertex (vertex_at w vertex) (family_of set.axes w st.parent) may_take (input_stack e.outlook.swapped) (source_of set st k) (loads.made off))

  -- a corner that counts lies inside the root cube
  placed : is_placed set.axes (e.foresight.kind (vertex_of set st k)) (vertex_of set st k) ≡ true
  placed = go (is_hanging (e.foresight.kind (vertex_of set st k))) refl
    where
      go : (b : Bool) → is_hanging (e.foresight.kind (vertex_of set st k)) ≡ b → (b || is_inside set.axes (vertex_of set st k)) ≡ true
      go true h = refl
      go false h = (is.foresees.inside (vertex_of set st k) (counts_if h)).1

  -- the machine
  pub machine_is : (room : Push → Type 0) → st.from ≡ suc k → load_before set e room st.cell k (in_hand set e st w t) ≡ course_map (hand_after set e st k w t t') (core_of set e st k w)
  machine_is room from =
      let vertex = vertex_of set st k in
      let family = family_of set.axes w st.parent in
      let desk : Desk = record { vertices = map_holdings (record_of set e w t) t.vertices; family = family } in
      let input = input_stack e.outlook.swapped in
      let rest : ℕ → List VertexRecord = λ n. records_from set e w st.cell n (2 ^ set.axes - n) in
      let front : ℕ → VertexRecord × Machine → List VertexRecord × Machine = λ n it. (it.0 ∷ rest n, it.1) in
      let whole : Kind → VertexRecord × Desk → VertexRecord × Machine = λ kind it. (
        it.0,
        record {
          vertices = it.1.vertices;
          cells = map_holdings (cell_at w) t.cells;
          family = it.1.family;
          tally = tally_load kind (is_none (source_of set st k)) w.tally;
        },
      ) in
      let kind = e.foresight.kind vertex in
      let core = core_of set e st k w in
      let come : VertexRecord × Family → VertexRecord × Desk = λ it. (it.0, record { vertices = map_holdings (record_of set e w t) t'.vertices; family = it.1 }) in
      ap₂ (λ kind n. course_map (front n) (allowed (tally_may_rise w.tally && is_placed set.axes kind vertex) (course_map (whole kind) (load_as set input kind (source_of set st k) vertex desk))))
      (kinds_are_found set e walked st w t is stage holds k small).in_hand from
      ∙ ap₂ (λ a b. course_map (front (suc k)) (allowed (a && b) (course_map (whole kind) (load_as set input kind (source_of set st k) vertex desk)))) (tally_rises set e walked is st w.tally t holds.owes) placed
      ∙ ap (λ course. course_map (front (suc k)) (course_map (whole kind) course))
      (load_as-is set (record_of set e w t) t.vertices t'.vertices vertex (vertex_at w vertex) family may_take input kind (source_of set st k) (comes_by (e.outlook.counts vertex) refl))
      ∙ ap (course_map (front (suc k))) (maps-in-turn core come (whole kind))
      ∙ maps-in-turn core (λ it. whole kind (come it)) (front (suc k))
    where
      maps-in-turn : {X Y Z : Type 0} (course : Course X) (f : X → Y) (g : Y → Z) → course_map g (course_map f course) ≡ course_map (λ x. g (f x)) course
      maps-in-turn course f g = turned-then course f (λ y. at_once (g y))
