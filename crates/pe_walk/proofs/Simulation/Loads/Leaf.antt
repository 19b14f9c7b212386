-- A corner is loaded, in model and machine alike.
use Rattle.std.proofs.Common.{◌≡◌, ◌≢◌, ℕ, zero, suc, ◌-◌, ◌^◌, ◌<◌, ◌≤◌, Bool, true, false, ◌&&◌, ◌==◌, List, Option, Some, None, refl, sym, ap, ap₂, subst, ◌∙◌, arith}
use Rattle.std.specs.Prelude.{is_none, if◌then◌else◌}
use Rattle.std.proofs.Math.Bool.{and-false}
use Rattle.std.proofs.lemmas.Bool.{eqb-true, eqb-false}
use Rattle.pe_base.specs.declared.place.Place.{Place}
use Rattle.pe_base.specs.declared.tally.Tally.{Tally}
use Rattle.pe_base.specs.Tree.Dim.{IsDim}
use Rattle.pe_base.specs.Tree.Places.{corner}
use Rattle.pe_base.specs.Life.Kinds.{is_hanging}
use Rattle.pe_base.specs.Steps.Routes.{stack_in}
use Rattle.pe_base.specs.Acts.Effects.{VertexRecord}
use Rattle.pe_base.specs.Walk.Maps.{at}
use Rattle.pe_base.specs.Walk.Course.{Push, Course, done, course_map}
use Rattle.pe_base.specs.Walk.Core.{Setting, way, Family}
use Rattle.pe_base.specs.Walk.Working.{Working, vertex_at, records_of, family_of}
use Rattle.pe_base.specs.Walk.Touches.{tally_load, put_loaded}
use Rattle.pe_base.specs.Walk.Touches as model
use Rattle.pe_stacks.specs.Grid.{input_stack}
use Rattle.pe_order.specs.Laws.{IsCell}
use Rattle.pe_adapt.specs.CountedTouches.{Machine}
use Rattle.pe_order.specs.Tokens.{Tokens, first_of, given, taken, load}
use Rattle.pe_walk.specs.CoreKeeps.{IsAlike, AreAlike, KeepsParents, loaded}
use Rattle.pe_walk.specs.Standing.{ForeseenStart, Stage, Holds, Owes, IsForeseen, StartsFinest, IsFair, IsIdle, IsForeseenStart, IsStage}
use Rattle.pe_order.proofs.Unwalked.{cell_four}
use Rattle.pe_order.proofs.Tokens.Apart.{steps_keep_apart}
use Rattle.pe_order.proofs.Tokens.Short.{steps_keep_counting}
use Rattle.pe_walk.proofs.Simulation.Matching.{Matches, some_same, core-matches, matches-same, mapped-done}
use Rattle.pe_walk.proofs.Simulation.CoreLaws.{core_keeps}
use Rattle.pe_walk.proofs.Simulation.LoadedKinds.{hangs_if, parent_long}
use Rattle.pe_walk.proofs.Simulation.Levels.{levels_differ}
use Rattle.pe_walk.proofs.Simulation.Silent.{load-silent}
use Rattle.pe_walk.proofs.Simulation.Leaves.{in_hand, after_load, load_before, LoadLeaf}
use Rattle.pe_walk.proofs.Simulation.Shared.{idle-alike, fair-alike, PutsBack, has_put}
use Rattle.pe_walk.proofs.Simulation.Loads.OnStacks.{LoadsPlace, loads_place}
use Rattle.pe_walk.proofs.Simulation.Loads.Records.{LoadsRecord, loads_record, hung_elsewhere}
use Rattle.pe_walk.proofs.Simulation.Loads.Cores.{vertex_of, source_of, core_of, working_after, hand_after, met_first, stays_if, model_is, machine_is}
use Rattle.pe_walk.proofs.Simulation.Loads.Foreseen.{loads_idle, loads_first, loads_later, waited}
use Rattle.pe_walk.proofs.Simulation.Loads.Afters.{HasLoaded, vertices_seen, cells_seen, records_seen}
use Rattle.pe_walk.proofs.Simulation.Loads.Stages.{stands_after, fair_after, owes_after}

module _ {Plan : Type 0} (set : Setting Plan) (e : ForeseenStart) (walked : Place → Bool) (is : IsForeseenStart set e walked) (st : Stage) (stage : IsStage set.axes e.outlook st) (k : ℕ) (small : k < 2 ^ set.axes)
    (w : Working) (t t' : Tokens) (holds : Holds set e st w t) (loads : LoadsPlace e.outlook st.cell (vertex_of set st k) t t') where
  -- what is loaded of a vertex that counts, before its events
  loaded_fair : e.outlook.counts (vertex_of set st k) ≡ true
      → IsFair e.foresight (set.rules.greatest set.plan) (vertex_of set st k)
      (Some (loaded set (e.foresight.kind (vertex_of set st k)) (is_none (source_of set st k)) (vertex_at w (vertex_of set st k)) (vertex_of set st k) (family_of set.axes w st.parent)))
  loaded_fair on = go (source_of set st k) refl
    where
      vertex : Place
      vertex = vertex_of set st k

      family : Family
      family = family_of set.axes w st.parent

      counts : is_hanging (e.foresight.kind vertex) ≡ false
      counts = stays_if set e walked is st stage k small w t t' holds loads on

      go : (from : Option ℕ) → source_of set st k ≡ from
          → IsFair e.foresight (set.rules.greatest set.plan) vertex (Some (loaded set (e.foresight.kind vertex) (is_none (source_of set st k)) (vertex_at w vertex) vertex family))
      go None from =
          let see = is.foresees in
          let first : is_none (source_of set st k) ≡ true = ap is_none from in
          let unread = sym (holds.fair.unread vertex (eqb-true (t.met vertex) 0 (met_first set e walked is st stage k small w t t' holds loads on ∙ first))) in
          subst (λ b. IsFair e.foresight (set.rules.greatest set.plan) vertex (Some (loaded set (e.foresight.kind vertex) b (vertex_at w vertex) vertex family))) (sym first)
          (loads_first set e.foresight vertex family (e.foresight.kind vertex) (at w.vertices vertex) see.start_level refl counts
          (subst (IsForeseen set e.foresight vertex (e.foresight.kind vertex)) unread (see.foreseen vertex)) (subst (StartsFinest (set.rules.greatest set.plan) vertex) unread (see.finest vertex)))
      go (Some s) from =
          let see = is.foresees in
          let later : is_none (source_of set st k) ≡ false = ap is_none from in
          let is_cell : IsCell set.axes (way set) st.cell = subst (λ u. IsCell set.axes u st.cell) see.ways stage.cell in
          let met : 1 ≤ t.met vertex = some_met (t.met vertex) (met_first set e walked is st stage k small w t t' holds loads on ∙ later) in
          let took : taken (Some s) vertex t.vertices ≡ Some t'.vertices =
          ap (λ x. taken (first_of x (given (e.outlook.reads vertex) (Some (input_stack e.outlook.swapped)))) vertex t.vertices) (sym from ∙ ap₂ (λ n u. stack_in n u vertex st.cell) (sym see.axes) (sym see.ways)) ∙ loads.took on in
          subst (λ b. IsFair e.foresight (set.rules.greatest set.plan) vertex (Some (loaded set (e.foresight.kind vertex) b (vertex_at w vertex) vertex family))) (sym later)
          (loads_later set e.foresight vertex family (e.foresight.kind vertex) (at w.vertices vertex) counts
          (holds.fair.live vertex on (waited e.outlook t t'.vertices set.axes (way set) st.cell k s see.dim is_cell small from took met)))
        where
          some_met : (n : ℕ) → (n == 0) ≡ false → 1 ≤ n
          some_met zero h = absurd (eqb-false 0 0 h refl)
          some_met (suc n) h = omega arith

  abbrev counted : Tally
  counted = tally_load (e.foresight.kind (vertex_of set st k)) (is_none (source_of set st k)) w.tally

  abbrev placed : VertexRecord × Family → Working
  placed it = put_loaded set (e.foresight.kind (vertex_of set st k)) st.cell k it.0 (record w { tally = counted })

  puts : (it : VertexRecord × Family) → LoadsRecord (e.outlook.counts (vertex_of set st k)) st.cell (vertex_of set st k) k it.0 (record w { tally = counted }) (placed it)
  puts it =
      subst (λ b. LoadsRecord b st.cell (vertex_of set st k) k it.0 (record w { tally = counted }) (placed it)) (sym (is.foresees.counts (vertex_of set st k)))
      (loads_record set (e.foresight.kind (vertex_of set st k)) st.cell k it.0 (record w { tally = counted }))

  lower : st.parent.level < st.cell.level
  lower = let above : st.cell.level - 1 ≡ st.parent.level = ap (λ (p : Place). p.level) stage.above in omega (arith, above, stage.deep)

  is_cell_here : IsCell set.axes (way set) st.cell
  is_cell_here = subst (λ u. IsCell set.axes u st.cell) is.foresees.ways stage.cell

  -- the family that the core left is put back
  puts_back : (it : VertexRecord × Family) → KeepsParents set (vertex_of set st k) (family_of set.axes w st.parent).parents it.1.parents
      → PutsBack set.axes (set.rules.greatest set.plan) e.outlook st.parent it.1 w (placed it) t'
  puts_back it keeps = record {
    four = parent_long set.axes (way set) st.cell st.parent is.foresees.dim.1 is_cell_here stage.above;
    alike = subst (λ n. AreAlike (set.rules.greatest set.plan) n (records_of set.axes w st.parent) it.1.parents) (ap (λ (p : Place). p.level) stage.above) keeps;
    held = λ j below on. omega (arith, holds.stands.parents j below on, loads.held (corner set.axes st.parent j));
    flags = holds.fair.parent_flags;
    hung = λ j. hung_elsewhere (e.outlook.counts (vertex_of set st k)) st.cell (vertex_of set st k) k it.0 (record w { tally = counted }) (placed it) (puts it) st.parent j other;
    vertices = λ j. (puts it).vertices (corner set.axes st.parent j)
        ∙ ap (λ b. if b then Some it.0 else at w.vertices (corner set.axes st.parent j)) (ap (λ c. e.outlook.counts (vertex_of set st k) && c) (levels_differ (vertex_of set st k) (corner set.axes st.parent j) other) ∙ and-false (e.outlook.counts (vertex_of set st k)));
  }
    where
      other : st.cell.level ≢ st.parent.level
      other same = absurd (omega (arith, same, lower))

  -- what is after the load
  has_loaded : load e.outlook st.cell k t ≡ Some t' → st.from ≡ suc k → (it : VertexRecord × Family) → (core_of set e st k w).ending ≡ done it
      → HasLoaded set.axes (set.rules.greatest set.plan) e.outlook e.foresight st k it counted w (placed it) (working_after set e st k w it) t t'
  has_loaded run from it end =
      let see = is.foresees in
      let vertex = vertex_of set st k in
      let greatest = set.rules.greatest set.plan in
      let kind = e.foresight.kind vertex in
      let first = is_none (source_of set st k) in
      let family = family_of set.axes w st.parent in
      let keeps = (core_keeps set see.lawful).loads kind first (vertex_at w vertex) vertex family it end in
      let dim : IsDim e.outlook.axes = subst IsDim (sym see.axes) see.dim in
      let is_cell : IsCell e.outlook.axes e.outlook.way st.cell = subst (λ n. IsCell n e.outlook.way st.cell) (sym see.axes) stage.cell in
      record {
        small = small;
        from = from;
        four = omega (arith, cell_four set.axes (way set) st.cell see.dim.1 is_cell_here, see.dim.1);
        deep = lower;
        stood = holds.stands;
        was_fair = holds.fair;
        loads = loads;
        apart = (steps_keep_apart e.outlook dim).loads st.cell k t t' is_cell (subst (λ n. k < 2 ^ n) (sym see.axes) small) run holds.stands.apart;
        counting = (steps_keep_counting e.outlook dim).loads st.cell k t t' run holds.stands.counting;
        puts = puts it;
        has = has_put set.axes greatest e.outlook st.parent it.1 w (placed it) t' (puts_back it keeps.1);
        fair = λ on. fair-alike e.foresight greatest vertex (Some (loaded set kind first (vertex_at w vertex) vertex family)) (loaded_fair on) it.0 (alike on keeps.0);
        idle = λ off. idle-alike greatest vertex.level (loaded set kind first (vertex_at w vertex) vertex family) it.0 keeps.0
            (subst (λ kind. IsIdle (loaded set kind first (vertex_at w vertex) vertex family)) (sym (hangs_if set e.outlook e.foresight see vertex off)) (loads_idle set first (vertex_at w vertex) vertex family));
      }
    where
      alike : (on : e.outlook.counts (vertex_of set st k) ≡ true)
          → IsAlike (set.rules.greatest set.plan) st.cell.level (loaded set (e.foresight.kind (vertex_of set st k)) (is_none (source_of set st k)) (vertex_at w (vertex_of set st k)) (vertex_of set st k) (family_of set.axes w st.parent)) it.0
          → IsAlike (set.rules.greatest set.plan) st.cell.level (loaded_fair on).it it.0
      alike on keeps = subst (λ v. IsAlike (set.rules.greatest set.plan) st.cell.level v it.0) (some_same _ _ (loaded_fair on).there) keeps

  -- what is in hand
  hand_seen : load e.outlook st.cell k t ≡ Some t' → st.from ≡ suc k → (it : VertexRecord × Family) → (core_of set e st k w).ending ≡ done it
      → hand_after set e st k w t t' it ≡ in_hand set e (after_load k st) (working_after set e st k w it) t'
  hand_seen run from it end =
      let after = working_after set e st k w it in
      let greatest = set.rules.greatest set.plan in
      let has = has_loaded run from it end in
      let records = sym (records_seen set.axes greatest e.outlook e.foresight st k it counted w (placed it) after t t' has) in
      let vertices = sym (vertices_seen set.axes greatest e.outlook e.foresight st k it counted w (placed it) after t t' has set e) in
      let cells = sym (cells_seen set.axes greatest e.outlook e.foresight st k it counted w (placed it) after t t' has) in
      let family = sym has.has.family in
      let tally = sym (has.has.tally ∙ has.puts.tally) in
      λ i. (records i, record { vertices = vertices i; cells = cells i; family = family i; tally = tally i })

  -- what holds
  holds_after : load e.outlook st.cell k t ≡ Some t' → st.from ≡ suc k → 1 ≤ st.owed → (it : VertexRecord × Family) → (core_of set e st k w).ending ≡ done it
      → Holds set e (after_load k st) (working_after set e st k w it) t'
  holds_after run from owed it end =
      let after = working_after set e st k w it in
      let greatest = set.rules.greatest set.plan in
      let has = has_loaded run from it end in
      record {
        stands = stands_after set.axes greatest e.outlook e.foresight st k it counted w (placed it) after t t' has;
        fair = fair_after set.axes greatest e.outlook e.foresight st k it counted w (placed it) after t t' has;
        owes = subst (λ tally. Owes set.axes set.max_cells e (after_load k st) tally t') (sym (has.has.tally ∙ has.puts.tally))
            (owes_after set.axes set.max_cells e st k (e.foresight.kind (vertex_of set st k)) (is_none (source_of set st k)) w.tally t t' (vertex_of set st k) owed loads.moved loads.cells holds.owes);
      }

-- a corner is loaded by model and machine alike
pub load_leaf : {Plan : Type 0} (set : Setting Plan) (e : ForeseenStart) (walked : Place → Bool) (room : Push → Type 0) → IsForeseenStart set e walked → LoadLeaf set e room
load_leaf set e walked room is st k stage small from owed w t t' holds run =
    let loads = loads_place e.outlook set.axes st.cell k t t' is.foresees.axes run in
    let core = core_of set e st k w in
    let seen : Working → List VertexRecord × Machine = λ v. in_hand set e (after_load k st) v t' in
    let model_same = model_is set e walked is st stage k small w t t' holds loads in
    record {
      same = matches-same room seen (model.load_corner set st.parent st.cell k w) (course_map (hand_after set e st k w t t') core) (load_before set e room st.cell k (in_hand set e st w t))
          (sym (machine_is set e walked is st stage k small w t t' holds loads room from))
          (subst (λ c. Matches room seen c (course_map (hand_after set e st k w t t') core)) (sym model_same)
          (core-matches room seen core (working_after set e st k w) (hand_after set e st k w t t')
          (load-silent set (e.foresight.kind (vertex_of set st k)) (is_none (source_of set st k)) (vertex_at w (vertex_of set st k)) (vertex_of set st k) (family_of set.axes w st.parent))
          (hand_seen set e walked is st stage k small w t t' holds loads run from)));
      holds = λ v end.
          let at = mapped-done core (working_after set e st k w) v (ap (λ (c : Course Working). c.ending) (sym model_same) ∙ end) in
          subst (λ x. Holds set e (after_load k st) x t') (sym at.2) (holds_after set e walked is st stage k small w t t' holds loads run from owed at.0 at.1);
    }
