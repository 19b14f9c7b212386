-- The law of a touch.
use Rattle.std.proofs.Common.{◌≡◌, ℕ, ◌+◌, ◌-◌, ◌^◌, ◌≤◌, Bool, true, false, List, ◌∷◌, Option, Some, None, refl, sym, ap, ap₂, subst, ◌∙◌, arith}
use Rattle.std.specs.Prelude.{if◌then◌else◌}
use Rattle.std.specs.Option.{option_map}
use Rattle.std.specs.List.{AllByRecursion as Each}
use Rattle.std.proofs.lemmas.Bool.{lt-ltb, eq-eqb}
use Rattle.std.proofs.lemmas.List.{append-nil}
use Rattle.pe_base.specs.declared.place.Place.{Place}
use Rattle.pe_base.specs.declared.way.Way.{Way}
use Rattle.pe_base.specs.Tree.Places.{corner}
use Rattle.pe_base.specs.Acts.Effects.{VertexRecord}
use Rattle.pe_base.specs.Calls.Follows.{is_fit}
use Rattle.pe_base.specs.Steps.Faces.{Touch}
use Rattle.pe_base.specs.Walk.Course.{Ending, done, halts, stuck, Push, Course, at_once, behind, from, course_map}
use Rattle.pe_base.specs.Walk.Core.{way}
use Rattle.pe_base.specs.Walk.Working.{Working, record_at}
use Rattle.pe_base.specs.Walk.Touches as model
use Rattle.pe_stacks.specs.Holdings.{Holdings, items_at, lent, given_up, popped}
use Rattle.pe_adapt.specs.CountedTouches.{Machine}
use Rattle.pe_adapt.specs.CountedTouches as counted
use Rattle.pe_order.specs.Tokens.{Outlook, Tokens, is_top, given, taken, put, source, target, touch_of, one_more, one_less, cells_before}
use Rattle.pe_order.specs.Tokens as tokens
use Rattle.pe_walk.specs.Standing.{Holds}
use Rattle.pe_walk.specs.Gridded.{stream_stacks_of}
use Rattle.pe_walk.specs.CornerLaw.{EndsAs, IsTouched, IsOnTop, IsLoaded, IsStored, GoesThere, LoadOfACorner, StoreOfACorner}
use Rattle.pe_walk.proofs.Simulation.Leaves.{image_of, records_from, in_hand, after_load, after_store, store_first}
use Rattle.pe_walk.proofs.Simulation.Matching.{Alike, ending_map, done_same}
use Rattle.pe_walk.proofs.Simulation.Unstuck.{load_corner-fits, store_corner-fits}
use Rattle.pe_walk.proofs.Simulation.Loads.Leaf.{load_leaf}
use Rattle.pe_walk.proofs.Simulation.Stores.Leaf.{first_in_hand, stored_steps}
use Rattle.pe_walk.proofs.Simulation.Stores.Goals.{goal_if}
use Rattle.pe_walk.proofs.Simulation.Stores.Sending.{log_of}
use Rattle.pe_walk.proofs.Simulation.Stores.Stored.{goal_at}

-- a course whose result is turned adds the same, and ends alike
record IsTurned {X Y : Type 0} (f : X → Y) (course : Course X) (turned : Course Y) : Type 0 where
  text : turned.text ≡ course.text
  log : turned.log ≡ course.log
  ending : turned.ending ≡ ending_map f course.ending

is_turned : {X Y : Type 0} (f : X → Y) (course : Course X) → IsTurned f course (course_map f course)
is_turned {X} {Y} f course = go course.ending refl
  where
    go : (e : Ending X) → course.ending ≡ e → IsTurned f (record course { ending = e }) (behind course.text course.log (from e (λ x. at_once (f x))))
    go (done x) k = record { text = append-nil course.text; log = append-nil course.log; ending = refl }
    go (halts cause) k = record { text = append-nil course.text; log = append-nil course.log; ending = refl }
    go stuck k = record { text = append-nil course.text; log = append-nil course.log; ending = refl }

-- what is turned ends as a model that is fit, so it does too
ends_as : {W M N : Type 0} (Same : W → M → Type 0) (f : M → N) (image : W → N) (a : Ending W) (b : Ending M) → is_fit a ≡ true → ending_map f b ≡ ending_map image a
    → ((w : W) (m : M) → a ≡ done w → f m ≡ image w → Same w m) → EndsAs Same a b
ends_as Same f image (done w) (done m) fit e same = same w m refl (done_same (f m) (image w) e)
ends_as Same f image (done w) (halts cause) fit e same = absurd cc
ends_as Same f image (done w) stuck fit e same = absurd cc
ends_as Same f image (halts cause) (done m) fit e same = absurd cc
ends_as Same f image (halts cause) (halts other) fit e same = cc
ends_as Same f image (halts cause) stuck fit e same = absurd cc
ends_as Same f image stuck b fit e same = absurd cc

-- so a touch whose result is turned, and which matches, is one by address
touched : {W M N U : Type 0} (room : Push → Type 0) (image : W → U → N) (holds : W → U → Type 0) (f : M → N) (by_address : Course W) (course : Course M) (t : U) (Same : W → M → Type 0)
    → Alike room image holds by_address (course_map f course) t → is_fit by_address.ending ≡ true
    → ((w : W) (m : M) → holds w t → f m ≡ image w t → Same w m) → IsTouched Same room by_address course
touched room image holds f by_address course t Same alike fit same =
    let turned = is_turned f course in
    record {
      text = sym turned.text ∙ alike.same.text;
      ending = ends_as Same f (λ w. image w t) by_address.ending course.ending fit (sym turned.ending ∙ alike.same.ending) (λ w m ends e. same w m (alike.holds w ends) e);
      log = subst (Each room) turned.log alike.same.log;
    }

-- # Places
-- the place of a corner comes off the stack on which it is
abbrev Came : Outlook → Place → ℕ → Tokens → Type 0
Came o cell k t = (places : Tokens) × (tokens.load o cell k t ≡ Some places)

took : (s : Option ℕ) (place : Place) (held : Holdings Place) → ((n : ℕ) → s ≡ Some n → is_top place (items_at held n) ≡ true) → (after : Holdings Place) × (taken s place held ≡ Some after)
took None place held top = (_, refl)
took (Some n) place held top = (popped held n, ap (λ b. given b (Some (popped held n))) (top n refl))

comes : (o : Outlook) (cell : Place) (k : ℕ) (t : Tokens) → (o.counts (touch_of o cell k).vertex ≡ true → IsOnTop o (touch_of o cell k) t) → Came o cell k t
comes o cell k t top = go (o.counts touch.vertex) refl
  where
    touch : Touch
    touch = touch_of o cell k

    go : (b : Bool) → o.counts touch.vertex ≡ b → (places : Tokens) × ((if b then tokens.load_it o touch t else (Some (record t { vertices = lent t.vertices }))) ≡ Some places)
    go false off = (_, refl)
    go true on =
        let here = top on in
        let off_stack = took (source o touch) touch.vertex t.vertices here.top in (
          record { vertices = off_stack.0; cells = t.cells; held = one_more touch.vertex t.held; met = one_more touch.vertex t.met },
          ap₂ (λ b vertices. given b (option_map (λ vertices. let after : Tokens = record { vertices = vertices; cells = t.cells; held = one_more touch.vertex t.held; met = one_more touch.vertex t.met } in after) vertices))
              (eq-eqb (t.met touch.vertex) (cells_before o.axes o.way touch) here.due) off_stack.1,
        )

-- and goes where it is stored, while it is held
went : (o : Outlook) (cell : Place) (k : ℕ) (t : Tokens) → (o.counts (touch_of o cell k).vertex ≡ true → 1 ≤ t.held (touch_of o cell k).vertex) → (places : Tokens) × (tokens.store o cell k t ≡ Some places)
went o cell k t held = go (o.counts touch.vertex) refl
  where
    touch : Touch
    touch = touch_of o cell k

    go : (b : Bool) → o.counts touch.vertex ≡ b → (places : Tokens) × ((if b then tokens.store_it o touch t else (Some (record t { vertices = given_up t.vertices }))) ≡ Some places)
    go false off = (_, refl)
    go true on =
        let after : Tokens = record t { vertices = put (target o touch) touch.vertex t.vertices; held = one_less touch.vertex t.held } in
        (after, ap (λ b. given b (Some after)) (lt-ltb 0 (t.held touch.vertex) (held on)))

-- to the stack that is named
named : (o : Outlook) (counts : Bool) (axes : ℕ) (way : Way) (cell : Place) (k : ℕ) → o.axes ≡ axes → o.way ≡ way
    → (s : ℕ) → goal_if counts o axes way (corner axes cell k) cell ≡ Some s → target o (touch_of o cell k) ≡ Some s
named o true axes way cell k same turn s e = ap₂ (λ n u. goal_if true o n u (corner n cell k) cell) same turn ∙ e
named o false axes way cell k same turn s e = absurd cc

pushed_there : (o : Outlook) (touch : Touch) (t : Tokens) (goal : Option ℕ) → ((s : ℕ) → goal ≡ Some s → target o touch ≡ Some s) → Each (GoesThere o touch t) (log_of goal t.vertices)
pushed_there o touch t None there = tt
pushed_there o touch t (Some s) there = (record { vertex = refl; stack = there s refl; length = refl }, tt)

-- # Both touches
pub load_of_a_corner : {Plan : Type 0} → LoadOfACorner Plan
load_of_a_corner set e walked st k w t may from top =
    let came = comes e.outlook st.cell k t top in
    let nowhere : Push → Type 0 = λ push. ⊥ in
    let records : (v : Working) → records_from set e v st.cell k (2 ^ set.axes - k) ≡ record_at set.axes v st.cell k ∷ records_from set e v st.cell (k + 1) (2 ^ set.axes - (k + 1)) = λ v. first_in_hand set e v st.cell k k refl may.corner in
    touched nowhere (in_hand set e (after_load k st)) (Holds set e (after_load k st)) (λ it. (it.0 ∷ records_from set e w st.cell st.from (2 ^ set.axes - st.from), it.1))
    (model.load_corner set st.parent st.cell k w) (counted.load_corner set (stream_stacks_of e.outlook.swapped) st.cell k (image_of set e st.parent w t)) came.0 (IsLoaded set e st k t)
    (load_leaf set e walked nowhere may.foreseen_start st k may.stage may.corner from may.owed w t came.0 may.holds came.1)
    (load_corner-fits set st.parent st.cell k w)
    (λ v it holds same. record {
      places = came.0;
      took = came.1;
      holds = holds;
      found = first_same (ap (λ (x : List VertexRecord × Machine). x.0) same ∙ records v);
      image = ap (λ (x : List VertexRecord × Machine). x.1) same;
    })
  where
    first_same : {x y : VertexRecord} {xs ys : List VertexRecord} → (x ∷ xs) ≡ (y ∷ ys) → x ≡ y
    first_same e = cc

pub store_of_a_corner : {Plan : Type 0} → StoreOfACorner Plan
store_of_a_corner set e walked st k w t may from unstored =
    let held : e.outlook.counts (touch_of e.outlook st.cell k).vertex ≡ true → 1 ≤ t.held (touch_of e.outlook st.cell k).vertex =
    subst (λ axes. e.outlook.counts (corner axes st.cell k) ≡ true → 1 ≤ t.held (corner axes st.cell k)) (sym may.foreseen_start.foresees.axes)
    (λ on. (may.holds.stands.mine k (omega (arith, from)) may.corner on).0) in
    let gave = went e.outlook st.cell k t held in
    let room = GoesThere e.outlook (touch_of e.outlook st.cell k) t in
    let its = records_from set e w st.cell (k + 1) (2 ^ set.axes - (k + 1)) in
    touched room (in_hand set e (after_store k st)) (Holds set e (after_store k st)) (λ m. (its, m))
    (model.store_corner set st.parent st.cell k w) (counted.store_corner set (stream_stacks_of e.outlook.swapped) st.cell k (record_at set.axes w st.cell k) (image_of set e st.parent w t)) gave.0 (IsStored set e st k t)
    (subst (λ records. Alike room (in_hand set e (after_store k st)) (Holds set e (after_store k st)) (model.store_corner set st.parent st.cell k w) (store_first set e room st.cell k (records, image_of set e st.parent w t)) gave.0)
    (first_in_hand set e w st.cell st.from k from may.corner)
    (stored_steps set e walked may.foreseen_start st may.stage w t may.holds k from may.corner gave.0 gave.1 room
    (λ r ends. pushed_there e.outlook (touch_of e.outlook st.cell k) t (goal_at set e st k)
    (named e.outlook (e.outlook.counts (corner set.axes st.cell k)) set.axes (way set) st.cell k may.foreseen_start.foresees.axes may.foreseen_start.foresees.ways))
    may.owed unstored))
    (store_corner-fits set st.parent st.cell k w)
    (λ v m holds same. record {
      places = gave.0;
      gave = gave.1;
      holds = holds;
      image = ap (λ (x : List VertexRecord × Machine). x.1) same;
    })
