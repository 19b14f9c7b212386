-- The visit of a cell on stacks: its record comes to hand and leaves it, and in between the core.
use Rattle.std.proofs.Common.{◌≡◌, ℕ, ℤ, ◌+◌, ◌^◌, ◌<◌, ◌≤◌, arith, Bool, true, false, ◌&&◌, List, [], Some, Result, Ok, Err, refl, sym, ap, subst, ◌∙◌}
use Rattle.std.specs.Prelude.{nat_lt, OnOk, OnErr, IfErr, slice_get}
use Rattle.std.proofs.lemmas.Bool.{lt-ltb, ltb-true}
use Rattle.std.proofs.lemmas.Bool.Decides.{nat_tests}
use Rattle.pe_base.specs.declared.place.Place.{Place}
use Rattle.pe_base.specs.declared.kind.Kind.{Kind}
use Rattle.pe_base.specs.declared.kind.Kind.TheVariants.{Kept, Born, Dying, Hanging}
use Rattle.pe_base.specs.declared.event.Event.TheVariants.{EnterCell, LeaveCell, DestroyCell}
use Rattle.pe_base.specs.declared.tally.Tally.{Tally}
use Rattle.pe_base.specs.Acts.Effects.{VertexRecord, Fresh}
use Rattle.pe_base.specs.Walk.Course.{Course, Push, limit_at, at_once, course_map, and_then, done, allowed}
use Rattle.pe_base.specs.Walk.Core.{Setting, Family, Own, cell_event, enter_touch, leave_touch}
use Rattle.pe_stacks.specs.declared.record.CellRec.{CellRec}
use Rattle.pe_stacks.specs.Holdings.{Holdings, items_at, len_at, lent, given_up, popped, pushed}
use Rattle.pe_base.specs.Calls.Told.{Told, Adds}
use Rattle.pe_base.proofs.Calls.Texts.{adds-nothing, part-nothing}
use Rattle.pe_hang.specs.InHand.{map_holdings}
use Rattle.pe_hang.specs.Moves.{may_rise, lend, give_up, pop, push}
use Rattle.pe_base.specs.Calls.Follows.{Follows, Fits, is_fit, Failure, halted, unwritten, wanting, unheard_of, BeforeCall, HasOverfull, read_by}
use Rattle.pe_stacks.specs.RecordsOut.{held_by}
use Rattle.pe_base.proofs.Calls.Leading.{and_then-fits, follows-map, follows-behind, leads_start, leads_next, leads_rest, leads_err, leads_last}
use Rattle.pe_hang.proofs.Moving.{allowed-fits, allowed-is, lend-is, pop-is, give_up-is, push-is}
use Rattle.pe_base.specs.Walk.Touches.{tally_cell}
use Rattle.pe_adapt.specs.CountedTouches.{Machine, StreamStacks, tally_may_rise, cell_output}
use Rattle.pe_walk.specs.Machine.{within_limit, count_cell, kind_of_cell, cell_comes, cell_goes, enter_cell, leave_cell}

module _ {Plan X : Type 0} (f : X → List ℤ) (set : Setting Plan) (streams : StreamStacks) (cell : Place) (vertices : Holdings VertexRecord) (tally : Tally) where
  -- what is in hand and on stacks, with cells of some type on theirs
  abbrev pub on_cells : Holdings X → Family → Machine
  on_cells held family = record { vertices = vertices; cells = map_holdings f held; family = family; tally = tally }

  module _ (held : Holdings X) (family : Family) (kind : Kind) (is_kind : kind_of_cell set streams cell (on_cells held family) ≡ kind) where
    module _ (corners : List VertexRecord) where
      abbrev enters : Course (Own × Machine)
      enters = enter_cell set streams cell corners (on_cells held family)

      abbrev entering : List ℤ × Machine → Course (Own × Machine)
      entering come = course_map (λ it. (it.0, record come.1 { family = it.1 })) (enter_touch set kind come.0 cell corners come.1.family)

      enters-is : enters ≡ and_then (cell_comes set streams kind (on_cells held family)) entering
      enters-is =
          ap (λ k. and_then (cell_comes set streams k (on_cells held family)) (λ come.
          course_map (λ it. (it.0, record come.1 { family = it.1 })) (enter_touch set k come.0 cell corners come.1.family))) is_kind

      pub comes-fits : Fits enters → Fits (cell_comes set streams kind (on_cells held family))
      comes-fits fits = and_then-fits (cell_comes set streams kind (on_cells held family)) entering (subst Fits enters-is fits)

      -- what comes is entered
      pub entered : {A E : Type 0} (held' held'' : Holdings X) (x : List ℤ) (after : A → Own × Family) (means : E → Failure) (result : Result A E) (found : BeforeCall) (new : Told)
          → cell_comes set streams kind (on_cells held family) ≡ at_once (x, on_cells held'' family) → OnOk result (held' ≡ held'')
          → Follows (enter_touch set kind x cell corners family) after (read_by means result) found new
          → Follows enters (λ a. ((after a).0, on_cells held' (after a).1)) (read_by means result) found new
      entered {A = A} {E = E} held' held'' x after means result found new come same is =
          with_held result same
          (subst (λ course. Follows course (λ a. ((after a).0, on_cells held'' (after a).1)) (read_by means result) found new) (sym enters-is)
          (follows-behind (cell_comes set streams kind (on_cells held family)) entering
          (x, on_cells held'' family) (λ a. ((after a).0, on_cells held'' (after a).1)) (read_by means result) found new
          (ap (λ course. course.ending) come) (ap (λ course. course.text) come)
          (follows-map (λ it. (it.0, on_cells held'' it.1)) (enter_touch set kind x cell corners family) after (read_by means result) found new is)))
        where
          with_held : (r : Result A E) → OnOk r (held' ≡ held'')
              → Follows enters (λ a. ((after a).0, on_cells held'' (after a).1)) (read_by means r) found new
              → Follows enters (λ a. ((after a).0, on_cells held' (after a).1)) (read_by means r) found new
          with_held (Ok a) same is = subst (λ h. Follows enters (λ (b : A). ((after b).0, on_cells h (after b).1)) (Ok a) found new) (sym same) is
          with_held (Err e) same is = is

    -- a record that is made
    pub made-fits : kind ≡ Born → Fits (cell_comes set streams kind (on_cells held family)) → Fits (lend (map_holdings f held))
    made-fits born fits = and_then-fits (lend (map_holdings f held)) _ (subst (λ k. Fits (cell_comes set streams k (on_cells held family))) born fits)

    pub made-is : kind ≡ Born → Fits (lend (map_holdings f held)) → cell_comes set streams kind (on_cells held family) ≡ at_once ([], on_cells (lent held) family)
    made-is born fits =
        ap (λ k. cell_comes set streams k (on_cells held family)) born
        ∙ ap (λ course. course_map (λ cells. ([], record (on_cells held family) { cells = cells })) course) (lend-is f held fits)

    -- a record that was stored
    stored-comes : (k : Kind) → (k ≡ Born → ⊥)
        → cell_comes set streams k (on_cells held family) ≡ course_map (λ it. (it.0, record (on_cells held family) { cells = it.1 })) (pop streams.cell_input (map_holdings f held))
    stored-comes Kept born = refl
    stored-comes Born born = absurd (born refl)
    stored-comes Dying born = refl
    stored-comes Hanging born = refl

    pub stored-fits : (kind ≡ Born → ⊥) → Fits (cell_comes set streams kind (on_cells held family)) → Fits (pop streams.cell_input (map_holdings f held))
    stored-fits born fits = and_then-fits (pop streams.cell_input (map_holdings f held)) _ (subst Fits (stored-comes kind born) fits)

    pub stored-is : (x : X) → (kind ≡ Born → ⊥) → Fits (pop streams.cell_input (map_holdings f held)) → slice_get (items_at held streams.cell_input) 0 ≡ Some x
        → cell_comes set streams kind (on_cells held family) ≡ at_once (f x, on_cells (popped held streams.cell_input) family)
    stored-is x born fits top =
        stored-comes kind born
        ∙ ap (λ course. course_map (λ it. (it.0, record (on_cells held family) { cells = it.1 })) course) (pop-is f held streams.cell_input x fits top)

    enters-stored : (k : Kind) (x : List ℤ) (corners : List VertexRecord) → (k ≡ Born → ⊥)
        → enter_touch set k x cell corners family ≡ cell_event set EnterCell cell (record { cell = x; corners = corners }, family)
    enters-stored Kept x corners born = refl
    enters-stored Born x corners born = absurd (born refl)
    enters-stored Dying x corners born = refl
    enters-stored Hanging x corners born = refl

    -- where its record was stored, a cell is entered by one event
    pub enter-stored : {A : Type 0} (x : List ℤ) (corners : List VertexRecord) (after : A → Own × Family) (answer : Result A Failure) (found : BeforeCall) (new : Told)
        → (kind ≡ Born → ⊥) → Follows (cell_event set EnterCell cell (record { cell = x; corners = corners }, family)) after answer found new
        → Follows (enter_touch set kind x cell corners family) after answer found new
    enter-stored x corners after answer found new born is =
        subst (λ course. Follows course after answer found new) (sym (enters-stored kind x corners born)) is

    -- where its record is made, by two
    pub enter-made : {A : Type 0} (x : List ℤ) (corners : List VertexRecord) (after : A → Own × Family) (answer : Result A Failure) (found : BeforeCall) (new : Told)
        → kind ≡ Born → Follows (enter_touch set Born x cell corners family) after answer found new
        → Follows (enter_touch set kind x cell corners family) after answer found new
    enter-made x corners after answer found new born is =
        subst (λ k. Follows (enter_touch set k x cell corners family) after answer found new) (sym born) is

    module _ (own : Own) where
      abbrev leaves : Course (List VertexRecord × Machine)
      leaves = leave_cell set streams cell (own, on_cells held family)

      abbrev going : Own × Family → Course (List VertexRecord × Machine)
      going after = course_map (λ m. (after.0.corners, m)) (cell_goes set streams kind after.0.cell (on_cells held after.1))

      leaves-is : leaves ≡ and_then (leave_touch set kind cell own family) going
      leaves-is =
          ap (λ k. and_then (leave_touch set k cell own family) (λ after.
          course_map (λ m. (after.0.corners, m)) (cell_goes set streams k after.0.cell (on_cells held after.1)))) is_kind

      -- the core of leaving was left
      module _ {A : Type 0} (after : A → Own × Family) (found : BeforeCall) (new : Told) where
        abbrev now : BeforeCall
        now = record found { told = new }

        pub left-failed : {B : Type 0} (after' : B → List VertexRecord × Machine) (failure : Failure)
            → Follows (leave_touch set kind cell own family) after (Err failure) found new → Follows leaves after' (Err failure) found new
        left-failed after' failure is =
            subst (λ course. Follows course after' (Err failure) found new) (sym leaves-is)
            (leads_err (leave_touch set kind cell own family) going after after' failure new (leads_start (and_then (leave_touch set kind cell own family) going) found) is)

        lead-going : (a : A) → Follows (leave_touch set kind cell own family) after (Ok a) found new → Fits leaves → Fits (going (after a))
        lead-going a is fits =
            leads_rest (going (after a))
            (leads_next (leave_touch set kind cell own family) going after a now (leads_start (and_then (leave_touch set kind cell own family) going) found) is
            (record { sure = refl; vertices = λ s. omega arith; cells = λ s. omega arith }))
            (subst Fits leaves-is fits)

        left-then : {B : Type 0} (a : A) (after' : B → List VertexRecord × Machine) (answer : Result B Failure) (new' : Told)
            → Follows (leave_touch set kind cell own family) after (Ok a) found new
            → Follows (going (after a)) after' answer now new' → Follows leaves after' answer found new'
        left-then a after' answer new' is goes =
            subst (λ course. Follows course after' answer found new') (sym leaves-is)
            (leads_last (going (after a)) after' answer new'
            (leads_next (leave_touch set kind cell own family) going after a now (leads_start (and_then (leave_touch set kind cell own family) going) found) is
            (record { sure = refl; vertices = λ s. omega arith; cells = λ s. omega arith })) goes)

        -- a cell that dies is given up
        gives_up : (a : A) → kind ≡ Dying → going (after a) ≡ course_map (λ m. ((after a).0.corners, m)) (course_map (λ cells. record (on_cells held (after a).1) { cells = cells }) (give_up (map_holdings f held)))
        gives_up a dies = ap (λ k. course_map (λ m. ((after a).0.corners, m)) (cell_goes set streams k (after a).0.cell (on_cells held (after a).1))) dies

        pub ended-fits : (a : A) → kind ≡ Dying → Follows (leave_touch set kind cell own family) after (Ok a) found new → Fits leaves → Fits (give_up (map_holdings f held))
        ended-fits a dies is fits =
            and_then-fits (give_up (map_holdings f held)) _
            (and_then-fits (course_map (λ cells. record (on_cells held (after a).1) { cells = cells }) (give_up (map_holdings f held))) _
            (subst Fits (gives_up a dies) (lead-going a is fits)))

        pub ended : (a : A) (held' : Holdings X) → kind ≡ Dying → held' ≡ given_up held → Fits (give_up (map_holdings f held))
            → Follows (leave_touch set kind cell own family) after (Ok a) found new
            → Follows leaves (λ (u : Unit {0}). ((after a).0.corners, on_cells held' (after a).1)) (Ok tt) found new
        ended a held' dies same fits is =
            left-then a (λ (u : Unit {0}). ((after a).0.corners, on_cells held' (after a).1)) (Ok tt) new is
            (let course = gives_up a dies
            ∙ ap (λ c. course_map (λ m. ((after a).0.corners, m)) (course_map (λ cells. record (on_cells held (after a).1) { cells = cells }) c)) (give_up-is f held fits) in
            record {
              ends = ap (λ c. c.ending) course ∙ ap (λ h. done ((after a).0.corners, on_cells h (after a).1)) (sym same);
              told = subst (λ text. Adds new text new) (sym (ap (λ c. c.text) course)) (adds-nothing new);
            })

        -- a cell that stays is put on the output
        puts : (k : Kind) → (k ≡ Dying → ⊥) → (a : A)
            → course_map {Y = List VertexRecord × Machine} (λ m. ((after a).0.corners, m)) (cell_goes set streams k (after a).0.cell (on_cells held (after a).1))
            ≡ course_map {Y = List VertexRecord × Machine} (λ m. ((after a).0.corners, m)) (course_map (λ cells. record (on_cells held (after a).1) { cells = cells }) (push true (cell_output streams) (after a).0.cell (map_holdings f held)))
        puts Kept stays a = refl
        puts Born stays a = refl
        puts Dying stays a = absurd (stays refl)
        puts Hanging stays a = refl

        pub put-fits : (a : A) → (kind ≡ Dying → ⊥) → Follows (leave_touch set kind cell own family) after (Ok a) found new → Fits leaves
            → Fits (push true (cell_output streams) (after a).0.cell (map_holdings f held))
        put-fits a stays is fits =
            and_then-fits (push true (cell_output streams) (after a).0.cell (map_holdings f held)) _
            (and_then-fits (course_map (λ cells. record (on_cells held (after a).1) { cells = cells }) (push true (cell_output streams) (after a).0.cell (map_holdings f held))) _
            (subst Fits (puts kind stays a) (lead-going a is fits)))

        pub put : {E : Type 0} (a : A) (x : X) (held' : Holdings X) (room vertices' : ℕ → ℕ) (means : E → Failure) (result : Result (Unit {0}) E)
            → found ≡ (record { told = found.told; sure = found.sure; vertices = vertices'; cells = held_by held room })
            → (kind ≡ Dying → ⊥) → (after a).0.cell ≡ f x → Fits (push true (cell_output streams) (f x) (map_holdings f held))
            → OnOk result (held' ≡ pushed held (cell_output streams) x) → IfErr result (λ e. means e ≡ wanting) → OnErr result (room (cell_output streams) ≡ 0)
            → Follows (leave_touch set kind cell own family) after (Ok a) found new
            → Follows leaves (λ (u : Unit {0}). ((after a).0.corners, on_cells held' (after a).1)) (read_by means result) found new
        put {E = E} a x held' room vertices' means result known stays same fits moved memory full is =
            left-then a (λ (u : Unit {0}). ((after a).0.corners, on_cells held' (after a).1)) (read_by means result) new is
            (subst (λ course. Follows course (λ (u : Unit {0}). ((after a).0.corners, on_cells held' (after a).1)) (read_by means result) now new)
            (sym (puts kind stays a ∙ ap (λ y. course_map (λ m. ((after a).0.corners, m)) (course_map (λ cells. record (on_cells held (after a).1) { cells = cells }) (push true (cell_output streams) y (map_holdings f held)))) same))
            (follows-map (λ m. ((after a).0.corners, m)) (course_map (λ cells. record (on_cells held (after a).1) { cells = cells }) (push true (cell_output streams) (f x) (map_holdings f held)))
            (λ (u : Unit {0}). on_cells held' (after a).1) (read_by means result) now new
            (follows-map (λ cells. record (on_cells held (after a).1) { cells = cells }) (push true (cell_output streams) (f x) (map_holdings f held))
            (λ (u : Unit {0}). map_holdings f held') (read_by means result) now new
            (put-follows result moved memory full))))
          where
            put-follows : (r : Result (Unit {0}) E) → OnOk r (held' ≡ pushed held (cell_output streams) x) → IfErr r (λ e. means e ≡ wanting) → OnErr r (room (cell_output streams) ≡ 0)
                → Follows (push true (cell_output streams) (f x) (map_holdings f held)) (λ (u : Unit {0}). map_holdings f held') (read_by means r) now new
            put-follows (Ok u) moved memory full =
                let push_is = push-is f true (cell_output streams) x held fits in
                record {
                  ends = ap (λ course. course.ending) push_is ∙ ap (λ h. done (map_holdings f h)) (sym moved);
                  told = subst (λ text. Adds new text new) (sym (ap (λ course. course.text) push_is)) (adds-nothing new);
                }
            put-follows (Err e) moved memory full =
                let s = cell_output streams in
                let push_is = push-is f true s x held fits in
                let pushing : Push = record { of_cell = true; stack = s; length = len_at held s + 1 } in
                subst (λ failure. Follows (push true s (f x) (map_holdings f held)) (λ (u : Unit {0}). map_holdings f held') (Err failure) now new) (sym memory)
                (record {
                  told = part-nothing new (push true s (f x) (map_holdings f held)).text;
                  room = λ certain. subst (λ log. HasOverfull now log) (sym (ap (λ course. course.log) push_is))
                      (pushing, (0, omega arith, refl), (let cells : held_by held room s < len_at held s + 1 = omega (arith, full) in subst (λ fnd. fnd.cells s < len_at held s + 1) (sym known) cells));
                })

-- the events of a cell that is left
module _ {Plan : Type 0} (set : Setting Plan) (cell : Place) (own : Own) (family : Family) where
  leaving : (k : Kind) → (k ≡ Dying → ⊥) → leave_touch set k cell own family ≡ cell_event set LeaveCell cell (own, family)
  leaving Kept stays = refl
  leaving Born stays = refl
  leaving Dying stays = absurd (stays refl)
  leaving Hanging stays = refl

  pub leave-stays : {A : Type 0} (kind : Kind) (after : A → Own × Family) (answer : Result A Failure) (found : BeforeCall) (new : Told) → (kind ≡ Dying → ⊥)
      → Follows (cell_event set LeaveCell cell (own, family)) after answer found new → Follows (leave_touch set kind cell own family) after answer found new
  leave-stays kind after answer found new stays is = subst (λ course. Follows course after answer found new) (sym (leaving kind stays)) is

  pub leave-dies : {A : Type 0} (kind : Kind) (after : A → Own × Family) (answer : Result A Failure) (found : BeforeCall) (new : Told) → kind ≡ Dying
      → Follows (and_then (cell_event set LeaveCell cell (own, family)) (cell_event set DestroyCell cell)) after answer found new → Follows (leave_touch set kind cell own family) after answer found new
  leave-dies kind after answer found new dies is = subst (λ k. Follows (leave_touch set k cell own family) after answer found new) (sym dies) is

  pub leave-fails : {A B : Type 0} (kind : Kind) (after : A → Own × Family) (after' : B → Own × Family) (failure : Failure) (found : BeforeCall) (new : Told)
      → Follows (cell_event set LeaveCell cell (own, family)) after (Err failure) found new → Follows (leave_touch set kind cell own family) after' (Err failure) found new
  leave-fails kind after after' failure found new is = at kind
    where
      same : (e : Failure) → Follows (cell_event set LeaveCell cell (own, family)) after (Err e) found new → Follows (cell_event set LeaveCell cell (own, family)) after' (Err e) found new
      same (halted cause) it = it
      same unwritten it = it
      same wanting it = it
      same unheard_of it = it

      at : (k : Kind) → Follows (leave_touch set k cell own family) after' (Err failure) found new
      at Kept = same failure is
      at Born = same failure is
      at Hanging = same failure is
      at Dying =
          leads_err (cell_event set LeaveCell cell (own, family)) (cell_event set DestroyCell cell) after after' failure new
          (leads_start (and_then (cell_event set LeaveCell cell (own, family)) (cell_event set DestroyCell cell)) found) is

-- a record that is out may be given up
pub give_up-fits : {X Y : Type 0} (f : X → Y) (held : Holdings X) → 0 < held.out → Fits (give_up (map_holdings f held))
give_up-fits f held some = ap (λ t. is_fit (allowed t (at_once (given_up (map_holdings f held)))).ending) (lt-ltb 0 held.out some)

-- a record that is made fresh
pub fresh-is : {C : Type 0} (f : C → List ℤ) (corners parents : List VertexRecord) (parent list : List ℤ) (fresh : Fresh) (payload : C) (made handed : CellRec C)
    → f payload ≡ fresh.numbers → list ≡ fresh.list → made ≡ (record { payload = payload }) → handed ≡ made
    → (let it : Own × Family = (record { cell = fresh.numbers; corners = corners }, record { parents = parents; parent = parent; list = fresh.list }) in it)
    ≡ (record { cell = f handed.payload; corners = corners }, record { parents = parents; parent = parent; list = list })
fresh-is f corners parents parent list fresh payload made handed numbers after is same =
    ap (λ ns. (let it : Own × Family = (record { cell = ns; corners = corners }, record { parents = parents; parent = parent; list = fresh.list }) in it))
    (sym numbers ∙ ap (λ (r : CellRec _). f r.payload) (sym is ∙ sym same))
    ∙ ap (λ l. (let it : Own × Family = (record { cell = f handed.payload; corners = corners }, record { parents = parents; parent = parent; list = l }) in it)) (sym after)

-- a cell is counted
module _ {Plan : Type 0} (set : Setting Plan) (streams : StreamStacks) (cell : Place) (m : Machine) where
  abbrev counted : Machine
  counted = record m { tally = tally_cell cell m.tally }

  abbrev counts : Course Machine
  counts = count_cell set streams cell m

  first-of : (a b c d e h : Bool) → (a && b && c && d && e && h) ≡ true → a ≡ true
  first-of true b c d e h is = refl
  first-of false b c d e h is = is

  pub count-may : Fits counts → m.tally.cells < 2 ^ 63
  count-may fits =
      ltb-true m.tally.cells (2 ^ 63)
      (first-of (may_rise m.tally.cells) (may_rise m.tally.read) (may_rise m.tally.written) (may_rise m.tally.created) (may_rise m.tally.destroyed) (may_rise m.tally.hanging)
      (allowed-fits (tally_may_rise m.tally) (within_limit set streams cell counted (nat_lt set.max_cells counted.tally.cells)) fits))

  counts-is : Fits counts → (t : Bool) → nat_lt set.max_cells counted.tally.cells ≡ t → counts ≡ within_limit set streams cell counted t
  counts-is fits t is =
      allowed-is (tally_may_rise m.tally) (within_limit set streams cell counted (nat_lt set.max_cells counted.tally.cells)) fits
      ∙ ap (within_limit set streams cell counted) is

  not-above : (a b : ℕ) → a ≤ b → nat_lt b a ≡ false
  not-above a b few = grind (arith, nat_tests)

  pub counts-on : (found : BeforeCall) → Fits counts → counted.tally.cells ≤ set.max_cells → Follows counts (λ (u : Unit {0}). counted) (Ok tt) found found.told
  counts-on found fits few =
      let is = counts-is fits false (not-above counted.tally.cells set.max_cells few) in
      record {
        ends = ap (λ c. c.ending) is;
        told = subst (λ text. Adds found.told text found.told) (sym (ap (λ c. c.text) is)) (adds-nothing found.told);
      }

  pub counts-past : {A : Type 0} (after : A → Machine) (found : BeforeCall) → Fits counts → set.max_cells < counted.tally.cells → Follows counts after (Err (halted (limit_at cell))) found found.told
  counts-past after found fits past =
      let is = counts-is fits true (lt-ltb set.max_cells counted.tally.cells past) in
      record {
        ends = ap (λ c. c.ending) is;
        told = subst (λ text. Adds found.told text found.told) (sym (ap (λ c. c.text) is)) (adds-nothing found.told);
      }
