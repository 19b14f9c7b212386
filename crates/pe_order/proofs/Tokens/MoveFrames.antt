-- What a load, a store, the entering of a cell and its leaving change, and what they leave.
use Rattle.std.proofs.Common.{◌≡◌, inl, inr, ℕ, ◌+◌, ◌-◌, ◌^◌, ◌<◌, ◌≤◌, Bool, true, false, not, ◌&&◌, ◌==◌, List, [], ◌∷◌, Option, Some, None, refl, sym, ap, ◌∙◌, subst, arith}
use Rattle.std.specs.Prelude.{nat_lt, is_none, if◌then◌else◌}
use Rattle.std.proofs.lemmas.Bool.Decides.{nat_tests}
use Rattle.std.proofs.lemmas.List.Sums.{sum_by-set}
use Rattle.std.proofs.lemmas.Bool.{eq-eqb, ne_eqb, eqb-true, cases_eq}
use Rattle.pe_base.specs.declared.place.Place.{Place}
use Rattle.pe_base.specs.Tree.Dim.{IsDim}
use Rattle.pe_base.specs.Tree.Places.{is_same}
use Rattle.pe_base.specs.Steps.Faces.{Touch}
use Rattle.pe_base.specs.Steps.Stacks.{is_stack}
use Rattle.pe_base.proofs.Tree.Ranks.{same_places}
use Rattle.pe_stacks.specs.Holdings.{Holdings, new_stack, stack_count, stack_at, items_at, lent, given_up, pushed, popped, pushed_on}
use Rattle.pe_stacks.specs.Grid.{cell_input_stack, cell_output_stack}
use Rattle.pe_order.specs.Laws.{IsCell}
use Rattle.pe_order.specs.Tokens.{Outlook, Tokens, one_more, one_less, cells_before, is_top, given, taken, put, source, target, cell_source, cell_target, touch_of, load_it, load, store_it, store, enter, leave}
use Rattle.pe_order.specs.Apart.{lies}
use Rattle.pe_order.specs.Frames.{loaded_from, stored_to, AfterLoad, AfterStore, AfterEnter, AfterLeave, HasStacks, WhatStepsChange}
use Rattle.pe_order.proofs.Tokens.Stacks.{popped_same, popped_other}
use Rattle.pe_order.proofs.Tokens.Loads.{put_to}
use Rattle.pe_order.proofs.Tokens.Walks.{goes_within, cell_goes}
use Rattle.pe_order.proofs.Tokens.Keeping.{given_some}
use Rattle.pe_order.proofs.Tokens.Apart.{map_some, one_if, there, taken_was, one_more_is}
use Rattle.pe_order.proofs.Tokens.DepotCounts.{take_counts, put_counts}
use Rattle.pe_order.proofs.Tokens.CountLists.{count-cons}
use Rattle.pe_order.proofs.Tokens.Bounds.{counted_stack}

-- what is taken was on top of its stack
taken_items : (from : Option ℕ) (place : Place) (held after : Holdings Place) → taken from place held ≡ Some after → (s : ℕ) → items_at held s ≡ (if is_stack s from then place ∷ items_at after s else items_at after s)
taken_items None place held after e s = let same : lent held ≡ after = cc in ap (λ h. items_at h s) same
taken_items (Some w) place held after e s = go (items_at held w) refl e
  where
    go : (xs : List Place) → items_at held w ≡ xs → given (is_top place xs) (Some (popped held w)) ≡ Some after → items_at held s ≡ (if s == w then place ∷ items_at after s else items_at after s)
    go [] k f = absurd cc
    go (x ∷ xs) k f =
        let g = given_some (is_top place (x ∷ xs)) (Some (popped held w)) after f in
        let same : popped held w ≡ after = cc (g.1) in
        subst (λ (h : Holdings Place). items_at held s ≡ (if s == w then place ∷ items_at h s else items_at h s)) same (elim (cases_eq s w) [
          | inl e ↦ ap (items_at held) e ∙ k ∙ ap (λ p. p ∷ xs) (same_places x place g.0) ∙ ap (λ ys. place ∷ ys) (sym (ap (items_at (popped held w)) e ∙ popped_same held w x xs k))
              ∙ ap (λ b. if b then place ∷ items_at (popped held w) s else items_at (popped held w) s) (sym (eq-eqb s w e))
          | inr e ↦ sym (popped_other held w s e) ∙ ap (λ b. if b then place ∷ items_at (popped held w) s else items_at (popped held w) s) (sym (ne_eqb s w e))
        ])

taken_lies : (from : Option ℕ) (place : Place) (held after : Holdings Place) → taken from place held ≡ Some after → (q : Place) → lies after q + one_if (not (is_none from) && is_same place q) ≡ lies held q
taken_lies None place held after e q = let same : lent held ≡ after = cc in ap (λ h. lies h q + 0) (sym same) ∙ omega arith
taken_lies (Some s) place held after e q = elim (taken_was (Some s) place held after e) [
  | inl new ↦ absurd (let none : Some s ≡ None = new.0 in cc)
  | inr lay ↦ lay q
]

-- a place that is pushed lies once more, and no other
pub pushed_once : (s : ℕ) (place q : Place) (held : Holdings Place) → s < stack_count held → lies (pushed held s place) q ≡ lies held q + one_if (is_same place q)
pushed_once s place q held within =
    omega (
      arith,
      sum_by-set (there q) held.stacks s (pushed_on (stack_at held s) place) new_stack within,
      count-cons (λ other. is_same other q) place (items_at held s),
    )

put_lies : (to : Option ℕ) (place : Place) (held : Holdings Place) → ((s : ℕ) → to ≡ Some s → s < stack_count held) → (q : Place) → lies (put to place held) q ≡ lies held q + one_if (not (is_none to) && is_same place q)
put_lies None place held within q = omega arith
put_lies (Some s) place held within q = pushed_once s place q held (within s refl)

module _ (o : Outlook) where
  -- with the test of what counts taken apart
  pub record LoadBy (touch : Touch) (t after : Tokens) (b : Bool) : Type 0 where
    pub due : b ≡ true → t.met touch.vertex ≡ cells_before o.axes o.way touch
    pub vertices : taken (if b then source o touch else None) touch.vertex t.vertices ≡ Some after.vertices
    pub cells : after.cells ≡ t.cells
    pub held : (q : Place) → after.held q ≡ t.held q + one_if (b && is_same touch.vertex q)
    pub met : (q : Place) → after.met q ≡ t.met q + one_if (b && is_same touch.vertex q)
    pub its_met : after.met ≡ (if b then one_more touch.vertex t.met else t.met)

  pub load_by : (cell : Place) (k : ℕ) (t after : Tokens) (b : Bool) → (if b then load_it o (touch_of o cell k) t else (Some (record t { vertices = lent t.vertices }))) ≡ Some after → LoadBy (touch_of o cell k) t after b
  load_by cell k t after true e =
      let touch = touch_of o cell k in
      let g = given_some (t.met touch.vertex == cells_before o.axes o.way touch) _ after e in
      let m = map_some (λ h. record { vertices = h; cells = t.cells; held = one_more touch.vertex t.held; met = one_more touch.vertex t.met }) (taken (source o touch) touch.vertex t.vertices) after g.1 in
      subst (λ a. LoadBy touch t a true) m.2 (record {
        due = λ c. eqb-true (t.met touch.vertex) (cells_before o.axes o.way touch) g.0;
        vertices = m.1;
        cells = refl;
        held = λ q. one_more_is touch.vertex q t.held;
        met = λ q. one_more_is touch.vertex q t.met;
        its_met = refl;
      })
  load_by cell k t after false e =
      let made : Tokens = record t { vertices = lent t.vertices } in
      let same : made ≡ after = cc in
      subst (λ a. LoadBy (touch_of o cell k) t a false) same (record {
        due = λ c. absurd cc;
        vertices = refl;
        cells = refl;
        held = λ q. omega arith;
        met = λ q. omega arith;
        its_met = refl;
      })

  counted_some : (b : Bool) (from : Option ℕ) → not (is_none (if b then from else None)) ≡ not (not (b && not (is_none from)))
  counted_some true None = refl
  counted_some true (Some s) = refl
  counted_some false from = refl

  pub after_load : (cell : Place) (k : ℕ) (t after : Tokens) → load o cell k t ≡ Some after → AfterLoad o (touch_of o cell k) t after
  after_load cell k t after e =
      let touch = touch_of o cell k in
      let by = load_by cell k t after (o.counts touch.vertex) e in
      let took = take_counts (loaded_from o touch) touch.vertex t.vertices after.vertices by.vertices in
      record {
        due = by.due;
        vertices = by.vertices;
        cells = by.cells;
        held = by.held;
        met = by.met;
        stacks = took.stacks;
        out = took.out;
        items = λ s. taken_items (loaded_from o touch) touch.vertex t.vertices after.vertices by.vertices s
            ∙ ap (λ b. if b then touch.vertex ∷ items_at after.vertices s else items_at after.vertices s) (counted_stack (o.counts touch.vertex) s (source o touch));
        its_lies = λ q. ap (λ b. lies after.vertices q + one_if (b && is_same touch.vertex q)) (sym (counted_some (o.counts touch.vertex) (source o touch)))
            ∙ taken_lies (loaded_from o touch) touch.vertex t.vertices after.vertices by.vertices q;
      }

  pub record StoreBy (touch : Touch) (t after : Tokens) (b : Bool) : Type 0 where
    pub was_held : b ≡ true → 1 ≤ t.held touch.vertex
    pub vertices : after.vertices ≡ put (if b then target o touch else None) touch.vertex t.vertices
    pub cells : after.cells ≡ t.cells
    pub held : (q : Place) → after.held q + one_if (b && is_same touch.vertex q) ≡ t.held q
    pub met : after.met ≡ t.met

  pub store_by : (cell : Place) (k : ℕ) (t after : Tokens) (b : Bool) → (if b then store_it o (touch_of o cell k) t else (Some (record t { vertices = given_up t.vertices }))) ≡ Some after → StoreBy (touch_of o cell k) t after b
  store_by cell k t after true e =
      let touch = touch_of o cell k in
      let stored : Tokens = record t { vertices = put (target o touch) touch.vertex t.vertices; held = one_less touch.vertex t.held } in
      let g = given_some (nat_lt 0 (t.held touch.vertex)) (Some stored) after e in
      let same : stored ≡ after = cc (g.1) in
      let some : 0 < t.held touch.vertex = positive (t.held touch.vertex) g.0 in
      subst (λ a. StoreBy touch t a true) same (record {
        was_held = λ c. some;
        vertices = refl;
        cells = refl;
        held = λ q. less q some (is_same touch.vertex q) refl;
        met = refl;
      })
    where
      positive : (n : ℕ) → nat_lt 0 n ≡ true → 0 < n
      positive n h = grind (arith, nat_tests)

      less : (q : Place) → 0 < t.held (touch_of o cell k).vertex → (b : Bool) → is_same (touch_of o cell k).vertex q ≡ b → (if b then t.held q - 1 else t.held q) + one_if b ≡ t.held q
      less q h true e = omega (arith, h, ap t.held (same_places (touch_of o cell k).vertex q e))
      less q h false e = omega arith
  store_by cell k t after false e =
      let gone : Tokens = record t { vertices = given_up t.vertices } in
      let same : gone ≡ after = cc in
      subst (λ a. StoreBy (touch_of o cell k) t a false) same (record {
        was_held = λ c. absurd cc;
        vertices = refl;
        cells = refl;
        held = λ q. omega arith;
        met = refl;
      })

  counted_goes : (b : Bool) (to : Option ℕ) (n : ℕ) → ((s : ℕ) → to ≡ Some s → s < n) → (s : ℕ) → (if b then to else None) ≡ Some s → s < n
  counted_goes true to n h s e = h s e
  counted_goes false to n h s e = absurd (let none : None ≡ Some s = e in cc)

  pub after_store : IsDim o.axes → (cell : Place) (k : ℕ) (t after : Tokens) → IsCell o.axes o.way cell → k < 2 ^ o.axes → HasStacks t → store o cell k t ≡ Some after → AfterStore o (touch_of o cell k) t after
  after_store dim cell k t after is small has e =
      let touch = touch_of o cell k in
      let by = store_by cell k t after (o.counts touch.vertex) e in
      let within = counted_goes (o.counts touch.vertex) (target o touch) (stack_count t.vertices) (λ s h. subst (λ n. s < n) (sym has.vertices) (goes_within o dim cell is k small s h)) in
      let gave = put_counts (stored_to o touch) touch.vertex t.vertices within in
      let laid = put_to (stored_to o touch) touch.vertex t.vertices within in
      record {
        was_held = by.was_held;
        vertices = by.vertices;
        cells = by.cells;
        held = by.held;
        met = by.met;
        stacks = ap stack_count by.vertices ∙ gave.stacks;
        out = ap (λ h. h.out) by.vertices ∙ gave.out;
        items = λ s. ap (λ h. items_at h s) by.vertices ∙ laid.1 s ∙ ap (λ b. if b then touch.vertex ∷ items_at t.vertices s else items_at t.vertices s) (counted_stack (o.counts touch.vertex) s (target o touch));
        its_lies = λ q. ap (λ h. lies h q) by.vertices ∙ put_lies (stored_to o touch) touch.vertex t.vertices within q
            ∙ ap (λ b. lies t.vertices q + one_if (b && is_same touch.vertex q)) (counted_some (o.counts touch.vertex) (target o touch));
      }

  is_given : (b : Bool) (s : ℕ) → not (is_none (given b (Some s))) ≡ b
  is_given true s = refl
  is_given false s = refl

  pub after_enter : (cell : Place) (t after : Tokens) → enter o cell t ≡ Some after → AfterEnter o cell t after
  after_enter cell t after e =
      let m = map_some (λ cells. record t { cells = cells }) (taken (cell_source o cell) cell t.cells) after e in
      let took = take_counts (cell_source o cell) cell t.cells m.0 m.1 in
      subst (AfterEnter o cell t) m.2 (record {
        vertices = refl;
        held = refl;
        met = refl;
        cells = m.1;
        stacks = took.stacks;
        out = took.out;
        items = taken_items (cell_source o cell) cell t.cells m.0 m.1;
        its_lies = λ x. ap (λ b. lies m.0 x + one_if (b && is_same cell x)) (sym (is_given (o.reads_cell cell) (cell_input_stack o.swapped))) ∙ taken_lies (cell_source o cell) cell t.cells m.0 m.1 x;
      })

  pub after_leave : IsDim o.axes → (cell : Place) (t after : Tokens) → HasStacks t → leave o cell t ≡ Some after → AfterLeave o cell t after
  after_leave dim cell t after has e =
      let left : Tokens = record t { cells = put (cell_target o cell) cell t.cells } in
      let same : left ≡ after = cc in
      let within : (s : ℕ) → cell_target o cell ≡ Some s → s < stack_count t.cells = λ s h. subst (λ n. s < n) (sym has.cells) (cell_goes o dim cell s h) in
      let gave = put_counts (cell_target o cell) cell t.cells within in
      let laid = put_to (cell_target o cell) cell t.cells within in
      subst (AfterLeave o cell t) same (record {
        vertices = refl;
        held = refl;
        met = refl;
        cells = refl;
        stacks = gave.stacks;
        out = gave.out;
        items = laid.1;
        its_lies = λ x. put_lies (cell_target o cell) cell t.cells within x ∙ ap (λ b. lies t.cells x + one_if (b && is_same cell x)) (is_given (o.writes_cell cell) (cell_output_stack o.swapped));
      })

pub what_moves_change : WhatStepsChange
what_moves_change o dim = record { loads = after_load o; stores = after_store o dim; enters = after_enter o; leaves = after_leave o dim }
