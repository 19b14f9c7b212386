-- The loads of a cell's corners take what comes off all stacks at once, and its stores put on what goes.
use Rattle.std.specs.List.{AllByRecursion as Each}
use Rattle.std.proofs.Common.{◌≡◌, ℕ, ◌+◌, ◌-◌, ◌<◌, ◌≤◌, inl, inr, Bool, true, false, cond, ◌&&◌, List, [], ◌∷◌, ◌++◌, map, filter, reverse, Option, Some, None, refl, sym, ap, ◌∙◌, subst, append_assoc, arith}
use Rattle.std.proofs.lemmas.List.{map-append}
use Rattle.std.proofs.lemmas.List.Elements.{filter-append}
use Rattle.pe_base.proofs.Lists.{reverse-cons}
use Rattle.std.specs.Prelude.{nat_lt, if◌then◌else◌}
use Rattle.std.specs.Option.{option_map, option_and_then}
use Rattle.std.proofs.lemmas.Bool.Decides.{nat_tests}
use Rattle.std.proofs.lemmas.Bool.{eq-eqb, ne_eqb, cases_eq}
use Rattle.pe_base.specs.declared.place.Place.{Place}
use Rattle.pe_base.specs.Tree.Places.{is_same}
use Rattle.pe_base.specs.Steps.Faces.{Touch}
use Rattle.pe_base.specs.Steps.Stacks.{is_stack}
use Rattle.pe_base.proofs.Steps.VertexTouches.{is_same_itself}
use Rattle.pe_stacks.specs.Holdings.{Holdings, stack_count, items_at, lent, given_up, pushed, popped}
use Rattle.pe_order.specs.Tokens.{Outlook, Tokens, one_more, one_less, cells_before, is_top, given, each_some, taken, put, source, target, touch_of, load_it, load, store_it, store}
use Rattle.pe_order.specs.Takings.{met_more, met_after, Due}
use Rattle.pe_order.proofs.Tokens.Stacks.{popped_same, popped_other, pushed_same, pushed_other, popped_count, pushed_count}

-- a place that is taken, and one that is put
pub taken_from : (from : Option ℕ) (place : Place) (held : Holdings Place) (rest : ℕ → List Place) → ((s : ℕ) → items_at held s ≡ (if is_stack s from then place ∷ rest s else rest s))
    → (after : Holdings Place) × (taken from place held ≡ Some after) × (stack_count after ≡ stack_count held) × ((s : ℕ) → items_at after s ≡ rest s)
taken_from None place held rest its = (lent held, refl, refl, its)
taken_from (Some w) place held rest its =
    let here : items_at held w ≡ place ∷ rest w = its w ∙ ap (λ b. if b then place ∷ rest w else rest w) (eq-eqb w w refl) in (
      popped held w,
      ap (λ xs. given (is_top place xs) (Some (popped held w))) here ∙ ap (λ b. given b (Some (popped held w))) (is_same_itself place),
      popped_count held w,
      (λ s. elim (cases_eq s w) [
        | inl e ↦ ap (items_at (popped held w)) e ∙ popped_same held w place (rest w) here ∙ ap rest (sym e)
        | inr e ↦ popped_other held w s e ∙ its s ∙ ap (λ b. if b then place ∷ rest s else rest s) (ne_eqb s w e)
      ]),
    )

pub put_to : (to : Option ℕ) (place : Place) (held : Holdings Place) → ((s : ℕ) → to ≡ Some s → s < stack_count held)
    → (stack_count (put to place held) ≡ stack_count held) × ((s : ℕ) → items_at (put to place held) s ≡ (if is_stack s to then place ∷ items_at held s else items_at held s))
put_to None place held within = (refl, (λ s. refl))
put_to (Some w) place held within = (
  pushed_count held w place,
  (λ s. elim (cases_eq s w) [
    | inl e ↦ ap (items_at (pushed held w place)) e ∙ pushed_same held w place (within w refl) ∙ ap (λ z. place ∷ items_at held z) (sym e)
        ∙ ap (λ b. if b then place ∷ items_at held s else items_at held s) (sym (eq-eqb s w e))
    | inr e ↦ pushed_other held w s place e ∙ ap (λ b. if b then place ∷ items_at held s else items_at held s) (sym (ne_eqb s w e))
  ]),
)

-- the vertices of some touches that pass a test
abbrev pub vertices_of : (Touch → Bool) → List Touch → List Place
vertices_of test touches = map (λ touch. touch.vertex) (filter test touches)

module _ (o : Outlook) where
  -- a vertex that counts comes from a stack, or goes to it, streams and all
  abbrev pub takes_by : ℕ → Touch → Bool
  takes_by s touch = o.counts touch.vertex && is_stack s (source o touch)

  abbrev pub gives_by : ℕ → Touch → Bool
  gives_by s touch = o.counts touch.vertex && is_stack s (target o touch)

  -- how often a vertex that counts is touched
  abbrev pub touched : Place → List Touch → ℕ
  touched place [] = 0
  touched place (touch ∷ touches) = if o.counts touch.vertex && is_same touch.vertex place then touched place touches + 1 else touched place touches

  -- what the loads of some corners do
  pub record Loaded (touches : List Touch) (rest : ℕ → List Place) (t after : Tokens) : Type 0 where
    pub stacks : stack_count after.vertices ≡ stack_count t.vertices
    pub vertices : (s : ℕ) → items_at after.vertices s ≡ rest s
    pub cells : after.cells ≡ t.cells
    pub met : after.met ≡ met_after o touches t.met
    pub held : (place : Place) → after.held place ≡ t.held place + touched place touches

  abbrev with_it : Touch → List Touch → Bool → List Place
  with_it touch kept b = map (λ e. e.vertex) (cond b (touch ∷ kept) kept)

  -- one load
  one_load : (cell : Place) (k : ℕ) (touches : List Touch) (rest : ℕ → List Place) (t : Tokens) → Due o (touch_of o cell k ∷ touches) t.met
      → ((s : ℕ) → items_at t.vertices s ≡ vertices_of (takes_by s) (touch_of o cell k ∷ touches) ++ rest s)
      → (after : Tokens) × (load o cell k t ≡ Some after) × Loaded (touch_of o cell k ∷ []) (λ s. vertices_of (takes_by s) touches ++ rest s) t after
  one_load cell k touches rest t due items = by_counting (o.counts v) refl due.0 items
    where
      touch : Touch
      touch = touch_of o cell k

      v : Place
      v = touch.vertex

      at_top : (b : Bool) (kept : List Touch) (more : List Place) → with_it touch kept b ++ more ≡ (if b then v ∷ (map (λ e. e.vertex) kept ++ more) else (map (λ e. e.vertex) kept ++ more))
      at_top true kept more = refl
      at_top false kept more = refl

      by_counting : (b : Bool) → o.counts v ≡ b → (o.counts v ≡ true → t.met v ≡ cells_before o.axes o.way touch)
          → ((s : ℕ) → items_at t.vertices s ≡ with_it touch (filter (takes_by s) touches) (o.counts v && is_stack s (source o touch)) ++ rest s)
          → (after : Tokens) × (load o cell k t ≡ Some after) × Loaded (touch ∷ []) (λ s. vertices_of (takes_by s) touches ++ rest s) t after
      by_counting true e d its =
          let step = taken_from (source o touch) v t.vertices (λ s. vertices_of (takes_by s) touches ++ rest s) (λ s. its s ∙ ap (λ b. with_it touch (filter (takes_by s) touches) (b && is_stack s (source o touch)) ++ rest s) e ∙ at_top (is_stack s (source o touch)) (filter (takes_by s) touches) (rest s)) in
          let after : Tokens = record { vertices = step.0; cells = t.cells; held = one_more v t.held; met = one_more v t.met } in (
            after,
            ap (λ b. if b then load_it o touch t else (Some (record t { vertices = lent t.vertices }))) e
                ∙ ap (λ b. given b (option_map (λ h. record { vertices = h; cells = t.cells; held = one_more v t.held; met = one_more v t.met }) (taken (source o touch) v t.vertices))) (eq-eqb (t.met v) (cells_before o.axes o.way touch) (d e))
                ∙ ap (option_map (λ h. record { vertices = h; cells = t.cells; held = one_more v t.held; met = one_more v t.met })) step.1,
            record {
              stacks = step.2;
              vertices = step.3;
              cells = refl;
              met = ap (λ b. if b then one_more v t.met else t.met) (sym e);
              held = λ place. one (is_same v place) (t.held place) ∙ ap (λ b. t.held place + (if b && is_same v place then 0 + 1 else 0)) (sym e);
            },
          )
        where
          one : (b : Bool) (n : ℕ) → (if b then n + 1 else n) ≡ n + (if b then 0 + 1 else 0)
          one true n = refl
          one false n = omega arith
      by_counting false e d its = (
        record t { vertices = lent t.vertices },
        ap (λ b. if b then load_it o touch t else (Some (record t { vertices = lent t.vertices }))) e,
        record {
          stacks = refl;
          vertices = λ s. its s ∙ ap (λ b. with_it touch (filter (takes_by s) touches) (b && is_stack s (source o touch)) ++ rest s) e;
          cells = refl;
          met = ap (λ b. if b then one_more v t.met else t.met) (sym e);
          held = λ place. (let z : t.held place ≡ t.held place + 0 = omega arith in z) ∙ ap (λ b. t.held place + (if b && is_same v place then 0 + 1 else 0)) (sym e);
        },
      )

  touched-more : (place : Place) (touch : Touch) (touches : List Touch) → touched place (touch ∷ touches) ≡ touched place (touch ∷ []) + touched place touches
  touched-more place touch touches = go (o.counts touch.vertex && is_same touch.vertex place) (touched place touches)
    where
      go : (b : Bool) (n : ℕ) → (if b then n + 1 else n) ≡ (if b then 0 + 1 else 0) + n
      go true n = omega arith
      go false n = omega arith

  -- the loads of some corners of a cell
  pub all_loads : (cell : Place) (ks : List ℕ) (rest : ℕ → List Place) (t : Tokens) → Due o (map (touch_of o cell) ks) t.met
      → ((s : ℕ) → items_at t.vertices s ≡ vertices_of (takes_by s) (map (touch_of o cell) ks) ++ rest s)
      → (after : Tokens) × (each_some (load o cell) ks t ≡ Some after) × Loaded (map (touch_of o cell) ks) rest t after
  all_loads cell [] rest t due its = (t, refl, record { stacks = refl; vertices = its; cells = refl; met = refl; held = λ place. omega arith })
  all_loads cell (k ∷ ks) rest t due its =
      let touches = map (touch_of o cell) ks in
      let one = one_load cell k touches rest t due its in
      let more = all_loads cell ks rest one.0 (subst (Due o touches) (sym one.2.met) due.1) one.2.vertices in (
        more.0,
        ap (option_and_then (each_some (load o cell) ks)) one.1 ∙ more.1,
        record {
          stacks = more.2.stacks ∙ one.2.stacks;
          vertices = more.2.vertices;
          cells = more.2.cells ∙ one.2.cells;
          met = more.2.met ∙ ap (met_after o touches) one.2.met;
          held = λ place. omega (arith, more.2.held place, one.2.held place, touched-more place (touch_of o cell k) touches);
        },
      )

  -- what the stores of some corners do
  pub record Stored (touches : List Touch) (t after : Tokens) : Type 0 where
    pub stacks : stack_count after.vertices ≡ stack_count t.vertices
    pub vertices : (s : ℕ) → items_at after.vertices s ≡ vertices_of (gives_by s) (reverse touches) ++ items_at t.vertices s
    pub cells : after.cells ≡ t.cells
    pub met : after.met ≡ t.met
    pub held : (place : Place) → after.held place + touched place touches ≡ t.held place

  -- the stack to which a corner goes is one of the depot's
  abbrev pub GoesWithin : ℕ → Place → ℕ → Type 0
  GoesWithin stacks cell k = (s : ℕ) → target o (touch_of o cell k) ≡ Some s → s < stacks

  -- one store
  one_store : (cell : Place) (k : ℕ) (t : Tokens) → GoesWithin (stack_count t.vertices) cell k → ((place : Place) → touched place (touch_of o cell k ∷ []) ≤ t.held place)
      → (after : Tokens) × (store o cell k t ≡ Some after) × Stored (touch_of o cell k ∷ []) t after
  one_store cell k t goes held = by_counting (o.counts v) refl
    where
      touch : Touch
      touch = touch_of o cell k

      v : Place
      v = touch.vertex

      on_top : (b : Bool) (more : List Place) → (if b then v ∷ more else more) ≡ with_it touch [] b ++ more
      on_top true more = refl
      on_top false more = refl

      above : (n : ℕ) → 0 < n → nat_lt 0 n ≡ true
      above n h = grind (arith, nat_tests)

      less : (b : Bool) (n : ℕ) → (if b then 0 + 1 else 0) ≤ n → (if b then n - 1 else n) + (if b then 0 + 1 else 0) ≡ n
      less true n h = omega arith
      less false n h = omega arith

      by_counting : (b : Bool) → o.counts v ≡ b → (after : Tokens) × (store o cell k t ≡ Some after) × Stored (touch ∷ []) t after
      by_counting true e =
          let step = put_to (target o touch) v t.vertices goes in
          let some : 0 < t.held v = subst (λ c. (if c then 0 + 1 else 0) ≤ t.held v) (is_same_itself v) (subst (λ b. (if b && is_same v v then 0 + 1 else 0) ≤ t.held v) e (held v)) in (
            record t { vertices = put (target o touch) v t.vertices; held = one_less v t.held },
            ap (λ b. if b then store_it o touch t else (Some (record t { vertices = given_up t.vertices }))) e
                ∙ ap (λ b. given b (Some (record t { vertices = put (target o touch) v t.vertices; held = one_less v t.held }))) (above (t.held v) some),
            record {
              stacks = step.0;
              vertices = λ s. step.1 s ∙ on_top (is_stack s (target o touch)) (items_at t.vertices s) ∙ ap (λ b. with_it touch [] (b && is_stack s (target o touch)) ++ items_at t.vertices s) (sym e);
              cells = refl;
              met = refl;
              held = λ place. ap (λ b. (if is_same v place then t.held place - 1 else t.held place) + (if b && is_same v place then 0 + 1 else 0)) e
                  ∙ less (is_same v place) (t.held place) (subst (λ b. (if b && is_same v place then 0 + 1 else 0) ≤ t.held place) e (held place));
            },
          )
      by_counting false e = (
        record t { vertices = given_up t.vertices },
        ap (λ b. if b then store_it o touch t else (Some (record t { vertices = given_up t.vertices }))) e,
        record {
          stacks = refl;
          vertices = λ s. ap (λ b. with_it touch [] (b && is_stack s (target o touch)) ++ items_at t.vertices s) (sym e);
          cells = refl;
          met = refl;
          held = λ place. ap (λ b. t.held place + (if b && is_same v place then 0 + 1 else 0)) e ∙ (let z : t.held place + 0 ≡ t.held place = omega arith in z);
        },
      )

  -- the stores of some corners of a cell
  pub all_stores : (cell : Place) (ks : List ℕ) (t : Tokens) → Each (GoesWithin (stack_count t.vertices) cell) ks → ((place : Place) → touched place (map (touch_of o cell) ks) ≤ t.held place)
      → (after : Tokens) × (each_some (store o cell) ks t ≡ Some after) × Stored (map (touch_of o cell) ks) t after
  all_stores cell [] t goes held = (t, refl, record { stacks = refl; vertices = λ s. refl; cells = refl; met = refl; held = λ place. omega arith })
  all_stores cell (k ∷ ks) t goes held =
      let touch = touch_of o cell k in
      let touches = map (touch_of o cell) ks in
      let one = one_store cell k t goes.0 (λ place. omega (arith, held place, touched-more place touch touches)) in
      let more = all_stores cell ks one.0 (subst (λ n. Each (GoesWithin n cell) ks) (sym one.2.stacks) goes.1) (λ place. omega (arith, held place, one.2.held place, touched-more place touch touches)) in (
        more.0,
        ap (option_and_then (each_some (store o cell) ks)) one.1 ∙ more.1,
        record {
          stacks = more.2.stacks ∙ one.2.stacks;
          vertices = λ s. more.2.vertices s ∙ ap (λ xs. vertices_of (gives_by s) (reverse touches) ++ xs) (one.2.vertices s)
              ∙ sym (append_assoc (vertices_of (gives_by s) (reverse touches)) (vertices_of (gives_by s) (touch ∷ [])) (items_at t.vertices s))
              ∙ ap (λ xs. xs ++ items_at t.vertices s) (sym (map-append (λ e. e.vertex) (filter (gives_by s) (reverse touches)) (filter (gives_by s) (touch ∷ [])))
              ∙ ap (map (λ e. e.vertex)) (sym (filter-append (gives_by s) (reverse touches) (touch ∷ [])) ∙ ap (filter (gives_by s)) (sym (reverse-cons touch touches))));
          cells = more.2.cells ∙ one.2.cells;
          met = more.2.met ∙ one.2.met;
          held = λ place. omega (arith, more.2.held place, one.2.held place, touched-more place touch touches);
        },
      )

  touched-append : (place : Place) (xs ys : List Touch) → touched place (xs ++ ys) ≡ touched place xs + touched place ys
  touched-append place [] ys = omega arith
  touched-append place (x ∷ xs) ys = omega (arith, touched-more place x (xs ++ ys), touched-more place x xs, touched-append place xs ys)

  pub touched-reverse : (place : Place) (xs : List Touch) → touched place (reverse xs) ≡ touched place xs
  touched-reverse place [] = refl
  touched-reverse place (x ∷ xs) = ap (touched place) (reverse-cons x xs) ∙ omega (arith, touched-append place (reverse xs) (x ∷ []), touched-reverse place xs, touched-more place x xs)

  -- met and due, one part after another
  pub met-append : (xs ys : List Touch) (met : Place → ℕ) → met_after o (xs ++ ys) met ≡ met_after o ys (met_after o xs met)
  met-append [] ys met = refl
  met-append (x ∷ xs) ys met = met-append xs ys (met_more o x met)

  pub due-split : (xs ys : List Touch) (met : Place → ℕ) → Due o (xs ++ ys) met → Due o xs met × Due o ys (met_after o xs met)
  due-split [] ys met d = (tt, d)
  due-split (x ∷ xs) ys met d = let rest = due-split xs ys (met_more o x met) d.1 in ((d.0, rest.0), rest.1)
