-- What is foreseen of a traversal fits a walk, and so does what is stored.
use Rattle.std.proofs.Common.{◌≡◌, ◌⊎◌, inl, inr, ℕ, zero, suc, ◌-◌, ◌^◌, ◌<◌, ◌≤◌, Bool, true, false, not, ◌&&◌, ◌||◌, ◌==◌, List, [], ◌∷◌, Option, Some, None, refl, sym, ap, ◌∙◌, true≢false, arith}
use Rattle.std.specs.Prelude.{is_some, nat_lt, if◌then◌else◌}
use Rattle.std.specs.Option.{option_map, unwrap_or}
use Rattle.std.specs.List.{list_any, AllByRecursion as Each}
use Rattle.std.proofs.lemmas.Bool.Decides.{nat_tests}
use Rattle.std.proofs.lemmas.Bool.{and_parts, eqb-true, or_cases, or_right, or_left, cases_lt}
use Rattle.pe_base.specs.declared.place.Place.{Place}
use Rattle.pe_base.specs.declared.state.State.{State}
use Rattle.pe_base.specs.declared.state.State.TheVariants.{Unrefined, Refining}
use Rattle.pe_base.specs.declared.kind.Kind.{Kind}
use Rattle.pe_base.specs.declared.kind.Kind.TheVariants.{Kept, Born, Dying, Hanging}
use Rattle.pe_base.specs.Tree.Dim.{IsDim}
use Rattle.pe_base.specs.Tree.Places.{root, corners}
use Rattle.pe_base.specs.Tree.Ways.{way_of}
use Rattle.pe_base.specs.Life.States.{is_old, is_new}
use Rattle.pe_base.specs.Life.Kinds.{kind_from, is_hanging, is_inside}
use Rattle.pe_base.specs.Life.Carriers.{carriers, carrier_positions, passes}
use Rattle.pe_base.specs.Life.Table.{first_touch, is_settled}
use Rattle.pe_base.specs.Walk.Maps.{at}
use Rattle.pe_base.specs.Walk.Grids.{Grid, StoredVertex, state_in, is_stored_vertex, IsWellFormed}
use Rattle.pe_base.specs.Walk.Streams.{goes_below}
use Rattle.pe_base.specs.Walk.Foreseen.{next_traversal, was, will, will_on, kind_foreseen, counts, touched_state, old_foreseen, new_foreseen, walks, walked}
use Rattle.pe_base.proofs.Lists.{Each-all, Each-map}
use Rattle.pe_base.proofs.Walk.TableLaws.{first_touch_keeps_old}
use Rattle.pe_order.specs.Takings.{Grown}
use Rattle.pe_order.specs.Outlooks.{outlook, stored_outlook, stored_walked, IsNew, ForecastFits, StoredFits}
use Rattle.pe_order.proofs.Outlooks.{Carried, inside_place, carried_walk, carried_below, carried_counts, carried_within}
use Rattle.pe_base.proofs.Tests.{any_or}

-- what is known of a grid between two traversals, or before the first
pub record Sound (grid : Grid) : Type 0 where
  pub dim : IsDim grid.axes
  pub few : grid.greatest ≤ 20
  pub some : 1 ≤ grid.greatest
  pub stored : (vertex : Place) → is_some (at grid.vertices vertex) ≡ true → is_stored_vertex grid.axes (state_in grid) vertex ≡ true
  pub settled : (vertex : Place) (state : State) → state_in grid vertex ≡ Some state → is_settled state ≡ true
  pub finest : (vertex : Place) (state : State) → state_in grid vertex ≡ Some state → grid.greatest ≤ vertex.level → state ≡ Unrefined

pub formed : (grid : Grid) → IsWellFormed grid → Sound grid
formed grid is = record {
  dim = is.axes;
  few = is.few_levels;
  some = is.some_level;
  stored = λ v t. sym (is.vertices v) ∙ t;
  settled = is.settled;
  finest = is.finest;
}

nothing_stored : {X : Type 0} (o : Option X) → o ≡ None → is_some o ≡ true → ⊥
nothing_stored o e t = absurd (true≢false (sym t ∙ ap is_some e))

no_state : {X : Type 0} (f : X → State) (o : Option X) (s : State) → o ≡ None → option_map f o ≡ Some s → ⊥
no_state f o s e k = let h : None ≡ Some s = sym (ap (option_map f) e) ∙ k in absurd cc

pub fresh : (grid : Grid) → IsNew grid → Sound grid
fresh grid is = record {
  dim = is.axes;
  few = is.few_levels;
  some = is.some_level;
  stored = λ v t. absurd (nothing_stored (at grid.vertices v) (is.no_vertices v) t);
  settled = λ v s e. absurd (no_state (λ it. it.state) (at grid.vertices v) s (is.no_vertices v) e);
  finest = λ v s e h. absurd (no_state (λ it. it.state) (at grid.vertices v) s (is.no_vertices v) e);
}

pub any_weaker : {X : Type 0} (p q : X → Bool) (P : X → Type 0) → ((x : X) → P x → p x ≡ true → q x ≡ true) → (xs : List X) → Each P xs → list_any p xs ≡ true → list_any q xs ≡ true
any_weaker p q P h [] e t = t
any_weaker p q P h (x ∷ xs) e t = go (p x) refl (q x) refl t (any_weaker p q P h xs e.1)
  where
    go : (a : Bool) → p x ≡ a → (b : Bool) → q x ≡ b → (a || list_any p xs) ≡ true → (list_any p xs ≡ true → list_any q xs ≡ true) → (b || list_any q xs) ≡ true
    go a k true l s more = refl
    go true k false l s more = absurd (true≢false (sym (h x e.0 k) ∙ l))
    go false k false l s more = more s

-- below level 1, what is inside is on level 2 or deeper
pub two_or_deeper : (axes : ℕ) (vertex : Place) → IsDim axes → is_inside axes vertex ≡ true → (vertex.level ≡ 1) ⊎ (2 ≤ vertex.level)
two_or_deeper axes vertex dim t =
    let at = inside_place axes vertex dim.1 t in
    go vertex.level (omega (arith, at.1 0 (omega (arith, dim.0)), at.0.inside 0 (omega (arith, dim.0))))
  where
    go : (n : ℕ) → 1 < 3 ^ n → (n ≡ 1) ⊎ (2 ≤ n)
    go zero h = absurd (omega arith)
    go (suc zero) h = inl refl
    go (suc (suc n)) h = inr (omega arith)

module _ (start_level : ℕ) (grid : Grid) (low : start_level ≤ grid.greatest) (sound : Sound grid) where
  abbrev active : Place → Bool
  active vertex = old_foreseen start_level grid vertex || new_foreseen start_level grid vertex

  started : (b : Bool) → is_old (if b then Refining else Unrefined) ≡ false
  started true = refl
  started false = refl

  -- old is as stored
  pub old_stored : (vertex : Place) → old_foreseen start_level grid vertex ≡ passes is_old (state_in grid vertex)
  old_stored vertex = go (at grid.vertices vertex) refl (will start_level grid vertex)
    where
      go : (o : Option StoredVertex) → at grid.vertices vertex ≡ o → (w : Bool)
          → is_old (touched_state start_level grid (kind_from (is_some o) w) vertex) ≡ passes is_old (option_map (λ it. it.state) o)
      go None e true = started (next_traversal grid == 1 && nat_lt vertex.level start_level)
      go None e false = refl
      go (Some it) e true = ap (λ o. is_old (first_touch (unwrap_or (option_map (λ it. it.state) o) Unrefined) Kept)) e
          ∙ (first_touch_keeps_old it.state (sound.settled vertex it.state (ap (option_map (λ it. it.state)) e))).0
      go (Some it) e false = ap (λ o. is_old (first_touch (unwrap_or (option_map (λ it. it.state) o) Unrefined) Dying)) e
          ∙ (first_touch_keeps_old it.state (sound.settled vertex it.state (ap (option_map (λ it. it.state)) e))).1

  active_counts : (vertex : Place) → active vertex ≡ true → counts start_level grid vertex ≡ true
  active_counts vertex t = go (kind_foreseen start_level grid vertex) t
    where
      go : (k : Kind) → (is_old (touched_state start_level grid k vertex) || is_new (touched_state start_level grid k vertex)) ≡ true → not (is_hanging k) ≡ true
      go Kept h = refl
      go Born h = refl
      go Dying h = refl
      go Hanging h = absurd (true≢false (sym h))

  active_within : (vertex : Place) → active vertex ≡ true → vertex.level < grid.greatest
  active_within vertex t = elim (cases_lt vertex.level grid.greatest) [
    | inl h ↦ h
    | inr h ↦ absurd (go (kind_foreseen start_level grid vertex) h t)
  ]
    where
      plain : grid.greatest ≤ vertex.level → unwrap_or (state_in grid vertex) Unrefined ≡ Unrefined
      plain h = of (state_in grid vertex) (λ s e. sound.finest vertex s e h)
        where
          of : (o : Option State) → ((s : State) → o ≡ Some s → s ≡ Unrefined) → unwrap_or o Unrefined ≡ Unrefined
          of None f = refl
          of (Some s) f = f s refl

      unstarted : (b : Bool) → (b ≡ true → 1 ≤ 0) → (is_old (if b then Refining else Unrefined) || is_new (if b then Refining else Unrefined)) ≡ true → ⊥
      unstarted true f e = omega (arith, f refl)
      unstarted false f e = true≢false (sym e)

      below_start : (b : Bool) (a c : ℕ) → c ≤ a → (b && nat_lt a c) ≡ true → 1 ≤ 0
      below_start b a c h e = let l : nat_lt a c ≡ true = (and_parts b _ e).1 in grind (arith, nat_tests)

      go : (k : Kind) → grid.greatest ≤ vertex.level → (is_old (touched_state start_level grid k vertex) || is_new (touched_state start_level grid k vertex)) ≡ true → ⊥
      go Kept h e = true≢false (sym e ∙ ap (λ s. is_old (first_touch s Kept) || is_new (first_touch s Kept)) (plain h))
      go Born h e = unstarted (next_traversal grid == 1 && nat_lt vertex.level start_level) (below_start (next_traversal grid == 1) vertex.level start_level (omega (arith, low))) e
      go Dying h e = true≢false (sym e ∙ ap (λ s. is_old (first_touch s Dying) || is_new (first_touch s Dying)) (plain h))
      go Hanging h e = true≢false (sym e)

  -- what counts is stored before or after
  stored_either : (vertex : Place) → counts start_level grid vertex ≡ true → (was start_level grid vertex ≡ true) ⊎ (will start_level grid vertex ≡ true)
  stored_either vertex t = go (was start_level grid vertex) (will start_level grid vertex) t
    where
      go : (a b : Bool) → not (is_hanging (kind_from a b)) ≡ true → (a ≡ true) ⊎ (b ≡ true)
      go true b h = inl refl
      go false true h = inr refl
      go false false h = absurd (true≢false (sym h))

  -- what will be stored is inside, and has a carrier that is new
  will_inside : (n : ℕ) (vertex : Place) → will_on start_level grid n vertex ≡ true → is_inside grid.axes vertex ≡ true
  will_inside zero vertex t = absurd (true≢false (sym t))
  will_inside (suc zero) vertex t = t
  will_inside (suc (suc n)) vertex t = (and_parts (is_inside grid.axes vertex) _ t).0

  pub counts_inside : (vertex : Place) → counts start_level grid vertex ≡ true → is_inside grid.axes vertex ≡ true
  counts_inside vertex t = elim (stored_either vertex t) [
    | inl h ↦ (and_parts (is_inside grid.axes vertex) _ (sound.stored vertex h)).0
    | inr h ↦ will_inside vertex.level vertex h
  ]

  pub carrier_levels : (vertex : Place) → Each (λ m. m.level ≡ vertex.level - 1) (carriers vertex)
  carrier_levels vertex = Each-map (λ m. m.level ≡ vertex.level - 1) (λ pos. record { level = vertex.level - 1; pos = pos }) (carrier_positions vertex.pos) (Each-all _ (λ pos. refl) (carrier_positions vertex.pos))

  carried : (vertex : Place) → counts start_level grid vertex ≡ true → (vertex.level ≡ 1) ⊎ ((2 ≤ vertex.level) × (list_any active (carriers vertex) ≡ true))
  carried vertex t = elim (two_or_deeper grid.axes vertex sound.dim (counts_inside vertex t)) [
    | inl h ↦ inl h
    | inr h ↦ inr (h, elim (stored_either vertex t) [ inl before ↦ by_old h before | inr after ↦ by_new vertex.level refl h after ])
  ]
    where
      by_old : 2 ≤ vertex.level → was start_level grid vertex ≡ true → list_any active (carriers vertex) ≡ true
      by_old deep h = elim (or_cases (vertex.level == 1) (list_any (λ m. passes is_old (state_in grid m)) (carriers vertex)) (and_parts (is_inside grid.axes vertex) _ (sound.stored vertex h)).1) [
        | inl e ↦ absurd (let one : vertex.level ≡ 1 = eqb-true vertex.level 1 e in omega arith)
        | inr e ↦ any_weaker (λ m. passes is_old (state_in grid m)) active (λ m. Unit {0}) (λ m u p. or_left (old_foreseen start_level grid m) _ (old_stored m ∙ p)) (carriers vertex) (Each-all _ (λ m. tt) (carriers vertex)) e
      ]

      by_new : (n : ℕ) → vertex.level ≡ n → 2 ≤ n → will_on start_level grid n vertex ≡ true → list_any active (carriers vertex) ≡ true
      by_new zero e deep h = absurd (omega arith)
      by_new (suc zero) e deep h = absurd (omega arith)
      by_new (suc (suc n)) e deep h =
          any_weaker (λ m. is_new (touched_state start_level grid (kind_from (was start_level grid m) (will_on start_level grid (suc n) m)) m)) active (λ m. m.level ≡ vertex.level - 1)
          (λ m level p. or_right (old_foreseen start_level grid m) _ (ap (λ k. is_new (touched_state start_level grid (kind_from (was start_level grid m) (will_on start_level grid k m)) m)) (let at : m.level ≡ suc n = omega (arith, level, e) in at) ∙ p))
          (carriers vertex) (carrier_levels vertex) (and_parts (is_inside grid.axes vertex) _ h).1

  walks_by : (cell : Place) → walks start_level grid cell ≡ (cell.level == 0 || list_any active (corners grid.axes cell))
  walks_by cell = go (cell.level == 0) (next_traversal grid == 1) ∙ ap (λ b. cell.level == 0 || b) (sym (any_or (old_foreseen start_level grid) (new_foreseen start_level grid) (corners grid.axes cell)))
    where
      both : (a b : Bool) → not (is_hanging (kind_from a b)) ≡ (a || b)
      both true true = refl
      both true false = refl
      both false true = refl
      both false false = refl

      go : (a b : Bool) → not (is_hanging (if a then (if b then Born else Kept) else kind_from (list_any (old_foreseen start_level grid) (corners grid.axes cell)) (list_any (new_foreseen start_level grid) (corners grid.axes cell))))
          ≡ (a || (list_any (old_foreseen start_level grid) (corners grid.axes cell) || list_any (new_foreseen start_level grid) (corners grid.axes cell)))
      go true true = refl
      go true false = refl
      go false b = both (list_any (old_foreseen start_level grid) (corners grid.axes cell)) (list_any (new_foreseen start_level grid) (corners grid.axes cell))

  pub forecast_carried : Carried grid.axes grid.greatest (counts start_level grid) active (walks start_level grid) (walked start_level grid)
  forecast_carried = record {
    dim = sound.dim;
    few = sound.few;
    some = sound.some;
    inside = counts_inside;
    carrier = carried;
    active_counts = active_counts;
    active_within = active_within;
    walks_by = walks_by;
    walked_by = λ cell. refl;
  }

  pub forecast_grown : (swapped : Bool) → Grown (outlook start_level grid swapped) (walked start_level grid) grid.greatest
  forecast_grown swapped =
      let way = way_of (next_traversal grid) in
      let c = forecast_carried in record {
        is_walk = carried_walk grid.axes grid.greatest (counts start_level grid) active (walks start_level grid) (walked start_level grid) way c;
        below = carried_below grid.axes grid.greatest (counts start_level grid) active (walks start_level grid) (walked start_level grid) way c;
        walks_within = carried_within grid.axes grid.greatest (counts start_level grid) active (walks start_level grid) (walked start_level grid) way c;
        counts_within = carried_counts grid.axes grid.greatest (counts start_level grid) active (walks start_level grid) (walked start_level grid) way c;
        root_unread = refl;
        root_unwritten = refl;
      }

-- what is stored
module _ (grid : Grid) (is : IsWellFormed grid) where
  abbrev refined : Place → Bool
  refined vertex = passes is_old (state_in grid vertex)

  abbrev here : Place → Bool
  here vertex = is_some (at grid.vertices vertex)

  refined_here : (vertex : Place) → refined vertex ≡ true → here vertex ≡ true
  refined_here vertex t = go (at grid.vertices vertex) t
    where
      go : (o : Option StoredVertex) → passes is_old (option_map (λ it. it.state) o) ≡ true → is_some o ≡ true
      go None h = absurd (true≢false (sym h))
      go (Some it) h = refl

  refined_within : (vertex : Place) → refined vertex ≡ true → vertex.level < grid.greatest
  refined_within vertex t = elim (cases_lt vertex.level grid.greatest) [
    | inl h ↦ h
    | inr h ↦ absurd (go (state_in grid vertex) (λ s e. is.finest vertex s e h) t)
  ]
    where
      go : (o : Option State) → ((s : State) → o ≡ Some s → s ≡ Unrefined) → passes is_old o ≡ true → ⊥
      go None f h = true≢false (sym h)
      go (Some s) f h = true≢false (sym h ∙ ap is_old (f s refl))

  stored_carrier : (vertex : Place) → here vertex ≡ true → (vertex.level ≡ 1) ⊎ ((2 ≤ vertex.level) × (list_any refined (carriers vertex) ≡ true))
  stored_carrier vertex t = elim (two_or_deeper grid.axes vertex is.axes (and_parts (is_inside grid.axes vertex) _ (sym (is.vertices vertex) ∙ t)).0) [
    | inl h ↦ inl h
    | inr h ↦ elim (or_cases (vertex.level == 1) (list_any refined (carriers vertex)) (and_parts (is_inside grid.axes vertex) _ (sym (is.vertices vertex) ∙ t)).1) [
      | inl e ↦ inl (eqb-true vertex.level 1 e)
      | inr e ↦ inr (h, e)
    ]
  ]

  pub stored_carried : Carried grid.axes grid.greatest here refined (goes_below grid) (stored_walked grid)
  stored_carried = record {
    dim = is.axes;
    few = is.few_levels;
    some = is.some_level;
    inside = λ v t. (and_parts (is_inside grid.axes v) _ (sym (is.vertices v) ∙ t)).0;
    carrier = stored_carrier;
    active_counts = refined_here;
    active_within = refined_within;
    walks_by = λ cell. refl;
    walked_by = λ cell. refl;
  }

  pub stored_grown : (swapped : Bool) → Grown (stored_outlook grid swapped) (stored_walked grid) grid.greatest
  stored_grown swapped =
      let way = way_of (next_traversal grid) in
      let c = stored_carried in record {
        is_walk = carried_walk grid.axes grid.greatest here refined (goes_below grid) (stored_walked grid) way c;
        below = carried_below grid.axes grid.greatest here refined (goes_below grid) (stored_walked grid) way c;
        walks_within = carried_within grid.axes grid.greatest here refined (goes_below grid) (stored_walked grid) way c;
        counts_within = carried_counts grid.axes grid.greatest here refined (goes_below grid) (stored_walked grid) way c;
        root_unread = is.cells root;
        root_unwritten = is.cells root;
      }

pub forecast_fits : ForecastFits
forecast_fits start_level grid swapped low is = elim is [
  | inl new ↦ forecast_grown start_level grid low (fresh grid new) swapped
  | inr formed_so ↦ forecast_grown start_level grid low (formed grid formed_so) swapped
]

pub stored_fits : StoredFits
stored_fits grid swapped is = stored_grown grid is swapped
