-- Stacks cut off: each keeps what is on top of it. A cell that may be walked on them leaves what lay beneath.
use Rattle.std.proofs.Common.{◌≡◌, ℕ, ℤ, zero, suc, ◌+◌, ◌≤◌, Bool, true, false, cond, ◌&&◌, List, [], ◌∷◌, ◌++◌, map, length, slice_index_or, Option, None, refl, sym, ap, ap₂, subst, ◌∙◌, append-nil, arith}
use Rattle.std.specs.Prelude.{nat_lt, if◌then◌else◌, sum_by}
use Rattle.std.proofs.lemmas.Bool.{lt-ltb}
use Rattle.std.proofs.lemmas.List.{map-append}
use Rattle.std.proofs.lemmas.List.Sums.{sum_by-cons, sum_by-append}
use Rattle.pe_base.specs.declared.place.Place.{Place}
use Rattle.pe_base.specs.Tree.Places.{is_same}
use Rattle.pe_base.specs.Acts.Effects.{VertexRecord}
use Rattle.pe_base.specs.Walk.Maps.{Map, at as found_at, removed}
use Rattle.pe_base.specs.Walk.Course.{Ending, done, halts, stuck}
use Rattle.pe_base.specs.Walk.Core.{Setting}
use Rattle.pe_base.specs.Walk.Working.{Working}
use Rattle.pe_base.specs.Walk.Walk as model
use Rattle.pe_base.proofs.Tree.Ranks.{same_places}
use Rattle.pe_base.proofs.Walk.MapLaws.{at-removed}
use Rattle.pe_stacks.specs.Holdings.{Stack, Holdings, new_stack, stack_count, stack_at, items_at}
use Rattle.pe_hang.specs.InHand.{map_stack, map_holdings}
use Rattle.pe_hang.proofs.OnStacks.{stack_count-map, stack_at-map}
use Rattle.pe_adapt.specs.CountedTouches.{Machine}
use Rattle.pe_order.specs.Apart.{lies}
use Rattle.pe_walk.specs.Machine as machine
use Rattle.pe_walk.specs.Standing.{times}
use Rattle.pe_walk.specs.Gridded.{stream_stacks_of}
use Rattle.pe_walk.specs.FaceLaw.{Moment, MayWalk, CellEndsAlike}
use Rattle.pe_walk.specs.Beneath.{StackOver, IsOver, LiesOver, WalksOver, KeepsBeneath}
use Rattle.pe_walk.proofs.Simulation.Matching.{done_same}
use Rattle.pe_walk.proofs.Simulation.Beneath.{beneath_is_left}
use Rattle.pe_walk.proofs.Simulation.FaceLaw.{law_of_a_face}

-- # Stacks of places
-- each stack with these places alone, and what they had beneath
abbrev pub cut_from : (ℕ → List Place) → ℕ → List (Stack Place) → List (Stack Place)
cut_from tops n [] = []
cut_from tops n (stack ∷ stacks) = record stack { items = tops n } ∷ cut_from tops (n + 1) stacks

abbrev pub below_from : (ℕ → List Place) → ℕ → List (Stack Place) → List Place
below_from beneath n [] = []
below_from beneath n (stack ∷ stacks) = beneath n ++ below_from beneath (n + 1) stacks

cut_count : (tops : ℕ → List Place) (n : ℕ) (stacks : List (Stack Place)) → length (cut_from tops n stacks) ≡ length stacks
cut_count tops n [] = refl
cut_count tops n (stack ∷ stacks) = ap suc (cut_count tops (n + 1) stacks)

cut_at : (tops : ℕ → List Place) (n : ℕ) (stacks : List (Stack Place)) (s : ℕ) → (length stacks ≤ s → tops (n + s) ≡ [])
    → slice_index_or (cut_from tops n stacks) s new_stack ≡ record (slice_index_or stacks s new_stack) { items = tops (n + s) }
cut_at tops n [] s h = ap (λ xs. let stack : Stack Place = record { items = xs; pushes = 0; pops = 0 } in stack) (sym (h (omega arith)))
cut_at tops n (stack ∷ stacks) zero h = ap (λ k. record stack { items = tops k }) (let e : n ≡ n + 0 = omega arith in e)
cut_at tops n (stack ∷ stacks) (suc s) h =
    let same : n + 1 + s ≡ n + suc s = omega arith in
    cut_at tops (n + 1) stacks s (λ past. ap tops same ∙ h (omega (arith, past)))
    ∙ ap (λ k. record (slice_index_or stacks s new_stack) { items = tops k }) same

pub times-append : (xs ys : List Place) (q : Place) → times (xs ++ ys) q ≡ times xs q + times ys q
times-append xs ys q = sum_by-append (λ other. cond (is_same other q) 1 0) xs ys

cut_lies : (q : Place) (tops beneath : ℕ → List Place) (n : ℕ) (stacks : List (Stack Place)) → ((s : ℕ) → (slice_index_or stacks s new_stack).items ≡ tops (n + s) ++ beneath (n + s))
    → sum_by (λ stack. times stack.items q) (cut_from tops n stacks) + times (below_from beneath n stacks) q ≡ sum_by (λ stack. times stack.items q) stacks
cut_lies q tops beneath n [] its = refl
cut_lies q tops beneath n (stack ∷ stacks) its =
    let count : Stack Place → ℕ = λ stack. times stack.items q in
    let zero_more : n + 0 ≡ n = omega arith in
    let here : times stack.items q ≡ times (tops n) q + times (beneath n) q =
    ap (λ xs. times xs q) (its 0) ∙ ap (λ k. times (tops k ++ beneath k) q) zero_more ∙ times-append (tops n) (beneath n) q in
    let rest = cut_lies q tops beneath (n + 1) stacks (λ s. its (suc s) ∙ ap (λ k. tops k ++ beneath k) (let e : n + suc s ≡ n + 1 + s = omega arith in e)) in
    omega (
      arith,
      here,
      rest,
      times-append (beneath n) (below_from beneath (n + 1) stacks) q,
      sum_by-cons count (record stack { items = tops n }) (cut_from tops (n + 1) stacks),
      sum_by-cons count stack stacks,
    )

cut_none : (q : Place) (tops : ℕ → List Place) (n : ℕ) (stacks : List (Stack Place)) → ((s : ℕ) → times (tops s) q ≡ 0) → sum_by (λ stack. times stack.items q) (cut_from tops n stacks) ≡ 0
cut_none q tops n [] none = refl
cut_none q tops n (stack ∷ stacks) none =
    let count : Stack Place → ℕ = λ stack. times stack.items q in
    omega (arith, none n, cut_none q tops (n + 1) stacks none, sum_by-cons count (record stack { items = tops n }) (cut_from tops (n + 1) stacks))

nothing_left : (xs ys : List Place) → [] ≡ xs ++ ys → xs ≡ []
nothing_left [] ys h = refl
nothing_left (x ∷ xs) ys h = absurd cc

no_stack : (stacks : List (Stack Place)) (s : ℕ) → length stacks ≤ s → slice_index_or stacks s new_stack ≡ new_stack
no_stack [] s past = refl
no_stack (stack ∷ stacks) zero past = absurd (omega (arith, past))
no_stack (stack ∷ stacks) (suc s) past = no_stack stacks s (omega (arith, past))

zero_more : (s : ℕ) → 0 + s ≡ s
zero_more s = omega arith

-- all stacks with what is on top alone, and all that lies beneath
abbrev pub cut : (ℕ → List Place) → Holdings Place → Holdings Place
cut tops held = record held { stacks = cut_from tops 0 held.stacks }

abbrev pub below : (ℕ → List Place) → Holdings Place → List Place
below beneath held = below_from beneath 0 held.stacks

-- what is on top of no stack lies on none
pub cut_empty : (tops : ℕ → List Place) (held : Holdings Place) (q : Place) → ((s : ℕ) → times (tops s) q ≡ 0) → lies (cut tops held) q ≡ 0
cut_empty tops held q none = cut_none q tops 0 held.stacks none

pub cut_stacks : (tops : ℕ → List Place) (held : Holdings Place) → stack_count (cut tops held) ≡ stack_count held
cut_stacks tops held = cut_count tops 0 held.stacks

module _ (tops beneath : ℕ → List Place) (held : Holdings Place) (its : (s : ℕ) → items_at held s ≡ tops s ++ beneath s) where
  -- each stack
  pub stack_cut : (s : ℕ) → stack_at (cut tops held) s ≡ record (stack_at held s) { items = tops s }
  stack_cut s =
      cut_at tops 0 held.stacks s
      (λ past. ap tops (zero_more s) ∙ nothing_left (tops s) (beneath s) (sym (ap (λ (stack : Stack Place). stack.items) (no_stack held.stacks s past)) ∙ its s))
      ∙ ap (λ k. record (stack_at held s) { items = tops k }) (zero_more s)

  pub items_cut : (s : ℕ) → items_at (cut tops held) s ≡ tops s
  items_cut s = ap (λ (stack : Stack Place). stack.items) (stack_cut s)

  -- so places are as often on stacks, less those beneath
  pub lies_less : (q : Place) → lies (cut tops held) q + times (below beneath held) q ≡ lies held q
  lies_less q = cut_lies q tops beneath 0 held.stacks (λ s. its s ∙ ap (λ k. tops k ++ beneath k) (sym (zero_more s)))

  -- and what is seen of them lies over what is seen of those beneath
  stack_over : {X : Type 0} (seen : Place → X) (s : ℕ) → StackOver (map seen (beneath s)) (map_stack seen (record (stack_at held s) { items = tops s })) (map_stack seen (stack_at held s))
  stack_over seen s = record { items = ap (map seen) (its s) ∙ map-append seen (tops s) (beneath s); pushes = refl; pops = refl }

  pub over_cut : {X : Type 0} (seen : Place → X) → IsOver (λ s. map seen (beneath s)) (map_holdings seen (cut tops held)) (map_holdings seen held)
  over_cut seen = record {
    count = stack_count-map seen held ∙ sym (stack_count-map seen (cut tops held) ∙ cut_stacks tops held);
    stacks = λ s. subst (λ x. StackOver (map seen (beneath s)) x (stack_at (map_holdings seen held) s)) (sym (stack_at-map seen (cut tops held) s ∙ ap (map_stack seen) (stack_cut s)))
        (subst (λ y. StackOver (map seen (beneath s)) (map_stack seen (record (stack_at held s) { items = tops s })) y) (sym (stack_at-map seen held s)) (stack_over seen s));
    fresh = refl;
    out = refl;
  }

-- where nothing lies beneath
pub over_none : {X : Type 0} (held : Holdings X) → IsOver (λ s. []) held held
over_none held = record { count = refl; stacks = λ s. record { items = sym (append-nil (items_at held s)); pushes = refl; pops = refl }; fresh = refl; out = refl }

-- # Maps cut off
module _ {X : Type 0} where
  -- what is found at some places that pass a test is removed
  abbrev pub removed_if : (Place → Bool) → Map X → List Place → Map X
  removed_if test m [] = m
  removed_if test m (x ∷ xs) = if test x then removed (removed_if test m xs) x else removed_if test m xs

  abbrev None_there : Option X
  None_there = None

  pub at-removed_if : (test : Place → Bool) (m : Map X) (xs : List Place) (q : Place) → found_at (removed_if test m xs) q ≡ (if test q && nat_lt 0 (times xs q) then None else found_at m q)
  at-removed_if test m [] q = go (test q)
    where
      go : (b : Bool) → found_at m q ≡ (if b && false then None_there else found_at m q)
      go true = refl
      go false = refl
  at-removed_if test m (x ∷ xs) q = go (test x) refl (is_same x q) refl (at-removed_if test m xs q)
    where
      rest : Map X
      rest = removed_if test m xs

      cons : times (x ∷ xs) q ≡ cond (is_same x q) 1 0 + times xs q
      cons = sum_by-cons (λ other. cond (is_same other q) 1 0) x xs

      other_times : is_same x q ≡ false → times (x ∷ xs) q ≡ times xs q
      other_times e = cons ∙ ap (λ b. cond b 1 0 + times xs q) e ∙ (let k : 0 + times xs q ≡ times xs q = omega arith in k)

      as_before : is_same x q ≡ false → (if test q && nat_lt 0 (times xs q) then None_there else found_at m q) ≡ (if test q && nat_lt 0 (times (x ∷ xs) q) then None_there else found_at m q)
      as_before e = ap (λ n. if test q && nat_lt 0 n then None_there else found_at m q) (sym (other_times e))

      go : (b : Bool) → test x ≡ b → (c : Bool) → is_same x q ≡ c → found_at (removed_if test m xs) q ≡ (if test q && nat_lt 0 (times xs q) then None_there else found_at m q)
          → found_at (if b then removed (removed_if test m xs) x else removed_if test m xs) q ≡ (if test q && nat_lt 0 (times (x ∷ xs) q) then None_there else found_at m q)
      go true t true e before =
          at-removed rest x q ∙ ap (λ b. if b then None_there else found_at rest q) e
          ∙ sym (ap₂ (λ a b. if a && b then None_there else found_at m q) (sym (ap test (same_places x q e)) ∙ t) (lt-ltb 0 (times (x ∷ xs) q) (omega (arith, cons, ap {B = ℕ} (λ b. cond b 1 0) e))))
      go true t false e before = at-removed rest x q ∙ ap (λ b. if b then None_there else found_at rest q) e ∙ before ∙ as_before e
      go false t true e before = before ∙ ap (λ a. if a && nat_lt 0 (times xs q) then None_there else found_at m q) off ∙ sym (ap (λ a. if a && nat_lt 0 (times (x ∷ xs) q) then None_there else found_at m q) off)
        where
          off : test q ≡ false
          off = sym (ap test (same_places x q e)) ∙ t
      go false t false e before = before ∙ as_before e

-- # The walk
-- what lies beneath stacks on which a cell may be walked lies beneath what the walk leaves
pub walked_over : {Plan : Type 0} (set : Setting Plan) (at : Moment) (above whole after : Machine) (vertices : ℕ → List VertexRecord) (cells : ℕ → List (List ℤ))
    → MayWalk set at above → LiesOver vertices cells above whole
    → (machine.walk_cell set (stream_stacks_of at.foreseen_start.outlook.swapped) (suc at.levels) at.stage.cell whole).ending ≡ done after → (top : Machine) × LiesOver vertices cells top after
walked_over set at above whole after vertices cells may over ends =
    go (model.walk_cell set at.levels at.stage.parent at.stage.cell at.working).ending (machine.walk_cell set (stream_stacks_of at.foreseen_start.outlook.swapped) (suc at.levels) at.stage.cell above).ending refl
    (law_of_a_face set at above may).ending
  where
    walks : WalksOver set (stream_stacks_of at.foreseen_start.outlook.swapped) (suc at.levels) at.stage.cell vertices cells above whole
    walks = beneath_is_left set (stream_stacks_of at.foreseen_start.outlook.swapped) (suc at.levels) at.stage.cell vertices cells above whole over

    go : (a : Ending Working) (b : Ending Machine) → (machine.walk_cell set (stream_stacks_of at.foreseen_start.outlook.swapped) (suc at.levels) at.stage.cell above).ending ≡ b → CellEndsAlike set at a b
        → (top : Machine) × LiesOver vertices cells top after
    go (done x) (done top) k alike = let rest = walks.walks top k in (top, subst (LiesOver vertices cells top) (done_same rest.0 after (sym rest.1 ∙ ends)) rest.3)
    go (done x) (halts cause) k alike = absurd alike
    go (done x) stuck k alike = absurd alike
    go (halts cause) (done top) k alike = absurd alike
    go (halts cause) (halts other) k alike = absurd (impossible (sym (walks.halts other k).0 ∙ ends))
      where
        impossible : ◌≡◌ {A = Ending Machine} (halts other) (done after) → ⊥
        impossible same = cc
    go (halts cause) stuck k alike = absurd alike
    go stuck b k alike = absurd alike

-- so those records of a stack are kept
pub kept_beneath : {X : Type 0} (b : ℕ → List X) (above whole top after : Holdings X) → IsOver b above whole → IsOver b top after → (s count : ℕ) → length (b s) ≡ count
    → KeepsBeneath count (items_at whole s) (items_at after s)
kept_beneath b above whole top after was is s count all = record {
  taken = items_at above s;
  left = items_at top s;
  beneath = b s;
  was = (was.stacks s).items;
  is = (is.stacks s).items;
  all = all;
}
