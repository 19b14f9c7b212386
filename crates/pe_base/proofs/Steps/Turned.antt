-- Around a vertex, the cells of one way are those of the other backwards, and so are the steps.
use Rattle.std.proofs.Common.{◌≡◌, ℕ, ◌+◌, ◌==◌, ◌≤◌, Bool, true, false, cond, ◌&&◌, ◌||◌, ◌⊎◌, inl, inr, List, [], ◌∷◌, ◌++◌, map, filter, reverse, Some, None, find, refl, sym, ap, ap₂, ◌∙◌, append_assoc, arith}
use Rattle.std.specs.Prelude.{if◌then◌else◌}
use Rattle.std.proofs.lemmas.Bool.Decides.{nat_tests}
use Rattle.std.specs.List.{list_any}
use Rattle.std.specs.Option.{option_map}
use Rattle.std.proofs.lemmas.List.{reverse-reverse}
use Rattle.std.proofs.lemmas.List.Folds.{list_any-append}
use Rattle.std.proofs.Math.Bool.{and_comm}
use Rattle.pe_base.specs.declared.place.Place.{Place}
use Rattle.pe_base.specs.declared.way.Way.{Way}
use Rattle.pe_base.specs.Tree.Places.{is_same}
use Rattle.pe_base.specs.Tree.Ways.{opposite}
use Rattle.pe_base.specs.Steps.Around.{is_corner, around, steps}
use Rattle.pe_base.specs.Steps.Routes.{axis_of, axis_between, waiting_stack, stack_in, stack_out}
use Rattle.pe_base.specs.Steps.Faces.{is_step, steps_to, steps_from}
use Rattle.pe_base.proofs.Lists.{filter-map, filter-reverse, reverse-cons}
use Rattle.pe_base.proofs.Tree.Ranks.{rank, rank_of, top, around_rises, is_same-true}
use Rattle.pe_base.proofs.Steps.VertexTouches.{step_alone, is_same_itself, reverse-order}

pub around-opposite : (axes : ℕ) (way : Way) (vertex : Place) → around axes (opposite way) vertex ≡ reverse (around axes way vertex)
around-opposite axes way vertex = ap (filter (is_corner vertex)) (reverse-order axes way vertex.level) ∙ filter-reverse (is_corner vertex) _

-- a step the other way round
abbrev pub back : {X : Type 0} → X × X → X × X
back step = (step.1, step.0)

steps_more : {X : Type 0} (zs : List X) (y x : X) → steps (zs ++ y ∷ x ∷ []) ≡ steps (zs ++ y ∷ []) ++ (y, x) ∷ []
steps_more [] y x = refl
steps_more (z ∷ []) y x = refl
steps_more (z ∷ w ∷ zs) y x = ap (λ r. (z, w) ∷ r) (steps_more (w ∷ zs) y x)

pub steps-reverse : {X : Type 0} (xs : List X) → steps (reverse xs) ≡ reverse (map back (steps xs))
steps-reverse [] = refl
steps-reverse (x ∷ []) = refl
steps-reverse (x ∷ y ∷ xs) =
    ap steps (reverse-cons x (y ∷ xs) ∙ ap (λ r. r ++ x ∷ []) (reverse-cons y xs) ∙ append_assoc (reverse xs) (y ∷ []) (x ∷ []))
    ∙ steps_more (reverse xs) y x
    ∙ ap (λ r. r ++ (y, x) ∷ []) (ap steps (sym (reverse-cons y xs)) ∙ steps-reverse (y ∷ xs))
    ∙ sym (reverse-cons (y, x) (map back (steps (y ∷ xs))))

pub steps-opposite : (axes : ℕ) (way : Way) (vertex : Place) → steps (around axes (opposite way) vertex) ≡ reverse (map back (steps (around axes way vertex)))
steps-opposite axes way vertex = ap steps (around-opposite axes way vertex) ∙ steps-reverse (around axes way vertex)

-- the steps to a cell are those from it in the other way
pub steps_to-opposite : (axes : ℕ) (way : Way) (vertex cell : Place) → steps_to axes (opposite way) vertex cell ≡ reverse (map back (steps_from axes way vertex cell))
steps_to-opposite axes way vertex cell =
    ap (filter (λ step. is_same step.1 cell)) (steps-opposite axes way vertex)
    ∙ filter-reverse (λ step. is_same step.1 cell) (map back (steps (around axes way vertex)))
    ∙ ap reverse (filter-map (λ step. is_same step.1 cell) back (steps (around axes way vertex)))

-- what a search finds and whether a test is passed, by what a filter keeps
pub find_none : {X : Type 0} (p : X → Bool) (xs : List X) → filter p xs ≡ [] → find p xs ≡ None
find_none p [] e = refl
find_none p (x ∷ xs) e = go (p x) e (find_none p xs)
  where
    go : (b : Bool) → cond b (x ∷ filter p xs) (filter p xs) ≡ [] → (filter p xs ≡ [] → find p xs ≡ None) → cond b (Some x) (find p xs) ≡ None
    go true e more = cc
    go false e more = more e

pub find_first : {X : Type 0} (p : X → Bool) (xs : List X) (s : X) (rest : List X) → filter p xs ≡ s ∷ rest → find p xs ≡ Some s
find_first p [] s rest e = cc
find_first p (x ∷ xs) s rest e = go (p x) e (find_first p xs s rest)
  where
    go : (b : Bool) → cond b (x ∷ filter p xs) (filter p xs) ≡ s ∷ rest → (filter p xs ≡ s ∷ rest → find p xs ≡ Some s) → cond b (Some x) (find p xs) ≡ Some s
    go true e more = let h : x ≡ s = cc in ap Some h
    go false e more = more e

pub any_both : {X : Type 0} (q p : X → Bool) (xs : List X) → list_any (λ x. q x && p x) xs ≡ list_any q (filter p xs)
any_both q p [] = refl
any_both q p (x ∷ xs) = ap (λ b. (q x && p x) || b) (any_both q p xs) ∙ both (p x) (q x) (list_any q (filter p xs)) ∙ kept (p x)
  where
    both : (a b c : Bool) → ((b && a) || c) ≡ cond a (b || c) c
    both true true c = refl
    both true false c = refl
    both false true c = refl
    both false false c = refl

    kept : (a : Bool) → cond a (q x || list_any q (filter p xs)) (list_any q (filter p xs)) ≡ list_any q (cond a (x ∷ filter p xs) (filter p xs))
    kept true = refl
    kept false = refl

-- of the steps around a vertex, none or one goes to a cell
pub one_step_to : (axes : ℕ) (way : Way) (vertex cell : Place) → axes ≤ 4 → (steps_to axes way vertex cell ≡ []) ⊎ ((s : Place × Place) × (steps_to axes way vertex cell ≡ s ∷ []))
one_step_to axes way vertex cell four =
    step_alone is_same (rank_of axes way vertex.level) is_same_itself (λ x y e. ap (λ p. rank axes way vertex.level p) (is_same-true x y e).1)
    0 (top axes vertex.level) (around axes way vertex) cell (around_rises axes way vertex four)

turned_back : {X : Type 0} (xs : List (X × X)) → map back (map back xs) ≡ xs
turned_back [] = refl
turned_back (x ∷ xs) = ap (λ r. x ∷ r) (turned_back xs)

pub steps_from-opposite : (axes : ℕ) (way : Way) (vertex cell : Place) → steps_from axes way vertex cell ≡ map back (reverse (steps_to axes (opposite way) vertex cell))
steps_from-opposite axes way vertex cell = sym (
    ap (λ r. map back (reverse r)) (steps_to-opposite axes way vertex cell)
    ∙ ap (map back) (reverse-reverse (map back (steps_from axes way vertex cell)))
    ∙ turned_back (steps_from axes way vertex cell))

pub axis_between-back : (xs ys : List ℕ) → axis_between xs ys ≡ axis_between ys xs
axis_between-back [] [] = refl
axis_between-back [] (y ∷ ys) = refl
axis_between-back (x ∷ xs) [] = refl
axis_between-back (x ∷ xs) (y ∷ ys) = ap₂ (λ b n. if b then n + 1 else 0) (eq-back x y) (axis_between-back xs ys)
  where
    eq-back : (a b : ℕ) → (a == b) ≡ (b == a)
    eq-back a b = grind (arith, nat_tests)

-- a vertex goes from a cell by the stack by which it comes there in the other way
pub stack-opposite : (axes : ℕ) (way : Way) (vertex cell : Place) → axes ≤ 4 → stack_in axes (opposite way) vertex cell ≡ stack_out axes way vertex cell
stack-opposite axes way vertex cell four =
    let waits = λ (step : Place × Place). waiting_stack vertex (axis_of step) in
    let to = steps (around axes (opposite way) vertex) in
    let from = steps (around axes way vertex) in
    let ends = λ (step : Place × Place). is_same step.1 cell in
    let begins = λ (step : Place × Place). is_same step.0 cell in
    elim (one_step_to axes (opposite way) vertex cell four) [
      | inl none ↦ ap (option_map waits) (find_none ends to none ∙ sym (find_none begins from (steps_from-opposite axes way vertex cell ∙ ap (λ r. map back (reverse r)) none)))
      | inr one ↦
          ap (option_map waits) (find_first ends to one.0 [] one.1)
          ∙ ap (λ axis. Some (waiting_stack vertex axis)) (axis_between-back one.0.0.pos one.0.1.pos)
          ∙ ap (option_map waits) (sym (find_first begins from (back one.0) [] (steps_from-opposite axes way vertex cell ∙ ap (λ r. map back (reverse r)) one.1)))
    ]

any-reverse : {X : Type 0} (p : X → Bool) (xs : List X) → list_any p (reverse xs) ≡ list_any p xs
any-reverse p [] = refl
any-reverse p (x ∷ xs) = ap (list_any p) (reverse-cons x xs) ∙ list_any-append p (reverse xs) (x ∷ []) ∙ ap (λ b. b || (p x || false)) (any-reverse p xs) ∙ turn (list_any p xs) (p x)
  where
    turn : (a b : Bool) → (a || (b || false)) ≡ (b || a)
    turn true true = refl
    turn true false = refl
    turn false true = refl
    turn false false = refl

any-back : {X : Type 0} (p q : X → Bool) (xs : List (X × X)) → list_any (λ s. p s.0 && q s.1) (map back xs) ≡ list_any (λ s. q s.0 && p s.1) xs
any-back p q [] = refl
any-back p q (x ∷ xs) = ap₂ (λ a b. a || b) (and_comm (p x.1) (q x.0)) (any-back p q xs)

-- a step of the other way is one back
pub is_step-opposite : (axes : ℕ) (way : Way) (vertex a b : Place) → is_step axes (opposite way) vertex a b ≡ is_step axes way vertex b a
is_step-opposite axes way vertex a b =
    ap (list_any (λ step. is_same step.0 a && is_same step.1 b)) (steps-opposite axes way vertex)
    ∙ any-reverse (λ step. is_same step.0 a && is_same step.1 b) (map back (steps (around axes way vertex)))
    ∙ any-back (λ p. is_same p a) (λ p. is_same p b) (steps (around axes way vertex))
