-- The first and the last of the cells around a vertex, by counting.
use Rattle.std.proofs.Common.{◌≡◌, ℕ, suc, ◌+◌, ◌^◌, ◌≤◌, Bool, true, false, not, cond, ◌||◌, ◌==◌, List, [], ◌∷◌, Some, find, length, refl, sym, ap, ◌∙◌, inl, inr, true≢false, arith}
use Rattle.std.specs.Prelude.{is_none, if◌then◌else◌}
use Rattle.std.specs.Option.{option_map}
use Rattle.std.specs.List.{list_any}
use Rattle.std.proofs.lemmas.Bool.Decides.{nat_tests}
use Rattle.std.proofs.Math.Bool.{not-not}
use Rattle.pe_base.specs.declared.place.Place.{Place}
use Rattle.pe_base.specs.declared.way.Way.{Way}
use Rattle.pe_base.specs.Tree.Places.{corner, corners, is_same}
use Rattle.pe_base.specs.Steps.Around.{around, steps}
use Rattle.pe_base.specs.Steps.Routes.{axis_of, waiting_stack, stack_in, stack_out}
use Rattle.pe_base.proofs.Lists.{Each-weaker, Each-In, In, In-map, list_any_none}
use Rattle.pe_base.proofs.Tree.Ranks.{Rising, rank, rank_of, top, around_rises, is_same-true}
use Rattle.pe_base.proofs.Tree.Corners.{same_tests}
use Rattle.pe_base.proofs.Steps.VertexTouches.{is_same_itself, other_back, later_steps}
use Rattle.pe_order.specs.Tokens.{before}
use Rattle.pe_order.specs.Apart.{CornersByCounting}
use Rattle.pe_order.proofs.Outlooks.{around_corners, in_range}

found_or_not : {X Y : Type 0} (p : X → Bool) (f : X → Y) (xs : List X) → is_none (option_map f (find p xs)) ≡ not (list_any p xs)
found_or_not p f [] = refl
found_or_not p f (x ∷ xs) = go (p x) (found_or_not p f xs)
  where
    go : (b : Bool) → is_none (option_map f (find p xs)) ≡ not (list_any p xs) → is_none (option_map f (cond b (Some x) (find p xs))) ≡ not (b || list_any p xs)
    go true e = refl
    go false e = e

pub not_zero : (n : ℕ) → (n + 1 == 0) ≡ false
not_zero n = grind (arith, nat_tests)

-- a cell of a list is the last one, or a step begins at it
goes_on : (xs : List Place) (c : Place) → In c xs → list_any (λ s. is_same s.0 c) (steps xs) ≡ not (before xs c + 1 == length xs)
goes_on [] c i = absurd (omega arith)
goes_on (x ∷ []) c i = elim i [
  | inl e ↦ ap (λ b. not ((if b then 0 else 0 + 1) + 1 == 1)) (sym (ap (λ z. is_same z c) (sym e) ∙ is_same_itself c))
  | inr j ↦ absurd (omega arith)
]
goes_on (x ∷ y ∷ xs) c i = go (is_same x c) refl (goes_on (y ∷ xs) c)
  where
    one_less : (n m : ℕ) → (n + 1 + 1 == suc m) ≡ (n + 1 == m)
    one_less n m = same_tests (n + 1 + 1) (suc m) (n + 1) m (λ e. omega arith) (λ e. omega arith)

    short : (n : ℕ) → (0 + 1 == suc (suc n)) ≡ false
    short n = grind (arith, nat_tests)

    later : is_same x c ≡ false → In c (y ∷ xs)
    later e = elim i [ inl k ↦ absurd (true≢false (sym (ap (λ z. is_same z c) (sym k) ∙ is_same_itself c) ∙ e)) | inr j ↦ j ]

    go : (b : Bool) → is_same x c ≡ b → (In c (y ∷ xs) → list_any (λ s. is_same s.0 c) (steps (y ∷ xs)) ≡ not (before (y ∷ xs) c + 1 == length (y ∷ xs))) → (b || list_any (λ s. is_same s.0 c) (steps (y ∷ xs))) ≡ not ((if b then 0 else before (y ∷ xs) c + 1) + 1 == suc (suc (length xs)))
    go true e more = ap not (sym (short (length xs)))
    go false e more = more (later e) ∙ ap not (sym (one_less (before (y ∷ xs) c) (suc (length xs))))

-- and the first one, or a step ends at it
module _ (r : Place → ℕ) (ranks : (x y : Place) → is_same x y ≡ true → r x ≡ r y) where
  comes_from : (low high : ℕ) (xs : List Place) (c : Place) → Rising r low xs high → In c xs → list_any (λ s. is_same s.1 c) (steps xs) ≡ not (before xs c == 0)
  comes_from low high [] c rise i = absurd (omega arith)
  comes_from low high (x ∷ []) c rise i = elim i [
    | inl e ↦ ap (λ b. not ((if b then 0 else 0 + 1) == 0)) (sym (ap (λ z. is_same z c) (sym e) ∙ is_same_itself c))
    | inr j ↦ absurd (omega arith)
  ]
  comes_from low high (x ∷ y ∷ xs) c rise i = go (is_same x c) refl (comes_from (suc (r x)) high (y ∷ xs) c rise.1)
    where
      later : is_same x c ≡ false → In c (y ∷ xs)
      later e = elim i [ inl k ↦ absurd (true≢false (sym (ap (λ z. is_same z c) (sym k) ∙ is_same_itself c) ∙ e)) | inr j ↦ j ]

      here : (b : Bool) → is_same y c ≡ b → In c (y ∷ xs) → list_any (λ s. is_same s.1 c) (steps (y ∷ xs)) ≡ not ((if b then 0 else before xs c + 1) == 0) → (b || list_any (λ s. is_same s.1 c) (steps (y ∷ xs))) ≡ true
      here true e j k = refl
      here false e j k = k ∙ ap not (not_zero (before xs c))

      none_later : is_same x c ≡ true → list_any (λ s. is_same s.1 c) (steps (x ∷ y ∷ xs)) ≡ false
      none_later e = list_any_none (λ s. is_same s.1 c) (steps (x ∷ y ∷ xs)) (Each-weaker _ _ (λ s h. other_back is_same r is_same_itself ranks c s.1 (omega (arith, h.1, ranks x c e))) (steps (x ∷ y ∷ xs))
          (later_steps is_same r is_same_itself ranks (r x) high (x ∷ y ∷ xs) (omega arith, rise.1)))

      go : (b : Bool) → is_same x c ≡ b → (In c (y ∷ xs) → list_any (λ s. is_same s.1 c) (steps (y ∷ xs)) ≡ not (before (y ∷ xs) c == 0)) → list_any (λ s. is_same s.1 c) (steps (x ∷ y ∷ xs)) ≡ not ((if b then 0 else before (y ∷ xs) c + 1) == 0)
      go true e more = none_later e
      go false e more = here (is_same y c) refl (later e) (more (later e)) ∙ ap not (sym (not_zero (before (y ∷ xs) c)))

pub first_around : (axes : ℕ) (way : Way) (vertex cell : Place) → axes ≤ 4 → In cell (around axes way vertex) → is_none (stack_in axes way vertex cell) ≡ (before (around axes way vertex) cell == 0)
first_around axes way vertex cell four i =
    found_or_not (λ step. is_same step.1 cell) (λ (step : Place × Place). waiting_stack vertex (axis_of step)) (steps (around axes way vertex))
    ∙ ap not (comes_from (rank_of axes way vertex.level) (λ x y e. ap (λ p. rank axes way vertex.level p) (is_same-true x y e).1) 0 (top axes vertex.level) (around axes way vertex) cell (around_rises axes way vertex four) i)
    ∙ not-not (before (around axes way vertex) cell == 0)

pub last_around : (axes : ℕ) (way : Way) (vertex cell : Place) → In cell (around axes way vertex) → is_none (stack_out axes way vertex cell) ≡ (before (around axes way vertex) cell + 1 == length (around axes way vertex))
last_around axes way vertex cell i =
    found_or_not (λ step. is_same step.0 cell) (λ (step : Place × Place). waiting_stack vertex (axis_of step)) (steps (around axes way vertex))
    ∙ ap not (goes_on (around axes way vertex) cell i)
    ∙ not-not (before (around axes way vertex) cell + 1 == length (around axes way vertex))

pub corners_by_counting : CornersByCounting
corners_by_counting axes way cell k dim is_cell below =
    let v = corner axes cell k in
    let i = (Each-In (λ q. (q.level ≡ cell.level) × In cell (around axes way q)) v (corners axes cell) (around_corners axes way cell dim.1 is_cell) (In-map (corner axes cell) k _ (in_range k 0 (2 ^ axes) (omega arith) (omega arith)))).1 in
    record { first = first_around axes way v cell dim.1 i; last = last_around axes way v cell i }
