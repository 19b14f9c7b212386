-- Lists of vector stacks, of which one is replaced.
use Rattle.std.proofs.Common.{◌≡◌, ℕ, zero, suc, ◌+◌, ◌<◌, ◌≤◌, List, [], ◌∷◌, map, length, get_or, set, take, drop, ◌++◌, refl, sym, add-one, ◌∙◌, ap, arith}
use Rattle.std.proofs.lemmas.List.{map-set, get_or-map, length-reverse, length-map}
use Rattle.std.proofs.lemmas.List.Sums.{sum_by-set}
use Rattle.std.proofs.Math.Seq.{map-set_same}
use Rattle.pe_stacks.specs.declared.vec_stack.VecStack.{VecStack}
use Rattle.pe_stacks.specs.Holdings.{Stack, new_stack, total_len, emptied}
use Rattle.pe_stacks.specs.VecStack.{stack_of, spare_of, capacity_of}

-- a list of which the first k were changed by f, after the next one was changed too
changed_next : {A : Type 0} (f : A → A) (os : List A) (k : ℕ) (d : A) → k < length os → let now = map f (take k os) ++ drop k os in set now k (f (get_or now k d)) ≡ map f (take (suc k) os) ++ drop (suc k) os
changed_next f [] k d inside = absurd (omega arith)
changed_next f (o ∷ os) zero d inside = refl
changed_next f (o ∷ os) (suc k) d inside = ap (λ rest. f o ∷ rest) (changed_next f os k d (omega arith))

module _ {X : Type 0} where
  pub length-items : (a b : Stack X) → a ≡ b → length a.items ≡ length b.items
  length-items a b same = ap (λ (stack : Stack X). length stack.items) same

  pub stack_at-map : (xs : List (VecStack X)) (i : ℕ) (d x : VecStack X) → i < length (map stack_of xs) → x ≡ get_or xs i d → get_or (map stack_of xs) i new_stack ≡ stack_of x
  stack_at-map xs i d x inside is = get_or-map stack_of xs i d new_stack (omega (arith, length-map xs stack_of)) ∙ ap stack_of (sym is)

  -- the stacks after one of them, x, was changed by f, which made it y
  pub stacks-set : (f : Stack X → Stack X) (xs : List (VecStack X)) (i : ℕ) (d x y : VecStack X) → i < length (map stack_of xs) → x ≡ get_or xs i d → stack_of y ≡ f (stack_of x) → map stack_of (set xs i y) ≡ set (map stack_of xs) i (f (get_or (map stack_of xs) i new_stack))
  stacks-set f xs i d x y inside is changed =
      map-set stack_of xs i y ∙ ap (λ stack. set (map stack_of xs) i stack) (changed ∙ ap f (sym (stack_at-map xs i d x inside is)))

  -- the stacks of which the first k were changed by f, after the next one was changed too
  pub stacks_more : (f : Stack X → Stack X) (os : List (Stack X)) (xs : List (VecStack X)) (k : ℕ) (d y : VecStack X) → k < length xs → stack_of y ≡ f (stack_of (get_or xs k d)) → length xs ≡ length os → map stack_of xs ≡ map f (take k os) ++ drop k os → map stack_of (set xs k y) ≡ map f (take (k + 1) os) ++ drop (k + 1) os
  stacks_more f os xs k d y inside changed same_length sofar =
      rw add-one
      (stacks-set f xs k d (get_or xs k d) y (omega (arith, length-map xs stack_of)) refl changed
      ∙ ap (λ stacks. set stacks k (f (get_or stacks k new_stack))) sofar
      ∙ changed_next f os k new_stack (omega arith))

  -- what lies on the stacks together, after one of them, x, was replaced by y
  pub total_len-set : (xs : List (VecStack X)) (i : ℕ) (d x y : VecStack X) → i < length (map stack_of xs) → x ≡ get_or xs i d → total_len (map stack_of (set xs i y)) + length (stack_of x).items ≡ total_len (map stack_of xs) + length (stack_of y).items
  total_len-set xs i d x y inside is =
      let len = λ (stack : Stack X). length stack.items in
      cc (sum_by-set len (map stack_of xs) i (stack_of y) new_stack inside, map-set stack_of xs i y, stack_at-map xs i d x inside is)

  capacity_here : (x : VecStack X) → length (stack_of x).items + spare_of x ≡ capacity_of x
  capacity_here x = omega (arith, length-reverse x.items.items, x.items.ok.0, x.items.ok.1)

  -- the length and the room of a stack are together its capacity
  capacity_at : (xs : List (VecStack X)) (s : ℕ) → length (get_or (map stack_of xs) s new_stack).items + get_or (map spare_of xs) s 0 ≡ get_or (map capacity_of xs) s 0
  capacity_at [] s = refl
  capacity_at (x ∷ xs) zero = capacity_here x
  capacity_at (x ∷ xs) (suc s) = capacity_at xs s

  -- stacks whose capacities do not fall keep their room
  pub room_kept : (xs ys : List (VecStack X)) → ((s : ℕ) → get_or (map capacity_of xs) s 0 ≤ get_or (map capacity_of ys) s 0) → (s : ℕ) → length (get_or (map stack_of xs) s new_stack).items + get_or (map spare_of xs) s 0 ≤ length (get_or (map stack_of ys) s new_stack).items + get_or (map spare_of ys) s 0
  room_kept xs ys more s = omega (arith, capacity_at xs s, capacity_at ys s, more s)

  capacity_kept : (xs : List (VecStack X)) (i : ℕ) (d x y : VecStack X) → x ≡ get_or xs i d → capacity_of x ≤ capacity_of y → (s : ℕ) → get_or (map capacity_of xs) s 0 ≤ get_or (map capacity_of (set xs i y)) s 0
  capacity_kept [] i d x y is more s = omega arith
  capacity_kept (z ∷ xs) zero d x y is more zero = omega (arith, ap capacity_of is)
  capacity_kept (z ∷ xs) zero d x y is more (suc s) = omega arith
  capacity_kept (z ∷ xs) (suc i) d x y is more zero = omega arith
  capacity_kept (z ∷ xs) (suc i) d x y is more (suc s) = capacity_kept xs i d x y is more s

  -- so do stacks of which one, x, was replaced by y
  pub room_kept-set : (xs : List (VecStack X)) (i : ℕ) (d x y : VecStack X) → x ≡ get_or xs i d → capacity_of x ≤ capacity_of y → (s : ℕ) → length (get_or (map stack_of xs) s new_stack).items + get_or (map spare_of xs) s 0 ≤ length (get_or (map stack_of (set xs i y)) s new_stack).items + get_or (map spare_of (set xs i y)) s 0
  room_kept-set xs i d x y is more = room_kept xs (set xs i y) (capacity_kept xs i d x y is more)

  -- a stack that was not replaced, or was replaced by one of the same records and counts, is as before
  pub stacks-set_same : (xs : List (VecStack X)) (i : ℕ) (d x y : VecStack X) → x ≡ get_or xs i d → stack_of y ≡ stack_of x → map stack_of (set xs i y) ≡ map stack_of xs
  stacks-set_same xs i d x y is same = map-set_same stack_of xs i y d (same ∙ ap stack_of is)

  -- the room of the stack that was replaced
  pub spare_at-set : (xs : List (VecStack X)) (i : ℕ) (y : VecStack X) → i < length (map stack_of xs) → get_or (map spare_of (set xs i y)) i 0 ≡ spare_of y
  spare_at-set [] i y inside = absurd (omega arith)
  spare_at-set (x ∷ xs) zero y inside = refl
  spare_at-set (x ∷ xs) (suc i) y inside = spare_at-set xs i y (omega arith)

  -- clearing the stacks leaves nothing on them
  pub total_len-emptied : (os : List (Stack X)) → total_len (map emptied os) ≡ 0
  total_len-emptied [] = refl
  total_len-emptied (o ∷ os) = omega (arith, total_len-emptied os)

  -- stacks of the same capacities keep their room
  pub room_kept_same : (xs ys : List (VecStack X)) → map capacity_of ys ≡ map capacity_of xs → (s : ℕ) → length (get_or (map stack_of xs) s new_stack).items + get_or (map spare_of xs) s 0 ≤ length (get_or (map stack_of ys) s new_stack).items + get_or (map spare_of ys) s 0
  room_kept_same xs ys same s = room_kept xs ys (λ k. omega (arith, ap (λ caps. get_or caps k 0) same)) s
