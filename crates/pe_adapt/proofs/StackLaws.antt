-- Temporary stacks are few.
use Rattle.std.proofs.Common.{◌≡◌, ℕ, suc, ◌+◌, ◌<◌, ◌≤◌, Bool, true, false, List, [], ◌∷◌, length, Option, Some, refl, ap, arith}
use Rattle.std.proofs.lemmas.Bool.{and_parts}
use Rattle.std.specs.Prelude.{nat_eq, find, if◌then◌else◌, ◌==◌}
use Rattle.std.specs.Option.{option_map}
use Rattle.pe_base.specs.declared.place.Place.{Place}
use Rattle.pe_base.specs.declared.way.Way.{Way}
use Rattle.pe_base.specs.Tree.Places.{is_same, is_same_pos}
use Rattle.pe_base.specs.Steps.Around.{around, steps}
use Rattle.pe_base.specs.Steps.Routes.{axis_between, axis_of, waiting_stack, stack_out}
use Rattle.pe_base.specs.Walk.Core.{Setting}
use Rattle.pe_adapt.specs.Touches.{stack_or}

at_most : (t : Bool) (n m : ℕ) → n ≤ m → (if t then n + 1 else 0) ≤ m + 1
at_most true n m less = omega arith
at_most false n m less = omega arith

axis-small : (xs ys : List ℕ) → axis_between xs ys ≤ length xs
axis-small [] ys = omega arith
axis-small (x ∷ xs) [] = omega arith
axis-small (x ∷ xs) (y ∷ ys) = omega (arith, at_most (x == y) (axis_between xs ys) (length xs) (axis-small xs ys))

same-long : (xs ys : List ℕ) → is_same_pos xs ys ≡ true → length xs ≡ length ys
same-long [] [] is = refl
same-long [] (y ∷ ys) is = absurd (let no : false ≡ true = is in cc)
same-long (x ∷ xs) [] is = absurd (let no : false ≡ true = is in cc)
same-long (x ∷ xs) (y ∷ ys) is = ap suc (same-long xs ys (and_parts (nat_eq x y) (is_same_pos xs ys) is).1)

module _ {Plan : Type 0} (set : Setting Plan) (output : ℕ) (vertex : Place) where
  found-or : (test : Place × Place → Bool) (x : Place × Place) (rest : Option (Place × Place)) (t : Bool) → test x ≡ t → ((step : Place × Place) → test step ≡ true → axis_of step ≤ 4)
      → stack_or set output (option_map (λ step. waiting_stack vertex (axis_of step)) rest) < 10
      → stack_or set output (option_map (λ step. waiting_stack vertex (axis_of step)) (if t then Some x else rest)) < 10
  found-or test x rest true is small below = omega (arith, small x is)
  found-or test x rest false is small below = below

  found-small : (test : Place × Place → Bool) (xs : List (Place × Place)) → output < 10 → ((step : Place × Place) → test step ≡ true → axis_of step ≤ 4)
      → stack_or set output (option_map (λ step. waiting_stack vertex (axis_of step)) (find test xs)) < 10
  found-small test [] below small = below
  found-small test (x ∷ xs) below small = found-or test x (find test xs) (test x) refl small (found-small test xs below small)

  -- the stack to which a vertex goes
  pub stack_out-small : (axes : ℕ) (way : Way) (cell : Place) → output < 10 → length cell.pos ≡ 4 → stack_or set output (stack_out axes way vertex cell) < 10
  stack_out-small axes way cell below four =
      found-small (λ step. is_same step.0 cell) (steps (around axes way vertex)) below
      (λ step same. omega (arith, axis-small step.0.pos step.1.pos, same-long step.0.pos cell.pos (and_parts (step.0.level == cell.level) (is_same_pos step.0.pos cell.pos) same).1))
