-- How far the counts of a depot rise.
use Rattle.std.proofs.Common.{◌≡◌, ℕ, zero, suc, ◌+◌, ◌≤◌, List, [], ◌∷◌, replicate, get_or, set, arith, subst}
use Rattle.pe_stacks.specs.Holdings.{Holdings, Stack, new_stack, new_holdings, lent, given_up, pushed, popped, CountsWithin, RaisesCounts}

-- how far the items of a list rise, of which one is replaced
rise-set : {A : Type 0} (f : A → ℕ) (d y : A) (xs : List A) (i : ℕ) → f y ≤ f (get_or xs i d) + 1 → (s : ℕ) → f (get_or (set xs i y) s d) ≤ f (get_or xs s d) + 1
rise-set f d y [] i little s = omega arith
rise-set f d y (x ∷ xs) zero little zero = little
rise-set f d y (x ∷ xs) zero little (suc s) = omega arith
rise-set f d y (x ∷ xs) (suc i) little zero = omega arith
rise-set f d y (x ∷ xs) (suc i) little (suc s) = rise-set f d y xs i little s

-- a bound on all items of a list, of which each is the same
bound-replicate : {A : Type 0} (f : A → ℕ) (d : A) (n k : ℕ) → f d ≤ n → (s : ℕ) → f (get_or (replicate k d) s d) ≤ n
bound-replicate f d n zero below s = below
bound-replicate f d n (suc k) below zero = below
bound-replicate f d n (suc k) below (suc s) = bound-replicate f d n k below s

module _ {X : Type 0} where
  pub within_more : (held : Holdings X) (n m : ℕ) → n ≤ m → CountsWithin held n → CountsWithin held m
  within_more held n m more counts = record {
    fresh = omega (arith, counts.fresh);
    spent = omega (arith, counts.spent);
    out = omega (arith, counts.out);
    most = omega (arith, counts.most);
    pushes = λ s. omega (arith, counts.pushes s);
    pops = λ s. omega (arith, counts.pops s);
  }

  within_of_new : (stacks n : ℕ) → CountsWithin (new_holdings {X = X} stacks) n
  within_of_new stacks n = record {
    fresh = omega arith;
    spent = omega arith;
    out = omega arith;
    most = omega arith;
    pushes = bound-replicate (λ (stack : Stack X). stack.pushes) new_stack n stacks (omega arith);
    pops = bound-replicate (λ (stack : Stack X). stack.pops) new_stack n stacks (omega arith);
  }

  -- in a depot that nothing was done with all counts are 0
  pub within_new : (held : Holdings X) (stacks n : ℕ) → held ≡ new_holdings stacks → CountsWithin held n
  within_new held stacks n is = rw is (within_of_new stacks n)

  -- where every count is at most n, and none rises by more than k
  pub raises_within : (held held' : Holdings X) (n k : ℕ) → RaisesCounts held held' k → CountsWithin held n → CountsWithin held' (n + k)
  raises_within held held' n k rises counts = record {
    fresh = omega (arith, rises.fresh, counts.fresh);
    spent = omega (arith, rises.spent, counts.spent);
    out = omega (arith, rises.out, counts.out);
    most = omega (arith, rises.most, counts.most, counts.out);
    pushes = λ s. omega (arith, rises.pushes s, counts.pushes s);
    pops = λ s. omega (arith, rises.pops s, counts.pops s);
  }

  pub raises_none : (held : Holdings X) → RaisesCounts held held 0
  raises_none held = record {
    fresh = omega arith;
    spent = omega arith;
    out = omega arith;
    most = omega arith;
    pushes = λ s. omega arith;
    pops = λ s. omega arith;
  }

  pub raises_more : (first second third : Holdings X) (j k : ℕ) → RaisesCounts first second j → RaisesCounts second third k → RaisesCounts first third (j + k)
  raises_more first second third j k start rest = record {
    fresh = omega (arith, start.fresh, rest.fresh);
    spent = omega (arith, start.spent, rest.spent);
    out = omega (arith, start.out, rest.out);
    most = omega (arith, start.most, start.out, rest.most);
    pushes = λ s. omega (arith, start.pushes s, rest.pushes s);
    pops = λ s. omega (arith, start.pops s, rest.pops s);
  }

  pub raises_at_most : (held held' : Holdings X) (j k : ℕ) → j ≤ k → RaisesCounts held held' j → RaisesCounts held held' k
  raises_at_most held held' j k few rises = record {
    fresh = omega (arith, few, rises.fresh);
    spent = omega (arith, few, rises.spent);
    out = omega (arith, few, rises.out);
    most = omega (arith, few, rises.most);
    pushes = λ s. omega (arith, few, rises.pushes s);
    pops = λ s. omega (arith, few, rises.pops s);
  }

  -- each call raises each count by one at most
  pub raises-lent : (held held' : Holdings X) → held' ≡ lent held → RaisesCounts held held' 1
  raises-lent held held' is = rw is (record {
    fresh = omega arith;
    spent = omega arith;
    out = omega arith;
    most = omega arith;
    pushes = λ s. omega arith;
    pops = λ s. omega arith;
  })

  pub raises-given_up : (held held' : Holdings X) → held' ≡ given_up held → RaisesCounts held held' 1
  raises-given_up held held' is = rw is (record {
    fresh = omega arith;
    spent = omega arith;
    out = omega arith;
    most = omega arith;
    pushes = λ s. omega arith;
    pops = λ s. omega arith;
  })

  pub raises-pushed : (held held' : Holdings X) (t : ℕ) (r : X) → held' ≡ pushed held t r → RaisesCounts held held' 1
  raises-pushed held held' t r is = rw is (record {
    fresh = omega arith;
    spent = omega arith;
    out = omega arith;
    most = omega arith;
    pushes = rise-set (λ (stack : Stack X). stack.pushes) new_stack _ held.stacks t (omega arith);
    pops = rise-set (λ (stack : Stack X). stack.pops) new_stack _ held.stacks t (omega arith);
  })

  pub raises-popped : (held held' : Holdings X) (t : ℕ) → held' ≡ popped held t → RaisesCounts held held' 1
  raises-popped held held' t is = rw is (record {
    fresh = omega arith;
    spent = omega arith;
    out = omega arith;
    most = omega arith;
    pushes = rise-set (λ (stack : Stack X). stack.pushes) new_stack _ held.stacks t (omega arith);
    pops = rise-set (λ (stack : Stack X). stack.pops) new_stack _ held.stacks t (omega arith);
  })
