-- What lies on the stacks of a depot after one of them was pushed or popped.
use Rattle.std.proofs.Common.{◌≡◌, ◌≢◌, ℕ, zero, suc, ◌<◌, List, [], ◌∷◌, drop, length, get_or, ap, ◌∙◌, length-set, arith}
use Rattle.std.proofs.lemmas.List.{get_or-set_same, get_or-set_other}
use Rattle.pe_stacks.specs.Holdings.{Holdings, Stack, new_stack, stack_count, stack_at, items_at, pushed, popped, pushed_on, popped_from}

module _ {X : Type 0} where
  within_stacks : (stacks : List (Stack X)) (s : ℕ) (x : X) (xs : List X) → (get_or stacks s new_stack).items ≡ x ∷ xs → s < length stacks
  within_stacks [] s x xs e = absurd (omega (arith, ap length e))
  within_stacks (stack ∷ stacks) zero x xs e = omega arith
  within_stacks (stack ∷ stacks) (suc s) x xs e = let h = within_stacks stacks s x xs e in omega arith

  -- a stack with something on it is one of the depot's
  pub is_stack_of : (held : Holdings X) (s : ℕ) (x : X) (xs : List X) → items_at held s ≡ x ∷ xs → s < stack_count held
  is_stack_of held s x xs e = within_stacks held.stacks s x xs e

  pub popped_same : (held : Holdings X) (s : ℕ) (x : X) (xs : List X) → items_at held s ≡ x ∷ xs → items_at (popped held s) s ≡ xs
  popped_same held s x xs e = ap (λ (stack : Stack X). stack.items) (get_or-set_same held.stacks s (popped_from (stack_at held s)) new_stack (is_stack_of held s x xs e)) ∙ ap (drop 1) e

  pub popped_other : (held : Holdings X) (s other : ℕ) → other ≢ s → items_at (popped held s) other ≡ items_at held other
  popped_other held s other h = ap (λ (stack : Stack X). stack.items) (get_or-set_other held.stacks s other (popped_from (stack_at held s)) new_stack h)

  pub pushed_same : (held : Holdings X) (s : ℕ) (x : X) → s < stack_count held → items_at (pushed held s x) s ≡ x ∷ items_at held s
  pushed_same held s x h = ap (λ (stack : Stack X). stack.items) (get_or-set_same held.stacks s (pushed_on (stack_at held s) x) new_stack h)

  pub pushed_other : (held : Holdings X) (s other : ℕ) (x : X) → other ≢ s → items_at (pushed held s x) other ≡ items_at held other
  pushed_other held s other x h = ap (λ (stack : Stack X). stack.items) (get_or-set_other held.stacks s other (pushed_on (stack_at held s) x) new_stack h)

  pub popped_count : (held : Holdings X) (s : ℕ) → stack_count (popped held s) ≡ stack_count held
  popped_count held s = length-set held.stacks s (popped_from (stack_at held s))

  pub pushed_count : (held : Holdings X) (s : ℕ) (x : X) → stack_count (pushed held s x) ≡ stack_count held
  pushed_count held s x = length-set held.stacks s (pushed_on (stack_at held s) x)
