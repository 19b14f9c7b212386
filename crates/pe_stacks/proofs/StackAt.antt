-- What one stack is after a call on that stack, and on another one.
use Rattle.std.proofs.Common.{◌≡◌, ◌≢◌, ℕ, ◌<◌, ap, ◌∙◌}
use Rattle.std.proofs.lemmas.List.{get_or-set_same, get_or-set_other, length-set}
use Rattle.pe_stacks.specs.Holdings.{Holdings, new_stack, stack_count, stack_at, pushed, pushed_on, popped, popped_from}

module _ {X : Type 0} where
  pub stack_count-pushed : (held held' : Holdings X) (s : ℕ) (r : X) → held' ≡ pushed held s r → stack_count held' ≡ stack_count held
  stack_count-pushed held held' s r is = ap stack_count is ∙ length-set held.stacks s (pushed_on (stack_at held s) r)

  pub stack_at-pushed : (held held' : Holdings X) (s : ℕ) (r : X) → held' ≡ pushed held s r → s < stack_count held → stack_at held' s ≡ pushed_on (stack_at held s) r
  stack_at-pushed held held' s r is inside =
      ap (λ (now : Holdings X). stack_at now s) is ∙ get_or-set_same held.stacks s (pushed_on (stack_at held s) r) new_stack inside

  pub stack_at-pushed_other : (held held' : Holdings X) (s t : ℕ) (r : X) → held' ≡ pushed held s r → t ≢ s → stack_at held' t ≡ stack_at held t
  stack_at-pushed_other held held' s t r is apart =
      ap (λ (now : Holdings X). stack_at now t) is ∙ get_or-set_other held.stacks s t (pushed_on (stack_at held s) r) new_stack apart

  pub stack_count-popped : (held held' : Holdings X) (s : ℕ) → held' ≡ popped held s → stack_count held' ≡ stack_count held
  stack_count-popped held held' s is = ap stack_count is ∙ length-set held.stacks s (popped_from (stack_at held s))

  pub stack_at-popped : (held held' : Holdings X) (s : ℕ) → held' ≡ popped held s → s < stack_count held → stack_at held' s ≡ popped_from (stack_at held s)
  stack_at-popped held held' s is inside =
      ap (λ (now : Holdings X). stack_at now s) is ∙ get_or-set_same held.stacks s (popped_from (stack_at held s)) new_stack inside

  pub stack_at-popped_other : (held held' : Holdings X) (s t : ℕ) → held' ≡ popped held s → t ≢ s → stack_at held' t ≡ stack_at held t
  stack_at-popped_other held held' s t is apart =
      ap (λ (now : Holdings X). stack_at now t) is ∙ get_or-set_other held.stacks s t (popped_from (stack_at held s)) new_stack apart
