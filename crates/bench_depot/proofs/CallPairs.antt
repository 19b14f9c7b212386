-- Two calls of a depot after another run of calls.
use Rattle.std.proofs.Common.{◌≡◌, ◌≢◌, ℕ, ◌+◌, ◌*◌, ◌<◌, length, arith, ap, subst, ◌∙◌}
use Rattle.std.proofs.lemmas.List.{length-drop}
use Rattle.pe_stacks.specs.Holdings.{Holdings, Stack, stack_count, stack_at, len_at, pushed, popped, given_up, RaisesCounts}
use Rattle.pe_stacks.proofs.Raising.{raises_more, raises-given_up}
use Rattle.pe_stacks.proofs.StackAt.{stack_at-pushed, stack_at-pushed_other, stack_at-popped, stack_at-popped_other}

module _ {X : Type 0} where
  -- a run of i pairs of calls, and one pair more
  pub raises_step : (first second third fourth : Holdings X) (i : ℕ) → RaisesCounts first second (2 * i) → RaisesCounts second third 1 → RaisesCounts third fourth 1 → RaisesCounts first fourth (2 * (i + 1))
  raises_step first second third fourth i run one two =
      let sum : (2 * i + 1) + 1 ≡ 2 * (i + 1) = omega arith in
      subst (RaisesCounts first fourth) sum (raises_more first third fourth (2 * i + 1) 1 (raises_more first second third (2 * i) 1 run one) two)

  -- a record is given up after a call that left everything as it was
  pub raises_by_refusal : (held same after : Holdings X) → same ≡ held → after ≡ given_up same → RaisesCounts held after 1
  raises_by_refusal held same after is spent = raises-given_up held after (spent ∙ ap given_up is)

  pub len_at-pushed : (held held' : Holdings X) (s : ℕ) (r : X) → held' ≡ pushed held s r → s < stack_count held → len_at held' s ≡ len_at held s + 1
  len_at-pushed held held' s r is inside = omega (arith, ap (λ (stack : Stack X). length stack.items) (stack_at-pushed held held' s r is inside))

  pub len_at-pushed_other : (held held' : Holdings X) (s t : ℕ) (r : X) → held' ≡ pushed held s r → t ≢ s → len_at held' t ≡ len_at held t
  len_at-pushed_other held held' s t r is apart = ap (λ (stack : Stack X). length stack.items) (stack_at-pushed_other held held' s t r is apart)

  pub len_at-popped : (held held' : Holdings X) (s : ℕ) → held' ≡ popped held s → s < stack_count held → 0 < len_at held s → len_at held' s + 1 ≡ len_at held s
  len_at-popped held held' s is inside full =
      omega (arith, ap (λ (stack : Stack X). length stack.items) (stack_at-popped held held' s is inside), length-drop 1 (stack_at held s).items)

  pub len_at-popped_other : (held held' : Holdings X) (s t : ℕ) → held' ≡ popped held s → t ≢ s → len_at held' t ≡ len_at held t
  len_at-popped_other held held' s t is apart = ap (λ (stack : Stack X). length stack.items) (stack_at-popped_other held held' s t is apart)
