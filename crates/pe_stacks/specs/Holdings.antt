-- What a depot holds and has counted, and what each call makes of it.
use Rattle.std.specs.Prelude.{ℕ, ◌+◌, ◌-◌, ◌≤◌, List, [], ◌∷◌, map, max, length, replicate, drop, slice_index_or, slice_set, sum_by}

-- a stack: its records, top first, and how often it was pushed and popped
pub record Stack (X : Type 0) : Type 0 where
  pub items : List X
  pub pushes : ℕ
  pub pops : ℕ

-- A depot: its stacks, how many records were ever lent and how many were ever given up, how many are out,
-- and how many were out at most.
pub record Holdings (X : Type 0) : Type 0 where
  pub stacks : List (Stack X)
  pub fresh : ℕ
  pub spent : ℕ
  pub out : ℕ
  pub most : ℕ

-- a stack that nothing was done with
abbrev pub new_stack : {X : Type 0} → Stack X
new_stack = record { items = []; pushes = 0; pops = 0 }

-- a depot that nothing was done with
abbrev pub new_holdings : {X : Type 0} → ℕ → Holdings X
new_holdings stacks = record { stacks = replicate stacks new_stack; fresh = 0; spent = 0; out = 0; most = 0 }

module _ {X : Type 0} where
  abbrev pub stack_count : Holdings X → ℕ
  stack_count held = length held.stacks

  abbrev pub stack_at : Holdings X → ℕ → Stack X
  stack_at held s = slice_index_or held.stacks s new_stack

  -- the records of a stack, top first
  abbrev pub items_at : Holdings X → ℕ → List X
  items_at held s = (stack_at held s).items

  abbrev pub len_at : Holdings X → ℕ → ℕ
  len_at held s = length (items_at held s)

  -- how many records lie on some stacks together
  abbrev pub total_len : List (Stack X) → ℕ
  total_len stacks = sum_by (λ stack. length stack.items) stacks

  abbrev pub with_stack : Holdings X → ℕ → Stack X → Holdings X
  with_stack held s stack = record held { stacks = slice_set held.stacks s stack }

  -- one more record is out
  abbrev pub one_out : Holdings X → Holdings X
  one_out held = record held { out = held.out + 1; most = max held.most (held.out + 1) }

  -- one less record is out
  abbrev pub one_back : Holdings X → Holdings X
  one_back held = record held { out = held.out - 1 }

  -- after a fresh record is lent
  abbrev pub lent : Holdings X → Holdings X
  lent held = one_out (record held { fresh = held.fresh + 1 })

  -- after a record that is out is given up
  abbrev pub given_up : Holdings X → Holdings X
  given_up held = one_back (record held { spent = held.spent + 1 })

  -- after a record that is out is pushed on a stack
  abbrev pub pushed_on : Stack X → X → Stack X
  pushed_on stack r = record stack { items = r ∷ stack.items; pushes = stack.pushes + 1 }

  abbrev pub pushed : Holdings X → ℕ → X → Holdings X
  pushed held s r = one_back (with_stack held s (pushed_on (stack_at held s) r))

  -- after the top of a stack is popped
  abbrev pub popped_from : Stack X → Stack X
  popped_from stack = record stack { items = drop 1 stack.items; pops = stack.pops + 1 }

  abbrev pub popped : Holdings X → ℕ → Holdings X
  popped held s = one_out (with_stack held s (popped_from (stack_at held s)))

  -- after every record on every stack is given up
  abbrev pub emptied : Stack X → Stack X
  emptied stack = record stack { items = [] }

  abbrev pub cleared : Holdings X → Holdings X
  cleared held = record held { stacks = map emptied held.stacks; spent = held.spent + total_len held.stacks }

  -- of no stack do the length and the room together fall
  abbrev pub KeepsRoom : Holdings X → (ℕ → ℕ) → Holdings X → (ℕ → ℕ) → Type 0
  KeepsRoom held room held' room' = (s : ℕ) → len_at held s + room s ≤ len_at held' s + room' s

  -- every count is at most n
  pub record CountsWithin (held : Holdings X) (n : ℕ) : Type 0 where
    pub fresh : held.fresh ≤ n
    pub spent : held.spent ≤ n
    pub out : held.out ≤ n
    pub most : held.most ≤ n
    pub pushes : (s : ℕ) → (stack_at held s).pushes ≤ n
    pub pops : (s : ℕ) → (stack_at held s).pops ≤ n

  -- No count rises by more than k: that of the records out at most over itself, or over what is out.
  pub record RaisesCounts (held held' : Holdings X) (k : ℕ) : Type 0 where
    pub fresh : held'.fresh ≤ held.fresh + k
    pub spent : held'.spent ≤ held.spent + k
    pub out : held'.out ≤ held.out + k
    pub most : held'.most ≤ max held.most held.out + k
    pub pushes : (s : ℕ) → (stack_at held' s).pushes ≤ (stack_at held s).pushes + k
    pub pops : (s : ℕ) → (stack_at held' s).pops ≤ (stack_at held s).pops + k
