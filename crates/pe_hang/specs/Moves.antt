-- What a call on a depot is to a machine of lists: a move that is stuck where the call may not be made.
use Rattle.std.specs.Prelude.{ℕ, ◌+◌, ◌^◌, ◌<◌, Bool, true, false, ◌&&◌, nat_lt, List, [], ◌∷◌}
use Rattle.pe_base.specs.Walk.Course.{Course, done, stuck, ends, at_once, allowed}
use Rattle.pe_stacks.specs.Holdings.{Holdings, stack_count, stack_at, items_at, len_at, lent, given_up, pushed, popped}

-- a count may rise
abbrev pub may_rise : ℕ → Bool
may_rise count = nat_lt count (2 ^ 63)

module _ {X : Type 0} where
  -- a fresh record is lent
  abbrev pub lend : Holdings X → Course (Holdings X)
  lend held = allowed (may_rise held.fresh) (at_once (lent held))

  -- a record that is out is given up
  abbrev pub give_up : Holdings X → Course (Holdings X)
  give_up held = allowed (nat_lt 0 held.out) (at_once (given_up held))

  -- the top of a stack, if there is one
  abbrev pub top_of : List X → Holdings X → Course (X × Holdings X)
  top_of [] held = ends stuck
  top_of (x ∷ xs) held = at_once (x, held)

  abbrev pub pop : ℕ → Holdings X → Course (X × Holdings X)
  pop s held = allowed (nat_lt s (stack_count held) && may_rise (stack_at held s).pops) (top_of (items_at held s) (popped held s))

  -- a record that is out is put on a stack, of vertices or of cells, and the push is logged
  abbrev pub push : Bool → ℕ → X → Holdings X → Course (Holdings X)
  push of_cell s x held =
      allowed (nat_lt s (stack_count held) && may_rise (stack_at held s).pushes && nat_lt 0 held.out)
      (record { text = []; log = record { of_cell = of_cell; stack = s; length = len_at held s + 1 } ∷ []; ending = done (pushed held s x) })

-- what a pop asks for
pub record MayPop {X : Type 0} (held : Holdings X) (s : ℕ) : Type 0 where
  pub stack : s < stack_count held
  pub count : (stack_at held s).pops < 2 ^ 63
  pub full : 0 < len_at held s

-- what a push asks for
pub record MayPush {X : Type 0} (held : Holdings X) (s : ℕ) : Type 0 where
  pub stack : s < stack_count held
  pub count : (stack_at held s).pushes < 2 ^ 63
  pub out : 0 < held.out
