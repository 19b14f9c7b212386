use Rattle.std.proofs.Common.{◌≡◌, map, replicate}
use Rattle.pe_stacks.specs.Holdings.{new_stack}
use Rattle.pe_stacks.specs.VecStack.{stack_of}
use Rattle.pe_stacks.proofs.vec_depot.new_stacks.Given as goal

abbrev pub invariant-loop-stack : goal.invariant-loop-stack
invariant-loop-stack g l = map stack_of l.stacks.items ≡ replicate l._stack new_stack
