use Rattle.std.proofs.Common.{◌≡◌, map, take, drop, ◌++◌}
use Rattle.pe_stacks.specs.Holdings.{emptied}
use Rattle.pe_stacks.specs.VecStack.{stack_of, capacity_of}
use Rattle.pe_stacks.proofs.vec_depot.clear_all.Given as goal

abbrev pub invariant-loop-stack : goal.invariant-loop-stack
invariant-loop-stack g l = record {
  holds : map stack_of l.stack-items ≡ map emptied (take l.stack-index (map stack_of l.initial.stack-items)) ++ drop l.stack-index (map stack_of l.initial.stack-items);
  room : map capacity_of l.stack-items ≡ map capacity_of l.initial.stack-items;
}
