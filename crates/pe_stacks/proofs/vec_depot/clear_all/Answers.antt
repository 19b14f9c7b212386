use Rattle.std.proofs.Common.{arith, map, ◌∙◌}
use Rattle.std.proofs.lemmas.List.{length-map}
use Rattle.pe_stacks.specs.Holdings.{emptied}
use Rattle.pe_stacks.specs.VecStack.{stack_of, capacity_of}
use Rattle.std.proofs.Math.Seq.{map-set_same}
use Rattle.pe_stacks.proofs.Stacks.{stacks_more}
use Rattle.pe_stacks.proofs.vec_depot.clear_all.Goals as goal

pub loop-stack-preserved : goal.loop-stack-preserved
loop-stack-preserved g c = record {
  holds = stacks_more emptied (map stack_of c.deref_mut-stack-items.result.now) c.loop-stack.stack-items c.loop-stack.stack-index c.stack-item.result c.clear.new.self (omega arith) c.clear.ensures.holds (omega (arith, length-map c.deref_mut-stack-items.result.now stack_of)) c.loop-stack.invariant.holds;
  room = map-set_same capacity_of c.loop-stack.stack-items c.loop-stack.stack-index c.clear.new.self c.stack-item.result c.clear.ensures.room ∙ c.loop-stack.invariant.room;
}
