use Rattle.std.proofs.Common.{arith, ap, map}
use Rattle.pe_stacks.specs.Holdings.{total_len}
use Rattle.pe_stacks.specs.VecStack.{stack_of}
use Rattle.pe_stacks.proofs.Stacks.{total_len-emptied, room_kept_same}
use Rattle.pe_stacks.proofs.vec_depot.VecDepotDepot.clear.Goals as goal

pub invariant_of-self : goal.invariant_of-self
invariant_of-self g c = record {
  few = omega (arith, c.clear_all.ensures.len, c.args.self.now.few);
  balanced = omega (arith, ap total_len c.clear_all.ensures.holds, total_len-emptied (map stack_of c.args.self.now.stacks.items), c.args.self.now.balanced);
  peaked = c.args.self.now.peaked;
}

pub returns-clause-room : goal.returns-clause-room
returns-clause-room g c = room_kept_same c.args.self.now.stacks.items c.clear_all.new.stacks.items c.clear_all.ensures.room
