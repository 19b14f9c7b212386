use Rattle.std.proofs.Common.{arith}
use Rattle.pe_stacks.specs.VecStack.{stack_of}
use Rattle.pe_stacks.proofs.Stacks.{stacks-set_same, total_len-set, room_kept-set, spare_at-set, length-items}
use Rattle.pe_stacks.proofs.vec_depot.VecDepotDepot.reserve.Goals as goal

pub invariant_of-self : goal.invariant_of-self
invariant_of-self g c =
    let old = c.index_mut.result.now in
    record {
      few = c.args.self.now.few;
      balanced =
          omega (
            arith,
            total_len-set c.args.self.now.stacks.items c.args.s old old c.reserve.new.self c.requires.stack c.index_mut.ensures.value,
            length-items (stack_of c.reserve.new.self) (stack_of old) c.reserve.ensures.holds,
            c.args.self.now.balanced,
          );
      peaked = c.args.self.now.peaked;
    }

pub returns-clause-holds : goal.returns-clause-holds
returns-clause-holds g c =
    let old = c.index_mut.result.now in
    cc (stacks-set_same c.args.self.now.stacks.items c.args.s old old c.reserve.new.self c.index_mut.ensures.value c.reserve.ensures.holds)

pub returns-clause-room : goal.returns-clause-room
returns-clause-room g c =
    let old = c.index_mut.result.now in
    room_kept-set c.args.self.now.stacks.items c.args.s old old c.reserve.new.self c.index_mut.ensures.value c.reserve.ensures.room

pub returns-clause-reserved : goal.returns-clause-reserved
returns-clause-reserved g c = rw (spare_at-set c.args.self.now.stacks.items c.args.s c.reserve.new.self c.requires.stack) c.reserve.ensures.reserved
