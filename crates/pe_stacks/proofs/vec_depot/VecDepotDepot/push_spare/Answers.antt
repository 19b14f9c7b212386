use Rattle.std.proofs.Common.{arith}
use Rattle.pe_stacks.specs.Holdings.{pushed_on}
use Rattle.pe_stacks.specs.VecStack.{stack_of}
use Rattle.pe_stacks.proofs.Stacks.{stacks-set, total_len-set, room_kept-set, length-items}
use Rattle.pe_stacks.proofs.vec_depot.VecDepotDepot.push_spare.Goals as goal

pub invariant_of-self : goal.invariant_of-self
invariant_of-self g c =
    let old = c.index_mut.result.now in
    record {
      few = c.args.self.now.few;
      balanced =
          omega (
            arith,
            total_len-set c.args.self.now.stacks.items c.args.s old old c.push_spare.new.self c.requires.stack c.index_mut.ensures.value,
            length-items (stack_of c.push_spare.new.self) (pushed_on (stack_of old) c.args.r) c.push_spare.ensures.holds,
            c.args.self.now.balanced,
            c.requires.out,
          );
      peaked = omega arith;
    }

pub returns-clause-holds : goal.returns-clause-holds
returns-clause-holds g c =
    let old = c.index_mut.result.now in
    cc (stacks-set (λ stack. pushed_on stack c.args.r) c.args.self.now.stacks.items c.args.s old old c.push_spare.new.self c.requires.stack c.index_mut.ensures.value c.push_spare.ensures.holds)

pub returns-clause-room : goal.returns-clause-room
returns-clause-room g c =
    let old = c.index_mut.result.now in
    room_kept-set c.args.self.now.stacks.items c.args.s old old c.push_spare.new.self c.index_mut.ensures.value c.push_spare.ensures.room
