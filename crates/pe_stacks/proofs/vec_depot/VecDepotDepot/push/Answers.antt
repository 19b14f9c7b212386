use Rattle.std.proofs.Common.{arith}
use Rattle.pe_stacks.specs.Holdings.{pushed_on}
use Rattle.pe_stacks.specs.VecStack.{stack_of}
use Rattle.pe_stacks.proofs.Stacks.{stacks-set, stacks-set_same, total_len-set, room_kept-set, length-items}
use Rattle.pe_stacks.proofs.vec_depot.VecDepotDepot.push.Goals as goal

pub invariant_of-self : goal.invariant_of-self
invariant_of-self g c =
    let old = c.index_mut.result.now in
    record {
      few = c.args.self.now.few;
      balanced =
          omega (
            arith,
            total_len-set c.args.self.now.stacks.items c.args.s old old c.push.new.self c.requires.stack c.index_mut.ensures.value,
            length-items (stack_of c.push.new.self) (pushed_on (stack_of old) c.args.r) c.in-Ok.ensures.holds,
            c.args.self.now.balanced,
            c.requires.out,
          );
      peaked = omega arith;
    }

pub invariant_of-self-in-Err-1 : goal.invariant_of-self-in-Err-1
invariant_of-self-in-Err-1 g c =
    let old = c.index_mut.result.now in
    record {
      few = c.args.self.now.few;
      balanced =
          omega (
            arith,
            total_len-set c.args.self.now.stacks.items c.args.s old old c.push.new.self c.requires.stack c.index_mut.ensures.value,
            length-items (stack_of c.push.new.self) (stack_of old) c.in-Err.ensures.holds,
            c.args.self.now.balanced,
          );
      peaked = c.args.self.now.peaked;
    }

pub returns-in-Ok-clause-holds : goal.returns-in-Ok-clause-holds
returns-in-Ok-clause-holds g c =
    let old = c.index_mut.result.now in
    cc (stacks-set (λ stack. pushed_on stack c.args.r) c.args.self.now.stacks.items c.args.s old old c.push.new.self c.requires.stack c.index_mut.ensures.value c.in-Ok.ensures.holds)

pub returns-in-Ok-clause-room : goal.returns-in-Ok-clause-room
returns-in-Ok-clause-room g c =
    let old = c.index_mut.result.now in
    room_kept-set c.args.self.now.stacks.items c.args.s old old c.push.new.self c.index_mut.ensures.value c.push.ensures.room

pub returns-in-Err-clause-holds : goal.returns-in-Err-clause-holds
returns-in-Err-clause-holds g c =
    let old = c.index_mut.result.now in
    cc (stacks-set_same c.args.self.now.stacks.items c.args.s old old c.push.new.self c.index_mut.ensures.value c.in-Err.ensures.holds)

pub returns-in-Err-clause-room : goal.returns-in-Err-clause-room
returns-in-Err-clause-room g c =
    let old = c.index_mut.result.now in
    room_kept-set c.args.self.now.stacks.items c.args.s old old c.push.new.self c.index_mut.ensures.value c.push.ensures.room
