use Rattle.std.proofs.Common.{arith}
use Rattle.std.proofs.lemmas.List.{length-drop}
use Rattle.pe_stacks.specs.Holdings.{popped_from}
use Rattle.pe_stacks.specs.VecStack.{stack_of}
use Rattle.pe_stacks.proofs.Stacks.{stack_at-map, stacks-set, total_len-set, room_kept-set, length-items}
use Rattle.pe_stacks.proofs.vec_depot.VecDepotDepot.pop.Goals as goal

pub invariant_of-self : goal.invariant_of-self
invariant_of-self g c =
    let depot = c.args.self.now in
    let xs = depot.stacks.items in
    let old = c.index_mut.result.now in
    record {
      few = depot.few;
      balanced =
          omega (
            arith,
            total_len-set xs c.args.s old old c.pop.new.self c.requires.stack c.index_mut.ensures.value,
            length-items (stack_of c.pop.new.self) (popped_from (stack_of old)) c.pop.ensures.holds,
            length-drop 1 (stack_of old).items,
            depot.balanced,
            length-items _ (stack_of old) (stack_at-map xs c.args.s old old c.requires.stack c.index_mut.ensures.value),
            c.requires.full,
          );
      peaked = omega (arith, c.max-self.ensures);
    }

pub returns-clause-room : goal.returns-clause-room
returns-clause-room g c =
    let old = c.index_mut.result.now in
    room_kept-set c.args.self.now.stacks.items c.args.s old old c.pop.new.self c.index_mut.ensures.value c.pop.ensures.room

pub returns-clause-holds : goal.returns-clause-holds
returns-clause-holds g c =
    let xs = c.args.self.now.stacks.items in
    let old = c.index_mut.result.now in
    cc (stacks-set popped_from xs c.args.s old old c.pop.new.self c.requires.stack c.index_mut.ensures.value c.pop.ensures.holds)
