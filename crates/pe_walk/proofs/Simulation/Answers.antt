-- A traversal on stacks is the walk by address.
use Rattle.pe_walk.specs.Gridded.{IsShort, StacksAreAddresses}
use Rattle.pe_walk.proofs.Simulation.Traverses.{turns}
use Rattle.pe_walk.proofs.Simulation.Ends.Turned.{turned_of}

pub stacks_are_addresses : {Plan : Type 0} → StacksAreAddresses Plan
stacks_are_addresses set grid swapped m may = turns set grid swapped m may (λ w t holds all. turned_of set grid swapped m may (IsShort set grid swapped) w t holds all)
