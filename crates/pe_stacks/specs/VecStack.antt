-- A stack over a vector, the top at the vector's end.
use Rattle.std.specs.Prelude.{ℕ, ◌-◌, reverse, vec_len, vec_capacity}
use Rattle.pe_stacks.specs.declared.vec_stack.VecStack.{VecStack}
use Rattle.pe_stacks.specs.Holdings.{Stack}

module _ {X : Type 0} where
  abbrev pub stack_of : VecStack X → Stack X
  stack_of it = record { items = reverse it.items.items; pushes = it.pushes; pops = it.pops }

  abbrev pub capacity_of : VecStack X → ℕ
  capacity_of it = vec_capacity it.items

  abbrev pub spare_of : VecStack X → ℕ
  spare_of it = vec_capacity it.items - vec_len it.items
