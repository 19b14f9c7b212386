-- A depot over vectors.
use Rattle.std.specs.Prelude.{ℕ, map, slice_index}
use Rattle.pe_stacks.specs.declared.vec_depot.VecDepot.{VecDepot}
use Rattle.pe_stacks.specs.Holdings.{Holdings}
use Rattle.pe_stacks.specs.VecStack.{stack_of, spare_of}

module _ {X : Type 0} where
  abbrev pub holdings_of : VecDepot X → Holdings X
  holdings_of it = record { stacks = map stack_of it.stacks.items; fresh = it.fresh; spent = it.spent; out = it.out; most = it.most }

  abbrev pub room_of : VecDepot X → ℕ → ℕ
  room_of it s = slice_index (map spare_of it.stacks.items) s
