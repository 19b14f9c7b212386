-- How the corners lie in sixteen slots: those that the dimension does not have are empty.
use Rattle.std.specs.Prelude.{◌≡◌, ◌-◌, ◌^◌, take, drop, replicate, length, None}
use Rattle.pe_base.specs.Tree.Dim.{IsDim}
use Rattle.pe_stacks.specs.declared.record.Vertex.{Vertex}
use Rattle.pe_stacks.specs.declared.corners.Corners.TheInside.{Inside}
use Rattle.pe_stacks.specs.Corners.{CornerList}

module _ {P : Type 0} where
  abbrev pub corner_list : Inside P → CornerList (Vertex P)
  corner_list it = record { dim = it.dim; slots = take (2 ^ it.dim) it.slots }

  -- a dimension, and sixteen slots of which those behind its corners are empty
  pub record IsSound (it : Inside P) : Type 0 where
    pub dim : IsDim it.dim
    pub count : length it.slots ≡ 16
    pub rest : drop (2 ^ it.dim) it.slots ≡ replicate (16 - 2 ^ it.dim) None
