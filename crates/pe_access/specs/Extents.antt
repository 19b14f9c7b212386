-- Cells along one axis: their parities and their faces, from parent to child.
use Rattle.std.specs.Prelude.{ℕ, ◌+◌, ◌%◌, Bool, true, false, ◌==◌, if◌then◌else◌}

-- when the walk visits the neighbour across a face: before the cell, after it, or never, since it is outside the root
pub data Relation : Type 0 where
  Earlier : Relation
  Later : Relation
  Outside : Relation

-- a face of a cell: when the neighbour across it comes, and the least level on which its plane bounds a cell around it
pub record Face : Type 0 where
  pub relation : Relation
  pub level : ℕ

-- a cell along one axis: whether its position is odd, and its two faces normal to the axis
pub record Extent : Type 0 where
  pub odd : Bool
  pub near : Face
  pub far : Face

-- the parity as a number
abbrev pub bit_of : Bool → ℕ
bit_of odd = if odd then 1 else 0

abbrev pub is_relation : Relation → Relation → Bool
is_relation Earlier Earlier = true
is_relation Later Later = true
is_relation Outside Outside = true
is_relation _ _ = false

-- a face of the root
abbrev pub root_face : Face
root_face = record { relation = Outside; level = 0 }

abbrev pub root_extent : Extent
root_extent = record { odd = false; near = root_face; far = root_face }

-- A face inside the parent first appears on the child's level. Where the axis is walked forwards, the
-- neighbour at the near end comes earlier and the one at the far end later.
abbrev pub near_face : ℕ → ℕ → Face
near_face level turns = record { relation = if turns % 2 == 0 then Earlier else Later; level = level }

abbrev pub far_face : ℕ → ℕ → Face
far_face level turns = record { relation = if turns % 2 == 0 then Later else Earlier; level = level }

-- the child with a digit: a face on the parent's boundary is the parent's
abbrev pub child_extent : ℕ → ℕ → ℕ → Extent → Extent
child_extent level turns k extent = record {
  odd = (bit_of extent.odd + k) % 2 == 1;
  near = if k == 0 then extent.near else near_face level turns;
  far = if k == 2 then extent.far else far_face level turns;
}

-- the face at a side
abbrev pub face_at : Extent → ℕ → Face
face_at extent side = if side == 0 then extent.near else extent.far
