-- What a cell state holds of each face, by the order of the walk.
use Rattle.std.specs.Prelude.{ℕ, ◌%◌, ◌==◌, if◌then◌else◌, Option, Some, None, slice_index}
use Rattle.pe_base.specs.declared.place.Place.{Place}
use Rattle.pe_base.specs.declared.way.Way.{Way}
use Rattle.pe_access.specs.Extents.{Face, Relation, Earlier, Later, Outside, Extent}
use Rattle.pe_access.specs.Neighbours.{neighbour, comes_first, face_level}

-- when a neighbour comes
abbrev pub relation_to : ℕ → Way → Place → Option Place → Relation
relation_to axes way cell None = Outside
relation_to axes way cell (Some other) = if comes_first axes way other cell then Earlier else Later

-- a face of a cell
abbrev pub face_of : ℕ → Way → Place → ℕ → ℕ → Face
face_of axes way cell axis side = record { relation = relation_to axes way cell (neighbour cell axis side); level = face_level cell axis side }

-- a cell along an axis
abbrev pub extent_of : ℕ → Way → Place → ℕ → Extent
extent_of axes way cell axis = record {
  odd = slice_index cell.pos axis % 2 == 1;
  near = face_of axes way cell axis 0;
  far = face_of axes way cell axis 1;
}
