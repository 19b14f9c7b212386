-- The fastest face at a corner, by relations and levels.
use Rattle.std.specs.Prelude.{ℕ, ◌+◌, ◌*◌, ◌%◌, ◌&&◌, nat_lt, if◌then◌else◌, List, [], ◌∷◌}
use Rattle.pe_access.specs.declared.route.Route.{Route}
use Rattle.pe_access.specs.declared.route.Route.TheVariants.{Stream, Temp}
use Rattle.pe_access.specs.Extents.{Relation, Extent, bit_of, is_relation, face_at}

-- the best route so far, and the level of its face; level 0 for the stream
pub record Choice : Type 0 where
  pub route : Route
  pub level : ℕ

-- the face with a greater level, and of equal ones that of the axes behind
abbrev pub faster : Relation → ℕ → ℕ → Extent → Choice → Choice
faster relation axis side extent behind =
    let face = face_at extent side in
    if is_relation face.relation relation && nat_lt behind.level face.level
    then record { route = Temp (2 * axis + (bit_of extent.odd + side) % 2); level = face.level }
    else behind

-- the best face at a corner, with a side for each axis
abbrev pub fastest : Relation → ℕ → List ℕ → List Extent → Choice
fastest relation axis [] extents = record { route = Stream; level = 0 }
fastest relation axis (side ∷ sides) [] = record { route = Stream; level = 0 }
fastest relation axis (side ∷ sides) (extent ∷ extents) = faster relation axis side extent (fastest relation (axis + 1) sides extents)
