-- Four of a cell's corners: quad q has the corners 4 q to 4 q + 3.
use Rattle.std.specs.Prelude.{ℕ, ◌+◌, ◌*◌, List, Option, None, slice_index_or, slice_set}
use Rattle.pe_stacks.specs.declared.quad.Quad.{Quad}
use Rattle.pe_stacks.specs.Corners.{CornerList}

module _ {X : Type 0} where
  -- four empty slots
  abbrev pub no_quad : Quad X
  no_quad = record { p0 = None; p1 = None; p2 = None; p3 = None }

  -- four slots of a list
  abbrev pub quad_of : List (Option X) → ℕ → Quad X
  quad_of slots q = record {
    p0 = slice_index_or slots (4 * q) None;
    p1 = slice_index_or slots (4 * q + 1) None;
    p2 = slice_index_or slots (4 * q + 2) None;
    p3 = slice_index_or slots (4 * q + 3) None;
  }

  abbrev pub set_quad : List (Option X) → ℕ → Quad X → List (Option X)
  set_quad slots q quad =
      slice_set (slice_set (slice_set (slice_set slots (4 * q) quad.p0) (4 * q + 1) quad.p1) (4 * q + 2) quad.p2) (4 * q + 3) quad.p3

  abbrev pub quad_at : CornerList X → ℕ → Quad X
  quad_at corners q = quad_of corners.slots q

  abbrev pub with_quad : CornerList X → ℕ → Quad X → CornerList X
  with_quad corners q quad = record corners { slots = set_quad corners.slots q quad }
