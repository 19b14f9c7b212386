-- The order of places.
use Rattle.std.specs.declared.cmp.Ordering.{Ordering}
use Rattle.std.specs.Ordering.{ordering_then, nat_cmp}
use Rattle.std.specs.Cmp.Lexicographic.{slice_cmp}
use Rattle.pe_base.specs.declared.place.Place.{Place}

-- by level, and then by position with axis 0 leading
abbrev pub place_cmp : Place → Place → Ordering
place_cmp a b = ordering_then (nat_cmp a.level b.level) (slice_cmp nat_cmp a.pos b.pos)
