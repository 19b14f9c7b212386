-- What a vertex is to a traversal.
use Rattle.std.specs.Prelude.{ℕ, Bool, true, false, not, ◌&&◌, ◌==◌, ◌^◌, nat_lt, take, drop, length}
use Rattle.std.specs.List.{list_all}
use Rattle.pe_base.specs.declared.place.Place.{Place}
use Rattle.pe_base.specs.declared.kind.Kind.{Kind}
use Rattle.pe_base.specs.declared.kind.Kind.TheVariants.{Kept, Born, Dying, Hanging}

-- by whether it is stored before the traversal, and whether it is stored after
abbrev pub kind_from : Bool → Bool → Kind
kind_from true true = Kept
kind_from false true = Born
kind_from true false = Dying
kind_from false false = Hanging

abbrev pub is_hanging : Kind → Bool
is_hanging Kept = false
is_hanging Born = false
is_hanging Dying = false
is_hanging Hanging = true

-- strictly inside the root cube along the grid's axes, and at 0 along the others
abbrev pub is_inside : ℕ → Place → Bool
is_inside axes vertex =
    length vertex.pos == 4
    && list_all (λ x. nat_lt 0 x && nat_lt x (3 ^ vertex.level)) (take axes vertex.pos)
    && list_all (λ x. x == 0) (drop axes vertex.pos)

-- On level 1 a vertex inside the root cube is stored after every traversal, and before every one but the first.
abbrev pub level_one_kind : ℕ → ℕ → Place → Kind
level_one_kind axes traversal vertex = kind_from (is_inside axes vertex && not (traversal == 1)) (is_inside axes vertex)
