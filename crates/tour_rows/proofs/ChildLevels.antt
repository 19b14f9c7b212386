-- A child is one level deeper.
use Rattle.std.proofs.Common.{◌≡◌, ℕ, ◌+◌, Option, Some, None, sym, ap, ◌∙◌, arith}
use Rattle.std.specs.Prelude.{slice_get}
use Rattle.std.specs.Option.{option_map}
use Rattle.pe_base.specs.declared.place.Place.{Place}
use Rattle.pe_base.specs.declared.place.Digits.{Digits}
use Rattle.pe_base.specs.declared.way.Way.{Way}
use Rattle.pe_base.specs.Tree.Places.{child_at}
use Rattle.pe_base.specs.Tree.Curve.{children, child_digits, flips}
use Rattle.pe_base.proofs.Tree.CurveLaws.{slice_get-children}

level_of : Option Place → ℕ
level_of (Some place) = place.level
level_of None = 0

one_deeper : (cell child : Place) (digits : Option Digits) → option_map (child_at cell) digits ≡ Some child → child.level ≡ cell.level + 1
unfolding level_of
one_deeper cell child (Some digits) is = sym (ap level_of is)
one_deeper cell child None is = grind arith

pub child_level : (axes : ℕ) (way : Way) (cell child : Place) (n : ℕ) → slice_get (children axes way cell) n ≡ Some child → child.level ≡ cell.level + 1
child_level axes way cell child n is = one_deeper cell child (slice_get (child_digits axes way (flips axes cell.pos)) n) (sym (slice_get-children axes way cell n) ∙ is)
