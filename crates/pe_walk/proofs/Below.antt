-- What is done below a cell, by its corners in hand.
use Rattle.std.proofs.Common.{◌≡◌, ℕ, zero, ◌<◌, true, false, List, [], ◌∷◌, length, refl, sym, ap, subst, ◌∙◌, arith}
use Rattle.pe_base.specs.declared.place.Place.{Place}
use Rattle.pe_base.specs.declared.kind.Kind.{Kind}
use Rattle.pe_base.specs.declared.kind.Kind.TheVariants.{Kept, Born, Dying, Hanging}
use Rattle.pe_base.specs.Tree.Curve.{children}
use Rattle.pe_base.proofs.Tree.CurveLaws.{length-children, power_positive}
use Rattle.pe_base.specs.Walk.Course.{Course, at_once, course_map, each}
use Rattle.pe_base.specs.Walk.Core.{Setting, way, Own}
use Rattle.pe_base.specs.Walk.Touches.{kind_below}
use Rattle.pe_base.specs.Calls.Follows.{Fits}
use Rattle.pe_base.proofs.Calls.Leading.{and_then-fits}
use Rattle.pe_adapt.specs.CountedTouches.{Machine, StreamStacks}
use Rattle.pe_walk.specs.Machine.{if_walked, inside, outside, walk_cell}
use Rattle.pe_walk.specs.Visits.{walk_children, walk_below}

module _ {Plan : Type 0} (set : Setting Plan) (streams : StreamStacks) (levels : ℕ) (cell : Place) (it : Own × Machine) where
  abbrev kind : Kind
  kind = kind_below it.0.corners

  abbrev walks : Own × Machine → Course (Own × Machine)
  walks it = course_map (outside set streams it.1) (walk_children set streams levels cell (inside set streams it.0 it.1))

  -- no children are walked
  pub below-hanging : kind ≡ Hanging → walk_below set streams levels cell it ≡ at_once it
  below-hanging hangs = ap (λ k. if_walked set streams k walks it) hangs

  -- some are
  pub below-walked : (kind ≡ Hanging → ⊥) → walk_below set streams levels cell it ≡ walks it
  below-walked walked = by kind refl
    where
      by : (k : Kind) → kind ≡ k → if_walked set streams k walks it ≡ walks it
      by Kept is = refl
      by Born is = refl
      by Dying is = refl
      by Hanging is = absurd (walked is)

  -- with no level left none are
  no-walk : (cells : List Place) (m : Machine) → 0 < length cells → Fits (each (walk_cell set streams zero) cells m) → ⊥
  no-walk [] m some fits = omega arith
  no-walk (c ∷ cells) m some fits = let no : false ≡ true = fits in cc

  pub below-greatest : levels ≡ 0 → Fits (walk_below set streams levels cell it) → kind ≡ Hanging
  below-greatest last fits = by kind refl
    where
      stuck-there : (kind ≡ Hanging → ⊥) → ⊥
      stuck-there walked =
          no-walk (children set.axes (way set) cell) (inside set streams it.0 it.1)
          (let some = length-children set.axes (way set) cell in let positive = power_positive set.axes in omega (arith, some, positive))
          (subst (λ n. Fits (each (walk_cell set streams n) (children set.axes (way set) cell) (inside set streams it.0 it.1))) last
          (and_then-fits (walk_children set streams levels cell (inside set streams it.0 it.1)) _ (subst Fits (below-walked walked) fits)))

      by : (k : Kind) → kind ≡ k → kind ≡ Hanging
      by Kept is = absurd (stuck-there (λ hangs. absurd (let no : Kept ≡ Hanging = sym is ∙ hangs in cc)))
      by Born is = absurd (stuck-there (λ hangs. absurd (let no : Born ≡ Hanging = sym is ∙ hangs in cc)))
      by Dying is = absurd (stuck-there (λ hangs. absurd (let no : Dying ≡ Hanging = sym is ∙ hangs in cc)))
      by Hanging is = is
