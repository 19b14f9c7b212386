-- The children of a cell by their digits, one after another.
use Rattle.std.proofs.Common.{◌≡◌, ℕ, suc, ◌<◌, List, ◌∷◌, map, ap, subst, ◌∙◌, arith}
use Rattle.std.specs.Prelude.{All}
use Rattle.pe_base.specs.declared.place.Place.{Place}
use Rattle.pe_base.specs.declared.place.Digits.{Digits}
use Rattle.pe_base.specs.declared.way.Way.{Way}
use Rattle.pe_base.specs.Tree.Places.{bits, child_at}
use Rattle.pe_base.specs.Tree.Curve.{flips, child_digits, children}

-- the children by their digits
pub all-children : (axes : ℕ) (way way' : Way) (place : Place) (es : ℕ) (digits digits' : List Digits) → way' ≡ way → digits' ≡ digits → digits ≡ child_digits axes way' (bits axes es) → bits axes es ≡ flips axes place.pos
    → map (child_at place) digits' ≡ children axes way place
all-children axes way way' place es digits digits' same kept is flipped =
    ap (map (child_at place)) (kept ∙ is ∙ ap (λ w. child_digits axes w (bits axes es)) same ∙ ap (child_digits axes way) flipped)

-- the tail of a list of which all is known
pub all-tail : {X : Type 0} (P : X → Type 0) (x : X) (xs ys : List X) → ys ≡ x ∷ xs → All P ys → All P xs
all-tail P x xs ys is all = λ k d h. let both : All P (x ∷ xs) = subst (All P) is all in both (suc k) d (omega arith)
