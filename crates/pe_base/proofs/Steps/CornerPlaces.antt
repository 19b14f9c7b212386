-- The corners of a cell are places of the grid.
use Rattle.std.proofs.Common.{◌≡◌, ◌∙◌, ℕ, zero, suc, List, [], ◌∷◌, length, drop, refl, ap, arith}
use Rattle.pe_base.specs.declared.place.Place.{Place}
use Rattle.pe_base.specs.Tree.Places.{bits, moved, corner}
use Rattle.pe_base.proofs.Tree.PlaceLaws.{length-bits}
use Rattle.pe_base.proofs.Steps.VertexTouches.{OnGrid}

pub length-moved : (p ds : List ℕ) → length (moved p ds) ≡ length p
length-moved [] ds = refl
length-moved (x ∷ p) [] = refl
length-moved (x ∷ p) (d ∷ ds) = ap suc (length-moved p ds)

drop-moved : (n : ℕ) (p ds : List ℕ) → length ds ≡ n → drop n (moved p ds) ≡ drop n p
drop-moved zero [] ds l = refl
drop-moved zero (x ∷ p) [] l = refl
drop-moved zero (x ∷ p) (d ∷ ds) l = absurd (omega arith)
drop-moved (suc n) [] ds l = refl
drop-moved (suc n) (x ∷ p) [] l = absurd (omega arith)
drop-moved (suc n) (x ∷ p) (d ∷ ds) l = drop-moved n p ds (omega arith)

pub corner_on_grid : (axes level : ℕ) (cell : Place) (k : ℕ) → OnGrid axes level cell → OnGrid axes level (corner axes cell k)
corner_on_grid axes level cell k on = (on.0, length-moved cell.pos (bits axes k) ∙ on.1, drop-moved axes cell.pos (bits axes k) (length-bits axes k) ∙ on.2)
