-- Numbers of corners by their bits.
use Rattle.std.proofs.Common.{◌≡◌, ℕ, zero, suc, ◌/◌, ◌^◌, ◌<◌, List, sym, ap, subst, ◌∙◌, arith, pow-suc}
use Rattle.pe_base.specs.Tree.Places.{bits, number_of}
use Rattle.pe_base.proofs.Tree.PlaceLaws.{bits-suc}
use Rattle.pe_base.proofs.Tree.Corners.{IsBits}

pub IsBits-bits : (axes k : ℕ) → IsBits axes (bits axes k)
IsBits-bits zero k = tt
IsBits-bits (suc axes) k =
    let P : List ℕ → Type 0 = λ bs. IsBits (suc axes) bs in
    subst P (sym (bits-suc axes k)) (omega arith, IsBits-bits axes (k / 2))

-- the number of a corner is that of its bits
pub number_of-bits : (axes k : ℕ) → k < 2 ^ axes → number_of (bits axes k) ≡ k
number_of-bits zero k h = omega arith
number_of-bits (suc axes) k h =
    let half : k / 2 < 2 ^ axes = omega (arith, pow-suc 2 axes) in
    let tail : number_of (bits axes (k / 2)) ≡ k / 2 = number_of-bits axes (k / 2) half in
    ap number_of (bits-suc axes k) ∙ omega (arith, tail)
