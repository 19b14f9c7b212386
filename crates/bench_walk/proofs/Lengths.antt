-- Lengths on a grid of at most 18 levels, and positions.
use Rattle.std.proofs.Common.{◌≡◌, ℕ, ◌+◌, ◌-◌, ◌*◌, ◌^◌, ◌<◌, ◌≤◌, length, arith, subst, slice_index_or}
use Rattle.std.proofs.Math.Nat.{mul-le-mul, mul-le-mul_right, pow-le-pow_right}
use Rattle.std.proofs.lemmas.Nat.{pow-add}
use Rattle.pe_base.specs.declared.place.Place.{Place}
use Rattle.pe_base.specs.Acts.Moments.{IsBelowRoot}

-- a width
pub width_few : (levels : ℕ) → levels ≤ 18 → 3 ^ levels ≤ 387420489
width_few levels few = pow-le-pow_right {n = 3} (omega arith) {i = levels} {j = 18} few

-- a position of a level, in cells of the greatest one
pub position_few : (x level greatest : ℕ) → x ≤ 3 ^ level → level ≤ greatest → greatest ≤ 18 → x * 3 ^ (greatest - level) ≤ 387420489
position_few x level greatest within above few =
    let scaled : x * 3 ^ (greatest - level) ≤ 3 ^ level * 3 ^ (greatest - level) = mul-le-mul_right (3 ^ (greatest - level)) within in
    let joined : 3 ^ (level + (greatest - level)) ≡ 3 ^ level * 3 ^ (greatest - level) = pow-add 3 level (greatest - level) in
    let same : level + (greatest - level) ≡ greatest = omega arith in
    let whole : 3 ^ greatest ≡ 3 ^ level * 3 ^ (greatest - level) = subst (λ n. 3 ^ n ≡ 3 ^ level * 3 ^ (greatest - level)) same joined in
    omega (arith, scaled, whole, width_few greatest few)

-- a position of a place
pub position_within : (place : Place) (axis : ℕ) → IsBelowRoot place → axis < length place.pos → slice_index_or place.pos axis 0 ≤ 3 ^ place.level
position_within place axis below inside = below.pos axis 0 inside

pub position_small : (place : Place) (axis : ℕ) → IsBelowRoot place → axis < length place.pos → slice_index_or place.pos axis 0 ≤ 3486784401
position_small place axis below inside =
    omega (arith, position_within place axis below inside, pow-le-pow_right {n = 3} (omega arith) {i = place.level} {j = 20} below.level)

-- the square of a distance
pub square_few : (n bound : ℕ) → n ≤ bound → n * n ≤ bound * bound
square_few n bound few = mul-le-mul few few
