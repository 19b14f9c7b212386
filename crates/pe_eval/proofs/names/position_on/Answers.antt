use Rattle.std.proofs.Common.{◌≤◌, ◌<◌, ◌^◌, ℕ, arith, length, slice_index_or}
use borrow.Author.Tests.{ltb-true}
use Rattle.std.proofs.Math.Nat.{pow-le-pow_right}
use Rattle.pe_base.specs.declared.place.Place.{Place}
use Rattle.pe_base.specs.Acts.Moments.{IsBelowRoot}
use Rattle.pe_eval.proofs.names.position_on.Goals as goal

-- a position is no more than 3^20
few : (place : Place) → IsBelowRoot place → (axis d : ℕ) → axis < length place.pos → slice_index_or place.pos axis d ≤ 3 ^ 20
few place below axis d lt = omega (arith, below.pos axis d lt, pow-le-pow_right {n = 3} (omega arith) {i = place.level} {j = 20} below.level)

pub returns-in-Some-clause-few : goal.returns-in-Some-clause-few
returns-in-Some-clause-few c =
    let found = c.in-Some.ensures.lookup in
    let lt : c.args.axis < length c.args.place.now.pos = omega (arith, ltb-true, found.0) in
    omega (arith, few c.args.place.now c.requires c.args.axis c.in-Some.x.now lt, found.1)
