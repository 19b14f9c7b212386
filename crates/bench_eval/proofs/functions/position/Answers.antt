use Rattle.std.proofs.Common.{◌≤◌, ◌<◌, ◌^◌, ℕ, arith, rules, length, slice_index_or}
use Rattle.std.proofs.Math.Nat.{pow-le-pow_right}
use Rattle.pe_base.specs.declared.place.Place.{Place}
use Rattle.pe_base.specs.Acts.Moments.{IsBelowRoot}
use Rattle.bench_eval.proofs.functions.position.Goals as goal

few : (place : Place) → IsBelowRoot place → (axis : ℕ) → axis < length place.pos → slice_index_or place.pos axis 0 ≤ 3 ^ 20
few place below axis lt = omega (arith, below.pos axis 0 lt, pow-le-pow_right {n = 3} (omega arith) {i = place.level} {j = 20} below.level)

pub returns : goal.returns
returns c = few c.args.at.now c.requires.place c.args.axis (search rules)
