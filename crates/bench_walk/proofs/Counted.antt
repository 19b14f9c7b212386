-- The first of some numbers, counted in place.
use Rattle.std.proofs.Common.{◌≡◌, ℤ, List, [], ◌∷◌, refl, Some}
use Rattle.std.specs.Prelude.{slice_get, slice_set}
use Rattle.bench_walk.specs.Counting.{one_more, counted}

pub set_counted : (ns : List ℤ) (n : ℤ) → slice_get ns 0 ≡ Some n → slice_set ns 0 (one_more n) ≡ counted ns
set_counted [] n is = absurd cc
set_counted (m ∷ ns) n is = let same : m ≡ n = cc in rw same refl
