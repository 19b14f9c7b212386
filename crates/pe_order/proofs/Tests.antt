-- Tests, lists and powers that several proofs need.
use Rattle.std.proofs.Common.{◌≡◌, ℕ, zero, suc, ◌*◌, ◌^◌, ◌≤◌, Bool, true, false, ◌&&◌, refl, subst, pow-suc, arith}
use Rattle.std.proofs.Math.Nat.{mul-le-mul_right}

pub and_twice : (a b : Bool) → (a && (a && b)) ≡ (a && b)
and_twice true b = refl
and_twice false b = refl

pub some_power : (n : ℕ) → 1 ≤ 2 ^ n
some_power zero = omega arith
some_power (suc n) = omega (arith, pow-suc 2 n, some_power n)

pub times_one : (k c : ℕ) → 1 ≤ k → c ≤ k * c
times_one k c some = let once : 1 * c ≡ c = omega arith in subst (λ n. n ≤ k * c) once (mul-le-mul_right c some)
