-- What several writes have taken of one list of bytes.
use Rattle.std.proofs.Common.{◌≡◌, ℕ, ◌+◌, ◌-◌, ◌≤◌, Option, List, length, take, drop, ap, subst, arith, length-drop}
use Rattle.std.specs.Io.KnownBytes.{Appends}
use Rattle.std.proofs.KnownBytes.{Appends-trans}
use Rattle.std.proofs.lemmas.List.{take_rest, length-take}
use Rattle.std.proofs.Math.Seq.{take-add}

-- a write of the rest took some more
pub Appends-more : (a b c : Option (List ℕ)) (done n : ℕ) (bytes : List ℕ) → Appends a b (take done bytes) → Appends b c (take n (take (length bytes - done) (drop done bytes))) → Appends a c (take (done + n) bytes)
Appends-more a b c done n bytes first second =
    let rest : take n (take (length bytes - done) (drop done bytes)) ≡ take n (drop done bytes) = ap (take n) (take_rest bytes done) in
    rw (take-add done n bytes) (Appends-trans a b c _ _ first (subst (Appends b c) rest second))

-- all of them together are no more than the bytes
pub done_more : (done n : ℕ) (bytes : List ℕ) → done ≤ length bytes → n ≤ length (take (length bytes - done) (drop done bytes)) → done + n ≤ length bytes
done_more done n bytes within bound =
    omega (arith, length-take (length bytes - done) (drop done bytes), length-drop done bytes)
