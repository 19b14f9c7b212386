-- Lists of slots of which only the first ones are seen.
use Rattle.std.proofs.Common.{◌≡◌, ℕ, zero, suc, ◌+◌, ◌-◌, ◌^◌, ◌<◌, ◌≤◌, List, [], ◌∷◌, ◌++◌, get_or, take, drop, replicate, sym, ◌∙◌, ap, arith, Option, None, Some, IsSome}
use Rattle.std.specs.Prelude.{slice_get}
use Rattle.std.proofs.Math.Nat.{pow-le-pow_right}
use Rattle.std.proofs.lemmas.List.{take-append-drop, replicate-append-replicate}
use Rattle.pe_base.specs.Tree.Dim.{IsDim}
use Rattle.pe_stacks.specs.Corners.{CornerList}

-- a cell has four corners at least and sixteen at most
pub corners_range : (axes : ℕ) → IsDim axes → 2 ^ axes ≤ 16
corners_range axes within = pow-le-pow_right (omega arith) within.1

module _ {X : Type 0} where
  -- a slot that is full is one of those that are seen
  pub full_seen : (n : ℕ) (xs : List (Option X)) (k : ℕ) → IsSome (get_or (take n xs) k None) → k < n
  full_seen zero xs k full = cc
  full_seen (suc n) [] k full = cc
  full_seen (suc n) (x ∷ xs) zero full = omega arith
  full_seen (suc n) (x ∷ xs) (suc k) full = omega (arith, full_seen n xs k full)

  -- a slot is seen as it is
  pub seen : (n : ℕ) (xs : List (Option X)) (k : ℕ) (x : Option X) → k < n → slice_get xs k ≡ Some x → get_or (take n xs) k None ≡ x
  seen zero xs k x inside is = absurd (omega arith)
  seen (suc n) [] k x inside is = cc
  seen (suc n) (y ∷ ys) zero x inside is = cc
  seen (suc n) (y ∷ ys) (suc k) x inside is = seen n ys k x (omega arith) is

  -- a slot that is seen to be full is not empty
  pub not_empty : (n : ℕ) (xs : List (Option X)) (k : ℕ) → IsSome (get_or (take n xs) k None) → slice_get xs k ≡ Some None → ⊥
  not_empty n xs k full is = let e = seen n xs k None (full_seen n xs k full) is in cc

  -- the corners of a dimension with these slots
  abbrev pub corners_of : ℕ → List (Option X) → CornerList X
  corners_of axes slots = record { dim = axes; slots = slots }

  -- where nothing is seen and the rest is empty, all is empty
  pub all_empty : (n m : ℕ) (xs : List (Option X)) → take n xs ≡ replicate n None → drop n xs ≡ replicate (m - n) None → n ≤ m → xs ≡ replicate m None
  all_empty n m xs seen_empty rest_empty few =
      let count : n + (m - n) ≡ m = omega arith in
      sym (take-append-drop n xs)
      ∙ ap (λ front. front ++ drop n xs) seen_empty
      ∙ ap (λ back. replicate n None ++ back) rest_empty
      ∙ replicate-append-replicate n (m - n) None
      ∙ ap (λ k. replicate k None) count
