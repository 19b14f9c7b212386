-- Parts of the tokens, joined.
use Rattle.std.proofs.Common.{◌≡◌, ℕ, ◌+◌, ◌-◌, ◌<◌, ◌≤◌, suc, zero, List, [], ◌∷◌, ◌++◌, take, drop, Some, refl, sym, ◌∙◌, ap, drop-drop, arith}
use Rattle.std.specs.Prelude.{slice_get}
use Rattle.pe_parse.specs.Lexemes.{Lexeme}
use Rattle.pe_parse.specs.Reading.{piece}
use Rattle.pe_parse.proofs.TokenMoves.{at_some}

take_none : (k : ℕ) → take {A = Lexeme} k [] ≡ []
take_none zero = refl
take_none (suc k) = refl

take_split : (n m : ℕ) (xs : List Lexeme) → n ≤ m → take n xs ++ take (m - n) (drop n xs) ≡ take m xs
take_split zero m xs h = ap (λ (k : ℕ). take k xs) (omega arith)
take_split (suc n) zero xs h = absurd (omega arith)
take_split (suc n) (suc m) [] h = take_none (suc m - suc n)
take_split (suc n) (suc m) (x ∷ xs) h =
    ap (λ (k : ℕ). x ∷ (take n xs ++ take k (drop n xs))) (omega arith) ∙ ap (λ (ys : List Lexeme). x ∷ ys) (take_split n m xs (omega arith))

-- two parts that meet are one
pub piece_join : (xs : List Lexeme) (at mid next : ℕ) → at ≤ mid → mid ≤ next → piece xs at mid ++ piece xs mid next ≡ piece xs at next
piece_join xs at mid next h k =
    let moved : drop mid xs ≡ drop (mid - at) (drop at xs) = ap (λ (n : ℕ). drop n xs) (omega arith) ∙ sym (drop-drop (mid - at) at xs) in
    ap (λ (ys : List Lexeme). piece xs at mid ++ take (next - mid) ys) moved
    ∙ ap (λ (n : ℕ). piece xs at mid ++ take n (drop (mid - at) (drop at xs))) (omega arith)
    ∙ take_split (mid - at) (next - at) (drop at xs) (omega arith)

-- one token
pub piece_one : (xs : List Lexeme) (at next : ℕ) (x : Lexeme) → slice_get xs at ≡ Some x → at < next → piece xs at next ≡ x ∷ piece xs (suc at) next
piece_one xs at next x is h =
    ap (take (next - at)) (at_some xs at x is)
    ∙ ap (λ (n : ℕ). take n (x ∷ drop (suc at) xs)) (step at next h)
  where
    step : (at next : ℕ) → at < next → next - at ≡ suc (next - suc at)
    step at next h = omega arith

pub piece_empty : (xs : List Lexeme) (at : ℕ) → piece xs at at ≡ []
piece_empty xs at = let none_ : at - at ≡ 0 = omega arith in ap (λ (n : ℕ). take n (drop at xs)) none_

pub piece_cons : (xs : List Lexeme) (at next : ℕ) (x : Lexeme) → slice_get xs at ≡ Some x → at < next → piece xs at next ≡ x ∷ piece xs (at + 1) next
piece_cons xs at next x is h = piece_one xs at next x is h ∙ ap (λ (n : ℕ). x ∷ piece xs n next) (on_one at)
  where
    on_one : (n : ℕ) → suc n ≡ n + 1
    on_one n = omega arith

pub piece_single : (xs : List Lexeme) (at : ℕ) (x : Lexeme) → slice_get xs at ≡ Some x → piece xs at (at + 1) ≡ x ∷ []
piece_single xs at x is = piece_cons xs at (at + 1) x is (omega arith) ∙ ap (λ (ys : List Lexeme). x ∷ ys) (piece_empty xs (at + 1))

pub piece_snoc : (xs : List Lexeme) (at mid : ℕ) (y : Lexeme) → slice_get xs mid ≡ Some y → at ≤ mid → piece xs at (mid + 1) ≡ piece xs at mid ++ y ∷ []
piece_snoc xs at mid y is h = sym (piece_join xs at mid (mid + 1) h (omega arith)) ∙ ap (λ (ys : List Lexeme). piece xs at mid ++ ys) (piece_single xs mid y is)
