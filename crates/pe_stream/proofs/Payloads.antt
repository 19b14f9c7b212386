-- Payloads that are read and written, number by number.
use Rattle.std.proofs.Common.{◌≡◌, ℕ, ◌+◌, ◌-◌, ◌*◌, ◌<◌, ℤ, pos, FitsSigned, List, [], ◌∷◌, ◌++◌, length, take, drop, set, All, sym, ap, ◌∙◌, append_assoc, arith, get_or, subst}
use Rattle.std.specs.List.{flat_map}
use Rattle.std.specs.Int.{w64}
use Rattle.std.proofs.lemmas.Grind.{flat_map-append}
use Rattle.std.proofs.lemmas.List.{append-nil, length-set, take_more, take_more_set, take_rest, drop-drop, drop-set-lt}
use Rattle.std.proofs.lemmas.List.Elements.{All-set, All-drop}
use Rattle.std.proofs.Math.Seq.{take-add}
use Rattle.pe_base.specs.Limits.{most_fields}
use Rattle.pe_stream.specs.Layout.{signed_bytes}

-- the bytes of one thing more
pub flat_map-push : {X : Type 0} (f : X → List ℕ) (xs : List X) (x : X) → flat_map f (xs ++ x ∷ []) ≡ flat_map f xs ++ f x
flat_map-push f xs x = flat_map-append f xs (x ∷ []) ∙ ap (λ end. flat_map f xs ++ end) (append-nil (f x))

-- the first numbers have the bytes that were read, and the others are 0
pub record IsReadSoFar (numbers : List ℤ) (i : ℕ) (bytes : List ℕ) : Type 0 where
  pub eight : length numbers ≡ most_fields
  pub read : flat_map signed_bytes (take i numbers) ≡ take (8 * i) bytes
  pub rest : All (λ z. z ≡ pos 0) (drop i numbers)
  pub fit : All (FitsSigned w64) numbers

-- one number more is read and put in its place
pub read_more : (numbers after : List ℤ) (i : ℕ) (z : ℤ) (bytes : List ℕ) → i < most_fields → after ≡ set numbers i z → FitsSigned w64 z
    → signed_bytes z ≡ take 8 (take (length bytes - 8 * i) (drop (8 * i) bytes)) → IsReadSoFar numbers i bytes → IsReadSoFar after (i + 1) bytes
read_more numbers after i z bytes below is fits next before =
    let inside : i < length numbers = omega (arith, before.eight) in
    let sum : 8 * (i + 1) ≡ 8 * i + 8 = omega arith in
    let one : drop 1 (drop i numbers) ≡ drop (i + 1) numbers = drop-drop 1 i numbers in
    subst (λ l. IsReadSoFar l (i + 1) bytes) (sym is) (record {
      eight = length-set numbers i z ∙ before.eight;
      read = ap (flat_map signed_bytes) (take_more_set numbers i z inside)
          ∙ flat_map-push signed_bytes (take i numbers) z
          ∙ ap (λ front. front ++ signed_bytes z) before.read
          ∙ ap (λ end. take (8 * i) bytes ++ end) (next ∙ ap (take 8) (take_rest bytes (8 * i)))
          ∙ sym (ap (λ n. take n bytes) sum ∙ take-add (8 * i) 8 bytes);
      rest = subst (All (λ y. y ≡ pos 0)) (one ∙ sym (drop-set-lt (i + 1) numbers i z (omega arith))) (All-drop (λ y. y ≡ pos 0) 1 (drop i numbers) before.rest);
      fit = All-set (FitsSigned w64) numbers i z fits before.fit;
    })

-- one number more has its bytes at the end
pub written_more : (numbers : List ℤ) (i : ℕ) (z : ℤ) (old out new : List ℕ) → i < length numbers → z ≡ get_or numbers i (pos 0)
    → out ≡ old ++ flat_map signed_bytes (take i numbers) → new ≡ out ++ signed_bytes z
    → new ≡ old ++ flat_map signed_bytes (take (i + 1) numbers)
written_more numbers i z old out new inside here so_far next =
    next ∙ ap (λ front. front ++ signed_bytes z) so_far
    ∙ append_assoc old (flat_map signed_bytes (take i numbers)) (signed_bytes z)
    ∙ ap (λ end. old ++ end)
    (sym (ap (flat_map signed_bytes) (take_more numbers i (pos 0) inside ∙ ap (λ y. take i numbers ++ y ∷ []) (sym here)) ∙ flat_map-push signed_bytes (take i numbers) z))
