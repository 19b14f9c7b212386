-- Things that are read and written, one after another.
use Rattle.std.proofs.Common.{◌≡◌, ℕ, ◌+◌, ◌*◌, ◌≤◌, List, [], ◌∷◌, ◌++◌, length, take, drop, get_or, All, sym, ap, subst, ◌∙◌, append_assoc, arith}
use Rattle.std.specs.List.{flat_map}
use Rattle.std.proofs.lemmas.List.{length-append, drop-drop, get_or-drop, get_or-take}
use Rattle.std.proofs.lemmas.List.Elements.{All-push}
use Rattle.std.proofs.Math.Seq.{take-add}
use Rattle.std.specs.Prelude.{slice_index}
use Rattle.pe_stream.specs.Faults.{state_at}
use Rattle.pe_stream.proofs.Payloads.{flat_map-push}

-- so many things of one size, and one more
row_more : (i size : ℕ) → (i + 1) * size ≡ i * size + size
row_more i size = grind arith

pub record IsReadSoFar {X : Type 0} (spelled : X → List ℕ) (Is : X → Type 0) (size : ℕ) (bytes : List ℕ) (items : List X) (rest : List ℕ) (i : ℕ) : Type 0 where
  pub bytes_are : flat_map spelled items ≡ take (i * size) bytes
  pub rest_is : rest ≡ drop (i * size) bytes
  pub count_is : length items ≡ i
  pub each : All Is items

-- what is read next: the front of what is left, of the size of one thing
pub record Splits (size : ℕ) (rest front back : List ℕ) : Type 0 where
  pub front_is : front ≡ take size rest
  pub back_is : back ≡ drop size rest

pub splits_at : (n size : ℕ) (rest front back : List ℕ) → n ≡ size → front ≡ take n rest → back ≡ drop n rest → Splits size rest front back
splits_at n size rest front back is front_is back_is =
    record { front_is = front_is ∙ ap (λ m. take m rest) is; back_is = back_is ∙ ap (λ m. drop m rest) is }

-- one more is read
pub read_one_more : {X : Type 0} (spelled : X → List ℕ) (Is : X → Type 0) (size : ℕ) (bytes : List ℕ) (items after : List X) (rest front back : List ℕ) (i : ℕ) (x : X)
    → Splits size rest front back → after ≡ items ++ x ∷ [] → spelled x ≡ front → Is x → IsReadSoFar spelled Is size bytes items rest i
    → IsReadSoFar spelled Is size bytes after back (i + 1)
read_one_more spelled Is size bytes items after rest front back i x split is spells here before =
    subst (λ l. IsReadSoFar spelled Is size bytes l back (i + 1)) (sym is) (record {
      bytes_are = flat_map-push spelled items x
          ∙ ap (λ l. l ++ spelled x) before.bytes_are
          ∙ ap (λ l. take (i * size) bytes ++ l) (spells ∙ split.front_is ∙ ap (take size) before.rest_is)
          ∙ sym (ap (λ n. take n bytes) (row_more i size) ∙ take-add (i * size) size bytes);
      rest_is = split.back_is ∙ ap (drop size) before.rest_is ∙ drop-drop size (i * size) bytes ∙ ap (λ n. drop n bytes) (sym (row_more i size));
      count_is = length-append items (x ∷ []) ∙ omega (arith, before.count_is);
      each = All-push Is items x before.each here;
    })

-- the byte of the next one that says its state
pub next_state : (size i : ℕ) (bytes rest front back : List ℕ) → 1 ≤ size → Splits size rest front back → rest ≡ drop (i * size) bytes → slice_index front 0 ≡ state_at size bytes i
next_state size i bytes rest front back some split is =
    ap (λ l. get_or l 0 0) split.front_is ∙ get_or-take size rest 0 0 (omega arith) ∙ ap (λ l. get_or l 0 0) is ∙ get_or-drop (i * size) bytes 0 0 ∙ ap (λ n. get_or bytes n 0) (omega arith)

-- five pieces that are written one behind another
pub five_written : (old a b c d e one two three four five : List ℕ) → one ≡ old ++ a → two ≡ one ++ b → three ≡ two ++ c → four ≡ three ++ d → five ≡ four ++ e
    → five ≡ old ++ (a ++ (b ++ (c ++ (d ++ e))))
five_written old a b c d e one two three four five pa pb pc pd pe =
    pe ∙ ap (λ l. l ++ e) (pd ∙ ap (λ l. l ++ d) (pc ∙ ap (λ l. l ++ c) (pb ∙ ap (λ l. l ++ b) pa)))
    ∙ append_assoc (((old ++ a) ++ b) ++ c) d e ∙ append_assoc ((old ++ a) ++ b) c (d ++ e) ∙ append_assoc (old ++ a) b (c ++ (d ++ e)) ∙ append_assoc old a (b ++ (c ++ (d ++ e)))
