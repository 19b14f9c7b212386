-- What an answer of reading says of the bytes.
use Rattle.std.proofs.Common.{◌≡◌, ℕ, ◌≤◌, ◌⊎◌, inl, inr, List, length, Option, Some, None, Result, Ok, Err, refl, sym, ap, subst, ◌∙◌}
use Rattle.std.specs.Prelude.{IfOk}
use Rattle.pe_stream.specs.declared.expect.Expect.{Expect}
use Rattle.pe_stream.specs.declared.fault.StreamFault.{StreamFault}
use Rattle.pe_stream.specs.declared.fault.StreamFault.TheVariants.{Length, Magic, Version, Header, State, Memory}
use Rattle.pe_stream.specs.declared.saved.Saved.{Saved}
use Rattle.pe_stream.specs.Saved.{Spells, IsFew}
use Rattle.pe_stream.specs.Faults.{found, AreFoundIn, first_fault, TestsUnlessMemory}
use Rattle.pe_stream.specs.Ranges.{IsIn, range_of}
use Rattle.pe_stream.specs.Parts.{AreOf}
use Rattle.pe_stream.proofs.Whole.{found-field, saved_once, no_fault, few_vertices}

module _ (expect : Option Expect) (bytes : List ℕ) where
  -- bytes of a saved grid have no fault
  none_of : (s : Saved) → Spells expect bytes s → first_fault expect bytes ≡ None
  none_of s spelled = ap (first_fault expect) spelled.bytes_are ∙ no_fault expect s spelled.header spelled.saved spelled.held

  refused : (s : Saved) (fault : StreamFault) → Spells expect bytes s → first_fault expect bytes ≡ Some fault → ⊥
  refused s fault spelled is = let none = none_of s spelled in let both : None ≡ Some fault = sym none ∙ is in cc

  -- where they are those of one, the answer is that one, or want of memory
  pub only_one : (r : Result Saved StreamFault) (s : Saved) → Spells expect bytes s → IfOk r (Spells expect bytes) → TestsUnlessMemory (first_fault expect bytes) r
      → (r ≡ Ok s) ⊎ (r ≡ Err Memory)
  only_one (Ok t) s spelled ok fault =
      inl (ap (λ x. Ok x) (saved_once t s ok.saved ok.held spelled.saved spelled.held (sym ok.bytes_are ∙ spelled.bytes_are)))
  only_one (Err Memory) s spelled ok fault = inr refl
  only_one (Err (Length e f)) s spelled ok fault = absurd (refused s (Length e f) spelled fault)
  only_one (Err Magic) s spelled ok fault = absurd (refused s Magic spelled fault)
  only_one (Err (Version f)) s spelled ok fault = absurd (refused s (Version f) spelled fault)
  only_one (Err (Header h f)) s spelled ok fault = absurd (refused s (Header h f) spelled fault)
  only_one (Err (State i f)) s spelled ok fault = absurd (refused s (State i f) spelled fault)

  pub few_of : (r : Result Saved StreamFault) → IfOk r (Spells expect bytes) → IfOk r (λ s. IsFew (length bytes) s)
  few_of (Ok s) ok = subst (λ l. length s.vertices ≤ length l) (sym ok.bytes_are) (few_vertices s ok.saved ok.held)
  few_of (Err fault) ok = tt

  -- what was read has its header in the ranges that the bytes were tested for
  pub spelled_of : (r : Result Saved StreamFault) → AreFoundIn (range_of expect) bytes → IfOk r (AreOf bytes) → IfOk r (Spells expect bytes)
  spelled_of (Ok s) ranges read = record {
    bytes_are = read.bytes_are;
    header = λ field. subst (IsIn (range_of expect field)) (ap (λ b. found b field) read.bytes_are ∙ found-field s read.saved field) (ranges field);
    saved = read.saved;
    held = read.held;
  }
  spelled_of (Err fault) ranges read = tt
