-- The first of some tests that finds a fault, and the first number that does not pass.
use Rattle.std.proofs.Common.{◌≡◌, ℕ, zero, suc, ◌+◌, ◌<◌, ◌≤◌, Bool, true, false, cond, List, ◌∷◌, Option, Some, None, refl, ap, ◌∙◌, find, inl, inr, arith}
use Rattle.std.specs.List.{range_with_len}
use Rattle.std.proofs.lemmas.Bool.{cases_lt}
use Rattle.pe_stream.specs.declared.fault.StreamFault.{StreamFault}
use Rattle.pe_stream.specs.Faults.{first_of}

-- a test that finds nothing, and one that finds a fault
pub first_none : (test : Option StreamFault) (tests : List (Option StreamFault)) → test ≡ None → first_of (test ∷ tests) ≡ first_of tests
first_none test tests none = ap (λ t. first_of (t ∷ tests)) none

pub first_some : (test : Option StreamFault) (tests : List (Option StreamFault)) (fault : StreamFault) → test ≡ Some fault → first_of (test ∷ tests) ≡ Some fault
first_some test tests fault some = ap (λ t. first_of (t ∷ tests)) some

-- no number from the start on is found
pub find-none : (p : ℕ → Bool) (start count : ℕ) → ((k : ℕ) → start ≤ k → k < start + count → p k ≡ false) → find p (range_with_len start count) ≡ None
find-none p start zero none = refl
find-none p start (suc count) none =
    ap (λ b. cond b (Some start) (find p (range_with_len (start + 1) count))) (none start (omega arith) (omega arith))
    ∙ find-none p (start + 1) count (λ k above below. none k (omega arith) (omega arith))

-- the first number that is found
pub find-first : (p : ℕ → Bool) (start count i : ℕ) → start ≤ i → i < start + count → ((k : ℕ) → start ≤ k → k < i → p k ≡ false) → p i ≡ true
    → find p (range_with_len start count) ≡ Some i
find-first p start zero i above below none here = absurd (omega arith)
find-first p start (suc count) i above below none here =
    elim (cases_lt start i) [
      | inl later ↦
          ap (λ b. cond b (Some start) (find p (range_with_len (start + 1) count))) (none start (omega arith) later)
          ∙ find-first p (start + 1) count i (omega arith) (omega arith) (λ k over under. none k (omega arith) under) here
      | inr now ↦
          let same : start ≡ i = omega arith in
          ap (λ b. cond b (Some start) (find p (range_with_len (start + 1) count))) (ap p same ∙ here) ∙ ap Some same
    ]
