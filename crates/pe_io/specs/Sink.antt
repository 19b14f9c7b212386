-- What a sink tells, and what its text becomes.
use Rattle.std.specs.Prelude.{◌≡◌, ℕ, List, ◌++◌, take, Option, Some, None}
use Rattle.pe_base.specs.Calls.Told.{Told}

-- what is told by a sink, by its text, its count of pieces and its count of faults
abbrev pub told_by : {K : Type 0} → (K → Option (List ℕ)) → (K → ℕ) → (K → ℕ) → K → Told
told_by text writes faults sink = record { text = text sink; writes = writes sink; faults = faults sink }

-- the text, where it is told, gets the first of these bytes at its end
abbrev pub AppendsPrefix : Option (List ℕ) → List ℕ → Option (List ℕ) → Type 0
AppendsPrefix None bytes new = new ≡ None
AppendsPrefix (Some text) bytes new = (n : ℕ) × (new ≡ Some (text ++ take n bytes))
