-- How contents change where bytes are put under a name.
use Rattle.std.specs.Prelude.{◌≡◌, ◌≢◌, ℕ, List, Option, Some, Result, Ok, Err, MatchOption}
use Rattle.pe_io.specs.declared.shelf.PutFault.{PutFault}
use Rattle.pe_io.specs.declared.shelf.PutFault.TheVariants.{Failed, Memory}
use Rattle.pe_io.specs.Shelf.{Contents}

-- all names but one hold what they held
abbrev pub SameElsewhere : Contents → List ℕ → Contents → Type 0
SameElsewhere old name new = (other : List ℕ) → other ≢ name → new other ≡ old other

-- the name holds the bytes, and all other names hold what they held
pub record Puts (old : Contents) (name bytes : List ℕ) (new : Contents) : Type 0 where
  pub here : new name ≡ Some bytes
  pub others : SameElsewhere old name new

-- all names hold what they held
abbrev pub SameContents : Contents → Contents → Type 0
SameContents old new = (name : List ℕ) → new name ≡ old name

-- What contents become, by the answer to a put. After a failure the name may hold anything, or nothing.
abbrev pub Changes : {X : Type 0} → Contents → List ℕ → List ℕ → Result X PutFault → Contents → Type 0
Changes old name bytes (Ok x) new = Puts old name bytes new
Changes old name bytes (Err Failed) new = SameElsewhere old name new
Changes old name bytes (Err Memory) new = SameContents old new

-- the same of what is told: it goes on being told
abbrev pub ChangesTold : {X : Type 0} → Contents → List ℕ → List ℕ → Result X PutFault → Option Contents → Type 0
ChangesTold old name bytes answer told = MatchOption told ⊥ (Changes old name bytes answer)
