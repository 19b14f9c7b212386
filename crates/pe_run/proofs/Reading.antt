-- Laws of what a job reads.
use Rattle.std.proofs.Common.{◌≡◌, inl, inr, ◌∙◌, ℕ, ◌+◌, ◌<◌, Bool, true, false, List, [], length, replicate, Option, Some, None, Result, Ok, Err, refl, sym, ap, arith}
use Rattle.std.proofs.lemmas.List.{length-replicate}
use Rattle.std.proofs.lemmas.Bool.{lt-ltb, eqb-true, eq-eqb}
use Rattle.pe_io.specs.declared.shelf.ShelfCall.TheVariants.{Get}
use Rattle.pe_io.specs.Shelf.{Contents, FailedCall, FailedAt, IsLonger, WhereTold}
use Rattle.pe_run.specs.declared.refusal.Stage.{Stage}
use Rattle.pe_run.specs.declared.refusal.Stage.TheVariants.{Scenario}
use Rattle.pe_run.specs.declared.refusal.Refusal.{Refusal}
use Rattle.pe_run.specs.declared.refusal.Refusal.TheVariants as refusal
use Rattle.pe_run.specs.Endings.{stage_number}
use Rattle.pe_run.specs.Reads.{Reads, ready, refused, asks, within, is_failed, read, MayGive, MayLack, FailsAt}
use Rattle.pe_run.specs.Stages.{IsGiven}

-- # One call

-- there are lists longer than any number
longer_than : (limit : ℕ) → (bytes : List ℕ) × (limit < length bytes)
longer_than limit = (replicate (limit + 1) 0, omega (arith, length-replicate {A = ℕ} (limit + 1) 0))

within-longer : (limit : ℕ) (bytes : List ℕ) → limit < length bytes → within limit bytes ≡ None
within-longer limit bytes longer = rw (lt-ltb limit (length bytes) longer)

-- the shelf has more than the limit
pub IsGiven-longer : (told : Option Contents) (name : List ℕ) (limit : ℕ) → WhereTold told (λ held. IsLonger (held name) limit) → IsGiven told name limit None
IsGiven-longer None name limit longer = let bytes = longer_than limit in record { bytes = bytes.0; holds = tt; within = within-longer limit bytes.0 bytes.1 }
IsGiven-longer (Some held) name limit longer =
    elim (held name) as (λ under. held name ≡ under → IsLonger under limit → IsGiven (Some held) name limit None) [
      | None ↦ λ is none. absurd none
      | Some bytes ↦ λ is more. record { bytes = bytes; holds = is; within = within-longer limit bytes more }
    ] refl longer

-- # Any reading

-- what may be given where these calls fail, may be where those do
pub gives_when : {X : Type 0} (told : Option Contents) (old new : List ℕ → Type 0) (reads : Reads X) (given : Result X Refusal)
    → ((name : List ℕ) (stage : Stage) → given ≡ Err (refusal.NoShelf stage) → old name → new name) → MayGive told old reads given → MayGive told new reads given
gives_when told old new (ready x) given so may = may
gives_when told old new (refused fault) given so may = may
gives_when told old new (asks stage name limit next) given so (inl (inl failed, is)) = inl (inl (so name stage is failed), is)
gives_when told old new (asks stage name limit next) given so (inl (inr lacks, is)) = inl (inr lacks, is)
gives_when told old new (asks stage name limit next) given so (inr (bytes, holds, may)) = inr (bytes, holds, gives_when told old new (next (within limit bytes)) given so may)

-- something may be given, though no call fails
pub may_give : {X : Type 0} (told : Option Contents) (fails : List ℕ → Type 0) (reads : Reads X) → (given : Result X Refusal) × MayGive told fails reads given
may_give told fails (ready x) = (Ok x, refl)
may_give told fails (refused fault) = (Err (refusal.Fault fault), refl)
may_give None fails (asks stage name limit next) = let rest = may_give None fails (next (within limit [])) in (rest.0, inr ([], tt, rest.1))
may_give {X} (Some held) fails (asks stage name limit next) =
    elim (held name) as (λ under. held name ≡ under → (given : Result X Refusal) × MayGive (Some held) fails (asks stage name limit next) given) [
      | None ↦ λ is. (Err (refusal.NoShelf stage), inl (inr is, refl))
      | Some bytes ↦ λ is. let rest = may_give (Some held) fails (next (within limit bytes)) in (rest.0, inr (bytes, is, rest.1))
    ] refl

-- Where contents are told, what is given is what the reading is over them, with the stage whose call failed, if one did; and it
-- is that stage's call that failed.
pub record IsRead {X : Type 0} (held : Contents) (fails : List ℕ → Type 0) (reads : Reads X) (given : Result X Refusal) : Type 0 where
  pub failed : Option Stage
  pub is : given ≡ read reads held failed
  pub fails_at : (stage : Stage) → failed ≡ Some stage → (given ≡ Err (refusal.NoShelf stage)) × FailsAt held fails reads stage

-- stages of one number are one stage
stage_at : ℕ → Stage
stage_at number = Scenario

at_number : (stage : Stage) → stage_at (stage_number stage) ≡ stage
unfolding stage_at
at_number Scenario = refl

same_stage : (one other : Stage) → stage_number one ≡ stage_number other → one ≡ other
same_stage one other is = sym (at_number one) ∙ ap stage_at is ∙ at_number other

-- a reading goes on behind a stage whose call did not fail
read_on : {X : Type 0} (stage : Stage) (name : List ℕ) (limit : ℕ) (next : Option (List ℕ) → Reads X) (held : Contents) (failed : Option Stage) (bytes : List ℕ) → held name ≡ Some bytes
    → is_failed failed stage ≡ false → read (asks stage name limit next) held failed ≡ read (next (within limit bytes)) held failed
read_on stage name limit next held failed bytes is other = rw other (rw is refl)

read_none : {X : Type 0} (stage : Stage) (name : List ℕ) (limit : ℕ) (next : Option (List ℕ) → Reads X) (held : Contents) → held name ≡ None
    → read (asks stage name limit next) held None ≡ Err (refusal.NoShelf stage)
read_none stage name limit next held is = rw is refl

read_failed : {X : Type 0} (stage : Stage) (name : List ℕ) (limit : ℕ) (next : Option (List ℕ) → Reads X) (held : Contents) (failed : Option Stage) → is_failed failed stage ≡ true
    → read (asks stage name limit next) held failed ≡ Err (refusal.NoShelf stage)
read_failed stage name limit next held failed is = rw is refl

none_some : {A : Type 0} (a : A) → ◌≡◌ {A = Option A} None (Some a) → ⊥
none_some a is = cc

some_same : {A : Type 0} (a b : A) → ◌≡◌ {A = Option A} (Some a) (Some b) → a ≡ b
some_same a b is = cc

-- the rest was read, behind a stage that gave bytes
behind_stage : {X : Type 0} (held : Contents) (fails : List ℕ → Type 0) (stage : Stage) (name : List ℕ) (limit : ℕ) (next : Option (List ℕ) → Reads X) (given : Result X Refusal) (bytes : List ℕ)
    → held name ≡ Some bytes → IsRead held fails (next (within limit bytes)) given → IsRead held fails (asks stage name limit next) given
behind_stage {X} held fails stage name limit next given bytes is rest = record {
  failed = rest.failed;
  is = by rest.failed (λ at some. (rest.fails_at at some).0) (is_failed rest.failed stage) refl rest.is;
  fails_at = λ at some. let it = rest.fails_at at some in (it.0, inr (bytes, is, it.1));
}
  where
    same_number : (failed : Option Stage) → ((at : Stage) → failed ≡ Some at → given ≡ Err (refusal.NoShelf at)) → is_failed failed stage ≡ true → given ≡ Err (refusal.NoShelf stage)
    same_number None gives wrong = absurd (let other : false ≡ true = wrong in cc)
    same_number (Some at) gives equal = gives at refl ∙ ap (λ s. Err (refusal.NoShelf s)) (same_stage at stage (eqb-true (stage_number at) (stage_number stage) equal))

    by : (failed : Option Stage) → ((at : Stage) → failed ≡ Some at → given ≡ Err (refusal.NoShelf at)) → (b : Bool) → is_failed failed stage ≡ b → given ≡ read (next (within limit bytes)) held failed
        → given ≡ read (asks stage name limit next) held failed
    by failed gives true equal rest_is = same_number failed gives equal ∙ sym (read_failed stage name limit next held failed equal)
    by failed gives false other rest_is = rest_is ∙ sym (read_on stage name limit next held failed bytes is other)

pub told_read : {X : Type 0} (held : Contents) (fails : List ℕ → Type 0) (reads : Reads X) (given : Result X Refusal) → MayGive (Some held) fails reads given → IsRead held fails reads given
told_read held fails (ready x) given is = record { failed = None; is = is; fails_at = λ at some. absurd (none_some at some) }
told_read held fails (refused fault) given is = record { failed = None; is = is; fails_at = λ at some. absurd (none_some at some) }
told_read held fails (asks stage name limit next) given (inl (inl failed, is)) = record {
  failed = Some stage;
  is = is ∙ sym (read_failed stage name limit next held (Some stage) (eq-eqb (stage_number stage) (stage_number stage) refl));
  fails_at = λ at some. let same = some_same stage at some in (is ∙ ap (λ s. Err (refusal.NoShelf s)) same, inl (failed, same));
}
told_read held fails (asks stage name limit next) given (inl (inr lacks, is)) = record {
  failed = None;
  is = is ∙ sym (read_none stage name limit next held lacks);
  fails_at = λ at some. absurd (none_some at some);
}
told_read held fails (asks stage name limit next) given (inr (bytes, holds, may)) = behind_stage held fails stage name limit next given bytes holds (told_read held fails (next (within limit bytes)) given may)

-- so where no call can have failed, it is the reading over them
pub fails_somewhere : {X : Type 0} (held : Contents) (fails : List ℕ → Type 0) (reads : Reads X) (stage : Stage) → FailsAt held fails reads stage → (name : List ℕ) × fails name
fails_somewhere held fails (ready x) stage at = absurd at
fails_somewhere held fails (refused fault) stage at = absurd at
fails_somewhere held fails (asks asking name limit next) stage (inl (failed, same)) = (name, failed)
fails_somewhere held fails (asks asking name limit next) stage (inr (bytes, is, at)) = fails_somewhere held fails (next (within limit bytes)) stage at

pub unfailing_read : {X : Type 0} (held : Contents) (fails : List ℕ → Type 0) (reads : Reads X) (given : Result X Refusal) → ((name : List ℕ) → fails name → ⊥) → MayGive (Some held) fails reads given
    → given ≡ read reads held None
unfailing_read held fails reads given none may =
    let it = told_read held fails reads given may in
    elim it.failed as (λ failed. it.failed ≡ failed → given ≡ read reads held None) [
      | None ↦ λ same. it.is ∙ ap (read reads held) same
      | Some stage ↦ λ same. let at = fails_somewhere held fails reads stage (it.fails_at stage same).1 in absurd (none at.0 at.1)
    ] refl

-- where the shelf gives nothing for a stage, one of its calls had no answer
pub lacks : {X : Type 0} (told : Option Contents) (before after : ℕ) (last : Option FailedCall) (fails : List ℕ → Type 0) (reads : Reads X) (given : Result X Refusal) (stage : Stage)
    → ((name : List ℕ) → fails name → FailedAt Get name before after last) → given ≡ Err (refusal.NoShelf stage) → MayGive told fails reads given → MayLack told before after last reads
lacks {X} told before after last fails (ready x) given stage so is may = absurd (let wrong : ◌≡◌ {A = Result X Refusal} (Ok x) (Err (refusal.NoShelf stage)) = sym may ∙ is in cc)
lacks {X} told before after last fails (refused fault) given stage so is may = absurd (let wrong : ◌≡◌ {A = Result X Refusal} (Err (refusal.Fault fault)) (Err (refusal.NoShelf stage)) = sym may ∙ is in cc)
lacks told before after last fails (asks asking name limit next) given stage so is (inl (inl failed, ends)) = inl (so name failed)
lacks told before after last fails (asks asking name limit next) given stage so is (inl (inr none, ends)) = inr (inl none)
lacks told before after last fails (asks asking name limit next) given stage so is (inr (bytes, holds, may)) = inr (inr (bytes, holds, lacks told before after last fails (next (within limit bytes)) given stage so is may))
