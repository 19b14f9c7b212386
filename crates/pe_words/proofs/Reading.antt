-- What is read of the words, by what a command finds in them.
use Rattle.std.proofs.Common.{◌≡◌, List, [], ◌∷◌, Option, Result, Ok, Err, inl, inr, refl}
use Rattle.std.specs.Prelude.{◌⊎◌, option_and_then}
use Rattle.std.specs.Result.{IsErrAnd}
use Rattle.clap.specs.Words.{App, HasKind, IsAmong, Kinds, Row, Text, fault_of, kind_of, matches_of}
use Rattle.clap.specs.declared.error.Error.{Error}
use Rattle.clap.specs.declared.error.kind.ErrorKind.{ErrorKind}
use Rattle.clap.specs.declared.error.kind.ErrorKind.TheVariants.{OutOfMemory}
use Rattle.pe_words.specs.declared.job.WordsFault.{WordsFault}
use Rattle.pe_words.specs.declared.job.WordsFault.TheVariants.{NoJob, Memory}
use Rattle.pe_words.specs.Words.{IsRead, found_by, refusal, where_none}

module _ {D : Type 0} where
  module _ (named : List Row → Option D) where
    taken : (kinds : Kinds) (rows made : List Row) (r : Result D WordsFault) → kinds ≡ [] → made ≡ rows → IsRead (named made) r
        → IsRead (option_and_then named (where_none kinds rows)) r
    taken kinds rows made r none same reads = rw (none, ← same) reads

    refused : (kinds : Kinds) (rows : List Row) (kind : ErrorKind) (fault : WordsFault) → fault ≡ refusal kind
        → (kind ≡ OutOfMemory) ⊎ IsAmong kind kinds → IsRead (option_and_then named (where_none kinds rows)) (Err fault)
    refused [] rows kind fault is (inl memory) = rw (is, memory) tt
    refused [] rows kind fault is (inr none) = absurd none
    refused (k ∷ ks) rows kind NoJob is among = refl
    refused (k ∷ ks) rows kind Memory is among = tt

    module _ (app : App) (words : List Text) where
      -- a parse that succeeds finds its matches
      pub of_found : (rows : List Row) (r : Result D WordsFault) → fault_of app words ≡ [] → rows ≡ matches_of app words → IsRead (named rows) r
          → IsRead (option_and_then named (found_by app words)) r
      of_found rows = taken (fault_of app words) (matches_of app words) rows

      -- a parse that fails finds none, or memory ran out
      pub of_error : (error : Error) (r : Result D WordsFault) → HasKind (fault_of app words) error → IsErrAnd r (λ fault. fault ≡ refusal (kind_of error))
          → IsRead (option_and_then named (found_by app words)) r
      of_error error (Err fault) has is = refused (fault_of app words) (matches_of app words) (kind_of error) fault is has
      of_error error (Ok given) has is = absurd is
