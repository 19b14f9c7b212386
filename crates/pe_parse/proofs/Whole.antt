-- A whole body, from its first token to its last.
use Rattle.std.proofs.Common.{◌≡◌, ℕ, ◌<◌, ◌≤◌, suc, zero, List, [], ◌∷◌, length, take, drop, Option, Some, None, refl, ◌∙◌, ap, arith}
use Rattle.std.specs.Prelude.{slice_get}
use Rattle.std.proofs.lemmas.List.{take_all}
use Rattle.pe_parse.specs.declared.fault.ParseFault.{ParseFault}
use Rattle.pe_parse.specs.declared.fault.ParseFault.TheVariants.{Syntax}
use Rattle.pe_parse.specs.Lexemes.{Lexeme, offset_at, offset_in}
use Rattle.pe_parse.specs.Frames.{Sequence}
use Rattle.pe_parse.specs.Faults.{fault_from}
use Rattle.pe_parse.specs.Reading.{piece, Behind, Went, IsFault, Stopped}

module _ (size : ℕ) (xs : List Lexeme) where
  nothing_behind : Behind 0 []
  nothing_behind = record { nested = refl; limited = omega arith; counted = refl }

  drop_past : (ys : List Lexeme) (n : ℕ) → length ys ≤ n → drop n ys ≡ []
  drop_past [] zero h = refl
  drop_past [] (suc n) h = refl
  drop_past (y ∷ ys) zero h = absurd (omega arith)
  drop_past (y ∷ ys) (suc n) h = drop_past ys n (omega arith)

  -- all tokens are read
  pub all_read : (next : ℕ) → Went size xs (Sequence ∷ []) [] 0 0 next → length xs ≤ next → fault_from size (Sequence ∷ []) xs ≡ None
  all_read next went all = went.on [] nothing_behind ∙ ap (fault_from size []) (drop_past xs next all)

  pub all_piece : (next : ℕ) → length xs ≤ next → piece xs 0 next ≡ xs
  all_piece next all = ap (λ (n : ℕ). take n xs) (omega arith) ∙ take_all next xs all

  left_over : (ys : List Lexeme) (n : ℕ) (o : Option Lexeme) → slice_get ys n ≡ o → n < length ys → fault_from size [] (drop n ys) ≡ Some (Syntax (offset_in size o))
  left_over [] n o e h = absurd (omega arith)
  left_over (y ∷ ys) zero o e h = ap (λ (o : Option Lexeme). Some (Syntax (offset_in size o))) e
  left_over (y ∷ ys) (suc n) o e h = left_over ys n o e (omega arith)

  -- a token is left that begins no statement
  pub left : (next : ℕ) → Went size xs (Sequence ∷ []) [] 0 0 next → next < length xs → fault_from size (Sequence ∷ []) xs ≡ Some (Syntax (offset_at size xs next))
  left next went over = went.on [] nothing_behind ∙ left_over xs next (slice_get xs next) refl over

  pub stopped : (fault : ParseFault) → Stopped size xs (Sequence ∷ []) 0 0 fault → IsFault (fault_from size (Sequence ∷ []) xs) fault
  stopped fault stop = stop [] nothing_behind
