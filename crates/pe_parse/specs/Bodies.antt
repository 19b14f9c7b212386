-- What it means that a body begins with tokens.
use Rattle.std.specs.Prelude.{ℕ, ◌≡◌, ◌<◌, ◌≤◌, List, [], ◌∷◌, ◌++◌, length, take, slice_get, suc, Option, Some, None}
use Rattle.pe_parse.specs.Lexemes.{Lexeme, offset_at}
use Rattle.pe_parse.specs.Statements.{Statements}
use Rattle.pe_parse.specs.Grammar.{All, Spells}
use Rattle.pe_parse.specs.Frames.{Frame, Sequence, step}
use Rattle.pe_parse.specs.declared.fault.ParseFault.{ParseFault}
use Rattle.pe_parse.specs.declared.fault.ParseFault.TheVariants.{Syntax, TooDeep, TooMany, Literal, Memory}
use Rattle.pe_parse.specs.Faults.{passed_limit}

-- a body begins with these tokens, and goes on with others or with none
pub record Begins (xs : List Lexeme) : Type 0 where
  pub more : List Lexeme
  pub body : Statements
  pub spelled : Spells (All body) (xs ++ more)

-- what is open after tokens, where these frames were open before them, or None where one of them may not come
abbrev pub open_next : Option (List Frame) → (List Frame → Option (List Frame)) → Option (List Frame)
open_next None later = None
open_next (Some fs) later = later fs

abbrev pub open_after : List Frame → List Lexeme → Option (List Frame)
open_after fs [] = Some fs
open_after fs (x ∷ xs) = open_next (step fs x.kind) (λ gs. open_after gs xs)

-- the first tokens, so many, pass no limit
abbrev pub WithinLimits : List Frame → List Lexeme → ℕ → Type 0
WithinLimits fs xs number = (k : ℕ) → k < number → (gs : List Frame) (x : Lexeme) → slice_get xs k ≡ Some x → open_after fs (take (suc k) xs) ≡ Some gs → passed_limit gs x ≡ None

-- A body begins with the tokens before the one at this offset, and none with the tokens up to and including
-- it; or all tokens begin a body and are none, and the offset is the length of the text.
pub record NoBody (size : ℕ) (xs : List Lexeme) (at : ℕ) : Type 0 where
  pub number : ℕ
  pub within : number ≤ length xs
  pub is : at ≡ offset_at size xs number
  pub before : WithinLimits (Sequence ∷ []) xs number
  pub begins : Begins (take number xs)
  pub none_begins : number < length xs → Begins (take (suc number) xs) → ⊥
  pub none : (body : Statements) → Spells (All body) xs → ⊥

-- A body begins with the tokens up to and including this one, and it is the first that passes a limit.
pub record Passed (xs : List Lexeme) (fault : ParseFault) : Type 0 where
  pub number : ℕ
  pub token : Lexeme
  pub is : slice_get xs number ≡ Some token
  pub before : WithinLimits (Sequence ∷ []) xs number
  pub begins : Begins (take (suc number) xs)
  pub open_ : List Frame
  pub opens : open_after (Sequence ∷ []) (take (suc number) xs) ≡ Some open_
  pub passes : passed_limit open_ token ≡ Some fault

-- why a list of tokens is refused
abbrev pub Refused : ℕ → List Lexeme → ParseFault → Type 0
Refused size xs (Syntax at) = NoBody size xs at
Refused size xs (TooDeep at) = Passed xs (TooDeep at)
Refused size xs (TooMany at) = Passed xs (TooMany at)
Refused size xs (Literal at) = Passed xs (Literal at)
Refused size xs Memory = Unit {0}
