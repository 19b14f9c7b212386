-- How a part of the tokens is read: what one private call says of its part, whatever is open behind it.
use Rattle.std.specs.Prelude.{ℕ, ◌≡◌, ◌≢◌, ◌≤◌, ◌<◌, ◌+◌, ◌-◌, true, List, [], ◌∷◌, ◌++◌, length, take, drop, slice_get, Option, Some, None, Result, Ok, Err}
use Rattle.pe_parse.specs.declared.fault.ParseFault.{ParseFault}
use Rattle.pe_lex.specs.declared.token.TokenKind.{TokenKind}
use Rattle.pe_parse.specs.declared.reader.Reader.{Reader}
use Rattle.pe_parse.specs.declared.fault.ParseFault.TheVariants.{Syntax, Memory}
use Rattle.pe_parse.specs.Lexemes.{Lexeme, lexemes_of, kind_at, offset_at}
use Rattle.pe_parse.specs.declared.rank.Rank.{Rank}
use Rattle.pe_parse.specs.declared.tree.Sign.{Sign}
use Rattle.pe_parse.specs.declared.tree.Name.{Name}
use Rattle.pe_parse.specs.declared.rank.Rank.TheVariants.{Disjunction}
use Rattle.pe_parse.specs.declared.tree.Expr.{Expr}
use Rattle.pe_parse.specs.declared.tree.Values.{Values}
use Rattle.pe_parse.specs.declared.tree.Stmt.{Stmt}
use Rattle.pe_lex.specs.declared.token.TokenKind.TheVariants as kind
use Rattle.pe_parse.specs.Statements.{Statements, statement_of, statements_of}
use Rattle.pe_parse.specs.Frames as frame
use Rattle.pe_parse.specs.Grammar.{Phrase, Chained, Listed, One, All, Spells, Names, sign_of}
use Rattle.pe_parse.specs.Frames.{Frame, Needs, Second, Block, Sequence, expression, nests, nesting, are_counted, sign_if}
use Rattle.pe_parse.specs.Faults.{fault_from}

-- the tokens from one number to another
abbrev pub piece : List Lexeme → ℕ → ℕ → List Lexeme
piece xs at next = take (next - at) (drop at xs)

-- what is open behind a part that is read at this depth
pub record Behind (depth : ℕ) (fs : List Frame) : Type 0 where
  pub nested : nesting fs ≡ depth
  pub limited : depth ≤ 64
  pub counted : are_counted fs ≡ true

-- from one token to another, what was open before them became what is left of it
pub record Went (size : ℕ) (xs : List Lexeme) (frames left : List Frame) (depth at next : ℕ) : Type 0 where
  pub forward : at ≤ next
  pub within : next ≤ length xs
  pub on : (fs : List Frame) → Behind depth fs → fault_from size (frames ++ fs) (drop at xs) ≡ fault_from size (left ++ fs) (drop next xs)

abbrev pub IsFault : Option ParseFault → ParseFault → Type 0
IsFault found Memory = Unit {0}
IsFault found fault = found ≡ Some fault

-- reading what is open ended in this fault
abbrev pub Stopped : ℕ → List Lexeme → List Frame → ℕ → ℕ → ParseFault → Type 0
Stopped size xs frames depth at fault = (fs : List Frame) → Behind depth fs → IsFault (fault_from size (frames ++ fs) (drop at xs)) fault

-- a token of this kind was read, or was missing
abbrev pub Needed : ℕ → List Lexeme → TokenKind → ℕ → Result ℕ ParseFault → Type 0
Needed size xs kind at (Ok next) = (next ≡ at + 1) × (kind_at xs at ≡ Some kind)
Needed size xs kind at (Err fault) = (fault ≡ Syntax (offset_at size xs at)) × (kind_at xs at ≢ Some kind)

-- a phrase was read, or a fault was met
abbrev pub ReadsAs : {X : Type 0} → (X → Phrase) → ℕ → List Lexeme → List Frame → ℕ → ℕ → Result (X × ℕ) ParseFault → Type 0
ReadsAs phrase size xs frames depth at (Ok found) = Went size xs frames [] depth at found.1 × Spells (phrase found.0) (piece xs at found.1)
ReadsAs phrase size xs frames depth at (Err fault) = Stopped size xs frames depth at fault

-- the tokens and the length of the text that a reader has
abbrev pub seen : Reader → List Lexeme
seen reader = lexemes_of reader.text.now reader.tokens.now

abbrev pub size_of : Reader → ℕ
size_of reader = length reader.text.now

-- the sign of this rank that a kind of token is
abbrev pub sign_among : Rank → Option TokenKind → Option Sign
sign_among r None = None
sign_among r (Some kind) = sign_if r (sign_of kind)

abbrev pub sign_at : Rank → List Lexeme → ℕ → Option Sign
sign_at r xs at = sign_among r (kind_at xs at)

abbrev pub bytes_in : Option Lexeme → List ℕ
bytes_in None = []
bytes_in (Some x) = x.bytes

-- what a token spells
abbrev pub spelled_at : List Lexeme → ℕ → List ℕ
spelled_at xs at = bytes_in (slice_get xs at)

-- a name was read from its first word on, or a fault was met behind that word
abbrev pub ReadsName : ℕ → List Lexeme → ℕ → Result (Name × ℕ) ParseFault → Type 0
ReadsName size xs at (Ok found) = ((depth : ℕ) → depth ≤ 64 → Went size xs (Second ∷ []) [] depth (at + 1) found.1) × (at < found.1) × Names (piece xs at found.1) found.0
ReadsName size xs at (Err fault) = (depth : ℕ) → depth ≤ 64 → Stopped size xs (Second ∷ []) depth (at + 1) fault

-- an expression was read, and the token that closes it
pub record Closed (xs : List Lexeme) (closing : TokenKind) (at next : ℕ) (e : Expr) : Type 0 where
  pub mid : ℕ
  pub forward : at ≤ mid
  pub behind : next ≡ mid + 1
  pub spelled : Spells (Chained Disjunction e) (piece xs at mid)
  pub closed : kind_at xs mid ≡ Some closing

abbrev pub ReadsClosed : ℕ → List Lexeme → TokenKind → ℕ → ℕ → Result (Expr × ℕ) ParseFault → Type 0
ReadsClosed size xs closing depth at (Ok found) =
    ((outer : ℕ) → nests (Needs closing) + outer ≡ depth → Went size xs (expression ++ Needs closing ∷ []) [] outer at found.1) × Closed xs closing at found.1 found.0
ReadsClosed size xs closing depth at (Err fault) = (outer : ℕ) → nests (Needs closing) + outer ≡ depth → Stopped size xs (expression ++ Needs closing ∷ []) outer at fault

-- the values of a print from a token on: the first, and the others behind their commas
pub record ValuesAt (xs : List Lexeme) (at next : ℕ) (items : List Expr) : Type 0 where
  pub first : Expr
  pub others : List Expr
  pub are : items ≡ first ∷ others
  pub mid : ℕ
  pub forward : at ≤ mid
  pub behind : mid ≤ next
  pub spelled_first : Spells (Chained Disjunction first) (piece xs at mid)
  pub spelled : Spells (Listed others) (piece xs mid next)

abbrev pub ReadsValues : ℕ → List Lexeme → ℕ → ℕ → Result (Values × ℕ) ParseFault → Type 0
ReadsValues size xs depth at (Ok found) = Went size xs (expression ++ frame.Values 1 ∷ []) [] depth at found.1 × ValuesAt xs at found.1 found.0.items
ReadsValues size xs depth at (Err fault) = Stopped size xs (expression ++ frame.Values 1 ∷ []) depth at fault

-- statements in braces from a token on
pub record BlockAt (xs : List Lexeme) (at next : ℕ) (ss : Statements) : Type 0 where
  pub opened : kind_at xs at ≡ Some kind.OpenCurly
  pub mid : ℕ
  pub forward : at + 1 ≤ mid
  pub behind : next ≡ mid + 1
  pub spelled : Spells (All ss) (piece xs (at + 1) mid)
  pub closed : kind_at xs mid ≡ Some kind.CloseCurly

abbrev pub ReadsBlock : ℕ → List Lexeme → ℕ → ℕ → Result (List Stmt × ℕ) ParseFault → Type 0
ReadsBlock size xs depth at (Ok found) = Went size xs (Block ∷ []) [] depth at found.1 × BlockAt xs at found.1 (statements_of found.0)
ReadsBlock size xs depth at (Err fault) = Stopped size xs (Block ∷ []) depth at fault

-- a statement was read, behind which others may come
abbrev pub ReadStatement : ℕ → List Lexeme → ℕ → ℕ → Stmt × ℕ → Type 0
ReadStatement size xs depth at found = Went size xs (Sequence ∷ []) (Sequence ∷ []) depth at found.1 × (at < found.1) × Spells (One (statement_of found.0)) (piece xs at found.1)

abbrev pub ReadsStatement : ℕ → List Lexeme → ℕ → ℕ → Result (Stmt × ℕ) ParseFault → Type 0
ReadsStatement size xs depth at (Ok found) = ReadStatement size xs depth at found
ReadsStatement size xs depth at (Err fault) = Stopped size xs (Sequence ∷ []) depth at fault

-- the same, where a statement may begin
abbrev pub MayRead : ℕ → List Lexeme → ℕ → ℕ → Result (Option (Stmt × ℕ)) ParseFault → Type 0
MayRead size xs depth at (Ok None) = (at ≤ length xs) → Went size xs (Sequence ∷ []) [] depth at at
MayRead size xs depth at (Ok (Some found)) = ReadStatement size xs depth at found
MayRead size xs depth at (Err fault) = Stopped size xs (Sequence ∷ []) depth at fault
