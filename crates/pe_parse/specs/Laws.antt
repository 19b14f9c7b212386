-- What makes the grammar one reading of a text.
use Rattle.std.specs.Prelude.{ℕ, ◌≡◌, List, Ok}
use Rattle.pe_lex.specs.declared.token.Token.{Token}
use Rattle.pe_lex.specs.Tokens.{tokens_of}
use Rattle.pe_parse.specs.Lexemes.{lexemes_of}
use Rattle.pe_parse.specs.Statements.{Statements}
use Rattle.pe_parse.specs.Grammar.{All, Spells}
use Rattle.pe_parse.specs.Printed.{text_of, unplaced}

-- the text has tokens, and they spell the body
pub record IsTextOf (text : List ℕ) (body : Statements) : Type 0 where
  pub tokens : List Token
  pub lexed : tokens_of text ≡ Ok tokens
  pub spelled : Spells (All body) (lexemes_of text tokens)

-- a text is that of one body at most
abbrev pub HasOneTree : Type 0
HasOneTree = (text : List ℕ) (a b : Statements) → IsTextOf text a → IsTextOf text b → a ≡ b

-- the text of a body that was read is read as that body, but for the offsets
abbrev pub IsReadAsPrinted : Type 0
IsReadAsPrinted = (text : List ℕ) (body : Statements) → IsTextOf text body → (again : Statements) × IsTextOf (text_of body) again × (unplaced again ≡ unplaced body)
