-- The tree that tokens spell.
use Rattle.std.specs.Prelude.{◌≡◌, ℕ, List, None}
use Rattle.pe_lex.specs.declared.token.Token.{Token}
use Rattle.pe_parse.specs.Lexemes.{Lexeme, lexemes_of}
use Rattle.pe_parse.specs.Statements.{Statements}
use Rattle.pe_parse.specs.Grammar.{All, Spells}
use Rattle.pe_parse.specs.Faults.{fault_of}

-- a body that the tokens spell
pub record Tree (xs : List Lexeme) : Type 0 where
  pub body : Statements
  pub spelled : Spells (All body) xs

-- tokens without a fault spell a body
abbrev pub AreSpelled : Type 0
AreSpelled = (text : List ℕ) (tokens : List Token) → fault_of text tokens ≡ None → Tree (lexemes_of text tokens)
