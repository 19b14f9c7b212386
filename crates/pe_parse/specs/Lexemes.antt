-- A token with what it spells, which is all that the grammar sees of a text.
use Rattle.std.specs.Prelude.{ℕ, ◌+◌, ◌-◌, ◌*◌, List, [], ◌∷◌, map, take, drop, slice_get, Option, Some, None}
use Rattle.pe_lex.specs.declared.token.TokenKind.{TokenKind}
use Rattle.pe_lex.specs.declared.token.Token.{Token}

pub record Lexeme : Type 0 where
  pub kind : TokenKind
  pub bytes : List ℕ
  pub at : ℕ

-- a token and the bytes of the text from its start to its end
abbrev pub lexeme_of : List ℕ → Token → Lexeme
lexeme_of text token = record { kind = token.kind; bytes = take (token.end - token.start) (drop token.start text); at = token.start }

abbrev pub lexemes_of : List ℕ → List Token → List Lexeme
lexemes_of text tokens = map (lexeme_of text) tokens

-- the number that digits spell, behind a number that others before them spelled
abbrev pub value_from : ℕ → List ℕ → ℕ
value_from value [] = value
value_from value (d ∷ ds) = value_from (value * 10 + (d - 48)) ds

abbrev pub value_of : List ℕ → ℕ
value_of digits = value_from 0 digits

abbrev pub kind_in : Option Lexeme → Option TokenKind
kind_in None = None
kind_in (Some x) = Some x.kind

-- the kind of the token number k, counted from 0
abbrev pub kind_at : List Lexeme → ℕ → Option TokenKind
kind_at xs k = kind_in (slice_get xs k)

abbrev pub offset_in : ℕ → Option Lexeme → ℕ
offset_in size None = size
offset_in size (Some x) = x.at

-- where token number k begins, and behind the last one the length of the text
abbrev pub offset_at : ℕ → List Lexeme → ℕ → ℕ
offset_at size xs k = offset_in size (slice_get xs k)
