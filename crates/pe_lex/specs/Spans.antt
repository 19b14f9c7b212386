-- What each token of a text is.
use Rattle.std.specs.Prelude.{ℕ, ◌≡◌, ◌-◌, ◌<◌, ◌≤◌, List, [], ◌∷◌, length, take, drop, Some}
use Rattle.pe_lex.specs.declared.token.Token.{Token}
use Rattle.pe_lex.specs.Forms.{kind_of}

-- the token stands in the text, and what stands there is of its kind
pub record IsTokenOf (text : List ℕ) (token : Token) : Type 0 where
  pub some : token.start < token.end
  pub within : token.end ≤ length text
  pub is : kind_of (take (token.end - token.start) (drop token.start text)) ≡ Some token.kind

-- each token of a list
abbrev pub AreTokensOf : List ℕ → List Token → Type 0
AreTokensOf text [] = Unit {0}
AreTokensOf text (token ∷ tokens) = IsTokenOf text token × AreTokensOf text tokens
