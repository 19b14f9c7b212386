-- The tokens of a text: at each place the longest, with white space between them.
use Rattle.std.specs.Prelude.{ℕ, ◌≡◌, ◌+◌, ◌-◌, suc, zero, Bool, true, false, List, [], ◌∷◌, length, take, Option, Some, None, Result, Ok, Err, Vec}
use Rattle.std.specs.declared.alloc.Global.{Global}
use Rattle.pe_lex.specs.declared.token.TokenKind.{TokenKind}
use Rattle.pe_lex.specs.declared.token.Token.{Token}
use Rattle.pe_lex.specs.declared.token.LexFault.{LexFault}
use Rattle.pe_lex.specs.declared.token.LexFault.TheVariants.{Character, Memory}
use Rattle.pe_lex.specs.Forms.{is_white, kind_of}

-- a token of this length, where the front of that length is one, and else a shorter one
abbrev pub or_shorter : Option TokenKind → ℕ → Option (TokenKind × ℕ) → Option (TokenKind × ℕ)
or_shorter (Some kind) len shorter = Some (kind, len)
or_shorter None len shorter = shorter

-- the longest front of a text, of at most so many bytes, that is a token: its kind and its length
abbrev pub longest_within : ℕ → List ℕ → Option (TokenKind × ℕ)
longest_within zero text = None
longest_within (suc most) text = or_shorter (kind_of (take (suc most) text)) (suc most) (longest_within most text)

-- the longest token at the front of a text
abbrev pub longest : List ℕ → Option (TokenKind × ℕ)
longest text = longest_within (length text) text

-- the token first, where there are others behind it
abbrev pub with_token : Token → Result (List Token) ℕ → Result (List Token) ℕ
with_token token (Ok tokens) = Ok (token ∷ tokens)
with_token token (Err at) = Err at

-- What begins at an offset: a white byte, a token, or neither. What follows is by how many bytes are passed.
abbrev pub begin_at : Bool → Option (TokenKind × ℕ) → ℕ → (ℕ → Result (List Token) ℕ) → Result (List Token) ℕ
begin_at true found at follows = follows 1
begin_at false None at follows = Err at
begin_at false (Some found) at follows = with_token (record { kind = found.0; start = at; end = at + found.1 }) (follows found.1)

-- The tokens of what is left of a text from an offset on, of which the first bytes belong to the token
-- before. Where no token begins, it is that offset instead.
abbrev pub tokens_from : ℕ → ℕ → List ℕ → Result (List Token) ℕ
tokens_from within at [] = Ok []
tokens_from (suc within) at (c ∷ cs) = tokens_from within (at + 1) cs
tokens_from zero at (c ∷ cs) = begin_at (is_white c) (longest (c ∷ cs)) at (λ passed. tokens_from (passed - 1) (at + 1) cs)

-- the tokens of a text, or the offset of the first character that begins none
abbrev pub tokens_of : List ℕ → Result (List Token) ℕ
tokens_of text = tokens_from 0 0 text

-- the answer is the tokens, or that offset, unless memory ran out
abbrev pub Lexes : Result (Vec Token Global) LexFault → Result (List Token) ℕ → Type 0
Lexes (Ok tokens) read = read ≡ Ok tokens.items
Lexes (Err (Character at)) read = read ≡ Err at
Lexes (Err Memory) read = Unit {0}
