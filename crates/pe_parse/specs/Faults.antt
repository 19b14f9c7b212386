-- The first fault of a list of tokens.
use Rattle.std.specs.Prelude.{ℕ, nat_le, Bool, true, false, List, [], ◌∷◌, length, Option, Some, None, if◌then◌else◌}
use Rattle.pe_lex.specs.declared.token.TokenKind.{TokenKind}
use Rattle.pe_lex.specs.declared.token.Token.{Token}
use Rattle.pe_lex.specs.declared.token.TokenKind.TheVariants as kind
use Rattle.pe_parse.specs.declared.fault.ParseFault.{ParseFault}
use Rattle.pe_parse.specs.declared.fault.ParseFault.TheVariants.{Syntax, TooDeep, TooMany, Literal}
use Rattle.pe_parse.specs.Lexemes.{Lexeme, lexemes_of, value_of}
use Rattle.pe_parse.specs.Frames.{Frame, Sequence, step, ends, nesting, are_counted}

-- a number that is no i64
abbrev pub is_too_large : TokenKind → List ℕ → Bool
is_too_large kind.Number bytes = if nat_le (value_of bytes) 9223372036854775807 then false else true
is_too_large _ bytes = false

-- the limit that a token passes, where these frames are open after it
abbrev pub passed_limit : List Frame → Lexeme → Option ParseFault
passed_limit fs x =
    if nat_le (nesting fs) 64
    then (if are_counted fs then (if is_too_large x.kind x.bytes then Some (Literal x.at) else None) else Some (TooMany x.at))
    else Some (TooDeep x.at)

abbrev pub or_fault : Option ParseFault → Option ParseFault → Option ParseFault
or_fault (Some fault) later = Some fault
or_fault None later = later

abbrev pub at_token : Option (List Frame) → Lexeme → (List Frame → Option ParseFault) → Option ParseFault
at_token None x later = Some (Syntax x.at)
at_token (Some fs) x later = or_fault (passed_limit fs x) (later fs)

-- the first fault of tokens behind which the text has this length, where these frames are open before them
abbrev pub fault_from : ℕ → List Frame → List Lexeme → Option ParseFault
fault_from size fs [] = if ends fs then None else Some (Syntax size)
fault_from size fs (x ∷ xs) = at_token (step fs x.kind) x (λ gs. fault_from size gs xs)

-- the first fault of a text and its tokens, or None where they are a body within the limits
abbrev pub fault_of : List ℕ → List Token → Option ParseFault
fault_of text tokens = fault_from (length text) (Sequence ∷ []) (lexemes_of text tokens)
