-- White space, and the forms of tokens: what a piece of a text must be to be a token of each kind.
use Rattle.std.specs.Prelude.{ℕ, Bool, true, false, ◌==◌, ◌&&◌, ◌||◌, nat_le, List, [], ◌∷◌, codes, Option, Some, None, if◌then◌else◌}
use Rattle.std.specs.List.{list_all}
use Rattle.pe_lex.specs.declared.token.TokenKind.{TokenKind}
use Rattle.pe_lex.specs.declared.token.TokenKind.TheVariants.{Word, Number, If, Else, Refine, Erase, Print, Min, Max, Abs, Assign, Equal, NotEqual, Not, Less, LessOrEqual, Greater, GreaterOrEqual, Plus, Minus, Star, Slash, Percent, And, Or, OpenRound, CloseRound, OpenCurly, CloseCurly, Comma, Semicolon, Dot}

-- a space, a tab, a line feed or a carriage return
abbrev pub is_white : ℕ → Bool
is_white c = c == 32 || c == 9 || c == 10 || c == 13

-- a to z
abbrev pub is_letter : ℕ → Bool
is_letter c = nat_le 97 c && nat_le c 122

-- 0 to 9
abbrev pub is_digit : ℕ → Bool
is_digit c = nat_le 48 c && nat_le c 57

-- a letter, a digit or an underscore
abbrev pub is_word_byte : ℕ → Bool
is_word_byte c = is_letter c || is_digit c || c == 95

-- What a token may look like: spelled in one way, or any word, or any number.
pub data Form : Type 0 where
  Spelled : List ℕ → Form
  AnyWord : Form
  AnyNumber : Form

-- the two are one text
abbrev pub is_same : List ℕ → List ℕ → Bool
is_same [] [] = true
is_same [] (d ∷ ds) = false
is_same (c ∷ cs) [] = false
is_same (c ∷ cs) (d ∷ ds) = if c == d then is_same cs ds else false

-- the piece has this form
abbrev pub has_form : List ℕ → Form → Bool
has_form piece (Spelled bytes) = is_same bytes piece
has_form [] AnyWord = false
has_form (c ∷ cs) AnyWord = is_letter c && list_all is_word_byte cs
has_form [] AnyNumber = false
has_form (c ∷ cs) AnyNumber = is_digit c && list_all is_digit cs

-- The forms, and the kind of token that each makes. A keyword is no word: it stands before the words.
abbrev pub keywords : List (Form × TokenKind)
keywords =
    (Spelled (codes "if"), If) ∷ (Spelled (codes "else"), Else)
    ∷ (Spelled (codes "refine"), Refine) ∷ (Spelled (codes "erase"), Erase) ∷ (Spelled (codes "print"), Print)
    ∷ (Spelled (codes "min"), Min) ∷ (Spelled (codes "max"), Max) ∷ (Spelled (codes "abs"), Abs) ∷ []

abbrev pub patterns : List (Form × TokenKind)
patterns = (AnyWord, Word) ∷ (AnyNumber, Number) ∷ []

abbrev pub signs : List (Form × TokenKind)
signs =
    (Spelled (codes "="), Assign) ∷ (Spelled (codes "=="), Equal)
    ∷ (Spelled (codes "!="), NotEqual) ∷ (Spelled (codes "!"), Not)
    ∷ (Spelled (codes "<"), Less) ∷ (Spelled (codes "<="), LessOrEqual)
    ∷ (Spelled (codes ">"), Greater) ∷ (Spelled (codes ">="), GreaterOrEqual)
    ∷ (Spelled (codes "+"), Plus) ∷ (Spelled (codes "-"), Minus)
    ∷ (Spelled (codes "*"), Star) ∷ (Spelled (codes "/"), Slash) ∷ (Spelled (codes "%"), Percent)
    ∷ (Spelled (codes "&&"), And) ∷ (Spelled (codes "||"), Or)
    ∷ (Spelled (codes "("), OpenRound) ∷ (Spelled (codes ")"), CloseRound)
    ∷ (Spelled (codes "{"), OpenCurly) ∷ (Spelled (codes "}"), CloseCurly)
    ∷ (Spelled (codes ","), Comma) ∷ (Spelled (codes ";"), Semicolon) ∷ (Spelled (codes "."), Dot) ∷ []

-- what the first form of a table that the piece has makes of it, or else the other
abbrev pub kind_by : List (Form × TokenKind) → Option TokenKind → List ℕ → Option TokenKind
kind_by [] other piece = other
kind_by (form ∷ forms) other piece = if has_form piece form.0 then Some form.1 else kind_by forms other piece

-- the kind of token that a piece of a text is as a whole
unfoldable pub kind_of : List ℕ → Option TokenKind
kind_of piece = kind_by keywords (kind_by patterns (kind_by signs None piece) piece) piece
