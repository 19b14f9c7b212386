-- What tokens spell: words, and the values of numbers.
use Rattle.std.proofs.Common.{◌≡◌, ℕ, ◌+◌, ◌-◌, ◌*◌, ◌/◌, ◌<◌, ◌≤◌, suc, zero, List, [], ◌∷◌, length, drop, get_or, Some, Bool, true, false, ◌&&◌, refl, sym, ◌∙◌, ap, arith}
use Rattle.std.specs.Prelude.{slice_get, IsUtf8}
use Rattle.std.specs.List.{list_all}
use Rattle.std.specs.Str.{IsAscii}
use Rattle.std.proofs.lemmas.Str.{IsUtf8-from_ascii}
use Rattle.std.proofs.lemmas.Str.Ascii.{IsAscii-nil, IsAscii-cons}
use Rattle.std.proofs.lemmas.Bool.Decides.{nat_tests}
use Rattle.std.proofs.Math.Seq.{drop-cons}
use Rattle.pe_lex.specs.declared.token.TokenKind.{TokenKind}
use Rattle.pe_lex.specs.declared.token.TokenKind.TheVariants as kind
use Rattle.pe_lex.specs.declared.token.Token.{Token}
use Rattle.pe_lex.specs.Forms.{is_letter, is_word_byte, has_form, AnyWord}
use Rattle.pe_lex.specs.Spans.{AreTokensOf}
use Rattle.pe_lex.proofs.Spans.{word_form}
use Rattle.pe_parse.specs.Lexemes.{lexeme_of, lexemes_of, kind_at, value_from}
use Rattle.pe_parse.specs.Reading.{bytes_in, spelled_at}

pub lexeme_at : (text : List ℕ) (tokens : List Token) (at : ℕ) (d : Token) → at < length tokens → slice_get (lexemes_of text tokens) at ≡ Some (lexeme_of text (get_or tokens at d))
lexeme_at text [] at d h = absurd (omega arith)
lexeme_at text (t ∷ ts) zero d h = refl
lexeme_at text (t ∷ ts) (suc at) d h = lexeme_at text ts at d (omega arith)

pub lexemes_length : (text : List ℕ) (tokens : List Token) → length (lexemes_of text tokens) ≡ length tokens
lexemes_length text [] = refl
lexemes_length text (t ∷ ts) = ap suc (lexemes_length text ts)

pub spelled_is : (text : List ℕ) (tokens : List Token) (at : ℕ) (d : Token) → at < length tokens → (lexeme_of text (get_or tokens at d)).bytes ≡ spelled_at (lexemes_of text tokens) at
spelled_is text tokens at d h = sym (ap bytes_in (lexeme_at text tokens at d h))

-- more digits make a number no smaller
pub value_grows : (value : ℕ) (ds : List ℕ) → value ≤ value_from value ds
value_grows value [] = omega arith
value_grows value (d ∷ ds) = omega (arith, value_grows (value * 10 + (d - 48)) ds)

-- a word is text
word_byte_small : (c : ℕ) → is_word_byte c ≡ true → c < 128
word_byte_small c h = grind (arith, nat_tests)

letter_small : (c : ℕ) → is_letter c ≡ true → c < 128
letter_small c h = grind (arith, nat_tests)

both : (a b : Bool) → (a && b) ≡ true → (a ≡ true) × (b ≡ true)
both true b h = (refl, h)
both false b h = absurd (cc)

ascii_rest : (cs : List ℕ) → list_all is_word_byte cs ≡ true → IsAscii cs
ascii_rest [] h = IsAscii-nil
ascii_rest (c ∷ cs) h = let parts = both (is_word_byte c) (list_all is_word_byte cs) h in IsAscii-cons c cs (word_byte_small c parts.0) (ascii_rest cs parts.1)

ascii_word : (piece : List ℕ) → has_form piece AnyWord ≡ true → IsAscii piece
ascii_word [] h = IsAscii-nil
ascii_word (c ∷ cs) h = let parts = both (is_letter c) (list_all is_word_byte cs) h in IsAscii-cons c cs (letter_small c parts.0) (ascii_rest cs parts.1)

word_at : (text : List ℕ) (tokens : List Token) (at : ℕ) → AreTokensOf text tokens → kind_at (lexemes_of text tokens) at ≡ Some kind.Word → has_form (spelled_at (lexemes_of text tokens) at) AnyWord ≡ true
word_at text [] at are h = absurd (cc)
word_at text (t ∷ ts) zero are h = let e : t.kind ≡ kind.Word = cc in word_form _ (are.0.is ∙ ap (λ (k : TokenKind). Some k) e)
word_at text (t ∷ ts) (suc at) are h = word_at text ts at are.1 h

pub word_text : (text : List ℕ) (tokens : List Token) (at : ℕ) → AreTokensOf text tokens → kind_at (lexemes_of text tokens) at ≡ Some kind.Word → IsUtf8 (spelled_at (lexemes_of text tokens) at)
word_text text tokens at are h = IsUtf8-from_ascii _ (ascii_word _ (word_at text tokens at are h))

-- a number past the limit stays past it
pub past_limit : (value total : ℕ) (ds : List ℕ) (i : ℕ) → i < length ds → value_from value (drop i ds) ≡ total → (9223372036854775807 - (get_or ds i 0 - 48)) / 10 < value → 9223372036854775807 < total
past_limit value total ds i within so_far over =
    let e : value_from value (drop i ds) ≡ value_from (value * 10 + (get_or ds i 0 - 48)) (drop (suc i) ds) = ap (value_from value) (drop-cons ds i 0 within) in
    let grows = value_grows (value * 10 + (get_or ds i 0 - 48)) (drop (suc i) ds) in
    omega arith
