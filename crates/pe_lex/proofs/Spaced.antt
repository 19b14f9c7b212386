-- The spellings of tokens with a space behind each are those tokens.
use Rattle.std.proofs.Common.{◌≡◌, ℕ, ◌+◌, ◌<◌, suc, zero, List, [], ◌∷◌, ◌++◌, length, take, drop, Some, None, Bool, true, false, not, ◌&&◌, Result, Ok, refl, ◌∙◌, ap, subst, length-append, arith}
use Rattle.std.specs.List.{list_all}
use Rattle.std.proofs.lemmas.Bool.Decides.{nat_tests}
use Rattle.std.proofs.Math.Seq.{take-append_seam}
use Rattle.pe_lex.specs.declared.token.TokenKind.{TokenKind}
use Rattle.pe_lex.specs.declared.token.Token.{Token}
use Rattle.pe_lex.specs.Forms.{is_white, is_letter, is_digit, is_word_byte, Form, Spelled, AnyWord, AnyNumber, has_form, keywords, patterns, signs, kind_of}
use Rattle.pe_lex.specs.Tokens.{longest, with_token, tokens_from}
use Rattle.pe_lex.proofs.Longest.{longest_is}
use Rattle.pe_lex.proofs.Fronts.{same_is, kind_by_absent, to_false, not_true}
use Rattle.pe_lex.proofs.Reading.{white_step, token_step}

-- no byte is white
abbrev dark : List ℕ → Bool
dark bytes = list_all (λ c. not (is_white c)) bytes

abbrev dark_form : Form → Bool
dark_form (Spelled bytes) = dark bytes
dark_form AnyWord = true
dark_form AnyNumber = true

word_dark : (c : ℕ) → is_word_byte c ≡ true → not (is_white c) ≡ true
word_dark c h = grind (arith, nat_tests)

letter_dark : (c : ℕ) → is_letter c ≡ true → not (is_white c) ≡ true
letter_dark c h = grind (arith, nat_tests)

digit_dark : (c : ℕ) → is_digit c ≡ true → not (is_white c) ≡ true
digit_dark c h = grind (arith, nat_tests)

both : (a b : Bool) → (a && b) ≡ true → (a ≡ true) × (b ≡ true)
both true b h = (refl, h)
both false b h = absurd (cc)

and_true : (a b : Bool) → a ≡ true → b ≡ true → (a && b) ≡ true
and_true a b h k = rw (h, k) refl

all_dark : (p : ℕ → Bool) → ((c : ℕ) → p c ≡ true → not (is_white c) ≡ true) → (cs : List ℕ) → list_all p cs ≡ true → dark cs ≡ true
all_dark p each [] h = refl
all_dark p each (c ∷ cs) h = let parts = both (p c) (list_all p cs) h in and_true _ _ (each c parts.0) (all_dark p each cs parts.1)

-- what has a form without white bytes has none
form_dark : (piece : List ℕ) (f : Form) → dark_form f ≡ true → has_form piece f ≡ true → dark piece ≡ true
form_dark piece (Spelled bytes) q has = subst (λ (s : List ℕ). dark s ≡ true) (same_is bytes piece has) q
form_dark [] AnyWord q has = refl
form_dark (c ∷ cs) AnyWord q has = let parts = both (is_letter c) (list_all is_word_byte cs) has in and_true _ _ (letter_dark c parts.0) (all_dark is_word_byte word_dark cs parts.1)
form_dark [] AnyNumber q has = refl
form_dark (c ∷ cs) AnyNumber q has = let parts = both (is_digit c) (list_all is_digit cs) has in and_true _ _ (digit_dark c parts.0) (all_dark is_digit digit_dark cs parts.1)

-- a piece with a white byte is no token
white_none : (piece : List ℕ) → dark piece ≡ false → kind_of piece ≡ None
unfolding kind_of
white_none piece white =
    let without : (f : Form) → dark_form f ≡ true → has_form piece f ≡ false = λ f q. to_false (has_form piece f) (λ has. not_true (dark piece) white (form_dark piece f q has)) in
    kind_by_absent piece dark_form without keywords _ refl
    ∙ kind_by_absent piece dark_form without patterns _ refl
    ∙ kind_by_absent piece dark_form without signs _ refl

some_dark : (piece : List ℕ) (kind : TokenKind) (b : Bool) → dark piece ≡ b → kind_of piece ≡ Some kind → b ≡ true
some_dark piece kind true e is = refl
some_dark piece kind false e is = let none_ = white_none piece e in absurd (cc)

and_false : (a b : Bool) → b ≡ false → (a && b) ≡ false
and_false true b h = h
and_false false b h = refl

-- the front reaches past a space
past_space : (piece rest : List ℕ) (m : ℕ) → length piece < m → dark (take m (piece ++ 32 ∷ rest)) ≡ false
past_space [] rest zero h = absurd (omega arith)
past_space [] rest (suc m) h = refl
past_space (c ∷ cs) rest zero h = absurd (omega arith)
past_space (c ∷ cs) rest (suc m) h = and_false (not (is_white c)) _ (past_space cs rest m (omega arith))

-- a token with a space behind it is the longest token where it stands
spaced_longest : (piece rest : List ℕ) (kind : TokenKind) → 0 < length piece → kind_of piece ≡ Some kind → longest (piece ++ 32 ∷ rest) ≡ Some (kind, length piece)
spaced_longest piece rest kind some is =
    longest_is (piece ++ 32 ∷ rest) (length piece) kind some (omega (arith, length-append piece (32 ∷ rest)))
    (ap kind_of (take-append_seam piece (32 ∷ rest)) ∙ is)
    (λ m above within. white_none (take m (piece ++ 32 ∷ rest)) (past_space piece rest m above))

-- pieces with their kinds, as a text with spaces and as tokens from an offset on
abbrev pub Marked : Type 0
Marked = List (TokenKind × List ℕ)

abbrev pub AreTokens : Marked → Type 0
AreTokens [] = Unit {0}
AreTokens (p ∷ ps) = (kind_of p.1 ≡ Some p.0) × AreTokens ps

abbrev pub spelled : Marked → List ℕ
spelled [] = []
spelled (p ∷ ps) = p.1 ++ 32 ∷ spelled ps

abbrev pub placed : ℕ → Marked → List Token
placed at [] = []
placed at (p ∷ ps) = record { kind = p.0; start = at; end = at + length p.1 } ∷ placed (at + length p.1 + 1) ps

drop_seam : (xs ys : List ℕ) → drop (length xs) (xs ++ ys) ≡ ys
drop_seam [] ys = refl
drop_seam (x ∷ xs) ys = drop_seam xs ys

no_piece : (kind : TokenKind) → kind_of [] ≡ Some kind → ⊥
unfolding kind_of
no_piece kind h = cc

spaced_step : (piece rest : List ℕ) (kind : TokenKind) (at : ℕ) → kind_of piece ≡ Some kind
    → tokens_from 0 at (piece ++ 32 ∷ rest) ≡ with_token (record { kind = kind; start = at; end = at + length piece }) (tokens_from 0 (at + length piece + 1) rest)
spaced_step [] rest kind at is = absurd (no_piece kind is)
spaced_step (c ∷ cs) rest kind at is =
    let clear = both (not (is_white c)) (dark cs) (ap (λ (b : Bool). b) (some_dark (c ∷ cs) kind (dark (c ∷ cs)) refl is)) in
    token_step at c (cs ++ 32 ∷ rest) kind (length cs) (not_is (is_white c) clear.0) (spaced_longest (c ∷ cs) rest kind (omega arith) is) (omega (arith, length-append cs (32 ∷ rest)))
    ∙ ap (λ (r : Result (List Token) ℕ). with_token (record { kind = kind; start = at; end = at + suc (length cs) }) r)
    (ap (tokens_from 0 (at + suc (length cs))) (drop_seam cs (32 ∷ rest)) ∙ white_step (at + suc (length cs)) 32 rest refl)
  where
    not_is : (b : Bool) → not b ≡ true → b ≡ false
    not_is true h = absurd (cc)
    not_is false h = refl

-- The tokens of spaced pieces are the pieces.
pub spaced_tokens : (ps : Marked) (at : ℕ) → AreTokens ps → tokens_from 0 at (spelled ps) ≡ Ok (placed at ps)
spaced_tokens [] at are = refl
spaced_tokens (p ∷ ps) at are =
    spaced_step p.1 (spelled ps) p.0 at are.0
    ∙ ap (λ (r : Result (List Token) ℕ). with_token (record { kind = p.0; start = at; end = at + length p.1 }) r) (spaced_tokens ps (at + length p.1 + 1) are.1)
