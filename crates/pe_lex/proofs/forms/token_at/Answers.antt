use Rattle.std.proofs.Common.{◌≡◌, ℕ, ◌<◌, ◌≤◌, List, Option, Some, IfSome, length, take, get_or, true, sym, ◌∙◌, ap, subst}
use Rattle.std.specs.List.{prefix_len}
use Rattle.pe_lex.specs.declared.token.TokenKind.{TokenKind}
use Rattle.pe_lex.specs.declared.token.TokenKind.TheVariants.{Number}
use Rattle.pe_lex.specs.Forms.{is_word_byte, is_letter, is_digit, has_form, AnyWord, kind_of}
use Rattle.pe_lex.specs.Tokens.{longest}
use Rattle.pe_lex.proofs.Longest.{longest_fits}
use Rattle.pe_lex.proofs.Fronts.{word_front, word_longest, number_longest}
use Rattle.pe_lex.proofs.forms.token_at.Goals as goal

fits_as : (text : List ℕ) (answer : Option (TokenKind × ℕ)) → answer ≡ longest text → IfSome answer (λ f. (0 < f.1) × (f.1 ≤ length text))
fits_as text answer e = subst (λ (o : Option (TokenKind × ℕ)). IfSome o (λ f. (0 < f.1) × (f.1 ≤ length text))) (sym e) (longest_fits text)

word_as : (text : List ℕ) (n : ℕ) → n ≡ prefix_len is_word_byte text → 0 < length text → is_letter (get_or text 0 0) ≡ true → has_form (take n text) AnyWord ≡ true
word_as text n e some letter = subst (λ (n : ℕ). has_form (take n text) AnyWord ≡ true) (sym e) (word_front text some letter)

longest_word_as : (text : List ℕ) (n : ℕ) (kind : TokenKind) → n ≡ prefix_len is_word_byte text → 0 < length text → is_letter (get_or text 0 0) ≡ true
    → kind_of (take n text) ≡ Some kind → Some (kind, n) ≡ longest text
longest_word_as text n kind e some letter is =
    ap (λ (n : ℕ). Some (kind, n)) e ∙ sym (word_longest text kind some letter (subst (λ (n : ℕ). kind_of (take n text) ≡ Some kind) e is))

longest_number_as : (text : List ℕ) (n : ℕ) → n ≡ prefix_len is_digit text → 0 < length text → is_digit (get_or text 0 0) ≡ true → Some (Number, n) ≡ longest text
longest_number_as text n e some digit = ap (λ (n : ℕ). Some (Number, n)) e ∙ sym (number_longest text some digit)

pub word_kind-requires : goal.word_kind-requires
word_kind-requires c = word_as c.args.bytes.now c.word_length-length.result c.word_length-length.ensures c.requires (sym c.is_lower_letter.ensures ∙ c.if-is_lower_letter.true)

pub returns-then-is_lower_letter-clause-longest : goal.returns-then-is_lower_letter-clause-longest
returns-then-is_lower_letter-clause-longest c =
    longest_word_as c.args.bytes.now c.word_length-length.result c.word_kind.result c.word_length-length.ensures c.requires
    (sym c.is_lower_letter.ensures ∙ c.if-is_lower_letter.true) c.word_kind.ensures

pub returns-then-is_lower_letter-clause-within : goal.returns-then-is_lower_letter-clause-within
returns-then-is_lower_letter-clause-within c =
    fits_as c.args.bytes.now (Some (c.word_kind.result, c.word_length-length.result))
    (longest_word_as c.args.bytes.now c.word_length-length.result c.word_kind.result c.word_length-length.ensures c.requires
    (sym c.is_lower_letter.ensures ∙ c.if-is_lower_letter.true) c.word_kind.ensures)

pub returns-then-is_decimal-clause-longest : goal.returns-then-is_decimal-clause-longest
returns-then-is_decimal-clause-longest c =
    longest_number_as c.args.bytes.now c.number_length.result c.number_length.ensures c.requires (sym c.is_decimal.ensures ∙ c.if-is_decimal.true)

pub returns-then-is_decimal-clause-within : goal.returns-then-is_decimal-clause-within
returns-then-is_decimal-clause-within c =
    fits_as c.args.bytes.now (Some (Number, c.number_length.result))
    (longest_number_as c.args.bytes.now c.number_length.result c.number_length.ensures c.requires (sym c.is_decimal.ensures ∙ c.if-is_decimal.true))

pub returns-else-is_decimal-clause-within : goal.returns-else-is_decimal-clause-within
returns-else-is_decimal-clause-within c = fits_as c.args.bytes.now c.sign_at.result c.sign_at.ensures
