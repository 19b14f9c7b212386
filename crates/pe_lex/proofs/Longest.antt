-- The longest token at the front of a text, where its kind and length are known.
use Rattle.std.proofs.Common.{◌≡◌, ◌⊎◌, ℕ, ◌<◌, ◌≤◌, suc, zero, List, length, take, Option, Some, None, IfSome, refl, sym, ◌∙◌, ap, inl, inr, arith}
use Rattle.pe_lex.specs.declared.token.TokenKind.{TokenKind}
use Rattle.pe_lex.specs.Forms.{kind_of}
use Rattle.pe_lex.specs.Tokens.{or_shorter, longest_within, longest}

last_or_below : (n most : ℕ) → n ≤ suc most → (n ≡ suc most) ⊎ (n ≤ most)
last_or_below n most h = grind arith

-- no longer front is a token, so this one is the longest
within_is : (text : List ℕ) (n : ℕ) (kind : TokenKind) (most : ℕ) → 0 < n → n ≤ most → kind_of (take n text) ≡ Some kind
    → ((m : ℕ) → n < m → m ≤ most → kind_of (take m text) ≡ None) → longest_within most text ≡ Some (kind, n)
within_is text n kind zero some fits is longer = absurd (omega arith)
within_is text n kind (suc most) some fits is longer = elim (last_or_below n most fits) [
  | inl same ↦ ap (λ (k : ℕ). or_shorter (kind_of (take k text)) k (longest_within most text)) (sym same) ∙ ap (λ (o : Option TokenKind). or_shorter o n (longest_within most text)) is
  | inr below ↦ ap (λ (o : Option TokenKind). or_shorter o (suc most) (longest_within most text)) (longer (suc most) (omega arith) (omega arith))
      ∙ within_is text n kind most some below is (λ m above at. longer m above (omega arith))
]

pub longest_is : (text : List ℕ) (n : ℕ) (kind : TokenKind) → 0 < n → n ≤ length text → kind_of (take n text) ≡ Some kind
    → ((m : ℕ) → n < m → m ≤ length text → kind_of (take m text) ≡ None) → longest text ≡ Some (kind, n)
longest_is text n kind some fits is longer = within_is text n kind (length text) some fits is longer

none_within : (text : List ℕ) (most : ℕ) → ((m : ℕ) → 0 < m → m ≤ most → kind_of (take m text) ≡ None) → longest_within most text ≡ None
none_within text zero none = refl
none_within text (suc most) none =
    ap (λ (o : Option TokenKind). or_shorter o (suc most) (longest_within most text)) (none (suc most) (omega arith) (omega arith))
    ∙ none_within text most (λ m above at. none m above (omega arith))

-- no front is a token
pub longest_none : (text : List ℕ) → ((m : ℕ) → 0 < m → m ≤ length text → kind_of (take m text) ≡ None) → longest text ≡ None
longest_none text none = none_within text (length text) none

fits_step : (kind : Option TokenKind) (most : ℕ) (shorter : Option (TokenKind × ℕ)) → IfSome shorter (λ f. (0 < f.1) × (f.1 ≤ most))
    → IfSome (or_shorter kind (suc most) shorter) (λ f. (0 < f.1) × (f.1 ≤ suc most))
fits_step (Some kind) most shorter h = (omega arith, omega arith)
fits_step None most None h = tt
fits_step None most (Some found) h = (h.0, omega arith)

within_fits : (text : List ℕ) (most : ℕ) → IfSome (longest_within most text) (λ f. (0 < f.1) × (f.1 ≤ most))
within_fits text zero = tt
within_fits text (suc most) = fits_step (kind_of (take (suc most) text)) most (longest_within most text) (within_fits text most)

-- the longest token has a byte, and lies in the text
pub longest_fits : (text : List ℕ) → IfSome (longest text) (λ f. (0 < f.1) × (f.1 ≤ length text))
longest_fits text = within_fits text (length text)
