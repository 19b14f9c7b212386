-- Each token of a text is what it says.
use Rattle.std.proofs.Common.{◌≡◌, ℕ, ◌+◌, ◌-◌, ◌<◌, ◌≤◌, suc, zero, List, [], ◌∷◌, length, take, drop, get_or, Option, Some, None, Bool, true, false, not, cond, ◌&&◌, Result, Ok, Err, IfSome, refl, sym, ◌∙◌, ap, subst, drop-drop, arith}
use Rattle.std.specs.List.{list_all}
use Rattle.pe_lex.specs.declared.token.TokenKind.{TokenKind}
use Rattle.pe_lex.specs.declared.token.TokenKind.TheVariants.{Word, Number}
use Rattle.pe_lex.specs.declared.token.Token.{Token}
use Rattle.pe_lex.specs.Forms.{is_white, Form, AnyWord, AnyNumber, has_form, keywords, patterns, signs, kind_by, kind_of}
use Rattle.pe_lex.specs.Tokens.{longest, longest_within, or_shorter, with_token, begin_at, tokens_from, tokens_of}
use Rattle.pe_lex.specs.Spans.{IsTokenOf, AreTokensOf}
use Rattle.pe_lex.proofs.Longest.{longest_fits}

found_step : (text : List ℕ) (kind : TokenKind) (n most : ℕ) (here : Option TokenKind) → kind_of (take (suc most) text) ≡ here
    → (longest_within most text ≡ Some (kind, n) → kind_of (take n text) ≡ Some kind) → or_shorter here (suc most) (longest_within most text) ≡ Some (kind, n) → kind_of (take n text) ≡ Some kind
found_step text kind n most (Some k) e later h =
    let pair : (k, suc most) ≡ (kind, n) = cc in
    let same : k ≡ kind = ap (λ (p : TokenKind × ℕ). p.0) pair in
    let size : suc most ≡ n = ap (λ (p : TokenKind × ℕ). p.1) pair in
    subst (λ (m : ℕ). kind_of (take m text) ≡ Some kind) size (e ∙ ap (λ (k : TokenKind). Some k) same)
found_step text kind n most None e later h = later h

found_within : (text : List ℕ) (kind : TokenKind) (n most : ℕ) → longest_within most text ≡ Some (kind, n) → kind_of (take n text) ≡ Some kind
found_within text kind n zero h = absurd (cc)
found_within text kind n (suc most) h = found_step text kind n most (kind_of (take (suc most) text)) refl (found_within text kind n most) h

-- the longest token is of its kind
pub longest_kind : (text : List ℕ) (kind : TokenKind) (n : ℕ) → longest text ≡ Some (kind, n) → kind_of (take n text) ≡ Some kind
longest_kind text kind n h = found_within text kind n (length text) h

-- what stands from an offset on, where it is known
record Suffix (text rest : List ℕ) (at : ℕ) : Type 0 where
  is : drop at text ≡ rest
  size : at + length rest ≡ length text

first_of : (text : List ℕ) (at : ℕ) (kind : TokenKind) (n : ℕ) (rest : List ℕ) → Suffix text rest at → longest rest ≡ Some (kind, n) → IsTokenOf text (record { kind = kind; start = at; end = at + n })
first_of text at kind n rest here found =
    let fits : (0 < n) × (n ≤ length rest) = subst (λ (o : Option (TokenKind × ℕ)). IfSome o (λ f. (0 < f.1) × (f.1 ≤ length rest))) found (longest_fits rest) in
    let size = here.size in
    let width : at + n - at ≡ n = omega arith in
    record {
      some = omega arith;
      within = omega arith;
      is = ap (λ (k : ℕ). kind_of (take k (drop at text))) width ∙ ap (λ (r : List ℕ). kind_of (take n r)) here.is ∙ longest_kind rest kind n found;
    }

put_first : (text : List ℕ) (token : Token) (tokens : List Token) (read : Result (List Token) ℕ) → IsTokenOf text token → ((more : List Token) → read ≡ Ok more → AreTokensOf text more)
    → with_token token read ≡ Ok tokens → AreTokensOf text tokens
put_first text token tokens (Ok more) this later h = let e : token ∷ more ≡ tokens = cc in subst (AreTokensOf text) e (this, later more refl)
put_first text token tokens (Err at) this later h = absurd (cc)

begun : (text : List ℕ) (at : ℕ) (rest : List ℕ) (tokens : List Token) (white : Bool) (found : Option (TokenKind × ℕ)) (follows : ℕ → Result (List Token) ℕ)
    → Suffix text rest at → longest rest ≡ found → ((n : ℕ) (more : List Token) → follows n ≡ Ok more → AreTokensOf text more) → begin_at white found at follows ≡ Ok tokens → AreTokensOf text tokens
begun text at rest tokens true found follows here is later h = later 1 tokens h
begun text at rest tokens false None follows here is later h = absurd (cc)
begun text at rest tokens false (Some found) follows here is later h =
    put_first text (record { kind = found.0; start = at; end = at + found.1 }) tokens (follows found.1) (first_of text at found.0 found.1 rest here is) (later found.1) h

next_suffix : (text : List ℕ) (at c : ℕ) (cs : List ℕ) → Suffix text (c ∷ cs) at → Suffix text cs (at + 1)
next_suffix text at c cs here =
    let size = here.size in
    let moved : at + 1 ≡ 1 + at = omega arith in
    record {
      is = sym (drop-drop 1 at text ∙ ap (λ (k : ℕ). drop k text) (omega arith)) ∙ ap (drop 1) here.is;
      size = omega arith;
    }

from_tokens : (text rest : List ℕ) (k at : ℕ) (tokens : List Token) → Suffix text rest at → tokens_from k at rest ≡ Ok tokens → AreTokensOf text tokens
from_tokens text [] k at tokens here h = let e : [] ≡ tokens = cc in subst (AreTokensOf text) e tt
from_tokens text (c ∷ cs) (suc k) at tokens here h = from_tokens text cs k (at + 1) tokens (next_suffix text at c cs here) h
from_tokens text (c ∷ cs) zero at tokens here h =
    begun text at (c ∷ cs) tokens (is_white c) (longest (c ∷ cs)) (λ passed. tokens_from (passed - 1) (at + 1) cs) here refl
    (λ n more read. from_tokens text cs (n - 1) (at + 1) more (next_suffix text at c cs here) read) h

-- the tokens of a text are tokens of it
pub tokens_are : (text : List ℕ) (tokens : List Token) → tokens_of text ≡ Ok tokens → AreTokensOf text tokens
tokens_are text tokens h = from_tokens text text 0 0 tokens (record { is = refl; size = omega arith }) h

-- by number
pub token_is : (text : List ℕ) (tokens : List Token) (i : ℕ) (d : Token) → AreTokensOf text tokens → i < length tokens → IsTokenOf text (get_or tokens i d)
token_is text [] i d are within = absurd (omega arith)
token_is text (token ∷ tokens) zero d are within = are.0
token_is text (token ∷ tokens) (suc i) d are within = token_is text tokens i d are.1 (omega arith)

-- the kind of a word
abbrev is_word_kind : TokenKind → Bool
is_word_kind Word = true
is_word_kind _ = false

word_step : (form : Bool) (kind : TokenKind) (later : Option TokenKind) → is_word_kind kind ≡ false → cond form (Some kind) later ≡ Some Word → later ≡ Some Word
word_step true kind later no_word h = let e : kind ≡ Word = cc in let wrong : is_word_kind kind ≡ true = ap is_word_kind e in absurd (cc)
word_step false kind later no_word h = h

both : (a b : Bool) → (a && b) ≡ true → (a ≡ true) × (b ≡ true)
both true b h = (refl, h)
both false b h = absurd (cc)

not_is : (b : Bool) → not b ≡ true → b ≡ false
not_is true h = absurd (cc)
not_is false h = refl

word_past : (piece : List ℕ) (table : List (Form × TokenKind)) (other : Option TokenKind) → list_all (λ e. not (is_word_kind e.1)) table ≡ true → kind_by table other piece ≡ Some Word → other ≡ Some Word
word_past piece [] other none_ h = h
word_past piece (e ∷ table) other none_ h =
    let parts = both (not (is_word_kind e.1)) (list_all (λ (e : Form × TokenKind). not (is_word_kind e.1)) table) none_ in
    word_past piece table other parts.1 (word_step (has_form piece e.0) e.1 (kind_by table other piece) (not_is _ parts.0) h)

word_here : (piece : List ℕ) (word number : Bool) → has_form piece AnyWord ≡ word → (kind_by signs None piece ≡ Some Word → ⊥)
    → cond word (Some Word) (cond number (Some Number) (kind_by signs None piece)) ≡ Some Word → has_form piece AnyWord ≡ true
word_here piece true number e never h = e
word_here piece false true e never h = absurd (cc)
word_here piece false false e never h = absurd (never h)

-- a word has the form of words
pub word_form : (piece : List ℕ) → kind_of piece ≡ Some Word → has_form piece AnyWord ≡ true
unfolding kind_of
word_form piece h =
    word_here piece (has_form piece AnyWord) (has_form piece AnyNumber) refl (λ none_. let wrong : None ≡ Some Word = word_past piece signs None refl none_ in absurd (cc))
    (word_past piece keywords (kind_by patterns (kind_by signs None piece) piece) refl h)
