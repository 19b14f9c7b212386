-- How the tokens of a text go on from each place.
use Rattle.std.proofs.Common.{◌≡◌, ℕ, ◌+◌, ◌-◌, ◌<◌, ◌≤◌, suc, zero, List, [], ◌∷◌, ◌++◌, length, drop, get_or, Option, Some, None, Bool, true, false, Result, Ok, Err, refl, sym, ◌∙◌, ap, append_assoc, drop-drop, arith}
use Rattle.std.proofs.Math.Seq.{drop-cons}
use Rattle.pe_lex.specs.declared.token.TokenKind.{TokenKind}
use Rattle.pe_lex.specs.declared.token.Token.{Token}
use Rattle.pe_lex.specs.Forms.{is_white}
use Rattle.pe_lex.specs.Tokens.{longest, with_token, begin_at, tokens_from}

-- the tokens so far, before those that follow
abbrev pub after : List Token → Result (List Token) ℕ → Result (List Token) ℕ
after tokens (Ok more) = Ok (tokens ++ more)
after tokens (Err at) = Err at

pub after_none : (read : Result (List Token) ℕ) → after [] read ≡ read
after_none (Ok more) = refl
after_none (Err at) = refl

pub after_one : (tokens : List Token) (token : Token) (read : Result (List Token) ℕ) → after tokens (with_token token read) ≡ after (tokens ++ token ∷ []) read
after_one tokens token (Ok more) = ap Ok (sym (append_assoc tokens (token ∷ []) more))
after_one tokens token (Err at) = refl

-- the bytes of the token before are passed over
skipped : (k at : ℕ) (text : List ℕ) → k ≤ length text → tokens_from k at text ≡ tokens_from 0 (at + k) (drop k text)
skipped zero at text fits = ap (λ (n : ℕ). tokens_from 0 n text) (omega arith)
skipped (suc k) at [] fits = absurd (omega arith)
skipped (suc k) at (c ∷ cs) fits = skipped k (at + 1) cs (omega arith) ∙ ap (λ (n : ℕ). tokens_from 0 n (drop k cs)) (omega arith)

pub white_step : (at : ℕ) (c : ℕ) (cs : List ℕ) → is_white c ≡ true → tokens_from 0 at (c ∷ cs) ≡ tokens_from 0 (at + 1) cs
white_step at c cs h = ap (λ (b : Bool). begin_at b (longest (c ∷ cs)) at (λ passed. tokens_from (passed - 1) (at + 1) cs)) h

none_step : (at : ℕ) (c : ℕ) (cs : List ℕ) → is_white c ≡ false → longest (c ∷ cs) ≡ None → tokens_from 0 at (c ∷ cs) ≡ Err at
none_step at c cs white is =
    ap (λ (b : Bool). begin_at b (longest (c ∷ cs)) at (λ passed. tokens_from (passed - 1) (at + 1) cs)) white
    ∙ ap (λ (o : Option (TokenKind × ℕ)). begin_at false o at (λ passed. tokens_from (passed - 1) (at + 1) cs)) is

pub token_step : (at : ℕ) (c : ℕ) (cs : List ℕ) (kind : TokenKind) (n : ℕ) → is_white c ≡ false → longest (c ∷ cs) ≡ Some (kind, suc n) → n ≤ length cs
    → tokens_from 0 at (c ∷ cs) ≡ with_token (record { kind = kind; start = at; end = at + suc n }) (tokens_from 0 (at + suc n) (drop n cs))
token_step at c cs kind n white is fits =
    let one_less : suc n - 1 ≡ n = omega arith in
    let moved : at + 1 + n ≡ at + suc n = omega arith in
    ap (λ (b : Bool). begin_at b (longest (c ∷ cs)) at (λ passed. tokens_from (passed - 1) (at + 1) cs)) white
    ∙ ap (λ (o : Option (TokenKind × ℕ)). begin_at false o at (λ passed. tokens_from (passed - 1) (at + 1) cs)) is
    ∙ ap (λ (r : Result (List Token) ℕ). with_token (record { kind = kind; start = at; end = at + suc n }) r)
    (ap (λ (k : ℕ). tokens_from k (at + 1) cs) one_less ∙ skipped n (at + 1) cs fits ∙ ap (λ (k : ℕ). tokens_from 0 k (drop n cs)) moved)

-- the same, of a text from an offset on

pub white_on : (text : List ℕ) (at : ℕ) → at < length text → is_white (get_or text at 0) ≡ true → tokens_from 0 at (drop at text) ≡ tokens_from 0 (at + 1) (drop (at + 1) text)
white_on text at within h =
    ap (tokens_from 0 at) (drop-cons text at 0 within) ∙ white_step at (get_or text at 0) (drop (suc at) text) h
    ∙ ap (λ (k : ℕ). tokens_from 0 (at + 1) (drop k text)) (next at)
  where
    next : (at : ℕ) → suc at ≡ at + 1
    next at = omega arith

pub none_on : (text : List ℕ) (at : ℕ) → at < length text → is_white (get_or text at 0) ≡ false → longest (drop at text) ≡ None → tokens_from 0 at (drop at text) ≡ Err at
none_on text at within white is =
    ap (tokens_from 0 at) (drop-cons text at 0 within)
    ∙ none_step at (get_or text at 0) (drop (suc at) text) white (ap longest (sym (drop-cons text at 0 within)) ∙ is)

pub token_on : (text : List ℕ) (at : ℕ) (kind : TokenKind) (n : ℕ) → at < length text → is_white (get_or text at 0) ≡ false → longest (drop at text) ≡ Some (kind, n) → 0 < n → n ≤ length (drop at text)
    → tokens_from 0 at (drop at text) ≡ with_token (record { kind = kind; start = at; end = at + n }) (tokens_from 0 (at + n) (drop (at + n) text))
token_on text at kind zero within white is some fits = absurd (omega arith)
token_on text at kind (suc n) within white is some fits =
    let all = drop-cons text at 0 within in
    let size : length (drop at text) ≡ suc (length (drop (suc at) text)) = ap length all in
    let joined : drop n (drop (suc at) text) ≡ drop (at + suc n) text = drop-drop n (suc at) text ∙ ap (λ (k : ℕ). drop k text) (omega arith) in
    ap (tokens_from 0 at) all
    ∙ token_step at (get_or text at 0) (drop (suc at) text) kind n white (ap longest (sym all) ∙ is) (omega arith)
    ∙ ap (λ (rest : List ℕ). with_token (record { kind = kind; start = at; end = at + suc n }) (tokens_from 0 (at + suc n) rest)) joined
