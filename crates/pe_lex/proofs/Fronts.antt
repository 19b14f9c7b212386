-- What stands at the front of a text that begins with a letter, with a digit, or with neither.
use Rattle.std.proofs.Common.{◌≡◌, ℕ, ◌+◌, ◌<◌, ◌≤◌, suc, zero, List, [], ◌∷◌, length, take, get_or, Option, Some, None, Bool, true, false, not, cond, ◌&&◌, ◌||◌, refl, sym, ◌∙◌, ap, subst, arith}
use Rattle.std.specs.Prelude.{nat_le, ◌==◌}
use Rattle.std.specs.List.{list_all, prefix_len}
use Rattle.std.proofs.lemmas.Bool.Decides.{nat_tests}
use Rattle.std.proofs.lemmas.List.{length-take-le}
use Rattle.std.proofs.lemmas.List.Sums.{prefix_len-le-length}
use Rattle.pe_lex.specs.declared.token.TokenKind.{TokenKind}
use Rattle.pe_lex.specs.declared.token.TokenKind.TheVariants.{Word, Number}
use Rattle.pe_lex.specs.Forms.{is_letter, is_digit, is_word_byte, Form, Spelled, AnyWord, AnyNumber, is_same, has_form, keywords, patterns, signs, kind_by, kind_of}
use Rattle.pe_lex.specs.Tokens.{longest}
use Rattle.pe_lex.proofs.Longest.{longest_is, longest_none}

same_step : (c d : ℕ) (cs ds : List ℕ) (b : Bool) → (c == d) ≡ b → (is_same cs ds ≡ true → cs ≡ ds) → cond b (is_same cs ds) false ≡ true → c ∷ cs ≡ d ∷ ds
same_step c d cs ds true e later h = let heads : c ≡ d = grind (arith, nat_tests) in let tails = later h in cc
same_step c d cs ds false e later h = absurd (cc)

-- texts that are the same are one
pub same_is : (cs ds : List ℕ) → is_same cs ds ≡ true → cs ≡ ds
same_is [] [] h = refl
same_is [] (d ∷ ds) h = absurd (cc)
same_is (c ∷ cs) [] h = absurd (cc)
same_is (c ∷ cs) (d ∷ ds) h = same_step c d cs ds (c == d) refl (same_is cs ds) h

both : (a b : Bool) → (a && b) ≡ true → (a ≡ true) × (b ≡ true)
both true b h = (refl, h)
both false b h = absurd (cc)

-- a table whose forms the piece has not makes nothing of it
pub kind_by_absent : (piece : List ℕ) (q : Form → Bool) → ((f : Form) → q f ≡ true → has_form piece f ≡ false)
    → (table : List (Form × TokenKind)) (other : Option TokenKind) → list_all (λ e. q e.0) table ≡ true → kind_by table other piece ≡ other
kind_by_absent piece q without [] other h = refl
kind_by_absent piece q without (e ∷ table) other h =
    let parts = both (q e.0) (list_all (λ (e : Form × TokenKind). q e.0) table) h in
    ap (λ (b : Bool). cond b (Some e.1) (kind_by table other piece)) (without e.0 parts.0) ∙ kind_by_absent piece q without table other parts.1

-- the first byte of a spelling passes
abbrev begins : (ℕ → Bool) → List ℕ → Bool
begins p [] = false
begins p (c ∷ cs) = p c

one_plus : (n : ℕ) → 1 + n ≡ suc n
one_plus n = omega arith

run_step : (p : ℕ → Bool) (x : ℕ) (xs : List ℕ) (b : Bool) → p x ≡ b → list_all p (take (prefix_len p xs) xs) ≡ true → list_all p (take (cond b (1 + prefix_len p xs) 0) (x ∷ xs)) ≡ true
run_step p x xs true e later = rw (one_plus (prefix_len p xs), e) later
run_step p x xs false e later = refl

-- the front that passes, whole and no more
pub all_of_run : (p : ℕ → Bool) (xs : List ℕ) → list_all p (take (prefix_len p xs) xs) ≡ true
all_of_run p [] = refl
all_of_run p (x ∷ xs) = run_step p x xs (p x) refl (all_of_run p xs)

past_step : (p : ℕ → Bool) (x : ℕ) (xs : List ℕ) (k : ℕ) (b : Bool) → p x ≡ b → cond b (1 + prefix_len p xs) 0 < suc k
    → (prefix_len p xs < k → list_all p (take k xs) ≡ false) → list_all p (x ∷ take k xs) ≡ false
past_step p x xs k true e h later = rw e (later (omega arith))
past_step p x xs k false e h later = rw e refl

-- what reaches past that front does not pass
pub not_past_run : (p : ℕ → Bool) (xs : List ℕ) (k : ℕ) → prefix_len p xs < k → k ≤ length xs → list_all p (take k xs) ≡ false
not_past_run p [] k above within = absurd (omega arith)
not_past_run p (x ∷ xs) zero above within = absurd (omega arith)
not_past_run p (x ∷ xs) (suc k) above within = past_step p x xs k (p x) refl above (λ h. not_past_run p xs k h (omega arith))

pub to_false : (b : Bool) → (b ≡ true → ⊥) → b ≡ false
to_false true h = absurd (h refl)
to_false false h = refl

pub not_true : (b : Bool) → b ≡ false → b ≡ true → ⊥
not_true b no_ yes_ = cc

not_is : (b : Bool) → not b ≡ true → b ≡ false
not_is true h = absurd (cc)
not_is false h = refl

either : (a b : Bool) → (a || b) ≡ true → a ≡ false → b ≡ true
either a b h e = rw e at h

-- no letter is a digit
letter_no_digit : (c : ℕ) → is_letter c ≡ true → is_digit c ≡ false
letter_no_digit c h = grind (arith, nat_tests)

-- For a piece that begins with a letter and is no word: a form that it may be left out of.
abbrev no_word : Form → Bool
no_word (Spelled bytes) = has_form bytes AnyWord || not (begins is_letter bytes)
no_word AnyWord = true
no_word AnyNumber = true

no_word_without : (c : ℕ) (cs : List ℕ) → is_letter c ≡ true → list_all is_word_byte cs ≡ false → (f : Form) → no_word f ≡ true → has_form (c ∷ cs) f ≡ false
no_word_without c cs letter broken (Spelled bytes) q = to_false (is_same bytes (c ∷ cs)) (λ same.
    let e = same_is bytes (c ∷ cs) same in
    let word : has_form bytes AnyWord ≡ false = subst (λ (s : List ℕ). has_form s AnyWord ≡ false) (sym e) (rw (letter, broken) refl) in
    let begun : begins is_letter bytes ≡ true = subst (λ (s : List ℕ). begins is_letter s ≡ true) (sym e) letter in
    not_true _ (not_is _ (either _ _ q word)) begun)
no_word_without c cs letter broken AnyWord q = rw (letter, broken) refl
no_word_without c cs letter broken AnyNumber q = rw (letter_no_digit c letter) refl

-- a letter, and behind it not only bytes of words
pub no_word_kind : (c : ℕ) (cs : List ℕ) → is_letter c ≡ true → list_all is_word_byte cs ≡ false → kind_of (c ∷ cs) ≡ None
unfolding kind_of
no_word_kind c cs letter broken =
    kind_by_absent (c ∷ cs) no_word (no_word_without c cs letter broken) keywords _ refl
    ∙ kind_by_absent (c ∷ cs) no_word (no_word_without c cs letter broken) patterns _ refl
    ∙ kind_by_absent (c ∷ cs) no_word (no_word_without c cs letter broken) signs _ refl

digit_no_letter : (c : ℕ) → is_digit c ≡ true → is_letter c ≡ false
digit_no_letter c h = grind (arith, nat_tests)

-- For a piece that begins with a digit: the spellings and words.
abbrev no_digits : Form → Bool
no_digits (Spelled bytes) = not (begins is_digit bytes)
no_digits AnyWord = true
no_digits AnyNumber = false

no_digits_without : (c : ℕ) (cs : List ℕ) → is_digit c ≡ true → (f : Form) → no_digits f ≡ true → has_form (c ∷ cs) f ≡ false
no_digits_without c cs digit (Spelled bytes) q = to_false (is_same bytes (c ∷ cs)) (λ same.
    let e = same_is bytes (c ∷ cs) same in
    let begun : begins is_digit bytes ≡ true = subst (λ (s : List ℕ). begins is_digit s ≡ true) (sym e) digit in
    not_true _ (not_is _ q) begun)
no_digits_without c cs digit AnyWord q = rw (digit_no_letter c digit) refl
no_digits_without c cs digit AnyNumber q = absurd (cc)

number_step : (c : ℕ) (cs : List ℕ) (b : Bool) → is_digit c ≡ true → list_all is_digit cs ≡ b → kind_of (c ∷ cs) ≡ cond b (Some Number) None
unfolding kind_of
number_step c cs b digit rest =
    kind_by_absent (c ∷ cs) no_digits (no_digits_without c cs digit) keywords _ refl
    ∙ ap (λ (x : Bool). cond x (Some Word) (cond (is_digit c && list_all is_digit cs) (Some Number) (kind_by signs None (c ∷ cs)))) (no_digits_without c cs digit AnyWord refl)
    ∙ rw (digit, rest) (ap (λ (o : Option TokenKind). cond b (Some Number) o) (kind_by_absent (c ∷ cs) no_digits (no_digits_without c cs digit) signs None refl))

-- a digit and more of them
pub number_kind : (c : ℕ) (cs : List ℕ) → is_digit c ≡ true → list_all is_digit cs ≡ true → kind_of (c ∷ cs) ≡ Some Number
number_kind c cs digit rest = number_step c cs true digit rest

-- a digit, and behind it not only digits
pub no_number_kind : (c : ℕ) (cs : List ℕ) → is_digit c ≡ true → list_all is_digit cs ≡ false → kind_of (c ∷ cs) ≡ None
no_number_kind c cs digit broken = number_step c cs false digit broken

-- For a piece of three bytes or more that begins with neither.
abbrev no_sign : Form → Bool
no_sign (Spelled bytes) = nat_le (length bytes) 2 || begins is_letter bytes
no_sign AnyWord = true
no_sign AnyNumber = true

no_sign_without : (c : ℕ) (cs : List ℕ) → is_letter c ≡ false → is_digit c ≡ false → 1 < length cs → (f : Form) → no_sign f ≡ true → has_form (c ∷ cs) f ≡ false
no_sign_without c cs letter digit long (Spelled bytes) q = to_false (is_same bytes (c ∷ cs)) (λ same.
    let e = same_is bytes (c ∷ cs) same in
    let begun : begins is_letter bytes ≡ false = subst (λ (s : List ℕ). begins is_letter s ≡ false) (sym e) letter in
    let size : length bytes ≡ suc (length cs) = ap length e in
    let over : nat_le (length bytes) 2 ≡ false = grind (arith, nat_tests) in
    not_true _ begun (either _ _ q over))
no_sign_without c cs letter digit long AnyWord q = rw letter refl
no_sign_without c cs letter digit long AnyNumber q = rw digit refl

-- three bytes or more, and neither a letter nor a digit first
pub no_sign_kind : (c : ℕ) (cs : List ℕ) → is_letter c ≡ false → is_digit c ≡ false → 1 < length cs → kind_of (c ∷ cs) ≡ None
unfolding kind_of
no_sign_kind c cs letter digit long =
    kind_by_absent (c ∷ cs) no_sign (no_sign_without c cs letter digit long) keywords _ refl
    ∙ kind_by_absent (c ∷ cs) no_sign (no_sign_without c cs letter digit long) patterns _ refl
    ∙ kind_by_absent (c ∷ cs) no_sign (no_sign_without c cs letter digit long) signs _ refl

letter_word : (c : ℕ) → is_letter c ≡ true → is_word_byte c ≡ true
letter_word c h = rw h refl

run_of : (p : ℕ → Bool) (c : ℕ) (cs : List ℕ) → p c ≡ true → prefix_len p (c ∷ cs) ≡ suc (prefix_len p cs)
run_of p c cs h = rw h (one_plus (prefix_len p cs))

past_word : (c : ℕ) (cs : List ℕ) → is_letter c ≡ true → (m : ℕ) → suc (prefix_len is_word_byte cs) < m → m ≤ suc (length cs) → kind_of (take m (c ∷ cs)) ≡ None
past_word c cs letter zero above within = absurd (omega arith)
past_word c cs letter (suc m) above within = no_word_kind c (take m cs) letter (not_past_run is_word_byte cs m (omega arith) (omega arith))

past_number : (c : ℕ) (cs : List ℕ) → is_digit c ≡ true → (m : ℕ) → suc (prefix_len is_digit cs) < m → m ≤ suc (length cs) → kind_of (take m (c ∷ cs)) ≡ None
past_number c cs digit zero above within = absurd (omega arith)
past_number c cs digit (suc m) above within = no_number_kind c (take m cs) digit (not_past_run is_digit cs m (omega arith) (omega arith))

-- the run of bytes of words at a letter is a word
pub word_front : (text : List ℕ) → 0 < length text → is_letter (get_or text 0 0) ≡ true → has_form (take (prefix_len is_word_byte text) text) AnyWord ≡ true
word_front [] some letter = absurd (omega arith)
word_front (c ∷ cs) some letter = rw (run_of is_word_byte c cs (letter_word c letter)) (rw (letter, all_of_run is_word_byte cs) refl)

-- and it is the longest token there
pub word_longest : (text : List ℕ) (kind : TokenKind) → 0 < length text → is_letter (get_or text 0 0) ≡ true
    → kind_of (take (prefix_len is_word_byte text) text) ≡ Some kind → longest text ≡ Some (kind, prefix_len is_word_byte text)
word_longest [] kind some letter is = absurd (omega arith)
word_longest (c ∷ cs) kind some letter is =
    let run = run_of is_word_byte c cs (letter_word c letter) in
    let at : kind_of (take (suc (prefix_len is_word_byte cs)) (c ∷ cs)) ≡ Some kind = subst (λ (n : ℕ). kind_of (take n (c ∷ cs)) ≡ Some kind) run is in
    longest_is (c ∷ cs) (suc (prefix_len is_word_byte cs)) kind (omega arith) (omega (arith, prefix_len-le-length is_word_byte cs)) at (past_word c cs letter)
    ∙ ap (λ (n : ℕ). Some (kind, n)) (sym run)

-- the run of digits at a digit is the longest token there
pub number_longest : (text : List ℕ) → 0 < length text → is_digit (get_or text 0 0) ≡ true → longest text ≡ Some (Number, prefix_len is_digit text)
number_longest [] some digit = absurd (omega arith)
number_longest (c ∷ cs) some digit =
    longest_is (c ∷ cs) (suc (prefix_len is_digit cs)) Number (omega arith) (omega (arith, prefix_len-le-length is_digit cs))
    (number_kind c (take (prefix_len is_digit cs) cs) digit (all_of_run is_digit cs)) (past_number c cs digit)
    ∙ ap (λ (n : ℕ). Some (Number, n)) (sym (run_of is_digit c cs digit))

past_sign : (c d : ℕ) (cs : List ℕ) → is_letter c ≡ false → is_digit c ≡ false → (m : ℕ) → 2 < m → m ≤ suc (suc (length cs)) → kind_of (take m (c ∷ d ∷ cs)) ≡ None
past_sign c d cs letter digit zero above within = absurd (omega arith)
past_sign c d cs letter digit (suc zero) above within = absurd (omega arith)
past_sign c d cs letter digit (suc (suc m)) above within = no_sign_kind c (d ∷ take m cs) letter digit (omega (arith, length-take-le m cs (omega arith)))

-- a sign of two bytes is the longest token where it stands
pub double_longest : (text : List ℕ) (kind : TokenKind) → 1 < length text → is_letter (get_or text 0 0) ≡ false → is_digit (get_or text 0 0) ≡ false
    → kind_of (get_or text 0 0 ∷ get_or text 1 0 ∷ []) ≡ Some kind → longest text ≡ Some (kind, 2)
double_longest [] kind some letter digit is = absurd (omega arith)
double_longest (c ∷ []) kind some letter digit is = absurd (omega arith)
double_longest (c ∷ d ∷ cs) kind some letter digit is = longest_is (c ∷ d ∷ cs) 2 kind (omega arith) (omega arith) is (past_sign c d cs letter digit)

past_single : (c d : ℕ) (cs : List ℕ) → is_letter c ≡ false → is_digit c ≡ false → kind_of (c ∷ d ∷ []) ≡ None → (m : ℕ) → 1 < m → m ≤ suc (suc (length cs)) → kind_of (take m (c ∷ d ∷ cs)) ≡ None
past_single c d cs letter digit double zero above within = absurd (omega arith)
past_single c d cs letter digit double (suc zero) above within = absurd (omega arith)
past_single c d cs letter digit double (suc (suc zero)) above within = double
past_single c d cs letter digit double (suc (suc (suc m))) above within = past_sign c d cs letter digit (suc (suc (suc m))) (omega arith) within

-- a sign of one byte is the longest token where no sign of two bytes stands
pub single_longest : (text : List ℕ) (kind : TokenKind) → 0 < length text → is_letter (get_or text 0 0) ≡ false → is_digit (get_or text 0 0) ≡ false
    → (1 < length text → kind_of (get_or text 0 0 ∷ get_or text 1 0 ∷ []) ≡ None) → kind_of (get_or text 0 0 ∷ []) ≡ Some kind → longest text ≡ Some (kind, 1)
single_longest [] kind some letter digit double is = absurd (omega arith)
single_longest (c ∷ []) kind some letter digit double is = longest_is (c ∷ []) 1 kind (omega arith) (omega arith) is (λ m above within. absurd (omega arith))
single_longest (c ∷ d ∷ cs) kind some letter digit double is = longest_is (c ∷ d ∷ cs) 1 kind (omega arith) (omega arith) is (past_single c d cs letter digit (double (omega arith)))

first_none : (c : ℕ) (cs : List ℕ) → kind_of (c ∷ []) ≡ None → ((m : ℕ) → 1 < m → m ≤ suc (length cs) → kind_of (take m (c ∷ cs)) ≡ None)
    → (m : ℕ) → 0 < m → m ≤ suc (length cs) → kind_of (take m (c ∷ cs)) ≡ None
first_none c cs is longer zero above within = absurd (omega arith)
first_none c cs is longer (suc zero) above within = is
first_none c cs is longer (suc (suc m)) above within = longer (suc (suc m)) (omega arith) within

-- with neither, there is no token
pub none_longest : (text : List ℕ) → 0 < length text → is_letter (get_or text 0 0) ≡ false → is_digit (get_or text 0 0) ≡ false
    → (1 < length text → kind_of (get_or text 0 0 ∷ get_or text 1 0 ∷ []) ≡ None) → kind_of (get_or text 0 0 ∷ []) ≡ None → longest text ≡ None
none_longest [] some letter digit double is = absurd (omega arith)
none_longest (c ∷ []) some letter digit double is = longest_none (c ∷ []) (first_none c [] is (λ m above within. absurd (omega arith)))
none_longest (c ∷ d ∷ cs) some letter digit double is = longest_none (c ∷ d ∷ cs) (first_none c (d ∷ cs) is (past_single c d cs letter digit (double (omega arith))))
