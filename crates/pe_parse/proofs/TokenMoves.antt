-- What one token does to the frames that are open, and how parts that were read are joined.
use Rattle.std.proofs.Common.{◌≡◌, ℕ, ◌+◌, ◌<◌, ◌≤◌, suc, zero, List, [], ◌∷◌, ◌++◌, length, drop, Option, Some, None, Bool, true, false, not, cond, ◌&&◌, Ok, Err, refl, sym, ◌∙◌, ap, subst, append_assoc, arith}
use Rattle.std.specs.Prelude.{slice_get, nat_le, ◌==◌}
use Rattle.std.proofs.lemmas.Bool.Decides.{nat_tests}
use Rattle.pe_lex.specs.declared.token.TokenKind.{TokenKind}
use Rattle.pe_lex.specs.declared.token.TokenKind.TheVariants as kind
use Rattle.pe_parse.specs.declared.fault.ParseFault.{ParseFault}
use Rattle.pe_parse.specs.declared.fault.ParseFault.TheVariants.{Syntax, TooDeep, TooMany, Literal}
use Rattle.pe_parse.specs.Lexemes.{Lexeme, kind_in, kind_at, offset_in, offset_at}
use Rattle.pe_parse.specs.Frames.{Frame, Needs, Move, Takes, Skips, Refuses, move, moved, step, can_end, ends, nesting, is_counted, are_counted, kind_number}
use Rattle.pe_parse.specs.Faults.{is_too_large, passed_limit, or_fault, at_token, fault_from}
use Rattle.pe_parse.specs.Reading.{Behind, Went, IsFault, Stopped, Needed}

-- the token of a number, and those behind it
pub at_some : (xs : List Lexeme) (at : ℕ) (x : Lexeme) → slice_get xs at ≡ Some x → drop at xs ≡ x ∷ drop (suc at) xs
at_some [] at x h = absurd (cc)
at_some (y ∷ ys) zero x h = let e : y ≡ x = cc in cc
at_some (y ∷ ys) (suc at) x h = at_some ys at x h

pub at_none : (xs : List Lexeme) (at : ℕ) → slice_get xs at ≡ None → drop at xs ≡ []
at_none [] zero h = refl
at_none [] (suc at) h = refl
at_none (y ∷ ys) zero h = absurd (cc)
at_none (y ∷ ys) (suc at) h = at_none ys at h

pub at_within : (xs : List Lexeme) (at : ℕ) (x : Lexeme) → slice_get xs at ≡ Some x → at < length xs
at_within [] at x h = absurd (cc)
at_within (y ∷ ys) zero x h = omega arith
at_within (y ∷ ys) (suc at) x h = omega (arith, at_within ys at x h)

-- a token of a kind
pub record Stands (xs : List Lexeme) (at : ℕ) (k : TokenKind) : Type 0 where
  pub token : Lexeme
  pub is : slice_get xs at ≡ Some token
  pub kind : token.kind ≡ k

stands_in : (xs : List Lexeme) (at : ℕ) (k : TokenKind) (o : Option Lexeme) → slice_get xs at ≡ o → kind_in o ≡ Some k → Stands xs at k
stands_in xs at k None e h = absurd (cc)
stands_in xs at k (Some x) e h = record { token = x; is = e; kind = cc }

pub stands : (xs : List Lexeme) (at : ℕ) (k : TokenKind) → kind_at xs at ≡ Some k → Stands xs at k
stands xs at k h = stands_in xs at k (slice_get xs at) refl h

pub nesting-append : (fs gs : List Frame) → nesting (fs ++ gs) ≡ nesting fs + nesting gs
nesting-append [] gs = omega arith
nesting-append (f ∷ fs) gs = omega (arith, nesting-append fs gs)

and_both : (a b c : Bool) → a ≡ true → (b ≡ c) → (a && b) ≡ c
and_both a b c e h = rw e h

and_false : (a b : Bool) → b ≡ false → (a && b) ≡ false
and_false true b h = h
and_false false b h = refl

both : (a b : Bool) → (a && b) ≡ true → (a ≡ true) × (b ≡ true)
both true b h = (refl, h)
both false b h = absurd (cc)

pub counted-append : (fs gs : List Frame) → are_counted fs ≡ true → are_counted (fs ++ gs) ≡ are_counted gs
counted-append [] gs h = refl
counted-append (f ∷ fs) gs h = let parts = both (is_counted f) (are_counted fs) h in and_both _ _ _ parts.0 (counted-append fs gs parts.1)

and_assoc : (a b c : Bool) → ((a && b) && c) ≡ (a && (b && c))
and_assoc true b c = refl
and_assoc false b c = refl

uncounted-append : (fs gs : List Frame) → are_counted fs ≡ false → are_counted (fs ++ gs) ≡ false
uncounted-append [] gs h = absurd (cc)
uncounted-append (f ∷ fs) gs h = uncounted_step (is_counted f) (are_counted fs) (are_counted (fs ++ gs)) h (uncounted-append fs gs)
  where
    uncounted_step : (a b c : Bool) → (a && b) ≡ false → (b ≡ false → c ≡ false) → (a && c) ≡ false
    uncounted_step true b c h later = later h
    uncounted_step false b c h later = refl

-- what is open behind a part, with the frames of the part behind it
pub behind_more : (depth : ℕ) (es fs : List Frame) → nesting es + depth ≤ 64 → are_counted es ≡ true → Behind depth fs → Behind (nesting es + depth) (es ++ fs)
behind_more depth es fs fits counted behind =
    let nested = behind.nested in
    record { nested = omega (arith, nesting-append es fs); limited = fits; counted = counted-append es fs counted ∙ behind.counted }

takes : (size : ℕ) (xs : List Lexeme) (at : ℕ) (x : Lexeme) (f : Frame) (g fs : List Frame) (o : Option ParseFault) → slice_get xs at ≡ Some x → move f x.kind ≡ Takes g → passed_limit (g ++ fs) x ≡ o
    → fault_from size (f ∷ fs) (drop at xs) ≡ or_fault o (fault_from size (g ++ fs) (drop (suc at) xs))
takes size xs at x f g fs o is takes_g limit =
    ap (fault_from size (f ∷ fs)) (at_some xs at x is)
    ∙ ap (λ (m : Move). at_token (moved m fs (step fs x.kind)) x (λ gs. fault_from size gs (drop (suc at) xs))) takes_g
    ∙ ap (λ (o : Option ParseFault). or_fault o (fault_from size (g ++ fs) (drop (suc at) xs))) limit

limit_none : (gs : List Frame) (x : Lexeme) → nesting gs ≤ 64 → are_counted gs ≡ true → is_too_large x.kind x.bytes ≡ false → passed_limit gs x ≡ None
limit_none gs x deep counted small = let fits : nat_le (nesting gs) 64 ≡ true = grind (arith, nat_tests) in rw (fits, counted, small) refl

limit_literal : (gs : List Frame) (x : Lexeme) → nesting gs ≤ 64 → are_counted gs ≡ true → is_too_large x.kind x.bytes ≡ true → passed_limit gs x ≡ Some (Literal x.at)
limit_literal gs x deep counted large = let fits : nat_le (nesting gs) 64 ≡ true = grind (arith, nat_tests) in rw (fits, counted, large) refl

limit_many : (gs : List Frame) (x : Lexeme) → nesting gs ≤ 64 → are_counted gs ≡ false → passed_limit gs x ≡ Some (TooMany x.at)
limit_many gs x deep counted = let fits : nat_le (nesting gs) 64 ≡ true = grind (arith, nat_tests) in rw (fits, counted) refl

limit_deep : (gs : List Frame) (x : Lexeme) → 64 < nesting gs → passed_limit gs x ≡ Some (TooDeep x.at)
limit_deep gs x deep = let over : nat_le (nesting gs) 64 ≡ false = grind (arith, nat_tests) in rw over refl

next_is : (n : ℕ) → suc n ≡ n + 1
next_is n = omega arith

-- a token is taken, and what follows is read from the frames that it leaves
took_on : (size : ℕ) (xs : List Lexeme) (f : Frame) (g : List Frame) (k : TokenKind) (depth at : ℕ) (fs : List Frame) (st : Stands xs at k) → move f k ≡ Takes g → nesting g + depth ≤ 64 → are_counted g ≡ true
    → is_too_large k st.token.bytes ≡ false → Behind depth fs → fault_from size (f ∷ fs) (drop at xs) ≡ fault_from size (g ++ fs) (drop (at + 1) xs)
took_on size xs f g k depth at fs st takes_g fits counted small behind =
    let nested = behind.nested in
    takes size xs at st.token f g fs None st.is (ap (move f) st.kind ∙ takes_g)
    (limit_none (g ++ fs) st.token (omega (arith, nesting-append g fs)) (counted-append g fs counted ∙ behind.counted) (ap (λ (k : TokenKind). is_too_large k st.token.bytes) st.kind ∙ small))
    ∙ ap (λ (n : ℕ). fault_from size (g ++ fs) (drop n xs)) (next_is at)

pub took : (size : ℕ) (xs : List Lexeme) (f : Frame) (g left : List Frame) (k : TokenKind) (depth at next : ℕ) (st : Stands xs at k) → move f k ≡ Takes g → nesting g + depth ≤ 64 → are_counted g ≡ true
    → is_too_large k st.token.bytes ≡ false → Went size xs g left depth (at + 1) next → Went size xs (f ∷ []) left depth at next
took size xs f g left k depth at next st takes_g fits counted small went =
    let forward = went.forward in
    record { forward = omega arith; within = went.within; on = λ fs behind. took_on size xs f g k depth at fs st takes_g fits counted small behind ∙ went.on fs behind }

-- and what stops there stops here
pub took_stop : (size : ℕ) (xs : List Lexeme) (f : Frame) (g : List Frame) (k : TokenKind) (depth at : ℕ) (fault : ParseFault) (st : Stands xs at k) → move f k ≡ Takes g → nesting g + depth ≤ 64 → are_counted g ≡ true
    → is_too_large k st.token.bytes ≡ false → Stopped size xs g depth (at + 1) fault → Stopped size xs (f ∷ []) depth at fault
took_stop size xs f g k depth at fault st takes_g fits counted small stop =
    λ fs behind. subst (λ (o : Option ParseFault). IsFault o fault) (sym (took_on size xs f g k depth at fs st takes_g fits counted small behind)) (stop fs behind)

-- nothing more is read from frames that are left
pub went_here : (size : ℕ) (xs : List Lexeme) (frames : List Frame) (depth at : ℕ) → at ≤ length xs → Went size xs frames frames depth at at
went_here size xs frames depth at within = record { forward = omega arith; within = within; on = λ fs behind. refl }

offset_is : (size : ℕ) (xs : List Lexeme) (at : ℕ) (x : Lexeme) → slice_get xs at ≡ Some x → x.at ≡ offset_at size xs at
offset_is size xs at x h = sym (ap (offset_in size) h)

-- a token passes the nesting
pub too_deep : (size : ℕ) (xs : List Lexeme) (f : Frame) (g : List Frame) (k : TokenKind) (depth at : ℕ) (st : Stands xs at k) → move f k ≡ Takes g → 64 < nesting g + depth
    → Stopped size xs (f ∷ []) depth at (TooDeep (offset_at size xs at))
too_deep size xs f g k depth at st takes_g deep = λ fs behind.
    let nested = behind.nested in
    takes size xs at st.token f g fs (Some (TooDeep st.token.at)) st.is (ap (move f) st.kind ∙ takes_g) (limit_deep (g ++ fs) st.token (omega (arith, nesting-append g fs)))
    ∙ ap (λ (n : ℕ). Some (TooDeep n)) (offset_is size xs at st.token st.is)

-- a sign or a comma passes the count
pub too_many : (size : ℕ) (xs : List Lexeme) (f : Frame) (g : List Frame) (k : TokenKind) (depth at : ℕ) (st : Stands xs at k) → move f k ≡ Takes g → nesting g + depth ≤ 64 → are_counted g ≡ false
    → Stopped size xs (f ∷ []) depth at (TooMany (offset_at size xs at))
too_many size xs f g k depth at st takes_g fits counted = λ fs behind.
    let nested = behind.nested in
    takes size xs at st.token f g fs (Some (TooMany st.token.at)) st.is (ap (move f) st.kind ∙ takes_g)
    (limit_many (g ++ fs) st.token (omega (arith, nesting-append g fs)) (uncounted-append g fs counted))
    ∙ ap (λ (n : ℕ). Some (TooMany n)) (offset_is size xs at st.token st.is)

-- a number is too large
pub too_large : (size : ℕ) (xs : List Lexeme) (f : Frame) (g : List Frame) (k : TokenKind) (depth at : ℕ) (st : Stands xs at k) → move f k ≡ Takes g → nesting g + depth ≤ 64 → are_counted g ≡ true
    → is_too_large k st.token.bytes ≡ true → Stopped size xs (f ∷ []) depth at (Literal (offset_at size xs at))
too_large size xs f g k depth at st takes_g fits counted large = λ fs behind.
    let nested = behind.nested in
    takes size xs at st.token f g fs (Some (Literal st.token.at)) st.is (ap (move f) st.kind ∙ takes_g)
    (limit_literal (g ++ fs) st.token (omega (arith, nesting-append g fs)) (counted-append g fs counted ∙ behind.counted) (ap (λ (k : TokenKind). is_too_large k st.token.bytes) st.kind ∙ large))
    ∙ ap (λ (n : ℕ). Some (Literal n)) (offset_is size xs at st.token st.is)

-- what a frame does with a token or the end
abbrev pub is_skip : Move → Bool
is_skip Skips = true
is_skip _ = false

abbrev pub is_refuse : Move → Bool
is_refuse Refuses = true
is_refuse _ = false

abbrev pub skips : Frame → Option TokenKind → Bool
skips f None = can_end f
skips f (Some k) = is_skip (move f k)

abbrev pub refuses : Frame → Option TokenKind → Bool
refuses f None = not (can_end f)
refuses f (Some k) = is_refuse (move f k)

pub skip_is : (m : Move) → is_skip m ≡ true → m ≡ Skips
skip_is Skips h = refl
skip_is (Takes g) h = absurd (cc)
skip_is Refuses h = absurd (cc)

refuse_is : (m : Move) → is_refuse m ≡ true → m ≡ Refuses
refuse_is Refuses h = refl
refuse_is (Takes g) h = absurd (cc)
refuse_is Skips h = absurd (cc)

skipped_on : (size : ℕ) (xs : List Lexeme) (f : Frame) (at : ℕ) (fs : List Frame) (o : Option Lexeme) → slice_get xs at ≡ o → skips f (kind_in o) ≡ true → fault_from size (f ∷ fs) (drop at xs) ≡ fault_from size fs (drop at xs)
skipped_on size xs f at fs None e h =
    ap (fault_from size (f ∷ fs)) (at_none xs at e) ∙ ap (λ (b : Bool). cond (b && ends fs) None (Some (Syntax size))) h ∙ ap (fault_from size fs) (sym (at_none xs at e))
skipped_on size xs f at fs (Some x) e h =
    ap (fault_from size (f ∷ fs)) (at_some xs at x e)
    ∙ ap (λ (m : Move). at_token (moved m fs (step fs x.kind)) x (λ gs. fault_from size gs (drop (suc at) xs))) (skip_is (move f x.kind) h)
    ∙ ap (fault_from size fs) (sym (at_some xs at x e))

-- nothing comes of a frame
pub skipped : (size : ℕ) (xs : List Lexeme) (f : Frame) (depth at : ℕ) → at ≤ length xs → skips f (kind_at xs at) ≡ true → Went size xs (f ∷ []) [] depth at at
skipped size xs f depth at within h = record { forward = omega arith; within = within; on = λ fs behind. skipped_on size xs f at fs (slice_get xs at) refl h }

not_is : (b : Bool) → not b ≡ true → b ≡ false
not_is true h = absurd (cc)
not_is false h = refl

refused_on : (size : ℕ) (xs : List Lexeme) (f : Frame) (at : ℕ) (fs : List Frame) (o : Option Lexeme) → slice_get xs at ≡ o → refuses f (kind_in o) ≡ true → fault_from size (f ∷ fs) (drop at xs) ≡ Some (Syntax (offset_in size o))
refused_on size xs f at fs None e h =
    ap (fault_from size (f ∷ fs)) (at_none xs at e) ∙ ap (λ (b : Bool). cond (b && ends fs) None (Some (Syntax size))) (not_is (can_end f) h)
refused_on size xs f at fs (Some x) e h =
    ap (fault_from size (f ∷ fs)) (at_some xs at x e)
    ∙ ap (λ (m : Move). at_token (moved m fs (step fs x.kind)) x (λ gs. fault_from size gs (drop (suc at) xs))) (refuse_is (move f x.kind) h)

-- a token that may not come, or the end before one that must
pub refused : (size : ℕ) (xs : List Lexeme) (f : Frame) (depth at : ℕ) → refuses f (kind_at xs at) ≡ true → Stopped size xs (f ∷ []) depth at (Syntax (offset_at size xs at))
refused size xs f depth at h = λ fs behind. refused_on size xs f at fs (slice_get xs at) refl h

-- one part after another
pub went_trans : (size : ℕ) (xs : List Lexeme) (f g h : List Frame) (depth at mid next : ℕ) → Went size xs f g depth at mid → Went size xs g h depth mid next → Went size xs f h depth at next
went_trans size xs f g h depth at mid next a b =
    let first = a.forward in let second = b.forward in
    record { forward = omega arith; within = b.within; on = λ fs behind. a.on fs behind ∙ b.on fs behind }

pub stop_after : (size : ℕ) (xs : List Lexeme) (f g : List Frame) (depth at mid : ℕ) (fault : ParseFault) → Went size xs f g depth at mid → Stopped size xs g depth mid fault → Stopped size xs f depth at fault
stop_after size xs f g depth at mid fault a stop = λ fs behind. subst (λ (o : Option ParseFault). IsFault o fault) (sym (a.on fs behind)) (stop fs behind)

-- a part, with frames behind it that stay
pub went_frame : (size : ℕ) (xs : List Lexeme) (f g es : List Frame) (depth at next : ℕ) → nesting es + depth ≤ 64 → are_counted es ≡ true → Went size xs f g (nesting es + depth) at next → Went size xs (f ++ es) (g ++ es) depth at next
went_frame size xs f g es depth at next fits counted went = record {
  forward = went.forward;
  within = went.within;
  on = λ fs behind.
      ap (λ (fr : List Frame). fault_from size fr (drop at xs)) (append_assoc f es fs)
      ∙ went.on (es ++ fs) (behind_more depth es fs fits counted behind)
      ∙ ap (λ (fr : List Frame). fault_from size fr (drop next xs)) (sym (append_assoc g es fs));
}

pub stop_frame : (size : ℕ) (xs : List Lexeme) (f es : List Frame) (depth at : ℕ) (fault : ParseFault) → nesting es + depth ≤ 64 → are_counted es ≡ true → Stopped size xs f (nesting es + depth) at fault → Stopped size xs (f ++ es) depth at fault
stop_frame size xs f es depth at fault fits counted stop = λ fs behind.
    subst (λ (fr : List Frame). IsFault (fault_from size fr (drop at xs)) fault) (sym (append_assoc f es fs)) (stop (es ++ fs) (behind_more depth es fs fits counted behind))

-- the same, with frames that nest nothing
pub went_beside : (size : ℕ) (xs : List Lexeme) (f g es : List Frame) (depth at next : ℕ) → nesting es ≡ 0 → depth ≤ 64 → are_counted es ≡ true → Went size xs f g depth at next → Went size xs (f ++ es) (g ++ es) depth at next
went_beside size xs f g es depth at next flat limited counted went =
    let same : depth ≡ nesting es + depth = omega arith in
    went_frame size xs f g es depth at next (omega arith) counted (subst (λ (d : ℕ). Went size xs f g d at next) same went)

pub stop_beside : (size : ℕ) (xs : List Lexeme) (f es : List Frame) (depth at : ℕ) (fault : ParseFault) → nesting es ≡ 0 → depth ≤ 64 → are_counted es ≡ true → Stopped size xs f depth at fault → Stopped size xs (f ++ es) depth at fault
stop_beside size xs f es depth at fault flat limited counted stop =
    let same : depth ≡ nesting es + depth = omega arith in
    stop_frame size xs f es depth at fault (omega arith) counted (subst (λ (d : ℕ). Stopped size xs f d at fault) same stop)

kinds : List TokenKind
kinds =
    kind.Word ∷ kind.Number ∷ kind.If ∷ kind.Else ∷ kind.Refine ∷ kind.Erase ∷ kind.Print ∷ kind.Min ∷ kind.Max ∷ kind.Abs ∷ kind.Assign ∷ kind.Equal ∷ kind.NotEqual ∷ kind.Not
    ∷ kind.Less ∷ kind.LessOrEqual ∷ kind.Greater ∷ kind.GreaterOrEqual ∷ kind.Plus ∷ kind.Minus ∷ kind.Star ∷ kind.Slash ∷ kind.Percent ∷ kind.And ∷ kind.Or
    ∷ kind.OpenRound ∷ kind.CloseRound ∷ kind.OpenCurly ∷ kind.CloseCurly ∷ kind.Comma ∷ kind.Semicolon ∷ kind.Dot ∷ []

kind_found : (k : TokenKind) → slice_get kinds (kind_number k) ≡ Some k
unfolding kinds
kind_found kind.Word = refl
kind_found _ = refl

-- kinds of one number are one
pub kind_same : (a b : TokenKind) → kind_number a ≡ kind_number b → a ≡ b
kind_same a b h = let e : Some a ≡ Some b = sym (kind_found a) ∙ ap (slice_get kinds) h ∙ kind_found b in cc

pub kind_self : (k : TokenKind) → (kind_number k == kind_number k) ≡ true
kind_self k = grind (arith, nat_tests)

kind_other : (a b : TokenKind) (e : Bool) → (kind_number a == kind_number b) ≡ e → (a ≡ b → ⊥) → e ≡ false
kind_other a b true h differ = let same : kind_number a ≡ kind_number b = grind (arith, nat_tests) in absurd (differ (kind_same a b same))
kind_other a b false h differ = refl

pub needs_takes : (k : TokenKind) → move (Needs k) k ≡ Takes []
needs_takes k = ap (λ (b : Bool). cond b (Takes []) Refuses) (kind_self k)

-- a token that had to come
pub needed : (size : ℕ) (xs : List Lexeme) (k : TokenKind) (depth at next : ℕ) → ((bytes : List ℕ) → is_too_large k bytes ≡ false) → depth ≤ 64 → Needed size xs k at (Ok next) → Went size xs (Needs k ∷ []) [] depth at next
needed size xs k depth at next small limited h =
    let st = stands xs at k h.1 in
    let moved_on = h.0 in
    let inside = at_within xs at st.token st.is in
    subst (λ (n : ℕ). Went size xs (Needs k ∷ []) [] depth at n) (sym moved_on)
    (took size xs (Needs k) [] [] k depth at (at + 1) st (needs_takes k) (omega arith) refl (small st.token.bytes) (went_here size xs [] depth (at + 1) (omega arith)))

refuses_other : (k : TokenKind) (o : Option TokenKind) → (o ≡ Some k → ⊥) → refuses (Needs k) o ≡ true
refuses_other k None differ = refl
refuses_other k (Some t) differ =
    let e : (kind_number k == kind_number t) ≡ false = kind_other k t _ refl (λ same. differ (ap (λ (k : TokenKind). Some k) (sym same))) in
    ap (λ (b : Bool). is_refuse (cond b (Takes []) Refuses)) e

-- and one that did not
pub missing : (size : ℕ) (xs : List Lexeme) (k : TokenKind) (depth at : ℕ) (fault : ParseFault) → Needed size xs k at (Err fault) → Stopped size xs (Needs k ∷ []) depth at fault
missing size xs k depth at fault h =
    subst (λ (f : ParseFault). Stopped size xs (Needs k ∷ []) depth at f) (sym h.0) (refused size xs (Needs k) depth at (refuses_other k (kind_at xs at) h.1))
