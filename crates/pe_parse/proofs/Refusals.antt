-- Where a token is refused, no body begins with the tokens up to and including it.
use Rattle.std.proofs.Common.{slice_get, subst, zero, ◌≡◌, ℕ, ◌<◌, ◌≤◌, suc, List, [], ◌∷◌, ◌++◌, length, take, Option, Some, None, Bool, true, false, cond, refl, sym, ◌∙◌, ap, arith}
use Rattle.std.specs.Prelude.{nat_le}
use Rattle.pe_parse.specs.declared.fault.ParseFault.{ParseFault}
use Rattle.pe_parse.specs.declared.fault.ParseFault.TheVariants.{Syntax, TooDeep, TooMany, Literal, Memory}
use Rattle.pe_parse.specs.Lexemes.{Lexeme, offset_at}
use Rattle.pe_parse.specs.Frames.{Frame, Sequence, step, ends, nesting, are_counted}
use Rattle.pe_parse.specs.Faults.{is_too_large, passed_limit, or_fault, at_token, fault_from}
use Rattle.pe_parse.specs.Reading.{IsFault}
use Rattle.pe_parse.specs.Bodies.{NoBody, Passed, Refused, WithinLimits, open_next, open_after}
use Rattle.pe_parse.proofs.Completes.{begins_body}
use Rattle.pe_parse.proofs.Accepts.{accepts, on_step, body_accepted}

-- a token that may not come, or an end that comes too early
record Stuck (size : ℕ) (fs : List Frame) (xs : List Lexeme) (at : ℕ) : Type 0 where
  number : ℕ
  within : number ≤ length xs
  is : at ≡ offset_at size xs number
  refused : number < length xs → (more : List Lexeme) → accepts fs (take (suc number) xs ++ more) ≡ false
  whole : accepts fs xs ≡ false
  before : WithinLimits fs xs number
  frames : List Frame
  opens : open_after fs (take number xs) ≡ Some frames

end_stuck : (size : ℕ) (fs : List Frame) (at : ℕ) (b : Bool) → ends fs ≡ b → cond b None (Some (Syntax size)) ≡ Some (Syntax at) → Stuck size fs [] at
end_stuck size fs at true e h = absurd (cc)
end_stuck size fs at false e h = let same : size ≡ at = cc in record { number = 0; within = omega arith; is = sym same; refused = λ over. absurd (omega arith); whole = e; before = λ k below. absurd (omega arith); frames = fs; opens = refl }

no_syntax_limit : (fs : List Frame) (x : Lexeme) (at : ℕ) (a b c : Bool) → cond a (cond b (cond c (Some (Literal x.at)) None) (Some (TooMany x.at))) (Some (TooDeep x.at)) ≡ Some (Syntax at) → ⊥
no_syntax_limit fs x at true true true h = cc
no_syntax_limit fs x at true true false h = cc
no_syntax_limit fs x at true false c h = cc
no_syntax_limit fs x at false b c h = cc

later_fault : (o later : Option ParseFault) (at : ℕ) → (o ≡ Some (Syntax at) → ⊥) → or_fault o later ≡ Some (Syntax at) → later ≡ Some (Syntax at)
later_fault (Some f) later at no_limit h = absurd (no_limit h)
later_fault None later at no_limit h = h

no_limit : (o later : Option ParseFault) (at : ℕ) → (o ≡ Some (Syntax at) → ⊥) → or_fault o later ≡ Some (Syntax at) → o ≡ None
no_limit (Some f) later at never h = absurd (never h)
no_limit None later at never h = refl

some_same : {A : Type 0} {a b : A} → Some a ≡ Some b → a ≡ b
some_same h = cc

-- one token more before those that pass no limit
more_within : (fs gs : List Frame) (x : Lexeme) (xs : List Lexeme) (n : ℕ) → step fs x.kind ≡ Some gs → passed_limit gs x ≡ None → WithinLimits gs xs n → WithinLimits fs (x ∷ xs) (suc n)
more_within fs gs x xs n opens none_ later zero below hs y is h =
    let first : gs ≡ hs = some_same (sym (ap (λ (o : Option (List Frame)). open_next o (λ gs. Some gs)) opens) ∙ h) in
    let same : x ≡ y = some_same is in
    subst (λ (fs : List Frame). passed_limit fs y ≡ None) first (subst (λ (z : Lexeme). passed_limit gs z ≡ None) same none_)
more_within fs gs x xs n opens none_ later (suc k) below hs y is h =
    later k (omega arith) hs y is (sym (ap (λ (o : Option (List Frame)). open_next o (λ gs. open_after gs (take (suc k) xs))) opens) ∙ h)

more_stuck : (size : ℕ) (fs gs : List Frame) (x : Lexeme) (xs : List Lexeme) (at : ℕ) → step fs x.kind ≡ Some gs → passed_limit gs x ≡ None → Stuck size gs xs at → Stuck size fs (x ∷ xs) at
more_stuck size fs gs x xs at opens none_ stuck =
    let inside = stuck.within in
    let on : (w : List Lexeme) → accepts fs (x ∷ w) ≡ accepts gs w = λ w. ap (λ (o : Option (List Frame)). on_step o (λ hs. accepts hs w)) opens in
    record {
      number = suc stuck.number;
      within = omega arith;
      is = stuck.is;
      refused = λ over more. on (take (suc stuck.number) xs ++ more) ∙ stuck.refused (omega arith) more;
      whole = on xs ∙ stuck.whole;
      before = more_within fs gs x xs stuck.number opens none_ stuck.before;
      frames = stuck.frames;
      opens = ap (λ (o : Option (List Frame)). open_next o (λ gs. open_after gs (take stuck.number xs))) opens ∙ stuck.opens;
    }

stuck_step : (size : ℕ) (fs : List Frame) (x : Lexeme) (xs : List Lexeme) (at : ℕ) (o : Option (List Frame)) → step fs x.kind ≡ o → ((gs : List Frame) → fault_from size gs xs ≡ Some (Syntax at) → Stuck size gs xs at)
    → at_token o x (λ gs. fault_from size gs xs) ≡ Some (Syntax at) → Stuck size fs (x ∷ xs) at
stuck_step size fs x xs at None opens later h =
    let same : x.at ≡ at = cc in
    record {
      number = 0;
      within = omega arith;
      is = sym same;
      refused = λ over more. ap (λ (o : Option (List Frame)). on_step o (λ hs. accepts hs more)) opens;
      whole = ap (λ (o : Option (List Frame)). on_step o (λ hs. accepts hs xs)) opens;
      before = λ k below. absurd (omega arith);
      frames = fs;
      opens = refl;
    }
stuck_step size fs x xs at (Some gs) opens later h =
    let none_ = no_limit (passed_limit gs x) (fault_from size gs xs) at (no_syntax_limit gs x at (nat_le (nesting gs) 64) (are_counted gs) (is_too_large x.kind x.bytes)) h in
    more_stuck size fs gs x xs at opens none_ (later gs (later_fault (passed_limit gs x) (fault_from size gs xs) at
    (no_syntax_limit gs x at (nat_le (nesting gs) 64) (are_counted gs) (is_too_large x.kind x.bytes)) h))

stuck_at : (size : ℕ) (fs : List Frame) (xs : List Lexeme) (at : ℕ) → fault_from size fs xs ≡ Some (Syntax at) → Stuck size fs xs at
stuck_at size fs [] at h = end_stuck size fs at (ends fs) refl h
stuck_at size fs (x ∷ xs) at h = stuck_step size fs x xs at (step fs x.kind) refl (λ gs. stuck_at size gs xs at) h

differ : {b : Bool} → b ≡ false → b ≡ true → ⊥
differ h k = cc

-- where Syntax is the first fault, no body begins with the tokens up to and including that one
pub no_body : (size : ℕ) (xs : List Lexeme) (at : ℕ) → fault_from size (Sequence ∷ []) xs ≡ Some (Syntax at) → NoBody size xs at
no_body size xs at h =
    let stuck = stuck_at size (Sequence ∷ []) xs at h in
    record {
      number = stuck.number;
      within = stuck.within;
      is = stuck.is;
      before = stuck.before;
      begins = begins_body stuck.frames (take stuck.number xs) stuck.opens;
      none_begins = λ over begins. differ (stuck.refused over begins.more) (body_accepted begins.body (take (suc stuck.number) xs ++ begins.more) begins.spelled);
      none = λ body spelled. differ stuck.whole (body_accepted body xs spelled);
    }

-- the first token that passes a limit
record Over (fs : List Frame) (xs : List Lexeme) (fault : ParseFault) : Type 0 where
  number : ℕ
  token : Lexeme
  is : slice_get xs number ≡ Some token
  before : WithinLimits fs xs number
  frames : List Frame
  opens : open_after fs (take (suc number) xs) ≡ Some frames
  passes : passed_limit frames token ≡ Some fault

end_over : (fs : List Frame) (size : ℕ) (fault : ParseFault) (b : Bool) → ((at : ℕ) → fault ≡ Syntax at → ⊥) → cond b None (Some (Syntax size)) ≡ Some fault → Over fs [] fault
end_over fs size fault true never h = absurd (cc)
end_over fs size fault false never h = let same : fault ≡ Syntax size = cc in absurd (never size same)

here_or_later : (size : ℕ) (fs gs : List Frame) (x : Lexeme) (xs : List Lexeme) (fault : ParseFault) (o : Option ParseFault) → step fs x.kind ≡ Some gs → passed_limit gs x ≡ o → (fault_from size gs xs ≡ Some fault → Over gs xs fault)
    → or_fault o (fault_from size gs xs) ≡ Some fault → Over fs (x ∷ xs) fault
here_or_later size fs gs x xs fault (Some f) opens limit later h =
    let same : f ≡ fault = cc in
    record { number = 0; token = x; is = refl; before = λ k below. absurd (omega arith); frames = gs; opens = ap (λ (o : Option (List Frame)). open_next o (λ gs. Some gs)) opens; passes = limit ∙ ap (λ (f : ParseFault). Some f) same }
here_or_later size fs gs x xs fault None opens limit later h =
    let over = later h in
    record {
      number = suc over.number;
      token = over.token;
      is = over.is;
      before = more_within fs gs x xs over.number opens limit over.before;
      frames = over.frames;
      opens = ap (λ (o : Option (List Frame)). open_next o (λ gs. open_after gs (take (suc over.number) xs))) opens ∙ over.opens;
      passes = over.passes;
    }

over_step : (size : ℕ) (fs : List Frame) (x : Lexeme) (xs : List Lexeme) (fault : ParseFault) (o : Option (List Frame)) → ((at : ℕ) → fault ≡ Syntax at → ⊥) → step fs x.kind ≡ o
    → ((gs : List Frame) → fault_from size gs xs ≡ Some fault → Over gs xs fault) → at_token o x (λ gs. fault_from size gs xs) ≡ Some fault → Over fs (x ∷ xs) fault
over_step size fs x xs fault None never opens later h = let same : fault ≡ Syntax x.at = cc in absurd (never x.at same)
over_step size fs x xs fault (Some gs) never opens later h = here_or_later size fs gs x xs fault (passed_limit gs x) opens refl (later gs) h

over_at : (size : ℕ) (fs : List Frame) (xs : List Lexeme) (fault : ParseFault) → ((at : ℕ) → fault ≡ Syntax at → ⊥) → fault_from size fs xs ≡ Some fault → Over fs xs fault
over_at size fs [] fault never h = end_over fs size fault (ends fs) never h
over_at size fs (x ∷ xs) fault never h = over_step size fs x xs fault (step fs x.kind) never refl (λ gs later. over_at size gs xs fault never later) h

passed : (size : ℕ) (xs : List Lexeme) (fault : ParseFault) → ((at : ℕ) → fault ≡ Syntax at → ⊥) → fault_from size (Sequence ∷ []) xs ≡ Some fault → Passed xs fault
passed size xs fault never h =
    let over = over_at size (Sequence ∷ []) xs fault never h in
    record { number = over.number; token = over.token; is = over.is; before = over.before; begins = begins_body over.frames (take (suc over.number) xs) over.opens; open_ = over.frames; opens = over.opens; passes = over.passes }

-- each fault is what it says
pub refused_for : (size : ℕ) (xs : List Lexeme) (fault : ParseFault) → IsFault (fault_from size (Sequence ∷ []) xs) fault → Refused size xs fault
refused_for size xs (Syntax at) h = no_body size xs at h
refused_for size xs (TooDeep at) h = passed size xs (TooDeep at) (λ n e. cc) h
refused_for size xs (TooMany at) h = passed size xs (TooMany at) (λ n e. cc) h
refused_for size xs (Literal at) h = passed size xs (Literal at) (λ n e. cc) h
refused_for size xs Memory h = tt
