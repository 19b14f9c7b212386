-- Chains, read link by link.
use Rattle.std.proofs.Common.{◌≡◌, ◌≢◌, ℕ, ◌+◌, ◌<◌, ◌≤◌, List, [], ◌∷◌, ◌++◌, length, Option, Some, None, Bool, true, false, cond, ◌&&◌, Ok, refl, sym, ◌∙◌, ap, subst, append_assoc, append-nil, length-append, arith}
use Rattle.std.specs.Prelude.{nat_le}
use Rattle.std.proofs.lemmas.Bool.Decides.{nat_tests}
use Rattle.pe_lex.specs.declared.token.TokenKind.{TokenKind}
use Rattle.pe_lex.specs.declared.token.TokenKind.TheVariants as kind
use Rattle.pe_parse.specs.declared.fault.ParseFault.{ParseFault}
use Rattle.pe_parse.specs.declared.fault.ParseFault.TheVariants.{TooMany}
use Rattle.pe_parse.specs.declared.rank.Rank.{Rank}
use Rattle.pe_parse.specs.declared.rank.Rank.TheVariants.{Disjunction, Conjunction, Comparison, Sum, Product}
use Rattle.pe_parse.specs.declared.tree.Sign.{Sign}
use Rattle.pe_parse.specs.declared.tree.Expr.{Expr}
use Rattle.pe_parse.specs.declared.tree.Expr.TheVariants as expr
use Rattle.pe_parse.specs.Lexemes.{Lexeme, kind_at, offset_at}
use Rattle.pe_parse.specs.Grammar.{Spells, Chained, Linked, single, chain, linked, linked_none, MayFollow, operand_of, rank_of, sign_of}
use Rattle.pe_parse.specs.Frames.{Frame, Links, Takes, move, link_move, sign_if, same_rank, more_links, operand_frames, chain_frames, nesting, are_counted}
use Rattle.pe_parse.specs.Faults.{is_too_large}
use Rattle.pe_parse.specs.Reading.{piece, sign_among, sign_at, Went, Stopped, ReadsAs}
use Rattle.pe_parse.proofs.TokenMoves.{stands, nesting-append, counted-append, took, took_stop, too_many, skips, is_skip, skipped, went_trans, went_beside, stop_after, stop_beside}
use Rattle.pe_parse.proofs.Pieces.{piece_cons, piece_empty, piece_join}

-- a token that is a sign of a rank
record SignHere (xs : List Lexeme) (at : ℕ) (r : Rank) (s : Sign) : Type 0 where
  kind : TokenKind
  stands : kind_at xs at ≡ Some kind
  is : sign_of kind ≡ Some s
  rank : rank_of s ≡ r

same_rank_is : (a b : Rank) → same_rank a b ≡ true → b ≡ a
same_rank_is Disjunction Disjunction h = refl
same_rank_is Conjunction Conjunction h = refl
same_rank_is Comparison Comparison h = refl
same_rank_is Sum Sum h = refl
same_rank_is Product Product h = refl
same_rank_is _ _ h = absurd (cc)

sign_if_is : (r : Rank) (s t : Sign) (b : Bool) → same_rank r (rank_of t) ≡ b → (cond b (Some t) None) ≡ Some s → (t ≡ s) × (rank_of s ≡ r)
sign_if_is r s t true e h = let same : t ≡ s = cc in (same, ap rank_of (sym same) ∙ same_rank_is r (rank_of t) e)
sign_if_is r s t false e h = absurd (cc)

sign_here_in : (xs : List Lexeme) (at : ℕ) (r : Rank) (s : Sign) (k : TokenKind) (o : Option Sign) → kind_at xs at ≡ Some k → sign_of k ≡ o → sign_if r o ≡ Some s → SignHere xs at r s
sign_here_in xs at r s k None e f h = absurd (cc)
sign_here_in xs at r s k (Some t) e f h =
    let parts = sign_if_is r s t (same_rank r (rank_of t)) refl h in
    record { kind = k; stands = e; is = f ∙ ap (λ (t : Sign). Some t) parts.0; rank = parts.1 }

sign_here_at : (xs : List Lexeme) (at : ℕ) (r : Rank) (s : Sign) (o : Option TokenKind) → kind_at xs at ≡ o → sign_among r o ≡ Some s → SignHere xs at r s
sign_here_at xs at r s None e h = absurd (cc)
sign_here_at xs at r s (Some k) e h = sign_here_in xs at r s k (sign_of k) e refl h

sign_here : (xs : List Lexeme) (at : ℕ) (r : Rank) (s : Sign) → sign_at r xs at ≡ Some s → SignHere xs at r s
sign_here xs at r s h = sign_here_at xs at r s (kind_at xs at) refl h

sign_none : (r : Rank) (n : ℕ) (o : Option TokenKind) → sign_among r o ≡ None → skips (Links r n) o ≡ true
sign_none r n None h = refl
sign_none r n (Some k) h = ap (λ (o : Option Sign). is_skip (link_move r n o)) h

rank_self : (r : Rank) → same_rank r r ≡ true
rank_self Disjunction = refl
rank_self _ = refl

link_takes : (xs : List Lexeme) (at : ℕ) (r : Rank) (s : Sign) (n : ℕ) (h : SignHere xs at r s) → move (Links r n) h.kind ≡ Takes (operand_frames r ++ more_links r n)
link_takes xs at r s n h =
    ap (λ (o : Option Sign). link_move r n (sign_if r o)) h.is
    ∙ ap (λ (b : Bool). link_move r n (cond b (Some s) None)) (ap (same_rank r) h.rank ∙ rank_self r)

sign_small : (k : TokenKind) (s : Sign) (bytes : List ℕ) → sign_of k ≡ Some s → is_too_large k bytes ≡ false
sign_small kind.Number s bytes h = absurd (cc)
sign_small _ s bytes h = refl

operand_flat : (r : Rank) → nesting (operand_frames r) ≡ 0
operand_flat Disjunction = refl
operand_flat _ = refl

operand_counted : (r : Rank) → are_counted (operand_frames r) ≡ true
operand_counted Disjunction = refl
operand_counted _ = refl

more_is : (r : Rank) (n : ℕ) → r ≢ Comparison → more_links r n ≡ Links r (n + 1) ∷ []
more_is Comparison n h = absurd (h refl)
more_is _ n h = refl

links_flat : (r : Rank) (n d : ℕ) → nesting (operand_frames r ++ Links r n ∷ []) + d ≡ d
links_flat r n d = omega (arith, nesting-append (operand_frames r) (Links r n ∷ []), operand_flat r)

counted_links : (fs : List Frame) (r : Rank) (n : ℕ) → are_counted fs ≡ true → are_counted (fs ++ Links r n ∷ []) ≡ nat_le n 64
counted_links fs r n h = counted-append fs (Links r n ∷ []) h ∙ last (nat_le n 64)
  where
    last : (b : Bool) → (b && true) ≡ b
    last true = refl
    last false = refl

within_links : (n : ℕ) → n ≤ 64 → nat_le n 64 ≡ true
within_links n h = grind (arith, nat_tests)

past_links : (n : ℕ) → 64 < n → nat_le n 64 ≡ false
past_links n h = grind (arith, nat_tests)

may_follow : (r : Rank) (links : List (Sign × Expr)) → r ≢ Comparison → MayFollow r links
may_follow Comparison links h = absurd (h refl)
may_follow Disjunction links h = tt
may_follow _ links h = tt

linked_empty : (r : Rank) (ys : List Lexeme) → Spells (Linked r []) ys → ys ≡ []
linked_empty r ys (linked_none r2) = refl

-- one more link behind others
link_behind : (r : Rank) (links : List (Sign × Expr)) (ys : List Lexeme) (x : Lexeme) (s : Sign) (e : Expr) (zs : List Lexeme) → r ≢ Comparison → sign_of x.kind ≡ Some s → rank_of s ≡ r → Spells (operand_of r e) zs
    → Spells (Linked r links) ys → Spells (Linked r (links ++ (s, e) ∷ [])) (ys ++ x ∷ zs)
link_behind r [] ys x s e zs many is rank operand (linked_none r2) =
    subst (λ (ws : List Lexeme). Spells (Linked r ((s, e) ∷ [])) (x ∷ ws)) (append-nil zs) (linked r x s is rank (may_follow r [] many) operand (linked_none r))
link_behind r (l ∷ links) ys x s e zs many is rank operand (linked r2 y t {xs = us} {ys = vs} is' rank' may first rest) =
    subst (λ (ws : List Lexeme). Spells (Linked r (l ∷ (links ++ (s, e) ∷ []))) (y ∷ ws)) (sym (append_assoc us vs (x ∷ zs)))
    (linked r y t is' rank' (may_follow r (links ++ (s, e) ∷ []) many) first (link_behind r links vs x s e zs many is rank operand rest))

-- What a chain has come to: its first operand and so many links, and its next sign may come.
pub record Linking (size : ℕ) (xs : List Lexeme) (r : Rank) (depth at next : ℕ) (first : Expr) (links : List (Sign × Expr)) : Type 0 where
  pub went : Went size xs (chain_frames r) (Links r (length links + 1) ∷ []) depth at next
  pub mid : ℕ
  pub forward : at ≤ mid
  pub behind : mid ≤ next
  pub spelled_first : Spells (operand_of r first) (piece xs at mid)
  pub spelled : Spells (Linked r links) (piece xs mid next)
  pub few : length links ≤ 63

module _ (size : ℕ) (xs : List Lexeme) (r : Rank) (depth at : ℕ) (limited : depth ≤ 64) where
  pub first_read : (next : ℕ) (first : Expr) → ReadsAs (operand_of r) size xs (operand_frames r) depth at (Ok (first, next)) → Linking size xs r depth at next first []
  first_read next first read = record {
    went = went_beside size xs (operand_frames r) [] (Links r 1 ∷ []) depth at next refl limited refl read.0;
    mid = next;
    forward = read.0.forward;
    behind = omega arith;
    spelled_first = read.1;
    spelled = subst (λ (ys : List Lexeme). Spells (Linked r []) ys) (sym (piece_empty xs next)) (linked_none r);
    few = omega arith;
  }

  pub first_stop : (fault : ParseFault) → Stopped size xs (operand_frames r) depth at fault → Stopped size xs (chain_frames r) depth at fault
  first_stop fault stop = stop_beside size xs (operand_frames r) (Links r 1 ∷ []) depth at fault refl limited refl stop

  module _ (many : r ≢ Comparison) (next : ℕ) (first : Expr) (links : List (Sign × Expr)) (linking : Linking size xs r depth at next first links) where
    -- a sign and its operand
    pub link_read : (s : Sign) (behind : ℕ) (e : Expr) → length links < 63 → sign_at r xs next ≡ Some s → ReadsAs (operand_of r) size xs (operand_frames r) depth (next + 1) (Ok (e, behind))
        → Linking size xs r depth at behind first (links ++ (s, e) ∷ [])
    link_read s behind e room is read =
        let here = sign_here xs next r s is in
        let st = stands xs next here.kind here.stands in
        let more = length-append links ((s, e) ∷ []) in
        let forward = read.0.forward in let there = linking.behind in let start = linking.forward in
        let count : length links + 1 + 1 ≡ length (links ++ (s, e) ∷ []) + 1 = omega arith in
        let takes_g : move (Links r (length links + 1)) here.kind ≡ Takes (operand_frames r ++ Links r (length links + 1 + 1) ∷ []) =
        link_takes xs next r s (length links + 1) here ∙ ap (λ (fs : List Frame). Takes (operand_frames r ++ fs)) (more_is r (length links + 1) many) in
        let on_link : Went size xs (Links r (length links + 1) ∷ []) (Links r (length links + 1 + 1) ∷ []) depth next behind =
        took size xs (Links r (length links + 1)) (operand_frames r ++ Links r (length links + 1 + 1) ∷ []) (Links r (length links + 1 + 1) ∷ []) here.kind depth next behind st takes_g
        (omega (arith, links_flat r (length links + 1 + 1) depth))
        (counted_links (operand_frames r) r (length links + 1 + 1) (operand_counted r) ∙ within_links (length links + 1 + 1) (omega arith))
        (sign_small here.kind s st.token.bytes here.is)
        (went_beside size xs (operand_frames r) [] (Links r (length links + 1 + 1) ∷ []) depth (next + 1) behind refl limited
        (counted_links [] r (length links + 1 + 1) refl ∙ within_links (length links + 1 + 1) (omega arith)) read.0) in
        record {
          went = went_trans size xs (chain_frames r) (Links r (length links + 1) ∷ []) (Links r (length (links ++ (s, e) ∷ []) + 1) ∷ []) depth at next behind linking.went
              (subst (λ (n : ℕ). Went size xs (Links r (length links + 1) ∷ []) (Links r n ∷ []) depth next behind) count on_link);
          mid = linking.mid;
          forward = linking.forward;
          behind = omega arith;
          spelled_first = linking.spelled_first;
          spelled = subst (λ (ys : List Lexeme). Spells (Linked r (links ++ (s, e) ∷ [])) ys)
              (ap (λ (ys : List Lexeme). piece xs linking.mid next ++ ys) (sym (piece_cons xs next behind st.token st.is (omega arith))) ∙ piece_join xs linking.mid next behind (omega arith) (omega arith))
              (link_behind r links (piece xs linking.mid next) st.token s e (piece xs (next + 1) behind) many (ap sign_of st.kind ∙ here.is) here.rank read.1 linking.spelled);
          few = omega arith;
        }

    pub link_stop : (s : Sign) (fault : ParseFault) → length links < 63 → sign_at r xs next ≡ Some s → Stopped size xs (operand_frames r) depth (next + 1) fault → Stopped size xs (chain_frames r) depth at fault
    link_stop s fault room is stop =
        let here = sign_here xs next r s is in
        let st = stands xs next here.kind here.stands in
        let takes_g : move (Links r (length links + 1)) here.kind ≡ Takes (operand_frames r ++ Links r (length links + 1 + 1) ∷ []) =
        link_takes xs next r s (length links + 1) here ∙ ap (λ (fs : List Frame). Takes (operand_frames r ++ fs)) (more_is r (length links + 1) many) in
        stop_after size xs (chain_frames r) (Links r (length links + 1) ∷ []) depth at next fault linking.went
        (took_stop size xs (Links r (length links + 1)) (operand_frames r ++ Links r (length links + 1 + 1) ∷ []) here.kind depth next fault st takes_g
        (omega (arith, links_flat r (length links + 1 + 1) depth))
        (counted_links (operand_frames r) r (length links + 1 + 1) (operand_counted r) ∙ within_links (length links + 1 + 1) (omega arith))
        (sign_small here.kind s st.token.bytes here.is)
        (stop_beside size xs (operand_frames r) (Links r (length links + 1 + 1) ∷ []) depth (next + 1) fault refl limited
        (counted_links [] r (length links + 1 + 1) refl ∙ within_links (length links + 1 + 1) (omega arith)) stop))

    -- a sign too many
    pub link_many : (s : Sign) → 63 ≤ length links → sign_at r xs next ≡ Some s → Stopped size xs (chain_frames r) depth at (TooMany (offset_at size xs next))
    link_many s full is =
        let here = sign_here xs next r s is in
        let st = stands xs next here.kind here.stands in
        let takes_g : move (Links r (length links + 1)) here.kind ≡ Takes (operand_frames r ++ Links r (length links + 1 + 1) ∷ []) =
        link_takes xs next r s (length links + 1) here ∙ ap (λ (fs : List Frame). Takes (operand_frames r ++ fs)) (more_is r (length links + 1) many) in
        stop_after size xs (chain_frames r) (Links r (length links + 1) ∷ []) depth at next (TooMany (offset_at size xs next)) linking.went
        (too_many size xs (Links r (length links + 1)) (operand_frames r ++ Links r (length links + 1 + 1) ∷ []) here.kind depth next st takes_g
        (omega (arith, links_flat r (length links + 1 + 1) depth))
        (counted_links (operand_frames r) r (length links + 1 + 1) (operand_counted r) ∙ past_links (length links + 1 + 1) (omega arith)))

    ended : sign_at r xs next ≡ None → Went size xs (chain_frames r) [] depth at next
    ended none_ =
        went_trans size xs (chain_frames r) (Links r (length links + 1) ∷ []) [] depth at next next linking.went
        (skipped size xs (Links r (length links + 1)) depth next linking.went.within (sign_none r (length links + 1) (kind_at xs next) none_))

    -- no sign follows the first operand
    pub single_read : links ≡ [] → sign_at r xs next ≡ None → ReadsAs (Chained r) size xs (chain_frames r) depth at (Ok (first, next))
    single_read alone none_ =
        let bare = subst (λ (ls : List (Sign × Expr)). Spells (Linked r ls) (piece xs linking.mid next)) alone linking.spelled in
        let whole : piece xs at linking.mid ≡ piece xs at next =
        sym (append-nil (piece xs at linking.mid)) ∙ ap (λ (ys : List Lexeme). piece xs at linking.mid ++ ys) (sym (linked_empty r (piece xs linking.mid next) bare))
        ∙ piece_join xs at linking.mid next linking.forward linking.behind in
        (ended none_, single r (subst (λ (ys : List Lexeme). Spells (operand_of r first) ys) whole linking.spelled_first))

    -- no sign follows the last operand
    pub chain_read : (0 < length links) → sign_at r xs next ≡ None → ReadsAs (Chained r) size xs (chain_frames r) depth at (Ok (expr.Chain first links, next))
    chain_read some none_ = (ended none_, subst (λ (ys : List Lexeme). Spells (Chained r (expr.Chain first links)) ys) (piece_join xs at linking.mid next linking.forward linking.behind) (chain_of links some linking.spelled))
      where
        chain_of : (ls : List (Sign × Expr)) → 0 < length ls → Spells (Linked r ls) (piece xs linking.mid next) → Spells (Chained r (expr.Chain first ls)) (piece xs at linking.mid ++ piece xs linking.mid next)
        chain_of [] some spelled = absurd (omega arith)
        chain_of (l ∷ ls) some spelled = chain r first linking.spelled_first spelled

-- A comparison has one sign at most.
module _ (size : ℕ) (xs : List Lexeme) (depth at behind : ℕ) (first : Expr) (limited : depth ≤ 64) (read : ReadsAs (Chained Sum) size xs (chain_frames Sum) depth at (Ok (first, behind))) where
  to_sign : Went size xs (chain_frames Comparison) (Links Comparison 1 ∷ []) depth at behind
  to_sign = went_beside size xs (chain_frames Sum) [] (Links Comparison 1 ∷ []) depth at behind refl limited refl read.0

  pub comparison_bare : sign_at Comparison xs behind ≡ None → ReadsAs (Chained Comparison) size xs (chain_frames Comparison) depth at (Ok (first, behind))
  comparison_bare none_ = (
    went_trans size xs (chain_frames Comparison) (Links Comparison 1 ∷ []) [] depth at behind behind to_sign
        (skipped size xs (Links Comparison 1) depth behind read.0.within (sign_none Comparison 1 (kind_at xs behind) none_)),
    single Comparison read.1,
  )

  module _ (s : Sign) (is : sign_at Comparison xs behind ≡ Some s) where
    pub comparison_stop : (fault : ParseFault) → Stopped size xs (chain_frames Sum) depth (behind + 1) fault → Stopped size xs (chain_frames Comparison) depth at fault
    comparison_stop fault stop =
        let here = sign_here xs behind Comparison s is in
        let st = stands xs behind here.kind here.stands in
        stop_after size xs (chain_frames Comparison) (Links Comparison 1 ∷ []) depth at behind fault to_sign
        (took_stop size xs (Links Comparison 1) (chain_frames Sum) here.kind depth behind fault st (link_takes xs behind Comparison s 1 here) (omega arith) refl (sign_small here.kind s st.token.bytes here.is) stop)

    pub comparison_read : (next : ℕ) (second : Expr) → ReadsAs (Chained Sum) size xs (chain_frames Sum) depth (behind + 1) (Ok (second, next))
        → ReadsAs (Chained Comparison) size xs (chain_frames Comparison) depth at (Ok (expr.Chain first ((s, second) ∷ []), next))
    comparison_read next second other =
        let here = sign_here xs behind Comparison s is in
        let st = stands xs behind here.kind here.stands in
        let forward = read.0.forward in let on_ = other.0.forward in
        let link : Spells (Linked Comparison ((s, second) ∷ [])) (piece xs behind next) =
        subst (λ (ys : List Lexeme). Spells (Linked Comparison ((s, second) ∷ [])) ys) (ap (λ (ys : List Lexeme). st.token ∷ ys) (append-nil (piece xs (behind + 1) next)) ∙ sym (piece_cons xs behind next st.token st.is (omega arith)))
        (linked Comparison st.token s (ap sign_of st.kind ∙ here.is) here.rank refl other.1 (linked_none Comparison)) in (
          went_trans size xs (chain_frames Comparison) (Links Comparison 1 ∷ []) [] depth at behind next to_sign
              (took size xs (Links Comparison 1) (chain_frames Sum) [] here.kind depth behind next st (link_takes xs behind Comparison s 1 here) (omega arith) refl (sign_small here.kind s st.token.bytes here.is) other.0),
          subst (λ (ys : List Lexeme). Spells (Chained Comparison (expr.Chain first ((s, second) ∷ []))) ys) (piece_join xs at behind next forward (omega arith)) (chain Comparison first read.1 link),
        )
