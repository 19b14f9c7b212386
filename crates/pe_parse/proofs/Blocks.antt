-- Statements in braces, conditions, and statements one after another.
use Rattle.std.proofs.Common.{◌≡◌, ℕ, ◌+◌, ◌<◌, ◌≤◌, List, [], ◌∷◌, ◌++◌, length, Option, Some, None, true, Ok, Err, refl, sym, ◌∙◌, ap, subst, append_assoc, append-nil, arith}
use Rattle.std.specs.Prelude.{slice_get}
use Rattle.pe_lex.specs.declared.token.TokenKind.{TokenKind}
use Rattle.pe_lex.specs.declared.token.TokenKind.TheVariants as kind
use Rattle.pe_parse.specs.declared.fault.ParseFault.{ParseFault}
use Rattle.pe_parse.specs.declared.fault.ParseFault.TheVariants.{TooDeep}
use Rattle.pe_parse.specs.declared.rank.Rank.TheVariants.{Disjunction}
use Rattle.pe_parse.specs.declared.tree.Expr.{Expr}
use Rattle.pe_parse.specs.declared.tree.Stmt.{Stmt}
use Rattle.pe_parse.specs.declared.tree.Stmt.TheVariants as stmt
use Rattle.pe_parse.specs.Lexemes.{Lexeme, kind_at, offset_at}
use Rattle.pe_parse.specs.Statements.{Statement, Chooses, ChoosesElse, Nothing, Then, statement_of, statements_of}
use Rattle.pe_parse.specs.Grammar.{Spells, Chained, One, All, chooses, chooses_else, nothing, then_more}
use Rattle.pe_parse.specs.Frames.{Needs, Block, Otherwise, Sequence, expression}
use Rattle.pe_parse.specs.Reading.{piece, Went, Stopped, Needed, ReadsAs, ReadsBlock, ReadStatement}
use Rattle.pe_parse.proofs.TokenMoves.{stands, took, took_stop, went_here, too_deep, skips, refuses, skipped, refused, went_trans, went_frame, went_beside, stop_after, stop_frame, stop_beside, needed, missing}
use Rattle.pe_parse.proofs.Pieces.{piece_cons, piece_snoc, piece_join, piece_empty}
use Rattle.pe_parse.proofs.Bodies.{of_if, of_if_else}

-- So many statements of a body have been read, and others may come.
pub record Running (size : ℕ) (xs : List Lexeme) (depth at next : ℕ) (body : List Stmt) : Type 0 where
  pub went : Went size xs (Sequence ∷ []) (Sequence ∷ []) depth at next
  pub spelled : Spells (All (statements_of body)) (piece xs at next)

statement_behind : (body : List Stmt) (s : Stmt) (ys zs : List Lexeme) → Spells (One (statement_of s)) zs → Spells (All (statements_of body)) ys → Spells (All (statements_of (body ++ s ∷ []))) (ys ++ zs)
statement_behind [] s ys zs one nothing = subst (λ (ws : List Lexeme). Spells (All (Then (statement_of s) Nothing)) ws) (append-nil zs) (then_more one nothing)
statement_behind (t ∷ body) s ys zs one (then_more {xs = us} {ys = vs} first rest) =
    subst (λ (ws : List Lexeme). Spells (All (Then (statement_of t) (statements_of (body ++ s ∷ [])))) ws) (sym (append_assoc us vs zs)) (then_more first (statement_behind body s vs zs one rest))

module _ (size : ℕ) (xs : List Lexeme) (depth at : ℕ) (limited : depth ≤ 64) where
  block_refuses : (o : Option TokenKind) → (o ≡ Some kind.OpenCurly → ⊥) → refuses Block o ≡ true
  block_refuses None h = refl
  block_refuses (Some kind.OpenCurly) h = absurd (h refl)
  block_refuses (Some _) h = refl

  pub block_bare : (fault : ParseFault) → Needed size xs kind.OpenCurly at (Err fault) → Stopped size xs (Block ∷ []) depth at fault
  block_bare fault none_ = subst (λ (f : ParseFault). Stopped size xs (Block ∷ []) depth at f) (sym none_.0) (refused size xs Block depth at (block_refuses (kind_at xs at) none_.1))

  pub block_deep : (inside : ℕ) → 64 ≤ depth → Needed size xs kind.OpenCurly at (Ok inside) → Stopped size xs (Block ∷ []) depth at (TooDeep (offset_at size xs at))
  block_deep inside deep open_ = too_deep size xs Block (Sequence ∷ Needs kind.CloseCurly ∷ []) kind.OpenCurly depth at (stands xs at kind.OpenCurly open_.1) refl (omega arith)

  block_body : (inside behind : ℕ) (body : List Stmt) → depth < 64 → ReadsAs (λ body. All (statements_of body)) size xs (Sequence ∷ []) (depth + 1) inside (Ok (body, behind))
      → Went size xs (Sequence ∷ Needs kind.CloseCurly ∷ []) (Needs kind.CloseCurly ∷ []) depth inside behind
  block_body inside behind body room read =
      let deeper : depth + 1 ≡ 1 + depth = omega arith in
      went_frame size xs (Sequence ∷ []) [] (Needs kind.CloseCurly ∷ []) depth inside behind (omega arith) refl (subst (λ (d : ℕ). Went size xs (Sequence ∷ []) [] d inside behind) deeper read.0)

  block_stop_in : (inside : ℕ) (fault : ParseFault) → depth < 64 → Needed size xs kind.OpenCurly at (Ok inside) → Stopped size xs (Sequence ∷ Needs kind.CloseCurly ∷ []) depth inside fault → Stopped size xs (Block ∷ []) depth at fault
  block_stop_in inside fault room open_ stop =
      took_stop size xs Block (Sequence ∷ Needs kind.CloseCurly ∷ []) kind.OpenCurly depth at fault (stands xs at kind.OpenCurly open_.1) refl (omega arith) refl refl
      (subst (λ (n : ℕ). Stopped size xs (Sequence ∷ Needs kind.CloseCurly ∷ []) depth n fault) open_.0 stop)

  pub block_stop : (inside : ℕ) (fault : ParseFault) → depth < 64 → Needed size xs kind.OpenCurly at (Ok inside) → Stopped size xs (Sequence ∷ []) (depth + 1) inside fault → Stopped size xs (Block ∷ []) depth at fault
  block_stop inside fault room open_ stop =
      let deeper : depth + 1 ≡ 1 + depth = omega arith in
      block_stop_in inside fault room open_
      (stop_frame size xs (Sequence ∷ []) (Needs kind.CloseCurly ∷ []) depth inside fault (omega arith) refl (subst (λ (d : ℕ). Stopped size xs (Sequence ∷ []) d inside fault) deeper stop))

  pub block_open : (inside behind : ℕ) (body : List Stmt) (fault : ParseFault) → depth < 64 → Needed size xs kind.OpenCurly at (Ok inside)
      → ReadsAs (λ body. All (statements_of body)) size xs (Sequence ∷ []) (depth + 1) inside (Ok (body, behind)) → Needed size xs kind.CloseCurly behind (Err fault) → Stopped size xs (Block ∷ []) depth at fault
  block_open inside behind body fault room open_ read none_ = block_stop_in inside fault room open_
      (stop_after size xs (Sequence ∷ Needs kind.CloseCurly ∷ []) (Needs kind.CloseCurly ∷ []) depth inside behind fault (block_body inside behind body room read) (missing size xs kind.CloseCurly depth behind fault none_))

  pub block_read : (inside behind next : ℕ) (body : List Stmt) → depth < 64 → Needed size xs kind.OpenCurly at (Ok inside)
      → ReadsAs (λ body. All (statements_of body)) size xs (Sequence ∷ []) (depth + 1) inside (Ok (body, behind)) → Needed size xs kind.CloseCurly behind (Ok next) → ReadsBlock size xs depth at (Ok (body, next))
  block_read inside behind next body room open_ read close =
      let forward = read.0.forward in let inside_is = open_.0 in (
        took size xs Block (Sequence ∷ Needs kind.CloseCurly ∷ []) [] kind.OpenCurly depth at next (stands xs at kind.OpenCurly open_.1) refl (omega arith) refl refl
            (subst (λ (n : ℕ). Went size xs (Sequence ∷ Needs kind.CloseCurly ∷ []) [] depth n next) inside_is
            (went_trans size xs (Sequence ∷ Needs kind.CloseCurly ∷ []) (Needs kind.CloseCurly ∷ []) [] depth inside behind next (block_body inside behind body room read)
            (needed size xs kind.CloseCurly depth behind next (λ _. refl) limited close))),
        record { opened = open_.1; mid = behind; forward = omega arith; behind = close.0; spelled = subst (λ (n : ℕ). Spells (All (statements_of body)) (piece xs n behind)) inside_is read.1; closed = close.1 },
      )

  -- a condition
  choose_stop_in : (fault : ParseFault) → kind_at xs at ≡ Some kind.If → Stopped size xs (expression ++ Block ∷ Otherwise ∷ Sequence ∷ []) depth (at + 1) fault → Stopped size xs (Sequence ∷ []) depth at fault
  choose_stop_in fault is stop = took_stop size xs Sequence (expression ++ Block ∷ Otherwise ∷ Sequence ∷ []) kind.If depth at fault (stands xs at kind.If is) refl (omega arith) refl refl stop

  pub choose_stop : (fault : ParseFault) → kind_at xs at ≡ Some kind.If → Stopped size xs expression depth (at + 1) fault → Stopped size xs (Sequence ∷ []) depth at fault
  choose_stop fault is stop = choose_stop_in fault is (stop_beside size xs expression (Block ∷ Otherwise ∷ Sequence ∷ []) depth (at + 1) fault refl limited refl stop)

  choose_condition : (behind : ℕ) (e : Expr) → ReadsAs (Chained Disjunction) size xs expression depth (at + 1) (Ok (e, behind)) → Went size xs (expression ++ Block ∷ Otherwise ∷ Sequence ∷ []) (Block ∷ Otherwise ∷ Sequence ∷ []) depth (at + 1) behind
  choose_condition behind e read = went_beside size xs expression [] (Block ∷ Otherwise ∷ Sequence ∷ []) depth (at + 1) behind refl limited refl read.0

  pub choose_first : (behind : ℕ) (e : Expr) (fault : ParseFault) → kind_at xs at ≡ Some kind.If → ReadsAs (Chained Disjunction) size xs expression depth (at + 1) (Ok (e, behind)) → ReadsBlock size xs depth behind (Err fault)
      → Stopped size xs (Sequence ∷ []) depth at fault
  choose_first behind e fault is read stop = choose_stop_in fault is
      (stop_after size xs (expression ++ Block ∷ Otherwise ∷ Sequence ∷ []) (Block ∷ Otherwise ∷ Sequence ∷ []) depth (at + 1) behind fault (choose_condition behind e read)
      (stop_beside size xs (Block ∷ []) (Otherwise ∷ Sequence ∷ []) depth behind fault refl limited refl stop))

  choose_body : (behind after : ℕ) (e : Expr) (body : List Stmt) → ReadsAs (Chained Disjunction) size xs expression depth (at + 1) (Ok (e, behind)) → ReadsBlock size xs depth behind (Ok (body, after))
      → Went size xs (expression ++ Block ∷ Otherwise ∷ Sequence ∷ []) (Otherwise ∷ Sequence ∷ []) depth (at + 1) after
  choose_body behind after e body read block_ =
      went_trans size xs (expression ++ Block ∷ Otherwise ∷ Sequence ∷ []) (Block ∷ Otherwise ∷ Sequence ∷ []) (Otherwise ∷ Sequence ∷ []) depth (at + 1) behind after (choose_condition behind e read)
      (went_beside size xs (Block ∷ []) [] (Otherwise ∷ Sequence ∷ []) depth behind after refl limited refl block_.0)

  else_skips : (o : Option TokenKind) → (o ≡ Some kind.Else → ⊥) → skips Otherwise o ≡ true
  else_skips None h = refl
  else_skips (Some kind.Else) h = absurd (h refl)
  else_skips (Some _) h = refl

  -- x, the condition, o, statements and y stand together
  first_half : (behind after : ℕ) (x o y : Lexeme) (mid : ℕ) → slice_get xs at ≡ Some x → slice_get xs behind ≡ Some o → slice_get xs mid ≡ Some y → at + 1 ≤ behind → behind + 1 ≤ mid → after ≡ mid + 1
      → piece xs at after ≡ x ∷ piece xs (at + 1) behind ++ o ∷ piece xs (behind + 1) mid ++ y ∷ []
  first_half behind after x o y mid x_is o_is y_is a b after_is =
      ap (piece xs at) after_is ∙ piece_snoc xs at mid y y_is (omega arith)
      ∙ ap (λ (ys : List Lexeme). ys ++ y ∷ []) (sym (piece_join xs at behind mid (omega arith) (omega arith))
      ∙ ap (λ (ys : List Lexeme). ys ++ piece xs behind mid) (piece_cons xs at behind x x_is (omega arith))
      ∙ ap (λ (ys : List Lexeme). (x ∷ piece xs (at + 1) behind) ++ ys) (piece_cons xs behind mid o o_is (omega arith)))

  pub choose_read : (behind after : ℕ) (e : Expr) (body : List Stmt) (fault : ParseFault) → kind_at xs at ≡ Some kind.If → ReadsAs (Chained Disjunction) size xs expression depth (at + 1) (Ok (e, behind))
      → ReadsBlock size xs depth behind (Ok (body, after)) → Needed size xs kind.Else after (Err fault) → ReadStatement size xs depth at (stmt.If e body, after)
  choose_read behind after e body fault is read block_ none_ =
      let x = stands xs at kind.If is in
      let b = block_.1 in
      let o = stands xs behind kind.OpenCurly b.opened in
      let y = stands xs b.mid kind.CloseCurly b.closed in
      let forward = read.0.forward in let b_forward = b.forward in let after_is = b.behind in (
        took size xs Sequence (expression ++ Block ∷ Otherwise ∷ Sequence ∷ []) (Sequence ∷ []) kind.If depth at after x refl (omega arith) refl refl
            (went_trans size xs (expression ++ Block ∷ Otherwise ∷ Sequence ∷ []) (Otherwise ∷ Sequence ∷ []) (Sequence ∷ []) depth (at + 1) after after (choose_body behind after e body read block_)
            (went_beside size xs (Otherwise ∷ []) [] (Sequence ∷ []) depth after after refl limited refl (skipped size xs Otherwise depth after block_.0.within (else_skips (kind_at xs after) none_.1)))),
        omega arith,
        subst (λ (s : Statement). Spells (One s) (piece xs at after)) (sym (of_if e body))
            (subst (λ (ys : List Lexeme). Spells (One (Chooses e (statements_of body))) ys) (sym (first_half behind after x.token o.token y.token b.mid x.is o.is y.is forward b_forward after_is))
            (chooses x.token o.token y.token x.kind read.1 o.kind b.spelled y.kind)),
      )

  pub choose_second : (behind after other : ℕ) (e : Expr) (body : List Stmt) (fault : ParseFault) → kind_at xs at ≡ Some kind.If → ReadsAs (Chained Disjunction) size xs expression depth (at + 1) (Ok (e, behind))
      → ReadsBlock size xs depth behind (Ok (body, after)) → Needed size xs kind.Else after (Ok other) → ReadsBlock size xs depth other (Err fault) → Stopped size xs (Sequence ∷ []) depth at fault
  choose_second behind after other e body fault is read block_ else_ stop = choose_stop_in fault is
      (stop_after size xs (expression ++ Block ∷ Otherwise ∷ Sequence ∷ []) (Otherwise ∷ Sequence ∷ []) depth (at + 1) after fault (choose_body behind after e body read block_)
      (stop_beside size xs (Otherwise ∷ []) (Sequence ∷ []) depth after fault refl limited refl
      (took_stop size xs Otherwise (Block ∷ []) kind.Else depth after fault (stands xs after kind.Else else_.1) refl (omega arith) refl refl
      (subst (λ (n : ℕ). Stopped size xs (Block ∷ []) depth n fault) else_.0 stop))))

  pub choose_both : (behind after other next : ℕ) (e : Expr) (body otherwise : List Stmt) → kind_at xs at ≡ Some kind.If → ReadsAs (Chained Disjunction) size xs expression depth (at + 1) (Ok (e, behind))
      → ReadsBlock size xs depth behind (Ok (body, after)) → Needed size xs kind.Else after (Ok other) → ReadsBlock size xs depth other (Ok (otherwise, next)) → ReadStatement size xs depth at (stmt.IfElse e body otherwise, next)
  choose_both behind after other next e body otherwise is read block_ else_ second =
      let x = stands xs at kind.If is in
      let b = block_.1 in
      let c = second.1 in
      let o = stands xs behind kind.OpenCurly b.opened in
      let y = stands xs b.mid kind.CloseCurly b.closed in
      let w = stands xs after kind.Else else_.1 in
      let p = stands xs other kind.OpenCurly c.opened in
      let z = stands xs c.mid kind.CloseCurly c.closed in
      let forward = read.0.forward in let b_forward = b.forward in let after_is = b.behind in let other_is = else_.0 in let c_forward = c.forward in let next_is = c.behind in
      let half = first_half behind after x.token o.token y.token b.mid x.is o.is y.is forward b_forward after_is in
      let tail : piece xs after c.mid ≡ w.token ∷ p.token ∷ piece xs (other + 1) c.mid =
      piece_cons xs after c.mid w.token w.is (omega arith) ∙ ap (λ (n : ℕ). w.token ∷ piece xs n c.mid) (sym other_is) ∙ ap (λ (ys : List Lexeme). w.token ∷ ys) (piece_cons xs other c.mid p.token p.is (omega arith)) in
      let front : List Lexeme = x.token ∷ piece xs (at + 1) behind ++ o.token ∷ piece xs (behind + 1) b.mid in
      let whole : piece xs at next ≡ front ++ y.token ∷ w.token ∷ p.token ∷ piece xs (other + 1) c.mid ++ z.token ∷ [] =
      ap (piece xs at) next_is ∙ piece_snoc xs at c.mid z.token z.is (omega arith)
      ∙ ap (λ (ys : List Lexeme). ys ++ z.token ∷ []) (sym (piece_join xs at after c.mid (omega arith) (omega arith)) ∙ ap (λ (ys : List Lexeme). ys ++ piece xs after c.mid) half
      ∙ ap (λ (ys : List Lexeme). (front ++ y.token ∷ []) ++ ys) tail ∙ append_assoc front (y.token ∷ []) (w.token ∷ p.token ∷ piece xs (other + 1) c.mid)) in (
        took size xs Sequence (expression ++ Block ∷ Otherwise ∷ Sequence ∷ []) (Sequence ∷ []) kind.If depth at next x refl (omega arith) refl refl
            (went_trans size xs (expression ++ Block ∷ Otherwise ∷ Sequence ∷ []) (Otherwise ∷ Sequence ∷ []) (Sequence ∷ []) depth (at + 1) after next (choose_body behind after e body read block_)
            (went_beside size xs (Otherwise ∷ []) [] (Sequence ∷ []) depth after next refl limited refl
            (took size xs Otherwise (Block ∷ []) [] kind.Else depth after next w refl (omega arith) refl refl (subst (λ (n : ℕ). Went size xs (Block ∷ []) [] depth n next) other_is second.0)))),
        omega arith,
        subst (λ (s : Statement). Spells (One s) (piece xs at next)) (sym (of_if_else e body otherwise))
            (subst (λ (ys : List Lexeme). Spells (One (ChoosesElse e (statements_of body) (statements_of otherwise))) ys) (sym whole)
            (chooses_else x.token o.token y.token w.token p.token z.token x.kind read.1 o.kind b.spelled y.kind w.kind p.kind c.spelled z.kind)),
      )

  -- where no statement begins
  pub no_statement : skips Sequence (kind_at xs at) ≡ true → at ≤ length xs → Went size xs (Sequence ∷ []) [] depth at at
  no_statement h within = skipped size xs Sequence depth at within h

  pub no_kind : (k : TokenKind) → (k ≡ kind.Word → ⊥) → (k ≡ kind.Refine → ⊥) → (k ≡ kind.Erase → ⊥) → (k ≡ kind.Print → ⊥) → (k ≡ kind.If → ⊥) → skips Sequence (Some k) ≡ true
  no_kind kind.Word a b c d e = absurd (a refl)
  no_kind kind.Refine a b c d e = absurd (b refl)
  no_kind kind.Erase a b c d e = absurd (c refl)
  no_kind kind.Print a b c d e = absurd (d refl)
  no_kind kind.If a b c d e = absurd (e refl)
  no_kind _ a b c d e = refl

  pub run_start : at ≤ length xs → Running size xs depth at at []
  run_start within = record { went = went_here size xs (Sequence ∷ []) depth at within; spelled = subst (λ (ys : List Lexeme). Spells (All Nothing) ys) (sym (piece_empty xs at)) nothing }

  module _ (next : ℕ) (body : List Stmt) (running : Running size xs depth at next body) where
    pub run_more : (s : Stmt) (behind : ℕ) → ReadStatement size xs depth next (s, behind) → Running size xs depth at behind (body ++ s ∷ [])
    run_more s behind read =
        let forward = running.went.forward in let on_ = read.1 in
        record {
          went = went_trans size xs (Sequence ∷ []) (Sequence ∷ []) (Sequence ∷ []) depth at next behind running.went read.0;
          spelled = subst (λ (ys : List Lexeme). Spells (All (statements_of (body ++ s ∷ []))) ys) (piece_join xs at next behind forward (omega arith))
              (statement_behind body s (piece xs at next) (piece xs next behind) read.2 running.spelled);
        }

    pub run_end : (next ≤ length xs → Went size xs (Sequence ∷ []) [] depth next next) → ReadsAs (λ body. All (statements_of body)) size xs (Sequence ∷ []) depth at (Ok (body, next))
    run_end none_ = (went_trans size xs (Sequence ∷ []) (Sequence ∷ []) [] depth at next next running.went (none_ running.went.within), running.spelled)

    pub run_stop : (fault : ParseFault) → Stopped size xs (Sequence ∷ []) depth next fault → Stopped size xs (Sequence ∷ []) depth at fault
    run_stop fault stop = stop_after size xs (Sequence ∷ []) (Sequence ∷ []) depth at next fault running.went stop
