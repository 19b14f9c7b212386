-- Statements, each read as its rule says: what is left open, and what the tokens spell.
use Rattle.std.proofs.Common.{◌≡◌, ℕ, ◌+◌, ◌<◌, ◌≤◌, List, [], ◌∷◌, ◌++◌, length, Option, Some, None, Bool, true, false, ◌&&◌, Ok, Err, refl, sym, ◌∙◌, ap, subst, append_assoc, append-nil, length-append, arith}
use Rattle.std.specs.Prelude.{nat_le}
use Rattle.std.proofs.lemmas.Bool.Decides.{nat_tests}
use Rattle.pe_lex.specs.declared.token.TokenKind.{TokenKind}
use Rattle.pe_lex.specs.declared.token.TokenKind.TheVariants as kind
use Rattle.pe_parse.specs.declared.fault.ParseFault.{ParseFault}
use Rattle.pe_parse.specs.declared.fault.ParseFault.TheVariants.{TooMany}
use Rattle.pe_parse.specs.declared.rank.Rank.TheVariants.{Disjunction}
use Rattle.pe_parse.specs.declared.tree.Name.{Name}
use Rattle.pe_parse.specs.declared.tree.Word.{Word}
use Rattle.pe_parse.specs.declared.tree.Values as values
use Rattle.pe_parse.specs.declared.tree.Trigger.{Trigger}
use Rattle.pe_parse.specs.declared.tree.Trigger.TheVariants as trigger
use Rattle.pe_parse.specs.declared.tree.Expr.{Expr}
use Rattle.pe_parse.specs.declared.tree.Stmt.{Stmt}
use Rattle.pe_parse.specs.declared.tree.Stmt.TheVariants as stmt
use Rattle.pe_parse.specs.declared.tree.Stmt.TheOpen as open_
use Rattle.pe_parse.specs.declared.tree.Stmt.TheFolds.{fold-roll-Stmt}
use Rattle.pe_parse.specs.Lexemes.{Lexeme, kind_at, offset_at, offset_in}
use Rattle.pe_parse.specs.Statements.{Statement, Assigns, Triggers, Prints, Chooses, ChoosesElse, statement_step, statement_of, statements_of}
use Rattle.pe_parse.specs.Grammar.{Spells, Chained, Listed, One, listed, listed_none, assigns, triggers, prints, trigger_kind}
use Rattle.pe_parse.specs.Frames.{Needs, Second, Values, Sequence, Takes, move, expression, are_counted}
use Rattle.pe_parse.specs.Faults.{is_too_large}
use Rattle.pe_parse.specs.Reading.{piece, bytes_in, spelled_at, Went, Stopped, Needed, ReadsName, ReadsAs, ReadsClosed, ValuesAt, ReadsValues, ReadStatement}
use Rattle.pe_parse.proofs.TokenMoves.{stands, took, took_stop, too_many, skips, skipped, went_trans, went_beside, stop_after, stop_beside, needed, missing}
use Rattle.pe_parse.proofs.Pieces.{piece_cons, piece_single, piece_snoc, piece_join, piece_empty}

-- what the statements of the code are as plain data
of_assign : (n : Name) (e : Expr) → statement_of (stmt.Assign n e) ≡ Assigns n e
of_assign n e = ap statement_of (sym (stmt.rolls-Assign n e)) ∙ fold-roll-Stmt Statement statement_step (open_.Assign n e)

of_trigger : (t : Trigger) (w : Word) → statement_of (stmt.Trigger t w) ≡ Triggers t w
of_trigger t w = ap statement_of (sym (stmt.rolls-Trigger t w)) ∙ fold-roll-Stmt Statement statement_step (open_.Trigger t w)

of_print : (v : values.Values) → statement_of (stmt.Print v) ≡ Prints v.items
of_print v = ap statement_of (sym (stmt.rolls-Print v)) ∙ fold-roll-Stmt Statement statement_step (open_.Print v)

pub of_if : (e : Expr) (body : List Stmt) → statement_of (stmt.If e body) ≡ Chooses e (statements_of body)
of_if e body = ap statement_of (sym (stmt.rolls-If e body)) ∙ fold-roll-Stmt Statement statement_step (open_.If e body)

pub of_if_else : (e : Expr) (body other : List Stmt) → statement_of (stmt.IfElse e body other) ≡ ChoosesElse e (statements_of body) (statements_of other)
of_if_else e body other = ap statement_of (sym (stmt.rolls-IfElse e body other)) ∙ fold-roll-Stmt Statement statement_step (open_.IfElse e body other)

value_behind : (es : List Expr) (ys : List Lexeme) (x : Lexeme) (e : Expr) (zs : List Lexeme) → x.kind ≡ kind.Comma → Spells (Chained Disjunction e) zs → Spells (Listed es) ys → Spells (Listed (es ++ e ∷ [])) (ys ++ x ∷ zs)
value_behind [] ys x e zs comma value listed_none =
    subst (λ (ws : List Lexeme). Spells (Listed (e ∷ [])) (x ∷ ws)) (append-nil zs) (listed x comma value listed_none)
value_behind (d ∷ es) ys x e zs comma value (listed y {xs = us} {ys = vs} comma' first rest) =
    subst (λ (ws : List Lexeme). Spells (Listed (d ∷ (es ++ e ∷ []))) (y ∷ ws)) (sym (append_assoc us vs (x ∷ zs))) (listed y comma' first (value_behind es vs x e zs comma value rest))

-- What a print has come to: so many values, and its next comma may come.
pub record Listing (size : ℕ) (xs : List Lexeme) (depth at next : ℕ) (items : List Expr) : Type 0 where
  pub went : Went size xs (expression ++ Values 1 ∷ []) (Values (length items) ∷ []) depth at next
  pub values : ValuesAt xs at next items
  pub few : length items ≤ 8

within_eight : (n : ℕ) → n ≤ 8 → are_counted (Values n ∷ []) ≡ true
within_eight n h = let fits : nat_le n 8 ≡ true = grind (arith, nat_tests) in rw fits refl

last_true : (b : Bool) → b ≡ false → (b && true) ≡ false
last_true b h = rw h refl

past_eight : (n : ℕ) → 8 < n → are_counted (expression ++ Values n ∷ []) ≡ false
past_eight n h = let over : nat_le n 8 ≡ false = grind (arith, nat_tests) in last_true (nat_le n 8) over

counted_eight : (n : ℕ) → n ≤ 8 → are_counted (expression ++ Values n ∷ []) ≡ true
counted_eight n h = let fits : nat_le n 8 ≡ true = grind (arith, nat_tests) in rw fits refl

module _ (size : ℕ) (xs : List Lexeme) (depth at : ℕ) (limited : depth ≤ 64) where
  pub value_first : (next : ℕ) (first : Expr) → ReadsAs (Chained Disjunction) size xs expression depth at (Ok (first, next)) → Listing size xs depth at next (first ∷ [])
  value_first next first read = record {
    went = went_beside size xs expression [] (Values 1 ∷ []) depth at next refl limited refl read.0;
    values = record {
      first = first;
      others = [];
      are = refl;
      mid = next;
      forward = read.0.forward;
      behind = omega arith;
      spelled_first = read.1;
      spelled = subst (λ (ys : List Lexeme). Spells (Listed []) ys) (sym (piece_empty xs next)) listed_none;
    };
    few = omega arith;
  }

  pub value_stop : (fault : ParseFault) → Stopped size xs expression depth at fault → Stopped size xs (expression ++ Values 1 ∷ []) depth at fault
  value_stop fault stop = stop_beside size xs expression (Values 1 ∷ []) depth at fault refl limited refl stop

  module _ (next : ℕ) (items : List Expr) (listing : Listing size xs depth at next items) where
    pub value_read : (behind after : ℕ) (e : Expr) → length items < 8 → Needed size xs kind.Comma next (Ok behind) → ReadsAs (Chained Disjunction) size xs expression depth behind (Ok (e, after))
        → Listing size xs depth at after (items ++ e ∷ [])
    value_read behind after e room comma read =
        let v = listing.values in
        let st = stands xs next kind.Comma comma.1 in
        let behind_is = comma.0 in
        let more = length-append items (e ∷ []) in
        let count : length items + 1 ≡ length (items ++ e ∷ []) = omega arith in
        let forward = read.0.forward in let start = v.forward in let there = v.behind in
        let on_value : Went size xs (Values (length items) ∷ []) (Values (length items + 1) ∷ []) depth next after =
        took size xs (Values (length items)) (expression ++ Values (length items + 1) ∷ []) (Values (length items + 1) ∷ []) kind.Comma depth next after st refl (omega arith) (counted_eight (length items + 1) (omega arith)) refl
        (subst (λ (n : ℕ). Went size xs (expression ++ Values (length items + 1) ∷ []) (Values (length items + 1) ∷ []) depth n after) behind_is
        (went_beside size xs expression [] (Values (length items + 1) ∷ []) depth behind after refl limited (within_eight (length items + 1) (omega arith)) read.0)) in
        record {
          went = went_trans size xs (expression ++ Values 1 ∷ []) (Values (length items) ∷ []) (Values (length (items ++ e ∷ [])) ∷ []) depth at next after listing.went
              (subst (λ (n : ℕ). Went size xs (Values (length items) ∷ []) (Values n ∷ []) depth next after) count on_value);
          values = record {
            first = v.first;
            others = v.others ++ e ∷ [];
            are = ap (λ (es : List Expr). es ++ e ∷ []) v.are;
            mid = v.mid;
            forward = v.forward;
            behind = omega arith;
            spelled_first = v.spelled_first;
            spelled = subst (λ (ys : List Lexeme). Spells (Listed (v.others ++ e ∷ [])) ys)
                (ap (λ (n : ℕ). piece xs v.mid next ++ st.token ∷ piece xs n after) behind_is
                ∙ ap (λ (ys : List Lexeme). piece xs v.mid next ++ ys) (sym (piece_cons xs next after st.token st.is (omega arith))) ∙ piece_join xs v.mid next after (omega arith) (omega arith))
                (value_behind v.others (piece xs v.mid next) st.token e (piece xs behind after) st.kind read.1 v.spelled);
          };
          few = omega arith;
        }

    pub value_stop_later : (behind : ℕ) (fault : ParseFault) → length items < 8 → Needed size xs kind.Comma next (Ok behind) → Stopped size xs expression depth behind fault → Stopped size xs (expression ++ Values 1 ∷ []) depth at fault
    value_stop_later behind fault room comma stop =
        let st = stands xs next kind.Comma comma.1 in
        stop_after size xs (expression ++ Values 1 ∷ []) (Values (length items) ∷ []) depth at next fault listing.went
        (took_stop size xs (Values (length items)) (expression ++ Values (length items + 1) ∷ []) kind.Comma depth next fault st refl (omega arith) (counted_eight (length items + 1) (omega arith)) refl
        (subst (λ (n : ℕ). Stopped size xs (expression ++ Values (length items + 1) ∷ []) depth n fault) comma.0
        (stop_beside size xs expression (Values (length items + 1) ∷ []) depth behind fault refl limited (within_eight (length items + 1) (omega arith)) stop)))

    pub value_many : (behind : ℕ) → 8 ≤ length items → Needed size xs kind.Comma next (Ok behind) → Stopped size xs (expression ++ Values 1 ∷ []) depth at (TooMany (offset_at size xs next))
    value_many behind full comma =
        let st = stands xs next kind.Comma comma.1 in
        stop_after size xs (expression ++ Values 1 ∷ []) (Values (length items) ∷ []) depth at next (TooMany (offset_at size xs next)) listing.went
        (too_many size xs (Values (length items)) (expression ++ Values (length items + 1) ∷ []) kind.Comma depth next st refl (omega arith) (past_eight (length items + 1) (omega arith)))

    values_skip : (o : Option TokenKind) → (o ≡ Some kind.Comma → ⊥) → skips (Values (length items)) o ≡ true
    values_skip None h = refl
    values_skip (Some kind.Comma) h = absurd (h refl)
    values_skip (Some _) h = refl

    pub values_end : (fault : ParseFault) → Needed size xs kind.Comma next (Err fault) → Went size xs (expression ++ Values 1 ∷ []) [] depth at next
    values_end fault none_ =
        went_trans size xs (expression ++ Values 1 ∷ []) (Values (length items) ∷ []) [] depth at next next listing.went
        (skipped size xs (Values (length items)) depth next listing.went.within (values_skip (kind_at xs next) none_.1))

  -- the frames behind print
  pub print_read : (behind next : ℕ) (v : values.Values) → kind_at xs at ≡ Some kind.Print → ReadsValues size xs depth (at + 1) (Ok (v, behind)) → Needed size xs kind.Semicolon behind (Ok next)
      → ReadStatement size xs depth at (stmt.Print v, next)
  print_read behind next v is read close =
      let x = stands xs at kind.Print is in
      let z = stands xs behind kind.Semicolon close.1 in
      let es = read.1 in
      let next_is = close.0 in
      let forward = es.forward in let there = es.behind in
      let whole : piece xs at next ≡ x.token ∷ piece xs (at + 1) es.mid ++ piece xs es.mid behind ++ z.token ∷ [] =
      ap (piece xs at) next_is ∙ piece_snoc xs at behind z.token z.is (omega arith)
      ∙ ap (λ (ys : List Lexeme). ys ++ z.token ∷ []) (piece_cons xs at behind x.token x.is (omega arith) ∙ ap (λ (ys : List Lexeme). x.token ∷ ys) (sym (piece_join xs (at + 1) es.mid behind (omega arith) (omega arith)))) in (
        took size xs Sequence (expression ++ Values 1 ∷ Needs kind.Semicolon ∷ Sequence ∷ []) (Sequence ∷ []) kind.Print depth at next x refl (omega arith) refl refl
            (went_trans size xs (expression ++ Values 1 ∷ Needs kind.Semicolon ∷ Sequence ∷ []) (Needs kind.Semicolon ∷ Sequence ∷ []) (Sequence ∷ []) depth (at + 1) behind next
            (went_beside size xs (expression ++ Values 1 ∷ []) [] (Needs kind.Semicolon ∷ Sequence ∷ []) depth (at + 1) behind refl limited refl read.0)
            (went_beside size xs (Needs kind.Semicolon ∷ []) [] (Sequence ∷ []) depth behind next refl limited refl (needed size xs kind.Semicolon depth behind next (λ _. refl) limited close))),
        omega arith,
        subst (λ (s : Statement). Spells (One s) (piece xs at next)) (sym (of_print v ∙ ap Prints es.are))
            (subst (λ (ys : List Lexeme). Spells (One (Prints (es.first ∷ es.others))) ys) (sym whole) (prints x.token z.token x.kind es.spelled_first es.spelled z.kind)),
      )

  pub print_stop : (fault : ParseFault) → kind_at xs at ≡ Some kind.Print → ReadsValues size xs depth (at + 1) (Err fault) → Stopped size xs (Sequence ∷ []) depth at fault
  print_stop fault is stop =
      took_stop size xs Sequence (expression ++ Values 1 ∷ Needs kind.Semicolon ∷ Sequence ∷ []) kind.Print depth at fault (stands xs at kind.Print is) refl (omega arith) refl refl
      (stop_beside size xs (expression ++ Values 1 ∷ []) (Needs kind.Semicolon ∷ Sequence ∷ []) depth (at + 1) fault refl limited refl stop)

  pub print_open : (behind : ℕ) (v : values.Values) (fault : ParseFault) → kind_at xs at ≡ Some kind.Print → ReadsValues size xs depth (at + 1) (Ok (v, behind)) → Needed size xs kind.Semicolon behind (Err fault)
      → Stopped size xs (Sequence ∷ []) depth at fault
  print_open behind v fault is read none_ =
      took_stop size xs Sequence (expression ++ Values 1 ∷ Needs kind.Semicolon ∷ Sequence ∷ []) kind.Print depth at fault (stands xs at kind.Print is) refl (omega arith) refl refl
      (stop_after size xs (expression ++ Values 1 ∷ Needs kind.Semicolon ∷ Sequence ∷ []) (Needs kind.Semicolon ∷ Sequence ∷ []) depth (at + 1) behind fault
      (went_beside size xs (expression ++ Values 1 ∷ []) [] (Needs kind.Semicolon ∷ Sequence ∷ []) depth (at + 1) behind refl limited refl read.0)
      (stop_beside size xs (Needs kind.Semicolon ∷ []) (Sequence ∷ []) depth behind fault refl limited refl (missing size xs kind.Semicolon depth behind fault none_)))

  -- an assignment
  assign_name : (behind : ℕ) (n : Name) → ReadsName size xs at (Ok (n, behind)) → Went size xs (Second ∷ Needs kind.Assign ∷ expression ++ Needs kind.Semicolon ∷ Sequence ∷ []) (Needs kind.Assign ∷ expression ++ Needs kind.Semicolon ∷ Sequence ∷ []) depth (at + 1) behind
  assign_name behind n named = went_beside size xs (Second ∷ []) [] (Needs kind.Assign ∷ expression ++ Needs kind.Semicolon ∷ Sequence ∷ []) depth (at + 1) behind refl limited refl (named.0 depth limited)

  assign_sign : (behind inside : ℕ) → Needed size xs kind.Assign behind (Ok inside) → Went size xs (Needs kind.Assign ∷ expression ++ Needs kind.Semicolon ∷ Sequence ∷ []) (expression ++ Needs kind.Semicolon ∷ Sequence ∷ []) depth behind inside
  assign_sign behind inside sign_ = went_beside size xs (Needs kind.Assign ∷ []) [] (expression ++ Needs kind.Semicolon ∷ Sequence ∷ []) depth behind inside refl limited refl (needed size xs kind.Assign depth behind inside (λ _. refl) limited sign_)

  assign_stop_in : (fault : ParseFault) → kind_at xs at ≡ Some kind.Word → Stopped size xs (Second ∷ Needs kind.Assign ∷ expression ++ Needs kind.Semicolon ∷ Sequence ∷ []) depth (at + 1) fault → Stopped size xs (Sequence ∷ []) depth at fault
  assign_stop_in fault is stop =
      took_stop size xs Sequence (Second ∷ Needs kind.Assign ∷ expression ++ Needs kind.Semicolon ∷ Sequence ∷ []) kind.Word depth at fault (stands xs at kind.Word is) refl (omega arith) refl refl stop

  pub assign_broken : (fault : ParseFault) → kind_at xs at ≡ Some kind.Word → ReadsName size xs at (Err fault) → Stopped size xs (Sequence ∷ []) depth at fault
  assign_broken fault is named = assign_stop_in fault is (stop_beside size xs (Second ∷ []) (Needs kind.Assign ∷ expression ++ Needs kind.Semicolon ∷ Sequence ∷ []) depth (at + 1) fault refl limited refl (named depth limited))

  pub assign_bare : (behind : ℕ) (n : Name) (fault : ParseFault) → kind_at xs at ≡ Some kind.Word → ReadsName size xs at (Ok (n, behind)) → Needed size xs kind.Assign behind (Err fault) → Stopped size xs (Sequence ∷ []) depth at fault
  assign_bare behind n fault is named none_ = assign_stop_in fault is
      (stop_after size xs (Second ∷ Needs kind.Assign ∷ expression ++ Needs kind.Semicolon ∷ Sequence ∷ []) (Needs kind.Assign ∷ expression ++ Needs kind.Semicolon ∷ Sequence ∷ []) depth (at + 1) behind fault (assign_name behind n named)
      (stop_beside size xs (Needs kind.Assign ∷ []) (expression ++ Needs kind.Semicolon ∷ Sequence ∷ []) depth behind fault refl limited refl (missing size xs kind.Assign depth behind fault none_)))

  pub assign_stop : (behind inside : ℕ) (n : Name) (fault : ParseFault) → kind_at xs at ≡ Some kind.Word → ReadsName size xs at (Ok (n, behind)) → Needed size xs kind.Assign behind (Ok inside)
      → ReadsClosed size xs kind.Semicolon depth inside (Err fault) → Stopped size xs (Sequence ∷ []) depth at fault
  assign_stop behind inside n fault is named sign_ stop = assign_stop_in fault is
      (stop_after size xs (Second ∷ Needs kind.Assign ∷ expression ++ Needs kind.Semicolon ∷ Sequence ∷ []) (Needs kind.Assign ∷ expression ++ Needs kind.Semicolon ∷ Sequence ∷ []) depth (at + 1) behind fault (assign_name behind n named)
      (stop_after size xs (Needs kind.Assign ∷ expression ++ Needs kind.Semicolon ∷ Sequence ∷ []) (expression ++ Needs kind.Semicolon ∷ Sequence ∷ []) depth behind inside fault (assign_sign behind inside sign_)
      (stop_beside size xs (expression ++ Needs kind.Semicolon ∷ []) (Sequence ∷ []) depth inside fault refl limited refl (stop depth (omega arith)))))

  pub assign_read : (behind inside next : ℕ) (n : Name) (e : Expr) → kind_at xs at ≡ Some kind.Word → ReadsName size xs at (Ok (n, behind)) → Needed size xs kind.Assign behind (Ok inside)
      → ReadsClosed size xs kind.Semicolon depth inside (Ok (e, next)) → ReadStatement size xs depth at (stmt.Assign n e, next)
  assign_read behind inside next n e is named sign_ read =
      let x = stands xs at kind.Word is in
      let y = stands xs behind kind.Assign sign_.1 in
      let z = stands xs read.1.mid kind.Semicolon read.1.closed in
      let first_forward = named.1 in let inside_is = sign_.0 in let forward = read.1.forward in let next_is = read.1.behind in
      let whole : piece xs at next ≡ piece xs at behind ++ y.token ∷ piece xs inside read.1.mid ++ z.token ∷ [] =
      ap (piece xs at) next_is ∙ piece_snoc xs at read.1.mid z.token z.is (omega arith)
      ∙ ap (λ (ys : List Lexeme). ys ++ z.token ∷ []) (sym (piece_join xs at behind read.1.mid (omega arith) (omega arith))
      ∙ ap (λ (ys : List Lexeme). piece xs at behind ++ ys) (piece_cons xs behind read.1.mid y.token y.is (omega arith) ∙ ap (λ (n : ℕ). y.token ∷ piece xs n read.1.mid) (sym inside_is))) in (
        took size xs Sequence (Second ∷ Needs kind.Assign ∷ expression ++ Needs kind.Semicolon ∷ Sequence ∷ []) (Sequence ∷ []) kind.Word depth at next x refl (omega arith) refl refl
            (went_trans size xs (Second ∷ Needs kind.Assign ∷ expression ++ Needs kind.Semicolon ∷ Sequence ∷ []) (Needs kind.Assign ∷ expression ++ Needs kind.Semicolon ∷ Sequence ∷ []) (Sequence ∷ []) depth (at + 1) behind next (assign_name behind n named)
            (went_trans size xs (Needs kind.Assign ∷ expression ++ Needs kind.Semicolon ∷ Sequence ∷ []) (expression ++ Needs kind.Semicolon ∷ Sequence ∷ []) (Sequence ∷ []) depth behind inside next (assign_sign behind inside sign_)
            (went_beside size xs (expression ++ Needs kind.Semicolon ∷ []) [] (Sequence ∷ []) depth inside next refl limited refl (read.0 depth (omega arith))))),
        omega arith,
        subst (λ (s : Statement). Spells (One s) (piece xs at next)) (sym (of_assign n e))
            (subst (λ (ys : List Lexeme). Spells (One (Assigns n e)) ys) (sym whole) (assigns y.token z.token named.2 y.kind read.1.spelled z.kind)),
      )

  -- a trigger
  trigger_takes : (t : Trigger) → move Sequence (trigger_kind t) ≡ Takes (Needs kind.Word ∷ Needs kind.Semicolon ∷ Sequence ∷ [])
  trigger_takes trigger.Refine = refl
  trigger_takes trigger.Erase = refl

  trigger_small : (t : Trigger) (bytes : List ℕ) → is_too_large (trigger_kind t) bytes ≡ false
  trigger_small trigger.Refine bytes = refl
  trigger_small trigger.Erase bytes = refl

  triggers_stop_in : (t : Trigger) (fault : ParseFault) → kind_at xs at ≡ Some (trigger_kind t) → Stopped size xs (Needs kind.Word ∷ Needs kind.Semicolon ∷ Sequence ∷ []) depth (at + 1) fault → Stopped size xs (Sequence ∷ []) depth at fault
  triggers_stop_in t fault is stop =
      let x = stands xs at (trigger_kind t) is in
      took_stop size xs Sequence (Needs kind.Word ∷ Needs kind.Semicolon ∷ Sequence ∷ []) (trigger_kind t) depth at fault x (trigger_takes t) (omega arith) refl (trigger_small t x.token.bytes) stop

  pub triggers_bare : (t : Trigger) (fault : ParseFault) → kind_at xs at ≡ Some (trigger_kind t) → Needed size xs kind.Word (at + 1) (Err fault) → Stopped size xs (Sequence ∷ []) depth at fault
  triggers_bare t fault is none_ = triggers_stop_in t fault is (stop_beside size xs (Needs kind.Word ∷ []) (Needs kind.Semicolon ∷ Sequence ∷ []) depth (at + 1) fault refl limited refl (missing size xs kind.Word depth (at + 1) fault none_))

  triggers_word : (behind : ℕ) → Needed size xs kind.Word (at + 1) (Ok behind) → Went size xs (Needs kind.Word ∷ Needs kind.Semicolon ∷ Sequence ∷ []) (Needs kind.Semicolon ∷ Sequence ∷ []) depth (at + 1) behind
  triggers_word behind word = went_beside size xs (Needs kind.Word ∷ []) [] (Needs kind.Semicolon ∷ Sequence ∷ []) depth (at + 1) behind refl limited refl (needed size xs kind.Word depth (at + 1) behind (λ _. refl) limited word)

  pub triggers_open : (t : Trigger) (behind : ℕ) (fault : ParseFault) → kind_at xs at ≡ Some (trigger_kind t) → Needed size xs kind.Word (at + 1) (Ok behind) → Needed size xs kind.Semicolon behind (Err fault) → Stopped size xs (Sequence ∷ []) depth at fault
  triggers_open t behind fault is word none_ = triggers_stop_in t fault is
      (stop_after size xs (Needs kind.Word ∷ Needs kind.Semicolon ∷ Sequence ∷ []) (Needs kind.Semicolon ∷ Sequence ∷ []) depth (at + 1) behind fault (triggers_word behind word)
      (stop_beside size xs (Needs kind.Semicolon ∷ []) (Sequence ∷ []) depth behind fault refl limited refl (missing size xs kind.Semicolon depth behind fault none_)))

  pub triggers_read : (t : Trigger) (behind next : ℕ) (text : List ℕ) (start : ℕ) → kind_at xs at ≡ Some (trigger_kind t) → Needed size xs kind.Word (at + 1) (Ok behind) → Needed size xs kind.Semicolon behind (Ok next)
      → text ≡ spelled_at xs (at + 1) → start ≡ offset_at size xs (at + 1) → ReadStatement size xs depth at (stmt.Trigger t (record { text = text; at = start }), next)
  triggers_read t behind next text start is word close text_is start_is =
      let x = stands xs at (trigger_kind t) is in
      let y = stands xs (at + 1) kind.Word word.1 in
      let z = stands xs behind kind.Semicolon close.1 in
      let behind_is = word.0 in let next_is = close.0 in
      let text_here : text ≡ y.token.bytes = text_is ∙ ap bytes_in y.is in
      let start_here : start ≡ y.token.at = start_is ∙ ap (offset_in size) y.is in
      let whole : piece xs at next ≡ x.token ∷ y.token ∷ z.token ∷ [] =
      piece_cons xs at next x.token x.is (omega arith)
      ∙ ap (λ (ys : List Lexeme). x.token ∷ ys) (piece_cons xs (at + 1) next y.token y.is (omega arith)
      ∙ ap (λ (n : ℕ). y.token ∷ piece xs n next) (sym behind_is) ∙ ap (λ (n : ℕ). y.token ∷ piece xs behind n) next_is ∙ ap (λ (ys : List Lexeme). y.token ∷ ys) (piece_single xs behind z.token z.is)) in (
        took size xs Sequence (Needs kind.Word ∷ Needs kind.Semicolon ∷ Sequence ∷ []) (Sequence ∷ []) (trigger_kind t) depth at next x (trigger_takes t) (omega arith) refl (trigger_small t x.token.bytes)
            (went_trans size xs (Needs kind.Word ∷ Needs kind.Semicolon ∷ Sequence ∷ []) (Needs kind.Semicolon ∷ Sequence ∷ []) (Sequence ∷ []) depth (at + 1) behind next (triggers_word behind word)
            (went_beside size xs (Needs kind.Semicolon ∷ []) [] (Sequence ∷ []) depth behind next refl limited refl (needed size xs kind.Semicolon depth behind next (λ _. refl) limited close))),
        omega arith,
        subst (λ (s : Statement). Spells (One s) (piece xs at next)) (sym (of_trigger t (record { text = text; at = start })))
            (rw (whole, text_here, start_here) (triggers t x.token y.token z.token x.kind y.kind z.kind)),
      )
