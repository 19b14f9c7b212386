-- Operands, each read as its rule says: what is left open, and what the tokens spell.
use Rattle.std.proofs.Common.{◌≡◌, ℕ, ◌+◌, ◌<◌, ◌≤◌, pos, ℤ, List, [], ◌∷◌, ◌++◌, Option, Some, None, true, false, Result, Ok, Err, refl, sym, ◌∙◌, ap, subst, arith}
use Rattle.std.specs.Prelude.{nat_le}
use Rattle.std.proofs.lemmas.Bool.Decides.{nat_tests}
use Rattle.pe_lex.specs.declared.token.TokenKind.{TokenKind}
use Rattle.pe_lex.specs.declared.token.TokenKind.TheVariants as kind
use Rattle.pe_parse.specs.declared.fault.ParseFault.{ParseFault}
use Rattle.pe_parse.specs.declared.fault.ParseFault.TheVariants.{Syntax, TooDeep, Literal}
use Rattle.pe_parse.specs.declared.rank.Rank.TheVariants.{Disjunction}
use Rattle.pe_parse.specs.declared.tree.Name.{Name}
use Rattle.pe_parse.specs.declared.tree.Expr.{Expr}
use Rattle.pe_parse.specs.declared.tree.Expr.TheVariants as expr
use Rattle.pe_parse.specs.declared.tree.Prefix.{Prefix}
use Rattle.pe_parse.specs.declared.tree.Prefix.TheVariants as prefix
use Rattle.pe_parse.specs.declared.tree.Choice.{Choice}
use Rattle.pe_parse.specs.declared.tree.Choice.TheVariants as choice
use Rattle.pe_parse.specs.Lexemes.{Lexeme, kind_at, offset_at, offset_in, value_of}
use Rattle.pe_parse.specs.Grammar.{Spells, plain, dotted, Operand, Chained, number, name, prefixed, group, extreme, absolute, prefix_kind, choice_kind}
use Rattle.pe_parse.specs.Frames.{Needs, Value, Second, Ending, Pair, Single, Takes, move, expression, nesting}
use Rattle.pe_parse.specs.Faults.{is_too_large}
use Rattle.pe_parse.specs.Reading.{piece, bytes_in, spelled_at, Went, Stopped, Needed, ReadsName, ReadsAs, ReadsClosed}
use Rattle.pe_parse.proofs.TokenMoves.{stands, at_within, took, took_stop, went_here, too_deep, too_large, skips, refuses, is_refuse, skipped, refused, went_trans, went_frame, stop_after, stop_frame, needed, missing}
use Rattle.pe_parse.proofs.Pieces.{piece_cons, piece_single, piece_snoc, piece_join}

module _ (size : ℕ) (xs : List Lexeme) where
  second_skips : (o : Option TokenKind) → (o ≡ Some kind.Dot → ⊥) → skips Second o ≡ true
  second_skips None h = refl
  second_skips (Some kind.Dot) h = absurd (h refl)
  second_skips (Some _) h = refl

  -- a name of one word
  pub name_plain : (at : ℕ) (first : List ℕ) (start : ℕ) (fault : ParseFault) → kind_at xs at ≡ Some kind.Word → first ≡ spelled_at xs at → start ≡ offset_at size xs at
      → Needed size xs kind.Dot (at + 1) (Err fault) → ReadsName size xs at (Ok (record { first = first; second = None; at = start }, at + 1))
  name_plain at first start fault word first_is start_is no_dot =
      let st = stands xs at kind.Word word in
      let inside = at_within xs at st.token st.is in
      let first_here : first ≡ st.token.bytes = first_is ∙ ap bytes_in st.is in
      let start_here : start ≡ st.token.at = start_is ∙ ap (offset_in size) st.is in
      let one = piece_single xs at st.token st.is in (
        (λ depth limited. skipped size xs Second depth (at + 1) (omega arith) (second_skips (kind_at xs (at + 1)) no_dot.1)),
        omega arith,
        rw (one, first_here, start_here) (plain st.token st.kind),
      )

  -- a name of two words
  pub name_dotted : (at behind next : ℕ) (first second : List ℕ) (start : ℕ) → kind_at xs at ≡ Some kind.Word → first ≡ spelled_at xs at → start ≡ offset_at size xs at
      → Needed size xs kind.Dot (at + 1) (Ok behind) → Needed size xs kind.Word behind (Ok next) → second ≡ spelled_at xs behind
      → ReadsName size xs at (Ok (record { first = first; second = Some second; at = start }, next))
  name_dotted at behind next first second start word first_is start_is dot other second_is =
      let x = stands xs at kind.Word word in
      let y = stands xs (at + 1) kind.Dot dot.1 in
      let z = stands xs behind kind.Word other.1 in
      let behind_is = dot.0 in
      let next_is = other.0 in
      let first_here : first ≡ x.token.bytes = first_is ∙ ap bytes_in x.is in
      let second_here : second ≡ z.token.bytes = second_is ∙ ap bytes_in z.is in
      let start_here : start ≡ x.token.at = start_is ∙ ap (offset_in size) x.is in
      let all : piece xs at next ≡ x.token ∷ y.token ∷ z.token ∷ [] =
      piece_cons xs at next x.token x.is (omega arith)
      ∙ ap (λ (ys : List Lexeme). x.token ∷ ys) (piece_cons xs (at + 1) next y.token y.is (omega arith)
      ∙ ap (λ (n : ℕ). y.token ∷ piece xs n next) (sym behind_is)
      ∙ ap (λ (n : ℕ). y.token ∷ piece xs behind n) next_is ∙ ap (λ (ys : List Lexeme). y.token ∷ ys) (piece_single xs behind z.token z.is)) in (
        (λ depth limited. took size xs Second (Needs kind.Word ∷ []) [] kind.Dot depth (at + 1) next y refl (omega arith) refl refl
            (subst (λ (n : ℕ). Went size xs (Needs kind.Word ∷ []) [] depth n next) behind_is (needed size xs kind.Word depth behind next (λ _. refl) limited other))),
        omega arith,
        rw (all, first_here, second_here, start_here) (dotted x.token y.token z.token x.kind y.kind z.kind),
      )

  -- no word behind the dot
  pub name_broken : (at behind : ℕ) (fault : ParseFault) → Needed size xs kind.Dot (at + 1) (Ok behind) → Needed size xs kind.Word behind (Err fault)
      → (depth : ℕ) → depth ≤ 64 → Stopped size xs (Second ∷ []) depth (at + 1) fault
  name_broken at behind fault dot none_ depth limited =
      let y = stands xs (at + 1) kind.Dot dot.1 in
      took_stop size xs Second (Needs kind.Word ∷ []) kind.Dot depth (at + 1) fault y refl (omega arith) refl refl
      (subst (λ (n : ℕ). Stopped size xs (Needs kind.Word ∷ []) depth n fault) dot.0 (missing size xs kind.Word depth behind fault none_))

  small_number : (bytes : List ℕ) → value_of bytes ≤ 9223372036854775807 → is_too_large kind.Number bytes ≡ false
  small_number bytes h = let fits : nat_le (value_of bytes) 9223372036854775807 ≡ true = grind (arith, nat_tests) in rw fits refl

  large_number : (bytes : List ℕ) → 9223372036854775807 < value_of bytes → is_too_large kind.Number bytes ≡ true
  large_number bytes h = let over : nat_le (value_of bytes) 9223372036854775807 ≡ false = grind (arith, nat_tests) in rw over refl

  pub number_read : (at : ℕ) (n : ℤ) (depth : ℕ) → depth ≤ 64 → kind_at xs at ≡ Some kind.Number → n ≡ pos (value_of (spelled_at xs at)) → value_of (spelled_at xs at) ≤ 9223372036854775807
      → ReadsAs Operand size xs (Value ∷ []) depth at (Ok (expr.Number n, at + 1))
  number_read at n depth limited is n_is fits =
      let st = stands xs at kind.Number is in
      let inside = at_within xs at st.token st.is in
      let bytes_is : spelled_at xs at ≡ st.token.bytes = ap bytes_in st.is in
      let fits_here = subst (λ (b : List ℕ). value_of b ≤ 9223372036854775807) bytes_is fits in
      let n_here : n ≡ pos (value_of st.token.bytes) = n_is ∙ ap (λ (b : List ℕ). pos (value_of b)) bytes_is in
      let one = piece_single xs at st.token st.is in (
        took size xs Value [] [] kind.Number depth at (at + 1) st refl (omega arith) refl (small_number st.token.bytes fits_here) (went_here size xs [] depth (at + 1) (omega arith)),
        subst (λ (ys : List Lexeme). Spells (Operand (expr.Number n)) ys) (sym one) (subst (λ (m : ℤ). Spells (Operand (expr.Number m)) (st.token ∷ [])) (sym n_here) (number st.token st.kind)),
      )

  pub number_large : (at : ℕ) (depth : ℕ) → depth ≤ 64 → kind_at xs at ≡ Some kind.Number → 9223372036854775807 < value_of (spelled_at xs at) → Stopped size xs (Value ∷ []) depth at (Literal (offset_at size xs at))
  number_large at depth limited is over =
      let st = stands xs at kind.Number is in
      too_large size xs Value [] kind.Number depth at st refl (omega arith) refl (large_number st.token.bytes (subst (λ (b : List ℕ). 9223372036854775807 < value_of b) (ap bytes_in st.is) over))

  pub name_read : (at next : ℕ) (n : Name) (depth : ℕ) → depth ≤ 64 → kind_at xs at ≡ Some kind.Word → ReadsName size xs at (Ok (n, next)) → ReadsAs Operand size xs (Value ∷ []) depth at (Ok (expr.Name n, next))
  name_read at next n depth limited is read =
      let st = stands xs at kind.Word is in
      (took size xs Value (Second ∷ []) [] kind.Word depth at next st refl (omega arith) refl refl (read.0 depth limited), name read.2)

  pub name_stop : (at : ℕ) (fault : ParseFault) (depth : ℕ) → depth ≤ 64 → kind_at xs at ≡ Some kind.Word → ReadsName size xs at (Err fault) → Stopped size xs (Value ∷ []) depth at fault
  name_stop at fault depth limited is read =
      let st = stands xs at kind.Word is in
      took_stop size xs Value (Second ∷ []) kind.Word depth at fault st refl (omega arith) refl refl (read depth limited)

  -- an expression and the token that closes it
  pub closed_read : (k : TokenKind) (at behind next depth : ℕ) (e : Expr) → depth ≤ 64 → ((bytes : List ℕ) → is_too_large k bytes ≡ false)
      → ReadsAs (Chained Disjunction) size xs expression depth at (Ok (e, behind)) → Needed size xs k behind (Ok next) → ReadsClosed size xs k depth at (Ok (e, next))
  closed_read k at behind next depth e limited small read close =
      let forward = read.0.forward in (
        (λ outer deep.
            let all : nesting (Needs k ∷ []) + outer ≡ depth = omega arith in
            let inner = subst (λ (d : ℕ). Went size xs expression [] d at behind) (sym all) read.0 in
            went_trans size xs (expression ++ Needs k ∷ []) (Needs k ∷ []) [] outer at behind next
            (went_frame size xs expression [] (Needs k ∷ []) outer at behind (omega arith) refl inner)
            (needed size xs k outer behind next small (omega arith) close)),
        record { mid = behind; forward = forward; behind = close.0; spelled = read.1; closed = close.1 },
      )

  pub closed_stop : (k : TokenKind) (at depth : ℕ) (fault : ParseFault) → depth ≤ 64 → Stopped size xs expression depth at fault → ReadsClosed size xs k depth at (Err fault)
  closed_stop k at depth fault limited stop = λ outer deep.
      let all : nesting (Needs k ∷ []) + outer ≡ depth = omega arith in
      stop_frame size xs expression (Needs k ∷ []) outer at fault (omega arith) refl (subst (λ (d : ℕ). Stopped size xs expression d at fault) (sym all) stop)

  pub closed_missing : (k : TokenKind) (at behind depth : ℕ) (e : Expr) (fault : ParseFault) → depth ≤ 64
      → ReadsAs (Chained Disjunction) size xs expression depth at (Ok (e, behind)) → Needed size xs k behind (Err fault) → ReadsClosed size xs k depth at (Err fault)
  closed_missing k at behind depth e fault limited read none_ = λ outer deep.
      let all : nesting (Needs k ∷ []) + outer ≡ depth = omega arith in
      let inner = subst (λ (d : ℕ). Went size xs expression [] d at behind) (sym all) read.0 in
      stop_after size xs (expression ++ Needs k ∷ []) (Needs k ∷ []) outer at behind fault
      (went_frame size xs expression [] (Needs k ∷ []) outer at behind (omega arith) refl inner)
      (missing size xs k outer behind fault none_)

  pub group_read : (at next depth : ℕ) (e : Expr) → depth < 64 → kind_at xs at ≡ Some kind.OpenRound → ReadsClosed size xs kind.CloseRound (depth + 1) (at + 1) (Ok (e, next))
      → ReadsAs Operand size xs (Value ∷ []) depth at (Ok (e, next))
  group_read at next depth e limited is read =
      let x = stands xs at kind.OpenRound is in
      let inside = read.1 in
      let y = stands xs inside.mid kind.CloseRound inside.closed in
      let forward = inside.forward in
      let whole : piece xs at next ≡ x.token ∷ piece xs (at + 1) inside.mid ++ y.token ∷ [] =
      ap (piece xs at) inside.behind ∙ piece_snoc xs at inside.mid y.token y.is (omega arith) ∙ ap (λ (ys : List Lexeme). ys ++ y.token ∷ []) (piece_cons xs at inside.mid x.token x.is (omega arith)) in (
        took size xs Value (expression ++ Needs kind.CloseRound ∷ []) [] kind.OpenRound depth at next x refl (omega arith) refl refl (read.0 depth (omega arith)),
        subst (λ (ys : List Lexeme). Spells (Operand e) ys) (sym whole) (group x.token y.token x.kind inside.spelled y.kind),
      )

  pub group_stop : (at depth : ℕ) (fault : ParseFault) → depth < 64 → kind_at xs at ≡ Some kind.OpenRound → ReadsClosed size xs kind.CloseRound (depth + 1) (at + 1) (Err fault) → Stopped size xs (Value ∷ []) depth at fault
  group_stop at depth fault limited is read =
      let x = stands xs at kind.OpenRound is in
      took_stop size xs Value (expression ++ Needs kind.CloseRound ∷ []) kind.OpenRound depth at fault x refl (omega arith) refl refl (read depth (omega arith))

  pub group_answer : (at depth : ℕ) (answer : Result (Expr × ℕ) ParseFault) → depth < 64 → kind_at xs at ≡ Some kind.OpenRound → ReadsClosed size xs kind.CloseRound (depth + 1) (at + 1) answer
      → ReadsAs Operand size xs (Value ∷ []) depth at answer
  group_answer at depth (Ok found) limited is read = group_read at found.1 depth found.0 limited is read
  group_answer at depth (Err fault) limited is stop = group_stop at depth fault limited is stop

  pub group_deep : (at depth : ℕ) → 64 ≤ depth → kind_at xs at ≡ Some kind.OpenRound → Stopped size xs (Value ∷ []) depth at (TooDeep (offset_at size xs at))
  group_deep at depth deep is = too_deep size xs Value (expression ++ Needs kind.CloseRound ∷ []) kind.OpenRound depth at (stands xs at kind.OpenRound is) refl (omega arith)

  prefix_takes : (p : Prefix) → move Value (prefix_kind p) ≡ Takes (Value ∷ Ending ∷ [])
  prefix_takes prefix.Minus = refl
  prefix_takes prefix.Not = refl

  prefix_small : (p : Prefix) (bytes : List ℕ) → is_too_large (prefix_kind p) bytes ≡ false
  prefix_small prefix.Minus bytes = refl
  prefix_small prefix.Not bytes = refl

  ending_skips : (o : Option TokenKind) → skips Ending o ≡ true
  ending_skips None = refl
  ending_skips (Some k) = refl

  pub prefixed_read : (p : Prefix) (at next depth : ℕ) (e : Expr) → depth < 64 → kind_at xs at ≡ Some (prefix_kind p) → ReadsAs Operand size xs (Value ∷ []) (depth + 1) (at + 1) (Ok (e, next))
      → ReadsAs Operand size xs (Value ∷ []) depth at (Ok (expr.Unary p e, next))
  prefixed_read p at next depth e limited is read =
      let x = stands xs at (prefix_kind p) is in
      let deeper : depth + 1 ≡ 1 + depth = omega arith in
      let forward = read.0.forward in
      let inner = subst (λ (d : ℕ). Went size xs (Value ∷ []) [] d (at + 1) next) deeper read.0 in (
        took size xs Value (Value ∷ Ending ∷ []) [] (prefix_kind p) depth at next x (prefix_takes p) (omega arith) refl (prefix_small p x.token.bytes)
            (went_trans size xs (Value ∷ Ending ∷ []) (Ending ∷ []) [] depth (at + 1) next next
            (went_frame size xs (Value ∷ []) [] (Ending ∷ []) depth (at + 1) next (omega arith) refl inner)
            (skipped size xs Ending depth next read.0.within (ending_skips (kind_at xs next)))),
        subst (λ (ys : List Lexeme). Spells (Operand (expr.Unary p e)) ys) (sym (piece_cons xs at next x.token x.is (omega arith))) (prefixed p x.token x.kind read.1),
      )

  pub prefixed_stop : (p : Prefix) (at depth : ℕ) (fault : ParseFault) → depth < 64 → kind_at xs at ≡ Some (prefix_kind p) → Stopped size xs (Value ∷ []) (depth + 1) (at + 1) fault → Stopped size xs (Value ∷ []) depth at fault
  prefixed_stop p at depth fault limited is stop =
      let x = stands xs at (prefix_kind p) is in
      let deeper : depth + 1 ≡ 1 + depth = omega arith in
      took_stop size xs Value (Value ∷ Ending ∷ []) (prefix_kind p) depth at fault x (prefix_takes p) (omega arith) refl (prefix_small p x.token.bytes)
      (stop_frame size xs (Value ∷ []) (Ending ∷ []) depth (at + 1) fault (omega arith) refl (subst (λ (d : ℕ). Stopped size xs (Value ∷ []) d (at + 1) fault) deeper stop))

  pub prefixed_deep : (p : Prefix) (at depth : ℕ) → 64 ≤ depth → kind_at xs at ≡ Some (prefix_kind p) → Stopped size xs (Value ∷ []) depth at (TooDeep (offset_at size xs at))
  prefixed_deep p at depth deep is = too_deep size xs Value (Value ∷ Ending ∷ []) (prefix_kind p) depth at (stands xs at (prefix_kind p) is) (prefix_takes p) (omega arith)

  choice_takes : (c : Choice) → move Value (choice_kind c) ≡ Takes (Pair ∷ [])
  choice_takes choice.Min = refl
  choice_takes choice.Max = refl

  choice_small : (c : Choice) (bytes : List ℕ) → is_too_large (choice_kind c) bytes ≡ false
  choice_small choice.Min bytes = refl
  choice_small choice.Max bytes = refl

  pub extreme_read : (c : Choice) (at inside behind next depth : ℕ) (a b : Expr) → depth < 64 → kind_at xs at ≡ Some (choice_kind c) → Needed size xs kind.OpenRound (at + 1) (Ok inside)
      → ReadsClosed size xs kind.Comma (depth + 1) inside (Ok (a, behind)) → ReadsClosed size xs kind.CloseRound (depth + 1) behind (Ok (b, next))
      → ReadsAs Operand size xs (Value ∷ []) depth at (Ok (expr.Extreme c a b, next))
  extreme_read c at inside behind next depth a b limited is open_ first last =
      let x = stands xs at (choice_kind c) is in
      let o = stands xs (at + 1) kind.OpenRound open_.1 in
      let y = stands xs first.1.mid kind.Comma first.1.closed in
      let z = stands xs last.1.mid kind.CloseRound last.1.closed in
      let inside_is = open_.0 in
      let first_forward = first.1.forward in let first_behind = first.1.behind in let last_forward = last.1.forward in let last_behind = last.1.behind in
      let one : piece xs at first.1.mid ≡ x.token ∷ o.token ∷ piece xs inside first.1.mid =
      piece_cons xs at first.1.mid x.token x.is (omega arith) ∙ ap (λ (ys : List Lexeme). x.token ∷ ys) (piece_cons xs (at + 1) first.1.mid o.token o.is (omega arith)
      ∙ ap (λ (n : ℕ). o.token ∷ piece xs n first.1.mid) (sym inside_is)) in
      let two : piece xs first.1.mid last.1.mid ≡ y.token ∷ piece xs behind last.1.mid =
      piece_cons xs first.1.mid last.1.mid y.token y.is (omega arith) ∙ ap (λ (n : ℕ). y.token ∷ piece xs n last.1.mid) (sym first_behind) in
      let whole : piece xs at next ≡ x.token ∷ o.token ∷ piece xs inside first.1.mid ++ y.token ∷ piece xs behind last.1.mid ++ z.token ∷ [] =
      ap (piece xs at) last_behind ∙ piece_snoc xs at last.1.mid z.token z.is (omega arith)
      ∙ ap (λ (ys : List Lexeme). ys ++ z.token ∷ []) (sym (piece_join xs at first.1.mid last.1.mid (omega arith) (omega arith)) ∙ ap (λ (ys : List Lexeme). ys ++ piece xs first.1.mid last.1.mid) one
      ∙ ap (λ (ys : List Lexeme). (x.token ∷ o.token ∷ piece xs inside first.1.mid) ++ ys) two) in (
        took size xs Value (Pair ∷ []) [] (choice_kind c) depth at next x (choice_takes c) (omega arith) refl (choice_small c x.token.bytes)
            (took size xs Pair (expression ++ Needs kind.Comma ∷ expression ++ Needs kind.CloseRound ∷ []) [] kind.OpenRound depth (at + 1) next o refl (omega arith) refl refl
            (subst (λ (n : ℕ). Went size xs (expression ++ Needs kind.Comma ∷ expression ++ Needs kind.CloseRound ∷ []) [] depth n next) inside_is
            (went_trans size xs (expression ++ Needs kind.Comma ∷ expression ++ Needs kind.CloseRound ∷ []) (expression ++ Needs kind.CloseRound ∷ []) [] depth inside behind next
            (went_frame size xs (expression ++ Needs kind.Comma ∷ []) [] (expression ++ Needs kind.CloseRound ∷ []) depth inside behind (omega arith) refl (first.0 (1 + depth) (omega arith)))
            (last.0 depth (omega arith))))),
        subst (λ (ys : List Lexeme). Spells (Operand (expr.Extreme c a b)) ys) (sym whole) (extreme c x.token o.token y.token z.token x.kind o.kind first.1.spelled y.kind last.1.spelled z.kind),
      )

  value_refuses : (k : TokenKind) → (k ≡ kind.Number → ⊥) → (k ≡ kind.Word → ⊥) → (k ≡ kind.OpenRound → ⊥) → (k ≡ kind.Min → ⊥) → (k ≡ kind.Max → ⊥) → (k ≡ kind.Abs → ⊥) → (k ≡ kind.Minus → ⊥) → (k ≡ kind.Not → ⊥) → is_refuse (move Value k) ≡ true
  value_refuses kind.Number a b c d e f g h = absurd (a refl)
  value_refuses kind.Word a b c d e f g h = absurd (b refl)
  value_refuses kind.OpenRound a b c d e f g h = absurd (c refl)
  value_refuses kind.Min a b c d e f g h = absurd (d refl)
  value_refuses kind.Max a b c d e f g h = absurd (e refl)
  value_refuses kind.Abs a b c d e f g h = absurd (f refl)
  value_refuses kind.Minus a b c d e f g h = absurd (g refl)
  value_refuses kind.Not a b c d e f g h = absurd (h refl)
  value_refuses _ a b c d e f g h = refl

  -- no operand begins
  pub operand_none : (at depth : ℕ) (k : TokenKind) → kind_at xs at ≡ Some k → (k ≡ kind.Number → ⊥) → (k ≡ kind.Word → ⊥) → (k ≡ kind.OpenRound → ⊥) → (k ≡ kind.Min → ⊥) → (k ≡ kind.Max → ⊥) → (k ≡ kind.Abs → ⊥) → (k ≡ kind.Minus → ⊥) → (k ≡ kind.Not → ⊥)
      → Stopped size xs (Value ∷ []) depth at (Syntax (offset_at size xs at))
  operand_none at depth k is a b c d e f g h = refused size xs Value depth at (ap (refuses Value) is ∙ value_refuses k a b c d e f g h)

  pair_refuses : (o : Option TokenKind) → (o ≡ Some kind.OpenRound → ⊥) → refuses Pair o ≡ true
  pair_refuses None h = refl
  pair_refuses (Some kind.OpenRound) h = absurd (h refl)
  pair_refuses (Some _) h = refl

  single_refuses : (o : Option TokenKind) → (o ≡ Some kind.OpenRound → ⊥) → refuses Single o ≡ true
  single_refuses None h = refl
  single_refuses (Some kind.OpenRound) h = absurd (h refl)
  single_refuses (Some _) h = refl

  -- a stop behind min or max
  choice_stop : (c : Choice) (at depth : ℕ) (fault : ParseFault) → depth ≤ 64 → kind_at xs at ≡ Some (choice_kind c) → Stopped size xs (Pair ∷ []) depth (at + 1) fault → Stopped size xs (Value ∷ []) depth at fault
  choice_stop c at depth fault limited is stop =
      let x = stands xs at (choice_kind c) is in
      took_stop size xs Value (Pair ∷ []) (choice_kind c) depth at fault x (choice_takes c) (omega arith) refl (choice_small c x.token.bytes) stop

  pub extreme_bare : (c : Choice) (at depth : ℕ) (fault : ParseFault) → depth ≤ 64 → kind_at xs at ≡ Some (choice_kind c) → Needed size xs kind.OpenRound (at + 1) (Err fault) → Stopped size xs (Value ∷ []) depth at fault
  extreme_bare c at depth fault limited is none_ = choice_stop c at depth fault limited is
      (subst (λ (f : ParseFault). Stopped size xs (Pair ∷ []) depth (at + 1) f) (sym none_.0) (refused size xs Pair depth (at + 1) (pair_refuses (kind_at xs (at + 1)) none_.1)))

  pub extreme_deep : (c : Choice) (at inside depth : ℕ) → depth ≤ 64 → 64 ≤ depth → kind_at xs at ≡ Some (choice_kind c) → Needed size xs kind.OpenRound (at + 1) (Ok inside)
      → Stopped size xs (Value ∷ []) depth at (TooDeep (offset_at size xs (at + 1)))
  extreme_deep c at inside depth limited deep is open_ = choice_stop c at depth (TooDeep (offset_at size xs (at + 1))) limited is
      (too_deep size xs Pair (expression ++ Needs kind.Comma ∷ expression ++ Needs kind.CloseRound ∷ []) kind.OpenRound depth (at + 1) (stands xs (at + 1) kind.OpenRound open_.1) refl (omega arith))

  pair_stop : (c : Choice) (at inside depth : ℕ) (fault : ParseFault) → depth < 64 → kind_at xs at ≡ Some (choice_kind c) → Needed size xs kind.OpenRound (at + 1) (Ok inside)
      → Stopped size xs (expression ++ Needs kind.Comma ∷ expression ++ Needs kind.CloseRound ∷ []) depth inside fault → Stopped size xs (Value ∷ []) depth at fault
  pair_stop c at inside depth fault limited is open_ stop = choice_stop c at depth fault (omega arith) is
      (took_stop size xs Pair (expression ++ Needs kind.Comma ∷ expression ++ Needs kind.CloseRound ∷ []) kind.OpenRound depth (at + 1) fault (stands xs (at + 1) kind.OpenRound open_.1) refl (omega arith) refl refl
      (subst (λ (n : ℕ). Stopped size xs (expression ++ Needs kind.Comma ∷ expression ++ Needs kind.CloseRound ∷ []) depth n fault) open_.0 stop))

  pub extreme_first : (c : Choice) (at inside depth : ℕ) (fault : ParseFault) → depth < 64 → kind_at xs at ≡ Some (choice_kind c) → Needed size xs kind.OpenRound (at + 1) (Ok inside)
      → ReadsClosed size xs kind.Comma (depth + 1) inside (Err fault) → Stopped size xs (Value ∷ []) depth at fault
  extreme_first c at inside depth fault limited is open_ stop = pair_stop c at inside depth fault limited is open_
      (stop_frame size xs (expression ++ Needs kind.Comma ∷ []) (expression ++ Needs kind.CloseRound ∷ []) depth inside fault (omega arith) refl (stop (1 + depth) (omega arith)))

  pub extreme_second : (c : Choice) (at inside behind depth : ℕ) (a : Expr) (fault : ParseFault) → depth < 64 → kind_at xs at ≡ Some (choice_kind c) → Needed size xs kind.OpenRound (at + 1) (Ok inside)
      → ReadsClosed size xs kind.Comma (depth + 1) inside (Ok (a, behind)) → ReadsClosed size xs kind.CloseRound (depth + 1) behind (Err fault) → Stopped size xs (Value ∷ []) depth at fault
  extreme_second c at inside behind depth a fault limited is open_ first stop = pair_stop c at inside depth fault limited is open_
      (stop_after size xs (expression ++ Needs kind.Comma ∷ expression ++ Needs kind.CloseRound ∷ []) (expression ++ Needs kind.CloseRound ∷ []) depth inside behind fault
      (went_frame size xs (expression ++ Needs kind.Comma ∷ []) [] (expression ++ Needs kind.CloseRound ∷ []) depth inside behind (omega arith) refl (first.0 (1 + depth) (omega arith)))
      (stop depth (omega arith)))

  -- a stop behind abs
  single_stop : (at depth : ℕ) (fault : ParseFault) → depth ≤ 64 → kind_at xs at ≡ Some kind.Abs → Stopped size xs (Single ∷ []) depth (at + 1) fault → Stopped size xs (Value ∷ []) depth at fault
  single_stop at depth fault limited is stop = took_stop size xs Value (Single ∷ []) kind.Abs depth at fault (stands xs at kind.Abs is) refl (omega arith) refl refl stop

  pub absolute_bare : (at depth : ℕ) (fault : ParseFault) → depth ≤ 64 → kind_at xs at ≡ Some kind.Abs → Needed size xs kind.OpenRound (at + 1) (Err fault) → Stopped size xs (Value ∷ []) depth at fault
  absolute_bare at depth fault limited is none_ = single_stop at depth fault limited is
      (subst (λ (f : ParseFault). Stopped size xs (Single ∷ []) depth (at + 1) f) (sym none_.0) (refused size xs Single depth (at + 1) (single_refuses (kind_at xs (at + 1)) none_.1)))

  pub absolute_deep : (at inside depth : ℕ) → depth ≤ 64 → 64 ≤ depth → kind_at xs at ≡ Some kind.Abs → Needed size xs kind.OpenRound (at + 1) (Ok inside) → Stopped size xs (Value ∷ []) depth at (TooDeep (offset_at size xs (at + 1)))
  absolute_deep at inside depth limited deep is open_ = single_stop at depth (TooDeep (offset_at size xs (at + 1))) limited is
      (too_deep size xs Single (expression ++ Needs kind.CloseRound ∷ []) kind.OpenRound depth (at + 1) (stands xs (at + 1) kind.OpenRound open_.1) refl (omega arith))

  pub absolute_stop : (at inside depth : ℕ) (fault : ParseFault) → depth < 64 → kind_at xs at ≡ Some kind.Abs → Needed size xs kind.OpenRound (at + 1) (Ok inside)
      → ReadsClosed size xs kind.CloseRound (depth + 1) inside (Err fault) → Stopped size xs (Value ∷ []) depth at fault
  absolute_stop at inside depth fault limited is open_ stop = single_stop at depth fault (omega arith) is
      (took_stop size xs Single (expression ++ Needs kind.CloseRound ∷ []) kind.OpenRound depth (at + 1) fault (stands xs (at + 1) kind.OpenRound open_.1) refl (omega arith) refl refl
      (subst (λ (n : ℕ). Stopped size xs (expression ++ Needs kind.CloseRound ∷ []) depth n fault) open_.0 (stop depth (omega arith))))

  pub absolute_read : (at inside next depth : ℕ) (e : Expr) → depth < 64 → kind_at xs at ≡ Some kind.Abs → Needed size xs kind.OpenRound (at + 1) (Ok inside)
      → ReadsClosed size xs kind.CloseRound (depth + 1) inside (Ok (e, next)) → ReadsAs Operand size xs (Value ∷ []) depth at (Ok (expr.Abs e, next))
  absolute_read at inside next depth e limited is open_ read =
      let x = stands xs at kind.Abs is in
      let o = stands xs (at + 1) kind.OpenRound open_.1 in
      let y = stands xs read.1.mid kind.CloseRound read.1.closed in
      let inside_is = open_.0 in let forward = read.1.forward in let behind = read.1.behind in
      let whole : piece xs at next ≡ x.token ∷ o.token ∷ piece xs inside read.1.mid ++ y.token ∷ [] =
      ap (piece xs at) behind ∙ piece_snoc xs at read.1.mid y.token y.is (omega arith)
      ∙ ap (λ (ys : List Lexeme). ys ++ y.token ∷ []) (piece_cons xs at read.1.mid x.token x.is (omega arith) ∙ ap (λ (ys : List Lexeme). x.token ∷ ys) (piece_cons xs (at + 1) read.1.mid o.token o.is (omega arith)
      ∙ ap (λ (n : ℕ). o.token ∷ piece xs n read.1.mid) (sym inside_is))) in (
        took size xs Value (Single ∷ []) [] kind.Abs depth at next x refl (omega arith) refl refl
            (took size xs Single (expression ++ Needs kind.CloseRound ∷ []) [] kind.OpenRound depth (at + 1) next o refl (omega arith) refl refl
            (subst (λ (n : ℕ). Went size xs (expression ++ Needs kind.CloseRound ∷ []) [] depth n next) inside_is (read.0 depth (omega arith)))),
        subst (λ (ys : List Lexeme). Spells (Operand (expr.Abs e)) ys) (sym whole) (absolute x.token o.token y.token x.kind o.kind read.1.spelled y.kind),
      )

  pub operand_end : (at depth : ℕ) → kind_at xs at ≡ None → Stopped size xs (Value ∷ []) depth at (Syntax (offset_at size xs at))
  operand_end at depth none_ = refused size xs Value depth at (ap (refuses Value) none_)
