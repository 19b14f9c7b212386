-- What is open can be completed: tokens that may come begin a body.
use Rattle.std.proofs.Common.{◌≡◌, ℕ, ◌+◌, pos, List, [], ◌∷◌, ◌++◌, Option, Some, None, Bool, true, false, cond, ◌&&◌, refl, sym, ◌∙◌, ap, subst, append_assoc, append-nil, arith}
use Rattle.std.specs.Prelude.{◌==◌}
use Rattle.std.proofs.lemmas.Bool.Decides.{nat_tests}
use Rattle.pe_lex.specs.declared.token.TokenKind.{TokenKind}
use Rattle.pe_lex.specs.declared.token.TokenKind.TheVariants as kind
use Rattle.pe_parse.specs.declared.rank.Rank.{Rank}
use Rattle.pe_parse.specs.declared.rank.Rank.TheVariants.{Disjunction, Conjunction, Comparison, Sum, Product}
use Rattle.pe_parse.specs.declared.tree.Sign.{Sign}
use Rattle.pe_parse.specs.declared.tree.Prefix.{Prefix}
use Rattle.pe_parse.specs.declared.tree.Choice.{Choice}
use Rattle.pe_parse.specs.declared.tree.Trigger.{Trigger}
use Rattle.pe_parse.specs.declared.tree.Prefix.TheVariants as prefix
use Rattle.pe_parse.specs.declared.tree.Choice.TheVariants as choice
use Rattle.pe_parse.specs.declared.tree.Trigger.TheVariants as trigger
use Rattle.pe_parse.specs.declared.tree.Expr.{Expr}
use Rattle.pe_parse.specs.declared.tree.Expr.TheVariants as expr
use Rattle.pe_parse.specs.Lexemes.{Lexeme, value_of}
use Rattle.pe_parse.specs.Statements.{Statement, Statements, Nothing, Then}
use Rattle.pe_parse.specs.Grammar.{Phrase, Chained, Operand, Linked, Listed, One, All, plain, dotted, Spells, number, name, prefixed, group, extreme, absolute, single, chain, linked_none, linked, listed_none, listed, assigns, triggers, prints, chooses, chooses_else, nothing, then_more, MayFollow, operand_of, rank_of, sign_of, prefix_kind, choice_kind, trigger_kind}
use Rattle.pe_parse.specs.Frames.{Frame, Needs, Value, Links, Second, Ending, Pair, Single, Values, Block, Otherwise, Sequence, Move, Takes, Skips, Refuses, move, moved, link_move, sign_if, same_rank, step, kind_number, operand_frames, more_links, expression, can_end, ends}
use Rattle.pe_parse.specs.Bodies.{Begins, open_next, open_after}
use Rattle.pe_parse.proofs.TokenMoves.{kind_same}
use Rattle.pe_parse.proofs.Accepts.{accepts, on_step}

-- what a frame may be filled with
data SecondFill : List Lexeme → Type 0 where
  no_second : SecondFill []
  a_second : (y z : Lexeme) → y.kind ≡ kind.Dot → z.kind ≡ kind.Word → SecondFill (y ∷ z ∷ [])

data PairFill : List Lexeme → Type 0 where
  a_pair : (o c z : Lexeme) {xs ys : List Lexeme} {a b : Expr} → o.kind ≡ kind.OpenRound → Spells (Chained Disjunction a) xs → c.kind ≡ kind.Comma → Spells (Chained Disjunction b) ys → z.kind ≡ kind.CloseRound
      → PairFill (o ∷ xs ++ c ∷ ys ++ z ∷ [])

data SingleFill : List Lexeme → Type 0 where
  a_single : (o z : Lexeme) {xs : List Lexeme} {e : Expr} → o.kind ≡ kind.OpenRound → Spells (Chained Disjunction e) xs → z.kind ≡ kind.CloseRound → SingleFill (o ∷ xs ++ z ∷ [])

data BlockFill : List Lexeme → Type 0 where
  a_block : (o z : Lexeme) {ys : List Lexeme} {ss : Statements} → o.kind ≡ kind.OpenCurly → Spells (All ss) ys → z.kind ≡ kind.CloseCurly → BlockFill (o ∷ ys ++ z ∷ [])

data OtherwiseFill : List Lexeme → Type 0 where
  no_else : OtherwiseFill []
  an_else : (i : Lexeme) {ys : List Lexeme} → i.kind ≡ kind.Else → BlockFill ys → OtherwiseFill (i ∷ ys)

data TokenFill (k : TokenKind) : List Lexeme → Type 0 where
  a_token : (x : Lexeme) → x.kind ≡ k → TokenFill k (x ∷ [])

data EmptyFill : List Lexeme → Type 0 where
  no_token : EmptyFill []

abbrev Fills : Frame → List Lexeme → Type 0
Fills (Needs k) u = TokenFill k u
Fills Value u = (e : Expr) × Spells (Operand e) u
Fills (Links r n) u = (ls : List (Sign × Expr)) × Spells (Linked r ls) u
Fills Second u = SecondFill u
Fills Ending u = EmptyFill u
Fills Pair u = PairFill u
Fills Single u = SingleFill u
Fills (Values n) u = (es : List Expr) × Spells (Listed es) u
Fills Block u = BlockFill u
Fills Otherwise u = OtherwiseFill u
Fills Sequence u = (ss : Statements) × Spells (All ss) u

-- the tokens complete what is open
data Completes : List Frame → List Lexeme → Type 0 where
  done : Completes [] []
  fill : {f : Frame} {fs : List Frame} (u : List Lexeme) {v : List Lexeme} → Fills f u → Completes fs v → Completes (f ∷ fs) (u ++ v)

-- the front of what completes the first frame, and the rest
record Split (f : Frame) (fs : List Frame) (w : List Lexeme) : Type 0 where
  front : List Lexeme
  back : List Lexeme
  whole : w ≡ front ++ back
  filled : Fills f front
  rest : Completes fs back

split : (f : Frame) (fs : List Frame) (w : List Lexeme) → Completes (f ∷ fs) w → Split f fs w
split f fs w (fill u {v = v} a b) = record { front = u; back = v; whole = refl; filled = a; rest = b }

-- an expression at the front, and the rest
record Found (p : Expr → Phrase) (fs : List Frame) (w : List Lexeme) : Type 0 where
  front : List Lexeme
  back : List Lexeme
  whole : w ≡ front ++ back
  tree : Expr
  spelled : Spells (p tree) front
  rest : Completes fs back

found_value : (fs : List Frame) (w : List Lexeme) → Completes (Value ∷ fs) w → Found Operand fs w
found_value fs w c = let s = split Value fs w c in record { front = s.front; back = s.back; whole = s.whole; tree = s.filled.0; spelled = s.filled.1; rest = s.rest }

chained_any : (r : Rank) (e : Expr) (u v : List Lexeme) (ls : List (Sign × Expr)) → Spells (operand_of r e) u → Spells (Linked r ls) v → (t : Expr) × Spells (Chained r t) (u ++ v)
chained_any r e u v [] d (linked_none r2) = (e, subst (λ (w : List Lexeme). Spells (Chained r e) w) (sym (append-nil u)) (single r d))
chained_any r e u v (l ∷ ls) d f = (expr.Chain e (l ∷ ls), chain r e d f)

found_chain : (r : Rank) (n : ℕ) (fs : List Frame) (w : List Lexeme) → Found (operand_of r) (Links r n ∷ fs) w → Found (Chained r) fs w
found_chain r n fs w found =
    let s = split (Links r n) fs found.back found.rest in
    let both = chained_any r found.tree found.front s.front s.filled.0 found.spelled s.filled.1 in
    record { front = found.front ++ s.front; back = s.back; whole = found.whole ∙ ap (λ (v : List Lexeme). found.front ++ v) s.whole ∙ sym (append_assoc found.front s.front s.back); tree = both.0; spelled = both.1; rest = s.rest }

found_operand : (r : Rank) (fs : List Frame) (w : List Lexeme) → Completes (operand_frames r ++ fs) w → Found (operand_of r) fs w
found_operand Product fs w c = found_value fs w c
found_operand Sum fs w c = found_chain Product 1 fs w (found_value (Links Product 1 ∷ fs) w c)
found_operand Comparison fs w c = found_chain Sum 1 fs w (found_chain Product 1 (Links Sum 1 ∷ fs) w (found_value (Links Product 1 ∷ Links Sum 1 ∷ fs) w c))
found_operand Conjunction fs w c = found_chain Comparison 1 fs w (found_chain Sum 1 (Links Comparison 1 ∷ fs) w (found_chain Product 1 (Links Sum 1 ∷ Links Comparison 1 ∷ fs) w (found_value (Links Product 1 ∷ Links Sum 1 ∷ Links Comparison 1 ∷ fs) w c)))
found_operand Disjunction fs w c = found_chain Conjunction 1 fs w (found_chain Comparison 1 (Links Conjunction 1 ∷ fs) w (found_chain Sum 1 (Links Comparison 1 ∷ Links Conjunction 1 ∷ fs) w
    (found_chain Product 1 (Links Sum 1 ∷ Links Comparison 1 ∷ Links Conjunction 1 ∷ fs) w (found_value (Links Product 1 ∷ Links Sum 1 ∷ Links Comparison 1 ∷ Links Conjunction 1 ∷ fs) w c))))

found_expression : (fs : List Frame) (w : List Lexeme) → Completes (expression ++ fs) w → Found (Chained Disjunction) fs w
found_expression fs w c = found_chain Disjunction 1 fs w (found_operand Disjunction (Links Disjunction 1 ∷ fs) w c)

-- a token at the front, and the rest
record FoundToken (k : TokenKind) (fs : List Frame) (w : List Lexeme) : Type 0 where
  token : Lexeme
  back : List Lexeme
  whole : w ≡ token ∷ back
  is : token.kind ≡ k
  rest : Completes fs back

token_of : (k : TokenKind) (fs : List Frame) (u v : List Lexeme) → TokenFill k u → Completes fs v → FoundToken k fs (u ++ v)
token_of k fs u v (a_token x is) c = record { token = x; back = v; whole = refl; is = is; rest = c }

found_token : (k : TokenKind) (fs : List Frame) (w : List Lexeme) → Completes (Needs k ∷ fs) w → FoundToken k fs w
found_token k fs w c =
    let s = split (Needs k) fs w c in let t = token_of k fs s.front s.back s.filled s.rest in
    record { token = t.token; back = t.back; whole = s.whole ∙ t.whole; is = t.is; rest = t.rest }

-- an expression and the token that closes it, and the rest
record FoundClosed (k : TokenKind) (fs : List Frame) (w : List Lexeme) : Type 0 where
  front : List Lexeme
  token : Lexeme
  back : List Lexeme
  whole : w ≡ front ++ token ∷ back
  tree : Expr
  spelled : Spells (Chained Disjunction tree) front
  is : token.kind ≡ k
  rest : Completes fs back

found_closed : (k : TokenKind) (fs : List Frame) (w : List Lexeme) → Completes (expression ++ Needs k ∷ fs) w → FoundClosed k fs w
found_closed k fs w c =
    let e = found_expression (Needs k ∷ fs) w c in let t = found_token k fs e.back e.rest in
    record { front = e.front; token = t.token; back = t.back; whole = e.whole ∙ ap (λ (v : List Lexeme). e.front ++ v) t.whole; tree = e.tree; spelled = e.spelled; is = t.is; rest = t.rest }

-- what was found completes a frame
filled_by : (f : Frame) (fs : List Frame) (u v w : List Lexeme) → w ≡ u ++ v → Fills f u → Completes fs v → Completes (f ∷ fs) w
filled_by f fs u v w whole a c = subst (Completes (f ∷ fs)) (sym whole) (fill u a c)

-- what a move leaves, completed, completes the frame with the token before it
abbrev Refilled : Frame → Lexeme → Move → Type 0
Refilled f x (Takes g) = (fs : List Frame) (w : List Lexeme) → Completes (g ++ fs) w → Completes (f ∷ fs) (x ∷ w)
Refilled f x Skips = (fs : List Frame) (w : List Lexeme) → Completes fs w → Completes (f ∷ fs) w
Refilled f x Refuses = Unit {0}

needs_refilled : (k : TokenKind) (x : Lexeme) (b : Bool) → (kind_number k == kind_number x.kind) ≡ b → Refilled (Needs k) x (cond b (Takes []) Refuses)
needs_refilled k x true h = λ fs w c. let same : kind_number k ≡ kind_number x.kind = grind (arith, nat_tests) in fill (x ∷ []) (a_token x (sym (kind_same k x.kind same))) c
needs_refilled k x false h = tt

word_filled : (x : Lexeme) → x.kind ≡ kind.Word → (u v : List Lexeme) (fs : List Frame) (w : List Lexeme) → w ≡ u ++ v → SecondFill u → Completes fs v → Completes (Value ∷ fs) (x ∷ w)
word_filled x is u v fs w whole no_second c = filled_by Value fs (x ∷ []) v (x ∷ w) (ap (λ (t : List Lexeme). x ∷ t) whole) (expr.Name (record { first = x.bytes; second = None; at = x.at }), name (plain x is)) c
word_filled x is u v fs w whole (a_second y z dot other) c =
    filled_by Value fs (x ∷ y ∷ z ∷ []) v (x ∷ w) (ap (λ (t : List Lexeme). x ∷ t) whole) (expr.Name (record { first = x.bytes; second = Some z.bytes; at = x.at }), name (dotted x y z is dot other)) c

pair_filled : (q : Choice) (x : Lexeme) → x.kind ≡ choice_kind q → (u v : List Lexeme) (fs : List Frame) (w : List Lexeme) → w ≡ u ++ v → PairFill u → Completes fs v → Completes (Value ∷ fs) (x ∷ w)
pair_filled q x is u v fs w whole (a_pair o y z {a = a} {b = b} open_ d comma f close) c =
    filled_by Value fs (x ∷ u) v (x ∷ w) (ap (λ (t : List Lexeme). x ∷ t) whole) (expr.Extreme q a b, extreme q x o y z is open_ d comma f close) c

single_filled : (x : Lexeme) → x.kind ≡ kind.Abs → (u v : List Lexeme) (fs : List Frame) (w : List Lexeme) → w ≡ u ++ v → SingleFill u → Completes fs v → Completes (Value ∷ fs) (x ∷ w)
single_filled x is u v fs w whole (a_single o z {e = e} open_ d close) c =
    filled_by Value fs (x ∷ u) v (x ∷ w) (ap (λ (t : List Lexeme). x ∷ t) whole) (expr.Abs e, absolute x o z is open_ d close) c

ending_none : (u v : List Lexeme) → EmptyFill u → u ++ v ≡ v
ending_none u v no_token = refl

prefix_filled : (q : Prefix) (x : Lexeme) → x.kind ≡ prefix_kind q → (fs : List Frame) (w : List Lexeme) → Completes (Value ∷ Ending ∷ fs) w → Completes (Value ∷ fs) (x ∷ w)
prefix_filled q x is fs w c =
    let d = found_value (Ending ∷ fs) w c in let s = split Ending fs d.back d.rest in
    filled_by Value fs (x ∷ d.front) s.back (x ∷ w) (ap (λ (t : List Lexeme). x ∷ t) (d.whole ∙ ap (λ (t : List Lexeme). d.front ++ t) (s.whole ∙ ending_none s.front s.back s.filled))) (expr.Unary q d.tree, prefixed q x is d.spelled) s.rest

value_refilled : (x : Lexeme) (k : TokenKind) → x.kind ≡ k → Refilled Value x (move Value k)
value_refilled x kind.Number is = λ fs w c. fill (x ∷ []) (expr.Number (pos (value_of x.bytes)), number x is) c
value_refilled x kind.Word is = λ fs w c. let s = split Second fs w c in word_filled x is s.front s.back fs w s.whole s.filled s.rest
value_refilled x kind.OpenRound is = λ fs w c. let d = found_closed kind.CloseRound fs w c in
    filled_by Value fs (x ∷ d.front ++ d.token ∷ []) d.back (x ∷ w) (ap (λ (v : List Lexeme). x ∷ v) (d.whole ∙ sym (append_assoc d.front (d.token ∷ []) d.back))) (d.tree, group x d.token is d.spelled d.is) d.rest
value_refilled x kind.Min is = λ fs w c. let s = split Pair fs w c in pair_filled choice.Min x is s.front s.back fs w s.whole s.filled s.rest
value_refilled x kind.Max is = λ fs w c. let s = split Pair fs w c in pair_filled choice.Max x is s.front s.back fs w s.whole s.filled s.rest
value_refilled x kind.Abs is = λ fs w c. let s = split Single fs w c in single_filled x is s.front s.back fs w s.whole s.filled s.rest
value_refilled x kind.Minus is = λ fs w c. prefix_filled prefix.Minus x is fs w c
value_refilled x kind.Not is = λ fs w c. prefix_filled prefix.Not x is fs w c
value_refilled x _ is = tt

second_refilled : (x : Lexeme) (k : TokenKind) → x.kind ≡ k → Refilled Second x (move Second k)
second_refilled x kind.Dot is = λ fs w c. let t = found_token kind.Word fs w c in
    filled_by Second fs (x ∷ t.token ∷ []) t.back (x ∷ w) (ap (λ (v : List Lexeme). x ∷ v) t.whole) (a_second x t.token is t.is) t.rest
second_refilled x _ is = λ fs w c. fill [] no_second c

pair_refilled : (x : Lexeme) (k : TokenKind) → x.kind ≡ k → Refilled Pair x (move Pair k)
pair_refilled x kind.OpenRound is = λ fs w c.
    let d = found_closed kind.Comma (expression ++ Needs kind.CloseRound ∷ fs) w c in
    let e = found_closed kind.CloseRound fs d.back d.rest in
    filled_by Pair fs (x ∷ d.front ++ d.token ∷ e.front ++ e.token ∷ []) e.back (x ∷ w)
    (ap (λ (v : List Lexeme). x ∷ v) (d.whole ∙ ap (λ (v : List Lexeme). d.front ++ d.token ∷ v) e.whole
    ∙ sym (append_assoc (d.front ++ d.token ∷ e.front) (e.token ∷ []) e.back ∙ append_assoc d.front (d.token ∷ e.front) (e.token ∷ e.back))))
    (a_pair x d.token e.token is d.spelled d.is e.spelled e.is) e.rest
pair_refilled x _ is = tt

single_refilled : (x : Lexeme) (k : TokenKind) → x.kind ≡ k → Refilled Single x (move Single k)
single_refilled x kind.OpenRound is = λ fs w c. let d = found_closed kind.CloseRound fs w c in
    filled_by Single fs (x ∷ d.front ++ d.token ∷ []) d.back (x ∷ w) (ap (λ (v : List Lexeme). x ∷ v) (d.whole ∙ sym (append_assoc d.front (d.token ∷ []) d.back))) (a_single x d.token is d.spelled d.is) d.rest
single_refilled x _ is = tt

values_refilled : (n : ℕ) (x : Lexeme) (k : TokenKind) → x.kind ≡ k → Refilled (Values n) x (move (Values n) k)
values_refilled n x kind.Comma is = λ fs w c.
    let d = found_expression (Values (n + 1) ∷ fs) w c in let s = split (Values (n + 1)) fs d.back d.rest in
    filled_by (Values n) fs (x ∷ d.front ++ s.front) s.back (x ∷ w) (ap (λ (v : List Lexeme). x ∷ v) (d.whole ∙ ap (λ (v : List Lexeme). d.front ++ v) s.whole ∙ sym (append_assoc d.front s.front s.back)))
    (d.tree ∷ s.filled.0, listed x is d.spelled s.filled.1) s.rest
values_refilled n x _ is = λ fs w c. fill [] ([], listed_none) c

-- statements at the front, and the rest
record FoundAll (fs : List Frame) (w : List Lexeme) : Type 0 where
  front : List Lexeme
  back : List Lexeme
  whole : w ≡ front ++ back
  trees : Statements
  spelled : Spells (All trees) front
  rest : Completes fs back

found_all : (fs : List Frame) (w : List Lexeme) → Completes (Sequence ∷ fs) w → FoundAll fs w
found_all fs w c = let s = split Sequence fs w c in record { front = s.front; back = s.back; whole = s.whole; trees = s.filled.0; spelled = s.filled.1; rest = s.rest }

block_refilled : (x : Lexeme) (k : TokenKind) → x.kind ≡ k → Refilled Block x (move Block k)
block_refilled x kind.OpenCurly is = λ fs w c.
    let d = found_all (Needs kind.CloseCurly ∷ fs) w c in let t = found_token kind.CloseCurly fs d.back d.rest in
    filled_by Block fs (x ∷ d.front ++ t.token ∷ []) t.back (x ∷ w) (ap (λ (v : List Lexeme). x ∷ v) (d.whole ∙ ap (λ (v : List Lexeme). d.front ++ v) t.whole ∙ sym (append_assoc d.front (t.token ∷ []) t.back)))
    (a_block x t.token is d.spelled t.is) t.rest
block_refilled x _ is = tt

else_refilled : (x : Lexeme) (k : TokenKind) → x.kind ≡ k → Refilled Otherwise x (move Otherwise k)
else_refilled x kind.Else is = λ fs w c. let s = split Block fs w c in filled_by Otherwise fs (x ∷ s.front) s.back (x ∷ w) (ap (λ (v : List Lexeme). x ∷ v) s.whole) (an_else x is s.filled) s.rest
else_refilled x _ is = λ fs w c. fill [] no_else c

same_rank_is : (a b : Rank) → same_rank a b ≡ true → b ≡ a
same_rank_is Disjunction Disjunction h = refl
same_rank_is Conjunction Conjunction h = refl
same_rank_is Comparison Comparison h = refl
same_rank_is Sum Sum h = refl
same_rank_is Product Product h = refl
same_rank_is _ _ h = absurd (cc)

-- the links behind one, and the rest
record FoundLinks (r : Rank) (fs : List Frame) (w : List Lexeme) : Type 0 where
  front : List Lexeme
  back : List Lexeme
  whole : w ≡ front ++ back
  links : List (Sign × Expr)
  may : MayFollow r links
  spelled : Spells (Linked r links) front
  rest : Completes fs back

found_links : (r : Rank) (n : ℕ) (fs : List Frame) (w : List Lexeme) → Completes (more_links r n ++ fs) w → FoundLinks r fs w
found_links Comparison n fs w c = record { front = []; back = w; whole = refl; links = []; may = refl; spelled = linked_none Comparison; rest = c }
found_links Disjunction n fs w c = let s = split (Links Disjunction (n + 1)) fs w c in record { front = s.front; back = s.back; whole = s.whole; links = s.filled.0; may = tt; spelled = s.filled.1; rest = s.rest }
found_links Conjunction n fs w c = let s = split (Links Conjunction (n + 1)) fs w c in record { front = s.front; back = s.back; whole = s.whole; links = s.filled.0; may = tt; spelled = s.filled.1; rest = s.rest }
found_links Sum n fs w c = let s = split (Links Sum (n + 1)) fs w c in record { front = s.front; back = s.back; whole = s.whole; links = s.filled.0; may = tt; spelled = s.filled.1; rest = s.rest }
found_links Product n fs w c = let s = split (Links Product (n + 1)) fs w c in record { front = s.front; back = s.back; whole = s.whole; links = s.filled.0; may = tt; spelled = s.filled.1; rest = s.rest }

link_refilled : (r : Rank) (n : ℕ) (x : Lexeme) (t : Sign) (b : Bool) → sign_of x.kind ≡ Some t → same_rank r (rank_of t) ≡ b → Refilled (Links r n) x (link_move r n (cond b (Some t) None))
link_refilled r n x t true is same = λ fs w c.
    let here = subst (λ (g : List Frame). Completes g w) (append_assoc (operand_frames r) (more_links r n) fs) c in
    let d = found_operand r (more_links r n ++ fs) w here in let l = found_links r n fs d.back d.rest in
    filled_by (Links r n) fs (x ∷ d.front ++ l.front) l.back (x ∷ w) (ap (λ (v : List Lexeme). x ∷ v) (d.whole ∙ ap (λ (v : List Lexeme). d.front ++ v) l.whole ∙ sym (append_assoc d.front l.front l.back)))
    ((t, d.tree) ∷ l.links, linked r x t is (same_rank_is r (rank_of t) same) l.may d.spelled l.spelled) l.rest
link_refilled r n x t false is same = λ fs w c. fill [] ([], linked_none r) c

links_refilled : (r : Rank) (n : ℕ) (x : Lexeme) (o : Option Sign) → sign_of x.kind ≡ o → Refilled (Links r n) x (link_move r n (sign_if r o))
links_refilled r n x None is = λ fs w c. fill [] ([], linked_none r) c
links_refilled r n x (Some t) is = link_refilled r n x t (same_rank r (rank_of t)) is refl

-- a statement before others
before : (fs : List Frame) (s : Statement) (u v w : List Lexeme) → w ≡ u ++ v → Spells (One s) u → Completes (Sequence ∷ fs) v → Completes (Sequence ∷ fs) w
before fs s u v w whole d c =
    let all = found_all fs v c in
    filled_by Sequence fs (u ++ all.front) all.back w (whole ∙ ap (λ (t : List Lexeme). u ++ t) all.whole ∙ sym (append_assoc u all.front all.back)) (Then s all.trees, then_more d all.spelled) all.rest

assign_filled : (x : Lexeme) → x.kind ≡ kind.Word → (u v : List Lexeme) (fs : List Frame) (w : List Lexeme) → w ≡ u ++ v → SecondFill u → Completes (Needs kind.Assign ∷ expression ++ Needs kind.Semicolon ∷ Sequence ∷ fs) v → Completes (Sequence ∷ fs) (x ∷ w)
assign_filled x is u v fs w whole no_second c =
    let t = found_token kind.Assign (expression ++ Needs kind.Semicolon ∷ Sequence ∷ fs) v c in let d = found_closed kind.Semicolon (Sequence ∷ fs) t.back t.rest in
    before fs _ (x ∷ t.token ∷ d.front ++ d.token ∷ []) d.back (x ∷ w)
    (ap (λ (l : List Lexeme). x ∷ l) (whole ∙ t.whole ∙ ap (λ (l : List Lexeme). t.token ∷ l) (d.whole ∙ sym (append_assoc d.front (d.token ∷ []) d.back))))
    (assigns t.token d.token (plain x is) t.is d.spelled d.is) d.rest
assign_filled x is u v fs w whole (a_second y z dot other) c =
    let t = found_token kind.Assign (expression ++ Needs kind.Semicolon ∷ Sequence ∷ fs) v c in let d = found_closed kind.Semicolon (Sequence ∷ fs) t.back t.rest in
    before fs _ (x ∷ y ∷ z ∷ t.token ∷ d.front ++ d.token ∷ []) d.back (x ∷ w)
    (ap (λ (l : List Lexeme). x ∷ l) (whole ∙ ap (λ (l : List Lexeme). y ∷ z ∷ l) (t.whole ∙ ap (λ (l : List Lexeme). t.token ∷ l) (d.whole ∙ sym (append_assoc d.front (d.token ∷ []) d.back)))))
    (assigns t.token d.token (dotted x y z is dot other) t.is d.spelled d.is) d.rest

triggers_filled : (q : Trigger) (x : Lexeme) → x.kind ≡ trigger_kind q → (fs : List Frame) (w : List Lexeme) → Completes (Needs kind.Word ∷ Needs kind.Semicolon ∷ Sequence ∷ fs) w → Completes (Sequence ∷ fs) (x ∷ w)
triggers_filled q x is fs w c =
    let t = found_token kind.Word (Needs kind.Semicolon ∷ Sequence ∷ fs) w c in let z = found_token kind.Semicolon (Sequence ∷ fs) t.back t.rest in
    before fs _ (x ∷ t.token ∷ z.token ∷ []) z.back (x ∷ w) (ap (λ (l : List Lexeme). x ∷ l) (t.whole ∙ ap (λ (l : List Lexeme). t.token ∷ l) z.whole)) (triggers q x t.token z.token is t.is z.is) z.rest

print_filled : (x : Lexeme) → x.kind ≡ kind.Print → (fs : List Frame) (w : List Lexeme) → Completes (expression ++ Values 1 ∷ Needs kind.Semicolon ∷ Sequence ∷ fs) w → Completes (Sequence ∷ fs) (x ∷ w)
print_filled x is fs w c =
    let d = found_expression (Values 1 ∷ Needs kind.Semicolon ∷ Sequence ∷ fs) w c in let s = split (Values 1) (Needs kind.Semicolon ∷ Sequence ∷ fs) d.back d.rest in
    let z = found_token kind.Semicolon (Sequence ∷ fs) s.back s.rest in
    before fs _ (x ∷ d.front ++ s.front ++ z.token ∷ []) z.back (x ∷ w)
    (ap (λ (l : List Lexeme). x ∷ l) (d.whole ∙ ap (λ (l : List Lexeme). d.front ++ l) (s.whole ∙ ap (λ (l : List Lexeme). s.front ++ l) z.whole)
    ∙ sym (append_assoc (d.front ++ s.front) (z.token ∷ []) z.back ∙ append_assoc d.front s.front (z.token ∷ z.back))))
    (prints x z.token is d.spelled s.filled.1 z.is) z.rest

if_filled : (x : Lexeme) → x.kind ≡ kind.If → {a : Expr} (p u v r : List Lexeme) (fs : List Frame) → Spells (Chained Disjunction a) p → BlockFill u → OtherwiseFill v → Completes (Sequence ∷ fs) r → Completes (Sequence ∷ fs) (x ∷ p ++ (u ++ (v ++ r)))
if_filled x is p u v r fs d (a_block o y {ys = ys} open_ f close) no_else c =
    before fs _ (x ∷ p ++ o ∷ ys ++ y ∷ []) r (x ∷ p ++ ((o ∷ ys ++ y ∷ []) ++ r))
    (ap (λ (l : List Lexeme). x ∷ l) (ap (λ (l : List Lexeme). p ++ l) (append_assoc (o ∷ ys) (y ∷ []) r) ∙ sym (append_assoc (p ++ o ∷ ys) (y ∷ []) r ∙ append_assoc p (o ∷ ys) (y ∷ r))))
    (chooses x o y is d open_ f close) c
if_filled x is p u v r fs d (a_block o y {ys = ys} open_ f close) (an_else i else_ (a_block q z {ys = zs} open2 g close2)) c =
    before fs _ (x ∷ p ++ o ∷ ys ++ y ∷ i ∷ q ∷ zs ++ z ∷ []) r (x ∷ p ++ ((o ∷ ys ++ y ∷ []) ++ ((i ∷ q ∷ zs ++ z ∷ []) ++ r)))
    (ap (λ (l : List Lexeme). x ∷ l) (ap (λ (l : List Lexeme). p ++ l) (append_assoc (o ∷ ys) (y ∷ []) ((i ∷ q ∷ zs ++ z ∷ []) ++ r) ∙ ap (λ (l : List Lexeme). (o ∷ ys) ++ (y ∷ l)) (append_assoc (i ∷ q ∷ zs) (z ∷ []) r))
    ∙ sym (append_assoc ((p ++ o ∷ ys) ++ y ∷ i ∷ q ∷ zs) (z ∷ []) r ∙ append_assoc (p ++ o ∷ ys) (y ∷ i ∷ q ∷ zs) (z ∷ r) ∙ append_assoc p (o ∷ ys) (y ∷ i ∷ q ∷ zs ++ z ∷ r))))
    (chooses_else x o y i q z is d open_ f close else_ open2 g close2) c

choose_filled : (x : Lexeme) → x.kind ≡ kind.If → (fs : List Frame) (w : List Lexeme) → Completes (expression ++ Block ∷ Otherwise ∷ Sequence ∷ fs) w → Completes (Sequence ∷ fs) (x ∷ w)
choose_filled x is fs w c =
    let d = found_expression (Block ∷ Otherwise ∷ Sequence ∷ fs) w c in let b = split Block (Otherwise ∷ Sequence ∷ fs) d.back d.rest in let e = split Otherwise (Sequence ∷ fs) b.back b.rest in
    subst (Completes (Sequence ∷ fs)) (sym (ap (λ (l : List Lexeme). x ∷ l) (d.whole ∙ ap (λ (l : List Lexeme). d.front ++ l) (b.whole ∙ ap (λ (l : List Lexeme). b.front ++ l) e.whole))))
    (if_filled x is d.front b.front e.front e.back fs d.spelled b.filled e.filled e.rest)

sequence_refilled : (x : Lexeme) (k : TokenKind) → x.kind ≡ k → Refilled Sequence x (move Sequence k)
sequence_refilled x kind.Word is = λ fs w c. let s = split Second (Needs kind.Assign ∷ expression ++ Needs kind.Semicolon ∷ Sequence ∷ fs) w c in assign_filled x is s.front s.back fs w s.whole s.filled s.rest
sequence_refilled x kind.Refine is = λ fs w c. triggers_filled trigger.Refine x is fs w c
sequence_refilled x kind.Erase is = λ fs w c. triggers_filled trigger.Erase x is fs w c
sequence_refilled x kind.Print is = λ fs w c. print_filled x is fs w c
sequence_refilled x kind.If is = λ fs w c. choose_filled x is fs w c
sequence_refilled x _ is = λ fs w c. fill [] (Nothing, nothing) c

refilled : (f : Frame) (x : Lexeme) → Refilled f x (move f x.kind)
refilled (Needs k) x = needs_refilled k x (kind_number k == kind_number x.kind) refl
refilled Value x = value_refilled x x.kind refl
refilled (Links r n) x = links_refilled r n x (sign_of x.kind) refl
refilled Second x = second_refilled x x.kind refl
refilled Ending x = λ fs w c. fill [] no_token c
refilled Pair x = pair_refilled x x.kind refl
refilled Single x = single_refilled x x.kind refl
refilled (Values n) x = values_refilled n x x.kind refl
refilled Block x = block_refilled x x.kind refl
refilled Otherwise x = else_refilled x x.kind refl
refilled Sequence x = sequence_refilled x x.kind refl

-- a token that may come, before what completes what is open behind it
move_completes : (f : Frame) (fs gs : List Frame) (x : Lexeme) (w : List Lexeme) (m : Move) (later : Option (List Frame)) → Refilled f x m → (later ≡ Some gs → Completes fs (x ∷ w)) → moved m fs later ≡ Some gs → Completes gs w → Completes (f ∷ fs) (x ∷ w)
move_completes f fs gs x w (Takes g) later re next h c = let same : g ++ fs ≡ gs = cc in re fs w (subst (λ (hs : List Frame). Completes hs w) (sym same) c)
move_completes f fs gs x w Skips later re next h c = re fs (x ∷ w) (next h)
move_completes f fs gs x w Refuses later re next h c = absurd (cc)

step_completes : (fs gs : List Frame) (x : Lexeme) (w : List Lexeme) → step fs x.kind ≡ Some gs → Completes gs w → Completes fs (x ∷ w)
step_completes [] gs x w h c = absurd (cc)
step_completes (f ∷ fs) gs x w h c = move_completes f fs gs x w (move f x.kind) (step fs x.kind) (refilled f x) (λ later. step_completes fs gs x w later c) h c

open_step : (fs gs : List Frame) (x : Lexeme) (xs w : List Lexeme) (o : Option (List Frame)) → step fs x.kind ≡ o → ((hs : List Frame) → open_after hs xs ≡ Some gs → Completes hs (xs ++ w)) → open_next o (λ hs. open_after hs xs) ≡ Some gs → Completes fs (x ∷ (xs ++ w))
open_step fs gs x xs w None e later h = absurd (cc)
open_step fs gs x xs w (Some hs) e later h = step_completes fs hs x (xs ++ w) e (later hs h)

open_completes : (fs gs : List Frame) (xs w : List Lexeme) → open_after fs xs ≡ Some gs → Completes gs w → Completes fs (xs ++ w)
open_completes fs gs [] w h c = let same : fs ≡ gs = cc in subst (λ (hs : List Frame). Completes hs w) (sym same) c
open_completes fs gs (x ∷ xs) w h c = open_step fs gs x xs w (step fs x.kind) refl (λ hs later. open_completes hs gs xs w later c) h

-- tokens that fill each frame
zero_token : TokenKind → Lexeme
zero_token k = record { kind = k; bytes = []; at = 0 }

zero_tree : Expr
zero_tree = expr.Number (pos (value_of []))

zero_spelled : Spells (Chained Disjunction zero_tree) (zero_token kind.Number ∷ [])
unfolding zero_tree zero_token
zero_spelled = single Disjunction (single Conjunction (single Comparison (single Sum (single Product (number (record { kind = kind.Number; bytes = []; at = 0 }) refl)))))

filler : (f : Frame) → (u : List Lexeme) × Fills f u
unfolding zero_token zero_tree
filler (Needs k) = (zero_token k ∷ [], a_token (zero_token k) refl)
filler Value = (zero_token kind.Number ∷ [], (expr.Number (pos (value_of [])), number (zero_token kind.Number) refl))
filler (Links r n) = ([], ([], linked_none r))
filler Second = ([], no_second)
filler Ending = ([], no_token)
filler Pair = (_, a_pair (zero_token kind.OpenRound) (zero_token kind.Comma) (zero_token kind.CloseRound) refl zero_spelled refl zero_spelled refl)
filler Single = (_, a_single (zero_token kind.OpenRound) (zero_token kind.CloseRound) refl zero_spelled refl)
filler (Values n) = ([], ([], listed_none))
filler Block = (_, a_block (zero_token kind.OpenCurly) (zero_token kind.CloseCurly) refl nothing refl)
filler Otherwise = ([], no_else)
filler Sequence = ([], (Nothing, nothing))

completed : (fs : List Frame) → (w : List Lexeme) × Completes fs w
completed [] = ([], done)
completed (f ∷ fs) = let a = filler f in let b = completed fs in (a.0 ++ b.0, fill a.0 a.1 b.1)

nothing_left : (w : List Lexeme) → Completes [] w → w ≡ []
nothing_left w done = refl

-- Tokens that may come begin a body.
pub begins_body : (gs : List Frame) (xs : List Lexeme) → open_after (Sequence ∷ []) xs ≡ Some gs → Begins xs
begins_body gs xs h =
    let w = completed gs in
    let all = found_all [] (xs ++ w.0) (open_completes (Sequence ∷ []) gs xs w.0 h w.1) in
    let whole : all.front ≡ xs ++ w.0 = sym (all.whole ∙ ap (λ (v : List Lexeme). all.front ++ v) (nothing_left all.back all.rest) ∙ append-nil all.front) in
    record { more = w.0; body = all.trees; spelled = subst (λ (v : List Lexeme). Spells (All all.trees) v) whole all.spelled }

-- what may end is filled by nothing
empty_fill : (f : Frame) → can_end f ≡ true → Fills f []
empty_fill (Links r n) h = ([], linked_none r)
empty_fill Second h = no_second
empty_fill Ending h = no_token
empty_fill (Values n) h = ([], listed_none)
empty_fill Otherwise h = no_else
empty_fill Sequence h = (Nothing, nothing)
empty_fill _ h = absurd (cc)

both : (a b : Bool) → (a && b) ≡ true → (a ≡ true) × (b ≡ true)
both true b h = (refl, h)
both false b h = absurd (cc)

ends_complete : (fs : List Frame) → ends fs ≡ true → Completes fs []
ends_complete [] h = done
ends_complete (f ∷ fs) h = let parts = both (can_end f) (ends fs) h in fill [] (empty_fill f parts.0) (ends_complete fs parts.1)

accept_step : (fs : List Frame) (x : Lexeme) (xs : List Lexeme) (o : Option (List Frame)) → step fs x.kind ≡ o → ((gs : List Frame) → accepts gs xs ≡ true → Completes gs xs) → on_step o (λ gs. accepts gs xs) ≡ true → Completes fs (x ∷ xs)
accept_step fs x xs None e later h = absurd (cc)
accept_step fs x xs (Some gs) e later h = step_completes fs gs x xs e (later gs h)

accepts_completes : (fs : List Frame) (xs : List Lexeme) → accepts fs xs ≡ true → Completes fs xs
accepts_completes fs [] h = ends_complete fs h
accepts_completes fs (x ∷ xs) h = accept_step fs x xs (step fs x.kind) refl (λ gs later. accepts_completes gs xs later) h

-- Tokens that are accepted are spelled.
pub accepted_body : (xs : List Lexeme) → accepts (Sequence ∷ []) xs ≡ true → (body : Statements) × Spells (All body) xs
accepted_body xs h =
    let all = found_all [] xs (accepts_completes (Sequence ∷ []) xs h) in
    let whole : all.front ≡ xs = sym (all.whole ∙ ap (λ (v : List Lexeme). all.front ++ v) (nothing_left all.back all.rest) ∙ append-nil all.front) in
    (all.trees, subst (λ (v : List Lexeme). Spells (All all.trees) v) whole all.spelled)
