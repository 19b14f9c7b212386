-- What is spelled is read, tree for tree, so tokens spell one body at most.
use Rattle.std.proofs.Common.{◌≡◌, ◌==◌, ℕ, ◌+◌, ◌≤◌, suc, zero, List, [], ◌∷◌, ◌++◌, Option, Some, None, Bool, true, false, cond, refl, sym, ◌∙◌, ap, subst, append_assoc, arith}
use Rattle.pe_lex.specs.declared.token.Token.{Token}
use Rattle.pe_lex.specs.declared.token.TokenKind.{TokenKind}
use Rattle.pe_lex.specs.declared.token.TokenKind.TheVariants as kind
use Rattle.pe_parse.specs.declared.rank.Rank.{Rank}
use Rattle.pe_parse.specs.declared.rank.Rank.TheVariants.{Disjunction, Conjunction, Comparison, Sum, Product}
use Rattle.pe_parse.specs.declared.tree.Sign.{Sign}
use Rattle.pe_parse.specs.declared.tree.Prefix.{Prefix}
use Rattle.pe_parse.specs.declared.tree.Prefix.TheVariants as prefix
use Rattle.pe_parse.specs.declared.tree.Choice.{Choice}
use Rattle.pe_parse.specs.declared.tree.Choice.TheVariants as choice
use Rattle.pe_parse.specs.declared.tree.Trigger.{Trigger}
use Rattle.pe_parse.specs.declared.tree.Trigger.TheVariants as trigger
use Rattle.pe_parse.specs.declared.tree.Name.{Name}
use Rattle.pe_parse.specs.declared.tree.Expr.{Expr}
use Rattle.pe_parse.specs.declared.tree.Expr.TheVariants as expr
use Rattle.pe_parse.specs.Lexemes.{Lexeme, lexemes_of}
use Rattle.pe_parse.specs.Statements.{Statement, Statements, Assigns, Triggers, Prints, Chooses, ChoosesElse, Nothing, Then}
use Rattle.pe_parse.specs.Grammar.{Phrase, Chained, Operand, Linked, Listed, One, All, Names, plain, dotted, Spells, number, name, prefixed, group, extreme, absolute, single, chain, linked_none, linked, listed_none, listed, assigns, triggers, prints, chooses, chooses_else, nothing, then_more, MayFollow, operand_of, rank_of, sign_of, prefix_kind, choice_kind, trigger_kind}
use Rattle.pe_parse.specs.Frames.{Second, Links, Values, Otherwise, Sequence, kind_number, sign_if, same_rank, link_move}
use Rattle.pe_parse.specs.Laws.{IsTextOf}
use Rattle.pe_parse.proofs.TokenMoves.{is_skip, skips, kind_self}
use Rattle.pe_parse.proofs.Accepts.{head, AfterOperand, AfterDisjunction, After, Inside, inside_of, links_of, closing_head, linked_head, listed_head, all_head, none_left, rank_same}
use Rattle.pe_parse.proofs.Descent.{AnOperand, AChain, SomeLinks, MoreValues, AStatement, ABody, Found, and_then, Way, token, name_by, name_behind, chain_of, closed, block, prefix_behind, pair_behind, operand_by, operand_in, more_in, link_by, links, value_by, values, else_by, otherwise, triggers_behind, statement_by, body_by, deeper, reading}

-- the token that comes
token_on : (k : TokenKind) (x : Lexeme) (w : List Lexeme) → x.kind ≡ k → token k (x ∷ w) ≡ Some (x, w)
token_on k x w is = ap (λ (t : TokenKind). cond (kind_number k == kind_number t) (Some (x, w)) None) is ∙ ap (λ (b : Bool). cond b (Some (x, w)) None) (kind_self k)

-- a name, and what does not go on with it
plain_by : (k : TokenKind) (x y : Lexeme) (w : List Lexeme) → skips Second (Some k) ≡ true → name_by k x y w ≡ Some (record { first = x.bytes; second = None; at = x.at }, y ∷ w)
plain_by kind.Dot x y w h = absurd (cc)
plain_by _ x y w h = refl

plain_on : (x : Lexeme) (v : List Lexeme) → skips Second (head v) ≡ true → name_behind x v ≡ Some (record { first = x.bytes; second = None; at = x.at }, v)
plain_on x [] h = refl
plain_on x (y ∷ v) h = plain_by y.kind x y v h

dotted_on : (x y z : Lexeme) (v : List Lexeme) → y.kind ≡ kind.Dot → z.kind ≡ kind.Word → name_behind x (y ∷ z ∷ v) ≡ Some (record { first = x.bytes; second = Some z.bytes; at = x.at }, v)
dotted_on x y z v dot word = ap (λ (k : TokenKind). name_by k x y (z ∷ v)) dot ∙ ap (λ (o : Found Lexeme). and_then o (λ z w. Some (record { first = x.bytes; second = Some z.bytes; at = x.at }, w))) (token_on kind.Word z v word)

-- What tokens spell is read in so many steps, whatever may follow.
abbrev ReadIn : ℕ → Phrase → List Lexeme → Type 0
ReadIn n (Operand e) w = (v : List Lexeme) → AfterOperand (head v) → reading n AnOperand (w ++ v) ≡ Some (e, v)
ReadIn n (Chained r e) w = (v : List Lexeme) → After r (head v) → reading n (AChain r) (w ++ v) ≡ Some (e, v)
ReadIn n (Linked r ls) w = (v : List Lexeme) → After r (head v) → reading n (SomeLinks r) (w ++ v) ≡ Some (ls, v)
ReadIn n (Listed es) w = (v : List Lexeme) → AfterDisjunction (head v) → skips (Values 0) (head v) ≡ true → reading n MoreValues (w ++ v) ≡ Some (es, v)
ReadIn n (One s) w = (v : List Lexeme) → skips Otherwise (head v) ≡ true → reading n AStatement (w ++ v) ≡ Some (s, v)
ReadIn n (All ss) w = (v : List Lexeme) → skips Otherwise (head v) ≡ true → skips Sequence (head v) ≡ true → reading n ABody (w ++ v) ≡ Some (ss, v)

-- and in any number of steps from some number on
record IsRead (p : Phrase) (w : List Lexeme) : Type 0 where
  least : ℕ
  from : (n : ℕ) → least ≤ n → ReadIn n p w

one_deeper : (p : Phrase) (w : List Lexeme) (least : ℕ) → ((n : ℕ) → least ≤ n → ReadIn (suc n) p w) → (n : ℕ) → suc least ≤ n → ReadIn n p w
one_deeper p w least step zero h = absurd (omega arith)
one_deeper p w least step (suc n) h = step n (omega arith)

read_by : (p : Phrase) (w : List Lexeme) (least : ℕ) → ((n : ℕ) → least ≤ n → ReadIn (suc n) p w) → IsRead p w
read_by p w least step = record { least = suc least; from = one_deeper p w least step }

-- an expression and the token that closes it
closed_on : (way : Way) (e : Expr) (k : TokenKind) (w : List Lexeme) (y : Lexeme) (v : List Lexeme) → way (AChain Disjunction) w ≡ Some (e, y ∷ v) → y.kind ≡ k → closed way k w ≡ Some (e, v)
closed_on way e k w y v read is =
    ap (λ (o : Found Expr). and_then o (λ e w. and_then (token k w) (λ _ w. Some (e, w)))) read ∙ ap (λ (o : Found Lexeme). and_then o (λ _ w. Some (e, w))) (token_on k y v is)

block_on : (way : Way) (ss : Statements) (o : Lexeme) (w : List Lexeme) (y : Lexeme) (v : List Lexeme) → o.kind ≡ kind.OpenCurly → way ABody w ≡ Some (ss, y ∷ v) → y.kind ≡ kind.CloseCurly → block way (o ∷ w) ≡ Some (ss, v)
block_on way ss o w y v open_ read is =
    ap (λ (f : Found Lexeme). and_then f (λ _ w. and_then (way ABody w) (λ ss w. and_then (token kind.CloseCurly w) (λ _ w. Some (ss, w))))) (token_on kind.OpenCurly o w open_)
    ∙ ap (λ (f : Found Statements). and_then f (λ ss w. and_then (token kind.CloseCurly w) (λ _ w. Some (ss, w)))) read
    ∙ ap (λ (f : Found Lexeme). and_then f (λ _ w. Some (ss, w))) (token_on kind.CloseCurly y v is)

prefix_on : (way : Way) (p : Prefix) (x : Lexeme) (w : List Lexeme) → operand_by way (prefix_kind p) x w ≡ prefix_behind way p w
prefix_on way prefix.Minus x w = refl
prefix_on way prefix.Not x w = refl

choice_on : (way : Way) (c : Choice) (x : Lexeme) (w : List Lexeme) → operand_by way (choice_kind c) x w ≡ pair_behind way c w
choice_on way choice.Min x w = refl
choice_on way choice.Max x w = refl

trigger_on : (way : Way) (t : Trigger) (x : Lexeme) (w : List Lexeme) → statement_by way (trigger_kind t) x w ≡ triggers_behind t w
trigger_on way trigger.Refine x w = refl
trigger_on way trigger.Erase x w = refl

-- the two values of min or max in parentheses
pair_on : (way : Way) (c : Choice) (a b : Expr) (o : Lexeme) (w u v : List Lexeme) → o.kind ≡ kind.OpenRound → closed way kind.Comma w ≡ Some (a, u) → closed way kind.CloseRound u ≡ Some (b, v) → pair_behind way c (o ∷ w) ≡ Some (expr.Extreme c a b, v)
pair_on way c a b o w u v open_ first second =
    ap (λ (f : Found Lexeme). and_then f (λ _ w. and_then (closed way kind.Comma w) (λ a w. and_then (closed way kind.CloseRound w) (λ b w. Some (expr.Extreme c a b, w))))) (token_on kind.OpenRound o w open_)
    ∙ ap (λ (f : Found Expr). and_then f (λ a w. and_then (closed way kind.CloseRound w) (λ b w. Some (expr.Extreme c a b, w)))) first
    ∙ ap (λ (f : Found Expr). and_then f (λ b w. Some (expr.Extreme c a b, w))) second

operand_read : (r : Rank) (e : Expr) (w : List Lexeme) (n : ℕ) → ReadIn n (operand_of r e) w → (v : List Lexeme) → Inside r (head v) → operand_in (reading n) r (w ++ v) ≡ Some (e, v)
operand_read Product e w n t = t
operand_read Sum e w n t = t
operand_read Comparison e w n t = t
operand_read Conjunction e w n t = t
operand_read Disjunction e w n t = t

more_read : (r : Rank) (ls : List (Sign × Expr)) (w : List Lexeme) (n : ℕ) → MayFollow r ls → Spells (Linked r ls) w → ReadIn n (Linked r ls) w → (v : List Lexeme) → After r (head v) → more_in (reading n) r (w ++ v) ≡ Some (ls, v)
more_read Comparison ls w n may d t v after_ = ap (λ (u : List Lexeme). Some ([], u ++ v)) (none_left Comparison ls w may d) ∙ ap (λ (l : List (Sign × Expr)). Some (l, v)) (sym may)
more_read Disjunction ls w n may d t v after_ = t v after_
more_read Conjunction ls w n may d t v after_ = t v after_
more_read Sum ls w n may d t v after_ = t v after_
more_read Product ls w n may d t v after_ = t v after_

-- the sign of a link, and what is no sign of its chain
sign_on : (r : Rank) (s : Sign) (k : TokenKind) → sign_of k ≡ Some s → rank_of s ≡ r → sign_if r (sign_of k) ≡ Some s
sign_on r s k is rank = ap (sign_if r) is ∙ ap (λ (b : Bool). cond b (Some s) None) (ap (same_rank r) rank ∙ rank_same r)

unlinked_by : (way : Way) (r : Rank) (o : Option Sign) (x : Lexeme) (w : List Lexeme) → is_skip (link_move r 1 o) ≡ true → link_by way r o x w ≡ Some ([], x ∷ w)
unlinked_by way r None x w h = refl
unlinked_by way r (Some s) x w h = absurd (cc)

unlinked_on : (way : Way) (r : Rank) (v : List Lexeme) → skips (Links r 1) (head v) ≡ true → links way r v ≡ Some ([], v)
unlinked_on way r [] h = refl
unlinked_on way r (x ∷ v) h = unlinked_by way r (sign_if r (sign_of x.kind)) x v h

unlisted_by : (way : Way) (k : TokenKind) (x : Lexeme) (w : List Lexeme) → skips (Values 0) (Some k) ≡ true → value_by way k x w ≡ Some ([], x ∷ w)
unlisted_by way kind.Comma x w h = absurd (cc)
unlisted_by way _ x w h = refl

unlisted_on : (way : Way) (v : List Lexeme) → skips (Values 0) (head v) ≡ true → values way v ≡ Some ([], v)
unlisted_on way [] h = refl
unlisted_on way (x ∷ v) h = unlisted_by way x.kind x v h

no_else_by : (way : Way) (e : Expr) (ss : Statements) (k : TokenKind) (x : Lexeme) (w : List Lexeme) → skips Otherwise (Some k) ≡ true → else_by way e ss k x w ≡ Some (Chooses e ss, x ∷ w)
no_else_by way e ss kind.Else x w h = absurd (cc)
no_else_by way e ss _ x w h = refl

no_else_on : (way : Way) (e : Expr) (ss : Statements) (v : List Lexeme) → skips Otherwise (head v) ≡ true → otherwise way e ss v ≡ Some (Chooses e ss, v)
no_else_on way e ss [] h = refl
no_else_on way e ss (x ∷ v) h = no_else_by way e ss x.kind x v h

kind_begins : (x : Lexeme) (k : TokenKind) → x.kind ≡ k → skips Sequence (Some k) ≡ false → skips Sequence (Some x.kind) ≡ false
kind_begins x k is h = ap (λ (k : TokenKind). skips Sequence (Some k)) is ∙ h

trigger_begins : (t : Trigger) → skips Sequence (Some (trigger_kind t)) ≡ false
trigger_begins trigger.Refine = refl
trigger_begins trigger.Erase = refl

names_begin : (n : Name) (xs v : List Lexeme) → Names xs n → skips Sequence (head (xs ++ v)) ≡ false
names_begin n xs v (plain x word) = kind_begins x kind.Word word refl
names_begin n xs v (dotted x y z word dot other) = kind_begins x kind.Word word refl

-- a statement begins with a token that may begin one
one_begins : (s : Statement) (w v : List Lexeme) → Spells (One s) w → skips Sequence (head (w ++ v)) ≡ false
one_begins s w v (assigns y z {xs = xs} {ys = ys} {n = n} names sign_ value close) =
    subst (λ (u : List Lexeme). skips Sequence (head u) ≡ false) (sym (append_assoc (xs ++ y ∷ ys) (z ∷ []) v ∙ append_assoc xs (y ∷ ys) (z ∷ v))) (names_begin n xs (y ∷ ys ++ z ∷ v) names)
one_begins s w v (triggers t x y z is word close) = kind_begins x (trigger_kind t) is (trigger_begins t)
one_begins s w v (prints x z is first rest close) = kind_begins x kind.Print is refl
one_begins s w v (chooses x o y is condition open_ body close) = kind_begins x kind.If is refl
one_begins s w v (chooses_else x o y e p z is condition open_ body close else_ open2 body2 close2) = kind_begins x kind.If is refl

nothing_on : (way : Way) (v : List Lexeme) → skips Sequence (head v) ≡ true → deeper way ABody v ≡ Some (Nothing, v)
nothing_on way v h = ap (λ (b : Bool). body_by way b v) h

statement_on : (way : Way) (s : Statement) (ss : Statements) (w u v : List Lexeme) → skips Sequence (head w) ≡ false → way AStatement w ≡ Some (s, u) → way ABody u ≡ Some (ss, v) → deeper way ABody w ≡ Some (Then s ss, v)
statement_on way s ss w u v begins first rest =
    ap (λ (b : Bool). body_by way b w) begins
    ∙ ap (λ (o : Found Statement). and_then o (λ s w. and_then (way ABody w) (λ ss w. Some (Then s ss, w)))) first
    ∙ ap (λ (o : Found Statements). and_then o (λ ss w. Some (Then s ss, w))) rest

chain_on : (way : Way) (r : Rank) (e : Expr) (ls : List (Sign × Expr)) (w u v : List Lexeme) → operand_in way r w ≡ Some (e, u) → way (SomeLinks r) u ≡ Some (ls, v) → deeper way (AChain r) w ≡ Some (chain_of e ls, v)
chain_on way r e ls w u v first rest =
    ap (λ (o : Found Expr). and_then o (λ e w. and_then (way (SomeLinks r) w) (λ ls w. Some (chain_of e ls, w)))) first
    ∙ ap (λ (o : Found (List (Sign × Expr))). and_then o (λ ls w. Some (chain_of e ls, w))) rest

link_on : (way : Way) (r : Rank) (s : Sign) (e : Expr) (ls : List (Sign × Expr)) (x : Lexeme) (w u v : List Lexeme) → sign_of x.kind ≡ Some s → rank_of s ≡ r → operand_in way r w ≡ Some (e, u) → more_in way r u ≡ Some (ls, v)
    → deeper way (SomeLinks r) (x ∷ w) ≡ Some ((s, e) ∷ ls, v)
link_on way r s e ls x w u v is rank first rest =
    ap (λ (o : Option Sign). link_by way r o x w) (sign_on r s x.kind is rank)
    ∙ ap (λ (o : Found Expr). and_then o (λ e w. and_then (more_in way r w) (λ ls w. Some ((s, e) ∷ ls, w)))) first
    ∙ ap (λ (o : Found (List (Sign × Expr))). and_then o (λ ls w. Some ((s, e) ∷ ls, w))) rest

value_on : (way : Way) (e : Expr) (es : List Expr) (x : Lexeme) (w u v : List Lexeme) → x.kind ≡ kind.Comma → way (AChain Disjunction) w ≡ Some (e, u) → way MoreValues u ≡ Some (es, v) → deeper way MoreValues (x ∷ w) ≡ Some (e ∷ es, v)
value_on way e es x w u v is first rest =
    ap (λ (k : TokenKind). value_by way k x w) is
    ∙ ap (λ (o : Found Expr). and_then o (λ e w. and_then (way MoreValues w) (λ es w. Some (e ∷ es, w)))) first
    ∙ ap (λ (o : Found (List Expr)). and_then o (λ es w. Some (e ∷ es, w))) rest

assign_on : (way : Way) (n : Name) (e : Expr) (x y : Lexeme) (w u v : List Lexeme) → x.kind ≡ kind.Word → name_behind x w ≡ Some (n, y ∷ u) → y.kind ≡ kind.Assign → closed way kind.Semicolon u ≡ Some (e, v)
    → deeper way AStatement (x ∷ w) ≡ Some (Assigns n e, v)
assign_on way n e x y w u v is named sign_ value =
    ap (λ (k : TokenKind). statement_by way k x w) is
    ∙ ap (λ (o : Found Name). and_then o (λ n w. and_then (token kind.Assign w) (λ _ w. and_then (closed way kind.Semicolon w) (λ e w. Some (Assigns n e, w))))) named
    ∙ ap (λ (o : Found Lexeme). and_then o (λ _ w. and_then (closed way kind.Semicolon w) (λ e w. Some (Assigns n e, w)))) (token_on kind.Assign y u sign_)
    ∙ ap (λ (o : Found Expr). and_then o (λ e w. Some (Assigns n e, w))) value

triggers_on : (way : Way) (t : Trigger) (x y z : Lexeme) (v : List Lexeme) → x.kind ≡ trigger_kind t → y.kind ≡ kind.Word → z.kind ≡ kind.Semicolon → deeper way AStatement (x ∷ y ∷ z ∷ v) ≡ Some (Triggers t (record { text = y.bytes; at = y.at }), v)
triggers_on way t x y z v is word close =
    ap (λ (k : TokenKind). statement_by way k x (y ∷ z ∷ v)) is ∙ trigger_on way t x (y ∷ z ∷ v)
    ∙ ap (λ (o : Found Lexeme). and_then o (λ y w. and_then (token kind.Semicolon w) (λ _ w. Some (Triggers t (record { text = y.bytes; at = y.at }), w)))) (token_on kind.Word y (z ∷ v) word)
    ∙ ap (λ (o : Found Lexeme). and_then o (λ _ w. Some (Triggers t (record { text = y.bytes; at = y.at }), w))) (token_on kind.Semicolon z v close)

print_on : (way : Way) (e : Expr) (es : List Expr) (x z : Lexeme) (w u v : List Lexeme) → x.kind ≡ kind.Print → way (AChain Disjunction) w ≡ Some (e, u) → way MoreValues u ≡ Some (es, z ∷ v) → z.kind ≡ kind.Semicolon
    → deeper way AStatement (x ∷ w) ≡ Some (Prints (e ∷ es), v)
print_on way e es x z w u v is first rest close =
    ap (λ (k : TokenKind). statement_by way k x w) is
    ∙ ap (λ (o : Found Expr). and_then o (λ e w. and_then (way MoreValues w) (λ es w. and_then (token kind.Semicolon w) (λ _ w. Some (Prints (e ∷ es), w))))) first
    ∙ ap (λ (o : Found (List Expr)). and_then o (λ es w. and_then (token kind.Semicolon w) (λ _ w. Some (Prints (e ∷ es), w)))) rest
    ∙ ap (λ (o : Found Lexeme). and_then o (λ _ w. Some (Prints (e ∷ es), w))) (token_on kind.Semicolon z v close)

choose_on : (way : Way) (e : Expr) (ss : Statements) (s : Statement) (x : Lexeme) (w u t v : List Lexeme) → x.kind ≡ kind.If → way (AChain Disjunction) w ≡ Some (e, u) → block way u ≡ Some (ss, t) → otherwise way e ss t ≡ Some (s, v)
    → deeper way AStatement (x ∷ w) ≡ Some (s, v)
choose_on way e ss s x w u t v is condition body rest =
    ap (λ (k : TokenKind). statement_by way k x w) is
    ∙ ap (λ (o : Found Expr). and_then o (λ e w. and_then (block way w) (λ ss w. otherwise way e ss w))) condition
    ∙ ap (λ (o : Found Statements). and_then o (λ ss w. otherwise way e ss w)) body
    ∙ rest

else_on : (way : Way) (e : Expr) (ss ts : Statements) (x : Lexeme) (w v : List Lexeme) → x.kind ≡ kind.Else → block way w ≡ Some (ts, v) → otherwise way e ss (x ∷ w) ≡ Some (ChoosesElse e ss ts, v)
else_on way e ss ts x w v is body =
    ap (λ (k : TokenKind). else_by way e ss k x w) is ∙ ap (λ (o : Found Statements). and_then o (λ ts w. Some (ChoosesElse e ss ts, w))) body

-- a chain without a link
no_link : (n : ℕ) (r : Rank) (v : List Lexeme) → 1 ≤ n → After r (head v) → reading n (SomeLinks r) v ≡ Some ([], v)
no_link zero r v some after_ = absurd (omega arith)
no_link (suc n) r v some after_ = unlinked_on (reading n) r v (links_of r (head v) 1 after_)

-- statements in braces
braced : (ss : Statements) (ys : List Lexeme) (o y : Lexeme) (n : ℕ) → o.kind ≡ kind.OpenCurly → ReadIn n (All ss) ys → y.kind ≡ kind.CloseCurly → (v : List Lexeme) → block (reading n) (o ∷ ys ++ y ∷ v) ≡ Some (ss, v)
braced ss ys o y n open_ body close v =
    block_on (reading n) ss o (ys ++ y ∷ v) y v open_ (body (y ∷ v) (ap (λ (k : TokenKind). skips Otherwise (Some k)) close) (ap (λ (k : TokenKind). skips Sequence (Some k)) close)) close

-- What is spelled is read.
read : (p : Phrase) (w : List Lexeme) → Spells p w → IsRead p w
read p w (number x is) = read_by p w 0 (λ n h v after_. ap (λ (k : TokenKind). operand_by (reading n) k x v) is)
read p w (name (plain x word)) = read_by p w 0 (λ n h v after_.
    ap (λ (k : TokenKind). operand_by (reading n) k x v) word ∙ ap (λ (o : Found Name). and_then o (λ n w. Some (expr.Name n, w))) (plain_on x v after_.second))
read p w (name (dotted x y z word dot other)) = read_by p w 0 (λ n h v after_.
    ap (λ (k : TokenKind). operand_by (reading n) k x (y ∷ z ∷ v)) word ∙ ap (λ (o : Found Name). and_then o (λ n w. Some (expr.Name n, w))) (dotted_on x y z v dot other))
read p w (prefixed q x {xs = xs} {e = e} is d) =
    let t = read (Operand e) xs d in
    read_by p w t.least (λ n h v after_.
    ap (λ (k : TokenKind). operand_by (reading n) k x (xs ++ v)) is ∙ prefix_on (reading n) q x (xs ++ v)
    ∙ ap (λ (o : Found Expr). and_then o (λ e w. Some (expr.Unary q e, w))) (t.from n h v after_))
read p w (group x y {xs = xs} {e = e} open_ d close) =
    let t = read (Chained Disjunction e) xs d in
    read_by p w t.least (λ n h v after_.
    ap (λ (k : TokenKind). operand_by (reading n) k x ((xs ++ y ∷ []) ++ v)) open_
    ∙ ap (closed (reading n) kind.CloseRound) (append_assoc xs (y ∷ []) v)
    ∙ closed_on (reading n) e kind.CloseRound (xs ++ y ∷ v) y v (t.from n h (y ∷ v) (closing_head y v kind.CloseRound close refl)) close)
read p w (extreme c x o y z {xs = xs} {ys = ys} {a = a} {b = b} is open_ d comma f close) =
    let t = read (Chained Disjunction a) xs d in let s = read (Chained Disjunction b) ys f in
    read_by p w (t.least + s.least) (λ n h v after_.
    ap (λ (k : TokenKind). operand_by (reading n) k x (o ∷ (((xs ++ y ∷ ys) ++ z ∷ []) ++ v))) is ∙ choice_on (reading n) c x (o ∷ (((xs ++ y ∷ ys) ++ z ∷ []) ++ v))
    ∙ ap (λ (u : List Lexeme). pair_behind (reading n) c (o ∷ u)) (append_assoc (xs ++ y ∷ ys) (z ∷ []) v ∙ append_assoc xs (y ∷ ys) (z ∷ v))
    ∙ pair_on (reading n) c a b o (xs ++ (y ∷ ys ++ z ∷ v)) (ys ++ z ∷ v) v open_
    (closed_on (reading n) a kind.Comma (xs ++ (y ∷ ys ++ z ∷ v)) y (ys ++ z ∷ v) (t.from n (omega arith) (y ∷ ys ++ z ∷ v) (closing_head y (ys ++ z ∷ v) kind.Comma comma refl)) comma)
    (closed_on (reading n) b kind.CloseRound (ys ++ z ∷ v) z v (s.from n (omega arith) (z ∷ v) (closing_head z v kind.CloseRound close refl)) close))
read p w (absolute x o y {xs = xs} {e = e} is open_ d close) =
    let t = read (Chained Disjunction e) xs d in
    read_by p w t.least (λ n h v after_.
    ap (λ (k : TokenKind). operand_by (reading n) k x (o ∷ ((xs ++ y ∷ []) ++ v))) is
    ∙ ap (λ (f : Found Lexeme). and_then f (λ _ w. and_then (closed (reading n) kind.CloseRound w) (λ e w. Some (expr.Abs e, w)))) (token_on kind.OpenRound o ((xs ++ y ∷ []) ++ v) open_)
    ∙ ap (λ (u : List Lexeme). and_then (closed (reading n) kind.CloseRound u) (λ e w. Some (expr.Abs e, w))) (append_assoc xs (y ∷ []) v)
    ∙ ap (λ (f : Found Expr). and_then f (λ e w. Some (expr.Abs e, w)))
    (closed_on (reading n) e kind.CloseRound (xs ++ y ∷ v) y v (t.from n h (y ∷ v) (closing_head y v kind.CloseRound close refl)) close))
read p w (single r {e = e} d) =
    let t = read (operand_of r e) w d in
    read_by p w (suc t.least) (λ n h v after_.
    chain_on (reading n) r e [] (w ++ v) v v (operand_read r e w n (t.from n (omega arith)) v (inside_of r (head v) after_)) (no_link n r v (omega arith) after_))
read p w (chain r {xs = xs} {ys = ys} e {link = l} {links = ls} d f) =
    let t = read (operand_of r e) xs d in let s = read (Linked r (l ∷ ls)) ys f in
    read_by p w (t.least + s.least) (λ n h v after_.
    ap (reading (suc n) (AChain r)) (append_assoc xs ys v)
    ∙ chain_on (reading n) r e (l ∷ ls) (xs ++ (ys ++ v)) (ys ++ v) v (operand_read r e xs n (t.from n (omega arith)) (ys ++ v) (linked_head r (l ∷ ls) ys v f after_)) (s.from n (omega arith) v after_))
read p w (linked_none r) = read_by p w 0 (λ n h v after_. unlinked_on (reading n) r v (links_of r (head v) 1 after_))
read p w (linked r x s {xs = xs} {ys = ys} {e = e} {links = ls} is rank may d f) =
    let t = read (operand_of r e) xs d in let u = read (Linked r ls) ys f in
    read_by p w (t.least + u.least) (λ n h v after_.
    ap (λ (w : List Lexeme). reading (suc n) (SomeLinks r) (x ∷ w)) (append_assoc xs ys v)
    ∙ link_on (reading n) r s e ls x (xs ++ (ys ++ v)) (ys ++ v) v is rank (operand_read r e xs n (t.from n (omega arith)) (ys ++ v) (linked_head r ls ys v f after_)) (more_read r ls ys n may f (u.from n (omega arith)) v after_))
read p w listed_none = read_by p w 0 (λ n h v after_ comma. unlisted_on (reading n) v comma)
read p w (listed x {xs = xs} {ys = ys} {e = e} {es = es} is d f) =
    let t = read (Chained Disjunction e) xs d in let s = read (Listed es) ys f in
    read_by p w (t.least + s.least) (λ n h v after_ comma.
    ap (λ (w : List Lexeme). reading (suc n) MoreValues (x ∷ w)) (append_assoc xs ys v)
    ∙ value_on (reading n) e es x (xs ++ (ys ++ v)) (ys ++ v) v is (t.from n (omega arith) (ys ++ v) (listed_head es ys v f after_)) (s.from n (omega arith) v after_ comma))
read p w (assigns y z {ys = ys} {n = m} {e = e} (plain x word) sign_ d close) =
    let t = read (Chained Disjunction e) ys d in
    read_by p w t.least (λ n h v otherwise_.
    ap (λ (w : List Lexeme). reading (suc n) AStatement (x ∷ y ∷ w)) (append_assoc ys (z ∷ []) v)
    ∙ assign_on (reading n) m e x y (y ∷ ys ++ z ∷ v) (ys ++ z ∷ v) v word (plain_on x (y ∷ ys ++ z ∷ v) (ap (λ (k : TokenKind). skips Second (Some k)) sign_)) sign_
    (closed_on (reading n) e kind.Semicolon (ys ++ z ∷ v) z v (t.from n h (z ∷ v) (closing_head z v kind.Semicolon close refl)) close))
read p w (assigns y z {ys = ys} {n = m} {e = e} (dotted x a b word dot other) sign_ d close) =
    let t = read (Chained Disjunction e) ys d in
    read_by p w t.least (λ n h v otherwise_.
    ap (λ (w : List Lexeme). reading (suc n) AStatement (x ∷ a ∷ b ∷ y ∷ w)) (append_assoc ys (z ∷ []) v)
    ∙ assign_on (reading n) m e x y (a ∷ b ∷ y ∷ ys ++ z ∷ v) (ys ++ z ∷ v) v word (dotted_on x a b (y ∷ ys ++ z ∷ v) dot other) sign_
    (closed_on (reading n) e kind.Semicolon (ys ++ z ∷ v) z v (t.from n h (z ∷ v) (closing_head z v kind.Semicolon close refl)) close))
read p w (triggers t x y z is word close) = read_by p w 0 (λ n h v otherwise_. triggers_on (reading n) t x y z v is word close)
read p w (prints x z {xs = xs} {ys = ys} {e = e} {es = es} is d f close) =
    let t = read (Chained Disjunction e) xs d in let s = read (Listed es) ys f in
    read_by p w (t.least + s.least) (λ n h v otherwise_.
    ap (λ (w : List Lexeme). reading (suc n) AStatement (x ∷ w)) (append_assoc (xs ++ ys) (z ∷ []) v ∙ append_assoc xs ys (z ∷ v))
    ∙ print_on (reading n) e es x z (xs ++ (ys ++ z ∷ v)) (ys ++ z ∷ v) v is
    (t.from n (omega arith) (ys ++ z ∷ v) (listed_head es ys (z ∷ v) f (closing_head z v kind.Semicolon close refl)))
    (s.from n (omega arith) (z ∷ v) (closing_head z v kind.Semicolon close refl) (ap (λ (k : TokenKind). skips (Values 0) (Some k)) close)) close)
read p w (chooses x o y {xs = xs} {ys = ys} {e = e} {ss = ss} is d open_ f close) =
    let t = read (Chained Disjunction e) xs d in let s = read (All ss) ys f in
    read_by p w (t.least + s.least) (λ n h v otherwise_.
    ap (λ (w : List Lexeme). reading (suc n) AStatement (x ∷ w)) (append_assoc (xs ++ o ∷ ys) (y ∷ []) v ∙ append_assoc xs (o ∷ ys) (y ∷ v))
    ∙ choose_on (reading n) e ss (Chooses e ss) x (xs ++ (o ∷ ys ++ y ∷ v)) (o ∷ ys ++ y ∷ v) v v is (t.from n (omega arith) (o ∷ ys ++ y ∷ v) (closing_head o (ys ++ y ∷ v) kind.OpenCurly open_ refl))
    (braced ss ys o y n open_ (s.from n (omega arith)) close v) (no_else_on (reading n) e ss v otherwise_))
read p w (chooses_else x o y i q z {xs = xs} {ys = ys} {zs = zs} {e = e} {ss = ss} {ts = ts} is d open_ f close else_ open2 g close2) =
    let t = read (Chained Disjunction e) xs d in let s = read (All ss) ys f in let u = read (All ts) zs g in
    read_by p w (t.least + s.least + u.least) (λ n h v otherwise_.
    ap (λ (w : List Lexeme). reading (suc n) AStatement (x ∷ w))
    (append_assoc ((xs ++ o ∷ ys) ++ y ∷ i ∷ q ∷ zs) (z ∷ []) v ∙ append_assoc (xs ++ o ∷ ys) (y ∷ i ∷ q ∷ zs) (z ∷ v) ∙ append_assoc xs (o ∷ ys) (y ∷ i ∷ q ∷ zs ++ z ∷ v))
    ∙ choose_on (reading n) e ss (ChoosesElse e ss ts) x (xs ++ (o ∷ (ys ++ (y ∷ i ∷ q ∷ (zs ++ z ∷ v))))) (o ∷ (ys ++ (y ∷ i ∷ q ∷ (zs ++ z ∷ v)))) (i ∷ q ∷ zs ++ z ∷ v) v is
    (t.from n (omega arith) (o ∷ (ys ++ (y ∷ i ∷ q ∷ (zs ++ z ∷ v)))) (closing_head o (ys ++ (y ∷ i ∷ q ∷ (zs ++ z ∷ v))) kind.OpenCurly open_ refl))
    (braced ss ys o y n open_ (s.from n (omega arith)) close (i ∷ q ∷ zs ++ z ∷ v))
    (else_on (reading n) e ss ts i (q ∷ zs ++ z ∷ v) v else_ (braced ts zs q z n open2 (u.from n (omega arith)) close2 v)))
read p w nothing = read_by p w 0 (λ n h v otherwise_ none_. nothing_on (reading n) v none_)
read p w (then_more {xs = xs} {ys = ys} {s = s} {ss = ss} d f) =
    let t = read (One s) xs d in let u = read (All ss) ys f in
    read_by p w (t.least + u.least) (λ n h v otherwise_ none_.
    ap (reading (suc n) ABody) (append_assoc xs ys v)
    ∙ statement_on (reading n) s ss (xs ++ (ys ++ v)) (ys ++ v) v (one_begins s xs (ys ++ v) d) (t.from n (omega arith) (ys ++ v) (all_head ss ys v f otherwise_)) (u.from n (omega arith) v otherwise_ none_))

tree_in : Statements → Found Statements → Statements
tree_in other None = other
tree_in other (Some found) = found.0

same_body : (a b : Statements) (f : Found Statements) → f ≡ Some (a, []) → f ≡ Some (b, []) → a ≡ b
unfolding tree_in
same_body a b f h k = ap (tree_in a) (sym h ∙ k)

-- Tokens spell one body at most.
pub one_body : (w : List Lexeme) (a b : Statements) → Spells (All a) w → Spells (All b) w → a ≡ b
one_body w a b d f =
    let t = read (All a) w d in let s = read (All b) w f in
    same_body a b (reading (t.least + s.least) ABody (w ++ [])) (t.from (t.least + s.least) (omega arith) [] refl refl) (s.from (t.least + s.least) (omega arith) [] refl refl)

-- A text is that of one body at most.
pub one_tree : (text : List ℕ) (a b : Statements) → IsTextOf text a → IsTextOf text b → a ≡ b
one_tree text a b one other =
    let tokens : other.tokens ≡ one.tokens = cc (one.lexed, other.lexed) in
    one_body (lexemes_of text one.tokens) a b one.spelled (subst (λ (tokens : List Token). Spells (All b) (lexemes_of text tokens)) tokens other.spelled)
