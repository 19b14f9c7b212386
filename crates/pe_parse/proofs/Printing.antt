-- A body that was read is, as it is printed, spelled: token by token, without offsets.
use Rattle.std.proofs.Common.{◌≡◌, ℕ, ◌+◌, ◌*◌, ◌<◌, pos, List, [], ◌∷◌, ◌++◌, map, codes, Option, Some, None, Bool, true, false, cond, refl, sym, ◌∙◌, ap, subst, append_assoc, arith}
use Rattle.std.specs.Prelude.{◌==◌}
use Rattle.std.specs.List.{list_all}
use Rattle.std.specs.Int.Digits.{digits_of, number_from_digits, number_from_digits_after, AllBelowBase}
use Rattle.std.proofs.lemmas.Int.Digits.{number_digits_of, all_below_base_digits_of}
use Rattle.std.proofs.lemmas.Bool.Decides.{nat_tests}
use Rattle.std.proofs.lemmas.List.{map-append}
use Rattle.pe_lex.specs.declared.token.TokenKind.{TokenKind}
use Rattle.pe_lex.specs.declared.token.TokenKind.TheVariants as kind
use Rattle.pe_lex.specs.Forms.{is_digit, kind_of}
use Rattle.pe_lex.proofs.Fronts.{number_kind}
use Rattle.pe_parse.specs.declared.rank.Rank.{Rank}
use Rattle.pe_parse.specs.declared.rank.Rank.TheVariants.{Disjunction, Conjunction, Comparison, Sum, Product}
use Rattle.pe_parse.specs.declared.tree.Sign.{Sign}
use Rattle.pe_parse.specs.declared.tree.Sign.TheVariants as sign
use Rattle.pe_parse.specs.declared.tree.Prefix.{Prefix}
use Rattle.pe_parse.specs.declared.tree.Prefix.TheVariants as prefix
use Rattle.pe_parse.specs.declared.tree.Choice.{Choice}
use Rattle.pe_parse.specs.declared.tree.Choice.TheVariants as choice
use Rattle.pe_parse.specs.declared.tree.Trigger.{Trigger}
use Rattle.pe_parse.specs.declared.tree.Trigger.TheVariants as trigger
use Rattle.pe_parse.specs.declared.tree.Name.{Name}
use Rattle.pe_parse.specs.declared.tree.Expr.{Expr}
use Rattle.pe_parse.specs.declared.tree.Expr.TheVariants as expr
use Rattle.pe_parse.specs.Lexemes.{Lexeme, value_from, value_of}
use Rattle.pe_parse.specs.Statements.{Statement, Statements, Assigns, Triggers, Chooses, ChoosesElse, Then}
use Rattle.pe_parse.specs.Grammar.{Phrase, Chained, Operand, Linked, Listed, One, All, Names, plain, dotted, Spells, number, name, prefixed, group, extreme, absolute, single, chain, linked_none, linked, listed_none, listed, assigns, triggers, prints, chooses, chooses_else, nothing, then_more, MayFollow, operand_of, rank_of, sign_of, prefix_kind, choice_kind, trigger_kind}
use Rattle.pe_parse.specs.Printed.{Pieces, sign_text, prefix_text, choice_text, trigger_text, numeral, name_pieces, link_pieces, operand_step, operand_pieces, more_pieces, statement_pieces, body_pieces, unplaced_step, unplaced_expr, unplaced_statement, unplaced}
use Rattle.pe_parse.proofs.Layers.{of_number, of_name, of_unary, of_chain, of_extreme, of_abs}
use Rattle.pe_parse.proofs.Unplaced.{unplaced_links, may_follow}

-- the kind of a piece, if it is a token
abbrev pub kind_or : Option TokenKind → TokenKind
kind_or None = kind.Dot
kind_or (Some k) = k

-- the token that a piece spells, without an offset
abbrev pub lexeme_for : List ℕ → Lexeme
lexeme_for piece = record { kind = kind_or (kind_of piece); bytes = piece; at = 0 }

abbrev pub lexed : Pieces → List Lexeme
lexed pieces = map lexeme_for pieces

-- each piece is a token
abbrev pub AreTokens : Pieces → Type 0
AreTokens [] = Unit {0}
AreTokens (piece ∷ pieces) = (kind_of piece ≡ Some (kind_or (kind_of piece))) × AreTokens pieces

token_by : (piece : List ℕ) (k : TokenKind) → kind_of piece ≡ Some k → kind_of piece ≡ Some (kind_or (kind_of piece))
token_by piece k is = is ∙ ap (λ (o : Option TokenKind). Some (kind_or o)) (sym is)

kind_by : (piece : List ℕ) (k : TokenKind) → kind_of piece ≡ Some k → (lexeme_for piece).kind ≡ k
kind_by piece k is = ap kind_or is

tokens-append : (xs ys : Pieces) → AreTokens xs → AreTokens ys → AreTokens (xs ++ ys)
tokens-append [] ys a b = b
tokens-append (x ∷ xs) ys a b = (a.0, tokens-append xs ys a.1 b)

lexed-append : (xs ys : Pieces) → lexed (xs ++ ys) ≡ lexed xs ++ lexed ys
lexed-append xs ys = map-append lexeme_for xs ys

-- the kinds of what is printed
round_open : kind_of (codes "(") ≡ Some kind.OpenRound
unfolding kind_of
round_open = refl

round_close : kind_of (codes ")") ≡ Some kind.CloseRound
unfolding kind_of
round_close = refl

curly_open : kind_of (codes "{") ≡ Some kind.OpenCurly
unfolding kind_of
curly_open = refl

curly_close : kind_of (codes "}") ≡ Some kind.CloseCurly
unfolding kind_of
curly_close = refl

comma : kind_of (codes ",") ≡ Some kind.Comma
unfolding kind_of
comma = refl

semicolon : kind_of (codes ";") ≡ Some kind.Semicolon
unfolding kind_of
semicolon = refl

dot : kind_of (codes ".") ≡ Some kind.Dot
unfolding kind_of
dot = refl

equals : kind_of (codes "=") ≡ Some kind.Assign
unfolding kind_of
equals = refl

abs_word : kind_of (codes "abs") ≡ Some kind.Abs
unfolding kind_of
abs_word = refl

print_word : kind_of (codes "print") ≡ Some kind.Print
unfolding kind_of
print_word = refl

if_word : kind_of (codes "if") ≡ Some kind.If
unfolding kind_of
if_word = refl

else_word : kind_of (codes "else") ≡ Some kind.Else
unfolding kind_of
else_word = refl

prefix_is : (p : Prefix) → kind_of (prefix_text p) ≡ Some (prefix_kind p)
unfolding kind_of
prefix_is prefix.Minus = refl
prefix_is prefix.Not = refl

choice_is : (c : Choice) → kind_of (choice_text c) ≡ Some (choice_kind c)
unfolding kind_of
choice_is choice.Min = refl
choice_is choice.Max = refl

trigger_is : (t : Trigger) → kind_of (trigger_text t) ≡ Some (trigger_kind t)
unfolding kind_of
trigger_is trigger.Refine = refl
trigger_is trigger.Erase = refl

record SignKind (s : Sign) : Type 0 where
  kind : TokenKind
  text : kind_of (sign_text s) ≡ Some kind
  is : sign_of kind ≡ Some s

sign_is : (s : Sign) → SignKind s
unfolding kind_of
sign_is sign.Or = record { kind = kind.Or; text = refl; is = refl }
sign_is sign.And = record { kind = kind.And; text = refl; is = refl }
sign_is sign.Less = record { kind = kind.Less; text = refl; is = refl }
sign_is sign.LessOrEqual = record { kind = kind.LessOrEqual; text = refl; is = refl }
sign_is sign.Greater = record { kind = kind.Greater; text = refl; is = refl }
sign_is sign.GreaterOrEqual = record { kind = kind.GreaterOrEqual; text = refl; is = refl }
sign_is sign.Equal = record { kind = kind.Equal; text = refl; is = refl }
sign_is sign.NotEqual = record { kind = kind.NotEqual; text = refl; is = refl }
sign_is sign.Plus = record { kind = kind.Plus; text = refl; is = refl }
sign_is sign.Minus = record { kind = kind.Minus; text = refl; is = refl }
sign_is sign.Times = record { kind = kind.Star; text = refl; is = refl }
sign_is sign.Over = record { kind = kind.Slash; text = refl; is = refl }
sign_is sign.Modulo = record { kind = kind.Percent; text = refl; is = refl }

-- the digits of a number are a number, of that value
digit_glyph : (d : ℕ) → d < 10 → is_digit (48 + d) ≡ true
digit_glyph d h = grind (arith, nat_tests)

glyphs_digits : (ds : List ℕ) → AllBelowBase 10 ds → list_all is_digit (map (λ (d : ℕ). 48 + d) ds) ≡ true
glyphs_digits [] h = refl
glyphs_digits (d ∷ ds) h = rw (digit_glyph d h.0) (glyphs_digits ds h.1)

glyphs_value : (n : ℕ) (ds : List ℕ) → value_from n (map (λ (d : ℕ). 48 + d) ds) ≡ number_from_digits_after 10 n ds
glyphs_value n [] = refl
glyphs_value n (d ∷ ds) = ap (λ (m : ℕ). value_from m (map (λ (d : ℕ). 48 + d) ds)) (omega arith) ∙ glyphs_value (n * 10 + d) ds

record IsNumeral (n : ℕ) (piece : List ℕ) : Type 0 where
  is : kind_of piece ≡ Some kind.Number
  value : value_of piece ≡ n

digits_numeral : (n : ℕ) (ds : List ℕ) → (n ≡ 0 → ⊥) → AllBelowBase 10 ds → number_from_digits 10 ds ≡ n → IsNumeral n (map (λ (d : ℕ). 48 + d) ds)
digits_numeral n [] some below value = absurd (some (sym value))
digits_numeral n (d ∷ ds) some below value = record { is = number_kind (48 + d) (map (λ (d : ℕ). 48 + d) ds) (digit_glyph d below.0) (glyphs_digits ds below.1); value = glyphs_value 0 (d ∷ ds) ∙ value }

numeral_by : (n : ℕ) (b : Bool) → (n == 0) ≡ b → IsNumeral n (cond b (codes "0") (map (λ (d : ℕ). 48 + d) (digits_of 10 n)))
unfolding kind_of
numeral_by n true e = let none_ : n ≡ 0 = grind (arith, nat_tests) in record { is = refl; value = sym none_ }
numeral_by n false e = digits_numeral n (digits_of 10 n) (λ none_. grind (arith, nat_tests)) (all_below_base_digits_of 10 n (omega arith)) (number_digits_of 10 n (omega arith))

numeral_is : (n : ℕ) → IsNumeral n (numeral n)
numeral_is n = numeral_by n (n == 0) refl

-- tokens that were read, each of its kind
abbrev pub AreKinds : List Lexeme → Type 0
AreKinds [] = Unit {0}
AreKinds (x ∷ xs) = (kind_of x.bytes ≡ Some x.kind) × AreKinds xs

front : (xs ys : List Lexeme) → AreKinds (xs ++ ys) → AreKinds xs
front [] ys are = tt
front (x ∷ xs) ys are = (are.0, front xs ys are.1)

back : (xs ys : List Lexeme) → AreKinds (xs ++ ys) → AreKinds ys
back [] ys are = are
back (x ∷ xs) ys are = back xs ys are.1

-- The pieces are tokens, and spell the phrase.
record Prints (p : Phrase) (pieces : Pieces) : Type 0 where
  spelled : Spells p (lexed pieces)
  tokens : AreTokens pieces

-- the expression that was read of an operand or a chain is printed as an operand
abbrev IsPrinted : Phrase → Type 0
IsPrinted (Operand e) = Prints (Operand (unplaced_expr e)) (operand_pieces e)
IsPrinted (Chained r e) = Prints (Operand (unplaced_expr e)) (operand_pieces e)
IsPrinted (Linked r links) = Prints (Linked r (unplaced_links links)) (link_pieces (map (λ (link : Sign × Expr). (link.0, operand_pieces link.1)) links))
IsPrinted (Listed es) = Prints (Listed (map unplaced_expr es)) (more_pieces es)
IsPrinted (One s) = Prints (One (unplaced_statement s)) (statement_pieces s)
IsPrinted (All ss) = Prints (All (unplaced ss)) (body_pieces ss)

operand_printed : (r : Rank) (e : Expr) → IsPrinted (operand_of r e) → Prints (Operand (unplaced_expr e)) (operand_pieces e)
operand_printed Product e d = d
operand_printed Sum e d = d
operand_printed Comparison e d = d
operand_printed Conjunction e d = d
operand_printed Disjunction e d = d

-- an operand is a chain of each rank, and a chain one of the loosest
down : (r : Rank) (e : Expr) (w : List Lexeme) → Spells (Operand e) w → Spells (operand_of r e) w
down Product e w d = d
down Sum e w d = single Product d
down Comparison e w d = single Sum (single Product d)
down Conjunction e w d = single Comparison (single Sum (single Product d))
down Disjunction e w d = single Conjunction (single Comparison (single Sum (single Product d)))

up : (r : Rank) (e : Expr) (w : List Lexeme) → Spells (Chained r e) w → Spells (Chained Disjunction e) w
up Disjunction e w d = d
up Conjunction e w d = single Disjunction d
up Comparison e w d = single Disjunction (single Conjunction d)
up Sum e w d = single Disjunction (single Conjunction (single Comparison d))
up Product e w d = single Disjunction (single Conjunction (single Comparison (single Sum d)))

whole : (e : Expr) (w : List Lexeme) → Spells (Operand e) w → Spells (Chained Disjunction e) w
whole e w d = single Disjunction (down Disjunction e w d)

-- where the tree and the pieces of an operand are known
by_parts : (e t : Expr) (ps qs : Pieces) → t ≡ e → ps ≡ qs → Prints (Operand e) qs → Prints (Operand t) ps
by_parts e t ps qs tree pieces d = subst (λ (t : Expr). Prints (Operand t) ps) (sym tree) (subst (Prints (Operand e)) (sym pieces) d)

record NamePrints (n : Name) : Type 0 where
  spelled : Names (lexed (name_pieces n)) (record n { at = 0 })
  tokens : AreTokens (name_pieces n)

name_printed : (n : Name) (xs : List Lexeme) → Names xs n → AreKinds xs → NamePrints n
name_printed n xs (plain x word) are =
    let k : kind_of x.bytes ≡ Some kind.Word = are.0 ∙ ap (λ (k : TokenKind). Some k) word in
    record { spelled = plain (lexeme_for x.bytes) (kind_by x.bytes kind.Word k); tokens = (token_by x.bytes kind.Word k, tt) }
name_printed n xs (dotted x y z word dot_ other) are =
    let k : kind_of x.bytes ≡ Some kind.Word = are.0 ∙ ap (λ (k : TokenKind). Some k) word in
    let l : kind_of z.bytes ≡ Some kind.Word = are.1.1.0 ∙ ap (λ (k : TokenKind). Some k) other in
    record {
      spelled = dotted (lexeme_for x.bytes) (lexeme_for (codes ".")) (lexeme_for z.bytes) (kind_by x.bytes kind.Word k) (kind_by (codes ".") kind.Dot dot) (kind_by z.bytes kind.Word l);
      tokens = (token_by x.bytes kind.Word k, (token_by (codes ".") kind.Dot dot, (token_by z.bytes kind.Word l, tt)));
    }

number_printed : (n : ℕ) → Prints (Operand (expr.Number (pos n))) (numeral n ∷ [])
number_printed n =
    let is = (numeral_is n).is in
    record {
      spelled = subst (λ (m : ℕ). Spells (Operand (expr.Number (pos m))) (lexeme_for (numeral n) ∷ [])) (numeral_is n).value (number (lexeme_for (numeral n)) (kind_by (numeral n) kind.Number is));
      tokens = (token_by (numeral n) kind.Number is, tt);
    }

unary_printed : (p : Prefix) (e : Expr) (ps : Pieces) → Prints (Operand e) ps → Prints (Operand (expr.Unary p e)) (prefix_text p ∷ ps)
unary_printed p e ps d = record {
  spelled = prefixed p (lexeme_for (prefix_text p)) (kind_by (prefix_text p) (prefix_kind p) (prefix_is p)) d.spelled;
  tokens = (token_by (prefix_text p) (prefix_kind p) (prefix_is p), d.tokens);
}

close_round : AreTokens (codes ")" ∷ [])
close_round = (token_by (codes ")") kind.CloseRound round_close, tt)

round_printed : (e : Expr) (ps : Pieces) → Spells (Chained Disjunction e) (lexed ps) → AreTokens ps → Prints (Operand e) (codes "(" ∷ (ps ++ codes ")" ∷ []))
round_printed e ps d are = record {
  spelled = subst (λ (w : List Lexeme). Spells (Operand e) (lexeme_for (codes "(") ∷ w)) (sym (lexed-append ps (codes ")" ∷ [])))
      (group (lexeme_for (codes "(")) (lexeme_for (codes ")")) (kind_by (codes "(") kind.OpenRound round_open) d (kind_by (codes ")") kind.CloseRound round_close));
  tokens = (token_by (codes "(") kind.OpenRound round_open, tokens-append ps (codes ")" ∷ []) are close_round);
}

chain_printed : (r : Rank) (e : Expr) (link : Sign × Expr) (links : List (Sign × Expr)) (ps qs : Pieces) → Prints (Operand e) ps → Prints (Linked r (link ∷ links)) qs
    → Prints (Operand (expr.Chain e (link ∷ links))) (codes "(" ∷ (ps ++ (qs ++ codes ")" ∷ [])))
chain_printed r e link links ps qs d f =
    let t : Expr = expr.Chain e (link ∷ links) in
    subst (λ (ps : Pieces). Prints (Operand t) (codes "(" ∷ ps)) (append_assoc ps qs (codes ")" ∷ []))
    (round_printed t (ps ++ qs)
    (up r t (lexed (ps ++ qs)) (subst (Spells (Chained r t)) (sym (lexed-append ps qs)) (chain r e (down r e (lexed ps) d.spelled) f.spelled)))
    (tokens-append ps qs d.tokens f.tokens))

absolute_printed : (e : Expr) (ps : Pieces) → Prints (Operand e) ps → Prints (Operand (expr.Abs e)) (codes "abs" ∷ codes "(" ∷ (ps ++ codes ")" ∷ []))
absolute_printed e ps d = record {
  spelled = subst (λ (w : List Lexeme). Spells (Operand (expr.Abs e)) (lexeme_for (codes "abs") ∷ lexeme_for (codes "(") ∷ w)) (sym (lexed-append ps (codes ")" ∷ [])))
      (absolute (lexeme_for (codes "abs")) (lexeme_for (codes "(")) (lexeme_for (codes ")")) (kind_by (codes "abs") kind.Abs abs_word) (kind_by (codes "(") kind.OpenRound round_open) (whole e (lexed ps) d.spelled)
      (kind_by (codes ")") kind.CloseRound round_close));
  tokens = (token_by (codes "abs") kind.Abs abs_word, (token_by (codes "(") kind.OpenRound round_open, tokens-append ps (codes ")" ∷ []) d.tokens close_round));
}

-- two parts, each with a token behind it
middle : (ps qs : Pieces) (a b : List ℕ) → lexed (ps ++ (a ∷ (qs ++ b ∷ []))) ≡ (lexed ps ++ lexeme_for a ∷ lexed qs) ++ lexeme_for b ∷ []
middle ps qs a b =
    lexed-append ps (a ∷ (qs ++ b ∷ [])) ∙ ap (λ (w : List Lexeme). lexed ps ++ (lexeme_for a ∷ w)) (lexed-append qs (b ∷ [])) ∙ sym (append_assoc (lexed ps) (lexeme_for a ∷ lexed qs) (lexeme_for b ∷ []))

extreme_printed : (c : Choice) (a b : Expr) (ps qs : Pieces) → Prints (Operand a) ps → Prints (Operand b) qs → Prints (Operand (expr.Extreme c a b)) (choice_text c ∷ codes "(" ∷ (ps ++ (codes "," ∷ (qs ++ codes ")" ∷ []))))
extreme_printed c a b ps qs d f =
    let x = lexeme_for (choice_text c) in let o = lexeme_for (codes "(") in let y = lexeme_for (codes ",") in let z = lexeme_for (codes ")") in
    record {
      spelled = subst (λ (w : List Lexeme). Spells (Operand (expr.Extreme c a b)) (x ∷ o ∷ w)) (sym (middle ps qs (codes ",") (codes ")")))
          (extreme c x o y z (kind_by (choice_text c) (choice_kind c) (choice_is c)) (kind_by (codes "(") kind.OpenRound round_open) (whole a (lexed ps) d.spelled) (kind_by (codes ",") kind.Comma comma)
          (whole b (lexed qs) f.spelled) (kind_by (codes ")") kind.CloseRound round_close));
      tokens = (
        token_by (choice_text c) (choice_kind c) (choice_is c),
        (
          token_by (codes "(") kind.OpenRound round_open,
          tokens-append ps (codes "," ∷ (qs ++ codes ")" ∷ [])) d.tokens (token_by (codes ",") kind.Comma comma, tokens-append qs (codes ")" ∷ []) f.tokens close_round),
        ),
      );
    }

link_printed : (r : Rank) (s : Sign) (e : Expr) (links : List (Sign × Expr)) (ps qs : Pieces) → rank_of s ≡ r → MayFollow r links → Prints (Operand e) ps → Prints (Linked r links) qs → Prints (Linked r ((s, e) ∷ links)) (sign_text s ∷ (ps ++ qs))
link_printed r s e links ps qs rank may d f =
    let k = sign_is s in
    record {
      spelled = subst (λ (w : List Lexeme). Spells (Linked r ((s, e) ∷ links)) (lexeme_for (sign_text s) ∷ w)) (sym (lexed-append ps qs))
          (linked r (lexeme_for (sign_text s)) s (ap sign_of (kind_by (sign_text s) k.kind k.text) ∙ k.is) rank may (down r e (lexed ps) d.spelled) f.spelled);
      tokens = (token_by (sign_text s) k.kind k.text, tokens-append ps qs d.tokens f.tokens);
    }

value_printed : (e : Expr) (es : List Expr) (ps qs : Pieces) → Prints (Operand e) ps → Prints (Listed es) qs → Prints (Listed (e ∷ es)) (codes "," ∷ (ps ++ qs))
value_printed e es ps qs d f = record {
  spelled = subst (λ (w : List Lexeme). Spells (Listed (e ∷ es)) (lexeme_for (codes ",") ∷ w)) (sym (lexed-append ps qs)) (listed (lexeme_for (codes ",")) (kind_by (codes ",") kind.Comma comma) (whole e (lexed ps) d.spelled) f.spelled);
  tokens = (token_by (codes ",") kind.Comma comma, tokens-append ps qs d.tokens f.tokens);
}

assign_printed : (n : Name) (e : Expr) (ps : Pieces) → NamePrints n → Prints (Operand e) ps → Prints (One (Assigns (record n { at = 0 }) e)) (name_pieces n ++ (codes "=" ∷ (ps ++ codes ";" ∷ [])))
assign_printed n e ps names d = record {
  spelled = subst (Spells (One (Assigns (record n { at = 0 }) e))) (sym (middle (name_pieces n) ps (codes "=") (codes ";")))
      (assigns (lexeme_for (codes "=")) (lexeme_for (codes ";")) names.spelled (kind_by (codes "=") kind.Assign equals) (whole e (lexed ps) d.spelled) (kind_by (codes ";") kind.Semicolon semicolon));
  tokens = tokens-append (name_pieces n) (codes "=" ∷ (ps ++ codes ";" ∷ [])) names.tokens
      (token_by (codes "=") kind.Assign equals, tokens-append ps (codes ";" ∷ []) d.tokens (token_by (codes ";") kind.Semicolon semicolon, tt));
}

triggers_printed : (t : Trigger) (word : List ℕ) → kind_of word ≡ Some kind.Word → Prints (One (Triggers t (record { text = word; at = 0 }))) (trigger_text t ∷ word ∷ codes ";" ∷ [])
triggers_printed t word is = record {
  spelled = triggers t (lexeme_for (trigger_text t)) (lexeme_for word) (lexeme_for (codes ";")) (kind_by (trigger_text t) (trigger_kind t) (trigger_is t)) (kind_by word kind.Word is) (kind_by (codes ";") kind.Semicolon semicolon);
  tokens = (token_by (trigger_text t) (trigger_kind t) (trigger_is t), (token_by word kind.Word is, (token_by (codes ";") kind.Semicolon semicolon, tt)));
}

print_printed : (e : Expr) (es : List Expr) (ps qs : Pieces) → Prints (Operand e) ps → Prints (Listed es) qs → Prints (One (Statement.Prints (e ∷ es))) (codes "print" ∷ ((ps ++ qs) ++ codes ";" ∷ []))
print_printed e es ps qs d f =
    let parts : lexed ((ps ++ qs) ++ codes ";" ∷ []) ≡ (lexed ps ++ lexed qs) ++ lexeme_for (codes ";") ∷ [] =
    lexed-append (ps ++ qs) (codes ";" ∷ []) ∙ ap (λ (w : List Lexeme). w ++ lexeme_for (codes ";") ∷ []) (lexed-append ps qs) in
    record {
      spelled = subst (λ (w : List Lexeme). Spells (One (Statement.Prints (e ∷ es))) (lexeme_for (codes "print") ∷ w)) (sym parts)
          (prints (lexeme_for (codes "print")) (lexeme_for (codes ";")) (kind_by (codes "print") kind.Print print_word) (whole e (lexed ps) d.spelled) f.spelled (kind_by (codes ";") kind.Semicolon semicolon));
      tokens = (token_by (codes "print") kind.Print print_word, tokens-append (ps ++ qs) (codes ";" ∷ []) (tokens-append ps qs d.tokens f.tokens) (token_by (codes ";") kind.Semicolon semicolon, tt));
    }

close_curly : AreTokens (codes "}" ∷ [])
close_curly = (token_by (codes "}") kind.CloseCurly curly_close, tt)

choose_printed : (e : Expr) (ss : Statements) (ps qs : Pieces) → Prints (Operand e) ps → Prints (All ss) qs → Prints (One (Chooses e ss)) (codes "if" ∷ (ps ++ (codes "{" ∷ (qs ++ codes "}" ∷ []))))
choose_printed e ss ps qs d f = record {
  spelled = subst (λ (w : List Lexeme). Spells (One (Chooses e ss)) (lexeme_for (codes "if") ∷ w)) (sym (middle ps qs (codes "{") (codes "}")))
      (chooses (lexeme_for (codes "if")) (lexeme_for (codes "{")) (lexeme_for (codes "}")) (kind_by (codes "if") kind.If if_word) (whole e (lexed ps) d.spelled) (kind_by (codes "{") kind.OpenCurly curly_open) f.spelled
      (kind_by (codes "}") kind.CloseCurly curly_close));
  tokens = (token_by (codes "if") kind.If if_word, tokens-append ps (codes "{" ∷ (qs ++ codes "}" ∷ [])) d.tokens (token_by (codes "{") kind.OpenCurly curly_open, tokens-append qs (codes "}" ∷ []) f.tokens close_curly));
}

else_printed : (e : Expr) (ss ts : Statements) (ps qs rs : Pieces) → Prints (Operand e) ps → Prints (All ss) qs → Prints (All ts) rs
    → Prints (One (ChoosesElse e ss ts)) (codes "if" ∷ (ps ++ (codes "{" ∷ (qs ++ (codes "}" ∷ codes "else" ∷ codes "{" ∷ (rs ++ codes "}" ∷ []))))))
else_printed e ss ts ps qs rs d f g =
    let o = lexeme_for (codes "{") in let y = lexeme_for (codes "}") in let i = lexeme_for (codes "else") in
    let last : Pieces = codes "}" ∷ codes "else" ∷ codes "{" ∷ (rs ++ codes "}" ∷ []) in
    let parts : lexed (ps ++ (codes "{" ∷ (qs ++ last))) ≡ ((lexed ps ++ o ∷ lexed qs) ++ y ∷ i ∷ o ∷ lexed rs) ++ y ∷ [] =
    lexed-append ps (codes "{" ∷ (qs ++ last))
    ∙ ap (λ (w : List Lexeme). lexed ps ++ (o ∷ w)) (lexed-append qs last ∙ ap (λ (w : List Lexeme). lexed qs ++ (y ∷ i ∷ o ∷ w)) (lexed-append rs (codes "}" ∷ [])))
    ∙ sym (append_assoc (lexed ps ++ o ∷ lexed qs) (y ∷ i ∷ o ∷ lexed rs) (y ∷ []) ∙ append_assoc (lexed ps) (o ∷ lexed qs) (y ∷ i ∷ o ∷ lexed rs ++ y ∷ [])) in
    record {
      spelled = subst (λ (w : List Lexeme). Spells (One (ChoosesElse e ss ts)) (lexeme_for (codes "if") ∷ w)) (sym parts)
          (chooses_else (lexeme_for (codes "if")) o y i o y (kind_by (codes "if") kind.If if_word) (whole e (lexed ps) d.spelled) (kind_by (codes "{") kind.OpenCurly curly_open) f.spelled (kind_by (codes "}") kind.CloseCurly curly_close)
          (kind_by (codes "else") kind.Else else_word) (kind_by (codes "{") kind.OpenCurly curly_open) g.spelled (kind_by (codes "}") kind.CloseCurly curly_close));
      tokens = (
        token_by (codes "if") kind.If if_word,
        tokens-append ps (codes "{" ∷ (qs ++ last)) d.tokens (
          token_by (codes "{") kind.OpenCurly curly_open,
          tokens-append qs last f.tokens (
            token_by (codes "}") kind.CloseCurly curly_close,
            (token_by (codes "else") kind.Else else_word, (token_by (codes "{") kind.OpenCurly curly_open, tokens-append rs (codes "}" ∷ []) g.tokens close_curly)),
          ),
        ),
      );
    }

sequence_printed : (s : Statement) (ss : Statements) (ps qs : Pieces) → Prints (One s) ps → Prints (All ss) qs → Prints (All (Then s ss)) (ps ++ qs)
sequence_printed s ss ps qs d f = record { spelled = subst (Spells (All (Then s ss))) (sym (lexed-append ps qs)) (then_more d.spelled f.spelled); tokens = tokens-append ps qs d.tokens f.tokens }

-- What was read is printed so that it is spelled.
printed : (p : Phrase) (w : List Lexeme) → Spells p w → AreKinds w → IsPrinted p
printed p w (number x is) are = by_parts _ _ _ _ (of_number Expr unplaced_step (pos (value_of x.bytes))) (of_number Pieces operand_step (pos (value_of x.bytes))) (number_printed (value_of x.bytes))
printed p w (name {n = n} names) are =
    let d = name_printed n w names are in
    by_parts _ _ _ _ (of_name Expr unplaced_step n) (of_name Pieces operand_step n) (record { spelled = name d.spelled; tokens = d.tokens })
printed p w (prefixed q x {xs = xs} {e = e} is d) are =
    by_parts _ _ _ _ (of_unary Expr unplaced_step q e) (of_unary Pieces operand_step q e) (unary_printed q (unplaced_expr e) (operand_pieces e) (printed (Operand e) xs d are.1))
printed p w (group x y {xs = xs} {e = e} open_ d close) are = printed (Chained Disjunction e) xs d (front xs (y ∷ []) are.1)
printed p w (extreme c x o y z {xs = xs} {ys = ys} {a = a} {b = b} is open_ d comma_ f close) are =
    let inside = front (xs ++ y ∷ ys) (z ∷ []) are.1.1 in
    by_parts _ _ _ _ (of_extreme Expr unplaced_step c a b) (of_extreme Pieces operand_step c a b)
    (extreme_printed c (unplaced_expr a) (unplaced_expr b) (operand_pieces a) (operand_pieces b) (printed (Chained Disjunction a) xs d (front xs (y ∷ ys) inside)) (printed (Chained Disjunction b) ys f (back xs (y ∷ ys) inside).1))
printed p w (absolute x o y {xs = xs} {e = e} is open_ d close) are =
    by_parts _ _ _ _ (of_abs Expr unplaced_step e) (of_abs Pieces operand_step e) (absolute_printed (unplaced_expr e) (operand_pieces e) (printed (Chained Disjunction e) xs d (front xs (y ∷ []) are.1.1)))
printed p w (single r {e = e} d) are = operand_printed r e (printed (operand_of r e) w d are)
printed p w (chain r {xs = xs} {ys = ys} e {link = l} {links = ls} d f) are =
    by_parts _ _ _ _ (of_chain Expr unplaced_step e (l ∷ ls)) (of_chain Pieces operand_step e (l ∷ ls))
    (chain_printed r (unplaced_expr e) (l.0, unplaced_expr l.1) (unplaced_links ls) (operand_pieces e) (link_pieces (map (λ (link : Sign × Expr). (link.0, operand_pieces link.1)) (l ∷ ls)))
    (operand_printed r e (printed (operand_of r e) xs d (front xs ys are))) (printed (Linked r (l ∷ ls)) ys f (back xs ys are)))
printed p w (linked_none r) are = record { spelled = linked_none r; tokens = tt }
printed p w (linked r x s {xs = xs} {ys = ys} {e = e} {links = ls} is rank may d f) are =
    link_printed r s (unplaced_expr e) (unplaced_links ls) (operand_pieces e) (link_pieces (map (λ (link : Sign × Expr). (link.0, operand_pieces link.1)) ls)) rank (may_follow r ls may)
    (operand_printed r e (printed (operand_of r e) xs d (front xs ys are.1))) (printed (Linked r ls) ys f (back xs ys are.1))
printed p w listed_none are = record { spelled = listed_none; tokens = tt }
printed p w (listed x {xs = xs} {ys = ys} {e = e} {es = es} is d f) are =
    value_printed (unplaced_expr e) (map unplaced_expr es) (operand_pieces e) (more_pieces es) (printed (Chained Disjunction e) xs d (front xs ys are.1)) (printed (Listed es) ys f (back xs ys are.1))
printed p w (assigns y z {xs = xs} {ys = ys} {n = n} {e = e} names sign_ d close) are =
    let inside = front (xs ++ y ∷ ys) (z ∷ []) are in
    assign_printed n (unplaced_expr e) (operand_pieces e) (name_printed n xs names (front xs (y ∷ ys) inside)) (printed (Chained Disjunction e) ys d (back xs (y ∷ ys) inside).1)
printed p w (triggers t x y z is word close) are = triggers_printed t y.bytes (are.1.0 ∙ ap (λ (k : TokenKind). Some k) word)
printed p w (prints x z {xs = xs} {ys = ys} {e = e} {es = es} is d f close) are =
    let inside = front (xs ++ ys) (z ∷ []) are.1 in
    print_printed (unplaced_expr e) (map unplaced_expr es) (operand_pieces e) (more_pieces es) (printed (Chained Disjunction e) xs d (front xs ys inside)) (printed (Listed es) ys f (back xs ys inside))
printed p w (chooses x o y {xs = xs} {ys = ys} {e = e} {ss = ss} is d open_ f close) are =
    let inside = front (xs ++ o ∷ ys) (y ∷ []) are.1 in
    choose_printed (unplaced_expr e) (unplaced ss) (operand_pieces e) (body_pieces ss) (printed (Chained Disjunction e) xs d (front xs (o ∷ ys) inside)) (printed (All ss) ys f (back xs (o ∷ ys) inside).1)
printed p w (chooses_else x o y i q z {xs = xs} {ys = ys} {zs = zs} {e = e} {ss = ss} {ts = ts} is d open_ f close else_ open2 g close2) are =
    let inside = front ((xs ++ o ∷ ys) ++ y ∷ i ∷ q ∷ zs) (z ∷ []) are.1 in
    let first = front (xs ++ o ∷ ys) (y ∷ i ∷ q ∷ zs) inside in
    else_printed (unplaced_expr e) (unplaced ss) (unplaced ts) (operand_pieces e) (body_pieces ss) (body_pieces ts) (printed (Chained Disjunction e) xs d (front xs (o ∷ ys) first))
    (printed (All ss) ys f (back xs (o ∷ ys) first).1) (printed (All ts) zs g (back (xs ++ o ∷ ys) (y ∷ i ∷ q ∷ zs) inside).1.1.1)
printed p w nothing are = record { spelled = nothing; tokens = tt }
printed p w (then_more {xs = xs} {ys = ys} {s = s} {ss = ss} d f) are =
    sequence_printed (unplaced_statement s) (unplaced ss) (statement_pieces s) (body_pieces ss) (printed (One s) xs d (front xs ys are)) (printed (All ss) ys f (back xs ys are))

-- A body that was read of tokens.
pub body_printed : (body : Statements) (w : List Lexeme) → Spells (All body) w → AreKinds w → Spells (All (unplaced body)) (lexed (body_pieces body))
body_printed body w d are = (printed (All body) w d are).spelled

pub body_tokens : (body : Statements) (w : List Lexeme) → Spells (All body) w → AreKinds w → AreTokens (body_pieces body)
body_tokens body w d are = (printed (All body) w d are).tokens
