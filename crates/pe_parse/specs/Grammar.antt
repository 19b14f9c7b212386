-- The grammar: which tokens spell which tree, with a case for each rule.
use Rattle.std.specs.Prelude.{◌≡◌, pos, List, [], ◌∷◌, ◌++◌, Option, Some, None}
use Rattle.pe_lex.specs.declared.token.TokenKind.{TokenKind}
use Rattle.pe_lex.specs.declared.token.TokenKind.TheVariants as kind
use Rattle.pe_parse.specs.declared.tree.Sign.{Sign}
use Rattle.pe_parse.specs.declared.tree.Sign.TheVariants as sign
use Rattle.pe_parse.specs.declared.rank.Rank.{Rank}
use Rattle.pe_parse.specs.declared.rank.Rank.TheVariants.{Disjunction, Conjunction, Comparison, Sum, Product}
use Rattle.pe_parse.specs.declared.tree.Prefix.{Prefix}
use Rattle.pe_parse.specs.declared.tree.Prefix.TheVariants as prefix
use Rattle.pe_parse.specs.declared.tree.Choice.{Choice}
use Rattle.pe_parse.specs.declared.tree.Choice.TheVariants as choice
use Rattle.pe_parse.specs.declared.tree.Trigger.{Trigger}
use Rattle.pe_parse.specs.declared.tree.Trigger.TheVariants as trigger
use Rattle.pe_parse.specs.declared.tree.Expr.{Expr}
use Rattle.pe_parse.specs.declared.tree.Expr.TheVariants as expr
use Rattle.pe_parse.specs.declared.tree.Name.{Name}
use Rattle.pe_parse.specs.Lexemes.{Lexeme, value_of}
use Rattle.pe_parse.specs.Statements.{Statement, Statements, Assigns, Triggers, Prints, Chooses, ChoosesElse, Nothing, Then}

-- how tightly a sign binds
abbrev pub rank_of : Sign → Rank
rank_of sign.Or = Disjunction
rank_of sign.And = Conjunction
rank_of sign.Less = Comparison
rank_of sign.LessOrEqual = Comparison
rank_of sign.Greater = Comparison
rank_of sign.GreaterOrEqual = Comparison
rank_of sign.Equal = Comparison
rank_of sign.NotEqual = Comparison
rank_of sign.Plus = Sum
rank_of sign.Minus = Sum
rank_of sign.Times = Product
rank_of sign.Over = Product
rank_of sign.Modulo = Product

-- the tokens of signs between operands
abbrev pub sign_of : TokenKind → Option Sign
sign_of kind.Or = Some sign.Or
sign_of kind.And = Some sign.And
sign_of kind.Less = Some sign.Less
sign_of kind.LessOrEqual = Some sign.LessOrEqual
sign_of kind.Greater = Some sign.Greater
sign_of kind.GreaterOrEqual = Some sign.GreaterOrEqual
sign_of kind.Equal = Some sign.Equal
sign_of kind.NotEqual = Some sign.NotEqual
sign_of kind.Plus = Some sign.Plus
sign_of kind.Minus = Some sign.Minus
sign_of kind.Star = Some sign.Times
sign_of kind.Slash = Some sign.Over
sign_of kind.Percent = Some sign.Modulo
sign_of _ = None

-- the tokens of signs before an operand
abbrev pub prefix_kind : Prefix → TokenKind
prefix_kind prefix.Minus = kind.Minus
prefix_kind prefix.Not = kind.Not

abbrev pub choice_kind : Choice → TokenKind
choice_kind choice.Min = kind.Min
choice_kind choice.Max = kind.Max

abbrev pub trigger_kind : Trigger → TokenKind
trigger_kind trigger.Refine = kind.Refine
trigger_kind trigger.Erase = kind.Erase

-- What tokens may spell.
pub data Phrase : Type 0 where
  -- an expression whose signs outside of parentheses bind at least as tightly as this
  Chained : Rank → Expr → Phrase
  -- an expression without such signs
  Operand : Expr → Phrase
  -- the operands of a chain but the first, each behind its sign
  Linked : Rank → List (Sign × Expr) → Phrase
  -- the values of a print but the first, each behind its comma
  Listed : List Expr → Phrase
  One : Statement → Phrase
  All : Statements → Phrase

-- an operand of a chain of this rank
abbrev pub operand_of : Rank → Expr → Phrase
operand_of Disjunction e = Chained Conjunction e
operand_of Conjunction e = Chained Comparison e
operand_of Comparison e = Chained Sum e
operand_of Sum e = Chained Product e
operand_of Product e = Operand e

-- a comparison has one sign at most, and the other chains have any number
abbrev pub MayFollow : Rank → List (Sign × Expr) → Type 0
MayFollow Comparison links = links ≡ []
MayFollow _ links = Unit {0}

-- a name of one word, or of two with a dot between them
pub data Names : List Lexeme → Name → Type 0 where
  plain : (x : Lexeme) → x.kind ≡ kind.Word → Names (x ∷ []) (record { first = x.bytes; second = None; at = x.at })
  dotted : (x y z : Lexeme) → x.kind ≡ kind.Word → y.kind ≡ kind.Dot → z.kind ≡ kind.Word
      → Names (x ∷ y ∷ z ∷ []) (record { first = x.bytes; second = Some z.bytes; at = x.at })

-- The tokens spell the phrase.
pub data Spells : Phrase → List Lexeme → Type 0 where
  number : (x : Lexeme) → x.kind ≡ kind.Number → Spells (Operand (expr.Number (pos (value_of x.bytes)))) (x ∷ [])
  name : {xs : List Lexeme} {n : Name} → Names xs n → Spells (Operand (expr.Name n)) xs
  prefixed : (p : Prefix) (x : Lexeme) {xs : List Lexeme} {e : Expr} → x.kind ≡ prefix_kind p → Spells (Operand e) xs → Spells (Operand (expr.Unary p e)) (x ∷ xs)
  group : (x y : Lexeme) {xs : List Lexeme} {e : Expr} → x.kind ≡ kind.OpenRound → Spells (Chained Disjunction e) xs → y.kind ≡ kind.CloseRound → Spells (Operand e) (x ∷ xs ++ y ∷ [])
  extreme : (c : Choice) (x o y z : Lexeme) {xs ys : List Lexeme} {a b : Expr} → x.kind ≡ choice_kind c → o.kind ≡ kind.OpenRound → Spells (Chained Disjunction a) xs → y.kind ≡ kind.Comma
      → Spells (Chained Disjunction b) ys → z.kind ≡ kind.CloseRound → Spells (Operand (expr.Extreme c a b)) (x ∷ o ∷ xs ++ y ∷ ys ++ z ∷ [])
  absolute : (x o y : Lexeme) {xs : List Lexeme} {e : Expr} → x.kind ≡ kind.Abs → o.kind ≡ kind.OpenRound → Spells (Chained Disjunction e) xs → y.kind ≡ kind.CloseRound
      → Spells (Operand (expr.Abs e)) (x ∷ o ∷ xs ++ y ∷ [])
  -- a chain of one operand is that operand
  single : (r : Rank) {xs : List Lexeme} {e : Expr} → Spells (operand_of r e) xs → Spells (Chained r e) xs
  chain : (r : Rank) {xs ys : List Lexeme} (e : Expr) {link : Sign × Expr} {links : List (Sign × Expr)} → Spells (operand_of r e) xs → Spells (Linked r (link ∷ links)) ys
      → Spells (Chained r (expr.Chain e (link ∷ links))) (xs ++ ys)
  linked_none : (r : Rank) → Spells (Linked r []) []
  linked : (r : Rank) (x : Lexeme) (s : Sign) {xs ys : List Lexeme} {e : Expr} {links : List (Sign × Expr)} → sign_of x.kind ≡ Some s → rank_of s ≡ r → MayFollow r links
      → Spells (operand_of r e) xs → Spells (Linked r links) ys → Spells (Linked r ((s, e) ∷ links)) (x ∷ xs ++ ys)
  listed_none : Spells (Listed []) []
  listed : (x : Lexeme) {xs ys : List Lexeme} {e : Expr} {es : List Expr} → x.kind ≡ kind.Comma → Spells (Chained Disjunction e) xs → Spells (Listed es) ys → Spells (Listed (e ∷ es)) (x ∷ xs ++ ys)
  assigns : (y z : Lexeme) {xs ys : List Lexeme} {n : Name} {e : Expr} → Names xs n → y.kind ≡ kind.Assign → Spells (Chained Disjunction e) ys → z.kind ≡ kind.Semicolon
      → Spells (One (Assigns n e)) (xs ++ y ∷ ys ++ z ∷ [])
  triggers : (t : Trigger) (x y z : Lexeme) → x.kind ≡ trigger_kind t → y.kind ≡ kind.Word → z.kind ≡ kind.Semicolon → Spells (One (Triggers t (record { text = y.bytes; at = y.at }))) (x ∷ y ∷ z ∷ [])
  prints : (x z : Lexeme) {xs ys : List Lexeme} {e : Expr} {es : List Expr} → x.kind ≡ kind.Print → Spells (Chained Disjunction e) xs → Spells (Listed es) ys → z.kind ≡ kind.Semicolon
      → Spells (One (Prints (e ∷ es))) (x ∷ xs ++ ys ++ z ∷ [])
  chooses : (x o y : Lexeme) {xs ys : List Lexeme} {e : Expr} {ss : Statements} → x.kind ≡ kind.If → Spells (Chained Disjunction e) xs → o.kind ≡ kind.OpenCurly → Spells (All ss) ys → y.kind ≡ kind.CloseCurly
      → Spells (One (Chooses e ss)) (x ∷ xs ++ o ∷ ys ++ y ∷ [])
  chooses_else : (x o y w p z : Lexeme) {xs ys zs : List Lexeme} {e : Expr} {ss ts : Statements} → x.kind ≡ kind.If → Spells (Chained Disjunction e) xs → o.kind ≡ kind.OpenCurly → Spells (All ss) ys → y.kind ≡ kind.CloseCurly
      → w.kind ≡ kind.Else → p.kind ≡ kind.OpenCurly → Spells (All ts) zs → z.kind ≡ kind.CloseCurly → Spells (One (ChoosesElse e ss ts)) (x ∷ xs ++ o ∷ ys ++ y ∷ w ∷ p ∷ zs ++ z ∷ [])
  nothing : Spells (All Nothing) []
  then_more : {xs ys : List Lexeme} {s : Statement} {ss : Statements} → Spells (One s) xs → Spells (All ss) ys → Spells (All (Then s ss)) (xs ++ ys)
