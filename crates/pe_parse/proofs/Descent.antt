-- Reading tokens by descent, with a bound on how deep it goes: what is wanted of the tokens, and what is read of them.
use Rattle.std.proofs.Common.{ℕ, suc, zero, pos, List, [], ◌∷◌, Option, Some, None, Bool, true, false, cond}
use Rattle.std.specs.Prelude.{◌==◌}
use Rattle.pe_lex.specs.declared.token.TokenKind.{TokenKind}
use Rattle.pe_lex.specs.declared.token.TokenKind.TheVariants as kind
use Rattle.pe_parse.specs.declared.rank.Rank.{Rank}
use Rattle.pe_parse.specs.declared.rank.Rank.TheVariants.{Disjunction, Conjunction, Comparison, Sum, Product}
use Rattle.pe_parse.specs.declared.tree.Sign.{Sign}
use Rattle.pe_parse.specs.declared.tree.Prefix.{Prefix}
use Rattle.pe_parse.specs.declared.tree.Prefix.TheVariants as prefix
use Rattle.pe_parse.specs.declared.tree.Choice.{Choice}
use Rattle.pe_parse.specs.declared.tree.Choice.TheVariants as choice
use Rattle.pe_parse.specs.declared.tree.Trigger.{Trigger}
use Rattle.pe_parse.specs.declared.tree.Trigger.TheVariants as trigger
use Rattle.pe_parse.specs.declared.tree.Name.{Name}
use Rattle.pe_parse.specs.declared.tree.Expr.{Expr}
use Rattle.pe_parse.specs.declared.tree.Expr.TheVariants as expr
use Rattle.pe_parse.specs.Lexemes.{Lexeme, value_of}
use Rattle.pe_parse.specs.Statements.{Statement, Statements, Assigns, Triggers, Prints, Chooses, ChoosesElse, Nothing, Then}
use Rattle.pe_parse.specs.Grammar.{sign_of}
use Rattle.pe_parse.specs.Frames.{kind_number, sign_if, Sequence}
use Rattle.pe_parse.proofs.TokenMoves.{skips}
use Rattle.pe_parse.proofs.Accepts.{head}

-- what is wanted of the tokens
pub data Want : Type 0 where
  AnOperand : Want
  AChain : Rank → Want
  SomeLinks : Rank → Want
  MoreValues : Want
  AStatement : Want
  ABody : Want

abbrev pub Tree : Want → Type 0
Tree AnOperand = Expr
Tree (AChain r) = Expr
Tree (SomeLinks r) = List (Sign × Expr)
Tree MoreValues = List Expr
Tree AStatement = Statement
Tree ABody = Statements

-- what was read, and the tokens behind it
abbrev pub Found : Type 0 → Type 0
Found X = Option (X × List Lexeme)

abbrev pub and_then : {X Y : Type 0} → Found X → (X → List Lexeme → Found Y) → Found Y
and_then None next = None
and_then (Some found) next = next found.0 found.1

-- how what is wanted is read
abbrev pub Way : Type 0
Way = (want : Want) → List Lexeme → Found (Tree want)

-- a token of this kind must come
abbrev pub token : TokenKind → List Lexeme → Found Lexeme
token k [] = None
token k (x ∷ w) = cond (kind_number k == kind_number x.kind) (Some (x, w)) None

-- a name, behind its first word
abbrev pub name_by : TokenKind → Lexeme → Lexeme → List Lexeme → Found Name
name_by kind.Dot x y w = and_then (token kind.Word w) (λ z w. Some (record { first = x.bytes; second = Some z.bytes; at = x.at }, w))
name_by _ x y w = Some (record { first = x.bytes; second = None; at = x.at }, y ∷ w)

abbrev pub name_behind : Lexeme → List Lexeme → Found Name
name_behind x [] = Some (record { first = x.bytes; second = None; at = x.at }, [])
name_behind x (y ∷ w) = name_by y.kind x y w

abbrev pub chain_of : Expr → List (Sign × Expr) → Expr
chain_of e [] = e
chain_of e (l ∷ ls) = expr.Chain e (l ∷ ls)

-- an expression, and the token that closes it
abbrev pub closed : Way → TokenKind → List Lexeme → Found Expr
closed way k w = and_then (way (AChain Disjunction) w) (λ e w. and_then (token k w) (λ _ w. Some (e, w)))

abbrev pub block : Way → List Lexeme → Found Statements
block way w = and_then (token kind.OpenCurly w) (λ _ w. and_then (way ABody w) (λ ss w. and_then (token kind.CloseCurly w) (λ _ w. Some (ss, w))))

abbrev pub prefix_behind : Way → Prefix → List Lexeme → Found Expr
prefix_behind way p w = and_then (way AnOperand w) (λ e w. Some (expr.Unary p e, w))

abbrev pub pair_behind : Way → Choice → List Lexeme → Found Expr
pair_behind way c w =
    and_then (token kind.OpenRound w) (λ _ w. and_then (closed way kind.Comma w) (λ a w. and_then (closed way kind.CloseRound w) (λ b w. Some (expr.Extreme c a b, w))))

-- an operand, by its first token
abbrev pub operand_by : Way → TokenKind → Lexeme → List Lexeme → Found Expr
operand_by way kind.Number x w = Some (expr.Number (pos (value_of x.bytes)), w)
operand_by way kind.Word x w = and_then (name_behind x w) (λ n w. Some (expr.Name n, w))
operand_by way kind.OpenRound x w = closed way kind.CloseRound w
operand_by way kind.Min x w = pair_behind way choice.Min w
operand_by way kind.Max x w = pair_behind way choice.Max w
operand_by way kind.Abs x w = and_then (token kind.OpenRound w) (λ _ w. and_then (closed way kind.CloseRound w) (λ e w. Some (expr.Abs e, w)))
operand_by way kind.Minus x w = prefix_behind way prefix.Minus w
operand_by way kind.Not x w = prefix_behind way prefix.Not w
operand_by way _ x w = None

-- an operand of a chain of a rank, and what may follow behind a sign and its operand
abbrev pub operand_in : Way → Rank → List Lexeme → Found Expr
operand_in way Product w = way AnOperand w
operand_in way Sum w = way (AChain Product) w
operand_in way Comparison w = way (AChain Sum) w
operand_in way Conjunction w = way (AChain Comparison) w
operand_in way Disjunction w = way (AChain Conjunction) w

abbrev pub more_in : Way → Rank → List Lexeme → Found (List (Sign × Expr))
more_in way Comparison w = Some ([], w)
more_in way r w = way (SomeLinks r) w

abbrev pub link_by : Way → Rank → Option Sign → Lexeme → List Lexeme → Found (List (Sign × Expr))
link_by way r None x w = Some ([], x ∷ w)
link_by way r (Some s) x w = and_then (operand_in way r w) (λ e w. and_then (more_in way r w) (λ ls w. Some ((s, e) ∷ ls, w)))

abbrev pub links : Way → Rank → List Lexeme → Found (List (Sign × Expr))
links way r [] = Some ([], [])
links way r (x ∷ w) = link_by way r (sign_if r (sign_of x.kind)) x w

-- the values of a print but the first, by the token in front of them
abbrev pub value_by : Way → TokenKind → Lexeme → List Lexeme → Found (List Expr)
value_by way kind.Comma x w = and_then (way (AChain Disjunction) w) (λ e w. and_then (way MoreValues w) (λ es w. Some (e ∷ es, w)))
value_by way _ x w = Some ([], x ∷ w)

abbrev pub values : Way → List Lexeme → Found (List Expr)
values way [] = Some ([], [])
values way (x ∷ w) = value_by way x.kind x w

-- what may stand behind the first body of a condition
abbrev pub else_by : Way → Expr → Statements → TokenKind → Lexeme → List Lexeme → Found Statement
else_by way e ss kind.Else x w = and_then (block way w) (λ ts w. Some (ChoosesElse e ss ts, w))
else_by way e ss _ x w = Some (Chooses e ss, x ∷ w)

abbrev pub otherwise : Way → Expr → Statements → List Lexeme → Found Statement
otherwise way e ss [] = Some (Chooses e ss, [])
otherwise way e ss (x ∷ w) = else_by way e ss x.kind x w

abbrev pub triggers_behind : Trigger → List Lexeme → Found Statement
triggers_behind t w = and_then (token kind.Word w) (λ y w. and_then (token kind.Semicolon w) (λ _ w. Some (Triggers t (record { text = y.bytes; at = y.at }), w)))

-- a statement, by its first token
abbrev pub statement_by : Way → TokenKind → Lexeme → List Lexeme → Found Statement
statement_by way kind.Word x w = and_then (name_behind x w) (λ n w. and_then (token kind.Assign w) (λ _ w. and_then (closed way kind.Semicolon w) (λ e w. Some (Assigns n e, w))))
statement_by way kind.Refine x w = triggers_behind trigger.Refine w
statement_by way kind.Erase x w = triggers_behind trigger.Erase w
statement_by way kind.Print x w = and_then (way (AChain Disjunction) w) (λ e w. and_then (way MoreValues w) (λ es w. and_then (token kind.Semicolon w) (λ _ w. Some (Prints (e ∷ es), w))))
statement_by way kind.If x w = and_then (way (AChain Disjunction) w) (λ e w. and_then (block way w) (λ ss w. otherwise way e ss w))
statement_by way _ x w = None

-- statements, unless none begins
abbrev pub body_by : Way → Bool → List Lexeme → Found Statements
body_by way true w = Some (Nothing, w)
body_by way false w = and_then (way AStatement w) (λ s w. and_then (way ABody w) (λ ss w. Some (Then s ss, w)))

-- one step down
abbrev pub deeper : Way → Way
deeper way AnOperand [] = None
deeper way AnOperand (x ∷ w) = operand_by way x.kind x w
deeper way (AChain r) w = and_then (operand_in way r w) (λ e w. and_then (way (SomeLinks r) w) (λ ls w. Some (chain_of e ls, w)))
deeper way (SomeLinks r) w = links way r w
deeper way MoreValues w = values way w
deeper way AStatement [] = None
deeper way AStatement (x ∷ w) = statement_by way x.kind x w
deeper way ABody w = body_by way (skips Sequence (head w)) w

-- what is read in so many steps down
abbrev pub reading : ℕ → Way
reading zero want w = None
reading (suc n) want w = deeper (reading n) want w
