-- The tree of a body with each name replaced by what it stands for, or the first name in the text that is refused.
use Rattle.std.specs.Prelude.{ℕ, List, [], ◌∷◌, map, Result, Ok, Err}
use Rattle.pe_parse.specs.declared.tree.Sign.{Sign}
use Rattle.pe_parse.specs.declared.tree.Expr.{Expr as Read}
use Rattle.pe_parse.specs.declared.tree.Expr.TheOpen.{Expr-F}
use Rattle.pe_parse.specs.declared.tree.Expr.TheFolds.{fold-Expr}
use Rattle.pe_parse.specs.Statements.{Statement, Statements, Assigns, Triggers, Prints, Chooses, ChoosesElse, Nothing, Then}
use Rattle.pe_check.specs.declared.cause.Cause.{Cause}
use Rattle.pe_check.specs.declared.cause.CheckFault.{CheckFault}
use Rattle.pe_check.specs.declared.checked.Expr.{Expr, Number, Name, Unary, Chain, Extreme, Abs}
use Rattle.pe_check.specs.declared.checked.Stmt.{Stmt, Assign, Trigger as Triggered, Print, If, IfElse}
use Rattle.pe_check.specs.Resolving.{Context, read_name, slot_name, vertex_word}
use Rattle.pe_check.specs.Answers.{fault_at}

infixl 10 ◌>>=◌
abbrev pub ◌>>=◌ : {X Y : Type 0} → Result X CheckFault → (X → Result Y CheckFault) → Result Y CheckFault
(Ok x) >>= next = next x
(Err fault) >>= next = Err fault

-- a name at an offset
abbrev pub located : {X : Type 0} → ℕ → Result X Cause → Result X CheckFault
located at (Ok x) = Ok x
located at (Err cause) = Err (fault_at cause at)

-- parts from left to right
abbrev pub all_of : {X : Type 0} → List (Result X CheckFault) → Result (List X) CheckFault
all_of [] = Ok []
all_of (part ∷ parts) = part >>= λ x. all_of parts >>= λ xs. Ok (x ∷ xs)

abbrev pub link_of : Sign × Result Expr CheckFault → Result (Sign × Expr) CheckFault
link_of link = link.1 >>= λ x. Ok (link.0, x)

-- an expression whose parts are replaced or refused
abbrev pub expr_step : Context → Expr-F (Result Expr CheckFault) → Result Expr CheckFault
expr_step context (Expr-F.Number n) = Ok (Number n)
expr_step context (Expr-F.Name name) = located name.at (read_name context name.first name.second) >>= λ it. Ok (Name it)
expr_step context (Expr-F.Unary prefix operand) = operand >>= λ x. Ok (Unary prefix x)
expr_step context (Expr-F.Chain first links) = first >>= λ x. all_of (map link_of links) >>= λ xs. Ok (Chain x xs)
expr_step context (Expr-F.Extreme choice left right) = left >>= λ x. right >>= λ y. Ok (Extreme choice x y)
expr_step context (Expr-F.Abs operand) = operand >>= λ x. Ok (Abs x)

abbrev pub expr_of : Context → Read → Result Expr CheckFault
expr_of context = fold-Expr (Result Expr CheckFault) (expr_step context)

-- a statement and statements with their names replaced
abbrev mutual
  pub stmt_of : Context → Statement → Result Stmt CheckFault
  stmt_of context (Assigns name expr) = located name.at (slot_name context name.first name.second) >>= λ slot. expr_of context expr >>= λ x. Ok (Assign slot x)
  stmt_of context (Triggers trigger word) = located word.at (vertex_word context word.text) >>= λ vertex. Ok (Triggered trigger vertex)
  stmt_of context (Prints values) = all_of (map (expr_of context) values) >>= λ xs. Ok (Print xs)
  stmt_of context (Chooses test body) = expr_of context test >>= λ x. all_of (each_of context body) >>= λ xs. Ok (If x xs)
  stmt_of context (ChoosesElse test body other) = expr_of context test >>= λ x. all_of (each_of context body) >>= λ xs. all_of (each_of context other) >>= λ ys. Ok (IfElse x xs ys)

  pub each_of : Context → Statements → List (Result Stmt CheckFault)
  each_of context Nothing = []
  each_of context (Then statement statements) = stmt_of context statement ∷ each_of context statements

-- each name is checked, also where it stands in a branch that never runs
abbrev pub body_of : Context → Statements → Result (List Stmt) CheckFault
body_of context body = all_of (each_of context body)
