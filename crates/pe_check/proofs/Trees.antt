-- Trees whose names are replaced, by their parts.
use Rattle.std.proofs.Common.{◌≡◌, ◌∙◌, sym, List, [], ◌∷◌, ◌++◌, map, refl, ap, Ok, Err, Result, Bool, true, false, ◌&&◌, IsTrue}
use Rattle.std.specs.List.{list_all}
use Rattle.std.proofs.lemmas.List.Folds.{list_all-map, list_all-append}
use Rattle.pe_parse.specs.declared.tree.Sign.{Sign}
use Rattle.pe_parse.specs.declared.tree.Expr.{Expr as Read, Chain as ReadChain}
use Rattle.pe_parse.specs.declared.tree.Expr.TheOpen.{Expr-F}
use Rattle.pe_parse.specs.declared.tree.Expr.TheVariants as read
use Rattle.pe_parse.specs.declared.tree.Expr.TheFolds.{fold-roll-Expr}
use Rattle.pe_parse.specs.declared.tree.Stmt.{Stmt as ReadStmt}
use Rattle.pe_parse.specs.Statements.{statement_of, statements_of}
use Rattle.pe_check.specs.declared.cause.CheckFault.{CheckFault}
use Rattle.pe_check.specs.declared.checked.Expr.{Expr, Chain}
use Rattle.pe_check.specs.declared.checked.Expr.TheOpen as open_checked
use Rattle.pe_check.specs.declared.checked.Expr.TheVariants.{rolls-Chain}
use Rattle.pe_check.specs.declared.checked.Expr.TheFolds as folds
use Rattle.pe_check.specs.declared.checked.Stmt.{Stmt, If, IfElse}
use Rattle.pe_check.specs.declared.checked.Stmt.TheOpen as stmts_open
use Rattle.pe_check.specs.declared.checked.Stmt.TheVariants as stmts
use Rattle.pe_check.specs.declared.checked.Stmt.TheFolds as stmt_folds
use Rattle.pe_check.specs.Fits.{Reach, expr_fits, expr_fits_step, stmt_fits, stmt_fits_step, fits}
use Rattle.pe_check.specs.Resolving.{Context}
use Rattle.pe_check.specs.Checking.{◌>>=◌, all_of, link_of, expr_step, expr_of, stmt_of, each_of, body_of}

-- a link whose operand is checked
abbrev pub checked_link : Context → Sign × Read → Result (Sign × Expr) CheckFault
checked_link context link = link_of (link.0, expr_of context link.1)

again : (context : Context) (links : List (Sign × Read)) → map link_of (map (λ (link : Sign × Read). (link.0, expr_of context link.1)) links) ≡ map (checked_link context) links
again context [] = refl
again context (link ∷ links) = ap (λ rest. checked_link context link ∷ rest) (again context links)

pub expr_of-Chain : (context : Context) (first : Read) (links : List (Sign × Read)) → expr_of context (ReadChain first links) ≡ (expr_of context first >>= λ x. all_of (map (checked_link context) links) >>= λ xs. Ok (Chain x xs))
expr_of-Chain context first links =
    ap (expr_of context) (sym (read.rolls-Chain first links))
    ∙ fold-roll-Expr (Result Expr CheckFault) (expr_step context) (Expr-F.Chain first links)
    ∙ ap (λ parts. expr_of context first >>= λ x. all_of parts >>= λ xs. Ok (Chain x xs)) (again context links)

-- a chain fits where its parts do
pub expr_fits-Chain : (reach : Reach) (first : Expr) (links : List (Sign × Expr)) → expr_fits reach (Chain first links) ≡ (expr_fits reach first && list_all (λ link. expr_fits reach link.1) links)
expr_fits-Chain reach first links = ap (expr_fits reach) (sym (rolls-Chain first links)) ∙ folds.fold-roll-Expr Bool (expr_fits_step reach) (open_checked.Expr-F.Chain first links) ∙ ap (λ b. expr_fits reach first && b) (list_all-map (λ link. link.1) (λ (link : Sign × Expr). (link.0, expr_fits reach link.1)) links)

both : (a b : Bool) → a ≡ true → b ≡ true → (a && b) ≡ true
both true b h k = k
both false b h k = h

-- one part more that fits
pub all_fit-more : {X : Type 0} (test : X → Bool) (xs : List X) (x : X) → IsTrue (list_all test xs) → IsTrue (test x) → IsTrue (list_all test (xs ++ x ∷ []))
all_fit-more test xs x all here = list_all-append test xs (x ∷ []) ∙ both _ _ all (both _ _ here refl)

pub chain_fits : (reach : Reach) (first : Expr) (links : List (Sign × Expr)) → IsTrue (expr_fits reach first) → IsTrue (list_all (λ link. expr_fits reach link.1) links) → IsTrue (expr_fits reach (Chain first links))
chain_fits reach first links here all = expr_fits-Chain reach first links ∙ both _ _ here all

module _ (context : Context) (expr first : Read) (links : List (Sign × Read)) (is : expr ≡ ReadChain first links) where
  -- a chain whose first operand is refused
  pub chain_first_wrong : (fault : CheckFault) → expr_of context first ≡ Err fault → expr_of context expr ≡ Err fault
  chain_first_wrong fault wrong = ap (expr_of context) is ∙ expr_of-Chain context first links ∙ ap (λ r. r >>= λ x. all_of (map (checked_link context) links) >>= λ xs. Ok (Chain x xs)) wrong

  -- a chain of which a link is refused
  pub chain_link_wrong : (x : Expr) (fault : CheckFault) → expr_of context first ≡ Ok x → all_of (map (checked_link context) links) ≡ Err fault → expr_of context expr ≡ Err fault
  chain_link_wrong x fault fine wrong =
      ap (expr_of context) is ∙ expr_of-Chain context first links
      ∙ ap (λ r. r >>= λ x. all_of (map (checked_link context) links) >>= λ xs. Ok (Chain x xs)) fine
      ∙ ap (λ r. r >>= λ xs. Ok (Chain x xs)) wrong

  pub chain_right : (x : Expr) (xs : List (Sign × Expr)) → expr_of context first ≡ Ok x → all_of (map (checked_link context) links) ≡ Ok xs → expr_of context expr ≡ Ok (Chain x xs)
  chain_right x xs fine all =
      ap (expr_of context) is ∙ expr_of-Chain context first links
      ∙ ap (λ r. r >>= λ x. all_of (map (checked_link context) links) >>= λ xs. Ok (Chain x xs)) fine
      ∙ ap (λ r. r >>= λ xs. Ok (Chain x xs)) all

-- a choice fits where its test and its bodies do
pub stmt_fits-If : (reach : Reach) (test : Expr) (body : List Stmt) → stmt_fits reach (If test body) ≡ (expr_fits reach test && fits reach body)
stmt_fits-If reach test body = ap (stmt_fits reach) (sym (stmts.rolls-If test body)) ∙ stmt_folds.fold-roll-Stmt Bool (stmt_fits_step reach) (stmts_open.Stmt-F.If test body) ∙ ap (λ b. expr_fits reach test && b) (list_all-map (λ b. b) (stmt_fits reach) body)

pub stmt_fits-IfElse : (reach : Reach) (test : Expr) (body other : List Stmt) → stmt_fits reach (IfElse test body other) ≡ (expr_fits reach test && fits reach body && fits reach other)
stmt_fits-IfElse reach test body other =
    ap (stmt_fits reach) (sym (stmts.rolls-IfElse test body other)) ∙ stmt_folds.fold-roll-Stmt Bool (stmt_fits_step reach) (stmts_open.Stmt-F.IfElse test body other)
    ∙ ap (λ b. expr_fits reach test && b && list_all (λ b. b) (map (stmt_fits reach) other)) (list_all-map (λ b. b) (stmt_fits reach) body)
    ∙ ap (λ b. expr_fits reach test && fits reach body && b) (list_all-map (λ b. b) (stmt_fits reach) other)

pub if_fits : (reach : Reach) (test : Expr) (body : List Stmt) → IsTrue (expr_fits reach test) → IsTrue (fits reach body) → IsTrue (stmt_fits reach (If test body))
if_fits reach test body here all = stmt_fits-If reach test body ∙ both _ _ here all

pub if_else_fits : (reach : Reach) (test : Expr) (body other : List Stmt) → IsTrue (expr_fits reach test) → IsTrue (fits reach body) → IsTrue (fits reach other) → IsTrue (stmt_fits reach (IfElse test body other))
if_else_fits reach test body other here all more = stmt_fits-IfElse reach test body other ∙ both _ _ (both _ _ here all) more

-- a statement as the code holds it
abbrev pub checked_stmt : Context → ReadStmt → Result Stmt CheckFault
checked_stmt context stmt = stmt_of context (statement_of stmt)

each_of-all : (context : Context) (body : List ReadStmt) → each_of context (statements_of body) ≡ map (checked_stmt context) body
each_of-all context [] = refl
each_of-all context (stmt ∷ body) = ap (λ rest. checked_stmt context stmt ∷ rest) (each_of-all context body)

-- a body is checked statement by statement
pub body_of-all : (context : Context) (body : List ReadStmt) → body_of context (statements_of body) ≡ all_of (map (checked_stmt context) body)
body_of-all context body = ap all_of (each_of-all context body)
