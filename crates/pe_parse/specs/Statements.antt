-- The statements of a body as plain data, in which a print may have any number of values.
use Rattle.std.specs.Prelude.{List, [], ◌∷◌, map}
use Rattle.pe_parse.specs.declared.tree.Expr.{Expr}
use Rattle.pe_parse.specs.declared.tree.Name.{Name}
use Rattle.pe_parse.specs.declared.tree.Word.{Word}
use Rattle.pe_parse.specs.declared.tree.Trigger.{Trigger}
use Rattle.pe_parse.specs.declared.tree.Stmt.{Stmt}
use Rattle.pe_parse.specs.declared.tree.Stmt.TheOpen.{Stmt-F, Assign, Trigger as Triggered, Print, If, IfElse}
use Rattle.pe_parse.specs.declared.tree.Stmt.TheFolds.{fold-Stmt}

mutual
  pub data Statement : Type 0 where
    Assigns : Name → Expr → Statement
    Triggers : Trigger → Word → Statement
    Prints : List Expr → Statement
    Chooses : Expr → Statements → Statement
    ChoosesElse : Expr → Statements → Statements → Statement

  pub data Statements : Type 0 where
    Nothing : Statements
    Then : Statement → Statements → Statements

abbrev pub gathered : List Statement → Statements
gathered [] = Nothing
gathered (s ∷ ss) = Then s (gathered ss)

abbrev pub statement_step : Stmt-F Statement → Statement
statement_step (Assign name value) = Assigns name value
statement_step (Triggered trigger word) = Triggers trigger word
statement_step (Print values) = Prints values.items
statement_step (If condition body) = Chooses condition (gathered body)
statement_step (IfElse condition body other) = ChoosesElse condition (gathered body) (gathered other)

abbrev pub statement_of : Stmt → Statement
statement_of = fold-Stmt Statement statement_step

-- a body as plain data
abbrev pub statements_of : List Stmt → Statements
statements_of body = gathered (map statement_of body)
