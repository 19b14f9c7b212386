-- How a body is printed: the spellings of its tokens, each with a space behind it. Each operand that is a chain stands in
-- parentheses. And a body without the offsets of its names, which are those of the text that it was read from.
use Rattle.std.specs.Prelude.{ℕ, ℤ, pos, negsuc, ◌+◌, ◌==◌, List, [], ◌∷◌, ◌++◌, map, codes, Option, Some, None, if◌then◌else◌}
use Rattle.std.specs.Int.Digits.{digits_of}
use Rattle.pe_parse.specs.declared.tree.Sign.{Sign}
use Rattle.pe_parse.specs.declared.tree.Sign.TheVariants as sign
use Rattle.pe_parse.specs.declared.tree.Prefix.{Prefix}
use Rattle.pe_parse.specs.declared.tree.Prefix.TheVariants as prefix
use Rattle.pe_parse.specs.declared.tree.Choice.{Choice}
use Rattle.pe_parse.specs.declared.tree.Choice.TheVariants as choice
use Rattle.pe_parse.specs.declared.tree.Trigger.{Trigger}
use Rattle.pe_parse.specs.declared.tree.Trigger.TheVariants as trigger
use Rattle.pe_parse.specs.declared.tree.Name.{Name}
use Rattle.pe_parse.specs.declared.tree.Expr.{Expr}
use Rattle.pe_parse.specs.declared.tree.Expr.TheVariants as expr
use Rattle.pe_parse.specs.declared.tree.Expr.TheOpen.{Expr-F}
use Rattle.pe_parse.specs.declared.tree.Expr.TheFolds.{fold-Expr}
use Rattle.pe_parse.specs.Statements.{Statement, Statements, Assigns, Triggers, Prints, Chooses, ChoosesElse, Nothing, Then}

abbrev pub sign_text : Sign → List ℕ
sign_text sign.Or = codes "||"
sign_text sign.And = codes "&&"
sign_text sign.Less = codes "<"
sign_text sign.LessOrEqual = codes "<="
sign_text sign.Greater = codes ">"
sign_text sign.GreaterOrEqual = codes ">="
sign_text sign.Equal = codes "=="
sign_text sign.NotEqual = codes "!="
sign_text sign.Plus = codes "+"
sign_text sign.Minus = codes "-"
sign_text sign.Times = codes "*"
sign_text sign.Over = codes "/"
sign_text sign.Modulo = codes "%"

abbrev pub prefix_text : Prefix → List ℕ
prefix_text prefix.Minus = codes "-"
prefix_text prefix.Not = codes "!"

abbrev pub choice_text : Choice → List ℕ
choice_text choice.Min = codes "min"
choice_text choice.Max = codes "max"

abbrev pub trigger_text : Trigger → List ℕ
trigger_text trigger.Refine = codes "refine"
trigger_text trigger.Erase = codes "erase"

-- the digits of a number, the highest first
abbrev pub numeral : ℕ → List ℕ
numeral n = if n == 0 then codes "0" else map (λ d. 48 + d) (digits_of 10 n)

-- what tokens spell, one after another
abbrev pub Pieces : Type 0
Pieces = List (List ℕ)

-- no token spells a number below 0
abbrev pub number_pieces : ℤ → Pieces
number_pieces (pos n) = numeral n ∷ []
number_pieces (negsuc n) = codes "-" ∷ numeral (n + 1) ∷ []

abbrev pub second_pieces : Option (List ℕ) → Pieces
second_pieces None = []
second_pieces (Some word) = codes "." ∷ word ∷ []

abbrev pub name_pieces : Name → Pieces
name_pieces name = name.first ∷ second_pieces name.second

abbrev pub link_pieces : List (Sign × Pieces) → Pieces
link_pieces [] = []
link_pieces (link ∷ links) = sign_text link.0 ∷ (link.1 ++ link_pieces links)

-- an operand whose parts are printed so
abbrev pub operand_step : Expr-F Pieces → Pieces
operand_step (Expr-F.Number n) = number_pieces n
operand_step (Expr-F.Name name) = name_pieces name
operand_step (Expr-F.Unary p operand) = prefix_text p ∷ operand
operand_step (Expr-F.Chain first links) = codes "(" ∷ (first ++ (link_pieces links ++ codes ")" ∷ []))
operand_step (Expr-F.Extreme c left right) = choice_text c ∷ codes "(" ∷ (left ++ (codes "," ∷ (right ++ codes ")" ∷ [])))
operand_step (Expr-F.Abs operand) = codes "abs" ∷ codes "(" ∷ (operand ++ codes ")" ∷ [])

abbrev pub operand_pieces : Expr → Pieces
operand_pieces = fold-Expr Pieces operand_step

-- the values of a print but the first, and all of them
abbrev pub more_pieces : List Expr → Pieces
more_pieces [] = []
more_pieces (e ∷ es) = codes "," ∷ (operand_pieces e ++ more_pieces es)

abbrev pub values_pieces : List Expr → Pieces
values_pieces [] = []
values_pieces (e ∷ es) = operand_pieces e ++ more_pieces es

abbrev mutual
  pub statement_pieces : Statement → Pieces
  statement_pieces (Assigns name e) = name_pieces name ++ (codes "=" ∷ (operand_pieces e ++ codes ";" ∷ []))
  statement_pieces (Triggers t word) = trigger_text t ∷ word.text ∷ codes ";" ∷ []
  statement_pieces (Prints es) = codes "print" ∷ (values_pieces es ++ codes ";" ∷ [])
  statement_pieces (Chooses e ss) = codes "if" ∷ (operand_pieces e ++ (codes "{" ∷ (body_pieces ss ++ codes "}" ∷ [])))
  statement_pieces (ChoosesElse e ss ts) =
      codes "if" ∷ (operand_pieces e ++ (codes "{" ∷ (body_pieces ss ++ (codes "}" ∷ codes "else" ∷ codes "{" ∷ (body_pieces ts ++ codes "}" ∷ [])))))

  pub body_pieces : Statements → Pieces
  body_pieces Nothing = []
  body_pieces (Then s ss) = statement_pieces s ++ body_pieces ss

abbrev pub spaced : Pieces → List ℕ
spaced [] = []
spaced (piece ∷ pieces) = piece ++ 32 ∷ spaced pieces

-- the text of a body
abbrev pub text_of : Statements → List ℕ
text_of body = spaced (body_pieces body)

-- an expression whose parts are without offsets
abbrev pub unplaced_step : Expr-F Expr → Expr
unplaced_step (Expr-F.Number n) = expr.Number n
unplaced_step (Expr-F.Name name) = expr.Name (record name { at = 0 })
unplaced_step (Expr-F.Unary p operand) = expr.Unary p operand
unplaced_step (Expr-F.Chain first links) = expr.Chain first links
unplaced_step (Expr-F.Extreme c left right) = expr.Extreme c left right
unplaced_step (Expr-F.Abs operand) = expr.Abs operand

abbrev pub unplaced_expr : Expr → Expr
unplaced_expr = fold-Expr Expr unplaced_step

abbrev mutual
  pub unplaced_statement : Statement → Statement
  unplaced_statement (Assigns name e) = Assigns (record name { at = 0 }) (unplaced_expr e)
  unplaced_statement (Triggers t word) = Triggers t (record word { at = 0 })
  unplaced_statement (Prints es) = Prints (map unplaced_expr es)
  unplaced_statement (Chooses e ss) = Chooses (unplaced_expr e) (unplaced ss)
  unplaced_statement (ChoosesElse e ss ts) = ChoosesElse (unplaced_expr e) (unplaced ss) (unplaced ts)

  -- a body without offsets
  pub unplaced : Statements → Statements
  unplaced Nothing = Nothing
  unplaced (Then s ss) = Then (unplaced_statement s) (unplaced ss)
