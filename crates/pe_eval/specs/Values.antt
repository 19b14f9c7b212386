-- The value of an expression at an event.
use Rattle.std.specs.Prelude.{ℤ, Bool, true, false, List, [], ◌∷◌, map, Result, Ok, Err}
use Rattle.pe_parse.specs.declared.tree.Sign.{Sign}
use Rattle.pe_check.specs.declared.checked.Expr.{Expr}
use Rattle.pe_check.specs.declared.checked.Expr.TheVariants as expr
use Rattle.pe_check.specs.declared.checked.Expr.TheOpen.{Expr-F}
use Rattle.pe_check.specs.declared.checked.Expr.TheFolds.{fold-Expr}
use Rattle.pe_eval.specs.declared.fault.Fault.{Fault}
use Rattle.pe_eval.specs.Arithmetic.{Value, ◌>>=◌, linked, prefixed, extreme, absolute}
use Rattle.pe_eval.specs.Names.{Situation, name_value}

-- a chain from left to right: its value so far, and then each further sign with what is behind it
abbrev pub chain_value : Situation → Value → List (Sign × (Situation → Value)) → Value
chain_value situation so_far [] = so_far
chain_value situation so_far (link ∷ links) = chain_value situation (so_far >>= λ a. linked link.0 a (link.1 situation)) links

-- an expression whose parts have these values
abbrev pub expr_step : Expr-F (Situation → Value) → Situation → Value
expr_step (Expr-F.Number n) situation = Ok n
expr_step (Expr-F.Name name) situation = Ok (name_value name situation)
expr_step (Expr-F.Unary prefix operand) situation = operand situation >>= λ a. prefixed prefix a
expr_step (Expr-F.Chain first links) situation = chain_value situation (first situation) links
expr_step (Expr-F.Extreme choice left right) situation = left situation >>= λ a. right situation >>= λ b. Ok (extreme choice a b)
expr_step (Expr-F.Abs operand) situation = operand situation >>= λ a. absolute a

-- an expression without parts
abbrev pub is_simple : Expr → Bool
is_simple (expr.Number n) = true
is_simple (expr.Name name) = true
is_simple _ = false

abbrev pub value_of : Expr → Situation → Value
value_of = fold-Expr (Situation → Value) expr_step

-- a chain whose value so far is known
abbrev pub value_behind : Value → List (Sign × Expr) → Situation → Value
value_behind so_far links situation = chain_value situation so_far (map (λ link. (link.0, value_of link.1)) links)

-- one value and then more
abbrev pub values_from : Value → Result (List ℤ) Fault → Result (List ℤ) Fault
values_from (Err fault) rest = Err fault
values_from (Ok n) (Err fault) = Err fault
values_from (Ok n) (Ok ns) = Ok (n ∷ ns)

-- the values of a print, from left to right
abbrev pub values_of : List Expr → Situation → Result (List ℤ) Fault
values_of [] situation = Ok []
values_of (expr ∷ exprs) situation = values_from (value_of expr situation) (values_of exprs situation)

-- what is made of values, if there are any
abbrev pub with_values : {X Y : Type 0} → (X → Y) → Result X Fault → Result Y Fault
with_values make (Ok values) = Ok (make values)
with_values make (Err fault) = Err fault
