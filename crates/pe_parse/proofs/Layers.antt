-- A fold over an expression, by the expression's variants.
use Rattle.std.proofs.Common.{◌≡◌, ℤ, List, map, sym, ◌∙◌, ap}
use Rattle.pe_parse.specs.declared.tree.Sign.{Sign}
use Rattle.pe_parse.specs.declared.tree.Prefix.{Prefix}
use Rattle.pe_parse.specs.declared.tree.Choice.{Choice}
use Rattle.pe_parse.specs.declared.tree.Name.{Name}
use Rattle.pe_parse.specs.declared.tree.Expr.{Expr}
use Rattle.pe_parse.specs.declared.tree.Expr.TheVariants as expr
use Rattle.pe_parse.specs.declared.tree.Expr.TheOpen.{Expr-F}
use Rattle.pe_parse.specs.declared.tree.Expr.TheFolds.{fold-Expr, fold-roll-Expr}

module _ (A : Type 0) (step : Expr-F A → A) where
  pub of_number : (n : ℤ) → fold-Expr A step (expr.Number n) ≡ step (Expr-F.Number n)
  of_number n = ap (fold-Expr A step) (sym (expr.rolls-Number n)) ∙ fold-roll-Expr A step (Expr-F.Number n)

  pub of_name : (n : Name) → fold-Expr A step (expr.Name n) ≡ step (Expr-F.Name n)
  of_name n = ap (fold-Expr A step) (sym (expr.rolls-Name n)) ∙ fold-roll-Expr A step (Expr-F.Name n)

  pub of_unary : (p : Prefix) (e : Expr) → fold-Expr A step (expr.Unary p e) ≡ step (Expr-F.Unary p (fold-Expr A step e))
  of_unary p e = ap (fold-Expr A step) (sym (expr.rolls-Unary p e)) ∙ fold-roll-Expr A step (Expr-F.Unary p e)

  pub of_chain : (e : Expr) (links : List (Sign × Expr)) → fold-Expr A step (expr.Chain e links) ≡ step (Expr-F.Chain (fold-Expr A step e) (map (λ (link : Sign × Expr). (link.0, fold-Expr A step link.1)) links))
  of_chain e links = ap (fold-Expr A step) (sym (expr.rolls-Chain e links)) ∙ fold-roll-Expr A step (Expr-F.Chain e links)

  pub of_extreme : (c : Choice) (a b : Expr) → fold-Expr A step (expr.Extreme c a b) ≡ step (Expr-F.Extreme c (fold-Expr A step a) (fold-Expr A step b))
  of_extreme c a b = ap (fold-Expr A step) (sym (expr.rolls-Extreme c a b)) ∙ fold-roll-Expr A step (Expr-F.Extreme c a b)

  pub of_abs : (e : Expr) → fold-Expr A step (expr.Abs e) ≡ step (Expr-F.Abs (fold-Expr A step e))
  of_abs e = ap (fold-Expr A step) (sym (expr.rolls-Abs e)) ∙ fold-roll-Expr A step (Expr-F.Abs e)
