use Rattle.std.proofs.Common.{◌≡◌, ◌∙◌, sym, subst, ap, Ok, List, [], ◌∷◌, ◌++◌, ◌+◌, drop, IsTrue, rules}
use Rattle.std.specs.List.{list_all}
use Rattle.pe_parse.specs.declared.tree.Sign.{Sign}
use Rattle.pe_parse.specs.declared.tree.Expr.{Chain as ReadChain}
use Rattle.pe_check.specs.declared.checked.Expr.{Expr, Chain}
use Rattle.pe_check.specs.Fits.{expr_fits}
use Rattle.pe_check.specs.Resolving.{reach_in}
use Rattle.pe_check.specs.Scopes.{context_of}
use Rattle.pe_check.specs.Checking.{◌>>=◌, expr_of}
use Rattle.pe_check.proofs.Gathering.{refuses-later, gathered, gathering-more, gathering-wrong, gathering-ends}
use Rattle.pe_check.proofs.Trees.{checked_link, chain_link_wrong, chain_right, chain_fits, all_fit-more}
use Rattle.pe_check.proofs.bodies.+check_expr.Goals as goal

pub returns-in-Err-check_expr-clause-answer : goal.returns-in-Err-check_expr-clause-answer
returns-in-Err-check_expr-clause-answer t c =
    refuses-later c.in-Err-check_expr.fault (expr_of (context_of c.args.scope.now) c.loop-sign-item.result.1) _
    (λ fault wrong. chain_link_wrong (context_of c.args.scope.now) c.args.expr.now c.in-Chain.first c.as_slice-sign-items.result.now
    (c.in-Chain.is ∙ ap (ReadChain c.in-Chain.first) (sym c.as_slice-sign-items.ensures)) c.in_ok-first-in-Chain.first fault
    (ap (expr_of (context_of c.args.scope.now)) (sym c.get-in-Chain.ensures) ∙ c.in_ok-first-in-Chain.ensures.answer)
    (gathering-wrong (checked_link (context_of c.args.scope.now)) c.as_slice-sign-items.result.now c.loop-sign.sign-index c.loop-sign-item.result c.loop-sign.checked.items fault
    c.loop-sign.invariant.went c.loop-sign-test.true c.loop-sign-item.is (ap (λ r. r >>= λ x. Ok (c.loop-sign-item.result.0, x)) wrong)))
    c.in-Err-check_expr.ensures.answer

pub loop-sign-preserved : goal.loop-sign-preserved
loop-sign-preserved t c =
    let pushed : c.push.new.self.items ≡ c.loop-sign.checked.items ++ (c.loop-sign-item.result.0, c.in-Ok-check_expr.operand) ∷ [] = search rules in
    let P : List (Sign × Expr) → Type 0 = λ items. IsTrue (list_all (λ link. expr_fits (reach_in (context_of c.args.scope.now)) link.1) items) in
    record {
      went =
          ap (λ items. gathered (checked_link (context_of c.args.scope.now)) items (drop (c.loop-sign.sign-index + 1) c.as_slice-sign-items.result.now)) pushed
          ∙ gathering-more (checked_link (context_of c.args.scope.now)) c.as_slice-sign-items.result.now c.loop-sign.sign-index c.loop-sign-item.result c.loop-sign.checked.items (c.loop-sign-item.result.0, c.in-Ok-check_expr.operand)
          c.loop-sign.invariant.went c.loop-sign-test.true c.loop-sign-item.is (ap (λ r. r >>= λ x. Ok (c.loop-sign-item.result.0, x)) c.in-Ok-check_expr.ensures.answer);
      fits = subst P (sym pushed) (all_fit-more (λ link. expr_fits (reach_in (context_of c.args.scope.now)) link.1) c.loop-sign.checked.items (c.loop-sign-item.result.0, c.in-Ok-check_expr.operand) c.loop-sign.invariant.fits c.in-Ok-check_expr.ensures.fits);
      kept = c.loop-sign.invariant.kept;
    }

pub returns-in_ok-new-in-Chain-clause-answer : goal.returns-in_ok-new-in-Chain-clause-answer
returns-in_ok-new-in-Chain-clause-answer t c =
    chain_right (context_of c.args.scope.now) c.args.expr.now c.in-Chain.first c.as_slice-sign-items.result.now
    (c.in-Chain.is ∙ ap (ReadChain c.in-Chain.first) (sym c.as_slice-sign-items.ensures)) c.in_ok-first-in-Chain.first c.loop-sign.checked.items
    (ap (expr_of (context_of c.args.scope.now)) (sym c.get-in-Chain.ensures) ∙ c.in_ok-first-in-Chain.ensures.answer)
    (gathering-ends (checked_link (context_of c.args.scope.now)) c.as_slice-sign-items.result.now c.loop-sign.sign-index c.loop-sign.checked.items c.loop-sign.invariant.went c.loop-sign-test.false)
    ∙ ap (λ x. Ok (Chain x c.loop-sign.checked.items)) (sym (c.in_ok-new-in-Chain.ensures ∙ c.loop-sign.invariant.kept))
    ∙ ap (λ xs. Ok (Chain c.in_ok-new-in-Chain.field-0 xs)) (sym c.new-in-Chain-2.ensures)

pub returns-in_ok-new-in-Chain-clause-fits : goal.returns-in_ok-new-in-Chain-clause-fits
returns-in_ok-new-in-Chain-clause-fits t c =
    let P : Expr → Type 0 = λ x. IsTrue (expr_fits (reach_in (context_of c.args.scope.now)) x) in
    let Q : List (Sign × Expr) → Type 0 = λ items. IsTrue (list_all (λ link. expr_fits (reach_in (context_of c.args.scope.now)) link.1) items) in
    chain_fits (reach_in (context_of c.args.scope.now)) c.in_ok-new-in-Chain.field-0 c.new-in-Chain-2.result
    (subst P (sym (c.in_ok-new-in-Chain.ensures ∙ c.loop-sign.invariant.kept)) c.in_ok-first-in-Chain.ensures.fits)
    (subst Q (sym c.new-in-Chain-2.ensures) c.loop-sign.invariant.fits)
