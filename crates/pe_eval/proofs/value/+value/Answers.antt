use Rattle.std.proofs.Common.{drop, ◌+◌, IsTrue, Ok, rules, ap, ◌∙◌, subst, sym, w64}
use Rattle.std.proofs.lemmas.Int.{to_z-of_z}
use Rattle.pe_check.specs.declared.checked.Expr.{Expr, Chain}
use Rattle.pe_check.specs.declared.checked.Expr.TheViews.{the_lemmas}
use Rattle.pe_check.specs.Fits.{expr_fits}
use Rattle.pe_eval.specs.Arithmetic.{combined}
use Rattle.pe_eval.specs.Values.{value_of, value_behind}
use Rattle.pe_eval.specs.Sights.{reach_of, situation}
use Rattle.pe_eval.proofs.Chains.{value_of-first_err, fits_link, fits_right, link_value, link_operand_err, link_result_err}
use Rattle.pe_eval.proofs.value.+value.Goals as goal

pub compound-returns-in-Err : goal.compound-returns-in-Err
compound-returns-in-Err t c = value_of-first_err c.args.expr.now c.in-Chain.first c.in-Chain.links (situation c.args.view.now) c.in-Err.fault c.in-Chain.is
    (sym c.in-Err.is ∙ c.value-in-Chain.ensures ∙ ap (λ e. value_of e (situation c.args.view.now)) c.get-in-Chain.ensures)

pub compound-value-requires-in-Extreme-2 : goal.compound-value-requires-in-Extreme-2
compound-value-requires-in-Extreme-2 t c =
    let P : Expr → Type 0 = λ e. IsTrue (expr_fits (reach_of c.args.view.now) e) in
    (search (rules, the_lemmas), (subst P (sym c.get-in-Extreme-2.ensures) (fits_right _ c.args.expr.now c.in-Extreme.choice c.in-Extreme.left c.in-Extreme.right c.in-Extreme.is c.requires.fits), c.requires.ready))

pub compound-value-requires-in-loop-sign : goal.compound-value-requires-in-loop-sign
compound-value-requires-in-loop-sign t c =
    (search (rules, the_lemmas), (fits_link _ c.args.expr.now c.in-Chain.first c.as_slice-sign-items.result.now c.loop-sign.sign-index c.loop-sign-item.result (c.in-Chain.is ∙ ap (λ links. Chain c.in-Chain.first links) (sym c.as_slice-sign-items.ensures)) c.requires.fits c.loop-sign-test.true c.loop-sign-item.is, c.requires.ready))

pub compound-returns-in-Err-value : goal.compound-returns-in-Err-value
compound-returns-in-Err-value t c =
    link_operand_err (situation c.args.view.now) c.as_slice-sign-items.result.now c.loop-sign.sign-index c.loop-sign-item.result _ _ c.in-Err-value.fault
    c.loop-sign.invariant c.loop-sign-test.true c.loop-sign-item.is (sym c.is_decided.ensures ∙ c.if-is_decided.false) (sym c.in-Err-value.is ∙ c.value-in-loop-sign.ensures)

pub compound-returns-in-Err-combined : goal.compound-returns-in-Err-combined
compound-returns-in-Err-combined t c =
    link_result_err (situation c.args.view.now) c.as_slice-sign-items.result.now c.loop-sign.sign-index c.loop-sign-item.result _ _ c.in-Ok-value.operand c.in-Err-combined.fault
    c.loop-sign.invariant c.loop-sign-test.true c.loop-sign-item.is (sym c.is_decided.ensures ∙ c.if-is_decided.false) (sym c.in-Ok-value.is ∙ c.value-in-loop-sign.ensures)
    (sym c.in-Err-combined.is ∙ c.combined.ensures ∙ ap (combined c.loop-sign-item.result.0 _) (to_z-of_z w64 c.in-Ok-value.operand (search rules)))

pub compound-loop-sign-preserved : goal.compound-loop-sign-preserved
compound-loop-sign-preserved t c =
    ap (λ n. value_behind (Ok n) (drop (c.loop-sign.sign-index + 1) c.as_slice-sign-items.result.now) (situation c.args.view.now)) (to_z-of_z w64 c.in-Ok-combined.so_far (search rules))
    ∙ link_value (situation c.args.view.now) c.as_slice-sign-items.result.now c.loop-sign.sign-index c.loop-sign-item.result _ _ c.in-Ok-value.operand c.in-Ok-combined.so_far
    c.loop-sign.invariant c.loop-sign-test.true c.loop-sign-item.is (sym c.is_decided.ensures ∙ c.if-is_decided.false) (sym c.in-Ok-value.is ∙ c.value-in-loop-sign.ensures)
    (sym c.in-Ok-combined.is ∙ c.combined.ensures ∙ ap (combined c.loop-sign-item.result.0 _) (to_z-of_z w64 c.in-Ok-value.operand (search rules)))
