use Rattle.std.proofs.Common.{◌≡◌, ◌∙◌, sym, subst, ap, List, [], ◌∷◌, ◌++◌, ◌+◌, drop, IsTrue, Ok, rules}
use Rattle.pe_check.specs.declared.checked.Stmt.{Stmt}
use Rattle.pe_check.specs.Fits.{fits, stmt_fits}
use Rattle.pe_check.specs.Resolving.{reach_in}
use Rattle.pe_check.specs.Scopes.{context_of}
use Rattle.pe_check.proofs.Gathering.{refuses-later, gathered, gathering-more, gathering-wrong, gathering-ends}
use Rattle.pe_check.proofs.Trees.{checked_stmt, body_of-all, all_fit-more, if_fits, if_else_fits}
use Rattle.pe_check.proofs.bodies.+body.Goals as goal

pub check_body-loop-stmt-preserved : goal.check_body-loop-stmt-preserved
check_body-loop-stmt-preserved t c =
    let pushed : c.push.new.self.items ≡ c.loop-stmt.checked.items ++ c.in-Ok.stmt ∷ [] = search rules in
    let P : List Stmt → Type 0 = λ items. IsTrue (fits (reach_in (context_of c.args.scope.now)) items) in
    record {
      went =
          ap (λ items. gathered (checked_stmt (context_of c.args.scope.now)) items (drop (c.loop-stmt.stmt-index + 1) c.args.body.now)) pushed
          ∙ gathering-more (checked_stmt (context_of c.args.scope.now)) c.args.body.now c.loop-stmt.stmt-index c.stmt-item.result c.loop-stmt.checked.items c.in-Ok.stmt
          c.loop-stmt.invariant.went c.loop-stmt-test.true c.stmt-item.is c.in-Ok.ensures.answer;
      fits = subst P (sym pushed) (all_fit-more (stmt_fits (reach_in (context_of c.args.scope.now))) c.loop-stmt.checked.items c.in-Ok.stmt c.loop-stmt.invariant.fits c.in-Ok.ensures.fits);
    }

pub check_stmt-returns-in_ok-check_body-in-If-clause-fits : goal.check_stmt-returns-in_ok-check_body-in-If-clause-fits
check_stmt-returns-in_ok-check_body-in-If-clause-fits t c = if_fits _ _ _ (search rules) (search rules)

pub check_stmt-returns-in_ok-check_body-in-IfElse-clause-fits : goal.check_stmt-returns-in_ok-check_body-in-IfElse-clause-fits
check_stmt-returns-in_ok-check_body-in-IfElse-clause-fits t c = if_else_fits _ _ _ _ (search rules) (search rules) (search rules)

pub check_body-returns-in-Err-clause-answer : goal.check_body-returns-in-Err-clause-answer
check_body-returns-in-Err-clause-answer t c =
    refuses-later c.in-Err.fault (checked_stmt (context_of c.args.scope.now) c.stmt-item.result) _
    (λ fault wrong. body_of-all (context_of c.args.scope.now) c.args.body.now
    ∙ gathering-wrong (checked_stmt (context_of c.args.scope.now)) c.args.body.now c.loop-stmt.stmt-index c.stmt-item.result c.loop-stmt.checked.items fault
    c.loop-stmt.invariant.went c.loop-stmt-test.true c.stmt-item.is wrong)
    c.in-Err.ensures.answer

pub check_body-returns-clause-answer : goal.check_body-returns-clause-answer
check_body-returns-clause-answer t c =
    body_of-all (context_of c.args.scope.now) c.args.body.now
    ∙ gathering-ends (checked_stmt (context_of c.args.scope.now)) c.args.body.now c.loop-stmt.stmt-index c.loop-stmt.checked.items c.loop-stmt.invariant.went c.loop-stmt-test.false
    ∙ ap Ok (sym c.new.ensures)
