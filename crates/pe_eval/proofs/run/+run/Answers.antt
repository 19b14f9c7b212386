use Rattle.std.proofs.Common.{sym, subst, ◌∙◌, refl, rules, List, [], IsTrue, Err}
use Rattle.pe_base.specs.Acts.Effects.{Seen, MayLeave}
use Rattle.pe_check.specs.Fits.{fits}
use Rattle.pe_check.specs.declared.checked.Stmt.{Stmt}
use Rattle.pe_check.specs.declared.checked.Stmt.TheViews.{the_lemmas}
use Rattle.pe_eval.specs.Sights.{sight, globals_of, frame, reach_of}
use Rattle.pe_base.proofs.Lawful.{leaves_same}
use Rattle.pe_eval.proofs.Lawful.{lawful-number, lawful-trigger}
use Rattle.pe_eval.proofs.Runs.{fits-if, fits-then, fits-else, stmt_fits-at, went-begins, went-on, went-err, lawful-on}
use Rattle.pe_base.specs.Calls.Told.{Told}
use Rattle.pe_io.specs.Sink.{told_by}
use Rattle.pe_eval.specs.Interrupted.{IfSinkFails, StoodAt}
use Rattle.pe_eval.proofs.Interrupted.{came-begins, came-on, came-stood, stood-print, stood-if, stood-first, stood-second}
use Rattle.pe_eval.proofs.run.+run.Goals as goal

pub step-run-requires : goal.step-run-requires
step-run-requires g t c κs within =
    let P : List Stmt → Type 0 = λ body. IsTrue (fits (reach_of c.args.view.now) body) in
    (search (rules, the_lemmas), (within, (subst P (sym c.as_slice.ensures) (fits-if _ c.args.stmt.now c.in-If.test c.in-If.body [] c.in-If.is c.requires.fits), c.requires.ready)))

pub step-returns-in-Ok-clause-lawful : goal.step-returns-in-Ok-clause-lawful
step-returns-in-Ok-clause-lawful g t c =
    let P : Seen → Type 0 = λ seen. MayLeave (frame c.args.view.now).setting.max_level (sight c.args.view.now) seen in
    subst P (sym c.set.ensures.sight) (lawful-number _ _ _ _)

pub step-returns-in-Err-clause-lawful : goal.step-returns-in-Err-clause-lawful
step-returns-in-Err-clause-lawful g t c = leaves_same _ _

pub step-returns-in-Trigger-clause-lawful : goal.step-returns-in-Trigger-clause-lawful
step-returns-in-Trigger-clause-lawful g t c =
    let P : Seen → Type 0 = λ seen. MayLeave (frame c.args.view.now).setting.max_level (sight c.args.view.now) seen in
    subst P (sym c.apply.ensures.sight) (lawful-trigger _ _ _ _)

pub step-returns-in-Print-clause-lawful : goal.step-returns-in-Print-clause-lawful
step-returns-in-Print-clause-lawful g t c = leaves_same _ _

pub step-returns-in-Ok-eq0-clause-lawful : goal.step-returns-in-Ok-eq0-clause-lawful
step-returns-in-Ok-eq0-clause-lawful g t c = leaves_same _ _

pub step-returns-in-Err-value-clause-lawful : goal.step-returns-in-Err-value-clause-lawful
step-returns-in-Err-value-clause-lawful g t c = leaves_same _ _

pub step-returns-in-Err-value-2-clause-lawful : goal.step-returns-in-Err-value-2-clause-lawful
step-returns-in-Err-value-2-clause-lawful g t c = leaves_same _ _

pub step-run-requires-in-Ok-eq0-value : goal.step-run-requires-in-Ok-eq0-value
step-run-requires-in-Ok-eq0-value g t c κs within =
    let P : List Stmt → Type 0 = λ body. IsTrue (fits (reach_of c.args.view.now) body) in
    (search (rules, the_lemmas), (within, (subst P (sym c.as_slice-in-Ok-eq0-value.ensures) (fits-else _ c.args.stmt.now c.in-IfElse.test c.in-IfElse.body c.in-IfElse.other c.in-IfElse.is c.requires.fits), c.requires.ready)))

pub step-run-requires-in-Ok-value-2 : goal.step-run-requires-in-Ok-value-2
step-run-requires-in-Ok-value-2 g t c κs within =
    let P : List Stmt → Type 0 = λ body. IsTrue (fits (reach_of c.args.view.now) body) in
    (search (rules, the_lemmas), (within, (subst P (sym c.as_slice-in-Ok-value-2.ensures) (fits-then _ c.args.stmt.now c.in-IfElse.test c.in-IfElse.body c.in-IfElse.other c.in-IfElse.is c.requires.fits), c.requires.ready)))

pub run-step-requires : goal.run-step-requires
run-step-requires g t c κs within = (search (rules, the_lemmas), (within, (stmt_fits-at c.args.view.now c.loop-stmt.view c.args.body.now c.loop-stmt.stmt-index c.stmt-item.result c.requires.fits c.loop-stmt.invariant.same c.loop-stmt-test.true c.stmt-item.is, c.loop-stmt.invariant.ready)))

pub run-loop-stmt-init : goal.run-loop-stmt-init
run-loop-stmt-init g t c = record {
  went = went-begins c.args.body.now c.args.view.now _;
  came = came-begins c.args.body.now c.args.view.now _;
  lawful = leaves_same _ _;
  same = refl;
  ready = c.requires.ready;
}

pub run-returns-in-Err-clause-answer : goal.run-returns-in-Err-clause-answer
run-returns-in-Err-clause-answer g t c =
    went-err c.args.body.now c.args.view.now _ c.loop-stmt.stmt-index c.loop-stmt.view _ c.stmt-item.result (Unit {0}) _ _ _ c.in-Err.stop
    c.loop-stmt.invariant.went c.loop-stmt.invariant.same c.loop-stmt-test.true c.stmt-item.is c.in-Err.ensures.answer

pub run-returns-in-Err-clause-lawful : goal.run-returns-in-Err-clause-lawful
run-returns-in-Err-clause-lawful g t c = lawful-on c.args.view.now c.loop-stmt.view c.step.new.view c.loop-stmt.invariant.same c.loop-stmt.invariant.lawful c.in-Err.ensures.lawful

pub run-loop-stmt-preserved : goal.run-loop-stmt-preserved
run-loop-stmt-preserved g t c = record {
  went = went-on c.args.body.now c.args.view.now _ c.loop-stmt.stmt-index c.loop-stmt.view _ c.stmt-item.result c.step.new.view _
      c.loop-stmt.invariant.went c.loop-stmt.invariant.same c.loop-stmt-test.true c.stmt-item.is c.in-Ok.ensures.answer;
  came = came-on c.args.body.now c.args.view.now _ c.loop-stmt.stmt-index c.loop-stmt.view _ c.stmt-item.result c.step.new.view _
      c.loop-stmt.invariant.came c.loop-stmt.invariant.same c.loop-stmt-test.true c.stmt-item.is c.in-Ok.ensures.answer;
  lawful = lawful-on c.args.view.now c.loop-stmt.view c.step.new.view c.loop-stmt.invariant.same c.loop-stmt.invariant.lawful c.in-Ok.ensures.lawful;
  same = c.in-Ok.ensures.frame ∙ c.loop-stmt.invariant.same;
  ready = c.in-Ok.ensures.ready;
}

pub run-returns-in-Err-clause-interrupted : goal.run-returns-in-Err-clause-interrupted
run-returns-in-Err-clause-interrupted g t c =
    came-stood c.args.body.now c.args.view.now _ c.loop-stmt.stmt-index c.loop-stmt.view _ c.stmt-item.result (Unit {0}) (Err c.in-Err.stop) _ _ _
    c.loop-stmt.invariant.came c.loop-stmt.invariant.same c.loop-stmt-test.true c.stmt-item.is c.in-Err.ensures.interrupted

pub step-returns-in-Print-clause-interrupted : goal.step-returns-in-Print-clause-interrupted
step-returns-in-Print-clause-interrupted g t c = λ rest.
    stood-print (frame c.args.view.now).setting c.args.stmt.now rest (sight c.args.view.now) (globals_of c.args.view.now) _ _ (Unit {0}) c.print.result c.in-Print.values c.in-Print.is c.print.ensures.interrupted

pub step-returns-in-Ok-value-clause-interrupted : goal.step-returns-in-Ok-value-clause-interrupted
step-returns-in-Ok-value-clause-interrupted g t c = λ rest.
    let old : Told = told_by g.K.Sink.text g.K.Sink.writes g.K.Sink.faults c.args.sink.now in
    let new : Told = told_by g.K.Sink.text g.K.Sink.writes g.K.Sink.faults c.run.new.sink in
    let P : List Stmt → Type 0 = λ body. IfSinkFails c.run.result (StoodAt (frame c.args.view.now).setting body (sight c.args.view.now) (globals_of c.args.view.now) old new (sight c.run.new.view) (globals_of c.run.new.view)) in
    stood-if (frame c.args.view.now).setting c.args.stmt.now rest (sight c.args.view.now) (globals_of c.args.view.now) old new (Unit {0}) c.run.result (sight c.run.new.view) (globals_of c.run.new.view)
    c.in-If.test c.in-If.body [] c.in-Ok-value.field-0 c.in-If.is (sym c.value-in-If.ensures ∙ c.in-Ok-value.is) (search rules) (subst P c.as_slice.ensures c.run.ensures.interrupted)

pub step-returns-in-Ok-eq0-value-clause-interrupted : goal.step-returns-in-Ok-eq0-value-clause-interrupted
step-returns-in-Ok-eq0-value-clause-interrupted g t c = λ rest.
    let old : Told = told_by g.K.Sink.text g.K.Sink.writes g.K.Sink.faults c.args.sink.now in
    let new : Told = told_by g.K.Sink.text g.K.Sink.writes g.K.Sink.faults c.run-in-Ok-eq0-value.new.sink in
    let P : List Stmt → Type 0 = λ body. IfSinkFails c.run-in-Ok-eq0-value.result (StoodAt (frame c.args.view.now).setting body (sight c.args.view.now) (globals_of c.args.view.now) old new (sight c.run-in-Ok-eq0-value.new.view) (globals_of c.run-in-Ok-eq0-value.new.view)) in
    stood-second (frame c.args.view.now).setting c.args.stmt.now rest (sight c.args.view.now) (globals_of c.args.view.now) old new (Unit {0}) c.run-in-Ok-eq0-value.result (sight c.run-in-Ok-eq0-value.new.view) (globals_of c.run-in-Ok-eq0-value.new.view)
    c.in-IfElse.test c.in-IfElse.body c.in-IfElse.other c.in-Ok-eq0-value.field-0 c.in-IfElse.is (sym c.value-in-IfElse.ensures ∙ c.in-Ok-eq0-value.is) (search rules) (subst P c.as_slice-in-Ok-eq0-value.ensures c.run-in-Ok-eq0-value.ensures.interrupted)

pub step-returns-in-Ok-value-2-clause-interrupted : goal.step-returns-in-Ok-value-2-clause-interrupted
step-returns-in-Ok-value-2-clause-interrupted g t c = λ rest.
    let old : Told = told_by g.K.Sink.text g.K.Sink.writes g.K.Sink.faults c.args.sink.now in
    let new : Told = told_by g.K.Sink.text g.K.Sink.writes g.K.Sink.faults c.run-in-Ok-value-2.new.sink in
    let P : List Stmt → Type 0 = λ body. IfSinkFails c.run-in-Ok-value-2.result (StoodAt (frame c.args.view.now).setting body (sight c.args.view.now) (globals_of c.args.view.now) old new (sight c.run-in-Ok-value-2.new.view) (globals_of c.run-in-Ok-value-2.new.view)) in
    stood-first (frame c.args.view.now).setting c.args.stmt.now rest (sight c.args.view.now) (globals_of c.args.view.now) old new (Unit {0}) c.run-in-Ok-value-2.result (sight c.run-in-Ok-value-2.new.view) (globals_of c.run-in-Ok-value-2.new.view)
    c.in-IfElse.test c.in-IfElse.body c.in-IfElse.other c.in-Ok-value-2.field-0 c.in-IfElse.is (sym c.value-in-IfElse.ensures ∙ c.in-Ok-value-2.is) (search rules) (subst P c.as_slice-in-Ok-value-2.ensures c.run-in-Ok-value-2.ensures.interrupted)
