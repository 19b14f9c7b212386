use Rattle.std.proofs.Common.{sym, ◌∙◌, ap}
use Rattle.pe_eval.specs.Sights.{situation}
use Rattle.pe_eval.specs.Meaning.{print_start}
use Rattle.pe_eval.specs.Values.{values_of, with_values}
use Rattle.pe_eval.proofs.Runs.{printed-all, printed-cut}
use Rattle.pe_eval.proofs.Interrupted.{print-fails}
use Rattle.pe_eval.proofs.run.print.Goals as goal

pub returns-in-Ok-end-clause-answer : goal.returns-in-Ok-end-clause-answer
returns-in-Ok-end-clause-answer g c =
    printed-all (situation c.args.view.now) c.args.values.now c.in-Ok.line _ _
    (sym c.in-Ok.is ∙ c.print_line.ensures ∙ ap (λ values. with_values print_start (values_of values (situation c.args.view.now))) c.as_slice.ensures.value)
    c.in-Ok-end.ensures.told

pub returns-in-Err-end-clause-answer : goal.returns-in-Err-end-clause-answer
returns-in-Err-end-clause-answer g c =
    printed-cut (situation c.args.view.now) c.args.values.now c.in-Ok.line _ _
    (sym c.in-Ok.is ∙ c.print_line.ensures ∙ ap (λ values. with_values print_start (values_of values (situation c.args.view.now))) c.as_slice.ensures.value)
    c.in-Err-end.ensures.told

pub returns-in-Err-end-clause-interrupted : goal.returns-in-Err-end-clause-interrupted
returns-in-Err-end-clause-interrupted g c =
    print-fails (situation c.args.view.now) c.args.values.now c.in-Ok.line _ _
    (sym c.in-Ok.is ∙ c.print_line.ensures ∙ ap (λ values. with_values print_start (values_of values (situation c.args.view.now))) c.as_slice.ensures.value)
    c.in-Err-end.ensures.told c.in-Err-end.ensures.piece
