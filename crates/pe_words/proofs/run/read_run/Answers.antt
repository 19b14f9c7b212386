use Rattle.std.proofs.Common.{ap, subst, sym, ◌∙◌, map}
use Rattle.std.specs.Prelude.{string_bytes}
use Rattle.clap.specs.Words.{HasKind, fault_of, found_of, is_simple, is_simple_and_free, matches_of, rows_of}
use Rattle.pe_words.specs.Words.{run_app, run_in}
use Rattle.pe_words.proofs.Reading.{of_error, of_found}
use Rattle.pe_words.proofs.run.read_run.Goals as goal

pub returns-in_err-matches : goal.returns-in_err-matches
returns-in_err-matches c =
    let words = map string_bytes c.args.words.now in
    let error = c.in_err-matches.field-0.0 in
    let is_run = c.in_ok-command.ensures in
    let has = subst (λ app. HasKind (fault_of app words) error) is_run (c.in_err-matches.ensures.kinds (ap is_simple_and_free is_run)) in
    record { read = of_error run_in run_app words error _ has c.from_residual-in_err-matches.ensures.1 }

pub returns : goal.returns
returns c =
    let words = map string_bytes c.args.words.now in
    let rows = rows_of (found_of c.in_ok-matches.matches) in
    let is_run = c.in_ok-command.ensures in
    let none = ap (λ app. fault_of app words) (sym is_run) ∙ c.in_ok-matches.ensures.kinds (ap is_simple_and_free is_run) in
    let found = (c.in_ok-matches.ensures.matches (ap is_simple is_run)).0 ∙ ap (λ app. matches_of app words) is_run in
    record { read = of_found run_in run_app words rows _ none found c.run_in.ensures.read }
