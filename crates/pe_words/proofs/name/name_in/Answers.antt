use Rattle.std.proofs.Common.{subst, sym, ap, ◌∙◌}
use Rattle.std.specs.Prelude.{option_and_then}
use Rattle.clap.specs.Words.{found_of}
use Rattle.clap.proofs.WalkLemmas.{first_value-rows}
use Rattle.pe_words.specs.Words.{IsRead, name_of}
use Rattle.pe_words.proofs.name.name_in.Goals as goal

pub returns-in-Some : goal.returns-in-Some
returns-in-Some c =
    let first = c.in-Some.ensures ∙ first_value-rows (found_of c.args.matches.now) c.args.id.now in
    record { read = subst (λ o. IsRead (option_and_then name_of o) c.name_of.result) first c.name_of.ensures.read }

pub returns-in-None : goal.returns-in-None
returns-in-None c =
    let first = c.in-None.ensures ∙ first_value-rows (found_of c.args.matches.now) c.args.id.now in
    record { read = ap (option_and_then name_of) (sym first) }
