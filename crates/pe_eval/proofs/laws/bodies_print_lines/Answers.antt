use Rattle.pe_eval.proofs.Meanings.{meaning_prints}
use Rattle.pe_eval.proofs.laws.bodies_print_lines.Goals as goal

pub returns : goal.returns
returns c = meaning_prints
