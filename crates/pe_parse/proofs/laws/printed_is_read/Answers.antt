use Rattle.pe_parse.proofs.Again.{read_again}
use Rattle.pe_parse.proofs.laws.printed_is_read.Goals as goal

pub returns : goal.returns
returns c = read_again
