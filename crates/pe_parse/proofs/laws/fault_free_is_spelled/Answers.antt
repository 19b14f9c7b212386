use Rattle.pe_parse.proofs.FaultFree.{tree_of}
use Rattle.pe_parse.proofs.laws.fault_free_is_spelled.Goals as goal

pub returns : goal.returns
returns c = tree_of
