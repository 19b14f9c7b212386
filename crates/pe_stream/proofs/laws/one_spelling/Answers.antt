use Rattle.pe_stream.proofs.Whole.{saved_once, no_fault}
use Rattle.pe_stream.proofs.laws.one_spelling.Goals as goal

pub returns-clause-once : goal.returns-clause-once
returns-clause-once c = saved_once

pub returns-clause-faultless : goal.returns-clause-faultless
returns-clause-faultless c = no_fault
