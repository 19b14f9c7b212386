use Rattle.pe_words.proofs.AsBefore.{as_before}
use Rattle.pe_words.proofs.WrittenOut.{examples}
use Rattle.pe_words.proofs.laws.named_jobs.Goals as goal

pub returns-clause-name : goal.returns-clause-name
returns-clause-name c = as_before

pub returns-clause-examples : goal.returns-clause-examples
returns-clause-examples c = examples
