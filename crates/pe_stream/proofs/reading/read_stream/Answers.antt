use Rattle.std.specs.Option.{option_copied}
use Rattle.pe_stream.proofs.Answered.{only_one, few_of}
use Rattle.pe_stream.proofs.reading.read_stream.Goals as goal

pub returns-clause-only : goal.returns-clause-only
returns-clause-only c = λ saved spelled. only_one (option_copied c.args.expect) c.args.bytes.now c.read.result saved spelled c.read.ensures.ok c.read.ensures.fault

pub returns-clause-few : goal.returns-clause-few
returns-clause-few c = few_of (option_copied c.args.expect) c.args.bytes.now c.read.result c.read.ensures.ok
