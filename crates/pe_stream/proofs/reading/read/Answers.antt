use Rattle.std.specs.Option.{option_copied}
use Rattle.pe_stream.proofs.Answered.{spelled_of}
use Rattle.pe_stream.proofs.reading.read.Goals as goal

pub returns-clause-ok : goal.returns-clause-ok
returns-clause-ok c = spelled_of (option_copied c.args.expect) c.args.bytes.now c.read_parts.result c.in_ok-header.ensures.expected c.read_parts.ensures.saved
