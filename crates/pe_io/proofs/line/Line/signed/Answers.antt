use Rattle.std.proofs.Common.{◌∙◌, ap}
use Rattle.pe_base.specs.Calls.Told.{line_feeds}
use Rattle.pe_base.proofs.LineFeeds.{feeds_signed}
use Rattle.pe_io.proofs.line.Line.signed.Goals as goal

pub part-requires-clause-plain : goal.part-requires-clause-plain
part-requires-clause-plain c = ap line_feeds c.format.ensures.text ∙ feeds_signed _
