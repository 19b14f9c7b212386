use Rattle.std.proofs.Common.{rules, subst}
use Rattle.pe_io.specs.Line.{HasNoFeed}
use Rattle.pe_io.proofs.Endings.{line_told}
use Rattle.pe_io.proofs.line.Line.end.Goals as goal

pub returns-clause-told : goal.returns-clause-told
returns-clause-told g c =
    line_told _ _ c.args.self (subst HasNoFeed c.self.view_is c.self.invariant.1) (search rules) c.write.ensures.faults c.write.result (search rules) (search rules) c.write.ensures.failed
