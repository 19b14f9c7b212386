use Rattle.std.proofs.Common.{◌+◌, ◌∙◌, ap}
use Rattle.pe_io.specs.Sink.{told_by}
use Rattle.pe_run.proofs.Tallied.{with_line, fails_at_line}
use Rattle.pe_run.proofs.traversals.traverse_more.Goals as goal

pub returns-in-Ok-tally_line-clause-answer : goal.returns-in-Ok-tally_line-clause-answer
returns-in-Ok-tally_line-clause-answer g c made grid stands =
    with_line _ grid made _ (told_by g.K.Sink.text g.K.Sink.writes g.K.Sink.faults c.walk_once.new.sink) _ _ _ _ _ (c.in-Ok.ensures.answer made grid stands)
    c.in-Ok-tally_line.ensures.told

pub returns-in-Err-tally_line-clause-answer : goal.returns-in-Err-tally_line-clause-answer
returns-in-Err-tally_line-clause-answer g c made grid stands =
    fails_at_line _ grid made _ (told_by g.K.Sink.text g.K.Sink.writes g.K.Sink.faults c.walk_once.new.sink) _ _ _ _ _ (c.in-Ok.ensures.answer made grid stands)
    c.in-Err-tally_line.ensures.told

pub returns-in-Err-clause-answer : goal.returns-in-Err-clause-answer
returns-in-Err-clause-answer g c made grid stands = (ap (λ n. n + 1) (c.finished-traversal.ensures ∙ stands.counted), c.in-Err.ensures.answer made grid stands)
