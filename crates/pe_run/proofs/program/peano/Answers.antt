use Rattle.std.proofs.Common.{◌∙◌, map, string_bytes, sym}
use Rattle.pe_io.specs.Sink.{told_by}
use Rattle.pe_run.specs.Endings.{ending_of}
use Rattle.pe_run.specs.Tasks.{task_of, ended}
use Rattle.pe_run.proofs.RunLaws.{finished, IsRun-finished, IsRun-cleared, shelf_cause, sink_failed, complete}
use Rattle.pe_run.proofs.program.peano.Goals as goal

pub returns-clause-run : goal.returns-clause-run
returns-clause-run g c =
    let tells = told_by g.K.Sink.text g.K.Sink.writes g.K.Sink.faults in
    let task = task_of (map string_bytes c.args.words.now) in
    let told = g.H.Shelf.contents c.args.shelf.now in
    let before = g.H.Shelf.faults c.args.shelf.now in
    let after = g.H.Shelf.faults c.make-last.new.shelf in
    let last = g.H.Shelf.last_failed c.make-last.new.shelf in
    let vertices = g.DV.Depot.holds c.make-last.new.vertices in
    let cells = g.DC.Depot.holds c.make-last.new.cells in
    let run = IsRun-finished task told before after last vertices cells (tells c.args.sink.now) (tells c.make-last.new.sink) (tells c.finish-ending.new.sink) c.make-last.result c.finish-ending.result
    c.make-last.ensures.made c.finish-ending.ensures.finished in
    rw c.settle.ensures.cleared (rw c.settle-2.ensures.cleared (rw c.exit_status.ensures
    (IsRun-cleared task told before after last vertices cells (tells c.args.sink.now) (tells c.finish-ending.new.sink) (ending_of c.finish-ending.result) run)))

pub returns-clause-shelf_cause : goal.returns-clause-shelf_cause
returns-clause-shelf_cause g c =
    let run = returns-clause-run g c in
    shelf_cause _ _ _ _ _ _ _ _ _ _ run

pub returns-clause-sink_cause : goal.returns-clause-sink_cause
returns-clause-sink_cause g c is =
    let tells = told_by g.K.Sink.text g.K.Sink.writes g.K.Sink.faults in
    let made = c.make-last.ensures.made in
    sink_failed (ended made.given) (tells c.args.sink.now) (tells c.finish-ending.new.sink) c.finish-ending.result
    (finished (ended made.given) c.make-last.result (tells c.args.sink.now) (tells c.make-last.new.sink) (tells c.finish-ending.new.sink) c.finish-ending.result made.leads c.finish-ending.ensures.finished)
    (sym c.exit_status.ensures ∙ is)

pub returns-clause-completeness : goal.returns-clause-completeness
returns-clause-completeness g c calm quiet =
    let run = returns-clause-run g c in
    complete _ _ _ _ _ _ _ _ _ _ run calm (λ seven. quiet (returns-clause-sink_cause g c seven))
