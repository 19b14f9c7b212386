use Rattle.std.specs.Prelude.{Some}
use Rattle.pe_io.specs.Sink.{told_by}
use Rattle.pe_scene.specs.SaidView.{said_of}
use Rattle.pe_words.specs.declared.job.Job.TheVariants.{Run}
use Rattle.pe_run.specs.Tasks.{ran, task_for}
use Rattle.pe_run.proofs.RunLaws.{IsMade-done, IsMade-none}
use Rattle.pe_run.proofs.run.run.Goals as goal

pub returns-in-Ok-clause-made : goal.returns-in-Ok-clause-made
returns-in-Ok-clause-made g c =
    let tells = told_by g.K.Sink.text g.K.Sink.writes g.K.Sink.faults in
    IsMade-done (task_for (Some (Run c.args.name.now))) (g.H.Shelf.contents c.args.shelf.now) (g.H.Shelf.faults c.args.shelf.now) (g.H.Shelf.faults c.ask_run.new.shelf) (g.H.Shelf.last_failed c.ask_run.new.shelf)
    (tells c.args.sink.now) (g.DV.Depot.holds c.act_run.new.vertices) (g.DC.Depot.holds c.act_run.new.cells)
    (tells c.act_run.new.sink) (ran (said_of c.in-Ok.scenario)) c.act_run.result c.in-Ok.ensures.given c.act_run.ensures.leads c.act_run.ensures.traffic

pub returns-in-Err-clause-made : goal.returns-in-Err-clause-made
returns-in-Err-clause-made g c =
    let tells = told_by g.K.Sink.text g.K.Sink.writes g.K.Sink.faults in
    IsMade-none (task_for (Some (Run c.args.name.now))) (g.H.Shelf.contents c.args.shelf.now) (g.H.Shelf.faults c.args.shelf.now) (g.H.Shelf.faults c.ask_run.new.shelf) (g.H.Shelf.last_failed c.ask_run.new.shelf)
    (tells c.args.sink.now) (g.DV.Depot.holds c.args.vertices.now) (g.DC.Depot.holds c.args.cells.now) c.in-Err.refusal c.last.result c.in-Err.ensures.refused c.last.ensures.last
