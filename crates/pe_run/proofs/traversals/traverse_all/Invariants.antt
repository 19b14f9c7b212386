use Rattle.pe_scene.specs.SaidView.{said_of}
use Rattle.pe_io.specs.Sink.{told_by}
use Rattle.pe_run.proofs.InTurn.{IsInTurn}
use Rattle.pe_run.proofs.traversals.traverse_all.Given as goal

abbrev pub invariant-loop : goal.invariant-loop
invariant-loop g l =
    IsInTurn (said_of l.scenario) l.counter l.between (told_by g.K.Sink.text g.K.Sink.writes g.K.Sink.faults l.fn.sink) (told_by g.K.Sink.text g.K.Sink.writes g.K.Sink.faults l.sink) (g.DV.Depot.holds l.vertices) (g.DC.Depot.holds l.cells)
