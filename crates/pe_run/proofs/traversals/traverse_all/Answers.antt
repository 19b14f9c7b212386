use Rattle.pe_scene.specs.SaidView.{said_of}
use Rattle.pe_io.specs.Sink.{told_by}
use Rattle.pe_run.proofs.Beginning.{first_stands}
use Rattle.pe_run.proofs.InTurn.{starts, goes_on, stops_at}
use Rattle.pe_run.proofs.traversals.traverse_all.Goals as goal

pub loop-init : goal.loop-init
loop-init g c =
    starts (said_of c.args.scenario.now) c.fresh-between.result (told_by g.K.Sink.text g.K.Sink.writes g.K.Sink.faults c.args.sink.now) _ _
    (first_stands c.args.scenario.now c.fresh-between.result _ _ c.fresh-between.ensures.range c.fresh-between.ensures.grid c.fresh-between.ensures.globals c.requires.vertices c.requires.cells)

pub returns-in-Err-clause-answer : goal.returns-in-Err-clause-answer
returns-in-Err-clause-answer g c =
    stops_at (said_of c.args.scenario.now) c.loop.counter c.loop.between _ _ _ (g.DV.Depot.holds c.loop.vertices) (g.DV.Depot.holds c.traverse_more.new.vertices) (g.DC.Depot.holds c.loop.cells) (g.DC.Depot.holds c.traverse_more.new.cells) c.in-Err.halt c.loop-test.true c.loop.invariant
    (c.in-Err.ensures.answer c.loop.invariant.made c.loop.invariant.grid c.loop.invariant.stands)

pub loop-preserved : goal.loop-preserved
loop-preserved g c =
    goes_on (said_of c.args.scenario.now) c.loop.counter c.loop.between c.in-Ok.next _ _ _ _ _ _ _ c.loop-test.true c.loop.invariant
    (c.in-Ok.ensures.answer c.loop.invariant.made c.loop.invariant.grid c.loop.invariant.stands)
