use Rattle.std.proofs.Common.{rules, ◌≡◌, Ok, Err, sym, ap}
use Rattle.pe_base.specs.declared.fields.Fields.{Fields}
use Rattle.pe_mapping.specs.Held.{found_of}
use Rattle.pe_stacks.specs.RecordsOut.{held_by}
use Rattle.pe_interp.specs.Held.{held_of}
use Rattle.pe_io.specs.Sink.{told_by}
use Rattle.pe_run.proofs.Traversing.{may_traverse, answered}
use Rattle.pe_run.proofs.traversals.walk_once.Goals as goal

pub returns-in-Ok-clause-answer : goal.returns-in-Ok-clause-answer
returns-in-Ok-clause-answer g c made grid stands =
    let start = held_of g.K.Sink.text g.K.Sink.writes g.K.Sink.faults c.new-mapping.result in
    let after = held_of g.K.Sink.text g.K.Sink.writes g.K.Sink.faults c.traverse-walked.new.m in
    let found = found_of start (held_by (g.DV.Depot.holds c.args.vertices.now) (g.DV.Depot.room c.args.vertices.now)) (held_by (g.DC.Depot.holds c.args.cells.now) (g.DC.Depot.room c.args.cells.now)) in
    let may = may_traverse c.args.scenario.now c.args.between made grid (g.DV.Depot.holds c.args.vertices.now) (g.DV.Depot.holds c.args.vertices.now) (g.DC.Depot.holds c.args.cells.now) (g.DC.Depot.holds c.args.cells.now) stands start (ap (λ (f : Fields). f.a) c.new-mapping.ensures.globals) in
    let sink : c.traverse-walked.new.m.sink.now ≡ c.sink-1.given.0 = search rules in
    answered c.args.scenario.now c.args.between made grid (g.DV.Depot.holds c.args.vertices.now) (g.DV.Depot.holds c.traverse-walked.new.dv) (g.DC.Depot.holds c.args.cells.now) (g.DC.Depot.holds c.traverse-walked.new.dc) stands c.new-mapping.result.scenario.now c.new-mapping.ensures.scenario
    (told_by g.K.Sink.text g.K.Sink.writes g.K.Sink.faults c.args.sink.now) _ found after c.globals-globals.result (Ok (c.in-Ok.grid, c.in-Ok.tally)) (ap (told_by g.K.Sink.text g.K.Sink.writes g.K.Sink.faults) c.new-mapping.ensures.sink) (ap (told_by g.K.Sink.text g.K.Sink.writes g.K.Sink.faults) sink)
    (sym (ap (λ (f : Fields). f.a) c.globals-globals.ensures.globals)) c.in-Ok.ensures.few c.in-Ok.ensures.advanced (c.in-Ok.ensures.answers grid may)

pub returns-in-Err-clause-answer : goal.returns-in-Err-clause-answer
returns-in-Err-clause-answer g c made grid stands =
    let start = held_of g.K.Sink.text g.K.Sink.writes g.K.Sink.faults c.new-mapping.result in
    let after = held_of g.K.Sink.text g.K.Sink.writes g.K.Sink.faults c.traverse-walked.new.m in
    let found = found_of start (held_by (g.DV.Depot.holds c.args.vertices.now) (g.DV.Depot.room c.args.vertices.now)) (held_by (g.DC.Depot.holds c.args.cells.now) (g.DC.Depot.room c.args.cells.now)) in
    let may = may_traverse c.args.scenario.now c.args.between made grid (g.DV.Depot.holds c.args.vertices.now) (g.DV.Depot.holds c.args.vertices.now) (g.DC.Depot.holds c.args.cells.now) (g.DC.Depot.holds c.args.cells.now) stands start (ap (λ (f : Fields). f.a) c.new-mapping.ensures.globals) in
    let sink : c.traverse-walked.new.m.sink.now ≡ c.sink-1.given.0 = search rules in
    answered c.args.scenario.now c.args.between made grid (g.DV.Depot.holds c.args.vertices.now) (g.DV.Depot.holds c.traverse-walked.new.dv) (g.DC.Depot.holds c.args.cells.now) (g.DC.Depot.holds c.traverse-walked.new.dc) stands c.new-mapping.result.scenario.now c.new-mapping.ensures.scenario
    (told_by g.K.Sink.text g.K.Sink.writes g.K.Sink.faults c.args.sink.now) _ found after c.globals-globals.result (Err c.in-Err.stop) (ap (told_by g.K.Sink.text g.K.Sink.writes g.K.Sink.faults) c.new-mapping.ensures.sink) (ap (told_by g.K.Sink.text g.K.Sink.writes g.K.Sink.faults) sink)
    (sym (ap (λ (f : Fields). f.a) c.globals-globals.ensures.globals)) c.in-Err.ensures.few c.in-Err.ensures.advanced (c.in-Err.ensures.answers grid may)
