use Rattle.std.proofs.Common.{◌∙◌, sym, ap, subst}
use Rattle.std.specs.Option.{option_copied}
use Rattle.pe_base.specs.declared.place.Place.{Place}
use Rattle.pe_base.specs.Calls.Told.{Adds}
use Rattle.pe_base.proofs.Lawful.{leaves_same}
use Rattle.pe_io.specs.Sink.{told_by}
use Rattle.pe_eval.specs.Sights.{sight, globals_of, frame}
use Rattle.pe_scene.specs.SaidView.{said_of}
use Rattle.pe_interp.specs.Effect.{trace_line}
use Rattle.pe_interp.proofs.Wider.{body_fits}
use Rattle.pe_interp.proofs.Outcomes.{body_acts}
use Rattle.pe_interp.proofs.acting.act.Goals as goal

pub returns-in-Err-clause-lawful : goal.returns-in-Err-clause-lawful
returns-in-Err-clause-lawful g c = leaves_same _ _

pub returns-in-None-clause-lawful : goal.returns-in-None-clause-lawful
returns-in-None-clause-lawful g c = leaves_same _ _

pub eval-requires-clause-fits : goal.eval-requires-clause-fits
eval-requires-clause-fits g c =
    body_fits c.args.scenario.now c.args.event (frame c.args.view.now).sort (frame c.args.view.now).dim c.in-Some.body.now (sym c.requires.sort) (sym c.of.ensures ∙ ap option_copied c.in-Some.is) c.requires.dim

pub returns-in-Some-clause-answer : goal.returns-in-Some-clause-answer
returns-in-Some-clause-answer g c =
    let tells = told_by g.K.Sink.text g.K.Sink.writes g.K.Sink.faults in
    let said = said_of c.args.scenario.now in
    let P : Place → Type 0 = λ place. Adds (tells c.args.sink.now) (trace_line said c.args.event c.args.traversal place) (tells c.write_trace.new.sink) in
    body_acts said c.args.event c.args.traversal (globals_of c.args.view.now) (sight c.args.view.now) (tells c.args.sink.now) (tells c.write_trace.new.sink)
    (subst P (sym c.requires.place) c.in-Ok.ensures.told) c.in-Some.body.now (frame c.args.view.now).setting (tells c.eval.new.sink) _ _ c.eval.result
    (sym c.of.ensures ∙ ap option_copied c.in-Some.is) c.requires.setting c.eval.ensures.answer
