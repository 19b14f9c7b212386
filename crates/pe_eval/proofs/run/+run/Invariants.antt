use Rattle.std.proofs.Common.{◌≡◌}
use Rattle.pe_base.specs.Acts.Effects.{MayLeave}
use Rattle.pe_io.specs.Sink.{told_by}
use Rattle.pe_eval.specs.Sights.{sight, frame, IsReady}
use Rattle.pe_eval.proofs.Runs.{Went}
use Rattle.pe_eval.proofs.Interrupted.{Came}
use Rattle.pe_eval.proofs.run.+run.Given as goal

abbrev pub invariant-run-loop-stmt : goal.invariant-run-loop-stmt
invariant-run-loop-stmt g l =
    let told = told_by g.K.Sink.text g.K.Sink.writes g.K.Sink.faults in
    record {
      went : Went l.body l.fn.view (told l.fn.sink) l.stmt-index l.view (told l.sink);
      came : Came l.body l.fn.view (told l.fn.sink) l.stmt-index l.view (told l.sink);
      lawful : MayLeave (frame l.fn.view).setting.max_level (sight l.fn.view) (sight l.view);
      same : frame l.view ≡ frame l.fn.view;
      ready : IsReady l.view;
    }
