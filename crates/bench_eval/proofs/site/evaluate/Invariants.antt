use Rattle.std.proofs.Common.{◌≡◌}
use Rattle.pe_eval.specs.Sights.{frame, IsReady}
use Rattle.bench_eval.proofs.site.evaluate.Given as goal

-- the view is as it was, but for what the body changes
abbrev pub invariant-loop-round : goal.invariant-loop-round
invariant-loop-round g l = record {
  frame : frame l.view ≡ frame l.fn.view;
  ready : IsReady l.view;
}
