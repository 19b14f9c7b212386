use Rattle.std.proofs.Common.{◌∷◌, ◌∙◌, ap, sym, arith}
use Rattle.toml.specs.View.{view}
use Rattle.pe_scene.specs.Texts.{next_event}
use Rattle.pe_scene.proofs.Arrays.{traces-with, events_after-drop}
use Rattle.pe_scene.proofs.texts.trace_of.Goals as goal

pub loop-name-preserved : goal.loop-name-preserved
loop-name-preserved c =
    let name = c.name-item.result in
    let event = c.in_ok-event.event in
    let next = ap (λ f. next_event f (view name)) (sym c.loop-name.invariant.1) ∙ sym c.next_event.ensures ∙ c.in_ok-event.was in
    let seen = c.loop-name.invariant.0 in (
      event ∷ seen,
      traces-with c.loop-name.trace c.with-trace.result seen event c.loop-name.invariant.1 c.with-trace.ensures,
      events_after-drop seen c.args.names.now c.loop-name.name-index name event (omega arith) c.name-item.is next ∙ c.loop-name.invariant.2,
    )
