use Rattle.std.proofs.Common.{length, Ok, ap, ◌∙◌}
use Rattle.toml.specs.View.{table_view}
use Rattle.pe_check.specs.FieldNames.{names_view}
use Rattle.pe_scene.proofs.BodyLoop.{reading_begins, reading_wrong, reading_none, reading_some, reading_room, event_at, refuses_later, none_if, all_fit-none, all_fit-set}
use Rattle.pe_scene.proofs.table.all_bodies.Goals as goal
use Rattle.pe_scene.proofs.table.all_bodies.Goals.{in-Some, in_default}

pub loop-event-init : goal.loop-event-init
loop-event-init c = record {
  reading = rw c.none-bodies.ensures (reading_begins c.args.dim (names_view c.args.names.now) (table_view c.args.table.now));
  fit = rw c.none-bodies.ensures (all_fit-none c.args.dim (length c.args.names.now.vertex) (length c.args.names.now.cell) (length c.args.names.now.global));
}

pub loop-event-preserved : goal.loop-event-preserved
loop-event-preserved c =
    let dim = c.args.dim in let names = names_view c.args.names.now in let members = table_view c.args.table.now in
    let i = c.loop-event.event-index in let reading = c.loop-event.invariant.reading in
    elim c.match-found.branch [
      | in-Some w ↦ rw w.bodies-is (rw w.set.ensures (record {
        reading = reading_some dim names members i c.loop-event.bodies reading c.loop-event-test.true w.in-Some.body (c.in-Ok.ensures.gives ∙ ap Ok w.in-Some.is);
        fit = all_fit-set dim (length c.args.names.now.vertex) (length c.args.names.now.cell) (length c.args.names.now.global) c.loop-event.bodies (event_at i) w.in-Some.body
            (reading_room dim names members i c.loop-event.bodies reading c.loop-event-test.true) c.loop-event.invariant.fit (rw w.in-Some.is at c.in-Ok.ensures.fits);
      }))
      | in_default w ↦ rw w.bodies-is (record { reading = reading_none dim names members i c.loop-event.bodies reading c.loop-event-test.true (c.in-Ok.ensures.gives ∙ ap Ok (none_if c.in-Ok.found w.in_default.not-Some)); fit = c.loop-event.invariant.fit })
    ]

pub returns-in-Err-clause-gives : goal.returns-in-Err-clause-gives
returns-in-Err-clause-gives c =
    let dim = c.args.dim in let names = names_view c.args.names.now in let members = table_view c.args.table.now in
    let i = c.loop-event.event-index in let reading = c.loop-event.invariant.reading in
    refuses_later c.in-Err.fault _ _ (λ fault wrong. reading_wrong dim names members i c.loop-event.bodies reading c.loop-event-test.true fault wrong) c.in-Err.ensures.gives
