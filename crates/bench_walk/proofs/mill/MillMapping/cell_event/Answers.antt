use Rattle.std.proofs.Common.{refl}
use Rattle.pe_base.proofs.Lawful.{all_triggered_same, leaves_same}
use Rattle.bench_walk.proofs.Quiet.{quiet, mill_at_cells}
use Rattle.bench_walk.proofs.mill.MillMapping.cell_event.Goals as goal

pub returns-then-self-eq9223372036854775807-clause-lawful : goal.returns-then-self-eq9223372036854775807-clause-lawful
returns-then-self-eq9223372036854775807-clause-lawful g c = record { place = refl; vertex = tt; cell = tt; corners = all_triggered_same _ _ _; parents = all_triggered_same _ _ _ }

pub returns-else-self-eq9223372036854775807-clause-lawful : goal.returns-else-self-eq9223372036854775807-clause-lawful
returns-else-self-eq9223372036854775807-clause-lawful g c = record { place = refl; vertex = tt; cell = tt; corners = all_triggered_same _ _ _; parents = all_triggered_same _ _ _ }

pub returns-in-Err-clause-lawful : goal.returns-in-Err-clause-lawful
returns-in-Err-clause-lawful g c = record { place = refl; vertex = tt; cell = tt; corners = all_triggered_same _ _ _; parents = all_triggered_same _ _ _ }

pub returns-in_default-clause-answer : goal.returns-in_default-clause-answer
returns-in_default-clause-answer g c = quiet _ _ _ _ (mill_at_cells c.args.self.now.wheel c.args.event c.args._traversal _ _ c.requires.sort c.in_default.not-EnterCell)

pub returns-in_default-clause-lawful : goal.returns-in_default-clause-lawful
returns-in_default-clause-lawful g c = leaves_same _ _
