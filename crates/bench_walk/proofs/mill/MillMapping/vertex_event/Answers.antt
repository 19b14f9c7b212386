use Rattle.std.proofs.Common.{refl, inl, ◌+◌}
use Rattle.pe_base.proofs.Lawful.{all_triggered_same, leaves_same}
use Rattle.bench_walk.specs.Mill.{sum_of}
use Rattle.bench_walk.specs.Law.{state_turned}
use Rattle.bench_walk.proofs.Quiet.{quiet, mill_at_vertices}
use Rattle.bench_walk.proofs.mill.MillMapping.vertex_event.Goals as goal

pub returns-in-Ok-clause-lawful : goal.returns-in-Ok-clause-lawful
returns-in-Ok-clause-lawful g c = record {
  place = refl;
  vertex = rw c.ask.ensures (record { kind = refl; state = state_turned c.args.self.now.wheel.greatest c.args.at.now.level (sum_of c.args.self.now.wheel.number c.args.at.now) (sum_of c.args.self.now.wheel.number c.args.at.now + c.args.traversal) c.args.vertex.now.kind c.args.vertex.now.state });
  cell = tt;
  corners = tt;
  parents = all_triggered_same _ _ _;
}

pub returns-in-Err-clause-lawful : goal.returns-in-Err-clause-lawful
returns-in-Err-clause-lawful g c = record { place = refl; vertex = record { kind = refl; state = inl refl }; cell = tt; corners = tt; parents = all_triggered_same _ _ _ }

pub returns-in_default-clause-answer : goal.returns-in_default-clause-answer
returns-in_default-clause-answer g c = quiet _ _ _ _ (mill_at_vertices c.args.self.now.wheel c.args.event c.args.traversal _ _ c.requires.sort c.in_default.not-TouchVertexLastTime)

pub returns-in_default-clause-lawful : goal.returns-in_default-clause-lawful
returns-in_default-clause-lawful g c = leaves_same _ _
