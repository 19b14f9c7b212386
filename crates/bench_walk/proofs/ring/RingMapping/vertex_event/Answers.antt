use Rattle.std.proofs.Common.{refl}
use Rattle.pe_base.proofs.Lawful.{all_triggered_same, leaves_same}
use Rattle.bench_walk.specs.Law.{state_asked}
use Rattle.bench_walk.proofs.Quiet.{quiet, ring_at_vertices}
use Rattle.bench_walk.proofs.ring.RingMapping.vertex_event.Goals as goal

pub returns-in-TouchVertexFirstTime-clause-lawful : goal.returns-in-TouchVertexFirstTime-clause-lawful
returns-in-TouchVertexFirstTime-clause-lawful c = record {
  place = refl;
  vertex = rw c.ask.ensures (record { kind = refl; state = state_asked c.args.self.now.sphere c.args.traversal c.args.at.now _ _ });
  cell = tt;
  corners = tt;
  parents = all_triggered_same _ _ _;
}

pub returns-in_default-clause-answer : goal.returns-in_default-clause-answer
returns-in_default-clause-answer c = quiet _ _ _ _ (ring_at_vertices c.args.self.now.sphere c.args.event c.args.traversal _ _ c.requires.sort c.in_default.not-TouchVertexFirstTime)

pub returns-in_default-clause-lawful : goal.returns-in_default-clause-lawful
returns-in_default-clause-lawful c = leaves_same _ _
