use Rattle.std.proofs.Common.{refl, inl, inr}
use Rattle.pe_base.proofs.Lawful.{all_triggered_same, leaves_same}
use Rattle.ledger.proofs.Quiet.{quiet_at_vertices}
use Rattle.ledger.proofs.mapping.LedgerMapping.vertex_event.Goals as goal

pub returns-in-None-clause-lawful : goal.returns-in-None-clause-lawful
returns-in-None-clause-lawful c = leaves_same _ _

pub returns-in-Some-clause-lawful : goal.returns-in-Some-clause-lawful
returns-in-Some-clause-lawful c = record {
  place = refl;
  vertex = rw c.refine.ensures (record { kind = refl; state = inr (inl refl) });
  cell = tt;
  corners = tt;
  parents = all_triggered_same _ _ _;
}

pub returns-in_default-clause-answer : goal.returns-in_default-clause-answer
returns-in_default-clause-answer c = quiet_at_vertices _ _ _ c.args.event c.args._traversal _ c.requires.sort c.in_default.not-TouchVertexFirstTime

pub returns-in_default-clause-lawful : goal.returns-in_default-clause-lawful
returns-in_default-clause-lawful c = leaves_same _ _
