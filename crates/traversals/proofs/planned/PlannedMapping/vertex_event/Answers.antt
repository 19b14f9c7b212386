use Rattle.std.proofs.Common.{refl, inl, inr}
use Rattle.pe_base.proofs.Lawful.{all_triggered_same, leaves_same}
use Rattle.traversals.proofs.planned.PlannedMapping.vertex_event.Goals as goal

pub returns-in-Ok-clause-lawful : goal.returns-in-Ok-clause-lawful
returns-in-Ok-clause-lawful c = record {
  place = refl;
  vertex = rw c.refine.ensures (record { kind = refl; state = inr (inl (rw c.count.ensures.counted refl)) });
  cell = tt;
  corners = tt;
  parents = all_triggered_same _ _ _;
}

pub returns-in-Ok-2-clause-lawful : goal.returns-in-Ok-2-clause-lawful
returns-in-Ok-2-clause-lawful c = record {
  place = refl;
  vertex = rw c.erase.ensures (record { kind = refl; state = inr (inr refl) });
  cell = tt;
  corners = tt;
  parents = all_triggered_same _ _ _;
}

pub returns-in-Ok-3-clause-lawful : goal.returns-in-Ok-3-clause-lawful
returns-in-Ok-3-clause-lawful c = leaves_same _ _

pub returns-in-Err-clause-lawful : goal.returns-in-Err-clause-lawful
returns-in-Err-clause-lawful c = leaves_same _ _
