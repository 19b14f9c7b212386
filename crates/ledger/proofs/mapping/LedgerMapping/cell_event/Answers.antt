use Rattle.std.proofs.Common.{pos, [], ◌∷◌, refl}
use Rattle.pe_base.proofs.Lawful.{all_triggered_same, leaves_same}
use Rattle.ledger.specs.Law.{first_erased_lawful}
use Rattle.ledger.proofs.Quiet.{quiet_at_cells, corners-first_erased}
use Rattle.ledger.proofs.mapping.LedgerMapping.cell_event.Goals as goal

pub returns-in-EnterCell-clause-lawful : goal.returns-in-EnterCell-clause-lawful
returns-in-EnterCell-clause-lawful c =
    let erased = corners-first_erased (λ number. pos number.0.value ∷ []) c.args.corners.now c.at_mut.result.now c.at_mut.ensures.value in
    record {
      place = refl;
      vertex = tt;
      cell = tt;
      corners = rw c.erase.ensures (rw erased (first_erased_lawful _ _ _));
      parents = all_triggered_same _ _ _;
    }

pub returns-in_default-clause-answer : goal.returns-in_default-clause-answer
returns-in_default-clause-answer c = quiet_at_cells _ _ _ c.args.event c.args._traversal _ c.requires.sort c.in_default.not-EnterCell

pub returns-in_default-clause-lawful : goal.returns-in_default-clause-lawful
returns-in_default-clause-lawful c = leaves_same _ _
