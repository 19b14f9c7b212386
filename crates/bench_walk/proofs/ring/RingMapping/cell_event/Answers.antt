use Rattle.std.proofs.Common.{◌≡◌}
use Rattle.pe_base.proofs.Lawful.{leaves_same}
use Rattle.bench_walk.specs.Counting.{counted}
use Rattle.bench_walk.proofs.CountedCorners.{full_counted}
use Rattle.bench_walk.proofs.Entering.{ring_enters, ring_leaves}
use Rattle.bench_walk.proofs.Quiet.{quiet, ring_at_cells}
use Rattle.bench_walk.proofs.ring.RingMapping.cell_event.Goals as goal

pub returns-in-EnterCell-clause-answer : goal.returns-in-EnterCell-clause-answer
returns-in-EnterCell-clause-answer c =
    let own : c.count.new.fields.a ≡ counted c.args.cell.now.payload.a = rw c.payload_mut.ensures.value at c.count.ensures in
    ring_enters c.args._at.now c.args.corners.now c.count_corners.new.corners c.args._parents.now c.args._parent.now c.args.self.now.sphere _ _ c.args.event c.args._traversal c.args.cell.now (record { payload = c.count.new.fields }) c.in-EnterCell.is c.count_corners.ensures own

pub returns-in-EnterCell-clause-lawful : goal.returns-in-EnterCell-clause-lawful
returns-in-EnterCell-clause-lawful c =
    let own : c.count.new.fields.a ≡ counted c.args.cell.now.payload.a = rw c.payload_mut.ensures.value at c.count.ensures in
    ring_leaves c.args._at.now c.args.corners.now c.count_corners.new.corners c.args._parents.now c.args._parent.now _ c.args.cell.now (record { payload = c.count.new.fields }) c.count_corners.ensures own

pub returns-in-EnterCell-clause-corners : goal.returns-in-EnterCell-clause-corners
returns-in-EnterCell-clause-corners c = rw c.count_corners.ensures (full_counted _ _ c.requires.corners)

pub returns-in_default-clause-answer : goal.returns-in_default-clause-answer
returns-in_default-clause-answer c = quiet _ _ _ _ (ring_at_cells c.args.self.now.sphere c.args.event c.args._traversal _ _ c.requires.sort c.in_default.not-EnterCell)

pub returns-in_default-clause-lawful : goal.returns-in_default-clause-lawful
returns-in_default-clause-lawful c = leaves_same _ _
