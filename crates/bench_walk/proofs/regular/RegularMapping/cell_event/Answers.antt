use Rattle.pe_base.proofs.Lawful.{leaves_same}
use Rattle.bench_walk.proofs.CountedCorners.{full_counted}
use Rattle.bench_walk.proofs.Entering.{regular_enters, regular_leaves}
use Rattle.bench_walk.proofs.Quiet.{quiet, regular_at_cells}
use Rattle.bench_walk.proofs.regular.RegularMapping.cell_event.Goals as goal

pub returns-in-EnterCell-clause-answer : goal.returns-in-EnterCell-clause-answer
returns-in-EnterCell-clause-answer c =
    regular_enters c.args._at.now c.args.corners.now c.count_corners.new.corners c.args._parents.now c.args._parent.now _ _ c.args.event c.args._cell.now c.in-EnterCell.is c.count_corners.ensures

pub returns-in-EnterCell-clause-lawful : goal.returns-in-EnterCell-clause-lawful
returns-in-EnterCell-clause-lawful c = regular_leaves c.args._at.now c.args.corners.now c.count_corners.new.corners c.args._parents.now c.args._parent.now _ c.args._cell.now c.count_corners.ensures

pub returns-in-EnterCell-clause-corners : goal.returns-in-EnterCell-clause-corners
returns-in-EnterCell-clause-corners c = rw c.count_corners.ensures (full_counted _ _ c.requires.corners)

pub returns-in_default-clause-answer : goal.returns-in_default-clause-answer
returns-in_default-clause-answer c = quiet _ _ _ _ (regular_at_cells c.args.event _ _ c.requires.sort c.in_default.not-EnterCell)

pub returns-in_default-clause-lawful : goal.returns-in_default-clause-lawful
returns-in_default-clause-lawful c = leaves_same _ _
