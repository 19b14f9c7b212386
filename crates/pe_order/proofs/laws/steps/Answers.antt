-- The law.
use Rattle.pe_order.proofs.laws.steps.Goals as goal
use Rattle.pe_order.proofs.Derived.{steps_cross_faces, steps_are_corners, corners_are_steps}

pub returns-clause-cross : goal.returns-clause-cross
returns-clause-cross c = steps_cross_faces

pub returns-clause-corners : goal.returns-clause-corners
returns-clause-corners c = steps_are_corners

pub returns-clause-only : goal.returns-clause-only
returns-clause-only c = corners_are_steps
