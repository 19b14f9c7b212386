-- The law.
use Rattle.pe_order.proofs.laws.corners_on_stacks.Goals as goal
use Rattle.pe_order.proofs.Derived.{corners_cross_once, corners_on_stacks}

pub returns-clause-once : goal.returns-clause-once
returns-clause-once c = corners_cross_once

pub returns-clause-stacks : goal.returns-clause-stacks
returns-clause-stacks c = corners_on_stacks
