-- The law.
use Rattle.pe_order.proofs.laws.stacks_are_short.Goals as goal
use Rattle.pe_order.proofs.Tokens.Short.{few_vertices, steps_keep_counting, begins_counting, stacks_are_short}

pub returns-clause-few : goal.returns-clause-few
returns-clause-few c = few_vertices

pub returns-clause-kept : goal.returns-clause-kept
returns-clause-kept c = steps_keep_counting

pub returns-clause-begun : goal.returns-clause-begun
returns-clause-begun c = begins_counting

pub returns-clause-short : goal.returns-clause-short
returns-clause-short c = stacks_are_short
