-- The law.
use Rattle.pe_order.proofs.laws.loads_are_due.Goals as goal
use Rattle.pe_order.proofs.Tokens.Traversals.{loads_are_due, loaded_for_all}

pub returns-clause-due : goal.returns-clause-due
returns-clause-due c = loads_are_due

pub returns-clause-around : goal.returns-clause-around
returns-clause-around c = loaded_for_all
