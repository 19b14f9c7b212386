-- The law.
use Rattle.pe_order.proofs.laws.beneath_untouched.Goals as goal
use Rattle.pe_order.proofs.Derived.{beneath_untouched}
use Rattle.pe_order.proofs.Stores.{stores_as_loads}

pub returns-clause-untouched : goal.returns-clause-untouched
returns-clause-untouched c = beneath_untouched

pub returns-clause-stores : goal.returns-clause-stores
returns-clause-stores c = stores_as_loads
