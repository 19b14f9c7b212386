use Rattle.pe_base.proofs.Walk.TableLaws.{first_touch_keeps_old, last_touch_settles}
use Rattle.pe_base.proofs.laws.states.Goals as goal

pub returns-clause-first : goal.returns-clause-first
returns-clause-first c = first_touch_keeps_old

pub returns-clause-last : goal.returns-clause-last
returns-clause-last c = last_touch_settles
