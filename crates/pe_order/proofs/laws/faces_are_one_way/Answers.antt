-- The law.
use Rattle.pe_order.proofs.laws.faces_are_one_way.Goals as goal
use Rattle.pe_order.proofs.Derived.{faces_are_one_way}

pub returns : goal.returns
returns c = record { one_way = faces_are_one_way }
