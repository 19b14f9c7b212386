use Rattle.pe_access.proofs.RowLaws.{one_front}
use Rattle.pe_access.proofs.laws.rows_of_children.Goals as goal

pub returns : goal.returns
returns c axes way cell digits digits' state state' place below d d' same h h' = one_front axes way cell digits digits' state state' place below d d' same h h'
