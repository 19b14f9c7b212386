use Rattle.tour_rows.proofs.CountAlike.{trails_are_not_read}
use Rattle.tour_rows.proofs.laws.trails_are_not_read.Goals as goal

pub returns : goal.returns
returns c = record { alike = trails_are_not_read }
