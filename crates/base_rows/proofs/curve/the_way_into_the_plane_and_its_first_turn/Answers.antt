-- Axis 1 stands at its end, and axis 0 can go on.
use Rattle.std.proofs.Common.{refl, arith}
use Rattle.base_rows.proofs.curve.the_way_into_the_plane_and_its_first_turn.Goals as goal

pub advance-moved-requires-clause-more : goal.advance-moved-requires-clause-more
advance-moved-requires-clause-more g c = (0, omega arith, refl)
