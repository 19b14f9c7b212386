use Rattle.std.proofs.Common.{◌≡◌, ℕ, ◌<◌, false, None}
use Rattle.pe_stacks.specs.Corners.{vertex_at}
use Rattle.pe_stacks.specs.RecordsOut.{RecordsOut}
use Rattle.pe_walk.specs.Corners.{AreOf, filled_in_corners}
use Rattle.pe_walk.proofs.corners.give_up_filled.Given as goal

abbrev pub invariant-loop-k : goal.invariant-loop-k
invariant-loop-k g l = record {
  are : AreOf l.fn.dim l.corners;
  behind : (j : ℕ) → j < l.k → vertex_at l.corners j ≡ None;
  left : RecordsOut (filled_in_corners l.initial.corners) (filled_in_corners l.corners) (g.D.Depot.holds l.initial.d) (g.D.Depot.room l.initial.d) (g.D.Depot.holds l.d) (g.D.Depot.room l.d) false;
}
