use Rattle.std.proofs.Common.{◌≡◌, ◌-◌, false}
use Rattle.pe_stacks.specs.Filled.{FullFrom}
use Rattle.pe_stacks.specs.RecordsOut.{RecordsOut}
use Rattle.pe_walk.specs.GivenUp.{given_up_times}
use Rattle.pe_walk.proofs.hand.give_up_from.Given as goal

-- the corners so far are given up
abbrev pub invariant-loop-k : goal.invariant-loop-k
invariant-loop-k g l = record {
  full : FullFrom l.fn.dim l.k l.corners;
  holds : g.D.Depot.holds l.vertices ≡ given_up_times (l.k - l.fn.first) (g.D.Depot.holds l.initial.vertices);
  left : RecordsOut (l.k - l.fn.first) 0 (g.D.Depot.holds l.initial.vertices) (g.D.Depot.room l.initial.vertices) (g.D.Depot.holds l.vertices) (g.D.Depot.room l.vertices) false;
}
