-- The levels that are left get fewer, and all that is still to come are digits of children.
use Rattle.std.specs.Prelude.{All}
use Rattle.pe_base.specs.Tree.Places.{IsDigits}
use Rattle.base_rows.proofs.routes.+walk.Given as goal

abbrev pub decreases-walk : goal.decreases-walk
decreases-walk l = l.levels

abbrev pub invariant-loop-digits : goal.invariant-loop-digits
invariant-loop-digits l = All (IsDigits l.fn.dim) l.digits-iterator
