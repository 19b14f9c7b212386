-- Depots that are new, and after one traversal.
use Rattle.std.proofs.Common.{◌≡◌, ℕ, zero, suc, ◌+◌, ◌*◌, ◌^◌, ◌≤◌, [], replicate, get_or, refl, arith}
use Rattle.pe_base.specs.Limits.{most_cells}
use Rattle.pe_stacks.specs.Holdings.{Holdings, new_stack, new_holdings, stack_count, CountsWithin, RaisesCounts}
use Rattle.pe_stacks.proofs.Raising.{within_more, within_new, raises_within}
use Rattle.pe_walk.specs.Traversing.{HoldsNothing}

none-at : {X : Type 0} (stacks s : ℕ) → (get_or (replicate stacks (new_stack {X = X})) s new_stack).items ≡ []
none-at zero s = refl
none-at (suc stacks) zero = refl
none-at (suc stacks) (suc s) = none-at stacks s

-- nothing lies in a depot that is new
pub holds-nothing : {X : Type 0} (stacks : ℕ) (held : Holdings X) → stack_count (new_holdings {X = X} stacks) ≡ stacks → held ≡ new_holdings stacks → HoldsNothing stacks held
holds-nothing stacks held count is = rw is (record { count = count; none_out = refl; items = none-at stacks })

-- its counts are few after a traversal
pub few-after : {X : Type 0} (stacks cells : ℕ) (held held' : Holdings X) → held ≡ new_holdings stacks → cells ≤ most_cells → RaisesCounts held held' (64 * (cells + 1)) → CountsWithin held' (2 ^ 60)
few-after stacks cells held held' new few rises =
    within_more held' (0 + 64 * (cells + 1)) (2 ^ 60) (omega (arith, few)) (raises_within held held' 0 (64 * (cells + 1)) rises (within_new held stacks 0 new))
