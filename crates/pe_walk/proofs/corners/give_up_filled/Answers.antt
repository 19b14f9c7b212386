use Rattle.std.proofs.Common.{◌≡◌, ◌^◌, false, subst, arith}
use Rattle.pe_stacks.specs.RecordsOut.{RecordsOut}
use Rattle.pe_walk.specs.Corners.{filled_in_corners}
use Rattle.pe_walk.proofs.CornerLists.{none-left, empty-of}
use Rattle.pe_walk.proofs.corners.give_up_filled.Goals as goal

pub returns-clause-left : goal.returns-clause-left
returns-clause-left g c =
    let end : c.loop-k.k ≡ 2 ^ c.args.dim = omega (arith, c.corners-k-end.ensures.value) in
    let none = none-left c.args.dim c.loop-k.k c.loop-k.corners c.loop-k.invariant.are end c.loop-k.invariant.behind in
    subst (λ n. RecordsOut (filled_in_corners c.args.corners.now) n (g.D.Depot.holds c.args.d.now) (g.D.Depot.room c.args.d.now) (g.D.Depot.holds c.loop-k.d) (g.D.Depot.room c.loop-k.d) false)
    none c.loop-k.invariant.left

pub returns-clause-emptied : goal.returns-clause-emptied
returns-clause-emptied g c =
    let end : c.loop-k.k ≡ 2 ^ c.args.dim = omega (arith, c.corners-k-end.ensures.value) in
    let none = none-left c.args.dim c.loop-k.k c.loop-k.corners c.loop-k.invariant.are end c.loop-k.invariant.behind in
    empty-of c.args.dim c.loop-k.corners c.loop-k.invariant.are none
