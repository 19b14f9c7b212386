use Rattle.std.proofs.Common.{arith}
use Rattle.pe_base.proofs.Calls.Errors.{err-is}
use Rattle.pe_walk.proofs.Going.{goes-nowhere, goes-then}
use Rattle.pe_walk.proofs.CornerSteps.{quad_beyond}
use Rattle.pe_walk.proofs.quad.load_quad.Goals as goal

pub returns-then-corners_in-first-clause-goes : goal.returns-then-corners_in-first-clause-goes
returns-then-corners_in-first-clause-goes g c = goes-nowhere _ _ _ c.requires.ready.here.full

pub returns-then-corners_in-first-clause-behind : goal.returns-then-corners_in-first-clause-behind
returns-then-corners_in-first-clause-behind g c =
    let beyond = quad_beyond c.args.settings.now.setup.dim c.args.q c.corners_in.ensures.range (omega (arith, c.if-corners_in-first.true, c.corners_in.ensures.value)) in
    omega (arith, c.requires.behind, beyond)

pub returns-in_err-load_next-2-clause-goes : goal.returns-in_err-load_next-2-clause-goes
returns-in_err-load_next-2-clause-goes g c =
    rw (err-is c.from_residual-in_err-load_next-2.result _ c.from_residual-in_err-load_next-2.ensures.1)
    (goes-then c.in_ok-load_next.ensures.goes c.in_err-load_next-2.ensures.goes)

pub returns-in_err-load_next-3-clause-goes : goal.returns-in_err-load_next-3-clause-goes
returns-in_err-load_next-3-clause-goes g c =
    rw (err-is c.from_residual-in_err-load_next-3.result _ c.from_residual-in_err-load_next-3.ensures.1)
    (goes-then c.in_ok-load_next.ensures.goes (goes-then c.in_ok-load_next-2.ensures.goes c.in_err-load_next-3.ensures.goes))

pub returns-clause-goes : goal.returns-clause-goes
returns-clause-goes g c = goes-then c.in_ok-load_next.ensures.goes (goes-then c.in_ok-load_next-2.ensures.goes (goes-then c.in_ok-load_next-3.ensures.goes c.load_next-4.ensures.goes))
