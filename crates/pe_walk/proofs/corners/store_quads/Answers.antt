use Rattle.std.proofs.Common.{◌≡◌, arith}
use Rattle.std.specs.Prelude.{OnOk}
use Rattle.pe_base.proofs.Calls.Errors.{err-is}
use Rattle.pe_walk.specs.Corners.{filled_in_corners}
use Rattle.pe_walk.proofs.Going.{on-ok, goes-then}
use Rattle.pe_walk.proofs.CornerSteps.{corners-most, stores-start, stores-end}
use Rattle.pe_walk.proofs.corners.store_quads.Goals as goal

pub store_quad-requires-clause-ready : goal.store_quad-requires-clause-ready
store_quad-requires-clause-ready g c = stores-start g.M.Effects.rules g.M.Mapping.numbers c.args.settings.now c.args.cell.now c.args.corners.now _ c.requires.dim c.requires.corners c.requires.filled c.requires.walked c.requires.full c.requires.out c.requires.fits

pub returns-in_err-store_quad-clause-goes : goal.returns-in_err-store_quad-clause-goes
returns-in_err-store_quad-clause-goes g c =
    rw (err-is c.from_residual.result _ c.from_residual.ensures.1)
    (stores-end g.M.Effects.rules g.M.Mapping.numbers c.args.settings.now c.args.cell.now c.args.corners.now _ c.requires.dim c.requires.corners c.requires.filled c.in_err-store_quad.ensures.corners tt
    c.in_err-store_quad.ensures.goes)

pub returns-in_err-store_quad-2-clause-goes : goal.returns-in_err-store_quad-2-clause-goes
returns-in_err-store_quad-2-clause-goes g c =
    rw (err-is c.from_residual-in_err-store_quad-2.result _ c.from_residual-in_err-store_quad-2.ensures.1)
    (stores-end g.M.Effects.rules g.M.Mapping.numbers c.args.settings.now c.args.cell.now c.args.corners.now _ c.requires.dim c.requires.corners c.requires.filled c.in_err-store_quad-2.ensures.corners tt
    (goes-then c.in_ok-store_quad.ensures.goes c.in_err-store_quad-2.ensures.goes))

pub returns-in_err-store_quad-3-clause-goes : goal.returns-in_err-store_quad-3-clause-goes
returns-in_err-store_quad-3-clause-goes g c =
    rw (err-is c.from_residual-in_err-store_quad-3.result _ c.from_residual-in_err-store_quad-3.ensures.1)
    (stores-end g.M.Effects.rules g.M.Mapping.numbers c.args.settings.now c.args.cell.now c.args.corners.now _ c.requires.dim c.requires.corners c.requires.filled c.in_err-store_quad-3.ensures.corners tt
    (goes-then c.in_ok-store_quad.ensures.goes (goes-then c.in_ok-store_quad-2.ensures.goes c.in_err-store_quad-3.ensures.goes)))

pub returns-clause-goes : goal.returns-clause-goes
returns-clause-goes g c =
    let most = corners-most c.args.settings.now.setup.dim (omega (arith, c.requires.dim, c.requires.walked.state.grid.1)) in
    let none : OnOk c.store_quad-4.result (filled_in_corners c.store_quad-4.new.corners ≡ 0) = on-ok c.store_quad-4.result c.store_quad-4.ensures.behind (λ is. omega (arith, most, is)) in
    stores-end g.M.Effects.rules g.M.Mapping.numbers c.args.settings.now c.args.cell.now c.args.corners.now _ c.requires.dim c.requires.corners c.requires.filled c.store_quad-4.ensures.corners none
    (goes-then c.in_ok-store_quad.ensures.goes (goes-then c.in_ok-store_quad-2.ensures.goes (goes-then c.in_ok-store_quad-3.ensures.goes c.store_quad-4.ensures.goes)))

pub returns-clause-emptied : goal.returns-clause-emptied
returns-clause-emptied g c =
    let most = corners-most c.args.settings.now.setup.dim (omega (arith, c.requires.dim, c.requires.walked.state.grid.1)) in
    on-ok c.store_quad-4.result c.store_quad-4.ensures.behind (λ is. omega (arith, most, is))
