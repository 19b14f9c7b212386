use Rattle.std.proofs.Common.{arith}
use Rattle.pe_base.proofs.Calls.Errors.{err-is}
use Rattle.pe_adapt.specs.TouchCalls.{hand_of}
use Rattle.pe_walk.proofs.Going.{goes-then}
use Rattle.pe_walk.proofs.CornerSteps.{corners-most, none-filled, loads-start, loads-end}
use Rattle.pe_walk.proofs.corners.load_quads.Goals as goal

pub load_last-requires-clause-ready : goal.load_last-requires-clause-ready
load_last-requires-clause-ready g c = loads-start g.M.Effects.rules g.M.Mapping.numbers c.args.settings.now c.args.cell.now c.args.corners.now _ c.requires.dim c.requires.empty c.requires.walked c.requires.kinds c.requires.full c.requires.fits

pub load_last-requires-clause-behind : goal.load_last-requires-clause-behind
load_last-requires-clause-behind g c =
    let most = corners-most c.args.settings.now.setup.dim (omega (arith, c.requires.dim, c.requires.walked.state.grid.1)) in
    omega (arith, most, none-filled g.M.Effects.rules g.M.Mapping.numbers c.args.settings.now c.args.cell.now c.args.corners.now (hand_of (g.M.Mapping.held c.args.m.now) (g.DV.Depot.holds c.args.dv.now) (g.DV.Depot.room c.args.dv.now) c.args.parents.now c.args.parent.now c.args.progress.now) c.requires.dim c.requires.empty)

pub returns-in_err-load_last-clause-goes : goal.returns-in_err-load_last-clause-goes
returns-in_err-load_last-clause-goes g c =
    rw (err-is c.from_residual.result _ c.from_residual.ensures.1)
    (loads-end g.M.Effects.rules g.M.Mapping.numbers c.args.settings.now c.args.cell.now c.args.corners.now _ c.requires.dim c.requires.empty c.in_err-load_last.ensures.corners tt
    c.in_err-load_last.ensures.goes)

pub returns-in_err-load_quad-clause-goes : goal.returns-in_err-load_quad-clause-goes
returns-in_err-load_quad-clause-goes g c =
    rw (err-is c.from_residual-in_err-load_quad.result _ c.from_residual-in_err-load_quad.ensures.1)
    (loads-end g.M.Effects.rules g.M.Mapping.numbers c.args.settings.now c.args.cell.now c.args.corners.now _ c.requires.dim c.requires.empty c.in_err-load_quad.ensures.corners tt
    (goes-then c.in_ok-load_last.ensures.goes c.in_err-load_quad.ensures.goes))

pub returns-clause-goes : goal.returns-clause-goes
returns-clause-goes g c =
    loads-end g.M.Effects.rules g.M.Mapping.numbers c.args.settings.now c.args.cell.now c.args.corners.now _ c.requires.dim c.requires.empty c.load_quad-2.ensures.corners c.load_quad-2.ensures.behind
    (goes-then c.in_ok-load_last.ensures.goes (goes-then c.in_ok-load_quad.ensures.goes c.load_quad-2.ensures.goes))
