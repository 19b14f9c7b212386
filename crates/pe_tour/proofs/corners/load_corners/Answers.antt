use Rattle.std.proofs.Common.{◌≡◌, ◌^◌, ap, ◌∙◌, arith}
use Rattle.pe_tour.specs.Sights.{amid_of}
use Rattle.pe_tour.specs.Moves.{settings_of}
use Rattle.pe_tour.proofs.Moving.{loads-all, loads-may}
use Rattle.pe_tour.proofs.corners.load_corners.Goals as goal

pub load_sixteen-requires-clause-may : goal.load_sixteen-requires-clause-may
load_sixteen-requires-clause-may g c =
    let w = g.T.Tour.walk in
    let four : (settings_of w c.args.tour.now).dim ≡ 4 = omega (arith, c.requires.may.at.state.grid, c.requires.axes) in
    loads-may w g.met.T.Tour.lawful c.args.at.now (2 ^ (settings_of w c.args.tour.now).dim) 16 (amid_of c.args.tour.now c.args.own.now c.args.above.now c.args.parent.now) (ap (λ n. 2 ^ n) four) c.requires.may

pub load_sixteen-requires-clause-corners : goal.load_sixteen-requires-clause-corners
load_sixteen-requires-clause-corners g c =
    let w = g.T.Tour.walk in
    let four : (settings_of w c.args.tour.now).dim ≡ 4 = omega (arith, c.requires.may.at.state.grid, c.requires.axes) in
    let corners : 2 ^ (settings_of w c.args.tour.now).dim ≡ 16 = ap (λ n. 2 ^ n) four in
    omega (arith, corners)

pub returns-in-2 : goal.returns-in-2
returns-in-2 g c =
    let w = g.T.Tour.walk in
    let dim = c.requires.axes ∙ c.in-2.is in
    loads-all w g.met.T.Tour.lawful c.args.at.now.place (2 ^ (settings_of w c.args.tour.now).dim) 4 c.load_last_four.result
    (amid_of c.args.tour.now c.args.own.now c.args.above.now c.args.parent.now) (amid_of c.load_last_four.new.tour c.load_last_four.new.own c.load_last_four.new.above c.load_last_four.new.parent) (ap (λ n. 2 ^ n) dim) c.load_last_four.ensures.goes

pub returns-in-3 : goal.returns-in-3
returns-in-3 g c =
    let w = g.T.Tour.walk in
    let dim = c.requires.axes ∙ c.in-3.is in
    loads-all w g.met.T.Tour.lawful c.args.at.now.place (2 ^ (settings_of w c.args.tour.now).dim) 8 c.load_eight.result
    (amid_of c.args.tour.now c.args.own.now c.args.above.now c.args.parent.now) (amid_of c.load_eight.new.tour c.load_eight.new.own c.load_eight.new.above c.load_eight.new.parent) (ap (λ n. 2 ^ n) dim) c.load_eight.ensures.goes

pub returns-in_default : goal.returns-in_default
returns-in_default g c =
    let w = g.T.Tour.walk in
    let dim : (settings_of w c.args.tour.now).dim ≡ 4 = omega (arith, c.requires.may.at.state.grid, c.requires.axes) in
    loads-all w g.met.T.Tour.lawful c.args.at.now.place (2 ^ (settings_of w c.args.tour.now).dim) 16 c.load_sixteen.result
    (amid_of c.args.tour.now c.args.own.now c.args.above.now c.args.parent.now) (amid_of c.load_sixteen.new.tour c.load_sixteen.new.own c.load_sixteen.new.above c.load_sixteen.new.parent) (ap (λ n. 2 ^ n) dim) c.load_sixteen.ensures.goes
