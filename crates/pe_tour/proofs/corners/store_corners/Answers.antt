use Rattle.std.proofs.Common.{◌≡◌, ◌^◌, ap, ◌∙◌, refl, arith}
use Rattle.pe_tour.specs.Sights.{amid_of}
use Rattle.pe_tour.specs.Moves.{settings_of}
use Rattle.pe_tour.proofs.Moving.{stores-all, stores-start}
use Rattle.pe_tour.proofs.corners.store_corners.Goals as goal

pub store_sixteen-requires-clause-may : goal.store_sixteen-requires-clause-may
store_sixteen-requires-clause-may g c =
    let w = g.T.Tour.walk in
    stores-start w g.met.T.Tour.lawful c.args.at.now (amid_of c.args.tour.now c.args.own.now c.args.above.now c.args.parent.now) c.requires.may

pub store_sixteen-requires-clause-corners : goal.store_sixteen-requires-clause-corners
store_sixteen-requires-clause-corners g c =
    let w = g.T.Tour.walk in
    let four : (settings_of w c.args.tour.now).dim ≡ 4 = omega (arith, c.requires.may.at.state.grid, c.requires.axes) in
    let corners : 2 ^ (settings_of w c.args.tour.now).dim ≡ 16 = ap (λ n. 2 ^ n) four in
    omega (arith, corners)

pub returns-in-2 : goal.returns-in-2
returns-in-2 g c =
    let w = g.T.Tour.walk in
    let dim = c.requires.axes ∙ c.in-2.is in
    stores-all w g.met.T.Tour.lawful c.args.at.now.place 2 4 c.store_first_four.result
    (amid_of c.args.tour.now c.args.own.now c.args.above.now c.args.parent.now) (amid_of c.store_first_four.new.tour c.store_first_four.new.own c.store_first_four.new.above c.store_first_four.new.parent) dim refl c.store_first_four.ensures.goes

pub returns-in-3 : goal.returns-in-3
returns-in-3 g c =
    let w = g.T.Tour.walk in
    let dim = c.requires.axes ∙ c.in-3.is in
    stores-all w g.met.T.Tour.lawful c.args.at.now.place 3 8 c.store_eight.result
    (amid_of c.args.tour.now c.args.own.now c.args.above.now c.args.parent.now) (amid_of c.store_eight.new.tour c.store_eight.new.own c.store_eight.new.above c.store_eight.new.parent) dim refl c.store_eight.ensures.goes

pub returns-in_default : goal.returns-in_default
returns-in_default g c =
    let w = g.T.Tour.walk in
    let dim : (settings_of w c.args.tour.now).dim ≡ 4 = omega (arith, c.requires.may.at.state.grid, c.requires.axes) in
    stores-all w g.met.T.Tour.lawful c.args.at.now.place 4 16 c.store_sixteen.result
    (amid_of c.args.tour.now c.args.own.now c.args.above.now c.args.parent.now) (amid_of c.store_sixteen.new.tour c.store_sixteen.new.own c.store_sixteen.new.above c.store_sixteen.new.parent) dim refl c.store_sixteen.ensures.goes
