use Rattle.pe_tour.specs.Sights.{loading, amid_of}
use Rattle.pe_tour.specs.Moves.{four_on, loads_of}
use Rattle.pe_tour.proofs.Moving.{touches-may}
use Rattle.pe_tour.proofs.corners.load_last_four.Goals as goal

pub returns-clause-may : goal.returns-clause-may
returns-clause-may g c =
    let w = g.T.Tour.walk in
    let place = c.args.at.now.place in
    let k = c.args.k in
    touches-may w g.met.T.Tour.lawful c.args.at.now (loads_of w place (four_on k)) (loads_of w place k) (loading (four_on k)) (loading k) c.load_four.result
    (amid_of c.args.tour.now c.args.own.now c.args.above.now c.args.parent.now) (amid_of c.load_four.new.self c.load_four.new.own c.load_four.new.above c.load_four.new.parent)
    c.requires.may c.load_four.ensures
