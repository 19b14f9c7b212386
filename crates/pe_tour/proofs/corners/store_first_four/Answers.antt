use Rattle.pe_tour.specs.Sights.{storing, amid_of}
use Rattle.pe_tour.specs.Moves.{four_on, stores_from}
use Rattle.pe_tour.proofs.Moving.{touches-may}
use Rattle.pe_tour.proofs.corners.store_first_four.Goals as goal

pub returns-clause-may : goal.returns-clause-may
returns-clause-may g c =
    let w = g.T.Tour.walk in
    let place = c.args.at.now.place in
    let k = c.args.k in
    touches-may w g.met.T.Tour.lawful c.args.at.now (stores_from w place k c.args.tour.now) (stores_from w place (four_on k) c.store_four.new.self) (storing k) (storing (four_on k)) c.store_four.result
    (amid_of c.args.tour.now c.args.own.now c.args.above.now c.args.parent.now) (amid_of c.store_four.new.self c.store_four.new.own c.store_four.new.above c.store_four.new.parent)
    c.requires.may c.store_four.ensures
