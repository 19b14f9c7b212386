use Rattle.pe_walk.proofs.CornerSteps.{load-fits, load-goes, load-ready}
use Rattle.pe_walk.proofs.quad.load_next.Goals as goal

pub load_in_slot-requires-clause-fits : goal.load_in_slot-requires-clause-fits
load_in_slot-requires-clause-fits g c = load-fits c.args.k c.requires.ready c.requires.inside c.requires.behind

pub returns-clause-goes : goal.returns-clause-goes
returns-clause-goes g c = load-goes c.args.k c.requires.ready c.requires.inside c.requires.behind c.load_in_slot.new.slot c.load_in_slot.ensures.loaded c.load_in_slot.ensures.goes

pub returns-clause-ready : goal.returns-clause-ready
returns-clause-ready g c =
    let goes = load-goes c.args.k c.requires.ready c.requires.inside c.requires.behind c.load_in_slot.new.slot c.load_in_slot.ensures.loaded c.load_in_slot.ensures.goes in
    load-ready c.args.k c.requires.ready c.requires.inside c.requires.behind c.load_in_slot.new.slot c.load_in_slot.result _ c.load_in_slot.ensures.loaded goes
