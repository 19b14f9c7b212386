use Rattle.std.proofs.Common.{refl}
use Rattle.pe_walk.proofs.CornerSteps.{store-there, store-fits, store-filled, store-goes, store-ready}
use Rattle.pe_walk.proofs.Going.{on-always}
use Rattle.pe_walk.proofs.quad.store_next.Goals as goal

pub store_in_slot-requires-clause-filled : goal.store_in_slot-requires-clause-filled
store_in_slot-requires-clause-filled g c = store-there c.args.k c.requires.ready c.requires.inside c.requires.behind c.slot_mut-slot.ensures.value refl

pub store_in_slot-requires-clause-fits : goal.store_in_slot-requires-clause-fits
store_in_slot-requires-clause-fits g c = store-fits c.args.k c.requires.ready c.requires.inside c.requires.behind c.slot_mut-slot.ensures.value refl

pub returns-clause-goes : goal.returns-clause-goes
returns-clause-goes g c = store-goes c.args.k c.requires.ready c.requires.inside c.requires.behind c.slot_mut-slot.ensures.value c.store_in_slot.ensures.emptied c.store_in_slot.ensures.goes

pub returns-clause-ready : goal.returns-clause-ready
returns-clause-ready g c =
    let goes = store-goes c.args.k c.requires.ready c.requires.inside c.requires.behind c.slot_mut-slot.ensures.value c.store_in_slot.ensures.emptied c.store_in_slot.ensures.goes in
    store-ready c.args.k c.requires.ready c.requires.inside c.requires.behind c.slot_mut-slot.ensures.value c.store_in_slot.ensures.emptied c.store_in_slot.result _ goes

pub returns-clause-behind : goal.returns-clause-behind
returns-clause-behind g c =
    on-always c.store_in_slot.result (store-filled c.args.k c.requires.ready c.requires.inside c.requires.behind c.slot_mut-slot.ensures.value c.store_in_slot.ensures.emptied)
