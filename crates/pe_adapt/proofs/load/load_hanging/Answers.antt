use Rattle.std.proofs.Common.{refl, None, Ok, Err}
use Rattle.pe_base.specs.declared.event.Event.TheVariants.{CreateHangingVertex}
use Rattle.pe_base.specs.declared.kind.Kind.TheVariants.{Hanging}
use Rattle.pe_stacks.specs.Sights.{record_of}
use Rattle.pe_hang.specs.InHand.{setting_of, family_in_hand, map_holdings}
use Rattle.pe_hang.specs.Moves.{lend}
use Rattle.pe_base.specs.Calls.Follows.{failure_at}
use Rattle.pe_mapping.specs.Held.{found_of}
use Rattle.pe_stacks.specs.RecordsOut.{held_by}
use Rattle.pe_hang.proofs.Moving.{lend-may}
use Rattle.pe_base.proofs.Calls.Leading.{and_then-fits}
use Rattle.pe_adapt.specs.Touches.{lent_vertex}
use Rattle.pe_adapt.proofs.Loading.{desk, loaded-hanging}
use Rattle.pe_adapt.proofs.load.load_hanging.Goals as goal

pub returns-in-Ok-clause-follows : goal.returns-in-Ok-clause-follows
returns-in-Ok-clause-follows g c = λ input cells.
    let numbers = g.M.Mapping.numbers in
    let old = g.M.Mapping.held c.args.m.now in
    let new = g.M.Mapping.held c.make_hanging.new.m in
    let holds = g.DV.Depot.holds c.args.dv.now in
    let vertices = held_by holds (g.DV.Depot.room c.args.dv.now) in
    let set = setting_of g.M.Effects.rules old 0 0 c.args.traversal in
    let family' = family_in_hand numbers c.make_hanging.new.parents c.make_hanging.new.parent new.list in
    rw c.fill_slot.ensures
    (loaded-hanging (record_of numbers.vertex) set input c.args.at.now holds (family_in_hand numbers c.args.parents.now c.args.parent.now old.list)
    Hanging None (g.DV.Depot.holds c.make_hanging.new.dv) (λ v. (record_of numbers.vertex v, family'))
    (failure_at CreateHangingVertex c.args.at.now) (Ok c.in-Ok.v) (found_of old vertices cells) new.told
    refl c.requires.fits c.in-Ok.ensures.lent (c.in-Ok.ensures.follows vertices cells))

pub returns-in-Err-clause-follows : goal.returns-in-Err-clause-follows
returns-in-Err-clause-follows g c = λ input cells.
    let numbers = g.M.Mapping.numbers in
    let old = g.M.Mapping.held c.args.m.now in
    let new = g.M.Mapping.held c.make_hanging.new.m in
    let holds = g.DV.Depot.holds c.args.dv.now in
    let vertices = held_by holds (g.DV.Depot.room c.args.dv.now) in
    let set = setting_of g.M.Effects.rules old 0 0 c.args.traversal in
    let family' = family_in_hand numbers c.make_hanging.new.parents c.make_hanging.new.parent new.list in
    rw (c.of_event.ensures.failure c.args.at.now)
    (loaded-hanging (record_of numbers.vertex) set input c.args.at.now holds (family_in_hand numbers c.args.parents.now c.args.parent.now old.list)
    Hanging None (g.DV.Depot.holds c.make_hanging.new.dv) (λ v. (record_of numbers.vertex v, family'))
    (failure_at CreateHangingVertex c.args.at.now) (Err c.in-Err.stop) (found_of old vertices cells) new.told
    refl c.requires.fits tt (c.in-Err.ensures.follows vertices cells))

pub make_hanging-requires-clause-count : goal.make_hanging-requires-clause-count
make_hanging-requires-clause-count g c =
    let numbers = g.M.Mapping.numbers in
    let old = g.M.Mapping.held c.args.m.now in
    let holds = g.DV.Depot.holds c.args.dv.now in
    let set = setting_of g.M.Effects.rules old 0 0 c.args.traversal in
    let f = record_of numbers.vertex in
    let family = family_in_hand numbers c.args.parents.now c.args.parent.now old.list in
    lend-may f holds (and_then-fits (lend (map_holdings f holds)) _ (and_then-fits (lent_vertex set (desk f holds family)) _ c.requires.fits))
