use Rattle.std.proofs.Common.{◌≤◌, ◌∙◌, Ok, Err, sym, subst, arith}
use Rattle.pe_base.specs.declared.event.Event.TheVariants.{BeginIteration, EndIteration}
use Rattle.pe_base.specs.declared.tally.Tally.{Tally}
use Rattle.pe_stacks.specs.Corners.{IsFull}
use Rattle.pe_base.specs.Calls.Follows.{Follows, read_by}
use Rattle.pe_stacks.specs.RecordsOut.{held_by}
use Rattle.pe_base.proofs.Calls.Leading.{and_then-fits}
use Rattle.pe_adapt.specs.WalkedCells.{stream_stacks_of, failure_in}
use Rattle.pe_walk.specs.Visits.{hands_of, machine_of, found_in}
use Rattle.pe_walk.proofs.Walking.{set_in, Goes, runs-may, runs-then, runs-err}
use Rattle.pe_walk.proofs.RootWalks.{beginning, walking, finishing, after_begin, plain-follows}
use Rattle.pe_walk.proofs.root.walk_root.Goals as goal

pub returns-in-Err-clause-follows : goal.returns-in-Err-clause-follows
returns-in-Err-clause-follows g c =
    let numbers = g.M.Mapping.numbers in
    let rules = g.M.Effects.rules in
    let s = c.args.settings.now in
    let streams = stream_stacks_of s in
    let greatest = s.setup.max_level in
    let old = hands_of (g.M.Mapping.held c.args.m.now) (g.DV.Depot.holds c.args.dv.now) (g.DV.Depot.room c.args.dv.now) (g.DC.Depot.holds c.args.dc.now) (g.DC.Depot.room c.args.dc.now) c.args.corners.now c.args.root.now c.args.progress.now in
    let new = hands_of (g.M.Mapping.held c.fire_plain.new.m) old.vertices old.room old.cells old.cell_room old.parents old.parent c.fire_plain.new.progress in
    let after = λ (u : Unit {0}). machine_of numbers new in
    let failure = failure_in c.fire_plain.new.progress c.in-Err.halt in
    runs-err rules s (beginning streams greatest (machine_of numbers old)) (after_begin streams greatest) (λ (u : Unit {0}). machine_of numbers old) after failure old new
    (plain-follows streams greatest (set_in rules s old) BeginIteration (machine_of numbers old) old.held.list (Err failure) (found_in old) new.held.told
    (c.in-Err.ensures.follows (held_by old.vertices old.room) (held_by old.cells old.cell_room)))

pub walk_children-requires-clause-may : goal.walk_children-requires-clause-may
walk_children-requires-clause-may g c =
    let numbers = g.M.Mapping.numbers in
    let rules = g.M.Effects.rules in
    let s = c.args.settings.now in
    let streams = stream_stacks_of s in
    let greatest = s.setup.max_level in
    let old = hands_of (g.M.Mapping.held c.args.m.now) (g.DV.Depot.holds c.args.dv.now) (g.DV.Depot.room c.args.dv.now) (g.DC.Depot.holds c.args.dc.now) (g.DC.Depot.room c.args.dc.now) c.args.corners.now c.args.root.now c.args.progress.now in
    let begun = hands_of (g.M.Mapping.held c.fire_plain.new.m) old.vertices old.room old.cells old.cell_room old.parents old.parent c.fire_plain.new.progress in
    let set = set_in rules s old in
    let start = machine_of numbers old in
    let begins = beginning streams greatest start in
    let to_begin = λ (u : Unit {0}). machine_of numbers begun in
    let goes : Goes rules s old begun = record { keeps = c.in-Ok.ensures.keeps; vertices = λ n. omega arith; cells = λ n. omega arith } in
    let fired = plain-follows streams greatest set BeginIteration start begun.held.list (Ok tt) (found_in old) begun.held.told
    (c.in-Ok.ensures.follows (held_by old.vertices old.room) (held_by old.cells old.cell_room)) in
    let begin = subst (λ (tally : Tally). Follows (begins set) (λ (u : Unit {0}). record (machine_of numbers begun) { tally = tally }) (Ok tt) (found_in old) begun.held.told) (sym c.fire_plain.ensures.tally) fired in
    let dim = c.in-Ok.ensures.keeps.dim ∙ c.requires.dim in
    record {
      dim = dim;
      levels = omega (arith, s.setup.levels.few);
      full = subst (λ d. IsFull d c.args.corners.now) (sym dim) c.requires.full;
      few = subst (λ (tally : Tally). tally.cells ≤ s.setup.max_cells) (sym c.fire_plain.ensures.tally) c.requires.few;
      fits = and_then-fits (walking streams greatest (to_begin tt) (set_in rules s begun)) _
          (runs-may rules s begins (after_begin streams greatest) to_begin tt old begun c.requires.fits begin goes);
    }

pub returns-in-Ok-walk_children-clause-follows : goal.returns-in-Ok-walk_children-clause-follows
returns-in-Ok-walk_children-clause-follows g c =
    let numbers = g.M.Mapping.numbers in
    let rules = g.M.Effects.rules in
    let s = c.args.settings.now in
    let streams = stream_stacks_of s in
    let greatest = s.setup.max_level in
    let old = hands_of (g.M.Mapping.held c.args.m.now) (g.DV.Depot.holds c.args.dv.now) (g.DV.Depot.room c.args.dv.now) (g.DC.Depot.holds c.args.dc.now) (g.DC.Depot.room c.args.dc.now) c.args.corners.now c.args.root.now c.args.progress.now in
    let begun = hands_of (g.M.Mapping.held c.fire_plain.new.m) old.vertices old.room old.cells old.cell_room old.parents old.parent c.fire_plain.new.progress in
    let walked = hands_of (g.M.Mapping.held c.walk_children.new.m) (g.DV.Depot.holds c.walk_children.new.dv) (g.DV.Depot.room c.walk_children.new.dv) (g.DC.Depot.holds c.walk_children.new.dc) (g.DC.Depot.room c.walk_children.new.dc) c.walk_children.new.parents c.walk_children.new.parent c.walk_children.new.progress in
    let new = hands_of (g.M.Mapping.held c.fire_plain-in-Ok-walk_children.new.m) walked.vertices walked.room walked.cells walked.cell_room walked.parents walked.parent c.fire_plain-in-Ok-walk_children.new.progress in
    let set = set_in rules s old in
    let start = machine_of numbers old in
    let begins = beginning streams greatest start in
    let to_begin = λ (u : Unit {0}). machine_of numbers begun in
    let goes : Goes rules s old begun = record { keeps = c.in-Ok.ensures.keeps; vertices = λ n. omega arith; cells = λ n. omega arith } in
    let fired = plain-follows streams greatest set BeginIteration start begun.held.list (Ok tt) (found_in old) begun.held.told
    (c.in-Ok.ensures.follows (held_by old.vertices old.room) (held_by old.cells old.cell_room)) in
    let begin = subst (λ (tally : Tally). Follows (begins set) (λ (u : Unit {0}). record (machine_of numbers begun) { tally = tally }) (Ok tt) (found_in old) begun.held.told) (sym c.fire_plain.ensures.tally) fired in
    let walks = walking streams greatest (to_begin tt) in
    let to_walk = λ (u : Unit {0}). machine_of numbers walked in
    let goes_on : Goes rules s begun walked = record { keeps = c.in-Ok-walk_children.ensures.left.stays.keeps; vertices = c.in-Ok-walk_children.ensures.left.vertices.keeps; cells = c.in-Ok-walk_children.ensures.left.cells.keeps } in
    let after = λ (u : Unit {0}). machine_of numbers new in
    let answer = read_by (failure_in c.fire_plain-in-Ok-walk_children.new.progress) c.fire_plain-in-Ok-walk_children.result in
    let ended = plain-follows streams greatest (set_in rules s walked) EndIteration (to_walk tt) new.held.list answer (found_in walked) new.held.told
    (c.fire_plain-in-Ok-walk_children.ensures.follows (held_by walked.vertices walked.room) (held_by walked.cells walked.cell_room)) in
    let end = subst (λ (tally : Tally). Follows (finishing streams greatest (set_in rules s walked) (to_walk tt)) (λ (u : Unit {0}). record (machine_of numbers new) { tally = tally }) answer (found_in walked) new.held.told)
    (sym c.fire_plain-in-Ok-walk_children.ensures.tally) ended in
    runs-then rules s begins (after_begin streams greatest) to_begin tt after answer old begun new begin goes
    (runs-then rules s walks (finishing streams greatest) to_walk tt after answer begun walked new c.in-Ok-walk_children.ensures.follows goes_on end)

pub returns-in-Err-walk_children-clause-follows : goal.returns-in-Err-walk_children-clause-follows
returns-in-Err-walk_children-clause-follows g c =
    let numbers = g.M.Mapping.numbers in
    let rules = g.M.Effects.rules in
    let s = c.args.settings.now in
    let streams = stream_stacks_of s in
    let greatest = s.setup.max_level in
    let old = hands_of (g.M.Mapping.held c.args.m.now) (g.DV.Depot.holds c.args.dv.now) (g.DV.Depot.room c.args.dv.now) (g.DC.Depot.holds c.args.dc.now) (g.DC.Depot.room c.args.dc.now) c.args.corners.now c.args.root.now c.args.progress.now in
    let begun = hands_of (g.M.Mapping.held c.fire_plain.new.m) old.vertices old.room old.cells old.cell_room old.parents old.parent c.fire_plain.new.progress in
    let new = hands_of (g.M.Mapping.held c.walk_children.new.m) (g.DV.Depot.holds c.walk_children.new.dv) (g.DV.Depot.room c.walk_children.new.dv) (g.DC.Depot.holds c.walk_children.new.dc) (g.DC.Depot.room c.walk_children.new.dc) c.walk_children.new.parents c.walk_children.new.parent c.walk_children.new.progress in
    let set = set_in rules s old in
    let start = machine_of numbers old in
    let begins = beginning streams greatest start in
    let to_begin = λ (u : Unit {0}). machine_of numbers begun in
    let goes : Goes rules s old begun = record { keeps = c.in-Ok.ensures.keeps; vertices = λ n. omega arith; cells = λ n. omega arith } in
    let fired = plain-follows streams greatest set BeginIteration start begun.held.list (Ok tt) (found_in old) begun.held.told
    (c.in-Ok.ensures.follows (held_by old.vertices old.room) (held_by old.cells old.cell_room)) in
    let begin = subst (λ (tally : Tally). Follows (begins set) (λ (u : Unit {0}). record (machine_of numbers begun) { tally = tally }) (Ok tt) (found_in old) begun.held.told) (sym c.fire_plain.ensures.tally) fired in
    let walks = walking streams greatest (to_begin tt) in
    let after = λ (u : Unit {0}). machine_of numbers new in
    let failure = failure_in c.walk_children.new.progress c.in-Err-walk_children.halt in
    runs-then rules s begins (after_begin streams greatest) to_begin tt after (Err failure) old begun new begin goes
    (runs-err rules s walks (finishing streams greatest) after after failure begun new c.in-Err-walk_children.ensures.follows)
