use Rattle.std.proofs.Common.{◌≡◌, ◌-◌, ◌^◌, List, length, refl, sym, ap, subst, ◌∙◌, arith}
use Rattle.pe_base.specs.Acts.Effects.{VertexRecord}
use Rattle.pe_base.specs.Walk.Course.{and_then}
use Rattle.pe_stacks.specs.Corners.{IsFull}
use Rattle.pe_stacks.proofs.Filling.{full_from}
use Rattle.pe_stacks.specs.Sights.{corner_records}
use Rattle.pe_hang.specs.InHand.{vertices_on_stacks}
use Rattle.pe_base.specs.Calls.Follows.{Fits, wanting, read_by}
use Rattle.pe_stacks.specs.RecordsOut.{held_by}
use Rattle.pe_base.proofs.Calls.Leading.{and_then-fits}
use Rattle.pe_adapt.specs.CountedTouches.{Machine}
use Rattle.pe_adapt.specs.WalkedCells.{stream_stacks_of, failure_in}
use Rattle.pe_walk.specs.InHand.{machine_between}
use Rattle.pe_walk.specs.Visits.{with_vertices, hands_of, machine_of}
use Rattle.pe_walk.proofs.Walking.{set_in, Goes, runs-may, runs-then, runs-err, runs-as}
use Rattle.pe_walk.proofs.AgeLaws.{length-seen}
use Rattle.pe_walk.proofs.RootWalks.{making, rooting, giving, after_make, root-grouped, root-gives}
use Rattle.pe_walk.proofs.root.walk_stacks.Goals as goal

pub lend_corners-requires-clause-fits : goal.lend_corners-requires-clause-fits
lend_corners-requires-clause-fits g c =
    let numbers = g.M.Mapping.numbers in
    let rules = g.M.Effects.rules in
    let s = c.args.settings.now in
    let streams = stream_stacks_of s in
    let greatest = s.setup.max_level in
    let old = hands_of (g.M.Mapping.held c.args.m.now) (g.DV.Depot.holds c.args.dv.now) (g.DV.Depot.room c.args.dv.now) (g.DC.Depot.holds c.args.dc.now) (g.DC.Depot.room c.args.dc.now) c.empty-corners.result c.args.root.now c.args.progress.now in
    let rest = machine_between numbers old.vertices old.cells old.parent old.held.list old.progress.tally in
    (rest, and_then-fits (making streams greatest rest (set_in rules s old)) (after_make streams greatest (set_in rules s old)) c.requires.fits)

pub returns-in-Err-clause-follows : goal.returns-in-Err-clause-follows
returns-in-Err-clause-follows g c =
    let numbers = g.M.Mapping.numbers in
    let rules = g.M.Effects.rules in
    let s = c.args.settings.now in
    let streams = stream_stacks_of s in
    let greatest = s.setup.max_level in
    let old = hands_of (g.M.Mapping.held c.args.m.now) (g.DV.Depot.holds c.args.dv.now) (g.DV.Depot.room c.args.dv.now) (g.DC.Depot.holds c.args.dc.now) (g.DC.Depot.room c.args.dc.now) c.empty-corners.result c.args.root.now c.args.progress.now in
    let new = hands_of (g.M.Mapping.held c.lend_corners.new.m) (g.DV.Depot.holds c.lend_corners.new.dv) (g.DV.Depot.room c.lend_corners.new.dv) old.cells old.cell_room c.lend_corners.new.corners old.parent old.progress in
    let rest = machine_between numbers old.vertices old.cells old.parent old.held.list old.progress.tally in
    let to_make = λ (u : Unit {0}). (let it : List VertexRecord × Machine = (corner_records numbers.vertex new.parents, with_vertices (vertices_on_stacks numbers new.vertices) new.held.list rest) in it) in
    let after = λ (u : Unit {0}). rest in
    runs-err rules s (making streams greatest rest) (after_make streams greatest) to_make after wanting old new (c.in-Err.ensures.follows rest (held_by old.cells old.cell_room))

pub walk_root-walked-requires-clause-fits : goal.walk_root-walked-requires-clause-fits
walk_root-walked-requires-clause-fits g c =
    let numbers = g.M.Mapping.numbers in
    let rules = g.M.Effects.rules in
    let s = c.args.settings.now in
    let streams = stream_stacks_of s in
    let greatest = s.setup.max_level in
    let old = hands_of (g.M.Mapping.held c.args.m.now) (g.DV.Depot.holds c.args.dv.now) (g.DV.Depot.room c.args.dv.now) (g.DC.Depot.holds c.args.dc.now) (g.DC.Depot.room c.args.dc.now) c.empty-corners.result c.args.root.now c.args.progress.now in
    let mid = hands_of (g.M.Mapping.held c.lend_corners.new.m) (g.DV.Depot.holds c.lend_corners.new.dv) (g.DV.Depot.room c.lend_corners.new.dv) old.cells old.cell_room c.lend_corners.new.corners old.parent old.progress in
    let rest = machine_between numbers old.vertices old.cells old.parent old.held.list old.progress.tally in
    let makes = making streams greatest rest in
    let to_make = λ (u : Unit {0}). (let it : List VertexRecord × Machine = (corner_records numbers.vertex mid.parents, with_vertices (vertices_on_stacks numbers mid.vertices) mid.held.list rest) in it) in
    let goes : Goes rules s old mid = record { keeps = c.in-Ok.ensures.keeps; vertices = c.in-Ok.ensures.left.keeps; cells = λ n. omega arith } in
    let set = set_in rules s mid in
    let fits = runs-may rules s makes (after_make streams greatest) to_make tt old mid c.requires.fits (c.in-Ok.ensures.follows rest (held_by old.cells old.cell_room)) goes in
    and_then-fits (rooting streams greatest (machine_of numbers mid) set) (giving streams greatest set) (subst Fits (sym (root-grouped streams greatest set (to_make tt))) fits)

pub give_up_from-requires-clause-full : goal.give_up_from-requires-clause-full
give_up_from-requires-clause-full g c =
    let corners = c.walk_root-walked.new.corners in
    full_from c.args.settings.now.setup.dim corners (subst (λ d. IsFull d corners) (c.in-Ok.ensures.keeps.dim ∙ c.requires.dim) c.walk_root-walked.ensures.left.stays.parents.full)

pub returns-clause-follows : goal.returns-clause-follows
returns-clause-follows g c =
    let numbers = g.M.Mapping.numbers in
    let rules = g.M.Effects.rules in
    let s = c.args.settings.now in
    let streams = stream_stacks_of s in
    let greatest = s.setup.max_level in
    let axes = s.setup.dim in
    let old = hands_of (g.M.Mapping.held c.args.m.now) (g.DV.Depot.holds c.args.dv.now) (g.DV.Depot.room c.args.dv.now) (g.DC.Depot.holds c.args.dc.now) (g.DC.Depot.room c.args.dc.now) c.empty-corners.result c.args.root.now c.args.progress.now in
    let mid = hands_of (g.M.Mapping.held c.lend_corners.new.m) (g.DV.Depot.holds c.lend_corners.new.dv) (g.DV.Depot.room c.lend_corners.new.dv) old.cells old.cell_room c.lend_corners.new.corners old.parent old.progress in
    let walked = hands_of (g.M.Mapping.held c.walk_root-walked.new.m) (g.DV.Depot.holds c.walk_root-walked.new.dv) (g.DV.Depot.room c.walk_root-walked.new.dv) (g.DC.Depot.holds c.walk_root-walked.new.dc) (g.DC.Depot.room c.walk_root-walked.new.dc) c.walk_root-walked.new.corners c.walk_root-walked.new.root c.walk_root-walked.new.progress in
    let new = hands_of walked.held (g.DV.Depot.holds c.give_up_from.new.vertices) (g.DV.Depot.room c.give_up_from.new.vertices) walked.cells walked.cell_room walked.parents walked.parent walked.progress in
    let rest = machine_between numbers old.vertices old.cells old.parent old.held.list old.progress.tally in
    let makes = making streams greatest rest in
    let to_make = λ (u : Unit {0}). (let it : List VertexRecord × Machine = (corner_records numbers.vertex mid.parents, with_vertices (vertices_on_stacks numbers mid.vertices) mid.held.list rest) in it) in
    let goes : Goes rules s old mid = record { keeps = c.in-Ok.ensures.keeps; vertices = c.in-Ok.ensures.left.keeps; cells = λ n. omega arith } in
    let made = c.in-Ok.ensures.follows rest (held_by old.cells old.cell_room) in
    let fits = runs-may rules s makes (after_make streams greatest) to_make tt old mid c.requires.fits made goes in
    let walks = c.walk_root-walked.ensures in
    let goes_on : Goes rules s mid walked = record { keeps = walks.left.stays.keeps; vertices = walks.left.vertices.keeps; cells = walks.left.cells.keeps } in
    let answer = read_by (failure_in walked.progress) c.walk_root-walked.result in
    let after = λ (u : Unit {0}). machine_between numbers new.vertices new.cells new.parent new.held.list new.progress.tally in
    let count : 2 ^ axes - 0 ≡ length (corner_records numbers.vertex walked.parents) = omega (arith, length-seen numbers.vertex mid.held.dim walked.parents walks.left.stays.parents.full, ap (λ d. 2 ^ d) (c.in-Ok.ensures.keeps.dim ∙ c.requires.dim)) in
    let all = root-gives rules numbers s mid walked new answer walks.follows goes_on (subst Fits (sym (root-grouped streams greatest (set_in rules s mid) (to_make tt))) fits) refl (2 ^ axes - 0) count c.give_up_from.ensures.holds in
    runs-then rules s makes (after_make streams greatest) to_make tt after answer old mid new made goes
    (runs-as rules s (λ set. and_then (rooting streams greatest (machine_of numbers mid) set) (giving streams greatest set)) (λ set. after_make streams greatest set (to_make tt)) after answer mid new (root-grouped streams greatest (set_in rules s mid) (to_make tt)) all)
