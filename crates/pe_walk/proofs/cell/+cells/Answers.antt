use Rattle.std.proofs.Common.{◌≡◌, ℕ, suc, ◌+◌, ◌-◌, ◌^◌, ◌<◌, ◌≤◌, List, [], map, drop, length, Ok, Err, refl, sym, ap, subst, ◌∙◌, rules as the_rules, arith}
use Rattle.pe_base.specs.declared.place.Place.{Place}
use Rattle.pe_base.specs.declared.tally.Tally.{Tally}
use Rattle.pe_base.specs.Tree.Places.{child_at}
use Rattle.pe_base.specs.Tree.Curve.{children, child_digits, flips}
use Rattle.pe_base.specs.Tree.Ways.{way_of}
use Rattle.pe_base.specs.Acts.Effects.{VertexRecord}
use Rattle.pe_base.specs.Walk.Course.{Course, and_then, each}
use Rattle.pe_base.specs.Walk.Core.{Family, Own}
use Rattle.pe_base.specs.Walk.Touches.{kind_below}
use Rattle.pe_stacks.specs.declared.record.CellRec.{CellRec as ACell}
use Rattle.pe_stacks.specs.Corners.{IsFull, no_vertices}
use Rattle.pe_stacks.proofs.Filling.{full_from}
use Rattle.pe_base.specs.Calls.Told.{Adds}
use Rattle.pe_stacks.specs.Sights.{corner_records}
use Rattle.pe_base.proofs.Calls.Texts.{adds-nothing}
use Rattle.pe_base.proofs.BelowRoot.{cell_below_root}
use Rattle.pe_hang.specs.InHand.{family_in_hand, own_in_hand, cells_on_stacks}
use Rattle.pe_base.specs.Calls.Follows.{Follows, Fits, Leads, read_by}
use Rattle.pe_stacks.specs.RecordsOut.{held_by}
use Rattle.pe_hang.proofs.Staying.{keeps-same, stays-full, stays-beside}
use Rattle.pe_base.proofs.Calls.Leading.{and_then-fits, follows-map, leads_start}
use Rattle.pe_adapt.specs.Ages.{AreAgesOf, GiveKinds}
use Rattle.pe_adapt.specs.WalkedCells.{IsWalked, stream_stacks_of, failure_in}
use Rattle.pe_adapt.specs.CountedTouches.{Machine}
use Rattle.pe_walk.specs.Machine.{kind_among, enter_cell, outside, walk_cell}
use Rattle.pe_walk.specs.Children.{IsAbove, IsChild}
use Rattle.pe_walk.specs.Visits.{walk_children, walk_below, visit_cell, with_family, hands_of, machine_of, found_in, MayWalkCells}
use Rattle.pe_walk.proofs.Walking.{set_in, Goes, goes-set, runs-may, runs-then, runs-err, runs-as, left-then}
use Rattle.pe_walk.proofs.AgeLaws.{kind_among-kept, kind_among-deep, kind_below-ages, any-kind, length-seen, few-corners, ages-kept}
use Rattle.pe_walk.proofs.Children.{child-walked}
use Rattle.pe_walk.proofs.Below.{below-hanging, below-walked, below-greatest}
use Rattle.pe_walk.proofs.AnyCells.{load_all-any_cells, store_all-any_cells}
use Rattle.pe_walk.proofs.CellWalks.{counting, loading, storing, visiting, entering, below, leaving, after_enter, after_load, after_count, visit-grouped, counts-to}
use Rattle.pe_walk.proofs.ChildWalks.{all-children, child-walk, child-may, child-next, child-err, children-end}
use Rattle.pe_curve.proofs.DigitLaws.{drop-slice_get}
use Rattle.pe_base.proofs.Tree.CurveLaws.{length-child_digits}
use Rattle.std.proofs.lemmas.List.{drop_all}
use Rattle.pe_walk.proofs.cell.+cells.Goals as goal
use Rattle.pe_walk.proofs.cell.+cells.Goals.{walk_children-then-n-parts, walk_children-else-n-parts}

pub visit_cell-enter_cell-requires-clause-fits : goal.visit_cell-enter_cell-requires-clause-fits
visit_cell-enter_cell-requires-clause-fits g t c =
    let numbers = g.M.Mapping.numbers in
    let rules = g.M.Effects.rules in
    let s = c.args.settings.now in
    let streams = stream_stacks_of s in
    let place = c.args.cell.now.place in
    let levels = c.args.levels in
    let its = corner_records numbers.vertex c.args.corners.now in
    let old = hands_of (g.M.Mapping.held c.args.m.now) (g.DV.Depot.holds c.args.dv.now) (g.DV.Depot.room c.args.dv.now) (g.DC.Depot.holds c.args.dc.now) (g.DC.Depot.room c.args.dc.now) c.args.parents.now c.args.parent.now c.args.progress.now in
    (old.vertices, and_then-fits (enter_cell (set_in rules s old) streams place its (machine_of numbers old)) _ c.requires.may.fits)

pub visit_cell-walk_below-requires : goal.visit_cell-walk_below-requires
visit_cell-walk_below-requires g t c κs within =
    let numbers = g.M.Mapping.numbers in
    let rules = g.M.Effects.rules in
    let s = c.args.settings.now in
    let streams = stream_stacks_of s in
    let place = c.args.cell.now.place in
    let levels = c.args.levels in
    let its = corner_records numbers.vertex c.args.corners.now in
    let old = hands_of (g.M.Mapping.held c.args.m.now) (g.DV.Depot.holds c.args.dv.now) (g.DV.Depot.room c.args.dv.now) (g.DC.Depot.holds c.args.dc.now) (g.DC.Depot.room c.args.dc.now) c.args.parents.now c.args.parent.now c.args.progress.now in
    let mid = hands_of (g.M.Mapping.held c.enter_cell.new.m) (g.DV.Depot.holds c.args.dv.now) (g.DV.Depot.room c.args.dv.now) (g.DC.Depot.holds c.enter_cell.new.dc) (g.DC.Depot.room c.enter_cell.new.dc) c.enter_cell.new.parents c.enter_cell.new.parent c.enter_cell.new.progress in
    let enters = entering streams levels place its (machine_of numbers old) in
    let entered = λ (own : ACell g.row.M-C.Denot). (let it : Own × Machine = (own_in_hand numbers own c.enter_cell.new.corners, machine_of numbers mid) in it) in
    let goes : Goes rules s old mid = record { keeps = c.in-Ok.ensures.stays.keeps; vertices = λ n. omega arith; cells = c.in-Ok.ensures.left.keeps } in
    let in_enter = c.in-Ok.ensures.follows old.vertices (held_by old.vertices old.room) in
    let fits = runs-may rules s enters (after_enter streams levels place) entered c.in-Ok.entered old mid c.requires.may.fits in_enter goes in
    let outer = family_in_hand numbers c.enter_cell.new.parents c.enter_cell.new.parent mid.held.list in
    let walked : IsWalked mid.held.dim s c.args.cell.now = subst (λ d. IsWalked d s c.args.cell.now) (sym c.in-Ok.ensures.stays.keeps.dim) c.requires.walked in
    let full : IsFull mid.held.dim c.enter_cell.new.corners = subst (λ d. IsFull d c.enter_cell.new.corners) (sym c.in-Ok.ensures.stays.keeps.dim) c.in-Ok.ensures.own.full in
    let few : c.enter_cell.new.progress.tally.cells ≤ s.setup.max_cells = subst (λ (tally : Tally). tally.cells ≤ s.setup.max_cells) (sym c.in-Ok.ensures.tally) c.requires.may.few in
    let may : MayWalkCells rules numbers s place.level levels (λ set m. walk_below set streams levels place (own_in_hand numbers c.in-Ok.entered c.enter_cell.new.corners, with_family outer m)) (record mid { parents = c.enter_cell.new.corners; parent = c.in-Ok.entered }) =
    record {
      dim = c.in-Ok.ensures.stays.keeps.dim ∙ c.requires.may.dim;
      levels = c.requires.may.levels;
      full = full;
      few = few;
      fits = and_then-fits (below streams levels place (entered c.in-Ok.entered) (set_in rules s mid)) _ fits;
    } in
    (search the_rules, (search the_rules, (within.0, (within.1.0, (within.1.1.0, (within.1.1.1.0, (within.1.1.1.1.0, (within.1.1.1.1.1, (c.requires.axes, ((outer, may), walked))))))))))

pub visit_cell-leave_cell-requires-clause-place : goal.visit_cell-leave_cell-requires-clause-place
visit_cell-leave_cell-requires-clause-place g t c =
    cell_below_root (g.M.Mapping.held c.args.m.now).dim c.args.cell.now.place c.requires.walked.place c.requires.walked.deep

pub visit_cell-leave_cell-requires-clause-kind : goal.visit_cell-leave_cell-requires-clause-kind
visit_cell-leave_cell-requires-clause-kind g t c =
    let numbers = g.M.Mapping.numbers in
    kind_among-kept (corner_records numbers.vertex c.args.parents.now) (corner_records numbers.vertex c.enter_cell.new.parents) c.in-Ok.ensures.stays.parents.ages c.args.settings.now.traversal c.args.cell.now.place ∙ c.requires.kind

pub visit_cell-leave_cell-requires-clause-fits : goal.visit_cell-leave_cell-requires-clause-fits
visit_cell-leave_cell-requires-clause-fits g t c =
    let numbers = g.M.Mapping.numbers in
    let rules = g.M.Effects.rules in
    let s = c.args.settings.now in
    let streams = stream_stacks_of s in
    let place = c.args.cell.now.place in
    let levels = c.args.levels in
    let its = corner_records numbers.vertex c.args.corners.now in
    let old = hands_of (g.M.Mapping.held c.args.m.now) (g.DV.Depot.holds c.args.dv.now) (g.DV.Depot.room c.args.dv.now) (g.DC.Depot.holds c.args.dc.now) (g.DC.Depot.room c.args.dc.now) c.args.parents.now c.args.parent.now c.args.progress.now in
    let mid = hands_of (g.M.Mapping.held c.enter_cell.new.m) (g.DV.Depot.holds c.args.dv.now) (g.DV.Depot.room c.args.dv.now) (g.DC.Depot.holds c.enter_cell.new.dc) (g.DC.Depot.room c.enter_cell.new.dc) c.enter_cell.new.parents c.enter_cell.new.parent c.enter_cell.new.progress in
    let low = hands_of (g.M.Mapping.held c.walk_below.new.m) (g.DV.Depot.holds c.walk_below.new.dv) (g.DV.Depot.room c.walk_below.new.dv) (g.DC.Depot.holds c.walk_below.new.dc) (g.DC.Depot.room c.walk_below.new.dc) c.enter_cell.new.parents c.enter_cell.new.parent c.walk_below.new.progress in
    let enters = entering streams levels place its (machine_of numbers old) in
    let entered = λ (own : ACell g.row.M-C.Denot). (let it : Own × Machine = (own_in_hand numbers own c.enter_cell.new.corners, machine_of numbers mid) in it) in
    let goes : Goes rules s old mid = record { keeps = c.in-Ok.ensures.stays.keeps; vertices = λ n. omega arith; cells = c.in-Ok.ensures.left.keeps } in
    let in_enter = c.in-Ok.ensures.follows old.vertices (held_by old.vertices old.room) in
    let fits = runs-may rules s enters (after_enter streams levels place) entered c.in-Ok.entered old mid c.requires.may.fits in_enter goes in
    let outer = family_in_hand numbers c.enter_cell.new.parents c.enter_cell.new.parent mid.held.list in
    let lowers = below streams levels place (entered c.in-Ok.entered) in
    let left = λ (u : Unit {0}). (let it : Own × Machine = (own_in_hand numbers c.walk_below.new.own c.walk_below.new.corners, machine_of numbers low) in it) in
    let goes_low : Goes rules s mid low = record { keeps = c.in-Ok-walk_below.ensures.left.stays.keeps; vertices = c.in-Ok-walk_below.ensures.left.vertices.keeps; cells = c.in-Ok-walk_below.ensures.left.cells.keeps } in
    let in_below = c.in-Ok-walk_below.ensures.follows outer in
    (low.vertices, runs-may rules s lowers (leaving streams levels place) left tt mid low fits in_below goes_low)

pub visit_cell-returns-in-Ok-walk_below-clause-follows : goal.visit_cell-returns-in-Ok-walk_below-clause-follows
visit_cell-returns-in-Ok-walk_below-clause-follows g t c =
    let numbers = g.M.Mapping.numbers in
    let rules = g.M.Effects.rules in
    let s = c.args.settings.now in
    let streams = stream_stacks_of s in
    let place = c.args.cell.now.place in
    let levels = c.args.levels in
    let its = corner_records numbers.vertex c.args.corners.now in
    let old = hands_of (g.M.Mapping.held c.args.m.now) (g.DV.Depot.holds c.args.dv.now) (g.DV.Depot.room c.args.dv.now) (g.DC.Depot.holds c.args.dc.now) (g.DC.Depot.room c.args.dc.now) c.args.parents.now c.args.parent.now c.args.progress.now in
    let mid = hands_of (g.M.Mapping.held c.enter_cell.new.m) (g.DV.Depot.holds c.args.dv.now) (g.DV.Depot.room c.args.dv.now) (g.DC.Depot.holds c.enter_cell.new.dc) (g.DC.Depot.room c.enter_cell.new.dc) c.enter_cell.new.parents c.enter_cell.new.parent c.enter_cell.new.progress in
    let low = hands_of (g.M.Mapping.held c.walk_below.new.m) (g.DV.Depot.holds c.walk_below.new.dv) (g.DV.Depot.room c.walk_below.new.dv) (g.DC.Depot.holds c.walk_below.new.dc) (g.DC.Depot.room c.walk_below.new.dc) c.enter_cell.new.parents c.enter_cell.new.parent c.walk_below.new.progress in
    let new = hands_of (g.M.Mapping.held c.leave_cell.new.m) (g.DV.Depot.holds c.walk_below.new.dv) (g.DV.Depot.room c.walk_below.new.dv) (g.DC.Depot.holds c.leave_cell.new.dc) (g.DC.Depot.room c.leave_cell.new.dc) c.leave_cell.new.parents c.leave_cell.new.parent c.leave_cell.new.progress in
    let enters = entering streams levels place its (machine_of numbers old) in
    let entered = λ (own : ACell g.row.M-C.Denot). (let it : Own × Machine = (own_in_hand numbers own c.enter_cell.new.corners, machine_of numbers mid) in it) in
    let goes : Goes rules s old mid = record { keeps = c.in-Ok.ensures.stays.keeps; vertices = λ n. omega arith; cells = c.in-Ok.ensures.left.keeps } in
    let in_enter = c.in-Ok.ensures.follows old.vertices (held_by old.vertices old.room) in
    let fits = runs-may rules s enters (after_enter streams levels place) entered c.in-Ok.entered old mid c.requires.may.fits in_enter goes in
    let outer = family_in_hand numbers c.enter_cell.new.parents c.enter_cell.new.parent mid.held.list in
    let lowers = below streams levels place (entered c.in-Ok.entered) in
    let left = λ (u : Unit {0}). (let it : Own × Machine = (own_in_hand numbers c.walk_below.new.own c.walk_below.new.corners, machine_of numbers low) in it) in
    let goes_low : Goes rules s mid low = record { keeps = c.in-Ok-walk_below.ensures.left.stays.keeps; vertices = c.in-Ok-walk_below.ensures.left.vertices.keeps; cells = c.in-Ok-walk_below.ensures.left.cells.keeps } in
    let in_below = c.in-Ok-walk_below.ensures.follows outer in
    let after = λ (u : Unit {0}). (let it : List VertexRecord × Machine = (corner_records numbers.vertex c.leave_cell.new.corners, machine_of numbers new) in it) in
    let answer = read_by (failure_in c.leave_cell.new.progress) c.leave_cell.result in
    runs-then rules s enters (after_enter streams levels place) entered c.in-Ok.entered after answer old mid new in_enter goes
    (runs-then rules s lowers (leaving streams levels place) left tt after answer mid low new in_below goes_low
    (c.leave_cell.ensures.follows low.vertices (held_by low.vertices low.room)))

pub visit_cell-returns-in-Err-walk_below-clause-follows : goal.visit_cell-returns-in-Err-walk_below-clause-follows
visit_cell-returns-in-Err-walk_below-clause-follows g t c =
    let numbers = g.M.Mapping.numbers in
    let rules = g.M.Effects.rules in
    let s = c.args.settings.now in
    let streams = stream_stacks_of s in
    let place = c.args.cell.now.place in
    let levels = c.args.levels in
    let its = corner_records numbers.vertex c.args.corners.now in
    let old = hands_of (g.M.Mapping.held c.args.m.now) (g.DV.Depot.holds c.args.dv.now) (g.DV.Depot.room c.args.dv.now) (g.DC.Depot.holds c.args.dc.now) (g.DC.Depot.room c.args.dc.now) c.args.parents.now c.args.parent.now c.args.progress.now in
    let mid = hands_of (g.M.Mapping.held c.enter_cell.new.m) (g.DV.Depot.holds c.args.dv.now) (g.DV.Depot.room c.args.dv.now) (g.DC.Depot.holds c.enter_cell.new.dc) (g.DC.Depot.room c.enter_cell.new.dc) c.enter_cell.new.parents c.enter_cell.new.parent c.enter_cell.new.progress in
    let new = hands_of (g.M.Mapping.held c.walk_below.new.m) (g.DV.Depot.holds c.walk_below.new.dv) (g.DV.Depot.room c.walk_below.new.dv) (g.DC.Depot.holds c.give_up.new.self) (g.DC.Depot.room c.give_up.new.self) c.enter_cell.new.parents c.enter_cell.new.parent c.walk_below.new.progress in
    let enters = entering streams levels place its (machine_of numbers old) in
    let entered = λ (own : ACell g.row.M-C.Denot). (let it : Own × Machine = (own_in_hand numbers own c.enter_cell.new.corners, machine_of numbers mid) in it) in
    let goes : Goes rules s old mid = record { keeps = c.in-Ok.ensures.stays.keeps; vertices = λ n. omega arith; cells = c.in-Ok.ensures.left.keeps } in
    let in_enter = c.in-Ok.ensures.follows old.vertices (held_by old.vertices old.room) in
    let fits = runs-may rules s enters (after_enter streams levels place) entered c.in-Ok.entered old mid c.requires.may.fits in_enter goes in
    let outer = family_in_hand numbers c.enter_cell.new.parents c.enter_cell.new.parent mid.held.list in
    let lowers = below streams levels place (entered c.in-Ok.entered) in
    let left = λ (u : Unit {0}). (let it : Own × Machine = (own_in_hand numbers c.walk_below.new.own c.walk_below.new.corners, machine_of numbers new) in it) in
    let after = λ (u : Unit {0}). (let it : List VertexRecord × Machine = (corner_records numbers.vertex c.walk_below.new.corners, machine_of numbers new) in it) in
    let failure = failure_in c.walk_below.new.progress c.in-Err-walk_below.halt in
    runs-then rules s enters (after_enter streams levels place) entered c.in-Ok.entered after (Err failure) old mid new in_enter goes
    (runs-err rules s lowers (leaving streams levels place) left after failure mid new (c.in-Err-walk_below.ensures.follows outer))

pub visit_cell-returns-in-Err-clause-follows : goal.visit_cell-returns-in-Err-clause-follows
visit_cell-returns-in-Err-clause-follows g t c =
    let numbers = g.M.Mapping.numbers in
    let rules = g.M.Effects.rules in
    let s = c.args.settings.now in
    let streams = stream_stacks_of s in
    let place = c.args.cell.now.place in
    let levels = c.args.levels in
    let its = corner_records numbers.vertex c.args.corners.now in
    let old = hands_of (g.M.Mapping.held c.args.m.now) (g.DV.Depot.holds c.args.dv.now) (g.DV.Depot.room c.args.dv.now) (g.DC.Depot.holds c.args.dc.now) (g.DC.Depot.room c.args.dc.now) c.args.parents.now c.args.parent.now c.args.progress.now in
    let mid = hands_of (g.M.Mapping.held c.enter_cell.new.m) (g.DV.Depot.holds c.args.dv.now) (g.DV.Depot.room c.args.dv.now) (g.DC.Depot.holds c.enter_cell.new.dc) (g.DC.Depot.room c.enter_cell.new.dc) c.enter_cell.new.parents c.enter_cell.new.parent c.enter_cell.new.progress in
    let enters = entering streams levels place its (machine_of numbers old) in
    let entered = λ (own : ACell g.row.M-C.Denot). (let it : Own × Machine = (own_in_hand numbers own c.enter_cell.new.corners, machine_of numbers mid) in it) in
    let after = λ (u : Unit {0}). (let it : List VertexRecord × Machine = (corner_records numbers.vertex c.enter_cell.new.corners, machine_of numbers mid) in it) in
    runs-err rules s enters (after_enter streams levels place) entered after (failure_in c.enter_cell.new.progress c.in-Err.halt) old mid (c.in-Err.ensures.follows old.vertices (held_by old.vertices old.room))

pub walk_below-returns-then-levels-eq0-clause-follows : goal.walk_below-returns-then-levels-eq0-clause-follows
walk_below-returns-then-levels-eq0-clause-follows g t c =
    λ outer.
    let numbers = g.M.Mapping.numbers in
    let rules = g.M.Effects.rules in
    let s = c.args.settings.now in
    let streams = stream_stacks_of s in
    let place = c.args.cell.now.place in
    let levels = c.args.levels in
    let old = hands_of (g.M.Mapping.held c.args.m.now) (g.DV.Depot.holds c.args.dv.now) (g.DV.Depot.room c.args.dv.now) (g.DC.Depot.holds c.args.dc.now) (g.DC.Depot.room c.args.dc.now) c.args.corners.now c.args.own.now c.args.progress.now in
    let it = λ (outer : Family). (let own : Own × Machine = (own_in_hand numbers c.args.own.now c.args.corners.now, with_family outer (machine_of numbers old)) in own) in
    let set = set_in rules s old in
    let hangs = below-greatest set streams levels place (it c.requires.may.0) c.if-levels-eq0.true c.requires.may.1.fits in
    let course = below-hanging set streams levels place (it outer) hangs in
    record {
      ends = ap (λ (course : Course (Own × Machine)). course.ending) course;
      told = subst (λ text. Adds old.held.told text old.held.told) (sym (ap (λ (course : Course (Own × Machine)). course.text) course)) (adds-nothing old.held.told);
    }

pub walk_below-walk_children-requires : goal.walk_below-walk_children-requires
walk_below-walk_children-requires g t c κs within =
    let numbers = g.M.Mapping.numbers in
    let rules = g.M.Effects.rules in
    let s = c.args.settings.now in
    let streams = stream_stacks_of s in
    let place = c.args.cell.now.place in
    let levels = c.args.levels in
    let old = hands_of (g.M.Mapping.held c.args.m.now) (g.DV.Depot.holds c.args.dv.now) (g.DV.Depot.room c.args.dv.now) (g.DC.Depot.holds c.args.dc.now) (g.DC.Depot.room c.args.dc.now) c.args.corners.now c.args.own.now c.args.progress.now in
    let it = λ (outer : Family). (let own : Own × Machine = (own_in_hand numbers c.args.own.now c.args.corners.now, with_family outer (machine_of numbers old)) in own) in
    let aged : AreAgesOf old.held.dim (corner_records numbers.vertex c.args.corners.now) c.ages_of-ages.result =
    subst (λ d. AreAgesOf d (corner_records numbers.vertex c.args.corners.now) c.ages_of-ages.result) (sym c.requires.may.1.dim) (c.ages_of-ages.ensures numbers.vertex) in
    let is_kind : kind_below (corner_records numbers.vertex c.args.corners.now) ≡ c.kind_of-kind.result =
    sym (kind_below-ages old.held.dim (corner_records numbers.vertex c.args.corners.now) c.ages_of-ages.result aged (length-seen numbers.vertex old.held.dim c.args.corners.now c.requires.may.1.full) (few-corners old.held.dim c.requires.walked.state.grid))
    ∙ sym (c.kind_of-kind.ensures ∙ any-kind c.any-old.result c.any-old.ensures) in
    let walked = below-walked (set_in rules s old) streams levels place (it c.requires.may.0) (λ hangs. c.in_default.not-Hanging (sym is_kind ∙ hangs)) in
    let set = set_in rules s old in
    let few : 0 < levels = omega (arith, c.if-levels-eq0.false) in
    let above : IsAbove old.held.dim s (record { place = place; state = c.args.cell.now.state; ages = c.ages_of-ages.result }) =
    record { place = c.requires.walked.place; level = omega (arith, c.requires.may.1.levels, few); state = c.requires.walked.state } in
    let kind : (cell : Place) → cell.level ≡ place.level + 1 → kind_among s.traversal cell (corner_records numbers.vertex c.args.corners.now) ≡ c.kind_of-kind.result =
    λ cell level. kind_among-deep s.traversal cell (corner_records numbers.vertex c.args.corners.now) (omega (arith, level, c.requires.walked.deep)) ∙ is_kind in
    let may : MayWalkCells rules numbers s place.level levels (λ set. walk_children set streams levels place) old =
    record {
      dim = c.requires.may.1.dim;
      levels = c.requires.may.1.levels;
      full = c.requires.may.1.full;
      few = c.requires.may.1.few;
      fits = and_then-fits (walk_children set streams levels place (machine_of numbers old)) _ (subst Fits walked c.requires.may.1.fits);
    } in
    (search the_rules, (search the_rules, (within.0, (within.1.0, (within.1.1.0, (within.1.1.1.0, (within.1.1.1.1.0, (within.1.1.1.1.1, (c.requires.axes, (may, (above, (few, (aged, kind)))))))))))))

pub walk_below-returns-in-Hanging-clause-follows : goal.walk_below-returns-in-Hanging-clause-follows
walk_below-returns-in-Hanging-clause-follows g t c =
    λ outer.
    let numbers = g.M.Mapping.numbers in
    let rules = g.M.Effects.rules in
    let s = c.args.settings.now in
    let streams = stream_stacks_of s in
    let place = c.args.cell.now.place in
    let levels = c.args.levels in
    let old = hands_of (g.M.Mapping.held c.args.m.now) (g.DV.Depot.holds c.args.dv.now) (g.DV.Depot.room c.args.dv.now) (g.DC.Depot.holds c.args.dc.now) (g.DC.Depot.room c.args.dc.now) c.args.corners.now c.args.own.now c.args.progress.now in
    let it = λ (outer : Family). (let own : Own × Machine = (own_in_hand numbers c.args.own.now c.args.corners.now, with_family outer (machine_of numbers old)) in own) in
    let aged : AreAgesOf old.held.dim (corner_records numbers.vertex c.args.corners.now) c.ages_of-ages.result =
    subst (λ d. AreAgesOf d (corner_records numbers.vertex c.args.corners.now) c.ages_of-ages.result) (sym c.requires.may.1.dim) (c.ages_of-ages.ensures numbers.vertex) in
    let is_kind : kind_below (corner_records numbers.vertex c.args.corners.now) ≡ c.kind_of-kind.result =
    sym (kind_below-ages old.held.dim (corner_records numbers.vertex c.args.corners.now) c.ages_of-ages.result aged (length-seen numbers.vertex old.held.dim c.args.corners.now c.requires.may.1.full) (few-corners old.held.dim c.requires.walked.state.grid))
    ∙ sym (c.kind_of-kind.ensures ∙ any-kind c.any-old.result c.any-old.ensures) in
    let set = set_in rules s old in
    let hangs = is_kind ∙ c.in-Hanging.is in
    let course = below-hanging set streams levels place (it outer) hangs in
    record {
      ends = ap (λ (course : Course (Own × Machine)). course.ending) course;
      told = subst (λ text. Adds old.held.told text old.held.told) (sym (ap (λ (course : Course (Own × Machine)). course.text) course)) (adds-nothing old.held.told);
    }

pub walk_below-returns-in_default-clause-follows : goal.walk_below-returns-in_default-clause-follows
walk_below-returns-in_default-clause-follows g t c =
    λ outer.
    let numbers = g.M.Mapping.numbers in
    let rules = g.M.Effects.rules in
    let s = c.args.settings.now in
    let streams = stream_stacks_of s in
    let place = c.args.cell.now.place in
    let levels = c.args.levels in
    let old = hands_of (g.M.Mapping.held c.args.m.now) (g.DV.Depot.holds c.args.dv.now) (g.DV.Depot.room c.args.dv.now) (g.DC.Depot.holds c.args.dc.now) (g.DC.Depot.room c.args.dc.now) c.args.corners.now c.args.own.now c.args.progress.now in
    let new = hands_of (g.M.Mapping.held c.walk_children.new.m) (g.DV.Depot.holds c.walk_children.new.dv) (g.DV.Depot.room c.walk_children.new.dv) (g.DC.Depot.holds c.walk_children.new.dc) (g.DC.Depot.room c.walk_children.new.dc) c.walk_children.new.parents c.walk_children.new.parent c.walk_children.new.progress in
    let it = λ (outer : Family). (let own : Own × Machine = (own_in_hand numbers c.args.own.now c.args.corners.now, with_family outer (machine_of numbers old)) in own) in
    let aged : AreAgesOf old.held.dim (corner_records numbers.vertex c.args.corners.now) c.ages_of-ages.result =
    subst (λ d. AreAgesOf d (corner_records numbers.vertex c.args.corners.now) c.ages_of-ages.result) (sym c.requires.may.1.dim) (c.ages_of-ages.ensures numbers.vertex) in
    let is_kind : kind_below (corner_records numbers.vertex c.args.corners.now) ≡ c.kind_of-kind.result =
    sym (kind_below-ages old.held.dim (corner_records numbers.vertex c.args.corners.now) c.ages_of-ages.result aged (length-seen numbers.vertex old.held.dim c.args.corners.now c.requires.may.1.full) (few-corners old.held.dim c.requires.walked.state.grid))
    ∙ sym (c.kind_of-kind.ensures ∙ any-kind c.any-old.result c.any-old.ensures) in
    let set = set_in rules s old in
    let walked = below-walked set streams levels place (it outer) (λ hangs. c.in_default.not-Hanging (sym is_kind ∙ hangs)) in
    let out = outside set streams (it outer).1 in
    let answer = read_by (failure_in c.walk_children.new.progress) c.walk_children.result in
    subst (λ course. Follows course (λ (u : Unit {0}). out (machine_of numbers new)) answer (found_in old) new.held.told) (sym walked)
    (follows-map out (walk_children set streams levels place (machine_of numbers old)) (λ (u : Unit {0}). machine_of numbers new) answer (found_in old) new.held.told
    c.walk_children.ensures.follows)

pub walk_cell-load_corners-requires-clause-fits : goal.walk_cell-load_corners-requires-clause-fits
walk_cell-load_corners-requires-clause-fits g t c =
    λ cells'.
    let numbers = g.M.Mapping.numbers in
    let rules = g.M.Effects.rules in
    let s = c.args.settings.now in
    let streams = stream_stacks_of s in
    let place = c.args.cell.now.place in
    let levels = c.args.levels in
    let old = hands_of (g.M.Mapping.held c.args.m.now) (g.DV.Depot.holds c.args.dv.now) (g.DV.Depot.room c.args.dv.now) (g.DC.Depot.holds c.args.dc.now) (g.DC.Depot.room c.args.dc.now) c.args.parents.now c.args.parent.now c.args.progress.now in
    let counted = hands_of (g.M.Mapping.held c.args.m.now) (g.DV.Depot.holds c.args.dv.now) (g.DV.Depot.room c.args.dv.now) (g.DC.Depot.holds c.args.dc.now) (g.DC.Depot.room c.args.dc.now) c.args.parents.now c.args.parent.now c.count_cell.new.progress in
    let counts = counting streams levels place (machine_of numbers old) in
    let cells = cells_on_stacks numbers old.cells in
    let to_count = λ (u : Unit {0}). machine_of numbers counted in
    let in_count = counts-to streams levels place (set_in rules s old) (machine_of numbers old) c.count_cell.new.progress.tally (found_in old)
    (and_then-fits (counts (set_in rules s old)) (after_count streams levels place (set_in rules s old)) c.requires.may.fits) c.count_cell.ensures.tally c.in-Ok.ensures.within in
    let goes_count : Goes rules s old counted = record { keeps = keeps-same old.held; vertices = λ n. omega arith; cells = λ n. omega arith } in
    let fits = runs-may rules s counts (after_count streams levels place) to_count tt old counted c.requires.may.fits in_count goes_count in
    let loads = loading streams levels place (machine_of numbers counted) in
    load_all-any_cells (set_in rules s counted) streams place cells' (2 ^ counted.held.dim) [] (machine_of numbers counted)
    (and_then-fits (loads (set_in rules s counted)) (after_load streams levels place (set_in rules s counted)) fits)

pub walk_cell-returns-in-Err-load_corners-clause-follows : goal.walk_cell-returns-in-Err-load_corners-clause-follows
walk_cell-returns-in-Err-load_corners-clause-follows g t c =
    let numbers = g.M.Mapping.numbers in
    let rules = g.M.Effects.rules in
    let s = c.args.settings.now in
    let streams = stream_stacks_of s in
    let place = c.args.cell.now.place in
    let levels = c.args.levels in
    let old = hands_of (g.M.Mapping.held c.args.m.now) (g.DV.Depot.holds c.args.dv.now) (g.DV.Depot.room c.args.dv.now) (g.DC.Depot.holds c.args.dc.now) (g.DC.Depot.room c.args.dc.now) c.args.parents.now c.args.parent.now c.args.progress.now in
    let counted = hands_of (g.M.Mapping.held c.args.m.now) (g.DV.Depot.holds c.args.dv.now) (g.DV.Depot.room c.args.dv.now) (g.DC.Depot.holds c.args.dc.now) (g.DC.Depot.room c.args.dc.now) c.args.parents.now c.args.parent.now c.count_cell.new.progress in
    let loaded = hands_of (g.M.Mapping.held c.load_corners.new.m) (g.DV.Depot.holds c.load_corners.new.dv) (g.DV.Depot.room c.load_corners.new.dv) (g.DC.Depot.holds c.args.dc.now) (g.DC.Depot.room c.args.dc.now) c.load_corners.new.parents c.load_corners.new.parent c.load_corners.new.progress in
    let counts = counting streams levels place (machine_of numbers old) in
    let cells = cells_on_stacks numbers old.cells in
    let to_count = λ (u : Unit {0}). machine_of numbers counted in
    let in_count = counts-to streams levels place (set_in rules s old) (machine_of numbers old) c.count_cell.new.progress.tally (found_in old)
    (and_then-fits (counts (set_in rules s old)) (after_count streams levels place (set_in rules s old)) c.requires.may.fits) c.count_cell.ensures.tally c.in-Ok.ensures.within in
    let goes_count : Goes rules s old counted = record { keeps = keeps-same old.held; vertices = λ n. omega arith; cells = λ n. omega arith } in
    let fits = runs-may rules s counts (after_count streams levels place) to_count tt old counted c.requires.may.fits in_count goes_count in
    let loads = loading streams levels place (machine_of numbers counted) in
    let to_load = λ (u : Unit {0}). (let it : List VertexRecord × Machine = (corner_records numbers.vertex c.load_corners.new.corners, machine_of numbers loaded) in it) in
    let after = λ (u : Unit {0}). machine_of numbers loaded in
    let failure = failure_in c.load_corners.new.progress c.in-Err-load_corners.halt in
    runs-then rules s counts (after_count streams levels place) to_count tt after (Err failure) old counted loaded in_count goes_count
    (runs-err rules s loads (after_load streams levels place) to_load after failure counted loaded (c.in-Err-load_corners.ensures.follows cells (held_by old.cells old.cell_room)))

pub walk_cell-visit_cell-requires : goal.walk_cell-visit_cell-requires
walk_cell-visit_cell-requires g t c κs within =
    let numbers = g.M.Mapping.numbers in
    let rules = g.M.Effects.rules in
    let s = c.args.settings.now in
    let streams = stream_stacks_of s in
    let place = c.args.cell.now.place in
    let levels = c.args.levels in
    let old = hands_of (g.M.Mapping.held c.args.m.now) (g.DV.Depot.holds c.args.dv.now) (g.DV.Depot.room c.args.dv.now) (g.DC.Depot.holds c.args.dc.now) (g.DC.Depot.room c.args.dc.now) c.args.parents.now c.args.parent.now c.args.progress.now in
    let counted = hands_of (g.M.Mapping.held c.args.m.now) (g.DV.Depot.holds c.args.dv.now) (g.DV.Depot.room c.args.dv.now) (g.DC.Depot.holds c.args.dc.now) (g.DC.Depot.room c.args.dc.now) c.args.parents.now c.args.parent.now c.count_cell.new.progress in
    let loaded = hands_of (g.M.Mapping.held c.load_corners.new.m) (g.DV.Depot.holds c.load_corners.new.dv) (g.DV.Depot.room c.load_corners.new.dv) (g.DC.Depot.holds c.args.dc.now) (g.DC.Depot.room c.args.dc.now) c.load_corners.new.parents c.load_corners.new.parent c.load_corners.new.progress in
    let counts = counting streams levels place (machine_of numbers old) in
    let cells = cells_on_stacks numbers old.cells in
    let to_count = λ (u : Unit {0}). machine_of numbers counted in
    let in_count = counts-to streams levels place (set_in rules s old) (machine_of numbers old) c.count_cell.new.progress.tally (found_in old)
    (and_then-fits (counts (set_in rules s old)) (after_count streams levels place (set_in rules s old)) c.requires.may.fits) c.count_cell.ensures.tally c.in-Ok.ensures.within in
    let goes_count : Goes rules s old counted = record { keeps = keeps-same old.held; vertices = λ n. omega arith; cells = λ n. omega arith } in
    let fits = runs-may rules s counts (after_count streams levels place) to_count tt old counted c.requires.may.fits in_count goes_count in
    let loads = loading streams levels place (machine_of numbers counted) in
    let its = corner_records numbers.vertex c.load_corners.new.corners in
    let to_load = λ (u : Unit {0}). (let it : List VertexRecord × Machine = (its, machine_of numbers loaded) in it) in
    let in_load = c.in-Ok-load_corners.ensures.follows cells (held_by old.cells old.cell_room) in
    let goes_load : Goes rules s counted loaded = record { keeps = c.in-Ok-load_corners.ensures.stays.keeps; vertices = c.in-Ok-load_corners.ensures.left.keeps; cells = λ n. omega arith } in
    let fits_load = runs-may rules s loads (after_load streams levels place) to_load tt counted loaded fits in_load goes_load in
    let it = to_load tt in
    let fits_visit = subst Fits (sym (visit-grouped streams levels place (set_in rules s loaded) it)) fits_load in
    let visits = visiting streams levels place it in
    let dim = c.in-Ok-load_corners.ensures.stays.keeps.dim in
    let walked : IsWalked loaded.held.dim s c.args.cell.now = subst (λ d. IsWalked d s c.args.cell.now) (sym dim) c.requires.walked in
    let kind = kind_among-kept (corner_records numbers.vertex c.args.parents.now) (corner_records numbers.vertex c.load_corners.new.parents) c.in-Ok-load_corners.ensures.stays.parents.ages s.traversal place ∙ c.requires.kind in
    let own : IsFull loaded.held.dim c.load_corners.new.corners = subst (λ d. IsFull d c.load_corners.new.corners) (sym dim) c.in-Ok-load_corners.ensures.loaded in
    let few : c.load_corners.new.progress.tally.cells ≤ s.setup.max_cells = omega (arith, c.in-Ok-load_corners.ensures.counted, c.in-Ok.ensures.within) in
    let may : MayWalkCells rules numbers s place.level levels (λ set. visit_cell set streams levels place its) loaded =
    record {
      dim = dim ∙ c.requires.may.dim;
      levels = c.requires.may.levels;
      full = stays-full c.in-Ok-load_corners.ensures.stays;
      few = few;
      fits = and_then-fits (visits (set_in rules s loaded)) (storing streams levels place (set_in rules s loaded)) fits_visit;
    } in
    (search the_rules, (search the_rules, (within.0, (within.1.0, (within.1.1.0, (within.1.1.1.0, (within.1.1.1.1.0, (within.1.1.1.1.1, (c.requires.axes, (may, (walked, (kind, own))))))))))))

pub walk_cell-store_corners-requires-clause-fits : goal.walk_cell-store_corners-requires-clause-fits
walk_cell-store_corners-requires-clause-fits g t c =
    λ cells'.
    let numbers = g.M.Mapping.numbers in
    let rules = g.M.Effects.rules in
    let s = c.args.settings.now in
    let streams = stream_stacks_of s in
    let place = c.args.cell.now.place in
    let levels = c.args.levels in
    let old = hands_of (g.M.Mapping.held c.args.m.now) (g.DV.Depot.holds c.args.dv.now) (g.DV.Depot.room c.args.dv.now) (g.DC.Depot.holds c.args.dc.now) (g.DC.Depot.room c.args.dc.now) c.args.parents.now c.args.parent.now c.args.progress.now in
    let counted = hands_of (g.M.Mapping.held c.args.m.now) (g.DV.Depot.holds c.args.dv.now) (g.DV.Depot.room c.args.dv.now) (g.DC.Depot.holds c.args.dc.now) (g.DC.Depot.room c.args.dc.now) c.args.parents.now c.args.parent.now c.count_cell.new.progress in
    let loaded = hands_of (g.M.Mapping.held c.load_corners.new.m) (g.DV.Depot.holds c.load_corners.new.dv) (g.DV.Depot.room c.load_corners.new.dv) (g.DC.Depot.holds c.args.dc.now) (g.DC.Depot.room c.args.dc.now) c.load_corners.new.parents c.load_corners.new.parent c.load_corners.new.progress in
    let visited = hands_of (g.M.Mapping.held c.visit_cell.new.m) (g.DV.Depot.holds c.visit_cell.new.dv) (g.DV.Depot.room c.visit_cell.new.dv) (g.DC.Depot.holds c.visit_cell.new.dc) (g.DC.Depot.room c.visit_cell.new.dc) c.visit_cell.new.parents c.visit_cell.new.parent c.visit_cell.new.progress in
    let counts = counting streams levels place (machine_of numbers old) in
    let cells = cells_on_stacks numbers old.cells in
    let to_count = λ (u : Unit {0}). machine_of numbers counted in
    let in_count = counts-to streams levels place (set_in rules s old) (machine_of numbers old) c.count_cell.new.progress.tally (found_in old)
    (and_then-fits (counts (set_in rules s old)) (after_count streams levels place (set_in rules s old)) c.requires.may.fits) c.count_cell.ensures.tally c.in-Ok.ensures.within in
    let goes_count : Goes rules s old counted = record { keeps = keeps-same old.held; vertices = λ n. omega arith; cells = λ n. omega arith } in
    let fits = runs-may rules s counts (after_count streams levels place) to_count tt old counted c.requires.may.fits in_count goes_count in
    let loads = loading streams levels place (machine_of numbers counted) in
    let its = corner_records numbers.vertex c.load_corners.new.corners in
    let to_load = λ (u : Unit {0}). (let it : List VertexRecord × Machine = (its, machine_of numbers loaded) in it) in
    let in_load = c.in-Ok-load_corners.ensures.follows cells (held_by old.cells old.cell_room) in
    let goes_load : Goes rules s counted loaded = record { keeps = c.in-Ok-load_corners.ensures.stays.keeps; vertices = c.in-Ok-load_corners.ensures.left.keeps; cells = λ n. omega arith } in
    let fits_load = runs-may rules s loads (after_load streams levels place) to_load tt counted loaded fits in_load goes_load in
    let it = to_load tt in
    let fits_visit = subst Fits (sym (visit-grouped streams levels place (set_in rules s loaded) it)) fits_load in
    let visits = visiting streams levels place it in
    let to_visit = λ (u : Unit {0}). (let it : List VertexRecord × Machine = (corner_records numbers.vertex c.visit_cell.new.corners, machine_of numbers visited) in it) in
    let in_visit = c.in-Ok-visit_cell.ensures.follows in
    let goes_visit : Goes rules s loaded visited = record { keeps = c.in-Ok-visit_cell.ensures.left.stays.keeps; vertices = c.in-Ok-visit_cell.ensures.left.vertices.keeps; cells = c.in-Ok-visit_cell.ensures.left.cells.keeps } in
    store_all-any_cells (set_in rules s visited) streams place cells' 0 (corner_records numbers.vertex c.visit_cell.new.corners) (machine_of numbers visited)
    (runs-may rules s visits (storing streams levels place) to_visit tt loaded visited fits_visit in_visit goes_visit)

pub walk_cell-returns-in-Ok-visit_cell-clause-follows : goal.walk_cell-returns-in-Ok-visit_cell-clause-follows
walk_cell-returns-in-Ok-visit_cell-clause-follows g t c =
    let numbers = g.M.Mapping.numbers in
    let rules = g.M.Effects.rules in
    let s = c.args.settings.now in
    let streams = stream_stacks_of s in
    let place = c.args.cell.now.place in
    let levels = c.args.levels in
    let old = hands_of (g.M.Mapping.held c.args.m.now) (g.DV.Depot.holds c.args.dv.now) (g.DV.Depot.room c.args.dv.now) (g.DC.Depot.holds c.args.dc.now) (g.DC.Depot.room c.args.dc.now) c.args.parents.now c.args.parent.now c.args.progress.now in
    let counted = hands_of (g.M.Mapping.held c.args.m.now) (g.DV.Depot.holds c.args.dv.now) (g.DV.Depot.room c.args.dv.now) (g.DC.Depot.holds c.args.dc.now) (g.DC.Depot.room c.args.dc.now) c.args.parents.now c.args.parent.now c.count_cell.new.progress in
    let loaded = hands_of (g.M.Mapping.held c.load_corners.new.m) (g.DV.Depot.holds c.load_corners.new.dv) (g.DV.Depot.room c.load_corners.new.dv) (g.DC.Depot.holds c.args.dc.now) (g.DC.Depot.room c.args.dc.now) c.load_corners.new.parents c.load_corners.new.parent c.load_corners.new.progress in
    let visited = hands_of (g.M.Mapping.held c.visit_cell.new.m) (g.DV.Depot.holds c.visit_cell.new.dv) (g.DV.Depot.room c.visit_cell.new.dv) (g.DC.Depot.holds c.visit_cell.new.dc) (g.DC.Depot.room c.visit_cell.new.dc) c.visit_cell.new.parents c.visit_cell.new.parent c.visit_cell.new.progress in
    let new = hands_of (g.M.Mapping.held c.store_corners.new.m) (g.DV.Depot.holds c.store_corners.new.dv) (g.DV.Depot.room c.store_corners.new.dv) (g.DC.Depot.holds c.visit_cell.new.dc) (g.DC.Depot.room c.visit_cell.new.dc) c.store_corners.new.parents c.store_corners.new.parent c.store_corners.new.progress in
    let counts = counting streams levels place (machine_of numbers old) in
    let cells = cells_on_stacks numbers old.cells in
    let to_count = λ (u : Unit {0}). machine_of numbers counted in
    let in_count = counts-to streams levels place (set_in rules s old) (machine_of numbers old) c.count_cell.new.progress.tally (found_in old)
    (and_then-fits (counts (set_in rules s old)) (after_count streams levels place (set_in rules s old)) c.requires.may.fits) c.count_cell.ensures.tally c.in-Ok.ensures.within in
    let goes_count : Goes rules s old counted = record { keeps = keeps-same old.held; vertices = λ n. omega arith; cells = λ n. omega arith } in
    let fits = runs-may rules s counts (after_count streams levels place) to_count tt old counted c.requires.may.fits in_count goes_count in
    let loads = loading streams levels place (machine_of numbers counted) in
    let its = corner_records numbers.vertex c.load_corners.new.corners in
    let to_load = λ (u : Unit {0}). (let it : List VertexRecord × Machine = (its, machine_of numbers loaded) in it) in
    let in_load = c.in-Ok-load_corners.ensures.follows cells (held_by old.cells old.cell_room) in
    let goes_load : Goes rules s counted loaded = record { keeps = c.in-Ok-load_corners.ensures.stays.keeps; vertices = c.in-Ok-load_corners.ensures.left.keeps; cells = λ n. omega arith } in
    let fits_load = runs-may rules s loads (after_load streams levels place) to_load tt counted loaded fits in_load goes_load in
    let it = to_load tt in
    let fits_visit = subst Fits (sym (visit-grouped streams levels place (set_in rules s loaded) it)) fits_load in
    let visits = visiting streams levels place it in
    let to_visit = λ (u : Unit {0}). (let it : List VertexRecord × Machine = (corner_records numbers.vertex c.visit_cell.new.corners, machine_of numbers visited) in it) in
    let in_visit = c.in-Ok-visit_cell.ensures.follows in
    let goes_visit : Goes rules s loaded visited = record { keeps = c.in-Ok-visit_cell.ensures.left.stays.keeps; vertices = c.in-Ok-visit_cell.ensures.left.vertices.keeps; cells = c.in-Ok-visit_cell.ensures.left.cells.keeps } in
    let after = λ (u : Unit {0}). machine_of numbers new in
    let answer = read_by (failure_in c.store_corners.new.progress) c.store_corners.result in
    runs-then rules s counts (after_count streams levels place) to_count tt after answer old counted new in_count goes_count
    (runs-then rules s loads (after_load streams levels place) to_load tt after answer counted loaded new in_load goes_load
    (runs-as rules s (λ set. and_then (visits set) (storing streams levels place set)) (λ set. after_load streams levels place set it) after answer loaded new (visit-grouped streams levels place (set_in rules s loaded) it)
    (runs-then rules s visits (storing streams levels place) to_visit tt after answer loaded visited new in_visit goes_visit
    (c.store_corners.ensures.follows (cells_on_stacks numbers visited.cells) (held_by visited.cells visited.cell_room)))))

pub walk_cell-returns-in-Err-visit_cell-clause-follows : goal.walk_cell-returns-in-Err-visit_cell-clause-follows
walk_cell-returns-in-Err-visit_cell-clause-follows g t c =
    let numbers = g.M.Mapping.numbers in
    let rules = g.M.Effects.rules in
    let s = c.args.settings.now in
    let streams = stream_stacks_of s in
    let place = c.args.cell.now.place in
    let levels = c.args.levels in
    let old = hands_of (g.M.Mapping.held c.args.m.now) (g.DV.Depot.holds c.args.dv.now) (g.DV.Depot.room c.args.dv.now) (g.DC.Depot.holds c.args.dc.now) (g.DC.Depot.room c.args.dc.now) c.args.parents.now c.args.parent.now c.args.progress.now in
    let counted = hands_of (g.M.Mapping.held c.args.m.now) (g.DV.Depot.holds c.args.dv.now) (g.DV.Depot.room c.args.dv.now) (g.DC.Depot.holds c.args.dc.now) (g.DC.Depot.room c.args.dc.now) c.args.parents.now c.args.parent.now c.count_cell.new.progress in
    let loaded = hands_of (g.M.Mapping.held c.load_corners.new.m) (g.DV.Depot.holds c.load_corners.new.dv) (g.DV.Depot.room c.load_corners.new.dv) (g.DC.Depot.holds c.args.dc.now) (g.DC.Depot.room c.args.dc.now) c.load_corners.new.parents c.load_corners.new.parent c.load_corners.new.progress in
    let new = hands_of (g.M.Mapping.held c.visit_cell.new.m) (g.DV.Depot.holds c.give_up_from.new.vertices) (g.DV.Depot.room c.give_up_from.new.vertices) (g.DC.Depot.holds c.visit_cell.new.dc) (g.DC.Depot.room c.visit_cell.new.dc) c.visit_cell.new.parents c.visit_cell.new.parent c.visit_cell.new.progress in
    let counts = counting streams levels place (machine_of numbers old) in
    let cells = cells_on_stacks numbers old.cells in
    let to_count = λ (u : Unit {0}). machine_of numbers counted in
    let in_count = counts-to streams levels place (set_in rules s old) (machine_of numbers old) c.count_cell.new.progress.tally (found_in old)
    (and_then-fits (counts (set_in rules s old)) (after_count streams levels place (set_in rules s old)) c.requires.may.fits) c.count_cell.ensures.tally c.in-Ok.ensures.within in
    let goes_count : Goes rules s old counted = record { keeps = keeps-same old.held; vertices = λ n. omega arith; cells = λ n. omega arith } in
    let fits = runs-may rules s counts (after_count streams levels place) to_count tt old counted c.requires.may.fits in_count goes_count in
    let loads = loading streams levels place (machine_of numbers counted) in
    let its = corner_records numbers.vertex c.load_corners.new.corners in
    let to_load = λ (u : Unit {0}). (let it : List VertexRecord × Machine = (its, machine_of numbers loaded) in it) in
    let in_load = c.in-Ok-load_corners.ensures.follows cells (held_by old.cells old.cell_room) in
    let goes_load : Goes rules s counted loaded = record { keeps = c.in-Ok-load_corners.ensures.stays.keeps; vertices = c.in-Ok-load_corners.ensures.left.keeps; cells = λ n. omega arith } in
    let fits_load = runs-may rules s loads (after_load streams levels place) to_load tt counted loaded fits in_load goes_load in
    let it = to_load tt in
    let fits_visit = subst Fits (sym (visit-grouped streams levels place (set_in rules s loaded) it)) fits_load in
    let visits = visiting streams levels place it in
    let to_visit = λ (u : Unit {0}). (let it : List VertexRecord × Machine = (corner_records numbers.vertex c.visit_cell.new.corners, machine_of numbers new) in it) in
    let after = λ (u : Unit {0}). machine_of numbers new in
    let failure = failure_in c.visit_cell.new.progress c.in-Err-visit_cell.halt in
    runs-then rules s counts (after_count streams levels place) to_count tt after (Err failure) old counted new in_count goes_count
    (runs-then rules s loads (after_load streams levels place) to_load tt after (Err failure) counted loaded new in_load goes_load
    (runs-as rules s (λ set. and_then (visits set) (storing streams levels place set)) (λ set. after_load streams levels place set it) after (Err failure) loaded new (visit-grouped streams levels place (set_in rules s loaded) it)
    (runs-err rules s visits (storing streams levels place) to_visit after failure loaded new c.in-Err-visit_cell.ensures.follows)))

pub walk_children-loop-n-init : goal.walk_children-loop-n-init
walk_children-loop-n-init g t c =
    let numbers = g.M.Mapping.numbers in
    let rules = g.M.Effects.rules in
    let s = c.args.settings.now in
    let streams = stream_stacks_of s in
    let above = c.args.above.now in
    let place = above.place in
    let levels = c.args.levels in
    let axes = s.setup.dim in
    let old = hands_of (g.M.Mapping.held c.args.m.now) (g.DV.Depot.holds c.args.dv.now) (g.DV.Depot.room c.args.dv.now) (g.DC.Depot.holds c.args.dc.now) (g.DC.Depot.room c.args.dc.now) c.args.parents.now c.args.parent.now c.args.progress.now in
    let set = set_in rules s old in
    let whole = walk_children set streams levels place (machine_of numbers old) in
    let all : map (child_at place) (child_digits axes s.way (flips axes place.pos)) ≡ children old.held.dim (way_of s.traversal) place =
    all-children axes (way_of s.traversal) s.way place s.turned ∙ ap (λ d. children d (way_of s.traversal) place) (sym c.requires.may.dim) in
    record {
      leads = subst (λ cells. Leads whole (found_in old) (found_in old) (each (walk_cell set streams levels) cells (machine_of numbers old))) (sym all) (leads_start whole (found_in old));
      child = λ some. c.first_child-child.ensures;
      left = record {
        vertices = record { count = refl; keeps = λ n. omega arith; out = omega arith };
        cells = record { count = refl; keeps = λ n. omega arith; out = omega arith };
        counts = record { made = omega arith; few = omega (arith, c.requires.may.few) };
        stays = stays-beside (keeps-same old.held) c.requires.may.full;
      };
      empty = c.empty-corners.ensures;
    }

pub walk_children-walk_cell-requires : goal.walk_children-walk_cell-requires
walk_children-walk_cell-requires g t c κs lent =
    let numbers = g.M.Mapping.numbers in
    let rules = g.M.Effects.rules in
    let s = c.args.settings.now in
    let streams = stream_stacks_of s in
    let above = c.args.above.now in
    let place = above.place in
    let levels = c.args.levels in
    let axes = s.setup.dim in
    let old = hands_of (g.M.Mapping.held c.args.m.now) (g.DV.Depot.holds c.args.dv.now) (g.DV.Depot.room c.args.dv.now) (g.DC.Depot.holds c.args.dc.now) (g.DC.Depot.room c.args.dc.now) c.args.parents.now c.args.parent.now c.args.progress.now in
    let set = set_in rules s old in
    let whole = walk_children set streams levels place (machine_of numbers old) in
    let now = hands_of (g.M.Mapping.held c.loop-n.m) (g.DV.Depot.holds c.loop-n.dv) (g.DV.Depot.room c.loop-n.dv) (g.DC.Depot.holds c.loop-n.dc) (g.DC.Depot.room c.loop-n.dc) c.loop-n.parents c.loop-n.parent c.loop-n.progress in
    let is = c.loop-n.invariant in
    let goes : Goes rules s old now = record { keeps = is.left.stays.keeps; vertices = is.left.vertices.keeps; cells = is.left.cells.keeps } in
    let n = c.loop-n.n in
    let order = child_digits axes s.way (flips axes place.pos) in
    let within : n < 3 ^ axes = omega (arith, c.loop-n-test.true, c.parts-parts.ensures.value ∙ ap (λ (d : ℕ). 3 ^ d) c.dim_in.ensures) in
    let child = is.child within in
    let digits = c.loop-n.child.step.digits in
    let first = drop-slice_get order n digits child.step.nth in
    let same = child-walk streams set (set_in rules s now) levels (child_at place digits) c.loop-n.child.cell.place (machine_of numbers now) (goes-set rules s old now goes) c.requires.some child.place in
    let dim : now.held.dim ≡ axes = is.left.stays.keeps.dim ∙ c.requires.may.dim in
    let aged : AreAgesOf axes (corner_records numbers.vertex c.loop-n.parents) above.ages =
    subst (λ d. AreAgesOf d (corner_records numbers.vertex c.loop-n.parents) above.ages) c.requires.may.dim (ages-kept (corner_records numbers.vertex c.args.parents.now) (corner_records numbers.vertex c.loop-n.parents) is.left.stays.parents.ages old.held.dim above.ages c.requires.aged) in
    let level : c.loop-n.child.cell.place.level ≡ place.level + 1 = ap (λ (p : Place). p.level) child.place in
    let walked : IsWalked axes s c.loop-n.child.cell = child-walked axes s above n c.loop-n.child (subst (λ d. IsAbove d s above) c.requires.may.dim c.requires.above) child in
    let kinds = child.kinds (corner_records numbers.vertex c.loop-n.parents) aged in
    let kind = kind_among-kept (corner_records numbers.vertex c.args.parents.now) (corner_records numbers.vertex c.loop-n.parents) is.left.stays.parents.ages s.traversal c.loop-n.child.cell.place ∙ c.requires.kind c.loop-n.child.cell.place level in
    let may = child-may streams set levels place whole (found_in old) (found_in now) (drop n order) (machine_of numbers now) digits (drop (n + 1) order) first is.leads c.requires.may.fits in
    let walked' = subst (λ d. IsWalked d s c.loop-n.child.cell) (sym dim) walked in
    let kinds' = subst (λ d. GiveKinds d s.traversal c.loop-n.child.cell.place (corner_records numbers.vertex c.loop-n.parents) c.loop-n.child.cell.ages) (sym dim) kinds in
    let ready : MayWalkCells rules numbers s c.loop-n.child.cell.place.level (levels - 1) (λ set. walk_cell set streams (suc (levels - 1)) c.loop-n.child.cell.place) now =
    record {
      dim = dim;
      levels = omega (arith, level, c.requires.may.levels, c.requires.some);
      full = stays-full is.left.stays;
      few = omega (arith, is.left.counts.few);
      fits = subst Fits (sym same) may;
    } in
    (search the_rules, (search the_rules, (lent.0, (lent.1.0, (lent.1.1.0, (lent.1.1.1.0, (lent.1.1.1.1.0, (lent.1.1.1.1.1, (c.requires.axes, (ready, (walked', (kinds', (kind, is.empty ∙ ap no_vertices (sym dim))))))))))))))

pub walk_children-loop-n-preserved : goal.walk_children-loop-n-preserved
walk_children-loop-n-preserved g t c =
    let numbers = g.M.Mapping.numbers in
    let rules = g.M.Effects.rules in
    let s = c.args.settings.now in
    let streams = stream_stacks_of s in
    let above = c.args.above.now in
    let place = above.place in
    let levels = c.args.levels in
    let axes = s.setup.dim in
    let old = hands_of (g.M.Mapping.held c.args.m.now) (g.DV.Depot.holds c.args.dv.now) (g.DV.Depot.room c.args.dv.now) (g.DC.Depot.holds c.args.dc.now) (g.DC.Depot.room c.args.dc.now) c.args.parents.now c.args.parent.now c.args.progress.now in
    let set = set_in rules s old in
    let whole = walk_children set streams levels place (machine_of numbers old) in
    let now = hands_of (g.M.Mapping.held c.loop-n.m) (g.DV.Depot.holds c.loop-n.dv) (g.DV.Depot.room c.loop-n.dv) (g.DC.Depot.holds c.loop-n.dc) (g.DC.Depot.room c.loop-n.dc) c.loop-n.parents c.loop-n.parent c.loop-n.progress in
    let new = hands_of (g.M.Mapping.held c.walk_cell.new.m) (g.DV.Depot.holds c.walk_cell.new.dv) (g.DV.Depot.room c.walk_cell.new.dv) (g.DC.Depot.holds c.walk_cell.new.dc) (g.DC.Depot.room c.walk_cell.new.dc) c.walk_cell.new.parents c.walk_cell.new.parent c.walk_cell.new.progress in
    let is = c.loop-n.invariant in
    let goes : Goes rules s old now = record { keeps = is.left.stays.keeps; vertices = is.left.vertices.keeps; cells = is.left.cells.keeps } in
    let n = c.loop-n.n in
    let order = child_digits axes s.way (flips axes place.pos) in
    let within : n < 3 ^ axes = omega (arith, c.loop-n-test.true, c.parts-parts.ensures.value ∙ ap (λ (d : ℕ). 3 ^ d) c.dim_in.ensures) in
    let child = is.child within in
    let digits = c.loop-n.child.step.digits in
    let first = drop-slice_get order n digits child.step.nth in
    let same = child-walk streams set (set_in rules s now) levels (child_at place digits) c.loop-n.child.cell.place (machine_of numbers now) (goes-set rules s old now goes) c.requires.some child.place in
    let dim : now.held.dim ≡ axes = is.left.stays.keeps.dim ∙ c.requires.may.dim in
    let done = c.in-Ok.ensures in
    record {
      leads = child-next streams set levels place whole (found_in old) (found_in now) (drop n order) (machine_of numbers now) digits (drop (n + 1) order) first is.leads
          (found_in new) (machine_of numbers new)
          (subst (λ course. Follows course (λ (u : Unit {0}). machine_of numbers new) (Ok tt) (found_in now) new.held.told) same done.follows)
          (record { sure = done.left.stays.keeps.sure; vertices = done.left.vertices.keeps; cells = done.left.cells.keeps });
      child = λ more. elim c.if-n-parts.branch [
        | walk_children-then-n-parts w ↦ subst (λ next. IsChild axes s above (n + 1) next) (sym w.child-is) (w.advance.ensures n more child)
        | walk_children-else-n-parts w ↦ absurd (omega (arith, more, w.if-n-parts, c.parts-parts.ensures.value ∙ ap (λ (d : ℕ). 3 ^ d) c.dim_in.ensures))
      ];
      left = left-then is.left done.left;
      empty = done.emptied ∙ ap no_vertices dim;
    }

pub walk_children-returns-in-Err-clause-follows : goal.walk_children-returns-in-Err-clause-follows
walk_children-returns-in-Err-clause-follows g t c =
    let numbers = g.M.Mapping.numbers in
    let rules = g.M.Effects.rules in
    let s = c.args.settings.now in
    let streams = stream_stacks_of s in
    let above = c.args.above.now in
    let place = above.place in
    let levels = c.args.levels in
    let axes = s.setup.dim in
    let old = hands_of (g.M.Mapping.held c.args.m.now) (g.DV.Depot.holds c.args.dv.now) (g.DV.Depot.room c.args.dv.now) (g.DC.Depot.holds c.args.dc.now) (g.DC.Depot.room c.args.dc.now) c.args.parents.now c.args.parent.now c.args.progress.now in
    let set = set_in rules s old in
    let whole = walk_children set streams levels place (machine_of numbers old) in
    let now = hands_of (g.M.Mapping.held c.loop-n.m) (g.DV.Depot.holds c.loop-n.dv) (g.DV.Depot.room c.loop-n.dv) (g.DC.Depot.holds c.loop-n.dc) (g.DC.Depot.room c.loop-n.dc) c.loop-n.parents c.loop-n.parent c.loop-n.progress in
    let new = hands_of (g.M.Mapping.held c.walk_cell.new.m) (g.DV.Depot.holds c.walk_cell.new.dv) (g.DV.Depot.room c.walk_cell.new.dv) (g.DC.Depot.holds c.walk_cell.new.dc) (g.DC.Depot.room c.walk_cell.new.dc) c.walk_cell.new.parents c.walk_cell.new.parent c.walk_cell.new.progress in
    let is = c.loop-n.invariant in
    let goes : Goes rules s old now = record { keeps = is.left.stays.keeps; vertices = is.left.vertices.keeps; cells = is.left.cells.keeps } in
    let n = c.loop-n.n in
    let order = child_digits axes s.way (flips axes place.pos) in
    let within : n < 3 ^ axes = omega (arith, c.loop-n-test.true, c.parts-parts.ensures.value ∙ ap (λ (d : ℕ). 3 ^ d) c.dim_in.ensures) in
    let child = is.child within in
    let digits = c.loop-n.child.step.digits in
    let first = drop-slice_get order n digits child.step.nth in
    let same = child-walk streams set (set_in rules s now) levels (child_at place digits) c.loop-n.child.cell.place (machine_of numbers now) (goes-set rules s old now goes) c.requires.some child.place in
    let after = λ (u : Unit {0}). machine_of numbers new in
    let failure = failure_in c.walk_cell.new.progress c.in-Err.halt in
    child-err streams set levels place whole (found_in old) (found_in now) (drop n order) (machine_of numbers now) digits (drop (n + 1) order) first is.leads
    after after failure (found_in new)
    (subst (λ course. Follows course after (Err failure) (found_in now) new.held.told) same c.in-Err.ensures.follows)

pub walk_cell-give_up_from-requires-clause-full : goal.walk_cell-give_up_from-requires-clause-full
walk_cell-give_up_from-requires-clause-full g t c =
    let corners = c.visit_cell.new.corners in
    let kept = c.in-Ok-load_corners.ensures.stays.keeps.dim ∙ c.requires.may.dim in
    full_from c.args.settings.now.setup.dim corners (subst (λ d. IsFull d corners) kept c.in-Err-visit_cell.ensures.own.full)

pub walk_children-returns-in-Err-clause-left : goal.walk_children-returns-in-Err-clause-left
walk_children-returns-in-Err-clause-left g t c = left-then c.loop-n.invariant.left c.in-Err.ensures.left

pub walk_children-returns-clause-follows : goal.walk_children-returns-clause-follows
walk_children-returns-clause-follows g t c =
    let numbers = g.M.Mapping.numbers in
    let rules = g.M.Effects.rules in
    let s = c.args.settings.now in
    let streams = stream_stacks_of s in
    let place = c.args.above.now.place in
    let levels = c.args.levels in
    let axes = s.setup.dim in
    let old = hands_of (g.M.Mapping.held c.args.m.now) (g.DV.Depot.holds c.args.dv.now) (g.DV.Depot.room c.args.dv.now) (g.DC.Depot.holds c.args.dc.now) (g.DC.Depot.room c.args.dc.now) c.args.parents.now c.args.parent.now c.args.progress.now in
    let set = set_in rules s old in
    let whole = walk_children set streams levels place (machine_of numbers old) in
    let now = hands_of (g.M.Mapping.held c.loop-n.m) (g.DV.Depot.holds c.loop-n.dv) (g.DV.Depot.room c.loop-n.dv) (g.DC.Depot.holds c.loop-n.dc) (g.DC.Depot.room c.loop-n.dc) c.loop-n.parents c.loop-n.parent c.loop-n.progress in
    let order = child_digits axes s.way (flips axes place.pos) in
    let n = c.loop-n.n in
    let past : length order ≤ n = omega (arith, c.loop-n-test.false, length-child_digits axes s.way (flips axes place.pos), c.parts-parts.ensures.value ∙ ap (λ (d : ℕ). 3 ^ d) c.dim_in.ensures) in
    children-end streams set levels place whole (found_in old) (found_in now) (drop n order) (machine_of numbers now) (drop_all n order past) c.loop-n.invariant.leads
