use Rattle.std.proofs.Common.{◌≡◌, suc, ◌+◌, ◌-◌, ◌^◌, [], map, refl, sym, ap, subst, ◌∙◌, arith}
use Rattle.pe_stacks.specs.declared.record.Vertex.{Vertex as AVertex}
use Rattle.pe_stacks.specs.Filled.{FullFrom}
use Rattle.pe_stacks.specs.Holdings.{stack_count}
use Rattle.pe_stacks.proofs.Filling.{full_start, full_put, full_all, seen_put, seen_none}
use Rattle.pe_stacks.specs.Sights.{record_of, corner_records}
use Rattle.pe_base.specs.Calls.Follows.{Leads}
use Rattle.pe_mapping.specs.Held.{found_of}
use Rattle.pe_stacks.specs.RecordsOut.{held_by}
use Rattle.pe_base.proofs.Calls.Leading.{leads_start, leads_rest, leads_want, leads_found}
use Rattle.pe_hang.proofs.Staying.{roomier-held, keeps-same, keeps-then}
use Rattle.pe_hang.proofs.Moving.{lend-may}
use Rattle.pe_adapt.specs.WalkedCells.{setting_in, stream_stacks_of}
use Rattle.pe_walk.proofs.RootCorners.{at_root, roots, roots-may, roots-step, roots-end}
use Rattle.pe_walk.proofs.root.lend_corners.Goals as goal

pub loop-done-init : goal.loop-done-init
loop-done-init g c =
    let numbers = g.M.Mapping.numbers.vertex in
    let before = g.M.Mapping.held c.args.m.now in
    let s = c.args.settings.now in
    let vertices = g.DV.Depot.holds c.args.dv.now in
    let room = g.DV.Depot.room c.args.dv.now in
    let set = setting_in g.M.Effects.rules before s in
    let none = ap (map (record_of numbers)) (seen_none s.setup.dim c.args.corners.now c.requires.empty) in
    let all : 2 ^ s.setup.dim ≡ 2 ^ s.setup.dim - 0 = omega arith in
    let all_of : 2 ^ before.dim ≡ 2 ^ before.dim - 0 = omega arith in
    record {
      count = c.corners-count.ensures.value;
      full = subst (λ n. FullFrom s.setup.dim n c.args.corners.now) all (full_start s.setup.dim c.args.corners.now c.requires.empty);
      leads = λ rest cells.
          let whole = roots numbers set (stream_stacks_of s) rest (2 ^ before.dim) [] vertices before.list in
          let found = found_of before (held_by vertices room) cells in
          subst (λ its. Leads whole found found (roots numbers set (stream_stacks_of s) rest (2 ^ before.dim - 0) its vertices before.list)) (sym none)
          (subst (λ n. Leads whole found found (roots numbers set (stream_stacks_of s) rest n [] vertices before.list)) all_of (leads_start whole found));
      left = record { count = refl; keeps = λ n. omega arith; out = omega arith };
      keeps = keeps-same before;
    }

pub lend-requires : goal.lend-requires
lend-requires g c =
    let numbers = g.M.Mapping.numbers.vertex in
    let before = g.M.Mapping.held c.args.m.now in
    let now = g.M.Mapping.held c.loop-done.m in
    let s = c.args.settings.now in
    let set = setting_in g.M.Effects.rules before s in
    let rest = c.requires.fits.0 in
    let its = corner_records numbers c.loop-done.corners in
    let vertices = g.DV.Depot.holds c.loop-done.dv in
    let is = c.loop-done.invariant in
    let n = 2 ^ before.dim - c.loop-done.done in
    let k = n - 1 in
    let dims = ap (λ d. 2 ^ d) c.requires.dim in
    let more : n ≡ suc k = omega (arith, dims, c.corners-count.ensures.value, c.loop-done-test.true) in
    record {
      count = lend-may (record_of numbers) vertices
          (roots-may numbers set (stream_stacks_of s) rest n k its vertices now.list more (leads_rest (roots numbers set (stream_stacks_of s) rest n its vertices now.list) (is.leads rest (λ j. 0)) c.requires.fits.1));
    }

pub loop-done-preserved : goal.loop-done-preserved
loop-done-preserved g c =
    let numbers = g.M.Mapping.numbers.vertex in
    let before = g.M.Mapping.held c.args.m.now in
    let now = g.M.Mapping.held c.loop-done.m in
    let new = g.M.Mapping.held c.fresh_v.new.self in
    let s = c.args.settings.now in
    let set = setting_in g.M.Effects.rules before s in
    let is = c.loop-done.invariant in
    let axes = s.setup.dim in
    let its = corner_records numbers c.loop-done.corners in
    let vertices = g.DV.Depot.holds c.loop-done.dv in
    let vertices' = g.DV.Depot.holds c.lend.new.self in
    let dims = ap (λ d. 2 ^ d) c.requires.dim in
    let n = 2 ^ before.dim - c.loop-done.done in
    let n' = 2 ^ before.dim - (c.loop-done.done + 1) in
    let more : n ≡ suc n' = omega (arith, dims, c.corners-count.ensures.value, c.loop-done-test.true) in
    let k = c.corners-count.result - 1 - c.loop-done.done in
    let here : 2 ^ axes - c.loop-done.done ≡ k + 1 = omega (arith, c.corners-count.ensures.value, c.loop-done-test.true) in
    let next : k ≡ 2 ^ axes - (c.loop-done.done + 1) = omega (arith, c.corners-count.ensures.value, c.loop-done-test.true) in
    let full : FullFrom axes (k + 1) c.loop-done.corners = subst (λ j. FullFrom axes j c.loop-done.corners) here is.full in
    let seen = ap (map (record_of numbers)) (seen_put axes k c.lend.result c.loop-done.corners c.put.new.self c.put.ensures full) in
    let made = c.lend.ensures.handed ∙ c.new-vertex.ensures in
    let rules = g.M.Effects.rules in
    let first = c.requires.fits.0 in
    let fits = roots-may numbers set (stream_stacks_of s) first n n' its vertices now.list more (leads_rest (roots numbers set (stream_stacks_of s) first n its vertices now.list) (is.leads first (λ j. 0)) c.requires.fits.1) in
    record {
      count = c.corners-count.ensures.value;
      full = subst (λ j. FullFrom axes j c.put.new.self) next (full_put axes k c.lend.result c.loop-done.corners c.put.new.self c.put.ensures full);
      leads = λ rest cells.
          let whole = roots numbers set (stream_stacks_of s) rest (2 ^ before.dim) [] (g.DV.Depot.holds c.args.dv.now) before.list in
          let lead = is.leads rest cells in
          subst (λ its'. Leads whole (found_of before (held_by (g.DV.Depot.holds c.args.dv.now) (g.DV.Depot.room c.args.dv.now)) cells) (found_of new (held_by vertices' (g.DV.Depot.room c.lend.new.self)) cells)
          (roots numbers set (stream_stacks_of s) rest n' its' vertices' new.list)) (sym seen)
          (roots-step numbers set (stream_stacks_of s) rest whole (found_of before (held_by (g.DV.Depot.holds c.args.dv.now) (g.DV.Depot.room c.args.dv.now)) cells)
          (found_of now (held_by vertices (g.DV.Depot.room c.loop-done.dv)) cells) n n' its vertices vertices' now.list new.list c.lend.result (found_of new (held_by vertices' (g.DV.Depot.room c.lend.new.self)) cells)
          more lead fits c.lend.ensures.holds
          (ap (λ (v : AVertex g.row.M-V.Denot). numbers v.payload) made ∙ c.in-Ok.ensures.answer.payload ∙ ap (λ plan. (rules.fresh_vertex plan now.list).numbers) is.keeps.plan)
          (ap (λ (v : AVertex g.row.M-V.Denot). v.state) made) (ap (λ (v : AVertex g.row.M-V.Denot). v.kind) made)
          (c.in-Ok.ensures.answer.list ∙ ap (λ plan. (rules.fresh_vertex plan now.list).list) is.keeps.plan)
          (sym c.in-Ok.ensures.told)
          (record { sure = c.in-Ok.ensures.keeps.sure; vertices = λ j. c.lend.ensures.room j; cells = λ j. omega arith }));
      left = record {
        count = ap stack_count c.lend.ensures.holds ∙ is.left.count;
        keeps = λ j. omega (arith, is.left.keeps j, c.lend.ensures.room j);
        out = omega (arith, ap (λ (h : _). h.out) c.lend.ensures.holds, is.left.out);
      };
      keeps = keeps-then is.keeps c.in-Ok.ensures.keeps;
    }

pub returns-in-Err-clause-follows : goal.returns-in-Err-clause-follows
returns-in-Err-clause-follows g c = λ rest cells.
    let numbers = g.M.Mapping.numbers.vertex in
    let before = g.M.Mapping.held c.args.m.now in
    let now = g.M.Mapping.held c.loop-done.m in
    let new = g.M.Mapping.held c.fresh_v.new.self in
    let s = c.args.settings.now in
    let set = setting_in g.M.Effects.rules before s in
    let vertices = held_by (g.DV.Depot.holds c.loop-done.dv) (g.DV.Depot.room c.loop-done.dv) in
    let left = roots numbers set (stream_stacks_of s) rest (2 ^ before.dim - c.loop-done.done) (corner_records numbers c.loop-done.corners) (g.DV.Depot.holds c.loop-done.dv) now.list in
    leads_want left (λ (u : Unit {0}). (corner_records numbers c.loop-done.corners, at_root numbers set (stream_stacks_of s) rest (g.DV.Depot.holds c.loop-done.dv) now.list))
    (leads_found left (found_of new vertices cells) (c.loop-done.invariant.leads rest cells) (sym c.in-Err.ensures.told) (roomier-held now new vertices cells c.in-Err.ensures.keeps))
    (c.in-Err.ensures.keeps.sure ∙ c.in-Err.ensures.answer)

pub returns-clause-follows : goal.returns-clause-follows
returns-clause-follows g c = λ rest cells.
    let numbers = g.M.Mapping.numbers.vertex in
    let before = g.M.Mapping.held c.args.m.now in
    let now = g.M.Mapping.held c.loop-done.m in
    let s = c.args.settings.now in
    let set = setting_in g.M.Effects.rules before s in
    let dims = ap (λ d. 2 ^ d) c.requires.dim in
    let n = 2 ^ before.dim - c.loop-done.done in
    let none : n ≡ 0 = omega (arith, dims, c.corners-count.ensures.value, c.loop-done-test.false, c.loop-done.auto.done-end) in
    roots-end numbers set (stream_stacks_of s) rest (roots numbers set (stream_stacks_of s) rest (2 ^ before.dim) [] (g.DV.Depot.holds c.args.dv.now) before.list)
    (found_of before (held_by (g.DV.Depot.holds c.args.dv.now) (g.DV.Depot.room c.args.dv.now)) cells) (found_of now (held_by (g.DV.Depot.holds c.loop-done.dv) (g.DV.Depot.room c.loop-done.dv)) cells)
    n (corner_records numbers c.loop-done.corners) (g.DV.Depot.holds c.loop-done.dv) now.list none (c.loop-done.invariant.leads rest cells)

pub returns-clause-loaded : goal.returns-clause-loaded
returns-clause-loaded g c =
    let axes = c.args.settings.now.setup.dim in
    let none : 2 ^ axes - c.loop-done.done ≡ 0 = omega (arith, c.corners-count.ensures.value, c.loop-done-test.false, c.loop-done.auto.done-end) in
    full_all axes c.loop-done.corners (subst (λ k. FullFrom axes k c.loop-done.corners) none c.loop-done.invariant.full)
