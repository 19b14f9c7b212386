use Rattle.std.proofs.Common.{◌≡◌, suc, ◌+◌, ◌-◌, ◌^◌, ◌≤◌, [], map, refl, sym, ap, subst, ◌∙◌, arith}
use Rattle.std.proofs.Math.Nat.{pow-le-pow_right}
use Rattle.pe_base.specs.Calls.Follows.{Leads}
use Rattle.pe_base.proofs.Calls.Leading.{leads_start, roomier-same}
use Rattle.pe_stacks.specs.declared.record.Vertex.{Vertex as AVertex}
use Rattle.pe_stacks.specs.Filled.{FullFrom}
use Rattle.pe_stacks.specs.Sights.{record_of, corner_records}
use Rattle.pe_stacks.proofs.Filling.{full_start, full_put, full_all, seen_put, seen_none}
use Rattle.pe_stacks.proofs.Raising.{within_more, raises_within, raises-lent}
use Rattle.pe_mapping.specs.Answers.{Makes}
use Rattle.pe_mapping.specs.Held.{found_of, made_vertex}
use Rattle.pe_hang.specs.InHand.{setting_of}
use Rattle.pe_hang.proofs.Staying.{keeps-same, keeps-then}
use Rattle.pe_walk.proofs.RootCorners.{roots, roots-step, roots-end}
use Rattle.walk_rows.proofs.InTurn.{lend-fits}
use Rattle.walk_rows.proofs.by_cells.lend_corners.Goals as goal

pub loop-done-init : goal.loop-done-init
loop-done-init g c =
    let numbers = g.M.Mapping.numbers.vertex in
    let before = g.M.Mapping.held c.args.m.now in
    let vertices = g.DV.Depot.holds c.args.dv.now in
    let dim = c.args.dim in
    let none = ap (map (record_of numbers)) (seen_none dim c.args.corners.now c.requires.empty) in
    let all : 2 ^ dim ≡ 2 ^ dim - 0 = omega arith in
    record {
      count = c.corners-count.ensures.value;
      full = subst (λ n. FullFrom dim n c.args.corners.now) all (full_start dim c.args.corners.now c.requires.empty);
      made = λ start_level max_cells traversal streams rest found.
          let set = setting_of g.M.Effects.rules before start_level max_cells traversal in
          let whole = roots numbers set streams rest (2 ^ dim) [] vertices before.list in
          subst (λ its. Leads whole found found (roots numbers set streams rest (2 ^ dim - 0) its vertices before.list)) (sym none)
          (subst (λ n. Leads whole found found (roots numbers set streams rest n [] vertices before.list)) all (leads_start whole found));
      out = omega arith;
      counts = within_more vertices (2 ^ 60) (2 ^ 60 + 0) (omega arith) c.requires.counts;
      keeps = keeps-same before;
    }

pub lend-requires : goal.lend-requires
lend-requires g c =
    let few : 2 ^ c.args.dim ≤ 16 = pow-le-pow_right {n = 2} (omega arith) {i = c.args.dim} {j = 4} c.corners-count.ensures.range.1 in
    omega (arith, c.loop-done.invariant.counts.fresh, c.loop-done-test.true, c.corners-count.ensures.value, few)

pub loop-done-preserved : goal.loop-done-preserved
loop-done-preserved g c =
    let numbers = g.M.Mapping.numbers.vertex in
    let rules = g.M.Effects.rules in
    let before = g.M.Mapping.held c.args.m.now in
    let now = g.M.Mapping.held c.loop-done.m in
    let new = g.M.Mapping.held c.fresh_v.new.self in
    let is = c.loop-done.invariant in
    let dim = c.args.dim in
    let its = corner_records numbers c.loop-done.corners in
    let vertices = g.DV.Depot.holds c.loop-done.dv in
    let vertices' = g.DV.Depot.holds c.lend.new.self in
    let n = 2 ^ dim - c.loop-done.done in
    let n' = 2 ^ dim - (c.loop-done.done + 1) in
    let k = c.corners-count.result - 1 - c.loop-done.done in
    let more : n ≡ suc n' = omega (arith, c.corners-count.ensures.value, c.loop-done-test.true) in
    let here : n ≡ k + 1 = omega (arith, c.corners-count.ensures.value, c.loop-done-test.true) in
    let next : k ≡ n' = omega (arith, c.corners-count.ensures.value, c.loop-done-test.true) in
    let few : 2 ^ dim ≤ 16 = pow-le-pow_right {n = 2} (omega arith) {i = dim} {j = 4} c.corners-count.ensures.range.1 in
    let full : FullFrom dim (k + 1) c.loop-done.corners = subst (λ j. FullFrom dim j c.loop-done.corners) here is.full in
    let seen = ap (map (record_of numbers)) (seen_put dim k c.lend.result c.loop-done.corners c.put.new.self c.put.ensures full) in
    let vertex = c.lend.ensures.handed ∙ c.new-vertex.ensures in
    let made = subst (Makes numbers (made_vertex rules now) now new) c.expect-payload.ensures c.fresh_v.ensures.answer in
    record {
      count = c.corners-count.ensures.value;
      full = subst (λ j. FullFrom dim j c.put.new.self) next (full_put dim k c.lend.result c.loop-done.corners c.put.new.self c.put.ensures full);
      made = λ start_level max_cells traversal streams rest found.
          let set = setting_of rules before start_level max_cells traversal in
          let whole = roots numbers set streams rest (2 ^ dim) [] (g.DV.Depot.holds c.args.dv.now) before.list in
          subst (λ its'. Leads whole found found (roots numbers set streams rest n' its' vertices' new.list)) (sym seen)
          (roots-step numbers set streams rest whole found found n n' its vertices vertices' now.list new.list c.lend.result found
          more (is.made start_level max_cells traversal streams rest found)
          (lend-fits (record_of numbers) vertices (omega (arith, is.counts.fresh, c.loop-done-test.true, c.corners-count.ensures.value, few))) c.lend.ensures.holds
          (ap (λ (v : AVertex g.row.M-V.Denot). numbers v.payload) vertex ∙ made.payload ∙ ap (λ plan. (rules.fresh_vertex plan now.list).numbers) is.keeps.plan)
          (ap (λ (v : AVertex g.row.M-V.Denot). v.state) vertex) (ap (λ (v : AVertex g.row.M-V.Denot). v.kind) vertex)
          (made.list ∙ ap (λ plan. (rules.fresh_vertex plan now.list).list) is.keeps.plan)
          refl (roomier-same found));
      out = omega (arith, ap (λ (h : _). h.out) c.lend.ensures.holds, is.out);
      counts = within_more vertices' (2 ^ 60 + c.loop-done.done + 1) (2 ^ 60 + (c.loop-done.done + 1)) (omega arith)
          (raises_within vertices vertices' (2 ^ 60 + c.loop-done.done) 1 (raises-lent vertices vertices' c.lend.ensures.holds) is.counts);
      keeps = keeps-then is.keeps c.fresh_v.ensures.keeps;
    }

pub returns-clause-made : goal.returns-clause-made
returns-clause-made g c = λ start_level max_cells traversal streams rest.
    let numbers = g.M.Mapping.numbers.vertex in
    let before = g.M.Mapping.held c.args.m.now in
    let now = g.M.Mapping.held c.loop-done.m in
    let dim = c.args.dim in
    let set = setting_of g.M.Effects.rules before start_level max_cells traversal in
    let found = found_of before (λ s. 0) (λ s. 0) in
    let n = 2 ^ dim - c.loop-done.done in
    let none : n ≡ 0 = omega (arith, c.corners-count.ensures.value, c.loop-done-test.false, c.loop-done.auto.done-end) in
    (roots-end numbers set streams rest (roots numbers set streams rest (2 ^ dim) [] (g.DV.Depot.holds c.args.dv.now) before.list) found found
    n (corner_records numbers c.loop-done.corners) (g.DV.Depot.holds c.loop-done.dv) now.list none (c.loop-done.invariant.made start_level max_cells traversal streams rest found)).ends

pub returns-clause-full : goal.returns-clause-full
returns-clause-full g c =
    let dim = c.args.dim in
    let none : 2 ^ dim - c.loop-done.done ≡ 0 = omega (arith, c.corners-count.ensures.value, c.loop-done-test.false, c.loop-done.auto.done-end) in
    full_all dim c.loop-done.corners (subst (λ k. FullFrom dim k c.loop-done.corners) none c.loop-done.invariant.full)

pub returns-clause-counts : goal.returns-clause-counts
returns-clause-counts g c =
    let few : 2 ^ c.args.dim ≤ 16 = pow-le-pow_right {n = 2} (omega arith) {i = c.args.dim} {j = 4} c.corners-count.ensures.range.1 in
    within_more (g.DV.Depot.holds c.loop-done.dv) (2 ^ 60 + c.loop-done.done) (2 ^ 61) (omega (arith, few, c.corners-count.ensures.value, c.loop-done.auto.done-end)) c.loop-done.invariant.counts
