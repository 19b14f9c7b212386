use Rattle.std.proofs.Common.{map, refl, sym, ap, subst, ◌∙◌}
use Rattle.std.specs.Prelude.{All}
use Rattle.pe_base.specs.Tree.Places.{IsDigits, root, child_at}
use Rattle.pe_base.specs.Tree.Ways.{way_of}
use Rattle.pe_base.specs.Walk.Working.{no_tally}
use Rattle.pe_hang.specs.InHand.{setting_of, cells_on_stacks}
use Rattle.pe_hang.proofs.Staying.{keeps-same, keeps-then}
use Rattle.pe_adapt.specs.WalkedCells.{machine_in_hand}
use Rattle.pe_order.specs.CellTraffic.{CountsAreFew}
use Rattle.walk_rows.specs.ByCells.{MayWalkInTurn}
use Rattle.walk_rows.proofs.ChildDigits.{all-children, all-tail}
use Rattle.walk_rows.proofs.InTurn.{root-place, came-through}
use Rattle.walk_rows.proofs.by_cells.walk_children.Goals as goal

pub loop-digits-init : goal.loop-digits-init
loop-digits-init g c =
    let numbers = g.M.Mapping.numbers in
    let before = g.M.Mapping.held c.args.m.now in
    let s = c.args.setup.now in
    let vertices = g.DV.Depot.holds c.args.dv.now in
    let cells = g.DC.Depot.holds c.args.dc.now in
    let tally = no_tally c.args.traversal in
    let kept = c.into_iter-digits-iterator.ensures.into_iter_gives in
    let all = all-children s.dim (way_of c.args.traversal) c.of-way.result root c.flips-flips.result c.new-digits-items.result c.into_iter-digits-iterator.result c.of-way.ensures kept c.new-digits-items.ensures.digits
    (c.flips-flips.ensures s.dim c.of-way.result root (root-place s.dim) c.root.ensures.stands) in
    let counted = ap (λ way. record tally { way = way }) (sym c.of-way.ensures) in
    record {
      digits = subst (All (IsDigits s.dim)) (sym kept) c.new-digits-items.ensures.places;
      may = subst (λ tally. MayWalkInTurn (setting_of g.M.Effects.rules before s.start_level s.max_cells c.args.traversal) s.max_level c.args.input c.args.cell_input
          (machine_in_hand numbers vertices (cells_on_stacks numbers cells) c.args.corners.now c.args.root.now before.list tally) (map (child_at root) c.into_iter-digits-iterator.result)) counted
          (subst (MayWalkInTurn (setting_of g.M.Effects.rules before s.start_level s.max_cells c.args.traversal) s.max_level c.args.input c.args.cell_input
          (machine_in_hand numbers vertices (cells_on_stacks numbers cells) c.args.corners.now c.args.root.now before.list tally)) (sym all) c.requires.may);
      full = c.requires.full;
      few = subst (λ tally. CountsAreFew s.max_cells tally vertices cells) counted c.requires.few;
      out = refl;
      keeps = keeps-same before;
    }

pub loop-digits-preserved : goal.loop-digits-preserved
loop-digits-preserved g c =
    let numbers = g.M.Mapping.numbers in
    let now = g.M.Mapping.held c.loop-digits.m in
    let s = c.args.setup.now in
    let is = c.loop-digits.invariant in
    let walked = c.walk_child.ensures in
    let next = came-through c.walk_child.result c.expect.result c.expect.ensures walked.next in
    record {
      digits = all-tail (IsDigits s.dim) c.in-Some.digits c.next.new.self c.loop-digits.digits-iterator c.in-Some.ensures.steps is.digits;
      may = next (map (child_at root) c.next.new.self)
          (subst (λ digits. MayWalkInTurn (setting_of g.M.Effects.rules now s.start_level s.max_cells c.args.traversal) s.max_level c.args.input c.args.cell_input
          (machine_in_hand numbers (g.DV.Depot.holds c.loop-digits.dv) (cells_on_stacks numbers (g.DC.Depot.holds c.loop-digits.dc)) c.loop-digits.corners c.loop-digits.root now.list c.loop-digits.tally)
          (map (child_at root) digits)) c.in-Some.ensures.steps is.may);
      full = walked.full;
      few = came-through c.walk_child.result c.expect.result c.expect.ensures walked.few;
      out = walked.out ∙ is.out;
      keeps = keeps-then is.keeps walked.keeps;
    }
