-- The loads of all children follow the cell's own.
use Rattle.std.proofs.Common.{◌-◌, ◌<◌, List, ◌++◌, reverse, ap, ◌∙◌, sym, arith}
use Rattle.std.specs.List.{flat_map}
use Rattle.std.proofs.lemmas.List.{take_all}
use Rattle.pe_base.specs.declared.place.Place.{Place}
use Rattle.pe_base.specs.Steps.Faces.{corner_touches, loads}
use Rattle.walk_rows.proofs.Computed.{loads_more}
use Rattle.walk_rows.proofs.plain.touches.+loads.Goals as goal

pub returns : goal.returns
returns t c =
    let cells : List Place = c.deref-child-items.result.now in
    let below : 0 < c.args.levels = omega arith in
    c.loop-child.invariant
    ∙ ap (λ (ps : List Place). reverse (corner_touches c.args.setting.now.dim c.args.cell.now) ++ flat_map (loads c.args.setting.now.dim c.args.setting.now.way (c.args.levels - 1)) ps)
    (take_all c.loop-child.child-index cells (omega arith) ∙ c.deref-child-items.ensures.value ∙ c.in_ok-children.ensures)
    ∙ sym (loads_more c.args.setting.now.dim c.args.setting.now.way c.args.levels c.args.cell.now below)
