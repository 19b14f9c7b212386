-- The cell's own stores follow those of all children.
use Rattle.std.proofs.Common.{◌-◌, ◌<◌, List, ◌++◌, ap, ap₂, ◌∙◌, sym, arith}
use Rattle.std.specs.List.{flat_map}
use Rattle.std.proofs.lemmas.List.{take_all}
use Rattle.pe_base.specs.declared.place.Place.{Place}
use Rattle.pe_base.specs.Steps.Faces.{Touch, stores}
use Rattle.walk_rows.proofs.Computed.{stores_more}
use Rattle.walk_rows.proofs.plain.touches.+stores.Goals as goal

pub returns : goal.returns
returns t c =
    let cells : List Place = c.deref-child-items.result.now in
    let below : 0 < c.args.levels = omega arith in
    c.in_ok-append-2.ensures.items
    ∙ ap₂ (λ (ts us : List Touch). ts ++ us)
    (c.loop-child.invariant
    ∙ ap (flat_map (stores c.args.setting.now.dim c.args.setting.now.way (c.args.levels - 1))) (take_all c.loop-child.child-index cells (omega arith) ∙ c.deref-child-items.ensures.value ∙ c.in_ok-children.ensures))
    c.in_ok-own.ensures
    ∙ sym (stores_more c.args.setting.now.dim c.args.setting.now.way c.args.levels c.args.cell.now below)
