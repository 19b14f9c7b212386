-- One more child comes, until all are there.
use Rattle.std.proofs.Common.{List, [], ◌∷◌, ◌++◌, ap, ◌∙◌, sym, arith}
use Rattle.pe_base.specs.declared.place.Place.{Place}
use Rattle.walk_rows.proofs.Computed.{child_more, child_all}
use Rattle.walk_rows.proofs.plain.cells.children.Goals as goal

pub loop-n-preserved : goal.loop-n-preserved
loop-n-preserved c =
    c.in_ok-push.ensures.items
    ∙ ap (λ (xs : List Place). xs ++ c.child.result ∷ []) c.loop-n.invariant
    ∙ sym (child_more c.args.setting.now.dim c.args.setting.now.way c.args.cell.now c.child.result c.loop-n.n c.child.ensures.child)

pub returns : goal.returns
returns c = c.loop-n.invariant ∙ child_all c.args.setting.now.dim c.args.setting.now.way c.args.cell.now c.loop-n.n (omega arith)
