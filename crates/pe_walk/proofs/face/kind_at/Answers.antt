use Rattle.std.proofs.Common.{sym, ◌∙◌, arith}
use Rattle.pe_walk.proofs.AgeLaws.{kind_among-deep, kind_below-ages, any-kind, few-corners}
use Rattle.pe_walk.proofs.face.kind_at.Goals as goal

pub returns-else-level-eq1 : goal.returns-else-level-eq1
returns-else-level-eq1 c = λ axes cell its dim level count are.
    kind_among-deep c.args.traversal cell its (omega (arith, level, c.requires, c.if-level-eq1.false))
    ∙ sym (kind_below-ages axes its c.args.parents are count (few-corners axes dim))
    ∙ sym (c.kind_of.ensures ∙ any-kind c.any-old.result c.any-old.ensures)
