use Rattle.std.proofs.Common.{◌∷◌, ◌++◌, codes, decimal, ap, ◌∙◌}
use Rattle.pe_base.specs.Lines.{way_name}
use Rattle.pe_report.proofs.TallyWords.{line_of_steps}
use Rattle.pe_report.proofs.tally.tally_words.Goals as goal

pub returns : goal.returns
returns c =
    let tally = c.args.tally.now in
    line_of_steps (codes "traversal") (decimal tally.traversal) (way_name tally.way) (codes "cells") (decimal tally.cells) (codes "in") (decimal tally.read) (codes "out") (decimal tally.written)
    (codes "created") (decimal tally.created) (codes "destroyed") (decimal tally.destroyed) (codes "hanging") (decimal tally.hanging) _ _ _ _ _ _ _ _ _
    c.of-line.ensures c.number.ensures.number (c.part.ensures.part ∙ ap (λ name. c.number.new.self ++ 32 ∷ name) c.way_name.ensures.name)
    c.add_count.ensures.text c.add_count-2.ensures.text c.add_count-3.ensures.text c.add_count-4.ensures.text c.add_count-5.ensures.text c.add_count-6.ensures.text
