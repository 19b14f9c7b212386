use Rattle.std.proofs.Common.{◌∙◌, ap, w64}
use Rattle.std.proofs.lemmas.Int.{to_z-of_z}
use Rattle.pe_eval.specs.Meaning.{with_field}
use Rattle.pe_stacks.specs.Sights.{fields_numbers, seen_vertex}
use Rattle.pe_eval.proofs.FullCorners.{seen_changed}
use Rattle.pe_eval.proofs.writes.set_of_corner.Goals as goal

pub returns-clause-seen : goal.returns-clause-seen
returns-clause-seen c =
    seen_changed (seen_vertex fields_numbers.vertex) (with_field c.args.field c.args.x) _ c.args.corners.now _ c.at_mut.result.now _ c.requires.full c.at_mut.ensures.value
    (c.set_in_vertex.ensures ∙ ap (λ x. with_field c.args.field x (seen_vertex fields_numbers.vertex c.at_mut.result.now)) (to_z-of_z w64 c.args.x c.ranges.x))
