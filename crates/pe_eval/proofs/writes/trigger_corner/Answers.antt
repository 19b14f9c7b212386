use Rattle.std.proofs.Common.{ap}
use Rattle.pe_eval.specs.Meaning.{with_trigger}
use Rattle.pe_stacks.specs.Sights.{fields_numbers, seen_vertex}
use Rattle.pe_eval.proofs.FullCorners.{seen_changed}
use Rattle.pe_eval.proofs.writes.trigger_corner.Goals as goal

pub returns-clause-seen : goal.returns-clause-seen
returns-clause-seen c =
    seen_changed (seen_vertex fields_numbers.vertex) (with_trigger c.args.trigger c.args.level c.args.max_level) _ c.args.corners.now _ c.at_mut.result.now _ c.requires.full c.at_mut.ensures.value
    (ap (seen_vertex fields_numbers.vertex) c.trigger_vertex.ensures)
