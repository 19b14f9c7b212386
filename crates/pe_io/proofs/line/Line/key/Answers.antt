use Rattle.std.proofs.Common.{◌∙◌, ap, ℕ, List, ◌∷◌, [], map, take, append_assoc, arith}
use Rattle.std.proofs.lemmas.Grind.{common_steps}
use Rattle.std.proofs.lemmas.List.{take_min}
use Rattle.std.proofs.lemmas.List.Sums.{sum_by-append}
use Rattle.pe_base.specs.Lines.{shown_byte}
use Rattle.pe_base.specs.Calls.Told.{feeds_of, line_feeds}
use Rattle.pe_base.proofs.LineFeeds.{feeds_shown}
use Rattle.pe_io.proofs.line.Line.key.Goals as goal

pub returns-clause-key : goal.returns-clause-key
returns-clause-key c =
    rw (c.add_shown.ensures, c.self.view_is, c.part.ensures.part, c.min-shown.ensures, c.as_bytes.ensures.value, take_min 64 c.args.key.now)
    (append_assoc _ (32 ∷ []) _)

pub invariant_of-self : goal.invariant_of-self
invariant_of-self c =
    let shown : List ℕ = map shown_byte (take c.min-shown.result c.as_bytes.result.now) in
    (grind (arith, common_steps), ap line_feeds c.add_shown.ensures ∙ omega (arith, sum_by-append feeds_of c.self.inside.bytes.items shown, c.self.invariant.1, feeds_shown (take c.min-shown.result c.as_bytes.result.now)))
