-- What is left to come are digits of children.
use Rattle.std.proofs.lemmas.List.Elements.{All-rest}
use Rattle.pe_base.specs.Tree.Places.{IsDigits}
use Rattle.base_rows.proofs.routes.+walk.Goals as goal

pub loop-digits-preserved : goal.loop-digits-preserved
loop-digits-preserved t c =
    All-rest (IsDigits c.args.dim) c.in-Some.digits c.next.new.self c.loop-digits.digits-iterator c.in-Some.ensures.steps c.loop-digits.invariant
