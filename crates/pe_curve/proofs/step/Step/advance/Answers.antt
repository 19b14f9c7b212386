-- The child behind a child, with or without a turn.
use Rattle.std.proofs.Common.{◌-◌, ◌∙◌, sym, rules}
use Rattle.pe_curve.specs.Steps.{IsAdvanced}
use Rattle.pe_curve.proofs.StepLaws.{advanced, turned_on}
use Rattle.pe_curve.proofs.step.Step.advance.Goals as goal

pub returns-then-moves-clause-next : goal.returns-then-moves-clause-next
returns-then-moves-clause-next c way es n len more is =
    let to : IsAdvanced c.args.axes c.args.self.now (c.args.axes - 1) c.go_on.new.self = search rules in
    advanced c.args.axes way es n (c.args.axes - 1) c.args.self.now c.go_on.new.self c.requires.axes.1 len more is to

pub returns-else-moves-clause-next : goal.returns-else-moves-clause-next
returns-else-moves-clause-next c way es n len more is =
    let mid = c.turn_over.new.self in
    let to = turned_on c.args.axes c.advance_before.result c.args.self.now mid c.advance_before.new.self (sym c.moves.ensures ∙ c.if-moves.false) c.turn_over.ensures.digits c.turn_over.ensures.same c.turn_over.ensures.other c.advance_before.ensures in
    advanced c.args.axes way es n c.advance_before.result c.args.self.now c.advance_before.new.self c.requires.axes.1 len more is to
