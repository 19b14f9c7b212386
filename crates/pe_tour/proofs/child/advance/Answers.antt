-- The next child: of the row, or the first of another row.
use Rattle.std.proofs.Common.{◌≡◌, ℕ, ◌+◌, ◌-◌, ◌^◌, ◌<◌, List, length, sym, ap, subst, ◌∙◌}
use Rattle.pe_base.specs.Tree.Curve.{flips}
use Rattle.pe_curve.specs.declared.step.Step.{Step}
use Rattle.pe_curve.specs.Steps.{IsStep, CanAdvance}
use Rattle.pe_curve.proofs.StepLaws.{can_advance}
use Rattle.pe_tour.specs.declared.settings.TourSettings.{TourSettings}
use Rattle.pe_tour.specs.declared.cell.CellAt.{CellAt}
use Rattle.pe_tour.specs.declared.child.Child.{Child}
use Rattle.pe_tour.specs.Cells.{IsChild, IsAhead, IsStepOf, AgreeBefore}
use Rattle.pe_tour.proofs.Children.{length-flips, agree-moved}
use Rattle.pe_tour.proofs.child.advance.Goals as goal

-- one step further on, with the number of axes as the walk knows it
stepped : (axes' : ℕ) (settings : TourSettings) (over : CellAt) (old new : Step) → settings.dim ≡ axes'
    → ((es : List ℕ) (n : ℕ) → length es ≡ axes' → n + 1 < 3 ^ axes' → IsStep axes' settings.way es n old → IsStep axes' settings.way es (n + 1) new)
    → (n : ℕ) → n + 1 < 3 ^ settings.dim → IsStepOf settings over n old → IsStepOf settings over (n + 1) new
stepped axes' settings over old new same next n more is =
    let es = flips settings.dim over.place.pos in
    let More : ℕ → Type 0 = λ d. n + 1 < 3 ^ d in
    subst (λ d. IsStep d settings.way es (n + 1) new) (sym same)
    (next es n (length-flips settings.dim over.place.pos ∙ same) (subst More same more) (subst (λ d. IsStep d settings.way es n old) same is))

ahead : (settings : TourSettings) (over : CellAt) (ages n first : ℕ) (child : Child) (step : Step) → IsChild settings over ages n child → IsStepOf settings over (n + 1) step → AgreeBefore first child.cell.step.digits step.digits
    → IsAhead settings over ages first (n + 1) (record child { cell = record child.cell { step = step } })
ahead settings over ages n first child step is next agree = record { from = child.cell.step; number = n; was = is; step = next; agree = agree }

pub advance-moved-requires-clause-more : goal.advance-moved-requires-clause-more
advance-moved-requires-clause-more g c =
    let s = c.args.settings.now in
    let over = c.args.over.now in
    let step = c.args.child.now.cell.step in
    let was = c.requires.child in
    subst (λ d. CanAdvance d step) c.requires.axes
    (can_advance s.dim s.way (flips s.dim over.place.pos) was.0 step c.requires.over.state.grid.1 (length-flips s.dim over.place.pos) was.1 was.2.step)

pub step_to-requires-clause-child : goal.step_to-requires-clause-child
step_to-requires-clause-child g c =
    let s = c.args.settings.now in
    let over = c.args.over.now in
    let child = c.args.child.now in
    let old = child.cell.step in
    let new = c.advance-moved.new.self in
    let was = c.requires.child in
    let moved = agree-moved g.row.AXES c.advance-moved.result old new c.advance-moved.ensures.moved in (
      was.0 + 1,
      ahead s over c.args.ages was.0 (s.dim - 1) child new was.2
          (stepped g.row.AXES s over old new c.requires.axes (c.advance-moved.ensures.next s.way) was.0 was.1 was.2.step)
          (subst (λ d. AgreeBefore d old.digits new.digits) (c.if-moved.true ∙ ap (λ (d : ℕ). d - 1) (sym c.requires.axes)) moved),
    )

pub returns-then-moved : goal.returns-then-moved
returns-then-moved g c n more is =
    let s = c.args.settings.now in
    let over = c.args.over.now in
    let child = c.args.child.now in
    let old = child.cell.step in
    let new = c.advance-moved.new.self in
    let moved = agree-moved g.row.AXES c.advance-moved.result old new c.advance-moved.ensures.moved in
    c.step_to.ensures (n + 1) (ahead s over c.args.ages n (s.dim - 1) child new is
    (stepped g.row.AXES s over old new c.requires.axes (c.advance-moved.ensures.next s.way) n more is.step)
    (subst (λ d. AgreeBefore d old.digits new.digits) (c.if-moved.true ∙ ap (λ (d : ℕ). d - 1) (sym c.requires.axes)) moved))

pub turn_to-requires-clause-child : goal.turn_to-requires-clause-child
turn_to-requires-clause-child g c =
    let s = c.args.settings.now in
    let over = c.args.over.now in
    let child = c.args.child.now in
    let old = child.cell.step in
    let new = c.advance-moved.new.self in
    let was = c.requires.child in (
      was.0 + 1,
      ahead s over c.args.ages was.0 c.advance-moved.result child new was.2
          (stepped g.row.AXES s over old new c.requires.axes (c.advance-moved.ensures.next s.way) was.0 was.1 was.2.step)
          (agree-moved g.row.AXES c.advance-moved.result old new c.advance-moved.ensures.moved),
    )

pub returns-else-moved : goal.returns-else-moved
returns-else-moved g c n more is =
    let s = c.args.settings.now in
    let over = c.args.over.now in
    let child = c.args.child.now in
    let old = child.cell.step in
    let new = c.advance-moved.new.self in
    c.turn_to.ensures (n + 1) (ahead s over c.args.ages n c.advance-moved.result child new is
    (stepped g.row.AXES s over old new c.requires.axes (c.advance-moved.ensures.next s.way) n more is.step)
    (agree-moved g.row.AXES c.advance-moved.result old new c.advance-moved.ensures.moved))
