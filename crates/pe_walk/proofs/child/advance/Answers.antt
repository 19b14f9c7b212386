-- The next child: of the row, or the first of another row.
use Rattle.std.proofs.Common.{◌≡◌, ℕ, ◌+◌, ◌-◌, ◌^◌, ◌<◌, List, length, sym, ap, subst, ◌∙◌}
use Rattle.pe_base.specs.Tree.Curve.{flips}
use Rattle.pe_base.specs.Tree.Dim.{IsDim}
use Rattle.pe_curve.specs.declared.step.Step.{Step}
use Rattle.pe_curve.specs.Steps.{IsStep, CanAdvance}
use Rattle.pe_curve.proofs.StepLaws.{can_advance}
use Rattle.pe_adapt.specs.declared.settings.Settings.{Settings}
use Rattle.pe_walk.specs.declared.child.Above.{Above}
use Rattle.pe_walk.specs.declared.child.Child.{Child}
use Rattle.pe_walk.specs.Children.{IsChild, IsAhead, IsStepOf, AgreeBefore}
use Rattle.pe_walk.proofs.Children.{length-flips, agree-moved}
use Rattle.pe_walk.proofs.child.advance.Goals as goal

-- one step further on, with the number of axes as the walk knows it
stepped : (axes axes' : ℕ) (settings : Settings) (above : Above) (old new : Step) → axes ≡ axes'
    → ((es : List ℕ) (n : ℕ) → length es ≡ axes' → n + 1 < 3 ^ axes' → IsStep axes' settings.way es n old → IsStep axes' settings.way es (n + 1) new)
    → (n : ℕ) → n + 1 < 3 ^ axes → IsStepOf axes settings above n old → IsStepOf axes settings above (n + 1) new
stepped axes axes' settings above old new same next n more is =
    let es = flips axes above.place.pos in
    let More : ℕ → Type 0 = λ d. n + 1 < 3 ^ d in
    subst (λ d. IsStep d settings.way es (n + 1) new) (sym same)
    (next es n (length-flips axes above.place.pos ∙ same) (subst More same more) (subst (λ d. IsStep d settings.way es n old) same is))

pub advance-moved-requires-clause-axes : goal.advance-moved-requires-clause-axes
advance-moved-requires-clause-axes g c = subst IsDim c.requires.axes c.requires.above.state.grid

pub advance-moved-requires-clause-more : goal.advance-moved-requires-clause-more
advance-moved-requires-clause-more g c =
    let s = c.args.settings.now in
    let above = c.args.above.now in
    let step = c.args.child.now.step in
    let axes = s.setup.dim in
    let was = c.requires.child in
    subst (λ d. CanAdvance d step) c.requires.axes
    (can_advance axes s.way (flips axes above.place.pos) was.0 step c.requires.above.state.grid.1 (length-flips axes above.place.pos) was.1 was.2.step)

ahead : (axes : ℕ) (settings : Settings) (above : Above) (n first : ℕ) (child : Child) (step : Step) → IsChild axes settings above n child → IsStepOf axes settings above (n + 1) step → AgreeBefore first child.step.digits step.digits
    → IsAhead axes settings above first (n + 1) (record { cell = child.cell; step = step; row_ages = child.row_ages })
ahead axes settings above n first child step is next agree = record { from = child.step; number = n; was = is; step = next; agree = agree }

pub step_to-requires-clause-child : goal.step_to-requires-clause-child
step_to-requires-clause-child g c =
    let s = c.args.settings.now in
    let above = c.args.above.now in
    let child = c.args.child.now in
    let axes = s.setup.dim in
    let new = c.advance-moved.new.self in
    let was = c.requires.child in
    let moved = agree-moved g.row.AXES c.advance-moved.result child.step new c.advance-moved.ensures.moved in (
      was.0 + 1,
      ahead axes s above was.0 (axes - 1) child new was.2
          (stepped axes g.row.AXES s above child.step new c.requires.axes (c.advance-moved.ensures.next s.way) was.0 was.1 was.2.step)
          (subst (λ d. AgreeBefore d child.step.digits new.digits) (c.if-moved.true ∙ ap (λ (d : ℕ). d - 1) (sym c.requires.axes)) moved),
    )

pub returns-then-moved : goal.returns-then-moved
returns-then-moved g c n more is =
    let s = c.args.settings.now in
    let above = c.args.above.now in
    let child = c.args.child.now in
    let axes = s.setup.dim in
    let new = c.advance-moved.new.self in
    let moved = agree-moved g.row.AXES c.advance-moved.result child.step new c.advance-moved.ensures.moved in
    c.step_to.ensures (n + 1) (ahead axes s above n (axes - 1) child new is
    (stepped axes g.row.AXES s above child.step new c.requires.axes (c.advance-moved.ensures.next s.way) n more is.step)
    (subst (λ d. AgreeBefore d child.step.digits new.digits) (c.if-moved.true ∙ ap (λ (d : ℕ). d - 1) (sym c.requires.axes)) moved))

pub turn_to-requires-clause-child : goal.turn_to-requires-clause-child
turn_to-requires-clause-child g c =
    let s = c.args.settings.now in
    let above = c.args.above.now in
    let child = c.args.child.now in
    let axes = s.setup.dim in
    let new = c.advance-moved.new.self in
    let was = c.requires.child in (
      was.0 + 1,
      ahead axes s above was.0 c.advance-moved.result child new was.2
          (stepped axes g.row.AXES s above child.step new c.requires.axes (c.advance-moved.ensures.next s.way) was.0 was.1 was.2.step)
          (agree-moved g.row.AXES c.advance-moved.result child.step new c.advance-moved.ensures.moved),
    )

pub returns-else-moved : goal.returns-else-moved
returns-else-moved g c n more is =
    let s = c.args.settings.now in
    let above = c.args.above.now in
    let child = c.args.child.now in
    let axes = s.setup.dim in
    let new = c.advance-moved.new.self in
    c.turn_to.ensures (n + 1) (ahead axes s above n c.advance-moved.result child new is
    (stepped axes g.row.AXES s above child.step new c.requires.axes (c.advance-moved.ensures.next s.way) n more is.step)
    (agree-moved g.row.AXES c.advance-moved.result child.step new c.advance-moved.ensures.moved))
