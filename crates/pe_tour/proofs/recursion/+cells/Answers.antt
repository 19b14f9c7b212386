use Rattle.std.proofs.Common.{◌≡◌, suc, ◌+◌, ◌-◌, ◌^◌, ◌<◌, ◌≤◌, Ok, Err, sym, ap, subst, ◌∙◌, rules as the_rules, arith}
use Rattle.pe_base.specs.declared.place.Place.{Place}
use Rattle.pe_base.specs.Walk.Steps.{walk}
use Rattle.pe_base.proofs.Calls.Errors.{err-is}
use Rattle.pe_tour.specs.Sights.{between_of, amid_of, open_of}
use Rattle.pe_tour.specs.declared.settings.TourSettings.{TourSettings}
use Rattle.pe_tour.specs.Cells.{IsOver, IsChild}
use Rattle.pe_tour.specs.Moves.{plan_of, settings_of, MayWalk, Walks, with_record}
use Rattle.pe_tour.proofs.Visiting.{VisitIn, after_come, may-load, visit-loaded, visit-unloaded, may-come, visit-came, visit-unmade, may-open, visit-opened, visit-unopened, may-go, visit-gone, visit-unput, may-store, visit-stored}
use Rattle.pe_tour.proofs.Opening.{may-enter, open-entered, may-below, open-walked, open-left, open-unentered, open-unwalked, below-none, below-fits, below-some}
use Rattle.pe_tour.proofs.Cells.{may-count, cell-counted, cell-uncounted, may-visit, cell-visited, cell-unvisited}
use Rattle.pe_tour.proofs.Rows.{IsAmong, among-may, among-next, among-fails, among-ends, some-levels}
use Rattle.pe_tour.proofs.recursion.+cells.Goals.{visit-in-Born+in_ok-its-in-Born, visit-in_default, walk_children-then-n-parts, walk_children-else-n-parts}
use Rattle.pe_tour.proofs.recursion.+cells.Goals as goal

-- # A cell
pub walk_cell-count-requires-clause-may : goal.walk_cell-count-requires-clause-may
walk_cell-count-requires-clause-may g t c = may-count g.T.Tour.walk g.met.T.Tour.lawful c.args.at.now c.args.levels c.requires.may

pub walk_cell-returns-in_err-count-clause-walks : goal.walk_cell-returns-in_err-count-clause-walks
walk_cell-returns-in_err-count-clause-walks g t c =
    rw (err-is c.from_residual.result _ c.from_residual.ensures.1)
    (cell-uncounted g.T.Tour.walk g.met.T.Tour.lawful c.args.at.now c.args.levels c.requires.may c.in_err-count.ensures)

pub walk_cell-visit-requires : goal.walk_cell-visit-requires
walk_cell-visit-requires g t c κs within =
    let w = g.T.Tour.walk in
    let counted = cell-counted w g.met.T.Tour.lawful c.args.at.now c.args.levels c.requires.may c.in_ok-count.ensures in
    let axes = ap (λ plan. (w.settings plan).dim) c.in_ok-count.ensures.goes.plan ∙ c.requires.axes in
    (search the_rules, (search the_rules, (within.0, (within.1.0, (within.1.1.0, (within.1.1.1, (axes, (c.requires.levels, may-visit w g.met.T.Tour.lawful c.args.at.now c.args.levels counted))))))))

pub walk_cell-give_up-requires : goal.walk_cell-give_up-requires
walk_cell-give_up-requires g t c =
    let w = g.T.Tour.walk in
    let counted = cell-counted w g.met.T.Tour.lawful c.args.at.now c.args.levels c.requires.may c.in_ok-count.ensures in
    record { within = (counted.may.from, c.visit.new.above, c.visit.new.parent, c.in-Err.ensures.within counted.may.from counted.may.since) }

pub walk_cell-returns-in-Ok-clause-walks : goal.walk_cell-returns-in-Ok-clause-walks
walk_cell-returns-in-Ok-clause-walks g t c =
    let w = g.T.Tour.walk in
    let counted = cell-counted w g.met.T.Tour.lawful c.args.at.now c.args.levels c.requires.may c.in_ok-count.ensures in
    (cell-visited w g.met.T.Tour.lawful c.args.at.now c.args.levels counted c.in-Ok.ensures).0

pub walk_cell-returns-in-Ok-clause-empty : goal.walk_cell-returns-in-Ok-clause-empty
walk_cell-returns-in-Ok-clause-empty g t c =
    let w = g.T.Tour.walk in
    let counted = cell-counted w g.met.T.Tour.lawful c.args.at.now c.args.levels c.requires.may c.in_ok-count.ensures in
    (cell-visited w g.met.T.Tour.lawful c.args.at.now c.args.levels counted c.in-Ok.ensures).1

pub walk_cell-returns-in-Err-clause-walks : goal.walk_cell-returns-in-Err-clause-walks
walk_cell-returns-in-Err-clause-walks g t c =
    let w = g.T.Tour.walk in
    let counted = cell-counted w g.met.T.Tour.lawful c.args.at.now c.args.levels c.requires.may c.in_ok-count.ensures in
    cell-unvisited w g.met.T.Tour.lawful c.args.at.now c.args.levels c.give_up.new.self counted c.in-Err.ensures c.give_up.ensures.gives_up
    (λ from holds. c.give_up.ensures.ready from c.visit.new.above c.visit.new.parent holds)

-- # Within a cell
pub visit-load_corners-requires-clause-may : goal.visit-load_corners-requires-clause-may
visit-load_corners-requires-clause-may g t c =
    may-load g.T.Tour.walk g.met.T.Tour.lawful c.args.at.now c.args.levels (amid_of c.args.tour.now c.args.own.now c.args.above.now c.args.parent.now) c.requires.may

pub visit-returns-in_err-load_corners : goal.visit-returns-in_err-load_corners
visit-returns-in_err-load_corners g t c =
    rw (err-is c.from_residual.result _ c.from_residual.ensures.1)
    (visit-unloaded g.T.Tour.walk g.met.T.Tour.lawful c.args.at.now c.args.levels (amid_of c.args.tour.now c.args.own.now c.args.above.now c.args.parent.now)
    (amid_of c.load_corners.new.tour c.load_corners.new.own c.load_corners.new.above c.load_corners.new.parent) c.in_err-load_corners.field-0.0 c.requires.may c.in_err-load_corners.ensures)

pub visit-make-requires-clause-may : goal.visit-make-requires-clause-may
visit-make-requires-clause-may g t c =
    let w = g.T.Tour.walk in
    let loaded = visit-loaded w g.met.T.Tour.lawful c.args.at.now c.args.levels (amid_of c.args.tour.now c.args.own.now c.args.above.now c.args.parent.now)
    (amid_of c.load_corners.new.tour c.load_corners.new.own c.load_corners.new.above c.load_corners.new.parent) c.in_ok-load_corners.field-0 c.requires.may c.in_ok-load_corners.ensures in
    may-come w g.met.T.Tour.lawful c.args.at.now c.args.levels loaded

pub visit-returns-in_err-its-in-Born : goal.visit-returns-in_err-its-in-Born
visit-returns-in_err-its-in-Born g t c =
    let w = g.T.Tour.walk in
    let loaded = visit-loaded w g.met.T.Tour.lawful c.args.at.now c.args.levels (amid_of c.args.tour.now c.args.own.now c.args.above.now c.args.parent.now)
    (amid_of c.load_corners.new.tour c.load_corners.new.own c.load_corners.new.above c.load_corners.new.parent) c.in_ok-load_corners.field-0 c.requires.may c.in_ok-load_corners.ensures in
    rw (err-is c.from_residual-in_err-its-in-Born.result _ c.from_residual-in_err-its-in-Born.ensures.1)
    (visit-unmade w g.met.T.Tour.lawful c.args.at.now c.args.levels c.make.new.self c.in_err-its-in-Born.field-0.0 loaded c.in_err-its-in-Born.ensures)

pub visit-fetch-its-requires : goal.visit-fetch-its-requires
visit-fetch-its-requires g t c =
    let w = g.T.Tour.walk in
    let loaded = visit-loaded w g.met.T.Tour.lawful c.args.at.now c.args.levels (amid_of c.args.tour.now c.args.own.now c.args.above.now c.args.parent.now)
    (amid_of c.load_corners.new.tour c.load_corners.new.own c.load_corners.new.above c.load_corners.new.parent) c.in_ok-load_corners.field-0 c.requires.may c.in_ok-load_corners.ensures in
    record { may = may-come w g.met.T.Tour.lawful c.args.at.now c.args.levels loaded; there = λ born. c.in_default.not-Born born }

pub visit-visit_open-requires : goal.visit-visit_open-requires
visit-visit_open-requires g t c κs within =
    let w = g.T.Tour.walk in
    let laws = g.met.T.Tour.lawful in
    let cell = c.args.at.now in
    let levels = c.args.levels in
    let loaded = visit-loaded w laws cell levels (amid_of c.args.tour.now c.args.own.now c.args.above.now c.args.parent.now)
    (amid_of c.load_corners.new.tour c.load_corners.new.own c.load_corners.new.above c.load_corners.new.parent) c.in_ok-load_corners.field-0 c.requires.may c.in_ok-load_corners.ensures in
    let now = amid_of c.load_corners.new.tour c.load_corners.new.own c.load_corners.new.above c.load_corners.new.parent in
    let old = amid_of c.args.tour.now c.args.own.now c.args.above.now c.args.parent.now in
    let came : VisitIn w laws cell levels old (after_come w laws cell levels) (with_record w now c.match-at.tour c.match-at.its) = elim c.match-at.branch [
      | visit-in-Born+in_ok-its-in-Born b ↦ visit-came w laws cell levels b.tour-is b.its-is loaded b.in_ok-its-in-Born.ensures
      | visit-in_default b ↦ visit-came w laws cell levels b.tour-is b.its-is loaded b.fetch-its.ensures
    ] in
    let axes = ap (λ plan. (w.settings plan).dim) came.leads.plan ∙ c.requires.axes in
    (search the_rules, (search the_rules, (within.0, (within.1.0, (within.1.1.0, (within.1.1.1, (axes, (c.requires.levels, may-open w laws cell levels came))))))))

pub visit-forget-requires : goal.visit-forget-requires
visit-forget-requires g t c =
    let w = g.T.Tour.walk in
    let laws = g.met.T.Tour.lawful in
    let cell = c.args.at.now in
    let levels = c.args.levels in
    let loaded = visit-loaded w laws cell levels (amid_of c.args.tour.now c.args.own.now c.args.above.now c.args.parent.now)
    (amid_of c.load_corners.new.tour c.load_corners.new.own c.load_corners.new.above c.load_corners.new.parent) c.in_ok-load_corners.field-0 c.requires.may c.in_ok-load_corners.ensures in
    let now = amid_of c.load_corners.new.tour c.load_corners.new.own c.load_corners.new.above c.load_corners.new.parent in
    let old = amid_of c.args.tour.now c.args.own.now c.args.above.now c.args.parent.now in
    let came : VisitIn w laws cell levels old (after_come w laws cell levels) (with_record w now c.match-at.tour c.match-at.its) = elim c.match-at.branch [
      | visit-in-Born+in_ok-its-in-Born b ↦ visit-came w laws cell levels b.tour-is b.its-is loaded b.in_ok-its-in-Born.ensures
      | visit-in_default b ↦ visit-came w laws cell levels b.tour-is b.its-is loaded b.fetch-its.ensures
    ] in
    record { entered = (came.may.from, c.visit_open.new.own, c.visit_open.new.above, c.visit_open.new.parent, c.in-Err.ensures.entered came.may.from came.may.since) }

pub visit-returns-in-Err : goal.visit-returns-in-Err
visit-returns-in-Err g t c =
    let w = g.T.Tour.walk in
    let laws = g.met.T.Tour.lawful in
    let cell = c.args.at.now in
    let levels = c.args.levels in
    let loaded = visit-loaded w laws cell levels (amid_of c.args.tour.now c.args.own.now c.args.above.now c.args.parent.now)
    (amid_of c.load_corners.new.tour c.load_corners.new.own c.load_corners.new.above c.load_corners.new.parent) c.in_ok-load_corners.field-0 c.requires.may c.in_ok-load_corners.ensures in
    let now = amid_of c.load_corners.new.tour c.load_corners.new.own c.load_corners.new.above c.load_corners.new.parent in
    let old = amid_of c.args.tour.now c.args.own.now c.args.above.now c.args.parent.now in
    let came : VisitIn w laws cell levels old (after_come w laws cell levels) (with_record w now c.match-at.tour c.match-at.its) = elim c.match-at.branch [
      | visit-in-Born+in_ok-its-in-Born b ↦ visit-came w laws cell levels b.tour-is b.its-is loaded b.in_ok-its-in-Born.ensures
      | visit-in_default b ↦ visit-came w laws cell levels b.tour-is b.its-is loaded b.fetch-its.ensures
    ] in
    visit-unopened w laws cell levels c.forget.new.self came c.in-Err.ensures c.forget.ensures.gives_up
    (λ from holds. c.forget.ensures.within from c.visit_open.new.own c.visit_open.new.above c.visit_open.new.parent holds)

pub visit-put-requires : goal.visit-put-requires
visit-put-requires g t c =
    let w = g.T.Tour.walk in
    let laws = g.met.T.Tour.lawful in
    let cell = c.args.at.now in
    let levels = c.args.levels in
    let loaded = visit-loaded w laws cell levels (amid_of c.args.tour.now c.args.own.now c.args.above.now c.args.parent.now)
    (amid_of c.load_corners.new.tour c.load_corners.new.own c.load_corners.new.above c.load_corners.new.parent) c.in_ok-load_corners.field-0 c.requires.may c.in_ok-load_corners.ensures in
    let now = amid_of c.load_corners.new.tour c.load_corners.new.own c.load_corners.new.above c.load_corners.new.parent in
    let old = amid_of c.args.tour.now c.args.own.now c.args.above.now c.args.parent.now in
    let came : VisitIn w laws cell levels old (after_come w laws cell levels) (with_record w now c.match-at.tour c.match-at.its) = elim c.match-at.branch [
      | visit-in-Born+in_ok-its-in-Born b ↦ visit-came w laws cell levels b.tour-is b.its-is loaded b.in_ok-its-in-Born.ensures
      | visit-in_default b ↦ visit-came w laws cell levels b.tour-is b.its-is loaded b.fetch-its.ensures
    ] in
    let opened = visit-opened w laws cell levels came c.in-Ok.ensures in
    record { may = may-go w laws cell levels opened }

pub visit-returns-in_err-put : goal.visit-returns-in_err-put
visit-returns-in_err-put g t c =
    let w = g.T.Tour.walk in
    let laws = g.met.T.Tour.lawful in
    let cell = c.args.at.now in
    let levels = c.args.levels in
    let loaded = visit-loaded w laws cell levels (amid_of c.args.tour.now c.args.own.now c.args.above.now c.args.parent.now)
    (amid_of c.load_corners.new.tour c.load_corners.new.own c.load_corners.new.above c.load_corners.new.parent) c.in_ok-load_corners.field-0 c.requires.may c.in_ok-load_corners.ensures in
    let now = amid_of c.load_corners.new.tour c.load_corners.new.own c.load_corners.new.above c.load_corners.new.parent in
    let old = amid_of c.args.tour.now c.args.own.now c.args.above.now c.args.parent.now in
    let came : VisitIn w laws cell levels old (after_come w laws cell levels) (with_record w now c.match-at.tour c.match-at.its) = elim c.match-at.branch [
      | visit-in-Born+in_ok-its-in-Born b ↦ visit-came w laws cell levels b.tour-is b.its-is loaded b.in_ok-its-in-Born.ensures
      | visit-in_default b ↦ visit-came w laws cell levels b.tour-is b.its-is loaded b.fetch-its.ensures
    ] in
    let opened = visit-opened w laws cell levels came c.in-Ok.ensures in
    rw (err-is c.from_residual-in_err-put.result _ c.from_residual-in_err-put.ensures.1)
    (visit-unput w laws cell levels c.put.new.self opened c.in_err-put.ensures)

pub visit-store_corners-requires-clause-may : goal.visit-store_corners-requires-clause-may
visit-store_corners-requires-clause-may g t c =
    let w = g.T.Tour.walk in
    let laws = g.met.T.Tour.lawful in
    let cell = c.args.at.now in
    let levels = c.args.levels in
    let loaded = visit-loaded w laws cell levels (amid_of c.args.tour.now c.args.own.now c.args.above.now c.args.parent.now)
    (amid_of c.load_corners.new.tour c.load_corners.new.own c.load_corners.new.above c.load_corners.new.parent) c.in_ok-load_corners.field-0 c.requires.may c.in_ok-load_corners.ensures in
    let now = amid_of c.load_corners.new.tour c.load_corners.new.own c.load_corners.new.above c.load_corners.new.parent in
    let old = amid_of c.args.tour.now c.args.own.now c.args.above.now c.args.parent.now in
    let came : VisitIn w laws cell levels old (after_come w laws cell levels) (with_record w now c.match-at.tour c.match-at.its) = elim c.match-at.branch [
      | visit-in-Born+in_ok-its-in-Born b ↦ visit-came w laws cell levels b.tour-is b.its-is loaded b.in_ok-its-in-Born.ensures
      | visit-in_default b ↦ visit-came w laws cell levels b.tour-is b.its-is loaded b.fetch-its.ensures
    ] in
    let opened = visit-opened w laws cell levels came c.in-Ok.ensures in
    let gone = visit-gone w laws cell levels c.put.new.self opened c.in_ok-put.ensures in
    may-store w laws cell levels gone

pub visit-returns : goal.visit-returns
visit-returns g t c =
    let w = g.T.Tour.walk in
    let laws = g.met.T.Tour.lawful in
    let cell = c.args.at.now in
    let levels = c.args.levels in
    let loaded = visit-loaded w laws cell levels (amid_of c.args.tour.now c.args.own.now c.args.above.now c.args.parent.now)
    (amid_of c.load_corners.new.tour c.load_corners.new.own c.load_corners.new.above c.load_corners.new.parent) c.in_ok-load_corners.field-0 c.requires.may c.in_ok-load_corners.ensures in
    let now = amid_of c.load_corners.new.tour c.load_corners.new.own c.load_corners.new.above c.load_corners.new.parent in
    let old = amid_of c.args.tour.now c.args.own.now c.args.above.now c.args.parent.now in
    let came : VisitIn w laws cell levels old (after_come w laws cell levels) (with_record w now c.match-at.tour c.match-at.its) = elim c.match-at.branch [
      | visit-in-Born+in_ok-its-in-Born b ↦ visit-came w laws cell levels b.tour-is b.its-is loaded b.in_ok-its-in-Born.ensures
      | visit-in_default b ↦ visit-came w laws cell levels b.tour-is b.its-is loaded b.fetch-its.ensures
    ] in
    let opened = visit-opened w laws cell levels came c.in-Ok.ensures in
    let gone = visit-gone w laws cell levels c.put.new.self opened c.in_ok-put.ensures in
    visit-stored w laws cell levels c.store_corners.result gone c.store_corners.ensures

-- # While its record is in hand
pub visit_open-enter-requires : goal.visit_open-enter-requires
visit_open-enter-requires g t c = record { may = may-enter g.T.Tour.walk g.met.T.Tour.lawful c.args.at.now c.args.levels c.requires.may }

pub visit_open-returns-in_err-enter : goal.visit_open-returns-in_err-enter
visit_open-returns-in_err-enter g t c =
    rw (err-is c.from_residual.result _ c.from_residual.ensures.1)
    (open-unentered g.T.Tour.walk g.met.T.Tour.lawful c.args.at.now c.args.levels c.requires.may c.in_err-enter.ensures)

pub visit_open-walk_below-requires : goal.visit_open-walk_below-requires
visit_open-walk_below-requires g t c κs within =
    let w = g.T.Tour.walk in
    let entered = open-entered w g.met.T.Tour.lawful c.args.at.now c.args.levels c.requires.may c.in_ok-enter.ensures in
    let axes = ap (λ plan. (w.settings plan).dim) c.in_ok-enter.ensures.goes.plan ∙ c.requires.axes in
    (search the_rules, (search the_rules, (within.0, (within.1.0, (within.1.1.0, (within.1.1.1, (axes, (c.requires.levels, may-below w g.met.T.Tour.lawful c.args.at.now c.args.levels entered))))))))

pub visit_open-returns-in_err-walk_below : goal.visit_open-returns-in_err-walk_below
visit_open-returns-in_err-walk_below g t c =
    let w = g.T.Tour.walk in
    let entered = open-entered w g.met.T.Tour.lawful c.args.at.now c.args.levels c.requires.may c.in_ok-enter.ensures in
    rw (err-is c.from_residual-in_err-walk_below.result _ c.from_residual-in_err-walk_below.ensures.1)
    (open-unwalked w g.met.T.Tour.lawful c.args.at.now c.args.levels entered c.in_err-walk_below.ensures)

pub visit_open-leave-requires : goal.visit_open-leave-requires
visit_open-leave-requires g t c =
    let w = g.T.Tour.walk in
    let entered = open-entered w g.met.T.Tour.lawful c.args.at.now c.args.levels c.requires.may c.in_ok-enter.ensures in
    record { may = (open-walked w g.met.T.Tour.lawful c.args.at.now c.args.levels entered c.in_ok-walk_below.ensures).may }

pub visit_open-returns : goal.visit_open-returns
visit_open-returns g t c =
    let w = g.T.Tour.walk in
    let entered = open-entered w g.met.T.Tour.lawful c.args.at.now c.args.levels c.requires.may c.in_ok-enter.ensures in
    let walked = open-walked w g.met.T.Tour.lawful c.args.at.now c.args.levels entered c.in_ok-walk_below.ensures in
    open-left w g.met.T.Tour.lawful c.args.at.now c.args.levels walked c.leave.ensures

-- # Its children, if there are any
pub walk_below-walk_children-requires : goal.walk_below-walk_children-requires
walk_below-walk_children-requires g t c κs within =
    let w = g.T.Tour.walk in
    let may = c.requires.may in
    let old = open_of c.args.tour.now c.args.own.now c.args.its.now c.args.above.now c.args.parent.now in
    let some = c.in-Some.ensures.goes_on c.args.above.now c.args.parent.now in
    let fits = below-fits w g.met.T.Tour.lawful c.args.at.now c.args.levels may some in
    let few : 0 < c.args.levels = some-levels w g.met.T.Tour.lawful c.args.at.now c.in-Some.ages c.args.levels (plan_of w c.args.tour.now) (w.rested (between_of c.args.tour.now c.args.own.now c.args.its.now)) fits in
    let over : IsOver (settings_of w c.args.tour.now) c.args.at.now = record { place = may.at.place; level = omega (arith, c.requires.levels, few); state = may.at.state } in (
      search the_rules,
      (
        search the_rules,
        (
          within.0,
          (
            within.1.0,
            (
              within.1.1.0,
              (
                within.1.1.1,
                (c.requires.axes, (c.requires.levels, (few, (over, (c.in-Some.ensures.aged, (g.met.T.Tour.lawful.lowers may.from old may.since, fits)))))),
              ),
            ),
          ),
        ),
      ),
    )

pub walk_below-returns-in-Some : goal.walk_below-returns-in-Some
walk_below-returns-in-Some g t c =
    below-some g.T.Tour.walk g.met.T.Tour.lawful c.args.at.now c.args.levels c.walk_children.result (c.in-Some.ensures.goes_on c.args.above.now c.args.parent.now) c.walk_children.ensures

pub walk_below-returns-in-None : goal.walk_below-returns-in-None
walk_below-returns-in-None g t c = below-none g.T.Tour.walk g.met.T.Tour.lawful c.args.at.now c.args.levels (c.in-None.ensures.goes_on c.args.above.now c.args.parent.now)

-- # The children, one after another
pub walk_children-walk_cell-requires : goal.walk_children-walk_cell-requires
walk_children-walk_cell-requires g t c κs within =
    let w = g.T.Tour.walk in
    let at = between_of c.loop-n.tour c.loop-n.above c.loop-n.parent in
    let child = c.loop-n.child.cell in
    let again : suc (c.args.levels - 1) ≡ c.args.levels = omega (arith, c.requires.some) in
    let axes : (settings_of w c.loop-n.tour).dim ≡ g.row.AXES = ap (λ plan. (w.settings plan).dim) c.loop-n.invariant.leads.plan ∙ c.requires.axes in
    let here : settings_of w c.loop-n.tour ≡ c.settings-settings.result = ap (λ plan. w.settings plan) c.loop-n.invariant.leads.plan ∙ sym c.settings-settings.ensures in
    let parts : c.parts_in-parts.result ≡ 3 ^ (settings_of w c.loop-n.tour).dim = c.parts_in-parts.ensures.value ∙ ap (λ (s : TourSettings). 3 ^ s.dim) (sym here) in
    let below : c.loop-n.n < 3 ^ (settings_of w c.loop-n.tour).dim = omega (arith, c.loop-n-test.true, parts) in
    let may = among-may w g.met.T.Tour.lawful c.args.over.now c.args.ages c.args.levels c.loop-n.n c.requires.aged c.requires.fits below c.loop-n.invariant in
    let level : child.place.level + (c.args.levels - 1) ≤ 20 = omega (arith, (let under = ap (λ (p : Place). p.level) (c.loop-n.invariant.nth below).is.under in under), c.requires.levels, c.requires.some) in (
      search the_rules,
      (
        search the_rules,
        (
          within.0,
          (
            within.1.0,
            (
              within.1.1.0,
              (
                within.1.1.1,
                (axes, (level, (c.loop-n.invariant.empty, subst (λ n. MayWalk w child (λ plan. walk (w.steps plan) n child.place) at) (sym again) may))),
              ),
            ),
          ),
        ),
      ),
    )

pub walk_children-returns-in-Err : goal.walk_children-returns-in-Err
walk_children-returns-in-Err g t c =
    let w = g.T.Tour.walk in
    let old = between_of c.loop-n.tour c.loop-n.above c.loop-n.parent in
    let new = between_of c.walk_cell.new.tour c.walk_cell.new.above c.walk_cell.new.parent in
    let child = c.loop-n.child.cell in
    let again : suc (c.args.levels - 1) ≡ c.args.levels = omega (arith, c.requires.some) in
    let here : settings_of w c.loop-n.tour ≡ c.settings-settings.result = ap (λ plan. w.settings plan) c.loop-n.invariant.leads.plan ∙ sym c.settings-settings.ensures in
    let parts : c.parts_in-parts.result ≡ 3 ^ (settings_of w c.loop-n.tour).dim = c.parts_in-parts.ensures.value ∙ ap (λ (s : TourSettings). 3 ^ s.dim) (sym here) in
    let below : c.loop-n.n < 3 ^ (settings_of w c.loop-n.tour).dim = omega (arith, c.loop-n-test.true, parts) in
    among-fails w g.met.T.Tour.lawful c.args.over.now c.args.ages c.args.levels c.loop-n.n below c.loop-n.invariant
    (subst (λ n. Walks w (λ plan. walk (w.steps plan) n child.place) (Err c.in-Err.stop) old new) again c.in-Err.ensures.walks)

pub walk_children-loop-n-preserved : goal.walk_children-loop-n-preserved
walk_children-loop-n-preserved g t c =
    let w = g.T.Tour.walk in
    let over = c.args.over.now in
    let ages = c.args.ages in
    let first = between_of c.args.tour.now c.args.above.now c.args.parent.now in
    let old = between_of c.loop-n.tour c.loop-n.above c.loop-n.parent in
    let new = between_of c.walk_cell.new.tour c.walk_cell.new.above c.walk_cell.new.parent in
    let n = c.loop-n.n in
    let child = c.loop-n.child in
    let next = c.if-n-parts.child in
    let again : suc (c.args.levels - 1) ≡ c.args.levels = omega (arith, c.requires.some) in
    let here : settings_of w c.loop-n.tour ≡ c.settings-settings.result = ap (λ plan. w.settings plan) c.loop-n.invariant.leads.plan ∙ sym c.settings-settings.ensures in
    let parts : c.parts_in-parts.result ≡ 3 ^ (settings_of w c.loop-n.tour).dim = c.parts_in-parts.ensures.value ∙ ap (λ (s : TourSettings). 3 ^ s.dim) (sym here) in
    let below : n < 3 ^ (settings_of w c.loop-n.tour).dim = omega (arith, c.loop-n-test.true, parts) in
    let walks = subst (λ m. Walks w (λ plan. walk (w.steps plan) m child.cell.place) (Ok c.in-Ok.field-0) old new) again c.in-Ok.ensures.walks in
    let there : settings_of w c.walk_cell.new.tour ≡ c.settings-settings.result = ap (λ plan. w.settings plan) walks.goes.plan ∙ here in
    let one : n + 1 ≡ suc n = omega arith in
    let s = c.settings-settings.result in
    let count : c.parts_in-parts.result ≡ 3 ^ s.dim = c.parts_in-parts.ensures.value in
    let nth = subst (λ s. IsChild s over ages n child) here (c.loop-n.invariant.nth below) in
    let comes : n + 1 < 3 ^ s.dim → IsChild s over ages (n + 1) next = elim c.if-n-parts.branch [
      | walk_children-then-n-parts b ↦ (λ few. subst (IsChild s over ages (n + 1)) (sym b.child-is) (b.advance.ensures n few nth))
      | walk_children-else-n-parts b ↦ (λ few. absurd (omega (arith, few, count, b.if-n-parts.false)))
    ] in
    let is : suc n < 3 ^ (settings_of w c.walk_cell.new.tour).dim → IsChild (settings_of w c.walk_cell.new.tour) over ages (suc n) next = λ few.
    let few-here = subst (λ (s : TourSettings). n + 1 < 3 ^ s.dim) there (subst (λ m. m < 3 ^ (settings_of w c.walk_cell.new.tour).dim) (sym one) few) in
    subst (λ s. IsChild s over ages (suc n) next) (sym there) (subst (λ m. IsChild s over ages m next) one (comes few-here)) in
    subst (λ m. IsAmong w over ages c.args.levels first m next c.walk_cell.new.own new) (sym one)
    (among-next w g.met.T.Tour.lawful over ages c.args.levels n below c.loop-n.invariant walks is c.in-Ok.ensures.empty)

pub walk_children-returns : goal.walk_children-returns
walk_children-returns g t c =
    let w = g.T.Tour.walk in
    let here : settings_of w c.loop-n.tour ≡ c.settings-settings.result = ap (λ plan. w.settings plan) c.loop-n.invariant.leads.plan ∙ sym c.settings-settings.ensures in
    let parts : c.parts_in-parts.result ≡ 3 ^ (settings_of w c.loop-n.tour).dim = c.parts_in-parts.ensures.value ∙ ap (λ (s : TourSettings). 3 ^ s.dim) (sym here) in
    let all : c.loop-n.n ≡ 3 ^ (settings_of w c.loop-n.tour).dim = omega (arith, c.loop-n-test.false, c.loop-n.invariant.few, parts) in
    among-ends w g.met.T.Tour.lawful c.args.over.now c.args.ages c.args.levels c.loop-n.n all c.loop-n.invariant
