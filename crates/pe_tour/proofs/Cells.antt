-- A cell with all below it: it is counted and visited, and nothing is in hand afterwards.
use Rattle.std.proofs.Common.{ℕ, suc, ◌^◌, Ok, Err, sym, ap, subst}
use Rattle.std.specs.Prelude.{false, true}
use Rattle.pe_base.specs.Walk.Steps.{walk, visits}
use Rattle.pe_tour.specs.declared.cell.CellAt.{CellAt}
use Rattle.pe_tour.specs.Going.{Goes}
use Rattle.pe_tour.specs.Sights.{Between, Amid, loading, storing, failed, around_amid, between_of}
use Rattle.pe_tour.specs.Walker.{Walker, IsLawful}
use Rattle.pe_tour.specs.Moves.{plan_of, settings_of, MayWalk, MayTouch, Walks, Touches, Counts, GivesUp}
use Rattle.pe_tour.proofs.Leading.{goes-as, goes-ends, goes-rests}
use Rattle.pe_tour.proofs.Underway.{Underway, under-starts, under-first, under-next, under-fails}

module _ {S H R E : Type 0} (w : Walker S H R E) (lawful : IsLawful w) (cell : CellAt) (levels : ℕ) where
  abbrev to_count : w.Plan → w.Rested → w.courses.Course w.Inner
  to_count plan = (w.steps plan).count cell.place

  abbrev to_visit : w.Plan → w.Inner → w.courses.Course w.Inner
  to_visit plan = visits (w.steps plan) (walk (w.steps plan) levels) cell.place

  abbrev to_close : w.Plan → w.Inner → w.courses.Course w.Rested
  to_close plan v = w.courses.at_once ((w.steps plan).close v)

  abbrev after_count : w.Plan → w.Inner → w.courses.Course w.Rested
  after_count plan v = w.courses.and_then (to_visit plan v) (to_close plan)

  abbrev to_walk : w.Plan → w.Rested → w.courses.Course w.Rested
  to_walk plan = walk (w.steps plan) (suc levels) cell.place

  abbrev CellAfter : Between S H R → (w.Plan → w.Inner → w.courses.Course w.Rested) → Amid S H R → Type 0
  CellAfter old rest now = Underway w cell (λ plan. to_walk plan (w.rested old)) (λ plan. rest plan (w.inner now))
      (λ from. w.Ready false from old) (λ from. w.Within (loading (2 ^ (settings_of w now.tour).dim)) from now) old (around_amid now)

  pub cell-starts : {old : Between S H R} → MayWalk w cell to_walk old → Underway w cell (λ plan. to_walk plan (w.rested old)) (λ plan. to_walk plan (w.rested old)) (λ from. w.Ready false from old) (λ from. w.Ready false from old) old old
  cell-starts {old} may = under-starts w cell (λ plan. to_walk plan (w.rested old)) (λ from. w.Ready false from old) old may

  pub may-count : {old : Between S H R} → MayWalk w cell to_walk old → MayWalk w cell to_count old
  may-count {old} may = under-first (λ plan. to_count plan (w.rested old)) after_count (cell-starts may)

  pub cell-counted : {old : Between S H R} {now : Amid S H R} {done : Unit {0}} → MayWalk w cell to_walk old → Counts w to_count (Ok done) old now → CellAfter old after_count now
  cell-counted {old} {now} {done} may counts =
      under-next (λ plan. to_count plan (w.rested old)) after_count (cell-starts may) (λ (done : Unit {0}). w.inner now) done (λ from. w.Within (loading (2 ^ (settings_of w now.tour).dim)) from now) (around_amid now)
      counts.goes counts.ready (λ from ages holds were. lawful.ages_within (loading (2 ^ (settings_of w now.tour).dim)) from now ages holds were)

  pub cell-uncounted : {old : Between S H R} {now : Amid S H R} {stop : E} → MayWalk w cell to_walk old → Counts w to_count (Err stop) old now → Walks w to_walk (Err stop) old (around_amid now)
  cell-uncounted {old} {now} {stop} may counts = record {
    goes = under-fails (λ plan. to_count plan (w.rested old)) after_count (cell-starts may) (λ (done : Unit {0}). w.inner now) (λ (done : Unit {0}). w.rested (around_amid now)) (w.failure now.tour stop) (w.here now.tour) counts.goes;
    ready = counts.ready;
  }

  pub may-visit : {old : Between S H R} {now : Amid S H R} → CellAfter old after_count now → MayTouch w cell (loading (2 ^ (settings_of w now.tour).dim)) to_visit now
  may-visit {old} {now} under = under-first (λ plan. to_visit plan (w.inner now)) to_close under

  -- it is visited
  pub cell-visited : {old : Between S H R} {now new : Amid S H R} {done : Unit {0}} → CellAfter old after_count now
      → Touches w to_visit (loading (2 ^ (settings_of w now.tour).dim)) (storing (2 ^ (settings_of w now.tour).dim)) (Ok done) now new
      → Walks w to_walk (Ok done) old (around_amid new) × w.IsEmpty (plan_of w new.tour) new.own
  cell-visited {old} {now} {new} {done} under touches = (walked, (let both = ends under.may.from (touches.within under.may.from under.may.since) in both.1))
    where
      at_end : (from : Between S H R) → w.Within (storing (2 ^ (settings_of w now.tour).dim)) from new → w.Within (storing (2 ^ (settings_of w new.tour).dim)) from new
      at_end from holds = subst (λ plan. w.Within (storing (2 ^ (w.settings plan).dim)) from new) (sym touches.goes.plan) holds

      ends : (from : Between S H R) → w.Within (storing (2 ^ (settings_of w now.tour).dim)) from new → w.Ready false from (around_amid new) × w.IsEmpty (plan_of w new.tour) new.own
      ends from holds = lawful.ends from new (at_end from holds)

      after : Unit {0} → w.Rested
      after done = w.rested (around_amid new)

      closed : Goes w.courses (λ plan. to_close plan (w.inner new)) after (Ok done) (w.here new.tour) (w.here new.tour)
      closed = goes-as w.courses (λ plan. w.courses.at_once (w.rested (around_amid new))) (λ plan. to_close plan (w.inner new)) after (Ok done) (w.here new.tour) (w.here new.tour)
          (ap w.courses.at_once (sym (lawful.closes (plan_of w new.tour) new))) (goes-ends w.courses after done (w.here new.tour))

      walked : Walks w to_walk (Ok done) old (around_amid new)
      walked = record {
        goes = (under-next (λ plan. to_visit plan (w.inner now)) to_close under (λ (done : Unit {0}). w.inner new) done (λ from. w.Within (storing (2 ^ (settings_of w now.tour).dim)) from new) (around_amid new)
            touches.goes touches.within (λ from ages holds were. lawful.ages_within (storing (2 ^ (settings_of w now.tour).dim)) from new ages holds were)).leads.goes after (Ok done) (w.here new.tour) closed;
        ready = λ from holds. (ends from (touches.within from (under.since from holds))).0;
      }

  -- or it fails
  pub cell-unvisited : {old : Between S H R} {now new : Amid S H R} {stop : E} (tour : S) → CellAfter old after_count now
      → Touches w to_visit (loading (2 ^ (settings_of w now.tour).dim)) (storing (2 ^ (settings_of w now.tour).dim)) (Err stop) now new
      → GivesUp w new.tour tour → ((from : Between S H R) → w.Within failed from new → w.Ready true from (between_of tour new.above new.parent))
      → Walks w to_walk (Err stop) old (between_of tour new.above new.parent)
  cell-unvisited {old} {now} {new} {stop} tour under touches given ready =
      let after = λ (done : Unit {0}). w.rested (between_of tour new.above new.parent) in
      record {
        goes = subst (λ failure. Goes w.courses (λ plan. to_walk plan (w.rested old)) after (Err failure) (w.here old.tour) (w.here tour)) (sym (given.failure stop))
            (goes-rests w.courses (λ plan. to_walk plan (w.rested old)) after (w.failure new.tour stop) (w.here old.tour) (w.here new.tour) (w.here tour)
            (under-fails (λ plan. to_visit plan (w.inner now)) to_close under (λ (done : Unit {0}). w.inner new) after (w.failure new.tour stop) (w.here new.tour) touches.goes) given.rests);
        ready = λ from holds. ready from (touches.within from (under.since from holds));
      }
