-- What calls of a walk may do, and do, one after another.
use Rattle.std.proofs.Common.{◌≡◌, ℕ, suc, ◌+◌, ◌-◌, ◌^◌, ◌<◌, Result, Ok, Err, sym, ap, subst, ◌∙◌, arith}
use Rattle.std.specs.Prelude.{OnOk}
use Rattle.pe_base.specs.declared.place.Place.{Place}
use Rattle.pe_base.specs.Walk.Steps.{loads, stores}
use Rattle.pe_tour.specs.declared.cell.CellAt.{CellAt}
use Rattle.pe_tour.specs.Cells.{IsAt, IsAgedBy}
use Rattle.pe_tour.specs.Going.{Goes, GoesOn, answer_by}
use Rattle.pe_tour.specs.Sights.{Between, Amid, Stage, loading, storing, around_amid}
use Rattle.pe_tour.specs.Walker.{Walker, IsLawful}
use Rattle.pe_tour.specs.Moves.{plan_of, settings_of, May, MayTouch, Touches, TouchesOn, loads_of, stores_of}
use Rattle.pe_tour.proofs.Leading.{fits-first, step-on, goes_on-then, leads-all}

module _ {S H R E : Type 0} (w : Walker S H R E) where
  -- what may be done of one course may be done of another one
  pub may-with : {X Y : Type 0} (cell : CellAt) (Holds : Between S H R → Type 0) (around : Between S H R) (course : w.Plan → w.courses.Course X) (course' : w.Plan → w.courses.Course Y)
      → May w cell Holds around course → w.courses.Fits (course' (plan_of w around.tour)) → May w cell Holds around course'
  may-with cell Holds around course course' may fits = record {
    at = may.at;
    from = may.from;
    since = may.since;
    ages = may.ages;
    were = may.were;
    are = may.are;
    by = may.by;
    fits = fits;
  }

  -- and where another call has left off
  pub may-next : {X Y : Type 0} (cell : CellAt) (Holds Holds' : Between S H R → Type 0) (around around' : Between S H R) (course : w.Plan → w.courses.Course X) (course' : w.Plan → w.courses.Course Y)
      → May w cell Holds around course → plan_of w around'.tour ≡ plan_of w around.tour
      → ((from : Between S H R) → Holds from → Holds' from)
      → ((from : Between S H R) (ages : ℕ) → Holds' from → w.AreAges from ages → w.AreAges around' ages)
      → w.courses.Fits (course' (plan_of w around'.tour)) → May w cell Holds' around' course'
  may-next cell Holds Holds' around around' course course' may same holds stay fits = record {
    at = subst (λ plan. IsAt (w.settings plan) cell) (sym same) may.at;
    from = may.from;
    since = holds may.from may.since;
    ages = may.ages;
    were = may.were;
    are = stay may.from may.ages (holds may.from may.since) may.were;
    by = subst (λ plan. IsAgedBy (w.settings plan) may.ages cell) (sym same) may.by;
    fits = fits;
  }

module _ {S H R E : Type 0} {w : Walker S H R E} where
  -- some touches, and then more
  pub touches-then : {whole rest last : w.Plan → w.Inner → w.courses.Course w.Inner} {before between after : Stage} {done : Unit {0}} {result : Result (Unit {0}) E} {old mid new : Amid S H R}
      → TouchesOn w whole rest before between (Ok done) old mid → TouchesOn w rest last between after result mid new → TouchesOn w whole last before after result old new
  touches-then {whole} {rest} {last} {before} {between} {after} {done} {result} {old} {mid} {new} one two = record {
    goes = goes_on-then w.courses (λ plan. whole plan (w.inner old)) (λ plan. rest plan (w.inner mid)) (λ plan. last plan (w.inner new))
        (answer_by (w.failure new.tour) result) (w.here old.tour) (w.here mid.tour) (w.here new.tour) one.goes two.goes;
    within = λ from holds. two.within from (one.within from holds);
  }

  -- a touch that fails fails the rest
  pub touches-fail : {whole rest last : w.Plan → w.Inner → w.courses.Course w.Inner} {before after after' : Stage} {stop : E} {old new : Amid S H R}
      → TouchesOn w whole rest before after (Err stop) old new → TouchesOn w whole last before after' (Err stop) old new
  touches-fail on = record { goes = on.goes; within = on.within }

module _ {S H R E : Type 0} (w : Walker S H R E) (lawful : IsLawful w) where
  -- after some touches the others may be made
  pub touches-may : (cell : CellAt) (whole rest : w.Plan → w.Inner → w.courses.Course w.Inner) (before after : Stage) (result : Result (Unit {0}) E) (old new : Amid S H R)
      → MayTouch w cell before whole old → TouchesOn w whole rest before after result old new → OnOk result (MayTouch w cell after rest new)
  touches-may cell whole rest before after (Ok done) old new may on =
      may-next w cell (λ from. w.Within before from old) (λ from. w.Within after from new) (around_amid old) (around_amid new) (λ plan. whole plan (w.inner old)) (λ plan. rest plan (w.inner new))
      may on.goes.plan on.within (λ from ages holds were. lawful.ages_within after from new ages holds were) (on.goes.fits may.fits)
  touches-may cell whole rest before after (Err stop) old new may on = tt

  -- # Loads
  pub load-may : (cell : CellAt) (k : ℕ) (amid : Amid S H R) → MayTouch w cell (loading (suc k)) (loads_of w cell.place (suc k)) amid
      → MayTouch w cell (loading (suc k)) (λ plan. (w.steps plan).load cell.place k) amid
  load-may cell k amid may =
      may-with w cell (λ from. w.Within (loading (suc k)) from amid) (around_amid amid) (λ plan. loads (w.steps plan) cell.place (suc k) (w.inner amid)) (λ plan. (w.steps plan).load cell.place k (w.inner amid))
      may (fits-first w.courses (λ plan. (w.steps plan).load cell.place k (w.inner amid)) (λ plan. loads (w.steps plan) cell.place k) (plan_of w amid.tour) may.fits)

  pub load-on : (cell : CellAt) (k : ℕ) (result : Result (Unit {0}) E) (old new : Amid S H R)
      → Touches w (λ plan. (w.steps plan).load cell.place k) (loading (suc k)) (loading k) result old new
      → TouchesOn w (loads_of w cell.place (suc k)) (loads_of w cell.place k) (loading (suc k)) (loading k) result old new
  load-on cell k result old new touches = record {
    goes = step-on w.courses (λ plan. (w.steps plan).load cell.place k (w.inner old)) (λ plan. loads (w.steps plan) cell.place k) (w.inner new)
        (answer_by (w.failure new.tour) result) (w.here old.tour) (w.here new.tour) touches.goes;
    within = touches.within;
  }

  -- all of them
  pub loads-all : (place : Place) (n m : ℕ) (result : Result (Unit {0}) E) (old new : Amid S H R) → n ≡ m
      → TouchesOn w (loads_of w place m) (loads_of w place 0) (loading m) (loading 0) result old new → Touches w (loads_of w place n) (loading n) (loading 0) result old new
  loads-all place n m result old new same on =
      subst (λ k. Touches w (loads_of w place k) (loading k) (loading 0) result old new) (sym same)
      (record { goes = leads-all w.courses (λ plan. loads (w.steps plan) place m (w.inner old)) (w.inner new) (answer_by (w.failure new.tour) result) (w.here old.tour) (w.here new.tour) on.goes; within = on.within })

  pub loads-may : (cell : CellAt) (n m : ℕ) (amid : Amid S H R) → n ≡ m → MayTouch w cell (loading n) (loads_of w cell.place n) amid → MayTouch w cell (loading m) (loads_of w cell.place m) amid
  loads-may cell n m amid same may = subst (λ k. MayTouch w cell (loading k) (loads_of w cell.place k) amid) same may

  -- # Stores
  -- those that are left from a corner on
  pub store-left : (k n : ℕ) → k < n → n - k ≡ suc (n - suc k)
  store-left k n below = omega (arith, below)

  pub store-may : (cell : CellAt) (k : ℕ) (amid : Amid S H R) → k < 2 ^ (settings_of w amid.tour).dim
      → MayTouch w cell (storing k) (stores_of w cell.place k (2 ^ (settings_of w amid.tour).dim - k)) amid
      → MayTouch w cell (storing k) (λ plan. (w.steps plan).store cell.place k) amid
  store-may cell k amid below may =
      may-with w cell (λ from. w.Within (storing k) from amid) (around_amid amid) (λ plan. stores (w.steps plan) cell.place k (2 ^ (settings_of w amid.tour).dim - k) (w.inner amid)) (λ plan. (w.steps plan).store cell.place k (w.inner amid))
      may (fits-first w.courses (λ plan. (w.steps plan).store cell.place k (w.inner amid)) (λ plan. stores (w.steps plan) cell.place (k + 1) (2 ^ (settings_of w amid.tour).dim - suc k)) (plan_of w amid.tour)
      (subst (λ n. w.courses.Fits (stores (w.steps (plan_of w amid.tour)) cell.place k n (w.inner amid))) (store-left k (2 ^ (settings_of w amid.tour).dim) below) may.fits))

  -- a step of those from one corner on, where so many are left
  step-store : (cell : CellAt) (k left : ℕ) (result : Result (Unit {0}) E) (old new : Amid S H R)
      → Touches w (λ plan. (w.steps plan).store cell.place k) (storing k) (storing (suc k)) result old new
      → TouchesOn w (stores_of w cell.place k (suc left)) (stores_of w cell.place (suc k) left) (storing k) (storing (suc k)) result old new
  step-store cell k left result old new touches =
      let next : k + 1 ≡ suc k = omega arith in
      subst (λ n. TouchesOn w (stores_of w cell.place k (suc left)) (stores_of w cell.place n left) (storing k) (storing (suc k)) result old new) next
      (record {
        goes = step-on w.courses (λ plan. (w.steps plan).store cell.place k (w.inner old)) (λ plan. stores (w.steps plan) cell.place (k + 1) left) (w.inner new)
            (answer_by (w.failure new.tour) result) (w.here old.tour) (w.here new.tour) touches.goes;
        within = touches.within;
      })

  pub store-on : (cell : CellAt) (k : ℕ) (result : Result (Unit {0}) E) (old new : Amid S H R) → k < 2 ^ (settings_of w old.tour).dim
      → Touches w (λ plan. (w.steps plan).store cell.place k) (storing k) (storing (suc k)) result old new
      → TouchesOn w (stores_of w cell.place k (2 ^ (settings_of w old.tour).dim - k)) (stores_of w cell.place (suc k) (2 ^ (settings_of w new.tour).dim - suc k)) (storing k) (storing (suc k)) result old new
  store-on cell k result old new below touches =
      let On : w.Plan → ℕ → Type 0 = λ plan left. TouchesOn w (stores_of w cell.place k left) (stores_of w cell.place (suc k) (2 ^ (w.settings plan).dim - suc k)) (storing k) (storing (suc k)) result old new in
      subst (λ plan. On plan (2 ^ (settings_of w old.tour).dim - k)) (sym touches.goes.plan)
      (subst (On (plan_of w old.tour)) (sym (store-left k (2 ^ (settings_of w old.tour).dim) below))
      (step-store cell k (2 ^ (settings_of w old.tour).dim - suc k) result old new touches))

  pub stores-may : (cell : CellAt) (k : ℕ) (result : Result (Unit {0}) E) (old new : Amid S H R) → k < 2 ^ (settings_of w old.tour).dim
      → MayTouch w cell (storing k) (stores_of w cell.place k (2 ^ (settings_of w old.tour).dim - k)) old
      → Touches w (λ plan. (w.steps plan).store cell.place k) (storing k) (storing (suc k)) result old new
      → OnOk result (MayTouch w cell (storing (suc k)) (stores_of w cell.place (suc k) (2 ^ (settings_of w new.tour).dim - suc k)) new)
  stores-may cell k result old new below may touches =
      touches-may cell (stores_of w cell.place k (2 ^ (settings_of w old.tour).dim - k)) (stores_of w cell.place (suc k) (2 ^ (settings_of w new.tour).dim - suc k)) (storing k) (storing (suc k)) result old new
      may (store-on cell k result old new below touches)

  -- all of them
  pub stores-all : (place : Place) (axes : ℕ) (m : ℕ) (result : Result (Unit {0}) E) (old new : Amid S H R) → (settings_of w old.tour).dim ≡ axes → 2 ^ axes ≡ m
      → TouchesOn w (stores_of w place 0 (2 ^ (settings_of w old.tour).dim - 0)) (stores_of w place m (2 ^ (settings_of w new.tour).dim - m)) (storing 0) (storing m) result old new
      → Touches w (stores_of w place 0 (2 ^ (settings_of w old.tour).dim)) (storing 0) (storing (2 ^ (settings_of w old.tour).dim)) result old new
  stores-all place axes m (Ok done) old new same corners on =
      let dim : 2 ^ (settings_of w old.tour).dim ≡ m = ap (λ n. 2 ^ n) same ∙ corners in
      let last : 2 ^ (settings_of w new.tour).dim ≡ m = ap (λ plan. 2 ^ (w.settings plan).dim) on.goes.plan ∙ dim in
      let none : 2 ^ (settings_of w new.tour).dim - m ≡ 0 = omega (arith, last) in
      let all : 2 ^ (settings_of w old.tour).dim - 0 ≡ 2 ^ (settings_of w old.tour).dim = omega arith in
      let it = subst (λ left. GoesOn w.courses (λ plan. stores (w.steps plan) place 0 left (w.inner old)) (λ plan. stores (w.steps plan) place m (2 ^ (settings_of w new.tour).dim - m) (w.inner new)) (Ok done) (w.here old.tour) (w.here new.tour)) all on.goes in
      let done-all = subst (λ left. GoesOn w.courses (λ plan. stores (w.steps plan) place 0 (2 ^ (settings_of w old.tour).dim) (w.inner old)) (λ plan. stores (w.steps plan) place m left (w.inner new)) (Ok done) (w.here old.tour) (w.here new.tour)) none it in
      record {
        goes = leads-all w.courses (λ plan. stores (w.steps plan) place 0 (2 ^ (settings_of w old.tour).dim) (w.inner old)) (w.inner new) (Ok done) (w.here old.tour) (w.here new.tour) done-all;
        within = λ from holds. subst (λ k. w.Within (storing k) from new) (sym dim) (on.within from holds);
      }
  stores-all place axes m (Err stop) old new same corners on =
      let all : 2 ^ (settings_of w old.tour).dim - 0 ≡ 2 ^ (settings_of w old.tour).dim = omega arith in
      record {
        goes = subst (λ left. Goes w.courses (λ plan. stores (w.steps plan) place 0 left (w.inner old)) (λ (done : Unit {0}). w.inner new) (Err (w.failure new.tour stop)) (w.here old.tour) (w.here new.tour)) all
            (on.goes (λ (done : Unit {0}). w.inner new));
        within = on.within;
      }

  pub stores-start : (cell : CellAt) (amid : Amid S H R) → MayTouch w cell (storing 0) (stores_of w cell.place 0 (2 ^ (settings_of w amid.tour).dim)) amid
      → MayTouch w cell (storing 0) (stores_of w cell.place 0 (2 ^ (settings_of w amid.tour).dim - 0)) amid
  stores-start cell amid may = subst (λ left. MayTouch w cell (storing 0) (stores_of w cell.place 0 left) amid) (omega arith) may
