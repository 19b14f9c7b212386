-- A call that is under way: some of its course is done, and the rest may be done.
use Rattle.std.proofs.Common.{ℕ, Ok, Err}
use Rattle.pe_tour.specs.declared.cell.CellAt.{CellAt}
use Rattle.pe_tour.specs.Going.{Here, Goes, Leads}
use Rattle.pe_tour.specs.Sights.{Between}
use Rattle.pe_tour.specs.Walker.{Walker}
use Rattle.pe_tour.specs.Moves.{plan_of, May}
use Rattle.pe_tour.proofs.Leading.{goes-fails, fits-first, fits-then, goes-then, leads-start, leads-then}
use Rattle.pe_tour.proofs.Moving.{may-with, may-next}

module _ {S H R E : Type 0} (w : Walker S H R E) (cell : CellAt) where
  pub record Underway {Y : Type 0} (whole rest : w.Plan → w.courses.Course Y) (Start Now : Between S H R → Type 0) (old now : Between S H R) : Type 0 where
    pub may : May w cell Now now rest
    pub leads : Leads w.courses whole rest (w.here old.tour) (w.here now.tour)
    pub since : (from : Between S H R) → Start from → Now from

  pub under-starts : {Y : Type 0} (whole : w.Plan → w.courses.Course Y) (Start : Between S H R → Type 0) (old : Between S H R) → May w cell Start old whole → Underway whole whole Start Start old old
  under-starts whole Start old may = record { may = may; leads = leads-start w.courses whole (w.here old.tour); since = λ from holds. holds }

module _ {S H R E : Type 0} {w : Walker S H R E} {cell : CellAt} {X Y : Type 0} {whole : w.Plan → w.courses.Course Y} {Start Now : Between S H R → Type 0} {old now : Between S H R}
    (first : w.Plan → w.courses.Course X) (next : w.Plan → X → w.courses.Course Y)
    (under : Underway w cell whole (λ plan. w.courses.and_then (first plan) (next plan)) Start Now old now) where
  -- the next call may be made
  pub under-first : May w cell Now now first
  under-first = may-with w cell Now now (λ plan. w.courses.and_then (first plan) (next plan)) first under.may (fits-first w.courses first next (plan_of w now.tour) under.may.fits)

  -- it comes through, and the rest is left
  pub under-next : {A : Type 0} (mid : A → X) (a : A) (Next : Between S H R → Type 0) (after : Between S H R) → Goes w.courses first mid (Ok a) (w.here now.tour) (w.here after.tour)
      → ((from : Between S H R) → Now from → Next from) → ((from : Between S H R) (ages : ℕ) → Next from → w.AreAges from ages → w.AreAges after ages)
      → Underway w cell whole (λ plan. next plan (mid a)) Start Next old after
  under-next mid a Next after goes holds stay = record {
    may = may-next w cell Now Next now after (λ plan. w.courses.and_then (first plan) (next plan)) (λ plan. next plan (mid a)) under.may goes.plan holds stay
        (fits-then w.courses first next mid a (w.here now.tour) (w.here after.tour) under.may.fits goes);
    leads = leads-then w.courses whole (λ plan. w.courses.and_then (first plan) (next plan)) (λ plan. next plan (mid a)) (w.here old.tour) (w.here now.tour) (w.here after.tour) under.leads
        (record {
          plan = goes.plan;
          goes = λ to answer new two. goes-then w.courses first next mid a to answer (w.here now.tour) (w.here after.tour) new goes two;
          fits = λ fits. fits-then w.courses first next mid a (w.here now.tour) (w.here after.tour) fits goes;
        });
    since = λ from holds-then. holds from (under.since from holds-then);
  }

  -- it fails, and so does the whole
  pub under-fails : {A : Type 0} (mid : A → X) (to : Unit {0} → Y) (failure : w.Failure) (new : Here w.Plan w.Found) → Goes w.courses first mid (Err failure) (w.here now.tour) new
      → Goes w.courses whole to (Err failure) (w.here old.tour) new
  under-fails mid to failure new goes =
      under.leads.goes to (Err failure) new (goes-fails w.courses first next mid to failure (w.here now.tour) new goes)
