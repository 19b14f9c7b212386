-- The children of a cell, one after another.
use Rattle.std.proofs.Common.{◌≡◌, ℕ, zero, suc, ◌^◌, ◌<◌, ◌≤◌, List, [], ◌∷◌, drop, length, Ok, Err, Some, refl, sym, ap, subst, ◌∙◌, arith}
use Rattle.std.specs.Prelude.{false, true, slice_get}
use Rattle.pe_base.specs.declared.place.Place.{Place}
use Rattle.pe_base.specs.Tree.Places.{child_at}
use Rattle.pe_base.specs.Tree.Curve.{children, child_digits, flips}
use Rattle.std.proofs.lemmas.List.{length-map}
use Rattle.pe_base.proofs.Tree.CurveLaws.{length-child_digits, power_positive}
use Rattle.pe_base.specs.Walk.Steps.{walk, walks_children, in_turn}
use Rattle.pe_tour.specs.declared.cell.CellAt.{CellAt}
use Rattle.pe_tour.specs.declared.child.Child.{Child}
use Rattle.pe_tour.specs.Cells.{IsNth, IsChild}
use Rattle.pe_tour.specs.Going.{Leads}
use Rattle.pe_tour.specs.Sights.{Between}
use Rattle.pe_tour.specs.Walker.{Walker, IsLawful}
use Rattle.pe_tour.specs.Moves.{plan_of, settings_of, MayWalk, Walks}
use Rattle.pe_tour.proofs.Leading.{goes-as, goes-ends, goes-fails, leads-start, leads-then, leads-step}

module _ {S H R E : Type 0} (w : Walker S H R E) (over : CellAt) (ages levels : ℕ) where
  -- the children from a number on are to be walked
  abbrev pub to_come : ℕ → w.Plan → w.Rested → w.courses.Course w.Rested
  to_come n plan = in_turn (w.steps plan) (walk (w.steps plan) levels) (drop n (children (w.steps plan).axes (w.steps plan).way over.place))

  pub record IsAmong (old : Between S H R) (n : ℕ) (child : Child) (own : H) (now : Between S H R) : Type 0 where
    pub leads : Leads w.courses (λ plan. walks_children (w.steps plan) (walk (w.steps plan) levels) over.place (w.rested old)) (λ plan. to_come n plan (w.rested now)) (w.here old.tour) (w.here now.tour)
    pub ready : w.Ready false old now
    pub nth : n < 3 ^ (settings_of w now.tour).dim → IsChild (settings_of w now.tour) over ages n child
    pub few : n ≤ 3 ^ (settings_of w now.tour).dim
    pub empty : w.IsEmpty (plan_of w now.tour) own

-- the items from a number on
drop-at : {X : Type 0} (xs : List X) (n : ℕ) (x : X) → slice_get xs n ≡ Some x → drop n xs ≡ x ∷ drop (suc n) xs
drop-at [] zero x is = absurd cc
drop-at [] (suc n) x is = absurd cc
drop-at (y ∷ ys) zero x is = let same : y ≡ x = cc in ap (λ z. z ∷ ys) same
drop-at (y ∷ ys) (suc n) x is = drop-at ys n x is

drop-all : {X : Type 0} (xs : List X) (n : ℕ) → length xs ≡ n → drop n xs ≡ []
drop-all [] zero is = refl
drop-all [] (suc n) is = refl
drop-all (x ∷ xs) zero is = absurd (omega (arith, is))
drop-all (x ∷ xs) (suc n) is = drop-all xs n (omega (arith, is))

module _ {S H R E : Type 0} (w : Walker S H R E) (lawful : IsLawful w) (over : CellAt) (ages levels : ℕ) where
  abbrev whole : Between S H R → w.Plan → w.courses.Course w.Rested
  whole old plan = walks_children (w.steps plan) (walk (w.steps plan) levels) over.place (w.rested old)

  abbrev to_walk : CellAt → w.Plan → w.Rested → w.courses.Course w.Rested
  to_walk child plan = walk (w.steps plan) levels child.place

  -- none is walked yet
  pub among-starts : {at : Between S H R} {own : H} {child : Child} → w.Ready false at at → IsChild (settings_of w at.tour) over ages 0 child → w.IsEmpty (plan_of w at.tour) own
      → IsAmong w over ages levels at 0 child own at
  among-starts {at} {own} {child} ready nth empty = record {
    leads = leads-start w.courses (λ plan. to_come w over ages levels 0 plan (w.rested at)) (w.here at.tour);
    ready = ready;
    nth = λ few. nth;
    few = omega arith;
    empty = empty;
  }

  -- the next one may be walked
  to_come-is : (at : Between S H R) (child : CellAt) (n : ℕ) → IsNth (settings_of w at.tour) over ages n child
      → to_come w over ages levels n (plan_of w at.tour) (w.rested at) ≡ w.courses.and_then (to_walk child (plan_of w at.tour) (w.rested at)) (to_come w over ages levels (suc n) (plan_of w at.tour))
  to_come-is at child n is =
      let plan = plan_of w at.tour in
      let walks = in_turn (w.steps plan) (walk (w.steps plan) levels) in
      let nth = ap (λ axes. slice_get (children axes (w.steps plan).way over.place) n) (lawful.axes plan) ∙ ap (λ way. slice_get (children (w.settings plan).dim way over.place) n) (lawful.ways plan) ∙ is.nth in
      ap (λ cells. walks cells (w.rested at)) (drop-at (children (w.steps plan).axes (w.steps plan).way over.place) n child.place nth)

  pub among-may : {old at : Between S H R} {own : H} {child : Child} (n : ℕ) → w.AreAges old ages → w.courses.Fits (whole old (plan_of w old.tour)) → n < 3 ^ (settings_of w at.tour).dim
      → IsAmong w over ages levels old n child own at → MayWalk w child.cell (to_walk child.cell) at
  among-may {old} {at} {own} {child} n are fits below among = record {
    at = (among.nth below).is.at;
    from = old;
    since = among.ready;
    ages = ages;
    were = are;
    are = lawful.ages_stay old at ages among.ready are;
    by = (among.nth below).is.aged;
    fits = w.courses.fits_first (to_walk child.cell (plan_of w at.tour) (w.rested at)) (to_come w over ages levels (suc n) (plan_of w at.tour))
        (subst w.courses.Fits (to_come-is at child.cell n (among.nth below).is) (among.leads.fits fits));
  }

  -- it is walked
  pub among-next : {old at new : Between S H R} {own own' : H} {child child' : Child} {done : Unit {0}} (n : ℕ) → n < 3 ^ (settings_of w at.tour).dim → IsAmong w over ages levels old n child own at
      → Walks w (to_walk child.cell) (Ok done) at new → (suc n < 3 ^ (settings_of w new.tour).dim → IsChild (settings_of w new.tour) over ages (suc n) child') → w.IsEmpty (plan_of w new.tour) own'
      → IsAmong w over ages levels old (suc n) child' own' new
  among-next {old} {at} {new} {own} {own'} {child} {child'} {done} n below among walks nth empty =
      let steps = leads-step w.courses (λ plan. to_walk child.cell plan (w.rested at)) (λ plan. to_come w over ages levels (suc n) plan) (w.rested new) (w.here at.tour) (w.here new.tour) done walks.goes in
      let is = to_come-is at child.cell n (among.nth below).is in
      let dims = ap (λ plan. 3 ^ (w.settings plan).dim) walks.goes.plan in
      record {
        leads = leads-then w.courses (whole old) (λ plan. to_come w over ages levels n plan (w.rested at)) (λ plan. to_come w over ages levels (suc n) plan (w.rested new)) (w.here old.tour) (w.here at.tour) (w.here new.tour) among.leads
            (record {
              plan = steps.plan;
              goes = λ after answer end goes. goes-as w.courses (λ plan. w.courses.and_then (to_walk child.cell plan (w.rested at)) (to_come w over ages levels (suc n) plan)) (λ plan. to_come w over ages levels n plan (w.rested at)) after answer
                  (w.here at.tour) end (sym is) (steps.goes after answer end goes);
              fits = λ fits. steps.fits (subst w.courses.Fits is fits);
            });
        ready = lawful.joins old at new false among.ready (walks.ready at (lawful.starts old at among.ready));
        nth = nth;
        few = omega (arith, below, dims);
        empty = empty;
      }

  -- it fails
  pub among-fails : {old at new : Between S H R} {own : H} {child : Child} {stop : E} (n : ℕ) → n < 3 ^ (settings_of w at.tour).dim → IsAmong w over ages levels old n child own at
      → Walks w (to_walk child.cell) (Err stop) at new → Walks w (λ plan. walks_children (w.steps plan) (walk (w.steps plan) levels) over.place) (Err stop) old new
  among-fails {old} {at} {new} {own} {child} {stop} n below among walks =
      let after = λ (done : Unit {0}). w.rested new in
      record {
        goes = among.leads.goes after (Err (w.failure new.tour stop)) (w.here new.tour)
            (goes-as w.courses (λ plan. w.courses.and_then (to_walk child.cell plan (w.rested at)) (to_come w over ages levels (suc n) plan)) (λ plan. to_come w over ages levels n plan (w.rested at)) after (Err (w.failure new.tour stop))
            (w.here at.tour) (w.here new.tour) (sym (to_come-is at child.cell n (among.nth below).is))
            (goes-fails w.courses (λ plan. to_walk child.cell plan (w.rested at)) (λ plan. to_come w over ages levels (suc n) plan) after after (w.failure new.tour stop) (w.here at.tour) (w.here new.tour) walks.goes));
        ready = λ from holds. lawful.joins from at new true (lawful.joins from old at false holds among.ready) (walks.ready at (lawful.starts old at among.ready));
      }

  -- all are walked
  pub among-ends : {old at : Between S H R} {own : H} {child : Child} {done : Unit {0}} (n : ℕ) → n ≡ 3 ^ (settings_of w at.tour).dim → IsAmong w over ages levels old n child own at
      → Walks w (λ plan. walks_children (w.steps plan) (walk (w.steps plan) levels) over.place) (Ok done) old at
  among-ends {old} {at} {own} {child} {done} n all among =
      let plan = plan_of w at.tour in
      let after = λ (done : Unit {0}). w.rested at in
      let count : length (children (w.steps plan).axes (w.steps plan).way over.place) ≡ n = length-map (child_digits (w.steps plan).axes (w.steps plan).way (flips (w.steps plan).axes over.place.pos)) (child_at over.place) ∙ length-child_digits (w.steps plan).axes (w.steps plan).way (flips (w.steps plan).axes over.place.pos) ∙ ap (λ axes. 3 ^ axes) (lawful.axes plan) ∙ sym all in
      record {
        goes = among.leads.goes after (Ok done) (w.here at.tour)
            (goes-as w.courses (λ plan. w.courses.at_once (w.rested at)) (λ plan. to_come w over ages levels n plan (w.rested at)) after (Ok done) (w.here at.tour) (w.here at.tour)
            (ap (λ cells. in_turn (w.steps plan) (walk (w.steps plan) levels) cells (w.rested at)) (sym (drop-all (children (w.steps plan).axes (w.steps plan).way over.place) n count)))
            (goes-ends w.courses after done (w.here at.tour)));
        ready = λ from holds. lawful.joins from old at false holds among.ready;
      }

  -- there are levels below, if children may be walked
  pub some-levels : (plan : w.Plan) (b : w.Rested) → w.courses.Fits (walks_children (w.steps plan) (walk (w.steps plan) levels) over.place b) → 0 < levels
  some-levels plan b fits = by levels fits
    where
      stuck : (cells : List Place) → 0 < length cells → w.courses.Fits (in_turn (w.steps plan) (walk (w.steps plan) 0) cells b) → ⊥
      stuck [] some fits = absurd (omega (arith, some))
      stuck (cell ∷ cells) some fits = w.courses.unfit (w.courses.fits_first (w.courses.stuck) (in_turn (w.steps plan) (walk (w.steps plan) 0) cells) fits)

      count : 0 < length (children (w.steps plan).axes (w.steps plan).way over.place)
      count =
          let all = length-map (child_digits (w.steps plan).axes (w.steps plan).way (flips (w.steps plan).axes over.place.pos)) (child_at over.place)
          ∙ length-child_digits (w.steps plan).axes (w.steps plan).way (flips (w.steps plan).axes over.place.pos) in
          omega (arith, all, power_positive (w.steps plan).axes)

      by : (n : ℕ) → w.courses.Fits (walks_children (w.steps plan) (walk (w.steps plan) n) over.place b) → 0 < n
      by zero fits = absurd (stuck (children (w.steps plan).axes (w.steps plan).way over.place) count fits)
      by (suc n) fits = omega arith
