-- The numbers of the axes from one on are made anew.
use Rattle.std.proofs.Common.{◌≡◌, ℕ, ◌-◌, ◌<◌, ◌≤◌, ◌≢◌, length, set, sym, ap, ◌∙◌, subst, inl, inr, arith}
use Rattle.std.specs.Prelude.{slice_get, Some}
use Rattle.std.proofs.lemmas.Bool.{cases_lt}
use Rattle.std.proofs.lemmas.List.{length-set}
use Rattle.std.proofs.lemmas.Option.{slice_get_within}
use Rattle.pe_base.specs.Limits.{most_levels}
use Rattle.pe_base.specs.Tree.Places.{IsDigits, child_at}
use Rattle.pe_access.specs.declared.numbers.Axis.{Axis}
use Rattle.pe_access.specs.Numbers.{axis_of}
use Rattle.pe_access.specs.Faces.{extent_of}
use Rattle.pe_access.proofs.RowLaws.{along_is}
use Rattle.pe_access.proofs.StepLaws.{walked_axis, kept_axis, StandsFor-turned, slice_get-set_same, slice_get-set_other}
use Rattle.pe_access.proofs.state.CellState.turn.Goals as goal

pub loop-axis-preserved : goal.loop-axis-preserved
loop-axis-preserved c =
    let loop = c.loop-axis in
    let is = loop.invariant in
    let along = loop.child.along in
    let k = loop.axis in
    let new = c.walked.result in
    let digits = c.args.digits in
    let other : (i : ℕ) → i ≢ k → slice_get (set along k new) i ≡ slice_get along i = λ i apart. slice_get-set_other along k i new apart in
    record {
      axes = is.axes;
      way = is.way;
      level = is.level;
      long = length-set along k new ∙ is.long;
      made = λ axes way cell long place fit h ups i low below. elim (cases_lt i k) [
        | inl less ↦ other i (λ e. omega arith) ∙ is.made axes way cell long place fit h ups i low less
        | inr more ↦ (
            let here : i ≡ k = omega arith in
            let within : k < axes = omega (arith, c.loop-axis-test.true, c.requires.same, h.same_axes) in
            let made : new ≡ axis_of k (extent_of axes way (child_at cell digits) k) =
            walked_axis axes way cell digits c.args.self.now k _ new _ (omega (arith, c.type_inv.self)) place c.requires.level fit h within (ups k within) c.walked.ensures in
            ap (λ (j : ℕ). slice_get (set along k new) j) here ∙ slice_get-set_same along k new (omega (arith, is.long)) ∙ ap (λ (a : Axis). Some a) made
            ∙ ap (λ (j : ℕ). Some (axis_of j (extent_of axes way (child_at cell digits) j))) (sym here))
      ];
      before = λ i low. other i (λ e. omega (arith, loop.auto.axis)) ∙ is.before i low;
      behind = λ i far. other i (λ e. omega arith) ∙ is.behind i (omega arith);
    }

pub returns-clause-stands : goal.returns-clause-stands
returns-clause-stands c axes way cell from place d' h h' same ups =
    let is = c.loop-axis.invariant in
    let old = c.args.child.now in
    let new = c.loop-axis.child in
    let digits = c.args.digits in
    let Fit : ℕ → Type 0 = λ m. IsDigits m digits in
    let fit : IsDigits axes digits = subst Fit h.same_axes c.requires.digits in
    let low : cell.level < most_levels = omega (arith, c.requires.level, h.same_level) in
    let last = axes - 1 in
    let within : last < axes = omega (arith, h.grid.0) in
    let long : last < length old.along = slice_get_within old.along last (axis_of last (extent_of axes way (child_at cell from) last)) (along_is axes way (child_at cell from) old last h' within) in
    let all : axes ≤ c.loop-axis.axis = omega (arith, c.loop-axis-test.false, c.requires.same, h.same_axes) in
    let behind : c.loop-axis.axis ≤ axes = omega (arith, c.loop-axis.auto.axis-end, c.requires.first, c.requires.same, h.same_axes) in
    let made = StandsFor-turned axes way cell from digits old new.along h'
    (λ i inside. elim (cases_lt i c.args.first) [
      | inl less ↦ is.before i less ∙ kept_axis axes way cell from digits old i place low d' fit h' inside (λ j below. same j (omega arith))
      | inr more ↦ is.made axes way cell (omega arith) place fit h ups i more (omega arith)
    ])
    (λ i past. is.behind i (omega arith)) in
    record {
      grid = made.grid;
      same_axes = is.axes ∙ made.same_axes;
      same_way = is.way ∙ made.same_way;
      same_level = is.level ∙ made.same_level;
      extents = made.extents;
      held = made.held;
      numbers = made.numbers;
    }
