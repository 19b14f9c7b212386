-- The numbers of the last axis are made anew.
use Rattle.std.proofs.Common.{◌≡◌, ℕ, ◌-◌, ◌/◌, ◌^◌, ◌<◌, set, sym, ap, ◌∙◌, subst, inl, inr, arith}
use Rattle.std.specs.Prelude.{slice_get, Some}
use Rattle.std.proofs.lemmas.Bool.{cases_lt}
use Rattle.std.proofs.lemmas.Option.{slice_get_within}
use Rattle.pe_base.specs.Limits.{most_levels}
use Rattle.pe_base.specs.Tree.Places.{IsDigits, child_at}
use Rattle.pe_access.specs.declared.numbers.Axis.{Axis}
use Rattle.pe_access.specs.Numbers.{axis_of}
use Rattle.pe_access.specs.Rows.{IsRow, end_at}
use Rattle.pe_access.specs.Faces.{extent_of}
use Rattle.pe_access.specs.States.{is_upwards}
use Rattle.pe_access.proofs.StepLaws.{walked_axis, kept_axis, StandsFor-turned, slice_get-set_same, slice_get-set_other}
use Rattle.pe_access.proofs.RowLaws.{IsRow-step, along_is}
use Rattle.pe_access.proofs.state.CellState.step.Goals as goal

pub returns-clause-stands : goal.returns-clause-stands
returns-clause-stands c axes way cell from place d' h h' same up =
    let self = c.args.self.now in
    let child = c.args.child.now in
    let digits = c.args.digits in
    let last = c.args.axes - 1 in
    let new = c.walked-end.result in
    let one : c.args.axes ≡ axes = c.requires.same ∙ h.same_axes in
    let Fit : ℕ → Type 0 = λ m. IsDigits m digits in
    let fit : IsDigits axes digits = subst Fit h.same_axes c.requires.digits in
    let low : cell.level < most_levels = omega (arith, c.requires.level, h.same_level) in
    let within : last < axes = omega (arith, one, h.grid.0) in
    let there = slice_get_within child.along last (axis_of last (extent_of axes way (child_at cell from) last)) (along_is axes way (child_at cell from) child last h' within) in
    let made : new ≡ axis_of last (extent_of axes way (child_at cell digits) last) =
    walked_axis axes way cell digits self last _ new c.args.up (omega (arith, c.type_inv.self)) place c.requires.level fit h within
    (up ∙ ap (λ (m : ℕ). is_upwards way cell digits (m - 1)) (sym one)) c.walked-end.ensures in
    StandsFor-turned axes way cell from digits child (set child.along last new) h'
    (λ i inside. elim (cases_lt i last) [
      | inl less ↦ slice_get-set_other child.along last i new (λ e. omega arith) ∙ kept_axis axes way cell from digits child i place low d' fit h' inside (λ j below. same j (omega (arith, one)))
      | inr more ↦ (
          let here : i ≡ last = omega (arith, one) in
          ap (λ (j : ℕ). slice_get (set child.along last new) j) here ∙ slice_get-set_same child.along last new there ∙ ap (λ (a : Axis). Some a) made
          ∙ ap (λ (j : ℕ). Some (axis_of j (extent_of axes way (child_at cell digits) j))) (sym here))
    ])
    (λ i past. slice_get-set_other child.along last i new (λ e. omega (arith, within)))

pub returns-clause-row : goal.returns-clause-row
returns-clause-row c same is =
    let state = c.args.child.now in
    let last = c.walked-end.result in
    let one : c.args.axes ≡ state.axes = c.requires.same ∙ sym same in
    let Ends : ℕ → Type 0 = λ m. (pair : ℕ) → pair < 2 ^ (m - 1) → slice_get c.set_ends.new.ends pair ≡ Some (end_at last (pair / 2 ^ (m - 2))) in
    let With : ℕ → Type 0 = λ m. IsRow (record { axes = state.axes; way = state.way; level = state.level; along = set state.along (m - 1) last }) (record { coming = c.args.row.now.coming; going = c.args.row.now.going; ends = c.set_ends.new.ends }) in
    subst With (sym one) (IsRow-step state c.args.row.now last c.set_ends.new.ends is (omega (arith, c.type_inv, c.requires.axes, same)) (subst Ends one c.set_ends.ensures))
