-- The extents that are made are those at the child's digits.
use Rattle.std.proofs.Common.{◌≡◌, ℕ, ◌+◌, ◌<◌, ◌≤◌, List, [], ◌∷◌, get_or, refl, sym, ap, ap₂, ◌∙◌, subst, arith}
use Rattle.std.specs.Prelude.{sum, sum_by}
use Rattle.pe_base.specs.declared.way.Way.{Way}
use Rattle.pe_base.specs.Tree.Places.{IsDigits, child_at}
use Rattle.pe_base.specs.Steps.Routes.{way_turns}
use Rattle.pe_base.proofs.Tree.PlaceLaws.{IsPosition-below}
use Rattle.pe_base.proofs.Steps.RouteLaws.{Below}
use Rattle.pe_access.specs.declared.numbers.Axis.{Axis}
use Rattle.pe_access.specs.Extents.{Extent, bit_of, root_extent, child_extent}
use Rattle.pe_access.specs.Numbers.{axis_of}
use Rattle.pe_access.specs.States.{HoldsCell, IsIdle, odd_count}
use Rattle.pe_access.proofs.NumberLaws.{numbers_are, idle_at}
use Rattle.pe_access.proofs.ExtentLaws.{Below-all, descends, extents_at}
use Rattle.pe_access.proofs.StateLaws.{HoldsCell-child, HoldsCell-kept, odd-extents}
use Rattle.pe_access.proofs.state.CellState.child.Goals as goal
use Rattle.pe_access.proofs.state.CellState.child.Goals.{then-axes-gt2, else-axes-gt2, then-axes-gt3, else-axes-gt3}

-- what is made along an axis: the child's extent if the grid has the axis, else the parent's
abbrev Made : ℕ → ℕ → Axis → Extent → Extent → Type 0
Made axes axis made extent parent = (m : Extent) × (made ≡ axis_of axis m) × (axis < axes → m ≡ extent) × (axes ≤ axis → m ≡ parent)

pub returns-clause-stands : goal.returns-clause-stands
returns-clause-stands c axes way cell place h =
    let self = c.args.self.now in
    let pos = cell.pos in
    let ks = c.args.digits.k in
    let extents = h.extents in
    let are = numbers_are self.along extents (omega (arith, c.type_inv.self)) h.numbers in
    let Fit : ℕ → Type 0 = λ n. IsDigits n c.args.digits in
    let fit : IsDigits axes c.args.digits = subst Fit h.same_axes c.requires.digits in
    let digits : Below 3 ks = Below-all 3 ks (IsPosition-below axes 3 ks (omega arith) fit) in
    let turns : c.turns-turns.result ≡ way_turns way + sum_by (λ extent. bit_of extent.odd) extents =
    c.turns-turns.ensures.value ∙ ap (λ (w : Way). way_turns w + odd_count self.along) h.same_way ∙ ap (λ (n : ℕ). way_turns way + n) are.odd_sum in
    let t = c.turns-turns.result in
    let next = self.level + 1 in
    let x = get_or extents 0 root_extent in
    let y = get_or extents 1 root_extent in
    let z = get_or extents 2 root_extent in
    let w = get_or extents 3 root_extent in
    let x_is = are.each 0 _ root_extent (omega arith) in
    let y_is = are.each 1 _ root_extent (omega arith) in
    let z_is = are.each 2 _ root_extent (omega arith) in
    let w_is = are.each 3 _ root_extent (omega arith) in
    let odd : Axis → ℕ = λ a. bit_of a.odd in
    let n = self.axes in
    let l₀ = child_extent next (t + c.bit-2.result) (get_or ks 0 0) x in
    let l₁ = child_extent next (t + get_or ks 0 0 + c.bit-3.result) (get_or ks 1 0) y in
    let l₂ = child_extent next (t + get_or ks 0 0 + get_or ks 1 0 + bit_of z.odd) (get_or ks 2 0) z in
    let l₃ = child_extent next (t + get_or ks 0 0 + get_or ks 1 0 + get_or ks 2 0 + bit_of w.odd) (get_or ks 3 0) w in
    let made =
    descends pos ks extents place.pos.four fit.four are.four way self.level t c.bit-2.result c.bit-3.result (bit_of z.odd) (bit_of w.odd) root_extent l₀ l₁ l₂ l₃
    digits (place.pos.four ∙ sym fit.four) (odd-extents axes way cell extents place h.held are.four) turns
    (c.bit-2.ensures.value ∙ ap odd x_is) (c.bit-3.ensures.value ∙ ap odd y_is) refl refl refl refl refl refl
    ∙ ap (λ (l : ℕ). extents_at (l + 1) (way_turns way + sum pos) pos ks extents) h.same_level in
    let third : Made n 2 c.if-axes-gt2.third l₂ z = elim c.if-axes-gt2.branch [
      | then-axes-gt2 b ↦ (
          let is = b.third-is ∙ b.child-third.ensures z z_is ∙ ap (λ (m : ℕ). axis_of 2 (child_extent next (t + get_or ks 0 0 + get_or ks 1 0 + m) (get_or ks 2 0) z)) (b.bit.ensures.value ∙ ap odd z_is) in
          (l₂, is, λ _. refl, λ past. absurd (omega (arith, past, b.if-axes-gt2, c.requires.same))))
      | else-axes-gt2 b ↦ (z, b.third-is ∙ z_is, λ within. absurd (omega (arith, within, b.if-axes-gt2, c.requires.same)), λ _. refl)
    ] in
    let fourth : Made n 3 c.if-axes-gt3.fourth l₃ w = elim c.if-axes-gt3.branch [
      | then-axes-gt3 b ↦ (
          let is = b.fourth-is ∙ b.child-fourth.ensures w w_is ∙ ap (λ (m : ℕ). axis_of 3 (child_extent next (t + get_or ks 0 0 + get_or ks 1 0 + get_or ks 2 0 + m) (get_or ks 3 0) w)) (b.bit-then-axes-gt3.ensures.value ∙ ap odd w_is) in
          (l₃, is, λ _. refl, λ past. absurd (omega (arith, past, b.if-axes-gt3, c.requires.same))))
      | else-axes-gt3 b ↦ (w, b.fourth-is ∙ w_is, λ within. absurd (omega (arith, within, b.if-axes-gt3, c.requires.same)), λ _. refl)
    ] in
    let idle : (i : ℕ) → i < 4 → axes ≤ i → IsIdle (get_or extents i root_extent) = λ i within past. idle_at extents i root_extent are.four within (h.held.others i past) in
    let Holds : List Extent → Type 0 = λ xs. HoldsCell axes way (child_at cell c.args.digits) xs in
    let four : (a b d e : Axis) → List Axis = λ a b d e. a ∷ b ∷ d ∷ e ∷ [] in
    record {
      grid = h.grid;
      same_axes = h.same_axes;
      same_way = h.same_way;
      same_level = ap (λ (l : ℕ). l + 1) h.same_level;
      extents = l₀ ∷ l₁ ∷ third.0 ∷ fourth.0 ∷ [];
      held = HoldsCell-kept axes way (child_at cell c.args.digits) l₀ l₁ l₂ l₃ third.0 fourth.0 h.grid.0
          (subst Holds (sym made) (HoldsCell-child axes way cell c.args.digits extents h.grid.1 place (omega (arith, c.requires.level, h.same_level)) fit are.four h.held))
          (λ within. third.2 (omega (arith, within, h.same_axes))) (λ within. fourth.2 (omega (arith, within, h.same_axes)))
          (λ past. subst IsIdle (sym (third.3 (omega (arith, past, h.same_axes)))) (idle 2 (omega arith) past)) (λ past. subst IsIdle (sym (fourth.3 (omega (arith, past, h.same_axes)))) (idle 3 (omega arith) past));
      numbers = ap₂ (λ (a b : Axis). four a b c.if-axes-gt2.third c.if-axes-gt3.fourth) (c.child.ensures x x_is) (c.child-2.ensures y y_is)
          ∙ ap₂ (λ (d e : Axis). four (axis_of 0 l₀) (axis_of 1 l₁) d e) third.1 fourth.1;
    }
