-- The ages of a child, from those of its row.
use Rattle.std.proofs.Common.{◌≡◌, ℕ, ◌-◌, ◌≤◌, ◌^◌, sym, subst, arith}
use Rattle.std.specs.Prelude.{slice_index}
use Rattle.pe_states.specs.Sides.{IsSpread}
use Rattle.pe_states.proofs.AxisLaws.{child_of, old_carried, new_carried}
use Rattle.pe_states.proofs.ages.Ages.of_row.Goals as goal
use Rattle.pe_states.proofs.ages.Ages.of_row.Goals.{in-2, in-3, in_default}

-- what is done along the last axis
last_axis : (c : goal.Joined-axes) → IsSpread (2 ^ (c.args.dim - 1)) (slice_index c.args.digits.k (c.args.dim - 1)) c.args.self c.match-axes.bits
last_axis c =
    let ks = c.args.digits.k in
    let P : ℕ → ℕ → ℕ → Type 0 = λ axes x y. IsSpread (2 ^ (axes - 1)) (slice_index ks (axes - 1)) x y in
    let Q : ℕ → Type 0 = λ x. P c.args.dim x c.match-axes.bits in
    let made : Q c.self.inside.bits = elim c.match-axes.branch [
      | in-2 w ↦ (let e : c.args.dim ≡ 2 = omega arith in let R : ℕ → Type 0 = λ n. P n c.self.inside.bits c.match-axes.bits in let S : ℕ → Type 0 = λ y. P 2 c.self.inside.bits y in subst R (sym e) (subst S (sym w.bits-is) w.spread-bits.ensures))
      | in-3 w ↦ (let e : c.args.dim ≡ 3 = omega arith in let R : ℕ → Type 0 = λ n. P n c.self.inside.bits c.match-axes.bits in let S : ℕ → Type 0 = λ y. P 3 c.self.inside.bits y in subst R (sym e) (subst S (sym w.bits-is) w.spread-bits-in-3.ensures))
      | in_default w ↦ (let e : c.args.dim ≡ 4 = omega arith in let R : ℕ → Type 0 = λ n. P n c.self.inside.bits c.match-axes.bits in let S : ℕ → Type 0 = λ y. P 4 c.self.inside.bits y in subst R (sym e) (subst S (sym w.bits-is) w.spread-bits-in_default.ensures))
    ] in
    subst Q c.self.view_is made

pub returns-clause-old : goal.returns-clause-old
returns-clause-old c ages row k small =
    let low : 2 ≤ c.args.dim = omega arith in
    let high : c.args.dim ≤ 4 = omega arith in
    old_carried c.args.dim c.args.digits ages c.match-axes.bits k high c.requires.four (child_of c.args.dim c.args.digits ages c.args.self c.match-axes.bits low high c.requires.four row (last_axis c)) small

pub returns-clause-new : goal.returns-clause-new
returns-clause-new c ages row k small =
    let low : 2 ≤ c.args.dim = omega arith in
    let high : c.args.dim ≤ 4 = omega arith in
    new_carried c.args.dim c.args.digits ages c.match-axes.bits k low high c.requires.four (child_of c.args.dim c.args.digits ages c.args.self c.match-axes.bits low high c.requires.four row (last_axis c)) small
