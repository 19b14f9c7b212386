-- The ages of a row, axis by axis.
use Rattle.std.proofs.Common.{ℕ, ◌<◌, ◌≤◌, ◌≡◌, sym, subst, arith}
use Rattle.std.specs.Prelude.{slice_index}
use Rattle.pe_states.specs.Sides.{IsSpread}
use Rattle.pe_states.proofs.AxisLaws.{row_of}
use Rattle.pe_states.proofs.ages.Ages.row.Goals as goal
use Rattle.pe_states.proofs.ages.Ages.row.Goals.{then-axes-gt2, else-axes-gt2, then-axes-gt3, else-axes-gt3}

pub returns : goal.returns
returns c =
    let digits = c.args.digits in
    let ks = digits.k in
    let low : 2 ≤ c.args.dim = omega arith in
    let high : c.args.dim ≤ 4 = omega arith in
    let a = c.spread-bits.result in
    let b = c.if-axes-gt2.bits in
    let first : IsSpread 1 (slice_index ks 0) c.args.self a = (let P : ℕ → Type 0 = λ x. IsSpread 1 (slice_index ks 0) x a in subst P c.self.view_is c.spread-bits.ensures) in
    let second : 2 < c.args.dim → IsSpread 2 (slice_index ks 1) a b = elim c.if-axes-gt2.branch [
      | then-axes-gt2 w ↦ λ h. (let P : ℕ → Type 0 = λ x. IsSpread 2 (slice_index ks 1) a x in subst P (sym w.bits-is) w.spread-bits-then-axes-gt2.ensures)
      | else-axes-gt2 w ↦ λ h. absurd (omega arith)
    ] in
    let none : c.args.dim ≤ 2 → b ≡ a = elim c.if-axes-gt2.branch [
      | then-axes-gt2 w ↦ λ h. absurd (omega arith)
      | else-axes-gt2 w ↦ λ h. w.bits-is
    ] in
    let third : 3 < c.args.dim → IsSpread 4 (slice_index ks 2) b c.if-axes-gt3.bits = elim c.if-axes-gt3.branch [
      | then-axes-gt3 w ↦ λ h. (let P : ℕ → Type 0 = λ x. IsSpread 4 (slice_index ks 2) b x in subst P (sym w.bits-is) w.spread-bits-then-axes-gt3.ensures)
      | else-axes-gt3 w ↦ λ h. absurd (omega arith)
    ] in
    let last : c.args.dim ≤ 3 → c.if-axes-gt3.bits ≡ b = elim c.if-axes-gt3.branch [
      | then-axes-gt3 w ↦ λ h. absurd (omega arith)
      | else-axes-gt3 w ↦ λ h. w.bits-is
    ] in
    row_of c.args.dim digits c.args.self a b c.if-axes-gt3.bits low high c.requires.four first second none third last
