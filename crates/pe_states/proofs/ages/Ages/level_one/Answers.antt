-- What is left of all ages is inside the root.
use Rattle.std.proofs.Common.{◌≡◌, ℕ, ◌<◌, ◌≤◌, sym, subst, arith}
use Rattle.std.specs.Prelude.{slice_index, take}
use Rattle.std.proofs.lemmas.Bool.{eq-eqb, ne_eqb}
use Rattle.pe_states.specs.Sides.{IsTrimmed}
use Rattle.pe_states.proofs.BoundaryLaws.{AreTrimmed, AreStored, trims_of, later, at_first, old_inside, new_inside}
use Rattle.pe_states.proofs.ages.Ages.level_one.Goals as goal
use Rattle.pe_states.proofs.ages.Ages.level_one.Goals.{then-traversal-eq1, else-traversal-eq1, then-axes-gt2, else-axes-gt2, then-axes-gt3, else-axes-gt3}

-- all ages, before any is taken away
stored : (c : goal.Joined-axes-gt3) → AreStored c.args.traversal c.if-traversal-eq1.all
stored c = let P : ℕ → Type 0 = λ m. AreStored c.args.traversal m in elim c.if-traversal-eq1.branch [
  | then-traversal-eq1 w ↦ subst P (sym w.all-is) (at_first c.args.traversal (eq-eqb c.args.traversal 1 w.if-traversal-eq1.true))
  | else-traversal-eq1 w ↦ subst P (sym w.all-is) (later c.args.traversal (ne_eqb c.args.traversal 1 w.if-traversal-eq1.false))
]

-- what is done on each axis
trimmed : (c : goal.Joined-axes-gt3) → AreTrimmed 1 (take c.args.dim c.args.digits.k) c.if-traversal-eq1.all c.if-axes-gt3.bits
trimmed c =
    let ks = c.args.digits.k in
    let b = c.trim-bits-2.result in
    let d = c.if-axes-gt2.bits in
    let third : 2 < c.args.dim → IsTrimmed 4 (slice_index ks 2) b d = elim c.if-axes-gt2.branch [
      | then-axes-gt2 w ↦ λ h. (let P : ℕ → Type 0 = λ x. IsTrimmed 4 (slice_index ks 2) b x in subst P (sym w.bits-is) w.trim-bits-then-axes-gt2.ensures)
      | else-axes-gt2 w ↦ λ h. absurd (omega arith)
    ] in
    let none : c.args.dim ≤ 2 → d ≡ b = elim c.if-axes-gt2.branch [
      | then-axes-gt2 w ↦ λ h. absurd (omega arith)
      | else-axes-gt2 w ↦ λ h. w.bits-is
    ] in
    let fourth : 3 < c.args.dim → IsTrimmed 8 (slice_index ks 3) d c.if-axes-gt3.bits = elim c.if-axes-gt3.branch [
      | then-axes-gt3 w ↦ λ h. (let P : ℕ → Type 0 = λ x. IsTrimmed 8 (slice_index ks 3) d x in subst P (sym w.bits-is) w.trim-bits-then-axes-gt3.ensures)
      | else-axes-gt3 w ↦ λ h. absurd (omega arith)
    ] in
    let last : c.args.dim ≤ 3 → c.if-axes-gt3.bits ≡ d = elim c.if-axes-gt3.branch [
      | then-axes-gt3 w ↦ λ h. absurd (omega arith)
      | else-axes-gt3 w ↦ λ h. w.bits-is
    ] in
    trims_of c.args.dim c.args.digits c.if-traversal-eq1.all c.trim-bits.result b d c.if-axes-gt3.bits (omega arith) (omega arith) c.requires.four
    c.trim-bits.ensures c.trim-bits-2.ensures third none fourth last

pub returns-clause-old : goal.returns-clause-old
returns-clause-old c k small = old_inside c.args.dim c.args.digits c.args.traversal c.if-traversal-eq1.all c.if-axes-gt3.bits k (omega arith) (omega arith) c.requires (trimmed c) (stored c) small

pub returns-clause-new : goal.returns-clause-new
returns-clause-new c k small = new_inside c.args.dim c.args.digits c.args.traversal c.if-traversal-eq1.all c.if-axes-gt3.bits k (omega arith) (omega arith) c.requires (trimmed c) (stored c) small
