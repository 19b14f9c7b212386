use Rattle.std.proofs.Common.{◌≡◌, ℕ, ◌^◌, ◌<◌, sym, subst, arith}
use Rattle.pe_states.specs.Ages.{is_old_at, is_new_at, is_first_old, is_first_new, some_carrier}
use Rattle.pe_states.specs.Sides.{IsRow}
use Rattle.pe_walk.proofs.Children.{first-kinds, carried-kinds}
use Rattle.pe_walk.proofs.child.child_ages.Goals as goal

pub returns-then-above-eq0 : goal.returns-then-above-eq0
returns-then-above-eq0 g c = λ its are.
    let s = c.args.settings.now in
    let above = c.args.above.now in
    let is = c.requires.above in
    let ages = c.level_one.result in
    let Old : ℕ → Type 0 = λ d. (k : ℕ) → k < 2 ^ d → is_old_at ages k ≡ is_first_old d c.args.digits s.traversal k in
    let New : ℕ → Type 0 = λ d. (k : ℕ) → k < 2 ^ d → is_new_at ages k ≡ is_first_new d c.args.digits k in
    first-kinds s.setup.dim s.traversal above.place c.args.digits is.state.grid is.place is.level c.requires.digits ages its (omega arith)
    (subst Old c.dim_in-dim.ensures c.level_one.ensures.old) (subst New c.dim_in-dim.ensures c.level_one.ensures.new)

pub returns-else-above-eq0 : goal.returns-else-above-eq0
returns-else-above-eq0 g c = λ its are.
    let s = c.args.settings.now in
    let above = c.args.above.now in
    let is = c.requires.above in
    let ages = c.of_row.result in
    let Row : ℕ → Type 0 = λ d. IsRow d c.args.digits above.ages c.args.row_ages in
    let Old : ℕ → Type 0 = λ d. (k : ℕ) → k < 2 ^ d → is_old_at ages k ≡ some_carrier d c.args.digits k (is_old_at above.ages) in
    let New : ℕ → Type 0 = λ d. (k : ℕ) → k < 2 ^ d → is_new_at ages k ≡ some_carrier d c.args.digits k (is_new_at above.ages) in
    let row = subst Row (sym c.dim_in-dim.ensures) c.requires.row in
    carried-kinds s.setup.dim s.traversal above.place c.args.digits is.state.grid is.place is.level c.requires.digits ages above.ages its (omega arith) are
    (subst Old c.dim_in-dim.ensures (c.of_row.ensures.old above.ages row)) (subst New c.dim_in-dim.ensures (c.of_row.ensures.new above.ages row))
