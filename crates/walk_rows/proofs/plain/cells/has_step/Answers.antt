-- A step that is not the one is left out.
use Rattle.std.proofs.Common.{◌≡◌, ℕ, suc, ◌-◌, ◌+◌, ◌≤◌, Bool, ◌&&◌, ◌||◌, [], List, drop, length, ap, ◌∙◌, sym, arith}
use Rattle.std.specs.List.{list_any}
use Rattle.pe_base.specs.declared.place.Place.{Place}
use Rattle.pe_base.specs.Steps.Around.{steps}
use Rattle.pe_base.specs.Tree.Places.{is_same}
use Rattle.walk_rows.proofs.Computed.{any_step, any_last}
use Rattle.walk_rows.proofs.plain.cells.has_step.Goals as goal

pub loop-i-preserved : goal.loop-i-preserved
loop-i-preserved c =
    let cells : List Place = c.args.cells.now in
    let i : ℕ = c.loop-i.i in
    let test : Place × Place → Bool = λ step. is_same step.0 c.args.a.now && is_same step.1 c.args.b.now in
    let next : i ≡ suc (i - 1) = omega arith in
    let again : i ≡ i + 1 - 1 = omega arith in
    c.loop-i.invariant
    ∙ any_step test cells (i - 1) i (record { level = 0; pos = [] }) next c.loop-i-test.true
    ∙ ap (λ (b : Bool). b || list_any test (steps (drop i cells))) (sym c.leads.ensures ∙ c.if-leads.false)
    ∙ ap (λ (n : ℕ). list_any test (steps (drop n cells))) again

pub returns : goal.returns
returns c =
    let cells : List Place = c.args.cells.now in
    let test : Place × Place → Bool = λ step. is_same step.0 c.args.a.now && is_same step.1 c.args.b.now in
    let last : length cells ≤ suc (c.loop-i.i - 1) = omega arith in
    sym (c.loop-i.invariant ∙ any_last test cells (c.loop-i.i - 1) last)
