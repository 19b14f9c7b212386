-- The last store of a vertex: by how often it was loaded, and by the order of the cells around it.
use Rattle.std.proofs.Common.{◌≡◌, ℕ, ◌+◌, ◌^◌, ◌<◌, ◌≤◌, Bool, true, ◌==◌, length, sym, ap, ap₂, subst, ◌∙◌}
use Rattle.std.specs.Prelude.{is_none}
use Rattle.pe_base.specs.declared.place.Place.{Place}
use Rattle.pe_base.specs.Tree.Places.{corner}
use Rattle.pe_base.specs.Steps.Around.{around}
use Rattle.pe_base.specs.Steps.Routes.{stack_out}
use Rattle.pe_base.specs.Walk.Core.{Setting, way}
use Rattle.pe_base.specs.Walk.Working.{Working, loads_of}
use Rattle.pe_base.proofs.Steps.SlowerLaws.{length-around}
use Rattle.pe_order.specs.Laws.{IsCell}
use Rattle.pe_order.specs.Tokens.{Tokens, before}
use Rattle.pe_walk.specs.Standing.{ForeseenStart, Stage, Holds, IsForeseenStart, IsStage}
use Rattle.pe_order.proofs.Tokens.Counting.{corners_by_counting}

-- A vertex that was loaded for all cells around it goes to no further cell, and the other way round.
pub lasts_agree : {Plan : Type 0} (set : Setting Plan) (e : ForeseenStart) (walked : Place → Bool) → IsForeseenStart set e walked → (st : Stage) (w : Working) (t : Tokens) → IsStage set.axes e.outlook st → Holds set e st w t
    → (k : ℕ) → st.from ≤ k → k < 2 ^ set.axes → e.outlook.counts (corner set.axes st.cell k) ≡ true
    → (loads_of w (corner set.axes st.cell k) == 2 ^ set.axes) ≡ is_none (stack_out set.axes (way set) (corner set.axes st.cell k) st.cell)
lasts_agree set e walked is st w t stage holds k from below on =
    let see = is.foresees in
    let vertex = corner set.axes st.cell k in
    let is_cell : IsCell set.axes (way set) st.cell = subst (λ u. IsCell set.axes u st.cell) see.ways stage.cell in
    let four = subst (λ n. n ≤ 4) (sym see.axes) see.dim.1 in
    let loads = holds.fair.loads vertex ∙ (holds.stands.mine k from below on).1 ∙ ap₂ (λ n u. before (around n u vertex) st.cell + 1) see.axes see.ways in
    let count =
    ap₂ (λ n u. length (around n u vertex)) (sym see.axes) (sym see.ways)
    ∙ length-around e.outlook.axes e.outlook.way vertex four (is.grown.is_walk.inside vertex on)
    ∙ ap (λ n. 2 ^ n) see.axes in
    ap₂ (λ a b. a == b) loads (sym count) ∙ sym (corners_by_counting set.axes (way set) st.cell k see.dim is_cell below).last
