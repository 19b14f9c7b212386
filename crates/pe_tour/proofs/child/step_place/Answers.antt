-- Only the position on the last axis changes.
use Rattle.std.proofs.Common.{ℕ, ◌+◌, ◌-◌, ◌*◌, List, set, ap, ◌∙◌, arith}
use Rattle.std.specs.Prelude.{slice_index}
use Rattle.pe_base.specs.declared.place.Place.{Place}
use Rattle.pe_base.proofs.Tree.PlaceLaws.{cell_coordinate_below}
use Rattle.pe_tour.proofs.Children.{child_at-step}
use Rattle.pe_tour.proofs.child.step_place.Goals as goal

pub overflow_mul-place : goal.overflow_mul-place
overflow_mul-place g c = omega (arith, cell_coordinate_below g.row.AXES c.args.parent.now c.requires.parent (g.row.AXES - 1))

pub overflow_add-place : goal.overflow_add-place
overflow_add-place g c = omega (arith, cell_coordinate_below g.row.AXES c.args.parent.now c.requires.parent (g.row.AXES - 1), c.requires.digits.inside (g.row.AXES - 1) (omega (arith, c.requires.axes)))

pub returns : goal.returns
returns g c from fit one is =
    let axes = g.row.AXES in
    let parent = c.args.parent.now in
    let digits = c.args.digits in
    let moved = child_at-step axes parent from digits (omega (arith, c.requires.axes)) (omega (arith, c.requires.axes)) c.requires.parent fit c.requires.digits one in
    let to : List ℕ → List ℕ = λ pos. set pos (axes - 1) (3 * slice_index parent.pos (axes - 1) + slice_index digits.k (axes - 1)) in
    let place : ℕ → List ℕ → Place = λ level pos. record { level = level; pos = pos } in
    ap (λ (p : Place). place p.level (to p.pos)) is
    ∙ ap (place (parent.level + 1)) moved
