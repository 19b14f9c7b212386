-- The answer is the child at the n-th digits, and no position of a cell is too large for it.
use Rattle.std.proofs.Common.{ℕ, List, Some, ap, sym, subst, ◌∙◌, arith}
use Rattle.std.specs.Prelude.{slice_get}
use Rattle.std.specs.Option.{option_map}
use Rattle.pe_base.specs.declared.place.Place.{Place}
use Rattle.pe_base.specs.Tree.Places.{IsCellPlace, child_at}
use Rattle.pe_base.specs.Tree.Curve.{child_digits}
use Rattle.pe_base.proofs.Tree.PlaceLaws.{cell_coordinate_below, IsCellPlace-child_at}
use Rattle.pe_base.proofs.Tree.CurveLaws.{slice_get-children}
use Rattle.pe_curve.proofs.children.child.Goals as goal

pub child_at-requires-clause-pos : goal.child_at-requires-clause-pos
child_at-requires-clause-pos c axis = cell_coordinate_below c.args.dim c.args.parent.now c.requires.place axis

pub returns-clause-child : goal.returns-clause-child
returns-clause-child c =
    let parent = c.args.parent.now in
    slice_get-children c.args.dim c.args.way parent c.args.n
    ∙ ap (λ (es : List ℕ). option_map (child_at parent) (slice_get (child_digits c.args.dim c.args.way es) c.args.n)) (sym (c.flips_at.ensures c.args.dim (omega arith)))
    ∙ ap (option_map (child_at parent)) c.digits_at.ensures.child
    ∙ ap Some (sym c.child_at.ensures)

pub returns-clause-place : goal.returns-clause-place
returns-clause-place c =
    let P : Place → Type 0 = IsCellPlace c.args.dim in
    subst P (sym c.child_at.ensures)
    (IsCellPlace-child_at c.args.dim c.args.parent.now c.digits_at.result c.requires.place c.requires.level c.digits_at.ensures.digits)
