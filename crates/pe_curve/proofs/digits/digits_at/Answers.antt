-- The inverted order is the forward one read from its end.
use Rattle.std.proofs.Common.{ℕ, ◌-◌, sym, ap, ◌∙◌}
use Rattle.std.specs.Prelude.{slice_get}
use Rattle.pe_base.specs.declared.way.Way.{Way}
use Rattle.pe_base.specs.declared.way.Way.TheVariants.{Forward}
use Rattle.pe_base.specs.Tree.Places.{bits}
use Rattle.pe_base.specs.Tree.Curve.{child_digits}
use Rattle.pe_base.proofs.Tree.CurveLaws.{slice_get-inverted}
use Rattle.pe_curve.proofs.digits.digits_at.Goals as goal

pub returns-in-Inverted-clause-child : goal.returns-in-Inverted-clause-child
returns-in-Inverted-clause-child c =
    let es = bits c.args.dim c.args.flips in
    ap (λ (way : Way). slice_get (child_digits c.args.dim way es) c.args.n) c.in-Inverted.is
    ∙ slice_get-inverted c.args.dim es c.args.n c.requires
    ∙ ap (λ (count : ℕ). slice_get (child_digits c.args.dim Forward es) (count - 1 - c.args.n)) (sym c.parts.ensures.value)
    ∙ c.forward_digits-in-Inverted.ensures.child
