-- The digits are those of the number in base 3, turned.
use Rattle.std.proofs.Common.{◌≡◌, [], ◌∷◌, sym, ◌∙◌, arith}
use Rattle.pe_base.specs.Tree.Places.{bits, padded}
use Rattle.pe_base.specs.Tree.Curve.{turned}
use Rattle.pe_base.proofs.Tree.CurveLaws.{ternary}
use Rattle.pe_curve.proofs.DigitLaws.{three_digits, four_digits, turned_child}
use Rattle.pe_curve.proofs.digits.forward_digits.Goals as goal

pub returns-in-3-clause-child : goal.returns-in-3-clause-child
returns-in-3-clause-child c =
    let axes : c.args.dim ≡ 3 = sym c.axes.ensures.value ∙ c.in-3.is in
    let digits = three_digits c.args.flips c.args.n c.mirrored-in-3.result c.mirrored-in-3-2.result c.mirrored-in-3-3.result c.mirrored-in-3.ensures c.mirrored-in-3-2.ensures c.mirrored-in-3-3.ensures in
    let whole : c.mirrored-in-3.result ∷ c.mirrored-in-3-2.result ∷ c.mirrored-in-3-3.result ∷ 0 ∷ [] ≡ padded (turned (bits c.args.dim c.args.flips) 0 (ternary c.args.dim c.args.n)) = rw axes digits in
    turned_child c.args.dim c.args.flips c.args.n _ c.requires whole

pub returns-in_default-clause-child : goal.returns-in_default-clause-child
returns-in_default-clause-child c =
    let axes : c.args.dim ≡ 4 = omega (arith, c.axes.ensures.value, c.axes.ensures.range.0, c.axes.ensures.range.1) in
    let digits = four_digits c.args.flips c.args.n c.mirrored-in_default.result c.mirrored-in_default-2.result c.mirrored-in_default-3.result c.mirrored-in_default-4.result c.mirrored-in_default.ensures c.mirrored-in_default-2.ensures
    c.mirrored-in_default-3.ensures c.mirrored-in_default-4.ensures in
    let whole : c.mirrored-in_default.result ∷ c.mirrored-in_default-2.result ∷ c.mirrored-in_default-3.result ∷ c.mirrored-in_default-4.result ∷ [] ≡ padded (turned (bits c.args.dim c.args.flips) 0 (ternary c.args.dim c.args.n)) =
    rw axes digits in
    turned_child c.args.dim c.args.flips c.args.n _ c.requires whole
