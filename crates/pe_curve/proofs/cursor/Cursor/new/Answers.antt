-- All children are still to come.
use Rattle.std.proofs.Common.{◌≡◌, ℕ, ◌-◌, ◌^◌, List, length, drop, ap, sym, subst, ◌∙◌, arith}
use Rattle.std.specs.Prelude.{All}
use Rattle.pe_base.specs.declared.place.Digits.{Digits}
use Rattle.pe_base.specs.Tree.Places.{IsDigits, bits}
use Rattle.pe_base.specs.Tree.Curve.{child_digits}
use Rattle.pe_base.proofs.Tree.PlaceLaws.{length-bits}
use Rattle.pe_base.proofs.Tree.CurveLaws.{length-child_digits, IsDigits-child_digits}
use Rattle.pe_curve.proofs.cursor.Cursor.new.Goals as goal

whole : (c : goal.After-parts) → drop (3 ^ c.args.dim - c.parts.result) (child_digits c.args.dim c.args.way (bits c.args.dim c.args.flips)) ≡ child_digits c.args.dim c.args.way (bits c.args.dim c.args.flips)
whole c =
    let none : 3 ^ c.args.dim - c.parts.result ≡ 0 = omega (arith, c.parts.ensures.value) in
    ap (λ (n : ℕ). drop n (child_digits c.args.dim c.args.way (bits c.args.dim c.args.flips))) none

pub returns-clause-count : goal.returns-clause-count
returns-clause-count c =
    ap (length {A = Digits}) (whole c) ∙ length-child_digits c.args.dim c.args.way (bits c.args.dim c.args.flips)

pub returns-clause-places : goal.returns-clause-places
returns-clause-places c =
    let P : List Digits → Type 0 = All (IsDigits c.args.dim) in
    subst P (sym (whole c)) (IsDigits-child_digits c.args.dim c.args.way (bits c.args.dim c.args.flips) (length-bits c.args.dim c.args.flips) c.parts.ensures.range.1)
