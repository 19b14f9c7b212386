-- Each bit is the flip of its axis.
use Rattle.std.proofs.Common.{◌≡◌, ℕ, ◌+◌, ◌*◌, ◌/◌, ◌%◌, ◌^◌, List, length, ap, sym, ◌∙◌, arith}
use Rattle.std.specs.Prelude.{slice_index}
use Rattle.pe_base.specs.Tree.Curve.{flip}
use Rattle.pe_base.proofs.Tree.PlaceLaws.{four}
use Rattle.pe_base.proofs.Tree.CurveLaws.{bits-flips}
use Rattle.pe_curve.proofs.DigitLaws.{flip-bit}
use Rattle.pe_curve.proofs.children.flips_at.Goals as goal

pub returns : goal.returns
returns c axes within =
    let pos = c.args.cell.now.pos in
    let len : length pos ≡ 4 = omega (arith, c.type_inv.cell) in
    let x = slice_index pos 0 in
    let y = slice_index pos 1 in
    let z = slice_index pos 2 in
    let w = slice_index pos 3 in
    let sum : (y + z + w) % 2 + 2 * ((x + z + w) % 2) + 4 * ((x + y + w) % 2) + 8 * ((x + y + z) % 2) ≡ c.parity.result + 2 * c.parity-2.result + 4 * c.parity-3.result + 8 * c.parity-4.result = omega arith in
    bits-flips axes _ pos (λ axis h.
    ap (λ (n : ℕ). n / 2 ^ axis % 2) (sym sum) ∙ flip-bit x y z w axis (omega arith) ∙ ap (λ (ps : List ℕ). flip ps axis) (sym (four pos len)))
