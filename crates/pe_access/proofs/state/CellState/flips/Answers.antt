-- Each bit is the flip of its axis.
use Rattle.std.proofs.Common.{◌≡◌, ℕ, ◌+◌, ◌*◌, ◌/◌, ◌%◌, ◌^◌, List, length, sym, ap, ◌∙◌, arith}
use Rattle.std.specs.Prelude.{slice_index}
use Rattle.pe_base.specs.Tree.Curve.{flip}
use Rattle.pe_base.proofs.Tree.PlaceLaws.{four}
use Rattle.pe_base.proofs.Tree.CurveLaws.{bits-flips}
use Rattle.pe_access.proofs.NumberLaws.{numbers_are}
use Rattle.pe_access.proofs.ExtentLaws.{flip-at, odd-at}
use Rattle.pe_access.proofs.StateLaws.{odd-extents}
use Rattle.pe_access.proofs.state.CellState.flips.Goals as goal

pub returns : goal.returns
returns c axes way cell place h =
    let along = c.args.self.now.along in
    let pos = cell.pos in
    let long : length along ≡ 4 = omega (arith, c.type_inv.self) in
    let are = numbers_are along h.extents long h.numbers in
    let odd = are.odds ∙ odd-extents axes way cell h.extents place h.held are.four in
    let x = slice_index pos 0 in
    let y = slice_index pos 1 in
    let z = slice_index pos 2 in
    let w = slice_index pos 3 in
    let first : c.bit.result ≡ x % 2 = c.bit.ensures.value ∙ odd-at along pos 0 _ (omega arith) odd in
    let second : c.bit-2.result ≡ y % 2 = c.bit-2.ensures.value ∙ odd-at along pos 1 _ (omega arith) odd in
    let third : c.bit-3.result ≡ z % 2 = c.bit-3.ensures.value ∙ odd-at along pos 2 _ (omega arith) odd in
    let fourth : c.bit-4.result ≡ w % 2 = c.bit-4.ensures.value ∙ odd-at along pos 3 _ (omega arith) odd in
    let sum = c.bit.result + c.bit-2.result + c.bit-3.result + c.bit-4.result in
    let same₁ : c.bit-5.result ≡ c.bit.result = c.bit-5.ensures.value ∙ sym c.bit.ensures.value in
    let same₂ : c.bit-6.result ≡ c.bit-2.result = c.bit-6.ensures.value ∙ sym c.bit-2.ensures.value in
    let same₃ : c.bit-7.result ≡ c.bit-3.result = c.bit-7.ensures.value ∙ sym c.bit-3.ensures.value in
    let same₄ : c.bit-8.result ≡ c.bit-4.result = c.bit-8.ensures.value ∙ sym c.bit-4.ensures.value in
    let whole : (sum + c.bit-5.result) % 2 + 2 * ((sum + c.bit-6.result) % 2) + 4 * ((sum + c.bit-7.result) % 2) + 8 * ((sum + c.bit-8.result) % 2) ≡ (sum + c.bit.result) % 2 + 2 * ((sum + c.bit-2.result) % 2) + 4 * ((sum + c.bit-3.result) % 2) + 8 * ((sum + c.bit-4.result) % 2) = cc in
    bits-flips axes _ pos (λ axis k.
    ap (λ (n : ℕ). n / 2 ^ axis % 2) whole
    ∙ flip-at x y z w c.bit.result c.bit-2.result c.bit-3.result c.bit-4.result axis (omega (arith, h.grid.1)) first second third fourth
    ∙ ap (λ (ps : List ℕ). flip ps axis) (sym (four pos place.pos.four)))
