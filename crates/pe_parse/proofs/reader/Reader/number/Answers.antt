use Rattle.std.proofs.Common.{◌≡◌, ◌≤◌, pos, ℤ, subst, sym, ◌∙◌, ap, ℕ, [], ◌∷◌, arith}
use Rattle.std.proofs.lemmas.Int.{to_z-of_z, ints}
use mir.Syntax.{w64}
use mir.Val.{to_z, of_z}
use Rattle.pe_parse.specs.declared.fault.ParseFault.TheVariants.{Literal}
use Rattle.pe_parse.specs.Frames.{Value}
use Rattle.pe_parse.specs.Reading.{seen, size_of, Stopped}
use Rattle.pe_parse.proofs.Operands.{number_read, number_large}
use Rattle.pe_parse.proofs.reader.Reader.number.Goals as goal

kept : (n : ℕ) → n ≤ 9223372036854775807 → to_z w64 (of_z w64 (pos n)) ≡ pos n
kept n h = to_z-of_z w64 (pos n) (omega (arith, ints))

pub returns-in-Some : goal.returns-in-Some
returns-in-Some c depth limited =
    let value_is = c.in-Some.ensures.0 in
    let same = ap (λ (z : ℤ). to_z w64 (of_z w64 z)) value_is ∙ kept _ c.in-Some.ensures.1 in
    number_read (size_of c.args.self.now) (seen c.args.self.now) c.args.at (to_z w64 (of_z w64 c.in-Some.value)) depth limited c.requires.kind same c.in-Some.ensures.1

pub returns-in-None : goal.returns-in-None
returns-in-None c depth limited =
    subst (λ (n : ℕ). Stopped (size_of c.args.self.now) (seen c.args.self.now) (Value ∷ []) depth c.args.at (Literal n)) (sym c.offset.ensures)
    (number_large (size_of c.args.self.now) (seen c.args.self.now) c.args.at depth limited c.requires.kind c.in-None.ensures)
