-- Each number is the greatest along all axes but the last, and each end is the last axis's.
use Rattle.std.proofs.Common.{◌≡◌, ℕ, ◌-◌, ◌/◌, ◌^◌, ◌<◌, length, Some, slice_get, sym, ap, ◌∙◌, subst, arith}
use Rattle.std.proofs.lemmas.Option.{get_or_from_slice_get}
use Rattle.pe_access.specs.declared.numbers.Axis.{Axis}
use Rattle.pe_access.specs.Rows.{came, went, end_at}
use Rattle.pe_access.proofs.RowLaws.{row_front}
use Rattle.pe_access.proofs.state.CellState.set_row.Goals as goal

pub returns : goal.returns
returns c =
    let self = c.args.self.now in
    let same = c.requires.same in
    let long : length self.along ≡ 4 = omega (arith, c.type_inv.self) in
    record {
      four = long;
      coming = row_front came self.axes self.along c.set_greatest.new.numbers _ c.requires.axes.0 c.requires.axes.1 long (λ is. c.set_greatest.ensures.two (same ∙ is)) (λ is. c.set_greatest.ensures.three (same ∙ is)) (λ is. c.set_greatest.ensures.four (same ∙ is));
      going = row_front went self.axes self.along c.set_greatest-2.new.numbers _ c.requires.axes.0 c.requires.axes.1 long (λ is. c.set_greatest-2.ensures.two (same ∙ is)) (λ is. c.set_greatest-2.ensures.three (same ∙ is)) (λ is. c.set_greatest-2.ensures.four (same ∙ is));
      ends = λ last pair is small. (
          let Within : ℕ → Type 0 = λ m. pair < 2 ^ (m - 1) in
          let Last : ℕ → Type 0 = λ m. slice_get self.along (m - 1) ≡ Some last in
          c.set_ends.ensures pair (subst Within (sym same) small)
          ∙ ap (λ (a : Axis). Some (end_at a (pair / 2 ^ (c.args.axes - 2)))) (get_or_from_slice_get self.along (c.args.axes - 1) last _ (subst Last (sym same) is))
          ∙ ap (λ (m : ℕ). Some (end_at last (pair / 2 ^ (m - 2)))) same
          );
    }
