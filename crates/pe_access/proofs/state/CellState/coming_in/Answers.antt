-- The greater of the row's number and that of the last axis is the greatest of all.
use Rattle.std.proofs.Common.{ℕ, ◌<◌, ◌-◌, ◌/◌, ◌^◌, drop, refl, ap, ◌∙◌, subst, arith}
use Rattle.std.proofs.lemmas.Option.{get_or_from_slice_get}
use Rattle.pe_access.specs.Extents.{Earlier}
use Rattle.pe_access.specs.Numbers.{stack_of}
use Rattle.pe_access.specs.Rows.{came, end_at}
use Rattle.pe_access.proofs.NumberLaws.{numbers_are}
use Rattle.pe_access.proofs.RouteProofs.{route_in-is}
use Rattle.pe_access.proofs.RowLaws.{corner_below, pair_side, row_stack}
use Rattle.pe_access.proofs.StateLaws.{front-extents, idle-rest}
use Rattle.pe_access.proofs.state.CellState.coming_in.Goals as goal

pub bounds-row-corner-2 : goal.bounds-row-corner-2
bounds-row-corner-2 c = omega (arith, corner_below c.args.self.now.axes c.args.corner c.requires.axes.1 c.requires.corner, c.type_inv.row)

pub returns : goal.returns
returns c axes way cell place h inside =
    let self = c.args.self.now in
    let k = c.args.corner in
    let long = c.requires.row.four in
    let are = numbers_are self.along h.extents long h.numbers in
    let side = pair_side self.axes k c.requires.axes.0 c.requires.axes.1 c.requires.corner in
    let Small : ℕ → Type 0 = λ m. k < 2 ^ m in
    ap stack_of c.max.ensures
    ∙ row_stack came Earlier (λ i s extent. refl) axes way cell self k _ _ _ long h c.requires.corner (c.requires.row.coming k c.requires.corner)
    (λ last is. get_or_from_slice_get c.args.row.now.ends (k / 2) (end_at last (k / 2 / 2 ^ (self.axes - 2))) _ (c.requires.row.ends last (k / 2) is side.0))
    (route_in-is way axes k cell h.extents (drop axes h.extents) h.grid.1 place (subst Small h.same_axes c.requires.corner) (front-extents axes way cell h.extents h.grid.1 place are.four h.held) (idle-rest axes h.extents h.held.others) inside)
