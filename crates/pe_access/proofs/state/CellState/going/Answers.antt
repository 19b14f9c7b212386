-- The greatest number is that of the face to the next cell.
use Rattle.std.proofs.Common.{◌≡◌, ℕ, ◌/◌, ◌%◌, ◌^◌, ◌<◌, get_or, drop, max, ap, ◌∙◌, subst, arith}
use Rattle.pe_base.specs.Tree.Places.{bits}
use Rattle.pe_access.specs.declared.numbers.Numbers.{Numbers}
use Rattle.pe_access.specs.Extents.{Later, root_extent}
use Rattle.pe_access.specs.Numbers.{face_number, stack_of}
use Rattle.pe_access.proofs.NumberLaws.{numbers_are, greatest_four, stack_of-greatest, side_of}
use Rattle.pe_access.proofs.RouteProofs.{bits-small, route_out-is}
use Rattle.pe_access.proofs.StateLaws.{front-extents, idle-rest}
use Rattle.pe_access.proofs.state.CellState.going.Goals as goal

pub returns : goal.returns
returns c axes way cell place h inside =
    let along = c.args.self.now.along in
    let k = c.args.corner in
    let extents = h.extents in
    let are = numbers_are along extents (omega (arith, c.type_inv.self)) h.numbers in
    let small : ℕ → Type 0 = λ n. k < 2 ^ n in
    let went : Numbers → ℕ = λ n. n.going in
    let first : c.at-4.result.going ≡ face_number Later 0 (k % 2) (get_or extents 0 root_extent) = ap went (c.at-4.ensures ∙ side_of 0 (k % 2) _ (get_or extents 0 root_extent) (are.each 0 _ root_extent (omega arith)) (omega arith)) in
    let second : c.at-3.result.going ≡ face_number Later 1 (k / 2 % 2) (get_or extents 1 root_extent) = ap went (c.at-3.ensures ∙ side_of 1 (k / 2 % 2) _ (get_or extents 1 root_extent) (are.each 1 _ root_extent (omega arith)) (omega arith)) in
    let third : c.at.result.going ≡ face_number Later 2 (k / 4 % 2) (get_or extents 2 root_extent) = ap went (c.at.ensures ∙ side_of 2 (k / 4 % 2) _ (get_or extents 2 root_extent) (are.each 2 _ root_extent (omega arith)) (omega arith)) in
    let fourth : c.at-2.result.going ≡ face_number Later 3 (k / 8 % 2) (get_or extents 3 root_extent) = ap went (c.at-2.ensures ∙ side_of 3 (k / 8 % 2) _ (get_or extents 3 root_extent) (are.each 3 _ root_extent (omega arith)) (omega arith)) in
    let number = c.max.ensures ∙ ap (λ (n : ℕ). max c.at-4.result.going n) (c.max-behind.ensures ∙ ap (λ (n : ℕ). max c.at-3.result.going n) c.max-last.ensures) in
    ap stack_of (number ∙ greatest_four Later k c.at-4.result.going c.at-3.result.going c.at.result.going c.at-2.result.going extents root_extent are.four first second third fourth)
    ∙ stack_of-greatest Later (bits 4 k) extents _ are.four (bits-small 4 k)
    (route_out-is way axes k cell extents (drop axes extents) h.grid.1 place (subst small h.same_axes c.requires) (front-extents axes way cell extents h.grid.1 place are.four h.held) (idle-rest axes extents h.held.others) inside)
