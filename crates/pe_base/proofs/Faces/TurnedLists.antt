-- What a cell leaves at a face in one way is what arrives there in the other.
use Rattle.std.proofs.Common.{◌≡◌, ℕ, ◌+◌, ◌≤◌, Bool, ◌&&◌, map, sym, ap, ◌∙◌}
use Rattle.pe_base.specs.declared.place.Place.{Place}
use Rattle.pe_base.specs.declared.way.Way.{Way}
use Rattle.pe_base.specs.Tree.Ways.{opposite}
use Rattle.pe_base.specs.Steps.Faces.{Face, Touch, across, is_on, loads, comes_across, goes_across, arriving, leaving}
use Rattle.pe_base.specs.Steps.Stacks.{is_stack, comes_by, goes_by}
use Rattle.pe_base.proofs.Lists.{Each-all, filter_same}
use Rattle.pe_base.proofs.Steps.Turned.{is_step-opposite, stack-opposite}
use Rattle.pe_base.proofs.Faces.FaceLists.{leaving_is}

pub leaving-opposite : (axes : ℕ) (way : Way) (counts : Place → Bool) (levels : ℕ) (face : Face) (cell : Place) → leaving axes way counts levels face cell ≡ arriving axes (opposite way) counts levels face cell
leaving-opposite axes way counts levels face cell =
    let touches = loads axes (opposite way) levels cell in
    leaving_is axes way counts levels face cell
    ∙ ap (map (λ t. t.vertex)) (filter_same
    (λ t. is_on (cell.level + levels) face cell t.vertex && goes_across axes way counts face t)
    (λ t. is_on (cell.level + levels) face cell t.vertex && comes_across axes (opposite way) counts face t)
    touches (Each-all _ (λ t. ap (λ b. is_on (cell.level + levels) face cell t.vertex && (counts t.vertex && b)) (sym (is_step-opposite axes way t.vertex (across face t.cell) t.cell))) touches))

pub goes_by-opposite : (axes : ℕ) (way : Way) (counts : Place → Bool) (s : ℕ) (touch : Touch) → axes ≤ 4 → goes_by axes way counts s touch ≡ comes_by axes (opposite way) counts s touch
goes_by-opposite axes way counts s touch four = ap (λ o. counts touch.vertex && is_stack s o) (sym (stack-opposite axes way touch.vertex touch.cell four))
