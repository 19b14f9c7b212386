-- One more corner comes.
use Rattle.std.proofs.Common.{ℕ, List, [], ◌∷◌, ◌++◌, ap, ap₂, ◌∙◌, sym, arith}
use Rattle.std.proofs.lemmas.List.FromFn.{map-range_with_len_more}
use Rattle.pe_base.specs.declared.place.Place.{Place}
use Rattle.pe_base.specs.Tree.Places.{corner}
use Rattle.pe_base.specs.Steps.Faces.{Touch}
use Rattle.walk_rows.proofs.plain.touches.corner_touches.Goals as goal

pub loop-k-preserved : goal.loop-k-preserved
loop-k-preserved c =
    let touch : Place → Touch = λ vertex. record { vertex = vertex; cell = c.args.cell.now } in
    c.in_ok-push.ensures.items
    ∙ ap₂ (λ (ts : List Touch) (t : Touch). ts ++ t ∷ []) c.loop-k.invariant (c.new.ensures ∙ ap touch c.in_ok-vertex.ensures)
    ∙ sym (map-range_with_len_more (λ (k : ℕ). touch (corner c.args.setting.now.dim c.args.cell.now k)) 0 c.loop-k.k c.loop-k.k (omega arith))
