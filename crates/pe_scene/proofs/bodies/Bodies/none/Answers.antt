use Rattle.std.proofs.Common.{◌<◌, None, replicate, sym, ◌∙◌, arith}
use Rattle.std.proofs.lemmas.List.{ext_get_or, get_or-replicate}
use Rattle.pe_scene.proofs.bodies.Bodies.none.Goals as goal

pub returns : goal.returns
returns c =
    let long = c.default.ensures.long in
    ext_get_or None c.default.result (replicate 12 None) long (λ i below.
    let within : i < 12 = omega arith in
    c.default.ensures.at i None within ∙ sym (get_or-replicate 12 i None None within))
