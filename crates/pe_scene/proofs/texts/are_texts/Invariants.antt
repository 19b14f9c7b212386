use Rattle.std.proofs.Common.{◌≡◌, drop}
use Rattle.toml.specs.View.{items_view}
use Rattle.pe_scene.specs.Texts.{are_texts}
use Rattle.pe_scene.proofs.texts.are_texts.Given as goal

-- the values to come decide
abbrev pub invariant-loop-value : goal.invariant-loop-value
invariant-loop-value l = are_texts (items_view (drop l.value-index l.values)) ≡ are_texts (items_view l.values)
