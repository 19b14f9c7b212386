use Rattle.std.proofs.Common.{◌≡◌, ◌++◌, drop}
use Rattle.toml.specs.View.{items_view}
use Rattle.pe_scene.specs.Texts.{texts_of}
use Rattle.pe_scene.proofs.fields.texts_of.Given as goal

-- the texts so far, and those to come
abbrev pub invariant-loop-value : goal.invariant-loop-value
invariant-loop-value l = l.texts.items ++ texts_of (items_view (drop l.value-index l.values)) ≡ texts_of (items_view l.values)
