use Rattle.std.proofs.Common.{◌≡◌, drop}
use Rattle.pe_scene.specs.Texts.{are_field_names}
use Rattle.pe_scene.proofs.fields.are_field_names.Given as goal

-- the names to come decide
abbrev pub invariant-loop-i : goal.invariant-loop-i
invariant-loop-i l = are_field_names (drop l.i l.names) ≡ are_field_names l.names
