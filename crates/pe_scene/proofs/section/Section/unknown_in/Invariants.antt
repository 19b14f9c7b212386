use Rattle.std.proofs.Common.{◌≡◌, map, string_bytes}
use Rattle.std.specs.String.{string_cmp}
use Rattle.std.specs.List.Sorted.{IsStrictlySortedBy}
use Rattle.toml.specs.View.{table_view}
use Rattle.pe_scene.specs.Sections.{unknown_in, unknown_of}
use Rattle.pe_scene.proofs.section.Section.unknown_in.Given as goal

-- the keys to come decide, and ascend
abbrev pub invariant-loop-key : goal.invariant-loop-key
invariant-loop-key l = record {
  decide : unknown_of l.self (map string_bytes l.key-iterator) ≡ unknown_in l.self (table_view l.table);
  ascend : IsStrictlySortedBy string_cmp l.key-iterator;
}
