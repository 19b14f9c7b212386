-- The bytes of the first cells are written.
use Rattle.std.proofs.Common.{◌≡◌, ◌++◌, take}
use Rattle.std.specs.List.{flat_map}
use Rattle.pe_stream.specs.Layout.{fields_bytes}
use Rattle.pe_stream.proofs.writing.write_cells.Given as goal

abbrev pub invariant-loop-cell : goal.invariant-loop-cell
invariant-loop-cell l = l.out.items ≡ l.initial.out.items ++ flat_map (fields_bytes l.count) (take l.cell-index l.cells)
