-- The bytes of the first numbers are written.
use Rattle.std.proofs.Common.{◌≡◌, ◌++◌, take}
use Rattle.std.specs.List.{flat_map}
use Rattle.pe_stream.specs.Layout.{signed_bytes}
use Rattle.pe_stream.proofs.fields.write_fields.Given as goal

abbrev pub invariant-loop-number : goal.invariant-loop-number
invariant-loop-number l = l.out.items ≡ l.initial.out.items ++ flat_map signed_bytes (take l.number-index l.number-items)
