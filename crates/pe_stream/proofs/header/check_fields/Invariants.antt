-- The fields so far are in their ranges.
use Rattle.std.proofs.Common.{take}
use Rattle.std.specs.List.{AllByRecursion}
use Rattle.std.specs.Option.{option_copied}
use Rattle.pe_stream.specs.Ranges.{range_of}
use Rattle.pe_stream.proofs.HeaderFields.{Passes}
use Rattle.pe_stream.proofs.header.check_fields.Given as goal

abbrev pub invariant-loop-field : goal.invariant-loop-field
invariant-loop-field l = AllByRecursion (Passes (range_of (option_copied l.expect)) l.bytes) (take l.field-index l.field-items)
