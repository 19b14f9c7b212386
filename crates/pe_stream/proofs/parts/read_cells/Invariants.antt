-- The cells so far are read.
use Rattle.pe_stream.specs.Layout.{fields_bytes, fields_size}
use Rattle.pe_stream.specs.Parts.{IsReadPayload}
use Rattle.pe_stream.proofs.Pieces.{IsReadSoFar}
use Rattle.pe_stream.proofs.parts.read_cells.Given as goal

abbrev pub invariant-loop : goal.invariant-loop
invariant-loop l = IsReadSoFar (fields_bytes l.fields) (IsReadPayload l.fields) (fields_size l.fields) l.bytes l.cells.items l.rest l.counter
