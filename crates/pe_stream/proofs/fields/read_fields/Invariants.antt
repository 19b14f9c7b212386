use Rattle.pe_stream.proofs.Payloads.{IsReadSoFar}
use Rattle.pe_stream.proofs.fields.read_fields.Given as goal

abbrev pub invariant-loop-i : goal.invariant-loop-i
invariant-loop-i l = IsReadSoFar l.fields.a l.i l.bytes
