use Rattle.std.proofs.Common.{FitsSigned, arith, rules}
use Rattle.std.specs.Int.{w64}
use Rattle.std.proofs.Math.Facts.{to_z-of_z}
use Rattle.pe_stream.proofs.Payloads.{read_more}
use Rattle.pe_stream.proofs.fields.read_fields.Goals as goal

pub loop-i-preserved : goal.loop-i-preserved
loop-i-preserved c =
    let fits : FitsSigned w64 c.signed_at-number.result = search rules in
    read_more c.loop-i.fields.a c.set.new.self.a c.loop-i.i c.signed_at-number.result c.args.bytes.now (omega arith) (simp to_z-of_z at c.set.ensures) fits c.signed_at-number.ensures.bytes c.loop-i.invariant
