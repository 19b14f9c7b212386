use Rattle.std.proofs.Common.{FitsSigned, pos, rules, get_or, length, take, ◌<◌}
use Rattle.std.specs.Int.{w64}
use Rattle.std.proofs.Math.Facts.{to_z-of_z}
use Rattle.pe_stream.proofs.Payloads.{written_more}
use Rattle.pe_stream.proofs.fields.write_fields.Goals as goal

pub loop-number-preserved : goal.loop-number-preserved
loop-number-preserved c =
    let numbers = take c.args.count c.args.fields.now.a in
    let i = c.loop-number.number-index in
    let fits : FitsSigned w64 (get_or numbers i (pos 0)) = search rules in
    let inside : i < length numbers = search rules in
    written_more numbers i _ c.args.out.now.items c.loop-number.out.items c.write_signed.new.out.items inside (to_z-of_z fits) c.loop-number.invariant c.in_ok-write_signed.ensures
