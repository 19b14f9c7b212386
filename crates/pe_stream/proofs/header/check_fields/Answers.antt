use Rattle.std.proofs.Common.{refl, arith}
use Rattle.std.specs.Option.{option_copied}
use Rattle.std.proofs.lemmas.Result.{err_from_is_err_and}
use Rattle.pe_stream.specs.Ranges.{range_of}
use Rattle.pe_stream.specs.Faults.{header_fields}
use Rattle.pe_stream.proofs.HeaderFields.{Passes, passes_more, first_found, all_pass}
use Rattle.pe_stream.proofs.header.check_fields.Goals as goal

pub returns-in_err-check_field-clause-test : goal.returns-in_err-check_field-clause-test
returns-in_err-check_field-clause-test c =
    let p = err_from_is_err_and c.from_residual.result c.from_residual.ensures.1 in
    rw (p.1, p.2) (first_found (range_of (option_copied c.args.expect)) c.args.bytes.now header_fields c.loop-field.field-index _ _ (omega arith) refl c.loop-field.invariant c.in_err-check_field.ensures.test)

pub loop-field-preserved : goal.loop-field-preserved
loop-field-preserved c =
    let passed = c.in_ok-check_field.ensures in
    passes_more (Passes (range_of (option_copied c.args.expect)) c.args.bytes.now) header_fields c.loop-field.field-index _ (omega arith) refl c.loop-field.invariant
    (record { tested = passed.test; expected = passed.expected; in_limits = passed.in_limits })

pub returns-clause-test : goal.returns-clause-test
returns-clause-test c = (all_pass (range_of (option_copied c.args.expect)) c.args.bytes.now c.loop-field.field-index (omega arith) c.loop-field.invariant).none

pub returns-clause-expected : goal.returns-clause-expected
returns-clause-expected c = λ field. ((all_pass (range_of (option_copied c.args.expect)) c.args.bytes.now c.loop-field.field-index (omega arith) c.loop-field.invariant).each field).expected

pub returns-clause-in_limits : goal.returns-clause-in_limits
returns-clause-in_limits c = λ field. ((all_pass (range_of (option_copied c.args.expect)) c.args.bytes.now c.loop-field.field-index (omega arith) c.loop-field.invariant).each field).in_limits
