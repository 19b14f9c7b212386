use Rattle.std.proofs.Common.{rules, [], ◌∷◌, take, ap, ◌∙◌}
use Rattle.std.specs.Option.{option_copied}
use Rattle.std.proofs.lemmas.Result.{err_from_is_err_and}
use Rattle.std.proofs.lemmas.List.{take_rest}
use Rattle.byteorder.specs.Endian.{little_number}
use Rattle.pe_stream.specs.declared.fault.HeaderField.TheVariants.{Dim}
use Rattle.pe_stream.specs.Ranges.{range_of}
use Rattle.pe_stream.specs.Faults.{other_start, first_out_of_range}
use Rattle.pe_stream.proofs.Firsts.{first_none, first_some}
use Rattle.pe_stream.proofs.opening.read_header.Goals as goal

pub returns-in_err-check_start-clause-test : goal.returns-in_err-check_start-clause-test
returns-in_err-check_start-clause-test c =
    let p = err_from_is_err_and c.from_residual.result c.from_residual.ensures.1 in
    rw (p.1, p.2) (first_some (other_start c.args.bytes.now) (first_out_of_range (range_of (option_copied c.args.expect)) c.args.bytes.now ∷ []) _ c.in_err-check_start.ensures.test)

pub returns-in_err-check_fields-clause-test : goal.returns-in_err-check_fields-clause-test
returns-in_err-check_fields-clause-test c =
    let ranges = range_of (option_copied c.args.expect) in
    let bytes = c.args.bytes.now in
    let from = c.from_residual-in_err-check_fields in
    let p = err_from_is_err_and from.result from.ensures.1 in
    rw (p.1, p.2) (first_none (other_start bytes) (first_out_of_range ranges bytes ∷ []) c.in_ok-check_start.ensures.test ∙ first_some (first_out_of_range ranges bytes) [] _ c.in_err-check_fields.ensures.test)

pub unreachable-requires : goal.unreachable-requires
unreachable-requires c = let h = c.in_ok-check_fields.ensures.in_limits Dim in let e = c.in_default.ensures.exists.1 h in cc

pub returns-clause-test : goal.returns-clause-test
returns-clause-test c =
    let ranges = range_of (option_copied c.args.expect) in
    let bytes = c.args.bytes.now in
    first_none (other_start bytes) (first_out_of_range ranges bytes ∷ []) c.in_ok-check_start.ensures.test ∙ first_none (first_out_of_range ranges bytes) [] c.in_ok-check_fields.ensures.test

pub returns-clause-header : goal.returns-clause-header
returns-clause-header c = record {
  long = c.in_ok-check_start.ensures.long;
  magic_is = c.in_ok-check_start.ensures.magic;
  version_is = c.in_ok-check_start.ensures.version;
  in_limits = c.in_ok-check_fields.ensures.in_limits;
  dim = search rules;
  max_level = search rules;
  vertex_fields = search rules;
  cell_fields = search rules;
  global_fields = search rules;
  finished = c.number_at.ensures.value ∙ ap (little_number 8) (take_rest c.args.bytes.now 16);
  vertices = c.number_at-2.ensures.value ∙ ap (little_number 8) (take_rest c.args.bytes.now 24);
  cells = c.number_at-3.ensures.value ∙ ap (little_number 8) (take_rest c.args.bytes.now 32);
  finished_bytes = c.number_at.ensures.bytes ∙ ap (take 8) (take_rest c.args.bytes.now 16);
  vertices_bytes = c.number_at-2.ensures.bytes ∙ ap (take 8) (take_rest c.args.bytes.now 24);
  cells_bytes = c.number_at-3.ensures.bytes ∙ ap (take 8) (take_rest c.args.bytes.now 32);
  vertices_fit = search rules;
  cells_fit = search rules;
}
