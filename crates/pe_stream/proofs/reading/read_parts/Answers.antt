use Rattle.std.proofs.Common.{◌≡◌, ◌*◌, refl, sym, ap, subst, ◌∙◌, drop}
use Rattle.std.proofs.lemmas.List.{take_rest}
use Rattle.std.proofs.lemmas.Result.{err_from_is_err_and}
use Rattle.pe_stream.specs.Layout.{fields_size, vertex_size}
use Rattle.pe_stream.specs.Faults.{IsRefusal}
use Rattle.pe_stream.proofs.Pieces.{splits_at}
use Rattle.pe_stream.proofs.Assembled.{cut_into, unsaved_is, assembled}
use Rattle.pe_stream.proofs.reading.read_parts.Goals as goal

pub returns-in_err-vertices-clause-test : goal.returns-in_err-vertices-clause-test
returns-in_err-vertices-clause-test c =
    let h = c.args.header.now in
    let bytes = c.args.bytes.now in
    let one = splits_at _ (fields_size h.global_fields) _ _ _ c.fields_size.ensures c.split_at.ensures.front c.split_at.ensures.back in
    let two = splits_at _ (fields_size h.cell_fields) _ _ _ c.fields_size-2.ensures c.split_at-2.ensures.front c.split_at-2.ensures.back in
    let is = unsaved_is bytes h _ _ _ _ c.requires.header (cut_into bytes h _ _ _ _ _ _ (take_rest bytes 40) one two refl) in
    let p = err_from_is_err_and c.from_residual.result c.from_residual.ensures.1 in
    rw (p.1, p.2) (subst (λ t. IsRefusal t c.in_err-vertices.field-0.0) (sym is) c.in_err-vertices.ensures.test)

pub returns-clause-test : goal.returns-clause-test
returns-clause-test c =
    let h = c.args.header.now in
    let bytes = c.args.bytes.now in
    let one = splits_at _ (fields_size h.global_fields) _ _ _ c.fields_size.ensures c.split_at.ensures.front c.split_at.ensures.back in
    let two = splits_at _ (fields_size h.cell_fields) _ _ _ c.fields_size-2.ensures c.split_at-2.ensures.front c.split_at-2.ensures.back in
    unsaved_is bytes h _ _ _ _ c.requires.header (cut_into bytes h _ _ _ _ _ _ (take_rest bytes 40) one two refl) ∙ c.in_ok-vertices.ensures.test

pub returns-clause-saved : goal.returns-clause-saved
returns-clause-saved c =
    let h = c.args.header.now in
    let bytes = c.args.bytes.now in
    let one = splits_at _ (fields_size h.global_fields) _ _ _ c.fields_size.ensures c.split_at.ensures.front c.split_at.ensures.back in
    let two = splits_at _ (fields_size h.cell_fields) _ _ _ c.fields_size-2.ensures c.split_at-2.ensures.front c.split_at-2.ensures.back in
    let m : h.vertices * vertex_size h.vertex_fields ≡ h.vertices * c.vertex_size.result = ap (λ n. h.vertices * n) (sym c.vertex_size.ensures) in
    let rest = take_rest _ (h.vertices * c.vertex_size.result) ∙ ap (λ n. drop n c.split_at-2.result.1.now) (sym m) in
    let parts = cut_into bytes h _ _ _ _ _ _ (take_rest bytes 40) one two rest in
    rw (c.new.ensures, c.new-2.ensures)
    (assembled bytes h _ _ _ _ c.requires.header parts c.read_fields.result c.read_fields-2.result c.in_ok-vertices.vertices.items c.in_ok-cells.cells.items c.requires.size
    c.requires.header.vertices_fit c.requires.header.cells_fit
    c.read_fields.ensures.bytes (record { padded = c.read_fields.ensures.padded; payload = c.read_fields.ensures.payload })
    c.read_fields-2.ensures.bytes (record { padded = c.read_fields-2.ensures.padded; payload = c.read_fields-2.ensures.payload })
    c.in_ok-vertices.ensures.ok c.in_ok-cells.ensures.ok)
