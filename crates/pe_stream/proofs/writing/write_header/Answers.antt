use Rattle.std.proofs.Common.{ℕ, List, [], ◌∷◌, ◌++◌, length, ap, ◌∙◌}
use Rattle.pe_stream.specs.declared.saved.Saved.{Saved}
use Rattle.pe_stream.specs.Layout.{magic, version, number_bytes}
use Rattle.pe_stream.proofs.Pieces.{five_written}
use Rattle.pe_stream.proofs.writing.write_header.Goals as goal

-- a header behind some bytes, with this number of axes and of vertices
abbrev behind : List ℕ → Saved → ℕ → ℕ → List ℕ
behind old s axes vertices =
    old ++ (magic ++ ((version ∷ axes ∷ s.max_level ∷ s.vertex_fields ∷ s.cell_fields ∷ s.global_fields ∷ 0 ∷ 0 ∷ [])
    ++ (number_bytes s.finished ++ (number_bytes vertices ++ number_bytes s.cell_count))))

pub returns : goal.returns
returns c =
    let old = c.args.out.now.items in
    let saved = c.args.saved.now in
    five_written old _ _ _ _ _ _ _ _ _ _ c.in_ok-extend_from_slice.ensures.items c.in_ok-extend_from_slice-2.ensures.items c.in_ok-write_number.ensures c.in_ok-write_number-2.ensures c.in_ok-write_number-3.ensures
    ∙ ap (λ d. behind old saved d (length c.as_slice.result.now)) c.axes.ensures.value
    ∙ ap (λ v. behind old saved saved.dim (length v)) c.as_slice.ensures
