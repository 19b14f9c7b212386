use Rattle.std.proofs.Common.{ℕ, refl}
use Rattle.pe_base.specs.declared.event.Event.TheVariants as event
use Rattle.pe_base.specs.declared.event.Sort.TheVariants as sort
use Rattle.pe_base.specs.declared.setup.Names.{Names}
use Rattle.pe_check.specs.FieldNames.{names_view}
use Rattle.pe_check.specs.Resolving.{reach_in, context_at}
use Rattle.pe_check.specs.Wider.{IsWider}
use Rattle.language_rows.proofs.meaning.run_text.Goals as goal

plain_wider : (axes : ℕ) (names : Names) → IsWider (reach_in (context_at event.BeginIteration axes (names_view names))) (record { sort = sort.Plain; dim = 2; vertex_fields = 8; cell_fields = 8; global_fields = 8 })
plain_wider axes names = record { sort = refl; dim = λ placed. absurd cc; vertex = names.few_of_vertices; cell = names.few_of_cells; global = names.few_of_all }

pub eval-answer-requires-clause-fits : goal.eval-answer-requires-clause-fits
eval-answer-requires-clause-fits g c =
    c.fits_widen.ensures _ _ c.in-Ok.body (plain_wider c.expect-plane.result c.names-names.result) c.in-Ok.ensures.fits
