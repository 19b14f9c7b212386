use Rattle.std.proofs.Common.{◌≡◌, ℕ, refl, sym}
use Rattle.pe_base.specs.declared.event.Event.{Event}
use Rattle.pe_base.specs.declared.setup.Names.{Names}
use Rattle.pe_check.specs.Resolving.{reach_in, context_at}
use Rattle.pe_check.specs.FieldNames.{names_view}
use Rattle.pe_check.specs.Wider.{IsWider}
use Rattle.bench_eval.specs.Mill.{reach_at}
use Rattle.bench_eval.proofs.bodies.body.Goals as goal

wider : (event : Event) (axes : ℕ) (names : Names) → axes ≡ 2 → IsWider (reach_in (context_at event axes (names_view names))) (reach_at event)
wider event axes names plane = record { sort = refl; dim = λ placed. sym plane; vertex = names.few_of_vertices; cell = names.few_of_cells; global = names.few_of_all }

pub returns-in-Ok-check : goal.returns-in-Ok-check
returns-in-Ok-check c = c.fits_widen.ensures _ _ c.in-Ok-check.body (wider c.args.event c.args.dim c.in_ok-names.names c.requires) c.in-Ok-check.ensures.fits
