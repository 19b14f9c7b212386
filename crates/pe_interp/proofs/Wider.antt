-- A body of a scenario fits where its event lends eight numbers of each kind.
use Rattle.std.proofs.Common.{◌≡◌, ℕ, List, length, Some, IsTrue, refl}
use Rattle.pe_base.specs.declared.event.Event.{Event}
use Rattle.pe_base.specs.declared.event.Sort.{Sort}
use Rattle.pe_base.specs.Acts.Events.{sort_of}
use Rattle.pe_check.specs.declared.checked.Stmt.{Stmt}
use Rattle.pe_check.specs.Fits.{Reach, has_place, fits}
use Rattle.pe_check.proofs.Widening.{fits_wider}
use Rattle.pe_scene.specs.declared.scenario.Scenario.{Scenario}
use Rattle.pe_scene.specs.Bodies.{body_at}

-- eight numbers of each kind
abbrev pub lent : Sort → ℕ → Reach
lent sort axes = record { sort = sort; dim = axes; vertex_fields = 8; cell_fields = 8; global_fields = 8 }

-- in the scenario's dimension, or in any where the event has no place
pub body_fits : (scenario : Scenario) (event : Event) (sort : Sort) (axes : ℕ) (body : List Stmt) → sort_of event ≡ sort → body_at scenario.bodies event ≡ Some body
    → (IsTrue (has_place sort) → axes ≡ scenario.setup.dim) → IsTrue (fits (lent sort axes) body)
body_fits scenario event sort axes body is has same =
    let names = scenario.names in
    let narrow : Reach = record { sort = sort; dim = scenario.setup.dim; vertex_fields = length names.vertex; cell_fields = length names.cell; global_fields = length names.global } in
    fits_wider narrow (lent sort axes) body
    (record { sort = refl; dim = same; vertex = names.few_of_vertices; cell = names.few_of_cells; global = names.few_of_all })
    (rw is at (scenario.fit.each event body has))
