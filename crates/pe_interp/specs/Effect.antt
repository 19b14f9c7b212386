-- The effect of a scenario's events: the trace line, if the event is traced, and then the body, if it has one. It is said
-- of what a scenario says, as plain data; a scenario as it is held has the effect of what it says.
use Rattle.std.specs.Prelude.{ℕ, ℤ, List, [], Option, Some, None, if◌then◌else◌}
use Rattle.pe_base.specs.declared.event.Event.{Event}
use Rattle.pe_base.specs.declared.event.Sort.{Sort}
use Rattle.pe_base.specs.declared.event.Sort.TheVariants.{Plain, Vertex, Cell}
use Rattle.pe_base.specs.declared.place.Place.{Place}
use Rattle.pe_base.specs.Acts.Events.{sort_of}
use Rattle.pe_base.specs.Acts.Payloads.{zeros}
use Rattle.pe_base.specs.Acts.Effects.{Seen, Outcome, Rules, rules_through}
use Rattle.pe_base.specs.Acts.Outcomes.{fine, after_text}
use Rattle.pe_base.specs.Lines.{line_by}
use Rattle.pe_check.specs.declared.checked.Stmt.{Stmt}
use Rattle.pe_eval.specs.Meaning.{Setting, meaning}
use Rattle.pe_scene.specs.declared.scenario.Scenario.{Scenario}
use Rattle.pe_scene.specs.Bodies.{body_at}
use Rattle.pe_scene.specs.Said.{Said}
use Rattle.pe_scene.specs.SaidView.{said_of}

abbrev pub trace_line : Said → Event → ℕ → Place → List ℕ
trace_line said event traversal place = if said.traced event then line_by (sort_of event) said.settings.dim event traversal place else []

-- below which level a vertex may be triggered to refine: at a plain event there is none
abbrev pub limit_by : Sort → ℕ → ℕ
limit_by Plain max_level = 0
limit_by Vertex max_level = max_level
limit_by Cell max_level = max_level

abbrev pub setting_at : Said → Event → ℕ → Setting
setting_at said event traversal = record { traversal = traversal; max_level = limit_by (sort_of event) said.settings.max_level }

-- what the body does, if there is one
abbrev pub acted : Option (List Stmt) → Setting → Seen → List ℤ → Outcome
acted None setting seen list = fine seen list
acted (Some body) setting seen list = meaning body setting seen list

abbrev pub effect_of : Said → Event → ℕ → List ℤ → Seen → Outcome
effect_of said event traversal list seen =
    after_text (trace_line said event traversal seen.place) (acted (body_at said.bodies event) (setting_at said event traversal) seen list)

-- the rules of what a scenario says: what is fresh has zeros, and making it changes nothing
abbrev pub said_rules : Rules Said
said_rules = record {
  effect = effect_of;
  fresh_vertex = λ said list. record { numbers = zeros; list = list };
  fresh_cell = λ said list. record { numbers = zeros; list = list };
  greatest = λ said. said.settings.max_level;
}

-- and of a scenario
abbrev pub scenario_rules : Rules Scenario
scenario_rules = rules_through said_of said_rules
