-- The rules of a scenario are lawful.
use Rattle.std.proofs.Common.{◌≡◌, ◌∙◌, ℕ, ℤ, ◌-◌, List, [], ◌∷◌, All, true, false, cond, ◌&&◌, Option, Some, None, refl, inl, inr, arith}
use Rattle.std.specs.Prelude.{pos}
use Rattle.std.proofs.lemmas.Bool.{le-ltb}
use Rattle.std.proofs.lemmas.List.Elements.{All-replicate}
use Rattle.pe_base.specs.declared.event.Event.{Event}
use Rattle.pe_base.specs.declared.event.Sort.{Sort}
use Rattle.pe_base.specs.declared.event.Sort.TheVariants.{Plain, Vertex, Cell}
use Rattle.pe_base.specs.declared.state.State.{State}
use Rattle.pe_base.specs.declared.state.State.TheVariants.{Unrefined, RefinementTriggered, Refining, Refined, EraseTriggered, Erasing}
use Rattle.pe_base.specs.declared.kind.Kind.{Kind}
use Rattle.pe_base.specs.Life.States.{refined_state, is_stored}
use Rattle.pe_base.specs.Acts.Events.{sort_of}
use Rattle.pe_base.specs.Acts.Payloads.{zeros}
use Rattle.pe_base.specs.Acts.Effects.{SeenVertex, Seen, MayBecome, IsTriggered, AreTriggered, IsTriggeredIfAny, MayLeave, AreLawful}
use Rattle.pe_check.specs.declared.checked.Stmt.{Stmt}
use Rattle.pe_eval.proofs.Meanings.{meaning_lawful}
use Rattle.pe_base.proofs.Lawful.{leaves_same}
use Rattle.pe_scene.specs.Said.{Said}
use Rattle.pe_scene.specs.SaidView.{said_of}
use Rattle.pe_scene.specs.Bodies.{body_at}
use Rattle.pe_eval.specs.Meaning.{Setting}
use Rattle.pe_interp.specs.Effect.{limit_by, setting_at, acted, effect_of, said_rules, scenario_rules}

-- where no level is below the limit, none is triggered to refine
refined_state-none : (level : ℕ) (kind : Kind) (state : State) → refined_state level 0 kind state ≡ state
refined_state-none level kind Unrefined = rw (le-ltb level 0 (omega arith)) (elim (is_stored kind) as (λ b. cond (b && false) RefinementTriggered Unrefined ≡ Unrefined) [ true ↦ refl | false ↦ refl ])
refined_state-none level kind RefinementTriggered = refl
refined_state-none level kind Refining = refl
refined_state-none level kind Refined = refl
refined_state-none level kind EraseTriggered = refl
refined_state-none level kind Erasing = refl

module _ (greatest level : ℕ) where
  becomes-none : (kind : Kind) (before after : State) → MayBecome 0 level kind before after → MayBecome greatest level kind before after
  becomes-none kind before after (inl is) = inl is
  becomes-none kind before after (inr (inl is)) = inl (is ∙ refined_state-none level kind before)
  becomes-none kind before after (inr (inr is)) = inr (inr is)

  triggered-none : (before after : SeenVertex) → IsTriggered 0 level before after → IsTriggered greatest level before after
  triggered-none before after it = record { kind = it.kind; state = becomes-none before.kind before.state after.state it.state }

  any_triggered-none : (before after : Option SeenVertex) → IsTriggeredIfAny 0 level before after → IsTriggeredIfAny greatest level before after
  any_triggered-none None None it = tt
  any_triggered-none None (Some after) it = it
  any_triggered-none (Some before) None it = it
  any_triggered-none (Some before) (Some after) it = triggered-none before after it

  all_triggered-none : (before after : List SeenVertex) → AreTriggered 0 level before after → AreTriggered greatest level before after
  all_triggered-none [] [] them = tt
  all_triggered-none [] (after ∷ afters) them = them
  all_triggered-none (before ∷ befores) [] them = them
  all_triggered-none (before ∷ befores) (after ∷ afters) them = (triggered-none before after them.0, all_triggered-none befores afters them.1)

leaves-none : (greatest : ℕ) (before after : Seen) → MayLeave 0 before after → MayLeave greatest before after
leaves-none greatest before after it = record {
  place = it.place;
  vertex = any_triggered-none greatest before.place.level before.vertex after.vertex it.vertex;
  cell = it.cell;
  corners = all_triggered-none greatest before.place.level before.corners after.corners it.corners;
  parents = all_triggered-none greatest (before.place.level - 1) before.parents after.parents it.parents;
}

-- what is lawful below the limit of an event is lawful below the greatest level
pub leaves_limit : (greatest : ℕ) (sort : Sort) (before after : Seen) → MayLeave (limit_by sort greatest) before after → MayLeave greatest before after
leaves_limit greatest Plain before after it = leaves-none greatest before after it
leaves_limit greatest Vertex before after it = it
leaves_limit greatest Cell before after it = it

acted-lawful : (body : Option (List Stmt)) (setting : Setting) (seen : Seen) (list : List ℤ) → MayLeave setting.max_level seen (acted body setting seen list).seen
acted-lawful None setting seen list = leaves_same setting.max_level seen
acted-lawful (Some body) setting seen list = meaning_lawful body setting seen list

effect-lawful : (said : Said) (event : Event) (traversal : ℕ) (list : List ℤ) (seen : Seen) → MayLeave said.settings.max_level seen (effect_of said event traversal list seen).seen
effect-lawful said event traversal list seen =
    leaves_limit said.settings.max_level (sort_of event) seen _ (acted-lawful (body_at said.bodies event) (setting_at said event traversal) seen list)

all_zeros : All (λ n. n ≡ pos 0) zeros
all_zeros = All-replicate (λ n. n ≡ pos 0) 8 (pos 0) refl

pub said_lawful : AreLawful said_rules
said_lawful = record { effect = effect-lawful; fresh_vertex = λ said list. all_zeros; fresh_cell = λ said list. all_zeros }

pub scenario_lawful : AreLawful scenario_rules
scenario_lawful = record {
  effect = λ scenario. effect-lawful (said_of scenario);
  fresh_vertex = λ scenario list. all_zeros;
  fresh_cell = λ scenario list. all_zeros;
}
