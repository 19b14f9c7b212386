-- The mapping that follows a plan is lawful.
use Rattle.std.proofs.Common.{◌≡◌, ℕ, pos, ◌-◌, [], ◌∷◌, All, true, false, ◌==◌, Option, Some, None, refl, inl, inr, arith}
use Rattle.std.specs.Prelude.{if◌then◌else◌}
use Rattle.std.specs.Option.{option_map}
use Rattle.std.proofs.lemmas.List.Elements.{All-cons}
use Rattle.pe_base.specs.declared.kind.Kind.{Kind}
use Rattle.pe_base.specs.declared.state.State.{State}
use Rattle.pe_base.specs.Life.States.{refined_state, erased_state}
use Rattle.pe_base.specs.Acts.Effects.{SeenVertex, Seen, Overflow, MayBecome, IsTriggeredIfAny, MayLeave, AreLawful}
use Rattle.pe_base.proofs.Lawful.{all_triggered_same, both_same, leaves_same}
use Rattle.traversals.specs.declared.planned.Plan.{Plan}
use Rattle.traversals.specs.Effects.{number_in, met_state, met, leaving, happening, planned_rules}

state-lawful : (plan : Plan) (number level : ℕ) (kind : Kind) (state : State) → MayBecome plan.greatest level kind state (met_state plan number level kind state)
state-lawful plan number level kind state =
    elim (number == plan.refined) as (λ b. MayBecome plan.greatest level kind state (if b then refined_state level plan.greatest kind state else if number == plan.erased then erased_state kind state else state)) [
      | true ↦ inr (inl refl)
      | false ↦ elim (number == plan.erased) as (λ b. MayBecome plan.greatest level kind state (if b then erased_state kind state else state)) [
        | true ↦ inr (inr refl)
        | false ↦ inl refl
      ]
    ]

pub met_lawful : (plan : Plan) (number level : ℕ) (vertex : Option SeenVertex) → IsTriggeredIfAny plan.greatest level vertex (option_map (met plan number level) vertex)
met_lawful plan number level None = tt
met_lawful plan number level (Some vertex) = record { kind = refl; state = state-lawful plan number level vertex.kind vertex.state }

pub happening_lawful : (plan : Plan) (number : ℕ) (seen : Seen) → MayLeave plan.greatest seen (happening plan number seen).seen
happening_lawful plan number seen =
    elim (number == plan.refused) as (λ b. MayLeave plan.greatest seen (if b then leaving number seen (Some Overflow) else leaving number (record seen { vertex = option_map (met plan number seen.place.level) seen.vertex }) None).seen) [
      | true ↦ leaves_same plan.greatest seen
      | false ↦ record {
        place = refl;
        vertex = met_lawful plan number seen.place.level seen.vertex;
        cell = both_same seen.cell;
        corners = all_triggered_same plan.greatest seen.place.level seen.corners;
        parents = all_triggered_same plan.greatest (seen.place.level - 1) seen.parents;
      }
    ]

zero-alone : All (λ n. n ≡ pos 0) (pos 0 ∷ [])
zero-alone = All-cons (λ n. n ≡ pos 0) (pos 0) [] refl (λ k d inside. absurd (omega arith))

pub planned_lawful : AreLawful planned_rules
planned_lawful = record {
  effect = λ plan event traversal list seen. happening_lawful plan (number_in list) seen;
  fresh_vertex = λ plan list. zero-alone;
  fresh_cell = λ plan list. zero-alone;
}
