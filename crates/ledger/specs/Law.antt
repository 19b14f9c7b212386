-- The mapping for tests is lawful.
use Rattle.std.proofs.Common.{◌≡◌, ℕ, ℤ, ◌-◌, List, [], ◌∷◌, All, true, false, Option, Some, None, refl, inl, inr, arith}
use Rattle.std.specs.Prelude.{pos, if◌then◌else◌}
use Rattle.std.specs.Option.{option_map}
use Rattle.std.proofs.lemmas.List.Elements.{All-cons}
use Rattle.pe_base.specs.declared.event.Event.{Event}
use Rattle.pe_base.specs.declared.event.Event.TheVariants.{TouchVertexFirstTime, EnterCell}
use Rattle.pe_base.specs.Acts.Effects.{SeenVertex, Seen, Overflow, AreTriggered, AreBoth, MayLeave, AreLawful}
use Rattle.ledger.specs.Effects.{is_at_end, nothing_done, touched, touch, first_erased, effect_of, ledger_rules}
use Rattle.pe_base.proofs.Lawful.{all_triggered_same, any_triggered_same, both_same, leaves_same}

touch-lawful : (greatest : ℕ) (list : List ℤ) (seen : Seen) (vertex : Option SeenVertex) → seen.vertex ≡ vertex → MayLeave greatest seen (touch greatest list seen vertex).seen
touch-lawful greatest list seen None is = leaves_same greatest seen
touch-lawful greatest list seen (Some vertex) is =
    elim (is_at_end vertex.numbers) as (λ b. MayLeave greatest seen (if b then nothing_done list seen (Some Overflow) else nothing_done list (record seen { vertex = Some (touched greatest seen.place.level vertex) }) None).seen) [
      | true ↦ leaves_same greatest seen
      | false ↦ record {
        place = refl;
        vertex = rw is (record { kind = refl; state = inr (inl refl) });
        cell = both_same seen.cell;
        corners = all_triggered_same greatest seen.place.level seen.corners;
        parents = all_triggered_same greatest (seen.place.level - 1) seen.parents;
      }
    ]

pub first_erased_lawful : (greatest level : ℕ) (vertices : List SeenVertex) → AreTriggered greatest level vertices (first_erased vertices)
first_erased_lawful greatest level [] = tt
first_erased_lawful greatest level (vertex ∷ vertices) = (record { kind = refl; state = inr (inr refl) }, all_triggered_same greatest level vertices)

cell-lawful : (cell : Option (List ℤ)) (list : List ℤ) → AreBoth cell (option_map (λ _. list) cell)
cell-lawful None list = tt
cell-lawful (Some numbers) list = tt

effect-lawful : (greatest : ℕ) (event : Event) (traversal : ℕ) (list : List ℤ) (seen : Seen) → MayLeave greatest seen (effect_of greatest event traversal list seen).seen
effect-lawful greatest TouchVertexFirstTime traversal list seen = touch-lawful greatest list seen seen.vertex refl
effect-lawful greatest EnterCell traversal list seen = record {
  place = refl;
  vertex = any_triggered_same greatest seen.place.level seen.vertex;
  cell = cell-lawful seen.cell list;
  corners = first_erased_lawful greatest seen.place.level seen.corners;
  parents = all_triggered_same greatest (seen.place.level - 1) seen.parents;
}
effect-lawful greatest _ traversal list seen = leaves_same greatest seen

zero-alone : All (λ n. n ≡ pos 0) (pos 0 ∷ [])
zero-alone = All-cons (λ n. n ≡ pos 0) (pos 0) [] refl (λ k d inside. absurd (omega arith))

pub ledger_lawful : AreLawful ledger_rules
ledger_lawful = record { effect = effect-lawful; fresh_vertex = λ greatest list. zero-alone; fresh_cell = λ greatest list. zero-alone }
