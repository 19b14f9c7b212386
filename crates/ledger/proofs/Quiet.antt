-- What the mapping for tests does: the corner that it erases, and the events at which it does nothing.
use Rattle.std.proofs.Common.{◌≡◌, ℕ, ℤ, List, [], ◌∷◌, Option, None, Some, refl, sym, ap}
use Rattle.std.specs.Option.{option_map_or}
use Rattle.pe_base.specs.declared.event.Event.{Event}
use Rattle.pe_base.specs.declared.event.Event.TheVariants.{TouchVertexFirstTime, EnterCell}
use Rattle.pe_base.specs.declared.event.Sort.TheVariants.{Vertex, Cell}
use Rattle.pe_base.specs.Acts.Events.{sort_of}
use Rattle.pe_base.specs.Acts.Effects.{Seen, Outcome}
use Rattle.pe_base.specs.Life.States.{erased_state}
use Rattle.pe_stacks.specs.declared.record.Vertex.{Vertex as Held_vertex}
use Rattle.pe_stacks.specs.Corners.{CornerList, vertex_at, with_vertex}
use Rattle.pe_stacks.specs.Sights.{seen_vertex, seen_corners}
use Rattle.pe_base.specs.Calls.Told.{Told}
use Rattle.pe_base.specs.Calls.Outcomes.{IsOutcome}
use Rattle.ledger.specs.Effects.{nothing_done, first_erased, ledger_rules}
use Rattle.pe_base.proofs.Calls.Texts.{adds-nothing}

-- a vertex that was asked to erase
abbrev erased : {P : Type 0} → Held_vertex P → Held_vertex P
erased v = record v { state = erased_state v.kind v.state }

module _ {P : Type 0} (numbers : P → List ℤ) where
  -- the corners after the first of them was asked to erase
  pub corners-first_erased : (corners : CornerList (Held_vertex P)) (v : Held_vertex P) → vertex_at corners 0 ≡ Some v
      → seen_corners numbers (with_vertex corners 0 (Some (erased v))) ≡ first_erased (seen_corners numbers corners)
  corners-first_erased corners v is = first corners.slots is where
    first : (places : List (Option (Held_vertex P))) → vertex_at (record corners { slots = places }) 0 ≡ Some v
        → seen_corners numbers (with_vertex (record corners { slots = places }) 0 (Some (erased v))) ≡ first_erased (seen_corners numbers (record corners { slots = places }))
    first [] is = absurd cc
    first (None ∷ places) is = absurd cc
    first (Some w ∷ places) is = ap (λ there. first_erased (seen_vertex numbers (option_map_or (λ x. x) there v) ∷ seen_corners numbers (record corners { slots = places }))) (sym is)

-- an event that does nothing
quiet : (outcome : Outcome) (told : Told) (list : List ℤ) (seen : Seen) → outcome ≡ nothing_done list seen None → IsOutcome outcome None told told list seen
quiet outcome told list seen is = record {
  fault = ap (λ (o : Outcome). o.fault) is;
  seen = ap (λ (o : Outcome). o.seen) is;
  list = ap (λ (o : Outcome). o.list) is;
  told = rw is (adds-nothing told);
}

module _ (greatest : ℕ) (told : Told) (list : List ℤ) where
  abbrev effect : Event → ℕ → Seen → Outcome
  effect event traversal seen = ledger_rules.effect greatest event traversal list seen

  nothing_at_vertices : (event : Event) (traversal : ℕ) (seen : Seen) → sort_of event ≡ Vertex → (event ≡ TouchVertexFirstTime → ⊥) → effect event traversal seen ≡ nothing_done list seen None
  nothing_at_vertices TouchVertexFirstTime traversal seen sort other = absurd (other refl)
  nothing_at_vertices EnterCell traversal seen sort other = absurd cc
  nothing_at_vertices _ traversal seen sort other = refl

  pub quiet_at_vertices : (event : Event) (traversal : ℕ) (seen : Seen) → sort_of event ≡ Vertex → (event ≡ TouchVertexFirstTime → ⊥) → IsOutcome (effect event traversal seen) None told told list seen
  quiet_at_vertices event traversal seen sort other = quiet (effect event traversal seen) told list seen (nothing_at_vertices event traversal seen sort other)

  nothing_at_cells : (event : Event) (traversal : ℕ) (seen : Seen) → sort_of event ≡ Cell → (event ≡ EnterCell → ⊥) → effect event traversal seen ≡ nothing_done list seen None
  nothing_at_cells EnterCell traversal seen sort other = absurd (other refl)
  nothing_at_cells TouchVertexFirstTime traversal seen sort other = absurd cc
  nothing_at_cells _ traversal seen sort other = refl

  pub quiet_at_cells : (event : Event) (traversal : ℕ) (seen : Seen) → sort_of event ≡ Cell → (event ≡ EnterCell → ⊥) → IsOutcome (effect event traversal seen) None told told list seen
  quiet_at_cells event traversal seen sort other = quiet (effect event traversal seen) told list seen (nothing_at_cells event traversal seen sort other)
