-- The root's corners are made, one after another.
use Rattle.std.proofs.Common.{◌≡◌, ℕ, ℤ, suc, List, ◌∷◌, Ok, sym, ap, subst, ◌∙◌}
use Rattle.pe_base.specs.declared.state.State.TheVariants.{Unrefined}
use Rattle.pe_base.specs.declared.kind.Kind.TheVariants.{Hanging}
use Rattle.pe_base.specs.Tree.Places.{root}
use Rattle.pe_base.specs.Acts.Effects.{VertexRecord}
use Rattle.pe_base.specs.Walk.Course.{Course}
use Rattle.pe_base.specs.Walk.Core.{Setting, fresh_vertex}
use Rattle.pe_stacks.specs.declared.record.Vertex.{Vertex}
use Rattle.pe_stacks.specs.Holdings.{Holdings, lent}
use Rattle.pe_stacks.specs.Sights.{record_of}
use Rattle.pe_hang.specs.InHand.{map_holdings}
use Rattle.pe_hang.specs.Moves.{lend}
use Rattle.pe_base.specs.Calls.Follows.{Follows, Fits, BeforeCall, Leads, IsRoomier}
use Rattle.pe_base.proofs.Calls.Leading.{and_then-fits, leads_step, leads_end}
use Rattle.pe_hang.proofs.Moving.{lend-is}
use Rattle.pe_adapt.specs.CountedTouches.{Machine, StreamStacks}
use Rattle.pe_walk.specs.Machine.{root_corners}
use Rattle.pe_walk.specs.Visits.{with_vertices}

module _ {Plan V : Type 0} (numbers : V → List ℤ) (set : Setting Plan) (streams : StreamStacks) (rest : Machine) where
  abbrev pub at_root : Holdings (Vertex V) → List ℤ → Machine
  at_root held list = with_vertices (map_holdings (record_of numbers) held) list rest

  abbrev pub roots : ℕ → List VertexRecord → Holdings (Vertex V) → List ℤ → Course (List VertexRecord × Machine)
  roots n its held list = root_corners set streams n its (at_root held list)

  abbrev after_lend : ℕ → List VertexRecord → Machine → Holdings VertexRecord → Course (List VertexRecord × Machine)
  after_lend k its m vertices =
      let made = fresh_vertex set Hanging root m.family in
      root_corners set streams k (made.0 ∷ its) (record m { vertices = vertices; family = made.1 })

  -- a record may be lent for one more
  pub roots-may : (n k : ℕ) (its : List VertexRecord) (held : Holdings (Vertex V)) (list : List ℤ) → n ≡ suc k → Fits (roots n its held list) → Fits (lend (map_holdings (record_of numbers) held))
  roots-may n k its held list more fits =
      and_then-fits (lend (map_holdings (record_of numbers) held)) (after_lend k its (at_root held list)) (subst (λ j. Fits (roots j its held list)) more fits)

  module _ (whole : Course (List VertexRecord × Machine)) (before now : BeforeCall) where
    -- one more is made
    pub roots-step : (n k : ℕ) (its : List VertexRecord) (held held' : Holdings (Vertex V)) (list list' : List ℤ) (made : Vertex V) (new : BeforeCall)
        → n ≡ suc k → Leads whole before now (roots n its held list) → Fits (lend (map_holdings (record_of numbers) held)) → held' ≡ lent held
        → numbers made.payload ≡ (set.rules.fresh_vertex set.plan list).numbers → made.state ≡ Unrefined → made.kind ≡ Hanging → list' ≡ (set.rules.fresh_vertex set.plan list).list
        → now.told ≡ new.told → IsRoomier now new
        → Leads whole before new (roots k (record_of numbers made ∷ its) held' list')
    roots-step n k its held held' list list' made new more lead fits after payload state kind listed told room =
        let f = record_of numbers in
        let lends = lend-is f held fits in
        let fresh = set.rules.fresh_vertex set.plan list in
        let led = leads_step (lend (map_holdings f held)) (after_lend k its (at_root held list)) (map_holdings f (lent held)) new
        (subst (λ j. Leads whole before now (roots j its held list)) more lead) (ap (λ c. c.ending) lends) (ap (λ c. c.text) lends) told room in
        let zeros : VertexRecord = record { state = Unrefined; kind = Hanging; numbers = fresh.numbers } in
        let same : zeros ≡ f made =
        ap (λ ns. record { state = Unrefined; kind = Hanging; numbers = ns }) (sym payload)
        ∙ ap (λ s. record { state = s; kind = Hanging; numbers = numbers made.payload }) (sym state)
        ∙ ap (λ k. record { state = made.state; kind = k; numbers = numbers made.payload }) (sym kind) in
        subst (λ (it : VertexRecord). Leads whole before new (roots k (it ∷ its) held' list')) same
        (subst (λ h. Leads whole before new (roots k (zeros ∷ its) h list')) (sym after)
        (subst (λ l. Leads whole before new (roots k (zeros ∷ its) (lent held) l)) (sym listed) led))

    -- all are made
    pub roots-end : (n : ℕ) (its : List VertexRecord) (held : Holdings (Vertex V)) (list : List ℤ) → n ≡ 0 → Leads whole before now (roots n its held list)
        → Follows whole (λ (u : Unit {0}). (its, at_root held list)) (Ok tt) before now.told
    roots-end n its held list none lead = leads_end (λ (u : Unit {0}). (its, at_root held list)) tt (subst (λ j. Leads whole before now (roots j its held list)) none lead)
