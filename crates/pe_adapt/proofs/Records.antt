-- Records as they come to hand.
use Rattle.std.proofs.Common.{◌≡◌, ℤ, List, Option, Some, sym, ap, ◌∙◌}
use Rattle.pe_base.specs.declared.place.Place.{Place}
use Rattle.pe_base.specs.declared.state.State.{State}
use Rattle.pe_base.specs.declared.kind.Kind.{Kind}
use Rattle.pe_base.specs.declared.kind.Kind.TheVariants.{Born}
use Rattle.pe_base.specs.Life.Table.{first_touch, last_touch, start_state}
use Rattle.pe_base.specs.Acts.Effects.{VertexRecord}
use Rattle.pe_base.specs.Walk.Core.{Setting, Family, read_vertex, fresh_vertex, written}
use Rattle.pe_stacks.specs.declared.record.Vertex.{Vertex}
use Rattle.pe_stacks.specs.declared.record.CellRec.{CellRec}
use Rattle.pe_stacks.specs.Corners.{CornerList}
use Rattle.pe_stacks.specs.Sights.{Numbers, record_of}
use Rattle.pe_hang.specs.InHand.{family_in_hand}

abbrev pub with_family : VertexRecord → Family → VertexRecord × Family
with_family it family = (it, family)

-- a vertex that was read
pub read-is : {Plan V : Type 0} (set : Setting Plan) (numbers : V → List ℤ) (kind : Kind) (popped arrived found : Vertex V) (was state : State)
    → Some found ≡ Some popped → was ≡ popped.state → state ≡ first_touch was kind → arrived ≡ record popped { kind = kind; state = state }
    → record_of numbers arrived ≡ read_vertex set kind (record_of numbers found)
read-is set numbers kind popped arrived found was state top is_was is_state is_arrived =
    let same : found ≡ popped = cc in
    ap (record_of numbers) is_arrived
    ∙ ap (λ s. record { state = s; kind = kind; numbers = numbers popped.payload }) (is_state ∙ ap (λ s. first_touch s kind) is_was)
    ∙ ap (λ v. read_vertex set kind (record_of numbers v)) (sym same)

-- a vertex that is born
pub born-is : {Plan V C : Type 0} (set : Setting Plan) (numbers : Numbers V C) (place : Place) (parents : CornerList (Vertex V)) (parent : CellRec C) (before after : List ℤ)
    (payload : V) (state : State) (made lent : Vertex V)
    → numbers.vertex payload ≡ (set.rules.fresh_vertex set.plan before).numbers → after ≡ (set.rules.fresh_vertex set.plan before).list
    → state ≡ start_state set.traversal place.level set.start_level → made ≡ record { state = state; kind = Born; payload = payload } → lent ≡ made
    → with_family (record_of numbers.vertex lent) (family_in_hand numbers parents parent after) ≡ fresh_vertex set Born place (family_in_hand numbers parents parent before)
born-is set numbers place parents parent before after payload state made lent zeros list is_state is_made is_lent =
    let is : record_of numbers.vertex lent ≡ record { state = start_state set.traversal place.level set.start_level; kind = Born; numbers = (set.rules.fresh_vertex set.plan before).numbers } =
    ap (record_of numbers.vertex) (is_lent ∙ is_made)
    ∙ ap (λ s. record { state = s; kind = Born; numbers = numbers.vertex payload }) is_state
    ∙ ap (λ n. record { state = start_state set.traversal place.level set.start_level; kind = Born; numbers = n }) zeros in
    ap (λ (v : VertexRecord). with_family v (family_in_hand numbers parents parent after)) is
    ∙ ap (λ (l : List ℤ). with_family (let v : VertexRecord = record { state = start_state set.traversal place.level set.start_level; kind = Born; numbers = (set.rules.fresh_vertex set.plan before).numbers } in v) (family_in_hand numbers parents parent l)) list

-- a vertex as it is written
pub written-is : {Plan V : Type 0} (set : Setting Plan) (numbers : V → List ℤ) (kind : Kind) (touched departed : Vertex V) (was state : State) (family : Family)
    → was ≡ touched.state → state ≡ last_touch was kind → departed ≡ record touched { state = state }
    → (let after : Option VertexRecord × Family = (Some (record_of numbers departed), family) in after) ≡ written set kind (record_of numbers touched, family)
written-is {V = V} set numbers kind touched departed was state family is_was is_state is_departed =
    ap (λ (v : Vertex V). (let after : Option VertexRecord × Family = (Some (record_of numbers v), family) in after)) is_departed
    ∙ ap (λ s. (let after : Option VertexRecord × Family = (Some (record (record_of numbers touched) { state = s }), family) in after)) (is_state ∙ ap (λ s. last_touch s kind) is_was)
