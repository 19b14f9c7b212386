-- A corner's touch by kind and route is its touch by the definitions.
use Rattle.std.proofs.Common.{◌≡◌, ℕ, Option, Some, None, refl, sym, ap, ◌∙◌}
use Rattle.std.specs.Prelude.{is_none}
use Rattle.pe_base.specs.declared.place.Place.{Place}
use Rattle.pe_base.specs.declared.kind.Kind.{Kind}
use Rattle.pe_base.specs.declared.kind.Kind.TheVariants.{Kept, Born, Dying, Hanging}
use Rattle.pe_base.specs.declared.event.Event.TheVariants.{DestroyHangingVertex}
use Rattle.pe_base.specs.Tree.Places.{corner, parent_of}
use Rattle.pe_base.specs.Steps.Routes.{stack_in, stack_out}
use Rattle.pe_base.specs.Life.Carriers.{kind_by}
use Rattle.pe_base.specs.Acts.Effects.{VertexRecord}
use Rattle.pe_base.specs.Walk.Course.{Ending, done, halts, stuck, Course, at_once, and_then, course_map, from, behind}
use Rattle.pe_base.specs.Walk.Core.{Setting, way, store_of, vertex_event, given_up}
use Rattle.pe_adapt.specs.Touches.{Desk, state_in_hand, load_as, load_corner, goes, store_as, store_corner}

module _ {Plan : Type 0} (set : Setting Plan) where
  any-route : (input : ℕ) (kind : Kind) (from from' : Option ℕ) (vertex : Place) (desk : Desk) → ((kind ≡ Hanging → ⊥) → from ≡ from')
      → load_as set input kind from vertex desk ≡ load_as set input kind from' vertex desk
  any-route input Kept from from' vertex desk same = ap (λ o. load_as set input Kept o vertex desk) (same (λ no. absurd cc))
  any-route input Born from from' vertex desk same = ap (λ o. load_as set input Born o vertex desk) (same (λ no. absurd cc))
  any-route input Dying from from' vertex desk same = ap (λ o. load_as set input Dying o vertex desk) (same (λ no. absurd cc))
  any-route input Hanging from from' vertex desk same = refl

  pub load-same : (axes input : ℕ) (cell : Place) (k : ℕ) (desk : Desk) (kind : Kind) (from : Option ℕ) (at : Place)
      → set.axes ≡ axes → at ≡ corner axes cell k → kind ≡ kind_by axes set.traversal (state_in_hand (parent_of cell) desk.family.parents) (corner axes cell k)
      → ((kind ≡ Hanging → ⊥) → from ≡ stack_in axes (way set) (corner axes cell k) cell)
      → load_as set input kind from at desk ≡ load_corner set input cell k desk
  load-same axes input cell k desk kind from at is_axes is_at is_kind is_from =
      let v = corner axes cell k in
      ap (λ a. load_as set input kind from a desk) is_at
      ∙ any-route input kind from (stack_in axes (way set) v cell) v desk is_from
      ∙ ap (λ d. load_as set input d (stack_in axes (way set) v cell) v desk) is_kind
      ∙ ap (λ a. load_as set input (kind_by a set.traversal (state_in_hand (parent_of cell) desk.family.parents) (corner a cell k)) (stack_in a (way set) (corner a cell k) cell) (corner a cell k) desk) (sym is_axes)

  abbrev stores-by : ℕ → Kind → Option ℕ → Place → VertexRecord → Desk → Course Desk
  stores-by output kind to vertex it desk = and_then (store_of set kind (is_none to) vertex it desk.family) (λ after. goes set output to after.0 (record desk { family = after.1 }))

  after-map : {X Y Z : Type 0} (ending : Ending X) (f : X → Z) (next next' : Z → Course Y) → ((x : X) → next (f x) ≡ next' (f x))
      → from (from ending (λ x. at_once (f x))).ending next ≡ from (from ending (λ x. at_once (f x))).ending next'
  after-map (done x) f next next' same = same x
  after-map (halts cause) f next next' same = refl
  after-map stuck f next next' same = refl

  any-way : (output : ℕ) (kind : Kind) (to to' : Option ℕ) (vertex : Place) (it : VertexRecord) (desk : Desk) → ((kind ≡ Hanging → ⊥) → to ≡ to')
      → stores-by output kind to vertex it desk ≡ stores-by output kind to' vertex it desk
  any-way output Kept to to' vertex it desk same = ap (λ o. stores-by output Kept o vertex it desk) (same (λ no. absurd cc))
  any-way output Born to to' vertex it desk same = ap (λ o. stores-by output Born o vertex it desk) (same (λ no. absurd cc))
  any-way output Dying to to' vertex it desk same = ap (λ o. stores-by output Dying o vertex it desk) (same (λ no. absurd cc))
  any-way output Hanging to to' vertex it desk same =
      let ends = vertex_event set DestroyHangingVertex vertex (it, desk.family) in
      let turned = course_map (given_up set) ends in
      ap (λ rest. behind turned.text turned.log rest)
      (after-map ends.ending (given_up set) (λ after. goes set output to after.0 (record desk { family = after.1 })) (λ after. goes set output to' after.0 (record desk { family = after.1 })) (λ x. refl))

  pub store-same : (axes output : ℕ) (cell : Place) (k : ℕ) (it : VertexRecord) (desk : Desk) (to : Option ℕ) (at : Place)
      → set.axes ≡ axes → at ≡ corner axes cell k → ((it.kind ≡ Hanging → ⊥) → to ≡ stack_out axes (way set) (corner axes cell k) cell)
      → store_as set output to at it desk ≡ store_corner set output cell k it desk
  store-same axes output cell k it desk to at is_axes is_at is_to =
      let v = corner axes cell k in
      ap (λ a. store_as set output to a it desk) is_at
      ∙ any-way output it.kind to (stack_out axes (way set) v cell) v it desk is_to
      ∙ ap (λ a. store_as set output (stack_out a (way set) (corner a cell k) cell) (corner a cell k) it desk) (sym is_axes)
