-- A cell that was entered, and whose children were walked one after another, is left, and its corners are stored: that is the
-- end of its own walk.
use Rattle.std.proofs.Common.{◌≡◌, ℕ, suc, ◌^◌, false, List, [], refl, sym, ap, subst, ◌∙◌}
use Rattle.pe_base.specs.declared.place.Place.{Place}
use Rattle.pe_base.specs.declared.kind.Kind.{Kind}
use Rattle.pe_base.specs.declared.kind.Kind.TheVariants.{Kept, Born, Dying, Hanging}
use Rattle.pe_base.specs.Tree.Curve.{children}
use Rattle.pe_base.specs.Life.Kinds.{is_hanging}
use Rattle.pe_base.specs.Acts.Effects.{VertexRecord}
use Rattle.pe_base.specs.Walk.Course.{done, Course, behind, from, and_then, course_map, each}
use Rattle.pe_base.specs.Walk.Core.{Setting, Own, way}
use Rattle.pe_base.specs.Walk.Touches.{kind_below}
use Rattle.pe_adapt.specs.CountedTouches.{Machine, StreamStacks}
use Rattle.pe_walk.specs.Machine as machine
use Rattle.pe_walk.specs.Gridded.{stream_stacks_of}
use Rattle.pe_walk.specs.FaceLaw.{IsCellWalked, enters, leaves, LastChildEndsTheCell}
use Rattle.pe_walk.proofs.Simulation.Matching.{turned-then, then-grouped}
use Rattle.pe_walk.proofs.Simulation.FaceLaw.{law_of_a_face}

-- what goes on from a course that is done
goes_on : {X Y : Type 0} (course : Course X) (next : X → Course Y) (x : X) → course.ending ≡ done x → and_then course next ≡ behind course.text course.log (next x)
goes_on course next x ends = ap (λ e. behind course.text course.log (from e next)) ends

module _ {Plan : Type 0} (set : Setting Plan) (streams : StreamStacks) (levels : ℕ) (cell : Place) where
  abbrev below : Own × Machine → Course Machine
  below it = each (machine.walk_cell set streams levels) (children set.axes (way set) cell) (machine.inside set streams it.0 it.1)

  abbrev walks : Own × Machine → Course (Own × Machine)
  walks it = course_map (machine.outside set streams it.1) (below it)

  abbrev rest : Own × Machine → Course Machine
  rest it = and_then (machine.if_walked set streams (kind_below it.0.corners) walks it) (leaves set streams cell)

  abbrev loads : Machine → Course (List VertexRecord × Machine)
  loads m = machine.load_all set streams cell (2 ^ set.axes) [] m

  abbrev entering : List VertexRecord × Machine → Course (Own × Machine)
  entering it = machine.enter_cell set streams cell it.0 it.1

  -- the walk of a cell in two parts: up to its children, and from them on
  two_parts : (m : Machine) → and_then (enters set streams cell m) rest ≡ machine.walk_cell set streams (suc levels) cell m
  two_parts m =
      then-grouped (machine.count_cell set streams cell m) (λ m. and_then (loads m) entering) rest
      ∙ (λ i. and_then (machine.count_cell set streams cell m) (λ m. then-grouped (loads m) entering rest i))

  if_on : (kind : Kind) (it : Own × Machine) → is_hanging kind ≡ false → machine.if_walked set streams kind walks it ≡ walks it
  if_on Kept it on = refl
  if_on Born it on = refl
  if_on Dying it on = refl
  if_on Hanging it on = absurd cc

  -- and in three, where its children are walked
  three_parts : (m walked : Machine) (it : Own × Machine) → (enters set streams cell m).ending ≡ done it → is_hanging (kind_below it.0.corners) ≡ false → (below it).ending ≡ done walked
      → machine.walk_cell set streams (suc levels) cell m
      ≡ behind (enters set streams cell m).text (enters set streams cell m).log (behind (below it).text (below it).log (leaves set streams cell (machine.outside set streams it.1 walked)))
  three_parts m walked it entered on ended =
      sym (two_parts m) ∙ goes_on (enters set streams cell m) rest it entered
      ∙ ap (behind (enters set streams cell m).text (enters set streams cell m).log)
      (ap (λ course. and_then course (leaves set streams cell)) (if_on (kind_below it.0.corners) it on)
      ∙ turned-then (below it) (machine.outside set streams it.1) (leaves set streams cell)
      ∙ goes_on (below it) (λ m. leaves set streams cell (machine.outside set streams it.1 m)) walked ended)

pub last_child : {Plan : Type 0} → LastChildEndsTheCell Plan
last_child set at m walked it may entered on ended =
    let streams = stream_stacks_of at.foreseen_start.outlook.swapped in
    let is = subst (IsCellWalked set at) (three_parts set streams at.levels at.stage.cell m walked it entered on ended) (law_of_a_face set at m may) in
    record { text = is.text; ending = is.ending }
