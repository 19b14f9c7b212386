-- The walk of a cell, part by part.
use Rattle.std.proofs.Common.{◌≡◌, ℕ, ◌^◌, ◌<◌, ◌≤◌, List, [], Ok, Err, refl, sym, ap, subst, ◌∙◌}
use Rattle.pe_base.specs.declared.place.Place.{Place}
use Rattle.pe_base.specs.declared.tally.Tally.{Tally}
use Rattle.pe_base.specs.Acts.Effects.{VertexRecord}
use Rattle.pe_base.specs.Walk.Course.{Ending, done, halts, stuck, Course, limit_at, behind, from, and_then}
use Rattle.pe_base.specs.Walk.Core.{Setting, Own}
use Rattle.pe_base.specs.Walk.Touches.{tally_cell}
use Rattle.pe_base.specs.Calls.Follows.{BeforeCall, halted, Follows, Fits}
use Rattle.pe_adapt.specs.CountedTouches.{Machine, StreamStacks}
use Rattle.pe_walk.specs.Machine.{count_cell, load_all, enter_cell, leave_cell, store_all}
use Rattle.pe_walk.specs.Visits.{walk_below, visit_cell}
use Rattle.pe_walk.proofs.Simulation.Matching.{then-grouped}
use Rattle.pe_walk.proofs.Visiting.{counts-on, counts-past}

-- what goes on alike
pub from-alike : {X Y : Type 0} (e : Ending X) (f g : X → Course Y) → ((x : X) → f x ≡ g x) → from e f ≡ from e g
from-alike (done x) f g same = same x
from-alike (halts cause) f g same = refl
from-alike stuck f g same = refl

module _ {Plan : Type 0} (streams : StreamStacks) (levels : ℕ) (place : Place) where
  abbrev pub counting : Machine → Setting Plan → Course Machine
  counting m set = count_cell set streams place m

  abbrev pub loading : Machine → Setting Plan → Course (List VertexRecord × Machine)
  loading m set = load_all set streams place (2 ^ set.axes) [] m

  abbrev pub storing : Setting Plan → List VertexRecord × Machine → Course Machine
  storing set it = store_all set streams place 0 it.0 it.1

  abbrev pub visiting : List VertexRecord × Machine → Setting Plan → Course (List VertexRecord × Machine)
  visiting it set = visit_cell set streams levels place it.0 it.1

  abbrev pub leaving : Setting Plan → Own × Machine → Course (List VertexRecord × Machine)
  leaving set it = leave_cell set streams place it

  abbrev pub entering : List VertexRecord → Machine → Setting Plan → Course (Own × Machine)
  entering its m set = enter_cell set streams place its m

  abbrev pub below : Own × Machine → Setting Plan → Course (Own × Machine)
  below it set = walk_below set streams levels place it

  abbrev pub after_enter : Setting Plan → Own × Machine → Course (List VertexRecord × Machine)
  after_enter set it = and_then (walk_below set streams levels place it) (leaving set)

  abbrev pub after_load : Setting Plan → List VertexRecord × Machine → Course Machine
  after_load set it =
      and_then (enter_cell set streams place it.0 it.1) (λ it.
      and_then (walk_below set streams levels place it) (λ it.
      and_then (leave_cell set streams place it) (storing set)))

  abbrev pub after_count : Setting Plan → Machine → Course Machine
  after_count set m = and_then (load_all set streams place (2 ^ set.axes) [] m) (after_load set)

  -- the visit, and then the stores
  pub visit-grouped : (set : Setting Plan) (it : List VertexRecord × Machine) → and_then (visiting it set) (storing set) ≡ after_load set it
  visit-grouped set it =
      let enter = enter_cell set streams place it.0 it.1 in
      then-grouped enter (after_enter set) (storing set)
      ∙ ap (λ rest. behind enter.text enter.log rest)
      (from-alike enter.ending (λ it. and_then (after_enter set it) (storing set)) (λ it. and_then (walk_below set streams levels place it) (λ it. and_then (leave_cell set streams place it) (storing set)))
      (λ it. then-grouped (walk_below set streams levels place it) (leaving set) (storing set)))

  -- a cell is counted, and the tally is this one
  pub counts-to : (set : Setting Plan) (m : Machine) (tally : Tally) (found : BeforeCall) → Fits (counting m set) → tally ≡ tally_cell place m.tally → tally.cells ≤ set.max_cells
      → Follows (counting m set) (λ (u : Unit {0}). record m { tally = tally }) (Ok tt) found found.told
  counts-to set m tally found fits is few =
      subst (λ t. Follows (counting m set) (λ (u : Unit {0}). record m { tally = t }) (Ok tt) found found.told) (sym is)
      (counts-on set streams place m found fits (subst (λ (t : Tally). t.cells ≤ set.max_cells) is few))

  pub counts-over : (set : Setting Plan) (m : Machine) (after : Unit {0} → Machine) (tally : Tally) (found : BeforeCall) → Fits (counting m set) → tally ≡ tally_cell place m.tally → set.max_cells < tally.cells
      → Follows (counting m set) after (Err (halted (limit_at place))) found found.told
  counts-over set m after tally found fits is past =
      counts-past set streams place m after found fits (subst (λ (t : Tally). set.max_cells < t.cells) is past)
