-- What lies beneath: the walk of a cell does the same whatever lies beneath what it takes from each stack, and all of it is
-- afterwards as it was, record by record.
use Rattle.std.specs.Prelude.{◌≡◌, ℕ, ℤ, suc, List, ◌++◌, length}
use Rattle.pe_base.specs.declared.place.Place.{Place}
use Rattle.pe_base.specs.Acts.Effects.{VertexRecord}
use Rattle.pe_base.specs.Walk.Course.{done, halts, Cause}
use Rattle.pe_base.specs.Walk.Core.{Setting}
use Rattle.pe_stacks.specs.Holdings.{Stack, Holdings, stack_count, stack_at, items_at}
use Rattle.pe_adapt.specs.CountedTouches.{Machine, StreamStacks}
use Rattle.pe_walk.specs.Machine.{walk_cell}
use Rattle.pe_walk.specs.Gridded.{stream_stacks_of}
use Rattle.pe_walk.specs.FaceLaw.{Moment, MayWalk}

-- a stack, and the same with these records beneath
pub record StackOver {X : Type 0} (beneath : List X) (above whole : Stack X) : Type 0 where
  pub items : whole.items ≡ above.items ++ beneath
  pub pushes : whole.pushes ≡ above.pushes
  pub pops : whole.pops ≡ above.pops

pub record IsOver {X : Type 0} (beneath : ℕ → List X) (above whole : Holdings X) : Type 0 where
  pub count : stack_count whole ≡ stack_count above
  pub stacks : (s : ℕ) → StackOver (beneath s) (stack_at above s) (stack_at whole s)
  pub fresh : whole.fresh ≡ above.fresh
  pub out : whole.out ≡ above.out

-- a machine, and the same with these vertices and cells beneath on its stacks
pub record LiesOver (its_vertices : ℕ → List VertexRecord) (its_cells : ℕ → List (List ℤ)) (above whole : Machine) : Type 0 where
  pub vertices : IsOver its_vertices above.vertices whole.vertices
  pub cells : IsOver its_cells above.cells whole.cells
  pub family : whole.family ≡ above.family
  pub tally : whole.tally ≡ above.tally

-- The walk of a cell is done on stacks, or halts; with anything beneath it does so too, and adds the same text. Where it is
-- done, what lay beneath lies beneath.
pub record WalksOver {Plan : Type 0} (set : Setting Plan) (streams : StreamStacks) (levels : ℕ) (cell : Place) (vertices : ℕ → List VertexRecord) (cells : ℕ → List (List ℤ)) (above whole : Machine) : Type 0 where
  pub walks : (after : Machine) → (walk_cell set streams levels cell above).ending ≡ done after
      → (rest : Machine) × ((walk_cell set streams levels cell whole).ending ≡ done rest) × ((walk_cell set streams levels cell whole).text ≡ (walk_cell set streams levels cell above).text) × LiesOver vertices cells after rest
  pub halts : (cause : Cause) → (walk_cell set streams levels cell above).ending ≡ halts cause
      → ((walk_cell set streams levels cell whole).ending ≡ halts cause) × ((walk_cell set streams levels cell whole).text ≡ (walk_cell set streams levels cell above).text)

abbrev pub BeneathIsLeft : Type 0 → Type 0
BeneathIsLeft Plan = (set : Setting Plan) (streams : StreamStacks) (levels : ℕ) (cell : Place) (vertices : ℕ → List VertexRecord) (cells : ℕ → List (List ℤ)) (above whole : Machine)
    → LiesOver vertices cells above whole → WalksOver set streams levels cell vertices cells above whole

-- The last so many records of a stack are the same records as before.
pub record KeepsBeneath {X : Type 0} (count : ℕ) (before after : List X) : Type 0 where
  pub taken : List X
  pub left : List X
  pub beneath : List X
  pub was : before ≡ taken ++ beneath
  pub is : after ≡ left ++ beneath
  pub all : length beneath ≡ count

-- The vertices and the cells that lay beneath what the walk of a cell took from their stack lie beneath what it left there.
pub record LeavesBeneath (at : Moment) (before after : Machine) : Type 0 where
  pub vertices : (s : ℕ) → KeepsBeneath (length (at.beneath s)) (items_at before.vertices s) (items_at after.vertices s)
  pub cells : (s : ℕ) → KeepsBeneath (length (at.cells_beneath s)) (items_at before.cells s) (items_at after.cells s)

-- So it is where a cell may be walked and was.
abbrev pub BeneathStays : Type 0 → Type 0
BeneathStays Plan = (set : Setting Plan) (at : Moment) (m after : Machine) → MayWalk set at m
    → (walk_cell set (stream_stacks_of at.foreseen_start.outlook.swapped) (suc at.levels) at.stage.cell m).ending ≡ done after
    → LeavesBeneath at m after
