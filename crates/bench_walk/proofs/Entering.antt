-- Events at cells whose corners are counted.
use Rattle.std.proofs.Common.{◌≡◌, ℕ, ℤ, List, None, refl}
use Rattle.pe_base.specs.declared.fields.Fields.{Fields}
use Rattle.pe_base.specs.declared.place.Place.{Place}
use Rattle.pe_base.specs.declared.event.Event.{Event}
use Rattle.pe_base.specs.declared.event.Event.TheVariants.{EnterCell}
use Rattle.pe_base.specs.Acts.Effects.{MayLeave}
use Rattle.pe_stacks.specs.declared.record.Vertex.{Vertex}
use Rattle.pe_stacks.specs.declared.record.CellRec.{CellRec}
use Rattle.pe_stacks.specs.Corners.{CornerList}
use Rattle.pe_stacks.specs.Sights.{cell_sight}
use Rattle.pe_base.specs.Calls.Told.{Told}
use Rattle.pe_base.specs.Calls.Outcomes.{IsOutcome}
use Rattle.pe_base.proofs.Calls.Texts.{adds-nothing}
use Rattle.bench_walk.specs.declared.sphere.Sphere.{Sphere}
use Rattle.bench_walk.specs.Counting.{fields_numbers, counted}
use Rattle.bench_walk.specs.Slots.{counted_corners}
use Rattle.bench_walk.specs.Law.{regular_entered, ring_entered}
use Rattle.bench_walk.specs.Regular as regular
use Rattle.bench_walk.specs.Ring as ring
use Rattle.bench_walk.proofs.CountedCorners.{seen_counted}

module _ (place : Place) (corners after parents : CornerList (Vertex Fields)) (parent : CellRec Fields) where
  pub regular_enters : (told : Told) (list : List ℤ) (event : Event) (cell : CellRec Fields) → event ≡ EnterCell → after ≡ counted_corners corners
      → IsOutcome (regular.effect_of event list (cell_sight fields_numbers place cell corners parents parent)) None told told list (cell_sight fields_numbers place cell after parents parent)
  regular_enters told list event cell is same = rw (is, same, seen_counted corners) (record { fault = refl; seen = refl; list = refl; told = adds-nothing told })

  pub regular_leaves : (greatest : ℕ) (cell : CellRec Fields) → after ≡ counted_corners corners
      → MayLeave greatest (cell_sight fields_numbers place cell corners parents parent) (cell_sight fields_numbers place cell after parents parent)
  regular_leaves greatest cell same = rw (same, seen_counted corners) (regular_entered greatest (cell_sight fields_numbers place cell corners parents parent))

  pub ring_enters : (sphere : Sphere) (told : Told) (list : List ℤ) (event : Event) (traversal : ℕ) (cell left : CellRec Fields) → event ≡ EnterCell → after ≡ counted_corners corners → left.payload.a ≡ counted cell.payload.a
      → IsOutcome (ring.effect_of sphere event traversal list (cell_sight fields_numbers place cell corners parents parent)) None told told list (cell_sight fields_numbers place left after parents parent)
  ring_enters sphere told list event traversal cell left is same own = rw (is, same, seen_counted corners, own) (record { fault = refl; seen = refl; list = refl; told = adds-nothing told })

  pub ring_leaves : (greatest : ℕ) (cell left : CellRec Fields) → after ≡ counted_corners corners → left.payload.a ≡ counted cell.payload.a
      → MayLeave greatest (cell_sight fields_numbers place cell corners parents parent) (cell_sight fields_numbers place left after parents parent)
  ring_leaves greatest cell left same own = rw (same, seen_counted corners, own) (ring_entered greatest (cell_sight fields_numbers place cell corners parents parent))
