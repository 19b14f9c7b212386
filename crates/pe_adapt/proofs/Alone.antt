-- A corner that is loaded or stored alone, for which the counts begin at nothing.
use Rattle.std.proofs.Common.{◌≡◌, ℕ, ◌^◌, ◌<◌, Ok, sym, ap, subst, arith}
use Rattle.std.specs.Prelude.{◌-◌, IfSome}
use Rattle.pe_base.specs.Tree.Dim.{IsDim}
use Rattle.pe_base.specs.Tree.Places.{corner, parent_of}
use Rattle.pe_base.specs.Tree.Ways.{way_of}
use Rattle.pe_base.specs.Steps.Routes.{stack_in, stack_out}
use Rattle.pe_base.specs.Life.Carriers.{kind_by}
use Rattle.pe_base.specs.Acts.Effects.{Rules}
use Rattle.pe_base.specs.Walk.Working.{no_tally}
use Rattle.pe_stacks.specs.declared.record.Vertex.{Vertex}
use Rattle.pe_stacks.specs.Holdings.{CountsWithin, stack_count, len_at}
use Rattle.pe_stacks.specs.Sights.{Numbers, record_of, corner_records}
use Rattle.pe_hang.specs.InHand.{family_in_hand}
use Rattle.pe_adapt.specs.declared.settings.Settings.{Settings}
use Rattle.pe_adapt.specs.declared.spot.Spot.{Spot}
use Rattle.pe_adapt.specs.Ages.{IsPlaced, IsQuiet}
use Rattle.pe_adapt.specs.Spots.{IsSpot, source_of}
use Rattle.pe_adapt.specs.Touches.{state_in_hand, stack_or}
use Rattle.pe_adapt.specs.CountedTouches.{output, tally_may_rise}
use Rattle.pe_adapt.specs.WalkedCells.{setting_in, stream_stacks_of}
use Rattle.pe_adapt.specs.TouchCalls.{Hand, machine_of, MayGo}
use Rattle.pe_adapt.proofs.CountedTouches.{loads, stores, load-fits, store-fits, placed-is}
use Rattle.pe_adapt.proofs.Fitting.{load_as-fits, store_as-fits}
use Rattle.pe_adapt.proofs.InsideLaws.{kind-inside}
use Rattle.pe_adapt.proofs.StackLaws.{stack_out-small}

module _ {Plan V C : Type 0} (rules : Rules Plan) (numbers : Numbers V C) (settings : Settings) (spot : Spot) (old : Hand Plan V C) where
  abbrev axes : ℕ
  axes = old.held.dim

  -- where the corner comes from, in a traversal
  abbrev HasSource : ℕ → ℕ → Type 0
  HasSource input traversal =
      let vertex = corner axes spot.cell spot.corner in
      IfSome (source_of input (kind_by axes traversal (state_in_hand (parent_of spot.cell) (corner_records numbers.vertex old.parents)) vertex) (stack_in axes (way_of traversal) vertex spot.cell))
      (λ s. 0 < len_at old.vertices s)

  pub alone-may-load : IsDim axes → IsSpot axes spot → IsQuiet axes (parent_of spot.cell) (corner_records numbers.vertex old.parents) → CountsWithin old.vertices (2 ^ 62 - 1)
      → old.progress.tally ≡ no_tally settings.traversal → settings.input ≡ spot.input → settings.traversal ≡ spot.traversal → HasSource spot.input spot.traversal
      → MayGo rules numbers settings (loads rules numbers settings spot.cell spot.corner (Ok tt) old old) old
  alone-may-load within is quiet counts begun input traversal source cells =
      let vertex = corner axes spot.cell spot.corner in
      let its = corner_records numbers.vertex old.parents in
      let set = setting_in rules old.held settings in
      load-fits set (stream_stacks_of settings) spot.cell spot.corner (machine_of numbers cells old) (ap tally_may_rise begun)
      (placed-is axes _ vertex (record { inside = kind-inside axes settings.traversal spot.cell spot.digits spot.corner its within is.cell is.deep is.digits is.child is.corner quiet }))
      (load_as-fits set (record_of numbers.vertex) old.vertices (family_in_hand numbers old.parents old.parent old.held.list) settings.input _ _ vertex
      (omega (arith, counts.fresh)) (λ s. omega (arith, counts.pops s))
      (subst (λ i. HasSource i settings.traversal) (sym input) (subst (λ t. HasSource spot.input t) (sym traversal) source)))

  pub alone-may-store : (v : Vertex V) → IsSpot axes spot → IsPlaced axes v.kind (corner axes spot.cell spot.corner) → stack_count old.vertices ≡ 10
      → CountsWithin old.vertices (2 ^ 62 - 1) → 0 < old.vertices.out → old.progress.tally ≡ no_tally settings.traversal
      → MayGo rules numbers settings (stores rules numbers settings spot.cell spot.corner (Ok tt) old old (record_of numbers.vertex v)) old
  alone-may-store v is placed stacks counts some begun cells =
      let vertex = corner axes spot.cell spot.corner in
      let set = setting_in rules old.held settings in
      let out = output (stream_stacks_of settings) in
      let way = way_of settings.traversal in
      let it = record_of numbers.vertex v in
      let small = stack_out-small set out vertex axes way spot.cell (omega (arith, settings.streams.low)) is.cell.pos.four in
      store-fits set (stream_stacks_of settings) spot.cell spot.corner it (machine_of numbers cells old) (ap tally_may_rise begun) (placed-is axes v.kind vertex placed)
      (store_as-fits set (record_of numbers.vertex) old.vertices (family_in_hand numbers old.parents old.parent old.held.list) out (stack_out axes way vertex spot.cell) vertex it
      (omega (arith, small, stacks)) (omega (arith, counts.pushes (stack_or set out (stack_out axes way vertex spot.cell)))) some)
