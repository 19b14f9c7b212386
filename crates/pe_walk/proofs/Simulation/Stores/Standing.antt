-- After the store of a corner the places stand well, and counts stay small.
use Rattle.std.proofs.Common.{◌≡◌, ℕ, ◌+◌, ◌^◌, ◌<◌, ◌≤◌, Bool, true, false, length, Option, refl, ◌∙◌, arith}
use Rattle.pe_base.specs.declared.place.Place.{Place}
use Rattle.pe_base.specs.declared.kind.Kind.{Kind}
use Rattle.pe_base.specs.declared.kind.Kind.TheVariants.{Kept, Born, Dying, Hanging}
use Rattle.pe_base.specs.declared.tally.Tally.{Tally}
use Rattle.pe_base.specs.Tree.Places.{corner}
use Rattle.pe_base.specs.Walk.Touches.{tally_store}
use Rattle.pe_base.proofs.Walk.CellCorners.{corners_apart}
use Rattle.pe_order.specs.Tokens.{Outlook, Tokens}
use Rattle.pe_order.specs.Apart.{IsApart}
use Rattle.pe_order.specs.Traffic.{OnlyCounting}
use Rattle.pe_walk.specs.Standing.{ForeseenStart, Stage, Stands, Owes}
use Rattle.pe_walk.proofs.Simulation.Leaves.{after_store}
use Rattle.pe_walk.proofs.Simulation.Levels.{levels_differ}
use Rattle.pe_walk.proofs.Simulation.Shared.{owes-more}
use Rattle.pe_walk.proofs.Simulation.Stores.OnStacks.{stored, Within, held-other, held-most, out-put, fresh-put, count-put, stack-put, len-put}

-- the places
pub stands-stored : (axes : ℕ) (o : Outlook) (st : Stage) (t : Tokens) (goal : Option ℕ) (k : ℕ) → Stands axes o st t → st.from ≡ k → k < 2 ^ axes → axes ≤ length st.cell.pos → st.parent.level + 1 ≡ st.cell.level
    → IsApart o (stored (o.counts (corner axes st.cell k)) goal (corner axes st.cell k) t) → OnlyCounting o (stored (o.counts (corner axes st.cell k)) goal (corner axes st.cell k) t)
    → Stands axes o (after_store k st) (stored (o.counts (corner axes st.cell k)) goal (corner axes st.cell k) t)
stands-stored axes o st t goal k stands at below long above apart counting =
    let vertex = corner axes st.cell k in
    record {
      apart = apart;
      counting = counting;
      unmet = stands.unmet;
      held_met = λ q some. stands.held_met q (omega (arith, some, held-most (o.counts vertex) vertex q t.held));
      stacks = count-put goal vertex t.vertices ∙ stands.stacks;
      cell_stacks = stands.cell_stacks;
      parents = λ j small on. omega (arith, stands.parents j small on, held-other (o.counts vertex) vertex (corner axes st.parent j) t.held (λ c. levels_differ vertex (corner axes st.parent j) (λ e. omega (arith, e, above))));
      mine = λ j from small on.
          let its = stands.mine j (omega (arith, at, from)) small on in
          let other = corners_apart axes st.cell k j long below small (λ e. omega (arith, e, from)) in
          (omega (arith, its.0, held-other (o.counts vertex) vertex (corner axes st.cell j) t.held (λ c. other)), its.1);
      out = omega (arith, stands.out, out-put goal vertex t.vertices, at, below);
      cells_out = stands.cells_out;
      parent_entered = stands.parent_entered;
      entered_off = stands.entered_off;
      entered_once = stands.entered_once;
      entered_distinct = stands.entered_distinct;
      ahead = record { once = stands.ahead.once; lie = stands.ahead.lie };
    }

-- what the tally counts of a store
record Counted (before after : Tally) : Type 0 where
  cells : after.cells ≡ before.cells
  read : after.read ≤ before.read + 1
  written : after.written ≤ before.written + 1
  created : after.created ≤ before.created + 1
  destroyed : after.destroyed ≤ before.destroyed + 1
  hanging : after.hanging ≤ before.hanging + 1

uncounted : (tally : Tally) → Counted tally tally
uncounted tally = record { cells = refl; read = omega arith; written = omega arith; created = omega arith; destroyed = omega arith; hanging = omega arith }

counted_written : (tally : Tally) → Counted tally (record tally { written = tally.written + 1 })
counted_written tally = record { cells = refl; read = omega arith; written = omega arith; created = omega arith; destroyed = omega arith; hanging = omega arith }

counted_store : (kind : Kind) (last : Bool) (tally : Tally) → Counted tally (tally_store kind last tally)
counted_store Hanging last tally = uncounted tally
counted_store Dying true tally = record { cells = refl; read = omega arith; written = omega arith; created = omega arith; destroyed = omega arith; hanging = omega arith }
counted_store Born true tally = counted_written tally
counted_store Kept true tally = counted_written tally
counted_store Dying false tally = uncounted tally
counted_store Born false tally = uncounted tally
counted_store Kept false tally = uncounted tally

-- what is owed
pub owes-stored : (axes max_cells : ℕ) (e : ForeseenStart) (st : Stage) (t : Tokens) (counts : Bool) (goal : Option ℕ) (place : Place) (k : ℕ) (kind : Kind) (last : Bool) (tally : Tally)
    → Owes axes max_cells e st tally t → Within goal t.vertices → 1 ≤ st.owed → 1 ≤ st.unstored
    → Owes axes max_cells e (after_store k st) (tally_store kind last tally) (stored counts goal place t)
owes-stored axes max_cells e st t counts goal place k kind last tally owes within owed unstored =
    let counted = counted_store kind last tally in
    let moved = λ (s : ℕ). stack-put goal place t.vertices s within in
    owes-more axes max_cells e st (after_store k st) tally (tally_store kind last tally) t (stored counts goal place t) owes
    (record {
      cells = counted.cells;
      read = counted.read;
      written = counted.written;
      created = counted.created;
      destroyed = counted.destroyed;
      hanging = counted.hanging;
      fresh = omega (arith, fresh-put goal place t.vertices);
      pushes = λ s. (moved s).pushes;
      pops = λ s. omega (arith, (moved s).pops);
      cell_fresh = omega arith;
      cell_pushes = λ s. omega arith;
      cell_pops = λ s. omega arith;
    })
    (omega (arith, owed)) refl (λ s. omega (arith, unstored, len-put goal place t.vertices s within)) (λ s. omega arith)
