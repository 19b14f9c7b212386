-- After the store of a corner the working state is fair.
use Rattle.std.proofs.Common.{◌≡◌, ◌≢◌, inl, inr, ℕ, zero, suc, ◌+◌, ◌^◌, ◌<◌, ◌≤◌, Bool, true, false, not, ◌&&◌, ◌||◌, ◌==◌, Option, Some, None, refl, sym, ap, subst, ◌∙◌, arith}
use Rattle.std.specs.Prelude.{nat_lt, nat_le, is_some, if◌then◌else◌}
use Rattle.std.specs.Option.{unwrap_or}
use Rattle.std.proofs.lemmas.Bool.{lt-ltb, eqb-true, eqb-false}
use Rattle.std.proofs.lemmas.Bool.Decides.{nat_tests}
use Rattle.pe_base.specs.declared.place.Place.{Place}
use Rattle.pe_base.specs.Tree.Places.{corner, is_same}
use Rattle.pe_base.specs.Acts.Effects.{VertexRecord}
use Rattle.pe_base.specs.Walk.Maps.{at}
use Rattle.pe_base.specs.Walk.Core.{Setting, Family}
use Rattle.pe_base.specs.Walk.Working.{Working, loads_of, record_at}
use Rattle.pe_base.proofs.Walk.Slots.{is_hung}
use Rattle.pe_base.proofs.Tree.Ranks.{same_places}
use Rattle.pe_stacks.specs.Holdings.{items_at}
use Rattle.pe_stacks.specs.Grid.{output_stack}
use Rattle.pe_order.specs.Tokens.{Outlook, Tokens}
use Rattle.pe_order.specs.Apart.{lies, occurs}
use Rattle.pe_walk.specs.Standing.{Foresight, Stage, Stands, Fair, IsFair, IsWritten, IsIdle, IsLive, times}
use Rattle.pe_walk.proofs.Simulation.Leaves.{after_store}
use Rattle.pe_walk.proofs.Simulation.Shared.{HasPut, on_one, lies_counts, lies_unheld}
use Rattle.pe_walk.proofs.Simulation.Stores.OnStacks.{stored, Within, IsOther, held-other, held-most, held-itself, times-other, lies-other, went, went_nowhere}
use Rattle.pe_walk.proofs.Simulation.Stores.Fates.{Fate, fate-on, fate-off}
use Rattle.pe_walk.proofs.Simulation.Stores.Leaving.{Leaves, leaves-hung}

-- A corner of the stage's cell was stored, in the working state as in the places: what held before, and what was left.
pub record IsStored {Plan : Type 0} (set : Setting Plan) (o : Outlook) (f : Foresight) (st : Stage) (k : ℕ) (to goal : Option ℕ) (left : Option VertexRecord) (family : Family) (w before after : Working) (t : Tokens) : Type 0 where
  pub stands : Stands set.axes o st t
  pub fair : Fair set.axes (set.rules.greatest set.plan) o f st w t
  pub now : Stands set.axes o (after_store k st) (stored (o.counts (corner set.axes st.cell k)) goal (corner set.axes st.cell k) t)
  pub from : st.from ≡ k
  pub below : k < 2 ^ set.axes
  pub deep : st.parent.level + 1 ≡ st.cell.level
  pub within : Within goal t.vertices
  pub leaves : Leaves set.axes st.cell k (o.counts (corner set.axes st.cell k)) left w before
  pub puts : HasPut set.axes (set.rules.greatest set.plan) o st.parent family w before after (stored (o.counts (corner set.axes st.cell k)) goal (corner set.axes st.cell k) t)
  pub fate : Fate set f (output_stack o.swapped) (corner set.axes st.cell k) to goal left

zero_unless : (n : ℕ) → (1 ≤ n → ⊥) → n ≡ 0
zero_unless zero h = refl
zero_unless (suc n) h = absurd (h (omega arith))

-- the flag of a corner after one of its cell is no longer in hand
flag-moves : (off own at near next below there : Bool) → (at ≡ true → (next ≡ false) × (there ≡ off)) → (at ≡ false → near ≡ next)
    → (if off && (at && own) then false else own && near && below && there) ≡ (own && next && below && there)
flag-moves true false true near next below there here beside = refl
flag-moves true false false near next below there here beside = refl
flag-moves false false at near next below there here beside = refl
flag-moves true true true near next below there here beside = sym (ap (λ b. b && below && there) (here refl).0)
flag-moves false true true near next below there here beside =
    ap (λ b. near && below && b) (here refl).1 ∙ never near below ∙ sym (ap (λ b. b && below && there) (here refl).0)
  where
    never : (a b : Bool) → (a && b && false) ≡ false
    never true true = refl
    never true false = refl
    never false b = refl
flag-moves true true false near next below there here beside = ap (λ b. b && below && there) (beside refl)
flag-moves false true false near next below there here beside = ap (λ b. b && below && there) (beside refl)

past : (k : ℕ) → nat_le (k + 1) k ≡ false
past k = grind (arith, nat_tests)

as_far : (k j : ℕ) → k ≢ j → nat_le k j ≡ nat_le (k + 1) j
as_far k j other = grind (arith, nat_tests)

module _ {Plan : Type 0} (set : Setting Plan) (o : Outlook) (f : Foresight) (st : Stage) (k : ℕ) (to goal : Option ℕ) (left : Option VertexRecord) (family : Family) (w before after : Working) (t : Tokens)
    (is : IsStored set o f st k to goal left family w before after t) where
  abbrev greatest : ℕ
  greatest = set.rules.greatest set.plan

  abbrev vertex : Place
  vertex = corner set.axes st.cell k

  abbrev now : Tokens
  now = stored (o.counts vertex) goal vertex t

  -- # The vertex
  -- it was held, and lay nowhere; now it is not held
  held_before : o.counts vertex ≡ true → 1 ≤ t.held vertex
  held_before on = (is.stands.mine k (omega (arith, is.from)) is.below on).0

  off_stacks : o.counts vertex ≡ true → lies t.vertices vertex ≡ 0
  off_stacks on = omega (arith, held_before on, is.stands.apart.once vertex on)

  unheld : o.counts vertex ≡ true → now.held vertex ≡ 0
  unheld on = go (o.counts vertex) on
    where
      go : (b : Bool) → b ≡ true → (stored b goal vertex t).held vertex ≡ 0
      go true e = omega (arith, held-itself vertex t.held, is.stands.apart.once vertex on)
      go false e = absurd cc

  -- it is found as it was left
  pub found : o.counts vertex ≡ true → at after.vertices vertex ≡ left
  found on = is.puts.vertices vertex (unheld on) ∙ is.leaves.vertex on

  -- and lies where its place went
  lies_where : o.counts vertex ≡ true → (s : ℕ) → 1 ≤ times (items_at now.vertices s) vertex → goal ≡ Some s
  lies_where on s some = went goal vertex t.vertices s is.within (omega (arith, off_stacks on, on_one t.vertices s vertex)) some

  -- # Other places
  other_if : (q : Place) → is_same vertex q ≡ false → IsOther (o.counts vertex) vertex q
  other_if q e = λ c. e

  -- what was not met is another place, and is not held
  unmet_other : (q : Place) → t.met q ≡ 0 → IsOther (o.counts vertex) vertex q
  unmet_other q none on = go (is_same vertex q) refl
    where
      go : (b : Bool) → is_same vertex q ≡ b → b ≡ false
      go true e = absurd (omega (arith, none, is.stands.held_met vertex (held_before on), ap t.met (same_places vertex q e)))
      go false e = refl

  unmet_unheld : (q : Place) → t.met q ≡ 0 → now.held q ≡ 0
  unmet_unheld q none = zero_unless (now.held q) (λ some. omega (arith, none, is.stands.held_met q (omega (arith, some, held-most (o.counts vertex) vertex q t.held))))

  -- other places that are not held are found as they were
  found_other : (q : Place) → now.held q ≡ 0 → IsOther (o.counts vertex) vertex q → at after.vertices q ≡ at w.vertices q
  found_other q none other = is.puts.vertices q none ∙ is.leaves.vertices q other

  -- so are those that lie on stacks, and the numbers of cells that do
  pub found_lying : (q : Place) → 1 ≤ lies t.vertices q → at after.vertices q ≡ at w.vertices q
  found_lying q lying =
      found_other q (omega (arith, held-most (o.counts vertex) vertex q t.held, lies_unheld o t is.stands.apart is.stands.counting q lying)) (λ on. go on (is_same vertex q) refl)
    where
      go : o.counts vertex ≡ true → (b : Bool) → is_same vertex q ≡ b → b ≡ false
      go on true e = absurd (omega (arith, lying, off_stacks on, ap (lies t.vertices) (same_places vertex q e)))
      go on false e = refl

  pub cells_lying : (cell : Place) → 1 ≤ lies t.cells cell → at after.cells cell ≡ at w.cells cell
  cells_lying cell lying = is.puts.cells cell ∙ go (is_same st.parent cell) refl
    where
      go : (b : Bool) → is_same st.parent cell ≡ b → (if b then Some family.parent else at before.cells cell) ≡ at w.cells cell
      go true e = let same : st.parent ≡ cell = same_places st.parent cell e in absurd (omega (arith, lying, is.stands.entered_off st.parent is.stands.parent_entered, ap (lies t.cells) same))
      go false e = ap (λ m. at m cell) is.leaves.cells

  -- # Vertices
  loads-stored : (q : Place) → loads_of after q ≡ now.met q
  loads-stored q = ap (λ m. unwrap_or (at m q) 0) (is.puts.loads ∙ is.leaves.loads) ∙ is.fair.loads q

  unread-stored : (q : Place) → now.met q ≡ 0 → at after.vertices q ≡ f.start q
  unread-stored q none = found_other q (unmet_unheld q none) (unmet_other q none) ∙ is.fair.unread q none

  live-vertex : o.counts vertex ≡ true → IsLive o now vertex → IsFair f greatest vertex (at after.vertices vertex)
  live-vertex on (inl held) = absurd (omega (arith, held, unheld on))
  live-vertex on (inr there) =
      subst (IsFair f greatest vertex) (sym (found on))
      ((fate-on set f (output_stack o.swapped) vertex to goal left there.0 (lies_where on there.0 there.2) is.fate).waits there.1)

  live-other : (q : Place) → is_same vertex q ≡ false → IsLive o now q → IsLive o t q
  live-other q e (inl held) = inl (omega (arith, held, held-most (o.counts vertex) vertex q t.held))
  live-other q e (inr there) = inr (there.0, there.1, omega (arith, there.2, times-other goal vertex q t.vertices there.0 is.within e), there.3)

  live-stored : (q : Place) → o.counts q ≡ true → IsLive o now q → IsFair f greatest q (at after.vertices q)
  live-stored q on live = go (is_same vertex q) refl
    where
      go : (b : Bool) → is_same vertex q ≡ b → IsFair f greatest q (at after.vertices q)
      go true e =
          let same : vertex ≡ q = same_places vertex q e in
          subst (λ p. IsFair f greatest p (at after.vertices p)) same (live-vertex (ap o.counts same ∙ on) (subst (IsLive o now) (sym same) live))
      go false e = is.puts.fair f q on (is.leaves.vertices q (other_if q e)) (is.fair.live q on (live-other q e live))

  written-vertex : o.counts vertex ≡ true → 1 ≤ times (items_at now.vertices (output_stack o.swapped)) vertex → IsWritten f greatest vertex (at after.vertices vertex)
  written-vertex on some =
      subst (IsWritten f greatest vertex) (sym (found on))
      ((fate-on set f (output_stack o.swapped) vertex to goal left (output_stack o.swapped) (lies_where on (output_stack o.swapped) some) is.fate).written refl)

  written-stored : (q : Place) → 1 ≤ times (items_at now.vertices (output_stack o.swapped)) q → 1 ≤ now.met q → IsWritten f greatest q (at after.vertices q)
  written-stored q some met = go (is_same vertex q) refl
    where
      lying : 1 ≤ lies now.vertices q
      lying = omega (arith, some, on_one now.vertices (output_stack o.swapped) q)

      go : (b : Bool) → is_same vertex q ≡ b → IsWritten f greatest q (at after.vertices q)
      go true e =
          let same : vertex ≡ q = same_places vertex q e in
          subst (λ p. IsWritten f greatest p (at after.vertices p)) same
          (written-vertex (ap o.counts same ∙ lies_counts o now is.now.counting q lying) (subst (λ p. 1 ≤ times (items_at now.vertices (output_stack o.swapped)) p) (sym same) some))
      go false e =
          subst (IsWritten f greatest q) (sym (found_other q (lies_unheld o now is.now.apart is.now.counting q lying) (other_if q e)))
          (is.fair.written q (omega (arith, some, times-other goal vertex q t.vertices (output_stack o.swapped) is.within e)) met)

  gone-stored : (q : Place) → o.counts q ≡ true → 1 ≤ now.met q → occurs now q ≡ 0 → at after.vertices q ≡ None
  gone-stored q on met none = go (is_same vertex q) refl
    where
      go : (b : Bool) → is_same vertex q ≡ b → at after.vertices q ≡ None
      go true e =
          let same : vertex ≡ q = same_places vertex q e in
          let nowhere : lies now.vertices vertex ≡ 0 = ap (lies now.vertices) same ∙ (let h : lies now.vertices q ≡ 0 = omega (arith, none) in h) in
          ap (at after.vertices) (sym same) ∙ found (ap o.counts same ∙ on)
          ∙ fate-off set f (output_stack o.swapped) vertex to goal left (went_nowhere goal vertex t.vertices is.within nowhere) is.fate
      go false e =
          found_other q (omega (arith, none)) (other_if q e)
          ∙ is.fair.gone q on met (omega (arith, none, held-other (o.counts vertex) vertex q t.held (other_if q e), lies-other goal vertex q t.vertices is.within e))

  -- # Cells
  cells-stored : (cell : Place) → is_some (at after.cells cell) ≡ (nat_lt 0 (lies now.cells cell) || nat_lt 0 (times st.entered cell))
  cells-stored cell = ap is_some (is.puts.cells cell) ∙ go (is_same st.parent cell) refl
    where
      entered : (a b : Bool) → b ≡ true → true ≡ (a || b)
      entered true b e = refl
      entered false b e = sym e

      go : (b : Bool) → is_same st.parent cell ≡ b → is_some (if b then Some family.parent else at before.cells cell) ≡ (nat_lt 0 (lies now.cells cell) || nat_lt 0 (times st.entered cell))
      go true e =
          let some : 0 < times st.entered cell = omega (arith, is.stands.parent_entered, ap (times st.entered) (same_places st.parent cell e)) in
          entered (nat_lt 0 (lies now.cells cell)) (nat_lt 0 (times st.entered cell)) (lt-ltb 0 (times st.entered cell) some)
      go false e = ap (λ m. is_some (at m cell)) is.leaves.cells ∙ is.fair.cells_there cell

  -- # Hanging vertices
  hung-stored : (x : Place) (j : ℕ) → is_hung after x j ≡ (if not (o.counts vertex) && (k == j && is_same st.cell x) then false else is_hung w x j)
  hung-stored x j = is.puts.hung x j ∙ is.leaves.hung x j

  parent_flags-stored : (j : ℕ) → j < 2 ^ set.axes → is_hung after st.parent j ≡ not (o.counts (corner set.axes st.parent j))
  parent_flags-stored j small =
      is.puts.hung st.parent j ∙ leaves-hung set.axes st.cell k (o.counts vertex) left w before is.leaves st.parent j (λ e. omega (arith, e, is.deep)) ∙ is.fair.parent_flags j small

  flags-stored : (x : Place) (j : ℕ) → st.parent.level < x.level
      → is_hung after x j ≡ (is_same st.cell x && nat_le (k + 1) j && nat_lt j (2 ^ set.axes) && not (o.counts (corner set.axes st.cell j)))
  flags-stored x j deeper =
      hung-stored x j
      ∙ ap (λ b. if not (o.counts vertex) && (k == j && is_same st.cell x) then false else b) (is.fair.flags x j deeper)
      ∙ flag-moves (not (o.counts vertex)) (is_same st.cell x) (k == j) (nat_le st.from j) (nat_le (k + 1) j) (nat_lt j (2 ^ set.axes)) (not (o.counts (corner set.axes st.cell j)))
      (λ at. let same = eqb-true k j at in (ap (nat_le (k + 1)) (sym same) ∙ past k, ap (λ n. not (o.counts (corner set.axes st.cell n))) (sym same)))
      (λ away. ap (λ n. nat_le n j) is.from ∙ as_far k j (eqb-false k j away))

  -- # Idle records
  pub records-stored : (j : ℕ) → k + 1 ≤ j → j < 2 ^ set.axes → record_at set.axes after st.cell j ≡ record_at set.axes w st.cell j
  records-stored j past small = is.puts.records st.cell j (λ e. omega (arith, e, is.deep)) ∙ is.leaves.corners j small (λ e. omega (arith, e, past))

  idle-stored : (j : ℕ) → k + 1 ≤ j → j < 2 ^ set.axes → o.counts (corner set.axes st.cell j) ≡ false → IsIdle (record_at set.axes after st.cell j)
  idle-stored j past small off =
      subst IsIdle (sym (records-stored j past small)) (is.fair.mine j (omega (arith, is.from, past)) small off)

  pub fair-stored : Fair set.axes (set.rules.greatest set.plan) o f (after_store k st) after (stored (o.counts (corner set.axes st.cell k)) goal (corner set.axes st.cell k) t)
  fair-stored = record {
    loads = loads-stored;
    unread = unread-stored;
    live = live-stored;
    written = written-stored;
    gone = gone-stored;
    cells_there = cells-stored;
    parent_flags = parent_flags-stored;
    parents = λ j small off. is.puts.idle j small (is.fair.parents j small off);
    flags = flags-stored;
    mine = idle-stored;
  }
