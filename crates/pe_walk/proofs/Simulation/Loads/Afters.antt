-- What is found after the load of a corner: its record in hand, all others as they were.
use Rattle.std.proofs.Common.{◌≡◌, ℕ, suc, ◌+◌, ◌-◌, ◌^◌, ◌<◌, ◌≤◌, ◌≢◌, Bool, true, false, not, ◌&&◌, List, ◌∷◌, map, length, Option, Some, None, refl, ap, ap₂, ◌∙◌, arith}
use Rattle.std.specs.Prelude.{nat_eq, nat_le, nat_lt, is_some, if◌then◌else◌}
use Rattle.std.specs.Option.{unwrap_or}
use Rattle.std.specs.List.{range_with_len}
use Rattle.std.specs.Cmp.Lexicographic.{pointwise}
use Rattle.std.proofs.lemmas.Bool.{ne_eqb, and_right}
use Rattle.std.proofs.lemmas.Bool.Decides.{nat_tests}
use Rattle.pe_base.specs.declared.place.Place.{Place}
use Rattle.pe_base.specs.declared.tally.Tally.{Tally}
use Rattle.pe_base.specs.Tree.Places.{corner, is_same}
use Rattle.pe_base.specs.Acts.Effects.{VertexRecord}
use Rattle.pe_base.specs.Walk.Maps.{at, at_corner}
use Rattle.pe_base.specs.Walk.Core.{Setting, Family}
use Rattle.pe_base.specs.Walk.Working.{Working, no_vertex, vertex_at, cell_at, record_at}
use Rattle.pe_base.proofs.Lists.{map_same}
use Rattle.pe_base.proofs.Steps.VertexTouches.{is_same_itself}
use Rattle.pe_base.proofs.Walk.CellCorners.{corners_apart}
use Rattle.pe_base.proofs.Walk.MapLaws.{is_key}
use Rattle.pe_base.proofs.Walk.Families.{Each-range}
use Rattle.pe_base.proofs.Tree.Ranks.{same_places}
use Rattle.pe_hang.specs.InHand.{map_holdings}
use Rattle.pe_order.specs.Tokens.{Outlook, Tokens}
use Rattle.pe_order.specs.Apart.{IsApart, lies}
use Rattle.pe_order.specs.Traffic.{OnlyCounting}
use Rattle.pe_walk.specs.Standing.{Foresight, ForeseenStart, Stage, Stands, Fair, IsFair, IsIdle}
use Rattle.pe_order.proofs.Tokens.Apart.{one_if}
use Rattle.pe_walk.proofs.Simulation.Leaves.{record_of}
use Rattle.pe_walk.proofs.Simulation.Shared.{HasPut, lies_unheld, cells-image, vertices-image}
use Rattle.pe_walk.proofs.Simulation.Loads.OnStacks.{LoadsPlace}
use Rattle.pe_walk.proofs.Simulation.Loads.Records.{LoadsRecord}

-- a corner was loaded: from places and records as they stood, to those after it
pub record HasLoaded (axes greatest : ℕ) (o : Outlook) (f : Foresight) (st : Stage) (k : ℕ) (it : VertexRecord × Family) (tally : Tally) (w before after : Working) (t t' : Tokens) : Type 0 where
  pub small : k < 2 ^ axes
  pub from : st.from ≡ suc k
  pub four : axes ≤ length st.cell.pos
  pub deep : st.parent.level < st.cell.level
  pub stood : Stands axes o st t
  pub was_fair : Fair axes greatest o f st w t
  pub loads : LoadsPlace o st.cell (corner axes st.cell k) t t'
  pub apart : IsApart o t'
  pub counting : OnlyCounting o t'
  pub puts : LoadsRecord (o.counts (corner axes st.cell k)) st.cell (corner axes st.cell k) k it.0 (record w { tally = tally }) before
  pub has : HasPut axes greatest o st.parent it.1 w before after t'
  pub fair : o.counts (corner axes st.cell k) ≡ true → IsFair f greatest (corner axes st.cell k) (Some it.0)
  pub idle : o.counts (corner axes st.cell k) ≡ false → IsIdle it.0

no_more : (n m : ℕ) (b : Bool) → m ≡ n + one_if b → m ≡ 0 → b ≡ false
no_more n m true e none = absurd (omega (arith, e, none))
no_more n m false e none = refl

past_itself : (k : ℕ) → nat_le (suc k) k ≡ false
past_itself k = grind (arith, nat_tests)

none_of : (found : Option VertexRecord) → is_some found ≡ false → found ≡ None
none_of None h = refl
none_of (Some v) h = absurd cc

off_flag : (a b c d : Bool) → b ≡ false → (a && b && c && d) ≡ false
off_flag true b c d h = ap (λ x. x && c && d) h
off_flag false b c d h = refl

same_key : (k : ℕ) (x : Place) → is_key k (x.level ∷ x.pos) k (x.level ∷ x.pos) ≡ true
same_key k x = is_same_itself (record { level = k; pos = x.level ∷ x.pos })

other_key : (k j : ℕ) (xs ys : List ℕ) → k ≢ j → is_key k xs j ys ≡ false
other_key k j xs ys other = ap (λ b. b && pointwise nat_eq xs ys) (ne_eqb k j other)

module _ (axes greatest : ℕ) (o : Outlook) (f : Foresight) (st : Stage) (k : ℕ) (it : VertexRecord × Family) (tally : Tally) (w before after : Working) (t t' : Tokens)
    (a : HasLoaded axes greatest o f st k it tally w before after t t') where
  -- what is not held is another vertex, or one that hangs
  pub elsewhere : (q : Place) → t'.held q ≡ 0 → (o.counts (corner axes st.cell k) && is_same (corner axes st.cell k) q) ≡ false
  elsewhere q none = no_more (t.held q) (t'.held q) (o.counts (corner axes st.cell k) && is_same (corner axes st.cell k) q) (a.loads.held q) none

  pub vertex_elsewhere : (q : Place) → t'.held q ≡ 0 → at after.vertices q ≡ at w.vertices q
  vertex_elsewhere q none = a.has.vertices q none ∙ a.puts.vertices q ∙ ap (λ b. if b then Some it.0 else at w.vertices q) (elsewhere q none)

  pub met_elsewhere : (q : Place) → t'.held q ≡ 0 → t'.met q ≡ t.met q
  met_elsewhere q none = omega (arith, a.loads.met q, ap one_if (elsewhere q none))

  -- cells that are on stacks
  pub cell_elsewhere : (x : Place) → is_same st.parent x ≡ false → at after.cells x ≡ at w.cells x
  cell_elsewhere x other = a.has.cells x ∙ ap (λ b. if b then Some it.1.parent else at before.cells x) other ∙ ap (λ cells. at cells x) a.puts.cells

  parent_lies_nowhere : (x : Place) → 1 ≤ lies t.cells x → is_same st.parent x ≡ false
  parent_lies_nowhere x some = go (is_same st.parent x) refl
    where
      go : (b : Bool) → is_same st.parent x ≡ b → b ≡ false
      go true e = absurd (omega (arith, some, a.stood.entered_off st.parent a.stood.parent_entered, ap (lies t.cells) (same_places st.parent x e)))
      go false e = refl

  -- the images of the stacks
  pub vertices_seen : {Plan : Type 0} (set : Setting Plan) (e : ForeseenStart) → map_holdings (record_of set e after t') t'.vertices ≡ map_holdings (record_of set e w t) t'.vertices
  vertices_seen set e = vertices-image set e w after t t' t'.vertices (λ x some. let none = lies_unheld o t' a.apart a.counting x some in (vertex_elsewhere x none, met_elsewhere x none))

  pub cells_seen : map_holdings (cell_at after) t'.cells ≡ map_holdings (cell_at w) t.cells
  cells_seen = ap (map_holdings (cell_at after)) a.loads.cells ∙ cells-image w after t.cells (λ x some. cell_elsewhere x (parent_lies_nowhere x some))

  -- the corner that was loaded did not hang before
  hung_before : at_corner w.hanging st.cell k ≡ None
  hung_before =
      none_of (at_corner w.hanging st.cell k)
      (a.was_fair.flags st.cell k a.deep ∙ off_flag (is_same st.cell st.cell) (nat_le st.from k) (nat_lt k (2 ^ axes)) (not (o.counts (corner axes st.cell k))) (ap (λ n. nat_le n k) a.from ∙ past_itself k))

  lower : st.parent.level ≢ st.cell.level
  lower e = absurd (omega (arith, e, a.deep))

  -- the corner that was loaded
  pub record_here : record_at axes after st.cell k ≡ it.0
  record_here = a.has.records st.cell k lower ∙ go (o.counts (corner axes st.cell k)) refl
    where
      vertex : Place
      vertex = corner axes st.cell k

      hung : at_corner before.hanging st.cell k ≡ (if not (o.counts vertex) && is_key k (st.cell.level ∷ st.cell.pos) k (st.cell.level ∷ st.cell.pos) then Some it.0 else at_corner w.hanging st.cell k)
      hung = a.puts.hanging st.cell k

      go : (b : Bool) → o.counts vertex ≡ b → record_at axes before st.cell k ≡ it.0
      go true on =
          ap₂ (λ x y. unwrap_or x (unwrap_or y no_vertex)) (hung ∙ ap (λ b. if not b && is_key k (st.cell.level ∷ st.cell.pos) k (st.cell.level ∷ st.cell.pos) then Some it.0 else at_corner w.hanging st.cell k) on ∙ hung_before)
          (a.puts.vertices vertex ∙ ap₂ (λ b c. if b && c then Some it.0 else at w.vertices vertex) on (is_same_itself vertex))
      go false off = ap (λ x. unwrap_or x (vertex_at before vertex)) (hung ∙ ap₂ (λ b c. if not b && c then Some it.0 else at_corner w.hanging st.cell k) off (same_key k st.cell))

  -- and those that were loaded before it
  pub record_later : (j : ℕ) → suc k ≤ j → j < 2 ^ axes → record_at axes after st.cell j ≡ record_at axes w st.cell j
  record_later j later below =
      a.has.records st.cell j lower
      ∙ ap₂ (λ x y. unwrap_or x (unwrap_or y no_vertex))
      (a.puts.hanging st.cell j ∙ ap (λ b. if b then Some it.0 else at_corner w.hanging st.cell j) (and_right (not (o.counts (corner axes st.cell k))) (is_key k (st.cell.level ∷ st.cell.pos) j (st.cell.level ∷ st.cell.pos)) (other_key k j (st.cell.level ∷ st.cell.pos) (st.cell.level ∷ st.cell.pos) other)))
      (a.puts.vertices (corner axes st.cell j) ∙ ap (λ b. if b then Some it.0 else at w.vertices (corner axes st.cell j)) (and_right (o.counts (corner axes st.cell k)) (is_same (corner axes st.cell k) (corner axes st.cell j)) (corners_apart axes st.cell k j a.four a.small below other)))
    where
      other : k ≢ j
      other e = absurd (omega (arith, e, later))

  -- those in hand
  pub records_seen : map (record_at axes after st.cell) (range_with_len k (2 ^ axes - k)) ≡ it.0 ∷ map (record_at axes w st.cell) (range_with_len (suc k) (2 ^ axes - suc k))
  records_seen =
      let n = 2 ^ axes - suc k in
      ap (λ m. map (record_at axes after st.cell) (range_with_len k m)) (let more : 2 ^ axes - k ≡ suc (2 ^ axes - suc k) = omega (arith, a.small) in more)
      ∙ ap₂ (λ x xs. x ∷ xs) record_here
      (ap (λ m. map (record_at axes after st.cell) (range_with_len m n)) (let one : k + 1 ≡ suc k = omega arith in one)
      ∙ map_same (record_at axes after st.cell) (record_at axes w st.cell) (range_with_len (suc k) n)
      (Each-range (λ j. record_at axes after st.cell j ≡ record_at axes w st.cell j) (suc k) n (λ j later below. record_later j later (omega (arith, below, a.small)))))
