-- What holds at the stage after the load of a corner: of the places, of the records, and of counts.
use Rattle.std.proofs.Common.{◌≡◌, ◌⊎◌, ℕ, zero, suc, ◌+◌, ◌^◌, ◌<◌, ◌≤◌, ◌≢◌, Bool, true, false, not, ◌&&◌, ◌||◌, ◌==◌, ◌∷◌, Option, Some, None, refl, sym, ap, ap₂, subst, ◌∙◌, inl, inr, true≢false, arith}
use Rattle.std.specs.Prelude.{nat_le, nat_lt, is_some, if◌then◌else◌}
use Rattle.std.specs.Option.{unwrap_or}
use Rattle.std.proofs.Math.Bool.{and-false}
use Rattle.std.proofs.lemmas.Bool.{lt-ltb, ne_eqb, or_right, cases_eq}
use Rattle.std.proofs.lemmas.Bool.Decides.{nat_tests}
use Rattle.pe_base.specs.declared.place.Place.{Place}
use Rattle.pe_base.specs.declared.kind.Kind.{Kind}
use Rattle.pe_base.specs.declared.kind.Kind.TheVariants.{Kept, Born, Dying, Hanging}
use Rattle.pe_base.specs.declared.tally.Tally.{Tally}
use Rattle.pe_base.specs.Tree.Places.{corner, is_same}
use Rattle.pe_base.specs.Acts.Effects.{VertexRecord}
use Rattle.pe_base.specs.Walk.Maps.{at, at_corner}
use Rattle.pe_base.specs.Walk.Core.{Family}
use Rattle.pe_base.specs.Walk.Working.{Working, loads_of, record_at}
use Rattle.pe_base.specs.Walk.Touches.{tally_load}
use Rattle.pe_base.proofs.Steps.VertexTouches.{is_same_itself}
use Rattle.pe_base.proofs.Walk.MapLaws.{is_key}
use Rattle.pe_base.proofs.Walk.CellCorners.{corners_apart}
use Rattle.pe_base.proofs.Walk.Slots.{is_hung}
use Rattle.pe_base.proofs.Tree.Ranks.{same_places}
use Rattle.pe_stacks.specs.Holdings.{Holdings, stack_count, stack_at, items_at, len_at}
use Rattle.pe_stacks.specs.Grid.{output_stack}
use Rattle.pe_order.specs.Tokens.{Outlook, Tokens, cells_before}
use Rattle.pe_order.specs.Apart.{lies, occurs}
use Rattle.pe_walk.specs.Standing.{Foresight, ForeseenStart, Stage, Stands, Fair, Owes, IsLive, IsFair, IsIdle, IsWritten, times}
use Rattle.pe_order.proofs.Tokens.Apart.{one_if}
use Rattle.pe_walk.proofs.Simulation.Leaves.{after_load}
use Rattle.pe_walk.proofs.Simulation.Shared.{on_one, lies_unheld, OneMore, owes-more}
use Rattle.pe_walk.proofs.Simulation.Loads.OnStacks.{HasTaken}
use Rattle.pe_walk.proofs.Simulation.Loads.Records.{hung_elsewhere}
use Rattle.pe_walk.proofs.Simulation.Loads.Afters.{HasLoaded, elsewhere, vertex_elsewhere, met_elsewhere, cell_elsewhere, record_here, record_later}

last_or_later : (k j : ℕ) → k ≤ j → (k ≡ j) ⊎ (suc k ≤ j)
last_or_later k j from = grind arith

one_more_too : (h m : ℕ) (b : Bool) → (1 ≤ h → 1 ≤ m) → 1 ≤ h + one_if b → 1 ≤ m + one_if b
one_more_too h m true too some = omega arith
one_more_too h m false too some = let less : 1 ≤ m = too (omega (arith, some)) in omega (arith, less)

past_other : (k j : ℕ) → k ≢ j → nat_le (suc k) j ≡ nat_le k j
past_other k j other = grind (arith, nat_tests)

-- a flag more at the corner that is loaded
flag_turns : (hangs : ℕ → Bool) (same : Bool) (k j n : ℕ) → k < n → (hangs k && (k == j && same) || (same && nat_le (suc k) j && nat_lt j n && hangs j)) ≡ (same && nat_le k j && nat_lt j n && hangs j)
flag_turns hangs same k j n small = elim (cases_eq k j) [
  | inl e ↦ subst (λ m. (hangs k && (k == m && same) || (same && nat_le (suc k) m && nat_lt m n && hangs m)) ≡ (same && nat_le k m && nat_lt m n && hangs m)) e here
  | inr other ↦
      ap₂ (λ q l. hangs k && (q && same) || (same && l && nat_lt j n && hangs j)) (ne_eqb k j other) (past_other k j other) ∙ nothing (hangs k) same (same && nat_le k j && nat_lt j n && hangs j)
]
  where
    both : (h s : Bool) → (h && (true && s) || (s && false && true && h)) ≡ (s && true && true && h)
    both true true = refl
    both true false = refl
    both false true = refl
    both false false = refl

    nothing : (h s b : Bool) → (h && (false && s) || b) ≡ b
    nothing true s b = refl
    nothing false s b = refl

    itself : (k == k) ≡ true
    itself = grind (arith, nat_tests)

    past : nat_le (suc k) k ≡ false
    past = grind (arith, nat_tests)

    reached : nat_le k k ≡ true
    reached = grind (arith, nat_tests)

    here : (hangs k && (k == k && same) || (same && nat_le (suc k) k && nat_lt k n && hangs k)) ≡ (same && nat_le k k && nat_lt k n && hangs k)
    here =
        let below = lt-ltb k n small in
        ap₂ (λ q l. hangs k && (q && same) || (same && l && nat_lt k n && hangs k)) itself past
        ∙ ap (λ m. hangs k && (true && same) || (same && false && m && hangs k)) below
        ∙ both (hangs k) same
        ∙ ap₂ (λ l m. same && l && m && hangs k) (sym reached) (sym below)

module _ (axes greatest : ℕ) (o : Outlook) (f : Foresight) (st : Stage) (k : ℕ) (it : VertexRecord × Family) (tally : Tally) (w before after : Working) (t t' : Tokens)
    (a : HasLoaded axes greatest o f st k it tally w before after t t') where
  -- # The places
  still_unmet : (q : Place) → o.counts q ≡ false → t'.met q ≡ 0
  still_unmet q off = omega (arith, a.loads.met q, a.stood.unmet q off, ap one_if (apart (o.counts (corner axes st.cell k)) (is_same (corner axes st.cell k) q) refl refl))
    where
      apart : (b c : Bool) → o.counts (corner axes st.cell k) ≡ b → is_same (corner axes st.cell k) q ≡ c → (b && c) ≡ false
      apart true true on same = absurd (true≢false (sym on ∙ ap o.counts (same_places (corner axes st.cell k) q same) ∙ off))
      apart true false on same = refl
      apart false c on same = refl

  -- another corner of the cell is another vertex
  another : (j : ℕ) → suc k ≤ j → j < 2 ^ axes → (o.counts (corner axes st.cell k) && is_same (corner axes st.cell k) (corner axes st.cell j)) ≡ false
  another j later below =
      ap (λ c. o.counts (corner axes st.cell k) && c) (corners_apart axes st.cell k j a.four a.small below (λ e. absurd (omega (arith, e, later)))) ∙ and-false (o.counts (corner axes st.cell k))

  mine_stand : (j : ℕ) → k ≤ j → j < 2 ^ axes → o.counts (corner axes st.cell j) ≡ true
      → (1 ≤ t'.held (corner axes st.cell j)) × (t'.met (corner axes st.cell j) ≡ cells_before o.axes o.way (record { vertex = corner axes st.cell j; cell = st.cell }) + 1)
  mine_stand j from below on = elim (last_or_later k j from) [
    | inl same ↦ subst (λ n. (1 ≤ t'.held (corner axes st.cell n)) × (t'.met (corner axes st.cell n) ≡ cells_before o.axes o.way (record { vertex = corner axes st.cell n; cell = st.cell }) + 1)) same
        (here (ap (λ n. o.counts (corner axes st.cell n)) same ∙ on))
    | inr later ↦
        let stood = a.stood.mine j (omega (arith, later, a.from)) below on in
        let apart = ap one_if (another j later below) in
        (omega (arith, stood.0, a.loads.held (corner axes st.cell j), apart), omega (arith, stood.1, a.loads.met (corner axes st.cell j), apart))
  ]
    where
      here : o.counts (corner axes st.cell k) ≡ true
          → (1 ≤ t'.held (corner axes st.cell k)) × (t'.met (corner axes st.cell k) ≡ cells_before o.axes o.way (record { vertex = corner axes st.cell k; cell = st.cell }) + 1)
      here on =
          let vertex = corner axes st.cell k in
          let one = ap one_if (ap₂ (λ b c. b && c) on (is_same_itself vertex)) in
          (omega (arith, a.loads.held vertex, one), omega (arith, a.loads.met vertex, a.loads.due on, one))

  pub stands_after : Stands axes o (after_load k st) t'
  stands_after =
      let s = a.stood in
      record {
        apart = a.apart;
        counting = a.counting;
        unmet = still_unmet;
        held_met = λ q some. subst (λ n. 1 ≤ n) (sym (a.loads.met q)) (one_more_too (t.held q) (t.met q) (o.counts (corner axes st.cell k) && is_same (corner axes st.cell k) q) (s.held_met q) (subst (λ n. 1 ≤ n) (a.loads.held q) some));
        stacks = a.loads.moved.stacks ∙ s.stacks;
        cell_stacks = ap stack_count a.loads.cells ∙ s.cell_stacks;
        parents = λ j small on. omega (arith, s.parents j small on, a.loads.held (corner axes st.parent j));
        mine = mine_stand;
        out = omega (arith, a.loads.moved.out, s.out, a.from);
        cells_out = ap (λ (cells : Holdings Place). cells.out + 1) a.loads.cells ∙ s.cells_out;
        parent_entered = s.parent_entered;
        entered_off = λ cell some. ap (λ cells. lies cells cell) a.loads.cells ∙ s.entered_off cell some;
        entered_once = s.entered_once;
        entered_distinct = s.entered_distinct;
        ahead = record { once = s.ahead.once; lie = λ cell some. ap (λ cells. lies cells cell) a.loads.cells ∙ s.ahead.lie cell some };
      }

  -- # The records
  -- the vertex that was loaded
  loaded_fair : o.counts (corner axes st.cell k) ≡ true → IsFair f greatest (corner axes st.cell k) (at after.vertices (corner axes st.cell k))
  loaded_fair on =
      let vertex = corner axes st.cell k in
      subst (IsFair f greatest vertex)
      (sym (a.has.levels vertex (λ e. absurd (omega (arith, e, a.deep))) ∙ a.puts.vertices vertex ∙ ap₂ (λ b c. if b && c then Some it.0 else at w.vertices vertex) on (is_same_itself vertex)))
      (a.fair on)

  -- what was on its way before
  was_live : (q : Place) → (o.counts (corner axes st.cell k) && is_same (corner axes st.cell k) q) ≡ false → IsLive o t' q → IsLive o t q
  was_live q other (inl held) = inl (omega (arith, held, a.loads.held q, ap one_if other))
  was_live q other (inr waits) = inr (waits.0, waits.1, omega (arith, waits.2, a.loads.moved.items waits.0 q), omega (arith, waits.3, a.loads.met q, ap one_if other))

  live_after : (q : Place) → o.counts q ≡ true → IsLive o t' q → IsFair f greatest q (at after.vertices q)
  live_after q on live = go (o.counts (corner axes st.cell k)) (is_same (corner axes st.cell k) q) refl refl
    where
      before_it : (o.counts (corner axes st.cell k) && is_same (corner axes st.cell k) q) ≡ false → IsFair f greatest q (at after.vertices q)
      before_it other = a.has.fair f q on (a.puts.vertices q ∙ ap (λ b. if b then Some it.0 else at w.vertices q) other) (a.was_fair.live q on (was_live q other live))

      go : (b c : Bool) → o.counts (corner axes st.cell k) ≡ b → is_same (corner axes st.cell k) q ≡ c → IsFair f greatest q (at after.vertices q)
      go true true e same = subst (λ v. IsFair f greatest v (at after.vertices v)) (same_places (corner axes st.cell k) q same) (loaded_fair e)
      go true false e same = before_it (ap₂ (λ x y. x && y) e same)
      go false c e same = before_it (ap₂ (λ x y. x && y) e same)

  -- one that was written
  written_after : (q : Place) → 1 ≤ times (items_at t'.vertices (output_stack o.swapped)) q → 1 ≤ t'.met q → IsWritten f greatest q (at after.vertices q)
  written_after q there met =
      let none = lies_unheld o t' a.apart a.counting q (omega (arith, there, on_one t'.vertices (output_stack o.swapped) q)) in
      subst (IsWritten f greatest q) (sym (vertex_elsewhere axes greatest o f st k it tally w before after t t' a q none))
      (a.was_fair.written q (omega (arith, there, a.loads.moved.items (output_stack o.swapped) q)) (omega (arith, met, met_elsewhere axes greatest o f st k it tally w before after t t' a q none)))

  -- and one that is no more
  gone_after : (q : Place) → o.counts q ≡ true → 1 ≤ t'.met q → occurs t' q ≡ 0 → at after.vertices q ≡ None
  gone_after q on met none =
      let unheld : t'.held q ≡ 0 = omega (arith, none) in
      let other = elsewhere axes greatest o f st k it tally w before after t t' a q unheld in
      vertex_elsewhere axes greatest o f st k it tally w before after t t' a q unheld
      ∙ a.was_fair.gone q on (omega (arith, met, met_elsewhere axes greatest o f st k it tally w before after t t' a q unheld))
      (omega (arith, none, a.loads.held q, ap one_if other, a.loads.moved.beside q (apart (is_same (corner axes st.cell k) q) refl other)))
    where
      apart : (c : Bool) → is_same (corner axes st.cell k) q ≡ c → (o.counts (corner axes st.cell k) && c) ≡ false → c ≡ false
      apart true same e = absurd (true≢false (sym (ap (λ b. b && true) (ap o.counts (same_places (corner axes st.cell k) q same) ∙ on)) ∙ e))
      apart false same e = refl

  -- one that was not met
  unread_after : (q : Place) → t'.met q ≡ 0 → at after.vertices q ≡ f.start q
  unread_after q none =
      let unmet : t.met q ≡ 0 = omega (arith, none, a.loads.met q) in
      let other : one_if (o.counts (corner axes st.cell k) && is_same (corner axes st.cell k) q) ≡ 0 = omega (arith, none, a.loads.met q) in
      let unheld : t'.held q ≡ 0 = omega (arith, a.loads.held q, other, none_held (t.held q) (t.met q) (a.stood.held_met q) unmet) in
      vertex_elsewhere axes greatest o f st k it tally w before after t t' a q unheld ∙ a.was_fair.unread q unmet
    where
      none_held : (h m : ℕ) → (1 ≤ h → 1 ≤ m) → m ≡ 0 → h ≡ 0
      none_held zero m too none = refl
      none_held (suc h) m too none = absurd (omega (arith, too (omega arith), none))

  -- cells
  cells_after : (x : Place) → is_some (at after.cells x) ≡ (nat_lt 0 (lies t'.cells x) || nat_lt 0 (times st.entered x))
  cells_after x = go (is_same st.parent x) refl
    where
      go : (b : Bool) → is_same st.parent x ≡ b → is_some (at after.cells x) ≡ (nat_lt 0 (lies t'.cells x) || nat_lt 0 (times st.entered x))
      go true same =
          ap is_some (a.has.cells x ∙ ap (λ b. if b then Some it.1.parent else at before.cells x) same)
          ∙ sym (or_right (nat_lt 0 (lies t'.cells x)) (nat_lt 0 (times st.entered x)) (lt-ltb 0 (times st.entered x) (omega (arith, a.stood.parent_entered, ap (times st.entered) (same_places st.parent x same)))))
      go false other =
          ap is_some (cell_elsewhere axes greatest o f st k it tally w before after t t' a x other) ∙ a.was_fair.cells_there x
          ∙ ap (λ cells. nat_lt 0 (lies cells x) || nat_lt 0 (times st.entered x)) (sym a.loads.cells)

  -- corners that hang, of the parent
  parent_flags_after : (j : ℕ) → j < 2 ^ axes → is_hung after st.parent j ≡ not (o.counts (corner axes st.parent j))
  parent_flags_after j small =
      a.has.hung st.parent j
      ∙ hung_elsewhere (o.counts (corner axes st.cell k)) st.cell (corner axes st.cell k) k it.0 (record w { tally = tally }) before a.puts st.parent j (λ e. absurd (omega (arith, e, a.deep)))
      ∙ a.was_fair.parent_flags j small

  -- and of the cell
  flags_after : (x : Place) (j : ℕ) → st.parent.level < x.level
      → is_hung after x j ≡ (is_same st.cell x && nat_le k j && nat_lt j (2 ^ axes) && not (o.counts (corner axes st.cell j)))
  flags_after x j deeper =
      a.has.hung x j ∙ ap is_some (a.puts.hanging x j) ∙ some_if (not (o.counts (corner axes st.cell k)) && is_key k (st.cell.level ∷ st.cell.pos) j (x.level ∷ x.pos)) (at_corner w.hanging x j)
      ∙ ap (λ b. not (o.counts (corner axes st.cell k)) && is_key k (st.cell.level ∷ st.cell.pos) j (x.level ∷ x.pos) || b)
      (a.was_fair.flags x j deeper ∙ ap (λ n. is_same st.cell x && nat_le n j && nat_lt j (2 ^ axes) && not (o.counts (corner axes st.cell j))) a.from)
      ∙ flag_turns (λ n. not (o.counts (corner axes st.cell n))) (is_same st.cell x) k j (2 ^ axes) a.small
    where
      some_if : (b : Bool) (found : Option VertexRecord) → is_some (if b then Some it.0 else found) ≡ (b || is_some found)
      some_if true found = refl
      some_if false found = refl

  -- corners in hand that hang
  idle_after : (j : ℕ) → k ≤ j → j < 2 ^ axes → o.counts (corner axes st.cell j) ≡ false → IsIdle (record_at axes after st.cell j)
  idle_after j from below off = elim (last_or_later k j from) [
    | inl same ↦ subst (λ n. IsIdle (record_at axes after st.cell n)) same
        (subst IsIdle (sym (record_here axes greatest o f st k it tally w before after t t' a)) (a.idle (ap (λ n. o.counts (corner axes st.cell n)) same ∙ off)))
    | inr later ↦ subst IsIdle (sym (record_later axes greatest o f st k it tally w before after t t' a j later below)) (a.was_fair.mine j (omega (arith, later, a.from)) below off)
  ]

  loads_after : (q : Place) → loads_of after q ≡ t'.met q
  loads_after q =
      ap (λ loads. unwrap_or (at loads q) 0) a.has.loads ∙ a.puts.loads q
      ∙ ap (λ n. n + one_if (o.counts (corner axes st.cell k) && is_same (corner axes st.cell k) q)) (a.was_fair.loads q) ∙ sym (a.loads.met q)

  pub fair_after : Fair axes greatest o f (after_load k st) after t'
  fair_after = record {
    loads = loads_after;
    unread = unread_after;
    live = live_after;
    written = written_after;
    gone = gone_after;
    cells_there = cells_after;
    parent_flags = parent_flags_after;
    parents = λ j small off. a.has.idle j small (a.was_fair.parents j small off);
    flags = flags_after;
    mine = idle_after;
  }

-- # Counts
tally-more : (kind : Kind) (first : Bool) (tally : Tally) (t t' : Tokens) (v : Place) → HasTaken v t.vertices t'.vertices → t'.cells ≡ t.cells → OneMore tally (tally_load kind first tally) t t'
tally-more kind first tally t t' v moved cells = go kind first
  where
    counts : (tally' : Tally) → tally'.cells ≡ tally.cells → tally'.read ≤ tally.read + 1 → tally'.written ≤ tally.written + 1 → tally'.created ≤ tally.created + 1
        → tally'.destroyed ≤ tally.destroyed + 1 → tally'.hanging ≤ tally.hanging + 1 → OneMore tally tally' t t'
    counts tally' cells_same read written created destroyed hanging = record {
      cells = cells_same;
      read = read;
      written = written;
      created = created;
      destroyed = destroyed;
      hanging = hanging;
      fresh = moved.fresh;
      pushes = λ s. omega (arith, moved.pushes s);
      pops = moved.pops;
      cell_fresh = omega (arith, ap (λ (c : Holdings Place). c.fresh) cells);
      cell_pushes = λ s. omega (arith, ap (λ c. (stack_at c s).pushes) cells);
      cell_pops = λ s. omega (arith, ap (λ c. (stack_at c s).pops) cells);
    }

    go : (kind : Kind) (first : Bool) → OneMore tally (tally_load kind first tally) t t'
    go Hanging first = counts (tally_load Hanging first tally) refl (omega arith) (omega arith) (omega arith) (omega arith) (omega arith)
    go Born true = counts (tally_load Born true tally) refl (omega arith) (omega arith) (omega arith) (omega arith) (omega arith)
    go Kept true = counts (tally_load Kept true tally) refl (omega arith) (omega arith) (omega arith) (omega arith) (omega arith)
    go Dying true = counts (tally_load Dying true tally) refl (omega arith) (omega arith) (omega arith) (omega arith) (omega arith)
    go Kept false = counts tally refl (omega arith) (omega arith) (omega arith) (omega arith) (omega arith)
    go Born false = counts tally refl (omega arith) (omega arith) (omega arith) (omega arith) (omega arith)
    go Dying false = counts tally refl (omega arith) (omega arith) (omega arith) (omega arith) (omega arith)

pub owes_after : (axes max_cells : ℕ) (e : ForeseenStart) (st : Stage) (k : ℕ) (kind : Kind) (first : Bool) (tally : Tally) (t t' : Tokens) (v : Place) → 1 ≤ st.owed → HasTaken v t.vertices t'.vertices → t'.cells ≡ t.cells
    → Owes axes max_cells e st tally t → Owes axes max_cells e (after_load k st) (tally_load kind first tally) t'
owes_after axes max_cells e st k kind first tally t t' v owed moved cells owes =
    owes-more axes max_cells e st (after_load k st) tally (tally_load kind first tally) t t' owes (tally-more kind first tally t t' v moved cells) (omega (arith, owed)) refl
    (λ s. omega (arith, moved.lens s)) (λ s. omega (arith, ap (λ c. len_at c s) cells))
