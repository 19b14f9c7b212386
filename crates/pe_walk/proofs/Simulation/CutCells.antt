-- A cell that may be walked may be walked without the cells that lie beneath. So they stay, as the vertices do.
use Rattle.std.proofs.Common.{◌≡◌, ℕ, ℤ, zero, suc, ◌+◌, ◌≤◌, Bool, true, false, ◌||◌, ◌==◌, List, [], map, length, Option, None, refl, sym, ap, ap₂, subst, ◌∙◌, append-nil, arith}
use Rattle.std.specs.Prelude.{nat_lt, is_some, if◌then◌else◌}
use Rattle.std.specs.Option.{unwrap_or}
use Rattle.std.proofs.lemmas.Bool.{lt-ltb, eq-eqb}
use Rattle.std.proofs.lemmas.List.{length-append, length-map}
use Rattle.pe_base.specs.declared.place.Place.{Place}
use Rattle.pe_base.specs.Walk.Maps.{at as found_at}
use Rattle.pe_base.specs.Walk.Course.{done}
use Rattle.pe_base.specs.Walk.Core.{Setting}
use Rattle.pe_base.specs.Walk.Working.{Working, cell_at, family_of}
use Rattle.pe_base.specs.Walk.Streams.{walked_cells}
use Rattle.pe_stacks.specs.Holdings.{Stack, stack_at, items_at}
use Rattle.pe_stacks.specs.Grid.{cell_input_stack}
use Rattle.pe_hang.specs.InHand.{map_holdings}
use Rattle.pe_adapt.specs.CountedTouches.{Machine}
use Rattle.pe_order.specs.Tokens.{Outlook, Tokens}
use Rattle.pe_order.specs.Takings.{cell_reads_of, cell_takes}
use Rattle.pe_order.specs.Apart.{lies}
use Rattle.pe_walk.specs.Machine as machine
use Rattle.pe_walk.specs.Standing.{ForeseenStart, Stage, Stands, Fair, Owes, times}
use Rattle.pe_walk.specs.Gridded.{stream_stacks_of}
use Rattle.pe_walk.specs.FaceLaw.{Moment, MayWalk}
use Rattle.pe_walk.specs.Beneath.{IsOver, LiesOver, KeepsBeneath, BeneathStays}
use Rattle.pe_order.proofs.Tokens.CellsAhead.{count-filter}
use Rattle.pe_walk.proofs.Simulation.Leaves.{image_of}
use Rattle.pe_walk.proofs.Simulation.Shared.{on_one, cells-image}
use Rattle.pe_walk.proofs.Simulation.Cuts.{times-append, cut, below, cut_empty, cut_stacks, stack_cut, items_cut, lies_less, over_cut, over_none, removed_if, at-removed_if, walked_over, kept_beneath}
use Rattle.pe_walk.proofs.Simulation.CutOff.{vertices_stay}

abbrev No_cell : Option (List ℤ)
No_cell = None

zero_unless : (n : ℕ) → (1 ≤ n → ⊥) → n ≡ 0
zero_unless zero none = refl
zero_unless (suc n) none = absurd (none (omega arith))

-- # The moment without the cells that lie beneath
module _ {Plan : Type 0} (set : Setting Plan) (at : Moment) (m : Machine) (may : MayWalk set at m) where
  abbrev o : Outlook
  o = at.foreseen_start.outlook

  abbrev st : Stage
  st = at.stage

  abbrev w : Working
  w = at.working

  abbrev t : Tokens
  t = at.places

  -- the cells of the walk, and those that it takes from each stack
  abbrev its_cells : List Place
  its_cells = walked_cells at.foreseen_start.outlook.axes at.foreseen_start.outlook.way at.foreseen_start.outlook.walks at.levels at.stage.cell

  abbrev tops : ℕ → List Place
  tops s = cell_takes at.foreseen_start.outlook at.levels s at.stage.cell

  abbrev t0 : Tokens
  t0 = record at.places { cells = cut tops at.places.cells }

  abbrev under : List Place
  under = below at.cells_beneath at.places.cells

  abbrev w0 : Working
  w0 = record at.working { cells = removed_if (λ q. true) at.working.cells under }

  -- no cell is ahead but those of the walk, and none was counted
  abbrev st0 : Stage
  st0 = record at.stage { counted = 0; ahead = its_cells }

  abbrev e0 : ForeseenStart
  e0 = record at.foreseen_start { total = at.working.tally.cells + length its_cells }

  items_are : (s : ℕ) → items_at t0.cells s ≡ tops s
  items_are s = items_cut tops at.cells_beneath t.cells may.takes.takes_cells s

  stack_is : (s : ℕ) → stack_at t0.cells s ≡ record (stack_at t.cells s) { items = tops s }
  stack_is s = stack_cut tops at.cells_beneath t.cells may.takes.takes_cells s

  -- cells are as often on stacks, less those beneath
  less : (x : Place) → lies t0.cells x + times under x ≡ lies t.cells x
  less x = lies_less tops at.cells_beneath t.cells may.takes.takes_cells x

  were_ahead : (x : Place) → times st.ahead x ≡ times its_cells x + times at.rest x
  were_ahead x = ap (λ cells. times cells x) may.ahead ∙ times-append its_cells at.rest x

  -- what is taken is cells of the walk, and each of these that is read
  taken_walked : (s : ℕ) (x : Place) → times its_cells x ≡ 0 → times (tops s) x ≡ 0
  taken_walked s x none = go (s == cell_input_stack o.swapped)
    where
      either : (b : Bool) (n : ℕ) → (if b then n else n) ≡ n
      either true n = refl
      either false n = refl

      go : (b : Bool) → times (if b then cell_reads_of o at.levels st.cell else []) x ≡ 0
      go true = count-filter o.reads_cell its_cells x ∙ ap (λ n. if o.reads_cell x then n else 0) none ∙ either (o.reads_cell x) 0
      go false = refl

  read_taken : (x : Place) → o.reads_cell x ≡ true → times (tops (cell_input_stack o.swapped)) x ≡ times its_cells x
  read_taken x reads =
      ap (λ b. times (if b then cell_reads_of o at.levels st.cell else []) x) (eq-eqb (cell_input_stack o.swapped) (cell_input_stack o.swapped) refl)
      ∙ count-filter o.reads_cell its_cells x ∙ ap (λ b. if b then times its_cells x else 0) reads

  -- so the cells of the walk lie on top as they lay
  lay : (x : Place) → 1 ≤ times its_cells x → lies t.cells x ≡ (if o.reads_cell x then 1 else 0)
  lay x some = may.holds.stands.ahead.lie x (omega (arith, some, were_ahead x))

  lie : (x : Place) → 1 ≤ times its_cells x → lies t0.cells x ≡ (if o.reads_cell x then 1 else 0)
  lie x some = go (o.reads_cell x) refl (lay x some)
    where
      go : (b : Bool) → o.reads_cell x ≡ b → lies t.cells x ≡ (if b then 1 else 0) → lies t0.cells x ≡ (if b then 1 else 0)
      go true reads once = omega (arith, once, less x, some, read_taken x reads, ap (λ xs. times xs x) (items_are (cell_input_stack o.swapped)), on_one t0.cells (cell_input_stack o.swapped) x)
      go false reads none = omega (arith, none, less x)

  -- what lies on top does not lie beneath, nor does a cell that was entered
  top_apart : (x : Place) → 1 ≤ lies t0.cells x → times under x ≡ 0
  top_apart x some = go (times its_cells x) refl
    where
      once : (b : Bool) → lies t.cells x ≡ (if b then 1 else 0) → lies t.cells x ≤ 1
      once true e = omega (arith, e)
      once false e = omega (arith, e)

      go : (n : ℕ) → times its_cells x ≡ n → times under x ≡ 0
      go zero none = absurd (omega (arith, some, cut_empty tops t.cells x (λ s. taken_walked s x none)))
      go (suc n) e = omega (arith, some, less x, once (o.reads_cell x) (lay x (omega (arith, e))))

  entered_apart : (x : Place) → 1 ≤ times st.entered x → times under x ≡ 0
  entered_apart x some = omega (arith, may.holds.stands.entered_off x some, less x)

  -- what is not beneath is found as before, and what is, nowhere
  kept : (x : Place) → times under x ≡ 0 → found_at w0.cells x ≡ found_at w.cells x
  kept x none = at-removed_if (λ q. true) w.cells under x ∙ ap (λ n. if nat_lt 0 n then No_cell else found_at w.cells x) none

  gone : (x : Place) → 1 ≤ times under x → found_at w0.cells x ≡ None
  gone x some = at-removed_if (λ q. true) w.cells under x ∙ ap (λ b. if b then No_cell else found_at w.cells x) (lt-ltb 0 (times under x) (omega (arith, some)))

  cells_there : (x : Place) → is_some (found_at w0.cells x) ≡ (nat_lt 0 (lies t0.cells x) || nat_lt 0 (times st.entered x))
  cells_there x = go (times under x) refl
    where
      go : (n : ℕ) → times under x ≡ n → is_some (found_at w0.cells x) ≡ (nat_lt 0 (lies t0.cells x) || nat_lt 0 (times st.entered x))
      go zero none =
          ap is_some (kept x none) ∙ may.holds.fair.cells_there x
          ∙ ap (λ n. nat_lt 0 n || nat_lt 0 (times st.entered x)) (let same : lies t.cells x ≡ lies t0.cells x = omega (arith, none, less x) in same)
      go (suc n) e =
          ap is_some (gone x (omega (arith, e)))
          ∙ sym (ap₂ (λ a b. nat_lt 0 a || nat_lt 0 b) (zero_unless (lies t0.cells x) (λ some. omega (arith, e, top_apart x some))) (zero_unless (times st.entered x) (λ some. omega (arith, e, entered_apart x some))))

  stands : Stands set.axes o st0 t0
  stands =
      let s = may.holds.stands in
      record {
        apart = record { once = s.apart.once; unmet = s.apart.unmet };
        counting = s.counting;
        unmet = s.unmet;
        held_met = s.held_met;
        stacks = s.stacks;
        cell_stacks = cut_stacks tops t.cells ∙ s.cell_stacks;
        parents = s.parents;
        mine = s.mine;
        out = s.out;
        cells_out = s.cells_out;
        parent_entered = s.parent_entered;
        entered_off = λ x some. omega (arith, s.entered_off x some, less x);
        entered_once = λ x some. omega (arith, s.entered_once x some, were_ahead x);
        entered_distinct = s.entered_distinct;
        ahead = record { once = λ x. omega (arith, s.ahead.once x, were_ahead x); lie = lie };
      }

  fair : Fair set.axes (set.rules.greatest set.plan) o e0.foresight st0 w0 t0
  fair =
      let f = may.holds.fair in
      record {
        loads = f.loads;
        unread = f.unread;
        live = f.live;
        written = f.written;
        gone = f.gone;
        cells_there = cells_there;
        parent_flags = f.parent_flags;
        parents = f.parents;
        flags = f.flags;
        mine = f.mine;
      }

  owes : Owes set.axes set.max_cells e0 st0 w0.tally t0
  owes =
      let owes = may.holds.owes in
      record {
        cells = owes.cells;
        total = omega arith;
        fresh = owes.fresh;
        pushes = owes.pushes;
        pops = owes.pops;
        cell_fresh = owes.cell_fresh;
        cell_pushes = λ s. omega (arith, owes.cell_pushes s, ap (λ (stack : Stack Place). stack.pushes) (stack_is s));
        cell_pops = λ s. omega (arith, owes.cell_pops s, ap (λ (stack : Stack Place). stack.pops) (stack_is s));
        read = owes.read;
        written = owes.written;
        created = owes.created;
        destroyed = owes.destroyed;
        hanging = owes.hanging;
        lens = owes.lens;
        cell_lens = λ s. omega (
          arith,
          owes.cell_lens s,
          ap (λ (xs : List Place). length xs) (items_are s),
          ap (λ (xs : List Place). length xs) (may.takes.takes_cells s),
          length-append (tops s) (at.cells_beneath s),
        );
      }

  abbrev without : Moment
  without = record at { foreseen_start = e0; stage = st0; rest = []; cells_beneath = λ s. []; working = w0; places = t0 }

  abbrev above : Machine
  above = image_of set e0 st.parent w0 t0

  may_walk : MayWalk set without above
  may_walk = record {
    foreseen_start = record { foresees = may.foreseen_start.foresees; grown = may.foreseen_start.grown; bound = may.foreseen_start.bound };
    stage = record { cell = may.stage.cell; above = may.stage.above; deep = may.stage.deep; walked = may.stage.walked };
    unloaded = may.unloaded;
    deep = may.deep;
    ahead = sym (append-nil its_cells);
    holds = record { stands = stands; fair = fair; owes = owes };
    takes = record {
      stacks = may.takes.stacks;
      cell_stacks = cut_stacks tops t.cells ∙ may.takes.cell_stacks;
      takes_vertices = may.takes.takes_vertices;
      takes_cells = λ s. items_are s ∙ sym (append-nil (tops s));
      due = may.takes.due;
    };
    image = refl;
  }

  -- the machine lies over it
  abbrev beneath : ℕ → List (List ℤ)
  beneath s = map (cell_at at.working) (at.cells_beneath s)

  cells_over : IsOver beneath (map_holdings (cell_at w0) t0.cells) (map_holdings (cell_at w) t.cells)
  cells_over =
      subst (λ held. IsOver beneath held (map_holdings (cell_at w) t.cells)) (sym (cells-image w w0 t0.cells (λ x some. kept x (top_apart x some))))
      (over_cut tops at.cells_beneath t.cells may.takes.takes_cells (cell_at w))

  lies_over : LiesOver (λ s. []) beneath above (image_of set at.foreseen_start st.parent w t)
  lies_over = record {
    vertices = over_none (image_of set at.foreseen_start st.parent w t).vertices;
    cells = cells_over;
    family = ap (λ found. record (family_of set.axes w st.parent) { parent = unwrap_or found [] }) (sym (kept st.parent (entered_apart st.parent may.holds.stands.parent_entered)));
    tally = refl;
  }

cells_stay : {Plan : Type 0} (set : Setting Plan) (at : Moment) (m after : Machine) → MayWalk set at m
    → (machine.walk_cell set (stream_stacks_of at.foreseen_start.outlook.swapped) (suc at.levels) at.stage.cell m).ending ≡ done after → (s : ℕ) → KeepsBeneath (length (at.cells_beneath s)) (items_at m.cells s) (items_at after.cells s)
cells_stay set at m after may ends s =
    let its = beneath set at m may in
    let over = subst (LiesOver (λ s. []) its (above set at m may)) may.image (lies_over set at m may) in
    let left = walked_over set (without set at m may) (above set at m may) m after (λ s. []) its (may_walk set at m may) over ends in
    kept_beneath its (above set at m may).cells m.cells left.0.cells after.cells over.cells left.1.cells s (length (at.cells_beneath s)) (length-map (at.cells_beneath s) (cell_at at.working))

-- # Vertices and cells
pub beneath_stays : {Plan : Type 0} → BeneathStays Plan
beneath_stays set at m after may ends = record { vertices = vertices_stay set at m after may ends; cells = cells_stay set at m after may ends }
