-- A cell that may be walked may be walked without the vertices that lie beneath. So they stay.
use Rattle.std.proofs.Common.{◌≡◌, ℕ, zero, suc, ◌+◌, ◌^◌, ◌<◌, ◌≤◌, Bool, true, false, not, ◌&&◌, List, [], map, length, Option, Some, None, refl, sym, ap, ap₂, subst, ◌∙◌, inl, inr, append-nil, arith}
use Rattle.std.specs.Prelude.{nat_lt, is_some, if◌then◌else◌}
use Rattle.std.specs.Option.{unwrap_or}
use Rattle.std.specs.List.{range_with_len, AllByRecursion as Each}
use Rattle.std.proofs.lemmas.Bool.{lt-ltb}
use Rattle.std.proofs.lemmas.List.{length-append, length-map}
use Rattle.pe_base.specs.declared.place.Place.{Place}
use Rattle.pe_base.specs.Tree.Places.{corner}
use Rattle.pe_base.specs.Acts.Effects.{VertexRecord}
use Rattle.pe_base.specs.Walk.Maps.{at as found_at, at_corner}
use Rattle.pe_base.specs.Walk.Course.{done}
use Rattle.pe_base.specs.Walk.Core.{Setting}
use Rattle.pe_base.specs.Walk.Working.{Working, no_vertex, vertex_at, cell_at, record_at, family_of}
use Rattle.pe_base.proofs.Lists.{Each-left, map_same}
use Rattle.pe_base.proofs.Walk.Families.{Each-range}
use Rattle.pe_stacks.specs.Holdings.{Stack, items_at}
use Rattle.pe_stacks.specs.Grid.{output_stack}
use Rattle.pe_hang.specs.InHand.{map_holdings}
use Rattle.pe_adapt.specs.CountedTouches.{Machine}
use Rattle.pe_order.specs.Tokens.{Outlook, Tokens}
use Rattle.pe_order.specs.Takings.{takes}
use Rattle.pe_order.specs.Apart.{lies, occurs}
use Rattle.pe_order.specs.Traffic.{OnlyCounting}
use Rattle.pe_walk.specs.Machine as machine
use Rattle.pe_walk.specs.Standing.{ForeseenStart, Stage, Stands, Fair, IsFair, IsWritten, IsIdle, IsLive, Owes, times}
use Rattle.pe_walk.specs.Gridded.{stream_stacks_of}
use Rattle.pe_walk.specs.FaceLaw.{Moment, MayWalk}
use Rattle.pe_walk.specs.Beneath.{IsOver, LiesOver, KeepsBeneath}
use Rattle.pe_walk.proofs.Simulation.Leaves.{record_of, image_of}
use Rattle.pe_walk.proofs.Simulation.Shared.{on_one, lies_counts, vertices-image}
use Rattle.pe_walk.proofs.Simulation.Cuts.{times-append, cut, below, cut_stacks, stack_cut, items_cut, lies_less, over_cut, over_none, removed_if, at-removed_if, walked_over, kept_beneath}

abbrev None_there : Option VertexRecord
None_there = None

-- # The moment without what lies beneath
module _ {Plan : Type 0} (set : Setting Plan) (at : Moment) (m : Machine) (may : MayWalk set at m) where
  abbrev o : Outlook
  o = at.foreseen_start.outlook

  abbrev e : ForeseenStart
  e = at.foreseen_start

  abbrev st : Stage
  st = at.stage

  abbrev w : Working
  w = at.working

  abbrev t : Tokens
  t = at.places

  abbrev tops : ℕ → List Place
  tops s = takes at.foreseen_start.outlook at.levels s at.stage.cell

  abbrev t0 : Tokens
  t0 = record at.places { vertices = cut (λ s. takes at.foreseen_start.outlook at.levels s at.stage.cell) at.places.vertices }

  abbrev under : List Place
  under = below at.beneath at.places.vertices

  abbrev met : Place → Bool
  met q = nat_lt 0 (at.places.met q)

  abbrev w0 : Working
  w0 = record at.working { vertices = removed_if (λ q. nat_lt 0 (at.places.met q)) at.working.vertices (below at.beneath at.places.vertices) }

  items_are : (s : ℕ) → items_at t0.vertices s ≡ tops s
  items_are s = items_cut tops at.beneath t.vertices may.takes.takes_vertices s

  -- places are as often on stacks, less those beneath
  less : (q : Place) → lies t0.vertices q + times under q ≡ lies t.vertices q
  less q = lies_less tops at.beneath t.vertices may.takes.takes_vertices q

  on_top : (s : ℕ) (q : Place) → times (items_at t0.vertices s) q ≤ times (items_at t.vertices s) q
  on_top s q = omega (arith, ap (λ xs. times xs q) (items_are s), ap (λ xs. times xs q) (may.takes.takes_vertices s), times-append (tops s) (at.beneath s) q)

  counting : OnlyCounting o t0
  counting s =
      subst (Each (λ place. o.counts place ≡ true)) (sym (items_are s))
      (Each-left (λ place. o.counts place ≡ true) (tops s) (at.beneath s) (subst (Each (λ place. o.counts place ≡ true)) (may.takes.takes_vertices s) (may.holds.stands.counting s)))

  -- what is not beneath is found as before
  kept : (q : Place) → times under q ≡ 0 → found_at w0.vertices q ≡ found_at w.vertices q
  kept q none = at-removed_if met w.vertices under q ∙ ap (λ n. if met q && nat_lt 0 n then None_there else found_at w.vertices q) none ∙ go (met q)
    where
      go : (b : Bool) → (if b && false then None_there else found_at w.vertices q) ≡ found_at w.vertices q
      go true = refl
      go false = refl

  unmet_kept : (q : Place) → t.met q ≡ 0 → found_at w0.vertices q ≡ found_at w.vertices q
  unmet_kept q none = at-removed_if met w.vertices under q ∙ ap (λ n. if nat_lt 0 n && nat_lt 0 (times under q) then None_there else found_at w.vertices q) none

  met_gone : (q : Place) → 1 ≤ t.met q → 1 ≤ times under q → found_at w0.vertices q ≡ None
  met_gone q some beneath_it =
      at-removed_if met w.vertices under q ∙ ap₂ (λ a b. if a && b then None_there else found_at w.vertices q) (lt-ltb 0 (t.met q) (omega (arith, some))) (lt-ltb 0 (times under q) (omega (arith, beneath_it)))

  -- nor is what is held or on top
  held_apart : (q : Place) → o.counts q ≡ true → 1 ≤ t.held q + lies t0.vertices q → times under q ≡ 0
  held_apart q on some = omega (arith, some, may.holds.stands.apart.once q on, less q)

  lying_kept : (q : Place) → 1 ≤ lies t0.vertices q → found_at w0.vertices q ≡ found_at w.vertices q
  lying_kept q some = kept q (held_apart q (lies_counts o t may.holds.stands.counting q (omega (arith, some, less q))) (omega (arith, some)))

  stands : Stands set.axes o st t0
  stands =
      let s = may.holds.stands in
      record {
        apart = record {
          once = λ q on. omega (arith, s.apart.once q on, less q);
          unmet = λ q on unread none. omega (arith, s.apart.unmet q on unread none, less q);
        };
        counting = counting;
        unmet = s.unmet;
        held_met = s.held_met;
        stacks = cut_stacks tops t.vertices ∙ s.stacks;
        cell_stacks = s.cell_stacks;
        parents = s.parents;
        mine = s.mine;
        out = s.out;
        cells_out = s.cells_out;
        parent_entered = s.parent_entered;
        entered_off = s.entered_off;
        entered_once = s.entered_once;
        entered_distinct = s.entered_distinct;
        ahead = record { once = s.ahead.once; lie = s.ahead.lie };
      }

  -- the parent's corners
  hung_same : (found : Option VertexRecord) (a b : VertexRecord) → is_some found ≡ true → unwrap_or found a ≡ unwrap_or found b
  hung_same (Some it) a b h = refl
  hung_same None a b h = absurd cc

  parent_kept : (k : ℕ) → k < 2 ^ set.axes → record_at set.axes w0 st.parent k ≡ record_at set.axes w st.parent k
  parent_kept k small = go (o.counts (corner set.axes st.parent k)) refl
    where
      vertex : Place
      vertex = corner set.axes st.parent k

      go : (b : Bool) → o.counts (corner set.axes st.parent k) ≡ b → record_at set.axes w0 st.parent k ≡ record_at set.axes w st.parent k
      go true on = ap (λ found. unwrap_or (at_corner w.hanging st.parent k) (unwrap_or found no_vertex)) (kept (corner set.axes st.parent k) (held_apart (corner set.axes st.parent k) on (omega (arith, may.holds.stands.parents k small on))))
      go false off = hung_same (at_corner w.hanging st.parent k) (vertex_at w0 (corner set.axes st.parent k)) (vertex_at w (corner set.axes st.parent k)) (may.holds.fair.parent_flags k small ∙ ap not off)

  fair : Fair set.axes (set.rules.greatest set.plan) o e.foresight st w0 t0
  fair =
      let f = may.holds.fair in
      record {
        loads = f.loads;
        unread = λ q none. unmet_kept q none ∙ f.unread q none;
        live = λ q on live. subst (IsFair e.foresight (set.rules.greatest set.plan) q) (sym (kept q (held_apart q on (is_there q live)))) (f.live q on (was_live q live));
        written = λ q there some. subst (IsWritten e.foresight (set.rules.greatest set.plan) q)
            (sym (lying_kept q (omega (arith, there, on_one t0.vertices (output_stack o.swapped) q))))
            (f.written q (omega (arith, there, on_top (output_stack o.swapped) q)) some);
        gone = gone_there;
        cells_there = f.cells_there;
        parent_flags = f.parent_flags;
        parents = λ k small off. subst IsIdle (sym (parent_kept k small)) (f.parents k small off);
        flags = f.flags;
        mine = λ k from small off. absurd (omega (arith, from, small, may.unloaded));
      }
    where
      is_there : (q : Place) → IsLive o t0 q → 1 ≤ t.held q + lies t0.vertices q
      is_there q (inl held) = omega (arith, held)
      is_there q (inr waits) = omega (arith, waits.2, on_one t0.vertices waits.0 q)

      was_live : (q : Place) → IsLive o t0 q → IsLive o t q
      was_live q (inl held) = inl held
      was_live q (inr waits) = inr (waits.0, waits.1, omega (arith, waits.2, on_top waits.0 q), waits.3)

      gone_there : (q : Place) → o.counts q ≡ true → 1 ≤ t0.met q → occurs t0 q ≡ 0 → found_at w0.vertices q ≡ None
      gone_there q on some none = go (times under q) refl
        where
          go : (n : ℕ) → times under q ≡ n → found_at w0.vertices q ≡ None
          go zero k = kept q k ∙ may.holds.fair.gone q on some (omega (arith, none, k, less q))
          go (suc n) k = met_gone q some (omega (arith, k))

  owes : Owes set.axes set.max_cells e st w0.tally t0
  owes =
      let owes = may.holds.owes in
      record {
        cells = owes.cells;
        total = owes.total;
        fresh = owes.fresh;
        pushes = λ s. omega (arith, owes.pushes s, ap (λ (stack : Stack Place). stack.pushes) (stack_cut tops at.beneath t.vertices may.takes.takes_vertices s));
        pops = λ s. omega (arith, owes.pops s, ap (λ (stack : Stack Place). stack.pops) (stack_cut tops at.beneath t.vertices may.takes.takes_vertices s));
        cell_fresh = owes.cell_fresh;
        cell_pushes = owes.cell_pushes;
        cell_pops = owes.cell_pops;
        read = owes.read;
        written = owes.written;
        created = owes.created;
        destroyed = owes.destroyed;
        hanging = owes.hanging;
        lens = λ s. omega (arith, owes.lens s, ap (λ (xs : List Place). length xs) (items_are s), ap (λ (xs : List Place). length xs) (may.takes.takes_vertices s), length-append (tops s) (at.beneath s));
        cell_lens = owes.cell_lens;
      }

  abbrev without : Moment
  without = record at { beneath = λ s. []; working = w0; places = t0 }

  abbrev above : Machine
  above = image_of set e st.parent w0 t0

  may_walk : MayWalk set without above
  may_walk = record {
    foreseen_start = may.foreseen_start;
    stage = may.stage;
    unloaded = may.unloaded;
    deep = may.deep;
    ahead = may.ahead;
    holds = record { stands = stands; fair = fair; owes = owes };
    takes = record {
      stacks = cut_stacks tops t.vertices ∙ may.takes.stacks;
      cell_stacks = may.takes.cell_stacks;
      takes_vertices = λ s. items_are s ∙ sym (append-nil (tops s));
      takes_cells = may.takes.takes_cells;
      due = may.takes.due;
    };
    image = refl;
  }

  -- the machine lies over it
  abbrev seen : Place → VertexRecord
  seen = record_of set e w t

  abbrev beneath : ℕ → List VertexRecord
  beneath s = map seen (at.beneath s)

  vertices_over : IsOver beneath (map_holdings (record_of set e w0 t0) t0.vertices) (map_holdings seen t.vertices)
  vertices_over = subst (λ held. IsOver beneath held (map_holdings seen t.vertices)) (sym (vertices-image set e w w0 t t0 t0.vertices (λ q some. (lying_kept q some, refl)))) (over_cut tops at.beneath t.vertices may.takes.takes_vertices seen)

  lies_over : LiesOver beneath (λ s. []) above (image_of set e st.parent w t)
  lies_over = record {
    vertices = vertices_over;
    cells = over_none (map_holdings (cell_at w) t.cells);
    family = ap (λ its. record (family_of set.axes w st.parent) { parents = its })
        (sym (map_same (record_at set.axes w0 st.parent) (record_at set.axes w st.parent) (range_with_len 0 (2 ^ set.axes))
        (Each-range (λ k. record_at set.axes w0 st.parent k ≡ record_at set.axes w st.parent k) 0 (2 ^ set.axes) (λ k from small. parent_kept k (omega (arith, small))))));
    tally = refl;
  }

pub vertices_stay : {Plan : Type 0} (set : Setting Plan) (at : Moment) (m after : Machine) → MayWalk set at m
    → (machine.walk_cell set (stream_stacks_of at.foreseen_start.outlook.swapped) (suc at.levels) at.stage.cell m).ending ≡ done after → (s : ℕ) → KeepsBeneath (length (at.beneath s)) (items_at m.vertices s) (items_at after.vertices s)
vertices_stay set at m after may ends s =
    let its = beneath set at m may in
    let over = subst (LiesOver its (λ s. []) (above set at m may)) may.image (lies_over set at m may) in
    let left = walked_over set (without set at m may) (above set at m may) m after its (λ s. []) (may_walk set at m may) over ends in
    kept_beneath its (above set at m may).vertices m.vertices left.0.vertices after.vertices over.vertices left.1.vertices s (length (at.beneath s)) (length-map (at.beneath s) (seen set at m may))
