-- What the walk of a cell leaves: above the cell's parent nothing changes, and beside the parent no hanging vertex comes or
-- goes.
use Rattle.std.specs.List.{AllByRecursion as Each}
use Rattle.std.proofs.Common.{◌≡◌, ℕ, zero, suc, ◌+◌, ◌^◌, ◌<◌, ◌≤◌, ◌≢◌, Bool, true, false, ◌&&◌, ◌==◌, List, [], ◌∷◌, reverse, Option, Some, None, refl, sym, ap, subst, ◌∙◌, arith}
use Rattle.std.specs.Prelude.{if◌then◌else◌, is_some, nat_lt}
use Rattle.std.proofs.lemmas.Bool.{ne_eqb}
use Rattle.std.proofs.Math.Bool.{and-false}
use Rattle.pe_base.specs.declared.place.Place.{Place}
use Rattle.pe_base.specs.declared.kind.Kind.{Kind}
use Rattle.pe_base.specs.declared.tally.Tally.{Tally}
use Rattle.pe_base.specs.declared.kind.Kind.TheVariants.{Kept, Born, Dying, Hanging}
use Rattle.pe_base.specs.Tree.Places.{corner, is_same, is_same_pos, child_at}
use Rattle.pe_base.specs.Tree.Curve.{children, child_digits, flips}
use Rattle.pe_base.specs.Acts.Effects.{VertexRecord}
use Rattle.pe_base.specs.Walk.Maps.{at, at_corner, changed, removed}
use Rattle.pe_base.specs.Walk.Course.{Course, limit_at, at_once, and_then, course_map, each}
use Rattle.pe_base.specs.Walk.Core.{Setting, way, Family, Own, load_touch, store_touch, enter_touch, leave_touch}
use Rattle.pe_base.specs.Walk.Working.{Working, vertex_at, put_vertex, cell_at, loads_of, loaded_again, record_at, put_record, records_of, put_records_from, put_cell, family_of, put_family, own_of, put_own}
use Rattle.pe_base.specs.Walk.Touches.{tally_load, tally_store, tally_cell, kind_of_vertex, kind_of_children, within_limit, count_cell, put_loaded, after_load, load_corner, put_stored, after_store, store_corner, after_cell, enter_cell, put_left, leave_cell}
use Rattle.pe_base.specs.Walk.Walk.{corner_numbers, around_below, if_walked, walk_cell}
use Rattle.pe_base.proofs.Lists.{Each-all, Each-map, Each-weaker}
use Rattle.pe_base.proofs.Walk.MapLaws.{is_key, found-changed, at-put, at-removed}
use Rattle.pe_base.proofs.Walk.Slots.{write, slot_if, is_hung, hangs-write, put_record-is}
use Rattle.pe_base.proofs.Walk.Courses.{Keeps, keeps-at_once, keeps-halts, keeps-map, keeps-then, keeps-each}

-- places of two levels are two, and so are corners of cells of two levels
pub levels_differ : (a b : Place) → a.level ≢ b.level → is_same a b ≡ false
levels_differ a b other = ap (λ t. t && is_same_pos a.pos b.pos) (ne_eqb a.level b.level other)

key_apart : (k : ℕ) (a : Place) (j : ℕ) (b : Place) → a.level ≢ b.level → is_key k (a.level ∷ a.pos) j (b.level ∷ b.pos) ≡ false
key_apart k a j b other = ap (λ t. k == j && (t && is_same_pos a.pos b.pos)) (ne_eqb a.level b.level other) ∙ and-false (k == j)

-- Above a level nothing has changed, and on it no hanging vertex has come or gone.
pub record KeepsAbove (level : ℕ) (w after : Working) : Type 0 where
  pub vertices : (q : Place) → q.level < level → at after.vertices q ≡ at w.vertices q
  pub cells : (x : Place) → x.level < level → at after.cells x ≡ at w.cells x
  pub hanging : (x : Place) (k : ℕ) → x.level < level → at_corner after.hanging x k ≡ at_corner w.hanging x k
  pub hung : (x : Place) (k : ℕ) → x.level ≤ level → is_hung after x k ≡ is_hung w x k

module _ (level : ℕ) where
  pub above-same : (w : Working) → KeepsAbove level w w
  above-same w = record { vertices = λ q up. refl; cells = λ x up. refl; hanging = λ x k up. refl; hung = λ x k up. refl }

  pub above-then : (a b c : Working) → KeepsAbove level a b → KeepsAbove level b c → KeepsAbove level a c
  above-then a b c h k = record {
    vertices = λ q up. k.vertices q up ∙ h.vertices q up;
    cells = λ x up. k.cells x up ∙ h.cells x up;
    hanging = λ x j up. k.hanging x j up ∙ h.hanging x j up;
    hung = λ x j up. k.hung x j up ∙ h.hung x j up;
  }

  -- a corner's record is written
  above-write : (axes : ℕ) (b : Bool) (cell : Place) (k : ℕ) (it : VertexRecord) (w : Working) → level ≤ cell.level → is_hung w cell k ≡ b → KeepsAbove level w (write (slot_if axes b cell k) it w)
  above-write axes true cell k it w low here = record {
    vertices = λ q up. refl;
    cells = λ x up. refl;
    hanging = λ x j up. found-changed w.hanging k (cell.level ∷ cell.pos) (Some it) j (x.level ∷ x.pos)
        ∙ ap (λ t. if t then Some it else at_corner w.hanging x j) (key_apart k cell j x (λ e. absurd (omega arith)));
    hung = λ x j up. hangs-write axes true w cell k it here x j;
  }
  above-write axes false cell k it w low here = record {
    vertices = λ q up. at-put w.vertices (corner axes cell k) q it
        ∙ ap (λ t. if t then Some it else at w.vertices q) (levels_differ (corner axes cell k) q (λ e. absurd (omega arith)));
    cells = λ x up. refl;
    hanging = λ x j up. refl;
    hung = λ x j up. refl;
  }

  above-put_record : (axes : ℕ) (cell : Place) (k : ℕ) (it : VertexRecord) (w : Working) → level ≤ cell.level → KeepsAbove level w (put_record axes cell k it w)
  above-put_record axes cell k it w low = subst (KeepsAbove level w) (sym (put_record-is axes cell k it w)) (above-write axes (is_hung w cell k) cell k it w low refl)

  above-put_records : (axes : ℕ) (cell : Place) (k : ℕ) (its : List VertexRecord) (w : Working) → level ≤ cell.level → KeepsAbove level w (put_records_from axes cell k its w)
  above-put_records axes cell k [] w low = above-same w
  above-put_records axes cell k (it ∷ its) w low =
      above-then w (put_record axes cell k it w) (put_records_from axes cell (k + 1) its (put_record axes cell k it w))
      (above-put_record axes cell k it w low) (above-put_records axes cell (k + 1) its (put_record axes cell k it w) low)

  above-put_cell : (cell : Place) (numbers : _) (w : Working) → level ≤ cell.level → KeepsAbove level w (put_cell cell numbers w)
  above-put_cell cell numbers w low = record {
    vertices = λ q up. refl;
    cells = λ x up. at-put w.cells cell x numbers ∙ ap (λ t. if t then Some numbers else at w.cells x) (levels_differ cell x (λ e. absurd (omega arith)));
    hanging = λ x j up. refl;
    hung = λ x j up. refl;
  }

  above-put_family : (axes : ℕ) (parent : Place) (family : Family) (w : Working) → level ≤ parent.level → KeepsAbove level w (put_family axes parent family w)
  above-put_family axes parent family w low =
      let listed : Working = record w { list = family.list } in
      let celled : Working = put_cell parent family.parent listed in
      above-then w celled (put_records_from axes parent 0 family.parents celled)
      (above-then w listed celled (record { vertices = λ q up. refl; cells = λ x up. refl; hanging = λ x k up. refl; hung = λ x k up. refl }) (above-put_cell parent family.parent listed low))
      (above-put_records axes parent 0 family.parents celled low)

  above-put_own : (axes : ℕ) (cell : Place) (own : Own) (w : Working) → level ≤ cell.level → KeepsAbove level w (put_own axes cell own w)
  above-put_own axes cell own w low =
      above-then w (put_cell cell own.cell w) (put_own axes cell own w) (above-put_cell cell own.cell w low) (above-put_records axes cell 0 own.corners (put_cell cell own.cell w) low)

  above-removed : (vertex : Place) (w : Working) → level ≤ vertex.level → KeepsAbove level w (record w { vertices = removed w.vertices vertex })
  above-removed vertex w low = record {
    vertices = λ q up. at-removed w.vertices vertex q ∙ ap (λ t. if t then None else at w.vertices q) (levels_differ vertex q (λ e. absurd (omega arith)));
    cells = λ x up. refl;
    hanging = λ x j up. refl;
    hung = λ x j up. refl;
  }

  above-cell_removed : (cell : Place) (w : Working) → level ≤ cell.level → KeepsAbove level w (record w { cells = removed w.cells cell })
  above-cell_removed cell w low = record {
    vertices = λ q up. refl;
    cells = λ x up. at-removed w.cells cell x ∙ ap (λ t. if t then None else at w.cells x) (levels_differ cell x (λ e. absurd (omega arith)));
    hanging = λ x j up. refl;
    hung = λ x j up. refl;
  }

  -- below the level, a hanging vertex may come and go
  above-changed_corner : (cell : Place) (k : ℕ) (v : Option VertexRecord) (w : Working) → level < cell.level → KeepsAbove level w (record w { hanging = changed w.hanging k (cell.level ∷ cell.pos) v })
  above-changed_corner cell k v w low =
      let other : (x : Place) (j : ℕ) → x.level ≤ level → at_corner (changed w.hanging k (cell.level ∷ cell.pos) v) x j ≡ at_corner w.hanging x j = λ x j up.
      found-changed w.hanging k (cell.level ∷ cell.pos) v j (x.level ∷ x.pos) ∙ ap (λ t. if t then v else at_corner w.hanging x j) (key_apart k cell j x (λ e. absurd (omega arith))) in
      record { vertices = λ q up. refl; cells = λ x up. refl; hanging = λ x j up. other x j (omega (arith, up)); hung = λ x j up. ap is_some (other x j up) }

  module _ {Plan : Type 0} (set : Setting Plan) where
    -- # Each step, and the walk
    abbrev pub KeepsUp : Working → Course Working → Type 0
    KeepsUp = Keeps (KeepsAbove level) above-same above-then

    up-map : {R : Type 0} (w : Working) (core : Course R) (a : R → Working) → ((r : R) → KeepsAbove level w (a r)) → KeepsUp w (course_map a core)
    up-map w core a h = keeps-map (KeepsAbove level) above-same above-then w core a h

    up-then : (w : Working) (first : Course Working) (next : Working → Course Working) → KeepsUp w first → ((v : Working) → KeepsUp v (next v)) → KeepsUp w (and_then first next)
    up-then w first next h k = keeps-then (KeepsAbove level) above-same above-then w first next h k

    pub up-each : {A : Type 0} (step : A → Working → Course Working) (items : List A) → Each (λ a. (w : Working) → KeepsUp w (step a w)) items → (w : Working) → KeepsUp w (each step items w)
    up-each step items h w = keeps-each (KeepsAbove level) above-same above-then step items h w

    up-count : (cell : Place) (w : Working) → KeepsUp w (count_cell set cell w)
    up-count cell w = go (nat_lt set.max_cells (tally_cell cell w.tally).cells)
      where
        counted : Working
        counted = record w { tally = tally_cell cell w.tally }

        go : (b : Bool) → KeepsUp w (within_limit set cell counted b)
        go true = keeps-halts (KeepsAbove level) above-same above-then w (limit_at cell)
        go false = keeps-at_once (KeepsAbove level) above-same above-then w counted (record { vertices = λ q up. refl; cells = λ x up. refl; hanging = λ x k up. refl; hung = λ x k up. refl })

    module _ (parent cell : Place) (low : level ≤ parent.level) (deep : level < cell.level) where
      above-counted : (tally : Tally) (w : Working) → KeepsAbove level w (record w { tally = tally })
      above-counted tally w = record { vertices = λ q up. refl; cells = λ x up. refl; hanging = λ x k up. refl; hung = λ x k up. refl }

      above-put_vertex : (k : ℕ) (it : VertexRecord) (w : Working) → KeepsAbove level w (put_vertex (corner set.axes cell k) it w)
      above-put_vertex k it w = record {
        vertices = λ q up. at-put w.vertices (corner set.axes cell k) q it
            ∙ ap (λ t. if t then Some it else at w.vertices q) (levels_differ (corner set.axes cell k) q (λ e. absurd (omega arith)));
        cells = λ x up. refl;
        hanging = λ x j up. refl;
        hung = λ x j up. refl;
      }

      above-put_counting : (k : ℕ) (it : VertexRecord) (w : Working) → KeepsAbove level w (loaded_again (corner set.axes cell k) (put_vertex (corner set.axes cell k) it w))
      above-put_counting k it w = let put = above-put_vertex k it w in record { vertices = put.vertices; cells = put.cells; hanging = put.hanging; hung = put.hung }

      above-put_loaded : (kind : Kind) (k : ℕ) (it : VertexRecord) (w : Working) → KeepsAbove level w (put_loaded set kind cell k it w)
      above-put_loaded Hanging k it w = above-changed_corner cell k (Some it) w deep
      above-put_loaded Kept k it w = above-put_counting k it w
      above-put_loaded Born k it w = above-put_counting k it w
      above-put_loaded Dying k it w = above-put_counting k it w

      above-put_stored : (kind : Kind) (k : ℕ) (it : Option VertexRecord) (w : Working) → KeepsAbove level w (put_stored set kind cell k it w)
      above-put_stored Hanging k it w = above-changed_corner cell k None w deep
      above-put_stored Kept k None w = above-removed (corner set.axes cell k) w (omega arith)
      above-put_stored Kept k (Some it) w = above-put_vertex k it w
      above-put_stored Born k None w = above-removed (corner set.axes cell k) w (omega arith)
      above-put_stored Born k (Some it) w = above-put_vertex k it w
      above-put_stored Dying k None w = above-removed (corner set.axes cell k) w (omega arith)
      above-put_stored Dying k (Some it) w = above-put_vertex k it w

      above-put_left : (kind : Kind) (w : Working) → KeepsAbove level w (put_left set kind cell w)
      above-put_left Dying w = above-cell_removed cell w (omega arith)
      above-put_left Kept w = above-same w
      above-put_left Born w = above-same w
      above-put_left Hanging w = above-same w

      up-load : (k : ℕ) (w : Working) → KeepsUp w (load_corner set parent cell k w)
      up-load k w =
          let vertex = corner set.axes cell k in
          let kind = kind_of_vertex set w vertex in
          let first = loads_of w vertex == 0 in
          let counted : Working = record w { tally = tally_load kind first w.tally } in
          up-map w (load_touch set kind first (vertex_at w vertex) vertex (family_of set.axes w parent)) (λ it. after_load set kind first parent cell k it w)
          (λ it. above-then w (put_loaded set kind cell k it.0 counted) (after_load set kind first parent cell k it w)
          (above-then w counted (put_loaded set kind cell k it.0 counted) (above-counted (tally_load kind first w.tally) w) (above-put_loaded kind k it.0 counted))
          (above-put_family set.axes parent it.1 (put_loaded set kind cell k it.0 counted) low))

      up-store : (k : ℕ) (w : Working) → KeepsUp w (store_corner set parent cell k w)
      up-store k w =
          let vertex = corner set.axes cell k in
          let it = record_at set.axes w cell k in
          let last = loads_of w vertex == 2 ^ set.axes in
          let counted : Working = record w { tally = tally_store it.kind last w.tally } in
          up-map w (store_touch set last vertex it (family_of set.axes w parent)) (λ after. after_store set it.kind last parent cell k after w)
          (λ after. above-then w (put_stored set it.kind cell k after.0 counted) (after_store set it.kind last parent cell k after w)
          (above-then w counted (put_stored set it.kind cell k after.0 counted) (above-counted (tally_store it.kind last w.tally) w) (above-put_stored it.kind k after.0 counted))
          (above-put_family set.axes parent after.1 (put_stored set it.kind cell k after.0 counted) low))

      above-after_cell : (it : Own × Family) (w : Working) → KeepsAbove level w (after_cell set parent cell it w)
      above-after_cell it w =
          above-then w (put_own set.axes cell it.0 w) (after_cell set parent cell it w)
          (above-put_own set.axes cell it.0 w (omega arith)) (above-put_family set.axes parent it.1 (put_own set.axes cell it.0 w) low)

      up-enter : (w : Working) → KeepsUp w (enter_cell set parent cell w)
      up-enter w =
          up-map w (enter_touch set (kind_of_children set w parent) (cell_at w cell) cell (records_of set.axes w cell) (family_of set.axes w parent)) (λ it. after_cell set parent cell it w)
          (λ it. above-after_cell it w)

      up-leave : (w : Working) → KeepsUp w (leave_cell set parent cell w)
      up-leave w =
          let kind = kind_of_children set w parent in
          up-map w (leave_touch set kind cell (own_of set.axes w cell) (family_of set.axes w parent)) (λ it. put_left set kind cell (after_cell set parent cell it w))
          (λ it. above-then w (after_cell set parent cell it w) (put_left set kind cell (after_cell set parent cell it w)) (above-after_cell it w) (above-put_left kind (after_cell set parent cell it w)))

      up-around : (below : Working → Course Working) → ((w : Working) → KeepsUp w (below w)) → (w : Working) → KeepsUp w (around_below set below parent cell w)
      up-around below h w =
          up-then w (count_cell set cell w) _ (up-count cell w) (λ w.
          up-then w (each (load_corner set parent cell) (reverse (corner_numbers set)) w) _ (up-each (load_corner set parent cell) (reverse (corner_numbers set)) (Each-all _ up-load (reverse (corner_numbers set))) w) (λ w.
          up-then w (enter_cell set parent cell w) _ (up-enter w) (λ w.
          up-then w (below w) _ (h w) (λ w.
          up-then w (leave_cell set parent cell w) (each (store_corner set parent cell) (corner_numbers set)) (up-leave w)
          (up-each (store_corner set parent cell) (corner_numbers set) (Each-all _ up-store (corner_numbers set)))))))

    up-if_walked : (kind : Kind) (walks : Working → Course Working) → ((w : Working) → KeepsUp w (walks w)) → (w : Working) → KeepsUp w (if_walked set kind walks w)
    up-if_walked Kept walks h w = h w
    up-if_walked Born walks h w = h w
    up-if_walked Dying walks h w = h w
    up-if_walked Hanging walks h w = keeps-at_once (KeepsAbove level) above-same above-then w w (above-same w)

    -- the children of a cell are one level below it
    children_deeper : (cell : Place) → Each (λ child. child.level ≡ cell.level + 1) (children set.axes (way set) cell)
    children_deeper cell = Each-map (λ child. child.level ≡ cell.level + 1) (child_at cell) (child_digits set.axes (way set) (flips set.axes cell.pos)) (Each-all _ (λ digits. refl) _)

    -- The walk of a cell leaves all above its parent.
    pub walk_cell-keeps : (levels : ℕ) (parent cell : Place) → level ≤ parent.level → level < cell.level → (w : Working) → KeepsUp w (walk_cell set levels parent cell w)
    walk_cell-keeps zero parent cell low deep w = up-around parent cell low deep at_once (λ w. keeps-at_once (KeepsAbove level) above-same above-then w w (above-same w)) w
    walk_cell-keeps (suc levels) parent cell low deep w =
        up-around parent cell low deep _
        (λ w. up-if_walked (kind_of_children set w cell) (each (walk_cell set levels cell) (children set.axes (way set) cell))
        (up-each (walk_cell set levels cell) (children set.axes (way set) cell)
        (Each-weaker (λ child. child.level ≡ cell.level + 1) _ (λ child deeper w. walk_cell-keeps levels cell child (omega arith) (omega (arith, deeper)) w) (children set.axes (way set) cell) (children_deeper cell))) w) w
