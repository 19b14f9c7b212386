-- What is put back at a cell changes nothing at cells and vertices of other levels.
use Rattle.std.proofs.Common.{◌≡◌, ℕ, ℤ, ◌^◌, ◌≢◌, Bool, true, false, ◌&&◌, ◌==◌, List, [], ◌∷◌, map, length, Some, refl, sym, ap, ◌∙◌}
use Rattle.std.specs.Prelude.{nat_eq, if◌then◌else◌}
use Rattle.std.specs.Option.{unwrap_or}
use Rattle.std.specs.List.{range_with_len, AllByRecursion as Each}
use Rattle.std.specs.Cmp.Lexicographic.{pointwise}
use Rattle.std.proofs.lemmas.Bool.{ne_eqb}
use Rattle.std.proofs.Math.Bool.{and-false}
use Rattle.pe_base.specs.declared.place.Place.{Place}
use Rattle.pe_base.specs.Tree.Places.{corner, is_same}
use Rattle.pe_base.specs.Acts.Effects.{VertexRecord}
use Rattle.pe_base.specs.Walk.Maps.{at}
use Rattle.pe_base.specs.Walk.Core.{Family}
use Rattle.pe_base.specs.Walk.Working.{Working, cell_at, put_cell, record_at, records_of, put_records, put_family, own_of}
use Rattle.pe_base.proofs.Lists.{map_same, Each-all}
use Rattle.pe_base.proofs.Walk.MapLaws.{at-put}
use Rattle.pe_base.proofs.Walk.Slots.{read, is_slot, slot_if, slot_of, is_hung, slot_of-same, record_at-is}
use Rattle.pe_base.proofs.Walk.Families.{read-put_records, hangs-put_records, beside-put_records}
pub use Rattle.pe_base.proofs.Walk.Frames.{levels_differ}
use Rattle.pe_walk.proofs.Simulation.Putting.{at-put_records}

-- corners of cells of two levels have two slots
slots_apart : (axes : ℕ) (cell x : Place) (j k : ℕ) (b c : Bool) → cell.level ≢ x.level → is_slot (slot_if axes b cell j) (slot_if axes c x k) ≡ false
slots_apart axes cell x j k true true other =
    ap (λ t. j == k && (t && pointwise nat_eq cell.pos x.pos)) (ne_eqb cell.level x.level other) ∙ and-false (j == k)
slots_apart axes cell x j k true false other = refl
slots_apart axes cell x j k false true other = refl
slots_apart axes cell x j k false false other = levels_differ (corner axes cell j) (corner axes x k) other

slots_off : (axes : ℕ) (w : Working) (cell x : Place) (k : ℕ) (c : Bool) (ns : List ℕ) → cell.level ≢ x.level → Each (λ s. is_slot s (slot_if axes c x k) ≡ false) (map (slot_of axes w cell) ns)
slots_off axes w cell x k c [] other = tt
slots_off axes w cell x k c (j ∷ ns) other = (slots_apart axes cell x j k (is_hung w cell j) c other, slots_off axes w cell x k c ns other)

module _ (axes : ℕ) (cell : Place) (its : List VertexRecord) (w : Working) (count : length its ≡ 2 ^ axes) where
  -- the corners of a cell of another level
  pub record_at-other : (x : Place) (k : ℕ) → cell.level ≢ x.level → record_at axes (put_records axes cell its w) x k ≡ record_at axes w x k
  record_at-other x k other =
      let after = put_records axes cell its w in
      record_at-is axes after x k
      ∙ ap (read after) (slot_of-same axes w after x k (hangs-put_records axes cell 0 its w))
      ∙ read-put_records axes cell its w (slot_of axes w x k) count (slots_off axes w cell x k (is_hung w x k) (range_with_len 0 (2 ^ axes)) other)
      ∙ sym (record_at-is axes w x k)

  -- a vertex of another level
  pub at-other : (q : Place) → cell.level ≢ q.level → at (put_records axes cell its w).vertices q ≡ at w.vertices q
  at-other q other = at-put_records axes cell its w q count (λ k small free. levels_differ (corner axes cell k) q other)

-- what is found of a cell after the numbers of another were put
pub cell_at-other : (cell x : Place) (numbers : List ℤ) (w : Working) → is_same cell x ≡ false → cell_at (put_cell cell numbers w) x ≡ cell_at w x
cell_at-other cell x numbers w apart = ap (λ o. unwrap_or o []) (at-put w.cells cell x numbers ∙ ap (λ b. if b then Some numbers else at w.cells x) apart)

-- a family put back
module _ (axes : ℕ) (parent : Place) (family : Family) (w : Working) (count : length family.parents ≡ 2 ^ axes) where
  abbrev bare : Working
  bare = put_cell parent family.parent (record w { list = family.list })

  pub record_at-put_family : (x : Place) (k : ℕ) → parent.level ≢ x.level → record_at axes (put_family axes parent family w) x k ≡ record_at axes w x k
  record_at-put_family x k other = record_at-other axes parent family.parents bare count x k other

  pub records_of-put_family : (x : Place) → parent.level ≢ x.level → records_of axes (put_family axes parent family w) x ≡ records_of axes w x
  records_of-put_family x other =
      map_same (record_at axes (put_family axes parent family w) x) (record_at axes w x) (range_with_len 0 (2 ^ axes))
      (Each-all (λ k. record_at axes (put_family axes parent family w) x k ≡ record_at axes w x k) (λ k. record_at-put_family x k other) (range_with_len 0 (2 ^ axes)))

  pub at-put_family : (q : Place) → parent.level ≢ q.level → at (put_family axes parent family w).vertices q ≡ at w.vertices q
  at-put_family q other = at-other axes parent family.parents bare count q other

  pub cell_at-put_family : (x : Place) → is_same parent x ≡ false → cell_at (put_family axes parent family w) x ≡ cell_at w x
  cell_at-put_family x apart =
      ap (λ cells. unwrap_or (at cells x) []) (beside-put_records axes parent 0 family.parents bare).cells
      ∙ cell_at-other parent x family.parent (record w { list = family.list }) apart

  -- a cell of another level is found with its corners as before
  pub own_of-put_family : (x : Place) → parent.level ≢ x.level → own_of axes (put_family axes parent family w) x ≡ own_of axes w x
  own_of-put_family x other =
      let cell = cell_at-put_family x (levels_differ parent x other) in
      let corners = records_of-put_family x other in
      λ i. record { cell = cell i; corners = corners i }
