-- What one event sees is read as it was written: the parent's corners and numbers, a cell with its corners.
use Rattle.std.proofs.Common.{◌≡◌, ℕ, ℤ, zero, suc, ◌+◌, ◌^◌, ◌<◌, ◌≤◌, ◌≢◌, Bool, true, false, ◌&&◌, List, [], ◌∷◌, map, length, Some, refl, sym, ap, subst, ◌∙◌, arith, if◌then◌else◌}
use Rattle.std.proofs.lemmas.Bool.{ne_eqb}
use Rattle.std.proofs.lemmas.List.FromFn.{length-map-range_with_len}
use Rattle.std.specs.Option.{unwrap_or}
use Rattle.std.specs.List.{range_with_len, AllByRecursion as Each}
use Rattle.pe_base.specs.declared.place.Place.{Place}
use Rattle.pe_base.specs.Tree.Places.{is_same}
use Rattle.pe_base.specs.Acts.Effects.{VertexRecord}
use Rattle.pe_base.specs.Walk.Maps.{at}
use Rattle.pe_base.specs.Walk.Core.{Family, Own}
use Rattle.pe_base.specs.Walk.Working.{Working, record_at, put_record, records_of, put_records_from, put_records, put_cell, cell_at, family_of, put_family, own_of, put_own}
use Rattle.pe_base.proofs.Lists.{map-map, map_same}
use Rattle.pe_base.proofs.Steps.VertexTouches.{is_same_itself}
use Rattle.pe_base.proofs.Walk.MapLaws.{at-put}
use Rattle.pe_base.proofs.Walk.Slots.{Slot, read, is_slot, slot_if, slot_of, is_hung, HangsSame, slot_of-same, hangs-write, put_record-is, record_at-is, write_all, SameBeside, beside-write_all, AreApart, read-write_all, read-write_all_other}
use Rattle.pe_base.proofs.Walk.CellCorners.{corners_apart}

-- the slots of a cell's corners, by their numbers
abbrev pub slots_from : ℕ → Working → Place → ℕ → ℕ → List Slot
slots_from axes w cell k n = map (slot_of axes w cell) (range_with_len k n)

abbrev pub slots : ℕ → Working → Place → List Slot
slots axes w cell = slots_from axes w cell 0 (2 ^ axes)

-- what holds of each number of a range
pub Each-range : (P : ℕ → Type 0) (a n : ℕ) → ((j : ℕ) → a ≤ j → j < a + n → P j) → Each P (range_with_len a n)
Each-range P a zero h = tt
Each-range P a (suc n) h = (h a (omega arith) (omega arith), Each-range P (a + 1) n (λ j from to. h j (omega arith) (omega arith)))

pub Each-slots : (P : Slot → Type 0) (axes : ℕ) (w : Working) (cell : Place) (a n : ℕ) → ((j : ℕ) → a ≤ j → j < a + n → P (slot_of axes w cell j)) → Each P (slots_from axes w cell a n)
Each-slots P axes w cell a zero h = tt
Each-slots P axes w cell a (suc n) h = (h a (omega arith) (omega arith), Each-slots P axes w cell (a + 1) n (λ j from to. h j (omega arith) (omega arith)))

-- two corners of a cell have two slots
two_slots : (axes : ℕ) (cell : Place) (k j : ℕ) (b c : Bool) → axes ≤ length cell.pos → k < 2 ^ axes → j < 2 ^ axes → k ≢ j → is_slot (slot_if axes b cell k) (slot_if axes c cell j) ≡ false
two_slots axes cell k j true true four hk hj other = ap (λ t. t && is_same cell cell) (ne_eqb k j other)
two_slots axes cell k j true false four hk hj other = refl
two_slots axes cell k j false true four hk hj other = refl
two_slots axes cell k j false false four hk hj other = corners_apart axes cell k j four hk hj other

slots_apart_from : (axes : ℕ) (w : Working) (cell : Place) (a n : ℕ) → axes ≤ length cell.pos → a + n ≤ 2 ^ axes → AreApart (slots_from axes w cell a n)
slots_apart_from axes w cell a zero four fits = tt
slots_apart_from axes w cell a (suc n) four fits = (
  Each-slots (λ s. is_slot s (slot_of axes w cell a) ≡ false) axes w cell (a + 1) n
      (λ j from to. two_slots axes cell j a (is_hung w cell j) (is_hung w cell a) four (omega arith) (omega arith) (λ e. absurd (omega arith))),
  slots_apart_from axes w cell (a + 1) n four (omega arith),
)

-- all corners of a cell have different slots
pub slots_apart : (axes : ℕ) (w : Working) (cell : Place) → axes ≤ length cell.pos → AreApart (slots axes w cell)
slots_apart axes w cell four = slots_apart_from axes w cell 0 (2 ^ axes) four (omega arith)

hangs-then : (a b c : Working) → HangsSame a b → HangsSame b c → HangsSame a c
hangs-then a b c h k cell j = k cell j ∙ h cell j

hangs-put_record : (axes : ℕ) (cell : Place) (k : ℕ) (it : VertexRecord) (w : Working) → HangsSame w (put_record axes cell k it w)
hangs-put_record axes cell k it w = subst (HangsSame w) (sym (put_record-is axes cell k it w)) (hangs-write axes (is_hung w cell k) w cell k it refl)

-- to put records is to write their slots
pub put_records-is : (axes : ℕ) (cell : Place) (k : ℕ) (its : List VertexRecord) (w : Working)
    → put_records_from axes cell k its w ≡ write_all (slots_from axes w cell k (length its)) its w
put_records-is axes cell k [] w = refl
put_records-is axes cell k (it ∷ its) w =
    put_records-is axes cell (k + 1) its (put_record axes cell k it w)
    ∙ ap (λ ss. write_all ss its (put_record axes cell k it w))
    (map_same (slot_of axes (put_record axes cell k it w) cell) (slot_of axes w cell) (range_with_len (k + 1) (length its))
    (Each-range (λ j. slot_of axes (put_record axes cell k it w) cell j ≡ slot_of axes w cell j) (k + 1) (length its)
    (λ j from to. slot_of-same axes w (put_record axes cell k it w) cell j (hangs-put_record axes cell k it w))))
    ∙ ap (write_all (slots_from axes w cell (k + 1) (length its)) its) (put_record-is axes cell k it w)

-- no hanging vertex comes or goes
pub hangs-put_records : (axes : ℕ) (cell : Place) (k : ℕ) (its : List VertexRecord) (w : Working) → HangsSame w (put_records_from axes cell k its w)
hangs-put_records axes cell k [] w = λ c j. refl
hangs-put_records axes cell k (it ∷ its) w =
    hangs-then w (put_record axes cell k it w) (put_records_from axes cell (k + 1) its (put_record axes cell k it w))
    (hangs-put_record axes cell k it w) (hangs-put_records axes cell (k + 1) its (put_record axes cell k it w))

-- and nothing but records changes
pub beside-put_records : (axes : ℕ) (cell : Place) (k : ℕ) (its : List VertexRecord) (w : Working) → SameBeside w (put_records_from axes cell k its w)
beside-put_records axes cell k its w = subst (SameBeside w) (sym (put_records-is axes cell k its w)) (beside-write_all (slots_from axes w cell k (length its)) its w)

-- to find all corners is to read their slots
pub records_of-is : (axes : ℕ) (w : Working) (cell : Place) → records_of axes w cell ≡ map (read w) (slots axes w cell)
records_of-is axes w cell =
    map_same (record_at axes w cell) (λ k. read w (slot_of axes w cell k)) (range_with_len 0 (2 ^ axes))
    (Each-range (λ k. record_at axes w cell k ≡ read w (slot_of axes w cell k)) 0 (2 ^ axes) (λ k from to. record_at-is axes w cell k))
    ∙ sym (map-map (read w) (slot_of axes w cell) (range_with_len 0 (2 ^ axes)))

-- the corners that were put are found
pub records_of-put_records : (axes : ℕ) (cell : Place) (its : List VertexRecord) (w : Working) → axes ≤ length cell.pos → length its ≡ 2 ^ axes
    → records_of axes (put_records axes cell its w) cell ≡ its
records_of-put_records axes cell its w four count =
    let after = put_records axes cell its w in
    records_of-is axes after cell
    ∙ ap (map (read after)) (map_same (slot_of axes after cell) (slot_of axes w cell) (range_with_len 0 (2 ^ axes))
    (Each-range (λ j. slot_of axes after cell j ≡ slot_of axes w cell j) 0 (2 ^ axes) (λ j from to. slot_of-same axes w after cell j (hangs-put_records axes cell 0 its w))))
    ∙ ap (λ x. map (read x) (slots axes w cell)) (put_records-is axes cell 0 its w ∙ ap (λ n. write_all (slots_from axes w cell 0 n) its w) count)
    ∙ read-write_all (slots axes w cell) its w (slots_apart axes w cell four) (count ∙ sym (length-map-range_with_len (slot_of axes w cell) 0 (2 ^ axes)))

-- other slots are as they were
pub read-put_records : (axes : ℕ) (cell : Place) (its : List VertexRecord) (w : Working) (s : Slot) → length its ≡ 2 ^ axes
    → Each (λ other. is_slot other s ≡ false) (slots axes w cell) → read (put_records axes cell its w) s ≡ read w s
read-put_records axes cell its w s count apart =
    ap (λ x. read x s) (put_records-is axes cell 0 its w ∙ ap (λ n. write_all (slots_from axes w cell 0 n) its w) count)
    ∙ read-write_all_other (slots axes w cell) its w s apart

cell_at-put_cell : (cell : Place) (numbers : List ℤ) (w : Working) → cell_at (put_cell cell numbers w) cell ≡ numbers
cell_at-put_cell cell numbers w = ap (λ o. unwrap_or o []) (at-put w.cells cell cell numbers ∙ ap (λ b. if b then Some numbers else at w.cells cell) (is_same_itself cell))

-- What the events of a cell's corners see beside them is found as it was put.
pub family_of-put_family : (axes : ℕ) (parent : Place) (family : Family) (w : Working) → axes ≤ length parent.pos → length family.parents ≡ 2 ^ axes
    → family_of axes (put_family axes parent family w) parent ≡ family
family_of-put_family axes parent family w four count =
    let before = put_cell parent family.parent (record w { list = family.list }) in
    let beside = beside-put_records axes parent 0 family.parents before in
    let parents = records_of-put_records axes parent family.parents before four count in
    let cell = ap (λ cells. unwrap_or (at cells parent) []) beside.cells ∙ cell_at-put_cell parent family.parent (record w { list = family.list }) in
    λ i. record { parents = parents i; parent = cell i; list = beside.list i }

-- and so are a cell and its corners
pub own_of-put_own : (axes : ℕ) (cell : Place) (own : Own) (w : Working) → axes ≤ length cell.pos → length own.corners ≡ 2 ^ axes
    → own_of axes (put_own axes cell own w) cell ≡ own
own_of-put_own axes cell own w four count =
    let before = put_cell cell own.cell w in
    let beside = beside-put_records axes cell 0 own.corners before in
    let corners = records_of-put_records axes cell own.corners before four count in
    let numbers = ap (λ cells. unwrap_or (at cells cell) []) beside.cells ∙ cell_at-put_cell cell own.cell w in
    λ i. record { cell = numbers i; corners = corners i }
