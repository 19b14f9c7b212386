-- What putting back the records in hand changes in the working state, and what it leaves.
use Rattle.std.specs.List.{AllByRecursion as Each}
use Rattle.std.proofs.Common.{◌≡◌, ℕ, ◌^◌, ◌<◌, ◌≤◌, Bool, true, false, List, [], ◌∷◌, map, length, Some, refl, ap, ◌∙◌, arith}
use Rattle.std.specs.Prelude.{if◌then◌else◌, sum_by, count_by}
use Rattle.std.specs.Option.{unwrap_or}
use Rattle.std.proofs.lemmas.List.Sums.{sum_by-cons}
use Rattle.pe_base.specs.declared.place.Place.{Place}
use Rattle.pe_base.specs.Tree.Places.{corner, is_same}
use Rattle.pe_base.specs.Acts.Effects.{VertexRecord}
use Rattle.pe_base.specs.Walk.Maps.{at}
use Rattle.pe_base.specs.Walk.Core.{Family}
use Rattle.pe_base.specs.Walk.Working.{Working, cell_at, put_cell, put_records, family_of, put_family}
use Rattle.pe_base.proofs.Lists.{map_same}
use Rattle.pe_base.proofs.Steps.VertexTouches.{is_same_itself}
use Rattle.pe_base.proofs.Walk.MapLaws.{at-put}
use Rattle.pe_base.proofs.Walk.Slots.{Slot, stored, hangs, write, is_slot, slot_if, is_hung, write_all}
use Rattle.pe_base.proofs.Walk.Families.{slots, slots_from, put_records-is, hangs-put_records, beside-put_records, family_of-put_family, Each-slots}
use Rattle.pe_stacks.specs.Holdings.{Holdings, Stack}
use Rattle.pe_hang.specs.InHand.{map_stack, map_holdings}
use Rattle.pe_order.specs.Apart.{lies}
use Rattle.pe_order.proofs.Tokens.Apart.{one_if}

-- what the map of vertices has at a place after a slot was written
at-write : (s : Slot) (it : VertexRecord) (w : Working) (q : Place) → is_slot s (stored q) ≡ false → at (write s it w).vertices q ≡ at w.vertices q
at-write (stored p) it w q apart = at-put w.vertices p q it ∙ ap (λ b. if b then Some it else at w.vertices q) apart
at-write (hangs c k) it w q apart = refl

at-write_all : (ss : List Slot) (its : List VertexRecord) (w : Working) (q : Place) → Each (λ s. is_slot s (stored q) ≡ false) ss → at (write_all ss its w).vertices q ≡ at w.vertices q
at-write_all [] its w q apart = refl
at-write_all (s ∷ ss) [] w q apart = refl
at-write_all (s ∷ ss) (it ∷ its) w q apart = at-write_all ss its (write s it w) q apart.1 ∙ at-write s it w q apart.0

-- a place that is no corner of a cell which is stored there
abbrev pub IsOff : ℕ → Working → Place → Place → Type 0
IsOff axes w cell q = (k : ℕ) → k < 2 ^ axes → is_hung w cell k ≡ false → is_same (corner axes cell k) q ≡ false

slot_off : (axes : ℕ) (w : Working) (cell : Place) (q : Place) (k : ℕ) (b : Bool) → is_hung w cell k ≡ b → (b ≡ false → is_same (corner axes cell k) q ≡ false) → is_slot (slot_if axes b cell k) (stored q) ≡ false
slot_off axes w cell q k true e h = refl
slot_off axes w cell q k false e h = h refl

-- what putting records leaves
pub at-put_records : (axes : ℕ) (cell : Place) (its : List VertexRecord) (w : Working) (q : Place) → length its ≡ 2 ^ axes → IsOff axes w cell q
    → at (put_records axes cell its w).vertices q ≡ at w.vertices q
at-put_records axes cell its w q count off =
    ap (λ x. at x.vertices q) (put_records-is axes cell 0 its w ∙ ap (λ n. write_all (slots_from axes w cell 0 n) its w) count)
    ∙ at-write_all (slots axes w cell) its w q
    (Each-slots (λ s. is_slot s (stored q) ≡ false) axes w cell 0 (2 ^ axes) (λ k from to. slot_off axes w cell q k (is_hung w cell k) refl (λ e. off k (omega arith) e)))

-- After the family of a cell was put back: it is found so; other vertices, hanging vertices of other cells, other cells,
-- loads and the tally are as they were.
pub record AfterFamily (axes : ℕ) (parent : Place) (it : Family) (w after : Working) : Type 0 where
  pub family : family_of axes after parent ≡ it
  pub vertices : (q : Place) → IsOff axes w parent q → at after.vertices q ≡ at w.vertices q
  pub hung : (x : Place) (k : ℕ) → is_hung after x k ≡ is_hung w x k
  pub cells : (x : Place) → is_same parent x ≡ false → cell_at after x ≡ cell_at w x
  pub loads : after.loads ≡ w.loads
  pub tally : after.tally ≡ w.tally

pub after_family : (axes : ℕ) (parent : Place) (family : Family) (w : Working) → axes ≤ length parent.pos → length family.parents ≡ 2 ^ axes
    → AfterFamily axes parent family w (put_family axes parent family w)
after_family axes parent family w four count =
    let before = put_cell parent family.parent (record w { list = family.list }) in
    let beside = beside-put_records axes parent 0 family.parents before in
    record {
      family = family_of-put_family axes parent family w four count;
      vertices = λ q off. at-put_records axes parent family.parents before q count off;
      hung = hangs-put_records axes parent 0 family.parents before;
      cells = λ x apart. ap (λ cells. unwrap_or (at cells x) []) beside.cells
          ∙ ap (λ o. unwrap_or o []) (at-put w.cells parent x family.parent ∙ ap (λ b. if b then Some family.parent else at w.cells x) apart);
      loads = beside.loads;
      tally = beside.tally;
    }

-- what holds of all that lies on stacks
abbrev pub OnStacks : {X : Type 0} → (X → Type 0) → List (Stack X) → Type 0
OnStacks P stacks = Each (λ stack. Each P stack.items) stacks

pub on_items : (P : Place → Type 0) (xs : List Place) → ((x : Place) → 1 ≤ count_by (λ other. is_same other x) xs → P x) → Each P xs
on_items P [] h = tt
on_items P (y ∷ ys) h = (
  h y (omega (arith, sum_by-cons (λ other. one_if (is_same other y)) y ys, ap one_if (is_same_itself y))),
  on_items P ys (λ x more. h x (omega (arith, more, sum_by-cons (λ other. one_if (is_same other x)) y ys))),
)

on_stacks_from : (P : Place → Type 0) (stacks : List (Stack Place)) → ((x : Place) → 1 ≤ sum_by (λ stack. count_by (λ other. is_same other x) stack.items) stacks → P x) → OnStacks P stacks
on_stacks_from P [] h = tt
on_stacks_from P (stack ∷ stacks) h = (
  on_items P stack.items (λ x more. h x (omega (arith, more, sum_by-cons (λ stack. count_by (λ other. is_same other x) stack.items) stack stacks))),
  on_stacks_from P stacks (λ x more. h x (omega (arith, more, sum_by-cons (λ stack. count_by (λ other. is_same other x) stack.items) stack stacks))),
)

-- what holds of each place that lies somewhere
pub on_stacks : (P : Place → Type 0) (held : Holdings Place) → ((x : Place) → 1 ≤ lies held x → P x) → OnStacks P held.stacks
on_stacks P held h = on_stacks_from P held.stacks h

map-stacks : {X Y : Type 0} (f g : X → Y) (stacks : List (Stack X)) → OnStacks (λ x. f x ≡ g x) stacks → map (map_stack f) stacks ≡ map (map_stack g) stacks
map-stacks f g [] h = refl
map-stacks f g (s ∷ ss) h =
    ap (λ items. record { items = items; pushes = s.pushes; pops = s.pops } ∷ map (map_stack f) ss) (map_same f g s.items h.0) ∙ ap (λ ys. map_stack g s ∷ ys) (map-stacks f g ss h.1)

-- what is seen alike of all that lies on stacks makes the same stacks
pub map_holdings-same : {X Y : Type 0} (f g : X → Y) (held : Holdings X) → OnStacks (λ x. f x ≡ g x) held.stacks → map_holdings f held ≡ map_holdings g held
map_holdings-same f g held h = ap (λ stacks. record { stacks = stacks; fresh = held.fresh; spent = held.spent; out = held.out; most = held.most }) (map-stacks f g held.stacks h)
