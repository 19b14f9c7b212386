-- What the loads and the stores of corners share: calls on images of stacks, what stands apart, what putting back the
-- family of the parent leaves, and counts.
use Rattle.std.proofs.Common.{◌≡◌, ◌⊎◌, ℕ, zero, suc, ◌+◌, ◌*◌, ◌^◌, ◌<◌, ◌≤◌, ◌≢◌, Bool, true, false, not, ◌&&◌, ◌==◌, List, [], ◌∷◌, map, length, get_or, Option, Some, None, refl, sym, ap, ap₂, subst, ◌∙◌, inl, inr, arith}
use Rattle.std.specs.Prelude.{nat_lt, is_some, if◌then◌else◌, sum_by, count_by}
use Rattle.std.specs.Option.{unwrap_or}
use Rattle.std.specs.List.{range_with_len, AllByRecursion}
use Rattle.std.proofs.lemmas.Bool.{lt-ltb, and_from}
use Rattle.std.proofs.lemmas.List.FromFn.{length-map-range_with_len}
use Rattle.std.proofs.lemmas.List.Sums.{sum_by-cons}
use Rattle.pe_base.specs.declared.place.Place.{Place}
use Rattle.pe_base.specs.declared.tally.Tally.{Tally}
use Rattle.pe_base.specs.Tree.Places.{corner, is_same}
use Rattle.pe_base.specs.Acts.Effects.{VertexRecord}
use Rattle.pe_base.specs.Walk.Maps.{at}
use Rattle.pe_base.specs.Walk.Course.{done, at_once, allowed}
use Rattle.pe_base.specs.Walk.Core.{Setting, Family}
use Rattle.pe_base.specs.Walk.Working.{Working, no_vertex, cell_at, put_cell, record_at, records_of, family_of, put_family}
use Rattle.pe_base.proofs.Walk.MapLaws.{at-put}
use Rattle.pe_base.proofs.Walk.Slots.{Slot, stored, hangs, write, is_hung, write_all}
use Rattle.pe_base.proofs.Walk.Families.{slots_from, put_records-is, beside-put_records}
use Rattle.pe_base.proofs.Tree.Ranks.{same_places}
use Rattle.pe_base.specs.Steps.Faces.{stack_of}
use Rattle.pe_base.specs.Steps.Stacks.{AcrossNone, AcrossOne}
use Rattle.pe_stacks.specs.Grid.{output_stack}
use Rattle.pe_stacks.specs.Holdings.{Holdings, Stack, new_stack, stack_count, stack_at, items_at, len_at, lent, given_up, pushed, popped}
use Rattle.pe_hang.specs.InHand.{map_holdings}
use Rattle.pe_hang.specs.Moves.{may_rise, lend, give_up, top_of, pop, push}
use Rattle.pe_hang.proofs.OnStacks.{stack_count-map, stack_at-map, len_at-map, pushed-map, popped-map}
use Rattle.pe_order.specs.Tokens.{Outlook, Tokens}
use Rattle.pe_order.specs.Apart.{IsApart, lies}
use Rattle.pe_order.specs.Traffic.{OnlyCounting}
use Rattle.pe_walk.specs.CoreKeeps.{IsAlike, AreAlike}
use Rattle.pe_walk.specs.Standing.{Foresight, ForeseenStart, Stage, IsFair, IsIdle, Owes, times}
use Rattle.pe_order.proofs.Tokens.Apart.{one_if}
use Rattle.pe_walk.proofs.Simulation.CoreLaws.{length-alike}
use Rattle.pe_walk.proofs.Simulation.LoadedKinds.{found_stored}
use Rattle.pe_walk.proofs.Simulation.Levels.{record_at-put_family, at-put_family}
use Rattle.pe_walk.proofs.Simulation.Leaves.{record_of}
use Rattle.pe_walk.proofs.Simulation.Putting.{IsOff, AfterFamily, after_family, on_stacks, map_holdings-same}

-- # Calls on images of stacks
module _ {X Y : Type 0} (f : X → Y) where
  -- a record is lent, and given up
  pub lend-image : (held : Holdings X) → held.fresh < 2 ^ 63 → lend (map_holdings f held) ≡ at_once (map_holdings f (lent held))
  lend-image held few = ap (λ b. allowed b (at_once (lent (map_holdings f held)))) (lt-ltb held.fresh (2 ^ 63) few)

  pub give_up-image : (held : Holdings X) → 0 < held.out → give_up (map_holdings f held) ≡ at_once (map_holdings f (given_up held))
  give_up-image held some = ap (λ b. allowed b (at_once (given_up (map_holdings f held)))) (lt-ltb 0 held.out some)

  -- the top of a stack is popped
  pub pop-image : (held : Holdings X) (s : ℕ) (x : X) (xs : List X) → items_at held s ≡ x ∷ xs → s < stack_count held → (stack_at held s).pops < 2 ^ 63
      → pop s (map_holdings f held) ≡ at_once (f x, map_holdings f (popped held s))
  pop-image held s x xs top there few =
      let image = map_holdings f held in
      ap (λ b. allowed b (top_of (items_at image s) (popped image s)))
      (and_from (nat_lt s (stack_count image)) (may_rise (stack_at image s).pops)
      (lt-ltb s (stack_count image) (omega (arith, there, stack_count-map f held)))
      (lt-ltb (stack_at image s).pops (2 ^ 63) (omega (arith, few, ap (λ (stack : Stack Y). stack.pops) (stack_at-map f held s)))))
      ∙ ap (λ items. top_of items (popped image s)) (ap (λ (stack : Stack Y). stack.items) (stack_at-map f held s) ∙ ap (map f) top)
      ∙ ap (λ after. at_once (f x, after)) (sym (popped-map f held s))

  -- a record is pushed
  pub push-image : (of_cell : Bool) (held : Holdings X) (s : ℕ) (x : X) → s < stack_count held → (stack_at held s).pushes < 2 ^ 63 → 0 < held.out
      → push of_cell s (f x) (map_holdings f held)
      ≡ record { text = []; log = record { of_cell = of_cell; stack = s; length = len_at held s + 1 } ∷ []; ending = done (map_holdings f (pushed held s x)) }
  push-image of_cell held s x there few some =
      let image = map_holdings f held in
      ap (λ b. allowed b (record { text = []; log = record { of_cell = of_cell; stack = s; length = len_at image s + 1 } ∷ []; ending = done (pushed image s (f x)) }))
      (and_from (nat_lt s (stack_count image) && may_rise (stack_at image s).pushes) (nat_lt 0 held.out)
      (and_from (nat_lt s (stack_count image)) (may_rise (stack_at image s).pushes)
      (lt-ltb s (stack_count image) (omega (arith, there, stack_count-map f held)))
      (lt-ltb (stack_at image s).pushes (2 ^ 63) (omega (arith, few, ap (λ (stack : Stack Y). stack.pushes) (stack_at-map f held s)))))
      (lt-ltb 0 held.out some))
      ∙ ap₂ (λ n after. record { text = []; log = record { of_cell = of_cell; stack = s; length = n + 1 } ∷ []; ending = done after }) (len_at-map f held s) (sym (pushed-map f held s x))

-- # What lies on stacks
-- a place is on a stack no more often than on all
pub on_one : (held : Holdings Place) (s : ℕ) (x : Place) → times (items_at held s) x ≤ lies held x
on_one held s x = go held.stacks s
  where
    go : (stacks : List (Stack Place)) (s : ℕ) → times (get_or stacks s new_stack).items x ≤ sum_by (λ stack. count_by (λ other. is_same other x) stack.items) stacks
    go [] s = omega arith
    go (stack ∷ stacks) zero = omega (arith, sum_by-cons (λ stack. count_by (λ other. is_same other x) stack.items) stack stacks)
    go (stack ∷ stacks) (suc s) = omega (arith, go stacks s, sum_by-cons (λ stack. count_by (λ other. is_same other x) stack.items) stack stacks)

-- what holds of each item holds of a place that is among them
among : (P : Place → Type 0) (xs : List Place) (x : Place) → AllByRecursion P xs → 1 ≤ times xs x → P x
among P [] x all some = absurd (omega arith)
among P (y ∷ ys) x all some = go (is_same y x) refl (λ more. among P ys x all.1 more)
  where
    go : (b : Bool) → is_same y x ≡ b → (1 ≤ times ys x → P x) → P x
    go true e rest = subst P (same_places y x e) all.0
    go false e rest = rest (omega (arith, some, sum_by-cons (λ other. one_if (is_same other x)) y ys, ap one_if e))

-- what lies somewhere lies on one stack
somewhere : (stacks : List (Stack Place)) (x : Place) → 1 ≤ sum_by (λ stack. count_by (λ other. is_same other x) stack.items) stacks
    → (s : ℕ) × (1 ≤ times (get_or stacks s new_stack).items x)
somewhere [] x some = absurd (omega arith)
somewhere (stack ∷ stacks) x some = go (times stack.items x) refl (λ more. somewhere stacks x more)
  where
    go : (n : ℕ) → times stack.items x ≡ n → (1 ≤ sum_by (λ stack. count_by (λ other. is_same other x) stack.items) stacks → (s : ℕ) × (1 ≤ times (get_or stacks s new_stack).items x))
        → (s : ℕ) × (1 ≤ times (get_or (stack ∷ stacks) s new_stack).items x)
    go zero e rest = let found = rest (omega (arith, some, e, sum_by-cons (λ stack. count_by (λ other. is_same other x) stack.items) stack stacks)) in (suc found.0, found.1)
    go (suc n) e rest = (0, omega (arith, e))

-- all that lies on stacks counts
pub lies_counts : (o : Outlook) (t : Tokens) → OnlyCounting o t → (x : Place) → 1 ≤ lies t.vertices x → o.counts x ≡ true
lies_counts o t counting x some = let found = somewhere t.vertices.stacks x some in among (λ place. o.counts place ≡ true) (items_at t.vertices found.0) x (counting found.0) found.1

-- and is not held
pub lies_unheld : (o : Outlook) (t : Tokens) → IsApart o t → OnlyCounting o t → (x : Place) → 1 ≤ lies t.vertices x → t.held x ≡ 0
lies_unheld o t apart counting x some = omega (arith, some, apart.once x (lies_counts o t counting x some))

-- what is seen alike of all that lies on stacks of vertices, and of cells, makes the same image
pub cells-image : (w w' : Working) (held : Holdings Place) → ((x : Place) → 1 ≤ lies held x → at w'.cells x ≡ at w.cells x) → map_holdings (cell_at w') held ≡ map_holdings (cell_at w) held
cells-image w w' held same = map_holdings-same (cell_at w') (cell_at w) held (on_stacks (λ x. cell_at w' x ≡ cell_at w x) held (λ x some. ap (λ found. unwrap_or found []) (same x some)))

pub vertices-image : {Plan : Type 0} (set : Setting Plan) (e : ForeseenStart) (w w' : Working) (t t' : Tokens) (held : Holdings Place)
    → ((x : Place) → 1 ≤ lies held x → (at w'.vertices x ≡ at w.vertices x) × (t'.met x ≡ t.met x))
    → map_holdings (record_of set e w' t') held ≡ map_holdings (record_of set e w t) held
vertices-image set e w w' t t' held same =
    map_holdings-same (record_of set e w' t') (record_of set e w t) held
    (on_stacks (λ x. record_of set e w' t' x ≡ record_of set e w t x) held
    (λ x some. let k = same x some in ap₂ (λ (n : ℕ) (found : Option VertexRecord). let it : VertexRecord = unwrap_or found no_vertex in if n == 0 then (record it { kind = e.stale x }) else it) k.1 k.0))

-- the stack on which a corner waits between two cells is not the output
pub across_apart : (axes : ℕ) (vertex cell : Place) (stack : Option ℕ) (follows : Place → Bool) (swapped : Bool) → axes ≤ 4 → AcrossNone stack follows ⊎ AcrossOne axes vertex cell stack follows
    → (s : ℕ) → stack ≡ Some s → s ≢ output_stack swapped
across_apart axes vertex cell stack follows swapped four (inl none) s e out = absurd (let no = none.no_stack in cc)
across_apart axes vertex cell stack follows swapped four (inr one) s e out =
    let at : Some (stack_of one.face cell) ≡ Some s = sym one.its_stack ∙ e in
    let is : stack_of one.face cell ≡ s = cc in
    omega (arith, is, one.is_face.0, four, far swapped, out)
  where
    far : (b : Bool) → 8 ≤ output_stack b
    far true = omega arith
    far false = omega arith

-- # After the family of the parent was put back
-- a place that is not held is no corner of the parent that is stored
pub off_parent : (axes : ℕ) (o : Outlook) (t : Tokens) (w : Working) (parent : Place)
    → ((k : ℕ) → k < 2 ^ axes → o.counts (corner axes parent k) ≡ true → 1 ≤ t.held (corner axes parent k))
    → ((k : ℕ) → k < 2 ^ axes → is_hung w parent k ≡ not (o.counts (corner axes parent k)))
    → (q : Place) → t.held q ≡ 0 → IsOff axes w parent q
off_parent axes o t w parent held flags q none k small free = go (is_same (corner axes parent k) q) refl
  where
    counts : (b : Bool) → not b ≡ false → b ≡ true
    counts true e = refl
    counts false e = absurd cc

    go : (b : Bool) → is_same (corner axes parent k) q ≡ b → b ≡ false
    go true e =
        let some : 1 ≤ t.held (corner axes parent k) = held k small (counts (o.counts (corner axes parent k)) (sym (flags k small) ∙ free)) in
        absurd (omega (arith, some, none, ap t.held (same_places (corner axes parent k) q e)))
    go false e = refl

-- the numbers of other cells are as they were
pub cells-put_family : (axes : ℕ) (parent : Place) (family : Family) (w : Working) (x : Place)
    → at (put_family axes parent family w).cells x ≡ (if is_same parent x then Some family.parent else at w.cells x)
cells-put_family axes parent family w x =
    ap (λ cells. at cells x) (beside-put_records axes parent 0 family.parents (put_cell parent family.parent (record w { list = family.list }))).cells
    ∙ at-put w.cells parent x family.parent

-- a vertex that is there is there still
there-write : (s : Slot) (it : VertexRecord) (w : Working) (q : Place) → is_some (at w.vertices q) ≡ true → is_some (at (write s it w).vertices q) ≡ true
there-write (stored p) it w q some = ap is_some (at-put w.vertices p q it) ∙ go (is_same p q)
  where
    go : (b : Bool) → is_some (if b then Some it else at w.vertices q) ≡ true
    go true = refl
    go false = some
there-write (hangs c k) it w q some = some

there-write_all : (ss : List Slot) (its : List VertexRecord) (w : Working) (q : Place) → is_some (at w.vertices q) ≡ true → is_some (at (write_all ss its w).vertices q) ≡ true
there-write_all [] its w q some = some
there-write_all (s ∷ ss) [] w q some = some
there-write_all (s ∷ ss) (it ∷ its) w q some = there-write_all ss its (write s it w) q (there-write s it w q some)

pub there-put_family : (axes : ℕ) (parent : Place) (family : Family) (w : Working) (q : Place) → is_some (at w.vertices q) ≡ true → is_some (at (put_family axes parent family w).vertices q) ≡ true
there-put_family axes parent family w q some =
    let before = put_cell parent family.parent (record w { list = family.list }) in
    subst (λ (x : Working). is_some (at x.vertices q) ≡ true) (sym (put_records-is axes parent 0 family.parents before))
    (there-write_all (slots_from axes before parent 0 (length family.parents)) family.parents before q some)

-- records that are alike one by one
alike_among : (greatest level : ℕ) (f g : ℕ → VertexRecord) (a n k : ℕ) → AreAlike greatest level (map f (range_with_len a n)) (map g (range_with_len a n)) → k < n → IsAlike greatest level (f (a + k)) (g (a + k))
alike_among greatest level f g a zero k all small = absurd (omega arith)
alike_among greatest level f g a (suc n) zero all small = subst (λ j. IsAlike greatest level (f j) (g j)) (let e : a ≡ a + 0 = omega arith in e) all.0
alike_among greatest level f g a (suc n) (suc k) all small =
    subst (λ j. IsAlike greatest level (f j) (g j)) (let e : a + 1 + k ≡ a + suc k = omega arith in e) (alike_among greatest level f g (a + 1) n k all.1 (omega arith))

pub corner_alike : (greatest level axes : ℕ) (w w' : Working) (cell : Place) (k : ℕ) → AreAlike greatest level (records_of axes w cell) (records_of axes w' cell) → k < 2 ^ axes
    → IsAlike greatest level (record_at axes w cell k) (record_at axes w' cell k)
corner_alike greatest level axes w w' cell k all small =
    subst (λ j. IsAlike greatest level (record_at axes w cell j) (record_at axes w' cell j)) (let e : 0 + k ≡ k = omega arith in e)
    (alike_among greatest level (record_at axes w cell) (record_at axes w' cell) 0 (2 ^ axes) k all small)

-- what is alike hangs alike, and is as foreseen alike
pub idle-alike : (greatest level : ℕ) (before after : VertexRecord) → IsAlike greatest level before after → IsIdle before → IsIdle after
idle-alike greatest level before after alike idle = record { kind = alike.kind ∙ idle.kind; old = alike.old ∙ idle.old; new = alike.new ∙ idle.new }

pub fair-alike : (f : Foresight) (greatest : ℕ) (vertex : Place) (found : Option VertexRecord) (it : IsFair f greatest vertex found) (after : VertexRecord)
    → IsAlike greatest vertex.level it.it after → IsFair f greatest vertex (Some after)
fair-alike f greatest vertex found it after alike = record {
  it = after;
  there = refl;
  kind = alike.kind ∙ it.kind;
  old = alike.old ∙ it.old;
  new = alike.new ∙ it.new;
  finest = alike.finest it.finest;
}

-- one of the first corners of a cell is a place, or none is
which_corner : (axes : ℕ) (cell q : Place) (n : ℕ) → ((k : ℕ) × (k < n) × (is_same (corner axes cell k) q ≡ true)) ⊎ ((k : ℕ) → k < n → is_same (corner axes cell k) q ≡ false)
which_corner axes cell q zero = inr (λ k small. absurd (omega arith))
which_corner axes cell q (suc n) = go (is_same (corner axes cell n) q) refl (which_corner axes cell q n)
  where
    go : (b : Bool) → is_same (corner axes cell n) q ≡ b
        → ((k : ℕ) × (k < n) × (is_same (corner axes cell k) q ≡ true)) ⊎ ((k : ℕ) → k < n → is_same (corner axes cell k) q ≡ false)
        → ((k : ℕ) × (k < suc n) × (is_same (corner axes cell k) q ≡ true)) ⊎ ((k : ℕ) → k < suc n → is_same (corner axes cell k) q ≡ false)
    go true e others = inl (n, omega arith, e)
    go false e (inl found) = inl (found.0, omega (arith, found.1), found.2)
    go false e (inr none) = inr (λ k small. elim (last k small) [ inl h ↦ none k h | inr same ↦ subst (λ j. is_same (corner axes cell j) q ≡ false) (sym same) e ])
      where
        last : (k : ℕ) → k < suc n → (k < n) ⊎ (k ≡ n)
        last k small = grind arith

-- a family that a core left alike is put back into a working state that has the corners of the parent as they were
pub record PutsBack (axes greatest : ℕ) (o : Outlook) (parent : Place) (family : Family) (w before : Working) (t : Tokens) : Type 0 where
  pub four : axes ≤ length parent.pos
  pub alike : AreAlike greatest parent.level (records_of axes w parent) family.parents
  pub held : (k : ℕ) → k < 2 ^ axes → o.counts (corner axes parent k) ≡ true → 1 ≤ t.held (corner axes parent k)
  pub flags : (k : ℕ) → k < 2 ^ axes → is_hung w parent k ≡ not (o.counts (corner axes parent k))
  pub hung : (k : ℕ) → is_hung before parent k ≡ is_hung w parent k
  pub vertices : (k : ℕ) → at before.vertices (corner axes parent k) ≡ at w.vertices (corner axes parent k)

-- Then vertices that are not held, or of other levels, corners of cells of other levels, other cells' numbers, loads and the
-- tally are as in that state; and what is as foreseen stays so.
pub record HasPut (axes greatest : ℕ) (o : Outlook) (parent : Place) (it : Family) (w before after : Working) (t : Tokens) : Type 0 where
  pub family : family_of axes after parent ≡ it
  pub vertices : (q : Place) → t.held q ≡ 0 → at after.vertices q ≡ at before.vertices q
  pub levels : (q : Place) → parent.level ≢ q.level → at after.vertices q ≡ at before.vertices q
  pub hung : (x : Place) (k : ℕ) → is_hung after x k ≡ is_hung before x k
  pub records : (x : Place) (k : ℕ) → parent.level ≢ x.level → record_at axes after x k ≡ record_at axes before x k
  pub cells : (x : Place) → at after.cells x ≡ (if is_same parent x then Some it.parent else at before.cells x)
  pub loads : after.loads ≡ before.loads
  pub tally : after.tally ≡ before.tally
  pub fair : (f : Foresight) (q : Place) → o.counts q ≡ true → at before.vertices q ≡ at w.vertices q → IsFair f greatest q (at w.vertices q) → IsFair f greatest q (at after.vertices q)
  pub idle : (k : ℕ) → k < 2 ^ axes → IsIdle (record_at axes w parent k) → IsIdle (record_at axes after parent k)

module _ (axes greatest : ℕ) (o : Outlook) (parent : Place) (family : Family) (w before : Working) (t : Tokens) (puts : PutsBack axes greatest o parent family w before t) where
  pub put_count : length family.parents ≡ 2 ^ axes
  put_count = length-alike greatest parent.level (records_of axes w parent) family.parents puts.alike ∙ length-map-range_with_len (record_at axes w parent) 0 (2 ^ axes)

  put_is : AfterFamily axes parent family before (put_family axes parent family before)
  put_is = after_family axes parent family before puts.four put_count

  corner_after : (k : ℕ) → k < 2 ^ axes → IsAlike greatest parent.level (record_at axes w parent k) (record_at axes (put_family axes parent family before) parent k)
  corner_after k small =
      corner_alike greatest parent.level axes w (put_family axes parent family before) parent k
      (subst (AreAlike greatest parent.level (records_of axes w parent)) (sym (ap (λ (it : Family). it.parents) put_is.family)) puts.alike) small

  flags_before : (k : ℕ) → k < 2 ^ axes → is_hung before parent k ≡ not (o.counts (corner axes parent k))
  flags_before k small = puts.hung k ∙ puts.flags k small

  -- a corner of the parent that counts stays as foreseen
  corner_stays_fair : (f : Foresight) (k : ℕ) → k < 2 ^ axes → o.counts (corner axes parent k) ≡ true → IsFair f greatest (corner axes parent k) (at w.vertices (corner axes parent k))
      → IsFair f greatest (corner axes parent k) (at (put_family axes parent family before).vertices (corner axes parent k))
  corner_stays_fair f k small counts it =
      let after = put_family axes parent family before in
      let place = corner axes parent k in
      let free : is_hung w parent k ≡ false = puts.flags k small ∙ ap not counts in
      let free' : is_hung after parent k ≡ false = put_is.hung parent k ∙ puts.hung k ∙ free in
      let was : record_at axes w parent k ≡ it.it = found_stored axes w parent k free ∙ ap (λ found. unwrap_or found no_vertex) it.there in
      let some : is_some (at after.vertices place) ≡ true = there-put_family axes parent family before place (ap is_some (puts.vertices k ∙ it.there)) in
      let here : at after.vertices place ≡ Some (record_at axes after parent k) = some_is (at after.vertices place) some ∙ ap (λ v. Some v) (sym (found_stored axes after parent k free')) in
      subst (IsFair f greatest place) (sym here)
      (fair-alike f greatest place (at w.vertices place) it (record_at axes after parent k) (subst (λ v. IsAlike greatest parent.level v (record_at axes after parent k)) was (corner_after k small)))
    where
      some_is : (found : Option VertexRecord) → is_some found ≡ true → found ≡ Some (unwrap_or found no_vertex)
      some_is None e = absurd cc
      some_is (Some v) e = refl

  stays_fair : (f : Foresight) (q : Place) → o.counts q ≡ true → at before.vertices q ≡ at w.vertices q → IsFair f greatest q (at w.vertices q)
      → IsFair f greatest q (at (put_family axes parent family before).vertices q)
  stays_fair f q counts same it = elim (which_corner axes parent q (2 ^ axes)) [
    | inl found ↦
        let is : corner axes parent found.0 ≡ q = same_places (corner axes parent found.0) q found.2 in
        subst (λ v. IsFair f greatest v (at (put_family axes parent family before).vertices v)) is
        (corner_stays_fair f found.0 found.1 (ap o.counts is ∙ counts) (subst (λ v. IsFair f greatest v (at w.vertices v)) (sym is) it))
    | inr none ↦ subst (IsFair f greatest q) (sym (put_is.vertices q (λ k small free. none k small) ∙ same)) it
  ]

  pub has_put : HasPut axes greatest o parent family w before (put_family axes parent family before) t
  has_put = record {
    family = put_is.family;
    vertices = λ q none. put_is.vertices q (off_parent axes o t before parent puts.held flags_before q none);
    levels = at-put_family axes parent family before put_count;
    hung = put_is.hung;
    records = λ x k other. record_at-put_family axes parent family before put_count x k other;
    cells = cells-put_family axes parent family before;
    loads = put_is.loads;
    tally = put_is.tally;
    fair = stays_fair;
    idle = λ k small idle. idle-alike greatest parent.level (record_at axes w parent k) (record_at axes (put_family axes parent family before) parent k) (corner_after k small) idle;
  }

-- # Counts
-- no count has risen by more than one, and no cell was counted
pub record OneMore (tally tally' : Tally) (t t' : Tokens) : Type 0 where
  pub cells : tally'.cells ≡ tally.cells
  pub read : tally'.read ≤ tally.read + 1
  pub written : tally'.written ≤ tally.written + 1
  pub created : tally'.created ≤ tally.created + 1
  pub destroyed : tally'.destroyed ≤ tally.destroyed + 1
  pub hanging : tally'.hanging ≤ tally.hanging + 1
  pub fresh : t'.vertices.fresh ≤ t.vertices.fresh + 1
  pub pushes : (s : ℕ) → (stack_at t'.vertices s).pushes ≤ (stack_at t.vertices s).pushes + 1
  pub pops : (s : ℕ) → (stack_at t'.vertices s).pops ≤ (stack_at t.vertices s).pops + 1
  pub cell_fresh : t'.cells.fresh ≤ t.cells.fresh + 1
  pub cell_pushes : (s : ℕ) → (stack_at t'.cells s).pushes ≤ (stack_at t.cells s).pushes + 1
  pub cell_pops : (s : ℕ) → (stack_at t'.cells s).pops ≤ (stack_at t.cells s).pops + 1

-- less is owed then
pub owes-more : (axes max_cells : ℕ) (e : ForeseenStart) (st st' : Stage) (tally tally' : Tally) (t t' : Tokens)
    → Owes axes max_cells e st tally t → OneMore tally tally' t t' → st'.owed + 1 ≤ st.owed → length st'.ahead + st.counted ≡ length st.ahead + st'.counted
    → ((s : ℕ) → len_at t'.vertices s + st'.unstored ≤ len_at t.vertices s + st.unstored)
    → ((s : ℕ) → len_at t'.cells s + length st'.entered + st'.counted ≤ len_at t.cells s + length st.entered + st.counted)
    → Owes axes max_cells e st' tally' t'
owes-more axes max_cells e st st' tally tally' t t' owes more less total lens cell_lens = record {
  cells = omega (arith, owes.cells, more.cells);
  total = omega (arith, owes.total, more.cells, total);
  fresh = omega (arith, owes.fresh, more.fresh, more.cells, less);
  pushes = λ s. omega (arith, owes.pushes s, more.pushes s, more.cells, less);
  pops = λ s. omega (arith, owes.pops s, more.pops s, more.cells, less);
  cell_fresh = omega (arith, owes.cell_fresh, more.cell_fresh, more.cells, less);
  cell_pushes = λ s. omega (arith, owes.cell_pushes s, more.cell_pushes s, more.cells, less);
  cell_pops = λ s. omega (arith, owes.cell_pops s, more.cell_pops s, more.cells, less);
  read = omega (arith, owes.read, more.read, more.cells, less);
  written = omega (arith, owes.written, more.written, more.cells, less);
  created = omega (arith, owes.created, more.created, more.cells, less);
  destroyed = omega (arith, owes.destroyed, more.destroyed, more.cells, less);
  hanging = omega (arith, owes.hanging, more.hanging, more.cells, less);
  lens = λ s. omega (arith, owes.lens s, lens s, ap (λ n. 2 ^ axes * n) more.cells);
  cell_lens = λ s. omega (arith, owes.cell_lens s, cell_lens s, more.cells);
}
