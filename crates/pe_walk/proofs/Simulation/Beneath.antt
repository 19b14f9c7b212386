-- A walk does the same whatever lies beneath.
use Rattle.std.proofs.Common.{◌≡◌, ℕ, ℤ, zero, suc, ◌+◌, ◌-◌, ◌^◌, ◌<◌, Bool, true, false, ◌&&◌, List, [], ◌∷◌, ◌++◌, drop, Option, Some, None, inl, inr, refl, sym, ap, ap₂, subst, ◌∙◌}
use Rattle.std.specs.Prelude.{nat_lt, is_none}
use Rattle.std.proofs.lemmas.Bool.{ltb-true, cases_eq}
use Rattle.pe_base.specs.declared.place.Place.{Place}
use Rattle.pe_base.specs.declared.kind.Kind.{Kind}
use Rattle.pe_base.specs.declared.kind.Kind.TheVariants.{Kept, Born, Dying, Hanging}
use Rattle.pe_base.specs.Tree.Places.{corner}
use Rattle.pe_base.specs.Tree.Curve.{children}
use Rattle.pe_base.specs.Steps.Routes.{stack_in, stack_out}
use Rattle.pe_base.specs.Acts.Effects.{VertexRecord}
use Rattle.pe_base.specs.Walk.Course.{Ending, done, halts, stuck, Cause, Course, at_once, behind, from, and_then, course_map, each, allowed}
use Rattle.pe_base.specs.Walk.Core.{Setting, Family, Own, way, load_touch, store_touch, enter_touch, leave_touch}
use Rattle.pe_base.specs.Walk.Touches.{tally_cell, kind_below}
use Rattle.pe_stacks.specs.Holdings.{Holdings, stack_count, stack_at, items_at, lent, given_up, pushed, pushed_on, popped, popped_from}
use Rattle.pe_stacks.proofs.StackAt.{stack_count-pushed, stack_at-pushed, stack_at-pushed_other, stack_count-popped, stack_at-popped, stack_at-popped_other}
use Rattle.pe_hang.specs.Moves.{may_rise, lend, give_up, top_of, pop, push}
use Rattle.pe_adapt.specs.Touches.{Desk, kind_in_hand, lent_vertex, popped_vertex, comes, goes, stack_or}
use Rattle.pe_adapt.specs.Touches as corners
use Rattle.pe_adapt.specs.CountedTouches.{Machine, StreamStacks, cell_output, output, tally_may_rise, is_placed, desk_of, load_corner, store_corner}
use Rattle.pe_walk.specs.Machine as machine
use Rattle.pe_walk.specs.Beneath.{StackOver, IsOver, LiesOver, BeneathIsLeft}

-- # Courses
-- One course goes as another does, unless that is stuck: it adds the same text, and what they end with is alike.
module _ {A B : Type 0} (Same : A → B → Type 0) where
  abbrev EndsLike : List ℕ → List ℕ → Ending A → Ending B → Type 0
  EndsLike text0 text stuck e = Unit {0}
  EndsLike text0 text (done a) (done b) = (text ≡ text0) × Same a b
  EndsLike text0 text (done a) (halts cause) = ⊥
  EndsLike text0 text (done a) stuck = ⊥
  EndsLike text0 text (halts cause) (done b) = ⊥
  EndsLike text0 text (halts cause) (halts other) = (text ≡ text0) × (other ≡ cause)
  EndsLike text0 text (halts cause) stuck = ⊥

  abbrev Goes : Course A → Course B → Type 0
  Goes c0 c = EndsLike c0.text c.text c0.ending c.ending

  -- behind the same text
  behind-same : (more0 more text0 text : List ℕ) (e0 : Ending A) (e : Ending B) → more ≡ more0 → EndsLike text0 text e0 e → EndsLike (more0 ++ text0) (more ++ text) e0 e
  behind-same more0 more text0 text stuck e same h = tt
  behind-same more0 more text0 text (done a) (done b) same h = (ap₂ (λ x y. x ++ y) same h.0, h.1)
  behind-same more0 more text0 text (done a) (halts cause) same h = absurd h
  behind-same more0 more text0 text (done a) stuck same h = absurd h
  behind-same more0 more text0 text (halts cause) (done b) same h = absurd h
  behind-same more0 more text0 text (halts cause) (halts other) same h = (ap₂ (λ x y. x ++ y) same h.0, h.1)
  behind-same more0 more text0 text (halts cause) stuck same h = absurd h

  -- where a test passes
  allowed-if : (b0 b : Bool) (c0 : Course A) (c : Course B) → b ≡ b0 → (b0 ≡ true → Goes c0 c) → Goes (allowed b0 c0) (allowed b c)
  allowed-if b0 b c0 c same h = subst (λ x. Goes (allowed b0 c0) (allowed x c)) (sym same) (go b0 refl)
    where
      go : (x : Bool) → b0 ≡ x → Goes (allowed x c0) (allowed x c)
      go true e = h e
      go false e = tt

-- one after another
then-goes : {A B C D : Type 0} (Same : A → B → Type 0) (After : C → D → Type 0) (c0 : Course A) (c : Course B) (f0 : A → Course C) (f : B → Course D)
    → Goes Same c0 c → ((a : A) (b : B) → Same a b → Goes After (f0 a) (f b)) → Goes After (and_then c0 f0) (and_then c f)
then-goes {A} {B} Same After c0 c f0 f first next = go c0.ending c.ending first
  where
    go : (e0 : Ending A) (e : Ending B) → EndsLike Same c0.text c.text e0 e → Goes After (behind c0.text c0.log (from e0 f0)) (behind c.text c.log (from e f))
    go stuck e h = tt
    go (done a) (done b) h = behind-same After c0.text c.text (f0 a).text (f b).text (f0 a).ending (f b).ending h.0 (next a b h.1)
    go (done a) (halts cause) h = absurd h
    go (done a) stuck h = absurd h
    go (halts cause) (done b) h = absurd h
    go (halts cause) (halts other) h = (ap (λ x. x ++ []) h.0, h.1)
    go (halts cause) stuck h = absurd h

map-goes : {A B C D : Type 0} (Same : A → B → Type 0) (After : C → D → Type 0) (c0 : Course A) (c : Course B) (f0 : A → C) (f : B → D)
    → Goes Same c0 c → ((a : A) (b : B) → Same a b → After (f0 a) (f b)) → Goes After (course_map f0 c0) (course_map f c)
map-goes Same After c0 c f0 f first next = then-goes Same After c0 c (λ a. at_once (f0 a)) (λ b. at_once (f b)) first (λ a b h. (refl, next a b h))

-- one core for both
core-goes : {A : Type 0} (c : Course A) → Goes (λ (a b : A). a ≡ b) c c
core-goes {A} c = go c.ending
  where
    go : (e : Ending A) → EndsLike (λ (a b : A). a ≡ b) c.text c.text e e
    go (done a) = (refl, refl)
    go (halts cause) = (refl, refl)
    go stuck = tt

-- and what is made of its result
core-then : {A C D : Type 0} (After : C → D → Type 0) (c : Course A) (f0 : A → Course C) (f : A → Course D) → ((a : A) → Goes After (f0 a) (f a)) → Goes After (and_then c f0) (and_then c f)
core-then After c f0 f next = then-goes (λ a b. a ≡ b) After c c f0 f (core-goes c) (λ a b same. subst (λ x. Goes After (f0 a) (f x)) same (next a))

-- # Depots
module _ {X : Type 0} (b : ℕ → List X) where
  lent-over : (h0 h : Holdings X) → IsOver b h0 h → IsOver b (lent h0) (lent h)
  lent-over h0 h u = record { count = u.count; stacks = u.stacks; fresh = ap (λ n. n + 1) u.fresh; out = ap (λ n. n + 1) u.out }

  lend-goes : (h0 h : Holdings X) → IsOver b h0 h → Goes (IsOver b) (lend h0) (lend h)
  lend-goes h0 h u = allowed-if (IsOver b) (may_rise h0.fresh) (may_rise h.fresh) (at_once (lent h0)) (at_once (lent h)) (ap may_rise u.fresh) (λ e. (refl, lent-over h0 h u))

  give_up-goes : (h0 h : Holdings X) → IsOver b h0 h → Goes (IsOver b) (give_up h0) (give_up h)
  give_up-goes h0 h u =
      allowed-if (IsOver b) (nat_lt 0 h0.out) (nat_lt 0 h.out) (at_once (given_up h0)) (at_once (given_up h)) (ap (nat_lt 0) u.out)
      (λ e. (refl, record { count = u.count; stacks = u.stacks; fresh = u.fresh; out = ap (λ n. n - 1) u.out }))

  first_of_two : (x y : Bool) → (x && y) ≡ true → x ≡ true
  first_of_two true y e = refl
  first_of_two false y e = e

  first_of_three : (x y z : Bool) → (x && y && z) ≡ true → x ≡ true
  first_of_three true y z e = refl
  first_of_three false y z e = e

  -- one stack has changed
  one-over : (h0 h after0 after : Holdings X) (s : ℕ) → IsOver b h0 h → stack_count after ≡ stack_count after0 → after.fresh ≡ after0.fresh → after.out ≡ after0.out
      → StackOver (b s) (stack_at after0 s) (stack_at after s) → ((t : ℕ) → (t ≡ s → ⊥) → (stack_at after0 t ≡ stack_at h0 t) × (stack_at after t ≡ stack_at h t)) → IsOver b after0 after
  one-over h0 h after0 after s u count fresh out here others = record {
    count = count;
    stacks = λ t. elim (cases_eq t s) [
      | inl e ↦ subst (λ n. StackOver (b n) (stack_at after0 n) (stack_at after n)) (sym e) here
      | inr e ↦ let same = others t e in subst (λ y. StackOver (b t) (stack_at after0 t) y) (sym same.1) (subst (λ x. StackOver (b t) x (stack_at h t)) (sym same.0) (u.stacks t))
    ];
    fresh = fresh;
    out = out;
  }

  abbrev Popped : X × Holdings X → X × Holdings X → Type 0
  Popped a0 a = (a.0 ≡ a0.0) × IsOver b a0.1 a.1

  pop-goes : (s : ℕ) (h0 h : Holdings X) → IsOver b h0 h → Goes Popped (pop s h0) (pop s h)
  pop-goes s h0 h u =
      allowed-if Popped (nat_lt s (stack_count h0) && may_rise (stack_at h0 s).pops) (nat_lt s (stack_count h) && may_rise (stack_at h s).pops)
      (top_of (items_at h0 s) (popped h0 s)) (top_of (items_at h s) (popped h s))
      (ap₂ (λ n k. nat_lt s n && may_rise k) u.count (u.stacks s).pops)
      (λ e. go (ltb-true s (stack_count h0) (first_of_two (nat_lt s (stack_count h0)) (may_rise (stack_at h0 s).pops) e)) (items_at h0 s) refl)
    where
      after : s < stack_count h0 → (x : X) (xs : List X) → items_at h0 s ≡ x ∷ xs → IsOver b (popped h0 s) (popped h s)
      after inside x xs k =
          one-over h0 h (popped h0 s) (popped h s) s u
          (stack_count-popped h (popped h s) s refl ∙ u.count ∙ sym (stack_count-popped h0 (popped h0 s) s refl)) u.fresh (ap (λ n. n + 1) u.out)
          (subst (λ y. StackOver (b s) (stack_at (popped h0 s) s) y) (sym (stack_at-popped h (popped h s) s refl (subst (λ n. s < n) (sym u.count) inside)))
          (subst (λ x. StackOver (b s) x (popped_from (stack_at h s))) (sym (stack_at-popped h0 (popped h0 s) s refl inside))
          (record {
            items = ap (drop 1) ((u.stacks s).items ∙ ap (λ ys. ys ++ b s) k) ∙ sym (ap (λ ys. drop 1 ys ++ b s) k);
            pushes = (u.stacks s).pushes;
            pops = ap (λ n. n + 1) (u.stacks s).pops;
          })))
          (λ t apart. (stack_at-popped_other h0 (popped h0 s) s t refl apart, stack_at-popped_other h (popped h s) s t refl apart))

      go : s < stack_count h0 → (xs : List X) → items_at h0 s ≡ xs → Goes Popped (top_of xs (popped h0 s)) (top_of (items_at h s) (popped h s))
      go inside [] k = tt
      go inside (x ∷ xs) k =
          subst (λ ys. Goes Popped (top_of (x ∷ xs) (popped h0 s)) (top_of ys (popped h s))) (sym ((u.stacks s).items ∙ ap (λ ys. ys ++ b s) k)) (refl, (refl, after inside x xs k))

  push-goes : (of_cell : Bool) (s : ℕ) (x : X) (h0 h : Holdings X) → IsOver b h0 h → Goes (IsOver b) (push of_cell s x h0) (push of_cell s x h)
  push-goes of_cell s x h0 h u =
      allowed-if (IsOver b) (nat_lt s (stack_count h0) && may_rise (stack_at h0 s).pushes && nat_lt 0 h0.out) (nat_lt s (stack_count h) && may_rise (stack_at h s).pushes && nat_lt 0 h.out) _ _
      (λ i. nat_lt s (u.count i) && may_rise ((u.stacks s).pushes i) && nat_lt 0 (u.out i))
      (λ e. (refl, after (ltb-true s (stack_count h0) (first_of_three (nat_lt s (stack_count h0)) (may_rise (stack_at h0 s).pushes) (nat_lt 0 h0.out) e))))
    where
      after : s < stack_count h0 → IsOver b (pushed h0 s x) (pushed h s x)
      after inside =
          one-over h0 h (pushed h0 s x) (pushed h s x) s u
          (stack_count-pushed h (pushed h s x) s x refl ∙ u.count ∙ sym (stack_count-pushed h0 (pushed h0 s x) s x refl)) u.fresh (ap (λ n. n - 1) u.out)
          (subst (λ y. StackOver (b s) (stack_at (pushed h0 s x) s) y) (sym (stack_at-pushed h (pushed h s x) s x refl (subst (λ n. s < n) (sym u.count) inside)))
          (subst (λ z. StackOver (b s) z (pushed_on (stack_at h s) x)) (sym (stack_at-pushed h0 (pushed h0 s x) s x refl inside))
          (record { items = ap (λ ys. x ∷ ys) (u.stacks s).items; pushes = ap (λ n. n + 1) (u.stacks s).pushes; pops = (u.stacks s).pops })))
          (λ t apart. (stack_at-pushed_other h0 (pushed h0 s x) s t x refl apart, stack_at-pushed_other h (pushed h s x) s t x refl apart))

-- # The machine
module _ {Plan : Type 0} (set : Setting Plan) (streams : StreamStacks) (b : ℕ → List VertexRecord) (c : ℕ → List (List ℤ)) where
  abbrev Over : Machine → Machine → Type 0
  Over m0 m = LiesOver b c m0 m

  abbrev PairOver : {X : Type 0} → X × Machine → X × Machine → Type 0
  PairOver a0 a = (a.0 ≡ a0.0) × LiesOver b c a0.1 a.1

  abbrev DeskOver : Desk → Desk → Type 0
  DeskOver d0 d = IsOver b d0.vertices d.vertices × (d.family ≡ d0.family)

  abbrev ComeOver : {X : Type 0} → X × Desk → X × Desk → Type 0
  ComeOver a0 a = (a.0 ≡ a0.0) × IsOver b a0.1.vertices a.1.vertices × (a.1.family ≡ a0.1.family)

  -- what lies over is the same but for its stacks
  over-by : (P : Machine → Type 0) (m0 m : Machine) → Over m0 m
      → ((v : Holdings VertexRecord) (cs : Holdings (List ℤ)) → IsOver b m0.vertices v → IsOver c m0.cells cs → P (record m0 { vertices = v; cells = cs })) → P m
  over-by P m0 m o h =
      subst P (λ i. record { vertices = m.vertices; cells = m.cells; family = sym o.family i; tally = sym o.tally i }) (h m.vertices m.cells o.vertices o.cells)

  pair-by : {X : Type 0} (P : X × Machine → Type 0) (a0 a : X × Machine) → PairOver a0 a → ((m : Machine) → Over a0.1 m → P (a0.0, m)) → P a
  pair-by P a0 a h g = subst P (λ i. (sym h.0 i, a.1)) (g a.1 h.1)

  come-by : {X : Type 0} (P : X × Desk → Type 0) (a0 a : X × Desk) → ComeOver a0 a → ((v : Holdings VertexRecord) → IsOver b a0.1.vertices v → P (a0.0, record a0.1 { vertices = v })) → P a
  come-by P a0 a h g = subst P (λ i. (sym h.0 i, record { vertices = a.1.vertices; family = sym h.2 i })) (g a.1.vertices h.1)

  -- # A corner
  lent-goes : (d : Desk) (v : Holdings VertexRecord) → IsOver b d.vertices v → Goes ComeOver (lent_vertex set d) (lent_vertex set (record d { vertices = v }))
  lent-goes d v u = map-goes (IsOver b) ComeOver (lend d.vertices) (lend v) _ _ (lend-goes b d.vertices v u) (λ x y h. (refl, h, refl))

  popped-goes : (s : ℕ) (d : Desk) (v : Holdings VertexRecord) → IsOver b d.vertices v → Goes ComeOver (popped_vertex set s d) (popped_vertex set s (record d { vertices = v }))
  popped-goes s d v u = map-goes (Popped b) ComeOver (pop s d.vertices) (pop s v) _ _ (pop-goes b s d.vertices v u) (λ x y h. (h.0, h.1, refl))

  comes-goes : (input : ℕ) (kind : Kind) (origin : Option ℕ) (d : Desk) (v : Holdings VertexRecord) → IsOver b d.vertices v
      → Goes ComeOver (comes set input kind origin d) (comes set input kind origin (record d { vertices = v }))
  comes-goes input Hanging origin d v u = lent-goes d v u
  comes-goes input Born None d v u = lent-goes d v u
  comes-goes input Kept None d v u = popped-goes input d v u
  comes-goes input Dying None d v u = popped-goes input d v u
  comes-goes input Born (Some s) d v u = popped-goes s d v u
  comes-goes input Kept (Some s) d v u = popped-goes s d v u
  comes-goes input Dying (Some s) d v u = popped-goes s d v u

  load_as-goes : (input : ℕ) (kind : Kind) (origin : Option ℕ) (vertex : Place) (d : Desk) (v : Holdings VertexRecord) → IsOver b d.vertices v
      → Goes ComeOver (corners.load_as set input kind origin vertex d) (corners.load_as set input kind origin vertex (record d { vertices = v }))
  load_as-goes input kind origin vertex d v u =
      let touch : VertexRecord × Desk → Course (VertexRecord × Desk) =
      λ come. course_map (λ it. (it.0, record come.1 { family = it.1 })) (load_touch set kind (is_none origin) come.0 vertex come.1.family) in
      then-goes ComeOver ComeOver (comes set input kind origin d) (comes set input kind origin (record d { vertices = v })) touch touch (comes-goes input kind origin d v u)
      (λ a0 a h. come-by (λ x. Goes ComeOver (touch a0) (touch x)) a0 a h
      (λ now over. core-then ComeOver (load_touch set kind (is_none origin) a0.0 vertex a0.1.family) _ _ (λ it. (refl, (refl, over, refl)))))

  load-goes : (cell : Place) (k : ℕ) (m0 m : Machine) → Over m0 m → Goes PairOver (load_corner set streams cell k m0) (load_corner set streams cell k m)
  load-goes cell k m0 m o = over-by (λ x. Goes PairOver (load_corner set streams cell k m0) (load_corner set streams cell k x)) m0 m o
      (λ v cs u w. let vertex = corner set.axes cell k in
      let kind = kind_in_hand set cell m0.family.parents vertex in
      let test = tally_may_rise m0.tally && is_placed set.axes kind vertex in
      allowed-if PairOver test test _ _ refl
      (λ e. map-goes ComeOver PairOver (corners.load_corner set streams.input cell k (desk_of m0)) (corners.load_corner set streams.input cell k (desk_of (record m0 { vertices = v; cells = cs }))) _ _
      (load_as-goes streams.input kind (stack_in set.axes (way set) vertex cell) vertex (desk_of m0) v u)
      (λ a0 a h. (h.0, record { vertices = h.1; cells = w; family = h.2; tally = refl }))))

  goes-goes : (out : ℕ) (to : Option ℕ) (left : Option VertexRecord) (d : Desk) (v : Holdings VertexRecord) → IsOver b d.vertices v
      → Goes DeskOver (goes set out to left d) (goes set out to left (record d { vertices = v }))
  goes-goes out to None d v u = map-goes (IsOver b) DeskOver (give_up d.vertices) (give_up v) _ _ (give_up-goes b d.vertices v u) (λ x y h. (h, refl))
  goes-goes out to (Some it) d v u =
      map-goes (IsOver b) DeskOver (push false (stack_or set out to) it d.vertices) (push false (stack_or set out to) it v) _ _ (push-goes b false (stack_or set out to) it d.vertices v u) (λ x y h. (h, refl))

  store-goes : (cell : Place) (k : ℕ) (it : VertexRecord) (m0 m : Machine) → Over m0 m → Goes Over (store_corner set streams cell k it m0) (store_corner set streams cell k it m)
  store-goes cell k it m0 m o = over-by (λ x. Goes Over (store_corner set streams cell k it m0) (store_corner set streams cell k it x)) m0 m o
      (λ v cs u w. let vertex = corner set.axes cell k in
      let to = stack_out set.axes (way set) vertex cell in
      let test = tally_may_rise m0.tally && is_placed set.axes it.kind vertex in
      allowed-if Over test test _ _ refl
      (λ e. map-goes DeskOver Over (corners.store_corner set (output streams) cell k it (desk_of m0)) (corners.store_corner set (output streams) cell k it (desk_of (record m0 { vertices = v; cells = cs }))) _ _
      (core-then DeskOver (store_touch set (is_none to) vertex it m0.family) _ _ (λ r. goes-goes (output streams) to r.0 (record (desk_of m0) { family = r.1 }) v u))
      (λ a0 a h. record { vertices = h.0; cells = w; family = h.1; tally = refl })))

  -- all corners
  load_all-goes : (cell : Place) (k : ℕ) (its : List VertexRecord) (m0 m : Machine) → Over m0 m → Goes PairOver (machine.load_all set streams cell k its m0) (machine.load_all set streams cell k its m)
  load_all-goes cell zero its m0 m o = (refl, (refl, o))
  load_all-goes cell (suc k) its m0 m o =
      let rest : VertexRecord × Machine → Course (List VertexRecord × Machine) = λ it. machine.load_all set streams cell k (it.0 ∷ its) it.1 in
      then-goes PairOver PairOver (load_corner set streams cell k m0) (load_corner set streams cell k m) rest rest (load-goes cell k m0 m o)
      (λ a0 a h. pair-by (λ x. Goes PairOver (rest a0) (rest x)) a0 a h (λ now over. load_all-goes cell k (a0.0 ∷ its) a0.1 now over))

  store_all-goes : (cell : Place) (k : ℕ) (its : List VertexRecord) (m0 m : Machine) → Over m0 m → Goes Over (machine.store_all set streams cell k its m0) (machine.store_all set streams cell k its m)
  store_all-goes cell k [] m0 m o = (refl, o)
  store_all-goes cell k (it ∷ its) m0 m o =
      then-goes Over Over (store_corner set streams cell k it m0) (store_corner set streams cell k it m) (machine.store_all set streams cell (k + 1) its) (machine.store_all set streams cell (k + 1) its)
      (store-goes cell k it m0 m o) (λ a0 a h. store_all-goes cell (k + 1) its a0 a h)

  -- # A cell
  count-goes : (cell : Place) (m0 m : Machine) → Over m0 m → Goes Over (machine.count_cell set streams cell m0) (machine.count_cell set streams cell m)
  count-goes cell m0 m o = over-by (λ x. Goes Over (machine.count_cell set streams cell m0) (machine.count_cell set streams cell x)) m0 m o
      (λ v cs u w. allowed-if Over (tally_may_rise m0.tally) (tally_may_rise m0.tally) _ _ refl (λ e. limited v cs u w (nat_lt set.max_cells (tally_cell cell m0.tally).cells)))
    where
      limited : (v : Holdings VertexRecord) (cs : Holdings (List ℤ)) → IsOver b m0.vertices v → IsOver c m0.cells cs → (past : Bool)
          → Goes Over (machine.within_limit set streams cell (record m0 { tally = tally_cell cell m0.tally }) past)
          (machine.within_limit set streams cell (record m0 { vertices = v; cells = cs; tally = tally_cell cell m0.tally }) past)
      limited v cs u w true = (refl, refl)
      limited v cs u w false = (refl, record { vertices = u; cells = w; family = refl; tally = refl })

  cell_lent : (m : Machine) (v : Holdings VertexRecord) (cs : Holdings (List ℤ)) → IsOver b m.vertices v → IsOver c m.cells cs
      → Goes PairOver (machine.cell_comes set streams Born m) (machine.cell_comes set streams Born (record m { vertices = v; cells = cs }))
  cell_lent m v cs u w = map-goes (IsOver c) PairOver (lend m.cells) (lend cs) _ _ (lend-goes c m.cells cs w) (λ x y h. (refl, record { vertices = u; cells = h; family = refl; tally = refl }))

  cell_popped : (m : Machine) (v : Holdings VertexRecord) (cs : Holdings (List ℤ)) → IsOver b m.vertices v → IsOver c m.cells cs
      → Goes PairOver (machine.cell_comes set streams Kept m) (machine.cell_comes set streams Kept (record m { vertices = v; cells = cs }))
  cell_popped m v cs u w = map-goes (Popped c) PairOver (pop streams.cell_input m.cells) (pop streams.cell_input cs) _ _ (pop-goes c streams.cell_input m.cells cs w)
      (λ x y h. (h.0, record { vertices = u; cells = h.1; family = refl; tally = refl }))

  cell_comes-goes : (kind : Kind) (m : Machine) (v : Holdings VertexRecord) (cs : Holdings (List ℤ)) → IsOver b m.vertices v → IsOver c m.cells cs
      → Goes PairOver (machine.cell_comes set streams kind m) (machine.cell_comes set streams kind (record m { vertices = v; cells = cs }))
  cell_comes-goes Born m v cs u w = cell_lent m v cs u w
  cell_comes-goes Kept m v cs u w = cell_popped m v cs u w
  cell_comes-goes Dying m v cs u w = cell_popped m v cs u w
  cell_comes-goes Hanging m v cs u w = cell_popped m v cs u w

  enter-goes : (cell : Place) (its : List VertexRecord) (m0 m : Machine) → Over m0 m → Goes PairOver (machine.enter_cell set streams cell its m0) (machine.enter_cell set streams cell its m)
  enter-goes cell its m0 m o = over-by (λ x. Goes PairOver (machine.enter_cell set streams cell its m0) (machine.enter_cell set streams cell its x)) m0 m o
      (λ v cs u w. let kind = machine.kind_of_cell set streams cell m0 in
      let touch : List ℤ × Machine → Course (Own × Machine) = λ come. course_map (λ it. (it.0, record come.1 { family = it.1 })) (enter_touch set kind come.0 cell its come.1.family) in
      then-goes PairOver PairOver (machine.cell_comes set streams kind m0) (machine.cell_comes set streams kind (record m0 { vertices = v; cells = cs })) touch touch (cell_comes-goes kind m0 v cs u w)
      (λ a0 a h. pair-by (λ x. Goes PairOver (touch a0) (touch x)) a0 a h
      (λ now over. over-by (λ x. Goes PairOver (touch a0) (touch (a0.0, x))) a0.1 now over
      (λ v cs u w. core-then PairOver (enter_touch set kind a0.0 cell its a0.1.family) _ _ (λ it. (refl, (refl, record { vertices = u; cells = w; family = refl; tally = refl })))))))

  cell_pushed : (numbers : List ℤ) (m : Machine) (v : Holdings VertexRecord) (cs : Holdings (List ℤ)) → IsOver b m.vertices v → IsOver c m.cells cs
      → Goes Over (machine.cell_goes set streams Kept numbers m) (machine.cell_goes set streams Kept numbers (record m { vertices = v; cells = cs }))
  cell_pushed numbers m v cs u w = map-goes (IsOver c) Over (push true (cell_output streams) numbers m.cells) (push true (cell_output streams) numbers cs) _ _ (push-goes c true (cell_output streams) numbers m.cells cs w)
      (λ x y h. record { vertices = u; cells = h; family = refl; tally = refl })

  cell_goes-goes : (kind : Kind) (numbers : List ℤ) (m : Machine) (v : Holdings VertexRecord) (cs : Holdings (List ℤ)) → IsOver b m.vertices v → IsOver c m.cells cs
      → Goes Over (machine.cell_goes set streams kind numbers m) (machine.cell_goes set streams kind numbers (record m { vertices = v; cells = cs }))
  cell_goes-goes Dying numbers m v cs u w = map-goes (IsOver c) Over (give_up m.cells) (give_up cs) _ _ (give_up-goes c m.cells cs w) (λ x y h. record { vertices = u; cells = h; family = refl; tally = refl })
  cell_goes-goes Kept numbers m v cs u w = cell_pushed numbers m v cs u w
  cell_goes-goes Born numbers m v cs u w = cell_pushed numbers m v cs u w
  cell_goes-goes Hanging numbers m v cs u w = cell_pushed numbers m v cs u w

  leave-goes : (cell : Place) (own : Own) (m0 m : Machine) → Over m0 m → Goes PairOver (machine.leave_cell set streams cell (own, m0)) (machine.leave_cell set streams cell (own, m))
  leave-goes cell own m0 m o = over-by (λ x. Goes PairOver (machine.leave_cell set streams cell (own, m0)) (machine.leave_cell set streams cell (own, x))) m0 m o
      (λ v cs u w. let kind = machine.kind_of_cell set streams cell m0 in
      core-then PairOver (leave_touch set kind cell own m0.family) _ _
      (λ after. map-goes Over PairOver (machine.cell_goes set streams kind after.0.cell (record m0 { family = after.1 })) (machine.cell_goes set streams kind after.0.cell (record m0 { vertices = v; cells = cs; family = after.1 })) _ _
      (cell_goes-goes kind after.0.cell (record m0 { family = after.1 }) v cs u w) (λ x y h. (refl, h))))

  -- # Children
  each-goes : (step : Place → Machine → Course Machine) → ((cell : Place) (m0 m : Machine) → Over m0 m → Goes Over (step cell m0) (step cell m))
      → (cells : List Place) (m0 m : Machine) → Over m0 m → Goes Over (each step cells m0) (each step cells m)
  each-goes step goes [] m0 m o = (refl, o)
  each-goes step goes (cell ∷ cells) m0 m o =
      then-goes Over Over (step cell m0) (step cell m) (each step cells) (each step cells) (goes cell m0 m o) (λ a0 a h. each-goes step goes cells a0 a h)

  below-goes : (step : Place → Machine → Course Machine) → ((cell : Place) (m0 m : Machine) → Over m0 m → Goes Over (step cell m0) (step cell m)) → (cells : List Place) (own : Own) (m0 m : Machine) → Over m0 m
      → Goes PairOver (course_map (machine.outside set streams m0) (each step cells (machine.inside set streams own m0))) (course_map (machine.outside set streams m) (each step cells (machine.inside set streams own m)))
  below-goes step goes cells own m0 m o =
      map-goes Over PairOver (each step cells (machine.inside set streams own m0)) (each step cells (machine.inside set streams own m)) (machine.outside set streams m0) (machine.outside set streams m)
      (each-goes step goes cells (machine.inside set streams own m0) (machine.inside set streams own m)
      (record { vertices = o.vertices; cells = o.cells; family = ap (λ (f : Family). let inner : Family = record { parents = own.corners; parent = own.cell; list = f.list } in inner) o.family; tally = o.tally }))
      (λ a0 a h. (
        ap (λ (f : Family). let own : Own = record { cell = f.parent; corners = f.parents } in own) h.family,
        record {
          vertices = h.vertices;
          cells = h.cells;
          family = ap₂ (λ (f g : Family). let outer : Family = record { parents = f.parents; parent = f.parent; list = g.list } in outer) o.family h.family;
          tally = h.tally;
        },
      ))

  if_walked-goes : (kind : Kind) (walks : Own × Machine → Course (Own × Machine)) (own : Own) (m0 m : Machine) → Over m0 m → Goes PairOver (walks (own, m0)) (walks (own, m))
      → Goes PairOver (machine.if_walked set streams kind walks (own, m0)) (machine.if_walked set streams kind walks (own, m))
  if_walked-goes Kept walks own m0 m o h = h
  if_walked-goes Born walks own m0 m o h = h
  if_walked-goes Dying walks own m0 m o h = h
  if_walked-goes Hanging walks own m0 m o h = (refl, (refl, o))

  walk-goes : (levels : ℕ) (cell : Place) (m0 m : Machine) → Over m0 m → Goes Over (machine.walk_cell set streams levels cell m0) (machine.walk_cell set streams levels cell m)
  walk-goes zero cell m0 m o = tt
  walk-goes (suc levels) cell m0 m o =
      then-goes Over Over (machine.count_cell set streams cell m0) (machine.count_cell set streams cell m) from_loads from_loads (count-goes cell m0 m o) (λ m0 m o.
      then-goes PairOver Over (machine.load_all set streams cell (2 ^ set.axes) [] m0) (machine.load_all set streams cell (2 ^ set.axes) [] m) from_enter from_enter (load_all-goes cell (2 ^ set.axes) [] m0 m o) (λ a0 a h.
      pair-by (λ x. Goes Over (from_enter a0) (from_enter x)) a0 a h (λ m o.
      then-goes PairOver Over (machine.enter_cell set streams cell a0.0 a0.1) (machine.enter_cell set streams cell a0.0 m) from_below from_below (enter-goes cell a0.0 a0.1 m o) (λ a0 a h.
      pair-by (λ x. Goes Over (from_below a0) (from_below x)) a0 a h (λ m o.
      then-goes PairOver Over (below a0) (below (a0.0, m)) from_leave from_leave
      (if_walked-goes (kind_below a0.0.corners) walks a0.0 a0.1 m o (below-goes (machine.walk_cell set streams levels) (walk-goes levels) (children set.axes (way set) cell) a0.0 a0.1 m o)) (λ a0 a h.
      pair-by (λ x. Goes Over (from_leave a0) (from_leave x)) a0 a h (λ m o.
      then-goes PairOver Over (machine.leave_cell set streams cell a0) (machine.leave_cell set streams cell (a0.0, m)) stores stores (leave-goes cell a0.0 a0.1 m o) (λ a0 a h.
      pair-by (λ x. Goes Over (stores a0) (stores x)) a0 a h (λ m o. store_all-goes cell 0 a0.0 a0.1 m o)))))))))
    where
      walks : Own × Machine → Course (Own × Machine)
      walks it = course_map (machine.outside set streams it.1) (each (machine.walk_cell set streams levels) (children set.axes (way set) cell) (machine.inside set streams it.0 it.1))

      below : Own × Machine → Course (Own × Machine)
      below it = machine.if_walked set streams (kind_below it.0.corners) walks it

      stores : List VertexRecord × Machine → Course Machine
      stores it = machine.store_all set streams cell 0 it.0 it.1

      from_leave : Own × Machine → Course Machine
      from_leave it = and_then (machine.leave_cell set streams cell it) stores

      from_below : Own × Machine → Course Machine
      from_below it = and_then (below it) from_leave

      from_enter : List VertexRecord × Machine → Course Machine
      from_enter it = and_then (machine.enter_cell set streams cell it.0 it.1) from_below

      from_loads : Machine → Course Machine
      from_loads m = and_then (machine.load_all set streams cell (2 ^ set.axes) [] m) from_enter

-- So it is done likewise, or halts likewise.
done-like : {A B : Type 0} (Same : A → B → Type 0) (text0 text : List ℕ) (e0 : Ending A) (e : Ending B) (a : A) → EndsLike Same text0 text e0 e → e0 ≡ done a → (b : B) × (e ≡ done b) × (text ≡ text0) × Same a b
done-like Same text0 text (done a) (done b) other h k = (b, refl, h.0, subst (λ x. Same x b) (same a other k) h.1)
  where
    same : {X : Type 0} (x y : X) → done x ≡ done y → x ≡ y
    same x y e = cc
done-like Same text0 text (done a) (halts cause) other h k = absurd h
done-like Same text0 text (done a) stuck other h k = absurd h
done-like Same text0 text (halts cause) e other h k = absurd cc
done-like Same text0 text stuck e other h k = absurd cc

halts-like : {A B : Type 0} (Same : A → B → Type 0) (text0 text : List ℕ) (e0 : Ending A) (e : Ending B) (cause : Cause) → EndsLike Same text0 text e0 e → e0 ≡ halts cause → (e ≡ halts cause) × (text ≡ text0)
halts-like {A = A} Same text0 text (halts cause) (halts other) its h k = (ap halts (h.1 ∙ same cause its k), h.0)
  where
    same : (x y : Cause) → ◌≡◌ {A = Ending A} (halts x) (halts y) → x ≡ y
    same x y e = cc
halts-like Same text0 text (halts cause) (done b) its h k = absurd h
halts-like Same text0 text (halts cause) stuck its h k = absurd h
halts-like Same text0 text (done a) e its h k = absurd cc
halts-like Same text0 text stuck e its h k = absurd cc

pub beneath_is_left : {Plan : Type 0} → BeneathIsLeft Plan
beneath_is_left set streams levels cell vertices cells above whole over =
    let c0 = machine.walk_cell set streams levels cell above in
    let c = machine.walk_cell set streams levels cell whole in
    let goes = walk-goes set streams vertices cells levels cell above whole over in
    record {
      walks = λ after ends. done-like (LiesOver vertices cells) c0.text c.text c0.ending c.ending after goes ends;
      halts = λ cause ends. halts-like (LiesOver vertices cells) c0.text c.text c0.ending c.ending cause goes ends;
    }
