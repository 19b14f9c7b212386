-- The planes that are slower than one are those of the axes that are slower at the vertex.
use Rattle.std.proofs.Common.{◌≡◌, ℕ, zero, suc, ◌+◌, ◌*◌, ◌/◌, ◌%◌, ◌^◌, ◌<◌, ◌≤◌, Bool, true, false, ◌&&◌, ◌||◌, List, [], ◌∷◌, map, take, length, Option, sym, ap, ◌∙◌, subst, refl, inl, inr, arith, pow-suc}
use Rattle.std.specs.Prelude.{◌==◌, if◌then◌else◌, nat_lt, count_by, slice_index}
use Rattle.std.specs.List.{range_with_len, zip}
use Rattle.std.proofs.Math.Nat.{mul-mod_right, div-add-mod}
use Rattle.std.proofs.lemmas.Bool.{eqb-true, eqb-false, ne_eqb, lt-ltb, le-ltb, false≢true, cases_lt, cases_Bool}
use Rattle.std.proofs.lemmas.List.{get_or-take, length-map}
use Rattle.std.proofs.lemmas.List.Sums.{sum_by-cons}
use Rattle.std.proofs.Math.Bool.{and-false, and-true}
use Rattle.pe_base.specs.declared.place.Place.{Place}
use Rattle.pe_base.specs.declared.way.Way.{Way}
use Rattle.pe_base.specs.Tree.Places.{IsInside, at}
use Rattle.pe_base.specs.Steps.Around.{around, steps, threes, is_slower, crossings}
use Rattle.pe_base.specs.Steps.Routes.{way_turns, axis_of}
use Rattle.pe_base.proofs.Steps.Walks.{Path}
use Rattle.pe_base.proofs.Steps.AroundInCell.{Spot, coarse, two, two_on, Crosses}
use Rattle.pe_base.proofs.Steps.Levels.{holders, entry}
use Rattle.pe_base.proofs.Steps.AroundAsGrid.{spots, around-holders}
use Rattle.pe_base.proofs.Steps.RouteLaws.{Below-front, length-front, at-front, round_at, steps-round, axis_of-step, fits_vertex}
use Rattle.pe_base.proofs.Steps.CrossingLaws.{one, tally, is_axis, ons, on_at, two_at, before, Strict, strict-at, strict-coarse, slow, crossed-slow, at-old, size}
use Rattle.pe_base.proofs.Tree.Corners.{same_tests}

-- how often a plane of a point goes on to the level above
abbrev pub times : ℕ → Spot → ℕ
times zero s = 0
times (suc level) s = if s.on && s.x % 3 == 0 then suc (times level (coarse s)) else 0

-- the k-th axis is slower than axis i, whose plane goes on d times
abbrev pub slower : ℕ → ℕ → ℕ → ℕ → Spot → Bool
slower level k i d s = s.on && (nat_lt d (times level s) || (times level s == d && nat_lt k i))

abbrev pub slowers : ℕ → ℕ → ℕ → ℕ → List Spot → ℕ
slowers level k i d [] = 0
slowers level k i d (s ∷ ss) = one (slower level k i d s) + slowers level (k + 1) i d ss

-- how many axes from the k-th on that come before axis i split the cell
abbrev before_from : ℕ → ℕ → List Spot → ℕ
before_from k i [] = 0
before_from k i (s ∷ ss) = one (two s.x s.on && nat_lt k i) + before_from (k + 1) i ss

before_from-past : (k i : ℕ) (ss : List Spot) → i ≤ k → before_from k i ss ≡ 0
before_from-past k i [] h = refl
before_from-past k i (s ∷ ss) h =
    ap (λ v. one (two s.x s.on && v) + before_from (k + 1) i ss) (le-ltb k i h)
    ∙ ap (λ v. one v + before_from (k + 1) i ss) (and-false (two s.x s.on))
    ∙ omega (arith, before_from-past (k + 1) i ss (omega arith))

before_from-is : (k i m : ℕ) (ss : List Spot) → i ≡ k + m → before_from k i ss ≡ before m ss
before_from-is k i m [] e = refl
before_from-is k i zero (s ∷ ss) e = before_from-past k i (s ∷ ss) (omega arith)
before_from-is k i (suc m) (s ∷ ss) e =
    ap (λ v. one (two s.x s.on && v) + before_from (k + 1) i ss) (lt-ltb k i (omega arith))
    ∙ ap (λ v. one v + before_from (k + 1) i ss) (and-true (two s.x s.on))
    ∙ ap (λ n. one (two s.x s.on) + n) (before_from-is (k + 1) i m ss (omega arith))

-- at an axis whose plane is new
new-slower : (on whole first : Bool) (e : ℕ) → let n = if on && whole then suc e else 0 in one (on && (nat_lt 0 n || (n == 0 && first))) ≡ one (on && whole) + one (two_on on whole && first)
new-slower true true first e = ap (λ v. one (v || (suc e == 0 && first))) (lt-ltb 0 (suc e) (omega arith))
new-slower true false true e = refl
new-slower true false false e = refl
new-slower false whole first e = refl

new-slowers : (level k i : ℕ) (ss : List Spot) → slowers (suc level) k i 0 ss ≡ ons (map coarse ss) + before_from k i ss
new-slowers level k i [] = refl
new-slowers level k i (s ∷ ss) = omega (arith, new-slower s.on (s.x % 3 == 0) (nat_lt k i) (times level (coarse s)), new-slowers level (k + 1) i ss)

lt-suc : (a b : ℕ) → nat_lt (suc a) (suc b) ≡ nat_lt a b
lt-suc a b = elim (cases_lt a b) [
  | inl h ↦ lt-ltb (suc a) (suc b) (omega arith) ∙ sym (lt-ltb a b h)
  | inr h ↦ le-ltb (suc a) (suc b) (omega arith) ∙ sym (le-ltb a b h)
]

-- at an axis whose plane goes on
old-slower : (on whole first : Bool) (d e : ℕ) → let n = if on && whole then suc e else 0 in (on && (nat_lt (suc d) n || (n == suc d && first))) ≡ ((on && whole) && (nat_lt d e || (e == d && first)))
old-slower true true first d e =
    ap (λ v. v || (suc e == suc d && first)) (lt-suc d e) ∙ ap (λ v. nat_lt d e || (v && first)) (same_tests (suc e) (suc d) e d (λ h. omega arith) (λ h. omega arith))
old-slower true false first d e =
    ap (λ v. v || (0 == suc d && first)) (le-ltb (suc d) 0 (omega arith)) ∙ ap (λ v. v && first) (ne_eqb 0 (suc d) (λ h. omega arith))
old-slower false whole first d e = refl

old-slowers : (level k i d : ℕ) (ss : List Spot) → slowers (suc level) k i (suc d) ss ≡ slowers level k i d (map coarse ss)
old-slowers level k i d [] = refl
old-slowers level k i d (s ∷ ss) =
    let head : one (slower (suc level) k i (suc d) s) ≡ one (slower level k i d (coarse s)) = ap one (old-slower s.on (s.x % 3 == 0) (nat_lt k i) d (times level (coarse s))) in
    let tail = old-slowers level (k + 1) i d ss in
    cc

abbrev pub times_at : ℕ → ℕ → List Spot → ℕ
times_at level i [] = 0
times_at level zero (s ∷ ss) = times level s
times_at level (suc i) (s ∷ ss) = times_at level i ss

times-new : (on whole : Bool) (e : ℕ) → two_on on whole ≡ true → (if on && whole then suc e else 0) ≡ 0
times-new false whole e h = absurd (false≢true h)
times-new true true e h = absurd (false≢true h)
times-new true false e h = refl

times-old : (on whole : Bool) (e : ℕ) → two_on on whole ≡ false → on ≡ true → (if on && whole then suc e else 0) ≡ suc e
times-old false whole e h k = absurd (false≢true k)
times-old true true e h k = refl
times-old true false e h k = absurd (false≢true (sym h))

times_at-new : (level i : ℕ) (ss : List Spot) → two_at i ss ≡ true → times_at (suc level) i ss ≡ 0
times_at-new level i [] h = refl
times_at-new level zero (s ∷ ss) h = times-new s.on (s.x % 3 == 0) (times level (coarse s)) h
times_at-new level (suc i) (s ∷ ss) h = times_at-new level i ss h

times_at-old : (level i : ℕ) (ss : List Spot) → two_at i ss ≡ false → on_at i ss ≡ true → times_at (suc level) i ss ≡ suc (times_at level i (map coarse ss))
times_at-old level i [] h k = absurd (false≢true k)
times_at-old level zero (s ∷ ss) h k = times-old s.on (s.x % 3 == 0) (times level (coarse s)) h k
times_at-old level (suc i) (s ∷ ss) h k = times_at-old level i ss h k

slow-slowers : (level i : ℕ) (ss : List Spot) → on_at i ss ≡ true → Strict level ss → slow level ss i ≡ slowers level 0 i (times_at level i ss) ss
slow-slowers zero i ss on strict = absurd (false≢true (sym (strict-at i ss strict) ∙ on))
slow-slowers (suc level) i ss on strict =
    let above = map coarse ss in
    elim (cases_Bool (two_at i ss)) [
      | inl e ↦
          ap (λ v. if v then ons above + before i ss else slow level above i) e
          ∙ ap (λ n. ons above + n) (sym (before_from-is 0 i i ss (omega arith)))
          ∙ sym (new-slowers level 0 i ss) ∙ ap (λ d. slowers (suc level) 0 i d ss) (sym (times_at-new level i ss e))
      | inr e ↦
          ap (λ v. if v then ons above + before i ss else slow level above i) e
          ∙ slow-slowers level i above (at-old i ss e ∙ on) (strict-coarse level ss strict)
          ∙ sym (old-slowers level 0 i (times_at level i above) ss) ∙ ap (λ d. slowers (suc level) 0 i d ss) (sym (times_at-old level i ss e on))
    ]

pub count-tally : {X : Type 0} (p : X → Bool) (xs : List X) → count_by p xs ≡ tally p xs
count-tally p [] = refl
count-tally p (x ∷ xs) = sum_by-cons (λ x. one (p x)) x xs ∙ ap (λ n. one (p x) + n) (count-tally p xs)

-- a third is divided once less often
third-divided : (q n : ℕ) → q % 3 ≡ 0 → (q % 3 ^ (n + 1) == 0) ≡ (q / 3 % 3 ^ n == 0)
third-divided q n h =
    let m = 3 ^ n in
    let power : 3 ^ (n + 1) ≡ m * 3 = let next : n + 1 ≡ suc n = omega arith in ap (λ (k : ℕ). 3 ^ k) next ∙ pow-suc 3 n in
    let whole = div-add-mod q (m * 3) in
    let part = div-add-mod (q / 3) m in
    let there : q % (m * 3) ≡ 0 → q / 3 % m ≡ 0 = λ e.
    let third : q / 3 ≡ m * (q / (m * 3)) = omega (arith, whole, e) in
    ap (λ (k : ℕ). k % m) third ∙ mul-mod_right m (q / (m * 3)) in
    let back : q / 3 % m ≡ 0 → q % (m * 3) ≡ 0 = λ e.
    let all : q ≡ (m * 3) * (q / 3 / m) = omega (arith, part, e, h) in
    ap (λ (k : ℕ). k % (m * 3)) all ∙ mul-mod_right (m * 3) (q / 3 / m) in
    ap (λ (k : ℕ). q % k == 0) power ∙ same_tests (q % (m * 3)) 0 (q / 3 % m) 0 there back

not-divided : (q n : ℕ) → (q % 3 ≡ 0 → ⊥) → (q % 3 ^ (n + 1) == 0) ≡ false
not-divided q n h =
    let m = 3 ^ n in
    let power : 3 ^ (n + 1) ≡ m * 3 = let next : n + 1 ≡ suc n = omega arith in ap (λ (k : ℕ). 3 ^ k) next ∙ pow-suc 3 n in
    let whole = div-add-mod q (m * 3) in
    ap (λ (k : ℕ). q % k == 0) power ∙ ne_eqb (q % (m * 3)) 0 (λ e.
    let all : q ≡ 3 * (m * (q / (m * 3))) = omega (arith, whole, e) in
    h (ap (λ (k : ℕ). k % 3) all ∙ mul-mod_right 3 (m * (q / (m * 3)))))

divided-more : (q k level : ℕ) → q % 3 ≡ 0 → tally (λ n. q % 3 ^ n == 0) (range_with_len (k + 1) level) ≡ tally (λ n. q / 3 % 3 ^ n == 0) (range_with_len k level)
divided-more q k zero h = refl
divided-more q k (suc level) h =
    let head = third-divided q k h in
    let tail = divided-more q (k + 1) level h in
    cc

divided-none : (q k level : ℕ) → (q % 3 ≡ 0 → ⊥) → tally (λ n. q % 3 ^ n == 0) (range_with_len (k + 1) level) ≡ 0
divided-none q k zero h = refl
divided-none q k (suc level) h = ap (λ v. one v + tally (λ n. q % 3 ^ n == 0) (range_with_len (k + 1 + 1) level)) (not-divided q k h) ∙ omega (arith, divided-none q (k + 1) level h)

-- a plane goes on as often as 3 divides its coordinate
pub threes-times : (level q : ℕ) → tally (λ n. q % 3 ^ n == 0) (range_with_len 1 level) ≡ times level (record { x = q; on = true })
threes-times zero q = refl
threes-times (suc level) q =
    let total : Bool → Type 0 = λ v. tally (λ n. q % 3 ^ n == 0) (range_with_len 1 (suc level)) ≡ (if v then suc (times level (record { x = q / 3; on = v })) else 0) in
    elim (cases_Bool (q % 3 == 0)) [
      | inl e ↦
          let whole : q % 3 ≡ 0 = eqb-true (q % 3) 0 e in
          let first : (q % 3 ^ 1 == 0) ≡ true = e in
          let rest : tally (λ n. q % 3 ^ n == 0) (range_with_len (1 + 1) level) ≡ times level (record { x = q / 3; on = true }) = divided-more q 1 level whole ∙ threes-times level (q / 3) in
          subst total (sym e) (ap (λ v. one v + tally (λ n. q % 3 ^ n == 0) (range_with_len (1 + 1) level)) first ∙ omega (arith, rest))
      | inr e ↦ subst total (sym e) (divided-none q 0 (suc level) (eqb-false (q % 3) 0 e))
    ]

-- the slower planes of a vertex, axis by axis
slowers-count : (level k i d : ℕ) (degree : ℕ → ℕ) (qs : List ℕ) → ((m : ℕ) → m < length qs → degree (k + m) ≡ times level (record { x = slice_index qs m; on = true })) → slowers level k i d (spots qs) ≡ tally (λ j. nat_lt d (degree j) || (degree j == d && nat_lt j i)) (range_with_len k (length qs))
slowers-count level k i d degree [] same = refl
slowers-count level k i d degree (q ∷ qs) same =
    let here : degree k ≡ times level (record { x = q; on = true }) = (let none : k ≡ k + 0 = omega arith in ap degree none) ∙ same 0 (omega arith) in
    let head : one (slower level k i d (record { x = q; on = true })) ≡ one (nat_lt d (degree k) || (degree k == d && nat_lt k i)) = ap (λ (n : ℕ). one (nat_lt d n || (n == d && nat_lt k i))) (sym here) in
    let tail = slowers-count level (k + 1) i d degree qs (λ m h. (let next : k + 1 + m ≡ k + suc m = omega arith in ap degree next) ∙ same (suc m) (omega arith)) in
    cc

on_at-spots : (i : ℕ) (qs : List ℕ) → i < length qs → on_at i (spots qs) ≡ true
on_at-spots i [] h = absurd (omega arith)
on_at-spots zero (q ∷ qs) h = refl
on_at-spots (suc i) (q ∷ qs) h = on_at-spots i qs (omega arith)

times_at-spots : (level i : ℕ) (qs : List ℕ) → i < length qs → times_at level i (spots qs) ≡ times level (record { x = slice_index qs i; on = true })
times_at-spots level i [] h = absurd (omega arith)
times_at-spots level zero (q ∷ qs) h = refl
times_at-spots level (suc i) (q ∷ qs) h = times_at-spots level i qs (omega arith)

strict-spots : (level axes : ℕ) (pos : List ℕ) → ((i : ℕ) → i < axes → 0 < slice_index pos i) → ((i : ℕ) → i < axes → slice_index pos i < 3 ^ level) → Strict level (spots (take axes pos))
strict-spots level zero pos above below = tt
strict-spots level (suc axes) [] above below = tt
strict-spots level (suc axes) (q ∷ pos) above below =
    (λ e. (above 0 (omega arith), below 0 (omega arith)), strict-spots level axes pos (λ i h. above (suc i) (omega arith)) (λ i h. below (suc i) (omega arith)))

-- the steps that cross an axis are those to the cells that are entered across it
path-count : (f g : List ℕ → Option ℕ) (ss : List Spot) (level i : ℕ) (a : List ℕ) (xs : List (List ℕ)) (z : List ℕ) → Path f g (Crosses ss) a xs z → tally (λ step. axis_of step == i) (zip (map (at level) (a ∷ xs)) (map (at level) xs)) ≡ tally (λ c. is_axis i (f c)) xs
path-count f g ss level i a [] z path = refl
path-count f g ss level i a (b ∷ xs) z path =
    let step = path.0 in
    let head : one (axis_of (at level a, at level b) == i) ≡ one (is_axis i (f b)) = ap (λ (n : ℕ). one (n == i)) (axis_of-step ss level step.axis a b step.crosses) ∙ ap (λ o. one (is_axis i o)) (sym step.entered) in
    let tail = path-count f g ss level i b xs z path.1 in
    cc

-- each axis is crossed so often
pub crossings-count : (axes : ℕ) (way : Way) (vertex : Place) (axis : ℕ) → axes ≤ 4 → axis < axes → IsInside axes vertex → count_by (λ step. axis_of step == axis) (steps (around axes way vertex)) ≡ crossings axes vertex axis
crossings-count axes way vertex axis few within h =
    let level = vertex.level in
    let w = way_turns way in
    let bound = 3 ^ level in
    let qs = take axes vertex.pos in
    let ss = spots qs in
    let len : length qs ≡ axes = length-front axes bound vertex.pos few h.pos in
    let below = Below-front axes bound vertex.pos h.pos.inside in
    let r = round_at axes w level qs len below in
    let f = entry w level ss in
    let inside : axis < length qs = omega arith in
    let on : on_at axis ss ≡ true = on_at-spots axis qs inside in
    let strict : Strict level ss = strict-spots level axes vertex.pos h.above h.pos.inside in
    let degree : ℕ → ℕ = λ j. threes level (slice_index vertex.pos j) in
    let same : (m : ℕ) → m < length qs → degree (0 + m) ≡ times level (record { x = slice_index qs m; on = true }) = λ m k.
    let coordinate : slice_index vertex.pos (0 + m) ≡ slice_index qs m = (let none : 0 + m ≡ m = omega arith in ap (slice_index vertex.pos) none) ∙ sym (get_or-take axes vertex.pos m 0 (omega arith)) in
    ap (threes level) coordinate ∙ count-tally (λ n. slice_index qs m % 3 ^ n == 0) (range_with_len 1 level) ∙ threes-times level (slice_index qs m) in
    let here : degree axis ≡ times_at level axis ss = (let none : axis ≡ 0 + axis = omega arith in ap degree none) ∙ same axis inside ∙ sym (times_at-spots level axis qs inside) in
    let slower-count : slow level ss axis ≡ count_by (λ j. is_slower vertex j axis) (range_with_len 0 axes) =
    slow-slowers level axis ss on strict
    ∙ slowers-count level 0 axis (times_at level axis ss) degree qs same
    ∙ ap (λ (d : ℕ). tally (λ j. nat_lt d (degree j) || (degree j == d && nat_lt j axis)) (range_with_len 0 (length qs))) (sym here)
    ∙ ap (λ (n : ℕ). tally (λ j. is_slower vertex j axis) (range_with_len 0 n)) len
    ∙ sym (count-tally (λ j. is_slower vertex j axis) (range_with_len 0 axes)) in
    let seen : tally (λ c. is_axis axis (f c)) (holders axes w level ss) ≡ tally (λ c. is_axis axis (f c)) r.walk.rest =
    ap (tally (λ c. is_axis axis (f c))) r.walk.is ∙ ap (λ o. one (is_axis axis o) + tally (λ c. is_axis axis (f c)) r.walk.rest) r.walk.starts ∙ omega arith in
    let place : steps (around axes way vertex) ≡ zip (map (at level) (r.first ∷ r.walk.rest)) (map (at level) r.walk.rest) =
    ap (λ (v : Place). steps (around axes way v)) (at-front axes bound vertex few h.pos) ∙ steps-round axes level way qs len few r in
    ap (count_by (λ step. axis_of step == axis)) place
    ∙ count-tally (λ step. axis_of step == axis) (zip (map (at level) (r.first ∷ r.walk.rest)) (map (at level) r.walk.rest))
    ∙ path-count f (entry (suc w) level ss) ss level axis r.first r.walk.rest r.last r.walk.path
    ∙ sym seen
    ∙ crossed-slow axes w level axis ss (fits_vertex axes level qs len below) strict
    ∙ ap (λ v. if v then 2 ^ slow level ss axis else 0) on
    ∙ ap (λ (n : ℕ). 2 ^ n) slower-count

-- as many cells as corners
ons-spots : (qs : List ℕ) → ons (spots qs) ≡ length qs
ons-spots [] = refl
ons-spots (q ∷ qs) = omega (arith, ons-spots qs)

pub length-around : (axes : ℕ) (way : Way) (vertex : Place) → axes ≤ 4 → IsInside axes vertex → length (around axes way vertex) ≡ 2 ^ axes
length-around axes way vertex few h =
    let level = vertex.level in
    let bound = 3 ^ level in
    let qs = take axes vertex.pos in
    let len : length qs ≡ axes = length-front axes bound vertex.pos few h.pos in
    let below = Below-front axes bound vertex.pos h.pos.inside in
    let w = way_turns way in
    ap (λ (v : Place). length (around axes way v)) (at-front axes bound vertex few h.pos)
    ∙ ap length (around-holders axes level way qs len few)
    ∙ length-map (holders axes w level (spots qs)) (at level)
    ∙ size axes w level (spots qs) (fits_vertex axes level qs len below) (strict-spots level axes vertex.pos h.above h.pos.inside)
    ∙ ap (λ (n : ℕ). 2 ^ n) (ons-spots qs ∙ len)
