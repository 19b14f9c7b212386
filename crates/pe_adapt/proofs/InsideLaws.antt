-- Vertices inside the root, and their carriers.
use Rattle.std.proofs.Common.{◌≡◌, ℕ, zero, suc, ◌+◌, ◌-◌, ◌*◌, ◌/◌, ◌%◌, ◌^◌, ◌<◌, ◌≤◌, Bool, true, false, ◌&&◌, List, [], ◌∷◌, length, map, take, drop, refl, sym, ap, subst, ◌∙◌, arith}
use Rattle.std.specs.Prelude.{slice_index, slice_get, nat_lt, ◌==◌, ◌||◌, not, if◌then◌else◌}
use Rattle.std.specs.List.{list_all, list_any, AllByRecursion as Each}
use Rattle.std.specs.Option.{option_map}
use Rattle.std.proofs.lemmas.Bool.{ltb-true, lt-ltb, eqb-true, eqb-false, eq-eqb, and_parts, and_from}
use Rattle.pe_base.specs.declared.place.Place.{Place}
use Rattle.pe_base.specs.declared.place.Digits.{Digits}
use Rattle.pe_base.specs.declared.state.State.{State}
use Rattle.pe_base.specs.Tree.Dim.{IsDim}
use Rattle.pe_base.specs.Tree.Places.{IsCellPlace, IsDigits, IsInside, bits, moved, corner, child_at, parent_of}
use Rattle.pe_base.specs.declared.kind.Kind.TheVariants.{Hanging}
use Rattle.pe_base.specs.Life.States.{is_old, is_new}
use Rattle.pe_base.specs.Life.Kinds.{is_inside, kind_from, level_one_kind}
use Rattle.pe_base.specs.Life.Carriers.{thirds, carriers, carrier_positions, passes, is_carried, kind_by}
use Rattle.pe_base.specs.Acts.Effects.{VertexRecord}
use Rattle.pe_base.proofs.Lists.{Each-weaker, Each-map, Each-flat_map}
use Rattle.pe_base.proofs.Tree.PlaceLaws.{length-bits}
use Rattle.pe_base.proofs.Steps.CornerPlaces.{length-moved}
use Rattle.pe_states.specs.Carriers.{carrier_numbers}
use Rattle.pe_states.proofs.CarrierLaws.{carriers_within, carrier_numbers-below}
use Rattle.pe_adapt.specs.Ages.{IsQuiet}
use Rattle.pe_adapt.specs.Touches.{corner_number, state_in_hand}
use Rattle.pe_adapt.proofs.KindLaws.{corner_number-corner, parent-cell}

between : (axes bound : ℕ) (pos : List ℕ) → list_all (λ x. nat_lt 0 x && nat_lt x bound) (take axes pos) ≡ true → (axis : ℕ) → axis < axes → axis < length pos
    → (0 < slice_index pos axis) × (slice_index pos axis < bound)
between axes bound [] all axis here inside = absurd (omega arith)
between zero bound (x ∷ xs) all axis here inside = absurd (omega arith)
between (suc axes) bound (x ∷ xs) all zero here inside =
    let tests = and_parts (nat_lt 0 x) (nat_lt x bound) (and_parts (nat_lt 0 x && nat_lt x bound) (list_all (λ y. nat_lt 0 y && nat_lt y bound) (take axes xs)) all).0 in
    (ltb-true 0 x tests.0, ltb-true x bound tests.1)
between (suc axes) bound (x ∷ xs) all (suc axis) here inside =
    between axes bound xs (and_parts (nat_lt 0 x && nat_lt x bound) (list_all (λ y. nat_lt 0 y && nat_lt y bound) (take axes xs)) all).1 axis (omega arith) (omega arith)

zeros : (axes : ℕ) (pos : List ℕ) → list_all (λ x. x == 0) (drop axes pos) ≡ true → (axis : ℕ) → axes ≤ axis → slice_index pos axis ≡ 0
zeros axes [] all axis behind = refl
zeros zero (x ∷ xs) all zero behind = eqb-true x 0 (and_parts (x == 0) (list_all (λ x. x == 0) xs) all).0
zeros zero (x ∷ xs) all (suc axis) behind = zeros zero xs (and_parts (x == 0) (list_all (λ x. x == 0) xs) all).1 axis (omega arith)
zeros (suc axes) (x ∷ xs) all zero behind = absurd (omega arith)
zeros (suc axes) (x ∷ xs) all (suc axis) behind = zeros axes xs all axis (omega arith)

-- a vertex that passes the test is inside
pub inside-is : (axes : ℕ) (vertex : Place) → axes ≤ 4 → vertex.level ≤ 20 → is_inside axes vertex ≡ true → IsInside axes vertex
inside-is axes vertex few level is =
    let between_test = list_all (λ x. nat_lt 0 x && nat_lt x (3 ^ vertex.level)) (take axes vertex.pos) in
    let zero_test = list_all (λ x. x == 0) (drop axes vertex.pos) in
    let all = and_parts (length vertex.pos == 4 && between_test) zero_test is in
    let front = and_parts (length vertex.pos == 4) between_test all.0 in
    let four : length vertex.pos ≡ 4 = eqb-true (length vertex.pos) 4 front.0 in
    record {
      level = level;
      pos = record {
        four = four;
        inside = λ axis here. (between axes (3 ^ vertex.level) vertex.pos front.1 axis here (omega arith)).1;
        rest = zeros axes vertex.pos all.1;
      };
      above = λ axis here. (between axes (3 ^ vertex.level) vertex.pos front.1 axis here (omega arith)).0;
    }

-- a vertex inside passes the test
front-passes : (axes bound : ℕ) (pos : List ℕ) → ((axis : ℕ) → axis < axes → slice_index pos axis < bound) → ((axis : ℕ) → axis < axes → 0 < slice_index pos axis)
    → list_all (λ x. nat_lt 0 x && nat_lt x bound) (take axes pos) ≡ true
front-passes zero bound [] below above = refl
front-passes zero bound (x ∷ xs) below above = refl
front-passes (suc axes) bound [] below above = refl
front-passes (suc axes) bound (x ∷ xs) below above =
    and_from (nat_lt 0 x && nat_lt x bound) _ (and_from (nat_lt 0 x) (nat_lt x bound) (lt-ltb 0 x (above 0 (omega arith))) (lt-ltb x bound (below 0 (omega arith))))
    (front-passes axes bound xs (λ axis here. below (suc axis) (omega arith)) (λ axis here. above (suc axis) (omega arith)))

rest-passes : (axes : ℕ) (pos : List ℕ) → ((axis : ℕ) → axes ≤ axis → slice_index pos axis ≡ 0) → list_all (λ x. x == 0) (drop axes pos) ≡ true
rest-passes zero [] rest = refl
rest-passes (suc axes) [] rest = refl
rest-passes zero (x ∷ xs) rest = and_from (x == 0) _ (eq-eqb x 0 (rest 0 (omega arith))) (rest-passes zero xs (λ axis behind. rest (suc axis) (omega arith)))
rest-passes (suc axes) (x ∷ xs) rest = rest-passes axes xs (λ axis behind. rest (suc axis) (omega arith))

pub inside-passes : (axes : ℕ) (vertex : Place) → IsInside axes vertex → is_inside axes vertex ≡ true
inside-passes axes vertex is =
    and_from _ _ (and_from _ _ (eq-eqb (length vertex.pos) 4 is.pos.four) (front-passes axes (3 ^ vertex.level) vertex.pos is.pos.inside is.above)) (rest-passes axes vertex.pos is.pos.rest)

-- a carrier lies within a third of its vertex, on each axis
record IsNear (os xs : List ℕ) : Type 0 where
  pub above : (axis : ℕ) → 0 < slice_index os axis → 0 < slice_index xs axis
  pub below : (axis bound : ℕ) → slice_index os axis < bound → slice_index xs axis < 3 * bound

near-cons : (o x : ℕ) (os xs : List ℕ) → (0 < o → 0 < x) → ((bound : ℕ) → o < bound → x < 3 * bound) → IsNear os xs → IsNear (o ∷ os) (x ∷ xs)
near-cons o x os xs above below near = record { above = over; below = under }
  where
    over : (axis : ℕ) → 0 < slice_index (o ∷ os) axis → 0 < slice_index (x ∷ xs) axis
    over zero some = above some
    over (suc axis) some = near.above axis some

    under : (axis bound : ℕ) → slice_index (o ∷ os) axis < bound → slice_index (x ∷ xs) axis < 3 * bound
    under zero bound less = below bound less
    under (suc axis) bound less = near.below axis bound less

record IsThird (o x : ℕ) : Type 0 where
  pub above : 0 < o → 0 < x
  pub below : (bound : ℕ) → o < bound → x < 3 * bound

third-above : (x : ℕ) → (x % 3 ≡ 0 → ⊥) → 0 < x
third-above zero part = absurd (part refl)
third-above (suc x) part = omega arith

are_thirds : (x : ℕ) (t : Bool) → (x % 3 == 0) ≡ t → Each (λ o. IsThird o x) (if t then (x / 3) ∷ [] else (x / 3) ∷ (x / 3 + 1) ∷ [])
are_thirds x true is =
    let even : x % 3 ≡ 0 = eqb-true (x % 3) 0 is in
    (record { above = λ some. omega arith; below = λ bound less. omega arith }, tt)
are_thirds x false is = (
  record { above = λ some. omega arith; below = λ bound less. omega arith },
  (record { above = λ some. third-above x (eqb-false (x % 3) 0 is); below = λ bound less. omega arith }, tt),
)

near-all : (xs : List ℕ) → Each (λ os. IsNear os xs) (carrier_positions xs)
near-all [] = (record { above = λ axis some. some; below = λ axis bound less. omega (arith, less) }, tt)
near-all (x ∷ xs) =
    Each-flat_map (λ os. IsNear os (x ∷ xs)) (λ y. map (λ ys. y ∷ ys) (carrier_positions xs)) (thirds x)
    (Each-weaker (λ o. IsThird o x) (λ o. Each (λ os. IsNear os (x ∷ xs)) (map (λ ys. o ∷ ys) (carrier_positions xs)))
    (λ o third. Each-map (λ os. IsNear os (x ∷ xs)) (λ ys. o ∷ ys) (carrier_positions xs)
    (Each-weaker (λ os. IsNear os xs) (λ os. IsNear (o ∷ os) (x ∷ xs)) (λ os near. near-cons o x os xs third.above third.below near) (carrier_positions xs) (near-all xs)))
    (thirds x) (are_thirds x (x % 3 == 0) refl))

each-both : {X : Type 0} (P Q : X → Type 0) (xs : List X) → Each P xs → Each Q xs → Each (λ x. P x × Q x) xs
each-both P Q [] e f = tt
each-both P Q (x ∷ xs) e f = ((e.0, f.0), each-both P Q xs e.1 f.1)

-- some item of a list passes a test, and each has a property
first-or : {X : Type 0} (test : X → Bool) (x : X) (later : Bool) (P : X → Type 0) → P x → (later ≡ true → (y : X) × P y × (test y ≡ true))
    → (t : Bool) → test x ≡ t → (t || later) ≡ true → (y : X) × P y × (test y ≡ true)
first-or test x later P here rest true is any = (x, here, is)
first-or test x later P here rest false is any = rest any

any-found : {X : Type 0} (P : X → Type 0) (test : X → Bool) (xs : List X) → list_any test xs ≡ true → Each P xs → (x : X) × P x × (test x ≡ true)
any-found P test [] any each = absurd (let no : false ≡ true = any in cc)
any-found P test (x ∷ xs) any each = first-or test x (list_any test xs) P each.0 (λ later. any-found P test xs later each.1) (test x) refl any

not-outside : (axes : ℕ) (vertex : Place) → axes ≤ 4 → vertex.level ≤ 20 → (is_inside axes vertex ≡ false → ⊥) → IsInside axes vertex
not-outside axes vertex few level in_ = at (is_inside axes vertex) refl
  where
    at : (t : Bool) → is_inside axes vertex ≡ t → IsInside axes vertex
    at true is = inside-is axes vertex few level is
    at false is = absurd (in_ is)

-- a corner with a carrier inside
corner-inside : (axes : ℕ) (cell : Place) (k : ℕ) (carrier : Place) → IsDim axes → IsCellPlace axes cell → 1 ≤ cell.level → k < 2 ^ axes → IsInside axes carrier
    → IsNear carrier.pos (corner axes cell k).pos → carrier.level ≡ cell.level - 1 → IsInside axes (corner axes cell k)
corner-inside axes cell k carrier within is deep below inside near level = record {
  level = is.level;
  pos = record {
    four = length-moved cell.pos (bits axes k) ∙ is.pos.four;
    inside = λ axis here. subst (λ b. slice_index (moved cell.pos (bits axes k)) axis < b) (thrice cell.level carrier.level deep level) (near.below axis (3 ^ carrier.level) (inside.pos.inside axis here));
    rest = λ axis behind. moved-rest cell.pos (bits axes k) axis (omega (arith, length-bits axes k)) ∙ is.pos.rest axis behind;
  };
  above = λ axis here. near.above axis (inside.above axis here);
}
  where
    thrice : (level lower : ℕ) → 1 ≤ level → lower ≡ level - 1 → 3 * 3 ^ lower ≡ 3 ^ level
    thrice zero lower deep is = absurd (omega arith)
    thrice (suc n) lower deep is = let same : lower ≡ n = omega arith in ap (λ l. 3 * 3 ^ l) same ∙ omega arith

    moved-rest : (pos bs : List ℕ) (axis : ℕ) → length bs ≤ axis → slice_index (moved pos bs) axis ≡ slice_index pos axis
    moved-rest [] bs axis behind = refl
    moved-rest (x ∷ xs) [] axis behind = refl
    moved-rest (x ∷ xs) (b ∷ bs) zero behind = absurd (omega arith)
    moved-rest (x ∷ xs) (b ∷ bs) (suc axis) behind = moved-rest xs bs axis (omega arith)

-- Of a cell's corner that has a carrier with a state that passes a test: where no corner of the parent on the boundary
-- passes it, the corner is inside.
pub carried-inside : (axes : ℕ) (cell : Place) (digits : Digits) (k : ℕ) (its : List VertexRecord) (test : State → Bool)
    → IsDim axes → IsCellPlace axes cell → 1 ≤ cell.level → IsDigits axes digits → cell ≡ child_at (parent_of cell) digits → k < 2 ^ axes
    → ((n : ℕ) → n < 2 ^ axes → is_inside axes (corner axes (parent_of cell) n) ≡ false → passes test (option_map (λ it. it.state) (slice_get its n)) ≡ false)
    → is_carried test (state_in_hand (parent_of cell) its) (corner axes cell k) ≡ true → IsInside axes (corner axes cell k)
carried-inside axes cell digits k its test within is deep fit child below quiet carried =
    let parent = parent_of cell in
    let vertex = corner axes cell k in
    let place = parent-cell axes cell is deep in
    let numbers = carrier_numbers axes digits k in
    let are : carriers vertex ≡ map (corner axes parent) numbers = ap (λ c. carriers (corner axes c k)) child ∙ carriers_within axes parent digits k within.1 place fit below in
    let IsCorner : Place → Type 0 = λ q. (n : ℕ) × (n < 2 ^ axes) × (q ≡ corner axes parent n) in
    let corners = subst (Each IsCorner) (sym are) (Each-map IsCorner (corner axes parent) numbers
    (Each-weaker (λ n. n < 2 ^ axes) (λ n. IsCorner (corner axes parent n)) (λ n small. (n, small, refl)) numbers (carrier_numbers-below axes digits k within.1 fit))) in
    let IsClose : Place → Type 0 = λ q. IsNear q.pos vertex.pos in
    let near = Each-map IsClose (λ pos. (let q : Place = record { level = vertex.level - 1; pos = pos } in q)) (carrier_positions vertex.pos) (near-all vertex.pos) in
    let seen = λ (q : Place). passes test (state_in_hand parent its q) in
    let found = any-found (λ q. IsCorner q × IsClose q) seen (carriers vertex) carried (each-both IsCorner IsClose (carriers vertex) corners near) in
    let n = found.1.0.0 in
    let aged : passes test (option_map (λ it. it.state) (slice_get its n)) ≡ true =
    sym (ap (λ j. passes test (option_map (λ it. it.state) (slice_get its j))) (ap (corner_number parent) found.1.0.2 ∙ corner_number-corner axes n parent within found.1.0.1 place.pos.four)) ∙ found.2 in
    let inside = not-outside axes (corner axes parent n) within.1 place.level (λ out. absurd (let no : true ≡ false = sym aged ∙ quiet n found.1.0.1 out in cc)) in
    corner-inside axes cell k (corner axes parent n) within is deep below inside (subst (λ q. IsNear q.pos vertex.pos) found.1.0.2 found.1.1) refl

-- a corner that counts is inside
pub kind-inside : (axes traversal : ℕ) (cell : Place) (digits : Digits) (k : ℕ) (its : List VertexRecord)
    → IsDim axes → IsCellPlace axes cell → 1 ≤ cell.level → IsDigits axes digits → cell ≡ child_at (parent_of cell) digits → k < 2 ^ axes
    → IsQuiet axes (parent_of cell) its
    → (kind_by axes traversal (state_in_hand (parent_of cell) its) (corner axes cell k) ≡ Hanging → ⊥) → IsInside axes (corner axes cell k)
kind-inside axes traversal cell digits k its within is deep fit child below quiet counts =
    by_level (cell.level == 1) refl
  where
    by_ages : (a b : Bool) → is_carried is_old (state_in_hand (parent_of cell) its) (corner axes cell k) ≡ a → is_carried is_new (state_in_hand (parent_of cell) its) (corner axes cell k) ≡ b → (kind_from a b ≡ Hanging → ⊥) → IsInside axes (corner axes cell k)
    by_ages true b is_old' is_new' counts = carried-inside axes cell digits k its is_old within is deep fit child below quiet.old is_old'
    by_ages false true is_old' is_new' counts = carried-inside axes cell digits k its is_new within is deep fit child below quiet.new is_new'
    by_ages false false is_old' is_new' counts = absurd (counts refl)

    first : (t : Bool) → is_inside axes (corner axes cell k) ≡ t → (kind_from (t && not (traversal == 1)) t ≡ Hanging → ⊥) → IsInside axes (corner axes cell k)
    first true inside counts = inside-is axes (corner axes cell k) within.1 is.level inside
    first false inside counts = absurd (counts refl)

    by_level : (t : Bool) → (cell.level == 1) ≡ t → IsInside axes (corner axes cell k)
    by_level true level = first (is_inside axes (corner axes cell k)) refl
        (λ hangs. counts (ap (λ t. if t then level_one_kind axes traversal (corner axes cell k) else kind_from (is_carried is_old (state_in_hand (parent_of cell) its) (corner axes cell k)) (is_carried is_new (state_in_hand (parent_of cell) its) (corner axes cell k))) level ∙ hangs))
    by_level false level = by_ages (is_carried is_old (state_in_hand (parent_of cell) its) (corner axes cell k)) (is_carried is_new (state_in_hand (parent_of cell) its) (corner axes cell k)) refl refl
        (λ hangs. counts (ap (λ t. if t then level_one_kind axes traversal (corner axes cell k) else kind_from (is_carried is_old (state_in_hand (parent_of cell) its) (corner axes cell k)) (is_carried is_new (state_in_hand (parent_of cell) its) (corner axes cell k))) level ∙ hangs))
