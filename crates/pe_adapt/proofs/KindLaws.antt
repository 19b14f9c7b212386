-- The kinds of a cell's corners, by the ages of its parent's.
use Rattle.std.proofs.Common.{◌≡◌, ℕ, ℤ, ◌&&◌, zero, suc, ◌+◌, ◌-◌, ◌*◌, ◌/◌, ◌^◌, ◌<◌, ◌≤◌, Bool, true, false, List, [], ◌∷◌, length, map, Option, Some, None, IsSome, refl, sym, ap, subst, ◌∙◌, arith}
use Rattle.std.specs.Prelude.{slice_index, slice_get, if◌then◌else◌, ◌==◌, ◌||◌}
use Rattle.std.specs.List.{list_any}
use Rattle.std.specs.Option.{option_map}
use Rattle.std.proofs.lemmas.Option.{slice_get-map}
use Rattle.pe_base.specs.declared.place.Place.{Place}
use Rattle.pe_base.specs.declared.place.Digits.{Digits}
use Rattle.pe_base.specs.declared.state.State.{State}
use Rattle.pe_base.specs.Tree.Dim.{IsDim}
use Rattle.pe_base.specs.Tree.Places.{IsPosition, IsCellPlace, IsDigits, bits, moved, corner, root, child_at, parent_of}
use Rattle.pe_base.specs.Life.States.{is_old, is_new}
use Rattle.pe_base.specs.Life.Kinds.{kind_from, level_one_kind}
use Rattle.pe_base.specs.Life.Carriers.{passes, is_carried, kind_by}
use Rattle.pe_base.specs.Acts.Effects.{VertexRecord}
use Rattle.std.proofs.lemmas.Bool.Decides.{nat_tests}
use Rattle.std.proofs.lemmas.Bool.{eq-eqb}
use Rattle.std.proofs.Math.Bool.{or-false}
use Rattle.pe_base.proofs.Lists.{Each-weaker, list_any_same}
use Rattle.pe_base.proofs.Tree.PlaceLaws.{IsPosition-below}
use Rattle.pe_stacks.specs.declared.record.Vertex.{Vertex}
use Rattle.pe_stacks.specs.Corners.{CornerList, vertex_at, vertices_of, IsFull}
use Rattle.pe_stacks.proofs.FullCorners.{vertices_of-full}
use Rattle.pe_stacks.specs.Sights.{record_of, corner_records}
use Rattle.pe_states.specs.Carriers.{carrier_numbers}
use Rattle.pe_states.specs.Ages.{is_old_at, is_new_at, some_carrier, is_first_old, is_first_new}
use Rattle.pe_base.proofs.Tests.{any_map}
use Rattle.pe_states.proofs.CarrierLaws.{carriers_within, carrier_numbers-below}
use Rattle.pe_adapt.specs.Touches.{offset_number, corner_number, state_in_hand}
use Rattle.pe_adapt.specs.Ages.{AreAgesOf}

-- the number of a corner
number_pos : (axes x y z w k : ℕ) → 2 ≤ axes → axes ≤ 4 → k < 2 ^ axes → offset_number 1 (moved (x ∷ y ∷ z ∷ w ∷ []) (bits axes k)) (x ∷ y ∷ z ∷ w ∷ []) ≡ k
number_pos zero x y z w k low high below = absurd (omega arith)
number_pos (suc zero) x y z w k low high below = absurd (omega arith)
number_pos (suc (suc zero)) x y z w k low high below = omega arith
number_pos (suc (suc (suc zero))) x y z w k low high below = omega arith
number_pos (suc (suc (suc (suc zero)))) x y z w k low high below = omega arith
number_pos (suc (suc (suc (suc (suc n))))) x y z w k low high below = absurd (omega arith)

number_four : (axes k : ℕ) (pos : List ℕ) → 2 ≤ axes → axes ≤ 4 → k < 2 ^ axes → length pos ≡ 4 → offset_number 1 (moved pos (bits axes k)) pos ≡ k
number_four axes k [] low high below four = absurd (omega arith)
number_four axes k (x ∷ []) low high below four = absurd (omega arith)
number_four axes k (x ∷ y ∷ []) low high below four = absurd (omega arith)
number_four axes k (x ∷ y ∷ z ∷ []) low high below four = absurd (omega arith)
number_four axes k (x ∷ y ∷ z ∷ w ∷ []) low high below four = number_pos axes x y z w k low high below
number_four axes k (x ∷ y ∷ z ∷ w ∷ v ∷ pos) low high below four = absurd (omega arith)

pub corner_number-corner : (axes k : ℕ) (cell : Place) → IsDim axes → k < 2 ^ axes → length cell.pos ≡ 4 → corner_number cell (corner axes cell k) ≡ k
corner_number-corner axes k cell within below four = number_four axes k cell.pos within.0 within.1 below four

-- a cell's parent is a cell
third : (x bound : ℕ) → x < 3 * bound → x / 3 < bound
third x bound below = omega arith

parent_four : (pos : List ℕ) (axis : ℕ) → slice_index (map (λ x. x / 3) pos) axis ≡ slice_index pos axis / 3
parent_four [] axis = refl
parent_four (x ∷ xs) zero = refl
parent_four (x ∷ xs) (suc axis) = parent_four xs axis

long : (pos : List ℕ) → length (map (λ x. x / 3) pos) ≡ length pos
long [] = refl
long (x ∷ xs) = ap suc (long xs)

pub parent-cell : (axes : ℕ) (cell : Place) → IsCellPlace axes cell → 1 ≤ cell.level → IsCellPlace axes (parent_of cell)
parent-cell axes cell is deep = of cell.level cell.pos is.level is.pos deep
  where
    of : (level : ℕ) (pos : List ℕ) → level ≤ 20 → IsPosition axes (3 ^ level) pos → 1 ≤ level → IsCellPlace axes (record { level = level - 1; pos = map (λ x. x / 3) pos })
    of zero pos few at deep = absurd (omega arith)
    of (suc n) pos few at deep =
        let e : suc n - 1 ≡ n = omega arith in
        subst (λ l. IsCellPlace axes (let p : Place = record { level = l; pos = map (λ x. x / 3) pos } in p)) (sym e)
        (record {
          level = omega arith;
          pos = record {
            four = long pos ∙ at.four;
            inside = λ axis here.
                let below : slice_index pos axis < 3 ^ (suc n) = at.inside axis here in
                subst (λ x. x < 3 ^ n) (sym (parent_four pos axis)) (third (slice_index pos axis) (3 ^ n) (omega (arith, below)));
            rest = λ axis behind. parent_four pos axis ∙ ap (λ x. x / 3) (at.rest axis behind);
          };
        })

-- a cell of level 1 is the root's child
small : (axes x : ℕ) (pos : List ℕ) (axis : ℕ) → axes ≤ 4 → IsPosition axes 3 pos → slice_index pos axis / 3 ≡ 0
small axes x pos axis few is = omega (arith, IsPosition-below axes 3 pos (omega arith) is axis)

thirds_of : (axes : ℕ) (pos : List ℕ) → axes ≤ 4 → IsPosition axes 3 pos → length pos ≡ 4 → map (λ x. x / 3) pos ≡ 0 ∷ 0 ∷ 0 ∷ 0 ∷ []
thirds_of axes [] few is four = absurd (omega arith)
thirds_of axes (x ∷ []) few is four = absurd (omega arith)
thirds_of axes (x ∷ y ∷ []) few is four = absurd (omega arith)
thirds_of axes (x ∷ y ∷ z ∷ []) few is four = absurd (omega arith)
thirds_of axes (x ∷ y ∷ z ∷ w ∷ []) few is four =
    let a : x / 3 ≡ 0 = small axes 0 (x ∷ y ∷ z ∷ w ∷ []) 0 few is in
    let b : y / 3 ≡ 0 = small axes 0 (x ∷ y ∷ z ∷ w ∷ []) 1 few is in
    let c : z / 3 ≡ 0 = small axes 0 (x ∷ y ∷ z ∷ w ∷ []) 2 few is in
    let d : w / 3 ≡ 0 = small axes 0 (x ∷ y ∷ z ∷ w ∷ []) 3 few is in
    cc
thirds_of axes (x ∷ y ∷ z ∷ w ∷ v ∷ pos) few is four = absurd (omega arith)

pub parent-root : (axes : ℕ) (cell : Place) → axes ≤ 4 → IsCellPlace axes cell → cell.level ≡ 1 → parent_of cell ≡ root
parent-root axes cell few is first =
    let at : IsPosition axes 3 cell.pos = subst (λ l. IsPosition axes (3 ^ l) cell.pos) first is.pos in
    ap (λ l. (let p : Place = record { level = l - 1; pos = map (λ x. x / 3) cell.pos } in p)) first
    ∙ ap (λ q. (let p : Place = record { level = 0; pos = q } in p)) (thirds_of axes cell.pos few at at.four)

-- a test of the states of corners in hand
carried-in_hand : (axes : ℕ) (parent : Place) (digits : Digits) (k : ℕ) (its : List VertexRecord) (test : State → Bool) (aged : ℕ → Bool)
    → IsDim axes → IsCellPlace axes parent → IsDigits axes digits → k < 2 ^ axes
    → ((n : ℕ) → n < 2 ^ axes → aged n ≡ passes test (option_map (λ it. it.state) (slice_get its n)))
    → some_carrier axes digits k aged ≡ is_carried test (state_in_hand parent its) (corner axes (child_at parent digits) k)
carried-in_hand axes parent digits k its test aged within is fit below same =
    let seen = λ (q : Place). passes test (state_in_hand parent its q) in
    list_any_same aged (λ n. seen (corner axes parent n)) (carrier_numbers axes digits k)
    (Each-weaker (λ n. n < 2 ^ axes) (λ n. aged n ≡ seen (corner axes parent n))
    (λ n small. same n small ∙ ap (λ j. passes test (option_map (λ it. it.state) (slice_get its j))) (sym (corner_number-corner axes n parent within small is.pos.four)))
    (carrier_numbers axes digits k) (carrier_numbers-below axes digits k within.1 fit))
    ∙ sym (any_map seen (corner axes parent) (carrier_numbers axes digits k))
    ∙ ap (λ places. list_any seen places) (sym (carriers_within axes parent digits k within.1 is fit below))

-- the kind of a corner below level 1
pub kind-carried : (axes traversal : ℕ) (cell : Place) (digits : Digits) (k : ℕ) (its : List VertexRecord) (ages ages' : ℕ)
    → IsDim axes → IsCellPlace axes cell → 1 ≤ cell.level → (cell.level ≡ 1 → ⊥) → IsDigits axes digits → cell ≡ child_at (parent_of cell) digits → k < 2 ^ axes → AreAgesOf axes its ages
    → is_old_at ages' k ≡ some_carrier axes digits k (is_old_at ages) → is_new_at ages' k ≡ some_carrier axes digits k (is_new_at ages)
    → kind_from (is_old_at ages' k) (is_new_at ages' k) ≡ kind_by axes traversal (state_in_hand (parent_of cell) its) (corner axes cell k)
kind-carried axes traversal cell digits k its ages ages' within is deep later fit child below are olds news =
    let parent = parent_of cell in
    let place = parent-cell axes cell is deep in
    let old = olds ∙ carried-in_hand axes parent digits k its is_old (is_old_at ages) within place fit below are.old
    ∙ ap (λ c. is_carried is_old (state_in_hand parent its) (corner axes c k)) (sym child) in
    let new = news ∙ carried-in_hand axes parent digits k its is_new (is_new_at ages) within place fit below are.new
    ∙ ap (λ c. is_carried is_new (state_in_hand parent its) (corner axes c k)) (sym child) in
    let deeper : (cell.level == 1) ≡ false = grind (arith, nat_tests) in
    ap (λ b. kind_from b (is_new_at ages' k)) old ∙ ap (λ b. kind_from (is_carried is_old (state_in_hand parent its) (corner axes cell k)) b) new
    ∙ sym (ap (λ b. if b then level_one_kind axes traversal (corner axes cell k) else kind_from (is_carried is_old (state_in_hand parent its) (corner axes cell k)) (is_carried is_new (state_in_hand parent its) (corner axes cell k))) deeper)

-- and on level 1
pub kind-first : (axes traversal : ℕ) (cell : Place) (digits : Digits) (k : ℕ) (its : List VertexRecord) (ages' : ℕ)
    → IsDim axes → IsCellPlace axes cell → cell.level ≡ 1 → cell ≡ child_at (parent_of cell) digits
    → is_old_at ages' k ≡ is_first_old axes digits traversal k → is_new_at ages' k ≡ is_first_new axes digits k
    → kind_from (is_old_at ages' k) (is_new_at ages' k) ≡ kind_by axes traversal (state_in_hand (parent_of cell) its) (corner axes cell k)
kind-first axes traversal cell digits k its ages' within is first child olds news =
    let from_root : cell ≡ child_at root digits = child ∙ ap (λ p. child_at p digits) (parent-root axes cell within.1 is first) in
    let at_one : (cell.level == 1) ≡ true = ap (λ l. l == 1) first in
    ap (λ b. kind_from b (is_new_at ages' k)) olds ∙ ap (λ b. kind_from (is_first_old axes digits traversal k) b) news
    ∙ ap (λ c. level_one_kind axes traversal (corner axes c k)) (sym from_root)
    ∙ sym (ap (λ b. if b then level_one_kind axes traversal (corner axes cell k) else kind_from (is_carried is_old (state_in_hand (parent_of cell) its) (corner axes cell k)) (is_carried is_new (state_in_hand (parent_of cell) its) (corner axes cell k))) at_one)

-- the ages of one corner more
unlike : (j k : ℕ) → (j ≡ k → ⊥) → (j == k) ≡ false
unlike j k differ = grind (arith, nat_tests)

pub aged-other : (a b : Bool) (j k : ℕ) → (j ≡ k → ⊥) → (a || j == k && b) ≡ a
aged-other a b j k differ = ap (λ t. a || t && b) (unlike j k differ) ∙ or-false a

pub aged-here : (a b : Bool) (j k : ℕ) → j ≡ k → a ≡ false → (a || j == k && b) ≡ b
aged-here a b j k same without_bit = ap (λ t. a || t && b) (eq-eqb j k same) ∙ ap (λ t. t || b) without_bit

-- the ages of full corners
module _ {V : Type 0} where
  pub record HaveAges (corners : CornerList (Vertex V)) (k ages : ℕ) : Type 0 where
    pub old : (j : ℕ) → j < k → (v : Vertex V) → vertex_at corners j ≡ Some v → is_old_at ages j ≡ is_old v.state
    pub new : (j : ℕ) → j < k → (v : Vertex V) → vertex_at corners j ≡ Some v → is_new_at ages j ≡ is_new v.state
    pub old_rest : (j : ℕ) → k ≤ j → j < 16 → is_old_at ages j ≡ false
    pub new_rest : (j : ℕ) → k ≤ j → j < 16 → is_new_at ages j ≡ false

  pub aged-more : (corners : CornerList (Vertex V)) (k ages ages' : ℕ) (u : Vertex V) → k < 16 → HaveAges corners k ages → vertex_at corners k ≡ Some u
      → ((j : ℕ) → j < 16 → is_old_at ages' j ≡ (is_old_at ages j || j == k && is_old u.state))
      → ((j : ℕ) → j < 16 → is_new_at ages' j ≡ (is_new_at ages j || j == k && is_new u.state))
      → HaveAges corners (k + 1) ages'
  aged-more corners k ages ages' u few are here olds news = record {
    old = λ j below v is. by_number (j == k) j below v is refl is_old (is_old_at ages) (is_old_at ages') olds are.old are.old_rest;
    new = λ j below v is. by_number (j == k) j below v is refl is_new (is_new_at ages) (is_new_at ages') news are.new are.new_rest;
    old_rest = λ j above small. olds j small ∙ aged-other (is_old_at ages j) (is_old u.state) j k (omega arith) ∙ are.old_rest j (omega arith) small;
    new_rest = λ j above small. news j small ∙ aged-other (is_new_at ages j) (is_new u.state) j k (omega arith) ∙ are.new_rest j (omega arith) small;
  }
    where
      by_number : (t : Bool) (j : ℕ) → j < k + 1 → (v : Vertex V) → vertex_at corners j ≡ Some v → (j == k) ≡ t → (test : State → Bool) (before after : ℕ → Bool)
          → ((i : ℕ) → i < 16 → after i ≡ (before i || i == k && test u.state))
          → ((i : ℕ) → i < k → (w : Vertex V) → vertex_at corners i ≡ Some w → before i ≡ test w.state)
          → ((i : ℕ) → k ≤ i → i < 16 → before i ≡ false)
          → after j ≡ test v.state
      by_number true j below v is at test before after more done rest =
          let same : j ≡ k = grind (arith, nat_tests) in
          let found : Some v ≡ Some u = sym is ∙ ap (vertex_at corners) same ∙ here in
          let one : v ≡ u = cc in
          more j (omega arith) ∙ aged-here (before j) (test u.state) j k same (rest j (omega arith) (omega arith)) ∙ ap (λ (w : Vertex V). test w.state) (sym one)
      by_number false j below v is at test before after more done rest =
          let differ : j ≡ k → ⊥ = λ same. absurd (let no : true ≡ false = sym (eq-eqb j k same) ∙ at in cc) in
          more j (omega arith) ∙ aged-other (before j) (test u.state) j k differ ∙ done j (omega arith) v is

  full-at : (o : Option (Vertex V)) → IsSome o → (v : Vertex V) × (o ≡ Some v)
  full-at None some = absurd (let no : false ≡ true = some in cc)
  full-at (Some v) some = (v, refl)

  pub ages-are : (numbers : V → List ℤ) (axes : ℕ) (corners : CornerList (Vertex V)) (ages : ℕ) → IsFull axes corners → HaveAges corners (2 ^ axes) ages → AreAgesOf axes (corner_records numbers corners) ages
  ages-are numbers axes corners ages full are = record {
    old = λ k below.
        let v = full-at (vertex_at corners k) (full.full k below) in
        are.old k below v.0 v.1
        ∙ sym (ap (λ o. passes is_old (option_map (λ it. it.state) o)) (slice_get-map (record_of numbers) (vertices_of corners) k ∙ ap (option_map (record_of numbers)) (vertices_of-full axes corners k v.0 full v.1)));
    new = λ k below.
        let v = full-at (vertex_at corners k) (full.full k below) in
        are.new k below v.0 v.1
        ∙ sym (ap (λ o. passes is_new (option_map (λ it. it.state) o)) (slice_get-map (record_of numbers) (vertices_of corners) k ∙ ap (option_map (record_of numbers)) (vertices_of-full axes corners k v.0 full v.1)));
    old_rest = are.old_rest;
    new_rest = are.new_rest;
  }
