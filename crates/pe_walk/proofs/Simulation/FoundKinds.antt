-- The kind of a corner as it is found: by the map, and by the parent's corners in hand, it is the one foreseen.
use Rattle.std.proofs.Common.{◌≡◌, ℕ, zero, suc, ◌+◌, ◌-◌, ◌*◌, ◌/◌, ◌%◌, ◌^◌, ◌<◌, ◌≤◌, ◌≢◌, Bool, true, false, ◌||◌, ◌==◌, List, [], ◌∷◌, map, length, Option, Some, refl, sym, ap, ap₂, ◌∙◌, arith}
use Rattle.std.specs.Prelude.{if◌then◌else◌, slice_get}
use Rattle.std.specs.Option.{option_map}
use Rattle.std.specs.List.{list_any, range_with_len, AllByRecursion}
use Rattle.std.proofs.lemmas.Bool.{eqb-true, eqb-false}
use Rattle.pe_base.specs.declared.place.Place.{Place}
use Rattle.pe_base.specs.declared.state.State.{State}
use Rattle.pe_base.specs.Tree.Places.{corner, bits, moved, parent_of}
use Rattle.pe_base.specs.Life.States.{is_old, is_new}
use Rattle.pe_base.specs.Life.Kinds.{kind_from, level_one_kind}
use Rattle.pe_base.specs.Life.Carriers.{carriers, passes, is_carried, kind_by}
use Rattle.pe_base.specs.Acts.Effects.{VertexRecord}
use Rattle.pe_base.specs.Walk.Laws.{IsCornerOf}
use Rattle.pe_base.specs.Walk.Core.{Setting}
use Rattle.pe_base.specs.Walk.Working.{Working, record_at, records_of}
use Rattle.pe_base.proofs.Tree.PlaceLaws.{bits-suc}
use Rattle.pe_adapt.specs.Touches.{offset_number, corner_number, state_in_hand}
use Rattle.pe_walk.specs.Standing.{Foresight}

-- a test of the carriers of a corner that agrees with another at all corners of the parent
pub any-corners : (p q : Place → Bool) (axes : ℕ) (cell : Place) (xs : List Place) → AllByRecursion (IsCornerOf axes cell) xs → ((k : ℕ) → k < 2 ^ axes → p (corner axes cell k) ≡ q (corner axes cell k)) → list_any p xs ≡ list_any q xs
any-corners p q axes cell [] all same = refl
any-corners p q axes cell (x ∷ xs) all same =
    let here : p x ≡ q x = ap p all.0.2 ∙ same all.0.0 all.0.1 ∙ sym (ap q all.0.2) in
    ap₂ (λ a b. a || b) here (any-corners p q axes cell xs all.1 same)

-- a corner's number is found beside its cell
pub offset-moved : (n weight k : ℕ) (xs : List ℕ) → n ≤ length xs → k < 2 ^ n → offset_number weight (moved xs (bits n k)) xs ≡ weight * k
offset-moved zero weight k xs long small = let none : 0 ≡ k = omega (arith, small) in let e : weight * 0 ≡ 0 = omega arith in unmoved xs ∙ sym e ∙ ap (λ z. weight * z) none
  where
    behind : (weight : ℕ) (zs : List ℕ) → offset_number weight zs zs ≡ 0
    behind weight [] = refl
    behind weight (z ∷ zs) = ap₂ (λ a b. a * weight + b) (let e : z - z ≡ 0 = omega arith in e) (behind (2 * weight) zs) ∙ (let e : 0 * weight + 0 ≡ 0 = omega arith in e)

    unmoved : (zs : List ℕ) → offset_number weight (moved zs []) zs ≡ 0
    unmoved [] = refl
    unmoved (z ∷ zs) = behind weight (z ∷ zs)
offset-moved (suc n) weight k [] long small = absurd (omega arith)
offset-moved (suc n) weight k (x ∷ xs) long small =
    let rest : offset_number (2 * weight) (moved xs (bits n (k / 2))) xs ≡ 2 * weight * (k / 2) = offset-moved n (2 * weight) (k / 2) xs (omega arith) (omega (arith, small)) in
    let split : k % 2 + 2 * (k / 2) ≡ k = omega arith in
    ap (λ bs. offset_number weight (moved (x ∷ xs) bs) (x ∷ xs)) (bits-suc n k)
    ∙ ap₂ (λ a b. a * weight + b) (let e : x + k % 2 - x ≡ k % 2 = omega arith in e) rest
    ∙ (let sum : k % 2 * weight + 2 * weight * (k / 2) ≡ weight * (k % 2 + 2 * (k / 2)) = omega arith in sum)
    ∙ ap (λ z. weight * z) split

pub corner_number-corner : (axes : ℕ) (cell : Place) (k : ℕ) → axes ≤ length cell.pos → k < 2 ^ axes → corner_number cell (corner axes cell k) ≡ k
corner_number-corner axes cell k long small = offset-moved axes 1 k cell.pos long small ∙ (let e : 1 * k ≡ k = omega arith in e)

range-get : {X : Type 0} (f : ℕ → X) (a n k : ℕ) → k < n → slice_get (map f (range_with_len a n)) k ≡ Some (f (a + k))
range-get f a zero k small = absurd (omega arith)
range-get f a (suc n) zero small = ap (λ z. Some (f z)) (let e : a ≡ a + 0 = omega arith in e)
range-get f a (suc n) (suc k) small = range-get f (a + 1) n k (omega arith) ∙ ap (λ z. Some (f z)) (let e : a + 1 + k ≡ a + suc k = omega arith in e)

-- the state of a corner in hand
pub state_in_hand-corner : (axes : ℕ) (w : Working) (cell : Place) (k : ℕ) → axes ≤ length cell.pos → k < 2 ^ axes
    → state_in_hand cell (records_of axes w cell) (corner axes cell k) ≡ Some (record_at axes w cell k).state
state_in_hand-corner axes w cell k long small =
    ap (λ n. option_map (λ (it : VertexRecord). it.state) (slice_get (records_of axes w cell) n)) (corner_number-corner axes cell k long small)
    ∙ ap (option_map (λ (it : VertexRecord). it.state)) (range-get (record_at axes w cell) 0 (2 ^ axes) k small ∙ ap (λ z. Some (record_at axes w cell z)) (let e : 0 + k ≡ k = omega arith in e))

-- states that agree with what is foreseen at all corners of the parent give the kind that is foreseen
pub kind_by-foreseen : {Plan : Type 0} (set : Setting Plan) (f : Foresight) (states : Place → Option State) (cell : Place) (k : ℕ)
    → ((vertex : Place) → vertex.level ≡ 1 → level_one_kind set.axes set.traversal vertex ≡ f.kind vertex)
    → (cell.level ≢ 1 → kind_from (list_any f.old (carriers (corner set.axes cell k))) (list_any f.new (carriers (corner set.axes cell k))) ≡ f.kind (corner set.axes cell k))
    → AllByRecursion (IsCornerOf set.axes (parent_of cell)) (carriers (corner set.axes cell k))
    → ((j : ℕ) → j < 2 ^ set.axes → passes is_old (states (corner set.axes (parent_of cell) j)) ≡ f.old (corner set.axes (parent_of cell) j))
    → ((j : ℕ) → j < 2 ^ set.axes → passes is_new (states (corner set.axes (parent_of cell) j)) ≡ f.new (corner set.axes (parent_of cell) j))
    → kind_by set.axes set.traversal states (corner set.axes cell k) ≡ f.kind (corner set.axes cell k)
kind_by-foreseen set f states cell k first deeper all olds news = by_level (cell.level == 1) refl
  where
    by_level : (b : Bool) → (cell.level == 1) ≡ b
        → (if b then level_one_kind set.axes set.traversal (corner set.axes cell k) else kind_from (is_carried is_old states (corner set.axes cell k)) (is_carried is_new states (corner set.axes cell k))) ≡ f.kind (corner set.axes cell k)
    by_level true e = first (corner set.axes cell k) (eqb-true cell.level 1 e)
    by_level false e =
        ap₂ kind_from
        (any-corners (λ m. passes is_old (states m)) f.old set.axes (parent_of cell) (carriers (corner set.axes cell k)) all olds)
        (any-corners (λ m. passes is_new (states m)) f.new set.axes (parent_of cell) (carriers (corner set.axes cell k)) all news)
        ∙ deeper (eqb-false cell.level 1 e)
