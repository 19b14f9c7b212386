-- The children of a cell, each from the one before it.
use Rattle.std.proofs.Common.{◌≡◌, ℕ, zero, suc, ◌+◌, ◌-◌, ◌*◌, ◌/◌, ◌%◌, ◌^◌, ◌<◌, ◌≤◌, ◌≢◌, List, [], ◌∷◌, length, map, set, take, refl, sym, ap, subst, ◌∙◌, inl, inr, arith}
use Rattle.std.specs.Prelude.{◌==◌, slice_index, sum}
use Rattle.std.specs.List.{range_with_len}
use Rattle.std.proofs.lemmas.Bool.{cases_lt}
use Rattle.std.proofs.lemmas.List.{get_or-map, get_or-set_other}
use Rattle.std.proofs.lemmas.List.FromFn.{get_or-range_with_len, length-range_with_len, length-map-range_with_len}
use Rattle.pe_base.specs.declared.place.Place.{Place}
use Rattle.pe_base.specs.declared.place.Digits.{Digits}
use Rattle.pe_base.specs.Tree.Places.{IsCellPlace, IsDigits, finer, child_at, parent_of}
use Rattle.pe_base.proofs.Tree.PlaceLaws.{IsCellPlace-child_at, digit_below}
use Rattle.pe_base.specs.Tree.Curve.{flip, flips}
use Rattle.pe_base.specs.Tree.Dim.{IsDim}
use Rattle.pe_base.specs.Acts.Effects.{VertexRecord}
use Rattle.pe_states.specs.Ages.{is_old_at, is_new_at, is_first_old, is_first_new, some_carrier}
use Rattle.pe_states.specs.Sides.{AreSpread, IsRow as IsRowOfAges}
use Rattle.pe_adapt.specs.Ages.{AreAgesOf, GiveKinds}
use Rattle.pe_adapt.proofs.KindLaws.{kind-carried, kind-first}
use Rattle.pe_access.specs.States.{StandsFor, is_upwards}
use Rattle.pe_base.specs.Steps.Routes.{way_turns}
use Rattle.pe_adapt.specs.declared.settings.Settings.{Settings}
use Rattle.pe_walk.specs.declared.child.Above.{Above}
use Rattle.pe_walk.specs.declared.child.Child.{Child}
use Rattle.pe_adapt.specs.WalkedCells.{IsWalked}
use Rattle.pe_curve.specs.declared.step.Step.{Step}
use Rattle.pe_curve.specs.Steps.{IsAdvanced, goes_up, moved_digit}
use Rattle.pe_walk.specs.Children.{IsAbove, IsChild, IsStepOf, AgreeBefore}

-- a cell is its child's parent
thirds : (xs ks : List ℕ) → length xs ≡ length ks → ((i : ℕ) → slice_index ks i < 3) → map (λ x. x / 3) (finer xs ks) ≡ xs
thirds [] ks same small = refl
thirds (x ∷ xs) [] same small = absurd (omega arith)
thirds (x ∷ xs) (k ∷ ks) same small =
    let here : k < 3 = small 0 in
    let third : (3 * x + k) / 3 ≡ x = omega arith in
    ap (λ y. y ∷ map (λ z. z / 3) (finer xs ks)) third ∙ ap (λ ys. x ∷ ys) (thirds xs ks (omega arith) (λ i. small (suc i)))

pub parent-child_at : (axes : ℕ) (place : Place) (digits : Digits) → IsCellPlace axes place → IsDigits axes digits → parent_of (child_at place digits) ≡ place
parent-child_at axes place digits is fit =
    let up : place.level + 1 - 1 ≡ place.level = omega arith in
    ap (λ pos. (let p : Place = record { level = place.level + 1 - 1; pos = pos } in p)) (thirds place.pos digits.k (is.pos.four ∙ sym fit.four) (digit_below axes digits fit))
    ∙ ap (λ level. (let p : Place = record { level = level; pos = place.pos } in p)) up

module _ (axes traversal : ℕ) (place : Place) (digits : Digits) (within : IsDim axes) (is : IsCellPlace axes place) (level : place.level < 20) (fit : IsDigits axes digits) (ages : ℕ) where
  abbrev child : Place
  child = child_at place digits

  is-child : IsCellPlace axes child
  is-child = IsCellPlace-child_at axes place digits is level fit

  of-parent : child ≡ child_at (parent_of child) digits
  of-parent = ap (λ p. child_at p digits) (sym (parent-child_at axes place digits is fit))

  -- the ages of a child of the root
  pub first-kinds : (its : List VertexRecord) → place.level ≡ 0
      → ((k : ℕ) → k < 2 ^ axes → is_old_at ages k ≡ is_first_old axes digits traversal k)
      → ((k : ℕ) → k < 2 ^ axes → is_new_at ages k ≡ is_first_new axes digits k)
      → GiveKinds axes traversal child its ages
  first-kinds its top old new = λ k below.
      kind-first axes traversal child digits k its ages within is-child (omega (arith, top)) of-parent (old k below) (new k below)

  -- and of one further down
  pub carried-kinds : (above : ℕ) (its : List VertexRecord) → 0 < place.level → AreAgesOf axes its above
      → ((k : ℕ) → k < 2 ^ axes → is_old_at ages k ≡ some_carrier axes digits k (is_old_at above))
      → ((k : ℕ) → k < 2 ^ axes → is_new_at ages k ≡ some_carrier axes digits k (is_new_at above))
      → GiveKinds axes traversal child its ages
  carried-kinds above its deep are old new = λ k below.
      kind-carried axes traversal child digits k its above ages within is-child (omega arith) (λ one. absurd (omega (arith, one, deep))) fit of-parent below are (old k below) (new k below)

-- digits along a row
front-same : (n : ℕ) (xs ys : List ℕ) → length xs ≡ length ys → ((i : ℕ) → i < n → slice_index xs i ≡ slice_index ys i) → take n xs ≡ take n ys
front-same zero xs ys same each = refl
front-same (suc n) [] [] same each = refl
front-same (suc n) [] (y ∷ ys) same each = absurd (omega arith)
front-same (suc n) (x ∷ xs) [] same each = absurd (omega arith)
front-same (suc n) (x ∷ xs) (y ∷ ys) same each =
    ap (λ z. z ∷ take n xs) (each 0 (omega arith)) ∙ ap (λ zs. y ∷ zs) (front-same n xs ys (omega arith) (λ i below. each (suc i) (omega arith)))

pub row-same : (axes ages row : ℕ) (digits digits' : Digits) → IsDigits axes digits → IsDigits axes digits' → AgreeBefore (axes - 1) digits digits'
    → IsRowOfAges axes digits ages row → IsRowOfAges axes digits' ages row
row-same axes ages row digits digits' fit fit' one is =
    subst (λ ks. AreSpread 1 ks ages row) (front-same (axes - 1) digits.k digits'.k (fit.four ∙ sym fit'.four) one) is

all-same : (xs ys : List ℕ) → length xs ≡ length ys → ((i : ℕ) → slice_index xs i ≡ slice_index ys i) → xs ≡ ys
all-same [] [] same each = refl
all-same [] (y ∷ ys) same each = absurd (omega arith)
all-same (x ∷ xs) [] same each = absurd (omega arith)
all-same (x ∷ xs) (y ∷ ys) same each = ap (λ z. z ∷ xs) (each 0) ∙ ap (λ zs. y ∷ zs) (all-same xs ys (omega arith) (λ i. each (suc i)))

finer-step : (ps xs ys : List ℕ) (i : ℕ) → length ps ≡ length xs → length xs ≡ length ys → i < length ps → ((j : ℕ) → j ≢ i → slice_index xs j ≡ slice_index ys j)
    → set (finer ps xs) i (3 * slice_index ps i + slice_index ys i) ≡ finer ps ys
finer-step [] xs ys i long same within each = absurd (omega arith)
finer-step (p ∷ ps) [] ys i long same within each = absurd (omega arith)
finer-step (p ∷ ps) (x ∷ xs) [] i long same within each = absurd (omega arith)
finer-step (p ∷ ps) (x ∷ xs) (y ∷ ys) zero long same within each =
    ap (λ zs. (3 * p + y) ∷ finer ps zs) (all-same xs ys (omega arith) (λ j. each (suc j) (λ e. omega arith)))
finer-step (p ∷ ps) (x ∷ xs) (y ∷ ys) (suc i) long same within each =
    ap (λ (z : ℕ). (3 * p + z) ∷ set (finer ps xs) i (3 * slice_index ps i + slice_index ys i)) (each 0 (λ e. omega arith))
    ∙ ap (λ zs. (3 * p + y) ∷ zs) (finer-step ps xs ys i (omega arith) (omega arith) (omega arith) (λ j other. each (suc j) (λ e. other (omega arith))))

-- a step along a row changes the position on the last axis alone
pub child_at-step : (axes : ℕ) (parent : Place) (from digits : Digits) → 2 ≤ axes → axes ≤ 4 → IsCellPlace axes parent → IsDigits axes from → IsDigits axes digits → AgreeBefore (axes - 1) from digits
    → set (finer parent.pos from.k) (axes - 1) (3 * slice_index parent.pos (axes - 1) + slice_index digits.k (axes - 1)) ≡ finer parent.pos digits.k
child_at-step axes parent from digits low high at fit fit' one =
    finer-step parent.pos from.k digits.k (axes - 1) (at.pos.four ∙ sym fit.four) (fit.four ∙ sym fit'.four) (omega (arith, at.pos.four))
    (λ j other. elim (cases_lt j (axes - 1)) [ inl less ↦ one j less | inr more ↦ fit.rest j (past j more other) ∙ sym (fit'.rest j (past j more other)) ])
  where
    past : (j : ℕ) → axes - 1 ≤ j → j ≢ axes - 1 → axes ≤ j
    past j more other = elim (cases_lt j axes) [ inl less ↦ absurd (other (omega arith)) | inr far ↦ far ]

-- # From child to child

flips-at : (axes : ℕ) (pos : List ℕ) (axis : ℕ) → axis < axes → slice_index (flips axes pos) axis ≡ flip pos axis
flips-at axes pos axis within =
    get_or-map (flip pos) (range_with_len 0 axes) axis 0 0 (omega (arith, length-range_with_len 0 axes))
    ∙ ap (flip pos) (get_or-range_with_len 0 axes axis 0 within ∙ omega arith)

-- the state is told by the step which axes are walked upwards
pub upwards : (axes : ℕ) (settings : Settings) (above : Above) (n axis : ℕ) (step : Step) → IsStepOf axes settings above n step → axis < axes → goes_up step axis ≡ is_upwards settings.way above.place step.digits axis
upwards axes settings above n axis step is within =
    is.ups axis within
    ∙ ap (λ (e : ℕ). (way_turns settings.way + e + sum (take axis step.digits.k)) % 2 == 0) (flips-at axes above.place.pos axis within)

pub length-flips : (axes : ℕ) (pos : List ℕ) → length (flips axes pos) ≡ axes
length-flips axes pos = length-map-range_with_len (flip pos) 0 axes

-- digits agree before the axis that has moved
pub agree-moved : (axes axis : ℕ) (old new : Step) → IsAdvanced axes old axis new → AgreeBefore axis old.digits new.digits
agree-moved axes axis old new to = λ i low.
    sym (ap (λ ks. slice_index ks i) to.digits ∙ get_or-set_other old.digits.k axis i (moved_digit (goes_up old axis) (slice_index old.digits.k axis)) 0 (λ e. omega arith))

-- what is known of a child as it is walked
pub child-walked : (axes : ℕ) (settings : Settings) (above : Above) (n : ℕ) (child : Child) → IsAbove axes settings above → IsChild axes settings above n child → IsWalked axes settings child.cell
child-walked axes settings above n child over is = record {
  place = subst (IsCellPlace axes) (sym is.place) (IsCellPlace-child_at axes above.place child.step.digits over.place over.level is.step.digits);
  deep = (let level = ap (λ (p : Place). p.level) is.place in omega (arith, level));
  state = subst (λ p. StandsFor axes settings.way p child.cell.state) (sym is.place) is.state;
  row = is.row;
}
