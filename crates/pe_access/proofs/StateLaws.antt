-- States that hold what the order of the walk says of a cell, by the extents from parent to child.
use Rattle.std.proofs.Common.{◌≡◌, ℕ, zero, suc, ◌+◌, ◌-◌, ◌%◌, ◌^◌, ◌<◌, ◌≤◌, Bool, List, [], ◌∷◌, ◌++◌, map, take, drop, length, Option, Some, sym, ap, ◌∙◌, subst, refl, inl, inr, arith, add-one}
use Rattle.std.specs.Prelude.{◌==◌, if◌then◌else◌, sum, slice_index, slice_get, IfSome}
use Rattle.std.proofs.lemmas.Bool.{cases_lt}
use Rattle.pe_base.specs.Limits.{most_levels}
use Rattle.pe_base.specs.declared.place.Place.{Place}
use Rattle.pe_base.specs.declared.place.Digits.{Digits}
use Rattle.pe_base.specs.declared.way.Way.{Way}
use Rattle.pe_base.specs.Tree.Places.{IsCellPlace, IsDigits, finer, child_at}
use Rattle.pe_base.specs.Steps.Routes.{way_turns}
use Rattle.pe_base.proofs.Tree.PlaceLaws.{IsPosition-below, IsCellPlace-child_at}
use Rattle.pe_base.proofs.Tree.CurveLaws.{slice_get-append_left}
use Rattle.pe_base.proofs.Steps.RouteLaws.{Below, length-front, padded-front}
use Rattle.pe_access.specs.Extents.{Extent, bit_of, child_extent, near_face}
use Rattle.pe_access.specs.Faces.{extent_of}
use Rattle.pe_access.specs.States.{HoldsCell, IsIdle}
use Rattle.pe_access.proofs.ChildExtents.{extents_of}
use Rattle.pe_access.proofs.ExtentLaws.{Below-all, bit-parity, length-extents_of, extents_at, extents_of-finer}
use Rattle.pe_access.proofs.RouteProofs.{Idle, split}
use Rattle.pe_access.proofs.HeldLaws.{held}

-- on the grid's axes the extents are those from parent to child
pub same-extent : (axes : ℕ) (way : Way) (cell : Place) (extents : List Extent) (axis : ℕ) → axes ≤ 4 → IsCellPlace axes cell → HoldsCell axes way cell extents → axis < axes → slice_get extents axis ≡ slice_get (extents_of way cell.level cell.pos) axis
same-extent axes way cell extents axis few place h within = h.grid_axes axis within ∙ sym (held axes way cell axis few place within)

odds : (extents : List Extent) (pos : List ℕ) → length extents ≡ length pos → ((i : ℕ) (extent : Extent) → slice_get extents i ≡ Some extent → bit_of extent.odd ≡ slice_index pos i % 2) → map (λ extent. bit_of extent.odd) extents ≡ map (λ x. x % 2) pos
odds [] [] e each = refl
odds [] (x ∷ pos) e each = absurd (omega arith)
odds (extent ∷ extents) [] e each = absurd (omega arith)
odds (extent ∷ extents) (x ∷ pos) e each =
    let head : bit_of extent.odd ≡ x % 2 = each 0 extent refl in
    let tail = odds extents pos (omega arith) (λ i. each (suc i)) in
    cc

-- each extent is as odd as its coordinate
pub odd-extents : (axes : ℕ) (way : Way) (cell : Place) (extents : List Extent) → IsCellPlace axes cell → HoldsCell axes way cell extents → length extents ≡ 4 → map (λ extent. bit_of extent.odd) extents ≡ map (λ x. x % 2) cell.pos
odd-extents axes way cell extents place h long =
    odds extents cell.pos (long ∙ sym place.pos.four) (λ i extent e. elim (cases_lt i axes) [
      | inl within ↦
          let same : Some extent ≡ Some (extent_of axes way cell i) = sym e ∙ h.grid_axes i within in
          let is : extent ≡ extent_of axes way cell i = cc in
          ap (λ (l : Extent). bit_of l.odd) is ∙ bit-parity (slice_index cell.pos i)
      | inr past ↦
          let P : Option Extent → Type 0 = λ o. IfSome o IsIdle in
          let idle : IsIdle extent = subst P e (h.others i past) in
          ap bit_of idle.even ∙ (let none : slice_index cell.pos i ≡ 0 = place.pos.rest i past in omega arith)
    ])

extents_at-same : (level turns : ℕ) (ps ks : List ℕ) (xs ys : List Extent) (axis : ℕ) → slice_get xs axis ≡ slice_get ys axis → length xs ≡ length ps → length ys ≡ length ps → slice_get (extents_at level turns ps ks xs) axis ≡ slice_get (extents_at level turns ps ks ys) axis
extents_at-same level turns [] ks xs ys axis e f g = refl
extents_at-same level turns (p ∷ ps) [] xs ys axis e f g = refl
extents_at-same level turns (p ∷ ps) (k ∷ ks) [] ys axis e f g = absurd (omega arith)
extents_at-same level turns (p ∷ ps) (k ∷ ks) (x ∷ xs) [] axis e f g = absurd (omega arith)
extents_at-same level turns (p ∷ ps) (k ∷ ks) (x ∷ xs) (y ∷ ys) zero e f g =
    let same : x ≡ y = cc in
    ap (λ (l : Extent). Some (child_extent level (turns + p) k l)) same
extents_at-same level turns (p ∷ ps) (k ∷ ks) (x ∷ xs) (y ∷ ys) (suc axis) e f g = extents_at-same level (turns + k) ps ks xs ys axis e (omega arith) (omega arith)

child-idle : (level turns k : ℕ) (extent : Extent) → k ≡ 0 → IsIdle extent → IsIdle (child_extent level turns k extent)
child-idle level turns k extent e h = record {
  even = ap (λ (b : Bool). (bit_of b + k) % 2 == 1) h.even ∙ ap (λ (n : ℕ). (0 + n) % 2 == 1) e;
  closed = ap (λ (n : ℕ). if n == 0 then extent.near else near_face level turns) e ∙ h.closed;
}

extents_at-idle : (level turns : ℕ) (ps ks : List ℕ) (extents : List Extent) (axis : ℕ) → slice_index ks axis ≡ 0 → IfSome (slice_get extents axis) IsIdle → IfSome (slice_get (extents_at level turns ps ks extents) axis) IsIdle
extents_at-idle level turns [] ks extents axis e h = tt
extents_at-idle level turns (p ∷ ps) [] extents axis e h = tt
extents_at-idle level turns (p ∷ ps) (k ∷ ks) [] axis e h = tt
extents_at-idle level turns (p ∷ ps) (k ∷ ks) (extent ∷ extents) zero e h = child-idle level (turns + p) k extent e h
extents_at-idle level turns (p ∷ ps) (k ∷ ks) (extent ∷ extents) (suc axis) e h = extents_at-idle level (turns + k) ps ks extents axis e h

-- the extents at a child's digits hold the child
pub HoldsCell-child : (axes : ℕ) (way : Way) (cell : Place) (digits : Digits) (extents : List Extent) → axes ≤ 4 → IsCellPlace axes cell → cell.level < most_levels → IsDigits axes digits → length extents ≡ 4 → HoldsCell axes way cell extents → HoldsCell axes way (child_at cell digits) (extents_at (cell.level + 1) (way_turns way + sum cell.pos) cell.pos digits.k extents)
HoldsCell-child axes way cell digits extents few place level-below d long h =
    let level = cell.level in
    let pos = cell.pos in
    let ks = digits.k in
    let all = way_turns way + sum pos in
    let same : length pos ≡ length ks = place.pos.four ∙ sym d.four in
    let below : Below 3 ks = Below-all 3 ks (IsPosition-below axes 3 ks (omega arith) d) in
    let next : extents_at (level + 1) all pos ks (extents_of way level pos) ≡ extents_of way (level + 1) (finer pos ks) =
    ap (λ (n : ℕ). extents_at n all pos ks (extents_of way level pos)) (add-one level) ∙ sym (extents_of-finer way level pos ks same below) ∙ ap (λ (n : ℕ). extents_of way n (finer pos ks)) (sym (add-one level)) in
    record {
      grid_axes = λ axis within.
          extents_at-same (level + 1) all pos ks extents (extents_of way level pos) axis (same-extent axes way cell extents axis few place h within) (long ∙ sym place.pos.four) (length-extents_of way level pos)
          ∙ ap (λ xs. slice_get xs axis) next
          ∙ held axes way (child_at cell digits) axis few (IsCellPlace-child_at axes cell digits place level-below d) within;
      others = λ axis past. extents_at-idle (level + 1) all pos ks extents axis (d.rest axis past) (h.others axis past);
    }

front-same : (n : ℕ) (xs ys : List Extent) → length ys ≡ n → n ≤ length xs → ((i : ℕ) → i < n → slice_get xs i ≡ slice_get ys i) → xs ≡ ys ++ drop n xs
front-same zero xs [] e h each = refl
front-same zero xs (y ∷ ys) e h each = absurd (omega arith)
front-same (suc n) [] ys e h each = absurd (omega arith)
front-same (suc n) (x ∷ xs) [] e h each = absurd (omega arith)
front-same (suc n) (x ∷ xs) (y ∷ ys) e h each =
    let first : Some x ≡ Some y = each 0 (omega arith) in
    let head : x ≡ y = cc in
    let tail : xs ≡ ys ++ drop n xs = front-same n xs ys (omega arith) (omega arith) (λ i k. each (suc i) (omega arith)) in
    ap (λ zs. x ∷ zs) tail ∙ ap (λ z. z ∷ (ys ++ drop n xs)) head

-- the extents of the grid's axes, and those of the others
pub front-extents : (axes : ℕ) (way : Way) (cell : Place) (extents : List Extent) → axes ≤ 4 → IsCellPlace axes cell → length extents ≡ 4 → HoldsCell axes way cell extents → extents ≡ extents_of way cell.level (take axes cell.pos) ++ drop axes extents
front-extents axes way cell extents few place long h =
    let level = cell.level in
    let cs = take axes cell.pos in
    let len : length cs ≡ axes = length-front axes (3 ^ level) cell.pos few place.pos in
    let front = extents_of way level cs in
    let many : length front ≡ axes = length-extents_of way level cs ∙ len in
    let parts = split way level (4 - length cs) cs in
    front-same axes extents front many (omega arith) (λ i within.
    same-extent axes way cell extents i few place h within
    ∙ ap (λ (xs : List ℕ). slice_get (extents_of way level xs) i) (padded-front axes (3 ^ level) cell.pos few place.pos)
    ∙ ap (λ xs. slice_get xs i) parts.is ∙ slice_get-append_left front parts.tail i (omega arith))

pub idle-rest : (n : ℕ) (extents : List Extent) → ((i : ℕ) → n ≤ i → IfSome (slice_get extents i) IsIdle) → Idle (drop n extents)
idle-rest zero [] h = tt
idle-rest zero (extent ∷ extents) h =
    let first : IsIdle extent = h 0 (omega arith) in
    (first.closed, idle-rest zero extents (λ i k. h (suc i) (omega arith)))
idle-rest (suc n) [] h = tt
idle-rest (suc n) (extent ∷ extents) h = idle-rest n extents (λ i k. h (suc i) (omega arith))

extents_at-alike : (level turns : ℕ) (ps ks ks' : List ℕ) (extents : List Extent) (axis : ℕ) → length ks ≡ length ks' → ((i : ℕ) → i ≤ axis → slice_index ks i ≡ slice_index ks' i) → slice_get (extents_at level turns ps ks extents) axis ≡ slice_get (extents_at level turns ps ks' extents) axis
extents_at-alike level turns [] ks ks' extents axis e same = refl
extents_at-alike level turns (p ∷ ps) [] [] extents axis e same = refl
extents_at-alike level turns (p ∷ ps) [] (k' ∷ ks') extents axis e same = absurd (omega arith)
extents_at-alike level turns (p ∷ ps) (k ∷ ks) [] extents axis e same = absurd (omega arith)
extents_at-alike level turns (p ∷ ps) (k ∷ ks) (k' ∷ ks') [] axis e same = refl
extents_at-alike level turns (p ∷ ps) (k ∷ ks) (k' ∷ ks') (extent ∷ extents) zero e same =
    let first : k ≡ k' = same 0 (omega arith) in
    ap (λ (d : ℕ). Some (child_extent level (turns + p) d extent)) first
extents_at-alike level turns (p ∷ ps) (k ∷ ks) (k' ∷ ks') (extent ∷ extents) (suc axis) e same =
    let first : k ≡ k' = same 0 (omega arith) in
    ap (λ (d : ℕ). slice_get (extents_at level (turns + d) ps ks extents) axis) first
    ∙ extents_at-alike level (turns + k') ps ks ks' extents axis (omega arith) (λ i h. same (suc i) (omega arith))

-- a child's extent along an axis, from its parent's position
extent_of-child : (axes : ℕ) (way : Way) (cell : Place) (digits : Digits) (axis : ℕ) → axes ≤ 4 → IsCellPlace axes cell → cell.level < most_levels → IsDigits axes digits → axis < axes
    → slice_get (extents_at (cell.level + 1) (way_turns way + sum cell.pos) cell.pos digits.k (extents_of way cell.level cell.pos)) axis ≡ Some (extent_of axes way (child_at cell digits) axis)
extent_of-child axes way cell digits axis few place level-below d within =
    let level = cell.level in
    let pos = cell.pos in
    let ks = digits.k in
    let all = way_turns way + sum pos in
    let same : length pos ≡ length ks = place.pos.four ∙ sym d.four in
    let below : Below 3 ks = Below-all 3 ks (IsPosition-below axes 3 ks (omega arith) d) in
    let next : extents_at (level + 1) all pos ks (extents_of way level pos) ≡ extents_of way (level + 1) (finer pos ks) =
    ap (λ (n : ℕ). extents_at n all pos ks (extents_of way level pos)) (add-one level) ∙ sym (extents_of-finer way level pos ks same below) ∙ ap (λ (n : ℕ). extents_of way n (finer pos ks)) (sym (add-one level)) in
    ap (λ xs. slice_get xs axis) next ∙ held axes way (child_at cell digits) axis few (IsCellPlace-child_at axes cell digits place level-below d) within

-- children whose digits agree up to an axis have one extent there
pub extent_of-alike : (axes : ℕ) (way : Way) (cell : Place) (digits digits' : Digits) (axis : ℕ) → axes ≤ 4 → IsCellPlace axes cell → cell.level < most_levels → IsDigits axes digits → IsDigits axes digits' → axis < axes
    → ((i : ℕ) → i ≤ axis → slice_index digits.k i ≡ slice_index digits'.k i) → extent_of axes way (child_at cell digits) axis ≡ extent_of axes way (child_at cell digits') axis
extent_of-alike axes way cell digits digits' axis few place level-below d d' within same =
    let one : Some (extent_of axes way (child_at cell digits) axis) ≡ Some (extent_of axes way (child_at cell digits') axis) =
    sym (extent_of-child axes way cell digits axis few place level-below d within)
    ∙ extents_at-alike (cell.level + 1) (way_turns way + sum cell.pos) cell.pos digits.k digits'.k (extents_of way cell.level cell.pos) axis (d.four ∙ sym d'.four) same
    ∙ extent_of-child axes way cell digits' axis few place level-below d' within in
    cc

-- extents of axes that the grid does not have may stay as they were
pub HoldsCell-kept : (axes : ℕ) (way : Way) (cell : Place) (l₀ l₁ l₂ l₃ m₂ m₃ : Extent) → 2 ≤ axes → HoldsCell axes way cell (l₀ ∷ l₁ ∷ l₂ ∷ l₃ ∷ []) → (2 < axes → m₂ ≡ l₂) → (3 < axes → m₃ ≡ l₃)
    → (axes ≤ 2 → IsIdle m₂) → (axes ≤ 3 → IsIdle m₃) → HoldsCell axes way cell (l₀ ∷ l₁ ∷ m₂ ∷ m₃ ∷ [])
HoldsCell-kept axes way cell l₀ l₁ l₂ l₃ m₂ m₃ low h same₂ same₃ idle₂ idle₃ = record { grid_axes = grid; others = rest }
  where
    grid : (axis : ℕ) → axis < axes → slice_get (l₀ ∷ l₁ ∷ m₂ ∷ m₃ ∷ []) axis ≡ Some (extent_of axes way cell axis)
    grid zero within = h.grid_axes 0 within
    grid (suc zero) within = h.grid_axes 1 within
    grid (suc (suc zero)) within = ap (λ (l : Extent). Some l) (same₂ within) ∙ h.grid_axes 2 within
    grid (suc (suc (suc zero))) within = ap (λ (l : Extent). Some l) (same₃ within) ∙ h.grid_axes 3 within
    grid (suc (suc (suc (suc axis)))) within = h.grid_axes (suc (suc (suc (suc axis)))) within

    rest : (axis : ℕ) → axes ≤ axis → IfSome (slice_get (l₀ ∷ l₁ ∷ m₂ ∷ m₃ ∷ []) axis) IsIdle
    rest zero past = absurd (omega arith)
    rest (suc zero) past = absurd (omega arith)
    rest (suc (suc zero)) past = idle₂ past
    rest (suc (suc (suc zero))) past = idle₃ past
    rest (suc (suc (suc (suc axis)))) past = tt
