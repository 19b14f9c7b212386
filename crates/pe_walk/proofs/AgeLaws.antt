-- What the ages of corners in hand tell, and that it stays while the ages do.
use Rattle.std.proofs.Common.{◌≡◌, ℕ, ℤ, zero, suc, ◌+◌, ◌^◌, ◌<◌, ◌≤◌, Bool, false, List, [], ◌∷◌, length, Option, None, Some, ⊎_elim, refl, sym, ap, ap₂, ◌∙◌, arith}
use Rattle.std.specs.Prelude.{slice_get, ◌||◌, ◌==◌, if◌then◌else◌}
use Rattle.std.specs.Option.{option_map}
use Rattle.std.specs.List.{list_any, range_with_len}
use Rattle.std.proofs.Math.Nat.{pow-le-pow_right}
use Rattle.std.proofs.lemmas.Bool.{cases_lt}
use Rattle.std.proofs.lemmas.Bool.Decides.{nat_tests}
use Rattle.std.proofs.lemmas.List.{length-map}
use Rattle.std.proofs.lemmas.Option.{slice_get-map}
use Rattle.pe_base.specs.declared.place.Place.{Place}
use Rattle.pe_base.specs.declared.state.State.{State}
use Rattle.pe_base.specs.declared.kind.Kind.TheVariants.{Kept, Born}
use Rattle.pe_base.specs.Tree.Dim.{IsDim}
use Rattle.pe_base.specs.Life.States.{is_old, is_new}
use Rattle.pe_base.specs.Life.Kinds.{kind_from}
use Rattle.pe_base.specs.Life.Carriers.{passes}
use Rattle.pe_base.specs.Acts.Effects.{VertexRecord}
use Rattle.pe_base.specs.Walk.Touches.{kind_below}
use Rattle.pe_stacks.specs.declared.record.Vertex.{Vertex}
use Rattle.pe_stacks.specs.Corners.{CornerList, IsFull, vertices_of}
use Rattle.pe_stacks.proofs.FullCorners.{length-vertices_of}
use Rattle.pe_stacks.specs.Sights.{record_of, corner_records}
use Rattle.pe_states.specs.Ages.{is_old_at, is_new_at}
use Rattle.pe_base.proofs.Tests.{any_map}
use Rattle.pe_hang.specs.InHand.{ages_of}
use Rattle.pe_adapt.specs.Ages.{AreAgesOf}
use Rattle.pe_walk.specs.Machine.{kind_among}

abbrev state_of : Option VertexRecord → Option State
state_of o = option_map (λ it. it.state) o

-- a test at each number, by what is there
any-range : (f : Option VertexRecord → Bool) → f None ≡ false → (its : List VertexRecord) (g : ℕ → Bool) (a n : ℕ) → ((j : ℕ) → j < n → g (a + j) ≡ f (slice_get its j)) → length its ≤ n
    → list_any g (range_with_len a n) ≡ list_any (λ it. f (Some it)) its
any-range f none [] g a zero each few = refl
any-range f none (x ∷ xs) g a zero each few = absurd (omega arith)
any-range f none [] g a (suc n) each few =
    let here : g a ≡ g (a + 0) = ap g (omega arith) in
    ap (λ b. b || list_any g (range_with_len (a + 1) n)) (here ∙ each 0 (omega arith) ∙ none)
    ∙ any-range f none [] g (a + 1) n (λ j below. (let next : a + 1 + j ≡ a + suc j = omega arith in ap g next) ∙ each (suc j) (omega arith)) (omega arith)
any-range f none (x ∷ xs) g a (suc n) each few =
    let here : g a ≡ g (a + 0) = ap g (omega arith) in
    ap₂ (λ b c. b || c) (here ∙ each 0 (omega arith))
    (any-range f none xs g (a + 1) n (λ j below. (let next : a + 1 + j ≡ a + suc j = omega arith in ap g next) ∙ each (suc j) (omega arith)) (omega arith))

-- of sixteen numbers those behind the corners pass no test
module _ (axes : ℕ) (its : List VertexRecord) (ages : ℕ) (are : AreAgesOf axes its ages) (count : length its ≡ 2 ^ axes) (few : 2 ^ axes ≤ 16) where
  past : (test : State → Bool) (j : ℕ) → length its ≤ j → passes test (state_of (slice_get its j)) ≡ false
  past test j behind = ap (λ o. passes test (state_of o)) (nothing its j behind)
    where
      nothing : (xs : List VertexRecord) (j : ℕ) → length xs ≤ j → slice_get xs j ≡ None
      nothing [] j behind = refl
      nothing (x ∷ xs) zero behind = absurd (omega arith)
      nothing (x ∷ xs) (suc j) behind = nothing xs j (omega arith)

  at-each : (test : State → Bool) (g : ℕ → Bool)
      → ((k : ℕ) → k < 2 ^ axes → g k ≡ passes test (state_of (slice_get its k))) → ((k : ℕ) → 2 ^ axes ≤ k → k < 16 → g k ≡ false)
      → (j : ℕ) → j < 16 → g (0 + j) ≡ passes test (state_of (slice_get its j))
  at-each test g low high j small =
      ap g (let plain : 0 + j ≡ j = omega arith in plain)
      ∙ ⊎_elim (λ below. low j below) (λ behind. high j behind small ∙ sym (past test j (omega (arith, behind, count)))) (cases_lt j (2 ^ axes))

  pub any-old : list_any (is_old_at ages) (range_with_len 0 16) ≡ list_any (λ it. is_old it.state) its
  any-old = any-range (λ o. passes is_old (state_of o)) refl its (is_old_at ages) 0 16 (at-each is_old (is_old_at ages) are.old are.old_rest) (omega (arith, count, few))

  pub any-new : list_any (is_new_at ages) (range_with_len 0 16) ≡ list_any (λ it. is_new it.state) its
  any-new = any-range (λ o. passes is_new (state_of o)) refl its (is_new_at ages) 0 16 (at-each is_new (is_new_at ages) are.new are.new_rest) (omega (arith, count, few))

  -- the kind of the children
  pub kind_below-ages : kind_from (list_any (is_old_at ages) (range_with_len 0 16)) (list_any (is_new_at ages) (range_with_len 0 16)) ≡ kind_below its
  kind_below-ages = ap₂ kind_from any-old any-new

pub few-corners : (axes : ℕ) → IsDim axes → 2 ^ axes ≤ 16
few-corners axes within = pow-le-pow_right (let positive : 0 < 2 = omega arith in positive) within.1

-- by ages alone
abbrev age_of : VertexRecord → Bool × Bool
age_of it = (is_old it.state, is_new it.state)

abbrev fst-of : Option (Bool × Bool) → Bool
fst-of None = false
fst-of (Some age) = age.0

abbrev snd-of : Option (Bool × Bool) → Bool
snd-of None = false
snd-of (Some age) = age.1

old-of : (o : Option VertexRecord) → passes is_old (state_of o) ≡ fst-of (option_map age_of o)
old-of None = refl
old-of (Some it) = refl

new-of : (o : Option VertexRecord) → passes is_new (state_of o) ≡ snd-of (option_map age_of o)
new-of None = refl
new-of (Some it) = refl

module _ (its its' : List VertexRecord) (same : ages_of its' ≡ ages_of its) where
  old-kept : (k : ℕ) → passes is_old (state_of (slice_get its k)) ≡ passes is_old (state_of (slice_get its' k))
  old-kept k =
      old-of (slice_get its k) ∙ ap fst-of (sym (slice_get-map age_of its k) ∙ ap (λ ms. slice_get ms k) (sym same) ∙ slice_get-map age_of its' k) ∙ sym (old-of (slice_get its' k))

  new-kept : (k : ℕ) → passes is_new (state_of (slice_get its k)) ≡ passes is_new (state_of (slice_get its' k))
  new-kept k =
      new-of (slice_get its k) ∙ ap snd-of (sym (slice_get-map age_of its k) ∙ ap (λ ms. slice_get ms k) (sym same) ∙ slice_get-map age_of its' k) ∙ sym (new-of (slice_get its' k))

  pub ages-kept : (axes ages : ℕ) → AreAgesOf axes its ages → AreAgesOf axes its' ages
  ages-kept axes ages are = record {
    old = λ k below. are.old k below ∙ old-kept k;
    new = λ k below. are.new k below ∙ new-kept k;
    old_rest = are.old_rest;
    new_rest = are.new_rest;
  }

  pub kind_below-kept : kind_below its' ≡ kind_below its
  kind_below-kept =
      ap₂ kind_from
      (sym (any_map (λ (age : Bool × Bool). age.0) age_of its') ∙ ap (list_any (λ (age : Bool × Bool). age.0)) same ∙ any_map (λ (age : Bool × Bool). age.0) age_of its)
      (sym (any_map (λ (age : Bool × Bool). age.1) age_of its') ∙ ap (list_any (λ (age : Bool × Bool). age.1)) same ∙ any_map (λ (age : Bool × Bool). age.1) age_of its)

  pub kind_among-kept : (traversal : ℕ) (cell : Place) → kind_among traversal cell its' ≡ kind_among traversal cell its
  kind_among-kept traversal cell = ap (λ kind. if cell.level == 1 then (if traversal == 1 then Born else Kept) else kind) kind_below-kept

-- a cell below level 1
pub kind_among-deep : (traversal : ℕ) (cell : Place) (parents : List VertexRecord) → 2 ≤ cell.level → kind_among traversal cell parents ≡ kind_below parents
kind_among-deep traversal cell parents deep =
    let later : (cell.level == 1) ≡ false = grind (arith, nat_tests) in
    ap (λ t. if t then (if traversal == 1 then Born else Kept) else kind_below parents) later

-- the kind by two answers
pub any-kind : (any : Bool × Bool) {a b : Bool} → any ≡ (a, b) → kind_from any.0 any.1 ≡ kind_from a b
any-kind any same = ap (λ (t : Bool × Bool). kind_from t.0 t.1) same

-- full corners in hand are as many as a cell has
pub length-seen : {V : Type 0} (numbers : V → List ℤ) (axes : ℕ) (corners : CornerList (Vertex V)) → IsFull axes corners → length (corner_records numbers corners) ≡ 2 ^ axes
length-seen numbers axes corners full = length-map (vertices_of corners) (record_of numbers) ∙ length-vertices_of axes corners full
