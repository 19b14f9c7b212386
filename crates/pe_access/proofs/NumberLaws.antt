-- The numbers of faces: from a parent's to its child's, and the greatest is that of the fastest face.
use Rattle.std.proofs.Common.{◌≡◌, ℕ, zero, suc, ◌+◌, ◌*◌, ◌/◌, ◌%◌, ◌<◌, ◌≤◌, Bool, true, false, ◌&&◌, ◌⊎◌, List, [], ◌∷◌, map, length, get_or, max, subst, Option, Some, None, sym, ap, ap₂, ◌∙◌, refl, inl, inr, arith}
use Rattle.std.specs.Prelude.{◌==◌, if◌then◌else◌, nat_lt, sum_by, slice_get, IfSome}
use Rattle.std.proofs.lemmas.Bool.{lt-ltb, le-ltb, cases_lt, cond_both, ne_eqb}
use Rattle.std.proofs.Math.Nat.{max-eq_left, max-eq_right}
use Rattle.pe_base.specs.Tree.Places.{bits}
use Rattle.pe_base.proofs.Steps.RouteLaws.{Below}
use Rattle.pe_access.specs.declared.numbers.Axis.{Axis}
use Rattle.pe_access.specs.declared.route.Route.TheVariants.{Stream, Temp}
use Rattle.pe_access.specs.Extents.{Relation, Earlier, Later, Outside, Face, Extent, bit_of, is_relation, face_at}
use Rattle.pe_access.specs.Numbers.{face_number, numbers_of, axis_of, axes_from, stack_of}
use Rattle.pe_access.specs.States.{IsIdle, route_of, odd_count}
use Rattle.pe_access.proofs.Choices.{Choice, fastest}

-- the numbers of some extents, extent by extent
length-axes_from : (axis : ℕ) (extents : List Extent) → length (axes_from axis extents) ≡ length extents
length-axes_from axis [] = refl
length-axes_from axis (extent ∷ extents) = ap (λ (n : ℕ). suc n) (length-axes_from (axis + 1) extents)

pub get_or-axes_from : (axis : ℕ) (extents : List Extent) (i : ℕ) (d : Axis) (e : Extent) → i < length extents → get_or (axes_from axis extents) i d ≡ axis_of (axis + i) (get_or extents i e)
get_or-axes_from axis [] i d e h = absurd (omega arith)
get_or-axes_from axis (extent ∷ extents) zero d e h = ap (λ (n : ℕ). axis_of n extent) (omega arith)
get_or-axes_from axis (extent ∷ extents) (suc i) d e h = get_or-axes_from (axis + 1) extents i d e (omega arith) ∙ ap (λ (n : ℕ). axis_of n (get_or extents i e)) (omega arith)

odds-axes_from : (axis : ℕ) (extents : List Extent) → map (λ a. bit_of a.odd) (axes_from axis extents) ≡ map (λ extent. bit_of extent.odd) extents
odds-axes_from axis [] = refl
odds-axes_from axis (extent ∷ extents) = ap (λ bs. bit_of extent.odd ∷ bs) (odds-axes_from (axis + 1) extents)

-- a state's axes have the numbers of some extents
pub record AreNumbers (along : List Axis) (extents : List Extent) : Type 0 where
  pub four : length extents ≡ 4
  pub each : (i : ℕ) (d : Axis) (e : Extent) → i < 4 → get_or along i d ≡ axis_of i (get_or extents i e)
  pub odds : map (λ a. bit_of a.odd) along ≡ map (λ extent. bit_of extent.odd) extents
  pub odd_sum : odd_count along ≡ sum_by (λ extent. bit_of extent.odd) extents

odd_sums : (extents : List Extent) → length extents ≡ 4 → odd_count (axes_from 0 extents) ≡ sum_by (λ extent. bit_of extent.odd) extents
odd_sums [] h = absurd (omega arith)
odd_sums (a ∷ []) h = absurd (omega arith)
odd_sums (a ∷ b ∷ []) h = absurd (omega arith)
odd_sums (a ∷ b ∷ c ∷ []) h = absurd (omega arith)
odd_sums (a ∷ b ∷ c ∷ d ∷ []) h = refl
odd_sums (a ∷ b ∷ c ∷ d ∷ e ∷ extents) h = absurd (omega arith)

pub numbers_are : (along : List Axis) (extents : List Extent) → length along ≡ 4 → along ≡ axes_from 0 extents → AreNumbers along extents
numbers_are along extents long is =
    let many : length extents ≡ 4 = sym (length-axes_from 0 extents) ∙ ap length (sym is) ∙ long in
    record {
      four = many;
      each = λ i d e h. ap (λ along'. get_or along' i d) is ∙ get_or-axes_from 0 extents i d e (omega arith) ∙ ap (λ (n : ℕ). axis_of n (get_or extents i e)) (omega arith);
      odds = ap (λ along'. map (λ a. bit_of a.odd) along') is ∙ odds-axes_from 0 extents;
      odd_sum = ap odd_count is ∙ odd_sums extents many;
    }

-- the greatest number at a corner, with a side for each axis
abbrev pub greatest : Relation → ℕ → List ℕ → List Extent → ℕ
greatest relation axis [] extents = 0
greatest relation axis (side ∷ sides) [] = 0
greatest relation axis (side ∷ sides) (extent ∷ extents) = max (face_number relation axis side extent) (greatest relation (axis + 1) sides extents)

-- a number tells the route and the level of a choice
abbrev Told : ℕ → Choice → ℕ → Type 0
Told axis c m = ((c.level ≡ 0) × (c.route ≡ Stream) × (m ≡ 0)) ⊎ ((s : ℕ) × (c.route ≡ Temp s) × (m ≡ 8 * c.level + s) × (2 * axis ≤ s) × (s < 8) × (0 < c.level))

sooner : (axis : ℕ) (c : Choice) (m : ℕ) → Told (axis + 1) c m → Told axis c m
sooner axis c m told = elim told [
  | inl none ↦ inl none
  | inr t ↦ inr (t.0, t.1, t.2, (let least = t.3 in omega arith), t.4, t.5)
]

told_step : (axis : ℕ) (v : Bool) (s level : ℕ) (c : Choice) (m : ℕ) → Told (axis + 1) c m → 2 * axis ≤ s → s < 2 * axis + 2 → s < 8
    → Told axis (if v && nat_lt c.level level then (record { route = Temp s; level = level }) else c) (max (if v && nat_lt 0 level then 8 * level + s else 0) m)
told_step axis false s level c m told least most small =
    let P : ℕ → Type 0 = λ n. Told axis c n in
    subst P (sym (max-eq_right (omega arith))) (sooner axis c m told)
told_step axis true s level c m told least most small =
    let a : Choice = record { route = Temp s; level = level } in
    let P : Choice → ℕ → Type 0 = λ d n. Told axis d n in
    elim (cases_lt c.level level) [
      | inl less ↦ (
          let chosen : (if nat_lt c.level level then a else c) ≡ a = ap (λ b. if b then a else c) (lt-ltb c.level level less) in
          let positive : (if nat_lt 0 level then 8 * level + s else 0) ≡ 8 * level + s = ap (λ b. if b then 8 * level + s else 0) (lt-ltb 0 level (omega arith)) in
          let below : m ≤ 8 * level + s = elim told [
            | inl none ↦ (let nothing = none.2 in omega arith)
            | inr t ↦ (let is = t.2 in let few = t.4 in omega arith)
          ] in
          let number : max (if nat_lt 0 level then 8 * level + s else 0) m ≡ 8 * level + s = ap (λ (n : ℕ). max n m) positive ∙ max-eq_left below in
          let P₁ : Choice → Type 0 = λ d. Told axis d (max (if nat_lt 0 level then 8 * level + s else 0) m) in
          let P₂ : ℕ → Type 0 = λ n. Told axis a n in
          subst P₁ (sym chosen) (subst P₂ (sym number) (inr (s, refl, refl, least, small, omega arith))))
      | inr more ↦ (
          let chosen : (if nat_lt c.level level then a else c) ≡ c = ap (λ b. if b then a else c) (le-ltb c.level level more) in
          let below : (if nat_lt 0 level then 8 * level + s else 0) ≤ m = elim told [
            | inl none ↦ (
                let nothing = none.0 in
                let zero_level : level ≡ 0 = omega arith in
                let L : ℕ → Type 0 = λ n. n ≤ m in
                subst L (sym (ap (λ (l : ℕ). if nat_lt 0 l then 8 * l + s else 0) zero_level)) (omega arith))
            | inr t ↦ (
                let is = t.2 in
                let later = t.3 in
                cond_both (nat_lt 0 level) (8 * level + s) 0 (λ (n : ℕ). n ≤ m) (λ e. omega arith) (λ e. omega arith))
          ] in
          let P₁ : Choice → Type 0 = λ d. Told axis d (max (if nat_lt 0 level then 8 * level + s else 0) m) in
          let P₂ : ℕ → Type 0 = λ n. Told axis c n in
          subst P₁ (sym chosen) (subst P₂ (sym (max-eq_right below)) (sooner axis c m told)))
    ]

-- the greatest number is that of the fastest face
tell : (relation : Relation) (axis : ℕ) (sides : List ℕ) (extents : List Extent) → axis + length extents ≤ 4 → Below 2 sides → Told axis (fastest relation axis sides extents) (greatest relation axis sides extents)
tell relation axis [] extents few small = inl (refl, refl, refl)
tell relation axis (side ∷ sides) [] few small = inl (refl, refl, refl)
tell relation axis (side ∷ sides) (extent ∷ extents) few small =
    let face = face_at extent side in
    told_step axis (is_relation face.relation relation) (2 * axis + (bit_of extent.odd + side) % 2) face.level (fastest relation (axis + 1) sides extents) (greatest relation (axis + 1) sides extents)
    (tell relation (axis + 1) sides extents (omega arith) small.1) (omega arith) (omega arith) (omega arith)

no_stack : (o : Option ℕ) → Stream ≡ route_of o → None ≡ o
no_stack None e = refl
no_stack (Some s) e = cc

one_stack : (s : ℕ) (o : Option ℕ) → Temp s ≡ route_of o → Some s ≡ o
one_stack s None e = cc
one_stack s (Some t) e = cc

-- so the greatest number names the stack of the fastest face
pub stack_of-greatest : (relation : Relation) (sides : List ℕ) (extents : List Extent) (o : Option ℕ) → length extents ≡ 4 → Below 2 sides → (fastest relation 0 sides extents).route ≡ route_of o → stack_of (greatest relation 0 sides extents) ≡ o
stack_of-greatest relation sides extents o long small route =
    let m = greatest relation 0 sides extents in
    elim (tell relation 0 sides extents (omega arith) small) [
      | inl none ↦ ap (λ (n : ℕ). stack_of n) none.2 ∙ no_stack o (sym none.1 ∙ route)
      | inr t ↦ (
          let s = t.0 in
          let is = t.2 in
          let few = t.4 in
          let positive = t.5 in
          let some : (m == 0) ≡ false = ne_eqb m 0 (λ e. omega arith) in
          let rest : m % 8 ≡ s = omega arith in
          ap (λ (b : Bool). if b then None else Some (m % 8)) some ∙ ap (λ (n : ℕ). Some n) rest ∙ one_stack s o (sym t.1 ∙ route))
    ]

-- the face at a side
pub side_of : (axis side : ℕ) (along : Axis) (extent : Extent) → along ≡ axis_of axis extent → side < 2 → (if side == 0 then along.near else along.far) ≡ numbers_of axis side extent
side_of axis zero along extent e h = ap (λ (a : Axis). a.near) e
side_of axis (suc zero) along extent e h = ap (λ (a : Axis). a.far) e
side_of axis (suc (suc side)) along extent e h = absurd (omega arith)

-- the greatest of four
greatest_at : (relation : Relation) (a b c d n₀ n₁ n₂ n₃ : ℕ) (extents : List Extent) (e : Extent) → length extents ≡ 4
    → n₀ ≡ face_number relation 0 a (get_or extents 0 e) → n₁ ≡ face_number relation 1 b (get_or extents 1 e) → n₂ ≡ face_number relation 2 c (get_or extents 2 e) → n₃ ≡ face_number relation 3 d (get_or extents 3 e)
    → max n₀ (max n₁ (max n₂ n₃)) ≡ greatest relation 0 (a ∷ b ∷ c ∷ d ∷ []) extents
greatest_at relation a b c d n₀ n₁ n₂ n₃ (l₀ ∷ l₁ ∷ l₂ ∷ l₃ ∷ []) e long is₀ is₁ is₂ is₃ =
    let last : n₃ ≡ max (face_number relation 3 d l₃) 0 = is₃ ∙ sym (max-eq_left (omega arith)) in
    ap₂ (λ (x y : ℕ). max x y) is₀ (ap₂ (λ (x y : ℕ). max x y) is₁ (ap₂ (λ (x y : ℕ). max x y) is₂ last))
greatest_at relation a b c d n₀ n₁ n₂ n₃ [] e long is₀ is₁ is₂ is₃ = absurd (omega arith)
greatest_at relation a b c d n₀ n₁ n₂ n₃ (l₀ ∷ []) e long is₀ is₁ is₂ is₃ = absurd (omega arith)
greatest_at relation a b c d n₀ n₁ n₂ n₃ (l₀ ∷ l₁ ∷ []) e long is₀ is₁ is₂ is₃ = absurd (omega arith)
greatest_at relation a b c d n₀ n₁ n₂ n₃ (l₀ ∷ l₁ ∷ l₂ ∷ []) e long is₀ is₁ is₂ is₃ = absurd (omega arith)
greatest_at relation a b c d n₀ n₁ n₂ n₃ (l₀ ∷ l₁ ∷ l₂ ∷ l₃ ∷ l₄ ∷ extents) e long is₀ is₁ is₂ is₃ = absurd (omega arith)

pub greatest_four : (relation : Relation) (k n₀ n₁ n₂ n₃ : ℕ) (extents : List Extent) (e : Extent) → length extents ≡ 4
    → n₀ ≡ face_number relation 0 (k % 2) (get_or extents 0 e) → n₁ ≡ face_number relation 1 (k / 2 % 2) (get_or extents 1 e) → n₂ ≡ face_number relation 2 (k / 4 % 2) (get_or extents 2 e) → n₃ ≡ face_number relation 3 (k / 8 % 2) (get_or extents 3 e)
    → max n₀ (max n₁ (max n₂ n₃)) ≡ greatest relation 0 (bits 4 k) extents
greatest_four relation k n₀ n₁ n₂ n₃ extents e long is₀ is₁ is₂ is₃ =
    let lowest : k % 2 ≡ k / 1 % 2 = omega arith in
    greatest_at relation (k % 2) (k / 2 % 2) (k / 4 % 2) (k / 8 % 2) n₀ n₁ n₂ n₃ extents e long is₀ is₁ is₂ is₃
    ∙ ap (λ (b : ℕ). greatest relation 0 (b ∷ (k / 2 % 2) ∷ (k / 4 % 2) ∷ (k / 8 % 2) ∷ []) extents) lowest

-- an axis that the grid does not have has no face at its near end
idle_extent : (extents : List Extent) (i : ℕ) (e : Extent) → i < length extents → IfSome (slice_get extents i) IsIdle → IsIdle (get_or extents i e)
idle_extent [] i e h idle = absurd (omega arith)
idle_extent (extent ∷ extents) zero e h idle = idle
idle_extent (extent ∷ extents) (suc i) e h idle = idle_extent extents i e (omega arith) idle

pub idle_number : (relation : Relation) (axis : ℕ) (extent : Extent) → IsIdle extent → face_number relation axis 0 extent ≡ 0
idle_number relation axis extent idle =
    ap (λ (f : Face). if is_relation f.relation relation && nat_lt 0 f.level then 8 * f.level + (2 * axis + (bit_of extent.odd + 0) % 2) else 0) idle.closed ∙ none relation
  where
    none : (r : Relation) → (if is_relation Outside r && false then 8 * 0 + (2 * axis + (bit_of extent.odd + 0) % 2) else 0) ≡ 0
    none Earlier = refl
    none Later = refl
    none Outside = refl

pub idle_at : (extents : List Extent) (i : ℕ) (e : Extent) → length extents ≡ 4 → i < 4 → IfSome (slice_get extents i) IsIdle → IsIdle (get_or extents i e)
idle_at extents i e long h idle = idle_extent extents i e (omega arith) idle
