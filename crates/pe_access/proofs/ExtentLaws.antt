-- Extents from a cell to its child, and the flips of a cell.
use Rattle.std.proofs.Common.{◌≡◌, ℕ, zero, suc, ◌+◌, ◌*◌, ◌/◌, ◌%◌, ◌^◌, ◌<◌, true, false, List, [], ◌∷◌, map, length, get_or, sym, ap, ◌∙◌, subst, refl, inl, inr, arith, pow-suc}
use Rattle.std.specs.Prelude.{◌==◌, if◌then◌else◌, sum, sum_by, slice_index}
use Rattle.std.proofs.lemmas.Bool.{eqb-true, eqb-false, cases_lt}
use Rattle.pe_base.specs.declared.way.Way.{Way}
use Rattle.pe_base.specs.Tree.Places.{finer}
use Rattle.pe_base.specs.Tree.Curve.{flip}
use Rattle.pe_base.specs.Steps.Routes.{way_turns}
use Rattle.pe_base.proofs.Tree.PlaceLaws.{four}
use Rattle.pe_base.proofs.Steps.RouteLaws.{Below}
use Rattle.pe_base.proofs.Steps.StackLaws.{Below-parents, length-parents}
use Rattle.std.proofs.lemmas.List.{length-map, get_or-map}
use Rattle.pe_access.specs.Extents.{Face, Earlier, Later, Extent, bit_of, root_extent, child_extent}
use Rattle.pe_access.specs.declared.numbers.Axis.{Axis}
use Rattle.pe_access.proofs.ChildExtents.{parent_pos, child_extents, extents_of}

pub child_extent-parity : (level a b k : ℕ) (extent : Extent) → a % 2 ≡ b % 2 → child_extent level a k extent ≡ child_extent level b k extent
child_extent-parity level a b k extent e =
    let near : ℕ → Face = λ r. record { relation = if r == 0 then Earlier else Later; level = level } in
    let far : ℕ → Face = λ r. record { relation = if r == 0 then Later else Earlier; level = level } in
    let f : ℕ → Extent = λ r. record {
      odd = (bit_of extent.odd + k) % 2 == 1;
      near = if k == 0 then extent.near else near r;
      far = if k == 2 then extent.far else far r;
    } in
    ap f e

pub bit-parity : (n : ℕ) → bit_of (n % 2 == 1) ≡ n % 2
bit-parity n = elim (n % 2 == 1) as (λ v. (n % 2 == 1) ≡ v → bit_of v ≡ n % 2) [
  | true ↦ λ e. let one : n % 2 ≡ 1 = eqb-true (n % 2) 1 e in omega arith
  | false ↦ λ e. let apart = eqb-false (n % 2) 1 e in elim (cases_lt (n % 2) 1) [ inl h ↦ omega arith | inr h ↦ absurd (apart (omega arith)) ]
] refl

child_extents-odd : (level turns : ℕ) (xs : List ℕ) (extents : List Extent) → map (λ extent. bit_of extent.odd) extents ≡ map (λ x. x % 2) (parent_pos xs) → map (λ extent. bit_of extent.odd) (child_extents level turns (parent_pos xs) xs extents) ≡ map (λ x. x % 2) xs
child_extents-odd level turns [] extents e = refl
child_extents-odd level turns (x ∷ xs) [] e = cc
child_extents-odd level turns (x ∷ xs) (extent ∷ extents) e =
    let here : bit_of extent.odd ≡ x / 3 % 2 = cc in
    let rest : map (λ extent. bit_of extent.odd) extents ≡ map (λ x. x % 2) (parent_pos xs) = cc in
    let head : bit_of ((bit_of extent.odd + x % 3) % 2 == 1) ≡ x % 2 = bit-parity (bit_of extent.odd + x % 3) ∙ omega arith in
    let tail = child_extents-odd level (turns + x % 3) xs extents rest in
    cc

-- each extent is as odd as its coordinate
pub extents_of-odd : (way : Way) (level : ℕ) (pos : List ℕ) → Below (3 ^ level) pos → map (λ extent. bit_of extent.odd) (extents_of way level pos) ≡ map (λ x. x % 2) pos
extents_of-odd way zero [] h = refl
extents_of-odd way zero (x ∷ pos) h =
    let b = h.0 in
    let head : 0 ≡ x % 2 = omega arith in
    let tail = extents_of-odd way zero pos h.1 in
    cc
extents_of-odd way (suc level) pos h = child_extents-odd (suc level) (way_turns way + sum (parent_pos pos)) pos (extents_of way level (parent_pos pos)) (extents_of-odd way level (parent_pos pos)
    (let P : ℕ → Type 0 = λ b. Below b pos in
    let bound : 3 ^ suc level ≡ 3 * 3 ^ level = omega (arith, pow-suc 3 level) in
    Below-parents (3 ^ level) pos (subst P bound h)))

pub length-child_extents : (level turns : ℕ) (ps xs : List ℕ) (extents : List Extent) → length xs ≡ length ps → length extents ≡ length ps → length (child_extents level turns ps xs extents) ≡ length ps
length-child_extents level turns [] xs extents e f = refl
length-child_extents level turns (p ∷ ps) [] extents e f = absurd (omega arith)
length-child_extents level turns (p ∷ ps) (x ∷ xs) [] e f = absurd (omega arith)
length-child_extents level turns (p ∷ ps) (x ∷ xs) (extent ∷ extents) e f = ap suc (length-child_extents level (turns + x % 3) ps xs extents (omega arith) (omega arith))

pub length-extents_of : (way : Way) (level : ℕ) (pos : List ℕ) → length (extents_of way level pos) ≡ length pos
length-extents_of way zero pos = length-map pos (λ x. root_extent)
length-extents_of way (suc level) pos =
    length-child_extents (suc level) (way_turns way + sum (parent_pos pos)) (parent_pos pos) pos (extents_of way level (parent_pos pos)) (sym (length-parents pos)) (length-extents_of way level (parent_pos pos))
    ∙ length-parents pos

pub parents-finer : (ps ks : List ℕ) → length ps ≡ length ks → Below 3 ks → parent_pos (finer ps ks) ≡ ps
parents-finer [] [] e h = refl
parents-finer [] (k ∷ ks) e h = absurd (omega arith)
parents-finer (p ∷ ps) [] e h = absurd (omega arith)
parents-finer (p ∷ ps) (k ∷ ks) e h =
    let b = h.0 in
    let head : (3 * p + k) / 3 ≡ p = omega arith in
    let tail = parents-finer ps ks (omega arith) h.1 in
    cc

-- the extents of a child, by the digits at which it lies
abbrev pub extents_at : ℕ → ℕ → List ℕ → List ℕ → List Extent → List Extent
extents_at level turns [] ks extents = []
extents_at level turns (p ∷ ps) [] extents = []
extents_at level turns (p ∷ ps) (k ∷ ks) [] = []
extents_at level turns (p ∷ ps) (k ∷ ks) (extent ∷ extents) = child_extent level (turns + p) k extent ∷ extents_at level (turns + k) ps ks extents

child_extents-finer : (level turns : ℕ) (ps ks : List ℕ) (extents : List Extent) → length ps ≡ length ks → Below 3 ks → child_extents level turns ps (finer ps ks) extents ≡ extents_at level turns ps ks extents
child_extents-finer level turns [] ks extents e h = refl
child_extents-finer level turns (p ∷ ps) [] extents e h = absurd (omega arith)
child_extents-finer level turns (p ∷ ps) (k ∷ ks) [] e h = refl
child_extents-finer level turns (p ∷ ps) (k ∷ ks) (extent ∷ extents) e h =
    let b = h.0 in
    let digit : (3 * p + k) % 3 ≡ k = omega arith in
    ap (λ (d : ℕ). child_extent level (turns + p) d extent ∷ child_extents level (turns + d) ps (finer ps ks) extents) digit
    ∙ ap (λ more. child_extent level (turns + p) k extent ∷ more) (child_extents-finer level (turns + k) ps ks extents (omega arith) h.1)

pub extents_of-finer : (way : Way) (level : ℕ) (pos ks : List ℕ) → length pos ≡ length ks → Below 3 ks → extents_of way (suc level) (finer pos ks) ≡ extents_at (suc level) (way_turns way + sum pos) pos ks (extents_of way level pos)
extents_of-finer way level pos ks e h =
    ap (λ ps. child_extents (suc level) (way_turns way + sum ps) ps (finer pos ks) (extents_of way level ps)) (parents-finer pos ks e h)
    ∙ child_extents-finer (suc level) (way_turns way + sum pos) pos ks (extents_of way level pos) e h

four_extents : (xs : List Extent) (d : Extent) → length xs ≡ 4 → xs ≡ get_or xs 0 d ∷ get_or xs 1 d ∷ get_or xs 2 d ∷ get_or xs 3 d ∷ []
four_extents [] d e = absurd (omega arith)
four_extents (x ∷ []) d e = absurd (omega arith)
four_extents (x ∷ y ∷ []) d e = absurd (omega arith)
four_extents (x ∷ y ∷ z ∷ []) d e = absurd (omega arith)
four_extents (x ∷ y ∷ z ∷ w ∷ []) d e = refl
four_extents (x ∷ y ∷ z ∷ w ∷ v ∷ rest) d e = absurd (omega arith)

-- the extents that a descent makes are those at the digits
abbrev Descends : List ℕ → List ℕ → List Extent → Type 0
Descends pos ks extents =
    (way : Way) (level t b₀ b₁ b₂ b₃ : ℕ) (d l₀ l₁ l₂ l₃ : Extent) → Below 3 ks → length pos ≡ length ks → map (λ extent. bit_of extent.odd) extents ≡ map (λ x. x % 2) pos
    → t ≡ way_turns way + sum_by (λ extent. bit_of extent.odd) extents
    → b₀ ≡ bit_of (get_or extents 0 d).odd → b₁ ≡ bit_of (get_or extents 1 d).odd → b₂ ≡ bit_of (get_or extents 2 d).odd → b₃ ≡ bit_of (get_or extents 3 d).odd
    → l₀ ≡ child_extent (level + 1) (t + b₀) (get_or ks 0 0) (get_or extents 0 d)
    → l₁ ≡ child_extent (level + 1) (t + get_or ks 0 0 + b₁) (get_or ks 1 0) (get_or extents 1 d)
    → l₂ ≡ child_extent (level + 1) (t + get_or ks 0 0 + get_or ks 1 0 + b₂) (get_or ks 2 0) (get_or extents 2 d)
    → l₃ ≡ child_extent (level + 1) (t + get_or ks 0 0 + get_or ks 1 0 + get_or ks 2 0 + b₃) (get_or ks 3 0) (get_or extents 3 d)
    → l₀ ∷ l₁ ∷ l₂ ∷ l₃ ∷ [] ≡ extents_at (level + 1) (way_turns way + sum pos) pos ks extents

four_descend : (p₀ p₁ p₂ p₃ k₀ k₁ k₂ k₃ : ℕ) (m₀ m₁ m₂ m₃ : Extent) → Descends (p₀ ∷ p₁ ∷ p₂ ∷ p₃ ∷ []) (k₀ ∷ k₁ ∷ k₂ ∷ k₃ ∷ []) (m₀ ∷ m₁ ∷ m₂ ∷ m₃ ∷ [])
four_descend p₀ p₁ p₂ p₃ k₀ k₁ k₂ k₃ m₀ m₁ m₂ m₃ way level t b₀ b₁ b₂ b₃ d l₀ l₁ l₂ l₃ below same odd turns is₀ is₁ is₂ is₃ c₀ c₁ c₂ c₃ =
    let pos = p₀ ∷ p₁ ∷ p₂ ∷ p₃ ∷ [] in
    let ks = k₀ ∷ k₁ ∷ k₂ ∷ k₃ ∷ [] in
    let extents = m₀ ∷ m₁ ∷ m₂ ∷ m₃ ∷ [] in
    let all = way_turns way + sum pos in
    let o₀ : b₀ ≡ p₀ % 2 = cc in
    let o₁ : b₁ ≡ p₁ % 2 = cc in
    let o₂ : b₂ ≡ p₂ % 2 = cc in
    let o₃ : b₃ ≡ p₃ % 2 = cc in
    let few : t ≡ way_turns way + (b₀ + b₁ + b₂ + b₃) = turns ∙ omega (arith, is₀, is₁, is₂, is₃) in
    let total : sum pos ≡ p₀ + p₁ + p₂ + p₃ = omega arith in
    let parity : t % 2 ≡ all % 2 = omega arith in
    let e₀ : l₀ ≡ child_extent (level + 1) (all + p₀) k₀ m₀ = c₀ ∙ child_extent-parity (level + 1) (t + b₀) (all + p₀) k₀ m₀ (omega (arith, parity, o₀)) in
    let e₁ : l₁ ≡ child_extent (level + 1) (all + k₀ + p₁) k₁ m₁ = c₁ ∙ child_extent-parity (level + 1) (t + k₀ + b₁) (all + k₀ + p₁) k₁ m₁ (omega (arith, parity, o₁)) in
    let e₂ : l₂ ≡ child_extent (level + 1) (all + k₀ + k₁ + p₂) k₂ m₂ = c₂ ∙ child_extent-parity (level + 1) (t + k₀ + k₁ + b₂) (all + k₀ + k₁ + p₂) k₂ m₂ (omega (arith, parity, o₂)) in
    let e₃ : l₃ ≡ child_extent (level + 1) (all + k₀ + k₁ + k₂ + p₃) k₃ m₃ = c₃ ∙ child_extent-parity (level + 1) (t + k₀ + k₁ + k₂ + b₃) (all + k₀ + k₁ + k₂ + p₃) k₃ m₃ (omega (arith, parity, o₃)) in
    cc

pub descends : (pos ks : List ℕ) (extents : List Extent) → length pos ≡ 4 → length ks ≡ 4 → length extents ≡ 4 → Descends pos ks extents
descends pos ks extents e f g way level t b₀ b₁ b₂ b₃ d =
    let A : List ℕ → Type 0 = λ xs. Descends xs ks extents in
    let B : List ℕ → Type 0 = λ xs. Descends (slice_index pos 0 ∷ slice_index pos 1 ∷ slice_index pos 2 ∷ slice_index pos 3 ∷ []) xs extents in
    let C : List Extent → Type 0 = λ xs. Descends (slice_index pos 0 ∷ slice_index pos 1 ∷ slice_index pos 2 ∷ slice_index pos 3 ∷ []) (slice_index ks 0 ∷ slice_index ks 1 ∷ slice_index ks 2 ∷ slice_index ks 3 ∷ []) xs in
    subst A (sym (four pos e)) (subst B (sym (four ks f)) (subst C (sym (four_extents extents d g))
    (four_descend (slice_index pos 0) (slice_index pos 1) (slice_index pos 2) (slice_index pos 3) (slice_index ks 0) (slice_index ks 1) (slice_index ks 2) (slice_index ks 3) (get_or extents 0 d) (get_or extents 1 d) (get_or extents 2 d) (get_or extents 3 d))))
    way level t b₀ b₁ b₂ b₃ d

-- each flip, from the parities of the coordinates
pub flip-at : (x y z w b₀ b₁ b₂ b₃ axis : ℕ) → axis < 4 → b₀ ≡ x % 2 → b₁ ≡ y % 2 → b₂ ≡ z % 2 → b₃ ≡ w % 2 → ((b₀ + b₁ + b₂ + b₃ + b₀) % 2 + 2 * ((b₀ + b₁ + b₂ + b₃ + b₁) % 2) + 4 * ((b₀ + b₁ + b₂ + b₃ + b₂) % 2) + 8 * ((b₀ + b₁ + b₂ + b₃ + b₃) % 2)) / 2 ^ axis % 2 ≡ flip (x ∷ y ∷ z ∷ w ∷ []) axis
flip-at x y z w b₀ b₁ b₂ b₃ zero h e f g k = omega arith
flip-at x y z w b₀ b₁ b₂ b₃ (suc zero) h e f g k = omega arith
flip-at x y z w b₀ b₁ b₂ b₃ (suc (suc zero)) h e f g k = omega arith
flip-at x y z w b₀ b₁ b₂ b₃ (suc (suc (suc zero))) h e f g k = omega arith
flip-at x y z w b₀ b₁ b₂ b₃ (suc (suc (suc (suc axis)))) h e f g k = absurd (omega arith)

pub Below-all : (bound : ℕ) (pos : List ℕ) → ((i : ℕ) → slice_index pos i < bound) → Below bound pos
Below-all bound [] h = tt
Below-all bound (x ∷ pos) h = (h 0, Below-all bound pos (λ i. h (suc i)))

-- the parity along an axis
pub odd-at : (along : List Axis) (pos : List ℕ) (i : ℕ) (d : Axis) → i < length along → map (λ axis. bit_of axis.odd) along ≡ map (λ x. x % 2) pos → bit_of (get_or along i d).odd ≡ slice_index pos i % 2
odd-at along pos i d h e =
    let same : length along ≡ length pos = sym (length-map along (λ axis. bit_of axis.odd)) ∙ ap length e ∙ length-map pos (λ x. x % 2) in
    sym (get_or-map (λ axis. bit_of axis.odd) along i d 0 h) ∙ ap (λ xs. get_or xs i 0) e ∙ get_or-map (λ x. x % 2) pos i 0 0 (omega arith)
