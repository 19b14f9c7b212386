-- The cells of a level around a point, in the order of the walk, from level to level.
use Rattle.std.proofs.Common.{◌≡◌, ℕ, zero, suc, ◌+◌, ◌-◌, ◌*◌, ◌/◌, ◌%◌, ◌<◌, ◌≤◌, Bool, true, false, ◌&&◌, ◌||◌, List, [], ◌∷◌, ◌++◌, map, Option, Some, None, sym, ap, ◌∙◌, subst, refl, inl, inr, arith}
use Rattle.std.specs.Prelude.{◌==◌, if◌then◌else◌, filter, sum, replicate, All}
use Rattle.std.specs.List.{flat_map}
use Rattle.std.proofs.lemmas.Bool.{and_parts, and_cases, or_parts, or_left, or_right, or_from, eqb-true, eqb-false, eq-eqb, ne_eqb, false≢true, cases_lt, cases_Bool}
use Rattle.std.proofs.lemmas.List.{append-nil}
use Rattle.std.proofs.lemmas.List.Elements.{filter-append, filter_passes, All-head, All-tail}
use Rattle.pe_base.specs.Tree.Curve.{mirrored}
use Rattle.pe_base.proofs.Tree.CurveLaws.{sum-cons}
use Rattle.pe_base.proofs.Steps.Walks.{Step, Path, Walk, Path-join, Path-weaker}
use Rattle.pe_base.proofs.Steps.AroundInCell.{Spot, Fit, fit, fits, fits_all, coarse, two, low, two_on, low_on, lead, other, split, is_even, gray, start, enter, Crosses, parents, Within, start-parity, parents-start, gray_walk}

at_plane : (on whole near even : Bool) (x : ℕ) → on ≡ true → whole ≡ true → near ≡ true → lead (two_on on whole) even (low_on on whole near x) ≡ x
at_plane false whole near even x o w n = absurd (false≢true o)
at_plane true false near even x o w n = absurd (false≢true w)
at_plane true true false even x o w n = absurd (false≢true n)
at_plane true true true even x o w n = refl

before_plane : (on whole near even : Bool) (x : ℕ) → on ≡ true → whole ≡ true → near ≡ false → lead (two_on on whole) even (low_on on whole near x) ≡ x - 1
before_plane false whole near even x o w n = absurd (false≢true o)
before_plane true false near even x o w n = absurd (false≢true w)
before_plane true true true even x o w n = absurd (false≢true (sym n))
before_plane true true false even x o w n = refl

-- where two cells share a face, so do the last child of the one and the first of the other
pub between : (ss : List Spot) (i : ℕ) (us vs : List ℕ) (a b : ℕ) → a % 2 ≡ b % 2 → Crosses (map coarse ss) i us vs → Crosses ss i (start a ss us) (start b ss vs)
between [] i us vs a b e h = absurd h
between (s ∷ ss) zero [] vs a b e h = absurd h
between (s ∷ ss) zero (u ∷ us) [] a b e h = absurd h
between (s ∷ ss) zero (u ∷ us) (v ∷ vs) a b e h =
    let parts = and_parts s.on (s.x % 3 == 0) h.0 in
    let on = parts.0 in
    let third : s.x % 3 ≡ 0 = eqb-true (s.x % 3) 0 parts.1 in
    let first = lead (two s.x s.on) (is_even (a + u)) (low s.x s.on u) in
    let second = lead (two s.x s.on) (is_even (b + v)) (low s.x s.on v) in
    elim h.1 [
      | inl e₁ ↦
          let here : s.x / 3 ≡ u + 1 = e₁.0 in
          let there : s.x / 3 ≡ v = e₁.1 in
          let far : first ≡ s.x - 1 = before_plane s.on (s.x % 3 == 0) (s.x == 3 * u) (is_even (a + u)) s.x on parts.1 (ne_eqb s.x (3 * u) (λ q. omega arith)) in
          let near : second ≡ s.x = at_plane s.on (s.x % 3 == 0) (s.x == 3 * v) (is_even (b + v)) s.x on parts.1 (eq-eqb s.x (3 * v) (omega arith)) in
          (on, inl (omega arith, omega arith), start-parity (a + u + first) (b + v + second) ss us (omega arith) ∙ ap (start (b + v + second) ss) h.2)
      | inr e₁ ↦
          let here : s.x / 3 ≡ u = e₁.0 in
          let there : s.x / 3 ≡ v + 1 = e₁.1 in
          let near : first ≡ s.x = at_plane s.on (s.x % 3 == 0) (s.x == 3 * u) (is_even (a + u)) s.x on parts.1 (eq-eqb s.x (3 * u) (omega arith)) in
          let far : second ≡ s.x - 1 = before_plane s.on (s.x % 3 == 0) (s.x == 3 * v) (is_even (b + v)) s.x on parts.1 (ne_eqb s.x (3 * v) (λ q. omega arith)) in
          (on, inr (omega arith, omega arith), start-parity (a + u + first) (b + v + second) ss us (omega arith) ∙ ap (start (b + v + second) ss) h.2)
    ]
between (s ∷ ss) (suc i) [] vs a b e h = absurd h
between (s ∷ ss) (suc i) (u ∷ us) [] a b e h = absurd h
between (s ∷ ss) (suc i) (u ∷ us) (v ∷ vs) a b e h =
    let first : ℕ → ℕ → ℕ = λ r w. lead (two s.x s.on) (r == 0) (low s.x s.on w) in
    let same : u ≡ v = h.0 in
    let parity : (a + u) % 2 ≡ (b + v) % 2 = omega arith in
    let head : first ((a + u) % 2) u ≡ first ((b + v) % 2) v = cc in
    (head, between ss i us vs (a + u + first ((a + u) % 2) u) (b + v + first ((b + v) % 2) v) (omega arith) h.1)

-- the children of a cell, axis by axis
abbrev pub kids : ℕ → List ℕ → List (List ℕ)
kids b [] = [] ∷ []
kids b (p ∷ ps) = flat_map (λ t. map (λ cs. (3 * p + mirrored (b + p) t) ∷ cs) (kids (b + t) ps)) (0 ∷ 1 ∷ 2 ∷ [])

abbrev pub when : {X : Type 0} → Bool → List X → List X
when true xs = xs
when false xs = []

filter-under : (s : Spot) (ss : List Spot) (c : ℕ) (ls : List (List ℕ)) (v : Bool) → fits s c ≡ v → filter (fits_all (s ∷ ss)) (map (λ cs. c ∷ cs) ls) ≡ when v (map (λ cs. c ∷ cs) (filter (fits_all ss) ls))
filter-under s ss c [] true e = refl
filter-under s ss c [] false e = refl
filter-under s ss c (cs ∷ ls) true e =
    let rest = filter (fits_all (s ∷ ss)) (map (λ cs. c ∷ cs) ls) in
    ap (λ v. if v && fits_all ss cs then (c ∷ cs) ∷ rest else rest) e
    ∙ ap (λ xs. if fits_all ss cs then (c ∷ cs) ∷ xs else xs) (filter-under s ss c ls true e)
    ∙ elim (fits_all ss cs) as (λ v. (if v then (c ∷ cs) ∷ map (λ cs. c ∷ cs) (filter (fits_all ss) ls) else map (λ cs. c ∷ cs) (filter (fits_all ss) ls)) ≡ map (λ cs. c ∷ cs) (if v then cs ∷ filter (fits_all ss) ls else filter (fits_all ss) ls)) [ true ↦ refl | false ↦ refl ]
filter-under s ss c (cs ∷ ls) false e =
    let rest = filter (fits_all (s ∷ ss)) (map (λ cs. c ∷ cs) ls) in
    ap (λ v. if v && fits_all ss cs then (c ∷ cs) ∷ rest else rest) e ∙ filter-under s ss c ls false e

split-same : (tw even : Bool) (lo : ℕ) (f g : ℕ → List (List ℕ)) → ((c : ℕ) → f c ≡ g c) → split tw even lo f ≡ split tw even lo g
split-same false even lo f g each = each lo
split-same true even lo f g each =
    let one = each (lead true even lo) in
    let two = each (other even lo) in
    cc

-- the code depends on the parity of the turns alone
gray-parity : (a b : ℕ) (ss : List Spot) (ps : List ℕ) → a % 2 ≡ b % 2 → gray a ss ps ≡ gray b ss ps
gray-parity a b [] ps e = refl
gray-parity a b (s ∷ ss) [] e = refl
gray-parity a b (s ∷ ss) (p ∷ ps) e =
    let f : ℕ → List (List ℕ) = λ c. map (λ cs. c ∷ cs) (gray (a + p + c) ss ps) in
    let g : ℕ → List (List ℕ) = λ c. map (λ cs. c ∷ cs) (gray (b + p + c) ss ps) in
    let parity : (a + p) % 2 ≡ (b + p) % 2 = omega arith in
    ap (λ (r : ℕ). split (two s.x s.on) (r == 0) (low s.x s.on p) f) parity
    ∙ split-same (two s.x s.on) (is_even (b + p)) (low s.x s.on p) f g (λ c. ap (map (λ cs. c ∷ cs)) (gray-parity (a + p + c) (b + p + c) ss ps (omega arith)))

-- whether a coordinate is among the one or the two
abbrev among : Bool → ℕ → ℕ → Bool
among tw lo c = c == lo || (tw && c == lo + 1)

among-first : (tw : Bool) (lo c : ℕ) → c ≡ lo → among tw lo c ≡ true
among-first tw lo c e = or_left (c == lo) (tw && c == lo + 1) (eq-eqb c lo e)

among-second : (lo c : ℕ) → c ≡ lo + 1 → among true lo c ≡ true
among-second lo c e = or_right (c == lo) (c == lo + 1) (eq-eqb c (lo + 1) e)

among-not_one : (lo c : ℕ) → (c ≡ lo → ⊥) → among false lo c ≡ false
among-not_one lo c h = or_from (c == lo) false (ne_eqb c lo h) refl

among-not_two : (lo c : ℕ) → (c ≡ lo → ⊥) → (c ≡ lo + 1 → ⊥) → among true lo c ≡ false
among-not_two lo c h k = or_from (c == lo) (c == lo + 1) (ne_eqb c lo h) (ne_eqb c (lo + 1) k)

three : (v₀ v₁ v₂ u₀ u₁ u₂ : Bool) (xs ys zs : List (List ℕ)) → v₀ ≡ u₀ → v₁ ≡ u₁ → v₂ ≡ u₂ → when v₀ xs ++ (when v₁ ys ++ (when v₂ zs ++ [])) ≡ when u₀ xs ++ (when u₁ ys ++ (when u₂ zs ++ []))
three v₀ v₁ v₂ u₀ u₁ u₂ xs ys zs e f g = cc

-- of the three children along an axis, those that hold the point, in their order
chosen : (tw even : Bool) (p lo digit : ℕ) (at : ℕ → List (List ℕ)) → digit < 3 → lo ≡ 3 * p + digit → (tw ≡ true → digit < 2) → let child = λ (t : ℕ). 3 * p + (if even then t else (2 - t)) in when (among tw lo (child 0)) (at (child 0)) ++ (when (among tw lo (child 1)) (at (child 1)) ++ (when (among tw lo (child 2)) (at (child 2)) ++ [])) ≡ split tw even lo at
chosen false true p lo zero at below e d =
    three _ _ _ true false false _ _ _ (among-first false lo (3 * p + 0) (omega arith)) (among-not_one lo (3 * p + 1) (λ h. omega arith)) (among-not_one lo (3 * p + 2) (λ h. omega arith)) ∙ append-nil (at (3 * p + 0)) ∙ ap at (omega arith)
chosen false true p lo (suc zero) at below e d =
    three _ _ _ false true false _ _ _ (among-not_one lo (3 * p + 0) (λ h. omega arith)) (among-first false lo (3 * p + 1) (omega arith)) (among-not_one lo (3 * p + 2) (λ h. omega arith)) ∙ append-nil (at (3 * p + 1)) ∙ ap at (omega arith)
chosen false true p lo (suc (suc zero)) at below e d =
    three _ _ _ false false true _ _ _ (among-not_one lo (3 * p + 0) (λ h. omega arith)) (among-not_one lo (3 * p + 1) (λ h. omega arith)) (among-first false lo (3 * p + 2) (omega arith)) ∙ append-nil (at (3 * p + 2)) ∙ ap at (omega arith)
chosen false false p lo zero at below e d =
    three _ _ _ false false true _ _ _ (among-not_one lo (3 * p + 2) (λ h. omega arith)) (among-not_one lo (3 * p + 1) (λ h. omega arith)) (among-first false lo (3 * p + 0) (omega arith)) ∙ append-nil (at (3 * p + 0)) ∙ ap at (omega arith)
chosen false false p lo (suc zero) at below e d =
    three _ _ _ false true false _ _ _ (among-not_one lo (3 * p + 2) (λ h. omega arith)) (among-first false lo (3 * p + 1) (omega arith)) (among-not_one lo (3 * p + 0) (λ h. omega arith)) ∙ append-nil (at (3 * p + 1)) ∙ ap at (omega arith)
chosen false false p lo (suc (suc zero)) at below e d =
    three _ _ _ true false false _ _ _ (among-first false lo (3 * p + 2) (omega arith)) (among-not_one lo (3 * p + 1) (λ h. omega arith)) (among-not_one lo (3 * p + 0) (λ h. omega arith)) ∙ append-nil (at (3 * p + 2)) ∙ ap at (omega arith)
chosen true true p lo zero at below e d =
    let first : at (3 * p + 0) ≡ at lo = ap at (omega arith) in
    let second : at (3 * p + 1) ++ [] ≡ at (lo + 1) = append-nil (at (3 * p + 1)) ∙ ap at (omega arith) in
    three _ _ _ true true false _ _ _ (among-first true lo (3 * p + 0) (omega arith)) (among-second lo (3 * p + 1) (omega arith)) (among-not_two lo (3 * p + 2) (λ h. omega arith) (λ h. omega arith)) ∙ cc
chosen true true p lo (suc zero) at below e d =
    let first : at (3 * p + 1) ≡ at lo = ap at (omega arith) in
    let second : at (3 * p + 2) ++ [] ≡ at (lo + 1) = append-nil (at (3 * p + 2)) ∙ ap at (omega arith) in
    three _ _ _ false true true _ _ _ (among-not_two lo (3 * p + 0) (λ h. omega arith) (λ h. omega arith)) (among-first true lo (3 * p + 1) (omega arith)) (among-second lo (3 * p + 2) (omega arith)) ∙ cc
chosen true false p lo zero at below e d =
    let first : at (3 * p + 1) ≡ at (lo + 1) = ap at (omega arith) in
    let second : at (3 * p + 0) ++ [] ≡ at lo = append-nil (at (3 * p + 0)) ∙ ap at (omega arith) in
    three _ _ _ false true true _ _ _ (among-not_two lo (3 * p + 2) (λ h. omega arith) (λ h. omega arith)) (among-second lo (3 * p + 1) (omega arith)) (among-first true lo (3 * p + 0) (omega arith)) ∙ cc
chosen true false p lo (suc zero) at below e d =
    let first : at (3 * p + 2) ≡ at (lo + 1) = ap at (omega arith) in
    let second : at (3 * p + 1) ++ [] ≡ at lo = append-nil (at (3 * p + 1)) ∙ ap at (omega arith) in
    three _ _ _ true true false _ _ _ (among-second lo (3 * p + 2) (omega arith)) (among-first true lo (3 * p + 1) (omega arith)) (among-not_two lo (3 * p + 0) (λ h. omega arith) (λ h. omega arith)) ∙ cc
chosen true even p lo (suc (suc digit)) at below e d = let small = d refl in absurd (omega arith)
chosen false even p lo (suc (suc (suc digit))) at below e d = absurd (omega arith)

child-range : (p t : ℕ) (even : Bool) → t < 3 → (3 * p ≤ 3 * p + (if even then t else (2 - t))) × (3 * p + (if even then t else (2 - t)) < 3 * p + 3)
child-range p t true h = (omega arith, omega arith)
child-range p t false h = (omega arith, omega arith)

child-parity : (b p t : ℕ) (even : Bool) → t < 3 → (b + t) % 2 ≡ (b + p + (3 * p + (if even then t else (2 - t)))) % 2
child-parity b p t true h = omega arith
child-parity b p t false h = omega arith

-- the children that hold the point, in their order
pub filter-kids : (b : ℕ) (ss : List Spot) (ps : List ℕ) → fits_all (map coarse ss) ps ≡ true → filter (fits_all ss) (kids b ps) ≡ gray b ss ps
filter-kids b [] [] h = refl
filter-kids b [] (p ∷ ps) h = absurd (false≢true h)
filter-kids b (s ∷ ss) [] h = absurd (false≢true h)
filter-kids b (s ∷ ss) (p ∷ ps) h =
    let both = and_parts (fits (coarse s) p) (fits_all (map coarse ss) ps) h in
    let f : Fit s.x s.on p (low s.x s.on p) (two s.x s.on) = fit s.x s.on p both.0 in
    let child : ℕ → ℕ = λ t. 3 * p + mirrored (b + p) t in
    let at : ℕ → List (List ℕ) = λ c. map (λ cs. c ∷ cs) (gray (b + p + c) ss ps) in
    let lo = low s.x s.on p in
    let tw = two s.x s.on in
    let block : ℕ → List (List ℕ) = λ t. map (λ cs. child t ∷ cs) (kids (b + t) ps) in
    let part : (t : ℕ) → t < 3 → filter (fits_all (s ∷ ss)) (block t) ≡ when (among tw lo (child t)) (at (child t)) =
    λ t within.
    let range = child-range p t (is_even (b + p)) within in
    filter-under s ss (child t) (kids (b + t) ps) (among tw lo (child t)) (f.holds (child t) range.0 range.1)
    ∙ ap (λ ls. when (among tw lo (child t)) (map (λ cs. child t ∷ cs) ls)) (filter-kids (b + t) ss ps both.1 ∙ gray-parity (b + t) (b + p + child t) ss ps (child-parity b p t (is_even (b + p)) within)) in
    let zeroth = part 0 (omega arith) in
    let first = part 1 (omega arith) in
    let second = part 2 (omega arith) in
    let whole : filter (fits_all (s ∷ ss)) (block 0 ++ (block 1 ++ (block 2 ++ []))) ≡ filter (fits_all (s ∷ ss)) (block 0) ++ (filter (fits_all (s ∷ ss)) (block 1) ++ (filter (fits_all (s ∷ ss)) (block 2) ++ [])) = simp filter-append in
    let parts : filter (fits_all (s ∷ ss)) (block 0) ++ (filter (fits_all (s ∷ ss)) (block 1) ++ (filter (fits_all (s ∷ ss)) (block 2) ++ [])) ≡ when (among tw lo (child 0)) (at (child 0)) ++ (when (among tw lo (child 1)) (at (child 1)) ++ (when (among tw lo (child 2)) (at (child 2)) ++ [])) = cc in
    whole ∙ parts ∙ chosen tw (is_even (b + p)) p lo f.digit at f.below f.least (λ e. (f.plane e).2)

-- a point that the parent does not hold is in no child
apart : (x p c : ℕ) (on : Bool) → 3 * p ≤ c → c < 3 * p + 3 → fits (coarse (record { x = x; on = on })) p ≡ false → fits (record { x = x; on = on }) c ≡ false
apart x p c false from to h =
    let parts = or_parts (x / 3 == p) false h in
    let far = eqb-false (x / 3) p parts.0 in
    or_from (x == c) false (ne_eqb x c (λ e. far (omega arith))) refl
apart x p c true from to h =
    let parts = or_parts (x / 3 == p) (x % 3 == 0 && x / 3 == p + 1) h in
    let far = eqb-false (x / 3) p parts.0 in
    let second : x ≡ c + 1 → ⊥ = λ e. elim (and_cases (x % 3 == 0) (x / 3 == p + 1) parts.1) [
      | inl q ↦ let part = eqb-false (x % 3) 0 q in elim (cases_lt (c + 1) (3 * p + 3)) [ inl k ↦ far (omega arith) | inr k ↦ part (omega arith) ]
      | inr q ↦ let next = eqb-false (x / 3) (p + 1) q in elim (cases_lt (c + 1) (3 * p + 3)) [ inl k ↦ far (omega arith) | inr k ↦ next (omega arith) ]
    ] in
    or_from (x == c) (x == c + 1) (ne_eqb x c (λ e. far (omega arith))) (ne_eqb x (c + 1) second)

filter_none : {X : Type 0} (test : X → Bool) (xs ys : List X) → filter test xs ≡ [] → filter test ys ≡ [] → filter test (xs ++ ys) ≡ []
filter_none test xs ys e f = filter-append test xs ys ∙ cc

longer : (c : ℕ) (ls : List (List ℕ)) → filter (fits_all []) (map (λ cs. c ∷ cs) ls) ≡ []
longer c [] = refl
longer c (cs ∷ ls) = longer c ls

when-nil : (v : Bool) → when {X = List ℕ} v [] ≡ []
when-nil true = refl
when-nil false = refl

pub kids-apart : (b : ℕ) (ss : List Spot) (ps : List ℕ) → fits_all (map coarse ss) ps ≡ false → filter (fits_all ss) (kids b ps) ≡ []
kids-apart b [] [] h = absurd (false≢true (sym h))
kids-apart b [] (p ∷ ps) h =
    let child : ℕ → ℕ = λ t. 3 * p + mirrored (b + p) t in
    let block : ℕ → List (List ℕ) = λ t. map (λ cs. child t ∷ cs) (kids (b + t) ps) in
    filter_none (fits_all []) (block 0) (block 1 ++ (block 2 ++ [])) (longer (child 0) (kids (b + 0) ps))
    (filter_none (fits_all []) (block 1) (block 2 ++ []) (longer (child 1) (kids (b + 1) ps))
    (filter_none (fits_all []) (block 2) [] (longer (child 2) (kids (b + 2) ps)) refl))
kids-apart b (s ∷ ss) [] h = refl
kids-apart b (s ∷ ss) (p ∷ ps) h =
    let child : ℕ → ℕ = λ t. 3 * p + mirrored (b + p) t in
    let block : ℕ → List (List ℕ) = λ t. map (λ cs. child t ∷ cs) (kids (b + t) ps) in
    let part : (t : ℕ) → t < 3 → filter (fits_all (s ∷ ss)) (block t) ≡ [] = λ t within.
    let range = child-range p t (is_even (b + p)) within in
    elim (and_cases (fits (coarse s) p) (fits_all (map coarse ss) ps) h) [
      | inl e ↦ filter-under s ss (child t) (kids (b + t) ps) false (apart s.x p (child t) s.on range.0 range.1 e)
      | inr e ↦
          filter-under s ss (child t) (kids (b + t) ps) (fits s (child t)) refl
          ∙ ap (λ ls. when (fits s (child t)) (map (λ cs. child t ∷ cs) ls)) (kids-apart (b + t) ss ps e)
          ∙ when-nil (fits s (child t))
    ] in
    filter_none (fits_all (s ∷ ss)) (block 0) (block 1 ++ (block 2 ++ [])) (part 0 (omega arith))
    (filter_none (fits_all (s ∷ ss)) (block 1) (block 2 ++ []) (part 1 (omega arith))
    (filter_none (fits_all (s ∷ ss)) (block 2) [] (part 2 (omega arith)) refl))

-- the positions of the cells of a level, in the order of the walk; one turn more walks them backwards
abbrev pub cells : ℕ → ℕ → ℕ → List (List ℕ)
cells axes w zero = replicate axes 0 ∷ []
cells axes w (suc level) = flat_map (λ ps. kids (w + sum ps) ps) (cells axes w level)

-- those that hold a point
abbrev pub holders : ℕ → ℕ → ℕ → List Spot → List (List ℕ)
holders axes w level ss = filter (fits_all ss) (cells axes w level)

filter-flat_map : {X Y : Type 0} (test : Y → Bool) (pass : X → Bool) (g h : X → List Y) (xs : List X) → ((x : X) → pass x ≡ true → filter test (g x) ≡ h x) → ((x : X) → pass x ≡ false → filter test (g x) ≡ []) → filter test (flat_map g xs) ≡ flat_map h (filter pass xs)
filter-flat_map test pass g h [] holds fails = refl
filter-flat_map {X} {Y} test pass g h (x ∷ xs) holds fails =
    filter-append test (g x) (flat_map g xs)
    ∙ ap (λ ys. filter test (g x) ++ ys) (filter-flat_map test pass g h xs holds fails)
    ∙ elim (cases_Bool (pass x)) [
      | inl e ↦ ap (λ ys. ys ++ flat_map h (filter pass xs)) (holds x e) ∙ ap (flat_map h) (ap (λ v. if v then x ∷ filter pass xs else filter pass xs) (sym e))
      | inr e ↦ ap (λ ys. ys ++ flat_map h (filter pass xs)) (fails x e) ∙ ap (flat_map h) (ap (λ v. if v then x ∷ filter pass xs else filter pass xs) (sym e))
    ]

pub holders-suc : (axes w level : ℕ) (ss : List Spot) → holders axes w (suc level) ss ≡ flat_map (λ ps. gray (w + sum ps) ss ps) (holders axes w level (map coarse ss))
holders-suc axes w level ss =
    filter-flat_map (fits_all ss) (fits_all (map coarse ss)) (λ ps. kids (w + sum ps) ps) (λ ps. gray (w + sum ps) ss ps) (cells axes w level)
    (λ ps e. filter-kids (w + sum ps) ss ps e) (λ ps e. kids-apart (w + sum ps) ss ps e)

-- the axis across which a cell is entered: inside its parent, or else as the parent is
abbrev pub or_else : Option ℕ → Option ℕ → Option ℕ
or_else (Some axis) o = Some axis
or_else None o = o

abbrev pub entry : ℕ → ℕ → List Spot → List ℕ → Option ℕ
entry w zero ss cs = None
entry w (suc level) ss cs = or_else (enter (w + sum (parents cs)) ss (parents cs) cs) (entry w level (map coarse ss) (parents cs))

sum-crosses : (ss : List Spot) (i : ℕ) (us vs : List ℕ) → Crosses ss i us vs → suc (sum us) % 2 ≡ sum vs % 2
sum-crosses [] i us vs h = absurd h
sum-crosses (s ∷ ss) zero [] vs h = absurd h
sum-crosses (s ∷ ss) zero (u ∷ us) [] h = absurd h
sum-crosses (s ∷ ss) zero (u ∷ us) (v ∷ vs) h =
    let rest : sum us ≡ sum vs = ap sum h.2 in
    elim h.1 [
      | inl e ↦ let far = e.0 in let near = e.1 in omega (arith, sum-cons u us, sum-cons v vs)
      | inr e ↦ let far = e.0 in let near = e.1 in omega (arith, sum-cons u us, sum-cons v vs)
    ]
sum-crosses (s ∷ ss) (suc i) [] vs h = absurd h
sum-crosses (s ∷ ss) (suc i) (u ∷ us) [] h = absurd h
sum-crosses (s ∷ ss) (suc i) (u ∷ us) (v ∷ vs) h = let same = h.0 in omega (arith, sum-cons u us, sum-cons v vs, sum-crosses ss i us vs h.1)

-- a child of a cell is entered as it is among its siblings, or else as the cell is
pub entry-child : (w level : ℕ) (ss : List Spot) (a cs : List ℕ) → parents cs ≡ a → entry w (suc level) ss cs ≡ or_else (enter (w + sum a) ss a cs) (entry w level (map coarse ss) a)
entry-child w level ss a cs e = ap (λ ps. or_else (enter (w + sum ps) ss ps cs) (entry w level (map coarse ss) ps)) e

entry-inside : (w level i : ℕ) (ss : List Spot) (a cs : List ℕ) → parents cs ≡ a → enter (w + sum a) ss a cs ≡ Some i → entry w (suc level) ss cs ≡ Some i
entry-inside w level i ss a cs e inside = entry-child w level ss a cs e ∙ ap (λ o. or_else o (entry w level (map coarse ss) a)) inside

entry-outside : (w level : ℕ) (ss : List Spot) (a cs : List ℕ) → parents cs ≡ a → enter (w + sum a) ss a cs ≡ None → entry w (suc level) ss cs ≡ entry w level (map coarse ss) a
entry-outside w level ss a cs e inside = entry-child w level ss a cs e ∙ ap (λ o. or_else o (entry w level (map coarse ss) a)) inside

-- the same for a walk that is turned once more
leave-shift : (w : ℕ) (ss : List Spot) (a cs : List ℕ) (o : Option ℕ) → enter (suc (w + sum a)) ss a cs ≡ o → enter (suc w + sum a) ss a cs ≡ o
leave-shift w ss a cs o e =
    let shift : suc w + sum a ≡ suc (w + sum a) = omega arith in
    ap (λ (n : ℕ). enter n ss a cs) shift ∙ e

abbrev pub coarsest : ℕ → List Spot → List Spot
coarsest zero ss = ss
coarsest (suc level) ss = coarsest level (map coarse ss)

-- the walk of the cells of a level around a point
pub record Round (axes w level : ℕ) (ss : List Spot) : Type 0 where
  pub first : List ℕ
  pub last : List ℕ
  pub walk : Walk (entry w level ss) (entry (suc w) level ss) (Crosses ss) (holders axes w level ss) first last

-- the walk of a cell's children around a point, as cells of their level
block : (w level : ℕ) (ss : List Spot) (a : List ℕ) (fine : fits_all (map coarse ss) a ≡ true) → Path (entry w (suc level) ss) (entry (suc w) (suc level) ss) (Crosses ss) (start (w + sum a) ss a) (gray_walk (w + sum a) ss a fine).rest (start (suc (w + sum a)) ss a)
block w level ss a fine =
    let walk = gray_walk (w + sum a) ss a fine in
    Path-weaker (enter (w + sum a) ss a) (enter (suc (w + sum a)) ss a) (Within ss a) (entry w (suc level) ss) (entry (suc w) (suc level) ss) (Crosses ss)
    (λ u v step. record {
      axis = step.axis;
      entered = entry-inside w level step.axis ss a v step.crosses.to step.entered;
      left = entry-inside (suc w) level step.axis ss a u step.crosses.from (leave-shift w ss a u (Some step.axis) step.left);
      crosses = step.crosses.crosses;
    }) (start (w + sum a) ss a) walk.rest (start (suc (w + sum a)) ss a) walk.path

-- from the last child of a cell to the first of the next one
junction : (w level : ℕ) (ss : List Spot) (a b : List ℕ) → fits_all (map coarse ss) a ≡ true → fits_all (map coarse ss) b ≡ true → Step (entry w level (map coarse ss)) (entry (suc w) level (map coarse ss)) (Crosses (map coarse ss)) a b → Step (entry w (suc level) ss) (entry (suc w) (suc level) ss) (Crosses ss) (start (suc (w + sum a)) ss a) (start (w + sum b) ss b)
junction w level ss a b fine fine' step =
    let z = start (suc (w + sum a)) ss a in
    let y = start (w + sum b) ss b in record {
      axis = step.axis;
      entered = entry-outside w level ss b y (parents-start (w + sum b) ss b fine') (gray_walk (w + sum b) ss b fine').starts ∙ step.entered;
      left = entry-outside (suc w) level ss a z (parents-start (suc (w + sum a)) ss a fine) (leave-shift w ss a z None (gray_walk (w + sum a) ss a fine).ends) ∙ step.left;
      crosses = between ss step.axis a b (suc (w + sum a)) (w + sum b) (omega (arith, sum-crosses (map coarse ss) step.axis a b step.crosses)) step.crosses;
    }

blocks : (w level : ℕ) (ss : List Spot) (a : List ℕ) (xs : List (List ℕ)) (z : List ℕ) (fine : fits_all (map coarse ss) a ≡ true) → All (λ b. fits_all (map coarse ss) b ≡ true) xs → Path (entry w level (map coarse ss)) (entry (suc w) level (map coarse ss)) (Crosses (map coarse ss)) a xs z → Path (entry w (suc level) ss) (entry (suc w) (suc level) ss) (Crosses ss) (start (w + sum a) ss a) ((gray_walk (w + sum a) ss a fine).rest ++ flat_map (λ ps. gray (w + sum ps) ss ps) xs) (start (suc (w + sum z)) ss z)
blocks w level ss a [] z fine all path =
    let rest = (gray_walk (w + sum a) ss a fine).rest in
    let P : List (List ℕ) → Type 0 = λ xs. Path (entry w (suc level) ss) (entry (suc w) (suc level) ss) (Crosses ss) (start (w + sum a) ss a) xs (start (suc (w + sum z)) ss z) in
    let Q : List ℕ → Type 0 = λ y. Path (entry w (suc level) ss) (entry (suc w) (suc level) ss) (Crosses ss) (start (w + sum a) ss a) rest (start (suc (w + sum y)) ss y) in
    subst P (sym (append-nil rest)) (subst Q path (block w level ss a fine))
blocks w level ss a (b ∷ xs) z fine all path =
    let enters = entry w (suc level) ss in
    let leaves = entry (suc w) (suc level) ss in
    let rest = (gray_walk (w + sum a) ss a fine).rest in
    let more = flat_map (λ ps. gray (w + sum ps) ss ps) xs in
    let fine' : fits_all (map coarse ss) b ≡ true = All-head (λ b. fits_all (map coarse ss) b ≡ true) b xs all in
    let next = gray_walk (w + sum b) ss b fine' in
    let P : List (List ℕ) → Type 0 = λ ys. Path enters leaves (Crosses ss) (start (w + sum a) ss a) (rest ++ (ys ++ more)) (start (suc (w + sum z)) ss z) in
    subst P (sym next.is)
    (Path-join enters leaves (Crosses ss) (start (w + sum a) ss a) rest (start (suc (w + sum a)) ss a) (start (w + sum b) ss b) (next.rest ++ more) (start (suc (w + sum z)) ss z)
    (block w level ss a fine) (junction w level ss a b fine fine' path.0)
    (blocks w level ss b xs z fine' (All-tail (λ b. fits_all (map coarse ss) b ≡ true) b xs all) path.1))

-- the last of the cells holds the point too
Path-last : {X : Type 0} (f g : X → Option ℕ) (R : ℕ → X → X → Type 0) (P : X → Type 0) (a : X) (xs : List X) (z : X) → P a → All P xs → Path f g R a xs z → P z
Path-last f g R P a [] z here all path = subst P path here
Path-last f g R P a (b ∷ xs) z here all path = Path-last f g R P b xs z (All-head P b xs all) (All-tail P b xs all) path.1

-- The cells of a level around a point are a walk: each is entered and left across a face on the point's plane.
pub round : (axes w level : ℕ) (ss : List Spot) → fits_all (coarsest level ss) (replicate axes 0) ≡ true → Round axes w level ss
round axes w zero ss h =
    let zeros = replicate axes 0 in record {
      first = zeros;
      last = zeros;
      walk = record { rest = []; is = ap (λ v. if v then zeros ∷ [] else []) h; path = refl; starts = refl; ends = refl };
    }
round axes w (suc level) ss h =
    let above = round axes w level (map coarse ss) h in
    let walk = above.walk in
    let Fine : List ℕ → Type 0 = λ b. fits_all (map coarse ss) b ≡ true in
    let A : List (List ℕ) → Type 0 = λ xs. All Fine xs in
    let all : All Fine (above.first ∷ walk.rest) = subst A walk.is (filter_passes (fits_all (map coarse ss)) (cells axes w level)) in
    let fine : Fine above.first = All-head Fine above.first walk.rest all in
    let rest : All Fine walk.rest = All-tail Fine above.first walk.rest all in
    let fine' : Fine above.last = Path-last (entry w level (map coarse ss)) (entry (suc w) level (map coarse ss)) (Crosses (map coarse ss)) Fine above.first walk.rest above.last fine rest walk.path in
    let first = start (w + sum above.first) ss above.first in
    let last = start (suc (w + sum above.last)) ss above.last in
    let front = gray_walk (w + sum above.first) ss above.first fine in
    let back = gray_walk (w + sum above.last) ss above.last fine' in
    let more = flat_map (λ ps. gray (w + sum ps) ss ps) walk.rest in
    record {
      first = first;
      last = last;
      walk = record {
        rest = front.rest ++ more;
        is = holders-suc axes w level ss ∙ ap (flat_map (λ ps. gray (w + sum ps) ss ps)) walk.is ∙ ap (λ xs. xs ++ more) front.is;
        path = blocks w level ss above.first walk.rest above.last fine rest walk.path;
        starts = entry-outside w level ss above.first first (parents-start (w + sum above.first) ss above.first fine) front.starts ∙ walk.starts;
        ends = entry-outside (suc w) level ss above.last last (parents-start (suc (w + sum above.last)) ss above.last fine') (leave-shift w ss above.last last None back.ends) ∙ walk.ends;
      };
    }

-- what holds a point on a level is in what holds it on the level above
pub fits-parents : (ss : List Spot) (cs : List ℕ) → fits_all ss cs ≡ true → fits_all (map coarse ss) (parents cs) ≡ true
fits-parents [] [] h = refl
fits-parents [] (c ∷ cs) h = absurd (false≢true h)
fits-parents (s ∷ ss) [] h = absurd (false≢true h)
fits-parents (s ∷ ss) (c ∷ cs) h =
    let both = and_parts (fits s c) (fits_all ss cs) h in
    let here : fits (coarse s) (c / 3) ≡ true = elim (cases_Bool (fits (coarse s) (c / 3))) [
      | inl e ↦ e
      | inr e ↦ absurd (false≢true (sym (apart s.x (c / 3) c s.on (omega arith) (omega arith) e) ∙ both.0))
    ] in
    ap (λ v. v && fits_all (map coarse ss) (parents cs)) here ∙ fits-parents ss cs both.1
