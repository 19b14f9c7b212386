-- How often each axis is crossed around a point.
use Rattle.std.proofs.Common.{◌≡◌, ℕ, zero, suc, ◌+◌, ◌*◌, ◌%◌, ◌^◌, ◌<◌, Bool, true, false, ◌&&◌, List, [], ◌∷◌, ◌++◌, map, length, Option, Some, None, sym, ap, ◌∙◌, subst, refl, inl, inr, arith, pow-suc}
use Rattle.std.specs.Prelude.{◌==◌, if◌then◌else◌, sum, replicate, All}
use Rattle.std.specs.List.{flat_map}
use Rattle.std.proofs.lemmas.Nat.{pow-add}
use Rattle.std.proofs.lemmas.Bool.{and_parts, eqb-true, eq-eqb, ne_eqb, false≢true, cases_Bool}
use Rattle.std.proofs.lemmas.List.{length-append, length-map}
use Rattle.std.proofs.lemmas.List.Elements.{All-head, All-tail, filter_passes}
use Rattle.pe_base.proofs.Steps.Walks.{Path, Walk}
use Rattle.pe_base.proofs.Steps.AroundInCell.{Spot, fits, fits_all, coarse, two, two_on, low, lead, other, split, is_even, is_other, gray, start, enter, deeper, Within, parents, gray_walk, parents-start}
use Rattle.pe_base.proofs.Steps.Levels.{cells, holders, holders-suc, entry, entry-child, or_else, coarsest}
use Rattle.pe_base.proofs.Tree.Corners.{same_tests}

abbrev pub one : Bool → ℕ
one v = if v then 1 else 0

-- how many pass a test
abbrev pub tally : {X : Type 0} → (X → Bool) → List X → ℕ
tally test [] = 0
tally test (x ∷ xs) = one (test x) + tally test xs

abbrev pub is_axis : ℕ → Option ℕ → Bool
is_axis i None = false
is_axis i (Some j) = j == i

abbrev pub is_first : Option ℕ → Bool
is_first None = true
is_first (Some j) = false

tally-append : {X : Type 0} (test : X → Bool) (xs ys : List X) → tally test (xs ++ ys) ≡ tally test xs + tally test ys
tally-append test [] ys = omega arith
tally-append test (x ∷ xs) ys = omega (arith, tally-append test xs ys)

tally-map : {X Y : Type 0} (test : Y → Bool) (f : X → Y) (xs : List X) → tally test (map f xs) ≡ tally (λ x. test (f x)) xs
tally-map test f [] = refl
tally-map test f (x ∷ xs) = ap (λ n. one (test (f x)) + n) (tally-map test f xs)

tally-same : {X : Type 0} (f g : X → Bool) (xs : List X) → ((x : X) → f x ≡ g x) → tally f xs ≡ tally g xs
tally-same f g [] each = refl
tally-same f g (x ∷ xs) each =
    let head = each x in
    let tail = tally-same f g xs each in
    cc

tally-none : {X : Type 0} (f : X → Bool) (xs : List X) → ((x : X) → f x ≡ false) → tally f xs ≡ 0
tally-none f [] each = refl
tally-none f (x ∷ xs) each = ap (λ v. one v + tally f xs) (each x) ∙ omega (arith, tally-none f xs each)

-- of a walk, only the first is not entered
Path-first : {X : Type 0} (f g : X → Option ℕ) (R : ℕ → X → X → Type 0) (a : X) (xs : List X) (z : X) → Path f g R a xs z → tally (λ x. is_first (f x)) xs ≡ 0
Path-first f g R a [] z path = refl
Path-first f g R a (b ∷ xs) z path = ap (λ o. one (is_first o) + tally (λ x. is_first (f x)) xs) path.0.entered ∙ omega (arith, Path-first f g R b xs z path.1)

Walk-first : {X : Type 0} (f g : X → Option ℕ) (R : ℕ → X → X → Type 0) (xs : List X) (a z : X) → Walk f g R xs a z → tally (λ x. is_first (f x)) xs ≡ 1
Walk-first f g R xs a z walk =
    ap (tally (λ x. is_first (f x))) walk.is ∙ ap (λ o. one (is_first o) + tally (λ x. is_first (f x)) walk.rest) walk.starts ∙ omega (arith, Path-first f g R a walk.rest z walk.path)

-- how often an axis is crossed among the children of one cell
abbrev pub double : Bool → ℕ → ℕ
double v n = if v then n + n else n

abbrev pub inner : ℕ → List Spot → ℕ
inner i [] = 0
inner zero (s ∷ ss) = one (two s.x s.on)
inner (suc i) (s ∷ ss) = double (two s.x s.on) (inner i ss)

deeper-suc : (i : ℕ) (o : Option ℕ) (t : Bool) → is_axis (suc i) (deeper o t) ≡ is_axis i o
deeper-suc i None true = ne_eqb 0 (suc i) (λ h. omega arith)
deeper-suc i None false = refl
deeper-suc i (Some j) t = same_tests (suc j) (suc i) j i (λ h. omega arith) (λ h. omega arith)

deeper-zero : (o : Option ℕ) (t : Bool) → is_axis 0 (deeper o t) ≡ (is_first o && t)
deeper-zero None true = eq-eqb 0 0 refl
deeper-zero None false = refl
deeper-zero (Some j) t = ne_eqb (suc j) 0 (λ h. omega arith)

first-and : {X : Type 0} (f : X → Bool) (t : Bool) (xs : List X) → tally f xs ≡ 1 → tally (λ x. f x && t) xs ≡ one t
first-and f true xs e = tally-same (λ x. f x && true) f xs (λ x. elim (f x) as (λ v. (v && true) ≡ v) [ true ↦ refl | false ↦ refl ]) ∙ e
first-and f false xs e = tally-none (λ x. f x && false) xs (λ x. elim (f x) as (λ v. (v && false) ≡ false) [ true ↦ refl | false ↦ refl ])

-- both children along an axis
split-tally : (test : List ℕ → Bool) (tw even : Bool) (lo : ℕ) (at : ℕ → List (List ℕ)) (n m : ℕ) → (tw ≡ false → tally test (at lo) ≡ n) → (tw ≡ true → tally test (at (lead true even lo)) ≡ n) → (tw ≡ true → tally test (at (other even lo)) ≡ m) → tally test (split tw even lo at) ≡ (if tw then n + m else n)
split-tally test false even lo at n m f g h = f refl
split-tally test true even lo at n m f g h = tally-append test (at (lead true even lo)) (at (other even lo)) ∙ omega (arith, g refl, h refl)

lead-test : (even : Bool) (lo : ℕ) → (lead true even lo == other even lo) ≡ false
lead-test true lo = ne_eqb lo (lo + 1) (λ h. omega arith)
lead-test false lo = ne_eqb (lo + 1) lo (λ h. omega arith)

-- among one cell's children, each axis that splits it is crossed twice as often as the one that splits it before
gray-inner : (i b : ℕ) (ss : List Spot) (ps : List ℕ) → fits_all (map coarse ss) ps ≡ true → tally (λ cs. is_axis i (enter b ss ps cs)) (gray b ss ps) ≡ inner i ss
gray-inner i b [] [] h = refl
gray-inner i b [] (p ∷ ps) h = absurd (false≢true h)
gray-inner i b (s ∷ ss) [] h = absurd (false≢true h)
gray-inner zero b (s ∷ ss) (p ∷ ps) h =
    let fine = (and_parts (fits (coarse s) p) (fits_all (map coarse ss) ps) h).1 in
    let tw = two s.x s.on in
    let even = is_even (b + p) in
    let lo = low s.x s.on p in
    let test : List ℕ → Bool = λ cs. is_axis 0 (enter b (s ∷ ss) (p ∷ ps) cs) in
    let at : ℕ → List (List ℕ) = λ c. map (λ cs. c ∷ cs) (gray (b + p + c) ss ps) in
    let each : (c : ℕ) → tally test (at c) ≡ one (is_other tw even lo c) = λ c.
    tally-map test (λ cs. c ∷ cs) (gray (b + p + c) ss ps)
    ∙ tally-same (λ cs. test (c ∷ cs)) (λ cs. is_first (enter (b + p + c) ss ps cs) && is_other tw even lo c) (gray (b + p + c) ss ps) (λ cs. deeper-zero (enter (b + p + c) ss ps cs) (is_other tw even lo c))
    ∙ first-and (λ cs. is_first (enter (b + p + c) ss ps cs)) (is_other tw even lo c) (gray (b + p + c) ss ps)
    (Walk-first (enter (b + p + c) ss ps) (enter (suc (b + p + c)) ss ps) (Within ss ps) (gray (b + p + c) ss ps) _ _ (gray_walk (b + p + c) ss ps fine)) in
    split-tally test tw even lo at 0 1
    (λ e. each lo ∙ ap (λ t. one (is_other t even lo lo)) e)
    (λ e. each (lead true even lo) ∙ ap (λ t. one (is_other t even lo (lead true even lo))) e ∙ ap one (lead-test even lo))
    (λ e. each (other even lo) ∙ ap (λ t. one (is_other t even lo (other even lo))) e ∙ ap one (eq-eqb (other even lo) (other even lo) refl))
gray-inner (suc i) b (s ∷ ss) (p ∷ ps) h =
    let fine = (and_parts (fits (coarse s) p) (fits_all (map coarse ss) ps) h).1 in
    let tw = two s.x s.on in
    let even = is_even (b + p) in
    let lo = low s.x s.on p in
    let test : List ℕ → Bool = λ cs. is_axis (suc i) (enter b (s ∷ ss) (p ∷ ps) cs) in
    let at : ℕ → List (List ℕ) = λ c. map (λ cs. c ∷ cs) (gray (b + p + c) ss ps) in
    let each : (c : ℕ) → tally test (at c) ≡ inner i ss = λ c.
    tally-map test (λ cs. c ∷ cs) (gray (b + p + c) ss ps)
    ∙ tally-same (λ cs. test (c ∷ cs)) (λ cs. is_axis i (enter (b + p + c) ss ps cs)) (gray (b + p + c) ss ps) (λ cs. deeper-suc i (enter (b + p + c) ss ps cs) (is_other tw even lo c))
    ∙ gray-inner i (b + p + c) ss ps fine in
    split-tally test tw even lo at (inner i ss) (inner i ss) (λ e. each lo) (λ e. each (lead true even lo)) (λ e. each (other even lo))

-- how many children of one cell hold the point
abbrev pub count_inside : List Spot → ℕ
count_inside [] = 1
count_inside (s ∷ ss) = double (two s.x s.on) (count_inside ss)

split-length : (tw even : Bool) (lo n : ℕ) (at : ℕ → List (List ℕ)) → ((c : ℕ) → length (at c) ≡ n) → length (split tw even lo at) ≡ double tw n
split-length false even lo n at each = each lo
split-length true even lo n at each = length-append (at (lead true even lo)) (at (other even lo)) ∙ omega (arith, each (lead true even lo), each (other even lo))

length-gray : (b : ℕ) (ss : List Spot) (ps : List ℕ) → fits_all (map coarse ss) ps ≡ true → length (gray b ss ps) ≡ count_inside ss
length-gray b [] [] h = refl
length-gray b [] (p ∷ ps) h = absurd (false≢true h)
length-gray b (s ∷ ss) [] h = absurd (false≢true h)
length-gray b (s ∷ ss) (p ∷ ps) h =
    let fine = (and_parts (fits (coarse s) p) (fits_all (map coarse ss) ps) h).1 in
    split-length (two s.x s.on) (is_even (b + p)) (low s.x s.on p) (count_inside ss) (λ c. map (λ cs. c ∷ cs) (gray (b + p + c) ss ps))
    (λ c. length-map (gray (b + p + c) ss ps) (λ cs. c ∷ cs) ∙ length-gray (b + p + c) ss ps fine)

-- tests that agree on the children of a cell count the same
within-same : (f g : List ℕ → Option ℕ) (ss : List Spot) (ps : List ℕ) (test test' : List ℕ → Bool) → ((c : List ℕ) → parents c ≡ ps → test c ≡ test' c) → (a : List ℕ) (xs : List (List ℕ)) (z : List ℕ) → Path f g (Within ss ps) a xs z → tally test xs ≡ tally test' xs
within-same f g ss ps test test' same a [] z path = refl
within-same f g ss ps test test' same a (b ∷ xs) z path =
    let head = same b path.0.crosses.to in
    let tail = within-same f g ss ps test test' same b xs z path.1 in
    cc

gray-same : (b : ℕ) (ss : List Spot) (ps : List ℕ) (test test' : List ℕ → Bool) → fits_all (map coarse ss) ps ≡ true → ((c : List ℕ) → parents c ≡ ps → test c ≡ test' c) → tally test (gray b ss ps) ≡ tally test' (gray b ss ps)
gray-same b ss ps test test' fine same =
    let walk = gray_walk b ss ps fine in
    let first = start b ss ps in
    let head : test first ≡ test' first = same first (parents-start b ss ps fine) in
    let tail = within-same (enter b ss ps) (enter (suc b) ss ps) ss ps test test' same first walk.rest (start (suc b) ss ps) walk.path in
    let both : tally test (first ∷ walk.rest) ≡ tally test' (first ∷ walk.rest) = cc in
    ap (tally test) walk.is ∙ both ∙ sym (ap (tally test') walk.is)

tally-sum : {X : Type 0} (f g h : X → Bool) (xs : List X) → ((x : X) → one (f x) ≡ one (g x) + one (h x)) → tally f xs ≡ tally g xs + tally h xs
tally-sum f g h [] each = refl
tally-sum f g h (x ∷ xs) each = omega (arith, each x, tally-sum f g h xs each)

or_else-axis : (i : ℕ) (e o : Option ℕ) → one (is_axis i (or_else e o)) ≡ one (is_axis i e) + one (is_first e && is_axis i o)
or_else-axis i None o = omega arith
or_else-axis i (Some j) o = omega arith

-- the children of a cell are entered across an axis inside it, and once as the cell is
block-tally : (w level i : ℕ) (ss : List Spot) (a : List ℕ) → fits_all (map coarse ss) a ≡ true → tally (λ c. is_axis i (entry w (suc level) ss c)) (gray (w + sum a) ss a) ≡ inner i ss + one (is_axis i (entry w level (map coarse ss) a))
block-tally w level i ss a fine =
    let b = w + sum a in
    let o = entry w level (map coarse ss) a in
    let cs = gray b ss a in
    gray-same b ss a (λ c. is_axis i (entry w (suc level) ss c)) (λ c. is_axis i (or_else (enter b ss a c) o)) fine (λ c e. ap (is_axis i) (entry-child w level ss a c e))
    ∙ tally-sum (λ c. is_axis i (or_else (enter b ss a c) o)) (λ c. is_axis i (enter b ss a c)) (λ c. is_first (enter b ss a c) && is_axis i o) cs (λ c. or_else-axis i (enter b ss a c) o)
    ∙ ap (λ n. n + tally (λ c. is_first (enter b ss a c) && is_axis i o) cs) (gray-inner i b ss a fine)
    ∙ ap (λ n. inner i ss + n) (first-and (λ c. is_first (enter b ss a c)) (is_axis i o) cs (Walk-first (enter b ss a) (enter (suc b) ss a) (Within ss a) cs _ _ (gray_walk b ss a fine)))

blocks-tally : (w level i : ℕ) (ss : List Spot) (xs : List (List ℕ)) → All (λ a. fits_all (map coarse ss) a ≡ true) xs → tally (λ c. is_axis i (entry w (suc level) ss c)) (flat_map (λ a. gray (w + sum a) ss a) xs) ≡ length xs * inner i ss + tally (λ a. is_axis i (entry w level (map coarse ss) a)) xs
blocks-tally w level i ss [] all = omega arith
blocks-tally w level i ss (a ∷ xs) all =
    let Fine : List ℕ → Type 0 = λ a. fits_all (map coarse ss) a ≡ true in
    tally-append (λ c. is_axis i (entry w (suc level) ss c)) (gray (w + sum a) ss a) (flat_map (λ a. gray (w + sum a) ss a) xs)
    ∙ omega (arith, block-tally w level i ss a (All-head Fine a xs all), blocks-tally w level i ss xs (All-tail Fine a xs all))

blocks-length : (w : ℕ) (ss : List Spot) (xs : List (List ℕ)) → All (λ a. fits_all (map coarse ss) a ≡ true) xs → length (flat_map (λ a. gray (w + sum a) ss a) xs) ≡ length xs * count_inside ss
blocks-length w ss [] all = omega arith
blocks-length w ss (a ∷ xs) all =
    let Fine : List ℕ → Type 0 = λ a. fits_all (map coarse ss) a ≡ true in
    length-append (gray (w + sum a) ss a) (flat_map (λ a. gray (w + sum a) ss a) xs)
    ∙ omega (arith, length-gray (w + sum a) ss a (All-head Fine a xs all), blocks-length w ss xs (All-tail Fine a xs all))

-- how often an axis is crossed among the cells of a level around a point
abbrev pub crossed : ℕ → ℕ → ℕ → List Spot → ℕ → ℕ
crossed axes w level ss i = tally (λ c. is_axis i (entry w level ss c)) (holders axes w level ss)

crossed-suc : (axes w level i : ℕ) (ss : List Spot) → crossed axes w (suc level) ss i ≡ length (holders axes w level (map coarse ss)) * inner i ss + crossed axes w level (map coarse ss) i
crossed-suc axes w level i ss =
    ap (tally (λ c. is_axis i (entry w (suc level) ss c))) (holders-suc axes w level ss)
    ∙ blocks-tally w level i ss (holders axes w level (map coarse ss)) (filter_passes (fits_all (map coarse ss)) (cells axes w level))

holders-length : (axes w level : ℕ) (ss : List Spot) → length (holders axes w (suc level) ss) ≡ length (holders axes w level (map coarse ss)) * count_inside ss
holders-length axes w level ss =
    ap length (holders-suc axes w level ss) ∙ blocks-length w ss (holders axes w level (map coarse ss)) (filter_passes (fits_all (map coarse ss)) (cells axes w level))

-- the planes of a point, and those that split the cell around it
abbrev pub ons : List Spot → ℕ
ons ss = tally (λ s. s.on) ss

abbrev pub twos : List Spot → ℕ
twos ss = tally (λ s. two s.x s.on) ss

abbrev pub on_at : ℕ → List Spot → Bool
on_at i [] = false
on_at zero (s ∷ ss) = s.on
on_at (suc i) (s ∷ ss) = on_at i ss

abbrev pub two_at : ℕ → List Spot → Bool
two_at i [] = false
two_at zero (s ∷ ss) = two s.x s.on
two_at (suc i) (s ∷ ss) = two_at i ss

-- how many axes before an axis split the cell
abbrev pub before : ℕ → List Spot → ℕ
before i [] = 0
before zero (s ∷ ss) = 0
before (suc i) (s ∷ ss) = one (two s.x s.on) + before i ss

-- each plane of a point lies strictly inside the root
abbrev pub Strict : ℕ → List Spot → Type 0
Strict level [] = Unit
Strict level (s ∷ ss) = (s.on ≡ true → (0 < s.x) × (s.x < 3 ^ level)) × Strict level ss

pub strict-coarse : (level : ℕ) (ss : List Spot) → Strict (suc level) ss → Strict level (map coarse ss)
strict-coarse level [] h = tt
strict-coarse level (s ∷ ss) h =
    let bound : 3 ^ suc level ≡ 3 * 3 ^ level = omega (arith, pow-suc 3 level) in (
      λ e.
          let both = and_parts s.on (s.x % 3 == 0) e in
          let third : s.x % 3 ≡ 0 = eqb-true (s.x % 3) 0 both.1 in
          let here = h.0 both.0 in
          let positive = here.0 in
          let below = here.1 in
          (omega arith, omega arith),
      strict-coarse level ss h.1,
    )

strict-off : (s : Spot) → (s.on ≡ true → (0 < s.x) × (s.x < 3 ^ 0)) → s.on ≡ false
strict-off s h = elim (cases_Bool s.on) [ inl e ↦ absurd (let here = h e in let a = here.0 in let b = here.1 in omega arith) | inr e ↦ e ]

strict-none : (ss : List Spot) → Strict 0 ss → ons ss ≡ 0
strict-none [] h = refl
strict-none (s ∷ ss) h = ap (λ v. one v + ons ss) (strict-off s h.0) ∙ omega (arith, strict-none ss h.1)

pub strict-at : (i : ℕ) (ss : List Spot) → Strict 0 ss → on_at i ss ≡ false
strict-at i [] h = refl
strict-at zero (s ∷ ss) h = strict-off s h.0
strict-at (suc i) (s ∷ ss) h = strict-at i ss h.1

on-split : (on whole : Bool) → one on ≡ one (on && whole) + one (two_on on whole)
on-split true true = refl
on-split true false = refl
on-split false whole = refl

ons-coarse : (ss : List Spot) → ons ss ≡ ons (map coarse ss) + twos ss
ons-coarse [] = refl
ons-coarse (s ∷ ss) = omega (arith, on-split s.on (s.x % 3 == 0), ons-coarse ss)

count_inside-pow : (ss : List Spot) → count_inside ss ≡ 2 ^ twos ss
count_inside-pow [] = refl
count_inside-pow (s ∷ ss) =
    ap (double (two s.x s.on)) (count_inside-pow ss)
    ∙ elim (two s.x s.on) as (λ v. double v (2 ^ twos ss) ≡ 2 ^ (one v + twos ss)) [
      | true ↦ let next : 1 + twos ss ≡ suc (twos ss) = omega arith in omega (arith, pow-suc 2 (twos ss), ap (λ (n : ℕ). 2 ^ n) next)
      | false ↦ ap (λ (n : ℕ). 2 ^ n) (let same : twos ss ≡ 0 + twos ss = omega arith in same)
    ]

-- two cells for each plane
pub size : (axes w level : ℕ) (ss : List Spot) → fits_all (coarsest level ss) (replicate axes 0) ≡ true → Strict level ss → length (holders axes w level ss) ≡ 2 ^ ons ss
size axes w zero ss h strict = ap (λ v. length (if v then replicate {A = ℕ} axes 0 ∷ [] else [])) h ∙ ap (λ (n : ℕ). 2 ^ n) (sym (strict-none ss strict))
size axes w (suc level) ss h strict =
    holders-length axes w level ss
    ∙ ap (λ (n : ℕ). n * count_inside ss) (size axes w level (map coarse ss) h (strict-coarse level ss strict))
    ∙ ap (λ (n : ℕ). 2 ^ ons (map coarse ss) * n) (count_inside-pow ss)
    ∙ sym (pow-add 2 (ons (map coarse ss)) (twos ss))
    ∙ ap (λ (n : ℕ). 2 ^ n) (sym (ons-coarse ss))

inner-step : (v t : Bool) (n : ℕ) → double v (if t then 2 ^ n else 0) ≡ (if t then 2 ^ (one v + n) else 0)
inner-step true true n = let next : 1 + n ≡ suc n = omega arith in omega (arith, pow-suc 2 n, ap (λ (n : ℕ). 2 ^ n) next)
inner-step true false n = refl
inner-step false true n = ap (λ (n : ℕ). 2 ^ n) (let same : n ≡ 0 + n = omega arith in same)
inner-step false false n = refl

inner-pow : (i : ℕ) (ss : List Spot) → inner i ss ≡ (if two_at i ss then 2 ^ before i ss else 0)
inner-pow i [] = refl
inner-pow zero (s ∷ ss) = refl
inner-pow (suc i) (s ∷ ss) = ap (double (two s.x s.on)) (inner-pow i ss) ∙ inner-step (two s.x s.on) (two_at i ss) (before i ss)

two-new : (on whole : Bool) → two_on on whole ≡ true → (on ≡ true) × ((on && whole) ≡ false)
two-new false whole e = absurd (false≢true e)
two-new true true e = absurd (false≢true e)
two-new true false e = (refl, refl)

two-old : (on whole : Bool) → two_on on whole ≡ false → (on && whole) ≡ on
two-old false whole e = refl
two-old true true e = refl
two-old true false e = absurd (false≢true (sym e))

pub at-new : (i : ℕ) (ss : List Spot) → two_at i ss ≡ true → (on_at i ss ≡ true) × (on_at i (map coarse ss) ≡ false)
at-new i [] e = absurd (false≢true e)
at-new zero (s ∷ ss) e = two-new s.on (s.x % 3 == 0) e
at-new (suc i) (s ∷ ss) e = at-new i ss e

pub at-old : (i : ℕ) (ss : List Spot) → two_at i ss ≡ false → on_at i (map coarse ss) ≡ on_at i ss
at-old i [] e = refl
at-old zero (s ∷ ss) e = two-old s.on (s.x % 3 == 0) e
at-old (suc i) (s ∷ ss) e = at-old i ss e

-- how many axes are slower: those whose planes appeared on a smaller level, or on the same one and before
abbrev pub slow : ℕ → List Spot → ℕ → ℕ
slow zero ss i = 0
slow (suc level) ss i = if two_at i ss then ons (map coarse ss) + before i ss else slow level (map coarse ss) i

pub crossed-slow : (axes w level i : ℕ) (ss : List Spot) → fits_all (coarsest level ss) (replicate axes 0) ≡ true → Strict level ss → crossed axes w level ss i ≡ (if on_at i ss then 2 ^ slow level ss i else 0)
crossed-slow axes w zero i ss h strict =
    tally-none (λ c. is_axis i (entry w zero ss c)) (holders axes w zero ss) (λ c. refl) ∙ ap (λ v. if v then 2 ^ 0 else 0) (sym (strict-at i ss strict))
crossed-slow axes w (suc level) i ss h strict =
    let above = map coarse ss in
    let rest : crossed axes w level above i ≡ (if on_at i above then 2 ^ slow level above i else 0) = crossed-slow axes w level i above h (strict-coarse level ss strict) in
    let many : length (holders axes w level above) ≡ 2 ^ ons above = size axes w level above h (strict-coarse level ss strict) in
    let sum : crossed axes w (suc level) ss i ≡ 2 ^ ons above * (if two_at i ss then 2 ^ before i ss else 0) + (if on_at i above then 2 ^ slow level above i else 0) =
    crossed-suc axes w level i ss ∙ ap (λ (n : ℕ). n * inner i ss + crossed axes w level above i) many ∙ ap (λ (n : ℕ). 2 ^ ons above * n + crossed axes w level above i) (inner-pow i ss) ∙ ap (λ (n : ℕ). 2 ^ ons above * (if two_at i ss then 2 ^ before i ss else 0) + n) rest in
    let total : Bool → Bool → Bool → Type 0 = λ t o v. 2 ^ ons above * (if t then 2 ^ before i ss else 0) + (if o then 2 ^ slow level above i else 0) ≡ (if v then 2 ^ (if t then ons above + before i ss else slow level above i) else 0) in
    sum ∙ elim (cases_Bool (two_at i ss)) [
      | inl e ↦
          let new = at-new i ss e in
          let P : Bool → Type 0 = λ t. total t (on_at i above) (on_at i ss) in
          let Q : Bool → Type 0 = λ o. total true o (on_at i ss) in
          let R : Bool → Type 0 = λ v. total true false v in
          subst P (sym e) (subst Q (sym new.1) (subst R (sym new.0) (omega (arith, pow-add 2 (ons above) (before i ss)))))
      | inr e ↦
          let P : Bool → Type 0 = λ t. total t (on_at i above) (on_at i ss) in
          let Q : Bool → Type 0 = λ o. total false o (on_at i ss) in
          subst P (sym e) (subst Q (sym (at-old i ss e)) (omega arith))
    ]
