-- The cells around a vertex as positions on the grid's axes.
use Rattle.std.proofs.Common.{◌≡◌, ℕ, zero, suc, ◌+◌, ◌-◌, ◌*◌, ◌%◌, ◌<◌, ◌≤◌, true, ◌&&◌, ◌||◌, List, [], ◌∷◌, ◌++◌, map, length, sym, ap, ◌∙◌, refl, arith, add-one}
use Rattle.std.specs.Prelude.{◌==◌, filter, sum, replicate, slice_index}
use Rattle.std.specs.List.{flat_map, AllByRecursion as Each}
use Rattle.std.proofs.lemmas.Bool.{eq-eqb}
use Rattle.std.proofs.lemmas.List.{map-append, length-append, length-replicate, get_or_append_left}
use Rattle.std.proofs.lemmas.List.Folds.{flat_map-map, sum_by-replicate}
use Rattle.std.proofs.lemmas.List.FromFn.{get_or-map-range_with_len}
use Rattle.std.proofs.lemmas.List.Sums.{sum_by-append, sum_by-remove}
use Rattle.pe_base.specs.declared.place.Place.{Place}
use Rattle.pe_base.specs.declared.way.Way.{Way}
use Rattle.pe_base.specs.Tree.Places.{padded, finer, at}
use Rattle.pe_base.specs.Tree.Curve.{flip, mirrored, turned, digit_lists, children, order}
use Rattle.pe_base.specs.Steps.Around.{is_corner, is_corner_pos, around}
use Rattle.pe_base.specs.Steps.Routes.{way_turns}
use Rattle.pe_base.proofs.Lists.{Each-weaker, Each-append, Each-map, Each-flat_map, map-map, map_same, flat_map_same, map-flat_map, filter-map, filter_same}
use Rattle.pe_base.proofs.Tree.PlaceLaws.{length-finer, finer-zeros}
use Rattle.pe_base.proofs.Tree.Mirrors.{Digits3, digit_lists_below, mirrored_same, turned_below}
use Rattle.pe_base.proofs.Tree.Children.{flips_in, length-flips, child_of, children_are, length-digits}
use Rattle.pe_base.proofs.Steps.AroundInCell.{Spot, fits_all}
use Rattle.pe_base.proofs.Steps.Levels.{kids, cells, holders}

-- flips that turn each axis as the position and a number of turns do
abbrev pub FlipsAlike : ℕ → List ℕ → List ℕ → Type 0
FlipsAlike a es ps = (i : ℕ) → i < length ps → slice_index es i % 2 ≡ (a + slice_index ps i) % 2

-- the children at all digits, axis by axis
kids-turned : (es ps : List ℕ) (before b a : ℕ) → length es ≡ length ps → b % 2 ≡ (before + a) % 2 → FlipsAlike a es ps → map (λ ts. finer ps (turned es before ts)) (digit_lists (length ps)) ≡ kids b ps
kids-turned [] [] before b a len e turns = refl
kids-turned (e₁ ∷ es) [] before b a len e turns = absurd (omega arith)
kids-turned [] (p ∷ ps) before b a len e turns = absurd (omega arith)
kids-turned (e₁ ∷ es) (p ∷ ps) before b a len e turns =
    let f : List ℕ → List ℕ = λ ts. finer (p ∷ ps) (turned (e₁ ∷ es) before ts) in
    let child : ℕ → ℕ = λ t. 3 * p + mirrored (b + p) t in
    let here = turns 0 (omega arith) in
    let rest : FlipsAlike a es ps = λ i h. turns (suc i) (omega arith) in
    let ls : ℕ → List (List ℕ) = λ t. map (λ ts. t ∷ ts) (digit_lists (length ps)) in
    let part : (t : ℕ) → map f (ls t) ≡ map (λ cs. child t ∷ cs) (kids (b + t) ps) = λ t.
    map-map f (λ ts. t ∷ ts) (digit_lists (length ps))
    ∙ ap (λ (m : ℕ). map (λ ts. (3 * p + m) ∷ finer ps (turned es (before + t) ts)) (digit_lists (length ps))) (mirrored_same (e₁ + before) (b + p) t (omega arith))
    ∙ sym (map-map (λ cs. child t ∷ cs) (λ ts. finer ps (turned es (before + t) ts)) (digit_lists (length ps)))
    ∙ ap (map (λ cs. child t ∷ cs)) (kids-turned es ps (before + t) (b + t) a (omega arith) (omega arith) rest) in
    let zeroth = part 0 in
    let first = part 1 in
    let second = part 2 in
    let split : map f (ls 0 ++ (ls 1 ++ (ls 2 ++ []))) ≡ map f (ls 0) ++ (map f (ls 1) ++ (map f (ls 2) ++ [])) = simp map-append in
    split ∙ cc

finer-append : (xs ks us vs : List ℕ) → length xs ≡ length ks → finer (xs ++ us) (ks ++ vs) ≡ finer xs ks ++ finer us vs
finer-append [] [] us vs e = refl
finer-append [] (k ∷ ks) us vs e = absurd (omega arith)
finer-append (x ∷ xs) [] us vs e = absurd (omega arith)
finer-append (x ∷ xs) (k ∷ ks) us vs e = ap (λ ys. (3 * x + k) ∷ ys) (finer-append xs ks us vs (omega arith))

finer-padded : (xs ks : List ℕ) → length xs ≡ length ks → finer (padded xs) (padded ks) ≡ padded (finer xs ks)
finer-padded xs ks e =
    let n = 4 - length xs in
    let m : 4 - length ks ≡ n = ap (λ (l : ℕ). 4 - l) (sym e) in
    let k : n ≡ 4 - length (finer xs ks) = ap (λ (l : ℕ). 4 - l) (sym (length-finer xs ks e)) in
    finer-append xs ks (replicate n 0) (replicate (4 - length ks) 0) e
    ∙ ap (λ (i : ℕ). finer xs ks ++ finer (replicate n 0) (replicate i 0)) m
    ∙ ap (λ ys. finer xs ks ++ ys) (finer-zeros n)
    ∙ ap (λ (i : ℕ). finer xs ks ++ replicate i 0) k

sum-padded : (ps : List ℕ) → sum (padded ps) ≡ sum ps
sum-padded ps = sum_by-append (λ x. x) ps (replicate (4 - length ps) 0) ∙ omega (arith, sum_by-replicate (λ x. x) (4 - length ps) 0)

length-padded : (ps : List ℕ) → length ps ≤ 4 → length (padded ps) ≡ 4
length-padded ps h = length-append ps (replicate (4 - length ps) 0) ∙ omega (arith, length-replicate {A = ℕ} (4 - length ps) 0)

-- the flips of a cell turn each axis as all positions and its own do
turns-flips : (axes : ℕ) (way : Way) (ps : List ℕ) → length ps ≡ axes → axes ≤ 4 → FlipsAlike (way_turns way + sum ps) (flips_in axes way (padded ps)) ps
turns-flips axes way ps len within i h =
    let inside : i < length (padded ps) = omega (arith, length-padded ps) in
    omega (arith, get_or-map-range_with_len (λ axis. flip (padded ps) axis + way_turns way) 0 axes i i 0 (omega arith) (omega arith), sum_by-remove (λ x. x) (padded ps) i 0 inside, sum-padded ps, get_or_append_left ps (replicate (4 - length ps) 0) 0 i h)

-- the children of a cell, by its position on the grid's axes
children-kids : (axes level : ℕ) (way : Way) (ps : List ℕ) → length ps ≡ axes → axes ≤ 4 → children axes way (at level ps) ≡ map (at (suc level)) (kids (way_turns way + sum ps) ps)
children-kids axes level way ps len within =
    let es = flips_in axes way (padded ps) in
    let a = way_turns way + sum ps in
    let whole : List ℕ → Place = λ ts. at (suc level) (finer ps (turned es 0 ts)) in
    let few : length es ≡ axes = length-flips axes way (padded ps) in
    children_are axes way (at level ps)
    ∙ map_same (child_of axes way (at level ps)) whole (digit_lists axes) (Each-weaker (Digits3 axes) _ (λ ts d.
    let long : length (turned es 0 ts) ≡ axes = length-digits axes _ (turned_below es 0 axes ts few d) in
    ap (λ (n : ℕ). let p : Place = record { level = level + 1; pos = finer (padded ps) (turned es 0 ts ++ replicate (4 - n) 0) } in p) (sym long)
    ∙ ap (λ (l : ℕ). let p : Place = record { level = l; pos = finer (padded ps) (padded (turned es 0 ts)) } in p) (add-one level)
    ∙ ap (λ (xs : List ℕ). let p : Place = record { level = suc level; pos = xs } in p) (finer-padded ps (turned es 0 ts) (len ∙ sym long)))
    (digit_lists axes) (digit_lists_below axes))
    ∙ sym (map-map (at (suc level)) (λ ts. finer ps (turned es 0 ts)) (digit_lists axes))
    ∙ ap (map (at (suc level))) (ap (λ (k : ℕ). map (λ ts. finer ps (turned es 0 ts)) (digit_lists k)) (sym len) ∙ kids-turned es ps 0 a a (few ∙ sym len) (omega arith) (turns-flips axes way ps len within))

kids-long : (b : ℕ) (ps : List ℕ) → Each (λ cs. length cs ≡ length ps) (kids b ps)
kids-long b [] = (refl, tt)
kids-long b (p ∷ ps) =
    let Long : List ℕ → Type 0 = λ cs. length cs ≡ length (p ∷ ps) in
    let part : (t : ℕ) → Each Long (map (λ cs. (3 * p + mirrored (b + p) t) ∷ cs) (kids (b + t) ps)) = λ t.
    Each-map Long (λ cs. (3 * p + mirrored (b + p) t) ∷ cs) (kids (b + t) ps) (Each-weaker (λ cs. length cs ≡ length ps) _ (λ cs e. ap suc e) (kids (b + t) ps) (kids-long (b + t) ps)) in
    Each-append Long _ _ (part 0) (Each-append Long _ _ (part 1) (Each-append Long _ _ (part 2) tt))

pub cells-long : (axes w level : ℕ) → Each (λ ps. length ps ≡ axes) (cells axes w level)
cells-long axes w zero = (length-replicate axes 0, tt)
cells-long axes w (suc level) =
    Each-flat_map (λ cs. length cs ≡ axes) (λ ps. kids (w + sum ps) ps) (cells axes w level)
    (Each-weaker (λ ps. length ps ≡ axes) _ (λ ps e. Each-weaker (λ cs. length cs ≡ length ps) (λ cs. length cs ≡ axes) (λ cs h. h ∙ e) (kids (w + sum ps) ps) (kids-long (w + sum ps) ps)) (cells axes w level) (cells-long axes w level))

padded-zeros : (axes : ℕ) → axes ≤ 4 → padded (replicate axes 0) ≡ padded []
padded-zeros zero h = refl
padded-zeros (suc zero) h = refl
padded-zeros (suc (suc zero)) h = refl
padded-zeros (suc (suc (suc zero))) h = refl
padded-zeros (suc (suc (suc (suc zero)))) h = refl
padded-zeros (suc (suc (suc (suc (suc axes))))) h = absurd (omega arith)

-- the order of a level, by positions on the grid's axes
pub order-cells : (axes level : ℕ) (way : Way) → axes ≤ 4 → order axes way level ≡ map (at level) (cells axes (way_turns way) level)
order-cells axes zero way within = ap (λ (xs : List ℕ). let p : Place = record { level = 0; pos = xs } in p ∷ []) (sym (padded-zeros axes within))
order-cells axes (suc level) way within =
    let w = way_turns way in
    ap (flat_map (children axes way)) (order-cells axes level way within)
    ∙ flat_map-map (children axes way) (at level) (cells axes w level)
    ∙ flat_map_same (λ ps. children axes way (at level ps)) (λ ps. map (at (suc level)) (kids (w + sum ps) ps)) (cells axes w level)
    (Each-weaker (λ ps. length ps ≡ axes) _ (λ ps e. children-kids axes level way ps e within) (cells axes w level) (cells-long axes w level))
    ∙ sym (map-flat_map (at (suc level)) (λ ps. kids (w + sum ps) ps) (cells axes w level))

-- the planes of a vertex
abbrev pub spots : List ℕ → List Spot
spots qs = map (λ q. record { x = q; on = true }) qs

is_corner-zeros : (n m : ℕ) → n ≡ m → is_corner_pos (replicate n 0) (replicate m 0) ≡ true
is_corner-zeros zero zero e = refl
is_corner-zeros zero (suc m) e = absurd (omega arith)
is_corner-zeros (suc n) zero e = absurd (omega arith)
is_corner-zeros (suc n) (suc m) e = is_corner-zeros n m (omega arith)

is_corner-append : (qs ps us vs : List ℕ) → length qs ≡ length ps → is_corner_pos us vs ≡ true → is_corner_pos (qs ++ us) (ps ++ vs) ≡ fits_all (spots qs) ps
is_corner-append [] [] us vs e h = h
is_corner-append [] (p ∷ ps) us vs e h = absurd (omega arith)
is_corner-append (q ∷ qs) [] us vs e h = absurd (omega arith)
is_corner-append (q ∷ qs) (p ∷ ps) us vs e h = ap (λ v. (q == p || q == p + 1) && v) (is_corner-append qs ps us vs (omega arith) h)

pub is_corner-at : (level : ℕ) (qs ps : List ℕ) → length qs ≡ length ps → is_corner (at level qs) (at level ps) ≡ fits_all (spots qs) ps
is_corner-at level qs ps e =
    ap (λ v. v && is_corner_pos (padded qs) (padded ps)) (eq-eqb level level refl)
    ∙ is_corner-append qs ps (replicate (4 - length qs) 0) (replicate (4 - length ps) 0) e (is_corner-zeros (4 - length qs) (4 - length ps) (ap (λ (l : ℕ). 4 - l) e))

-- the cells around a vertex, by positions on the grid's axes
pub around-holders : (axes level : ℕ) (way : Way) (qs : List ℕ) → length qs ≡ axes → axes ≤ 4 → around axes way (at level qs) ≡ map (at level) (holders axes (way_turns way) level (spots qs))
around-holders axes level way qs len within =
    let w = way_turns way in
    ap (filter (is_corner (at level qs))) (order-cells axes level way within)
    ∙ filter-map (is_corner (at level qs)) (at level) (cells axes w level)
    ∙ ap (map (at level)) (filter_same (λ ps. is_corner (at level qs) (at level ps)) (fits_all (spots qs)) (cells axes w level)
    (Each-weaker (λ ps. length ps ≡ axes) _ (λ ps e. is_corner-at level qs ps (len ∙ sym e)) (cells axes w level) (cells-long axes w level)))
