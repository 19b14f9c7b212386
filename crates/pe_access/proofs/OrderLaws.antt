-- The faces of a cell in the order of the walk: of two cells that share a face, which one comes first.
use Rattle.std.proofs.Common.{◌≡◌, ℕ, zero, suc, ◌+◌, ◌-◌, ◌*◌, ◌/◌, ◌%◌, ◌^◌, ◌<◌, Bool, true, false, ◌&&◌, ◌||◌, List, [], ◌∷◌, ◌++◌, map, length, Some, None, sym, ap, ◌∙◌, subst, refl, inl, inr, ◌⊎◌, arith, pow-suc}
use Rattle.std.specs.Prelude.{◌==◌, if◌then◌else◌, find, sum, All}
use Rattle.std.specs.List.{flat_map}
use Rattle.std.specs.Option.{option_map, option_or}
use Rattle.std.proofs.lemmas.Bool.{or_parts, or_from, and_left, eq-eqb, ne_eqb, false≢true, cases_lt, cases_Bool}
use Rattle.std.proofs.lemmas.List.Elements.{All-head, All-tail, All-nil, All-cons, All-append, All-map, All-weaker}
use Rattle.std.proofs.lemmas.List.Folds.{find-append}
use Rattle.std.proofs.Math.Bool.{or-false}
use Rattle.pe_base.specs.declared.way.Way.{Way}
use Rattle.pe_base.specs.Tree.Curve.{mirrored}
use Rattle.pe_base.specs.Steps.Routes.{way_turns}
use Rattle.pe_base.specs.Tree.Places.{is_same_pos}
use Rattle.pe_base.proofs.Steps.RouteLaws.{Below}
use Rattle.pe_base.proofs.Steps.AroundInCell.{is_even, parents}
use Rattle.pe_base.proofs.Steps.Levels.{kids, cells}
use Rattle.pe_base.proofs.Lists.{In}
use Rattle.pe_base.proofs.Tree.Ranks.{same_list}
use Rattle.pe_base.proofs.Steps.VertexTouches.{pos_itself}
use Rattle.pe_base.proofs.Steps.StackLaws.{In-cells, Below-parents, length-parents}
use Rattle.pe_access.specs.Extents.{Face, Earlier, Later, Extent, root_face, near_face, far_face}
use Rattle.pe_access.proofs.ChildExtents.{child_extents, extents_of}
use Rattle.pe_access.proofs.ExtentLaws.{length-extents_of}

-- two positions that differ by one on an axis
abbrev pub Beside : ℕ → List ℕ → List ℕ → Type 0
Beside zero (u ∷ us) (v ∷ vs) = (v ≡ u + 1) × (us ≡ vs)
Beside (suc i) (u ∷ us) (v ∷ vs) = (u ≡ v) × Beside i us vs
Beside i us vs = ⊥

-- one of two positions
abbrev pub is_either : List ℕ → List ℕ → List ℕ → Bool
is_either us vs cs = is_same_pos cs us || is_same_pos cs vs

-- the faces of an axis
abbrev pub near_at : ℕ → List Extent → Face
near_at i [] = root_face
near_at zero (extent ∷ extents) = extent.near
near_at (suc i) (extent ∷ extents) = near_at i extents

abbrev pub far_at : ℕ → List Extent → Face
far_at i [] = root_face
far_at zero (extent ∷ extents) = extent.far
far_at (suc i) (extent ∷ extents) = far_at i extents

-- how often an axis is turned among a cell's children, by the digits before it
abbrev turns_at : ℕ → List ℕ → ℕ → ℕ
turns_at b [] i = b
turns_at b (c ∷ cs) zero = b + c / 3
turns_at b (c ∷ cs) (suc i) = turns_at (b + c % 3) cs i

abbrev pub first_of : Bool → List ℕ → List ℕ → List ℕ
first_of true us vs = us
first_of false us vs = vs

find-flat_map : {X Y : Type 0} (test : Y → Bool) (pass : X → Bool) (g : X → List Y) (xs : List X) (x : X) (y : Y) → ((z : X) → pass z ≡ false → find test (g z) ≡ None) → find pass xs ≡ Some x → find test (g x) ≡ Some y → find test (flat_map g xs) ≡ Some y
find-flat_map test pass g [] x y out e f = cc
find-flat_map {X} {Y} test pass g (z ∷ xs) x y out e f =
    elim (cases_Bool (pass z)) [
      | inl t ↦
          let first : Some z ≡ Some x = ap (λ v. if v then Some z else find pass xs) (sym t) ∙ e in
          let same : z ≡ x = cc in
          find-append test (g z) (flat_map g xs) ∙ ap (λ o. option_or o (find test (flat_map g xs))) (ap (λ w. find test (g w)) same ∙ f)
      | inr t ↦
          let rest : find pass xs ≡ Some x = ap (λ v. if v then Some z else find pass xs) (sym t) ∙ e in
          find-append test (g z) (flat_map g xs) ∙ ap (λ o. option_or o (find test (flat_map g xs))) (out z t) ∙ find-flat_map test pass g xs x y out rest f
    ]

-- the first of three blocks that has one
find-parts : {Y : Type 0} (test : Y → Bool) (f : ℕ → List Y) (t : ℕ) (y : Y) → t < 3 → ((k : ℕ) → k < t → find test (f k) ≡ None) → find test (f t) ≡ Some y → find test (f 0 ++ (f 1 ++ (f 2 ++ []))) ≡ Some y
find-parts test f zero y h out e = find-append test (f 0) _ ∙ ap (λ o. option_or o (find test (f 1 ++ (f 2 ++ [])))) e
find-parts test f (suc zero) y h out e =
    find-append test (f 0) _ ∙ ap (λ o. option_or o (find test (f 1 ++ (f 2 ++ [])))) (out 0 (omega arith))
    ∙ find-append test (f 1) _ ∙ ap (λ o. option_or o (find test (f 2 ++ []))) e
find-parts test f (suc (suc zero)) y h out e =
    find-append test (f 0) _ ∙ ap (λ o. option_or o (find test (f 1 ++ (f 2 ++ [])))) (out 0 (omega arith))
    ∙ find-append test (f 1) _ ∙ ap (λ o. option_or o (find test (f 2 ++ []))) (out 1 (omega arith))
    ∙ find-append test (f 2) [] ∙ ap (λ o. option_or o None) e
find-parts test f (suc (suc (suc t))) y h out e = absurd (omega arith)

-- under a common first coordinate
find-under : (test part : List ℕ → Bool) (c : ℕ) (ls : List (List ℕ)) → ((cs : List ℕ) → test (c ∷ cs) ≡ part cs) → find test (map (λ cs. c ∷ cs) ls) ≡ option_map (λ cs. c ∷ cs) (find part ls)
find-under test part c [] same = refl
find-under test part c (cs ∷ ls) same =
    ap (λ v. if v then Some (c ∷ cs) else find test (map (λ cs. c ∷ cs) ls)) (same cs)
    ∙ ap (λ o. if part cs then Some (c ∷ cs) else o) (find-under test part c ls same)
    ∙ elim (part cs) as (λ v. (if v then Some (c ∷ cs) else option_map (λ cs. c ∷ cs) (find part ls)) ≡ option_map (λ cs. c ∷ cs) (if v then Some cs else find part ls)) [ true ↦ refl | false ↦ refl ]

find-nothing : (test : List ℕ → Bool) (c : ℕ) (ls : List (List ℕ)) → ((cs : List ℕ) → test (c ∷ cs) ≡ false) → find test (map (λ cs. c ∷ cs) ls) ≡ None
find-nothing test c [] out = refl
find-nothing test c (cs ∷ ls) out = ap (λ v. if v then Some (c ∷ cs) else find test (map (λ cs. c ∷ cs) ls)) (out cs) ∙ find-nothing test c ls out

-- a child is found among the children of its parent
digit-of : ℕ → ℕ → ℕ
digit-of turns k = if turns % 2 == 0 then k else (2 - k)

digit-at : (turns p c : ℕ) → c / 3 ≡ p → (digit-of turns (c % 3) < 3) × (3 * p + mirrored turns (digit-of turns (c % 3)) ≡ c)
unfolding digit-of
digit-at turns p c e = elim (turns % 2 == 0) as (λ v. ((if v then c % 3 else (2 - c % 3)) < 3) × (3 * p + (if v then (if v then c % 3 else (2 - c % 3)) else (2 - (if v then c % 3 else (2 - c % 3)))) ≡ c)) [ true ↦ (omega arith, omega arith) | false ↦ (omega arith, omega arith) ]

digit-only : (turns p c t : ℕ) → c / 3 ≡ p → t < digit-of turns (c % 3) → 3 * p + mirrored turns t ≡ c → ⊥
unfolding digit-of
digit-only turns p c t e = elim (turns % 2 == 0) as (λ v. t < (if v then c % 3 else (2 - c % 3)) → 3 * p + (if v then t else (2 - t)) ≡ c → ⊥) [ true ↦ λ h k. omega arith | false ↦ λ h k. omega arith ]

digit-parity : (turns k : ℕ) → k < 3 → digit-of turns k % 2 ≡ k % 2
unfolding digit-of
digit-parity turns k h = elim (turns % 2 == 0) as (λ v. (if v then k else (2 - k)) % 2 ≡ k % 2) [ true ↦ refl | false ↦ omega arith ]

find-kids : (b : ℕ) (us cs : List ℕ) → cs ≡ parents us → find (λ x. is_same_pos x us) (kids b cs) ≡ Some us
find-kids b [] [] e = refl
find-kids b [] (c ∷ cs) e = cc
find-kids b (u ∷ us) [] e = cc
find-kids b (u ∷ us) (p ∷ ps) e =
    let head : u / 3 ≡ p = cc in
    let rest : ps ≡ parents us = cc in
    let test : List ℕ → Bool = λ x. is_same_pos x (u ∷ us) in
    let child : ℕ → ℕ = λ t. 3 * p + mirrored (b + p) t in
    let t = digit-of (b + p) (u % 3) in
    let at = digit-at (b + p) p u head in
    find-parts test (λ t. map (λ cs. child t ∷ cs) (kids (b + t) ps)) t (u ∷ us) at.0
    (λ k h. find-nothing test (child k) (kids (b + k) ps) (λ cs. ap (λ v. v && is_same_pos cs us) (ne_eqb (child k) u (digit-only (b + p) p u k head h))))
    (find-under test (λ x. is_same_pos x us) (child t) (kids (b + t) ps) (λ cs. ap (λ v. v && is_same_pos cs us) (eq-eqb (child t) u at.1))
    ∙ ap (option_map (λ cs. child t ∷ cs)) (find-kids (b + t) us ps rest)
    ∙ ap (λ (c : ℕ). Some (c ∷ us)) at.1)

-- of two children beside each other on the first axis
first-zero : (v : Bool) (b p u w : ℕ) (us vs ps : List ℕ) → u / 3 ≡ p → u % 3 < 2 → w ≡ u + 1 → us ≡ vs → ps ≡ parents us → let block = λ (t : ℕ). map (λ cs. (3 * p + (if v then t else (2 - t))) ∷ cs) (kids (b + t) ps) in find (is_either (u ∷ us) (w ∷ vs)) (block 0 ++ (block 1 ++ (block 2 ++ []))) ≡ Some (first_of v (u ∷ us) (w ∷ vs))
first-zero true b p u w us vs ps e h up same par =
    let test = is_either (u ∷ us) (w ∷ vs) in
    let here : 3 * p + u % 3 ≡ u = omega arith in
    find-parts test (λ t. map (λ cs. (3 * p + t) ∷ cs) (kids (b + t) ps)) (u % 3) (u ∷ us) (omega arith)
    (λ k less. find-nothing test (3 * p + k) (kids (b + k) ps) (λ cs. or_from _ _ (and_left (3 * p + k == u) (is_same_pos cs us) (ne_eqb (3 * p + k) u (λ q. omega arith))) (and_left (3 * p + k == w) (is_same_pos cs vs) (ne_eqb (3 * p + k) w (λ q. omega arith)))))
    (find-under test (λ cs. is_same_pos cs us) (3 * p + u % 3) (kids (b + u % 3) ps) (λ cs.
    ap (λ v. (v && is_same_pos cs us) || (3 * p + u % 3 == w && is_same_pos cs vs)) (eq-eqb (3 * p + u % 3) u here)
    ∙ ap (λ v. is_same_pos cs us || (v && is_same_pos cs vs)) (ne_eqb (3 * p + u % 3) w (λ q. omega arith)) ∙ or-false (is_same_pos cs us))
    ∙ ap (option_map (λ cs. (3 * p + u % 3) ∷ cs)) (find-kids (b + u % 3) us ps par)
    ∙ ap (λ (c : ℕ). Some (c ∷ us)) here)
first-zero false b p u w us vs ps e h up same par =
    let test = is_either (u ∷ us) (w ∷ vs) in
    let t = 2 - w % 3 in
    let here : 3 * p + (2 - t) ≡ w = omega arith in
    find-parts test (λ t. map (λ cs. (3 * p + (2 - t)) ∷ cs) (kids (b + t) ps)) t (w ∷ vs) (omega arith)
    (λ k less. find-nothing test (3 * p + (2 - k)) (kids (b + k) ps) (λ cs. or_from _ _ (and_left (3 * p + (2 - k) == u) (is_same_pos cs us) (ne_eqb (3 * p + (2 - k)) u (λ q. omega arith))) (and_left (3 * p + (2 - k) == w) (is_same_pos cs vs) (ne_eqb (3 * p + (2 - k)) w (λ q. omega arith)))))
    (find-under test (λ cs. is_same_pos cs vs) (3 * p + (2 - t)) (kids (b + t) ps) (λ cs.
    ap (λ v. (v && is_same_pos cs us) || (3 * p + (2 - t) == w && is_same_pos cs vs)) (ne_eqb (3 * p + (2 - t)) u (λ q. omega arith))
    ∙ ap (λ v. v && is_same_pos cs vs) (eq-eqb (3 * p + (2 - t)) w here))
    ∙ ap (option_map (λ cs. (3 * p + (2 - t)) ∷ cs)) (find-kids (b + t) vs ps (par ∙ ap parents same))
    ∙ ap (λ (c : ℕ). Some (c ∷ vs)) here)

turns_at-parity : (a b : ℕ) (cs : List ℕ) (i : ℕ) → a % 2 ≡ b % 2 → turns_at a cs i % 2 ≡ turns_at b cs i % 2
turns_at-parity a b [] i e = e
turns_at-parity a b (c ∷ cs) zero e = omega arith
turns_at-parity a b (c ∷ cs) (suc i) e = turns_at-parity (a + c % 3) (b + c % 3) cs i (omega arith)

first_of-under : (v : Bool) (c : ℕ) (us vs : List ℕ) → c ∷ first_of v us vs ≡ first_of v (c ∷ us) (c ∷ vs)
first_of-under true c us vs = refl
first_of-under false c us vs = refl

-- of two children of one cell, the one that comes first is told by the turns of their axis
first-kids : (i b : ℕ) (us vs ps : List ℕ) → Beside i us vs → ps ≡ parents us → parents us ≡ parents vs → find (is_either us vs) (kids b ps) ≡ Some (first_of (is_even (turns_at b us i)) us vs)
first-kids zero b [] vs ps h e f = absurd h
first-kids (suc i) b [] vs ps h e f = absurd h
first-kids zero b (u ∷ us) [] ps h e f = absurd h
first-kids (suc i) b (u ∷ us) [] ps h e f = absurd h
first-kids i b (u ∷ us) (v ∷ vs) [] h e f = cc
first-kids zero b (u ∷ us) (v ∷ vs) (p ∷ ps) h e f =
    let head : u / 3 ≡ p = cc in
    let rest : ps ≡ parents us = cc in
    let up : v ≡ u + 1 = h.0 in
    let same : u / 3 ≡ v / 3 = cc in
    ap (λ (q : ℕ). find (is_either (u ∷ us) (v ∷ vs)) (kids b (q ∷ ps))) (sym head)
    ∙ first-zero (is_even (b + u / 3)) b (u / 3) u v us vs ps refl (omega arith) up h.1 rest
first-kids (suc i) b (u ∷ us) (v ∷ vs) (p ∷ ps) h e f =
    let head : u / 3 ≡ p = cc in
    let rest : ps ≡ parents us = cc in
    let pair : parents us ≡ parents vs = cc in
    let same : u ≡ v = h.0 in
    let test = is_either (u ∷ us) (v ∷ vs) in
    let child : ℕ → ℕ = λ t. 3 * p + mirrored (b + p) t in
    let t = digit-of (b + p) (u % 3) in
    let at = digit-at (b + p) p u head in
    let even = is_even (turns_at (b + u % 3) us i) in
    let parity : (b + t) % 2 ≡ (b + u % 3) % 2 = omega (arith, digit-parity (b + p) (u % 3) (omega arith)) in
    let turn : is_even (turns_at (b + t) us i) ≡ even = ap (λ (r : ℕ). r == 0) (turns_at-parity (b + t) (b + u % 3) us i parity) in
    find-parts test (λ t. map (λ cs. child t ∷ cs) (kids (b + t) ps)) t (u ∷ first_of even us vs) at.0
    (λ k less.
    let off : child k ≡ u → ⊥ = digit-only (b + p) p u k head less in
    find-nothing test (child k) (kids (b + k) ps) (λ cs. or_from _ _ (and_left (child k == u) (is_same_pos cs us) (ne_eqb (child k) u off)) (and_left (child k == v) (is_same_pos cs vs) (ne_eqb (child k) v (λ q. off (q ∙ sym same))))))
    (find-under test (is_either us vs) (child t) (kids (b + t) ps) (λ cs.
    ap (λ w. (w && is_same_pos cs us) || (child t == v && is_same_pos cs vs)) (eq-eqb (child t) u at.1)
    ∙ ap (λ w. is_same_pos cs us || (w && is_same_pos cs vs)) (eq-eqb (child t) v (at.1 ∙ same)))
    ∙ ap (option_map (λ cs. child t ∷ cs)) (first-kids i (b + t) us vs ps h.1 rest pair)
    ∙ ap (λ (c : ℕ). Some (c ∷ first_of (is_even (turns_at (b + t) us i)) us vs)) at.1
    ∙ ap (λ w. Some (u ∷ first_of w us vs)) turn)
    ∙ ap Some (first_of-under even u us vs)
    ∙ ap (λ (c : ℕ). Some (first_of even (u ∷ us) (c ∷ vs))) same

-- two cells side by side are children of one cell, or of two cells side by side
siblings : (i : ℕ) (us vs : List ℕ) → Beside i us vs → (parents us ≡ parents vs) ⊎ Beside i (parents us) (parents vs)
siblings zero [] vs h = absurd h
siblings (suc i) [] vs h = absurd h
siblings zero (u ∷ us) [] h = absurd h
siblings (suc i) (u ∷ us) [] h = absurd h
siblings zero (u ∷ us) (v ∷ vs) h =
    let up : v ≡ u + 1 = h.0 in
    let rest : parents us ≡ parents vs = ap parents h.1 in
    elim (cases_lt (u % 3) 2) [
      | inl k ↦ inl (let head : u / 3 ≡ v / 3 = omega arith in cc)
      | inr k ↦ inr (omega arith, rest)
    ]
siblings (suc i) (u ∷ us) (v ∷ vs) h =
    let head : u / 3 ≡ v / 3 = ap (λ (x : ℕ). x / 3) h.0 in
    elim (siblings i us vs h.1) [ inl e ↦ inl (cc) | inr e ↦ inr (head, e) ]

far-inner : (i level b : ℕ) (us vs : List ℕ) (extents : List Extent) → Beside i us vs → parents us ≡ parents vs → length extents ≡ length us → far_at i (child_extents level b (parents us) us extents) ≡ far_face level (turns_at b us i)
far-inner zero level b [] vs extents h e len = absurd h
far-inner (suc i) level b [] vs extents h e len = absurd h
far-inner zero level b (u ∷ us) [] extents h e len = absurd h
far-inner (suc i) level b (u ∷ us) [] extents h e len = absurd h
far-inner i level b (u ∷ us) (v ∷ vs) [] h e len = absurd (omega arith)
far-inner zero level b (u ∷ us) (v ∷ vs) (extent ∷ extents) h e len =
    let up : v ≡ u + 1 = h.0 in
    let same : u / 3 ≡ v / 3 = cc in
    ap (λ w. if w then extent.far else far_face level (b + u / 3)) (ne_eqb (u % 3) 2 (λ q. omega arith))
far-inner (suc i) level b (u ∷ us) (v ∷ vs) (extent ∷ extents) h e len =
    let rest : parents us ≡ parents vs = cc in
    far-inner i level (b + u % 3) us vs extents h.1 rest (omega arith)

near-inner : (i level b : ℕ) (us vs : List ℕ) (extents : List Extent) → Beside i us vs → parents us ≡ parents vs → length extents ≡ length us → near_at i (child_extents level b (parents us) vs extents) ≡ near_face level (turns_at b us i)
near-inner zero level b [] vs extents h e len = absurd h
near-inner (suc i) level b [] vs extents h e len = absurd h
near-inner zero level b (u ∷ us) [] extents h e len = absurd h
near-inner (suc i) level b (u ∷ us) [] extents h e len = absurd h
near-inner i level b (u ∷ us) (v ∷ vs) [] h e len = absurd (omega arith)
near-inner zero level b (u ∷ us) (v ∷ vs) (extent ∷ extents) h e len =
    let up : v ≡ u + 1 = h.0 in
    let same : u / 3 ≡ v / 3 = cc in
    ap (λ w. if w then extent.near else near_face level (b + u / 3)) (ne_eqb (v % 3) 0 (λ q. omega arith))
near-inner (suc i) level b (u ∷ us) (v ∷ vs) (extent ∷ extents) h e len =
    let rest : parents us ≡ parents vs = cc in
    ap (λ (d : ℕ). near_at i (child_extents level (b + d % 3) (parents us) vs extents)) (sym h.0)
    ∙ near-inner i level (b + u % 3) us vs extents h.1 rest (omega arith)

far-edge : (i level b : ℕ) (us vs : List ℕ) (extents : List Extent) → Beside i us vs → Beside i (parents us) (parents vs) → length extents ≡ length us → far_at i (child_extents level b (parents us) us extents) ≡ far_at i extents
far-edge zero level b [] vs extents h e len = absurd h
far-edge (suc i) level b [] vs extents h e len = absurd h
far-edge zero level b (u ∷ us) [] extents h e len = absurd h
far-edge (suc i) level b (u ∷ us) [] extents h e len = absurd h
far-edge i level b (u ∷ us) (v ∷ vs) [] h e len = absurd (omega arith)
far-edge zero level b (u ∷ us) (v ∷ vs) (extent ∷ extents) h e len =
    let up : v ≡ u + 1 = h.0 in
    let next : v / 3 ≡ u / 3 + 1 = e.0 in
    ap (λ w. if w then extent.far else far_face level (b + u / 3)) (eq-eqb (u % 3) 2 (omega arith))
far-edge (suc i) level b (u ∷ us) (v ∷ vs) (extent ∷ extents) h e len = far-edge i level (b + u % 3) us vs extents h.1 e.1 (omega arith)

near-edge : (i level b : ℕ) (us vs : List ℕ) (extents : List Extent) → Beside i us vs → Beside i (parents us) (parents vs) → length extents ≡ length vs → near_at i (child_extents level b (parents vs) vs extents) ≡ near_at i extents
near-edge zero level b [] vs extents h e len = absurd h
near-edge (suc i) level b [] vs extents h e len = absurd h
near-edge zero level b (u ∷ us) [] extents h e len = absurd h
near-edge (suc i) level b (u ∷ us) [] extents h e len = absurd h
near-edge i level b (u ∷ us) (v ∷ vs) [] h e len = absurd (omega arith)
near-edge zero level b (u ∷ us) (v ∷ vs) (extent ∷ extents) h e len =
    let up : v ≡ u + 1 = h.0 in
    let next : v / 3 ≡ u / 3 + 1 = e.0 in
    ap (λ w. if w then extent.near else near_face level (b + v / 3)) (eq-eqb (v % 3) 0 (omega arith))
near-edge (suc i) level b (u ∷ us) (v ∷ vs) (extent ∷ extents) h e len = near-edge i level (b + v % 3) us vs extents h.1 e.1 (omega arith)

child-third : (p t : ℕ) (even : Bool) → t < 3 → (3 * p + (if even then t else (2 - t))) / 3 ≡ p
child-third p t true h = omega arith
child-third p t false h = omega arith

-- each child of a cell has it as its parent
kids-parents : (b : ℕ) (ps : List ℕ) → All (λ cs. parents cs ≡ ps) (kids b ps)
kids-parents b [] = All-cons (λ cs. parents cs ≡ []) [] [] refl (All-nil (λ cs. parents cs ≡ []))
kids-parents b (p ∷ ps) =
    let Of : List ℕ → Type 0 = λ cs. parents cs ≡ p ∷ ps in
    let child : ℕ → ℕ = λ t. 3 * p + mirrored (b + p) t in
    let part : (t : ℕ) → t < 3 → All Of (map (λ cs. child t ∷ cs) (kids (b + t) ps)) = λ t h.
    let head : child t / 3 ≡ p = child-third p t (is_even (b + p)) h in
    All-map Of (λ cs. child t ∷ cs) (kids (b + t) ps) (All-weaker (λ cs. parents cs ≡ ps) (λ cs. parents (child t ∷ cs) ≡ p ∷ ps) (λ cs e. cc) (kids (b + t) ps) (kids-parents (b + t) ps)) in
    All-append Of _ _ (part 0 (omega arith)) (All-append Of _ _ (part 1 (omega arith)) (All-append Of _ _ (part 2 (omega arith)) (All-nil Of)))

find-none : {X : Type 0} (test : X → Bool) (xs : List X) → All (λ x. test x ≡ false) xs → find test xs ≡ None
find-none test [] all = refl
find-none {X} test (x ∷ xs) all =
    let Out : X → Type 0 = λ x. test x ≡ false in
    ap (λ v. if v then Some x else find test xs) (All-head Out x xs all) ∙ find-none test xs (All-tail Out x xs all)

pub find-same : {X : Type 0} (f g : X → Bool) (xs : List X) → All (λ x. f x ≡ g x) xs → find f xs ≡ find g xs
find-same f g [] all = refl
find-same {X} f g (x ∷ xs) all =
    let Same : X → Type 0 = λ x. f x ≡ g x in
    ap (λ v. if v then Some x else find f xs) (All-head Same x xs all) ∙ ap (λ o. if g x then Some x else o) (find-same f g xs (All-tail Same x xs all))

-- a child of another cell is not this one
other-child : (ps cs us : List ℕ) → parents cs ≡ ps → is_same_pos ps (parents us) ≡ false → is_same_pos cs us ≡ false
other-child ps cs us e h = elim (cases_Bool (is_same_pos cs us)) [
  | inl t ↦
      let same : ps ≡ parents us = sym e ∙ ap parents (same_list cs us t) in
      absurd (false≢true (sym h ∙ ap (λ xs. is_same_pos ps xs) (sym same) ∙ pos_itself ps))
  | inr t ↦ t
]

kids-out : (b : ℕ) (ps us vs : List ℕ) → is_same_pos ps (parents us) ≡ false → is_same_pos ps (parents vs) ≡ false → find (is_either us vs) (kids b ps) ≡ None
kids-out b ps us vs h k =
    find-none (is_either us vs) (kids b ps)
    (All-weaker (λ cs. parents cs ≡ ps) (λ cs. is_either us vs cs ≡ false) (λ cs e. or_from (is_same_pos cs us) (is_same_pos cs vs) (other-child ps cs us e h) (other-child ps cs vs e k)) (kids b ps) (kids-parents b ps))

pub beside-apart : (i : ℕ) (us vs : List ℕ) → Beside i us vs → us ≡ vs → ⊥
beside-apart zero [] vs h e = absurd h
beside-apart (suc i) [] vs h e = absurd h
beside-apart zero (u ∷ us) [] h e = absurd h
beside-apart (suc i) (u ∷ us) [] h e = absurd h
beside-apart zero (u ∷ us) (v ∷ vs) h e = let up : v ≡ u + 1 = h.0 in let same : u ≡ v = cc in omega arith
beside-apart (suc i) (u ∷ us) (v ∷ vs) h e = beside-apart i us vs h.1 (cc)

pub not-same : (xs ys : List ℕ) → (xs ≡ ys → ⊥) → is_same_pos xs ys ≡ false
not-same xs ys h = elim (cases_Bool (is_same_pos xs ys)) [ inl t ↦ absurd (h (same_list xs ys t)) | inr t ↦ t ]

-- among the children of one of two cells side by side only its own of the two children is found
first-edge : (b : ℕ) (us vs : List ℕ) (v : Bool) → (parents us ≡ parents vs → ⊥) → find (is_either us vs) (kids b (first_of v (parents us) (parents vs))) ≡ Some (first_of v us vs)
first-edge b us vs true differ =
    find-same (is_either us vs) (λ x. is_same_pos x us) (kids b (parents us))
    (All-weaker (λ cs. parents cs ≡ parents us) (λ cs. is_either us vs cs ≡ is_same_pos cs us) (λ cs e. ap (λ w. is_same_pos cs us || w) (other-child (parents us) cs vs e (not-same (parents us) (parents vs) differ)) ∙ or-false (is_same_pos cs us)) (kids b (parents us)) (kids-parents b (parents us)))
    ∙ find-kids b us (parents us) refl
first-edge b us vs false differ =
    find-same (is_either us vs) (λ x. is_same_pos x vs) (kids b (parents vs))
    (All-weaker (λ cs. parents cs ≡ parents vs) (λ cs. is_either us vs cs ≡ is_same_pos cs vs) (λ cs e. ap (λ w. w || is_same_pos cs vs) (other-child (parents vs) cs us e (not-same (parents vs) (parents us) (λ k. differ (sym k))))) (kids b (parents vs)) (kids-parents b (parents vs)))
    ∙ find-kids b vs (parents vs) refl

find-member : (us : List ℕ) (xs : List (List ℕ)) → In us xs → find (λ x. is_same_pos x us) xs ≡ Some us
find-member us [] m = absurd (omega arith)
find-member us (x ∷ xs) m =
    elim (cases_Bool (is_same_pos x us)) [
      | inl t ↦ ap (λ v. if v then Some x else find (λ x. is_same_pos x us) xs) t ∙ ap Some (same_list x us t)
      | inr t ↦
          let rest : In us xs = elim m [ inl e ↦ absurd (false≢true (sym t ∙ ap (λ y. is_same_pos x y) e ∙ pos_itself x)) | inr k ↦ k ] in
          ap (λ v. if v then Some x else find (λ x. is_same_pos x us) xs) t ∙ find-member us xs rest
    ]

-- of two cells side by side, the one that comes first, as their faces have it
pub record First (axes : ℕ) (way : Way) (level i : ℕ) (us vs : List ℕ) : Type 0 where
  pub lower : Bool
  pub far : (far_at i (extents_of way level us)).relation ≡ (if lower then Later else Earlier)
  pub near : (near_at i (extents_of way level vs)).relation ≡ (if lower then Earlier else Later)
  pub found : find (is_either us vs) (cells axes (way_turns way) level) ≡ Some (first_of lower us vs)

beside-length : (i : ℕ) (us vs : List ℕ) → Beside i us vs → length us ≡ length vs
beside-length zero [] vs h = absurd h
beside-length (suc i) [] vs h = absurd h
beside-length zero (u ∷ us) [] h = absurd h
beside-length (suc i) (u ∷ us) [] h = absurd h
beside-length zero (u ∷ us) (v ∷ vs) h = ap (λ (xs : List ℕ). suc (length xs)) h.1
beside-length (suc i) (u ∷ us) (v ∷ vs) h = ap suc (beside-length i us vs h.1)

beside-root : (i : ℕ) (us vs : List ℕ) → Beside i us vs → Below 1 vs → ⊥
beside-root zero [] vs h k = absurd h
beside-root (suc i) [] vs h k = absurd h
beside-root zero (u ∷ us) [] h k = absurd h
beside-root (suc i) (u ∷ us) [] h k = absurd h
beside-root zero (u ∷ us) (v ∷ vs) h k = let up : v ≡ u + 1 = h.0 in let small = k.0 in omega arith
beside-root (suc i) (u ∷ us) (v ∷ vs) h k = beside-root i us vs h.1 k.1

pub first-is : (axes : ℕ) (way : Way) (level i : ℕ) (us vs : List ℕ) → length vs ≡ axes → Below (3 ^ level) vs → Beside i us vs → First axes way level i us vs
first-is axes way zero i us vs len below h = absurd (beside-root i us vs h below)
first-is axes way (suc level) i us vs len below h =
    let w = way_turns way in
    let ps = parents us in
    let qs = parents vs in
    let bound : 3 ^ suc level ≡ 3 * 3 ^ level = omega (arith, pow-suc 3 level) in
    let P : ℕ → Type 0 = λ b. Below b vs in
    let small : Below (3 ^ level) qs = Below-parents (3 ^ level) vs (subst P bound below) in
    let long : length us ≡ length vs = beside-length i us vs h in
    let extents : length (extents_of way level ps) ≡ length us = length-extents_of way level ps ∙ length-parents us in
    let extents' : length (extents_of way level qs) ≡ length vs = length-extents_of way level qs ∙ length-parents vs in
    elim (siblings i us vs h) [
      | inl same ↦
          let b = w + sum ps in
          let e = is_even (turns_at b us i) in
          let Q : List ℕ → Type 0 = λ xs. Below (3 ^ level) xs in
          let up : find (λ x. is_same_pos x ps) (cells axes w level) ≡ Some ps = find-member ps (cells axes w level) (In-cells axes w level ps (length-parents us ∙ long ∙ len) (subst Q (sym same) small)) in
          record {
            lower = e;
            far = ap (λ f. f.relation) (far-inner i (suc level) b us vs (extents_of way level ps) h same extents);
            near =
                ap (λ xs. (near_at i (child_extents (suc level) (w + sum xs) xs vs (extents_of way level xs))).relation) (sym same)
                ∙ ap (λ f. f.relation) (near-inner i (suc level) b us vs (extents_of way level ps) h same extents);
            found = find-flat_map (is_either us vs) (λ x. is_same_pos x ps) (λ xs. kids (w + sum xs) xs) (cells axes w level) ps (first_of e us vs)
                (λ z out. kids-out (w + sum z) z us vs out (ap (λ xs. is_same_pos z xs) (sym same) ∙ out))
                up (first-kids i b us vs ps h refl same);
          }
      | inr side ↦
          let above = first-is axes way level i ps qs (length-parents vs ∙ len) small side in
          let v = above.lower in
          let root = first_of v ps qs in
          record {
            lower = v;
            far = ap (λ f. f.relation) (far-edge i (suc level) (w + sum ps) us vs (extents_of way level ps) h side extents) ∙ above.far;
            near = ap (λ f. f.relation) (near-edge i (suc level) (w + sum qs) us vs (extents_of way level qs) h side extents') ∙ above.near;
            found = find-flat_map (is_either us vs) (is_either ps qs) (λ xs. kids (w + sum xs) xs) (cells axes w level) root (first_of v us vs)
                (λ z out. let parts = or_parts (is_same_pos z ps) (is_same_pos z qs) out in kids-out (w + sum z) z us vs parts.0 parts.1)
                above.found (first-edge (w + sum root) us vs v (beside-apart i ps qs side));
          }
    ]
