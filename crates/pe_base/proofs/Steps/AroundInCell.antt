-- The children of a cell around a point, in the order of the walk: a reflected code over the axes on whose
-- planes the point lies inside the cell.
use Rattle.std.proofs.Common.{◌≡◌, ℕ, zero, suc, ◌+◌, ◌-◌, ◌*◌, ◌/◌, ◌%◌, ◌<◌, ◌≤◌, Bool, true, false, ◌&&◌, ◌||◌, List, [], ◌∷◌, ◌++◌, map, Option, Some, None, sym, ap, ◌∙◌, subst, refl, inl, inr, ◌⊎◌, arith}
use Rattle.std.specs.Prelude.{◌==◌, not}
use Rattle.std.proofs.lemmas.Bool.{or_cases, and_parts, eqb-true, eqb-false, eq-eqb, ne_eqb, false≢true, cases_lt}
use Rattle.std.proofs.Math.Bool.{or-false, or_comm}
use Rattle.pe_base.proofs.Steps.Walks.{Step, Walk, Path-join, Path-map}
use Rattle.pe_base.proofs.Tree.Corners.{same_tests}

-- where a point lies along an axis of a level: on the plane at a coordinate, or else inside the cell there
pub record Spot : Type 0 where
  pub x : ℕ
  pub on : Bool

-- a cell holds the point
abbrev pub fits : Spot → ℕ → Bool
fits s p = s.x == p || (s.on && s.x == p + 1)

abbrev pub fits_all : List Spot → List ℕ → Bool
fits_all [] [] = true
fits_all (s ∷ ss) (p ∷ ps) = fits s p && fits_all ss ps
fits_all [] (p ∷ ps) = false
fits_all (s ∷ ss) [] = false

-- the point on the level above
abbrev pub coarse : Spot → Spot
coarse s = record { x = s.x / 3; on = s.on && s.x % 3 == 0 }

-- the plane of a point splits the cell that holds it
abbrev pub two_on : Bool → Bool → Bool
two_on false whole = false
two_on true true = false
two_on true false = true

abbrev pub two : ℕ → Bool → Bool
two x on = two_on on (x % 3 == 0)

-- the least child of the cell p that holds the point
abbrev pub low_on : Bool → Bool → Bool → ℕ → ℕ
low_on false whole near x = x
low_on true true true x = x
low_on true true false x = x - 1
low_on true false near x = x - 1

abbrev pub low : ℕ → Bool → ℕ → ℕ
low x on p = low_on on (x % 3 == 0) (x == 3 * p) x

-- the child that comes first, and the other one
abbrev pub lead : Bool → Bool → ℕ → ℕ
lead false even lo = lo
lead true true lo = lo
lead true false lo = lo + 1

abbrev pub other : Bool → ℕ → ℕ
other true lo = lo + 1
other false lo = lo

-- the children along one axis, by those at each coordinate
abbrev pub split : Bool → Bool → ℕ → (ℕ → List (List ℕ)) → List (List ℕ)
split false even lo at = at lo
split true even lo at = at (lead true even lo) ++ at (other even lo)

abbrev pub is_even : ℕ → Bool
is_even n = n % 2 == 0

abbrev pub gray : ℕ → List Spot → List ℕ → List (List ℕ)
gray b [] ps = [] ∷ []
gray b (s ∷ ss) [] = [] ∷ []
gray b (s ∷ ss) (p ∷ ps) = split (two s.x s.on) (is_even (b + p)) (low s.x s.on p) (λ c. map (λ cs. c ∷ cs) (gray (b + p + c) ss ps))

-- the first of them
abbrev pub start : ℕ → List Spot → List ℕ → List ℕ
start b [] ps = []
start b (s ∷ ss) [] = []
start b (s ∷ ss) (p ∷ ps) =
    let c = lead (two s.x s.on) (is_even (b + p)) (low s.x s.on p) in
    c ∷ start (b + p + c) ss ps

-- the axis across which a child is entered: the last one whose other child came before
abbrev pub deeper : Option ℕ → Bool → Option ℕ
deeper (Some axis) t = Some (suc axis)
deeper None true = Some 0
deeper None false = None

abbrev pub is_other : Bool → Bool → ℕ → ℕ → Bool
is_other false even lo c = false
is_other true even lo c = c == other even lo

abbrev pub enter_along : (ℕ → Bool) → (ℕ → List ℕ → Option ℕ) → List ℕ → Option ℕ
enter_along test rest [] = None
enter_along test rest (c ∷ cs) = deeper (rest c cs) (test c)

abbrev pub enter : ℕ → List Spot → List ℕ → List ℕ → Option ℕ
enter b [] ps cs = None
enter b (s ∷ ss) [] cs = None
enter b (s ∷ ss) (p ∷ ps) cs = enter_along (is_other (two s.x s.on) (is_even (b + p)) (low s.x s.on p)) (λ c. enter (b + p + c) ss ps) cs

-- two cells share the face on the point's plane
abbrev pub Crosses : List Spot → ℕ → List ℕ → List ℕ → Type 0
Crosses (s ∷ ss) zero (a ∷ us) (b ∷ vs) = (s.on ≡ true) × (((s.x ≡ a + 1) × (s.x ≡ b)) ⊎ ((s.x ≡ a) × (s.x ≡ b + 1))) × (us ≡ vs)
Crosses (s ∷ ss) (suc i) (a ∷ us) (b ∷ vs) = (a ≡ b) × Crosses ss i us vs
Crosses ss i us vs = ⊥

abbrev pub parents : List ℕ → List ℕ
parents cs = map (λ c. c / 3) cs

-- two children of one cell share a face
pub record Within (ss : List Spot) (ps : List ℕ) (i : ℕ) (a b : List ℕ) : Type 0 where
  pub crosses : Crosses ss i a b
  pub from : parents a ≡ ps
  pub to : parents b ≡ ps

-- what the point leaves of a cell along an axis: the least digit, and whether there are two
pub record Fit (x : ℕ) (on : Bool) (p lo : ℕ) (pair : Bool) : Type 0 where
  pub digit : ℕ
  pub below : digit < 3
  pub least : lo ≡ 3 * p + digit
  pub plane : pair ≡ true → (on ≡ true) × (x ≡ lo + 1) × (digit < 2)
  pub holds : (c : ℕ) → 3 * p ≤ c → c < 3 * p + 3 → fits (record { x = x; on = on }) c ≡ (c == lo || (pair && c == lo + 1))

fit_off : (x p : ℕ) → fits (coarse (record { x = x; on = false })) p ≡ true → Fit x false p x false
fit_off x p h =
    let parent : x / 3 ≡ p = elim (or_cases (x / 3 == p) false h) [ inl e ↦ eqb-true (x / 3) p e | inr e ↦ absurd (false≢true e) ] in
    record {
      digit = x % 3;
      below = omega arith;
      least = omega arith;
      plane = λ e. absurd (false≢true e);
      holds = λ c from to. ap (λ v. v || false) (same_tests x c c x (λ e. sym e) (λ e. sym e));
    }

fit_on : (x p : ℕ) (whole near : Bool) → (x % 3 == 0) ≡ whole → (x == 3 * p) ≡ near → (x / 3 == p || (whole && x / 3 == p + 1)) ≡ true → Fit x true p (low_on true whole near x) (two_on true whole)
fit_on x p true true w n h =
    let at : x ≡ 3 * p = eqb-true x (3 * p) n in
    record {
      digit = 0;
      below = omega arith;
      least = omega arith;
      plane = λ e. absurd (false≢true e);
      holds = λ c from to.
          let here : (x == c) ≡ (c == x) = same_tests x c c x (λ e. sym e) (λ e. sym e) in
          let there : (x == c + 1) ≡ false = ne_eqb x (c + 1) (λ e. omega arith) in
          ap (λ v. v || x == c + 1) here ∙ ap (λ v. c == x || v) there;
    }
fit_on x p true false w n h =
    let whole : x % 3 ≡ 0 = eqb-true (x % 3) 0 w in
    let apart : x ≡ 3 * p → ⊥ = eqb-false x (3 * p) n in
    let next : x ≡ 3 * p + 3 = elim (or_cases (x / 3 == p) (x / 3 == p + 1) h) [
      | inl e ↦ absurd (apart (let q : x / 3 ≡ p = eqb-true (x / 3) p e in omega arith))
      | inr e ↦ let q : x / 3 ≡ p + 1 = eqb-true (x / 3) (p + 1) e in omega arith
    ] in
    record {
      digit = 2;
      below = omega arith;
      least = omega arith;
      plane = λ e. absurd (false≢true e);
      holds = λ c from to.
          let here : (x == c) ≡ false = ne_eqb x c (λ e. omega arith) in
          let there : (x == c + 1) ≡ (c == x - 1) = same_tests x (c + 1) c (x - 1) (λ e. omega arith) (λ e. omega arith) in
          ap (λ v. v || x == c + 1) here ∙ there ∙ sym (or-false (c == x - 1));
    }
fit_on x p false near w n h =
    let part : x % 3 ≡ 0 → ⊥ = eqb-false (x % 3) 0 w in
    let parent : x / 3 ≡ p = elim (or_cases (x / 3 == p) false h) [ inl e ↦ eqb-true (x / 3) p e | inr e ↦ absurd (false≢true e) ] in
    let positive : 0 < x % 3 = elim (cases_lt 0 (x % 3)) [ inl e ↦ e | inr e ↦ absurd (part (omega arith)) ] in
    record {
      digit = x % 3 - 1;
      below = omega arith;
      least = omega arith;
      plane = λ e. (refl, omega arith, omega arith);
      holds = λ c from to.
          let here : (x == c) ≡ (c == x - 1 + 1) = same_tests x c c (x - 1 + 1) (λ e. omega arith) (λ e. omega arith) in
          let there : (x == c + 1) ≡ (c == x - 1) = same_tests x (c + 1) c (x - 1) (λ e. omega arith) (λ e. omega arith) in
          ap (λ v. v || x == c + 1) here ∙ ap (λ v. c == x - 1 + 1 || v) there ∙ or_comm (c == x - 1 + 1) (c == x - 1);
    }

pub fit : (x : ℕ) (on : Bool) (p : ℕ) → fits (coarse (record { x = x; on = on })) p ≡ true → Fit x on p (low x on p) (two x on)
fit x false p h = fit_off x p h
fit x true p h = fit_on x p (x % 3 == 0) (x == 3 * p) refl refl h

under : (s : Spot) (ss : List Spot) (p : ℕ) (ps : List ℕ) (c : ℕ) → c / 3 ≡ p → (i : ℕ) (a b : List ℕ) → Within ss ps i a b → Within (s ∷ ss) (p ∷ ps) (suc i) (c ∷ a) (c ∷ b)
under s ss p ps c parent i a b w =
    let from : parents a ≡ ps = w.from in
    let to : parents b ≡ ps = w.to in
    record { crosses = (refl, w.crosses); from = cc; to = cc }

-- an axis on which one child is left
single : (s : Spot) (ss : List Spot) (p : ℕ) (ps : List ℕ) (lo : ℕ) (E L : ℕ → List ℕ → Option ℕ) (G : ℕ → List (List ℕ)) (first last : ℕ → List ℕ) → lo / 3 ≡ p → ((c : ℕ) → Walk (E c) (L c) (Within ss ps) (G c) (first c) (last c)) → Walk (enter_along (λ c. false) E) (enter_along (λ c. false) L) (Within (s ∷ ss) (p ∷ ps)) (map (λ cs. lo ∷ cs) (G lo)) (lo ∷ first lo) (lo ∷ last lo)
single s ss p ps lo E L G first last parent tail =
    let walk = tail lo in record {
      rest = map (λ cs. lo ∷ cs) walk.rest;
      is = ap (map (λ cs. lo ∷ cs)) walk.is;
      path = Path-map (E lo) (L lo) (Within ss ps) _ _ (Within (s ∷ ss) (p ∷ ps)) (λ cs. lo ∷ cs) (λ a b step. record {
        axis = suc step.axis;
        entered = ap (λ o. deeper o false) step.entered;
        left = ap (λ o. deeper o false) step.left;
        crosses = under s ss p ps lo parent step.axis a b step.crosses;
      }) (first lo) walk.rest (last lo) walk.path;
      starts = ap (λ o. deeper o false) walk.starts;
      ends = ap (λ o. deeper o false) walk.ends;
    }

-- an axis on which two children are left: those at c, and then those at e
pair : (s : Spot) (ss : List Spot) (p : ℕ) (ps : List ℕ) (c e : ℕ) (E L : ℕ → List ℕ → Option ℕ) (G : ℕ → List (List ℕ)) (first last : ℕ → List ℕ) → (c ≡ e → ⊥) → c / 3 ≡ p → e / 3 ≡ p → s.on ≡ true → ((s.x ≡ c + 1) × (s.x ≡ e)) ⊎ ((s.x ≡ c) × (s.x ≡ e + 1)) → last c ≡ first e → parents (first e) ≡ ps → ((c : ℕ) → Walk (E c) (L c) (Within ss ps) (G c) (first c) (last c)) → Walk (enter_along (λ n. n == e) E) (enter_along (λ n. n == c) L) (Within (s ∷ ss) (p ∷ ps)) (map (λ cs. c ∷ cs) (G c) ++ map (λ cs. e ∷ cs) (G e)) (c ∷ first c) (e ∷ last e)
pair s ss p ps c e E L G first last apart parent parent' on plane meet starts tail =
    let front = tail c in
    let back = tail e in
    let enters = enter_along (λ n. n == e) E in
    let leaves = enter_along (λ n. n == c) L in
    let step_at : (n : ℕ) → n / 3 ≡ p → (a b : List ℕ) → Step (E n) (L n) (Within ss ps) a b → Step enters leaves (Within (s ∷ ss) (p ∷ ps)) (n ∷ a) (n ∷ b) =
    λ n parent a b step. record {
      axis = suc step.axis;
      entered = ap (λ o. deeper o (n == e)) step.entered;
      left = ap (λ o. deeper o (n == c)) step.left;
      crosses = under s ss p ps n parent step.axis a b step.crosses;
    } in
    let ends : parents (last c) ≡ ps = ap parents meet ∙ starts in
    let there : Step enters leaves (Within (s ∷ ss) (p ∷ ps)) (c ∷ last c) (e ∷ first e) = record {
      axis = 0;
      entered = ap (λ o. deeper o (e == e)) back.starts ∙ ap (deeper None) (eq-eqb e e refl);
      left = ap (λ o. deeper o (c == c)) front.ends ∙ ap (deeper None) (eq-eqb c c refl);
      crosses = record { crosses = (on, plane, meet); from = cc; to = cc };
    } in
    record {
      rest = map (λ cs. c ∷ cs) front.rest ++ (e ∷ first e) ∷ map (λ cs. e ∷ cs) back.rest;
      is = cc (ap (map (λ cs. c ∷ cs)) front.is, ap (map (λ cs. e ∷ cs)) back.is);
      path = Path-join enters leaves (Within (s ∷ ss) (p ∷ ps)) (c ∷ first c) (map (λ cs. c ∷ cs) front.rest) (c ∷ last c) (e ∷ first e) (map (λ cs. e ∷ cs) back.rest) (e ∷ last e)
          (Path-map (E c) (L c) (Within ss ps) enters leaves (Within (s ∷ ss) (p ∷ ps)) (λ cs. c ∷ cs) (step_at c parent) (first c) front.rest (last c) front.path)
          there
          (Path-map (E e) (L e) (Within ss ps) enters leaves (Within (s ∷ ss) (p ∷ ps)) (λ cs. e ∷ cs) (step_at e parent') (first e) back.rest (last e) back.path);
      starts = ap (λ o. deeper o (c == e)) front.starts ∙ ap (deeper None) (ne_eqb c e apart);
      ends = ap (λ o. deeper o (e == c)) back.ends ∙ ap (deeper None) (ne_eqb e c (λ h. apart (sym h)));
    }

lead-fit : (x : ℕ) (on : Bool) (p lo : ℕ) (tw even : Bool) → Fit x on p lo tw → lead tw even lo / 3 ≡ p
lead-fit x on p lo false even h = omega (arith, h.least, h.below)
lead-fit x on p lo true true h = omega (arith, h.least, h.below)
lead-fit x on p lo true false h = omega (arith, h.least, (h.plane refl).2)

pub parents-start : (b : ℕ) (ss : List Spot) (ps : List ℕ) → fits_all (map coarse ss) ps ≡ true → parents (start b ss ps) ≡ ps
parents-start b [] [] h = refl
parents-start b [] (p ∷ ps) h = absurd (false≢true h)
parents-start b (s ∷ ss) [] h = absurd (false≢true h)
parents-start b (s ∷ ss) (p ∷ ps) h =
    let both = and_parts (fits (coarse s) p) (fits_all (map coarse ss) ps) h in
    let c = lead (two s.x s.on) (is_even (b + p)) (low s.x s.on p) in
    let head : c / 3 ≡ p = lead-fit s.x s.on p (low s.x s.on p) (two s.x s.on) (is_even (b + p)) (fit s.x s.on p both.0) in
    let tail : parents (start (b + p + c) ss ps) ≡ ps = parents-start (b + p + c) ss ps both.1 in
    cc

-- the first of them depends on the parity of the turns alone
pub start-parity : (a b : ℕ) (ss : List Spot) (ps : List ℕ) → a % 2 ≡ b % 2 → start a ss ps ≡ start b ss ps
start-parity a b [] ps e = refl
start-parity a b (s ∷ ss) [] e = refl
start-parity a b (s ∷ ss) (p ∷ ps) e =
    let first : ℕ → ℕ = λ r. lead (two s.x s.on) (r == 0) (low s.x s.on p) in
    let head : first ((a + p) % 2) ≡ first ((b + p) % 2) = ap first (omega arith) in
    let tail : start (a + p + first ((a + p) % 2)) ss ps ≡ start (b + p + first ((b + p) % 2)) ss ps = start-parity (a + p + first ((a + p) % 2)) (b + p + first ((b + p) % 2)) ss ps (omega arith) in
    cc

odd_next : (n : ℕ) (even odd : Bool) → (n % 2 == 0) ≡ even → (suc n % 2 == 0) ≡ odd → odd ≡ not even
odd_next n true true e o = let zero : n % 2 ≡ 0 = eqb-true (n % 2) 0 e in let next : suc n % 2 ≡ 0 = eqb-true (suc n % 2) 0 o in absurd (omega arith)
odd_next n true false e o = refl
odd_next n false true e o = refl
odd_next n false false e o = let one = eqb-false (n % 2) 0 e in let next = eqb-false (suc n % 2) 0 o in absurd (omega arith)

axis : (s : Spot) (ss : List Spot) (p : ℕ) (ps : List ℕ) (b lo : ℕ) (tw even odd : Bool) → Fit s.x s.on p lo tw → odd ≡ not even → fits_all (map coarse ss) ps ≡ true → ((c : ℕ) → Walk (enter (b + p + c) ss ps) (enter (suc b + p + c) ss ps) (Within ss ps) (gray (b + p + c) ss ps) (start (b + p + c) ss ps) (start (suc b + p + c) ss ps)) → Walk (enter_along (is_other tw even lo) (λ c. enter (b + p + c) ss ps)) (enter_along (is_other tw odd lo) (λ c. enter (suc b + p + c) ss ps)) (Within (s ∷ ss) (p ∷ ps)) (split tw even lo (λ c. map (λ cs. c ∷ cs) (gray (b + p + c) ss ps))) (lead tw even lo ∷ start (b + p + lead tw even lo) ss ps) (lead tw odd lo ∷ start (suc b + p + lead tw odd lo) ss ps)
axis s ss p ps b lo false even odd h opposite fine tail =
    single s ss p ps lo (λ c. enter (b + p + c) ss ps) (λ c. enter (suc b + p + c) ss ps) (λ c. gray (b + p + c) ss ps) (λ c. start (b + p + c) ss ps) (λ c. start (suc b + p + c) ss ps)
    (omega (arith, h.least, h.below)) tail
axis s ss p ps b lo true true true h opposite fine tail = absurd (false≢true (sym opposite))
axis s ss p ps b lo true true false h opposite fine tail =
    let plane = h.plane refl in
    pair s ss p ps lo (lo + 1) (λ c. enter (b + p + c) ss ps) (λ c. enter (suc b + p + c) ss ps) (λ c. gray (b + p + c) ss ps) (λ c. start (b + p + c) ss ps) (λ c. start (suc b + p + c) ss ps)
    (λ e. omega arith) (omega (arith, h.least, h.below)) (omega (arith, h.least, plane.2)) plane.0 (inl (plane.1, plane.1))
    (start-parity (suc b + p + lo) (b + p + (lo + 1)) ss ps (omega arith)) (parents-start (b + p + (lo + 1)) ss ps fine) tail
axis s ss p ps b lo true false true h opposite fine tail =
    let plane = h.plane refl in
    pair s ss p ps (lo + 1) lo (λ c. enter (b + p + c) ss ps) (λ c. enter (suc b + p + c) ss ps) (λ c. gray (b + p + c) ss ps) (λ c. start (b + p + c) ss ps) (λ c. start (suc b + p + c) ss ps)
    (λ e. omega arith) (omega (arith, h.least, plane.2)) (omega (arith, h.least, h.below)) plane.0 (inr (plane.1, plane.1))
    (start-parity (suc b + p + (lo + 1)) (b + p + lo) ss ps (omega arith)) (parents-start (b + p + lo) ss ps fine) tail
axis s ss p ps b lo true false false h opposite fine tail = absurd (false≢true opposite)

-- the children of a cell around a point are a walk
pub gray_walk : (b : ℕ) (ss : List Spot) (ps : List ℕ) → fits_all (map coarse ss) ps ≡ true → Walk (enter b ss ps) (enter (suc b) ss ps) (Within ss ps) (gray b ss ps) (start b ss ps) (start (suc b) ss ps)
gray_walk b [] [] h = record { rest = []; is = refl; path = refl; starts = refl; ends = refl }
gray_walk b [] (p ∷ ps) h = absurd (false≢true h)
gray_walk b (s ∷ ss) [] h = absurd (false≢true h)
gray_walk b (s ∷ ss) (p ∷ ps) h =
    let both = and_parts (fits (coarse s) p) (fits_all (map coarse ss) ps) h in
    let next : suc (b + p) % 2 ≡ (suc b + p) % 2 = omega arith in
    axis s ss p ps b (low s.x s.on p) (two s.x s.on) (is_even (b + p)) (is_even (suc b + p)) (fit s.x s.on p both.0)
    (odd_next (b + p) (is_even (b + p)) (is_even (suc b + p)) refl (ap (λ (r : ℕ). r == 0) next)) both.1
    (λ c.
    let shift : suc (b + p + c) ≡ suc b + p + c = omega arith in
    let P : ℕ → Type 0 = λ n. Walk (enter (b + p + c) ss ps) (enter n ss ps) (Within ss ps) (gray (b + p + c) ss ps) (start (b + p + c) ss ps) (start n ss ps) in
    subst P shift (gray_walk (b + p + c) ss ps both.1))
