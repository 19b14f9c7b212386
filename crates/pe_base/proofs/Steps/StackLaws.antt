-- The stacks by which a vertex goes, by how its cells are entered and left.
use Rattle.std.proofs.Common.{◌≡◌, ℕ, zero, suc, ◌+◌, ◌-◌, ◌*◌, ◌/◌, ◌%◌, ◌^◌, ◌<◌, ◌≤◌, Bool, true, false, ◌&&◌, List, [], ◌∷◌, ◌++◌, map, length, Option, Some, None, sym, ap, ◌∙◌, subst, refl, inl, inr, ◌⊎◌, arith, pow-suc}
use Rattle.std.specs.Prelude.{◌==◌, if◌then◌else◌, find, sum, replicate}
use Rattle.std.specs.List.{zip, AllByRecursion as Each}
use Rattle.std.specs.Option.{option_map}
use Rattle.std.proofs.lemmas.Bool.{and_parts, eq-eqb, false≢true, cases_Bool}
use Rattle.pe_base.specs.declared.place.Place.{Place}
use Rattle.pe_base.specs.declared.way.Way.{Way}
use Rattle.pe_base.specs.Tree.Places.{padded, at, is_same, is_same_pos}
use Rattle.pe_base.specs.Tree.Curve.{mirrored}
use Rattle.pe_base.specs.Steps.Routes.{way_turns, axis_of, waiting_stack, stack_in, stack_out}
use Rattle.pe_base.proofs.Lists.{Each-weaker, Each-filter, In, In-append_left, In-append_right, In-map, In-flat_map, In-filter}
use Rattle.pe_base.proofs.Tree.Ranks.{same_list}
use Rattle.pe_base.proofs.Steps.VertexTouches.{pos_itself}
use Rattle.pe_base.proofs.Steps.Walks.{Path}
use Rattle.pe_base.proofs.Steps.AroundInCell.{Spot, fits_all, Crosses, parents, is_even}
use Rattle.pe_base.proofs.Steps.Levels.{kids, cells, holders, entry}
use Rattle.pe_base.proofs.Steps.AroundAsGrid.{spots, cells-long}
use Rattle.pe_base.proofs.Steps.RouteLaws.{Below, round_at, steps-round, axis_of-step}

-- every cell is a child of its parent
third-digit : (p c t : ℕ) (even : Bool) → c / 3 ≡ p → t ≡ c % 3 → 3 * p + (if even then (if even then t else (2 - t)) else (2 - (if even then t else (2 - t)))) ≡ c
third-digit p c t true e k = omega arith
third-digit p c t false e k = omega arith

digit-below : (t : ℕ) (even : Bool) → t < 3 → (if even then t else (2 - t)) < 3
digit-below t true h = h
digit-below t false h = omega arith

pick : {X : Type 0} (x : X) (f : ℕ → List X) (t : ℕ) → t < 3 → In x (f t) → In x (f 0 ++ (f 1 ++ (f 2 ++ [])))
pick x f zero h m = In-append_left x (f 0) _ m
pick x f (suc zero) h m = In-append_right x (f 0) _ (In-append_left x (f 1) _ m)
pick x f (suc (suc zero)) h m = In-append_right x (f 0) _ (In-append_right x (f 1) _ (In-append_left x (f 2) [] m))
pick x f (suc (suc (suc t))) h m = absurd (omega arith)

In-kids : (b : ℕ) (cs : List ℕ) → In cs (kids b (parents cs))
In-kids b [] = inl refl
In-kids b (c ∷ cs) =
    let p = c / 3 in
    let even = is_even (b + p) in
    let t = if even then c % 3 else (2 - c % 3) in
    let child : ℕ → ℕ = λ t. 3 * p + mirrored (b + p) t in
    let here : child t ≡ c = third-digit p c (c % 3) even refl refl in
    let M : ℕ → Type 0 = λ c. In (c ∷ cs) (map (λ cs. child t ∷ cs) (kids (b + t) (parents cs))) in
    pick (c ∷ cs) (λ t. map (λ cs. child t ∷ cs) (kids (b + t) (parents cs))) t (digit-below (c % 3) even (omega arith))
    (subst M here (In-map (λ cs. child t ∷ cs) cs (kids (b + t) (parents cs)) (In-kids (b + t) cs)))

pub Below-parents : (bound : ℕ) (cs : List ℕ) → Below (3 * bound) cs → Below bound (parents cs)
Below-parents bound [] h = tt
Below-parents bound (c ∷ cs) h = (let b = h.0 in omega arith, Below-parents bound cs h.1)

pub length-parents : (cs : List ℕ) → length (parents cs) ≡ length cs
length-parents [] = refl
length-parents (c ∷ cs) = ap suc (length-parents cs)

zeros-below : (n : ℕ) (cs : List ℕ) → length cs ≡ n → Below 1 cs → replicate n 0 ≡ cs
zeros-below zero [] e h = refl
zeros-below (suc n) [] e h = absurd (omega arith)
zeros-below zero (c ∷ cs) e h = absurd (omega arith)
zeros-below (suc n) (c ∷ cs) e h =
    let b = h.0 in
    let head : 0 ≡ c = omega arith in
    let tail : replicate n 0 ≡ cs = zeros-below n cs (omega arith) h.1 in
    cc

-- every position is in the order
pub In-cells : (axes w level : ℕ) (cs : List ℕ) → length cs ≡ axes → Below (3 ^ level) cs → In cs (cells axes w level)
In-cells axes w zero cs e h = inl (sym (zeros-below axes cs e h))
In-cells axes w (suc level) cs e h =
    let P : ℕ → Type 0 = λ b. Below b cs in
    let bound : 3 ^ suc level ≡ 3 * 3 ^ level = omega (arith, pow-suc 3 level) in
    In-flat_map (λ ps. kids (w + sum ps) ps) (parents cs) cs (cells axes w level)
    (In-cells axes w level (parents cs) (length-parents cs ∙ e) (Below-parents (3 ^ level) cs (subst P bound h)))
    (In-kids (w + sum (parents cs)) cs)

append_same : (us vs xs ys : List ℕ) → length us ≡ length vs → us ++ xs ≡ vs ++ ys → us ≡ vs
append_same [] [] xs ys e h = refl
append_same [] (v ∷ vs) xs ys e h = absurd (omega arith)
append_same (u ∷ us) [] xs ys e h = absurd (omega arith)
append_same (u ∷ us) (v ∷ vs) xs ys e h =
    let head : u ≡ v = cc in
    let rest : us ++ xs ≡ vs ++ ys = cc in
    let tail : us ≡ vs = append_same us vs xs ys (omega arith) rest in
    cc

same-at : (level : ℕ) (us vs : List ℕ) → length us ≡ length vs → is_same (at level us) (at level vs) ≡ true → us ≡ vs
same-at level us vs e h =
    let both = and_parts (level == level) (is_same_pos (padded us) (padded vs)) h in
    append_same us vs (replicate (4 - length us) 0) (replicate (4 - length vs) 0) e (same_list (padded us) (padded vs) both.1)

is_same-at : (level : ℕ) (us vs : List ℕ) → us ≡ vs → is_same (at level us) (at level vs) ≡ true
is_same-at level us vs e =
    ap (λ (xs : List ℕ). is_same (at level us) (at level xs)) (sym e) ∙ ap (λ v. v && is_same_pos (padded us) (padded us)) (eq-eqb level level refl) ∙ pos_itself (padded us)

-- the step that ends at a cell crosses the axis across which the cell is entered
find-to : (f g : List ℕ → Option ℕ) (ss : List Spot) (level n : ℕ) (c a : List ℕ) (xs : List (List ℕ)) (z : List ℕ) → length c ≡ n → Each (λ x. length x ≡ n) (a ∷ xs) → Path f g (Crosses ss) a xs z → In c xs ⊎ (f c ≡ None) → option_map axis_of (find (λ step. is_same step.1 (at level c)) (zip (map (at level) (a ∷ xs)) (map (at level) xs))) ≡ f c
find-to f g ss level n c a [] z e long path m = elim m [ inl k ↦ absurd (omega arith) | inr k ↦ sym k ]
find-to f g ss level n c a (b ∷ xs) z e long path m =
    let test : Place × Place → Bool = λ step. is_same step.1 (at level c) in
    let rest = zip (map (at level) (b ∷ xs)) (map (at level) xs) in
    let here : length b ≡ n = long.1.0 in
    elim (cases_Bool (is_same (at level b) (at level c))) [
      | inl t ↦
          let same : b ≡ c = same-at level b c (here ∙ sym e) t in
          ap (λ v. option_map axis_of (if v then Some (at level a, at level b) else find test rest)) t
          ∙ ap Some (axis_of-step ss level path.0.axis a b path.0.crosses) ∙ sym path.0.entered ∙ ap f same
      | inr t ↦
          let left : In c xs ⊎ (f c ≡ None) = elim m [
            | inl k ↦ elim k [ inl q ↦ absurd (false≢true (sym t ∙ is_same-at level b c (sym q))) | inr q ↦ inl q ]
            | inr k ↦ inr k
          ] in
          ap (λ v. option_map axis_of (if v then Some (at level a, at level b) else find test rest)) t
          ∙ find-to f g ss level n c b xs z e long.1 path.1 left
    ]

-- the step that begins at a cell crosses the axis across which the cell is left
find-from : (f g : List ℕ → Option ℕ) (ss : List Spot) (level n : ℕ) (c a : List ℕ) (xs : List (List ℕ)) (z : List ℕ) → length c ≡ n → Each (λ x. length x ≡ n) (a ∷ xs) → Path f g (Crosses ss) a xs z → g z ≡ None → In c (a ∷ xs) → option_map axis_of (find (λ step. is_same step.0 (at level c)) (zip (map (at level) (a ∷ xs)) (map (at level) xs))) ≡ g c
find-from f g ss level n c a [] z e long path last m = elim m [ inl k ↦ sym last ∙ ap g (sym path ∙ sym k) | inr k ↦ absurd (omega arith) ]
find-from f g ss level n c a (b ∷ xs) z e long path last m =
    let test : Place × Place → Bool = λ step. is_same step.0 (at level c) in
    let rest = zip (map (at level) (b ∷ xs)) (map (at level) xs) in
    let here : length a ≡ n = long.0 in
    elim (cases_Bool (is_same (at level a) (at level c))) [
      | inl t ↦
          let same : a ≡ c = same-at level a c (here ∙ sym e) t in
          ap (λ v. option_map axis_of (if v then Some (at level a, at level b) else find test rest)) t
          ∙ ap Some (axis_of-step ss level path.0.axis a b path.0.crosses) ∙ sym path.0.left ∙ ap g same
      | inr t ↦
          let left : In c (b ∷ xs) = elim m [ inl q ↦ absurd (false≢true (sym t ∙ is_same-at level a c (sym q))) | inr q ↦ q ] in
          ap (λ v. option_map axis_of (if v then Some (at level a, at level b) else find test rest)) t
          ∙ find-from f g ss level n c b xs z e long.1 path.1 last left
    ]

option_map-both : {A B C : Type 0} (g : B → C) (f : A → B) (o : Option A) → option_map (λ x. g (f x)) o ≡ option_map g (option_map f o)
option_map-both g f None = refl
option_map-both g f (Some x) = refl

abbrev pub turns_back : Way → ℕ
turns_back way = suc (way_turns way)

-- what is known of a vertex and one of its cells
pub record Touches (axes level : ℕ) (qs cs : List ℕ) : Type 0 where
  pub few : axes ≤ 4
  pub vertex : length qs ≡ axes
  pub cell : length cs ≡ axes
  pub inside : Below (3 ^ level) qs
  pub room : Below (3 ^ level) cs
  pub corner : fits_all (spots qs) cs ≡ true

In-holders : (axes w level : ℕ) (qs cs : List ℕ) → Touches axes level qs cs → In cs (holders axes w level (spots qs))
In-holders axes w level qs cs h = In-filter (fits_all (spots qs)) cs (cells axes w level) h.corner (In-cells axes w level cs h.cell h.room)

pub stack_in-entry : (axes level : ℕ) (way : Way) (qs cs : List ℕ) → Touches axes level qs cs → stack_in axes way (at level qs) (at level cs) ≡ option_map (waiting_stack (at level qs)) (entry (way_turns way) level (spots qs) cs)
stack_in-entry axes level way qs cs h =
    let w = way_turns way in
    let r = round_at axes w level qs h.vertex h.inside in
    let M : List (List ℕ) → Type 0 = λ xs. In cs xs in
    let L : List (List ℕ) → Type 0 = λ xs. Each (λ x. length x ≡ axes) xs in
    let long : Each (λ x. length x ≡ axes) (r.first ∷ r.walk.rest) = subst L r.walk.is (Each-weaker _ (λ x. length x ≡ axes) (λ x h. h.0) _ (Each-filter (λ x. length x ≡ axes) (fits_all (spots qs)) (cells axes w level) (cells-long axes w level))) in
    let member : In cs (r.first ∷ r.walk.rest) = subst M r.walk.is (In-holders axes w level qs cs h) in
    let left : In cs r.walk.rest ⊎ (entry w level (spots qs) cs ≡ None) = elim member [ inl e ↦ inr (ap (entry w level (spots qs)) e ∙ r.walk.starts) | inr m ↦ inl m ] in
    ap (λ xs. option_map (λ step. waiting_stack (at level qs) (axis_of step)) (find (λ step. is_same step.1 (at level cs)) xs)) (steps-round axes level way qs h.vertex h.few r)
    ∙ option_map-both (waiting_stack (at level qs)) axis_of _
    ∙ ap (option_map (waiting_stack (at level qs))) (find-to (entry w level (spots qs)) (entry (suc w) level (spots qs)) (spots qs) level axes cs r.first r.walk.rest r.last h.cell long r.walk.path left)

pub stack_out-entry : (axes level : ℕ) (way : Way) (qs cs : List ℕ) → Touches axes level qs cs → stack_out axes way (at level qs) (at level cs) ≡ option_map (waiting_stack (at level qs)) (entry (turns_back way) level (spots qs) cs)
stack_out-entry axes level way qs cs h =
    let w = way_turns way in
    let r = round_at axes w level qs h.vertex h.inside in
    let M : List (List ℕ) → Type 0 = λ xs. In cs xs in
    let L : List (List ℕ) → Type 0 = λ xs. Each (λ x. length x ≡ axes) xs in
    let long : Each (λ x. length x ≡ axes) (r.first ∷ r.walk.rest) = subst L r.walk.is (Each-weaker _ (λ x. length x ≡ axes) (λ x h. h.0) _ (Each-filter (λ x. length x ≡ axes) (fits_all (spots qs)) (cells axes w level) (cells-long axes w level))) in
    let member : In cs (r.first ∷ r.walk.rest) = subst M r.walk.is (In-holders axes w level qs cs h) in
    ap (λ xs. option_map (λ step. waiting_stack (at level qs) (axis_of step)) (find (λ step. is_same step.0 (at level cs)) xs)) (steps-round axes level way qs h.vertex h.few r)
    ∙ option_map-both (waiting_stack (at level qs)) axis_of _
    ∙ ap (option_map (waiting_stack (at level qs))) (find-from (entry w level (spots qs)) (entry (suc w) level (spots qs)) (spots qs) level axes cs r.first r.walk.rest r.last h.cell long r.walk.path r.walk.ends member)
