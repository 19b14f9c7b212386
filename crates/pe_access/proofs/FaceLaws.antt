-- The fastest face at a corner is that across which the cell is entered, or left.
use Rattle.std.proofs.Common.{◌≡◌, ℕ, zero, suc, ◌+◌, ◌-◌, ◌*◌, ◌/◌, ◌%◌, ◌<◌, ◌≤◌, Bool, true, false, ◌&&◌, List, [], ◌∷◌, map, length, Option, Some, None, sym, ap, ◌∙◌, refl, inl, inr, ◌⊎◌, arith}
use Rattle.std.specs.Prelude.{◌==◌, if◌then◌else◌, sum, slice_index, nat_lt, not}
use Rattle.std.specs.Option.{option_map}
use Rattle.std.proofs.lemmas.Bool.{or_cases, and_parts, eqb-true, eqb-false, eq-eqb, ne_eqb, lt-ltb, le-ltb, false≢true, cases_lt}
use Rattle.std.proofs.Math.Bool.{not-not}
use Rattle.pe_base.specs.declared.way.Way.{Way}
use Rattle.pe_base.specs.Tree.Places.{moved}
use Rattle.pe_base.specs.Steps.Routes.{way_turns}
use Rattle.pe_base.proofs.Steps.RouteLaws.{Below}
use Rattle.pe_base.proofs.Steps.AroundInCell.{Spot, fits, fits_all, coarse, two, two_on, low, low_on, other, is_even, is_other, deeper, enter, parents}
use Rattle.pe_base.proofs.Steps.Levels.{entry, or_else, fits-parents}
use Rattle.pe_base.proofs.Steps.AroundAsGrid.{spots}
use Rattle.pe_base.proofs.Steps.StackLaws.{length-parents}
use Rattle.pe_base.proofs.Tree.Corners.{same_tests}
use Rattle.pe_access.specs.declared.route.Route.TheVariants.{Temp}
use Rattle.pe_access.specs.Extents.{Face, Relation, Earlier, Later, Outside, Extent, bit_of, is_relation, root_extent, root_face, child_extent, near_face, far_face, face_at}
use Rattle.pe_access.specs.States.{route_of}
use Rattle.pe_access.proofs.Choices.{Choice, faster, fastest}
use Rattle.pe_access.proofs.ChildExtents.{child_extents, extents_of}
use Rattle.pe_access.proofs.ExtentLaws.{length-extents_of}

-- the level of a face, if its neighbour has the relation
abbrev pub mark : Relation → Face → Option ℕ
mark relation face = if is_relation face.relation relation then Some face.level else None

-- the same of the face on a point's plane
abbrev pub mark_at : Relation → ℕ → Bool → ℕ → Extent → Option ℕ
mark_at relation x false c extent = None
mark_at relation x true c extent = mark relation (if x == c then extent.near else extent.far)

abbrev pub marks : Relation → List Spot → List ℕ → List Extent → List (Option ℕ)
marks relation [] cs extents = []
marks relation (s ∷ ss) [] extents = []
marks relation (s ∷ ss) (c ∷ cs) [] = []
marks relation (s ∷ ss) (c ∷ cs) (extent ∷ extents) = mark_at relation s.x s.on c extent ∷ marks relation ss cs extents

-- the mark of the greatest level, and of equal ones the last
pub record Pick : Type 0 where
  pub axis : Option ℕ
  pub level : ℕ

abbrev pub behind : Pick → Pick
behind p = record { axis = option_map suc p.axis; level = p.level }

abbrev pub stronger : Option ℕ → Pick → Pick
stronger None p = behind p
stronger (Some level) p = if nat_lt p.level level then record { axis = Some 0; level = level } else behind p

abbrev pub pick : List (Option ℕ) → Pick
pick [] = record { axis = None; level = 0 }
pick (m ∷ ms) = stronger m (pick ms)

abbrev pub choice_of : (ℕ → ℕ) → Pick → Choice
choice_of stack p = record { route = route_of (option_map stack p.axis); level = p.level }

choice-behind : (f g : ℕ → ℕ) (p : Pick) → ((i : ℕ) → f (suc i) ≡ g i) → choice_of g p ≡ choice_of f (behind p)
choice-behind f g p same = elim (p.axis) as (λ o. (let a : Choice = record { route = route_of (option_map g o); level = p.level } in a) ≡ (let b : Choice = record { route = route_of (option_map f (option_map suc o)); level = p.level } in b)) [
  | None ↦ refl
  | Some i ↦ ap (λ (n : ℕ). let a : Choice = record { route = Temp n; level = p.level } in a) (sym (same i))
]

abbrev Bits : List ℕ → Type 0
Bits bs = Below 2 bs

-- the choice of the code is the pick among the marks
pub fastest-pick : (relation : Relation) (axis : ℕ) (bs cs : List ℕ) (extents : List Extent) → length bs ≡ length cs → length extents ≡ length cs → map (λ extent. bit_of extent.odd) extents ≡ map (λ x. x % 2) cs → fastest relation axis bs extents ≡ choice_of (λ i. 2 * (axis + i) + slice_index (moved cs bs) i % 2) (pick (marks relation (spots (moved cs bs)) cs extents))
fastest-pick relation axis [] [] extents e f odd = refl
fastest-pick relation axis [] (c ∷ cs) extents e f odd = absurd (omega arith)
fastest-pick relation axis (side ∷ bs) [] extents e f odd = absurd (omega arith)
fastest-pick relation axis (side ∷ bs) (c ∷ cs) [] e f odd = absurd (omega arith)
fastest-pick relation axis (side ∷ bs) (c ∷ cs) (extent ∷ extents) e f odd =
    let here : bit_of extent.odd ≡ c % 2 = cc in
    let rest : map (λ extent. bit_of extent.odd) extents ≡ map (λ x. x % 2) cs = cc in
    let g : ℕ → ℕ = λ i. 2 * (axis + 1 + i) + slice_index (moved cs bs) i % 2 in
    let h : ℕ → ℕ = λ i. 2 * (axis + i) + slice_index ((c + side) ∷ moved cs bs) i % 2 in
    let p = pick (marks relation (spots (moved cs bs)) cs extents) in
    let more : fastest relation (axis + 1) bs extents ≡ choice_of g p = fastest-pick relation (axis + 1) bs cs extents (omega arith) (omega arith) rest in
    let face = face_at extent side in
    let stack : 2 * axis + (bit_of extent.odd + side) % 2 ≡ h 0 = omega arith in
    let shift : choice_of g p ≡ choice_of h (behind p) = choice-behind h g p (λ i. omega arith) in
    let found : Choice = record { route = Temp (2 * axis + (bit_of extent.odd + side) % 2); level = face.level } in
    let same : found ≡ record { route = Temp (h 0); level = face.level } = ap (λ (n : ℕ). let a : Choice = record { route = Temp n; level = face.level } in a) stack in
    let side-is : (side == 0) ≡ (c + side == c) = same_tests side 0 (c + side) c (λ k. omega arith) (λ k. omega arith) in
    ap (λ b. faster relation axis side extent b) more
    ∙ elim (is_relation face.relation relation) as (λ v. (if v && nat_lt p.level face.level then found else choice_of g p) ≡ choice_of h (stronger (if v then Some face.level else None) p)) [
      | true ↦ elim (nat_lt p.level face.level) as (λ v. (if v then found else choice_of g p) ≡ choice_of h (if v then record { axis = Some 0; level = face.level } else behind p)) [ true ↦ same | false ↦ shift ]
      | false ↦ shift
    ]
    ∙ ap (λ (v : Bool). choice_of h (stronger (mark relation (if v then extent.near else extent.far)) p)) side-is

-- a walk that is turned so often meets the neighbours with the relation first
abbrev pub Sees : Relation → ℕ → ℕ → Type 0
Sees Earlier a b = b % 2 ≡ a % 2
Sees Later a b = b % 2 ≡ suc a % 2
Sees Outside a b = ⊥

even-same : (m n : ℕ) → m % 2 ≡ n % 2 → is_even m ≡ is_even n
even-same m n e = ap (λ (r : ℕ). r == 0) e

even-next : (m n : ℕ) → m % 2 ≡ suc n % 2 → is_even m ≡ not (is_even n)
even-next m n e = elim (cases_lt (n % 2) 1) [
  | inl h ↦ ne_eqb (m % 2) 0 (λ k. omega arith) ∙ ap not (sym (eq-eqb (n % 2) 0 (omega arith)))
  | inr h ↦ eq-eqb (m % 2) 0 (omega arith) ∙ ap not (sym (ne_eqb (n % 2) 0 (λ k. omega arith)))
]

near-seen : (relation : Relation) (a b : ℕ) → Sees relation a b → is_relation (if is_even a then Earlier else Later) relation ≡ is_even b
near-seen Earlier a b h = elim (is_even a) as (λ v. is_relation (if v then Earlier else Later) Earlier ≡ v) [ true ↦ refl | false ↦ refl ] ∙ even-same a b (sym h)
near-seen Later a b h = elim (is_even a) as (λ v. is_relation (if v then Earlier else Later) Later ≡ not v) [ true ↦ refl | false ↦ refl ] ∙ sym (even-next b a h)
near-seen Outside a b h = absurd h

far-seen : (relation : Relation) (a b : ℕ) → Sees relation a b → is_relation (if is_even a then Later else Earlier) relation ≡ not (is_even b)
far-seen Earlier a b h = elim (is_even a) as (λ v. is_relation (if v then Later else Earlier) Earlier ≡ not v) [ true ↦ refl | false ↦ refl ] ∙ ap not (even-same a b (sym h))
far-seen Later a b h = elim (is_even a) as (λ v. is_relation (if v then Later else Earlier) Later ≡ v) [ true ↦ refl | false ↦ refl ] ∙ sym (not-not (is_even a)) ∙ ap not (sym (even-next b a h))
far-seen Outside a b h = absurd h

-- the mark of a child's face on the point's plane: new where the point splits the parent there, or else the parent's
marked : ℕ → Bool → Option ℕ → Option ℕ
marked level t m = if t then Some level else m

other-high : (even : Bool) (lo c : ℕ) → c ≡ lo + 1 → (c == other even lo) ≡ even
other-high true lo c e = eq-eqb c (lo + 1) e
other-high false lo c e = ne_eqb c lo (λ h. omega arith)

other-low : (even : Bool) (lo c : ℕ) → c ≡ lo → (c == other even lo) ≡ not even
other-low true lo c e = ne_eqb c (lo + 1) (λ h. omega arith)
other-low false lo c e = eq-eqb c lo e

mark-new : (relation : Relation) (a b level x c : ℕ) (near : Bool) (extent : Extent) → Sees relation a b → (x % 3 ≡ 0 → ⊥) → (x ≡ c) ⊎ (x ≡ c + 1) → mark_at relation x true c (child_extent level a (c % 3) extent) ≡ (if is_other true (is_even b) (low_on true false near x) c then Some level else None)
mark-new relation a b level x c near extent sees part at =
    elim at [
      | inl e ↦
          let here : (x == c) ≡ true = eq-eqb x c e in
          let inside : (c % 3 == 0) ≡ false = ne_eqb (c % 3) 0 (λ h. part (omega arith)) in
          ap (λ v. mark relation (if v then (if c % 3 == 0 then extent.near else near_face level a) else (if c % 3 == 2 then extent.far else far_face level a))) here
          ∙ ap (λ v. mark relation (if v then extent.near else near_face level a)) inside
          ∙ ap (λ v. if v then Some level else None) (near-seen relation a b sees ∙ sym (other-high (is_even b) (x - 1) c (let positive : 0 < x = elim (cases_lt 0 x) [ inl h ↦ h | inr h ↦ absurd (part (omega arith)) ] in omega arith)))
      | inr e ↦
          let here : (x == c) ≡ false = ne_eqb x c (λ h. omega arith) in
          let inside : (c % 3 == 2) ≡ false = ne_eqb (c % 3) 2 (λ h. part (omega arith)) in
          ap (λ v. mark relation (if v then (if c % 3 == 0 then extent.near else near_face level a) else (if c % 3 == 2 then extent.far else far_face level a))) here
          ∙ ap (λ v. mark relation (if v then extent.far else far_face level a)) inside
          ∙ ap (λ v. if v then Some level else None) (far-seen relation a b sees ∙ sym (other-low (is_even b) (x - 1) c (omega arith)))
    ]

mark-old : (relation : Relation) (a level x c : ℕ) (extent : Extent) → x % 3 ≡ 0 → (x ≡ c) ⊎ (x ≡ c + 1) → mark_at relation x true c (child_extent level a (c % 3) extent) ≡ mark_at relation (x / 3) true (c / 3) extent
mark-old relation a level x c extent whole at =
    elim at [
      | inl e ↦
          let here : (x == c) ≡ true = eq-eqb x c e in
          let edge : (c % 3 == 0) ≡ true = eq-eqb (c % 3) 0 (omega arith) in
          let there : (x / 3 == c / 3) ≡ true = eq-eqb (x / 3) (c / 3) (omega arith) in
          ap (λ v. mark relation (if v then (if c % 3 == 0 then extent.near else near_face level a) else (if c % 3 == 2 then extent.far else far_face level a))) here
          ∙ ap (λ v. mark relation (if v then extent.near else near_face level a)) edge
          ∙ ap (λ v. mark relation (if v then extent.near else extent.far)) (sym there)
      | inr e ↦
          let here : (x == c) ≡ false = ne_eqb x c (λ h. omega arith) in
          let edge : (c % 3 == 2) ≡ true = eq-eqb (c % 3) 2 (omega arith) in
          let there : (x / 3 == c / 3) ≡ false = ne_eqb (x / 3) (c / 3) (λ h. omega arith) in
          ap (λ v. mark relation (if v then (if c % 3 == 0 then extent.near else near_face level a) else (if c % 3 == 2 then extent.far else far_face level a))) here
          ∙ ap (λ v. mark relation (if v then extent.far else far_face level a)) edge
          ∙ ap (λ v. mark relation (if v then extent.near else extent.far)) (sym there)
    ]

mark-on : (relation : Relation) (a b level x c : ℕ) (whole near : Bool) (extent : Extent) → (x % 3 == 0) ≡ whole → Sees relation a b → (x ≡ c) ⊎ (x ≡ c + 1) → mark_at relation x true c (child_extent level a (c % 3) extent) ≡ marked level (is_other (two_on true whole) (is_even b) (low_on true whole near x) c) (mark_at relation (x / 3) whole (c / 3) extent)
unfolding marked
mark-on relation a b level x c true near extent w sees at = mark-old relation a level x c extent (eqb-true (x % 3) 0 w) at
mark-on relation a b level x c false near extent w sees at = mark-new relation a b level x c near extent sees (eqb-false (x % 3) 0 w) at

mark-child : (relation : Relation) (a b level x c : ℕ) (on : Bool) (extent : Extent) → Sees relation a b → fits (record { x = x; on = on }) c ≡ true → mark_at relation x on c (child_extent level a (c % 3) extent) ≡ marked level (is_other (two x on) (is_even b) (low x on (c / 3)) c) (mark_at relation (x / 3) (on && x % 3 == 0) (c / 3) extent)
unfolding marked
mark-child relation a b level x c false extent sees h = refl
mark-child relation a b level x c true extent sees h =
    let at : (x ≡ c) ⊎ (x ≡ c + 1) = elim (or_cases (x == c) (x == c + 1) h) [ inl e ↦ inl (eqb-true x c e) | inr e ↦ inr (eqb-true x (c + 1) e) ] in
    mark-on relation a b level x c (x % 3 == 0) (x == 3 * (c / 3)) extent refl sees at

-- marks of no greater level
abbrev pub LowMark : ℕ → Option ℕ → Type 0
LowMark level None = Unit
LowMark level (Some n) = n ≤ level

abbrev pub LowMarks : ℕ → List (Option ℕ) → Type 0
LowMarks level [] = Unit
LowMarks level (m ∷ ms) = LowMark level m × LowMarks level ms

stronger-low : (level : ℕ) (m : Option ℕ) (p : Pick) → LowMark level m → p.level ≤ level → (stronger m p).level ≤ level
stronger-low level None p h k = k
stronger-low level (Some n) p h k = elim (nat_lt p.level n) as (λ v. (if v then (let a : Pick = record { axis = Some 0; level = n } in a) else behind p).level ≤ level) [ true ↦ h | false ↦ k ]

pick-low : (level : ℕ) (ms : List (Option ℕ)) → LowMarks level ms → (pick ms).level ≤ level
pick-low level [] h = omega arith
pick-low level (m ∷ ms) h = stronger-low level m (pick ms) h.0 (pick-low level ms h.1)

-- a child is entered inside its parent, or else as the parent is
abbrev pub joined : ℕ → Option ℕ → Pick → Pick
joined level (Some axis) p = record { axis = Some axis; level = level }
joined level None p = p

step-pick : (level : ℕ) (inner : Option ℕ) (t : Bool) (m : Option ℕ) (p : Pick) → LowMark level m → p.level ≤ level → stronger (marked (suc level) t m) (joined (suc level) inner p) ≡ joined (suc level) (deeper inner t) (stronger m p)
unfolding marked
step-pick level (Some i) true m p h k = ap (λ v. if v then (let a : Pick = record { axis = Some 0; level = suc level } in a) else (record { axis = Some (suc i); level = suc level })) (le-ltb (suc level) (suc level) (omega arith))
step-pick level (Some i) false None p h k = refl
step-pick level (Some i) false (Some n) p h k = ap (λ v. if v then (let a : Pick = record { axis = Some 0; level = n } in a) else (record { axis = Some (suc i); level = suc level })) (le-ltb (suc level) n (omega arith))
step-pick level None true m p h k = ap (λ v. if v then (let a : Pick = record { axis = Some 0; level = suc level } in a) else behind p) (lt-ltb p.level (suc level) (omega arith))
step-pick level None false m p h k = refl

sees-next : (relation : Relation) (a b c : ℕ) → Sees relation a b → Sees relation (a + c % 3) (b + c / 3 + c)
sees-next Earlier a b c h = omega arith
sees-next Later a b c h = omega arith
sees-next Outside a b c h = h

sees-at : (relation : Relation) (a b c : ℕ) → Sees relation a b → Sees relation (a + c) (b + c)
sees-at Earlier a b c h = omega arith
sees-at Later a b c h = omega arith
sees-at Outside a b c h = h

pick-child : (relation : Relation) (level a b : ℕ) (ss : List Spot) (cs : List ℕ) (extents : List Extent) → Sees relation a b → fits_all ss cs ≡ true → length extents ≡ length cs → LowMarks level (marks relation (map coarse ss) (parents cs) extents) → pick (marks relation ss cs (child_extents (suc level) a (parents cs) cs extents)) ≡ joined (suc level) (enter b ss (parents cs) cs) (pick (marks relation (map coarse ss) (parents cs) extents))
pick-child relation level a b [] [] extents sees h e small = refl
pick-child relation level a b [] (c ∷ cs) extents sees h e small = absurd (false≢true h)
pick-child relation level a b (s ∷ ss) [] extents sees h e small = absurd (false≢true h)
pick-child relation level a b (s ∷ ss) (c ∷ cs) [] sees h e small = absurd (omega arith)
pick-child relation level a b (s ∷ ss) (c ∷ cs) (extent ∷ extents) sees h e small =
    let both = and_parts (fits s c) (fits_all ss cs) h in
    let p = c / 3 in
    let above = marks relation (map coarse ss) (parents cs) extents in
    let t = is_other (two s.x s.on) (is_even (b + p)) (low s.x s.on p) c in
    let m = mark_at relation (s.x / 3) (s.on && s.x % 3 == 0) p extent in
    let inner = enter (b + p + c) ss (parents cs) cs in
    let head : mark_at relation s.x s.on c (child_extent (suc level) (a + p) (c % 3) extent) ≡ marked (suc level) t m = mark-child relation (a + p) (b + p) (suc level) s.x c s.on extent (sees-at relation a b p sees) both.0 in
    let tail : pick (marks relation ss cs (child_extents (suc level) (a + c % 3) (parents cs) cs extents)) ≡ joined (suc level) inner (pick above) = pick-child relation level (a + c % 3) (b + p + c) ss cs extents (sees-next relation a b c sees) both.1 (omega arith) small.1 in
    ap (λ n. stronger n (pick (marks relation ss cs (child_extents (suc level) (a + c % 3) (parents cs) cs extents)))) head
    ∙ ap (stronger (marked (suc level) t m)) tail
    ∙ step-pick level inner t m (pick above) small.0 (pick-low level above small.1)

-- extents whose faces appeared on no greater level
LowExtents : ℕ → List Extent → Type 0
LowExtents level [] = Unit
LowExtents level (extent ∷ extents) = (extent.near.level ≤ level) × (extent.far.level ≤ level) × LowExtents level extents

if-low : (v : Bool) (a b : Face) (level : ℕ) → a.level ≤ level → b.level ≤ level → (if v then a else b).level ≤ level
if-low true a b level h k = h
if-low false a b level h k = k

child_extents-low : (level turns : ℕ) (ps xs : List ℕ) (extents : List Extent) → LowExtents level extents → LowExtents (suc level) (child_extents (suc level) turns ps xs extents)
unfolding LowExtents
child_extents-low level turns [] xs extents h = tt
child_extents-low level turns (p ∷ ps) [] extents h = tt
child_extents-low level turns (p ∷ ps) (x ∷ xs) [] h = tt
child_extents-low level turns (p ∷ ps) (x ∷ xs) (extent ∷ extents) h =
    let near = h.0 in
    let far = h.1 in
    (if-low (x % 3 == 0) extent.near (near_face (suc level) (turns + p)) (suc level) (omega arith) (omega arith), if-low (x % 3 == 2) extent.far (far_face (suc level) (turns + p)) (suc level) (omega arith) (omega arith), child_extents-low level (turns + x % 3) ps xs extents h.2)

extents_of-low : (way : Way) (level : ℕ) (pos : List ℕ) → LowExtents level (extents_of way level pos)
unfolding LowExtents
extents_of-low way zero [] = tt
extents_of-low way zero (x ∷ pos) = (omega arith, omega arith, extents_of-low way zero pos)
extents_of-low way (suc level) pos = child_extents-low level (way_turns way + sum (parents pos)) (parents pos) pos (extents_of way level (parents pos)) (extents_of-low way level (parents pos))

mark-low : (relation : Relation) (face : Face) (level : ℕ) → face.level ≤ level → LowMark level (mark relation face)
mark-low relation face level h = elim (is_relation face.relation relation) as (λ v. LowMark level (if v then Some face.level else None)) [ true ↦ h | false ↦ tt ]

mark_at-low : (relation : Relation) (x : ℕ) (on : Bool) (c : ℕ) (extent : Extent) (level : ℕ) → extent.near.level ≤ level → extent.far.level ≤ level → LowMark level (mark_at relation x on c extent)
mark_at-low relation x false c extent level h k = tt
mark_at-low relation x true c extent level h k = mark-low relation (if x == c then extent.near else extent.far) level (if-low (x == c) extent.near extent.far level h k)

marks-low : (relation : Relation) (level : ℕ) (ss : List Spot) (cs : List ℕ) (extents : List Extent) → LowExtents level extents → LowMarks level (marks relation ss cs extents)
unfolding LowExtents
marks-low relation level [] cs extents h = tt
marks-low relation level (s ∷ ss) [] extents h = tt
marks-low relation level (s ∷ ss) (c ∷ cs) [] h = tt
marks-low relation level (s ∷ ss) (c ∷ cs) (extent ∷ extents) h = (mark_at-low relation s.x s.on c extent level h.0 h.1, marks-low relation level ss cs extents h.2)

-- no face of the root has a neighbour
root-mark : (relation : Relation) (x : ℕ) (on : Bool) (c : ℕ) (a b : ℕ) → Sees relation a b → mark_at relation x on c root_extent ≡ None
root-mark relation x false c a b h = refl
root-mark Earlier x true c a b h = elim (x == c) as (λ v. mark Earlier (if v then root_face else root_face) ≡ None) [ true ↦ refl | false ↦ refl ]
root-mark Later x true c a b h = elim (x == c) as (λ v. mark Later (if v then root_face else root_face) ≡ None) [ true ↦ refl | false ↦ refl ]
root-mark Outside x true c a b h = absurd h

root-pick : (relation : Relation) (a b : ℕ) → Sees relation a b → (ss : List Spot) (cs : List ℕ) → (pick (marks relation ss cs (map (λ x. root_extent) cs))).axis ≡ None
root-pick relation a b h [] cs = refl
root-pick relation a b h (s ∷ ss) [] = refl
root-pick relation a b h (s ∷ ss) (c ∷ cs) =
    let p = pick (marks relation ss cs (map (λ x. root_extent) cs)) in
    ap (λ m. (stronger m p).axis) (root-mark relation s.x s.on c a b h) ∙ ap (option_map suc) (root-pick relation a b h ss cs)

joined-axis : (level : ℕ) (inner : Option ℕ) (p : Pick) → (joined level inner p).axis ≡ or_else inner p.axis
joined-axis level None p = refl
joined-axis level (Some i) p = refl

-- the pick among a cell's faces is the axis across which it is entered, or left
pub pick-entry : (relation : Relation) (way : Way) (b level : ℕ) → Sees relation (way_turns way) b → (ss : List Spot) (cs : List ℕ) → fits_all ss cs ≡ true → (pick (marks relation ss cs (extents_of way level cs))).axis ≡ entry b level ss cs
pick-entry relation way b zero sees ss cs h = root-pick relation (way_turns way) b sees ss cs
pick-entry relation way b (suc level) sees ss cs h =
    let ps = parents cs in
    let a = way_turns way in
    let extents = extents_of way level ps in
    let above = pick (marks relation (map coarse ss) ps extents) in
    ap (λ p. p.axis) (pick-child relation level (a + sum ps) (b + sum ps) ss cs extents (sees-at relation a b (sum ps) sees) h (length-extents_of way level ps ∙ length-parents cs) (marks-low relation level (map coarse ss) ps extents (extents_of-low way level ps)))
    ∙ joined-axis (suc level) (enter (b + sum ps) ss ps cs) above
    ∙ ap (or_else (enter (b + sum ps) ss ps cs)) (pick-entry relation way b level sees (map coarse ss) ps (fits-parents ss cs h))
