-- Two blocks of the children of a cell that meet at a plane of a stack.
use Rattle.std.specs.List.{AllByRecursion as Each}
use Rattle.std.proofs.Common.{◌≡◌, ◌≢◌, ℕ, zero, suc, ◌+◌, ◌-◌, ◌*◌, ◌%◌, ◌^◌, ◌<◌, ◌≤◌, ◌⊎◌, Bool, ◌==◌, List, [], ◌∷◌, ◌++◌, length, slice_index, replicate, refl, sym, ap, ap₂, ◌∙◌, subst, inl, inr, arith}
use Rattle.std.proofs.lemmas.Bool.{ne_eqb, eq-eqb}
use Rattle.pe_base.specs.declared.place.Place.{Place}
use Rattle.pe_base.specs.declared.way.Way.{Way}
use Rattle.pe_base.specs.Tree.Curve.{mirrored}
use Rattle.pe_base.specs.Steps.Faces.{across, face_on, is_touched, arriving, leaving, child_stretch}
use Rattle.pe_base.proofs.Tree.Mirrors.{Digits3, complement, complement_below, mirrored_even, mirrored_odd, even_or_odd, turns_at, turned-at, turned_next-even, turned_next-odd, Each-digits}
use Rattle.pe_base.proofs.Tree.Children.{flips_in, length-flips, child_of, child_ks, child_index}
use Rattle.pe_base.proofs.Faces.FaceLists.{face_of, up_cell, is_child_at, across-up, leaving-up, leaving-down}
use Rattle.pe_base.proofs.Tree.Ranks.{value, rank_of, rank-child, child_four}
use Rattle.pe_base.proofs.Faces.Quiet.{Earlier, arriving_none, leaving_none, value-below}
use Rattle.pe_base.proofs.Faces.Blocks.{Lists, Touching, Meet}
use Rattle.pe_base.proofs.Faces.Waits.{InTree, child_in_tree, arriving_apart, leaving_apart}

digits_behind : (us : List ℕ) (t m n : ℕ) (ts : List ℕ) → n ≡ length us + suc m → Each (λ u. u < 3) us → t < 3 → Digits3 m ts → Digits3 n (us ++ t ∷ ts)
digits_behind [] t m zero ts e d b s = absurd (omega arith)
digits_behind [] t m (suc n) ts e d b s = (b, subst (λ k. Digits3 k ts) (let k : m ≡ n = omega arith in k) s)
digits_behind (u ∷ us) t m zero ts e d b s = absurd (omega arith)
digits_behind (u ∷ us) t m (suc n) ts e d b s = (d.0, digits_behind us t m n ts (omega arith) d.1 b s)

complement_twice : (n : ℕ) (ts : List ℕ) → Digits3 n ts → complement (complement ts) ≡ ts
complement_twice zero [] d = refl
complement_twice zero (t ∷ ts) d = absurd (omega arith)
complement_twice (suc n) [] d = absurd (omega arith)
complement_twice (suc n) (t ∷ ts) d = ap₂ (λ x xs. x ∷ xs) (omega (arith, d.0)) (complement_twice n ts d.1)

-- behind the same digits, a greater digit makes a greater number
value_next : (us : List ℕ) (t m n : ℕ) (ts ss : List ℕ) → n ≡ length us + suc m → Digits3 m ts → value n (us ++ t ∷ ts) < value n (us ++ (t + 1) ∷ ss)
value_next [] t m zero ts ss e d = absurd (omega arith)
value_next [] t m (suc n) ts ss e d = omega (arith, value-below n ts (Each-digits m ts d))
value_next (u ∷ us) t m zero ts ss e d = absurd (omega arith)
value_next (u ∷ us) t m (suc n) ts ss e d = omega (arith, value_next us t m n ts ss (omega arith) d)

-- behind the same digits, the greater rest makes the greater number
value_inside : (us : List ℕ) (t m n : ℕ) (xs ys : List ℕ) → n ≡ length us + suc m → value m xs < value m ys → value n (us ++ t ∷ xs) < value n (us ++ t ∷ ys)
value_inside [] t m zero xs ys e r = absurd (omega arith)
value_inside [] t m (suc n) xs ys e r = let k : value n xs < value n ys = subst (λ j. value j xs < value j ys) (let q : m ≡ n = omega arith in q) r in omega arith
value_inside (u ∷ us) t m zero xs ys e r = absurd (omega arith)
value_inside (u ∷ us) t m (suc n) xs ys e r = omega (arith, value_inside us t m n xs ys (omega arith) r)

-- two children that meet at a plane of a stack, the first one earlier
abbrev Meeting : ℕ → ℕ → Place → Place → Type 0
Meeting axis parity first second =
    ((second ≡ up_cell axis first) × (face_on axis parity first ≡ face_of axis 1) × (face_on axis parity second ≡ face_of axis 0))
    ⊎ ((first ≡ up_cell axis second) × (face_on axis parity first ≡ face_of axis 0) × (face_on axis parity second ≡ face_of axis 1))

meeting-across : (axis parity : ℕ) (first second : Place) → Meeting axis parity first second → (across (face_on axis parity first) first ≡ second) × (across (face_on axis parity second) second ≡ first)
meeting-across axis parity first second m = elim m [
  | inl h ↦ (ap (λ f. across f first) h.1 ∙ sym h.0, ap₂ across h.2 h.0 ∙ across-up axis first)
  | inr h ↦ (ap₂ across h.1 h.0 ∙ across-up axis second, ap (λ f. across f second) h.2 ∙ sym h.0)
]

meeting-agree : (axes : ℕ) (way : Way) (counts : Place → Bool) (levels axis parity : ℕ) (first second : Place) → axes ≤ 4 → axis < axes → axes ≤ length first.pos → axes ≤ length second.pos → Meeting axis parity first second
    → leaving axes way counts levels (face_on axis parity first) first ≡ arriving axes way counts levels (face_on axis parity second) second
meeting-agree axes way counts levels axis parity first second four a l k m = elim m [
  | inl h ↦ ap (λ f. leaving axes way counts levels f first) h.1 ∙ leaving-up axes way counts levels axis first four a l ∙ sym (ap₂ (arriving axes way counts levels) h.2 h.0)
  | inr h ↦ ap₂ (leaving axes way counts levels) h.1 h.0 ∙ leaving-down axes way counts levels axis second four a k ∙ sym (ap (λ f. arriving axes way counts levels f second) h.2)
]

-- the digit of a child on an axis, behind some digits along the curve
digit_behind : (axes : ℕ) (way : Way) (cell : Place) (us : List ℕ) (t : ℕ) (ts : List ℕ) → Digits3 axes (us ++ t ∷ ts)
    → slice_index (child_ks axes way cell (us ++ t ∷ ts)) (length us) ≡ mirrored (turns_at (flips_in axes way cell.pos) 0 us) t
digit_behind axes way cell us t ts d = turned-at (flips_in axes way cell.pos) 0 axes us t ts (length-flips axes way cell.pos) d

-- the side of a child's face on a stack
child_side : (p k q b : ℕ) → q ≡ 3 * p + k → (q + b) % 2 ≡ (p + k + b) % 2
child_side p k q b e = omega arith

module _ (axes : ℕ) (way : Way) (counts : Place → Bool) (levels parity level : ℕ) (cell : Place) (four : axes ≤ 4) (on : cell.level ≡ level) (l : length cell.pos ≡ 4) (tree : InTree axes way cell) (us : List ℕ) (m : ℕ) (within : axes ≡ length us + suc m) (below : Each (λ u. u < 3) us) where
  abbrev axis : ℕ
  axis = length us

  abbrev turns : ℕ
  turns = turns_at (flips_in axes way cell.pos) 0 us

  abbrev side : ℕ
  side = (slice_index cell.pos axis + parity) % 2

  abbrev child : ℕ → List ℕ → Place
  child t ts = child_of axes way cell (us ++ t ∷ ts)

  abbrev takes : Lists
  takes ts = (child_stretch axes way counts levels axis parity (child_of axes way cell (us ++ ts))).takes

  abbrev gives : Lists
  gives ts = (child_stretch axes way counts levels axis parity (child_of axes way cell (us ++ ts))).gives

  abbrev touches : Touching
  touches ts = is_touched axes way levels (child_of axes way cell (us ++ ts))

  abbrev outer : List ℕ → Bool
  outer ts = is_child_at axes way cell (face_on axis parity cell) (us ++ ts)

  whole : (t : ℕ) (ts : List ℕ) → t < 3 → Digits3 m ts → Digits3 axes (us ++ t ∷ ts)
  whole t ts b d = digits_behind us t m axes ts within below b d

  -- a child's face on the stack, by its digit along the curve
  face_behind : (t s : ℕ) (ts : List ℕ) → t < 3 → Digits3 m ts → (slice_index cell.pos axis + mirrored turns t + parity) % 2 ≡ s → face_on axis parity (child t ts) ≡ face_of axis s
  face_behind t s ts b d h = ap (face_of axis) (child_side (slice_index cell.pos axis) (mirrored turns t) (slice_index (child t ts).pos axis) parity
      (child_index axes way cell (us ++ t ∷ ts) axis (omega arith) (omega arith) (whole t ts b d) ∙ ap (λ k. 3 * slice_index cell.pos axis + k) (digit_behind axes way cell us t ts (whole t ts b d))) ∙ h)

  meet_from : (first : ℕ) → first < 2 → ((ts : List ℕ) → Digits3 m ts → Meeting axis parity (child first ts) (child (first + 1) (complement ts)))
      → (mirrored turns first ≢ 2 * side) → (mirrored turns (first + 1) ≢ 2 * side) → ((t : ℕ) → t < 3 → t ≢ first → t ≢ first + 1 → mirrored turns t ≡ 2 * side)
      → Meet m takes gives touches outer
  meet_from first low meets not_first not_next is_other =
      let a : axis < axes = omega arith in
      let n : first + 1 < 3 = omega arith in
      let f : first < 3 = omega arith in
      let fours : (t : ℕ) (ts : List ℕ) → t < 3 → Digits3 m ts → length (child t ts).pos ≡ 4 = λ t ts b d. child_four axes way cell (us ++ t ∷ ts) four l (whole t ts b d) in
      let lv : suc level ≡ cell.level + 1 = omega arith in
      let in_tree : (t : ℕ) (ts : List ℕ) → t < 3 → Digits3 m ts → InTree axes way (child t ts) = λ t ts b d. child_in_tree axes way cell (us ++ t ∷ ts) tree (whole t ts b d) in
      let ranks : (t : ℕ) (ts : List ℕ) → t < 3 → Digits3 m ts → rank_of axes way (suc level) (child t ts) ≡ rank_of axes way level cell * 3 ^ axes + value axes (us ++ t ∷ ts) =
      λ t ts b d. rank-child axes way level cell (us ++ t ∷ ts) four l (whole t ts b d) in
      let up : (ts : List ℕ) → Digits3 m ts → rank_of axes way (suc level) (child first ts) < rank_of axes way (suc level) (child (first + 1) (complement ts)) =
      λ ts d. omega (
        arith,
        rank-child axes way level cell (us ++ first ∷ ts) four l (whole first ts f d),
        rank-child axes way level cell (us ++ (first + 1) ∷ complement ts) four l (whole (first + 1) (complement ts) n (complement_below m ts d)),
        value_next us first m axes ts (complement ts) within d,
      ) in
      record {
        first = first;
        low = low;
        agree = λ ts d. meeting-agree axes way counts levels axis parity (child first ts) (child (first + 1) (complement ts)) four a
            (omega (arith, fours first ts f d)) (omega (arith, fours (first + 1) (complement ts) n (complement_below m ts d))) (meets ts d);
        takes_none = λ ts d. arriving_none axes way counts levels (suc level) (face_on axis parity (child first ts)) (child first ts) four a (omega arith) (omega arith) (fours first ts f d)
            (inl (subst (λ c. rank_of axes way (suc level) (child first ts) < rank_of axes way (suc level) c) (sym (meeting-across axis parity _ _ (meets ts d)).0) (up ts d)));
        gives_none = λ ts d. let cs = complement ts in let dc = complement_below m ts d in let ct = complement_twice m ts d in
            leaving_none axes way counts levels (suc level) (face_on axis parity (child (first + 1) ts)) (child (first + 1) ts) four a (omega arith) (omega arith) (fours (first + 1) ts n d)
            (inl (subst (λ ss. Earlier axes way (face_on axis parity (child (first + 1) ss)) (suc level) (child (first + 1) ss)) ct
            (subst (λ c. rank_of axes way (suc level) c < rank_of axes way (suc level) (child (first + 1) (complement cs))) (sym (meeting-across axis parity _ _ (meets cs dc)).1) (up cs dc))));
        gives_apart = λ xs ys d e r. leaving_apart axes way counts levels levels (face_on axis parity (child first xs)) (child first xs) (child first ys) four a (omega arith) (fours first xs f d) (fours first ys f e) (in_tree first ys f e) refl
            (subst (λ n. rank_of axes way n (child first xs) < rank_of axes way n (child first ys)) lv (omega (arith, ranks first xs f d, ranks first ys f e, value_inside us first m axes xs ys within r)))
            (subst (λ n. rank_of axes way n (child first ys) < rank_of axes way n (across (face_on axis parity (child first xs)) (child first xs))) lv
            (subst (λ c. rank_of axes way (suc level) (child first ys) < rank_of axes way (suc level) c) (sym (meeting-across axis parity _ _ (meets xs d)).0)
            (omega (arith, ranks first ys f e, ranks (first + 1) (complement xs) n (complement_below m xs d), value_next us first m axes ys (complement xs) within e))));
        takes_apart = λ xs ys d e r. let cs = complement ys in let dc = complement_below m ys e in let ct = complement_twice m ys e in
            arriving_apart axes way counts levels levels (face_on axis parity (child (first + 1) ys)) (child (first + 1) ys) (child (first + 1) xs) four a (omega arith) (fours (first + 1) ys n e) (fours (first + 1) xs n d) (in_tree (first + 1) xs n d) refl
            (subst (λ k. rank_of axes way k (across (face_on axis parity (child (first + 1) ys)) (child (first + 1) ys)) < rank_of axes way k (child (first + 1) xs)) lv
            (subst (λ ss. rank_of axes way (suc level) (across (face_on axis parity (child (first + 1) ss)) (child (first + 1) ss)) < rank_of axes way (suc level) (child (first + 1) xs)) ct
            (subst (λ c. rank_of axes way (suc level) c < rank_of axes way (suc level) (child (first + 1) xs)) (sym (meeting-across axis parity _ _ (meets cs dc)).1)
            (omega (arith, ranks first cs f dc, ranks (first + 1) xs n d, value_next us first m axes cs xs within dc)))))
            (subst (λ k. rank_of axes way k (child (first + 1) xs) < rank_of axes way k (child (first + 1) ys)) lv (omega (arith, ranks (first + 1) xs n d, ranks (first + 1) ys n e, value_inside us (first + 1) m axes xs ys within r)));
        inner = λ ts d. ap (λ k. k == 2 * side) (digit_behind axes way cell us first ts (whole first ts f d)) ∙ ne_eqb _ _ not_first;
        inner_next = λ ts d. ap (λ k. k == 2 * side) (digit_behind axes way cell us (first + 1) ts (whole (first + 1) ts n d)) ∙ ne_eqb _ _ not_next;
        outside = λ t b h k ts d. ap (λ x. x == 2 * side) (digit_behind axes way cell us t ts (whole t ts b d)) ∙ eq-eqb _ _ (is_other t b h k);
      }

  meet_even : turns % 2 ≡ 0 → Meet m takes gives touches outer
  meet_even even =
      let n : (t : ℕ) → mirrored turns t ≡ t = λ t. mirrored_even turns t even in
      meet_from (1 - side) (omega arith)
      (λ ts d. inl (
        sym (ap (λ pos. record { level = cell.level + 1; pos = pos }) (turned_next-even (flips_in axes way cell.pos) 0 axes us (1 - side) ts (replicate (4 - axes) 0) cell.pos (length-flips axes way cell.pos) (whole (1 - side) ts (omega arith) d) (omega arith) even)),
        face_behind (1 - side) 1 ts (omega arith) d (omega (arith, n (1 - side))),
        face_behind ((1 - side) + 1) 0 (complement ts) (omega arith) (complement_below m ts d) (omega (arith, n ((1 - side) + 1))),
      ))
      (omega (arith, n (1 - side))) (omega (arith, n ((1 - side) + 1))) (λ t b h k. omega (arith, n t))

  meet_odd : turns % 2 ≡ 1 → Meet m takes gives touches outer
  meet_odd odd =
      let n : (t : ℕ) → mirrored turns t ≡ 2 - t = λ t. mirrored_odd turns t odd in
      meet_from side (omega arith)
      (λ ts d. inr (
        sym (ap (λ pos. record { level = cell.level + 1; pos = pos }) (turned_next-odd (flips_in axes way cell.pos) 0 axes us side ts (replicate (4 - axes) 0) cell.pos (length-flips axes way cell.pos) (whole side ts (omega arith) d) (omega arith) odd)),
        face_behind side 0 ts (omega arith) d (omega (arith, n side)),
        face_behind (side + 1) 1 (complement ts) (omega arith) (complement_below m ts d) (omega (arith, n (side + 1))),
      ))
      (omega (arith, n side)) (omega (arith, n (side + 1))) (λ t b h k. omega (arith, n t))

  pub meet_at : Meet m takes gives touches outer
  meet_at = elim (even_or_odd turns) [ inl e ↦ meet_even e | inr e ↦ meet_odd e ]
