-- The routes of a cell state are those around the vertex.
use Rattle.std.proofs.Common.{◌≡◌, ℕ, zero, suc, ◌+◌, ◌-◌, ◌*◌, ◌/◌, ◌%◌, ◌^◌, ◌<◌, ◌≤◌, Bool, true, false, ◌&&◌, ◌||◌, List, [], ◌∷◌, ◌++◌, map, take, length, Option, Some, None, sym, ap, ◌∙◌, subst, refl, inl, inr, arith, pow-suc}
use Rattle.std.specs.Prelude.{◌==◌, if◌then◌else◌, sum, slice_index, replicate, nat_lt}
use Rattle.std.specs.Option.{option_map}
use Rattle.std.proofs.Math.Seq.{take-append_seam}
use Rattle.std.proofs.lemmas.Bool.{or_left, or_right, eq-eqb, cases_lt}
use Rattle.std.proofs.lemmas.List.{map-append}
use Rattle.std.proofs.lemmas.List.Folds.{sum_by-replicate}
use Rattle.std.proofs.lemmas.List.Sums.{sum_by-append}
use Rattle.pe_base.specs.declared.place.Place.{Place}
use Rattle.pe_base.specs.declared.way.Way.{Way}
use Rattle.pe_base.specs.Tree.Places.{IsCellPlace, IsInside, bits, moved, corner, padded, at}
use Rattle.pe_base.specs.Steps.Routes.{way_turns, waiting_stack, stack_in, stack_out}
use Rattle.pe_base.proofs.Tree.PlaceLaws.{length-bits, bits-suc}
use Rattle.pe_base.proofs.Steps.CornerPlaces.{length-moved}
use Rattle.pe_base.proofs.Steps.RouteLaws.{Below, Below-front, length-front, padded-front, at-front}
use Rattle.pe_base.proofs.Steps.AroundInCell.{fits_all, parents}
use Rattle.pe_base.proofs.Steps.Levels.{entry}
use Rattle.pe_base.proofs.Steps.AroundAsGrid.{spots}
use Rattle.pe_base.proofs.Steps.StackLaws.{Touches, stack_in-entry, stack_out-entry, length-parents}
use Rattle.pe_access.specs.declared.route.Route.TheVariants.{Stream, Temp}
use Rattle.pe_access.specs.Extents.{Relation, Earlier, Later, Outside, Extent, bit_of, is_relation, root_extent, root_face, child_extent}
use Rattle.pe_access.specs.States.{route_of}
use Rattle.pe_access.proofs.Choices.{Choice, faster, fastest}
use Rattle.pe_access.proofs.ChildExtents.{child_extents, extents_of}
use Rattle.pe_access.proofs.ExtentLaws.{length-extents_of, extents_of-odd}
use Rattle.pe_access.proofs.FaceLaws.{Sees, pick, marks, choice_of, fastest-pick, pick-entry}

-- axes that the grid does not have: no neighbour at the near end
abbrev pub Idle : List Extent → Type 0
Idle [] = Unit
Idle (extent ∷ extents) = (extent.near ≡ root_face) × Idle extents

pub record Split (way : Way) (level n : ℕ) (cs : List ℕ) : Type 0 where
  pub tail : List Extent
  pub idle : Idle tail
  pub is : extents_of way level (cs ++ replicate n 0) ≡ extents_of way level cs ++ tail

root-idle : (n : ℕ) → Idle (map {A = ℕ} (λ x. root_extent) (replicate n 0))
root-idle zero = tt
root-idle (suc n) = (refl, root-idle n)

child-idle : (level turns n m : ℕ) (extents : List Extent) → Idle extents → Idle (child_extents level turns (replicate n 0) (replicate m 0) extents)
child-idle level turns zero m extents h = tt
child-idle level turns (suc n) zero extents h = tt
child-idle level turns (suc n) (suc m) [] h = tt
child-idle level turns (suc n) (suc m) (extent ∷ extents) h = (h.0, child-idle level (turns + 0 % 3) n m extents h.1)

parents-zeros : (n : ℕ) → parents (replicate n 0) ≡ replicate n 0
parents-zeros zero = refl
parents-zeros (suc n) = ap (λ xs. 0 ∷ xs) (parents-zeros n)

record Cut (level turns : ℕ) (ps xs us vs : List ℕ) (extents more : List Extent) : Type 0 where
  pub after : ℕ
  pub is : child_extents level turns (ps ++ us) (xs ++ vs) (extents ++ more) ≡ child_extents level turns ps xs extents ++ child_extents level after us vs more

cut : (level turns : ℕ) (ps xs us vs : List ℕ) (extents more : List Extent) → length xs ≡ length ps → length extents ≡ length ps → Cut level turns ps xs us vs extents more
cut level turns [] [] us vs [] more e f = record { after = turns; is = refl }
cut level turns [] (x ∷ xs) us vs extents more e f = absurd (omega arith)
cut level turns [] [] us vs (extent ∷ extents) more e f = absurd (omega arith)
cut level turns (p ∷ ps) [] us vs extents more e f = absurd (omega arith)
cut level turns (p ∷ ps) (x ∷ xs) us vs [] more e f = absurd (omega arith)
cut level turns (p ∷ ps) (x ∷ xs) us vs (extent ∷ extents) more e f =
    let rest = cut level (turns + x % 3) ps xs us vs extents more (omega arith) (omega arith) in
    record { after = rest.after; is = ap (λ ls. child_extent level (turns + p) (x % 3) extent ∷ ls) rest.is }

pub split : (way : Way) (level n : ℕ) (cs : List ℕ) → Split way level n cs
split way zero n cs = record { tail = map {A = ℕ} (λ x. root_extent) (replicate n 0); idle = root-idle n; is = map-append (λ x. root_extent) cs (replicate n 0) }
split way (suc level) n cs =
    let ps = parents cs in
    let zs = replicate n 0 in
    let above = split way level n ps in
    let a = way_turns way in
    let front : parents (cs ++ zs) ≡ ps ++ zs = map-append (λ c. c / 3) cs zs ∙ ap (λ xs. ps ++ xs) (parents-zeros n) in
    let total : sum (ps ++ zs) ≡ sum ps = sum_by-append (λ x. x) ps zs ∙ omega (arith, sum_by-replicate (λ x. x) n 0) in
    let parts = cut (suc level) (a + sum ps) ps cs zs zs (extents_of way level ps) above.tail (sym (length-parents cs)) (length-extents_of way level ps) in
    record {
      tail = child_extents (suc level) parts.after zs zs above.tail;
      idle = child-idle (suc level) parts.after n n above.tail above.idle;
      is = ap (λ xs. child_extents (suc level) (a + sum xs) xs (cs ++ zs) (extents_of way level xs)) front
          ∙ ap (λ (t : ℕ). child_extents (suc level) (a + t) (ps ++ zs) (cs ++ zs) (extents_of way level (ps ++ zs))) total
          ∙ ap (child_extents (suc level) (a + sum ps) (ps ++ zs) (cs ++ zs)) above.is
          ∙ parts.is;
    }

abbrev none : Choice
none = record { route = Stream; level = 0 }

never : (v : Bool) (a b : Choice) → (if v && nat_lt 0 0 then a else b) ≡ b
never true a b = refl
never false a b = refl

idle-fastest : (relation : Relation) (axis n : ℕ) (extents : List Extent) → Idle extents → fastest relation axis (replicate n 0) extents ≡ none
idle-fastest relation axis zero extents h = refl
idle-fastest relation axis (suc n) [] h = refl
idle-fastest relation axis (suc n) (extent ∷ extents) h =
    ap (faster relation axis 0 extent) (idle-fastest relation (axis + 1) n extents h.1)
    ∙ ap (λ face. if is_relation face.relation relation && nat_lt 0 face.level then (let a : Choice = record { route = Temp (2 * axis + (bit_of extent.odd + 0) % 2); level = face.level } in a) else none) h.0
    ∙ never (is_relation Outside relation) _ none

fastest-append : (relation : Relation) (axis n : ℕ) (bs : List ℕ) (extents more : List Extent) → length bs ≡ length extents → Idle more → fastest relation axis (bs ++ replicate n 0) (extents ++ more) ≡ fastest relation axis bs extents
fastest-append relation axis n [] [] more e h = idle-fastest relation axis n more h
fastest-append relation axis n [] (extent ∷ extents) more e h = absurd (omega arith)
fastest-append relation axis n (b ∷ bs) [] more e h = absurd (omega arith)
fastest-append relation axis n (b ∷ bs) (extent ∷ extents) more e h = ap (faster relation axis b extent) (fastest-append relation (axis + 1) n bs extents more (omega arith) h)

-- the bits from the dimension on are 0
bits-zero : (n : ℕ) → bits n 0 ≡ replicate n 0
bits-zero zero = refl
bits-zero (suc n) = bits-suc n 0 ∙ ap (λ bs. 0 ∷ bs) (bits-zero n)

bits-more : (axes n k : ℕ) → k < 2 ^ axes → bits (axes + n) k ≡ bits axes k ++ replicate n 0
bits-more zero n k h =
    let none : k ≡ 0 = omega arith in
    let count : 0 + n ≡ n = omega arith in
    ap (λ (m : ℕ). bits m k) count ∙ ap (bits n) none ∙ bits-zero n
bits-more (suc axes) n k h =
    let count : suc axes + n ≡ suc (axes + n) = omega arith in
    let half : k / 2 < 2 ^ axes = omega (arith, pow-suc 2 axes) in
    ap (λ (m : ℕ). bits m k) count ∙ bits-suc (axes + n) k ∙ ap (λ bs. (k % 2) ∷ bs) (bits-more axes n (k / 2) half)
    ∙ ap (λ bs. bs ++ replicate n 0) (sym (bits-suc axes k))

pub bits-small : (axes k : ℕ) → Below 2 (bits axes k)
bits-small zero k = tt
bits-small (suc axes) k =
    let P : List ℕ → Type 0 = λ bs. Below 2 bs in
    subst P (sym (bits-suc axes k)) (omega arith, bits-small axes (k / 2))

moved-append : (cs bs zs : List ℕ) → length bs ≡ length cs → moved (cs ++ zs) bs ≡ moved cs bs ++ zs
moved-append [] [] [] e = refl
moved-append [] [] (z ∷ zs) e = refl
moved-append [] (b ∷ bs) zs e = absurd (omega arith)
moved-append (c ∷ cs) [] zs e = absurd (omega arith)
moved-append (c ∷ cs) (b ∷ bs) zs e = ap (λ xs. (c + b) ∷ xs) (moved-append cs bs zs (omega arith))

moved-fits : (cs bs : List ℕ) → length bs ≡ length cs → Below 2 bs → fits_all (spots (moved cs bs)) cs ≡ true
moved-fits [] [] e h = refl
moved-fits [] (b ∷ bs) e h = absurd (omega arith)
moved-fits (c ∷ cs) [] e h = absurd (omega arith)
moved-fits (c ∷ cs) (b ∷ bs) e h =
    let small = h.0 in
    let here : (c + b == c || c + b == c + 1) ≡ true = elim (cases_lt b 1) [
      | inl k ↦ or_left (c + b == c) (c + b == c + 1) (eq-eqb (c + b) c (omega arith))
      | inr k ↦ or_right (c + b == c) (c + b == c + 1) (eq-eqb (c + b) (c + 1) (omega arith))
    ] in
    ap (λ v. v && fits_all (spots (moved cs bs)) cs) here ∙ moved-fits cs bs (omega arith) h.1

pub index-padded : (qs : List ℕ) (n i : ℕ) → slice_index (qs ++ replicate n 0) i ≡ slice_index qs i
index-padded [] zero i = refl
index-padded [] (suc n) zero = refl
index-padded [] (suc n) (suc i) = index-padded [] n i
index-padded (q ∷ qs) n zero = refl
index-padded (q ∷ qs) n (suc i) = index-padded qs n i

-- the vertex at a corner, by positions on the grid's axes
vertex-at : (axes k : ℕ) (cell : Place) → axes ≤ 4 → IsCellPlace axes cell → corner axes cell k ≡ at cell.level (moved (take axes cell.pos) (bits axes k))
vertex-at axes k cell few place =
    let cs = take axes cell.pos in
    let bs = bits axes k in
    let long : length cs ≡ axes = length-front axes (3 ^ cell.level) cell.pos few place.pos in
    let same : length bs ≡ length cs = length-bits axes k ∙ sym long in
    let made : moved cell.pos bs ≡ padded (moved cs bs) =
    ap (λ xs. moved xs bs) (padded-front axes (3 ^ cell.level) cell.pos few place.pos) ∙ moved-append cs bs (replicate (4 - length cs) 0) same
    ∙ ap (λ (l : ℕ). moved cs bs ++ replicate (4 - l) 0) (sym (length-moved cs bs)) in
    ap (λ (xs : List ℕ). let p : Place = record { level = cell.level; pos = xs } in p) made

touches : (axes k : ℕ) (cell : Place) → axes ≤ 4 → IsCellPlace axes cell → IsInside axes (corner axes cell k) → Touches axes cell.level (moved (take axes cell.pos) (bits axes k)) (take axes cell.pos)
touches axes k cell few place inside =
    let cs = take axes cell.pos in
    let bs = bits axes k in
    let qs = moved cs bs in
    let long : length cs ≡ axes = length-front axes (3 ^ cell.level) cell.pos few place.pos in
    let same : length bs ≡ length cs = length-bits axes k ∙ sym long in
    let len : length qs ≡ axes = length-moved cs bs ∙ long in
    let P : Place → Type 0 = λ v. Below (3 ^ v.level) (take axes v.pos) in
    let below : Below (3 ^ cell.level) (take axes (padded qs)) = subst P (vertex-at axes k cell few place) (Below-front axes (3 ^ cell.level) (corner axes cell k).pos inside.pos.inside) in
    let front : take axes (padded qs) ≡ qs = ap (λ (n : ℕ). take n (padded qs)) (sym len) ∙ take-append_seam qs (replicate (4 - length qs) 0) in
    let Q : List ℕ → Type 0 = λ xs. Below (3 ^ cell.level) xs in record {
      few = few;
      vertex = len;
      cell = long;
      inside = subst Q front below;
      room = Below-front axes (3 ^ cell.level) cell.pos place.pos.inside;
      corner = moved-fits cs bs same (bits-small axes k);
    }

stacks-same : (vertex : Place) (level : ℕ) (qs : List ℕ) (o : Option ℕ) → vertex ≡ at level qs → route_of (option_map (λ i. 2 * (0 + i) + slice_index qs i % 2) o) ≡ route_of (option_map (waiting_stack vertex) o)
stacks-same vertex level qs None e = refl
stacks-same vertex level qs (Some i) e =
    let coordinate : slice_index qs i ≡ slice_index vertex.pos i = sym (index-padded qs (4 - length qs) i) ∙ ap (λ (v : Place). slice_index v.pos i) (sym e) in
    ap Temp (omega arith)

-- the choice among the faces at a corner, by how the cell is entered or left around the vertex
route-fastest : (relation : Relation) (way : Way) (b axes k : ℕ) (cell : Place) (all rest : List Extent) → Sees relation (way_turns way) b → axes ≤ 4 → IsCellPlace axes cell → k < 2 ^ axes → all ≡ extents_of way cell.level (take axes cell.pos) ++ rest → Idle rest → (fastest relation 0 (bits 4 k) all).route ≡ route_of (option_map (waiting_stack (corner axes cell k)) (entry b cell.level (spots (moved (take axes cell.pos) (bits axes k))) (take axes cell.pos)))
route-fastest relation way b axes k cell all rest sees few place small is idle =
    let level = cell.level in
    let cs = take axes cell.pos in
    let bs = bits axes k in
    let qs = moved cs bs in
    let long : length cs ≡ axes = length-front axes (3 ^ level) cell.pos few place.pos in
    let same : length bs ≡ length cs = length-bits axes k ∙ sym long in
    let extents = extents_of way level cs in
    let len : length extents ≡ length cs = length-extents_of way level cs in
    let n = 4 - axes in
    let count : axes + n ≡ 4 = omega arith in
    let sides : bits 4 k ≡ bs ++ replicate n 0 = ap (λ (m : ℕ). bits m k) (sym count) ∙ bits-more axes n k small in
    let odd = extents_of-odd way level cs (Below-front axes (3 ^ level) cell.pos place.pos.inside) in
    let p = pick (marks relation (spots qs) cs extents) in
    let chosen : fastest relation 0 (bits 4 k) all ≡ choice_of (λ i. 2 * (0 + i) + slice_index qs i % 2) p =
    ap (λ xs. fastest relation 0 xs all) sides
    ∙ ap (fastest relation 0 (bs ++ replicate n 0)) is
    ∙ fastest-append relation 0 n bs extents rest (same ∙ sym len) idle
    ∙ fastest-pick relation 0 bs cs extents same len odd in
    ap (λ c. c.route) chosen
    ∙ ap (λ o. route_of (option_map (λ i. 2 * (0 + i) + slice_index qs i % 2) o)) (pick-entry relation way b level sees (spots qs) cs (moved-fits cs bs same (bits-small axes k)))
    ∙ stacks-same (corner axes cell k) level qs (entry b level (spots qs) cs) (vertex-at axes k cell few place)

pub route_in-is : (way : Way) (axes k : ℕ) (cell : Place) (all rest : List Extent) → axes ≤ 4 → IsCellPlace axes cell → k < 2 ^ axes → all ≡ extents_of way cell.level (take axes cell.pos) ++ rest → Idle rest → IsInside axes (corner axes cell k) → (fastest Earlier 0 (bits 4 k) all).route ≡ route_of (stack_in axes way (corner axes cell k) cell)
route_in-is way axes k cell all rest few place small is idle inside =
    let cs = take axes cell.pos in
    let qs = moved cs (bits axes k) in
    let o = entry (way_turns way) cell.level (spots qs) cs in
    let P : Place → Type 0 = λ c. stack_in axes way (at cell.level qs) c ≡ option_map (waiting_stack (at cell.level qs)) o in
    let Q : Place → Type 0 = λ v. stack_in axes way v cell ≡ option_map (waiting_stack v) o in
    route-fastest Earlier way (way_turns way) axes k cell all rest refl few place small is idle
    ∙ ap route_of (sym (subst Q (sym (vertex-at axes k cell few place)) (subst P (sym (at-front axes (3 ^ cell.level) cell few place.pos)) (stack_in-entry axes cell.level way qs cs (touches axes k cell few place inside)))))

pub route_out-is : (way : Way) (axes k : ℕ) (cell : Place) (all rest : List Extent) → axes ≤ 4 → IsCellPlace axes cell → k < 2 ^ axes → all ≡ extents_of way cell.level (take axes cell.pos) ++ rest → Idle rest → IsInside axes (corner axes cell k) → (fastest Later 0 (bits 4 k) all).route ≡ route_of (stack_out axes way (corner axes cell k) cell)
route_out-is way axes k cell all rest few place small is idle inside =
    let cs = take axes cell.pos in
    let qs = moved cs (bits axes k) in
    let o = entry (suc (way_turns way)) cell.level (spots qs) cs in
    let P : Place → Type 0 = λ c. stack_out axes way (at cell.level qs) c ≡ option_map (waiting_stack (at cell.level qs)) o in
    let Q : Place → Type 0 = λ v. stack_out axes way v cell ≡ option_map (waiting_stack v) o in
    route-fastest Later way (suc (way_turns way)) axes k cell all rest refl few place small is idle
    ∙ ap route_of (sym (subst Q (sym (vertex-at axes k cell few place)) (subst P (sym (at-front axes (3 ^ cell.level) cell few place.pos)) (stack_out-entry axes cell.level way qs cs (touches axes k cell few place inside)))))
