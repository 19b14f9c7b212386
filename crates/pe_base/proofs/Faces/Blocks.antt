-- The stretches of the children on one stack, by the blocks in which they meet.
use Rattle.std.proofs.Common.{◌≡◌, ◌≢◌, ℕ, zero, suc, ◌+◌, ◌*◌, ◌<◌, ◌≤◌, ◌⊎◌, Bool, true, false, ◌||◌, ◌^◌, List, [], ◌∷◌, ◌++◌, map, filter, reverse, length, refl, sym, ap, ap₂, ◌∙◌, subst, subst₂, inl, inr, append_assoc, append-nil, mul-le-mul_right, arith}
use Rattle.std.specs.List.{flat_map, list_any, AllByRecursion as Each}
use Rattle.std.proofs.lemmas.List.{map-append, reverse-append, reverse-reverse}
use Rattle.std.proofs.lemmas.List.Elements.{filter-append}
use Rattle.std.proofs.lemmas.List.Concat.{flat_map-append}
use Rattle.std.proofs.lemmas.List.Folds.{flat_map-map}
use Rattle.pe_base.specs.declared.place.Place.{Place}
use Rattle.pe_base.specs.Tree.Curve.{digit_lists}
use Rattle.pe_base.specs.Steps.Faces.{Stretch, StretchesApart}
use Rattle.pe_base.proofs.Lists.{Each-weaker, Each-reverse, Each-filter, map-map, flat_map_same, flat_map_none, filter-map, filter_none, map-reverse, reverse-cons, Each-both, filter_all}
use Rattle.pe_base.proofs.Tree.Mirrors.{Digits3, complement, digit_lists_below, reverse-digit_lists, Each-digits}
use Rattle.pe_base.proofs.Tree.Ranks.{value, Rising, Rising-above, digit_lists_rise}
use Rattle.pe_base.proofs.Faces.Quiet.{value-below}

-- a greater first digit makes a greater number
blocks_rise : (n s t : ℕ) (xs ys : List ℕ) → s < t → Digits3 n xs → s * 3 ^ n + value n xs < t * 3 ^ n + value n ys
blocks_rise n s t xs ys h d =
    let m : (s + 1) * 3 ^ n ≤ t * 3 ^ n = mul-le-mul_right (3 ^ n) (omega arith) in
    omega (arith, value-below n xs (Each-digits n xs d))

pub StretchesApart-append : (xs ys : List Stretch) (a b c : List Place) → StretchesApart xs a b → StretchesApart ys b c → StretchesApart (xs ++ ys) a c
StretchesApart-append [] ys a b c s t = subst (λ z. StretchesApart ys z c) (sym s) t
StretchesApart-append (x ∷ xs) ys a b c s t = (s.0, s.1, s.2, StretchesApart-append xs ys (x.gives ++ s.0) b c s.3 t)

abbrev pub stretch_of : List Place → List Place → (Place → Bool) → Stretch
stretch_of takes gives touches = record { takes = takes; gives = gives; touches = touches }

-- none of some vertices is touched
abbrev pub Untouched : (Place → Bool) → List Place → Type 0
Untouched touches vertices = list_any touches vertices ≡ false

pub Untouched-append : (touches : Place → Bool) (xs ys : List Place) → Untouched touches xs → Untouched touches ys → Untouched touches (xs ++ ys)
Untouched-append touches [] ys h k = k
Untouched-append touches (x ∷ xs) ys h k = go (touches x) h (λ e. Untouched-append touches xs ys e k)
  where
    go : (b : Bool) → (b || list_any touches xs) ≡ false → (list_any touches xs ≡ false → list_any touches (xs ++ ys) ≡ false) → (b || list_any touches (xs ++ ys)) ≡ false
    go true e rest = e
    go false e rest = rest e

pub Untouched-flat_map : {X : Type 0} (touches : Place → Bool) (f : X → List Place) (xs : List X) → Each (λ x. Untouched touches (f x)) xs → Untouched touches (flat_map f xs)
Untouched-flat_map touches f [] e = refl
Untouched-flat_map touches f (x ∷ xs) e = Untouched-append touches (f x) (flat_map f xs) e.0 (Untouched-flat_map touches f xs e.1)

-- R holds of each item and each later one
abbrev pub Ordered : {X : Type 0} → (X → X → Type 0) → List X → Type 0
Ordered R [] = Unit {0}
Ordered R (x ∷ xs) = Each (R x) xs × Ordered R xs

ordered_digits : (n : ℕ) (R : List ℕ → List ℕ → Type 0) → ((xs ys : List ℕ) → Digits3 n xs → Digits3 n ys → value n xs < value n ys → R xs ys) → Ordered R (digit_lists n)
ordered_digits n R h = go 0 (digit_lists n) (digit_lists_below n) (digit_lists_rise n)
  where
    go : (low : ℕ) (xss : List (List ℕ)) → Each (Digits3 n) xss → Rising (value n) low xss (3 ^ n) → Ordered R xss
    go low [] e s = tt
    go low (xs ∷ xss) e s = (Each-both (Digits3 n) (λ ys. suc (value n xs) ≤ value n ys) (R xs) (λ ys d l. h xs ys e.0 d l) xss e.1 (Rising-above (value n) (suc (value n xs)) (3 ^ n) xss s.1), go (suc (value n xs)) xss e.1 s.1)

-- stretches that only take, and stretches that only give
pub all_take : {X : Type 0} (f g : X → List Place) (touches : X → Place → Bool) (xs : List X) (rest : List Place) → Each (λ x. g x ≡ []) xs → Ordered (λ x y. Untouched (touches x) (f y)) xs → Each (λ x. Untouched (touches x) rest) xs
    → StretchesApart (map (λ x. stretch_of (f x) (g x) (touches x)) xs) (flat_map f xs ++ rest) rest
all_take f g touches [] rest e o u = refl
all_take f g touches (x ∷ xs) rest e o u = (
  flat_map f xs ++ rest,
  append_assoc (f x) (flat_map f xs) rest,
  Untouched-append (touches x) (flat_map f xs) rest (Untouched-flat_map (touches x) f xs o.0) u.0,
  subst (λ z. StretchesApart (map (λ y. stretch_of (f y) (g y) (touches y)) xs) (z ++ (flat_map f xs ++ rest)) rest) (sym e.0) (all_take f g touches xs rest e.1 o.1 u.1),
)

pub all_give : {X : Type 0} (f g : X → List Place) (touches : X → Place → Bool) (xs : List X) (rest : List Place) → Each (λ x. f x ≡ []) xs → Ordered (λ x y. Untouched (touches y) (g x)) xs → Each (λ x. Untouched (touches x) rest) xs
    → StretchesApart (map (λ x. stretch_of (f x) (g x) (touches x)) xs) rest (flat_map g (reverse xs) ++ rest)
all_give f g touches [] rest e o u = refl
all_give f g touches (x ∷ xs) rest e o u = (
  rest,
  ap (λ z. z ++ rest) (sym e.0),
  u.0,
  subst (StretchesApart (map (λ y. stretch_of (f y) (g y) (touches y)) xs) (g x ++ rest)) (ends (flat_map g (reverse xs)) (g x) ∙ ap (λ z. z ++ rest) (sym (flat_map-append g (reverse xs) (x ∷ [])) ∙ ap (flat_map g) (sym (reverse-cons x xs))))
      (all_give f g touches xs (g x ++ rest) e.1 o.1 (Each-both _ _ _ (λ y h k. Untouched-append (touches y) (g x) rest h k) xs o.0 u.1)),
)
  where
    ends : (p q : List Place) → p ++ (q ++ rest) ≡ (p ++ (q ++ [])) ++ rest
    ends p q = ap (λ z. p ++ (z ++ rest)) (sym (append-nil q)) ∙ sym (append_assoc p (q ++ []) rest)

-- The stretches of children by their digits along the curve: what each takes, gives and touches; and which are at an outer face.
abbrev pub Lists : Type 0
Lists = List ℕ → List Place

abbrev pub Touching : Type 0
Touching = List ℕ → Place → Bool

abbrev pub behind : {X : Type 0} → ℕ → (List ℕ → X) → List ℕ → X
behind t f ts = f (t ∷ ts)

abbrev pub child_stretches : ℕ → Lists → Lists → Touching → List Stretch
child_stretches n takes gives touches = map (λ ts. stretch_of (takes ts) (gives ts) (touches ts)) (digit_lists n)

abbrev pub outer_takes : ℕ → Lists → (List ℕ → Bool) → List Place
outer_takes n takes outer = flat_map takes (filter outer (digit_lists n))

abbrev pub outer_gives : ℕ → Lists → (List ℕ → Bool) → List Place
outer_gives n gives outer = flat_map gives (reverse (filter outer (digit_lists n)))

-- what an earlier child does not touch of a later one's, and a later child of an earlier one's
abbrev pub TakesLater : ℕ → Lists → Touching → Type 0
TakesLater n takes touches = (xs ys : List ℕ) → Digits3 n xs → Digits3 n ys → value n xs < value n ys → Untouched (touches xs) (takes ys)

abbrev pub GivesEarlier : ℕ → Lists → Touching → Type 0
GivesEarlier n gives touches = (xs ys : List ℕ) → Digits3 n xs → Digits3 n ys → value n xs < value n ys → Untouched (touches ys) (gives xs)

-- Of three blocks by the first digit, two that follow each other meet: the first gives what the second takes, in
-- the opposite order, and the third is at the outer face.
pub record Meet (n : ℕ) (takes gives : Lists) (touches : Touching) (outer : List ℕ → Bool) : Type 0 where
  pub first : ℕ
  pub low : first < 2
  pub agree : (ts : List ℕ) → Digits3 n ts → gives (first ∷ ts) ≡ takes ((first + 1) ∷ complement ts)
  pub takes_none : (ts : List ℕ) → Digits3 n ts → takes (first ∷ ts) ≡ []
  pub gives_none : (ts : List ℕ) → Digits3 n ts → gives ((first + 1) ∷ ts) ≡ []
  pub gives_apart : GivesEarlier n (behind first gives) (behind first touches)
  pub takes_apart : TakesLater n (behind (first + 1) takes) (behind (first + 1) touches)
  pub inner : (ts : List ℕ) → Digits3 n ts → outer (first ∷ ts) ≡ false
  pub inner_next : (ts : List ℕ) → Digits3 n ts → outer ((first + 1) ∷ ts) ≡ false
  pub outside : (t : ℕ) → t < 3 → t ≢ first → t ≢ first + 1 → (ts : List ℕ) → Digits3 n ts → outer (t ∷ ts) ≡ true

-- they meet so at each choice of the digits before an axis
abbrev pub MeetBehind : ℕ → ℕ → Lists → Lists → Touching → (List ℕ → Bool) → Type 0
MeetBehind axis zero takes gives touches outer = 1 ≤ 0
MeetBehind zero (suc n) takes gives touches outer = Meet n takes gives touches outer
MeetBehind (suc axis) (suc n) takes gives touches outer = (t : ℕ) → t < 3 → MeetBehind axis n (behind t takes) (behind t gives) (behind t touches) (behind t outer)

-- at the outer face all take nothing, or all give nothing
abbrev pub OneWay : ℕ → Lists → Lists → (List ℕ → Bool) → Type 0
OneWay n takes gives outer = ((ts : List ℕ) → Digits3 n ts → outer ts ≡ true → takes ts ≡ []) ⊎ ((ts : List ℕ) → Digits3 n ts → outer ts ≡ true → gives ts ≡ [])

one_behind : (n t : ℕ) (takes gives : Lists) (outer : List ℕ → Bool) → t < 3 → OneWay (suc n) takes gives outer → OneWay n (behind t takes) (behind t gives) (behind t outer)
one_behind n t takes gives outer b one = elim one [
  | inl h ↦ inl (λ ts d o. h (t ∷ ts) (b, d) o)
  | inr h ↦ inr (λ ts d o. h (t ∷ ts) (b, d) o)
]

-- what is at the outer face is not touched by the children before it, or after it
pub record Apart (n : ℕ) (takes gives : Lists) (touches : Touching) (outer : List ℕ → Bool) : Type 0 where
  pub later : (xs ys : List ℕ) → Digits3 n xs → Digits3 n ys → value n xs < value n ys → outer ys ≡ true → Untouched (touches xs) (takes ys)
  pub earlier : (xs ys : List ℕ) → Digits3 n xs → Digits3 n ys → value n xs < value n ys → outer xs ≡ true → Untouched (touches ys) (gives xs)

apart_behind : (n t : ℕ) (takes gives : Lists) (touches : Touching) (outer : List ℕ → Bool) → t < 3 → Apart (suc n) takes gives touches outer → Apart n (behind t takes) (behind t gives) (behind t touches) (behind t outer)
apart_behind n t takes gives touches outer b p = record {
  later = λ xs ys d e l o. p.later (t ∷ xs) (t ∷ ys) (b, d) (b, e) (omega arith) o;
  earlier = λ xs ys d e l o. p.earlier (t ∷ xs) (t ∷ ys) (b, d) (b, e) (omega arith) o;
}

-- none of some vertices is touched by any child
abbrev pub Free : ℕ → Touching → List Place → Type 0
Free n touches rest = (ts : List ℕ) → Digits3 n ts → Untouched (touches ts) rest

free_append : (n : ℕ) (touches : Touching) (xs ys : List Place) → Free n touches xs → Free n touches ys → Free n touches (xs ++ ys)
free_append n touches xs ys f g = λ ts d. Untouched-append (touches ts) xs ys (f ts d) (g ts d)

-- a later block's list at the outer face is free of an earlier block, and the other way round
free_later : (n s t : ℕ) (takes gives : Lists) (touches : Touching) (outer : List ℕ → Bool) → s < t → t < 3 → Apart (suc n) takes gives touches outer → Free n (behind s touches) (outer_takes n (behind t takes) (behind t outer))
free_later n s t takes gives touches outer h b p = λ xs d. Untouched-flat_map (touches (s ∷ xs)) (behind t takes) (filter (behind t outer) (digit_lists n))
    (Each-weaker _ _ (λ ys e. p.later (s ∷ xs) (t ∷ ys) (omega arith, d) (b, e.0) (blocks_rise n s t xs ys h d) e.1) (filter (behind t outer) (digit_lists n)) (Each-filter (Digits3 n) (behind t outer) (digit_lists n) (digit_lists_below n)))

free_earlier : (n s t : ℕ) (takes gives : Lists) (touches : Touching) (outer : List ℕ → Bool) → s < t → t < 3 → Apart (suc n) takes gives touches outer → Free n (behind t touches) (outer_gives n (behind s gives) (behind s outer))
free_earlier n s t takes gives touches outer h b p = λ ys d. Untouched-flat_map (touches (t ∷ ys)) (behind s gives) (reverse (filter (behind s outer) (digit_lists n)))
    (Each-reverse _ (filter (behind s outer) (digit_lists n)) (Each-weaker _ _ (λ xs e. p.earlier (s ∷ xs) (t ∷ ys) (omega arith, e.0) (b, d) (blocks_rise n s t xs ys h e.0) e.1) (filter (behind s outer) (digit_lists n)) (Each-filter (Digits3 n) (behind s outer) (digit_lists n) (digit_lists_below n))))

-- parts of lists made from three blocks
block_stretches : (n t : ℕ) (takes gives : Lists) (touches : Touching) → map (λ ts. stretch_of (takes ts) (gives ts) (touches ts)) (map (λ ts. t ∷ ts) (digit_lists n)) ≡ child_stretches n (behind t takes) (behind t gives) (behind t touches)
block_stretches n t takes gives touches = map-map (λ ts. stretch_of (takes ts) (gives ts) (touches ts)) (λ ts. t ∷ ts) (digit_lists n)

three_stretches : (n : ℕ) (takes gives : Lists) (touches : Touching) → child_stretches (suc n) takes gives touches
    ≡ child_stretches n (behind 0 takes) (behind 0 gives) (behind 0 touches) ++ (child_stretches n (behind 1 takes) (behind 1 gives) (behind 1 touches) ++ child_stretches n (behind 2 takes) (behind 2 gives) (behind 2 touches))
three_stretches n takes gives touches =
    let f = λ (ts : List ℕ). stretch_of (takes ts) (gives ts) (touches ts) in
    let b = λ (t : ℕ). map (λ ts. t ∷ ts) (digit_lists n) in
    map-append f (b 0) (b 1 ++ (b 2 ++ [])) ∙ ap₂ (λ x y. x ++ y) (block_stretches n 0 takes gives touches)
    (map-append f (b 1) (b 2 ++ []) ∙ ap₂ (λ x y. x ++ y) (block_stretches n 1 takes gives touches) (ap (map f) (append-nil (b 2)) ∙ block_stretches n 2 takes gives touches))

block_outer : (n t : ℕ) (outer : List ℕ → Bool) → filter outer (map (λ ts. t ∷ ts) (digit_lists n)) ≡ map (λ ts. t ∷ ts) (filter (behind t outer) (digit_lists n))
block_outer n t outer = filter-map outer (λ ts. t ∷ ts) (digit_lists n)

three_outer : (n : ℕ) (outer : List ℕ → Bool) → filter outer (digit_lists (suc n))
    ≡ map (λ ts. 0 ∷ ts) (filter (behind 0 outer) (digit_lists n)) ++ (map (λ ts. 1 ∷ ts) (filter (behind 1 outer) (digit_lists n)) ++ map (λ ts. 2 ∷ ts) (filter (behind 2 outer) (digit_lists n)))
three_outer n outer =
    let b = λ (t : ℕ). map (λ ts. t ∷ ts) (digit_lists n) in
    filter-append outer (b 0) (b 1 ++ (b 2 ++ [])) ∙ ap₂ (λ x y. x ++ y) (block_outer n 0 outer)
    (filter-append outer (b 1) (b 2 ++ []) ∙ ap₂ (λ x y. x ++ y) (block_outer n 1 outer) (ap (filter outer) (append-nil (b 2)) ∙ block_outer n 2 outer))

three_takes : (n : ℕ) (takes : Lists) (outer : List ℕ → Bool) → outer_takes (suc n) takes outer
    ≡ outer_takes n (behind 0 takes) (behind 0 outer) ++ (outer_takes n (behind 1 takes) (behind 1 outer) ++ outer_takes n (behind 2 takes) (behind 2 outer))
three_takes n takes outer =
    let k = λ (t : ℕ). filter (behind t outer) (digit_lists n) in
    let c = λ (t : ℕ). map (λ ts. t ∷ ts) (k t) in
    ap (flat_map takes) (three_outer n outer) ∙ flat_map-append takes (c 0) (c 1 ++ c 2)
    ∙ ap₂ (λ x y. x ++ y) (flat_map-map takes (λ ts. 0 ∷ ts) (k 0)) (flat_map-append takes (c 1) (c 2) ∙ ap₂ (λ x y. x ++ y) (flat_map-map takes (λ ts. 1 ∷ ts) (k 1)) (flat_map-map takes (λ ts. 2 ∷ ts) (k 2)))

three_gives : (n : ℕ) (gives : Lists) (outer : List ℕ → Bool) → outer_gives (suc n) gives outer
    ≡ (outer_gives n (behind 2 gives) (behind 2 outer) ++ outer_gives n (behind 1 gives) (behind 1 outer)) ++ outer_gives n (behind 0 gives) (behind 0 outer)
three_gives n gives outer =
    let k = λ (t : ℕ). filter (behind t outer) (digit_lists n) in
    let c = λ (t : ℕ). map (λ ts. t ∷ ts) (k t) in
    let part : (t : ℕ) → flat_map gives (reverse (c t)) ≡ outer_gives n (behind t gives) (behind t outer) =
    λ t. ap (flat_map gives) (sym (map-reverse (λ ts. t ∷ ts) (k t))) ∙ flat_map-map gives (λ ts. t ∷ ts) (reverse (k t)) in
    ap (λ x. flat_map gives (reverse x)) (three_outer n outer) ∙ ap (flat_map gives) (reverse-append (c 0) (c 1 ++ c 2) ∙ ap (λ x. x ++ reverse (c 0)) (reverse-append (c 1) (c 2)))
    ∙ flat_map-append gives (reverse (c 2) ++ reverse (c 1)) (reverse (c 0))
    ∙ ap₂ (λ x y. x ++ y) (flat_map-append gives (reverse (c 2)) (reverse (c 1)) ∙ ap₂ (λ x y. x ++ y) (part 2) (part 1)) (part 0)

-- lists of nothing
outer_gives_none : (n : ℕ) (gives : Lists) (outer : List ℕ → Bool) → ((ts : List ℕ) → Digits3 n ts → outer ts ≡ true → gives ts ≡ []) → outer_gives n gives outer ≡ []
outer_gives_none n gives outer h = flat_map_none gives (reverse (filter outer (digit_lists n))) (Each-reverse _ (filter outer (digit_lists n)) (Each-weaker _ _ (λ ts d. h ts d.0 d.1) (filter outer (digit_lists n)) (Each-filter (Digits3 n) outer (digit_lists n) (digit_lists_below n))))

outer_takes_none : (n : ℕ) (takes : Lists) (outer : List ℕ → Bool) → ((ts : List ℕ) → Digits3 n ts → outer ts ≡ true → takes ts ≡ []) → outer_takes n takes outer ≡ []
outer_takes_none n takes outer h = flat_map_none takes (filter outer (digit_lists n)) (Each-weaker _ _ (λ ts d. h ts d.0 d.1) (filter outer (digit_lists n)) (Each-filter (Digits3 n) outer (digit_lists n) (digit_lists_below n)))

-- a block at the outer face
outer_block : (n : ℕ) (takes gives : Lists) (touches : Touching) (outer : List ℕ → Bool) → ((ts : List ℕ) → Digits3 n ts → outer ts ≡ true) → OneWay n takes gives outer → Apart n takes gives touches outer
    → (rest : List Place) → Free n touches rest → StretchesApart (child_stretches n takes gives touches) (outer_takes n takes outer ++ rest) (outer_gives n gives outer ++ rest)
outer_block n takes gives touches outer all one apart rest free =
    let every : filter outer (digit_lists n) ≡ digit_lists n = filter_all outer (digit_lists n) (Each-weaker (Digits3 n) _ all (digit_lists n) (digit_lists_below n)) in
    let fr : Each (λ ts. Untouched (touches ts) rest) (digit_lists n) = Each-weaker (Digits3 n) _ free (digit_lists n) (digit_lists_below n) in
    elim one [
      | inl none ↦ subst₂ (λ x y. StretchesApart (child_stretches n takes gives touches) (x ++ rest) (y ++ rest)) (sym (outer_takes_none n takes outer none)) (ap (λ z. flat_map gives (reverse z)) (sym every))
          (all_give takes gives touches (digit_lists n) rest (Each-weaker (Digits3 n) _ (λ ts d. none ts d (all ts d)) (digit_lists n) (digit_lists_below n))
          (ordered_digits n (λ x y. Untouched (touches y) (gives x)) (λ x y d e l. apart.earlier x y d e l (all x d))) fr)
      | inr none ↦ subst₂ (λ x y. StretchesApart (child_stretches n takes gives touches) (x ++ rest) (y ++ rest)) (ap (flat_map takes) (sym every)) (sym (outer_gives_none n gives outer none))
          (all_take takes gives touches (digit_lists n) rest (Each-weaker (Digits3 n) _ (λ ts d. none ts d (all ts d)) (digit_lists n) (digit_lists_below n))
          (ordered_digits n (λ x y. Untouched (touches x) (takes y)) (λ x y d e l. apart.later x y d e l (all y e))) fr)
    ]

-- two blocks that meet leave the stack as it was
meeting_blocks : (n : ℕ) (takes gives next_takes next_gives : Lists) (touches next_touches : Touching) → ((ts : List ℕ) → Digits3 n ts → gives ts ≡ next_takes (complement ts)) → ((ts : List ℕ) → Digits3 n ts → takes ts ≡ []) → ((ts : List ℕ) → Digits3 n ts → next_gives ts ≡ [])
    → GivesEarlier n gives touches → TakesLater n next_takes next_touches
    → (rest : List Place) → Free n touches rest → Free n next_touches rest → StretchesApart (child_stretches n takes gives touches ++ child_stretches n next_takes next_gives next_touches) rest rest
meeting_blocks n takes gives next_takes next_gives touches next_touches agree none next_none given taken rest free next_free =
    let back : flat_map gives (reverse (digit_lists n)) ≡ flat_map next_takes (digit_lists n) =
    flat_map_same gives (λ ts. next_takes (complement ts)) (reverse (digit_lists n)) (Each-reverse _ (digit_lists n) (Each-weaker (Digits3 n) _ agree (digit_lists n) (digit_lists_below n)))
    ∙ sym (flat_map-map next_takes complement (reverse (digit_lists n)))
    ∙ ap (flat_map next_takes) (map-reverse complement (digit_lists n) ∙ ap reverse (sym (reverse-digit_lists n)) ∙ reverse-reverse (digit_lists n)) in
    StretchesApart-append (child_stretches n takes gives touches) (child_stretches n next_takes next_gives next_touches) rest (flat_map gives (reverse (digit_lists n)) ++ rest) rest
    (all_give takes gives touches (digit_lists n) rest (Each-weaker (Digits3 n) _ none (digit_lists n) (digit_lists_below n))
    (ordered_digits n (λ x y. Untouched (touches y) (gives x)) given) (Each-weaker (Digits3 n) _ free (digit_lists n) (digit_lists_below n)))
    (subst (λ z. StretchesApart (child_stretches n next_takes next_gives next_touches) (z ++ rest) rest) (sym back)
    (all_take next_takes next_gives next_touches (digit_lists n) rest (Each-weaker (Digits3 n) _ next_none (digit_lists n) (digit_lists_below n))
    (ordered_digits n (λ x y. Untouched (next_touches x) (next_takes y)) taken) (Each-weaker (Digits3 n) _ next_free (digit_lists n) (digit_lists_below n))))

meet_here : (n : ℕ) (takes gives : Lists) (touches : Touching) (outer : List ℕ → Bool) (first : ℕ) → first < 2
    → ((ts : List ℕ) → Digits3 n ts → gives (first ∷ ts) ≡ takes ((first + 1) ∷ complement ts))
    → ((ts : List ℕ) → Digits3 n ts → takes (first ∷ ts) ≡ []) → ((ts : List ℕ) → Digits3 n ts → gives ((first + 1) ∷ ts) ≡ [])
    → GivesEarlier n (behind first gives) (behind first touches) → TakesLater n (behind (first + 1) takes) (behind (first + 1) touches)
    → ((ts : List ℕ) → Digits3 n ts → outer (first ∷ ts) ≡ false) → ((ts : List ℕ) → Digits3 n ts → outer ((first + 1) ∷ ts) ≡ false)
    → ((t : ℕ) → t < 3 → t ≢ first → t ≢ first + 1 → (ts : List ℕ) → Digits3 n ts → outer (t ∷ ts) ≡ true)
    → OneWay (suc n) takes gives outer → Apart (suc n) takes gives touches outer → (rest : List Place) → Free (suc n) touches rest
    → StretchesApart (child_stretches (suc n) takes gives touches) (outer_takes (suc n) takes outer ++ rest) (outer_gives (suc n) gives outer ++ rest)
meet_here n takes gives touches outer zero low agree none next_none given taken inner inner_next outside one apart rest free =
    let c = λ (t : ℕ). child_stretches n (behind t takes) (behind t gives) (behind t touches) in
    let k0 = filter_none (behind 0 outer) (digit_lists n) (Each-weaker (Digits3 n) _ inner (digit_lists n) (digit_lists_below n)) in
    let k1 = filter_none (behind 1 outer) (digit_lists n) (Each-weaker (Digits3 n) _ inner_next (digit_lists n) (digit_lists_below n)) in
    let a2 = outer_takes n (behind 2 takes) (behind 2 outer) in
    let l2 = outer_gives n (behind 2 gives) (behind 2 outer) in
    let a : outer_takes (suc n) takes outer ≡ a2 =
    three_takes n takes outer ∙ ap₂ (λ x y. flat_map (behind 0 takes) x ++ (flat_map (behind 1 takes) y ++ outer_takes n (behind 2 takes) (behind 2 outer))) k0 k1 in
    let l : outer_gives (suc n) gives outer ≡ l2 =
    three_gives n gives outer ∙ ap₂ (λ x y. (outer_gives n (behind 2 gives) (behind 2 outer) ++ flat_map (behind 1 gives) (reverse y)) ++ flat_map (behind 0 gives) (reverse x)) k0 k1
    ∙ append-nil _ ∙ append-nil _ in
    let s = StretchesApart-append (c 0 ++ c 1) (c 2) (a2 ++ rest) (a2 ++ rest) (l2 ++ rest)
    (meeting_blocks n (behind 0 takes) (behind 0 gives) (behind 1 takes) (behind 1 gives) (behind 0 touches) (behind 1 touches) agree none next_none given taken (a2 ++ rest)
    (free_append n (behind 0 touches) a2 rest (free_later n 0 2 takes gives touches outer (omega arith) (omega arith) apart) (λ ts d. free (0 ∷ ts) (omega arith, d)))
    (free_append n (behind 1 touches) a2 rest (free_later n 1 2 takes gives touches outer (omega arith) (omega arith) apart) (λ ts d. free (1 ∷ ts) (omega arith, d))))
    (outer_block n (behind 2 takes) (behind 2 gives) (behind 2 touches) (behind 2 outer) (outside 2 (omega arith) (omega arith) (omega arith)) (one_behind n 2 takes gives outer (omega arith) one)
    (apart_behind n 2 takes gives touches outer (omega arith) apart) rest (λ ts d. free (2 ∷ ts) (omega arith, d))) in
    subst₂ (λ x y. StretchesApart (child_stretches (suc n) takes gives touches) (x ++ rest) (y ++ rest)) (sym a) (sym l)
    (subst (λ z. StretchesApart z (a2 ++ rest) (l2 ++ rest)) (append_assoc (c 0) (c 1) (c 2) ∙ sym (three_stretches n takes gives touches)) s)
meet_here n takes gives touches outer (suc zero) low agree none next_none given taken inner inner_next outside one apart rest free =
    let c = λ (t : ℕ). child_stretches n (behind t takes) (behind t gives) (behind t touches) in
    let k1 = filter_none (behind 1 outer) (digit_lists n) (Each-weaker (Digits3 n) _ inner (digit_lists n) (digit_lists_below n)) in
    let k2 = filter_none (behind 2 outer) (digit_lists n) (Each-weaker (Digits3 n) _ inner_next (digit_lists n) (digit_lists_below n)) in
    let a0 = outer_takes n (behind 0 takes) (behind 0 outer) in
    let l0 = outer_gives n (behind 0 gives) (behind 0 outer) in
    let a : outer_takes (suc n) takes outer ≡ a0 =
    three_takes n takes outer ∙ ap₂ (λ x y. outer_takes n (behind 0 takes) (behind 0 outer) ++ (flat_map (behind 1 takes) x ++ flat_map (behind 2 takes) y)) k1 k2 ∙ append-nil _ in
    let l : outer_gives (suc n) gives outer ≡ l0 =
    three_gives n gives outer ∙ ap₂ (λ x y. (flat_map (behind 2 gives) (reverse y) ++ flat_map (behind 1 gives) (reverse x)) ++ outer_gives n (behind 0 gives) (behind 0 outer)) k1 k2 in
    let s = StretchesApart-append (c 0) (c 1 ++ c 2) (a0 ++ rest) (l0 ++ rest) (l0 ++ rest)
    (outer_block n (behind 0 takes) (behind 0 gives) (behind 0 touches) (behind 0 outer) (outside 0 (omega arith) (omega arith) (omega arith)) (one_behind n 0 takes gives outer (omega arith) one)
    (apart_behind n 0 takes gives touches outer (omega arith) apart) rest (λ ts d. free (0 ∷ ts) (omega arith, d)))
    (meeting_blocks n (behind 1 takes) (behind 1 gives) (behind 2 takes) (behind 2 gives) (behind 1 touches) (behind 2 touches) agree none next_none given taken (l0 ++ rest)
    (free_append n (behind 1 touches) l0 rest (free_earlier n 0 1 takes gives touches outer (omega arith) (omega arith) apart) (λ ts d. free (1 ∷ ts) (omega arith, d)))
    (free_append n (behind 2 touches) l0 rest (free_earlier n 0 2 takes gives touches outer (omega arith) (omega arith) apart) (λ ts d. free (2 ∷ ts) (omega arith, d)))) in
    subst₂ (λ x y. StretchesApart (child_stretches (suc n) takes gives touches) (x ++ rest) (y ++ rest)) (sym a) (sym l)
    (subst (λ z. StretchesApart z (a0 ++ rest) (l0 ++ rest)) (sym (three_stretches n takes gives touches)) s)
meet_here n takes gives touches outer (suc (suc first)) low agree none next_none given taken inner inner_next outside one apart rest free = absurd (omega arith)

-- three parts one after another, each on what it does not touch
three_blocks : (c0 c1 c2 : List Stretch) (f0 f1 f2 : List Place → Type 0) (a0 a1 a2 l0 l1 l2 rest : List Place)
    → ((r : List Place) → f0 r → StretchesApart c0 (a0 ++ r) (l0 ++ r)) → ((r : List Place) → f1 r → StretchesApart c1 (a1 ++ r) (l1 ++ r)) → ((r : List Place) → f2 r → StretchesApart c2 (a2 ++ r) (l2 ++ r))
    → ((a0 ≡ []) × (a1 ≡ []) × (a2 ≡ [])) ⊎ ((l0 ≡ []) × (l1 ≡ []) × (l2 ≡ []))
    → f0 (a1 ++ (a2 ++ rest)) → f0 rest → f1 (a2 ++ rest) → f1 (l0 ++ rest) → f2 rest → f2 (l1 ++ (l0 ++ rest))
    → StretchesApart (c0 ++ (c1 ++ c2)) ((a0 ++ (a1 ++ a2)) ++ rest) (((l2 ++ l1) ++ l0) ++ rest)
three_blocks c0 c1 c2 f0 f1 f2 a0 a1 a2 l0 l1 l2 rest s0 s1 s2 none g0 h0 g1 h1 g2 h2 = elim none [
  | inl e ↦ subst₂ (StretchesApart (c0 ++ (c1 ++ c2)))
      (ap₂ (λ x y. (x ++ y) ++ rest) (sym e.0) (ap₂ (λ x y. x ++ y) (sym e.1) (sym e.2)))
      (sym (append_assoc l2 l1 (l0 ++ rest)) ∙ sym (append_assoc (l2 ++ l1) l0 rest))
      (StretchesApart-append c0 (c1 ++ c2) rest (l0 ++ rest) (l2 ++ (l1 ++ (l0 ++ rest))) (subst (λ z. StretchesApart c0 (z ++ rest) (l0 ++ rest)) e.0 (s0 rest h0))
      (StretchesApart-append c1 c2 (l0 ++ rest) (l1 ++ (l0 ++ rest)) (l2 ++ (l1 ++ (l0 ++ rest))) (subst (λ z. StretchesApart c1 (z ++ (l0 ++ rest)) (l1 ++ (l0 ++ rest))) e.1 (s1 (l0 ++ rest) h1))
      (subst (λ z. StretchesApart c2 (z ++ (l1 ++ (l0 ++ rest))) (l2 ++ (l1 ++ (l0 ++ rest)))) e.2 (s2 (l1 ++ (l0 ++ rest)) h2))))
  | inr e ↦ subst₂ (StretchesApart (c0 ++ (c1 ++ c2)))
      (ap (λ z. a0 ++ z) (sym (append_assoc a1 a2 rest)) ∙ sym (append_assoc a0 (a1 ++ a2) rest))
      (ap₂ (λ x y. (x ++ y) ++ rest) (ap₂ (λ x y. x ++ y) (sym e.2) (sym e.1)) (sym e.0))
      (StretchesApart-append c0 (c1 ++ c2) (a0 ++ (a1 ++ (a2 ++ rest))) (a1 ++ (a2 ++ rest)) rest (subst (λ z. StretchesApart c0 (a0 ++ (a1 ++ (a2 ++ rest))) (z ++ (a1 ++ (a2 ++ rest)))) e.0 (s0 (a1 ++ (a2 ++ rest)) g0))
      (StretchesApart-append c1 c2 (a1 ++ (a2 ++ rest)) (a2 ++ rest) rest (subst (λ z. StretchesApart c1 (a1 ++ (a2 ++ rest)) (z ++ (a2 ++ rest))) e.1 (s1 (a2 ++ rest) g1))
      (subst (λ z. StretchesApart c2 (a2 ++ rest) (z ++ rest)) e.2 (s2 rest g2))))
]

-- The stretches of the children take the lists of the outer face off the stack and leave the others there.
pub blocks : (axis n : ℕ) (takes gives : Lists) (touches : Touching) (outer : List ℕ → Bool) → MeetBehind axis n takes gives touches outer → OneWay n takes gives outer → Apart n takes gives touches outer
    → (rest : List Place) → Free n touches rest → StretchesApart (child_stretches n takes gives touches) (outer_takes n takes outer ++ rest) (outer_gives n gives outer ++ rest)
blocks axis zero takes gives touches outer m one apart rest free = absurd (omega arith)
blocks zero (suc n) takes gives touches outer m one apart rest free =
    meet_here n takes gives touches outer m.first m.low m.agree m.takes_none m.gives_none m.gives_apart m.takes_apart m.inner m.inner_next m.outside one apart rest free
blocks (suc axis) (suc n) takes gives touches outer m one apart rest free =
    let c = λ (t : ℕ). child_stretches n (behind t takes) (behind t gives) (behind t touches) in
    let a = λ (t : ℕ). outer_takes n (behind t takes) (behind t outer) in
    let l = λ (t : ℕ). outer_gives n (behind t gives) (behind t outer) in
    let f = λ (t : ℕ). Free n (behind t touches) in
    let part : (t : ℕ) → t < 3 → (r : List Place) → f t r → StretchesApart (c t) (a t ++ r) (l t ++ r) =
    λ t h r g. blocks axis n (behind t takes) (behind t gives) (behind t touches) (behind t outer) (m t h) (one_behind n t takes gives outer h one) (apart_behind n t takes gives touches outer h apart) r g in
    let none : ((a 0 ≡ []) × (a 1 ≡ []) × (a 2 ≡ [])) ⊎ ((l 0 ≡ []) × (l 1 ≡ []) × (l 2 ≡ [])) = elim one [
      | inl e ↦ inl (outer_takes_none n _ _ (λ ts d o. e (0 ∷ ts) (omega arith, d) o), outer_takes_none n _ _ (λ ts d o. e (1 ∷ ts) (omega arith, d) o), outer_takes_none n _ _ (λ ts d o. e (2 ∷ ts) (omega arith, d) o))
      | inr e ↦ inr (outer_gives_none n _ _ (λ ts d o. e (0 ∷ ts) (omega arith, d) o), outer_gives_none n _ _ (λ ts d o. e (1 ∷ ts) (omega arith, d) o), outer_gives_none n _ _ (λ ts d o. e (2 ∷ ts) (omega arith, d) o))
    ] in
    let r : (t : ℕ) → t < 3 → f t rest = λ t h ts d. free (t ∷ ts) (h, d) in
    let up : (s t : ℕ) → s < t → t < 3 → f s (a t) = λ s t h b. free_later n s t takes gives touches outer h b apart in
    let down : (s t : ℕ) → s < t → t < 3 → f t (l s) = λ s t h b. free_earlier n s t takes gives touches outer h b apart in
    subst (λ z. StretchesApart z (outer_takes (suc n) takes outer ++ rest) (outer_gives (suc n) gives outer ++ rest)) (sym (three_stretches n takes gives touches))
    (subst₂ (λ x y. StretchesApart (c 0 ++ (c 1 ++ c 2)) (x ++ rest) (y ++ rest)) (sym (three_takes n takes outer)) (sym (three_gives n gives outer))
    (three_blocks (c 0) (c 1) (c 2) (f 0) (f 1) (f 2) (a 0) (a 1) (a 2) (l 0) (l 1) (l 2) rest (part 0 (omega arith)) (part 1 (omega arith)) (part 2 (omega arith)) none
    (free_append n _ (a 1) (a 2 ++ rest) (up 0 1 (omega arith) (omega arith)) (free_append n _ (a 2) rest (up 0 2 (omega arith) (omega arith)) (r 0 (omega arith))))
    (r 0 (omega arith))
    (free_append n _ (a 2) rest (up 1 2 (omega arith) (omega arith)) (r 1 (omega arith)))
    (free_append n _ (l 0) rest (down 0 1 (omega arith) (omega arith)) (r 1 (omega arith)))
    (r 2 (omega arith))
    (free_append n _ (l 1) (l 0 ++ rest) (down 1 2 (omega arith) (omega arith)) (free_append n _ (l 0) rest (down 0 2 (omega arith) (omega arith)) (r 2 (omega arith))))))

-- it is enough that they meet behind each list of digits before the axis
pub meet_behind : (axis n : ℕ) (takes gives : Lists) (touches : Touching) (outer : List ℕ → Bool)
    → ((us : List ℕ) (m : ℕ) → length us ≡ axis → n ≡ length us + suc m → Each (λ u. u < 3) us → Meet m (λ ts. takes (us ++ ts)) (λ ts. gives (us ++ ts)) (λ ts. touches (us ++ ts)) (λ ts. outer (us ++ ts)))
    → axis < n → MeetBehind axis n takes gives touches outer
meet_behind axis zero takes gives touches outer h a = absurd (omega arith)
meet_behind zero (suc n) takes gives touches outer h a = h [] n refl (omega arith) tt
meet_behind (suc axis) (suc n) takes gives touches outer h a = λ t b.
    meet_behind axis n (behind t takes) (behind t gives) (behind t touches) (behind t outer) (λ us m l e d. h (t ∷ us) m (ap suc l) (omega arith) (b, d)) (omega arith)
