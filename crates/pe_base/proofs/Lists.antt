-- Lists made by `map`, `flat_map`, `filter` and `reverse`.
use Rattle.std.proofs.Common.{◌≡◌, Bool, true, false, cond, ◌&&◌, ◌||◌, ◌⊎◌, ◌≤◌, true≢false, inl, inr, List, [], ◌∷◌, ◌++◌, map, reverse, filter, refl, sym, ap, ap₂, ◌∙◌, append-nil, subst, arith}
use Rattle.std.specs.List.{flat_map, list_any, AllByRecursion as Each}
use Rattle.std.proofs.lemmas.List.{reverse-append, map-append}
use Rattle.std.proofs.lemmas.List.Elements.{filter-append}
use Rattle.std.proofs.lemmas.List.Concat.{flat_map-append}

pub Each-weaker : {X : Type 0} (P Q : X → Type 0) → ((x : X) → P x → Q x) → (xs : List X) → Each P xs → Each Q xs
Each-weaker P Q h [] e = tt
Each-weaker P Q h (x ∷ xs) e = (h x e.0, Each-weaker P Q h xs e.1)

pub Each-both : {X : Type 0} (P Q R : X → Type 0) → ((x : X) → P x → Q x → R x) → (xs : List X) → Each P xs → Each Q xs → Each R xs
Each-both P Q R h [] e f = tt
Each-both P Q R h (x ∷ xs) e f = (h x e.0 f.0, Each-both P Q R h xs e.1 f.1)

pub Each-append : {X : Type 0} (P : X → Type 0) (xs ys : List X) → Each P xs → Each P ys → Each P (xs ++ ys)
Each-append P [] ys e f = f
Each-append P (x ∷ xs) ys e f = (e.0, Each-append P xs ys e.1 f)

pub Each-map : {X Y : Type 0} (P : Y → Type 0) (f : X → Y) (xs : List X) → Each (λ x. P (f x)) xs → Each P (map f xs)
Each-map P f [] e = tt
Each-map P f (x ∷ xs) e = (e.0, Each-map P f xs e.1)

pub Each-all : {X : Type 0} (P : X → Type 0) → ((x : X) → P x) → (xs : List X) → Each P xs
Each-all P h [] = tt
Each-all P h (x ∷ xs) = (h x, Each-all P h xs)

pub Each-flat_map : {X Y : Type 0} (P : Y → Type 0) (f : X → List Y) (xs : List X) → Each (λ x. Each P (f x)) xs → Each P (flat_map f xs)
Each-flat_map P f [] e = tt
Each-flat_map P f (x ∷ xs) e = Each-append P (f x) (flat_map f xs) e.0 (Each-flat_map P f xs e.1)

pub map-map : {X Y Z : Type 0} (g : Y → Z) (f : X → Y) (xs : List X) → map g (map f xs) ≡ map (λ x. g (f x)) xs
map-map g f [] = refl
map-map g f (x ∷ xs) = ap (λ r. g (f x) ∷ r) (map-map g f xs)

pub map_same : {X Y : Type 0} (f g : X → Y) (xs : List X) → Each (λ x. f x ≡ g x) xs → map f xs ≡ map g xs
map_same f g [] e = refl
map_same f g (x ∷ xs) e = ap₂ (λ y r. y ∷ r) e.0 (map_same f g xs e.1)

pub flat_map_same : {X Y : Type 0} (f g : X → List Y) (xs : List X) → Each (λ x. f x ≡ g x) xs → flat_map f xs ≡ flat_map g xs
flat_map_same f g [] e = refl
flat_map_same f g (x ∷ xs) e = ap₂ (λ y r. y ++ r) e.0 (flat_map_same f g xs e.1)

pub flat_map_none : {X Y : Type 0} (f : X → List Y) (xs : List X) → Each (λ x. f x ≡ []) xs → flat_map f xs ≡ []
flat_map_none f [] e = refl
flat_map_none f (x ∷ xs) e = ap₂ (λ y r. y ++ r) e.0 (flat_map_none f xs e.1)

pub map-flat_map : {X Y Z : Type 0} (g : Y → Z) (f : X → List Y) (xs : List X) → map g (flat_map f xs) ≡ flat_map (λ x. map g (f x)) xs
map-flat_map g f [] = refl
map-flat_map g f (x ∷ xs) = map-append g (f x) (flat_map f xs) ∙ ap (λ r. map g (f x) ++ r) (map-flat_map g f xs)

pub flat_map-flat_map : {X Y Z : Type 0} (g : Y → List Z) (f : X → List Y) (xs : List X) → flat_map g (flat_map f xs) ≡ flat_map (λ x. flat_map g (f x)) xs
flat_map-flat_map g f [] = refl
flat_map-flat_map g f (x ∷ xs) = flat_map-append g (f x) (flat_map f xs) ∙ ap (λ r. flat_map g (f x) ++ r) (flat_map-flat_map g f xs)

pub filter-flat_map : {X Y : Type 0} (p : Y → Bool) (f : X → List Y) (xs : List X) → filter p (flat_map f xs) ≡ flat_map (λ x. filter p (f x)) xs
filter-flat_map p f [] = refl
filter-flat_map p f (x ∷ xs) = filter-append p (f x) (flat_map f xs) ∙ ap (λ r. filter p (f x) ++ r) (filter-flat_map p f xs)

pub reverse-cons : {X : Type 0} (x : X) (xs : List X) → reverse (x ∷ xs) ≡ reverse xs ++ (x ∷ [])
reverse-cons x xs = reverse-append (x ∷ []) xs

pub reverse-flat_map : {X Y : Type 0} (f : X → List Y) (xs : List X) → reverse (flat_map f xs) ≡ flat_map (λ x. reverse (f x)) (reverse xs)
reverse-flat_map f [] = refl
reverse-flat_map f (x ∷ xs) =
    reverse-append (f x) (flat_map f xs) ∙ ap (λ r. r ++ reverse (f x)) (reverse-flat_map f xs)
    ∙ ap (λ r. flat_map (λ y. reverse (f y)) (reverse xs) ++ r) (sym (append-nil (reverse (f x))))
    ∙ sym (flat_map-append (λ y. reverse (f y)) (reverse xs) (x ∷ []))
    ∙ ap (flat_map (λ y. reverse (f y))) (sym (reverse-cons x xs))

pub map-reverse : {X Y : Type 0} (f : X → Y) (xs : List X) → map f (reverse xs) ≡ reverse (map f xs)
map-reverse f [] = refl
map-reverse f (x ∷ xs) =
    ap (map f) (reverse-cons x xs) ∙ map-append f (reverse xs) (x ∷ []) ∙ ap (λ r. r ++ (f x ∷ [])) (map-reverse f xs)
    ∙ sym (reverse-cons (f x) (map f xs))

pub filter-map : {X Y : Type 0} (p : Y → Bool) (f : X → Y) (xs : List X) → filter p (map f xs) ≡ map f (filter (λ x. p (f x)) xs)
filter-map p f [] = refl
filter-map p f (x ∷ xs) = go (p (f x)) (filter-map p f xs)
  where
    go : (b : Bool) → filter p (map f xs) ≡ map f (filter (λ y. p (f y)) xs)
        → cond b (f x ∷ filter p (map f xs)) (filter p (map f xs)) ≡ map f (cond b (x ∷ filter (λ y. p (f y)) xs) (filter (λ y. p (f y)) xs))
    go true e = ap (λ r. f x ∷ r) e
    go false e = e

pub filter-reverse : {X : Type 0} (p : X → Bool) (xs : List X) → filter p (reverse xs) ≡ reverse (filter p xs)
filter-reverse p [] = refl
filter-reverse p (x ∷ xs) =
    ap (filter p) (reverse-cons x xs) ∙ filter-append p (reverse xs) (x ∷ []) ∙ ap (λ r. r ++ filter p (x ∷ [])) (filter-reverse p xs)
    ∙ go (p x)
  where
    go : (b : Bool) → reverse (filter p xs) ++ cond b (x ∷ []) [] ≡ reverse (cond b (x ∷ filter p xs) (filter p xs))
    go true = sym (reverse-cons x (filter p xs))
    go false = append-nil (reverse (filter p xs))

pub filter_same : {X : Type 0} (p q : X → Bool) (xs : List X) → Each (λ x. p x ≡ q x) xs → filter p xs ≡ filter q xs
filter_same p q [] e = refl
filter_same p q (x ∷ xs) e = ap₂ (λ b r. cond b (x ∷ r) r) e.0 (filter_same p q xs e.1)

pub filter_none : {X : Type 0} (p : X → Bool) (xs : List X) → Each (λ x. p x ≡ false) xs → filter p xs ≡ []
filter_none p [] e = refl
filter_none p (x ∷ xs) e = ap₂ (λ b r. cond b (x ∷ r) r) e.0 (filter_none p xs e.1)

pub filter_all : {X : Type 0} (p : X → Bool) (xs : List X) → Each (λ x. p x ≡ true) xs → filter p xs ≡ xs
filter_all p [] e = refl
filter_all p (x ∷ xs) e = ap₂ (λ b r. cond b (x ∷ r) r) e.0 (filter_all p xs e.1)

-- items that give nothing may be left out
pub flat_map-filter : {X Y : Type 0} (f : X → List Y) (p : X → Bool) (xs : List X) → Each (λ x. p x ≡ false → f x ≡ []) xs → flat_map f xs ≡ flat_map f (filter p xs)
flat_map-filter f p [] e = refl
flat_map-filter f p (x ∷ xs) e = ap (λ r. f x ++ r) (flat_map-filter f p xs e.1) ∙ go (p x) e.0
  where
    go : (b : Bool) → (b ≡ false → f x ≡ []) → f x ++ flat_map f (filter p xs) ≡ flat_map f (cond b (x ∷ filter p xs) (filter p xs))
    go true h = refl
    go false h = ap (λ r. r ++ flat_map f (filter p xs)) (h refl)

-- what a filter keeps passes, and it keeps what held of each
pub Each-filter : {X : Type 0} (P : X → Type 0) (p : X → Bool) (xs : List X) → Each P xs → Each (λ x. P x × (p x ≡ true)) (filter p xs)
Each-filter P p [] e = tt
Each-filter P p (x ∷ xs) e = go (p x) refl (Each-filter P p xs e.1)
  where
    go : (b : Bool) → p x ≡ b → Each (λ y. P y × (p y ≡ true)) (filter p xs) → Each (λ y. P y × (p y ≡ true)) (cond b (x ∷ filter p xs) (filter p xs))
    go true is r = ((e.0, is), r)
    go false is r = r

pub filter-filter : {X : Type 0} (p q : X → Bool) (xs : List X) → filter (λ x. q x && p x) xs ≡ filter p (filter q xs)
filter-filter p q [] = refl
filter-filter p q (x ∷ xs) = go (q x) (filter-filter p q xs)
  where
    go : (b : Bool) → filter (λ y. q y && p y) xs ≡ filter p (filter q xs)
        → cond (b && p x) (x ∷ filter (λ y. q y && p y) xs) (filter (λ y. q y && p y) xs) ≡ filter p (cond b (x ∷ filter q xs) (filter q xs))
    go true e = ap (λ r. cond (p x) (x ∷ r) r) e
    go false e = e

pub Each-reverse : {X : Type 0} (P : X → Type 0) (xs : List X) → Each P xs → Each P (reverse xs)
Each-reverse P [] e = tt
Each-reverse P (x ∷ xs) e = subst (Each P) (sym (reverse-cons x xs)) (Each-append P (reverse xs) (x ∷ []) (Each-reverse P xs e.1) (e.0, tt))

-- x is an item
abbrev pub In : {X : Type 0} → X → List X → Type 0
In x [] = 1 ≤ 0
In x (y ∷ ys) = (x ≡ y) ⊎ In x ys

pub In-append_left : {X : Type 0} (x : X) (xs ys : List X) → In x xs → In x (xs ++ ys)
In-append_left x [] ys h = absurd (omega arith)
In-append_left x (y ∷ xs) ys h = elim h [ inl e ↦ inl e | inr k ↦ inr (In-append_left x xs ys k) ]

pub In-append_right : {X : Type 0} (x : X) (xs ys : List X) → In x ys → In x (xs ++ ys)
In-append_right x [] ys h = h
In-append_right x (y ∷ xs) ys h = inr (In-append_right x xs ys h)

pub In-map : {X Y : Type 0} (f : X → Y) (x : X) (xs : List X) → In x xs → In (f x) (map f xs)
In-map f x [] h = absurd (omega arith)
In-map f x (y ∷ xs) h = elim h [ inl e ↦ inl (ap f e) | inr k ↦ inr (In-map f x xs k) ]

pub In-flat_map : {X Y : Type 0} (f : X → List Y) (x : X) (y : Y) (xs : List X) → In x xs → In y (f x) → In y (flat_map f xs)
In-flat_map f x y [] h k = absurd (omega arith)
In-flat_map f x y (z ∷ xs) h k = elim h [
  | inl e ↦ In-append_left y (f z) (flat_map f xs) (subst (λ w. In y (f w)) e k)
  | inr i ↦ In-append_right y (f z) (flat_map f xs) (In-flat_map f x y xs i k)
]

pub In-filter : {X : Type 0} (p : X → Bool) (x : X) (xs : List X) → p x ≡ true → In x xs → In x (filter p xs)
In-filter p x [] t h = absurd (omega arith)
In-filter p x (y ∷ xs) t h = go (p y) refl (λ k. In-filter p x xs t k) h
  where
    go : (b : Bool) → p y ≡ b → (In x xs → In x (filter p xs)) → (x ≡ y) ⊎ In x xs → In x (cond b (y ∷ filter p xs) (filter p xs))
    go true is rest k = elim k [ inl e ↦ inl e | inr i ↦ inr (rest i) ]
    go false is rest k = elim k [ inl e ↦ absurd (true≢false (sym t ∙ ap p e ∙ is)) | inr i ↦ rest i ]

pub In-reverse : {X : Type 0} (x : X) (xs : List X) → In x xs → In x (reverse xs)
In-reverse x [] h = absurd (omega arith)
In-reverse x (y ∷ xs) h = subst (In x) (sym (reverse-cons y xs)) (elim h [ inl e ↦ In-append_right x (reverse xs) (y ∷ []) (inl e) | inr k ↦ In-append_left x (reverse xs) (y ∷ []) (In-reverse x xs k) ])

pub Each-In : {X : Type 0} (P : X → Type 0) (x : X) (xs : List X) → Each P xs → In x xs → P x
Each-In P x [] e h = absurd (omega arith)
Each-In P x (y ∷ xs) e h = elim h [ inl is ↦ subst P (sym is) e.0 | inr k ↦ Each-In P x xs e.1 k ]

-- tests that no item passes
pub list_any_none : {X : Type 0} (p : X → Bool) (xs : List X) → Each (λ x. p x ≡ false) xs → list_any p xs ≡ false
list_any_none p [] e = refl
list_any_none p (x ∷ xs) e = ap₂ (λ a b. a || b) e.0 (list_any_none p xs e.1)

pub list_any_same : {X : Type 0} (p q : X → Bool) (xs : List X) → Each (λ x. p x ≡ q x) xs → list_any p xs ≡ list_any q xs
list_any_same p q [] h = refl
list_any_same p q (x ∷ xs) h = ap₂ (λ a b. a || b) h.0 (list_any_same p q xs h.1)

or_left : (a b : Bool) → (a || b) ≡ false → a ≡ false
or_left true b h = h
or_left false b h = refl

or_right : (a b : Bool) → (a || b) ≡ false → b ≡ false
or_right true b h = absurd (true≢false h)
or_right false b h = h

pub none_Each : {X : Type 0} (p : X → Bool) (xs : List X) → list_any p xs ≡ false → Each (λ x. p x ≡ false) xs
none_Each p [] h = tt
none_Each p (x ∷ xs) h = (or_left (p x) (list_any p xs) h, none_Each p xs (or_right (p x) (list_any p xs) h))

pub Each-left : {X : Type 0} (P : X → Type 0) (xs ys : List X) → Each P (xs ++ ys) → Each P xs
Each-left P [] ys e = tt
Each-left P (x ∷ xs) ys e = (e.0, Each-left P xs ys e.1)

pub Each-right : {X : Type 0} (P : X → Type 0) (xs ys : List X) → Each P (xs ++ ys) → Each P ys
Each-right P [] ys e = e
Each-right P (x ∷ xs) ys e = Each-right P xs ys e.1

pub Each-parts : {X Y : Type 0} (P : Y → Type 0) (f : X → List Y) (xs : List X) → Each P (flat_map f xs) → Each (λ x. Each P (f x)) xs
Each-parts P f [] e = tt
Each-parts P f (x ∷ xs) e = (Each-left P (f x) (flat_map f xs) e, Each-parts P f xs (Each-right P (f x) (flat_map f xs) e))
