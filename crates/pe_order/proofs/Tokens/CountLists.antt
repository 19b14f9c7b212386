-- Counts over lists made from others.
use Rattle.std.proofs.Common.{◌≡◌, ℕ, ◌+◌, ◌≤◌, Bool, true, false, not, cond, ◌&&◌, List, [], ◌∷◌, ◌++◌, map, filter, reverse, length, refl, ap, ◌∙◌, arith}
use Rattle.std.specs.Prelude.{sum_by, count_by}
use Rattle.std.specs.List.{flat_map, AllByRecursion as Each}
use Rattle.std.proofs.lemmas.List.Sums.{sum_by-cons, sum_by-append}
use Rattle.pe_base.proofs.Lists.{reverse-cons}
use Rattle.pe_order.proofs.Tokens.Apart.{one_if}

pub count-cons : {X : Type 0} (p : X → Bool) (x : X) (xs : List X) → count_by p (x ∷ xs) ≡ one_if (p x) + count_by p xs
count-cons p x xs = sum_by-cons (λ y. one_if (p y)) x xs

pub count-append : {X : Type 0} (p : X → Bool) (xs ys : List X) → count_by p (xs ++ ys) ≡ count_by p xs + count_by p ys
count-append p xs ys = sum_by-append (λ x. one_if (p x)) xs ys

pub count-flat_map : {X Y : Type 0} (p : Y → Bool) (f : X → List Y) (xs : List X) → count_by p (flat_map f xs) ≡ sum_by (λ x. count_by p (f x)) xs
count-flat_map p f [] = refl
count-flat_map p f (x ∷ xs) = count-append p (f x) (flat_map f xs) ∙ omega (arith, count-flat_map p f xs, sum_by-cons (λ z. count_by p (f z)) x xs)

pub count-reverse : {X : Type 0} (p : X → Bool) (xs : List X) → count_by p (reverse xs) ≡ count_by p xs
count-reverse p [] = refl
count-reverse p (x ∷ xs) = ap (count_by p) (reverse-cons x xs) ∙ count-append p (reverse xs) (x ∷ []) ∙ omega (arith, count-reverse p xs, count-cons p x xs, count-cons p x [])

pub count-map : {X Y : Type 0} (p : Y → Bool) (f : X → Y) (xs : List X) → count_by p (map f xs) ≡ count_by (λ x. p (f x)) xs
count-map p f [] = refl
count-map p f (x ∷ xs) = omega (arith, count-cons p (f x) (map f xs), count-map p f xs, count-cons (λ y. p (f y)) x xs)

pub count-both : {X : Type 0} (a b : X → Bool) (xs : List X) → count_by (λ x. a x && b x) xs ≡ count_by b (filter a xs)
count-both a b [] = refl
count-both a b (x ∷ xs) = count-cons (λ y. a y && b y) x xs ∙ go (a x) (count-both a b xs)
  where
    go : (c : Bool) → count_by (λ y. a y && b y) xs ≡ count_by b (filter a xs) → one_if (c && b x) + count_by (λ y. a y && b y) xs ≡ count_by b (cond c (x ∷ filter a xs) (filter a xs))
    go true e = omega (arith, e, count-cons b x (filter a xs))
    go false e = omega (arith, e)

pub count-not : {X : Type 0} (p : X → Bool) (xs : List X) → count_by (λ x. not (p x)) xs + count_by p xs ≡ length xs
count-not p [] = refl
count-not p (x ∷ xs) = omega (arith, count-not p xs, count-cons (λ y. not (p y)) x xs, count-cons p x xs, either (p x))
  where
    either : (b : Bool) → one_if (not b) + one_if b ≡ 1
    either true = refl
    either false = refl

-- a sum of terms that are no greater
pub sum-less : {X : Type 0} (f g : X → ℕ) (xs : List X) → Each (λ x. f x ≤ g x) xs → sum_by f xs ≤ sum_by g xs
sum-less f g [] e = omega arith
sum-less f g (x ∷ xs) e = omega (arith, sum_by-cons f x xs, sum_by-cons g x xs, e.0, sum-less f g xs e.1)

pub count-same : {X : Type 0} (p q : X → Bool) (xs : List X) → Each (λ x. p x ≡ q x) xs → count_by p xs ≡ count_by q xs
count-same p q [] e = refl
count-same p q (x ∷ xs) e = omega (arith, count-cons p x xs, count-cons q x xs, ap one_if e.0, count-same p q xs e.1)

-- a test that is one of two others
pub count-sum : {X : Type 0} (p q r : X → Bool) (xs : List X) → ((x : X) → one_if (p x) ≡ one_if (q x) + one_if (r x)) → count_by p xs ≡ count_by q xs + count_by r xs
count-sum p q r [] h = omega arith
count-sum p q r (x ∷ xs) h = omega (arith, count-cons p x xs, count-cons q x xs, count-cons r x xs, h x, count-sum p q r xs h)
