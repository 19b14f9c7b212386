-- What is put into a map is found under its key, and everything else as before.
use Rattle.std.proofs.Common.{◌≡◌, ℕ, Bool, true, false, ◌&&◌, ◌==◌, List, [], ◌∷◌, Option, Some, None, refl, sym, ap, subst, ◌∙◌, if◌then◌else◌}
use Rattle.std.proofs.lemmas.Bool.{eqb-true, eqb-false, ne_eqb}
use Rattle.std.specs.Option.{option_map}
use Rattle.std.specs.Cmp.Lexicographic.{pointwise}
use Rattle.std.specs.Prelude.{nat_eq}
use Rattle.pe_base.specs.declared.place.Place.{Place}
use Rattle.pe_base.specs.Tree.Places.{is_same}
use Rattle.pe_base.specs.Walk.Maps.{Map, nothing, branch, found, only, changed, turned_by, at, put, removed}

-- two keys are one
abbrev pub is_key : ℕ → List ℕ → ℕ → List ℕ → Bool
is_key x xs y ys = x == y && pointwise nat_eq xs ys

-- two numbers of which one is a third differ as the third does
as_third : (n x y : ℕ) → (n == x) ≡ true → (n == y) ≡ (x == y)
as_third n x y e = ap (λ k. k == y) (eqb-true n x e)

-- a number that is not another, but a third, tells those two apart
apart : (n x y : ℕ) → (n == x) ≡ false → (n == y) ≡ true → (x == y) ≡ false
apart n x y other same = ne_eqb x y (λ e. eqb-false n x other (eqb-true n y same ∙ sym e))

module _ {X : Type 0} where
  found-only : (x : ℕ) (xs : List ℕ) (v : Option X) (y : ℕ) (ys : List ℕ) → found (only x xs v) y ys ≡ (if is_key x xs y ys then v else None)
  found-only x [] v y [] = elim (x == y) as (λ b. (elim b [ true ↦ v | false ↦ None ]) ≡ (if b && true then v else None)) [ true ↦ refl | false ↦ refl ]
  found-only x [] v y (z ∷ ys) = elim (x == y) as (λ b. (elim b [ true ↦ None | false ↦ None ]) ≡ (if b && false then v else None)) [ true ↦ refl | false ↦ refl ]
  found-only x (z ∷ xs) v y [] = elim (x == y) as (λ b. (elim b [ true ↦ None | false ↦ None ]) ≡ (if b && false then v else None)) [ true ↦ refl | false ↦ refl ]
  found-only x (z ∷ xs) v y (u ∷ ys) =
      elim (x == y) as (λ b. (elim b [ true ↦ found (only z xs v) u ys | false ↦ None ]) ≡ (if b && is_key z xs u ys then v else None)) [
        | true ↦ found-only z xs v u ys
        | false ↦ refl
      ]

  -- at a branch: what is changed there, or behind it, or among the others
  here : (n x y : ℕ) (rest : Bool) (a b c d v : Option X) → (n == x) ≡ true → a ≡ (if rest then v else b)
      → (elim (n == y) [ true ↦ a | false ↦ c ]) ≡ (if (x == y) && rest then v else elim (n == y) [ true ↦ b | false ↦ c ])
  here n x y rest a b c d v e h =
      subst (λ t. (elim (n == y) [ true ↦ a | false ↦ c ]) ≡ (if t && rest then v else elim (n == y) [ true ↦ b | false ↦ c ])) (as_third n x y e)
      (elim (n == y) as (λ t. (elim t [ true ↦ a | false ↦ c ]) ≡ (if t && rest then v else elim t [ true ↦ b | false ↦ c ])) [ true ↦ h | false ↦ refl ])

  there : (n x y : ℕ) (rest : Bool) (a b c v : Option X) → (n == x) ≡ false → b ≡ (if (x == y) && rest then v else c)
      → (elim (n == y) [ true ↦ a | false ↦ b ]) ≡ (if (x == y) && rest then v else elim (n == y) [ true ↦ a | false ↦ c ])
  there n x y rest a b c v e h =
      elim (n == y) as (λ t. (n == y) ≡ t → (elim t [ true ↦ a | false ↦ b ]) ≡ (if (x == y) && rest then v else elim t [ true ↦ a | false ↦ c ])) [
        | true ↦ λ q. ap (λ t. if t && rest then v else a) (sym (apart n x y e q))
        | false ↦ λ q. h
      ] refl

  -- the law of maps
  pub found-changed : (m : Map X) (x : ℕ) (xs : List ℕ) (v : Option X) (y : ℕ) (ys : List ℕ) → found (changed m x xs v) y ys ≡ (if is_key x xs y ys then v else found m y ys)
  found-changed nothing x xs v y ys = found-only x xs v y ys
  found-changed (branch n w behind others) x [] v y [] =
      elim (n == x) as (λ b. (n == x) ≡ b → found (elim b [ true ↦ branch n v behind others | false ↦ branch n w behind (changed others x [] v) ]) y [] ≡ (if (x == y) && true then v else elim (n == y) [ true ↦ w | false ↦ found others y [] ])) [
        | true ↦ λ e. here n x y true v w (found others y []) w v e refl
        | false ↦ λ e. there n x y true w _ (found others y []) v e (found-changed others x [] v y [])
      ] refl
  found-changed (branch n w behind others) x [] v y (u ∷ ys) =
      elim (n == x) as (λ b. (n == x) ≡ b → found (elim b [ true ↦ branch n v behind others | false ↦ branch n w behind (changed others x [] v) ]) y (u ∷ ys) ≡ (if (x == y) && false then v else elim (n == y) [ true ↦ found behind u ys | false ↦ found others y (u ∷ ys) ])) [
        | true ↦ λ e. here n x y false (found behind u ys) (found behind u ys) (found others y (u ∷ ys)) w v e refl
        | false ↦ λ e. there n x y false (found behind u ys) _ (found others y (u ∷ ys)) v e (found-changed others x [] v y (u ∷ ys))
      ] refl
  found-changed (branch n w behind others) x (z ∷ xs) v y [] =
      elim (n == x) as (λ b. (n == x) ≡ b → found (elim b [ true ↦ branch n w (changed behind z xs v) others | false ↦ branch n w behind (changed others x (z ∷ xs) v) ]) y [] ≡ (if (x == y) && false then v else elim (n == y) [ true ↦ w | false ↦ found others y [] ])) [
        | true ↦ λ e. here n x y false w w (found others y []) w v e refl
        | false ↦ λ e. there n x y false w _ (found others y []) v e (found-changed others x (z ∷ xs) v y [])
      ] refl
  found-changed (branch n w behind others) x (z ∷ xs) v y (u ∷ ys) =
      elim (n == x) as (λ b. (n == x) ≡ b → found (elim b [ true ↦ branch n w (changed behind z xs v) others | false ↦ branch n w behind (changed others x (z ∷ xs) v) ]) y (u ∷ ys) ≡ (if (x == y) && is_key z xs u ys then v else elim (n == y) [ true ↦ found behind u ys | false ↦ found others y (u ∷ ys) ])) [
        | true ↦ λ e. here n x y (is_key z xs u ys) _ (found behind u ys) (found others y (u ∷ ys)) w v e (found-changed behind z xs v u ys)
        | false ↦ λ e. there n x y (is_key z xs u ys) (found behind u ys) _ (found others y (u ∷ ys)) v e (found-changed others x (z ∷ xs) v y (u ∷ ys))
      ] refl

  -- by places
  pub at-put : (m : Map X) (p q : Place) (v : X) → at (put m p v) q ≡ (if is_same p q then Some v else at m q)
  at-put m p q v = found-changed m p.level p.pos (Some v) q.level q.pos

  pub at-removed : (m : Map X) (p q : Place) → at (removed m p) q ≡ (if is_same p q then None else at m q)
  at-removed m p q = found-changed m p.level p.pos None q.level q.pos

-- a map with all that it holds turned
pub found-turned_by : {X Y : Type 0} (f : X → Y) (m : Map X) (y : ℕ) (ys : List ℕ) → found (turned_by f m) y ys ≡ option_map f (found m y ys)
found-turned_by f nothing y ys = refl
found-turned_by f (branch n v behind others) y [] =
    elim (n == y) as (λ b. (elim b [ true ↦ option_map f v | false ↦ found (turned_by f others) y [] ]) ≡ option_map f (elim b [ true ↦ v | false ↦ found others y [] ])) [
      | true ↦ refl
      | false ↦ found-turned_by f others y []
    ]
found-turned_by f (branch n v behind others) y (u ∷ ys) =
    elim (n == y) as (λ b. (elim b [ true ↦ found (turned_by f behind) u ys | false ↦ found (turned_by f others) y (u ∷ ys) ]) ≡ option_map f (elim b [ true ↦ found behind u ys | false ↦ found others y (u ∷ ys) ])) [
      | true ↦ found-turned_by f behind u ys
      | false ↦ found-turned_by f others y (u ∷ ys)
    ]
