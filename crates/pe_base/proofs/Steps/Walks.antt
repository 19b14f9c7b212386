-- Lists in which each member is entered from the one before it, and left for the one behind it.
use Rattle.std.proofs.Common.{◌≡◌, ℕ, List, [], ◌∷◌, ◌++◌, map, Option, Some, None, sym, ap, subst}

-- a step from a member to the next: what enters the one leaves the other
pub record Step {X : Type 0} (enters leaves : X → Option ℕ) (R : ℕ → X → X → Type 0) (a b : X) : Type 0 where
  pub axis : ℕ
  pub entered : enters b ≡ Some axis
  pub left : leaves a ≡ Some axis
  pub crosses : R axis a b

-- steps from a member along a list to its last one
abbrev pub Path : {X : Type 0} (enters leaves : X → Option ℕ) (R : ℕ → X → X → Type 0) → X → List X → X → Type 0
Path enters leaves R a [] z = a ≡ z
Path enters leaves R a (b ∷ xs) z = Step enters leaves R a b × Path enters leaves R b xs z

-- a whole list: nothing enters its first member, and nothing leaves its last
pub record Walk {X : Type 0} (enters leaves : X → Option ℕ) (R : ℕ → X → X → Type 0) (xs : List X) (first last : X) : Type 0 where
  pub rest : List X
  pub is : xs ≡ first ∷ rest
  pub path : Path enters leaves R first rest last
  pub starts : enters first ≡ None
  pub ends : leaves last ≡ None

pub Path-join : {X : Type 0} (enters leaves : X → Option ℕ) (R : ℕ → X → X → Type 0) (a : X) (xs : List X) (z y : X) (ys : List X) (w : X) → Path enters leaves R a xs z → Step enters leaves R z y → Path enters leaves R y ys w → Path enters leaves R a (xs ++ y ∷ ys) w
Path-join enters leaves R a [] z y ys w e step path =
    let P : _ → Type 0 = λ x. Step enters leaves R x y in
    (subst P (sym e) step, path)
Path-join enters leaves R a (b ∷ xs) z y ys w front step path = (front.0, Path-join enters leaves R b xs z y ys w front.1 step path)

pub Path-map : {X Y : Type 0} (f g : X → Option ℕ) (R : ℕ → X → X → Type 0) (enters leaves : Y → Option ℕ) (Q : ℕ → Y → Y → Type 0) (h : X → Y) → ((a b : X) → Step f g R a b → Step enters leaves Q (h a) (h b)) → (a : X) (xs : List X) (z : X) → Path f g R a xs z → Path enters leaves Q (h a) (map h xs) (h z)
Path-map f g R enters leaves Q h each a [] z e = ap h e
Path-map f g R enters leaves Q h each a (b ∷ xs) z path = (each a b path.0, Path-map f g R enters leaves Q h each b xs z path.1)

pub Path-weaker : {X : Type 0} (f g : X → Option ℕ) (R : ℕ → X → X → Type 0) (enters leaves : X → Option ℕ) (Q : ℕ → X → X → Type 0) → ((a b : X) → Step f g R a b → Step enters leaves Q a b) → (a : X) (xs : List X) (z : X) → Path f g R a xs z → Path enters leaves Q a xs z
Path-weaker f g R enters leaves Q each a [] z e = e
Path-weaker f g R enters leaves Q each a (b ∷ xs) z path = (each a b path.0, Path-weaker f g R enters leaves Q each b xs z path.1)
