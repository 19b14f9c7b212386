-- Finite maps, looked up by lists of numbers: what is put under a key is found there, and nowhere else.
--
--     at-put      at (put m k v) q  is  v  where q is k, and else  at m q
--
-- A map is nothing, or one first number with what stands under it alone, with the map of what goes on behind it, and
-- with the map of the other first numbers.
use Rattle.std.specs.Prelude.{ℕ, true, false, ◌==◌, List, [], ◌∷◌, Option, Some, None}
use Rattle.std.specs.Option.{option_map}
use Rattle.pe_base.specs.declared.place.Place.{Place}

pub data Map (X : Type 0) : Type 0 where
  nothing : Map X
  branch : ℕ → Option X → Map X → Map X → Map X

module _ {X : Type 0} where
  -- what stands under a first number and those behind it
  abbrev pub found : Map X → ℕ → List ℕ → Option X
  found nothing x xs = None
  found (branch n v behind others) x [] = elim (n == x) [ true ↦ v | false ↦ found others x [] ]
  found (branch n v behind others) x (y ∷ ys) = elim (n == x) [ true ↦ found behind y ys | false ↦ found others x (y ∷ ys) ]

  -- a map with this under one key, and nothing else
  abbrev pub only : ℕ → List ℕ → Option X → Map X
  only x [] v = branch x v nothing nothing
  only x (y ∷ ys) v = branch x None (only y ys v) nothing

  -- this put under a key, in place of what was there
  abbrev pub changed : Map X → ℕ → List ℕ → Option X → Map X
  changed nothing x xs v = only x xs v
  changed (branch n w behind others) x [] v = elim (n == x) [ true ↦ branch n v behind others | false ↦ branch n w behind (changed others x [] v) ]
  changed (branch n w behind others) x (y ∷ ys) v = elim (n == x) [ true ↦ branch n w (changed behind y ys v) others | false ↦ branch n w behind (changed others x (y ∷ ys) v) ]

-- all that a map holds, turned by a function
abbrev pub turned_by : {X Y : Type 0} → (X → Y) → Map X → Map Y
turned_by f nothing = nothing
turned_by f (branch n v behind others) = branch n (option_map f v) (turned_by f behind) (turned_by f others)

-- the same by places
module _ {X : Type 0} where
  abbrev pub at : Map X → Place → Option X
  at m place = found m place.level place.pos

  abbrev pub put : Map X → Place → X → Map X
  put m place v = changed m place.level place.pos (Some v)

  abbrev pub removed : Map X → Place → Map X
  removed m place = changed m place.level place.pos None

-- and by a place and a number: the corners of cells
module _ {X : Type 0} where
  abbrev pub at_corner : Map X → Place → ℕ → Option X
  at_corner m cell k = found m k (cell.level ∷ cell.pos)

  abbrev pub put_corner : Map X → Place → ℕ → X → Map X
  put_corner m cell k v = changed m k (cell.level ∷ cell.pos) (Some v)

  abbrev pub removed_corner : Map X → Place → ℕ → Map X
  removed_corner m cell k = changed m k (cell.level ∷ cell.pos) None
