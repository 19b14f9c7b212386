-- The corners of a cell one after another: all loads, and all stores.
use Rattle.std.proofs.Common.{◌≡◌, ℕ, zero, suc, ◌+◌, ◌-◌, ◌^◌, ◌≤◌, List, [], ◌∷◌, ◌++◌, map, reverse, refl, sym, ap, ap₂, subst, ◌∙◌, arith}
use Rattle.std.specs.List.{range_with_len}
use Rattle.std.proofs.lemmas.List.{reverse-append}
use Rattle.pe_base.specs.declared.place.Place.{Place}
use Rattle.pe_base.specs.Tree.Places.{parent_of}
use Rattle.pe_base.specs.Acts.Effects.{VertexRecord}
use Rattle.pe_base.specs.Walk.Course.{Push, at_once, and_then, each}
use Rattle.pe_base.specs.Walk.Core.{Setting}
use Rattle.pe_base.specs.Walk.Working.{record_at}
use Rattle.pe_base.specs.Walk.Touches as model
use Rattle.pe_order.specs.Laws.{IsCell}
use Rattle.pe_adapt.specs.CountedTouches.{Machine}
use Rattle.pe_adapt.specs.CountedTouches as counted
use Rattle.pe_walk.specs.Machine as machine
use Rattle.pe_order.specs.Tokens.{each_some}
use Rattle.pe_order.specs.Tokens as tokens
use Rattle.pe_walk.specs.Standing.{ForeseenStart, Stage, Holds, IsStage}
use Rattle.pe_walk.proofs.Simulation.Matching.{Sim, Alike, sim-nothing, sim-then, sim-alike, turned-then}
use Rattle.pe_walk.proofs.Simulation.Leaves.{image_of, in_hand, streams, after_load, load_before, LoadLeaf, after_store, store_first, StoreLeaf}

-- the numbers below one, descending
abbrev pub down_from : ℕ → List ℕ
down_from zero = []
down_from (suc k) = k ∷ down_from k

range-last : (a n : ℕ) → range_with_len a (suc n) ≡ range_with_len a n ++ (a + n) ∷ []
range-last a zero = ap (λ z. z ∷ []) (let e : a ≡ a + 0 = omega arith in e)
range-last a (suc n) = ap (λ zs. a ∷ zs) (range-last (a + 1) n ∙ ap (λ z. range_with_len (a + 1) n ++ z ∷ []) (let e : a + 1 + n ≡ a + suc n = omega arith in e))

pub reverse-range : (n : ℕ) → reverse (range_with_len 0 n) ≡ down_from n
reverse-range zero = refl
reverse-range (suc n) =
    ap reverse (range-last 0 n) ∙ reverse-append (range_with_len 0 n) ((0 + n) ∷ [])
    ∙ ap₂ (λ z zs. z ∷ zs) (let e : 0 + n ≡ n = omega arith in e) (reverse-range n)

-- the stage after the loads of so many corners, and after the stores of so many
abbrev pub after_loads : ℕ → Stage → Stage
after_loads zero st = st
after_loads (suc k) st = after_loads k (after_load k st)

abbrev pub after_stores : ℕ → Stage → Stage
after_stores zero st = st
after_stores (suc n) st = after_stores n (after_store st.from st)

pub after_loads-is : (n : ℕ) (st : Stage) → st.from ≡ n → after_loads n st ≡ record st { from = 0; owed = st.owed - n }
after_loads-is zero st e = ap₂ (λ a b. record st { from = a; owed = b }) e (let none : st.owed ≡ st.owed - 0 = omega arith in none)
after_loads-is (suc n) st e =
    after_loads-is n (after_load n st) refl ∙ ap (λ b. record st { from = 0; owed = b }) (let same : st.owed - 1 - n ≡ st.owed - suc n = omega arith in same)

pub after_stores-is : (n : ℕ) (st : Stage) → after_stores n st ≡ record st { from = st.from + n; owed = st.owed - n; unstored = st.unstored - n }
after_stores-is zero st =
    λ i. record st {
      from = (let same : st.from ≡ st.from + 0 = omega arith in same) i;
      owed = (let same : st.owed ≡ st.owed - 0 = omega arith in same) i;
      unstored = (let same : st.unstored ≡ st.unstored - 0 = omega arith in same) i;
    }
after_stores-is (suc n) st =
    after_stores-is n (after_store st.from st)
    ∙ (λ i. record st {
      from = (let same : st.from + 1 + n ≡ st.from + suc n = omega arith in same) i;
      owed = (let same : st.owed - 1 - n ≡ st.owed - suc n = omega arith in same) i;
      unstored = (let same : st.unstored - 1 - n ≡ st.unstored - suc n = omega arith in same) i;
    })

module _ {Plan : Type 0} (set : Setting Plan) (e : ForeseenStart) (room : Push → Type 0) where
  -- a stage is one of its cell and parent alone
  pub stage_of : (st after : Stage) → after.cell ≡ st.cell → after.parent ≡ st.parent → IsStage set.axes e.outlook st → IsStage set.axes e.outlook after
  stage_of st after same above is = record {
    cell = subst (IsCell set.axes e.outlook.way) (sym same) is.cell;
    above = ap parent_of same ∙ is.above ∙ sym above;
    deep = subst (λ (c : Place). 1 ≤ c.level) (sym same) is.deep;
    walked = ap e.outlook.walks above ∙ is.walked;
  }

  -- the loads of the corners below a number
  abbrev pub LoadsSim : ℕ → Stage → Type 0
  LoadsSim k st = Sim room (Holds set e st) (in_hand set e st) (Holds set e (after_loads k st)) (in_hand set e (after_loads k st))
      (each (model.load_corner set st.parent st.cell) (down_from k)) (λ x. machine.load_all set (streams set e room) st.cell k x.0 x.1) (each_some (tokens.load e.outlook st.cell) (down_from k))

  pub loads_sim : LoadLeaf set e room → (k : ℕ) (st : Stage) → IsStage set.axes e.outlook st → k ≤ 2 ^ set.axes → st.from ≡ k → k ≤ st.owed → LoadsSim k st
  loads_sim leaf zero st is few from owed = sim-nothing room (Holds set e st) (in_hand set e st)
  loads_sim leaf (suc k) st is few from owed =
      let next : Stage = after_load k st in
      sim-alike room (Holds set e st) (in_hand set e st) (in_hand set e st) (Holds set e (after_loads k next)) (in_hand set e (after_loads k next))
      (each (model.load_corner set st.parent st.cell) (down_from (suc k)))
      (λ x. and_then (load_before set e room st.cell k x) (λ y. machine.load_all set (streams set e room) st.cell k y.0 y.1))
      (λ x. machine.load_all set (streams set e room) st.cell (suc k) x.0 x.1)
      (each_some (tokens.load e.outlook st.cell) (down_from (suc k)))
      (λ w t h. let x = in_hand set e st w t in turned-then (counted.load_corner set (streams set e room) st.cell k x.1) (λ it. (it.0 ∷ x.0, it.1)) (λ y. machine.load_all set (streams set e room) st.cell k y.0 y.1))
      (sim-then room (Holds set e st) (in_hand set e st) (Holds set e next) (in_hand set e next) (Holds set e (after_loads k next)) (in_hand set e (after_loads k next))
      (model.load_corner set st.parent st.cell k) (load_before set e room st.cell k) (tokens.load e.outlook st.cell k)
      (each (model.load_corner set st.parent st.cell) (down_from k)) (λ x. machine.load_all set (streams set e room) st.cell k x.0 x.1) (each_some (tokens.load e.outlook st.cell) (down_from k))
      (leaf st k is (omega arith) from (omega arith))
      (loads_sim leaf k next (stage_of st next refl refl is) (omega arith) refl (omega arith)))

  -- the stores of the corners from a number on
  abbrev pub StoresSim : ℕ → Stage → Type 0
  StoresSim n st = Sim room (Holds set e st) (in_hand set e st) (Holds set e (after_stores n st)) (image_of set e st.parent)
      (each (model.store_corner set st.parent st.cell) (range_with_len st.from n)) (λ x. machine.store_all set (streams set e room) st.cell st.from x.0 x.1) (each_some (tokens.store e.outlook st.cell) (range_with_len st.from n))

  -- to store all in hand is to store the first, and then all
  store_all-first : (cell : Place) (k : ℕ) (its : List VertexRecord) (m : Machine)
      → and_then (store_first set e room cell k (its, m)) (λ x. machine.store_all set (streams set e room) cell (k + 1) x.0 x.1) ≡ machine.store_all set (streams set e room) cell k its m
  store_all-first cell k [] m = refl
  store_all-first cell k (it ∷ its) m = turned-then (counted.store_corner set (streams set e room) cell k it m) (λ m. (its, m)) (λ x. machine.store_all set (streams set e room) cell (k + 1) x.0 x.1)

  pub stores_sim : StoreLeaf set e room → (n : ℕ) (st : Stage) → IsStage set.axes e.outlook st → st.from + n ≡ 2 ^ set.axes → n ≤ st.owed → n ≤ st.unstored → StoresSim n st
  stores_sim leaf zero st is all owed unstored = λ w t t' h k.
      let none : 2 ^ set.axes - st.from ≡ 0 = omega (arith, all) in
      subst (λ n. Alike room (image_of set e st.parent) (Holds set e st) (at_once w) (machine.store_all set (streams set e room) st.cell st.from (map (record_at set.axes w st.cell) (range_with_len st.from n)) (image_of set e st.parent w t)) t')
      (sym none) (sim-nothing room (Holds set e st) (image_of set e st.parent) w t t' h k)
  stores_sim leaf (suc n) st is all owed unstored =
      let next : Stage = after_store st.from st in
      sim-alike room (Holds set e st) (in_hand set e st) (in_hand set e st) (Holds set e (after_stores n next)) (image_of set e st.parent)
      (each (model.store_corner set st.parent st.cell) (range_with_len st.from (suc n)))
      (λ x. and_then (store_first set e room st.cell st.from x) (λ y. machine.store_all set (streams set e room) st.cell (st.from + 1) y.0 y.1))
      (λ x. machine.store_all set (streams set e room) st.cell st.from x.0 x.1)
      (each_some (tokens.store e.outlook st.cell) (range_with_len st.from (suc n)))
      (λ w t h. let x = in_hand set e st w t in store_all-first st.cell st.from x.0 x.1)
      (sim-then room (Holds set e st) (in_hand set e st) (Holds set e next) (in_hand set e next) (Holds set e (after_stores n next)) (image_of set e st.parent)
      (model.store_corner set st.parent st.cell st.from) (store_first set e room st.cell st.from) (tokens.store e.outlook st.cell st.from)
      (each (model.store_corner set st.parent st.cell) (range_with_len (st.from + 1) n)) (λ x. machine.store_all set (streams set e room) st.cell (st.from + 1) x.0 x.1)
      (each_some (tokens.store e.outlook st.cell) (range_with_len (st.from + 1) n))
      (leaf st st.from is (omega (arith, all)) refl (omega arith) (omega arith))
      (stores_sim leaf n next (stage_of st next refl refl is) (omega (arith, all)) (omega arith) (omega arith)))
