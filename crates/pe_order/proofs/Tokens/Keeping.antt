-- What each step keeps, the walk of a cell keeps.
use Rattle.std.specs.List.{AllByRecursion as Each}
use Rattle.std.proofs.Common.{◌≡◌, ℕ, zero, suc, ◌^◌, ◌<◌, ◌≤◌, Bool, true, false, not, List, [], ◌∷◌, reverse, Option, Some, refl, subst}
use Rattle.std.specs.Prelude.{if◌then◌else◌}
use Rattle.std.proofs.lemmas.Option.{option_and_then_some}
use Rattle.pe_base.specs.declared.place.Place.{Place}
use Rattle.pe_base.specs.Tree.Curve.{children}
use Rattle.pe_base.proofs.Lists.{Each-all, Each-weaker, Each-reverse}
use Rattle.pe_order.specs.Laws.{IsCell}
use Rattle.pe_order.specs.Tokens.{Outlook, Tokens, given, each_some, load, store, enter, leave, numbers, around_below, walk}
use Rattle.pe_order.proofs.Unwalked.{in_contains}
use Rattle.pe_order.proofs.Trees.{child_is_cell}
use Rattle.pe_order.proofs.Tokens.Walks.{each_with, each_below}

-- the children of a cell are cells
pub kids_in_tree : (o : Outlook) → o.axes ≤ 4 → (cell : Place) → IsCell o.axes o.way cell → Each (IsCell o.axes o.way) (children o.axes o.way cell)
kids_in_tree o four cell is_cell = Each-weaker _ (IsCell o.axes o.way) (λ c i. child_is_cell o.axes o.way cell c four is_cell (in_contains (children o.axes o.way cell) c i.0)) (children o.axes o.way cell)
    (each_with (λ c. Unit {0}) (children o.axes o.way cell) (Each-all _ (λ c. tt) (children o.axes o.way cell)))

-- an answer that is given passed its test
pub given_some : {X : Type 0} (b : Bool) (o : Option X) (x : X) → given b o ≡ Some x → (b ≡ true) × (o ≡ Some x)
given_some true o x e = (refl, e)
given_some false o x e = absurd cc

module _ (P : Tokens → Type 0) where
  -- a step keeps it
  abbrev pub Keeps : (Tokens → Option Tokens) → Type 0
  Keeps step = (t after : Tokens) → step t ≡ Some after → P t → P after

  pub each_keeps : {A : Type 0} (step : A → Tokens → Option Tokens) (xs : List A) → Each (λ a. Keeps (step a)) xs → Keeps (each_some step xs)
  each_keeps step [] each t after e p = let same : t ≡ after = cc in subst P same p
  each_keeps step (x ∷ xs) each t after e p = option_and_then_some (each_some step xs) (step x t) after e (λ t1 e1 e2. each_keeps step xs each.1 t1 after e2 (each.0 t t1 e1 p))

  around_keeps : (o : Outlook) (below : Tokens → Option Tokens) (cell : Place) → Each (λ k. Keeps (load o cell k)) (reverse (numbers o)) → Keeps (enter o cell) → Keeps below → Keeps (leave o cell) → Each (λ k. Keeps (store o cell k)) (numbers o)
      → Keeps (around_below o below cell)
  around_keeps o below cell loads enters goes leaves stores t after e p =
      option_and_then_some _ (each_some (load o cell) (reverse (numbers o)) t) after e (λ t1 e1 f1.
      option_and_then_some _ (enter o cell t1) after f1 (λ t2 e2 f2.
      option_and_then_some _ (below t2) after f2 (λ t3 e3 f3.
      option_and_then_some _ (leave o cell t3) after f3 (λ t4 e4 f4.
      each_keeps (store o cell) (numbers o) stores t4 after f4 (leaves t3 t4 e4 (goes t2 t3 e3 (enters t1 t2 e2 (each_keeps (load o cell) (reverse (numbers o)) loads t t1 e1 p))))))))

  pub walk_keeps : (o : Outlook) → o.axes ≤ 4 → ((cell : Place) (k : ℕ) → IsCell o.axes o.way cell → k < 2 ^ o.axes → Keeps (load o cell k)) → ((cell : Place) (k : ℕ) → IsCell o.axes o.way cell → k < 2 ^ o.axes → Keeps (store o cell k))
      → ((cell : Place) → Keeps (enter o cell)) → ((cell : Place) → Keeps (leave o cell)) → (levels : ℕ) (cell : Place) → IsCell o.axes o.way cell → Keeps (walk o levels cell)
  walk_keeps o four loads stores enters leaves zero cell is_cell =
      around_keeps o (λ t. given (not (o.walks cell)) (Some t)) cell
      (Each-reverse (λ k. Keeps (load o cell k)) (numbers o) (each_below (2 ^ o.axes) (λ k. Keeps (load o cell k)) (λ k h. loads cell k is_cell h)))
      (enters cell) (λ t after e p. let g = given_some (not (o.walks cell)) (Some t) after e in let same : t ≡ after = cc (g.1) in subst P same p) (leaves cell)
      (each_below (2 ^ o.axes) (λ k. Keeps (store o cell k)) (λ k h. stores cell k is_cell h))
  walk_keeps o four loads stores enters leaves (suc levels) cell is_cell =
      around_keeps o (λ t. if o.walks cell then each_some (walk o levels) (children o.axes o.way cell) t else (Some t)) cell
      (Each-reverse (λ k. Keeps (load o cell k)) (numbers o) (each_below (2 ^ o.axes) (λ k. Keeps (load o cell k)) (λ k h. loads cell k is_cell h)))
      (enters cell)
      (λ t after e p. below (o.walks cell) t after (each_keeps (walk o levels) (children o.axes o.way cell) (Each-weaker (IsCell o.axes o.way) _ (λ c i. walk_keeps o four loads stores enters leaves levels c i) (children o.axes o.way cell) (kids_in_tree o four cell is_cell)) t after) e p) (leaves cell)
      (each_below (2 ^ o.axes) (λ k. Keeps (store o cell k)) (λ k h. stores cell k is_cell h))
    where
      below : (b : Bool) (t after : Tokens) → (each_some (walk o levels) (children o.axes o.way cell) t ≡ Some after → P t → P after) → (if b then each_some (walk o levels) (children o.axes o.way cell) t else (Some t)) ≡ Some after → P t → P after
      below true t after run e p = run e p
      below false t after run e p = let same : t ≡ after = cc in subst P same p
