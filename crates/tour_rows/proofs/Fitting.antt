-- The tour that counts has levels enough wherever the parent's record is at most their number.
use Rattle.std.proofs.Common.{◌≡◌, ℕ, zero, suc, ◌+◌, ◌-◌, ◌^◌, ◌<◌, ◌≤◌, Bool, true, false, nat_lt, IsTrue, List, [], ◌∷◌, Option, Some, None, refl, ap, subst, arith}
use Rattle.std.proofs.lemmas.Bool.Decides.{nat_tests}
use Rattle.pe_base.specs.declared.place.Place.{Place}
use Rattle.pe_base.specs.Tree.Curve.{children}
use Rattle.pe_base.specs.Walk.Steps.{loads, stores, in_turn, if_on, walks_children, walks_below, visits_open, visits, walk}
use Rattle.pe_tour.specs.declared.settings.TourSettings.{TourSettings}
use Rattle.pe_tour.specs.Sights.{Between, Amid, Open, amid_of, open_of, below_open, above_again}
use Rattle.tour_rows.specs.declared.counting.Counting.{Counting}
use Rattle.tour_rows.specs.Giving.{and_then, Gives, Fits}
use Rattle.tour_rows.specs.Counting.{counted, loaded, stored, counting_steps}

gives-then : {X Y : Type 0} (Such : X → Type 0) (Then : Y → Type 0) (course : Option X) (next : X → Option Y)
    → Gives Such course → ((x : X) → Such x → Gives Then (next x)) → Gives Then (and_then course next)
gives-then Such Then (Some x) next such then = then x such
gives-then Such Then None next such then = such

gives-fits : {X : Type 0} (Such : X → Type 0) (course : Option X) → Gives Such course → Fits course
gives-fits Such (Some x) such = tt
gives-fits Such None such = such

-- # The parent's record stays
abbrev WhileIn : ℕ → Amid Counting (Unit {0}) ℕ → Type 0
WhileIn p amid = amid.parent ≡ p

abbrev WhileOpen : ℕ → Open Counting (Unit {0}) ℕ → Type 0
WhileOpen p inside = inside.parent ≡ p

abbrev Under : ℕ → Between Counting (Unit {0}) ℕ → Type 0
Under p at = at.parent ≡ p

module _ (settings : TourSettings) where
  loads-give : (p : ℕ) (cell : Place) (k : ℕ) (amid : Amid Counting (Unit {0}) ℕ) → WhileIn p amid → Gives (WhileIn p) (loads (counting_steps settings) cell k amid)
  loads-give p cell zero amid is = is
  loads-give p cell (suc k) amid is = loads-give p cell k (record amid { tour = loaded amid.tour }) is

  stores-give : (p : ℕ) (cell : Place) (k n : ℕ) (amid : Amid Counting (Unit {0}) ℕ) → WhileIn p amid → Gives (WhileIn p) (stores (counting_steps settings) cell k n amid)
  stores-give p cell k zero amid is = is
  stores-give p cell k (suc n) amid is = stores-give p cell (k + 1) n (record amid { tour = stored amid.tour }) is

  module _ (walks : Place → Between Counting (Unit {0}) ℕ → Option (Between Counting (Unit {0}) ℕ)) where
    in_turn-gives : (p : ℕ) → ((cell : Place) (at : Between Counting (Unit {0}) ℕ) → Under p at → Gives (Under p) (walks cell at))
        → (cells : List Place) (at : Between Counting (Unit {0}) ℕ) → Under p at → Gives (Under p) (in_turn (counting_steps settings) walks cells at)
    in_turn-gives p each [] at is = is
    in_turn-gives p each (cell ∷ cells) at is =
        gives-then (Under p) (Under p) (walks cell at) (in_turn (counting_steps settings) walks cells) (each cell at is) (in_turn-gives p each cells)

    -- where children are walked, if at all
    if_on-gives : (p : ℕ) (on : Bool) (cell : Place) (inside : Open Counting (Unit {0}) ℕ) → WhileOpen p inside
        → (IsTrue on → Fits (walks_children (counting_steps settings) walks cell (below_open inside)))
        → Gives (WhileOpen p) (if_on (counting_steps settings) on (walks_children (counting_steps settings) walks cell) inside)
    if_on-gives p false cell inside is goes = is
    if_on-gives p true cell inside is goes =
        gives-then (λ at. Unit {0}) (WhileOpen p) (walks_children (counting_steps settings) walks cell (below_open inside)) (λ at. Some (above_again inside at)) (goes refl) (λ at done. is)

    visits-give : (p : ℕ) (cell : Place) (amid : Amid Counting (Unit {0}) ℕ) → WhileIn p amid
        → ((at : Between Counting (Unit {0}) ℕ) → Under (p - 1) at → 0 < p - 1 → Fits (walks_children (counting_steps settings) walks cell at))
        → Gives (WhileIn p) (visits (counting_steps settings) walks cell amid)
    visits-give p cell amid is goes =
        gives-then (WhileIn p) (WhileIn p) (loads (counting_steps settings) cell (2 ^ settings.dim) amid) _ (loads-give p cell (2 ^ settings.dim) amid is) (λ v same.
        let inside = open_of v.tour v.own (v.parent - 1) v.above v.parent in
        gives-then (WhileOpen p) (WhileIn p) (visits_open (counting_steps settings) walks cell inside) _
        (gives-then (WhileOpen p) (WhileOpen p) (walks_below (counting_steps settings) walks cell inside) (λ v. Some v)
        (if_on-gives p (nat_lt 0 inside.its) cell inside same (λ on. goes (below_open inside) (ap (λ n. n - 1) same) (subst (λ n. 0 < n - 1) same (grind (arith, nat_tests))))) (λ v same. same))
        (λ v same. stores-give p cell 0 (2 ^ settings.dim) (amid_of v.tour v.own v.above v.parent) same))

  walk-gives : (levels p : ℕ) → p ≤ suc levels → (cell : Place) (at : Between Counting (Unit {0}) ℕ) → Under p at → Gives (Under p) (walk (counting_steps settings) (suc levels) cell at)
  walk-gives zero p few cell at is =
      gives-then (WhileIn p) (Under p) (visits (counting_steps settings) (walk (counting_steps settings) 0) cell (amid_of (counted cell at.tour) tt at.above at.parent)) _
      (visits-give (walk (counting_steps settings) 0) p cell _ is (λ at under on. absurd (omega arith))) (λ v same. same)
  walk-gives (suc levels) p few cell at is =
      gives-then (WhileIn p) (Under p) (visits (counting_steps settings) (walk (counting_steps settings) (suc levels)) cell (amid_of (counted cell at.tour) tt at.above at.parent)) _
      (visits-give (walk (counting_steps settings) (suc levels)) p cell _ is (λ below under on.
      gives-fits (Under (p - 1)) _ (in_turn-gives (walk (counting_steps settings) (suc levels)) (p - 1) (walk-gives levels (p - 1) (omega arith)) (children settings.dim settings.way cell) below under))) (λ v same. same)

pub children-fit : (settings : TourSettings) (levels : ℕ) (cell : Place) (at : Between Counting (Unit {0}) ℕ) → 0 < levels → at.parent ≤ levels
    → Fits (walks_children (counting_steps settings) (walk (counting_steps settings) levels) cell at)
children-fit settings zero cell at some few = absurd (omega arith)
children-fit settings (suc levels) cell at some few =
    gives-fits (Under at.parent) _ (in_turn-gives settings (walk (counting_steps settings) (suc levels)) at.parent (walk-gives settings levels at.parent few) (children settings.dim settings.way cell) at refl)
