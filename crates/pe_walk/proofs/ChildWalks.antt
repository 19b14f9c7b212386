-- The walks of the children of a cell, one after another.
use Rattle.std.proofs.Common.{◌≡◌, ℕ, suc, ◌-◌, ◌<◌, List, [], ◌∷◌, map, Ok, Err, ap, subst, ◌∙◌, arith}
use Rattle.pe_base.specs.declared.place.Place.{Place}
use Rattle.pe_base.specs.declared.place.Digits.{Digits}
use Rattle.pe_base.specs.declared.way.Way.{Way}
use Rattle.pe_base.specs.Tree.Places.{child_at}
use Rattle.pe_base.specs.Tree.Curve.{flips, child_digits, children}
use Rattle.pe_base.specs.Walk.Course.{Course, each}
use Rattle.pe_base.specs.Walk.Core.{Setting}
use Rattle.pe_base.specs.Calls.Follows.{BeforeCall, Failure, Follows, Fits, Leads, IsRoomier}
use Rattle.pe_base.proofs.Calls.Leading.{leads_fits, leads_next, leads_err, leads_end}
use Rattle.pe_adapt.specs.CountedTouches.{Machine, StreamStacks}
use Rattle.pe_walk.specs.Machine.{walk_cell}

-- the children by their digits
pub all-children : (axes : ℕ) (way way' : Way) (place : Place) → way' ≡ way → map (child_at place) (child_digits axes way' (flips axes place.pos)) ≡ children axes way place
all-children axes way way' place same = ap (λ w. map (child_at place) (child_digits axes w (flips axes place.pos))) same

module _ {Plan : Type 0} (streams : StreamStacks) where
  -- the walk of a child, as its caller speaks of it
  pub child-walk : (set set' : Setting Plan) (levels : ℕ) (cell cell' : Place) (m : Machine) → set' ≡ set → 0 < levels → cell' ≡ cell
      → walk_cell set' streams (suc (levels - 1)) cell' m ≡ walk_cell set streams levels cell m
  child-walk set set' levels cell cell' m same some is =
      let one : suc (levels - 1) ≡ levels = omega arith in
      ap (λ s. walk_cell s streams (suc (levels - 1)) cell' m) same ∙ ap (λ n. walk_cell set streams n cell' m) one ∙ ap (λ c. walk_cell set streams levels c m) is

  module _ (set : Setting Plan) (levels : ℕ) (place : Place) (whole : Course Machine) (before now : BeforeCall) (left : List Digits) (m : Machine) where
    abbrev walks : List Digits → Machine → Course Machine
    walks digits m = each (walk_cell set streams levels) (map (child_at place) digits) m

    module _ (digits : Digits) (rest : List Digits) (first : left ≡ digits ∷ rest) (lead : Leads whole before now (walks left m)) where
      led : Leads whole before now (walks (digits ∷ rest) m)
      led = subst (λ ds. Leads whole before now (walks ds m)) first lead

      pub child-may : Fits whole → Fits (walk_cell set streams levels (child_at place digits) m)
      child-may fits = leads_fits (walk_cell set streams levels (child_at place digits) m) (each (walk_cell set streams levels) (map (child_at place) rest)) led fits

      pub child-next : (new : BeforeCall) (m' : Machine) → Follows (walk_cell set streams levels (child_at place digits) m) (λ (u : Unit {0}). m') (Ok tt) now new.told → IsRoomier now new
          → Leads whole before new (walks rest m')
      child-next new m' is room =
          leads_next (walk_cell set streams levels (child_at place digits) m) (each (walk_cell set streams levels) (map (child_at place) rest)) (λ (u : Unit {0}). m') tt new led is room

      pub child-err : (after after' : Unit {0} → Machine) (failure : Failure) (new : BeforeCall) → Follows (walk_cell set streams levels (child_at place digits) m) after (Err failure) now new.told
          → Follows whole after' (Err failure) before new.told
      child-err after after' failure new is =
          leads_err (walk_cell set streams levels (child_at place digits) m) (each (walk_cell set streams levels) (map (child_at place) rest)) after after' failure new.told led is

    pub children-end : left ≡ [] → Leads whole before now (walks left m) → Follows whole (λ (u : Unit {0}). m) (Ok tt) before now.told
    children-end none lead = leads_end (λ (u : Unit {0}). m) tt (subst (λ ds. Leads whole before now (walks ds m)) none lead)
