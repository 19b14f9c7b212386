-- Calls of a walk that go along with the machine, one after another.
use Rattle.std.proofs.Common.{◌≡◌, Result, Ok, Err, sym, subst, ◌∙◌, arith}
use Rattle.pe_base.specs.Acts.Effects.{Rules}
use Rattle.pe_base.specs.Walk.Course.{Course, and_then}
use Rattle.pe_base.specs.Walk.Core.{Setting}
use Rattle.pe_stacks.specs.Holdings.{KeepsRoom}
use Rattle.pe_mapping.specs.Held.{Keeps}
use Rattle.pe_stacks.specs.Sights.{Numbers}
use Rattle.pe_base.specs.Calls.Follows.{Failure, Follows, Fits, IsRoomier}
use Rattle.pe_base.proofs.Calls.Leading.{follows-then, leads_start, leads_rest, leads_next, leads_err}
use Rattle.pe_hang.proofs.Staying.{setting-kept, stays-then}
use Rattle.pe_adapt.specs.declared.stop.Inner.{Inner}
use Rattle.pe_adapt.specs.declared.settings.Settings.{Settings}
use Rattle.pe_adapt.specs.WalkedCells.{setting_in}
use Rattle.pe_walk.specs.Visits.{Hands, found_in, WalkLeft}

-- two courses, one after the other
module _ {Plan X Y : Type 0} (first : Setting Plan → Course X) (next : Setting Plan → X → Course Y) where
  abbrev pub both : Setting Plan → Course Y
  both set = and_then (first set) (next set)

module _ {Plan V C : Type 0} (rules : Rules Plan) (settings : Settings) where
  abbrev pub set_in : Hands Plan V C → Setting Plan
  set_in h = setting_in rules h.held settings

  -- no room is lost, and the mapping is the same
  pub record Goes (old new : Hands Plan V C) : Type 0 where
    pub keeps : Keeps old.held new.held
    pub vertices : KeepsRoom old.vertices old.room new.vertices new.room
    pub cells : KeepsRoom old.cells old.cell_room new.cells new.cell_room

  pub goes-roomier : (old new : Hands Plan V C) → Goes old new → IsRoomier (found_in old) (found_in new)
  goes-roomier old new goes = record { sure = goes.keeps.sure; vertices = goes.vertices; cells = goes.cells }

  pub goes-set : (old new : Hands Plan V C) → Goes old new → set_in new ≡ set_in old
  goes-set old new goes = setting-kept rules old.held new.held settings.setup.start_level settings.setup.max_cells settings.traversal goes.keeps

  -- a call does what a course does
  abbrev pub HasRun : {X A : Type 0} → (Setting Plan → Course X) → (A → X) → Result A Failure → Hands Plan V C → Hands Plan V C → Type 0
  HasRun course after answer old new = Follows (course (set_in old)) after answer (found_in old) new.held.told

  module _ {X Y : Type 0} (first : Setting Plan → Course X) (next : Setting Plan → X → Course Y) where
    -- after a call that came through, the next one does not get stuck
    pub runs-may : {A : Type 0} (after : A → X) (a : A) (old mid : Hands Plan V C) → Fits (both first next (set_in old)) → HasRun first after (Ok a) old mid → Goes old mid → Fits (next (set_in mid) (after a))
    runs-may after a old mid fits is goes =
        subst (λ s. Fits (next s (after a))) (sym (goes-set old mid goes))
        (leads_rest (next (set_in old) (after a))
        (leads_next (first (set_in old)) (next (set_in old)) after a (found_in mid) (leads_start (both first next (set_in old)) (found_in old)) is (goes-roomier old mid goes)) fits)

    -- and what it does is what both do
    pub runs-then : {A B : Type 0} (after : A → X) (a : A) (after' : B → Y) (answer : Result B Failure) (old mid new : Hands Plan V C)
        → HasRun first after (Ok a) old mid → Goes old mid → HasRun (λ set. next set (after a)) after' answer mid new → HasRun (both first next) after' answer old new
    runs-then after a after' answer old mid new is goes then =
        follows-then (first (set_in old)) (next (set_in old)) after a after' answer (found_in old) (found_in mid) new.held.told is (goes-roomier old mid goes)
        (subst (λ s. Follows (next s (after a)) after' answer (found_in mid) new.held.told) (goes-set old mid goes) then)

    -- a call that fails is a failure of both
    pub runs-err : {A B : Type 0} (after : A → X) (after' : B → Y) (failure : Failure) (old new : Hands Plan V C)
        → HasRun first after (Err failure) old new → HasRun (both first next) after' (Err failure) old new
    runs-err after after' failure old new is =
        leads_err (first (set_in old)) (next (set_in old)) after after' failure new.held.told (leads_start (both first next (set_in old)) (found_in old)) is

  -- one course in place of another
  pub runs-as : {X A : Type 0} (course course' : Setting Plan → Course X) (after : A → X) (answer : Result A Failure) (old new : Hands Plan V C)
      → course (set_in old) ≡ course' (set_in old) → HasRun course after answer old new → HasRun course' after answer old new
  runs-as course course' after answer old new same is = subst (λ course. Follows course after answer (found_in old) new.held.told) same is

-- some cells are walked, and then others
pub left-then : {Plan V C : Type 0} {numbers : Numbers V C} {settings : Settings} {result : Result (Unit {0}) Inner} {old mid new : Hands Plan V C}
    → WalkLeft numbers settings 0 (Ok tt) old mid → WalkLeft numbers settings 0 result mid new → WalkLeft numbers settings 0 result old new
left-then first second = record {
  vertices = record { count = second.vertices.count ∙ first.vertices.count; keeps = λ n. omega (arith, first.vertices.keeps n, second.vertices.keeps n); out = omega (arith, first.vertices.out, second.vertices.out) };
  cells = record { count = second.cells.count ∙ first.cells.count; keeps = λ n. omega (arith, first.cells.keeps n, second.cells.keeps n); out = omega (arith, first.cells.out, second.cells.out) };
  counts = record { made = omega (arith, first.counts.made, second.counts.made); few = second.counts.few };
  stays = stays-then first.stays second.stays;
}
