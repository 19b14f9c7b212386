-- Calls that do what is left for the machine to do, one after another.
use Rattle.std.proofs.Common.{◌≡◌, ℕ, ◌+◌, Result, Ok, Err, refl, sym, subst, ◌∙◌, arith}
use Rattle.std.specs.Prelude.{OnOk, false}
use Rattle.pe_base.specs.Acts.Effects.{Rules}
use Rattle.pe_base.specs.Walk.Course.{Course, at_once, and_then}
use Rattle.pe_base.specs.Walk.Core.{Setting}
use Rattle.pe_stacks.specs.Corners.{IsFull}
use Rattle.pe_mapping.specs.Held.{Keeps}
use Rattle.pe_stacks.specs.Sights.{Numbers}
use Rattle.pe_base.specs.Calls.Follows.{Failure, BeforeCall, Follows, Leads, Fits, IsRoomier, read_by}
use Rattle.pe_stacks.specs.RecordsOut.{RecordsOut}
use Rattle.pe_hang.proofs.Staying.{keeps-same, stays-beside, stays-then, setting-kept}
use Rattle.pe_base.proofs.Calls.Leading.{and_then-fits, leads_start, leads_next, leads_err, leads_last, leads_end, leads_rest}
use Rattle.pe_adapt.specs.declared.stop.Inner.{Inner}
use Rattle.pe_adapt.specs.declared.settings.Settings.{Settings}
use Rattle.pe_adapt.specs.CountedTouches.{Machine}
use Rattle.pe_adapt.specs.WalkedCells.{setting_in, failure_in}
use Rattle.pe_adapt.specs.TouchCalls.{Hand, machine_of, found_in, MayGo, GoesAlong}
use Rattle.pe_walk.specs.Corners.{GoesOn, LeadsOn}

-- of a result
pub on-ok : {A E : Type 0} {P Q : Type 0} (result : Result A E) → OnOk result P → (P → Q) → OnOk result Q
on-ok (Ok a) p next = next p
on-ok (Err e) p next = tt

pub on-always : {A E : Type 0} {P : Type 0} (result : Result A E) → P → OnOk result P
on-always (Ok a) p = p
on-always (Err e) p = tt

-- # Courses
-- a step, and then the rest
step-leads : {A Y : Type 0} (first : Course A) (next : A → Course Y) (a : A) (answer : Result (Unit {0}) Failure) (old now : BeforeCall)
    → Follows first (λ (done : Unit {0}). a) answer old now.told → IsRoomier old now → LeadsOn (and_then first next) (next a) answer old now
step-leads first next a (Ok done) old now is room = leads_next first next (λ (done : Unit {0}). a) done now (leads_start (and_then first next) old) is room
step-leads first next a (Err failure) old now is room =
    λ after. leads_err first next (λ (done : Unit {0}). a) after failure now.told (leads_start (and_then first next) old) is

module _ {X : Type 0} where
  -- a part, and then another part
  leads-then : (whole rest last : Course X) (answer : Result (Unit {0}) Failure) (old mid now : BeforeCall) → Leads whole old mid rest → LeadsOn rest last answer mid now → LeadsOn whole last answer old now
  leads-then whole rest last (Ok done) old mid now first second =
      let part : Course (Unit {0}) = record { text = second.text; log = second.log; ending = (at_once done).ending } in
      leads_next part (λ (done : Unit {0}). last) (λ (done : Unit {0}). done) done now (subst (λ course. Leads whole old mid course) second.splits first)
      (record { ends = refl; told = second.told }) second.room
  leads-then whole rest last (Err failure) old mid now first second = λ after. leads_last rest after (Err failure) now.told first (second after)

  -- the same, written otherwise
  leads-same : (whole whole' rest rest' : Course X) (result : Result (Unit {0}) Inner) (means : Inner → Failure) (old now : BeforeCall) → whole ≡ whole' → OnOk result (rest ≡ rest')
      → LeadsOn whole rest (read_by means result) old now → LeadsOn whole' rest' (read_by means result) old now
  leads-same whole whole' rest rest' (Ok done) means old now same after is = subst (λ course. Leads course old now rest') same (subst (λ course. Leads whole old now course) after is)
  leads-same whole whole' rest rest' (Err halt) means old now same after is =
      λ to. subst (λ course. Follows course to (Err (means halt)) old now.told) same (is to)

  -- all is done
  leads-all : (whole rest : Course X) (x : X) (result : Result (Unit {0}) Inner) (means : Inner → Failure) (old now : BeforeCall) → OnOk result (rest ≡ at_once x)
      → LeadsOn whole rest (read_by means result) old now → Follows whole (λ (done : Unit {0}). x) (read_by means result) old now.told
  leads-all whole rest x (Ok done) means old now end is = leads_end (λ (done : Unit {0}). x) done (subst (λ course. Leads whole old now course) end is)
  leads-all whole rest x (Err halt) means old now end is = is (λ (done : Unit {0}). x)

-- # Calls
-- the setting stays, and no room is lost
module _ {Plan V C : Type 0} (old new : Hand Plan V C) (keeps : Keeps old.held new.held) where
  pub setting-same : (rules : Rules Plan) (settings : Settings) → setting_in rules new.held settings ≡ setting_in rules old.held settings
  setting-same rules settings = setting-kept rules old.held new.held settings.setup.start_level settings.setup.max_cells settings.traversal keeps

  roomier : (had has : ℕ) → RecordsOut had has old.vertices old.room new.vertices new.room false → (room : ℕ → ℕ) → IsRoomier (found_in old room) (found_in new room)
  roomier had has left room = record { sure = keeps.sure; vertices = left.keeps; cells = λ s. omega arith }

-- the first step of what is left may be done
pub may-first : {Plan V C A Y : Type 0} (rules : Rules Plan) (numbers : Numbers V C) (settings : Settings) (first : Setting Plan → Machine → Course A) (next : Setting Plan → A → Course Y) (old : Hand Plan V C)
    → MayGo rules numbers settings (λ set machine. and_then (first set machine) (next set)) old → MayGo rules numbers settings first old
may-first rules numbers settings first next old may cells =
    let set = setting_in rules old.held settings in
    and_then-fits (first set (machine_of numbers cells old)) (next set) (may cells)

module _ {Plan V C : Type 0} {rules : Rules Plan} {numbers : Numbers V C} {settings : Settings} where
  -- it is some of what is left
  pub first-goes : {A Y : Type 0} (first : Setting Plan → Machine → Course A) (next : Setting Plan → A → Course Y) (reached : Machine → A) {had has : ℕ} {result : Result (Unit {0}) Inner} {old new : Hand Plan V C}
      → GoesAlong rules numbers settings first reached had has result old new
      → GoesOn rules numbers settings (λ set machine. and_then (first set machine) (next set)) (λ set machine. next set (reached machine)) had has result old new
  first-goes first next reached {had} {has} {result} {old} {new} goes = record {
    leads = λ cells room.
        let set = setting_in rules old.held settings in
        step-leads (first set (machine_of numbers cells old)) (next set) (reached (machine_of numbers cells new)) (read_by (failure_in new.progress) result) (found_in old room) (found_in new room)
        (goes.follows cells room) (roomier old new goes.stays.keeps had has goes.left room);
    left = goes.left;
    stays = goes.stays;
    counted = goes.counted;
  }

  module _ {X : Type 0} where
    -- nothing is done
    pub goes-nowhere : (whole : Setting Plan → Machine → Course X) (had : ℕ) (hand : Hand Plan V C) → IsFull hand.held.dim hand.parents → GoesOn rules numbers settings whole whole had had (Ok tt) hand hand
    goes-nowhere whole had hand full = record {
      leads = λ cells room. leads_start (whole (setting_in rules hand.held settings) (machine_of numbers cells hand)) (found_in hand room);
      left = record { count = refl; keeps = λ s. omega arith; out = refl };
      stays = stays-beside (keeps-same hand.held) full;
      counted = refl;
    }

    module _ {whole rest : Setting Plan → Machine → Course X} {had has : ℕ} {old mid : Hand Plan V C} where
      -- what is left then may be done
      pub may-next : MayGo rules numbers settings whole old → GoesOn rules numbers settings whole rest had has (Ok tt) old mid → MayGo rules numbers settings rest mid
      may-next may goes cells =
          let machine = machine_of numbers cells mid in
          subst (λ set. Fits (rest set machine)) (sym (setting-same old mid goes.stays.keeps rules settings))
          (leads_rest (rest (setting_in rules old.held settings) machine) (goes.leads cells (λ s. 0)) (may cells))

      -- some of it, and then more
      pub goes-then : {last : Setting Plan → Machine → Course X} {has' : ℕ} {result : Result (Unit {0}) Inner} {new : Hand Plan V C}
          → GoesOn rules numbers settings whole rest had has (Ok tt) old mid → GoesOn rules numbers settings rest last has has' result mid new → GoesOn rules numbers settings whole last had has' result old new
      goes-then {last} {has'} {result} {new} first second = record {
        leads = λ cells room.
            let set = setting_in rules old.held settings in
            let answer = read_by (failure_in new.progress) result in
            let before = machine_of numbers cells old in
            let between = machine_of numbers cells mid in
            let behind = machine_of numbers cells new in
            leads-then (whole set before) (rest set between) (last set behind) answer (found_in old room) (found_in mid room) (found_in new room) (first.leads cells room)
            (subst (λ s. LeadsOn (rest s between) (last s behind) answer (found_in mid room) (found_in new room)) (setting-same old mid first.stays.keeps rules settings) (second.leads cells room));
        left = record {
          count = second.left.count ∙ first.left.count;
          keeps = λ s. omega (arith, first.left.keeps s, second.left.keeps s);
          out = omega (arith, first.left.out, second.left.out);
        };
        stays = stays-then first.stays second.stays;
        counted = second.counted ∙ first.counted;
      }

    module _ {whole rest : Setting Plan → Machine → Course X} {had has : ℕ} {result : Result (Unit {0}) Inner} {old new : Hand Plan V C} where
      -- the same, written otherwise
      pub goes-same : (whole' rest' : Setting Plan → Machine → Course X) (had' has' : ℕ) → GoesOn rules numbers settings whole rest had has result old new
          → ((machine : Machine) → whole (setting_in rules old.held settings) machine ≡ whole' (setting_in rules old.held settings) machine)
          → OnOk result ((machine : Machine) → rest (setting_in rules old.held settings) machine ≡ rest' (setting_in rules old.held settings) machine)
          → had' + has ≡ had + has'
          → GoesOn rules numbers settings whole' rest' had' has' result old new
      goes-same whole' rest' had' has' goes same after filled = record {
        leads = λ cells room.
            let set = setting_in rules old.held settings in
            let behind = machine_of numbers cells new in
            leads-same (whole set (machine_of numbers cells old)) (whole' set (machine_of numbers cells old)) (rest set behind) (rest' set behind) result (failure_in new.progress) (found_in old room) (found_in new room)
            (same (machine_of numbers cells old)) (on-ok result after (λ each. each behind)) (goes.leads cells room);
        left = record { count = goes.left.count; keeps = goes.left.keeps; out = omega (arith, goes.left.out, filled) };
        stays = goes.stays;
        counted = goes.counted;
      }

      -- nothing is left
      pub goes-all : (course : Setting Plan → Machine → Course X) (after : Machine → X) (had' has' : ℕ) → GoesOn rules numbers settings whole rest had has result old new
          → ((machine : Machine) → whole (setting_in rules old.held settings) machine ≡ course (setting_in rules old.held settings) machine)
          → OnOk result ((machine : Machine) → rest (setting_in rules old.held settings) machine ≡ at_once (after machine))
          → had' + has ≡ had + has'
          → GoesAlong rules numbers settings course after had' has' result old new
      goes-all course after had' has' goes same end filled = record {
        follows = λ cells room.
            let set = setting_in rules old.held settings in
            let before = machine_of numbers cells old in
            let behind = machine_of numbers cells new in
            subst (λ c. Follows c (λ (done : Unit {0}). after behind) (read_by (failure_in new.progress) result) (found_in old room) new.held.told) (same before)
            (leads-all (whole set before) (rest set behind) (after behind) result (failure_in new.progress) (found_in old room) (found_in new room) (on-ok result end (λ each. each behind)) (goes.leads cells room));
        left = record { count = goes.left.count; keeps = goes.left.keeps; out = omega (arith, goes.left.out, filled) };
        stays = goes.stays;
        counted = goes.counted;
      }
