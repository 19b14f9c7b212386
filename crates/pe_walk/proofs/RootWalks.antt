-- The walk of the root's children, and a whole traversal, part by part.
use Rattle.std.proofs.Common.{◌≡◌, ℕ, ℤ, ◌^◌, List, [], length, Result, Ok, Err, sym, ap, subst, ◌∙◌}
use Rattle.pe_base.specs.declared.event.Event.{Event}
use Rattle.pe_base.specs.declared.event.Event.TheVariants.{BeginIteration, EndIteration}
use Rattle.pe_base.specs.Tree.Places.{root}
use Rattle.pe_base.specs.Acts.Effects.{Rules, VertexRecord}
use Rattle.pe_base.specs.Walk.Course.{Course, behind, and_then}
use Rattle.pe_base.specs.Walk.Core.{Setting, plain_event}
use Rattle.pe_mapping.specs.Held.{Held}
use Rattle.pe_base.specs.Calls.Told.{Told}
use Rattle.pe_stacks.specs.Sights.{Numbers, record_of, corner_records}
use Rattle.pe_hang.specs.InHand.{vertices_on_stacks}
use Rattle.pe_base.specs.Calls.Follows.{BeforeCall, Failure, Follows, Fits}
use Rattle.pe_base.proofs.Calls.Leading.{follows-map}
use Rattle.pe_adapt.specs.declared.settings.Settings.{Settings}
use Rattle.pe_walk.specs.GivenUp.{given_up_times}
use Rattle.pe_adapt.specs.WalkedCells.{stream_stacks_of}
use Rattle.pe_adapt.specs.CountedTouches.{Machine, StreamStacks}
use Rattle.pe_walk.specs.Machine.{with_parents, root_corners, plain, give_up_all}
use Rattle.pe_walk.specs.Visits.{walk_children, walk_root, Hands, machine_of, found_in}
use Rattle.pe_walk.proofs.Simulation.Matching.{then-grouped}
use Rattle.pe_walk.proofs.GivingUp.{gives-follow}
use Rattle.pe_walk.proofs.Walking.{set_in, Goes, HasRun, runs-may, runs-then, runs-err}
use Rattle.pe_walk.proofs.CellWalks.{from-alike}

-- the mapping's list after an event
abbrev pub with_list : Machine → List ℤ → Machine
with_list m list = record m { family = record m.family { list = list } }

module _ {Plan : Type 0} (streams : StreamStacks) (greatest : ℕ) where
  abbrev pub beginning : Machine → Setting Plan → Course Machine
  beginning m set = plain set streams BeginIteration m

  abbrev pub walking : Machine → Setting Plan → Course Machine
  walking m set = walk_children set streams greatest root m

  abbrev pub finishing : Setting Plan → Machine → Course Machine
  finishing set m = plain set streams EndIteration m

  abbrev pub after_begin : Setting Plan → Machine → Course Machine
  after_begin set m = and_then (walk_children set streams greatest root m) (plain set streams EndIteration)

  -- an event of the traversal as a whole
  pub plain-follows : (set : Setting Plan) (event : Event) (m : Machine) (list : List ℤ) (answer : Result (Unit {0}) Failure) (old : BeforeCall) (new : Told)
      → Follows (plain_event set event m.family.list) (λ (u : Unit {0}). list) answer old new → Follows (plain set streams event m) (λ (u : Unit {0}). with_list m list) answer old new
  plain-follows set event m list answer old new is = follows-map (with_list m) (plain_event set event m.family.list) (λ (u : Unit {0}). list) answer old new is

  abbrev pub making : Machine → Setting Plan → Course (List VertexRecord × Machine)
  making m set = root_corners set streams (2 ^ set.axes) [] m

  abbrev pub rooting : Machine → Setting Plan → Course Machine
  rooting m set = walk_root set streams greatest m

  abbrev pub giving : Setting Plan → Machine → Course Machine
  giving set m = give_up_all set streams m.family.parents (with_parents [] m)

  abbrev pub after_make : Setting Plan → List VertexRecord × Machine → Course Machine
  after_make set it =
      and_then (plain set streams BeginIteration (with_parents it.0 it.1)) (λ m.
      and_then (walk_children set streams greatest root m) (λ m.
      and_then (plain set streams EndIteration m) (giving set)))

  -- the walk of the root's children, and then its corners are given up
  pub root-grouped : (set : Setting Plan) (it : List VertexRecord × Machine) → and_then (rooting (with_parents it.0 it.1) set) (giving set) ≡ after_make set it
  root-grouped set it =
      let first = plain set streams BeginIteration (with_parents it.0 it.1) in
      then-grouped first (after_begin set) (giving set)
      ∙ ap (λ rest. behind first.text first.log rest)
      (from-alike first.ending (λ m. and_then (after_begin set m) (giving set)) (λ m. and_then (walk_children set streams greatest root m) (λ m. and_then (plain set streams EndIteration m) (giving set)))
      (λ m. then-grouped (walk_children set streams greatest root m) (finishing set) (giving set)))

-- the root's children are walked, and then its corners are given up, whatever the answer
module _ {Plan V C : Type 0} (rules : Rules Plan) (numbers : Numbers V C) (settings : Settings) (mid walked new : Hands Plan V C) where
  abbrev streams : StreamStacks
  streams = stream_stacks_of settings

  abbrev bare : Machine
  bare = with_parents [] (machine_of numbers walked)

  abbrev goes_on : Setting Plan → Course Machine
  goes_on set = and_then (rooting streams settings.setup.max_level (machine_of numbers mid) set) (giving streams settings.setup.max_level set)

  abbrev given : Unit {0} → Machine
  given u = record bare { vertices = vertices_on_stacks numbers new.vertices }

  pub root-gives : (answer : Result (Unit {0}) Failure) → HasRun rules settings (rooting streams settings.setup.max_level (machine_of numbers mid)) (λ (u : Unit {0}). machine_of numbers walked) answer mid walked
      → Goes rules settings mid walked → Fits (goes_on (set_in rules settings mid)) → new.held ≡ walked.held
      → (n : ℕ) → n ≡ length (corner_records numbers.vertex walked.parents) → new.vertices ≡ given_up_times n walked.vertices
      → HasRun rules settings goes_on given answer mid new
  root-gives (Ok u) is goes fits same n count after =
      let greatest = settings.setup.max_level in
      let roots = rooting streams greatest (machine_of numbers mid) in
      let to_walk = λ (u : Unit {0}). machine_of numbers walked in
      let set = set_in rules settings walked in
      let found = found_in walked in
      let still = record walked { vertices = new.vertices } in
      let gives = gives-follow (record_of numbers.vertex) set streams bare (corner_records numbers.vertex walked.parents) n walked.vertices new.vertices found
      (runs-may rules settings roots (giving streams greatest) to_walk tt mid walked fits is goes) count after in
      subst (λ (held : Held Plan). Follows (goes_on (set_in rules settings mid)) given (Ok tt) (found_in mid) held.told) (sym same)
      (runs-then rules settings roots (giving streams greatest) to_walk tt given (Ok tt) mid walked still is goes gives)
  root-gives (Err failure) is goes fits same n count after =
      let greatest = settings.setup.max_level in
      let roots = rooting streams greatest (machine_of numbers mid) in
      let to_walk = λ (u : Unit {0}). machine_of numbers walked in
      subst (λ (held : Held Plan). Follows (goes_on (set_in rules settings mid)) given (Err failure) (found_in mid) held.told) (sym same)
      (runs-err rules settings roots (giving streams greatest) to_walk given failure mid walked is)
