-- A scenario says no more traversals than one may ask for.
use Rattle.std.proofs.Common.{◌≡◌, ℕ, ◌≤◌, Bool, true, false, if◌then◌else◌, ◌&&◌, List, length, Option, Some, None, Result, Ok, Err, refl, subst, ℤ, pos, negsuc, arith}
use Rattle.std.specs.Prelude.{nat_le, nat_lt}
use Rattle.std.proofs.lemmas.Bool.{leb-true}
use Rattle.toml.specs.Data.{Data, Members, get_member, as_integer}
use Rattle.pe_base.specs.Acts.Events.{is_among}
use Rattle.pe_base.specs.Limits.{most_levels, scenario_bytes, scenario_traversals}
use Rattle.pe_scene.specs.declared.fault.SceneFault.{SceneFault}
use Rattle.pe_scene.specs.declared.fault.SceneFault.TheVariants.{TooLong}
use Rattle.pe_scene.specs.declared.section.Section.TheVariants.{Document}
use Rattle.pe_scene.specs.Sections.{unknown_in}
use Rattle.pe_scene.specs.Texts.{trace_in}
use Rattle.pe_scene.specs.Fields.{if_known, fields_in}
use Rattle.pe_scene.specs.BodyTable.{bodies_in}
use Rattle.pe_scene.specs.Faults.{on_ok}
use Rattle.pe_scene.specs.declared.number.Number.TheVariants.{Dim, Traversals, MaxLevel, StartLevel, MaxCells}
use Rattle.pe_scene.specs.Numbers.{key_of, range_of}
use Rattle.pe_scene.specs.Settings.{Settings, or_range, or_shape, number_of, number_in, settings_in}
use Rattle.pe_scene.specs.Said.{Said, known_in, document_of, of_document, scenario_of}

-- what was read first, where all was read
record Read {X Y : Type 0} (first : Result X SceneFault) (next : X → Result Y SceneFault) (y : Y) : Type 0 where
  x : X
  first_is : first ≡ Ok x
  next_is : next x ≡ Ok y

read_first : {X Y : Type 0} (first : Result X SceneFault) (next : X → Result Y SceneFault) (y : Y) → on_ok first next ≡ Ok y → Read first next y
read_first (Ok x) next y is = record { x = x; first_is = refl; next_is = is }
read_first (Err fault) next y is = absurd (let wrong : Err fault ≡ Ok y = is in cc)

abbrev Few : Result ℕ SceneFault → Type 0
Few number = (n : ℕ) → number ≡ Ok n → n ≤ scenario_traversals

-- a number within the range
few-range : (n : ℕ) (low high : Bool) → (high ≡ true → n ≤ scenario_traversals) → Few (or_range (key_of Traversals) (if low && high then Some n else None))
few-range n true true small m is = let same : n ≡ m = cc in omega (arith, small refl)
few-range n true false small m is = cc
few-range n false high small m is = cc

few-shape : (z : Option ℤ) → Few (or_shape (key_of Traversals) (range_of most_levels Traversals) z)
few-shape None = λ n is. cc
few-shape (Some (pos n)) = few-range n (nat_le 1 n) (nat_le n scenario_traversals) (leb-true n scenario_traversals)
few-shape (Some (negsuc n)) = λ m is. cc

few-number : (value : Option Data) → Few (number_of (key_of Traversals) (range_of most_levels Traversals) value)
few-number None = λ n is. cc
few-number (Some value) = few-shape (as_integer value)

-- what was read is one thing
same_read : {X : Type 0} (x y : X) → ◌≡◌ {A = Result X SceneFault} (Ok x) (Ok y) → x ≡ y
same_read x y is = cc

-- the numbers of a document
few-settings : (members : Members) (settings : Settings) → settings_in members ≡ Ok settings → settings.traversals ≤ scenario_traversals
few-settings members settings is =
    let dim = read_first (number_in most_levels Dim members) _ settings is in
    let number = read_first (number_in most_levels Traversals members) _ settings dim.next_is in
    let most = read_first (number_in most_levels MaxLevel members) _ settings number.next_is in
    let start = read_first (number_in most.x StartLevel members) _ settings most.next_is in
    let limit = read_first (number_in most.x MaxCells members) _ settings start.next_is in
    let read : Settings = record { dim = dim.x; traversals = number.x; max_level = most.x; start_level = start.x; max_cells = limit.x } in
    subst (λ s. s.traversals ≤ scenario_traversals) (same_read read settings limit.next_is) (few-number (get_member (key_of Traversals) members) number.x number.first_is)

-- a document
few-known : (members : Members) (said : Said) → known_in members ≡ Ok said → said.settings.traversals ≤ scenario_traversals
few-known members said is =
    let settings = read_first (settings_in members) _ said is in
    let trace = read_first (trace_in members) _ said settings.next_is in
    let names = read_first (fields_in members) _ said trace.next_is in
    let bodies = read_first (bodies_in settings.x.dim names.x members) _ said names.next_is in
    let read : Said = record { settings = settings.x; traced = is_among trace.x; names = names.x; bodies = bodies.x } in
    subst (λ s. s.settings.traversals ≤ scenario_traversals) (same_read read said bodies.next_is) (few-settings members settings.x settings.first_is)

few-if_known : (read : Result Said SceneFault) (unknown : Option (List ℕ)) (said : Said) → (read ≡ Ok said → said.settings.traversals ≤ scenario_traversals) → if_known Document read unknown ≡ Ok said → said.settings.traversals ≤ scenario_traversals
few-if_known read None said few is = few is
few-if_known read (Some key) said few is = cc

few-document : (document : Option Members) (said : Said) → of_document document ≡ Ok said → said.settings.traversals ≤ scenario_traversals
few-document None said is = cc
few-document (Some members) said is = few-if_known (known_in members) (unknown_in Document members) said (few-known members said) is

-- the bytes of a scenario
few-limited : (bytes : List ℕ) (longer : Bool) (said : Said) → (if longer then Err TooLong else of_document (document_of bytes)) ≡ Ok said → said.settings.traversals ≤ scenario_traversals
few-limited bytes true said is = cc
few-limited bytes false said is = few-document (document_of bytes) said is

pub few_traversals : (bytes : List ℕ) (said : Said) → scenario_of bytes ≡ Ok said → said.settings.traversals ≤ scenario_traversals
unfolding scenario_of
few_traversals bytes said is = few-limited bytes (nat_lt scenario_bytes (length bytes)) said is
