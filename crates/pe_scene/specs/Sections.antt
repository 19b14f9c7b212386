-- The tables of a scenario, and the keys that may stand in each.
use Rattle.std.specs.Prelude.{ℕ, Bool, not, ◌||◌, List, [], ◌∷◌, ◌++◌, codes, filter, Option, Some, None, is_some, if◌then◌else◌}
use Rattle.std.specs.List.{list_any}
use Rattle.std.specs.Str.{bytes_eq}
use Rattle.std.specs.Ordering.{nat_cmp, is_lt}
use Rattle.std.specs.Cmp.Lexicographic.{slice_cmp}
use Rattle.toml.specs.Data.{Members, no_members, member}
use Rattle.pe_base.specs.Acts.Events.{event_named}
use Rattle.pe_scene.specs.Numbers.{is_number}
use Rattle.pe_scene.specs.declared.section.Section.{Section}
use Rattle.pe_scene.specs.declared.section.Section.TheVariants.{Document, Fields, Events}

-- the text is one of these
abbrev pub is_one_of : List (List ℕ) → List ℕ → Bool
is_one_of texts text = list_any (λ other. bytes_eq text other) texts

-- the keys of a document that are not those of numbers
abbrev pub other_keys : List (List ℕ)
other_keys = codes "trace" ∷ codes "fields" ∷ codes "events" ∷ []

abbrev pub field_keys : List (List ℕ)
field_keys = codes "vertex" ∷ codes "cell" ∷ codes "global" ∷ []

-- the key may stand in the table; the keys of `events` are the names of events
abbrev pub lists : Section → List ℕ → Bool
lists Document key = is_number key || is_one_of other_keys key
lists Fields key = is_one_of field_keys key
lists Events key = is_some (event_named key)

-- a key as a fault names it: with its table
abbrev pub named : Section → List ℕ → List ℕ
named Document key = key
named Fields key = codes "fields." ++ key
named Events key = codes "events." ++ key

-- the lesser of two keys by bytes, if there are two
abbrev pub lesser : List ℕ → Option (List ℕ) → List ℕ
lesser key None = key
lesser key (Some other) = if is_lt (slice_cmp nat_cmp other key) then other else key

-- the least of some keys by bytes
abbrev pub least_of : List (List ℕ) → Option (List ℕ)
least_of [] = None
least_of (key ∷ keys) = Some (lesser key (least_of keys))

abbrev pub keys_in : Members → List (List ℕ)
keys_in no_members = []
keys_in (member key value rest) = key ∷ keys_in rest

-- the least of some keys that may not stand in the table
abbrev pub unknown_of : Section → List (List ℕ) → Option (List ℕ)
unknown_of section keys = least_of (filter (λ key. not (lists section key)) keys)

abbrev pub unknown_in : Section → Members → Option (List ℕ)
unknown_in section members = unknown_of section (keys_in members)
